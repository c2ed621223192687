-- Document 02, P12. Order that makes no difference: "Two foremen enter their own work in either order."
use Rattle.std.specs.Prelude.{ℕ, ◌≡◌, List, [], ◌∷◌, ◌↔◌}
use Rattle.std.proofs.Math.Option.{none}
use Rattle.model.specs.declared.Mode.{Mode}
use Rattle.model.specs.Refusals.{number}
use Rattle.both_forms.specs.Orders.{Apart}
use Rattle.sheets.specs.Whole.{whole_movements}
use Rattle.sheets.specs.Decoded.{net_of, movements_of}
use Rattle.run.specs.declared.Ran.{Ran}
use Rattle.run.specs.Allowed.{RunAllows}
use Rattle.sentences.specs.Wrote.{ComplementWrote}

-- two movement sheets that are accepted, which list t then u, and u then t
pub record Turned (one other : List ℕ) (t u : Mode) : Type 0 where
  pub is_sheet : (whole_movements one ≡ none) × (whole_movements other ≡ none)
  pub one_lists : movements_of one ≡ t ∷ u ∷ []
  pub other_lists : movements_of other ≡ u ∷ t ∷ []

-- "one order is accepted whole exactly when the other is, and both end at one marking"
pub record EitherOrder (r r' : Ran) (left left' : List ℕ) : Type 0 where
  pub accepted : (number r.answer ≡ 0) ↔ (number r'.answer ≡ 0)
  pub marking : number r.answer ≡ 0 → left ≡ left'

-- runs over one net sheet, a complement's too, from one marking; both may be any bytes and counts: where one of them is refused, both orders are
abbrev pub TwoOrders : Type 0
TwoOrders = (net marking one other : List ℕ) (t u : Mode) → Turned one other t u → Apart (net_of net) t u
    → (r r' : Ran) (left left' : List ℕ) → RunAllows net one marking (r, left) → RunAllows net other marking (r', left') → EitherOrder r r' left left'

pub record P12 : Type 0 where
  -- "Prove that for two modes whose arcs share no pair, one order is accepted whole exactly when the other is, and both end at one marking. Say it for the net and for
  -- its complement"
  pub two_orders : TwoOrders
  -- "where sharing is judged on all pairs": those of the complement are more, and modes that are apart in the net are apart there
  pub in_complement : (net sheet : List ℕ) → ComplementWrote net sheet → (t u : Mode) → Apart (net_of net) t u → Apart (net_of sheet) t u
