-- Order that makes no difference (document 02, P12), of two lists: two foremen's work, each mode of the one apart from each of the other, mixed in any two ways.
use Rattle.std.specs.Prelude.{◌≡◌, List, ℕ}
use Rattle.std.proofs.Math.Option.{none}
use Rattle.model.specs.declared.Mode.{Mode}
use Rattle.both_forms.specs.Orders.{Interleaved, AllApart}
use Rattle.sheets.specs.Whole.{whole_movements}
use Rattle.sheets.specs.Decoded.{net_of, movements_of}
use Rattle.run.specs.declared.Ran.{Ran}
use Rattle.run.specs.Allowed.{RunAllows}
use Rattle.sentences.specs.P12.{EitherOrder}

-- two sheets that are accepted, which list the work of two foremen, ts and us, each in its own order and the two mixed in any way
pub record Mixed (one other : List ℕ) (ts us : List Mode) : Type 0 where
  pub is_sheet : (whole_movements one ≡ none) × (whole_movements other ≡ none)
  pub one_lists : Interleaved ts us (movements_of one)
  pub other_lists : Interleaved ts us (movements_of other)

abbrev pub TwoLists : Type 0
TwoLists = (net marking one other : List ℕ) (ts us : List Mode) → Mixed one other ts us → AllApart (net_of net) ts us
    → (r r' : Ran) (left left' : List ℕ) → RunAllows net one marking (r, left) → RunAllows net other marking (r', left') → EitherOrder r r' left left'
