-- Order that makes no difference (document 02, P12), of the calls: the run call over one net sheet, from one lent marking, with two movement sheets that list
-- the same work in two orders.
use Rattle.std.specs.Prelude.{ℕ, ◌≡◌, List, [], ◌∷◌, ◌↔◌}
use Rattle.std.proofs.Math.Option.{none}
use Rattle.model.specs.declared.Mode.{Mode}
use Rattle.model.specs.Replies.{yields}
use Rattle.movement.specs.Runs.{Outcome}
use Rattle.both_forms.specs.Orders.{Apart, AllApart, Interleaved}
use Rattle.sheets.specs.Whole.{whole_movements}
use Rattle.sheets.specs.Decoded.{net_of, movements_of}
use Rattle.sheets.specs.Emitted.{told}
use Rattle.run.specs.Calls.{run_of}
use Rattle.complement.specs.Complemented.{complement_of}
use Rattle.promises.specs.DemandThree.{as_written}

module _ (net marking one other : List ℕ) where
  abbrev ran : List ℕ → Outcome
  ran movements = run_of net movements marking

  -- "one order is accepted whole exactly when the other is, and both end at one marking"
  pub record RunsEndAlike : Type 0 where
    pub accepted : ((ran one).refusal ≡ none) ↔ ((ran other).refusal ≡ none)
    pub end : (ran one).refusal ≡ none → (ran one).marking ≡ (ran other).marking

module _ (one other : List ℕ) where
  -- two sheets that are accepted, which list t then u, and u then t
  pub record Turned (t u : Mode) : Type 0 where
    pub is_sheet : (whole_movements one ≡ none) × (whole_movements other ≡ none)
    pub one_lists : movements_of one ≡ t ∷ u ∷ []
    pub other_lists : movements_of other ≡ u ∷ t ∷ []

  -- two sheets that are accepted, which list the work of two foremen, ts and us, each in its own order and the two mixed in any way
  pub record Mixed (ts us : List Mode) : Type 0 where
    pub is_sheet : (whole_movements one ≡ none) × (whole_movements other ≡ none)
    pub one_lists : Interleaved ts us (movements_of one)
    pub other_lists : Interleaved ts us (movements_of other)

-- Net and marking are any bytes and counts: where the call refuses one of them, it refuses both orders. A net sheet may be a complement's, as it was written.
pub record TwoOrders : Type 0 where
  pub two_modes : (net marking one other : List ℕ) (t u : Mode) → Turned one other t u → Apart (net_of net) t u
      → RunsEndAlike net marking one other
  pub two_lists : (net marking one other : List ℕ) (ts us : List Mode) → Mixed one other ts us → AllApart (net_of net) ts us
      → RunsEndAlike net marking one other
  -- "where sharing is judged on all pairs": those of the complement are more, and modes that are apart in the net are apart there
  pub in_complement : (net out : List ℕ) (n : ℕ) → told (complement_of net out) ≡ yields n
      → (t u : Mode) → Apart (net_of net) t u → Apart (net_of (as_written net out n)) t u
