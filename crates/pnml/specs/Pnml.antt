-- Document 02, P5: a net's text in PNML. "Each pair becomes a place, each mode a transition, with fixed identifiers and weights in decimal."
-- K and I are unbounded; places, colours, the version and the rule are not written.
use Rattle.std.specs.Prelude.{ℕ, zero, suc, ◌/◌, ◌%◌, ◌<◌, ◌≡◌, length}
use mathlib.Core.List.{List, [], ◌∷◌, ◌++◌, flat_map}
use Rattle.model.specs.Lists.{joined}
use Rattle.model.specs.Numbers.{∞}
use Rattle.model.specs.Nets.{NetArc, PNet, pairs, modes, K, count, arc_no}
use Rattle.model.specs.WellFormed.{WellFormed}
use Rattle.text.specs.Ascii.{ascii}
use Rattle.text.specs.Decimals.{digit, decimal}
use Rattle.sheets.specs.written.Written.{of_mode}
use Rattle.pnml.specs.Agrees.{FirstNone}

-- "The export's opening and closing text is fixed byte for byte"
unfoldable pub opening : List ℕ
opening =
    ascii "<?xml version=\"1.0\" encoding=\"UTF-8\"?>\n<pnml xmlns=\"http://www.pnml.org/version-2009/grammar/pnml\">\n"
    ++ ascii "  <net id=\"n\" type=\"http://www.pnml.org/version-2009/grammar/ptnet\">\n    <page id=\"g\">\n"

unfoldable pub closing : List ℕ
closing = ascii "    </page>\n  </net>\n</pnml>\n"

-- a pair's and a mode's number in an identifier: three digits
unfoldable pub three : ℕ → List ℕ
three n = digit (n / 100) ∷ digit (n / 10 % 10) ∷ digit (n % 10) ∷ []

-- a pair's place, with its count of the first marking
unfoldable pub place_text : ℕ → ℕ → List ℕ
place_text p n =
    ascii "      <place id=\"p" ++ (three p ++ (ascii "\"><initialMarking><text>" ++ (decimal n ++ ascii "</text></initialMarking></place>\n")))

unfoldable pub transition_text : ℕ → List ℕ
transition_text t = ascii "      <transition id=\"t" ++ (three t ++ ascii "\"/>\n")

unfoldable pub weight_text : ℕ → List ℕ
weight_text w = ascii "\"><inscription><text>" ++ (decimal w ++ ascii "</text></inscription></arc>\n")

-- Pre: an arc from the place to the transition
unfoldable pub pre_text : ℕ → ℕ → ℕ → List ℕ
pre_text t p w =
    ascii "      <arc id=\"i" ++ (three t ++ (ascii "-" ++ (three p ++ (ascii "\" source=\"p" ++ (three p ++ (ascii "\" target=\"t" ++ (three t ++ weight_text w)))))))

-- Post: one from the transition to the place
unfoldable pub post_text : ℕ → ℕ → ℕ → List ℕ
post_text t p w =
    ascii "      <arc id=\"o" ++ (three t ++ (ascii "-" ++ (three p ++ (ascii "\" source=\"t" ++ (three t ++ (ascii "\" target=\"p" ++ (three p ++ weight_text w)))))))

-- a weight is positive: where Pre or Post is 0 there is no such arc
abbrev pub positive : ℕ → (ℕ → List ℕ) → List ℕ
positive zero text = []
positive (suc n) text = text (suc n)

unfoldable pub arc_text : NetArc → List ℕ
arc_text a =
    positive a.entry.pre (pre_text a.mode.0 a.pair.0) ++ positive a.entry.post (post_text a.mode.0 a.pair.0)

unfoldable pub mode_text : List NetArc → ℕ → List ℕ
mode_text arcs t = transition_text t ++ flat_map arc_text (of_mode arcs t)

-- all places by pair number, then each transition by mode number, followed at once by its arcs
unfoldable pub body : (pairs : ℕ) → List ℕ → (modes : ℕ) → List NetArc → List ℕ
body pairs start modes arcs = joined pairs (λ p. place_text p (count start p)) ++ joined modes (mode_text arcs)

unfoldable pub pnml : PNet → List ℕ
pnml net = opening ++ (body (pairs net) net.start (modes net) net.arcs ++ closing)

-- "nets whose K and I are all unbounded": of those that a net sheet can hold
pub record Exportable (net : PNet) : Type 0 where
  pub well_formed : WellFormed net
  pub capacities : (p : ℕ) → p < pairs net → K net p ≡ ∞
  pub inhibitors : (k : ℕ) → k < length net.arcs → (arc_no net.arcs k).entry.inhibitor ≡ ∞

-- 20 at n: "the first byte (or the end) from which no export agrees with the text"; an export itself is not refused
abbrev pub ExportsUpTo : List ℕ → ℕ → Type 0
ExportsUpTo s n = FirstNone {I = (net : PNet) × Exportable net} (λ x. pnml x.0) s 0 n

pub record Refused20 (s : List ℕ) (n : ℕ) : Type 0 where
  pub first : ExportsUpTo s n
  pub no_export : (net : PNet) → Exportable net → ¬ (s ≡ pnml net)
