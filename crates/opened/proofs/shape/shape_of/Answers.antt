-- The counts of an accepted sheet hold, and its arcs are counted by its version.
use mathlib.Core.Path.{sym, ◌∙◌}
use native.Mathlib.Omega.{arith}
use Rattle.heads.proofs.Heads.{fields-at-most}
use Rattle.sheets.proofs.nets.Valid.{headed, counts_hold}
use Rattle.sheets.proofs.Meaning.{rule-is}
use Rattle.opened.proofs.Shapes.{shape_is}
use Rattle.opened.proofs.shape.shape_of.Goals as goal

pub rule_of-rule-requires : goal.rule_of-rule-requires
rule_of-rule-requires c = let counts = counts_hold _ c.requires in omega (arith, headed _ c.requires, counts.there, counts.sized.some_place)

pub count_at-places-requires : goal.count_at-places-requires
count_at-places-requires c = omega (arith, c.fields_at-fields.ensures.0, counts_hold _ c.requires)

pub count_at-transitions-requires : goal.count_at-transitions-requires
count_at-transitions-requires c = omega (arith, c.fields_at-fields.ensures.0, counts_hold _ c.requires)

pub overflow_mul-at : goal.overflow_mul-at
overflow_mul-at c = omega (arith, c.pair_count-pairs.ensures, counts_hold _ c.requires)

pub overflow_add-at : goal.overflow_add-at
overflow_add-at c =
    let counts = counts_hold _ c.requires in
    let most = fields-at-most c.args.s.now in
    omega (arith, most, c.pairs_at-first_pair.ensures, c.pair_count-pairs.ensures, counts.pairs, counts.sized.places, counts.sized.transitions)

pub count_arcs-requires : goal.count_arcs-requires
count_arcs-requires c = record { s_value = c.requires; base_value = (rw (c.pairs_at-first_pair.ensures, c.pair_count-pairs.ensures), c.mode_count-modes.ensures) }

pub returns : goal.returns
returns c =
    let place = c.fields_at-fields.ensures.0 in
    let version = c.version_of-version.ensures in
    shape_is
    (record {
      version = version;
      rule = rw version at c.rule_of-rule.ensures ∙ sym (rule-is _);
      places = rw place at c.count_at-places.ensures.0;
      transitions = rw place at c.count_at-transitions.ensures.0;
      pairs = c.pair_count-pairs.ensures;
      modes = c.mode_count-modes.ensures;
      arcs = c.count_arcs.ensures;
      pairs_offset = c.pairs_at-first_pair.ensures;
      arcs_offset = rw (c.pairs_at-first_pair.ensures, c.pair_count-pairs.ensures);
    })

pub version_of-version-requires : goal.version_of-version-requires
version_of-version-requires c = omega (arith, headed _ c.requires)

pub fields_at-fields-requires : goal.fields_at-fields-requires
fields_at-fields-requires c = headed _ c.requires

pub pair_count-pairs-requires : goal.pair_count-pairs-requires
pair_count-pairs-requires c = counts_hold _ c.requires

pub mode_count-modes-requires : goal.mode_count-modes-requires
mode_count-modes-requires c = counts_hold _ c.requires

pub pairs_at-first_pair-requires : goal.pairs_at-first_pair-requires
pairs_at-first_pair-requires c = counts_hold _ c.requires
