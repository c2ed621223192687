-- A blank arc is left out; another is put as its half asks.
use Prim.Native.Nat.{◌+◌}
use mathlib.Core.Path.{sym, ◌∙◌, ap}
use Rattle.sheets.specs.Decoded.{net_of}
use Rattle.sheets.specs.written.Written.{arc_bytes}
use Rattle.sheets.proofs.written.Puts.{nothing, put_length, room_as, puts_as, arc-fits}
use Rattle.complement.specs.sections.Arcs.{half_arc}
use Rattle.complement.proofs.sections.Kept.{left_out, put_whole}
use Rattle.complement.proofs.sections.arcs.put_half_arc.Goals as goal

pub returns-then-is_blank : goal.returns-then-is_blank
returns-then-is_blank c = puts_as (left_out c.half_arc-found.ensures c.is_blank.ensures _ c.if-is_blank.true) nothing

pub put_original-requires : goal.put_original-requires
put_original-requires c = let whole = put_whole c.half_arc-found.ensures c.is_blank.ensures c.args.bounded.now.net.now.shape.version c.if-is_blank.false in record { own_arc = c.requires.own_arc; version_in_bounds = arc-fits c.args.bounded.now.net.now.shape.version _ (room_as (sym whole) c.requires.room) }

pub put_new-requires : goal.put_new-requires
put_new-requires c =
    let found = c.half_arc-found.ensures in
    let whole = put_whole found c.is_blank.ensures c.args.bounded.now.net.now.shape.version c.if-is_blank.false in
    let new = ap (λ half. half_arc (net_of c.args.bounded.now.net.now.sheet.now) half (c.args.arcs.start + c.args.i)) c.in-Complement.is in
    record {
      own_arc = c.requires.own_arc;
      value = found ∙ new;
      version_in_bounds = arc-fits c.args.bounded.now.net.now.shape.version _ (room_as (sym whole) c.requires.room);
    }

pub returns-in-Original : goal.returns-in-Original
returns-in-Original c =
    let whole = put_whole c.half_arc-found.ensures c.is_blank.ensures c.args.bounded.now.net.now.shape.version c.if-is_blank.false in
    let original = ap (λ half. arc_bytes c.args.bounded.now.net.now.shape.version (half_arc (net_of c.args.bounded.now.net.now.sheet.now) half (c.args.arcs.start + c.args.i))) c.in-Original.is in
    puts_as (sym original ∙ whole) (put_length c.put_original.ensures)

pub returns-in-Complement : goal.returns-in-Complement
returns-in-Complement c =
    let found = c.half_arc-found.ensures in
    puts_as (ap (arc_bytes c.args.bounded.now.net.now.shape.version) found ∙ put_whole found c.is_blank.ensures c.args.bounded.now.net.now.shape.version c.if-is_blank.false) (put_length c.put_new.ensures)
