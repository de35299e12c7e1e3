use Rattle.std.proofs.Common.{rules, refl}
use Rattle.kit_io.specs.Growth.{Grows, GrowsByFront}
use Rattle.program.specs.Rigging.{shown, not_shown}
use Rattle.program.proofs.rigging.print_transparency.Goals as goal

-- all lines were printed
pub returns-in-Ok-write_all_to-clause-shows : goal.returns-in-Ok-write_all_to-clause-shows
returns-in-Ok-write_all_to-clause-shows g c =
    let grows : Grows (g.O.Sink.taken c.args.out.now) c.in-Ok.lines (g.O.Sink.taken c.write_all_to.new.sink) = search rules in
    shown _ c.in-Ok.ensures grows refl

-- a front of them was
pub returns-clause-shows : goal.returns-clause-shows
returns-clause-shows g c =
    let grows : GrowsByFront (g.O.Sink.taken c.args.out.now) c.in-Ok.lines (g.O.Sink.taken c.write_all_to.new.sink) = search rules in
    not_shown _ c.in-Ok.ensures grows refl
