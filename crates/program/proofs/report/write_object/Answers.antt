use Rattle.kit_io.proofs.Growth.{Grows-append}
use Rattle.program.specs.Status.{object_line}
use Rattle.program.proofs.report.write_object.Goals as goal

pub returns-clause-line : goal.returns-clause-line
unfolding object_line
returns-clause-line g c =
    Grows-append
    (Grows-append
    (Grows-append (Grows-append (Grows-append c.in_ok-write_all_to.ensures.all c.in_ok-write_all_to-2.ensures.all) c.in_ok-write_all_to-3.ensures.all) c.in_ok-write_all_to-4.ensures.all)
    c.in_ok-write_all_to-5.ensures.all)
    c.in_ok-write_all_to-6.ensures.all
