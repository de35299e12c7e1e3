use Rattle.kit_io.proofs.Growth.{Grows-append}
use Rattle.program.proofs.watching.write_fault.Goals as goal

pub returns-clause-line : goal.returns-clause-line
returns-clause-line g c =
    Grows-append
    (Grows-append (Grows-append (Grows-append c.in_ok-write_all_to.ensures.all c.in_ok-write_all_to-2.ensures.all) c.in_ok-write_all_to-3.ensures.all) c.in_ok-write_all_to-4.ensures.all)
    c.in_ok-write_all_to-5.ensures.all
