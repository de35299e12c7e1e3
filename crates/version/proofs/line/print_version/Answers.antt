use Rattle.std.specs.Prelude.{codes}
use Rattle.std.proofs.Common.{◌++◌}
use Rattle.kit_io.proofs.Growth.{Grows-append}
use Rattle.version.specs.declared.line.TheConstants.{VERSION}
use Rattle.version.specs.Line.{version_line}
use Rattle.version.proofs.Parts.{front-first, front-later}
use Rattle.version.proofs.line.print_version.Goals as goal

pub returns-in_err-write_all_to-clause-prefix : goal.returns-in_err-write_all_to-clause-prefix
unfolding version_line
returns-in_err-write_all_to-clause-prefix g c = front-first (VERSION.now ++ codes "\n") c.in_err-write_all_to.ensures.prefix

pub returns-in_err-write_all_to-2-clause-prefix : goal.returns-in_err-write_all_to-2-clause-prefix
unfolding version_line
returns-in_err-write_all_to-2-clause-prefix g c =
    front-later c.in_ok-write_all_to.ensures.all (front-first (codes "\n") (rw c.as_bytes.ensures.value at c.in_err-write_all_to-2.ensures.prefix))

pub returns-in_err-write_all_to-3-clause-prefix : goal.returns-in_err-write_all_to-3-clause-prefix
unfolding version_line
returns-in_err-write_all_to-3-clause-prefix g c =
    front-later c.in_ok-write_all_to.ensures.all (front-later (rw c.as_bytes.ensures.value at c.in_ok-write_all_to-2.ensures.all) c.in_err-write_all_to-3.ensures.prefix)

pub returns-clause-prefix : goal.returns-clause-prefix
unfolding version_line
returns-clause-prefix g c =
    front-later c.in_ok-write_all_to.ensures.all (front-later (rw c.as_bytes.ensures.value at c.in_ok-write_all_to-2.ensures.all) c.in_ok-write_all_to-3.ensures.prefix)

pub returns-clause-all : goal.returns-clause-all
unfolding version_line
returns-clause-all g c =
    Grows-append c.in_ok-write_all_to.ensures.all (Grows-append (rw c.as_bytes.ensures.value at c.in_ok-write_all_to-2.ensures.all) c.in_ok-write_all_to-3.ensures.all)
