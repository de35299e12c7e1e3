use Rattle.std.proofs.Common.{◌≡◌, refl}
use Rattle.link_session.specs.declared.fault.SessionFault.{SessionFault}
use Rattle.link_session.specs.declared.fault.SessionFault.TheVariants as fault
use Rattle.printed_ends.specs.Printed.{fault_status}
use Rattle.tool_runs.specs.Asking.{end_of}
use Rattle.program.specs.Status.{code_of, status_of}
use Rattle.program.proofs.laws.statuses_agree.Goals as goal

agree : (why : SessionFault) → code_of (status_of (end_of why)) ≡ fault_status why
agree fault.LinkFault = refl
agree fault.LinkEnd = refl
agree fault.TimedOut = refl
agree (fault.Broken place) = refl
agree fault.Flooded = refl
agree fault.OutOfMemory = refl

pub returns : goal.returns
returns c = agree
