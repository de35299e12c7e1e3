-- Laws of how a run ends.
use Rattle.std.specs.Prelude.{◌≡◌}
use Rattle.link_session.specs.declared.fault.SessionFault.{SessionFault}
use Rattle.printed_ends.specs.Printed.{fault_status}
use Rattle.tool_runs.specs.Asking.{end_of}
use Rattle.program.specs.Status.{code_of, status_of}

-- the status of a tool is the one that is compared where its command is run in two ways
abbrev pub StatusesAgree : Type 0
StatusesAgree = (why : SessionFault) → code_of (status_of (end_of why)) ≡ fault_status why
