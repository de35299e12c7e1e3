use Rattle.std.proofs.Common.{◌≡◌, map, take}
use Rattle.std.specs.List.{enumerate_from}
use Rattle.sms_pdu.specs.Entries.{placed}
use Rattle.sms_pdu.proofs.entries.entries_of.Given as goal

abbrev pub invariant-loop-index : goal.invariant-loop-index
invariant-loop-index l = map placed l.entries.items ≡ enumerate_from 0 (take l.index l.pdus)
