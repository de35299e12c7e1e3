use Rattle.std.proofs.Common.{◌≡◌, take}
use Rattle.std.specs.List.{filter_map}
use Rattle.sms_pdu.specs.Joining.{firsts, whole}
use Rattle.sms_pdu.proofs.joining.joined_in.Given as goal

abbrev pub invariant-loop-index : goal.invariant-loop-index
invariant-loop-index l = l.joined.items ≡ filter_map (whole l.pdus) (firsts (take l.index l.pdus))
