use Rattle.std.proofs.Common.{string_bytes}
use Rattle.sms_pdu.specs.Entries.{pdus_of}
use Rattle.sms_pdu.proofs.Joins.{HasTextUpTo}
use Rattle.sms_pdu.proofs.joining.group_text.Given as goal

abbrev pub invariant-loop-place : goal.invariant-loop-place
invariant-loop-place l = HasTextUpTo (pdus_of l.run) l.pdu l.place (string_bytes l.text)
