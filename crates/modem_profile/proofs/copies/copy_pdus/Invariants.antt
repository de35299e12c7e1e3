use Rattle.std.proofs.Common.{◌≡◌, take}
use Rattle.modem_profile.proofs.copies.copy_pdus.Given as goal

abbrev pub invariant-loop-pdu : goal.invariant-loop-pdu
invariant-loop-pdu l = l.copies.items ≡ take l.pdu-index l.pdus
