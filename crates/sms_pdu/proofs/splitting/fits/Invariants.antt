use Rattle.std.proofs.Common.{◌≡◌, ◌≤◌, length, take}
use Rattle.sms_pdu.specs.Parts.{units_of}
use Rattle.sms_pdu.proofs.splitting.fits.Given as goal

abbrev pub invariant-loop-char : goal.invariant-loop-char
invariant-loop-char l = record { size : l.size ≡ length (units_of l.coded (take l.char-index l.text)); room : l.size ≤ l.most }
