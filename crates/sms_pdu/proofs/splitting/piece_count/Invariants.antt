use Rattle.std.proofs.Common.{◌≤◌, ◌+◌}
use Rattle.sms_pdu.proofs.Pieces.{AreCounted}
use Rattle.sms_pdu.proofs.splitting.piece_count.Given as goal

abbrev pub invariant-loop-char : goal.invariant-loop-char
invariant-loop-char l = record { are : AreCounted l.coded l.most l.text l.char-index l.count l.size; few : l.count ≤ l.char-index + 1; room : l.size ≤ 160 }
