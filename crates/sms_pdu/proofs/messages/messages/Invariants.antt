use Rattle.sms_pdu.proofs.Sending.{AreMade}
use Rattle.sms_pdu.proofs.messages.messages.Given as goal

abbrev pub invariant-loop-char : goal.invariant-loop-char
invariant-loop-char l = AreMade l.sending.front.items l.sending.coded l.sending.most l.sending.reference l.sending.total l.text l.char-index l.place l.size l.piece.items l.list.items
