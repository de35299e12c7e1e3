use Rattle.std.proofs.Common.{[], ◌∷◌, ◌++◌, codes, ap, refl}
use Rattle.sms_pdu.specs.declared.pdu.Body.{Body}
use Rattle.sms_pdu.proofs.UserData.{ucs2_back}
use Rattle.sms_print.specs.Printed.{body_line, text_line}
use Rattle.sms_print.proofs.Computed.{computed}
use Rattle.sms_print.proofs.examples.messages_are_printed.Goals as goal

pub returns : goal.returns
unfolding computed
returns c = record {
  received = refl;
  sent = refl;
  octets = refl;
  escaped = ap (λ (body : Body). text_line [] (codes "Sender") (codes "+123") ++ body_line body) (ucs2_back (0x436 ∷ 0x0A ∷ []) refl);
  part = refl;
  kind = refl;
  short = refl;
}
