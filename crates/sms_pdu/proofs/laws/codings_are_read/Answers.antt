use Rattle.std.proofs.Common.{[], ◌∷◌, replicate, Some, ap, refl}
use Rattle.sms_pdu.specs.declared.pdu.Body.{Body}
use Rattle.sms_pdu.proofs.UserData.{ucs2_back}
use Rattle.sms_pdu.proofs.laws.codings_are_read.Goals as goal

pub returns : goal.returns
returns c = record {
  alphabet = refl;
  ucs2 = ap (λ (body : Body). replicate 5 (Some body)) (ucs2_back (0xC834 ∷ []) refl);
  octets = refl;
  odd = refl;
}
