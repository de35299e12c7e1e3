use Rattle.std.proofs.Common.{ℕ, List, [], false, refl, ap, sym, ◌∙◌, subst}
use Rattle.std.proofs.lemmas.Str.{encodes_same}
use Rattle.mbim_proxy.specs.Setup.{mbim_setup}
use Rattle.mbim_state.specs.Core.{side_of}
use Rattle.mbim_core.specs.Meaning.{AtHand, IsAtHand}
use Rattle.mbim_core.proofs.protocol.MbimHandProtocol.open.Goals as goal

pub returns : goal.returns
returns c = record {
  beside = λ path is. c.in_ok-side.ensures ∙ ap (λ (l : List ℕ). side_of (mbim_setup l c.args.limits.now.time false) [] []) (encodes_same _ _ (c.in_ok-device.ensures ∙ is));
  agrees = subst (λ (h : AtHand). IsAtHand [] c.in_ok-side.side h) (sym c.in_ok-teller.ensures) (record { subscribed = refl; asked = λ is. absurd (cc) });
}
