use Rattle.std.proofs.Common.{◌≡◌, length, ap, ◌∙◌, arith}
use Rattle.std.proofs.lemmas.List.{length-map}
use Rattle.mbim_core.specs.Meaning.{AtHand, subscriber}
use Rattle.mbim_core.proofs.Hands.{joins_it}
use Rattle.mbim_core.proofs.protocol.MbimHandProtocol.join.Goals as goal

pub join-requires : goal.join-requires
join-requires c =
    let same : length c.self.inside.teller.subscriptions ≡ length c.requires.clients = ap (λ (h : AtHand). length h.subscribed) c.self.view_is ∙ ap length c.requires.agrees.subscribed ∙ length-map c.requires.clients subscriber in
    omega (arith, same, c.requires.few)

pub returns : goal.returns
returns c = λ clients others A. joins_it _ _ c.self.view_is c.args.name _ _ clients c.join.ensures others A
