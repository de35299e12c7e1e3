use Rattle.std.proofs.Common.{refl, sym, ◌∙◌, subst, reverse}
use Rattle.lone_client.specs.Relay.{Cast, Stage, relayed}
use Rattle.transparency.specs.Peers.{cast_of, opened}
use Rattle.transparency.specs.Relaying.{IsRelayed}
use Rattle.transparency.proofs.Texts.{through_newest, relayed_newest}
use Rattle.transparency.proofs.proxy.ProxyPeerAnswerer.answer.Goals as goal

pub returns-clause-says : goal.returns-clause-says
returns-clause-says g c = λ texts met.
    let p = c.args.self.now in
    let cast : Cast = cast_of g.S.Simulated.kind p.device g.S.Framing.Framing.size (g.S.Simulated.answering p.profile) in
    c.in_ok-reply.ensures.relays.replies cast (opened g.S.Simulated.kind p.device) met.earlier (relayed cast (reverse texts)) refl met.relayed_are ∙ sym (through_newest cast texts c.args.text.now)

pub returns-clause-met : goal.returns-clause-met
returns-clause-met g c = λ texts met.
    let p = c.args.self.now in
    let cast : Cast = cast_of g.S.Simulated.kind p.device g.S.Framing.Framing.size (g.S.Simulated.answering p.profile) in
    let now = c.in_ok-reply.ensures.relays.stands cast (opened g.S.Simulated.kind p.device) met.earlier (relayed cast (reverse texts)) refl met.relayed_are in
    record {
      earlier = met.earlier;
      relayed_are =
          subst (λ (stage : Stage). IsRelayed g.B.Bench.keeps g.B.Bench.runs g.S.Sim.keeps cast (opened g.S.Simulated.kind p.device) met.earlier stage c.relay.new.bench c.relay.new.sim) (relayed_newest cast texts c.args.text.now) now;
    }
