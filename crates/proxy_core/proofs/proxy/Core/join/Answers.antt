use Rattle.std.proofs.Common.{ap, sym, ◌∙◌, ◌<◌, subst}
use Rattle.proxy_history.specs.Events.{Joined}
use Rattle.proxy_state.specs.State as state
use Rattle.proxy_core.specs.Core.{meet}
use Rattle.proxy_core.specs.Meaning.{state_of}
use Rattle.proxy_core.proofs.Clients.{joined_agrees, refused_agrees}
use Rattle.proxy_core.proofs.Events.{core_of, joined_is}
use Rattle.proxy_core.proofs.proxy.Core.join.Goals as goal

pub invariant_of-self : goal.invariant_of-self
invariant_of-self g c =
    let newer = subst (λ (v : state.Core g.row.P-Client.Denot g.row.P-Side.Denot). v.state.table.greatest < c.args.name) (sym c.self.view_is) c.requires.newer in
    record {
      agrees = joined_agrees g.P.Protocol.meaning c.self.invariant.agrees g.P.Client.Renews.fresh c.args.name c.join.new.self c.join.ensures.joined c.join-then-join.new.self c.join-then-join.ensures newer c.join.ensures.regular (sym c.join.ensures.let_in ∙ c.if-join.true);
      partial = c.self.invariant.partial;
    }

pub invariant_of-self-else-join : goal.invariant_of-self-else-join
invariant_of-self-else-join g c = record { agrees = refused_agrees g.P.Protocol.meaning c.self.invariant.agrees g.P.Client.Renews.fresh c.args.name c.join.new.self c.join.ensures.joined (sym c.join.ensures.let_in ∙ c.if-join.false); partial = c.self.invariant.partial }

pub returns-then-join : goal.returns-then-join
returns-then-join g c = joined_is g.P.Protocol.meaning g.P.Client.Renews.fresh g.P.Frame.Framing.size g.met.P.Protocol.lawful (core_of (state_of c.self.inside.connections c.self.inside.side) c.self.inside.cutter.rest) c.args.name c.join.new.self c.join.ensures.joined ∙ ap (meet g.P.Protocol.meaning g.P.Frame.Framing.size (Joined c.args.name)) c.self.view_is

pub returns-else-join : goal.returns-else-join
returns-else-join g c = joined_is g.P.Protocol.meaning g.P.Client.Renews.fresh g.P.Frame.Framing.size g.met.P.Protocol.lawful (core_of (state_of c.self.inside.connections c.self.inside.side) c.self.inside.cutter.rest) c.args.name c.join.new.self c.join.ensures.joined ∙ ap (meet g.P.Protocol.meaning g.P.Frame.Framing.size (Joined c.args.name)) c.self.view_is
