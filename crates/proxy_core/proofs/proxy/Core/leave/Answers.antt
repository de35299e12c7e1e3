use Rattle.std.proofs.Common.{sym, ap, ◌∙◌}
use Rattle.proxy_history.specs.Events.{Left}
use Rattle.proxy_core.specs.Core.{meet}
use Rattle.proxy_core.specs.Meaning.{state_of}
use Rattle.proxy_core.proofs.Clients.{left_there, left_stranger}
use Rattle.proxy_core.proofs.Events.{core_of, left_is, stranger_left}
use Rattle.proxy_core.proofs.proxy.Core.leave.Goals as goal

pub invariant_of-self : goal.invariant_of-self
invariant_of-self g c = record {
  agrees = left_there g.P.Protocol.meaning c.self.invariant.agrees c.args.name c.leave.ensures.regular.rising c.give_up.new.side c.give_up.new.self c.give_up.ensures.agrees c.leave.new.self (sym c.leave.ensures.there ∙ c.if-leave.true) c.leave.ensures.left;
  partial = c.self.invariant.partial;
}

pub invariant_of-self-else-leave : goal.invariant_of-self-else-leave
invariant_of-self-else-leave g c = record { agrees = left_stranger g.P.Protocol.meaning c.self.invariant.agrees c.args.name c.leave.new.self (sym c.leave.ensures.there ∙ c.if-leave.false) c.leave.ensures.left; partial = c.self.invariant.partial }

pub returns-then-leave : goal.returns-then-leave
returns-then-leave g c =
    left_is g.P.Protocol.meaning g.P.Client.Renews.fresh g.P.Frame.Framing.size g.met.P.Protocol.lawful (core_of (state_of c.self.inside.connections c.self.inside.side) c.self.inside.cutter.rest) c.args.name c.leave.new.self c.give_up.new.side (sym c.leave.ensures.there ∙ c.if-leave.true) c.leave.ensures.left c.give_up.ensures.beside
    ∙ ap (meet g.P.Protocol.meaning g.P.Frame.Framing.size (Left c.args.name)) c.self.view_is

pub returns-else-leave : goal.returns-else-leave
returns-else-leave g c =
    stranger_left g.P.Protocol.meaning g.P.Client.Renews.fresh g.P.Frame.Framing.size g.met.P.Protocol.lawful (core_of (state_of c.self.inside.connections c.self.inside.side) c.self.inside.cutter.rest) c.args.name c.leave.new.self (sym c.leave.ensures.there ∙ c.if-leave.false) c.leave.ensures.left ∙ ap (meet g.P.Protocol.meaning g.P.Frame.Framing.size (Left c.args.name)) c.self.view_is
