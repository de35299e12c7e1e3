use Rattle.std.proofs.Common.{ap, subst}
use Rattle.proxy_state.specs.Stands.{NextDropped}
use Rattle.proxy_state.proofs.Waiting.{asking_keeps_standing}
use Rattle.proxy_core.specs.Core.{lasting_in}
use Rattle.proxy_core.specs.Meaning.{state_of}
use Rattle.proxy_core.proofs.Events.{core_of, asked_is}
use Rattle.proxy_core.proofs.proxy.Core.next_dropped.Goals as goal

pub returns : goal.returns
returns g c =
    let d = g.P.Protocol.meaning in
    let new = core_of (state_of c.next_dropped.new.self c.self.inside.side) c.self.inside.cutter.rest in
    let next : NextDropped c.args.self.now new c.next_dropped.result =
    subst (λ v. NextDropped v new c.next_dropped.result) c.self.view_is (asked_is (core_of (state_of c.self.inside.connections c.self.inside.side) c.self.inside.cutter.rest) c.next_dropped.new.self c.next_dropped.result c.next_dropped.ensures.next c.next_dropped.ensures.asked)
    in
    record {
      next = next;
      hung_up = c.next_dropped.ensures.hung_up;
      stands = λ s events S. asking_keeps_standing _ _ _ (d.protocol s) (d.kept s) events c.args.self.now new c.next_dropped.result next S;
      lasting = ap (lasting_in d) c.self.view_is;
    }
