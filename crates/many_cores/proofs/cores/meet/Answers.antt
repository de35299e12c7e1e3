use Rattle.std.proofs.Common.{ℕ, nat_lt, length, ap, sym, ◌∙◌, subst}
use Rattle.hub_io.specs.Events.{event_of}
use Rattle.qmux_frame.specs.Frame.{size_of}
use Rattle.proxy_state.specs.Step as device
use Rattle.proxy_state.specs.Stands.{MayMeet}
use Rattle.qmi_state.specs.Core.{QmiCore}
use Rattle.qmi_state.specs.Transitions.{qmi_handlers}
use Rattle.many_cores.proofs.cores.meet.Goals as goal

pub step-requires : goal.step-requires
step-requires c = record {
  hung_up = ap (λ (k : QmiCore). k.state.table.dropped) c.hang_up.ensures;
  may_come = subst (λ (k : QmiCore). MayMeet qmi_handlers (event_of c.args.event) k) (sym c.hang_up.ensures) c.requires;
}

pub returns-clause-met : goal.returns-clause-met
returns-clause-met c = c.step.ensures.step ∙ ap (λ (k : QmiCore). device.step qmi_handlers size_of (event_of c.args.event) k) c.hang_up.ensures

pub returns-clause-fewer : goal.returns-clause-fewer
returns-clause-fewer c =
    ap (λ (n : ℕ). nat_lt n c.present-before.result) c.present.ensures
    ∙ ap (λ (n : ℕ). nat_lt (length c.step.new.self.state.table.present) n) (c.present-before.ensures ∙ ap (λ (k : QmiCore). length k.state.table.present) c.hang_up.ensures)
