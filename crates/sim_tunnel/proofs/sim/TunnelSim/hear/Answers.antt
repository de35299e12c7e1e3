use Rattle.std.proofs.Common.{◌≡◌, ℕ, List, true, false, option_copied, Some, None, sym, ap, subst, ◌∙◌}
use Rattle.mbim_frame.specs.Head.{number_of}
use Rattle.mbim_frame.specs.declared.head.MHead.{MHead}
use Rattle.qmux_frame.specs.Frame.{qmux_cut}
use Rattle.sim_mbim.specs.Answers as mbim
use Rattle.sim_tunnel.specs.Carrying as carrying
use Rattle.sim_tunnel.specs.Carrying.{Exchange, IsIn, alone, carried_at}
use Rattle.sim_tunnel.proofs.Hearing.{goes_on, heard-closed, heard-nothing, heard-open, said-alone}
use Rattle.sim_tunnel.proofs.sim.TunnelSim.hear.Goals as goal

-- ---- nothing is carried ----

pub returns-in_default-clause-text : goal.returns-in_default-clause-text
returns-in_default-clause-text c = λ inside s is_in.
    let message = c.args.message.now in
    let at : IsIn inside s (record { begun = c.self.inside.begun; mbim = c.self.inside.mbim; qmi = c.self.inside.qmi }) = subst (IsIn inside s) (sym c.self.view_is) is_in in
    let none : carried_at message c.self.inside.begun (mbim.request_of message) ≡ None = sym c.carried.ensures.carried ∙ ap option_copied c.in_default.is in
    said-alone inside message s _ at (heard-nothing inside message s _ at none) c.in_ok-hear.field-0 c.in_ok-hear.ensures.text

pub returns-in_default-clause-state : goal.returns-in_default-clause-state
returns-in_default-clause-state c = λ inside s is_in.
    let message = c.args.message.now in
    let at : IsIn inside s (record { begun = c.self.inside.begun; mbim = c.self.inside.mbim; qmi = c.self.inside.qmi }) = subst (IsIn inside s) (sym c.self.view_is) is_in in
    let none : carried_at message c.self.inside.begun (mbim.request_of message) ≡ None = sym c.carried.ensures.carried ∙ ap option_copied c.in_default.is in
    goes_on inside message s _ at (alone message s) (heard-nothing inside message s _ at none) _ c.carried.ensures.begun c.in_ok-hear.ensures.state at.qmi

-- ---- the modem isn't open ----

pub returns-then-not-is_open-clause-text : goal.returns-then-not-is_open-clause-text
returns-then-not-is_open-clause-text c = λ inside s is_in.
    let message = c.args.message.now in
    let at : IsIn inside s (record { begun = c.self.inside.begun; mbim = c.self.inside.mbim; qmi = c.self.inside.qmi }) = subst (IsIn inside s) (sym c.self.view_is) is_in in
    let carried : carried_at message c.self.inside.begun (mbim.request_of message) ≡ Some c.in-Some.buffer.now = sym c.carried.ensures.carried ∙ ap option_copied c.in-Some.is in
    let closed : (mbim.exchange_at message c.self.inside.mbim).modem.opened ≡ false =
    ap (λ (m : mbim.State). m.modem.opened) (sym c.in_ok-refused.ensures.state) ∙ sym c.is_open.ensures ∙ c.if-not-is_open.true in
    said-alone inside message s _ at (heard-closed inside message s _ at c.in-Some.buffer.now carried closed) c.in_ok-refused.refused c.in_ok-refused.ensures.text

pub returns-then-not-is_open-clause-state : goal.returns-then-not-is_open-clause-state
returns-then-not-is_open-clause-state c = λ inside s is_in.
    let message = c.args.message.now in
    let at : IsIn inside s (record { begun = c.self.inside.begun; mbim = c.self.inside.mbim; qmi = c.self.inside.qmi }) = subst (IsIn inside s) (sym c.self.view_is) is_in in
    let carried : carried_at message c.self.inside.begun (mbim.request_of message) ≡ Some c.in-Some.buffer.now = sym c.carried.ensures.carried ∙ ap option_copied c.in-Some.is in
    let closed : (mbim.exchange_at message c.self.inside.mbim).modem.opened ≡ false =
    ap (λ (m : mbim.State). m.modem.opened) (sym c.in_ok-refused.ensures.state) ∙ sym c.is_open.ensures ∙ c.if-not-is_open.true in
    goes_on inside message s _ at (alone message s) (heard-closed inside message s _ at c.in-Some.buffer.now carried closed) _ c.carried.ensures.begun c.in_ok-refused.ensures.state at.qmi

-- ---- it carries the message ----

pub returns-clause-text : goal.returns-clause-text
returns-clause-text c = λ inside s is_in.
    let message = c.args.message.now in
    let at : IsIn inside s (record { begun = c.self.inside.begun; mbim = c.self.inside.mbim; qmi = c.self.inside.qmi }) = subst (IsIn inside s) (sym c.self.view_is) is_in in
    let carried : carried_at message c.self.inside.begun (mbim.request_of message) ≡ Some c.in-Some.buffer.now = sym c.carried.ensures.carried ∙ ap option_copied c.in-Some.is in
    let opens : (mbim.exchange_at message c.self.inside.mbim).modem.opened ≡ true =
    ap (λ (m : mbim.State). m.modem.opened) (sym c.in_ok-refused.ensures.state) ∙ sym c.is_open.ensures ∙ c.if-not-is_open.false in
    let said : c.as_slice-messages.result.now ≡ carrying.said inside s.met c.in-Some.buffer.now = c.as_slice-messages.ensures ∙ c.in_ok-messages.ensures.said inside s.met at.qmi in
    let number : c.read-number.result.number ≡ number_of message = ap (λ (h : MHead). h.number) c.read-number.ensures in
    let modem = (mbim.exchange_at message c.self.inside.mbim).modem in
    c.in_ok-answer.ensures
    ∙ ap (λ (n : ℕ). carrying.answer n c.hear-2.new.self.modem (qmux_cut c.as_slice-messages.result.now).messages) number
    ∙ ap (λ (m : mbim.State). carrying.answer (number_of message) m.modem (qmux_cut c.as_slice-messages.result.now).messages) c.in_ok-refused.ensures.state
    ∙ ap (λ (l : List ℕ). carrying.answer (number_of message) modem (qmux_cut l).messages) said
    ∙ sym (ap (λ (e : Exchange). e.text) (heard-open inside message s _ at c.in-Some.buffer.now carried opens))

pub returns-clause-state : goal.returns-clause-state
returns-clause-state c = λ inside s is_in.
    let message = c.args.message.now in
    let at : IsIn inside s (record { begun = c.self.inside.begun; mbim = c.self.inside.mbim; qmi = c.self.inside.qmi }) = subst (IsIn inside s) (sym c.self.view_is) is_in in
    let carried : carried_at message c.self.inside.begun (mbim.request_of message) ≡ Some c.in-Some.buffer.now = sym c.carried.ensures.carried ∙ ap option_copied c.in-Some.is in
    let opens : (mbim.exchange_at message c.self.inside.mbim).modem.opened ≡ true =
    ap (λ (m : mbim.State). m.modem.opened) (sym c.in_ok-refused.ensures.state) ∙ sym c.is_open.ensures ∙ c.if-not-is_open.false in
    goes_on inside message s _ at _ (heard-open inside message s _ at c.in-Some.buffer.now carried opens) _ c.carried.ensures.begun c.in_ok-refused.ensures.state (c.in_ok-messages.ensures.keeps inside s.met at.qmi)
