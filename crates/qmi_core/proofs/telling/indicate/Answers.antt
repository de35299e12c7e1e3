use Rattle.std.proofs.Common.{ℕ, List, sym, ◌∙◌, ap, Some, None}
use Rattle.proxy_core.specs.Meaning.{state_of}
use Rattle.qmi_core.specs.State.{tell_from}
use Rattle.qmi_core.proofs.Tells.{indicated_open, indicated_holders}
use Rattle.qmi_core.proofs.telling.indicate.Goals as goal

pub returns-then-is_control-clause-told : goal.returns-then-is_control-clause-told
returns-then-is_control-clause-told c =
    indicated_open c.args.message.now (state_of c.tell_each.new.connections c.tell_each.new.side) (state_of c.args.connections.now c.args.side.now) (sym c.is_control.ensures ∙ c.if-is_control.true)
    (c.tell_each.ensures.told ∙ ap (λ (l : List ℕ). tell_from None l 0 (state_of c.args.connections.now c.args.side.now)) c.bytes.ensures)

pub returns-then-cid-eq-EVERYBODY-clause-told : goal.returns-then-cid-eq-EVERYBODY-clause-told
returns-then-cid-eq-EVERYBODY-clause-told c =
    let all = c.tell_each-then-cid-eq-EVERYBODY in
    indicated_holders c.args.message.now c.service.result (state_of all.new.connections all.new.side) (state_of c.args.connections.now c.args.side.now) (sym c.is_control.ensures ∙ c.if-is_control.false) (sym c.cid.ensures ∙ c.if-cid-eq-EVERYBODY.true) c.service.ensures
    (all.ensures.told ∙ ap (λ (l : List ℕ). tell_from (Some c.service.result) l 0 (state_of c.args.connections.now c.args.side.now)) c.bytes-then-cid-eq-EVERYBODY.ensures)
