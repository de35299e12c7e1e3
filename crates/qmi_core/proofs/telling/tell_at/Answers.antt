use Rattle.std.proofs.Common.{ℕ, false, sym, ◌∙◌, ap}
use Rattle.connections.specs.Table.{Connection, connection_in, finds_room}
use Rattle.qmi_state.specs.declared.client.Client.{Client}
use Rattle.qmi_state.specs.Core.{QmiState}
use Rattle.qmi_state.specs.Transitions.{give_up, tell}
use Rattle.proxy_core.specs.Meaning.{state_of}
use Rattle.proxy_state.specs.Chosen.{StandsAt}
use Rattle.proxy_state.proofs.Places.{connection_at, stands_at}
use Rattle.proxy_state.proofs.Chosen.{turn_by, turn_on, turn_off}
use Rattle.qmi_core.specs.State.{is_chosen}
use Rattle.qmi_core.proofs.Tells.{still_chosen}
use Rattle.qmi_core.proofs.telling.tell_at.Goals as goal

pub returns : goal.returns
returns c =
    let was : QmiState = state_of c.args.connections.now c.args.side.now in
    let s : Connection Client = connection_at (record { opened = false }) was.table.present c.args.index in
    let at : StandsAt s was.table.present c.args.index = stands_at (record { opened = false }) was.table.present c.args.index c.requires.here in
    let named = c.name_at-name.ensures.name s at in
    let turned =
    turn_off give_up (λ client. c.args.bytes.now) (λ client. client) (is_chosen c.args.audience) (still_chosen c.args.audience) c.args.index was s c.requires.here at c.name_at-name.ensures.regular.rising (sym (c.is_chosen.ensures s at) ∙ c.if-not-is_chosen.false)
    (state_of c.send.new.connections c.send.new.side) (c.send.ensures.told ∙ ap (λ (n : ℕ). tell n c.args.bytes.now was) named) (sym c.if-send.false ∙ c.send.ensures.stays ∙ ap (λ (n : ℕ). finds_room c.args.bytes.now (connection_in n was.table.present)) named)
    in
    record { told = turned.0; fewer = turned.1; limit = c.send.ensures.limit }

pub returns-then-not-is_chosen-clause-told : goal.returns-then-not-is_chosen-clause-told
returns-then-not-is_chosen-clause-told c =
    let was : QmiState = state_of c.args.connections.now c.args.side.now in
    let s : Connection Client = connection_at (record { opened = false }) was.table.present c.args.index in
    let at : StandsAt s was.table.present c.args.index = stands_at (record { opened = false }) was.table.present c.args.index c.requires.here in
    turn_by give_up (λ client. c.args.bytes.now) (λ client. client) (is_chosen c.args.audience) (still_chosen c.args.audience) c.args.index was s c.requires.here at (sym (c.is_chosen.ensures s at) ∙ c.if-not-is_chosen.true)

pub returns-then-send : goal.returns-then-send
returns-then-send c =
    let was : QmiState = state_of c.args.connections.now c.args.side.now in
    let s : Connection Client = connection_at (record { opened = false }) was.table.present c.args.index in
    let at : StandsAt s was.table.present c.args.index = stands_at (record { opened = false }) was.table.present c.args.index c.requires.here in
    let named = c.name_at-name.ensures.name s at in
    let turned =
    turn_on give_up (λ client. c.args.bytes.now) (λ client. client) (is_chosen c.args.audience) (still_chosen c.args.audience) c.args.index was s c.requires.here at c.name_at-name.ensures.regular.rising (sym (c.is_chosen.ensures s at) ∙ c.if-not-is_chosen.false)
    (state_of c.send.new.connections c.send.new.side) (c.send.ensures.told ∙ ap (λ (n : ℕ). tell n c.args.bytes.now was) named) (sym c.if-send.true ∙ c.send.ensures.stays ∙ ap (λ (n : ℕ). finds_room c.args.bytes.now (connection_in n was.table.present)) named)
    in
    record { told = turned.0; fewer = turned.1; limit = c.send.ensures.limit }
