use Rattle.std.proofs.Common.{Bool, ap, sym, ◌∙◌}
use Rattle.mbim_state.specs.Core.{Client, MbimState}
use Rattle.mbim_state.specs.Transitions.{give_up}
use Rattle.mbim_core.specs.Hand.{hand_of, left_unless}
use Rattle.mbim_core.specs.State.{state_of, is_receiver}
use Rattle.mbim_core.proofs.Hands.{told_is}
use Rattle.mbim_core.proofs.Texts.{indication_text, indication_written}
use Rattle.mbim_core.proofs.Turns.{SeenAt, passed, dropped, got}
use Rattle.mbim_core.proofs.teller.Teller.indicate_at.Goals as goal

pub returns-then-not-is_receiver-clause-told : goal.returns-then-not-is_receiver-clause-told
returns-then-not-is_receiver-clause-told c =
    let was : MbimState = state_of c.args.connections.now c.args.side.now in
    let client : Client = c.client_at-client.result.now in
    let seen : SeenAt was.table.present c.args.index c.name_at-name.result client = record { here = c.requires.here; rising = c.name_at-name.ensures.regular.rising; named = c.name_at-name.ensures.name; is = c.client_at-client.ensures } in
    (passed give_up (indication_text c.args.body.now) (λ client. client) (is_receiver c.args.head.now) c.args.index was c.name_at-name.result client seen (sym c.is_receiver.ensures ∙ c.if-not-is_receiver.true)).0

pub returns-then-put : goal.returns-then-put
returns-then-put c =
    let was : MbimState = state_of c.args.connections.now c.args.side.now in
    let client : Client = c.client_at-client.result.now in
    let seen : SeenAt was.table.present c.args.index c.name_at-name.result client = record { here = c.requires.here; rising = c.name_at-name.ensures.regular.rising; named = c.name_at-name.ensures.name; is = c.client_at-client.ensures } in
    let written = indication_written c.args.body.now client c.text-text.result.now _ _ _ c.text-text.ensures c.split.ensures c.number-kind.ensures c.fragment-max.ensures.fragment in
    let turned = got give_up (indication_text c.args.body.now) (λ client. client) (is_receiver c.args.head.now) c.args.index was c.name_at-name.result client seen
    (sym c.is_receiver.ensures ∙ c.if-not-is_receiver.false) c.text-text.result.now written
    (state_of c.put.new.connections c.put.new.side) c.put.ensures.told (sym c.if-put.true ∙ c.put.ensures.stays)
    in
    record {
      told = turned.0;
      fewer = turned.1;
      agrees = told_is _ _ _ c.requires.agrees c.put.ensures.regular.rising c.text-text.result.now c.name_at-name.result _ _ c.put.result _ (ap (λ (b : Bool). left_unless b c.name_at-name.result (hand_of c.args.self.now)) (sym c.if-put.true)) c.put.ensures.told c.put.ensures.stays c.put.ensures.limit c.put.ensures.list;
    }

pub returns : goal.returns
returns c =
    let was : MbimState = state_of c.args.connections.now c.args.side.now in
    let client : Client = c.client_at-client.result.now in
    let seen : SeenAt was.table.present c.args.index c.name_at-name.result client = record { here = c.requires.here; rising = c.name_at-name.ensures.regular.rising; named = c.name_at-name.ensures.name; is = c.client_at-client.ensures } in
    let written = indication_written c.args.body.now client c.text-text.result.now _ _ _ c.text-text.ensures c.split.ensures c.number-kind.ensures c.fragment-max.ensures.fragment in
    let turned = dropped give_up (indication_text c.args.body.now) (λ client. client) (is_receiver c.args.head.now) c.args.index was c.name_at-name.result client seen
    (sym c.is_receiver.ensures ∙ c.if-not-is_receiver.false) c.text-text.result.now written
    (state_of c.put.new.connections c.put.new.side) c.put.ensures.told (sym c.if-put.false ∙ c.put.ensures.stays)
    in
    record { told = turned.0; fewer = turned.1; agrees = told_is _ _ _ c.requires.agrees c.put.ensures.regular.rising c.text-text.result.now c.name_at-name.result _ _ c.put.result _ (c.leave.ensures ∙ ap (λ (b : Bool). left_unless b c.name_at-name.result (hand_of c.args.self.now)) (sym c.if-put.false)) c.put.ensures.told c.put.ensures.stays c.put.ensures.limit c.put.ensures.list }
