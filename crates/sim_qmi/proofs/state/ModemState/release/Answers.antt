use Rattle.std.proofs.Common.{◌≡◌, true, not, filter, List, ap, sym, ◌∙◌, rules}
use Rattle.std.proofs.lemmas.Fn.{filter_same}
use Rattle.sim_qmi.specs.declared.client_id.ClientId.{ClientId}
use Rattle.sim_qmi.specs.State.{State, is_client, is_given, without_client}
use Rattle.sim_qmi.proofs.ClientIds.{releases-given}
use Rattle.sim_qmi.proofs.state.ModemState.release.Goals as goal

pub returns-clause-state : goal.returns-clause-state
returns-clause-state c =
    let kept : c.retain.new.self.items ≡ filter (λ client. not (is_client c.args.service c.args.id client)) c.self.inside.clients.items = filter_same _ _ _ (λ x b f' k. search rules) _ _ c.retain.ensures.filtered in
    let given : is_given c.args.self.now.clients c.args.service c.args.id ≡ true = search rules in
    ap (λ (clients : List ClientId). record { clients = clients; mode = c.self.inside.mode; handle = c.self.inside.handle; connected = c.self.inside.connected; messages = c.self.inside.messages.items; sent = c.self.inside.sent }) kept
    ∙ ap (λ (s : State). without_client s c.args.service c.args.id) c.self.view_is
    ∙ sym (releases-given c.args.self.now c.args.service c.args.id given)
