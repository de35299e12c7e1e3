use Rattle.std.proofs.Common.{◌≡◌, Some, None, ap, sym, ◌∙◌}
use Rattle.std.specs.List.{position}
use Rattle.subscriptions.specs.Clients.{is_of, list_of}
use Rattle.subscriptions.proofs.Clients.{list_at, list_none}
use Rattle.subscriptions.proofs.subscriptions.Subscriptions.list.Goals as goal

pub returns-in-Some : goal.returns-in-Some
returns-in-Some c =
    let place : Some c.in-Some.place ≡ position (is_of c.args.conn) c.self.inside.clients.items = sym c.in-Some.is ∙ c.find.ensures ∙ ap (position (is_of c.args.conn)) c.deref.ensures.value in
    c.copy.ensures ∙ c.list.ensures ∙ list_at c.args.conn c.self.inside.clients.items c.in-Some.place c.index-client.result.now place c.index-client.ensures ∙ ap (list_of c.args.conn) c.self.view_is

pub returns-in-None : goal.returns-in-None
returns-in-None c =
    let nowhere : None ≡ position (is_of c.args.conn) c.args.self.now = sym c.in-None.is ∙ c.find.ensures ∙ ap (position (is_of c.args.conn)) (c.deref.ensures.value ∙ c.self.view_is) in
    c.clear.ensures ∙ sym (list_none c.args.conn c.args.self.now nowhere)
