use Rattle.std.proofs.Common.{◌≡◌, ap, sym, subst, ◌∙◌, Some, None}
use Rattle.std.specs.List.{position}
use Rattle.outbox.specs.Fronts.{IsFrontOf}
use Rattle.connections.specs.Table.{Table, left_for, queue_of}
use Rattle.connections.proofs.Named.{is_named}
use Rattle.connections.proofs.Regular.{table}
use Rattle.connections.proofs.Tables.{queue_is, queue_none}
use Rattle.connections.proofs.connections.Connections.queued.Goals as goal

pub returns-in-Some : goal.returns-in-Some
returns-in-Some g c =
    let stands : Some c.in-Some.place ≡ position (is_named c.args.name) c.args.self.now.present =
    c.in-Some.ensures ∙ ap (position (is_named c.args.name)) c.deref.ensures.value ∙ ap (λ (o : Table g.row.T.Denot). position (is_named c.args.name) o.present) c.self.view_is
    in subst (IsFrontOf _) (sym (queue_is c.self.view_is c.args.name c.in-Some.place stands c.index-connection.result.now c.index-connection.ensures)) c.queued.ensures

pub returns-in-None : goal.returns-in-None
returns-in-None g c =
    let t : Table g.row.T.Denot = table c.self.inside.present.items c.self.inside.dropped.items c.self.inside.greatest c.self.inside.limit c.self.inside.room in
    let none : None ≡ position (is_named c.args.name) t.present = c.in-None.ensures ∙ ap (position (is_named c.args.name)) c.deref.ensures.value in
    subst (IsFrontOf _) (ap (left_for c.args.name) c.deref-in-None.ensures.value ∙ queue_none t c.args.name none ∙ ap (λ (o : Table g.row.T.Denot). queue_of c.args.name o) c.self.view_is) c.queued-in-None.ensures
