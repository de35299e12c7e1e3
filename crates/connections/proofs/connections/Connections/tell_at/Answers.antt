use Rattle.std.proofs.Common.{◌++◌, ℕ, List, ap, sym, ◌∙◌}
use Rattle.connections.specs.Table.{Connection}
use Rattle.connections.proofs.Rooms.{puts_capacity, puts_name}
use Rattle.connections.proofs.Regular.{regular_set}
use Rattle.connections.proofs.Tables.{told_is, untold_is}
use Rattle.connections.proofs.connections.Connections.tell_at.Goals as goal

pub invariant_of-self : goal.invariant_of-self
invariant_of-self g c =
    let k : Connection g.row.T.Denot = c.index_mut-connection.result.now in
    let bytes : List ℕ = c.args.head.now ++ c.args.rest.now in
    record {
      regular =
          regular_set c.self.invariant.regular c.args.place k c.put.new.self c.index_mut-connection.ensures.value
          (ap (λ (l : Connection g.row.T.Denot). l.name) c.put.ensures.put ∙ puts_name bytes k)
          (ap (λ (l : Connection g.row.T.Denot). l.outbox.capacity) c.put.ensures.put ∙ puts_capacity bytes k);
      places = c.self.invariant.places;
    }

pub returns-then-put : goal.returns-then-put
returns-then-put g c =
    let all =
    told_is c.self.view_is c.args.name c.args.place c.requires c.index_mut-connection.result.now c.index_mut-connection.ensures.value (c.args.head.now ++ c.args.rest.now) c.put.new.self c.put.ensures.put
    (sym c.put.ensures.room ∙ c.if-put.true)
    in record { told = all.0; stays = all.1 }

pub returns : goal.returns
returns g c =
    let all =
    untold_is c.self.view_is c.args.name c.args.place c.requires c.index_mut-connection.result.now c.index_mut-connection.ensures.value (c.args.head.now ++ c.args.rest.now) c.put.new.self c.put.ensures.put
    (sym c.put.ensures.room ∙ c.if-put.false) c.drop_at.new.self c.drop_at.ensures
    in record { told = all.0; stays = all.1 }
