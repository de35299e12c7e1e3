use Rattle.std.proofs.Common.{◌≤◌, ℕ, List, length, ap, subst}
use Rattle.connections.specs.Table.{Connection}
use Rattle.connections.proofs.Regular.{regular_set}
use Rattle.connections.proofs.Tables.{took_is, took_none, queue_is}
use Rattle.connections.proofs.connections.Connections.take.Goals as goal

pub take-requires : goal.take-requires
take-requires g c =
    subst (λ (l : List ℕ). c.args.count ≤ length l)
    (queue_is c.self.view_is c.args.name c.in-Some.place c.in-Some.ensures.place c.index_mut-connection.result.now c.index_mut-connection.ensures.value) c.requires

pub invariant_of-self : goal.invariant_of-self
invariant_of-self g c = record {
  regular =
      regular_set c.self.invariant.regular c.in-Some.place c.index_mut-connection.result.now c.take.new.self c.index_mut-connection.ensures.value
      (ap (λ (l : Connection g.row.T.Denot). l.name) c.take.ensures) (ap (λ (l : Connection g.row.T.Denot). l.outbox.capacity) c.take.ensures);
  places = c.self.invariant.places;
}

pub returns-in-Some : goal.returns-in-Some
returns-in-Some g c =
    took_is c.self.view_is c.args.name c.in-Some.place c.in-Some.ensures.place c.index_mut-connection.result.now c.index_mut-connection.ensures.value c.args.count c.take.new.self c.take.ensures

pub returns-in_default : goal.returns-in_default
returns-in_default g c = took_none c.args.self.now c.args.name c.in_default.ensures.place c.args.count
