use Rattle.std.proofs.Common.{sym, ◌∙◌}
use Rattle.connections.proofs.Regular.{regular_set}
use Rattle.connections.proofs.Tables.{brought_on, brought_off, brought_none}
use Rattle.connections.proofs.connections.Connections.bring.Goals as goal

pub invariant_of-self : goal.invariant_of-self
invariant_of-self g c = record {
  regular = regular_set c.self.invariant.regular c.in-Some.place c.index_mut-connection.result.now c.hear.new.self c.index_mut-connection.ensures.value c.hear.ensures.name c.hear.ensures.capacity;
  places = c.self.invariant.places;
}

pub invariant_of-self-2 : goal.invariant_of-self-2
invariant_of-self-2 g c = record {
  regular = regular_set c.self.invariant.regular c.in-Some.place c.index_mut-connection.result.now c.hear.new.self c.index_mut-connection.ensures.value c.hear.ensures.name c.hear.ensures.capacity;
  places = c.self.invariant.places;
}

pub returns-in_default : goal.returns-in_default
returns-in_default g c =
    let all = brought_none c.args.self.now c.args.name c.in_default.ensures.place g.F.Framing.size g.S.Hears.hears c.args.piece.now c.args.beside.now in
    record { table = all.0; beside = all.1; stays = all.2; regular = c.in_default.ensures.regular }

pub returns-then-hear : goal.returns-then-hear
returns-then-hear g c =
    let all =
    brought_on c.self.view_is c.args.name c.in-Some.place c.in-Some.ensures.place c.index_mut-connection.result.now c.index_mut-connection.ensures.value g.F.Framing.size g.S.Hears.hears c.args.piece.now c.args.beside.now c.hear.new.self c.hear.new.beside c.hear.ensures.beside
    (sym c.if-hear.true ∙ c.hear.ensures.goes_on) (c.hear.ensures.heard c.if-hear.true)
    in record { table = all.0; beside = all.1; stays = all.2; regular = c.in-Some.ensures.regular }

pub returns : goal.returns
returns g c =
    let all =
    brought_off c.self.view_is c.args.name c.in-Some.place c.in-Some.ensures.place c.index_mut-connection.result.now c.index_mut-connection.ensures.value g.F.Framing.size g.S.Hears.hears c.args.piece.now c.args.beside.now c.hear.new.self c.hear.new.beside c.hear.ensures.beside
    (sym c.if-hear.false ∙ c.hear.ensures.goes_on) c.hear.ensures.name c.hear.ensures.outbox c.drop_at.new.self c.drop_at.ensures
    in record { table = all.0; beside = all.1; stays = all.2; regular = c.in-Some.ensures.regular }
