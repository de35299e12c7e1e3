use Rattle.std.proofs.Common.{◌≡◌, ◌<◌, length, get_or, ap, refl, sym, ◌∙◌, subst}
use Rattle.std.proofs.lemmas.List.{get_or_default}
use Rattle.connections.specs.Table.{Connection, Table, with_client, with_client_at}
use Rattle.connections.proofs.Regular.{table, regular_set}
use Rattle.connections.proofs.Tables.{with_present, client_changed}
use Rattle.connections.proofs.connections.Connections.client_mut.Goals as goal

pub invariant_of-self-lent : goal.invariant_of-self-lent
invariant_of-self-lent g c w =
    let k : Connection g.row.T.Denot = c.index_mut-connection.result.now in
    record { regular = regular_set c.self.invariant.regular c.args.place k (with_client w k) c.index_mut-connection.ensures.value refl refl; places = c.self.invariant.places }

pub returns : goal.returns
returns g c =
    let t : Table g.row.T.Denot = table c.self.inside.present.items c.self.inside.dropped.items c.self.inside.greatest c.self.inside.limit c.self.inside.room in
    let r : Connection g.row.T.Denot = c.index_mut-connection.result.now in
    let within = subst (λ (o : Table g.row.T.Denot). c.args.place < length o.present) (sym c.self.view_is) c.requires in
    let at : r ≡ get_or c.args.self.now.present c.args.place r = c.index_mut-connection.ensures.value ∙ ap (λ (o : Table g.row.T.Denot). get_or o.present c.args.place r) c.self.view_is in (
      (refl, λ w. ap (with_present t) (client_changed t.present c.args.place r w within c.index_mut-connection.ensures.value) ∙ ap (with_client_at c.args.place w) c.self.view_is),
      record {
        writes_back = tt;
        client = λ k is. c.client_mut.ensures.client ∙ ap (λ (l : Connection g.row.T.Denot). l.client) (at ∙ get_or_default c.args.self.now.present c.args.place r k c.requires ∙ sym is);
      },
    )
