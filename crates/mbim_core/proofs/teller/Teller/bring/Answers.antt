use Rattle.std.proofs.Common.{◌<◌, true, false, List, length, ap, sym, ◌∙◌}
use Rattle.connections.specs.Table.{Connection, Table}
use Rattle.connections.proofs.Named.{inside, found_at, none_found}
use Rattle.mbim_frame.specs.Frame.{size_of}
use Rattle.proxy_core.proofs.Limit.{brought_limit}
use Rattle.proxy_state.specs.Chosen.{StandsAt}
use Rattle.proxy_state.proofs.Places.{connection_at, stands_at}
use Rattle.mbim_clients.specs.Client.{newcomer}
use Rattle.mbim_state.specs.Core.{Client, ModemSide, MbimState}
use Rattle.mbim_core.specs.State.{state_of}
use Rattle.mbim_core.proofs.Brought.{brought_is, brought_list, hears}
use Rattle.mbim_core.proofs.Hands.{brought_follows, brought_nobody, brought_leaves, left_of, stays_of, follows_of}
use Rattle.mbim_core.proofs.teller.Teller.bring.Goals as goal

pub returns-then-not-bring : goal.returns-then-not-bring
returns-then-not-bring c =
    let was : MbimState = state_of c.args.connections.now c.args.side.now in
    record {
      told =
          ap (state_of c.bring.new.self) c.give_up.ensures
          ∙ brought_is c.args.name c.args.piece.now was c.bring.new.self c.bring.new.beside false c.bring.ensures.table c.bring.ensures.beside (sym c.if-not-bring.true ∙ c.bring.ensures.stays);
      agrees = left_of _ _ _ c.requires.agrees c.args.name _ c.bring.new.self _ c.leave.ensures
          (ap (λ (t : Table Client). t.limit) c.bring.ensures.table ∙ brought_limit size_of hears c.args.name c.args.piece.now c.args.connections.now c.args.side.now)
          (brought_leaves c.args.name c.args.piece.now c.args.connections.now c.args.side.now c.bring.new.self c.bring.ensures.table c.bring.ensures.regular.rising (sym c.bring.ensures.stays ∙ c.if-not-bring.true));
    }

pub returns-in-Some : goal.returns-in-Some
returns-in-Some c =
    let was : MbimState = state_of c.args.connections.now c.args.side.now in
    let present : List (Connection Client) = c.bring.new.self.present in
    let k : Connection Client = connection_at newcomer present c.in-Some.place in
    let within : c.in-Some.place < length present = inside c.args.name present c.in-Some.place c.in-Some.ensures.place k in
    let at : StandsAt k present c.in-Some.place = stands_at newcomer present c.in-Some.place within in
    record {
      told = brought_is c.args.name c.args.piece.now was c.bring.new.self c.bring.new.beside true c.bring.ensures.table c.bring.ensures.beside (sym c.if-not-bring.false ∙ c.bring.ensures.stays);
      agrees = follows_of _ _ _ c.requires.agrees k _ c.bring.new.self c.bring.new.beside (c.follow.ensures.follows k at)
          (ap (λ (t : Table Client). t.limit) c.bring.ensures.table ∙ brought_limit size_of hears c.args.name c.args.piece.now c.args.connections.now c.args.side.now)
          (ap (λ (side : ModemSide). side.last_list) c.bring.ensures.beside ∙ brought_list c.args.name c.args.piece.now was)
          (brought_follows c.args.name c.args.piece.now c.args.connections.now c.args.side.now c.bring.new.self c.bring.ensures.table k (sym c.bring.ensures.stays ∙ c.if-not-bring.false) (found_at c.args.name present c.in-Some.place c.in-Some.ensures.place k at));
    }

pub returns-in_default : goal.returns-in_default
returns-in_default c =
    let was : MbimState = state_of c.args.connections.now c.args.side.now in
    record {
      told = brought_is c.args.name c.args.piece.now was c.bring.new.self c.bring.new.beside true c.bring.ensures.table c.bring.ensures.beside (sym c.if-not-bring.false ∙ c.bring.ensures.stays);
      agrees = stays_of _ _ _ c.requires.agrees c.bring.new.self c.bring.new.beside
          (ap (λ (t : Table Client). t.limit) c.bring.ensures.table ∙ brought_limit size_of hears c.args.name c.args.piece.now c.args.connections.now c.args.side.now)
          (ap (λ (side : ModemSide). side.last_list) c.bring.ensures.beside ∙ brought_list c.args.name c.args.piece.now was)
          (brought_nobody c.args.name c.args.piece.now c.args.connections.now c.args.side.now c.bring.new.self c.bring.ensures.table (sym c.bring.ensures.stays ∙ c.if-not-bring.false) (none_found c.args.name c.bring.new.self.present (sym c.in_default.ensures.place)));
    }
