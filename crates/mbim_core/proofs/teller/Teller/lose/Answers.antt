use Rattle.std.proofs.Common.{ap, sym, ◌∙◌}
use Rattle.connections.specs.Table.{Table}
use Rattle.subscriptions.specs.Clients.{merged}
use Rattle.mbim_proxy.specs.Setup.{Setup}
use Rattle.mbim_state.specs.Core.{Client, ModemSide, MbimState, setup_of}
use Rattle.mbim_state.specs.Transitions.{shut_all, lost}
use Rattle.mbim_core.specs.State.{state_of}
use Rattle.mbim_core.proofs.teller.Teller.lose.Goals as goal

pub returns : goal.returns
returns c =
    let s : Setup = setup_of c.args.side.now in
    let shut : Table Client → Table Client = λ t. record t { present = shut_all s t.present } in
    let is = c.expire.ensures.agrees in
    record {
      told =
          ap (λ (t : Table Client). state_of t c.lose.new.self) (c.shut_all.ensures.shut s)
          ∙ ap (state_of (shut c.expire.new.connections)) c.lose.ensures
          ∙ ap (λ (x : MbimState). state_of (shut x.table) (lost x.beside)) c.expire.ensures.told;
      agrees = record {
        limit = ap (λ (t : Table Client). t.limit) (c.shut_all.ensures.shut s) ∙ is.limit;
        subscribed = c.shut_all.ensures.follows is.subscribed;
        asked = λ asked. let was = c.shut_all.ensures.asked asked in ap merged was.1 ∙ is.asked was.0 ∙ sym (ap (λ (side : ModemSide). side.last_list) c.lose.ensures);
      };
    }
