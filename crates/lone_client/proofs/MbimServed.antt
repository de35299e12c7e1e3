-- A client that is alone behind an MBIM proxy is served turn by turn. Lists of turns have the newest first.
use Rattle.std.proofs.Common.{◌≡◌, ℕ, List, [], ◌∷◌, refl, arith, subst}
use Rattle.framing.specs.Cutting.{cut_from}
use Rattle.proxy_history.specs.Connections.{present, message_count}
use Rattle.proxy_history.specs.Requests.{in_use, pending, last_number}
use Rattle.proxy_history.specs.Modem.{to_modem, modem_taken_count}
use Rattle.proxy_history.specs.View.{view}
use Rattle.proxy_history.specs.Rendering.{render}
use Rattle.proxy_history.specs.Wording.{told_by}
use Rattle.proxy_history.specs.History as proxy
use Rattle.proxy_history.specs.Streams.{stream, modem_stream}
use Rattle.mbim_proxy.specs.Known.{Ask}
use Rattle.mbim_proxy.specs.ModemStates.{state}
use Rattle.mbim_proxy.specs.Lists.{askers, last_list}
use Rattle.mbim_solo.proofs.Spoken.{starts_quiet}
use Rattle.lone_client.specs.Relay.{Answering, Stage, relayed}
use Rattle.lone_client.specs.Turns as turns
use Rattle.lone_client.specs.Turns.{Turn, Names, Opens, Commands, Closes, Phase, Joined, Named, Opened}
use Rattle.lone_client.specs.MbimLaw as law
use Rattle.lone_client.specs.MbimLaw.{IsMet, AreMet, IsServed, LoneClientsAreServed}
use Rattle.lone_client.proofs.MbimCalm.{s}
use Rattle.lone_client.proofs.Events.{Stands, nothing_is_unheard}
use Rattle.lone_client.proofs.Turns.{scene_at, Taken, names, opens, commands, closes_turn}

module _ (device : List ℕ) (time_limit : ℕ) (modem : Answering) where
  abbrev At : Stage → Phase → ℕ → Type 0
  At stage phase last = (sent : ℕ) × (asks : List Ask) × Stands device time_limit [] (scene_at phase sent asks last) stage.events

  -- so the proxy stands between two turns
  abbrev Standing : List Turn → Type 0
  Standing before = At (law.stage_after device time_limit modem before) (turns.phase_after before) (turns.last_number before)

  -- before any turn
  begun : Standing []
  unfolding relayed proxy.history proxy.add_all present in_use pending view to_modem modem_taken_count last_number askers last_list state message_count render told_by stream modem_stream cut_from
  begun = (
    _,
    _,
    record {
      sound = (omega arith, tt);
      whole = refl;
      heard = [];
      heard_is = refl;
      quiet = starts_quiet (s device time_limit);
      unheard = nothing_is_unheard;
      rests = refl;
      calm = record {
        there = refl;
        knows = refl;
        counts = refl;
        modem_is = refl;
        listed_is = refl;
        uses = refl;
        pends = refl;
        last_is = refl;
        taken = [];
        to_it = refl;
        count = refl;
        written = record { are = refl; fits = refl };
      };
    },
  )

  module _ (turn : Turn) (before : List Turn) (met : IsMet device time_limit modem turn before) where
    abbrev Served : Type 0
    Served = IsServed device time_limit modem turn before met × Standing (turn ∷ before)

    served_by : Taken device time_limit modem turn before (law.got device time_limit modem turn before met) (law.stage_after device time_limit modem before) → Served
    unfolding relayed
    served_by taken =
        let e = taken.2 in
        (record { reply_is = e.reply_is; asked_is = e.asked_is; sound = e.stands.sound }, (taken.0, taken.1, e.stands))

    abbrev phased : {phase : Phase} → turns.phase_after before ≡ phase → Standing before → At (law.stage_after device time_limit modem before) phase (turns.last_number before)
    phased is standing = subst (λ (p : Phase). At (law.stage_after device time_limit modem before) p (turns.last_number before)) is standing

  served : (turn : Turn) (before : List Turn) (met : IsMet device time_limit modem turn before) → Standing before → Served turn before met
  served (Names number command) before met standing =
      let at_it = phased (Names number command) before met met.phase standing in
      served_by (Names number command) before met (names device time_limit modem number command before met at_it.0 at_it.1 (law.stage_after device time_limit modem before) at_it.2)
  served (Opens number) before met standing =
      let at_it = phased (Opens number) before met met.phase standing in
      served_by (Opens number) before met (opens device time_limit modem number before met at_it.0 at_it.1 (law.stage_after device time_limit modem before) refl at_it.2)
  served (Commands number command) before met standing =
      let at_it = phased (Commands number command) before met met.phase standing in
      served_by (Commands number command) before met (commands device time_limit modem number command before met at_it.0 at_it.1 (law.stage_after device time_limit modem before) refl at_it.2)
  served (Closes number) before met standing =
      let at_it = phased (Closes number) before met met.phase standing in
      served_by (Closes number) before met (closes_turn device time_limit modem number before met at_it.0 at_it.1 (law.stage_after device time_limit modem before) refl at_it.2)

  standing : (before : List Turn) → AreMet device time_limit modem before → Standing before
  standing [] met = begun
  standing (turn ∷ before) met = (served turn before met.0 (standing before met.1)).1

pub lone_clients_are_served : LoneClientsAreServed
lone_clients_are_served device time_limit modem turn before met are = (served device time_limit modem turn before met (standing device time_limit modem before are)).0
