-- Cores that met what all do, and what the client meets alone.
use Rattle.std.proofs.Common.{ℕ, List, [], ◌∷◌, refl, ap, sym, ◌∙◌, map, append-nil}
use Rattle.proxy_history.specs.Events.{Event}
use Rattle.proxy_history.specs.Connections.{dropped}
use Rattle.proxy_history.specs.Rendering.{Rendering}
use Rattle.proxy_history.specs.Protocol.{Protocol}
use Rattle.proxy_history.specs.History.{history}
use Rattle.proxy_state.specs.State.{Core, Handlers}
use Rattle.proxy_state.specs.Stands.{Kept, CanStep, Stands, dropped_client_of}
use Rattle.proxy_state.proofs.Waiting.{waiting_is}
use Rattle.proxy_solo.specs.Alone.{Alone}
use Rattle.proxy_solo.specs.Law.{IsLetAlone, GetsTheSame}
use Rattle.proxy_solo.specs.Cores.{hung_up, core_after, QueueTheSame, StepsWithWhatMayCome, MeetsWhatMayCome}

module _ {Known T S : Type 0} (p : Protocol Known) (k : Kept Known T S) where
  pub queue_the_same : (a : Alone) (c : ℕ) (events : List Event) (core own : Core T S) → (IsLetAlone p c events → GetsTheSame p a c events) → QueueTheSame p k a c events core own
  queue_the_same a c events core own same L stands alone owed owed_own =
      waiting_is p k events core stands c owed
      ∙ ap (λ (r : Rendering). r.waiting) (sym (same L))
      ∙ sym (waiting_is p k _ own alone c owed_own)

  -- it stands for its events whomever it was asked for
  pub stands_hung_up : (events : List Event) (core : Core T S) → Stands p k events core → Stands p k events (hung_up core)
  stands_hung_up events core stands = record {
    holds = record {
      connections = stands.holds.connections;
      beside = stands.holds.beside;
      greatest = stands.holds.greatest;
      limit = stands.holds.limit;
      room = stands.holds.room;
      names = stands.holds.names;
    };
    dropped_clients = (_, append-nil (map (dropped_client_of p (history p events)) (dropped (history p events))));
    rest = stands.rest;
    sound = stands.sound;
  }

  -- a core that stands for no event yet, and steps as it may
  pub meets_what_may_come : (h : Handlers T S) (opened : Core T S) (step : Event → Core T S → Core T S) → StepsWithWhatMayCome p k h → Stands p k [] opened
      → ((event : Event) (events : List Event) (core : Core T S) → CanStep h event core → Stands p k events core → Stands p k (event ∷ events) (step event core)) → MeetsWhatMayCome p k opened step
  unfolding core_after
  meets_what_may_come h opened step steps first next [] sound = first
  meets_what_may_come h opened step steps first next (event ∷ events) sound =
      let before : Core T S = hung_up (core_after opened step events) in
      let stands : Stands p k events before = stands_hung_up events (core_after opened step events) (meets_what_may_come h opened step steps first next events sound.1) in
      next event events before ((steps event events before stands refl).1 sound.0) stands
