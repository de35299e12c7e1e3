-- A core of several QMI devices stands for its events.
use Rattle.std.proofs.Common.{◌≡◌, ℕ, zero, suc, ◌<◌, Bool, List, [], ◌∷◌, length, map, get_or, position, slice_get, refl, ap, sym, arith, Option, Some, None}
use Rattle.std.proofs.lemmas.List.{length-map}
use Rattle.std.proofs.lemmas.List.Quantifiers.{position-Some}
use Rattle.proxy_history.specs.Facts.{Fact, Request}
use Rattle.proxy_history.specs.Connections.{dropped}
use Rattle.proxy_history.specs.History.{history}
use Rattle.proxy_state.specs.State.{dropped_clients_in}
use Rattle.proxy_state.specs.Stands as proxy
use Rattle.proxy_state.proofs.Waiting.{steps_may_come, may_step}
use Rattle.qmi_proxy.specs.History.{qmi_protocol}
use Rattle.qmi_proxy.specs.Regular.{Regular}
use Rattle.qmi_proxy.proofs.Walk.{Asks, orderly}
use Rattle.qmi_state.specs.Core.{QmiCore, kept_of, opened}
use Rattle.qmi_state.specs.Transitions.{qmi_handlers}
use Rattle.qmi_state.proofs.Steps.{is_faithful, stands_open, stands_step}
use Rattle.many_history.specs.Devices.{HasDevices}
use Rattle.many_history.specs.Many.{many}
use Rattle.many_state.specs.Laws.{IsProxysCore}
use Rattle.many_state.proofs.Steps.{step_stands, waiting_is_text}
use Rattle.many_state.proofs.Meets.{meets_what_may_come}
use Rattle.many_state.proofs.Stays.{all_stay_there}
use Rattle.many_state.proofs.Room.{has_room}
use Rattle.qmi_many.specs.Devices.{setup_at, chooses, or_first, qmi_devices}
use Rattle.qmi_many_state.specs.Core.{Stands, opened_for, nobody, KeepsStanding}

-- the device of a path
opened_at : {X Y : Type 0} (f : X → Y) (xs : List X) (d : ℕ) (y : Y) (none : X) → slice_get (map f xs) d ≡ Some y → y ≡ f (get_or xs d none)
opened_at f [] d y none is = absurd (cc)
opened_at f (x ∷ xs) zero y none is = (let same : f x ≡ y = cc in sym same)
opened_at f (x ∷ xs) (suc d) y none is = opened_at f xs d y none is

module _ (paths : List (List ℕ)) (time_limit : ℕ) (release : Option ℕ) where
  is_core : IsProxysCore (qmi_devices paths time_limit release) (λ d. kept_of (setup_at paths time_limit release d)) qmi_handlers
  is_core = record {
    steps = λ d event events core S none. (
      λ can. steps_may_come (qmi_protocol (setup_at paths time_limit release d)) (kept_of (setup_at paths time_limit release d)) qmi_handlers Regular (is_faithful (setup_at paths time_limit release d)) events core S event can,
      λ may. may_step (qmi_protocol (setup_at paths time_limit release d)) (kept_of (setup_at paths time_limit release d)) qmi_handlers Regular (is_faithful (setup_at paths time_limit release d)) events core S none event may,
    );
    stands = λ d event events core can S. stands_step (setup_at paths time_limit release d) event events core can S;
  }

  each_asks : ℕ → Request → List Fact → Type 0
  each_asks d = Asks (setup_at paths time_limit release d)

  opened_stands : Stands paths time_limit release [] (nobody paths time_limit release)
  unfolding many history dropped
  opened_stands = record {
    count = length-map paths (opened_for paths time_limit release);
    cores = λ d core at. of_path d core (opened_at (opened_for paths time_limit release) paths d core [] at);
    seats = refl;
    dropped = ([], refl);
    greatest = refl;
    sound = tt;
  }
    where
      of_path : (d : ℕ) (core : QmiCore) → core ≡ opened (setup_at paths time_limit release d) → proxy.StandsAfter (qmi_protocol (setup_at paths time_limit release d)) (kept_of (setup_at paths time_limit release d)) [] core
      of_path d core is = record { stands = stands_open (setup_at paths time_limit release d) core is; all_dropped = ap (λ (c : QmiCore). dropped_clients_in c.state.table.dropped) is }

  module _ (some : 0 < length paths) where
    first_or : (choice : Option ℕ) (f : List ℕ → Bool) → position f paths ≡ choice → or_first choice < length paths
    first_or None f is = some
    first_or (Some d) f is = (position-Some f paths d [] is).0

    has_devices : HasDevices (qmi_devices paths time_limit release)
    has_devices = record { some = some; choice = λ m. first_or (position (chooses m) paths) (chooses m) refl }

    pub keeps_standing : KeepsStanding paths time_limit release
    unfolding each_asks
    keeps_standing =
        let s = qmi_devices paths time_limit release in
        let k = λ (d : ℕ). kept_of (setup_at paths time_limit release d) in
        record {
          devices = has_devices;
          opened = opened_stands;
          steps = λ event events x may S. step_stands s k qmi_handlers has_devices is_core event events x may S;
          may_come = λ event events x S. meets_what_may_come s k qmi_handlers has_devices is_core events x S event;
          stays = λ event events x may S moves. all_stay_there s k qmi_handlers has_devices is_core each_asks (λ d. orderly (setup_at paths time_limit release d)) event events x may S moves;
          room = λ events x c bytes d S of at. has_room s k each_asks (λ d. orderly (setup_at paths time_limit release d)) (λ d. omega arith) events x c bytes d S of at;
          waiting = λ events x c place S at. waiting_is_text s k has_devices events x c place S at;
        }
