-- What each event makes of a core of several QMI devices.
use Rattle.std.proofs.Common.{◌≡◌, ℕ, ◌≤◌, Bool, true, false, ◌==◌, List, [], ◌∷◌, length, map, slice_get, refl, ap, sym, ◌∙◌, subst, arith, Some}
use Rattle.std.proofs.lemmas.Bool.{eqb-true}
use Rattle.hub_io.specs.declared.settings.Limits.{Limits}
use Rattle.proxy_history.specs.Events.{Event}
use Rattle.proxy_history.specs.Events as one
use Rattle.proxy_solo.specs.Cores.{core_after}
use Rattle.qmi_state.specs.Core.{QmiCore}
use Rattle.qmi_state.specs.Transitions.{qmi_handlers}
use Rattle.many_history.specs.Events.{ManyEvent, Now}
use Rattle.many_history.specs.Devices.{Devices}
use Rattle.many_history.specs.Many.{Place, Undecided, Seat, only_at, events_if, parts, refused}
use Rattle.many_state.specs.Core.{each_from, core_behind, names_of, greatest_after, cores_after, seats_before}
use Rattle.many_state.proofs.Same.{each_has_as_many}
use Rattle.many_state.specs.Laws.{AreAll, NobodyJoins, is_joining}
use Rattle.qmi_many.specs.Devices.{qmi_devices}
use Rattle.many_seats.specs.Seats.{Seating}
use Rattle.many_cores.specs.Cores.{after, met, at_place, HasNoFewer}
use Rattle.many_core.specs.Core.{ManyCore, MovesNobody, with_cores, devices_of}
use Rattle.many_core.specs.Core as many
use Rattle.many_core.proofs.Parts.{all_stay, one_changes, each_changes}

pub nothing_met : (core : QmiCore) → after [] core ≡ core
unfolding core_after
nothing_met core = refl

pub one_met : (event : Event) (core : QmiCore) → after (event ∷ []) core ≡ met event core
unfolding core_after
one_met event core = refl

-- a core of these devices
abbrev pub value : List (List ℕ) → Limits → List QmiCore → Seating → ManyCore
value paths limits cores s = record { paths = paths; limits = limits; core = record { cores = cores; seats = s.seats; dropped = s.dropped; greatest = s.greatest } }

module _ (paths : List (List ℕ)) (limits : Limits) (cores : List QmiCore) (s : Seating) where
  abbrev devices : Devices Bool
  devices = qmi_devices paths limits.time limits.release

  abbrev x : ManyCore
  x = value paths limits cores s

  module _ (event : ManyEvent) where
    abbrev part : ℕ → List Event
    part d = parts devices event s.seats (names_of cores) d

    cores_are : (g : ℕ → List Event) → ((d : ℕ) → part d ≡ g d) → cores_after devices qmi_handlers event x.core ≡ each_from (λ d core. after (g d) core) 0 cores
    cores_are g same = ap (λ (f : ℕ → List Event). each_from (λ d core. after (f d) core) 0 cores) (λ i d. same d i)

    pub met_is : (its : List QmiCore) (new : Seating) → cores_after devices qmi_handlers event x.core ≡ its → seats_before devices qmi_handlers event x.core ≡ new.seats
        → refused devices event s.seats ≡ new.dropped → greatest_after event s.greatest ≡ new.greatest → value paths limits its new ≡ many.met event x
    met_is its new c q d g =
        sym
        (ap (λ (l : List QmiCore). value paths limits l (record { seats = seats_before devices qmi_handlers event x.core; dropped = refused devices event s.seats; names = new.names; greatest = greatest_after event s.greatest })) c
        ∙ ap (λ (l : List Seat). value paths limits its (record { seats = l; dropped = refused devices event s.seats; names = new.names; greatest = greatest_after event s.greatest })) q
        ∙ ap (λ (l : List Seat). value paths limits its (record { seats = new.seats; dropped = l; names = new.names; greatest = greatest_after event s.greatest })) d
        ∙ ap (λ (n : ℕ). value paths limits its (record { seats = new.seats; dropped = new.dropped; names = new.names; greatest = n })) g)

    -- no device meets anything
    module _ (none : (d : ℕ) → part d ≡ []) where
      pub no_core_changes : cores_after devices qmi_handlers event x.core ≡ cores
      no_core_changes = cores_are (λ d. []) none ∙ all_stay after nothing_met 0 cores

      pub quiet : ((f : Place → Bool) → ((bytes : List ℕ) → f (Undecided bytes) ≡ true) → AreAll f s.seats → AreAll f (seats_before devices qmi_handlers event x.core)) → MovesNobody event x
      quiet places = record {
        places = places;
        joins = λ d. subst NobodyJoins (sym (none d)) tt;
        as_many = λ d core at. subst (λ (l : List Event). length core.state.table.present ≤ length (after l core).state.table.present) (sym (none d)) (subst (λ (k : QmiCore). length core.state.table.present ≤ length k.state.table.present) (sym (nothing_met core)) (omega arith));
      }

    -- one device meets one event
    module _ (d : ℕ) (its : Event) (only : (e : ℕ) → part e ≡ only_at d (its ∷ []) e) where
      pub one_core_changes : cores_after devices qmi_handlers event x.core ≡ at_place d (met its) cores
      one_core_changes =
          cores_are (only_at d (its ∷ [])) only ∙ one_changes after nothing_met (its ∷ []) d cores ∙ ap (λ (f : QmiCore → QmiCore). at_place d f cores) (λ i core. one_met its core i)

      pub hot : is_joining its ≡ false → HasNoFewer d its cores → seats_before devices qmi_handlers event x.core ≡ s.seats → MovesNobody event x
      hot joins_none fewer same = record {
        places = λ f undecided all. subst (AreAll f) (sym same) all;
        joins = λ e. subst NobodyJoins (sym (only e)) (joins_if (e == d));
        as_many = λ e core at. subst (λ (l : List Event). length core.state.table.present ≤ length (after l core).state.table.present) (sym (only e)) (many_if e core at (e == d) refl);
      }
        where
          joins_if : (b : Bool) → NobodyJoins (events_if b (its ∷ []))
          joins_if true = (joins_none, tt)
          joins_if false = tt

          many_if : (e : ℕ) (core : QmiCore) → slice_get cores e ≡ Some core → (b : Bool) → (e == d) ≡ b → length core.state.table.present ≤ length (after (events_if b (its ∷ [])) core).state.table.present
          many_if e core at true here =
              subst (λ (k : QmiCore). length core.state.table.present ≤ length k.state.table.present) (sym (one_met its core)) (fewer core (ap (slice_get cores) (sym (eqb-true e d here)) ∙ at))
          many_if e core at false other = subst (λ (k : QmiCore). length core.state.table.present ≤ length k.state.table.present) (sym (nothing_met core)) (omega arith)

    -- one device has a client that arrives
    pub one_arrives : (d : ℕ) (its : List Event) → ((e : ℕ) → part e ≡ only_at d its e) → cores_after devices qmi_handlers event x.core ≡ at_place d (after its) cores
    one_arrives d its only = cores_are (only_at d its) only ∙ one_changes after nothing_met its d cores

  -- ---- where nobody comes, goes or moves ----

  module _ (event : ManyEvent) (same : seats_before devices qmi_handlers event x.core ≡ s.seats) (refuses : refused devices event s.seats ≡ []) (greatest : greatest_after event s.greatest ≡ s.greatest) (hung_up : s.dropped ≡ []) where
    pub stays_is : ((d : ℕ) → part event d ≡ []) → x ≡ many.met event x
    stays_is none = met_is event cores s (no_core_changes event none) same (refuses ∙ sym hung_up) greatest

    pub one_is : (d : ℕ) (its : Event) → ((e : ℕ) → part event e ≡ only_at d (its ∷ []) e) → value paths limits (at_place d (met its) cores) s ≡ many.met event x
    one_is d its only = met_is event (at_place d (met its) cores) s (one_core_changes event d its only) same (refuses ∙ sym hung_up) greatest

  -- ---- the clock ----

  pub all_ticked : (time : ℕ) → cores_after devices qmi_handlers (Now time) x.core ≡ map (met (one.Now time)) cores
  all_ticked time = cores_are (Now time) (λ d. one.Now time ∷ []) (λ d. refl) ∙ each_changes (after (one.Now time ∷ [])) 0 cores ∙ ap (λ (f : QmiCore → QmiCore). map f cores) (λ i core. one_met (one.Now time) core i)

  pub ticks_move_nobody : (time : ℕ) → ((d : ℕ) → HasNoFewer d (one.Now time) cores) → MovesNobody (Now time) x
  ticks_move_nobody time fewer = record {
    places = λ f undecided all. all;
    joins = λ d. (refl, tt);
    as_many = λ d core at. subst (λ (k : QmiCore). length core.state.table.present ≤ length k.state.table.present) (sym (one_met (one.Now time) core)) (fewer d core at);
  }

-- ---- a core as it is seen ----

abbrev pub seating_of : ManyCore → Seating
seating_of x = record { seats = x.core.seats; dropped = x.core.dropped; names = []; greatest = x.core.greatest }

module _ (x : ManyCore) (event : ManyEvent) (d : ℕ) (its : Event) (only : (e : ℕ) → part x.paths x.limits x.core.cores (seating_of x) event e ≡ only_at d (its ∷ []) e) where
  -- an event of a modem
  pub modem_is : seats_before (devices_of x) qmi_handlers event x.core ≡ x.core.seats → refused (devices_of x) event x.core.seats ≡ [] → greatest_after event x.core.greatest ≡ x.core.greatest → x.core.dropped ≡ []
      → with_cores (at_place d (met its) x.core.cores) x ≡ many.met event x
  modem_is same refuses greatest hung_up = one_is x.paths x.limits x.core.cores (seating_of x) event same refuses greatest hung_up d its only

  pub modem_moves : is_joining its ≡ false → HasNoFewer d its x.core.cores → seats_before (devices_of x) qmi_handlers event x.core ≡ x.core.seats → MovesNobody event x
  modem_moves joins_none fewer same = hot x.paths x.limits x.core.cores (seating_of x) event d its only joins_none fewer same

pub tick_is : (x : ManyCore) (time : ℕ) → x.core.dropped ≡ [] → with_cores (map (met (one.Now time)) x.core.cores) x ≡ many.met (Now time) x
tick_is x time hung_up = met_is x.paths x.limits x.core.cores (seating_of x) (Now time) (map (met (one.Now time)) x.core.cores) (seating_of x) (all_ticked x.paths x.limits x.core.cores (seating_of x) time) refl (sym hung_up) refl

-- ---- as many devices are there ----

pub as_many_cores : (x : ManyCore) (event : ManyEvent) → length (many.met event x).core.cores ≡ length x.core.cores
as_many_cores x event = each_has_as_many (core_behind (devices_of x) qmi_handlers event x.core) x.core.cores
