-- What waits in the cores of several QMI devices, and what else they tell, is what the definitions say. Lists of events have the newest first.
use Rattle.std.proofs.Common.{◌≡◌, ℕ, zero, suc, ◌<◌, ◌≤◌, Bool, false, List, [], ◌∷◌, ◌++◌, length, drop, get_or, slice_get, refl, ap, sym, ◌∙◌, subst, arith, append_assoc, Option, Some, None, is_some}
use Rattle.qmux_frame.specs.Frame.{size_of}
use Rattle.hub_io.specs.declared.settings.Limits.{Limits}
use Rattle.outbox.specs.Fronts.{IsFrontOf}
use Rattle.proxy_history.specs.Protocol.{Protocol}
use Rattle.proxy_history.specs.View.{view}
use Rattle.proxy_history.specs.Wording.{text_behind}
use Rattle.proxy_history.specs.History.{history}
use Rattle.proxy_history.proofs.Rendering.{waiting_within}
use Rattle.proxy_serving.specs.Cores.{Shows}
use Rattle.proxy_state.specs.Stands.{IsSuffix}
use Rattle.proxy_core.specs.Face.{face_of}
use Rattle.proxy_core.specs.Lawful.{proxy_by}
use Rattle.proxy_core.specs.Shows.{shows_of}
use Rattle.qmi_proxy.specs.History.{qmi_protocol}
use Rattle.qmi_state.specs.Core.{QmiCore}
use Rattle.qmi_core.specs.Meaning.{qmi_meaning}
use Rattle.qmi_core.specs.Lawful.{is_lawful}
use Rattle.many_history.specs.Events.{ManyEvent}
use Rattle.many_history.specs.Many.{Place, Undecided, At, Seat, place_of, many, own}
use Rattle.many_history.specs.Queues.{text_at}
use Rattle.many_state.specs.Core.{waiting_at}
use Rattle.qmi_many.specs.Devices.{setup_at}
use Rattle.qmi_many_state.specs.Core.{KeepsStanding}
use Rattle.qmi_many_state.specs.Core as state
use Rattle.qmi_many_state.proofs.Cores.{keeps_standing}
use Rattle.many_cores.specs.Cores.{IsCore}
use Rattle.many_core.specs.Core.{ManyCore, Stands, StandsAfter, MayMeet, MovesNobody, IsBounded, devices_of, met, step, waiting_for, text_for, modem_queue, time_in, time_at, is_away_at}
use Rattle.many_core.proofs.Waiting.{owed_waiting}

-- ---- whom an event dropped is asked for ----

suffix_next : (dropped all : List Seat) → IsSuffix dropped all → IsSuffix (drop 1 dropped) all
suffix_next [] all is = is
suffix_next (seat ∷ rest) all is = (is.0 ++ seat ∷ [], append_assoc is.0 (seat ∷ []) rest ∙ is.1)

suffix_none : (dropped all : List Seat) → IsSuffix dropped all → IsSuffix [] all
suffix_none dropped all is = (is.0 ++ dropped, append-none (is.0 ++ dropped) ∙ is.1)
  where
    append-none : (l : List Seat) → l ++ [] ≡ l
    append-none [] = refl
    append-none (seat ∷ l) = ap (λ (m : List Seat). seat ∷ m) (append-none l)

-- the first of them is, and all are
abbrev pub asked : ManyCore → ManyCore
asked x = record x { core = record x.core { dropped = drop 1 x.core.dropped } }

abbrev pub hung_up : ManyCore → ManyCore
hung_up x = record x { core = record x.core { dropped = [] } }

module _ (x : ManyCore) (events : List ManyEvent) (S : Stands events x) where
  pub asked_stands : Stands events (asked x)
  asked_stands = record { count = S.count; cores = S.cores; seats = S.seats; dropped = suffix_next x.core.dropped (many (devices_of x) events).dropped S.dropped; greatest = S.greatest; sound = S.sound }

  -- ---- what a device's core tells ----

  pub core_shows : (d : ℕ) (core : QmiCore) → slice_get x.core.cores d ≡ Some core → Shows (proxy_by qmi_meaning (setup_at x.paths x.limits.time x.limits.release d)) (own (devices_of x) d events) (face_of qmi_meaning core)
  core_shows d core at =
      let setup = setup_at x.paths x.limits.time x.limits.release d in
      shows_of qmi_meaning (record { opened = false }) size_of is_lawful (proxy_by qmi_meaning setup) (own (devices_of x) d events) core (record { setup = setup; serves = tt; same = refl; stands = (S.cores d core at).stands })

  pub modem_waits : (d : ℕ) (core : QmiCore) → slice_get x.core.cores d ≡ Some core → core.state.beside.traffic.waiting ≡ modem_queue x d events
  modem_waits d core at = (core_shows d core at).modem_queue

  pub modem_away : (d : ℕ) (core : QmiCore) → slice_get x.core.cores d ≡ Some core → core.state.beside.away ≡ is_away_at x d events
  modem_away d core at = (core_shows d core at).away

  pub shown_time : (core : QmiCore) → slice_get x.core.cores 0 ≡ Some core → core.state.beside.time ≡ time_at x events
  shown_time core at = (core_shows 0 core at).time

  -- ---- how much waits at most ----

  text_within : (o : Option Place) → length (text_at (devices_of x) (many (devices_of x) events).own o).waiting ≤ 262144
  text_within None = omega arith
  text_within (Some (Undecided bytes)) = omega arith
  text_within (Some (At d name)) =
      let p = qmi_protocol (setup_at x.paths x.limits.time x.limits.release d) in
      waiting_within p.limits.outbox (text_behind p.wording) (view p.wording.blank name (history p (own (devices_of x) d events)))

  pub bounded : 0 < length x.paths → IsBounded x
  bounded some = record {
    clients = λ c. client c (place_of c (x.core.seats ++ x.core.dropped)) refl;
    modems = λ d core at. subst (λ (l : List ℕ). length l ≤ 1048576) (sym (modem_waits d core at)) (is_lawful.few_wait (setup_at x.paths x.limits.time x.limits.release d) (own (devices_of x) d events));
  }
    where
      client : (c : ℕ) (o : Option Place) → place_of c (x.core.seats ++ x.core.dropped) ≡ o → length (waiting_for c x) ≤ 262144
      client c None none = subst (λ (l : List ℕ). length l ≤ 262144) (sym (ap (waiting_at x.core.cores) none)) (omega arith)
      client c (Some place) at =
          subst (λ (l : List ℕ). length l ≤ 262144) (sym (owed_waiting x some events S c (ap is_some at)))
          (text_within (place_of c ((many (devices_of x) events).seats ++ (many (devices_of x) events).gone)))

-- what the clock shows
pub time_is : (cores : List QmiCore) (core : QmiCore) → 0 < length cores → IsCore core cores 0 → core.state.beside.time ≡ time_in cores
time_is [] core some at = absurd (omega (arith, some))
time_is (first ∷ cores) core some at = ap (λ (k : QmiCore). k.state.beside.time) at

-- ---- an event ----

module _ (x : ManyCore) (some : 0 < length x.paths) (event : ManyEvent) (events : List ManyEvent) (may : MayMeet event x) (S : Stands events x) where
  K : KeepsStanding x.paths x.limits.time x.limits.release
  K = keeps_standing x.paths x.limits.time x.limits.release some

  pub steps : StandsAfter (event ∷ events) (step event x)
  steps = K.steps event events x.core ((K.may_come event events x.core S).0 may) S

  pub stays : MovesNobody event (hung_up x) → step event x ≡ met event x
  stays moves = ap (λ (core : state.QmiMany). let y : ManyCore = record x { core = core } in y) (K.stays event events x.core ((K.may_come event events x.core S).0 may) S (record { places = moves.places; joins = moves.joins; as_many = moves.as_many }))
