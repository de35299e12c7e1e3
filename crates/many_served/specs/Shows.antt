-- A core of a QMI proxy of several devices shows what the definitions say. Lists of events have the newest first.
use Rattle.std.proofs.Common.{◌≡◌, ℕ, ◌<◌, true, ◌==◌, List, [], ◌∷◌, ◌++◌, length, slice_get, refl, ap, sym, ◌∙◌, subst, arith, Option, Some}
use Rattle.std.specs.List.{IsDistinct}
use Rattle.proxy_history.specs.Connections.{contains}
use Rattle.proxy_state.specs.Stands.{IsSuffix}
use Rattle.qmi_proxy.proofs.Walk.{Asks, orderly}
use Rattle.qmi_state.specs.Core.{QmiCore}
use Rattle.qmi_state.specs.Transitions.{qmi_handlers}
use Rattle.many_history.specs.Events.{ManyEvent}
use Rattle.many_history.specs.Many.{Seat, conns_of, place_of, many}
use Rattle.many_state.specs.Core.{queue_at, modem_queue_of}
use Rattle.many_state.proofs.Same.{got}
use Rattle.qmi_many.specs.Devices.{setup_at}
use Rattle.many_serving.specs.Lawful.{IsLawful}
use Rattle.many_serving.specs.Proxy.{ManyProxy}
use Rattle.many_lawful.proofs.Lawful.{many_is_lawful}
use Rattle.many_lawful.proofs.Seats.{found}
use Rattle.many_cores.proofs.Places.{at_got}
use Rattle.many_core.specs.Core.{ManyCore, Stands, devices_of, text_for, modem_queue, is_away_at, time_in, time_at}
use Rattle.many_core.proofs.Shown.{modem_waits, modem_away, shown_time, time_is}
use Rattle.many_core.proofs.Sitting.{rise, names_differ, queue_is}
use Rattle.serving_loop.specs.Cores.{Shows}
use Rattle.many_served.specs.Face.{Keeps, away_of, face_of, many_proxy}

-- of nobody nobody is left
none_left : (dropped all : List Seat) → IsSuffix dropped all → conns_of all ≡ [] → conns_of dropped ≡ []
none_left dropped all is none = by is.0 is.1
  where
    by : (front : List Seat) → front ++ dropped ≡ all → conns_of dropped ≡ []
    by [] same = ap conns_of same ∙ none
    by (seat ∷ front) same = absurd (let some : seat.conn ∷ conns_of (front ++ dropped) ≡ [] = ap conns_of same ∙ none in cc)

module _ (past : List ManyEvent) (x : ManyCore) (some : 0 < length x.paths) (S : Stands past x) where
  lawful : IsLawful (many_proxy x.paths x.limits.time x.limits.release)
  lawful =
      many_is_lawful (devices_of x) (λ d. Asks (setup_at x.paths x.limits.time x.limits.release d)) (λ d. orderly (setup_at x.paths x.limits.time x.limits.release d)) (λ d facts. 0) (λ d. record {
        begun = λ facts. refl;
        taken = λ count facts. refl;
        asked = λ facts sound. omega arith;
      })

  core_at : (d : ℕ) → d < length x.paths → (core : QmiCore) × (slice_get x.core.cores d ≡ Some core)
  core_at d within = got x.core.cores d (omega (arith, within, S.count))

  queue_shown : (c : ℕ) → contains c (conns_of (many (devices_of x) past).seats) ≡ true → queue_at qmi_handlers x.core.cores (place_of c x.core.seats) ≡ (text_for x c past).waiting
  queue_shown c there = (let at = found c x.core.seats (ap (λ (l : List Seat). contains c (conns_of l)) S.seats ∙ there) in queue_is x some past S c at.0 at.1)

  modem_shown : (d : ℕ) → d < length x.paths → modem_queue_of qmi_handlers (slice_get x.core.cores d) ≡ modem_queue x d past
  modem_shown d within = (let core = core_at d within in ap (λ (o : Option QmiCore). modem_queue_of qmi_handlers o) core.1 ∙ modem_waits x past S d core.0 core.1)

  away_shown : (d : ℕ) → d < length x.paths → away_of (slice_get x.core.cores d) ≡ is_away_at x d past
  away_shown d within = (let core = core_at d within in ap (λ (o : Option QmiCore). away_of o) core.1 ∙ modem_away x past S d core.0 core.1)

  time_shown : time_in x.core.cores ≡ time_at x past
  time_shown = (let core = core_at 0 some in sym (time_is x.core.cores core.0 (omega (arith, some, S.count)) (at_got x.core.cores 0 core.0 core.1)) ∙ shown_time x past S core.0 core.1)

  shows_itself : Shows (many_proxy x.paths x.limits.time x.limits.release) past (face_of x)
  shows_itself = record {
    lawful = lawful;
    rise = rise x some past S;
    devices = S.count;
    present = ap conns_of S.seats;
    queue = queue_shown;
    modem_queue = modem_shown;
    modem_backlog = λ d within. omega (arith, ap (λ (l : List ℕ). length l) (modem_shown d within));
    dropped = none_left x.core.dropped (many (devices_of x) past).dropped S.dropped;
    away = away_shown;
    time = time_shown;
    distinct = subst (λ (l : List Seat). IsDistinct (λ c d. c == d) (conns_of l)) S.seats (names_differ x some past S);
  }

pub shows_of : (p : ManyProxy) (past : List ManyEvent) (x : ManyCore) → Keeps p past x → Shows p past (face_of x)
shows_of p past x kept = subst (λ (q : ManyProxy). Shows q past (face_of x)) (sym kept.same) (shows_itself past x kept.some kept.stands)
