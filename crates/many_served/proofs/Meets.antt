-- A core of a QMI proxy of several devices, as whoever serves its clients meets it. Lists of events have the newest first.
use Rattle.std.proofs.Common.{◌≡◌, ℕ, ◌+◌, ◌<◌, nat_lt, List, [], ◌∷◌, length, drop, map, position, slice_get, refl, ap, sym, ◌∙◌, subst, arith, Option, Some, None}
use Rattle.std.specs.Option.{option_map}
use Rattle.many_history.specs.Events.{ManyEvent, Joined, Piece, Left, Took, ModemPiece, ModemGone, ModemBack, ModemTook, Now}
use Rattle.many_history.specs.Many.{Seat, conns_of, many}
use Rattle.many_state.specs.Core as state
use Rattle.many_seats.specs.Seats.{first_conn}
use Rattle.many_serving.specs.Proxy.{ManyProxy}
use Rattle.many_core.specs.Core.{ManyCore, Stands, StandsAfter, devices_of, step, text_for}
use Rattle.many_core.specs.Core as core
use Rattle.many_core.proofs.Shown.{asked}
use Rattle.many_core.proofs.Sitting.{first_is}
use Rattle.serving_loop.specs.Face.{CanMeet, MayCome, NextDropped, first_waiting, greatest_after}
use Rattle.many_served.specs.Face.{Keeps, away_of, face_of}
use Rattle.many_served.specs.declared.served.ServedCore.{ServedCore}

-- ---- the events that may come ----

pub may_meet : (event : ManyEvent) (x : ManyCore) → MayCome event (face_of x) → core.MayMeet event x
may_meet (Joined c) x may = may
may_meet (Piece c bytes) x may = may
may_meet (Left c) x may = tt
may_meet (Took c count) x may = may
may_meet (ModemPiece d bytes) x may = may
may_meet (ModemGone d) x may = may
may_meet (ModemBack d) x may = may
may_meet (ModemTook d count) x may = may
may_meet (Now time) x may = tt

pub greatest_is : (event : ManyEvent) (x : ManyCore) → MayCome event (face_of x) → state.greatest_after event x.core.greatest ≡ greatest_after event x.core.greatest
greatest_is (Joined c) x may = omega (arith, may)
greatest_is (Piece c bytes) x may = refl
greatest_is (Left c) x may = refl
greatest_is (Took c count) x may = refl
greatest_is (ModemPiece d bytes) x may = refl
greatest_is (ModemGone d) x may = refl
greatest_is (ModemBack d) x may = refl
greatest_is (ModemTook d count) x may = refl
greatest_is (Now time) x may = refl

-- ---- what it keeps ----

module _ (event : ManyEvent) (old new : ManyCore) (is : new ≡ step event old) (p : ManyProxy) (past : List ManyEvent) (kept : Keeps p past old) (after : StandsAfter (event ∷ past) new) where
  stood : StandsAfter (event ∷ past) (step event old)
  stood = subst (λ (x : ManyCore). StandsAfter (event ∷ past) x) is after

  pub keeps_on : Keeps p (event ∷ past) new
  keeps_on = subst (λ (x : ManyCore). Keeps p (event ∷ past) x) (sym is) (record { some = kept.some; same = kept.same; stands = stood.stands })

  -- just after an event, the dropped names are all that it dropped
  pub all_dropped : conns_of new.core.dropped ≡ p.dropped (event ∷ past)
  all_dropped = ap (λ (x : ManyCore). conns_of x.core.dropped) is ∙ ap conns_of stood.all_dropped ∙ sym (ap (λ (q : ManyProxy). q.dropped (event ∷ past)) kept.same)

-- ---- whom it dropped is asked for ----

pub asked_keeps : (p : ManyProxy) (past : List ManyEvent) (old new : ManyCore) → new ≡ asked old → (Stands past old → Stands past new) → Keeps p past old → Keeps p past new
asked_keeps p past old new is stands kept =
    subst (λ (x : ManyCore). Keeps p past x) (sym is) (record { some = kept.some; same = kept.same; stands = subst (λ (x : ManyCore). Stands past x) is (stands kept.stands) })

abbrev with_dropped : List Seat → ManyCore → ManyCore
with_dropped dropped x = record x { core = record x.core { dropped = dropped } }

pub next_is : (old new : ServedCore) (o : Option ℕ) → o ≡ first_conn old.core.core.dropped → new.core ≡ asked old.core → NextDropped (λ (served : ServedCore). face_of served.core) old new o
next_is old new o first is = by old.core.core.dropped refl
  where
    by : (dropped : List Seat) → old.core.core.dropped ≡ dropped → NextDropped (λ (served : ServedCore). face_of served.core) old new o
    by [] none =
        let same : new.core ≡ old.core = is ∙ ap (λ (l : List Seat). with_dropped l old.core) (ap (drop 1) none ∙ sym none) in
        subst (λ (n : Option ℕ). NextDropped (λ (served : ServedCore). face_of served.core) old new n) (sym (first ∙ ap first_conn none))
        (ap conns_of none, ap (λ (x : ManyCore). let served : ServedCore = record { core = x } in served) same)
    by (seat ∷ rest) some =
        let left : new.core.core.dropped ≡ rest = ap (λ (x : ManyCore). x.core.dropped) is ∙ ap (drop 1) some in
        subst (λ (n : Option ℕ). NextDropped (λ (served : ServedCore). face_of served.core) old new n) (sym (first ∙ ap first_conn some))
        (record {
          dropped = ap conns_of some ∙ ap (λ (l : List Seat). seat.conn ∷ conns_of l) (sym left);
          devices = ap (λ (x : ManyCore). length x.core.cores) is;
          away = record { same = λ d within. ap (λ (x : ManyCore). away_of (slice_get x.core.cores d)) is };
          greatest = ap (λ (x : ManyCore). x.core.greatest) is;
        })

-- ---- for whom bytes wait ----

pub waiting_is : (p : ManyProxy) (past : List ManyEvent) (x : ManyCore) → Keeps p past x → (from : ℕ) → core.first_waiting from x ≡ first_waiting p past from
waiting_is p past x kept from =
    subst (λ (q : ManyProxy). core.first_waiting from x ≡ first_waiting q past from) (sym kept.same)
    (first_is x kept.some past kept.stands from
    ∙ ap (λ (l : List Seat). option_map (λ at. from + at) (position (λ c. nat_lt 0 (length (text_for x c past).waiting)) (drop from (conns_of l)))) kept.stands.seats)
