-- What a turn comes to. Lists of calls and of events have the newest first.
use Rattle.std.proofs.lemmas.Option.{same_Some}
use Rattle.std.proofs.Common.{◌≡◌, inl, inr, ℕ, zero, suc, ◌+◌, ◌<◌, ◌≤◌, Bool, true, false, ◌&&◌, if◌then◌else◌, List, [], ◌∷◌, ◌++◌, length, reverse, refl, sym, ◌∙◌, ap, subst, arith, Option, Some, None, Ok}
use Rattle.std.specs.List.{AllByRecursion}
use Rattle.proxy_history.specs.Connections.{without}
use Rattle.hub_io.specs.Record.{Records}
use Rattle.hub_io.specs.declared.settings.ServeEnd.{ServeEnd}
use Rattle.hub_io.specs.declared.settings.ServeEnd.TheVariants as end
use Rattle.hub_io.specs.declared.settings.Until.{Until}
use Rattle.proxy_serving.specs.Serving.{is_blocked, hang_ups, turns_in}
use Rattle.many_history.specs.Events.{ManyEvent, Joined, Piece, Left, ModemPiece, ModemGone, ModemBack, Now, Took, ModemTook}
use Rattle.many_io.specs.Record.{ManyCall, Told, ToldRoom, ToldModemRoom, ToldStop, NextFailed, events, calls_without_device}
use Rattle.many_serving.specs.Proxy.{ManyProxy}
use Rattle.many_serving.specs.Serving.{Serves, IsOffered, is_modem_blocked, due_hang_ups, reopenings, due_reopenings}
use Rattle.many_serving.specs.Ends.{NeverOver, IsGoingOn, IsEmptied, IsLost, is_idle, is_lost, are_away, emptied_at, hanging_up, EndsWith, EndsAtClock, EndsSpent, EndsFor, RanOut}
use Rattle.serving_loop.specs.Carrying.{Carries}
use Rattle.serving_loop.specs.Server.{emptied_after, is_idle_at, is_lost_at, end_at, misses_modem}
use Rattle.serving_loop.specs.Progress.{IsServing, HasOffered, IsReady, IsOpened, HasTold, AfterMeeting, AfterTurn, EndsNow, MayBeTold, AfterEvent}
use Rattle.serving_loop.specs.declared.server.Server.{Server}
use Rattle.serving_loop.specs.Face.{ManyFace}
use Rattle.serving_loop.specs.Cores.{Stands, StandsAfter}
use Rattle.serving_loop.proofs.Carrying.{Carries-call}
use Rattle.serving_loop.proofs.Ends.{goes_on_further, ends_with_further, ends_at_clock_further}
use Rattle.serving_loop.proofs.Faces.{emptied_is}
use Rattle.serving_loop.proofs.Going.{all_done, serves, goes_on, serves-stop, serves-failed, serving-told, serving-room, serving-modem_room}
use Rattle.serving_loop.proofs.Places.{none_offered}
use Rattle.serving_loop.proofs.Takings.{takes-none}

-- ---- hang-ups alone ----

events-hangs : (names : List ℕ) (calls : List ManyCall) → events (hanging_up names ++ calls) ≡ events calls
unfolding events
events-hangs [] calls = refl
events-hangs (c ∷ names) calls = events-hangs names calls

never-hangs : (p : ManyProxy) (until : Until) (names : List ℕ) (calls : List ManyCall) → NeverOver p until calls → NeverOver p until (hanging_up names ++ calls)
never-hangs p until [] calls never = never
never-hangs p until (c ∷ names) calls never = never-hangs p until names calls never

reopenings-hangs : (d : ℕ) (names : List ℕ) (calls : List ManyCall) → reopenings d (hanging_up names ++ calls) ≡ reopenings d calls
unfolding reopenings
reopenings-hangs d [] calls = refl
reopenings-hangs d (c ∷ names) calls = reopenings-hangs d names calls

due-hangs : (p : ManyProxy) (d : ℕ) (names : List ℕ) (calls : List ManyCall) → due_reopenings p d (hanging_up names ++ calls) ≡ due_reopenings p d calls
unfolding due_reopenings
due-hangs p d [] calls = refl
due-hangs p d (c ∷ names) calls = due-hangs p d names calls

-- the dropped are hung up, and nobody was offered anything since
pub offered-hangs : {C : Type 0} {keeps : ManyProxy → List ManyEvent → C → Type 0} {face : C → ManyFace} {p : ManyProxy} {until : Until} {turns count : ℕ} {server now : Server C} {earlier : List ManyCall} (names : List ℕ) → HasOffered keeps face p until turns count server earlier → IsServing keeps face p turns now (hanging_up names ++ earlier)
    → HasOffered keeps face p until turns 0 now (hanging_up names ++ earlier)
offered-hangs {p = p} {until = until} {earlier = earlier} names so serving =
    none_offered serving (never-hangs p until names earlier so.awake) (λ d within. reopenings-hangs d names earlier ∙ so.in_time d within ∙ sym (due-hangs p d names earlier))

-- ---- whether a modem is to be opened again ----

reopenings-told : (d : ℕ) (event : ManyEvent) (calls : List ManyCall) → reopenings d (Told event ∷ calls) ≡ 0
unfolding reopenings
reopenings-told d event calls = refl

due-told : {C : Type 0} {keeps : ManyProxy → List ManyEvent → C → Type 0} {face : C → ManyFace} {p : ManyProxy} (d : ℕ) (event : ManyEvent) (calls : List ManyCall) (core : C) → d < p.devices → Stands keeps face p (event ∷ events calls) core → due_reopenings p d (Told event ∷ calls) ≡ (if misses_modem event (face core) d then 1 else 0)
unfolding due_reopenings
due-told d (Now time) calls core within stands = ap (λ (b : Bool). if b then 1 else 0) (sym (stands.shows.away d within))
due-told d (Joined c) calls core within stands = refl
due-told d (Piece c bytes) calls core within stands = refl
due-told d (Left c) calls core within stands = refl
due-told d (ModemPiece e bytes) calls core within stands = refl
due-told d (ModemGone e) calls core within stands = refl
due-told d (ModemBack e) calls core within stands = refl
due-told d (Took c count) calls core within stands = refl
due-told d (ModemTook e count) calls core within stands = refl

-- ---- whether it is over ----

-- an event was told; where it was the clock, it isn't over
never-told : (p : ManyProxy) (until : Until) (event : ManyEvent) (calls : List ManyCall) → ((time : ℕ) → event ≡ Now time → IsGoingOn p until (event ∷ events calls)) → NeverOver p until calls → NeverOver p until (Told event ∷ calls)
never-told p until (Joined c) calls on never = never
never-told p until (Piece c bytes) calls on never = never
never-told p until (Left c) calls on never = never
never-told p until (ModemPiece d bytes) calls on never = never
never-told p until (ModemGone d) calls on never = never
never-told p until (ModemBack d) calls on never = never
never-told p until (Now time) calls on never = (on time refl, never)
never-told p until (Took c count) calls on never = never
never-told p until (ModemTook d count) calls on never = never

-- the core tells whether nobody has been there for too long
idle_is : {C : Type 0} {keeps : ManyProxy → List ManyEvent → C → Type 0} {face : C → ManyFace} {p : ManyProxy} {past : List ManyEvent} {core : C} (limit : Option ℕ) (emptied : ℕ) → Stands keeps face p past core → emptied ≡ emptied_at p past → is_idle_at limit (face core) emptied ≡ is_idle p limit past
idle_is None emptied stands is = refl
idle_is (Some limit) emptied stands is =
    let many = ap length stands.shows.present in
    let time = stands.shows.time in
    rw (many, time, is) refl

-- the same of so many devices that are away by two tests
are_away_by : (away tested : ℕ → Bool) (count : ℕ) → ((d : ℕ) → d < count → away d ≡ tested d) → are_away away count ≡ are_away tested count
are_away_by away tested zero same = refl
are_away_by away tested (suc count) same =
    ap (λ (b : Bool). b && are_away away count) (same count (omega arith)) ∙ ap (λ (b : Bool). tested count && b) (are_away_by away tested count (λ d within. same d (omega (arith, within))))

-- and whether all devices are lost
lost_is : {C : Type 0} {keeps : ManyProxy → List ManyEvent → C → Type 0} {face : C → ManyFace} {p : ManyProxy} {past : List ManyEvent} {core : C} (ends : Bool) → Stands keeps face p past core → is_lost_at ends (face core) ≡ is_lost p ends past
lost_is false stands = refl
lost_is {face = face} {p = p} {past = past} {core = core} true stands =
    ap (are_away (face core).away) stands.shows.devices ∙ are_away_by (face core).away (λ d. p.is_away d past) p.devices stands.shows.away

-- why it ends at an event: it is the clock, and one of the two holds
data EndsThere (event : ManyEvent) (idle lost : Bool) (why : ServeEnd) : Type 0 where
  nobody_there : (time : ℕ) → event ≡ Now time → why ≡ end.Empty → idle ≡ true → EndsThere event idle lost why
  was_lost : (time : ℕ) → event ≡ Now time → why ≡ end.Lost → idle ≡ false → lost ≡ true → EndsThere event idle lost why

-- by these two
end_by : Bool → Bool → Option ServeEnd
end_by idle lost = if idle then Some end.Empty else if lost then Some end.Lost else None

clock_ends : (time : ℕ) (idle lost : Bool) (why : ServeEnd) → end_by idle lost ≡ Some why → EndsThere (Now time) idle lost why
unfolding end_by
clock_ends time true lost why is = nobody_there time refl (sym (same_Some end.Empty why is)) refl
clock_ends time false true why is = was_lost time refl (sym (same_Some end.Lost why is)) refl refl
clock_ends time false false why is = absurd (cc)

ends_there : (event : ManyEvent) (until : Until) (face : ManyFace) (emptied : ℕ) (why : ServeEnd) → end_at event until face emptied ≡ Some why → EndsThere event (is_idle_at until.empty face emptied) (is_lost_at until.lost face) why
unfolding end_by
ends_there (Now time) until face emptied why is = clock_ends time (is_idle_at until.empty face emptied) (is_lost_at until.lost face) why is
ends_there (Joined c) until face emptied why is = absurd (cc)
ends_there (Piece c bytes) until face emptied why is = absurd (cc)
ends_there (Left c) until face emptied why is = absurd (cc)
ends_there (ModemPiece d bytes) until face emptied why is = absurd (cc)
ends_there (ModemGone d) until face emptied why is = absurd (cc)
ends_there (ModemBack d) until face emptied why is = absurd (cc)
ends_there (Took c count) until face emptied why is = absurd (cc)
ends_there (ModemTook d count) until face emptied why is = absurd (cc)

-- it goes on at the clock: neither holds
neither : (idle lost : Bool) → end_by idle lost ≡ None → (idle ≡ false) × (lost ≡ false)
unfolding end_by
neither true lost is = absurd (cc)
neither false true is = absurd (cc)
neither false false is = (refl, refl)

goes_on_there : (time : ℕ) (until : Until) (face : ManyFace) (emptied : ℕ) → end_at (Now time) until face emptied ≡ None → (is_idle_at until.empty face emptied ≡ false) × (is_lost_at until.lost face ≡ false)
unfolding end_by
goes_on_there time until face emptied is = neither (is_idle_at until.empty face emptied) (is_lost_at until.lost face) is

-- ---- the hub told an event ----

module _ {C : Type 0} {keeps : ManyProxy → List ManyEvent → C → Type 0} {face : C → ManyFace} {p : ManyProxy} {until : Until} {turns : ℕ} {server : Server C} {event : ManyEvent} {told : List ManyCall} (has : HasTold keeps face p until turns server (Told event) told) where
  -- it was met
  pub told-met : (devices known : ℕ) → MayBeTold devices known event → (now : Server C) → (face server.core).dropped ≡ [] → StandsAfter keeps face p (event ∷ events has.earlier) now.core → now.blocked ≡ server.blocked → now.modems ≡ server.modems → now.emptied ≡ emptied_after (face server.core) server.emptied (face now.core)
      → (face now.core).dropped ≡ p.dropped (event ∷ events has.earlier)
      → IsServing keeps face p (turns + 1) now told
  told-met devices known may now none after blocked modems emptied all =
      let P : List ManyCall → Type 0 = IsServing keeps face p (turns + 1) now in
      subst P (sym has.whole)
      (serving-told has.ready.serving devices known event now may has.ready.in_time has.ready.offered none all after.stands blocked modems
      (emptied ∙ emptied_is event server.emptied has.ready.serving.stands after.stands has.ready.serving.emptied))

  -- memory ran out for it
  pub told-unmet : {lacks : ManyEvent → Type 0} → (face server.core).dropped ≡ [] → lacks event → RanOut lacks p until (turns + 1) told
  unfolding turns_in
  told-unmet none lacking =
      let Counted : List ManyCall → Type 0 = λ calls. turns_in (calls_without_device calls) ≤ turns + 1 in
      inr (record {
        event = event;
        lacking = lacking;
        earlier = has.earlier;
        whole = has.whole;
        goes_on = goes_on_further turns (turns + 1) (omega arith) (goes_on has.ready.serving none has.ready.awake);
        done = all_done has.ready.serving has.ready.in_time has.ready.offered none;
        counted = subst Counted (sym has.whole) (omega (arith, has.ready.serving.counted));
      })

  module _ {now : Server C} (names : List ℕ) (none_before : (face server.core).dropped ≡ []) (serving : IsServing keeps face p (turns + 1) now (hanging_up names ++ told)) (none : (face now.core).dropped ≡ []) where
    events_are : events (hanging_up names ++ told) ≡ event ∷ events has.earlier
    unfolding events
    events_are = events-hangs names told ∙ ap events has.whole

    stands_here : Stands keeps face p (event ∷ events has.earlier) now.core
    stands_here = let P : List ManyEvent → Type 0 = λ l. Stands keeps face p l now.core in subst P events_are serving.stands

    idle_here : is_idle_at until.empty (face now.core) now.emptied ≡ is_idle p until.empty (event ∷ events has.earlier)
    idle_here = idle_is until.empty now.emptied serving.stands serving.emptied ∙ ap (is_idle p until.empty) events_are

    lost_here : is_lost_at until.lost (face now.core) ≡ is_lost p until.lost (event ∷ events has.earlier)
    lost_here = lost_is until.lost stands_here

    -- it ended at the clock, at which this held
    at_clock : (Over : List ManyEvent → Type 0) (time : ℕ) → event ≡ Now time → Over (event ∷ events has.earlier) → EndsAtClock Over p until (turns + 1) (hanging_up names ++ told)
    at_clock Over time clock over = record {
      time = time;
      earlier = has.earlier;
      hung_up = names;
      whole = ap (λ (l : List ManyCall). hanging_up names ++ l) (has.whole ∙ ap (λ (e : ManyEvent). Told e ∷ has.earlier) clock);
      over = subst (λ (e : ManyEvent). Over (e ∷ events has.earlier)) clock over;
      goes_on = goes_on_further turns (turns + 1) (omega arith) (goes_on has.ready.serving none_before has.ready.awake);
      serves = serves serving none;
      counted = omega (arith, serving.counted);
    }

    ended : (why : ServeEnd) → EndsThere event (is_idle_at until.empty (face now.core) now.emptied) (is_lost_at until.lost (face now.core)) why → EndsNow p until (turns + 1) why (hanging_up names ++ told)
    ended why (nobody_there time clock is idle) =
        subst (λ (e : ServeEnd). EndsNow p until (turns + 1) e (hanging_up names ++ told)) (sym is) (at_clock (IsEmptied p until) time clock (sym idle_here ∙ idle))
    ended why (was_lost time clock is idle lost) =
        subst (λ (e : ServeEnd). EndsNow p until (turns + 1) e (hanging_up names ++ told)) (sym is)
        (at_clock (IsLost p until) time clock (record { awake = sym idle_here ∙ idle; lost = sym lost_here ∙ lost }))

    pub told-done : AfterEvent keeps face (end_at event until (face now.core) now.emptied) (misses_modem event (face now.core)) p until turns now (hanging_up names ++ told)
    told-done =
        let misses = misses_modem event (face now.core) in
        let Done : Option ServeEnd → Type 0 = λ o. AfterEvent keeps face o misses p until turns now (hanging_up names ++ told) in
        let step : (o : Option ServeEnd) → end_at event until (face now.core) now.emptied ≡ o → Done o =
        λ o. elim o as (λ o. end_at event until (face now.core) now.emptied ≡ o → Done o) [
          | None ↦ λ is.
              let on : (time : ℕ) → event ≡ Now time → IsGoingOn p until (event ∷ events has.earlier) =
              λ time clock.
              let neither_holds = goes_on_there time until (face now.core) now.emptied (ap (λ (e : ManyEvent). end_at e until (face now.core) now.emptied) (sym clock) ∙ is) in
              record { awake = sym idle_here ∙ neither_holds.0; there = sym lost_here ∙ neither_holds.1 } in
              let never : NeverOver p until told =
              subst (NeverOver p until) (sym has.whole) (never-told p until event has.earlier on has.ready.awake) in
              record {
                serving = serving;
                awake = never-hangs p until names told never;
                done = λ d none. absurd (omega (arith, none));
                not_yet = λ d behind within. reopenings-hangs d names told ∙ ap (reopenings d) has.whole ∙ reopenings-told d event has.earlier;
                due = λ d behind within. due-hangs p d names told ∙ ap (due_reopenings p d) has.whole ∙ due-told d event has.earlier now.core within stands_here;
              }
          | Some why ↦ λ is. ended why (ends_there event until (face now.core) now.emptied why is)
        ]
        in step (end_at event until (face now.core) now.emptied) refl

-- ---- the hub told something else ----

module _ {C : Type 0} {keeps : ManyProxy → List ManyEvent → C → Type 0} {face : C → ManyFace} {p : ManyProxy} {until : Until} {turns : ℕ} {server : Server C} {told : List ManyCall} where
  pub told-room : (c : ℕ) (now : Server C) → (face server.core).dropped ≡ [] → HasTold keeps face p until turns server (ToldRoom c) told → now.core ≡ server.core → now.blocked ≡ without c server.blocked → now.modems ≡ server.modems → now.emptied ≡ server.emptied
      → HasOffered keeps face p until (turns + 1) 0 now told
  unfolding reopenings due_reopenings
  told-room c now none has core blocked modems emptied =
      let P : List ManyCall → Type 0 = HasOffered keeps face p until (turns + 1) 0 now in
      subst P (sym has.whole) (none_offered (serving-room has.ready.serving c now has.ready.in_time has.ready.offered none core blocked modems emptied) has.ready.awake (λ d within. refl))

  pub told-modem_room : (d : ℕ) (now : Server C) → (face server.core).dropped ≡ [] → HasTold keeps face p until turns server (ToldModemRoom d) told → now.core ≡ server.core → now.blocked ≡ server.blocked → now.modems ≡ without d server.modems → now.emptied ≡ server.emptied
      → HasOffered keeps face p until (turns + 1) 0 now told
  unfolding reopenings due_reopenings
  told-modem_room d now none has core blocked modems emptied =
      let P : List ManyCall → Type 0 = HasOffered keeps face p until (turns + 1) 0 now in
      subst P (sym has.whole) (none_offered (serving-modem_room has.ready.serving d now has.ready.in_time has.ready.offered none core blocked modems emptied) has.ready.awake (λ d within. refl))

  -- the last call, after which the serving ends
  told-last : (call : ManyCall) → (face server.core).dropped ≡ [] → (has : HasTold keeps face p until turns server call told) → Serves p (call ∷ has.earlier) → turns_in (calls_without_device (call ∷ has.earlier)) ≤ turns + 1 → EndsWith p until (turns + 1) call told
  told-last call none has served counted =
      let All : List ManyCall → Type 0 = Serves p in
      let Counted : List ManyCall → Type 0 = λ calls. turns_in (calls_without_device calls) ≤ turns + 1 in
      record {
        earlier = has.earlier;
        whole = has.whole;
        goes_on = goes_on_further turns (turns + 1) (omega arith) (goes_on has.ready.serving none has.ready.awake);
        serves = subst All (sym has.whole) served;
        counted = subst Counted (sym has.whole) counted;
      }

  pub told-stop : (face server.core).dropped ≡ [] → HasTold keeps face p until turns server ToldStop told → EndsWith p until (turns + 1) ToldStop told
  unfolding turns_in
  told-stop none has = told-last ToldStop none has (serves-stop has.ready.serving has.ready.in_time has.ready.offered none) (omega (arith, has.ready.serving.counted))

  pub told-failed : (face server.core).dropped ≡ [] → HasTold keeps face p until turns server NextFailed told → EndsWith p until (turns + 1) NextFailed told
  unfolding turns_in
  told-failed none has = told-last NextFailed none has (serves-failed has.ready.serving has.ready.in_time has.ready.offered none) (omega (arith, has.ready.serving.counted))

-- ---- a turn ----

-- the hub told what is next
pub tells : {C : Type 0} (keeps : ManyProxy → List ManyEvent → C → Type 0) (face : C → ManyFace) (p : ManyProxy) (until : Until) (turns : ℕ) (server : Server C) (next told : ManyCall) (old new : Option (List ManyCall)) → next ≡ told → Records old told new
    → Carries old (IsReady keeps face p until turns server) new (HasTold keeps face p until turns server next)
tells keeps face p until turns server next told old new is records =
    let P : ManyCall → Type 0 = λ call. Records old call new in
    Carries-call _ _ _ _ _ (subst P (sym is) records) (λ calls ready. record { earlier = calls; whole = refl; ready = ready })

-- it was met, and this came of it
pub meets : {C : Type 0} (keeps : ManyProxy → List ManyEvent → C → Type 0) (face : C → ManyFace) (lacks : ManyEvent → Type 0) (p : ManyProxy) (until : Until) (turns : ℕ) (before : List ManyCall → Type 0) (now : Server C) (old new : Option (List ManyCall)) (o came : Option ServeEnd) → o ≡ came
    → Carries old before new (AfterMeeting keeps face lacks (Ok o) p until turns now) → Carries old before new (AfterMeeting keeps face lacks (Ok came) p until turns now)
meets keeps face lacks p until turns before now old new o came is carries =
    let P : Option ServeEnd → Type 0 = λ o. Carries old before new (AfterMeeting keeps face lacks (Ok o) p until turns now) in
    subst P is carries

-- a turn was taken, and this came of it
pub turned : {C : Type 0} (keeps : ManyProxy → List ManyEvent → C → Type 0) (face : C → ManyFace) (lacks : ManyEvent → Type 0) (p : ManyProxy) (until : Until) (turns : ℕ) (before : List ManyCall → Type 0) (now : Server C) (old new : Option (List ManyCall)) (o came : Option ServeEnd) → o ≡ came
    → Carries old before new (AfterTurn keeps face lacks (Ok o) p until turns now) → Carries old before new (AfterTurn keeps face lacks (Ok came) p until turns now)
turned keeps face lacks p until turns before now old new o came is carries =
    let P : Option ServeEnd → Type 0 = λ o. Carries old before new (AfterTurn keeps face lacks (Ok o) p until turns now) in
    subst P is carries

-- ---- the end ----

pub ends_further : (lacks : ManyEvent → Type 0) (p : ManyProxy) (until : Until) (calls : List ManyCall) (why : ServeEnd) (turns more : ℕ) → turns ≤ more → EndsNow p until turns why calls → EndsFor lacks p until more why calls
ends_further lacks p until calls end.Stopped turns more within ends = ends_with_further turns more within ends
ends_further lacks p until calls end.HubFault turns more within ends = ends_with_further turns more within ends
ends_further lacks p until calls end.Empty turns more within ends = ends_at_clock_further turns more within ends
ends_further lacks p until calls end.Lost turns more within ends = ends_at_clock_further turns more within ends
ends_further lacks p until calls end.TurnsSpent turns more within ends = absurd ends
ends_further lacks p until calls end.OutOfMemory turns more within ends = absurd ends

pub ends_spent : {C : Type 0} {keeps : ManyProxy → List ManyEvent → C → Type 0} {face : C → ManyFace} {p : ManyProxy} {until : Until} {turns : ℕ} {server : Server C} {calls : List ManyCall} → (face server.core).dropped ≡ [] → IsReady keeps face p until turns server calls → EndsSpent p until turns calls
ends_spent none ready = record {
  goes_on = goes_on ready.serving none ready.awake;
  spent = ready.serving.counted;
  offered = ready.offered;
}

-- ---- the opening ----

pub opened-asked : {C : Type 0} {keeps : ManyProxy → List ManyEvent → C → Type 0} {face : C → ManyFace} {p : ManyProxy} {server : Server C} → IsOpened keeps face p server → (face server.core).dropped ≡ []
opened-asked opened = opened.stands.shows.dropped opened.stands.shows.lawful.none_dropped

pub opened-ready : {C : Type 0} {keeps : ManyProxy → List ManyEvent → C → Type 0} {face : C → ManyFace} {p : ManyProxy} {server : Server C} (until : Until) → IsOpened keeps face p server → IsReady keeps face p until 0 server []
unfolding hang_ups due_hang_ups turns_in events emptied_at reopenings due_reopenings
opened-ready {p = p} {server = server} until opened =
    let lawful = opened.stands.shows.lawful in
    record {
      serving = record {
        stands = opened.stands;
        sends = tt;
        takes = takes-none lawful;
        does_all = tt;
        hangs_up = ap (λ (l : List ℕ). reverse l ++ []) (opened-asked opened);
        reopens = λ d within. omega arith;
        no_opening = tt;
        no_end = tt;
        counted = refl;
        blocked = subst (AllByRecursion (λ c. is_blocked c [] ≡ true)) (sym opened.blocked) tt;
        modems = subst (AllByRecursion (λ d. is_modem_blocked d [] ≡ true)) (sym opened.modems) tt;
        emptied = opened.emptied;
      };
      awake = tt;
      in_time = λ d within. refl;
      offered = record {
        clients = subst (AllByRecursion (IsOffered p [])) (sym lawful.nobody) tt;
        modems = λ d within. inr (inl (lawful.no_modem_bytes d within));
      };
    }
