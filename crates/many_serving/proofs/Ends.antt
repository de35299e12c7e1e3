-- The serving of a proxy of one device ends as that of one of several.
use Rattle.std.proofs.Common.{◌≡◌, ℕ, ◌+◌, ◌≤◌, Bool, true, false, ◌&&◌, nat_le, List, [], ◌∷◌, ◌++◌, map, drop, refl, ap, sym, ◌∙◌, subst, inl, inr, ⊎_elim, if◌then◌else◌, Option, Some, None}
use Rattle.std.proofs.lemmas.List.{map-append}
use Rattle.std.specs.List.{AllByRecursion}
use Rattle.proxy_history.specs.Events.{Event}
use Rattle.proxy_history.specs.Events as one
use Rattle.proxy_history.specs.Proxy.{Proxy}
use Rattle.hub_io.specs.Record.{Call, Told, ToldRoom, ToldModemRoom, ToldStop, NextFailed, Sent, SendFailed, SentModem, SendModemFailed, Opened, Paired, Reopened, ReopenFailed, HungUp}
use Rattle.hub_io.specs.Record as one_call
use Rattle.hub_io.specs.declared.settings.ServeEnd.{ServeEnd}
use Rattle.hub_io.specs.declared.settings.ServeEnd.TheVariants as end
use Rattle.hub_io.specs.declared.settings.Until.{Until}
use Rattle.proxy_serving.specs.Serving as one_serving
use Rattle.proxy_serving.specs.Ends as one_end
use Rattle.many_history.specs.Events.{ManyEvent}
use Rattle.many_history.specs.Events as many_event
use Rattle.many_io.specs.Record.{without_device, call_without_device, calls_without_device, ManyCall, events}
use Rattle.many_io.specs.Record as many_call
use Rattle.many_serving.specs.Serving.{AllIsDone}
use Rattle.many_serving.specs.Ends as several
use Rattle.many_io.specs.One.{call_of}
use Rattle.many_serving.proofs.One.{all, calls_are, met_is, q, all_offered, done, served}

-- ---- calls of which each is of the only device ----

abbrev IsOfOne : List ManyCall → Type 0
IsOfOne calls = all (calls_without_device calls) ≡ calls

tail_is : (front calls : List ManyCall) → IsOfOne (front ++ calls) → IsOfOne calls
tail_is [] calls is = is
tail_is (call ∷ front) calls is = tail_is front calls (ap (drop 1) is)

all_is : (calls : List Call) → IsOfOne (all calls)
all_is calls = ap (map call_of) (calls_are calls)

behind_is : (calls : List Call) (front earlier : List ManyCall) → all calls ≡ front ++ earlier → IsOfOne earlier
behind_is calls front earlier whole = tail_is front earlier (subst IsOfOne whole (all_is calls))

module _ (p : Proxy) where
  -- ---- over by itself ----

  emptied_is : (past : List ManyEvent) → several.emptied_at (q p) past ≡ one_serving.emptied_at p (map without_device past)
  unfolding several.emptied_at one_serving.emptied_at
  emptied_is [] = refl
  emptied_is (event ∷ past) = ap (λ (n : ℕ). if one_serving.is_nobody (p.present (map without_device past)) then n else p.time (without_device event ∷ map without_device past)) (emptied_is past)

  idle_is : (empty : Option ℕ) (past : List ManyEvent) → several.is_idle (q p) empty past ≡ one_serving.is_idle p empty (map without_device past)
  idle_is None past = refl
  idle_is (Some limit) past = ap (λ (n : ℕ). one_serving.is_nobody (p.present (map without_device past)) && nat_le (n + limit) (p.time (map without_device past))) (emptied_is past)

  and_true : (b : Bool) → (b && true) ≡ b
  and_true true = refl
  and_true false = refl

  lost_is : (lost : Bool) (past : List ManyEvent) → several.is_lost (q p) lost past ≡ one_serving.is_lost p lost (map without_device past)
  lost_is false past = refl
  lost_is true past = and_true (p.is_away (map without_device past))

  module _ (until : Until) where
    at_clock : (time : ℕ) (calls : List Call) → map without_device (many_event.Now time ∷ events (all calls)) ≡ one.Now time ∷ one_call.events calls
    at_clock time calls = ap (λ (l : List Event). one.Now time ∷ l) (met_is calls)

    emptied : (time : ℕ) (calls : List Call) → several.IsEmptied (q p) until (many_event.Now time ∷ events (all calls)) → one_serving.IsEmptied p until (one.Now time ∷ one_call.events calls)
    emptied time calls is = subst (one_serving.IsEmptied p until) (at_clock time calls) (sym (idle_is until.empty (many_event.Now time ∷ events (all calls))) ∙ is)

    lost : (time : ℕ) (calls : List Call) → several.IsLost (q p) until (many_event.Now time ∷ events (all calls)) → one_serving.IsLost p until (one.Now time ∷ one_call.events calls)
    lost time calls is =
        let past : List ManyEvent = many_event.Now time ∷ events (all calls) in
        subst (one_serving.IsLost p until) (at_clock time calls) (record { awake = sym (idle_is until.empty past) ∙ is.awake; lost = sym (lost_is until.lost past) ∙ is.lost })

    going_on : (time : ℕ) (calls : List Call) → several.IsGoingOn (q p) until (many_event.Now time ∷ events (all calls)) → one_serving.IsGoingOn p until (one.Now time ∷ one_call.events calls)
    going_on time calls is =
        let past : List ManyEvent = many_event.Now time ∷ events (all calls) in
        subst (one_serving.IsGoingOn p until) (at_clock time calls) (record { awake = sym (idle_is until.empty past) ∙ is.awake; there = sym (lost_is until.lost past) ∙ is.there })

    never_over : (calls : List Call) → several.NeverOver (q p) until (all calls) → one_serving.NeverOver p until calls
    never_over [] is = tt
    never_over (Told (one.Now time) ∷ calls) is = (going_on time calls is.0, never_over calls is.1)
    never_over (Told (one.Joined c) ∷ calls) is = never_over calls is
    never_over (Told (one.Piece c bytes) ∷ calls) is = never_over calls is
    never_over (Told (one.Left c) ∷ calls) is = never_over calls is
    never_over (Told (one.Took c count) ∷ calls) is = never_over calls is
    never_over (Told (one.ModemPiece bytes) ∷ calls) is = never_over calls is
    never_over (Told one.ModemGone ∷ calls) is = never_over calls is
    never_over (Told one.ModemBack ∷ calls) is = never_over calls is
    never_over (Told (one.ModemTook count) ∷ calls) is = never_over calls is
    never_over (ToldRoom c ∷ calls) is = never_over calls is
    never_over (ToldModemRoom ∷ calls) is = never_over calls is
    never_over (ToldStop ∷ calls) is = never_over calls is
    never_over (NextFailed ∷ calls) is = never_over calls is
    never_over (Sent c bytes taken ∷ calls) is = never_over calls is
    never_over (SendFailed c bytes ∷ calls) is = never_over calls is
    never_over (SentModem bytes taken ∷ calls) is = never_over calls is
    never_over (SendModemFailed bytes ∷ calls) is = never_over calls is
    never_over (Opened socket device ok ∷ calls) is = never_over calls is
    never_over (Paired ok ∷ calls) is = never_over calls is
    never_over (Reopened ∷ calls) is = never_over calls is
    never_over (ReopenFailed ∷ calls) is = never_over calls is
    never_over (HungUp c ∷ calls) is = never_over calls is

    -- ---- why it ended ----

    module _ (turns : ℕ) where
      counted : (calls : List Call) → one_serving.turns_in (calls_without_device (all calls)) ≤ turns → one_serving.turns_in calls ≤ turns
      counted calls is = subst (λ (l : List Call). one_serving.turns_in l ≤ turns) (calls_are calls) is

      goes_on : (calls : List Call) → several.GoesOn (q p) until turns (all calls) → one_end.GoesOn p until turns calls
      goes_on calls is = record {
        serves = served p calls is.serves;
        no_end = subst (AllByRecursion one_serving.IsNoEnd) (calls_are calls) is.no_end;
        awake = never_over calls is.awake;
        counted = counted calls is.counted;
      }

      -- of calls that stand behind others
      went_on : (earlier : List ManyCall) → IsOfOne earlier → several.GoesOn (q p) until turns earlier → one_end.GoesOn p until turns (calls_without_device earlier)
      went_on earlier of is = goes_on (calls_without_device earlier) (subst (several.GoesOn (q p) until turns) (sym of) is)

      ends_with : (last : ManyCall) (calls : List Call) → several.EndsWith (q p) until turns last (all calls) → one_end.EndsWith p until turns (call_without_device last) calls
      ends_with last calls is = record {
        earlier = calls_without_device is.earlier;
        whole = sym (calls_are calls) ∙ ap calls_without_device is.whole;
        goes_on = went_on is.earlier (behind_is calls (last ∷ []) is.earlier is.whole) is.goes_on;
        serves = served p calls is.serves;
        counted = counted calls is.counted;
      }

      hung_up_is : (names : List ℕ) → calls_without_device (several.hanging_up names) ≡ one_serving.hanging_up names
      hung_up_is [] = refl
      hung_up_is (c ∷ names) = ap (λ (l : List Call). HungUp c ∷ l) (hung_up_is names)

      ends_at_clock : (Over : List ManyEvent → Type 0) (OverOne : List Event → Type 0) → ((time : ℕ) (calls : List Call) → Over (many_event.Now time ∷ events (all calls)) → OverOne (one.Now time ∷ one_call.events calls))
          → (calls : List Call) → several.EndsAtClock Over (q p) until turns (all calls) → one_end.EndsAtClock OverOne p until turns calls
      ends_at_clock Over OverOne over calls is =
          let told : ManyCall = many_call.Told (many_event.Now is.time) in
          let of : IsOfOne (told ∷ is.earlier) = behind_is calls (several.hanging_up is.hung_up) (told ∷ is.earlier) is.whole in
          let earlier : IsOfOne is.earlier = ap (drop 1) of in
          record {
            time = is.time;
            earlier = calls_without_device is.earlier;
            hung_up = is.hung_up;
            whole = sym (calls_are calls) ∙ ap calls_without_device is.whole ∙ map-append call_without_device (several.hanging_up is.hung_up) (told ∷ is.earlier)
                ∙ ap (λ (l : List Call). l ++ Told (one.Now is.time) ∷ calls_without_device is.earlier) (hung_up_is is.hung_up);
            over = over is.time (calls_without_device is.earlier) (subst (λ (l : List ManyCall). Over (many_event.Now is.time ∷ events l)) (sym earlier) is.over);
            goes_on = went_on is.earlier earlier is.goes_on;
            serves = served p calls is.serves;
            counted = counted calls is.counted;
          }

      module _ (lacks : Event → Type 0) where
        ends_early : (calls : List Call) → several.EndsEarly (λ event. lacks (without_device event)) (q p) until turns (all calls) → one_end.EndsEarly lacks p until turns calls
        ends_early calls is =
            let of : IsOfOne is.earlier = behind_is calls (many_call.Told is.event ∷ []) is.earlier is.whole in
            record {
              event = without_device is.event;
              lacking = is.lacking;
              earlier = calls_without_device is.earlier;
              whole = sym (calls_are calls) ∙ ap calls_without_device is.whole;
              goes_on = went_on is.earlier of is.goes_on;
              done = done p (calls_without_device is.earlier) (subst (AllIsDone (q p)) (sym of) is.done);
              counted = counted calls is.counted;
            }

        no_calls : (calls : List Call) → all calls ≡ [] → calls ≡ []
        no_calls calls is = sym (calls_are calls) ∙ ap calls_without_device is

        pub ends_for : (why : ServeEnd) (calls : List Call) → several.EndsFor (λ event. lacks (without_device event)) (q p) until turns why (all calls) → one_end.EndsFor lacks p until turns why calls
        ends_for end.Stopped calls is = ends_with many_call.ToldStop calls is
        ends_for end.HubFault calls is = ends_with many_call.NextFailed calls is
        ends_for end.TurnsSpent calls is = record {
          goes_on = goes_on calls is.goes_on;
          spent = sym (ap one_serving.turns_in (calls_are calls)) ∙ is.spent;
          offered = all_offered p calls is.offered;
        }
        ends_for end.Empty calls is = ends_at_clock (several.IsEmptied (q p) until) (one_serving.IsEmptied p until) emptied calls is
        ends_for end.Lost calls is = ends_at_clock (several.IsLost (q p) until) (one_serving.IsLost p until) lost calls is
        ends_for end.OutOfMemory calls is = ⊎_elim (λ none. inl (no_calls calls none)) (λ early. inr (ends_early calls early)) is
