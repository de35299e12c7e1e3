-- One connection in turn is offered what waits for it. Lists of calls and of events have the newest first.
use Rattle.std.proofs.Common.{◌≡◌, inl, inr, ℕ, zero, suc, ◌+◌, ◌<◌, true, false, ◌==◌, List, [], ◌∷◌, ◌++◌, length, slice_get, refl, sym, ◌∙◌, ap, subst, arith, append_assoc, length-append, Some, None, ◌≤◌}
use Rattle.std.specs.List.{AllByRecursion, IsDistinct}
use Rattle.std.proofs.lemmas.Bool.Decides.{nat_tests}
use Rattle.kit_bytes.proofs.Lists.{all_weaker}
use Rattle.outbox.specs.Fronts.{IsFrontOf}
use Rattle.proxy_history.specs.Connections.{contains, without}
use Rattle.hub_io.specs.declared.settings.Until.{Until}
use Rattle.proxy_serving.specs.Serving.{IsFront, is_blocked}
use Rattle.many_history.specs.Events.{ManyEvent, Took, Left}
use Rattle.many_io.specs.Record.{ManyCall, Sent, SendFailed, HungUp, events, calls_without_device}
use Rattle.many_serving.specs.Proxy.{ManyProxy}
use Rattle.many_serving.specs.Serving.{IsOffered, reopenings, due_reopenings}
use Rattle.many_serving.specs.Ends.{NeverOver}
use Rattle.serving_loop.specs.Server.{emptied_after, remembering}
use Rattle.serving_loop.specs.Progress.{IsServing, IsInTime, HasOffered, IsAt, OffersModems}
use Rattle.serving_loop.specs.Face.{ManyFace, first_waiting}
use Rattle.serving_loop.specs.Cores.{StandsAfter}
use Rattle.serving_loop.specs.declared.server.Server.{Server}
use Rattle.serving_loop.proofs.Offering.{AreBlocked, is_among, both_on, all_joined, blocked-sent_none}
use Rattle.serving_loop.proofs.Offers.{events-sent, events-sent_none, events-send_failed, events-hung_up, offered-sent_none, offered-sent, offered-send_failed, offered-hung_up, earlier_differ, without-at}
use Rattle.serving_loop.proofs.Going.{serving-sent_none, serving-sent, serving-failed}
use Rattle.serving_loop.proofs.Faces.{contains-middle, slice_get-at, emptied_is, first_is, none_is}

-- what is lent of a queue, where that is anything, is a front of it
pub lent_front : {bytes queue : List ℕ} → 0 < length bytes → IsFrontOf bytes queue → IsFront bytes queue
lent_front some lent = record { some = some; rest = lent.rest; whole = lent.whole }

pub lent_within : {bytes queue : List ℕ} (count : ℕ) → IsFrontOf bytes queue → count ≤ length bytes → count ≤ length queue
lent_within {bytes = bytes} count lent within = subst (λ (l : List ℕ). count ≤ length l) (sym lent.whole) (omega (arith, within, length-append bytes lent.rest))

pub lent_some : {bytes queue : List ℕ} → 0 < length bytes → IsFrontOf bytes queue → 0 < length queue
lent_some {bytes = bytes} some lent = subst (λ (l : List ℕ). 0 < length l) (sym lent.whole) (omega (arith, some, length-append bytes lent.rest))

module _ {C : Type 0} {keeps : ManyProxy → List ManyEvent → C → Type 0} {face : C → ManyFace} {p : ManyProxy} {until : Until} {turns count c : ℕ} {server : Server C} {calls : List ManyCall} (at : IsAt keeps face p until turns count c server calls) where
  there : contains c (p.present (events calls)) ≡ true
  there = ap (contains c) at.whole ∙ contains-middle at.done c at.later

  distinct : IsDistinct (λ x y. x == y) (at.done ++ c ∷ at.later)
  distinct = let P : List ℕ → Type 0 = IsDistinct (λ x y. x == y) in subst P at.whole at.serving.stands.shows.distinct

  differ : AllByRecursion (λ d. (c == d) ≡ false) at.done
  differ = earlier_differ at.done c at.later distinct

  queue : (face server.core).queue c ≡ (p.waiting c (events calls))
  queue = at.serving.stands.shows.queue c there

  -- what is lent of the queue is a front of what waits
  front_of_waiting : (bytes : List ℕ) → 0 < length bytes → IsFrontOf bytes ((face server.core).queue c) → IsFront bytes (p.waiting c (events calls))
  front_of_waiting bytes waits lent = let P : List ℕ → Type 0 = IsFront bytes in subst P queue (lent_front waits lent)

  -- it was offered all
  offered_here : IsOffered p calls c → HasOffered keeps face p until turns (count + 1) server calls
  offered_here is = record {
    serving = at.serving;
    awake = at.awake;
    in_time = at.in_time;
    done = at.done ++ c ∷ [];
    todo = at.later;
    whole = at.whole ∙ sym (append_assoc at.done (c ∷ []) at.later);
    counted = omega (arith, length-append at.done (c ∷ []), at.counted);
    offered = all_joined (IsOffered p calls) at.done (c ∷ []) at.offered (is, tt);
  }

  pub at-blocked : contains c server.blocked ≡ true → HasOffered keeps face p until turns (count + 1) server calls
  at-blocked among = offered_here (inr (is_among (λ d. is_blocked d (calls_without_device calls) ≡ true) c server.blocked at.serving.blocked among))

  pub at-empty : (face server.core).queue c ≡ [] → HasOffered keeps face p until turns (count + 1) server calls
  at-empty none = offered_here (inl (sym queue ∙ none))

  pub at-sent_none : (bytes : List ℕ) (now : Server C) → 0 < length bytes → IsFrontOf bytes ((face server.core).queue c) → now.core ≡ server.core → now.blocked ≡ remembering c server.blocked → now.modems ≡ server.modems → now.emptied ≡ server.emptied
      → HasOffered keeps face p until turns (count + 1) now (Sent c bytes 0 ∷ calls)
  unfolding reopenings due_reopenings
  at-sent_none bytes now waits lent core blocked modems emptied = record {
    serving = serving-sent_none at.serving c bytes now (front_of_waiting bytes waits lent) core blocked modems emptied;
    awake = at.awake;
    in_time = at.in_time;
    done = at.done ++ c ∷ [];
    todo = at.later;
    whole =
        ap (λ (l : List ManyEvent). p.present l) (events-sent_none c bytes calls)
        ∙ at.whole
        ∙ sym (append_assoc at.done (c ∷ []) at.later);
    counted = omega (arith, length-append at.done (c ∷ []), at.counted);
    offered =
        all_joined (IsOffered p (Sent c bytes 0 ∷ calls)) at.done (c ∷ [])
        (both_on at.done (λ d other is. offered-sent_none at.serving.stands.shows.lawful c d bytes calls other is) differ at.offered)
        (inr (blocked-sent_none c bytes (calls_without_device calls)), tt);
  }

  pub at-sent : (bytes : List ℕ) (taken : ℕ) (now : Server C) → (taken == 0) ≡ false → taken ≤ length bytes → 0 < length bytes → IsFrontOf bytes ((face server.core).queue c) → contains c server.blocked ≡ false → (face server.core).dropped ≡ []
      → StandsAfter keeps face p (Took c taken ∷ events calls) now.core → now.blocked ≡ server.blocked → now.modems ≡ server.modems → now.emptied ≡ emptied_after (face server.core) server.emptied (face now.core)
      → IsAt keeps face p until turns count c now (Sent c bytes taken ∷ calls)
  unfolding reopenings due_reopenings
  at-sent bytes taken now some within waits lent free none after blocked modems emptied = record {
    serving =
        serving-sent at.serving c bytes taken now some within there (front_of_waiting bytes waits lent) free none (after.stands.shows.dropped (after.stands.shows.lawful.took_dropped c taken (events calls))) after.stands blocked modems
        (emptied ∙ emptied_is (Took c taken) server.emptied at.serving.stands after.stands at.serving.emptied);
    awake = at.awake;
    in_time = at.in_time;
    done = at.done;
    later = at.later;
    whole = ap (λ (l : List ManyEvent). p.present l) (events-sent c bytes taken calls some) ∙ after.stands.shows.lawful.took_present c taken (events calls) ∙ at.whole;
    counted = at.counted;
    offered = both_on at.done (λ d other is. offered-sent at.serving.stands.shows.lawful c d bytes taken calls some other is) differ at.offered;
  }

  pub at-failed : (bytes : List ℕ) (now : Server C) → 0 < length bytes → IsFrontOf bytes ((face server.core).queue c) → (face server.core).dropped ≡ []
      → StandsAfter keeps face p (Left c ∷ events calls) now.core → AreBlocked (calls_without_device calls) now.blocked → now.modems ≡ server.modems → now.emptied ≡ emptied_after (face server.core) server.emptied (face now.core)
      → HasOffered keeps face p until turns count now (HungUp c ∷ SendFailed c bytes ∷ calls)
  unfolding reopenings due_reopenings
  at-failed bytes now waits lent none after blocked modems emptied = record {
    serving =
        serving-failed at.serving c bytes now (front_of_waiting bytes waits lent) none (after.stands.shows.dropped (after.stands.shows.lawful.left_dropped c (events calls))) after.stands blocked modems
        (emptied ∙ emptied_is (Left c) server.emptied at.serving.stands after.stands at.serving.emptied);
    awake = at.awake;
    in_time = at.in_time;
    done = at.done;
    todo = at.later;
    whole =
        ap (λ (l : List ManyEvent). p.present l) (events-hung_up c (SendFailed c bytes ∷ calls) ∙ events-send_failed c bytes calls)
        ∙ after.stands.shows.lawful.left_present c (events calls) at.serving.stands.shows.rise there
        ∙ ap (without c) at.whole
        ∙ without-at at.done c at.later distinct;
    counted = at.counted;
    offered =
        both_on at.done (λ d other is. offered-hung_up at.serving.stands.shows.lawful c d (SendFailed c bytes ∷ calls) (offered-send_failed at.serving.stands.shows.lawful c d bytes calls other is)) differ at.offered;
  }

-- ---- from place to place ----

nothing_waits : (p : ManyProxy) (calls : List ManyCall) (names : List ℕ) → AllByRecursion (λ d. p.waiting d (events calls) ≡ []) names → AllByRecursion (IsOffered p calls) names
nothing_waits p calls names all = all_weaker _ _ (λ d none. inl none) names all

module _ {C : Type 0} {keeps : ManyProxy → List ManyEvent → C → Type 0} {face : C → ManyFace} {p : ManyProxy} {until : Until} {turns count : ℕ} {server : Server C} {calls : List ManyCall} (so : HasOffered keeps face p until turns count server calls) where
  -- those for which nothing waits are skipped
  pub at_next : (place c : ℕ) → first_waiting p (events calls) count ≡ Some place → slice_get (face server.core).present place ≡ Some c → IsAt keeps face p until turns place c server calls
  at_next place c first named =
      let start : first_waiting p (events calls) (length so.done) ≡ Some place = ap (λ (n : ℕ). first_waiting p (events calls) n) so.counted ∙ first in
      let found = first_is p (events calls) so.done so.todo so.whole place start in
      let front = found.0 in
      let whole : p.present (events calls) ≡ (so.done ++ front) ++ found.1 ∷ found.2 =
      so.whole ∙ ap (λ (l : List ℕ). so.done ++ l) found.3 ∙ sym (append_assoc so.done front (found.1 ∷ found.2)) in
      let counted : length (so.done ++ front) ≡ place = length-append so.done front ∙ sym found.4 in
      let at = slice_get-at (so.done ++ front) (found.1 ∷ found.2) c
      (ap (slice_get ((so.done ++ front) ++ found.1 ∷ found.2)) counted ∙ ap (λ (l : List ℕ). slice_get l place) (sym whole ∙ sym (so.serving.stands.shows.present)) ∙ named) in
      record {
        serving = so.serving;
        awake = so.awake;
        in_time = so.in_time;
        done = so.done ++ front;
        later = at.0;
        whole = whole ∙ ap (λ (l : List ℕ). (so.done ++ front) ++ l) at.1;
        counted = counted;
        offered = all_joined (IsOffered p calls) so.done front so.offered (nothing_waits p calls front found.5);
      }

  -- nothing waits for those that are left
  pub all_offered : first_waiting p (events calls) count ≡ None → OffersModems keeps face p until turns 0 server calls
  all_offered first =
      let rest = none_is p (events calls) so.done so.todo so.whole (ap (λ (n : ℕ). first_waiting p (events calls) n) so.counted ∙ first) in
      record {
        serving = so.serving;
        awake = so.awake;
        in_time = so.in_time;
        clients = subst (AllByRecursion (IsOffered p calls)) (sym so.whole)
            (all_joined (IsOffered p calls) so.done so.todo so.offered (nothing_waits p calls so.todo rest));
        modems = λ d none. absurd (omega (arith, none));
      }

-- nobody was offered anything yet
pub none_offered : {C : Type 0} {keeps : ManyProxy → List ManyEvent → C → Type 0} {face : C → ManyFace} {p : ManyProxy} {until : Until} {turns : ℕ} {server : Server C} {calls : List ManyCall} → IsServing keeps face p turns server calls → NeverOver p until calls → IsInTime p calls → HasOffered keeps face p until turns 0 server calls
none_offered {p = p} {calls = calls} serving awake in_time = record { serving = serving; awake = awake; in_time = in_time; done = []; todo = p.present (events calls); whole = refl; counted = refl; offered = tt }

pub positive : (n : ℕ) → (n ≡ 0 → ⊥) → 0 < n
positive zero some = absurd (some refl)
positive (suc n) some = omega arith

pub not_zero : (n : ℕ) → (n ≡ 0 → ⊥) → (n == 0) ≡ false
not_zero zero some = absurd (some refl)
not_zero (suc n) some = grind (arith, nat_tests)
