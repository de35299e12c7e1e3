-- The client's own events, but for its pieces: it joins, its socket takes bytes, and it leaves.
use Rattle.std.proofs.Common.{◌≡◌, ◌≢◌, inl, ℕ, ◌≤◌, ◌<◌, Bool, true, false, ◌&&◌, ◌||◌, ◌==◌, nat_lt, is_some, if◌then◌else◌, List, [], ◌∷◌, length, refl, ap, sym, ◌∙◌, subst, arith}
use Rattle.std.specs.List.{list_any}
use Rattle.std.proofs.lemmas.Bool.Decides.{nat_tests}
use Rattle.proxy_history.specs.Events.{Event, Joined, Left, Took}
use Rattle.proxy_history.specs.Streams.{stream, modem_stream}
use Rattle.proxy_history.specs.Items.{Joins, Leaves, Takes, GoesBad, items_of}
use Rattle.proxy_history.specs.Facts.{Fact, Why, NotAdmitted, Leaving, BadStream, EventBegan, Admitted, Ended, Taken}
use Rattle.proxy_history.specs.Connections.{present, is_present}
use Rattle.proxy_history.specs.Requests.{in_use, pending}
use Rattle.proxy_history.specs.Modem.{now, to_modem, modem_taken_count, modem_queue}
use Rattle.proxy_history.specs.Wording.{told_by}
use Rattle.proxy_history.specs.View.{Entry, End, Taking, view}
use Rattle.proxy_history.specs.Coming.{greatest_name, AreSound, queued_for}
use Rattle.proxy_history.specs.History.{add, add_all}
use Rattle.proxy_solo.specs.Solo.{meet}
use Rattle.proxy_solo.proofs.Lists.{self}
use Rattle.proxy_solo.proofs.Queries.{present-part}
use Rattle.proxy_solo.proofs.Histories.{general_present}
use Rattle.proxy_solo.proofs.Undisturbed.{AreUndisturbed}
use Rattle.mbim_proxy.specs.Setup.{Setup}
use Rattle.mbim_proxy.specs.Step.{blank, view_of, known_from, known_now}
use Rattle.mbim_proxy.specs.ModemStates.{state}
use Rattle.mbim_proxy.specs.Forwarding.{wire}
use Rattle.mbim_proxy.specs.History.{mbim_protocol, history}
use Rattle.mbim_solo.specs.Solo.{restated, mbim_alone}
use Rattle.mbim_solo.specs.Part.{part}
use Rattle.mbim_solo.proofs.Noted.{is_waiting}
use Rattle.mbim_solo.proofs.Reading.{reads}
use Rattle.mbim_solo.proofs.Views.{OpenOnce}
use Rattle.mbim_solo.proofs.Openings.{entry_as_open}
use Rattle.mbim_solo.proofs.Relation.{IsOrderly, IsRoomy, is_end_of, Alike}
use Rattle.mbim_solo.proofs.Orderly.{event_orderly, new_is_unheard}
use Rattle.mbim_solo.proofs.Settling.{facts, MetAlone, settles}
use Rattle.mbim_solo.proofs.Speaking.{alike_settled}
use Rattle.mbim_solo.proofs.Standing.{waits-part, waits_as_before, KeepsModem, stands_as_before, Both, Done, begun_alike, both_begin, both_do_nothing, there_alike, both_if, fact_alike, queued_alike}

module _ (s : Setup) (c : ℕ) (client : c ≢ 0) where
  -- ---- one event that the client meets alone ----

  abbrev pub meets : Event → List Event → List Event
  meets event solo = meet (mbim_protocol s) (mbim_alone s) event solo

  -- something was done for all and alone alike
  pub met_alike : (roomy : IsRoomy s) (event : Event) (solo : List Event) (after : List Fact) (bytes : List ℕ) → MetAlone s roomy c client event solo → IsOrderly s c after → Done s c client after (facts s roomy c client event solo)
      → stream c (event ∷ solo) ≡ bytes → Alike s c after (meets event solo) bytes
  met_alike roomy event solo after bytes M O D sent = alike_settled s c after (facts s roomy c client event solo) (meets event solo) bytes O M.settled M.may M.quiet (M.sent ∙ sent) D.same D.time D.stands

  queue_if : (b : Bool) (own after : List Fact) → modem_queue (wire s) own ≡ [] → modem_queue (wire s) after ≡ [] → modem_queue (wire s) (if b then after else own) ≡ []
  queue_if true own after none one = one
  queue_if false own after none one = none

  -- ---- the end of the client, and what its socket takes ----

  ended_done : (why : Why) (past own : List Fact) → Both s c client past own → Done s c client (Ended c why ∷ past) (Ended c why ∷ own)
  unfolding now
  ended_done why past own B = record {
    same = fact_alike s c client (Ended c why) past own B.same;
    time = B.time;
    stands = λ still. absurd (let clash : true ≡ false = sym (ap (λ (b : Bool). b || list_any (is_end_of c) past) (self c)) ∙ still in cc);
  }

  taken_waits : (count : ℕ) (past : List Fact) → OpenOnce s c past → is_waiting s c (part c (Taken c count ∷ past)) ≡ is_waiting s c (part c past)
  unfolding view present
  taken_waits count past once = waits_as_before s c client past (Taken c count ∷ past) once (tt, once) refl (entry_as_open s (c == c) (Taking count) (view_of c past) (λ known. (refl, refl))).1

  taken_keeps : (count : ℕ) (past : List Fact) → KeepsModem s c past (Taken c count ∷ past)
  unfolding state in_use pending
  taken_keeps count past = record { modem = refl; used = refl; waiting = refl }

  taken_done : (count : ℕ) (past own : List Fact) → Both s c client past own → Done s c client (Taken c count ∷ past) (Taken c count ∷ own)
  unfolding now
  taken_done count past own B = record {
    same = fact_alike s c client (Taken c count) past own B.same;
    time = B.time;
    stands = λ still. stands_as_before s c past own (Taken c count ∷ past) (Taken c count ∷ own) (taken_waits count past B.orderly.fit.once) (taken_keeps count past) (taken_keeps count own) (B.stands still);
  }

  pub goes_bad_done : (past own : List Fact) → Both s c client past own → Done s c client (add (mbim_protocol s) (GoesBad c) past) (add (mbim_protocol s) (GoesBad c) own)
  goes_bad_done past own B = both_if s c client (is_present c past) (is_present c own) past own (Ended c BadStream ∷ past) (Ended c BadStream ∷ own) (there_alike s c client past own B.same) (λ e own_e. ended_done BadStream past own B) (both_do_nothing s c client past own B)

  pub goes_bad_queue : (own : List Fact) → modem_queue (wire s) own ≡ [] → modem_queue (wire s) (add (mbim_protocol s) (GoesBad c) own) ≡ []
  unfolding to_modem modem_taken_count
  goes_bad_queue own empty = queue_if (is_present c own) own (Ended c BadStream ∷ own) empty empty

  leaves_done : (past own : List Fact) → Both s c client past own → Done s c client (add (mbim_protocol s) (Leaves c) past) (add (mbim_protocol s) (Leaves c) own)
  leaves_done past own B = both_if s c client (is_present c past) (is_present c own) past own (Ended c Leaving ∷ past) (Ended c Leaving ∷ own) (there_alike s c client past own B.same) (λ e own_e. ended_done Leaving past own B) (both_do_nothing s c client past own B)

  takes_done : (count : ℕ) (past own : List Fact) → Both s c client past own → Done s c client (add (mbim_protocol s) (Takes c count) past) (add (mbim_protocol s) (Takes c count) own)
  takes_done count past own B = both_if s c client (is_present c past) (is_present c own) past own (Taken c count ∷ past) (Taken c count ∷ own) (there_alike s c client past own B.same) (λ e own_e. taken_done count past own B) (both_do_nothing s c client past own B)

  -- ---- it joins ----

  -- of a client that was let in nothing is known yet
  admitted_waits : (past : List Fact) → OpenOnce s c past → is_waiting s c (part c (Admitted c ∷ past)) ≡ false
  unfolding view present told_by
  admitted_waits past once =
      waits-part s c client (Admitted c ∷ past) (tt, once)
      ∙ ap (λ (b : Bool). is_present c (Admitted c ∷ past) && is_some (known_from s (let l : List Entry = if b then [] else view_of c past in l)).waits) (self c)
      ∙ elim (is_present c (Admitted c ∷ past)) as (λ b. (b && false) ≡ false) [ true ↦ refl | false ↦ refl ]

  admitted_keeps : (past : List Fact) → KeepsModem s c past (Admitted c ∷ past)
  unfolding state in_use pending
  admitted_keeps past = record { modem = refl; used = refl; waiting = refl }

  admitted_done : (past own : List Fact) → Both s c client past own → is_present c past ≡ false → Done s c client (Admitted c ∷ past) (Admitted c ∷ own)
  unfolding now
  admitted_done past own B gone =
      let before : is_waiting s c (part c past) ≡ false = waits-part s c client past B.orderly.fit.once ∙ ap (λ (b : Bool). b && is_some (known_now s c past).waits) gone in
      record {
        same = fact_alike s c client (Admitted c) past own B.same;
        time = B.time;
        stands = λ still. stands_as_before s c past own (Admitted c ∷ past) (Admitted c ∷ own) (admitted_waits past B.orderly.fit.once ∙ sym before) (admitted_keeps past) (admitted_keeps own) (B.stands still);
      }

  joins_done : (past own : List Fact) → Both s c client past own → is_present c past ≡ false → present own ≡ [] → AreUndisturbed (view_of c (add (mbim_protocol s) (Joins c) past)) → Done s c client (add (mbim_protocol s) (Joins c) past) (add (mbim_protocol s) (Joins c) own)
  unfolding view
  joins_done past own B gone nobody fair = by (nat_lt (length (present past)) s.limits.connections) refl fair
    where
      Goal : Bool → Type 0
      Goal b = Done s c client (let after : List Fact = if b then Admitted c ∷ past else Ended c NotAdmitted ∷ past in after) (add (mbim_protocol s) (Joins c) own)

      there : nat_lt (length (present past)) s.limits.connections ≡ true → nat_lt (length (present own)) s.limits.connections ≡ true
      there e =
          let some : length (present past) < s.limits.connections = grind (arith, nat_tests, e) in
          let none : length (present own) ≡ 0 = ap (λ (l : List ℕ). length l) nobody in
          let fits : length (present own) < s.limits.connections = omega (arith, some, none) in
          grind (arith, nat_tests, fits)

      by : (b : Bool) → nat_lt (length (present past)) s.limits.connections ≡ b → AreUndisturbed (view_of c (let after : List Fact = if b then Admitted c ∷ past else Ended c NotAdmitted ∷ past in after)) → Goal b
      by true e fair = subst (λ (b : Bool). Done s c client (Admitted c ∷ past) (let facts : List Fact = if b then Admitted c ∷ own else Ended c NotAdmitted ∷ own in facts)) (sym (there e)) (admitted_done past own B gone)
      by false e fair =
          let full : AreUndisturbed (End NotAdmitted ∷ []) = subst (λ (b : Bool). AreUndisturbed (let l : List Entry = if b then End NotAdmitted ∷ [] else view_of c past in l)) (self c) fair in
          absurd (let clash : true ≡ false = full.0 in cc)

  -- ---- the three events ----

  module _ (roomy : IsRoomy s) (events solo : List Event) (A : Alike s c (history s events) solo (stream c events)) where
    begun : Both s c client (EventBegan ∷ history s events) (EventBegan ∷ history s solo)
    begun = both_begin s c client (EventBegan ∷ history s events) solo (stream c events) (begun_alike s c client (history s events) solo (stream c events) A)

    pub left_alike : AreSound (mbim_protocol s) events
        → Alike s c (add_all (mbim_protocol s) (items_of (mbim_protocol s) events (Left c)) (EventBegan ∷ history s events)) (meets (Left c) solo) (stream c (Left c ∷ events))
    unfolding add_all stream modem_stream to_modem modem_taken_count
    left_alike sound =
        let queue : modem_queue (wire s) (add (mbim_protocol s) (Leaves c) (EventBegan ∷ history s solo)) ≡ [] = queue_if (is_present c (EventBegan ∷ history s solo)) (EventBegan ∷ history s solo) (Ended c Leaving ∷ EventBegan ∷ history s solo) begun.empty begun.empty in
        met_alike roomy (Left c) solo (add (mbim_protocol s) (Leaves c) (EventBegan ∷ history s events)) (stream c events)
        (settles s roomy c client (Left c) solo (tt, A.may) A.rests A.quiet (inl queue))
        (event_orderly s c client (Left c) events (tt, sound))
        (leaves_done (EventBegan ∷ history s events) (EventBegan ∷ history s solo) begun) A.sent

    pub took_alike : (count : ℕ) → AreSound (mbim_protocol s) (Took c count ∷ events)
        → Alike s c (add_all (mbim_protocol s) (items_of (mbim_protocol s) events (Took c count)) (EventBegan ∷ history s events)) (meets (Took c count) solo) (stream c (Took c count ∷ events))
    unfolding add_all stream modem_stream to_modem modem_taken_count
    took_alike count sound =
        let queue : modem_queue (wire s) (add (mbim_protocol s) (Takes c count) (EventBegan ∷ history s solo)) ≡ [] = queue_if (is_present c (EventBegan ∷ history s solo)) (EventBegan ∷ history s solo) (Taken c count ∷ EventBegan ∷ history s solo) begun.empty begun.empty in
        let may : count ≤ queued_for (mbim_protocol s) c solo = subst (λ (n : ℕ). count ≤ n) (queued_alike s c client events solo (stream c events) A) sound.0 in
        met_alike roomy (Took c count) solo (add (mbim_protocol s) (Takes c count) (EventBegan ∷ history s events)) (stream c events)
        (settles s roomy c client (Took c count) solo (may, A.may) A.rests A.quiet (inl queue))
        (event_orderly s c client (Took c count) events sound)
        (takes_done count (EventBegan ∷ history s events) (EventBegan ∷ history s solo) begun) A.sent

    -- alone nobody is there before it
    pub joined_alike : AreSound (mbim_protocol s) (Joined c ∷ events) → greatest_name solo ≤ greatest_name events → present (history s solo) ≡ []
        → AreUndisturbed (view_of c (add_all (mbim_protocol s) (items_of (mbim_protocol s) events (Joined c)) (EventBegan ∷ history s events)))
        → Alike s c (add_all (mbim_protocol s) (items_of (mbim_protocol s) events (Joined c)) (EventBegan ∷ history s events)) (meets (Joined c) solo) (stream c (Joined c ∷ events))
    unfolding add_all stream modem_stream to_modem modem_taken_count present
    joined_alike sound names nobody fair =
        let queue : modem_queue (wire s) (add (mbim_protocol s) (Joins c) (EventBegan ∷ history s solo)) ≡ [] = elim (nat_lt (length (present (EventBegan ∷ history s solo))) s.limits.connections) as (λ b. modem_queue (wire s) (if b then Admitted c ∷ EventBegan ∷ history s solo else Ended c NotAdmitted ∷ EventBegan ∷ history s solo) ≡ []) [
          | true ↦ begun.empty
          | false ↦ begun.empty
        ]
        in
        let rises : greatest_name solo < c = omega (arith, names, sound.0) in
        let gone : is_present c (history s events) ≡ false = sym (present-part s.limits blank restated reads c (history s events)) ∙ general_present c (part c (history s events)) (new_is_unheard s c client events sound.1 sound.0) in
        met_alike roomy (Joined c) solo (add (mbim_protocol s) (Joins c) (EventBegan ∷ history s events)) (if c == c then [] else stream c events)
        (settles s roomy c client (Joined c) solo (rises, A.may) A.rests A.quiet (inl queue))
        (event_orderly s c client (Joined c) events sound)
        (joins_done (EventBegan ∷ history s events) (EventBegan ∷ history s solo) begun gone nobody fair)
        (ap (λ (l : List ℕ). if c == c then [] else l) A.sent)
