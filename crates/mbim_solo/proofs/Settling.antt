-- After each event that a client meets alone nothing waits for the modem, and the proxy has nothing more to ask by itself.
use Rattle.std.proofs.Common.{◌≡◌, ◌≢◌, ◌⊎◌, ℕ, zero, suc, ◌≤◌, ◌<◌, ◌^◌, Bool, true, false, not, cond, ◌&&◌, ◌||◌, ◌==◌, is_none, if◌then◌else◌, List, [], ◌∷◌, ◌++◌, length, refl, ap, sym, ◌∙◌, subst, ⊎_elim, arith, Contains, Option, Some, None}
use Rattle.std.specs.List.{AllByRecursion, list_any}
use Rattle.std.proofs.lemmas.Bool.{eq-eqb, and_parts, false_from_ne_true}
use Rattle.std.proofs.lemmas.Bool.Decides.{nat_tests}
use Rattle.std.proofs.lemmas.List.Folds.{list_any-append}
use Rattle.std.proofs.lemmas.List.Elements.{Contains-append_right}
use Rattle.kit_bytes.specs.Subscriptions.{Pair}
use Rattle.kit_bytes.specs.declared.services.TheConstants.{BASIC_CONNECT}
use Rattle.mbim_frame.specs.declared.kind.MessageKind.TheVariants.{CommandDone}
use Rattle.mbim_frame.specs.declared.status.TheConstants.{SUCCESS}
use Rattle.mbim_frame.specs.Kinds.{kind_number}
use Rattle.mbim_frame.specs.Frame.{size_of}
use Rattle.mbim_frame.specs.Head.{with_number, number_of}
use Rattle.mbim_frame.specs.Bodies.{done_text}
use Rattle.mbim_frame.specs.Writing.{unsplit}
use Rattle.mbim_fragments.specs.Splitting.{split}
use Rattle.mbim_fragments.proofs.Sizes.{split_is_unsplit}
use Rattle.proxy_history.specs.Events.{Event, ModemPiece}
use Rattle.proxy_history.specs.Streams.{stream, modem_stream, with_piece}
use Rattle.proxy_history.specs.Items.{Item, items_of, modem_items}
use Rattle.proxy_history.specs.Facts.{Fact, Request, Forward, EventBegan, Judged, Forwarded, Answered, ListSent}
use Rattle.proxy_history.specs.Connections.{present}
use Rattle.proxy_history.specs.Requests.{in_use, pending, first_where, has_request, is_pending, without_request, of_space, numbers_of}
use Rattle.proxy_history.specs.Modem.{now, is_away}
use Rattle.proxy_history.specs.Modem as modem
use Rattle.proxy_history.specs.View.{Said, Response, view}
use Rattle.proxy_history.specs.Coming.{AreSound}
use Rattle.proxy_history.specs.History as proxy
use Rattle.proxy_history.specs.History.{add_all}
use Rattle.proxy_history.proofs.Sound.{serial_within}
use Rattle.proxy_history.proofs.Folds.{away_agrees}
use Rattle.proxy_history.proofs.Given.{contained_has}
use Rattle.proxy_solo.specs.Part.{as_known, facts_if}
use Rattle.proxy_solo.specs.Part as alone_part
use Rattle.proxy_solo.specs.Solo as alone
use Rattle.proxy_solo.proofs.Lists.{self}
use Rattle.proxy_solo.proofs.Placed.{forwarded_in_use, forwarded_pending}
use Rattle.proxy_solo.proofs.Telling.{meet_told}
use Rattle.proxy_solo.proofs.Coming.{meet_sound}
use Rattle.proxy_solo.proofs.Elsewhere.{own_is_theirs}
use Rattle.mbim_proxy.specs.Setup.{Setup, the_space}
use Rattle.mbim_proxy.specs.Services.{subscribe_list_cid}
use Rattle.mbim_proxy.specs.Step.{blank, view_of}
use Rattle.mbim_proxy.specs.ModemStates.{ModemState, IsOpening, IsReady, is_own, is_own_open, is_ready, state}
use Rattle.mbim_proxy.specs.Lists.{merged, last_list}
use Rattle.mbim_proxy.specs.Forwarding.{wire, own_subscribe, number_for, request_of}
use Rattle.mbim_proxy.specs.FromModem.{IsDone, first_answered_by, respond, answer_or_late, hear_modem}
use Rattle.mbim_proxy.specs.OwnList.{is_free, is_wanted, number_of_list, send_under, finish}
use Rattle.mbim_proxy.specs.History.{mbim_protocol, history}
use Rattle.mbim_proxy.proofs.Walk.{Asks, orderly}
use Rattle.mbim_proxy.proofs.Merging.{sent_waits}
use Rattle.mbim_proxy.proofs.Verdicts.{given_if}
use Rattle.mbim_solo.specs.Solo.{answer_to, own_list_in, list_taken, restated, mbim_alone}
use Rattle.mbim_solo.specs.Part.{part}
use Rattle.mbim_solo.specs.Openings.{is_absent}
use Rattle.mbim_solo.proofs.Hearing.{number_written, found_for}
use Rattle.mbim_solo.proofs.Openings.{own_noted}
use Rattle.mbim_solo.proofs.Orders.{ready_is}
use Rattle.mbim_solo.proofs.Spoken.{IsQuiet, SaysOne, comes_at_once, answer_says_one}
use Rattle.mbim_solo.proofs.Numbers.{number_within}
use Rattle.mbim_solo.proofs.Relation.{IsRoomy, is_own_list, IsOrderly, Rests, IsQuietThere, modem_bytes, IsSettled}
use Rattle.mbim_solo.proofs.Orderly.{begun_orderly, histories_are_orderly, event_orderly}
use Rattle.mbim_solo.proofs.Unlisted.{IsUnlisted, event_unlisted}
use Rattle.mbim_solo.proofs.Wanting.{entry_as_listed, merged_same, none_for, still_none, busy_none, asked_none, finish_none}
use Rattle.mbim_solo.proofs.Taking.{was_taken, taken_queue, HasTaken, takes, taken_sound, taken_quiet}
use Rattle.mbim_solo.proofs.Short.{mbim_is_short}

-- ---- requests ----

pub none_where : (test : Request → Bool) (requests : List Request) → list_any test requests ≡ false → first_where test requests ≡ None
none_where test [] none = refl
none_where test (r ∷ requests) none =
    elim (test r) as (λ b. (b || list_any test requests) ≡ false → (if b then Some r else first_where test requests) ≡ None) [ true ↦ λ h. absurd (cc) | false ↦ λ h. none_where test requests h ] none

last_where : (test : Request → Bool) (requests : List Request) (r : Request) → list_any test requests ≡ false → test r ≡ true → first_where test (requests ++ r ∷ []) ≡ Some r
last_where test [] r none is = ap (λ (b : Bool). if b then Some r else None) is
last_where test (q ∷ requests) r none is =
    elim (test q) as (λ b. (b || list_any test requests) ≡ false → (if b then Some q else first_where test (requests ++ r ∷ [])) ≡ Some r) [ true ↦ λ h. absurd (cc) | false ↦ λ h. last_where test requests r h is ] none

-- a request that is the last of them, and none of the others, leaves the others
last_goes : (r : Request) (requests : List Request) → has_request r requests ≡ false → without_request r (requests ++ r ∷ []) ≡ requests
last_goes r [] none = ap (λ (b : Bool). cond (not b) (r ∷ []) []) (self r.serial)
last_goes r (q ∷ requests) none =
    elim (r.serial == q.serial) as (λ b. (b || has_request r requests) ≡ false → cond (not b) (q ∷ without_request r (requests ++ r ∷ [])) (without_request r (requests ++ r ∷ [])) ≡ q ∷ requests) [
      | true ↦ λ h. absurd (cc)
      | false ↦ λ h. ap (λ (l : List Request). q ∷ l) (last_goes r requests h)
    ] none

-- no fewer numbers are in use with a request more
more_numbers : (space : ℕ) (requests : List Request) (r : Request) → length (numbers_of (of_space space requests)) ≤ length (numbers_of (of_space space (requests ++ r ∷ [])))
more_numbers space [] r = omega arith
more_numbers space (q ∷ requests) r =
    let more = more_numbers space requests r in
    elim (q.space == space) as (λ b. length (numbers_of (cond b (q ∷ of_space space requests) (of_space space requests))) ≤ length (numbers_of (cond b (q ∷ of_space space (requests ++ r ∷ [])) (of_space space (requests ++ r ∷ []))))) [
      | true ↦ omega (arith, more)
      | false ↦ more
    ]

left_false : (a b : Bool) → (a || b) ≡ false → a ≡ false
left_false false b e = refl
left_false true b e = absurd (let clash : true ≡ false = e in cc)

free_too : (opens ready waits_now waits : Bool) → (waits_now ≡ false → waits ≡ false) → ((if opens then false else ready) && not waits_now) ≡ true → (ready && not waits) ≡ true
free_too true ready waits_now waits less e = absurd (let clash : false ≡ true = e in cc)
free_too false true true waits less e = absurd (let clash : false ≡ true = e in cc)
free_too false true false waits less e = ap not (less refl)
free_too false false waits_now waits less e = absurd (let clash : false ≡ true = e in cc)

module _ (s : Setup) (c : ℕ) where
  -- ---- what an event alone may queue for the modem ----

  -- one command of the client, behind the history before the event
  pub record ForwardsOne (own facts : List Fact) : Type 0 where
    pub request : Request
    pub place : ℕ
    pub message : List ℕ
    pub is : facts ≡ Forwarded request ∷ Judged c place message Forward ∷ EventBegan ∷ own

  -- nothing, the proxy's own request to open, or one command
  abbrev pub MayQueue : (own facts : List Fact) → Type 0
  MayQueue own facts = (modem.modem_queue (wire s) facts ≡ []) ⊎ ((state s.starts_away facts ≡ IsOpening) ⊎ ForwardsOne own facts)

  module _ (own : List Fact) (rests : Rests s c own) (r : Request) (place : ℕ) (m : List ℕ) where
    abbrev asked : List Fact
    asked = Forwarded r ∷ Judged c place m Forward ∷ EventBegan ∷ own

    state_by : (b : Bool) (before : ModemState) → is_ready (if b then IsOpening else before) ≡ (if b then false else is_ready before)
    state_by true before = refl
    state_by false before = refl

    was_free : (count : ℕ) → is_free s (was_taken count asked) ≡ true → is_free s own ≡ true
    unfolding state pending
    was_free count free =
        free_too (is_own_open r) (is_ready (state s.starts_away own)) (list_any is_own (pending own ++ r ∷ [])) (list_any is_own (pending own))
        (λ none. left_false (list_any is_own (pending own)) (list_any is_own (r ∷ [])) (sym (list_any-append is_own (pending own) (r ∷ [])) ∙ none))
        (ap (λ (b : Bool). b && not (list_any is_own (pending own ++ r ∷ []))) (sym (state_by (is_own_open r) (state s.starts_away own))) ∙ free)

    same_lists : (count : ℕ) → merged s (was_taken count asked) ≡ merged s own
    unfolding view present
    same_lists count = merged_same s own (was_taken count asked) refl (λ d. entry_as_listed s (c == d) (Said m Forward) (view_of d own) (λ known. (refl, refl)))

    one_then_none : (count : ℕ) → length (modem.modem_queue (wire s) asked) ≡ suc count → number_of_list s (merged s (was_taken (suc count) asked)) (was_taken (suc count) asked) ≡ None
    unfolding last_list in_use
    one_then_none count waits =
        still_none s own (was_taken (suc count) asked) (same_lists (suc count)) refl (was_free (suc count))
        (λ m none. none_for s m own (was_taken (suc count) asked) rests.queue (taken_queue s asked (suc count) waits) (more_numbers the_space (in_use own) r) none) rests.settled

  -- so the proxy has nothing to ask once the modem took it
  nothing_then : (own facts : List Fact) → Rests s c own → MayQueue own facts → (count : ℕ) → length (modem.modem_queue (wire s) facts) ≡ suc count → number_of_list s (merged s (was_taken (suc count) facts)) (was_taken (suc count) facts) ≡ None
  unfolding state pending
  nothing_then own facts rests queues count waits =
      ⊎_elim
      (λ (empty : modem.modem_queue (wire s) facts ≡ []). absurd (let clash : zero ≡ suc count = sym (ap length empty) ∙ waits in cc))
      (λ (some : (state s.starts_away facts ≡ IsOpening) ⊎ ForwardsOne own facts). ⊎_elim
      (λ (opening : state s.starts_away facts ≡ IsOpening). busy_none s (merged s (was_taken (suc count) facts)) (was_taken (suc count) facts) (ap (λ (m : ModemState). is_ready m && not (list_any is_own (pending facts))) opening))
      (λ (one : ForwardsOne own facts). subst (λ (l : List Fact). length (modem.modem_queue (wire s) l) ≡ suc count → number_of_list s (merged s (was_taken (suc count) l)) (was_taken (suc count) l) ≡ None) (sym one.is)
      (one_then_none own rests one.request one.place one.message count) waits)
      some)
      queues

  settled_by : (facts own : List Fact) → IsUnlisted facts → HasTaken s c facts own → IsSettled s c facts own
  settled_by facts own unlisted T = record {
    same = T.same;
    in_use = T.in_use;
    pending = T.pending;
    time = T.time;
    state = T.state;
    rests = record { queue = T.queue; list = ap (list_any is_own_list) T.pending ∙ unlisted; settled = T.none };
  }

-- ---- one event ----

module _ (s : Setup) (R : IsRoomy s) (c : ℕ) (client : c ≢ 0) (event : Event) (solo : List Event) where
  abbrev pub facts : List Fact
  facts = add_all (mbim_protocol s) (items_of (mbim_protocol s) solo event) (EventBegan ∷ history s solo)

  abbrev met : List Event
  met = alone.meet (mbim_protocol s) (mbim_alone s) event solo

  -- the event, and what the modem takes of it
  abbrev first : List Event
  first = alone.taken (mbim_protocol s) (event ∷ solo)

  abbrev Settles : List Event → Type 0
  Settles events = IsSettled s c facts (history s events) × IsQuietThere s c (modem_bytes s c events)

  -- the proxy asks for nothing by itself
  unasked : AreSound (mbim_protocol s) (event ∷ solo) → Rests s c (history s solo) → IsQuietThere s c (modem_bytes s c (event ∷ solo)) → MayQueue s c (history s solo) facts → number_of_list s (merged s facts) facts ≡ None → Settles met
  unfolding proxy.history
  unasked sound rests quiet queues none =
      let unlisted : IsUnlisted facts = event_unlisted s c client event solo sound rests.list in
      let T : HasTaken s c facts (history s first) = takes s c (event ∷ solo) facts (finish_none s facts none) none (nothing_then s c (history s solo) facts rests queues) in
      let listed : own_list_in (history s first) ≡ None = ap (first_where is_own_list) T.pending ∙ none_where is_own_list (pending facts) unlisted in
      let same : met ≡ first = ap (λ (o : Option Request). alone.answered (mbim_protocol s) (answer_to o list_taken) first) listed in
      subst Settles (sym same) (settled_by s c facts (history s first) unlisted T, subst (IsQuietThere s c) (sym (taken_quiet s c (event ∷ solo))) quiet)

  -- ---- it asks for its list, and the modem takes that ----

  module _ (sound : AreSound (mbim_protocol s) (event ∷ solo)) (rests : Rests s c (history s solo)) (n : ℕ) (given : number_of_list s (merged s facts) facts ≡ Some n) where
    abbrev list : List Pair
    list = merged s facts

    abbrev asks : Request
    asks = request_of s 0 (own_subscribe list) n facts

    abbrev sent : List Fact
    sent = ListSent list ∷ Forwarded asks ∷ facts

    orderly_facts : IsOrderly s c facts
    orderly_facts = event_orderly s c client event solo sound

    unlisted : IsUnlisted facts
    unlisted = event_unlisted s c client event solo sound rests.list

    sent_is : history s (event ∷ solo) ≡ sent
    unfolding proxy.history
    sent_is = ap (λ (o : Option ℕ). send_under s list o facts) given

    busy : is_free s sent ≡ false
    busy = false_from_ne_true (is_free s sent) (sent_waits s list n facts)

    still_busy : (count : ℕ) → is_free s (was_taken count sent) ≡ false
    unfolding state pending
    still_busy count = busy

    T : HasTaken s c sent (history s first)
    T = takes s c (event ∷ solo) sent sent_is (busy_none s (merged s sent) sent busy) (λ count waits. busy_none s (merged s (was_taken (suc count) sent)) (was_taken (suc count) sent) (still_busy (suc count)))

    own_orderly : IsOrderly s c (history s first)
    own_orderly = histories_are_orderly s c client first (taken_sound s c (event ∷ solo) sound)

    abbrev past : List Fact
    past = EventBegan ∷ history s first

    begun : IsOrderly s c past
    begun = begun_orderly s c client (history s first) own_orderly

    waits_with : pending (history s first) ≡ pending facts ++ asks ∷ []
    unfolding pending
    waits_with = T.pending

    uses_with : in_use (history s first) ≡ in_use facts ++ asks ∷ []
    unfolding in_use
    uses_with = T.in_use

    -- ---- its number ----

    below : n < 2 ^ 32
    below =
        let low = number_within s R (own_subscribe list) facts n (given_if (is_wanted s list facts) (number_for s (own_subscribe list) facts) n given).1 in
        omega (arith, low, R.top)

    -- ---- the answer ----

    abbrev body : List ℕ
    body = done_text (record { uuid = BASIC_CONNECT; cid = subscribe_list_cid; status = SUCCESS }) []

    abbrev whole : List ℕ
    whole = unsplit (kind_number CommandDone) n body

    abbrev answer : List ℕ
    answer = with_number n list_taken

    answer_is : answer ≡ split (kind_number CommandDone) n 4096 body
    answer_is = sym (split_is_unsplit (kind_number CommandDone) n 4096 body (omega arith) (omega arith))

    says_one : SaysOne s answer whole
    says_one = subst (λ (l : List ℕ). SaysOne s l whole) (sym answer_is) (answer_says_one s n body below (omega (arith, R.body)) (omega arith))

    answered_with : met ≡ alone.taken (mbim_protocol s) (ModemPiece answer ∷ first)
    answered_with =
        let listed : own_list_in (history s first) ≡ Some asks = ap (first_where is_own_list) waits_with ∙ last_where is_own_list (pending facts) asks unlisted refl in
        ap (λ (o : Option Request). alone.answered (mbim_protocol s) (answer_to o list_taken) first) listed

    -- ---- what the proxy makes of it ----

    abbrev heard : List Fact
    heard = Answered asks whole ∷ past

    among : (requests : List Request) → Contains (requests ++ asks ∷ []) asks
    among requests = Contains-append_right requests (asks ∷ []) asks (zero, omega arith, refl)

    found : first_answered_by IsDone whole (in_use past) ≡ Some asks
    unfolding in_use
    found =
        found_for s R.enough c client past begun.fit IsDone whole asks (subst (λ (l : List Request). Contains l asks) (sym uses_with) (among (in_use facts)))
        (ap (λ (b : Bool). b && not (is_own_open asks)) (eq-eqb n (number_of whole) (sym (number_written (kind_number CommandDone) n body below))))

    waits : is_pending asks past ≡ true
    unfolding pending
    waits = contained_has (pending past) asks (subst (λ (l : List Request). Contains l asks) (sym waits_with) (among (pending facts)))

    hears : hear_modem s whole past ≡ heard
    unfolding present
    hears =
        ap (λ (o : Option Request). respond s o whole past) found
        ∙ ap (λ (b : Bool). answer_or_late s b asks whole past) waits
        ∙ own_noted s (Answered asks whole) asks past refl refl own_orderly.order.nobody

    lists_then : merged s heard ≡ list
    unfolding view present
    lists_then = merged_same s (history s first) heard refl (λ d. entry_as_listed s (asks.conn == d) (Response asks.place (blank whole)) (view_of d (history s first)) (λ known. (refl, refl))) ∙ T.lists

    last_then : last_list heard ≡ list
    unfolding last_list
    last_then = T.last

    nothing_more : number_of_list s (merged s heard) heard ≡ None
    nothing_more = asked_none s (merged s heard) heard (last_then ∙ sym lists_then)

    empty_then : modem.modem_queue (wire s) heard ≡ []
    unfolding modem.to_modem modem.modem_taken_count
    empty_then = T.queue

    -- ---- the modem is there ----

    ready : state s.starts_away facts ≡ IsReady
    ready =
        let free = (and_parts (is_free s facts) _ (given_if (is_wanted s list facts) (number_for s (own_subscribe list) facts) n given).0).0 in
        ready_is (state s.starts_away facts) (and_parts (is_ready (state s.starts_away facts)) _ free).0

    there : is_none (modem_bytes s c first) ≡ false
    unfolding state
    there =
        ap is_none (taken_quiet s c (event ∷ solo))
        ∙ sym (away_agrees (mbim_protocol s) (Asks s) (orderly s) (event ∷ solo))
        ∙ (histories_are_orderly s c client (event ∷ solo) sound).order.away
        ∙ ap (λ (l : List Fact). is_absent (state s.starts_away l)) sent_is
        ∙ ap is_absent ready

    -- ---- all of it ----

    module _ (before : List ℕ) (Q : IsQuiet s before) (stream_is : modem_bytes s c first ≡ Some before) where
      abbrev second : List Event
      second = ModemPiece answer ∷ first

      heard_is : history s second ≡ heard
      unfolding proxy.history add_all
      heard_is =
          ap (λ (o : Option (List ℕ)). finish s (add_all (mbim_protocol s) (modem_items (mbim_protocol s) answer o) past)) stream_is
          ∙ ap (λ (items : List Item). finish s (add_all (mbim_protocol s) items past)) (comes_at_once s before answer whole Q says_one).items
          ∙ ap (finish s) hears
          ∙ finish_none s heard nothing_more

      U : HasTaken s c heard (history s (alone.taken (mbim_protocol s) second))
      U = takes s c second heard heard_is nothing_more (λ count waits. absurd (let clash : zero ≡ suc count = sym (ap length empty_then) ∙ waits in cc))

      stream_then : modem_bytes s c (alone.taken (mbim_protocol s) second) ≡ Some (before ++ answer)
      unfolding modem_stream
      stream_then =
          taken_quiet s c second ∙ ap (with_piece size_of answer) stream_is
          ∙ ap (λ (b : Bool). let o : Option (List ℕ) = if b then None else Some (before ++ answer) in o) (comes_at_once s before answer whole Q says_one).good

      none_of : (requests : List Request) → AllByRecursion (λ r. Contains facts (Forwarded r)) requests → has_request asks requests ≡ false
      none_of [] all = refl
      none_of (r ∷ requests) all =
          let low = serial_within s.limits facts r orderly_facts.sound all.0 in
          let other : (asks.serial == r.serial) ≡ false = grind (arith, nat_tests, low) in
          ap (λ (b : Bool). b || has_request asks requests) other ∙ none_of requests all.1

      pending_then : pending (history s (alone.taken (mbim_protocol s) second)) ≡ pending facts
      unfolding pending
      pending_then = U.pending ∙ ap (without_request asks) waits_with ∙ last_goes asks (pending facts) (none_of (pending facts) (forwarded_pending facts))

      in_use_then : in_use (history s (alone.taken (mbim_protocol s) second)) ≡ in_use facts
      unfolding in_use
      in_use_then = U.in_use ∙ ap (without_request asks) uses_with ∙ last_goes asks (in_use facts) (none_of (in_use facts) (forwarded_in_use facts))

      part_then : part c (history s (alone.taken (mbim_protocol s) second)) ≡ part c facts
      unfolding alone_part.part
      part_then =
          U.same
          ∙ ap (λ (b : Bool). facts_if b (restated (as_known blank c (Answered asks whole))) (part c (history s first))) (own_is_theirs c client 0 refl)
          ∙ T.same
          ∙ ap (λ (b : Bool). facts_if b (restated (as_known blank c (Forwarded asks))) (part c facts)) (own_is_theirs c client 0 refl)

      time_then : now (history s (alone.taken (mbim_protocol s) second)) ≡ now facts
      unfolding now
      time_then = U.time ∙ T.time

      state_then : state s.starts_away (history s (alone.taken (mbim_protocol s) second)) ≡ state s.starts_away facts
      unfolding state
      state_then = U.state ∙ T.state

      settles_so : Settles (alone.taken (mbim_protocol s) second)
      settles_so = (
        record {
          same = part_then;
          in_use = in_use_then;
          pending = pending_then;
          time = time_then;
          state = state_then;
          rests = record { queue = U.queue; list = ap (list_any is_own_list) pending_then ∙ unlisted; settled = U.none };
        },
        subst (IsQuietThere s c) (sym stream_then) (comes_at_once s before answer whole Q says_one).quiet,
      )

    answered : IsQuietThere s c (modem_bytes s c (event ∷ solo)) → Settles met
    answered quiet = by (modem_bytes s c first) refl there (subst (IsQuietThere s c) (sym (taken_quiet s c (event ∷ solo))) quiet)
      where
        by : (o : Option (List ℕ)) → modem_bytes s c first ≡ o → is_none o ≡ false → IsQuietThere s c o → Settles met
        by None is some quiet = absurd (let clash : true ≡ false = some in cc)
        by (Some before) is some quiet = subst Settles (sym answered_with) (settles_so before quiet is)

  -- ---- whatever the event ----

  pub record MetAlone : Type 0 where
    -- what the client met is as it is behind the event's own facts
    pub settled : IsSettled s c facts (history s met)
    pub may : AreSound (mbim_protocol s) met
    pub sent : stream c met ≡ stream c (event ∷ solo)
    pub quiet : IsQuietThere s c (modem_bytes s c met)

  pub settles : AreSound (mbim_protocol s) (event ∷ solo) → Rests s c (history s solo) → IsQuietThere s c (modem_bytes s c (event ∷ solo)) → MayQueue s c (history s solo) facts → MetAlone
  unfolding stream
  settles sound rests quiet queues =
      let by : (o : Option ℕ) → number_of_list s (merged s facts) facts ≡ o → Settles met =
      λ o. elim o as (λ o. number_of_list s (merged s facts) facts ≡ o → Settles met) [
        | None ↦ λ none. unasked sound rests quiet queues none
        | Some n ↦ λ given. answered sound rests n given quiet
      ]
      in
      let done : Settles met = by (number_of_list s (merged s facts) facts) refl in
      record {
        settled = done.0;
        may = meet_sound (mbim_protocol s) (mbim_alone s) (mbim_is_short s) c event solo sound.0 sound.1;
        sent = meet_told (mbim_protocol s) (stream c) (λ count events. refl) (λ bytes events. refl) (mbim_alone s) c event solo;
        quiet = done.1;
      }
