-- The clock and a loss of the modem keep all and the client that is alone alike.
use Rattle.std.proofs.Common.{◌≡◌, ◌≢◌, ℕ, max, ◌≤◌, Bool, true, false, nat_le, ◌||◌, cond, if◌then◌else◌, List, [], ◌∷◌, filter, refl, ap, sym, ◌∙◌, subst, inl, arith, Option, Some, None}
use Rattle.std.specs.List.{AllByRecursion, list_any}
use Rattle.std.proofs.lemmas.Bool.Decides.{nat_tests}
use Rattle.mbim_frame.specs.declared.status.TheConstants.{SUCCESS, FAILURE}
use Rattle.mbim_frame.specs.Writing.{open_done}
use Rattle.proxy_history.specs.Events.{Event, ModemGone, Now}
use Rattle.proxy_history.specs.Streams.{stream, modem_stream}
use Rattle.proxy_history.specs.Items.{Item, ModemIsLost, ClockShows, is_lost_once}
use Rattle.proxy_history.specs.Facts.{Fact, Request, EventBegan, OpeningEnded, SessionsClosed, ModemLost, TimeIs}
use Rattle.proxy_history.specs.Connections.{contains, present, is_present}
use Rattle.proxy_history.specs.Requests.{in_use, pending}
use Rattle.proxy_history.specs.Modem.{now, is_away, to_modem, modem_taken_count, modem_queue}
use Rattle.proxy_history.specs.Noting.{each_pending}
use Rattle.proxy_history.specs.Unanswered.{due}
use Rattle.proxy_history.specs.View.{view}
use Rattle.proxy_history.specs.Coming.{AreSound}
use Rattle.proxy_history.specs.Sound.{IsSound}
use Rattle.proxy_history.specs.History.{add, add_all}
use Rattle.proxy_history.proofs.Walk.{tick_is}
use Rattle.proxy_solo.specs.Part.{as_sent, request_if, sent_by}
use Rattle.proxy_solo.specs.Part as alone_part
use Rattle.proxy_solo.specs.Solo as alone
use Rattle.proxy_solo.proofs.Elsewhere.{own_is_theirs}
use Rattle.proxy_solo.proofs.Queries.{pending-part}
use Rattle.proxy_solo.proofs.Refusing.{refused}
use Rattle.proxy_solo.proofs.Time.{item_keeps_time}
use Rattle.mbim_proxy.specs.Setup.{Setup}
use Rattle.mbim_proxy.specs.Step.{blank}
use Rattle.mbim_proxy.specs.ModemStates.{ModemState, IsAway, IsShut, IsOpening, IsReady, is_own_open, state}
use Rattle.mbim_proxy.specs.Lists.{waiting}
use Rattle.mbim_proxy.specs.Forwarding.{wire}
use Rattle.mbim_proxy.specs.FromModem.{refuse}
use Rattle.mbim_proxy.specs.History.{mbim_protocol, history}
use Rattle.mbim_proxy.proofs.Walk.{Asks, orderly}
use Rattle.mbim_solo.specs.Solo.{message_if, failed, ends_opening, finds_it_open, answer_to, own_open_in, hears_if, hears, restated, mbim_alone}
use Rattle.mbim_solo.specs.Part.{part}
use Rattle.mbim_solo.specs.Openings.{WaitsToOpen, WaitFor, is_absent, IsInOrder}
use Rattle.mbim_solo.proofs.Reading.{reads}
use Rattle.mbim_solo.proofs.Noted.{end_known, is_waiting, waiting-part}
use Rattle.mbim_solo.proofs.Views.{OpenOnce}
use Rattle.mbim_solo.proofs.Openings.{any_filter, still}
use Rattle.mbim_solo.proofs.Orders.{commands_refused, only_refused}
use Rattle.mbim_solo.proofs.Endings.{opens_with, opens_in, comes_by, refuse_known, known_ticks, ticks-part, known_aborts, known_loss, loses-part}
use Rattle.mbim_solo.proofs.Relation.{IsRoomy, is_end_of, IsOrderly, Rests, IsQuietThere, modem_bytes, IsSettled, Stands, Stand, Alike}
use Rattle.mbim_solo.proofs.Orderly.{item_orderly, begun_orderly, histories_are_orderly}
use Rattle.mbim_solo.proofs.Settling.{settles}
use Rattle.mbim_solo.proofs.Changes.{speaks, MayEnd, ends_still, still_in_use, still_wait, still_empty, ended_before}
use Rattle.mbim_solo.proofs.Speaking.{meet, added_alone, stands_like, begun_like, like_itself, alike_settled}
use Rattle.mbim_solo.proofs.Opened.{waits_not, both_opened}
use Rattle.mbim_solo.proofs.ModemSaying.{none_left, silent_stands, waits_alike, still_waits_alike, there_alone, away_alike, failed_tells, opens_alone}

module _ (s : Setup) (c : ℕ) (client : c ≢ 0) where
  abbrev now_in : List Fact → ModemState
  now_in past = state s.starts_away past

  -- ---- the requests of a client whose modem opens ----

  any_none : (requests : List Request) → requests ≡ [] → list_any is_own_open requests ≡ true → ⊥
  any_none requests none any = let clash : false ≡ true = sym (ap (list_any is_own_open) none) ∙ any in cc

  -- the proxy's own request to open is no request of the client
  own_open_only : (r : Request) → r.conn ≡ 0 → sent_by c (r ∷ []) ≡ []
  own_open_only r own = ap (λ (b : Bool). request_if b (as_sent r) []) (own_is_theirs c client r.conn own)

  none_sent : (modem : ModemState) (requests : List Request) → WaitFor modem requests → modem ≡ IsOpening → sent_by c requests ≡ []
  none_sent IsAway requests none opening = absurd (cc)
  none_sent IsShut requests none opening = absurd (cc)
  none_sent IsReady requests none opening = absurd (cc)
  none_sent IsOpening requests one opening = ap (sent_by c) one.only ∙ own_open_only one.request one.own

  pub opening_sends_none : (past : List Fact) → IsOrderly s c past → now_in past ≡ IsOpening → pending (part c past) ≡ []
  opening_sends_none past P opening = pending-part s.limits blank restated reads c past P.fit.placed ∙ none_sent (now_in past) (pending past) P.order.requests opening

  pub shut_waits_none : (modem : ModemState) (requests : List Request) → WaitFor modem requests → modem ≡ IsShut → requests ≡ []
  shut_waits_none IsAway requests none shut = none
  shut_waits_none IsShut requests none shut = none
  shut_waits_none IsOpening requests one shut = absurd (cc)
  shut_waits_none IsReady requests none shut = absurd (cc)

  pub shut_sends_none : (past : List Fact) → IsOrderly s c past → now_in past ≡ IsShut → pending (part c past) ≡ []
  shut_sends_none past P shut = pending-part s.limits blank restated reads c past P.fit.placed ∙ ap (sent_by c) (shut_waits_none (now_in past) (pending past) P.order.requests shut)

  pub opening_waits : (modem : ModemState) (requests : List Request) → WaitFor modem requests → modem ≡ IsOpening → WaitsToOpen requests
  opening_waits IsAway requests none opening = absurd (cc)
  opening_waits IsShut requests none opening = absurd (cc)
  opening_waits IsOpening requests one opening = one
  opening_waits IsReady requests none opening = absurd (cc)

  opens_then : (modem : ModemState) (requests : List Request) → WaitFor modem requests → list_any is_own_open requests ≡ true → modem ≡ IsOpening
  opens_then IsAway requests none any = absurd (any_none requests none any)
  opens_then IsShut requests none any = absurd (any_none requests none any)
  opens_then IsOpening requests one any = refl
  opens_then IsReady requests none any = absurd (let clash : true ≡ false = sym any ∙ none in cc)

  any_of_all : (p : Request → Bool) (requests : List Request) → list_any is_own_open (filter p requests) ≡ true → list_any is_own_open requests ≡ true
  any_of_all p requests any =
      let step : (b : Bool) → list_any is_own_open requests ≡ b → b ≡ true =
      λ b. elim b as (λ b. list_any is_own_open requests ≡ b → b ≡ true) [ true ↦ λ is. refl | false ↦ λ is. absurd (let clash : true ≡ false = sym any ∙ any_filter is_own_open p requests is in cc) ]
      in step (list_any is_own_open requests) refl

  opens_in_opening : (p : Request → Bool) (past : List Fact) → IsOrderly s c past → opens_in s c client p past ≡ true → now_in past ≡ IsOpening
  opens_in_opening p past P any = opens_then (now_in past) (pending past) P.order.requests (any_of_all p (pending past) any)

  -- ---- the clock ----

  abbrev pub plain_ticks : (shown : ℕ) → List Fact → List Fact
  plain_ticks shown facts = each_pending (refuse_known s c client true) (due shown (pending facts)) facts

  nothing_due : (shown : ℕ) (facts : List Fact) → pending facts ≡ [] → plain_ticks shown facts ≡ facts
  unfolding each_pending
  nothing_due shown facts none = ap (λ (l : List Request). each_pending (refuse_known s c client true) (due shown l) facts) none

  unwaited : (status : ℕ) (facts : List Fact) → is_waiting s c facts ≡ false → opens_with s c client status facts ≡ facts
  unwaited status facts none = ap (λ (b : Bool). if b then end_known s c (OpeningEnded status (c ∷ []) ∷ facts) else facts) none

  -- where the client's request to open doesn't wait, only its own commands expire
  plainly : (shown : ℕ) (past : List Fact) → IsOrderly s c past → is_waiting s c (part c past) ≡ false → known_ticks s c client shown (opens_in s c client (comes_by s c client shown) past) (part c past) ≡ plain_ticks shown (part c past)
  plainly shown past P none = by (opens_in s c client (comes_by s c client shown) past) refl
    where
      by : (b : Bool) → opens_in s c client (comes_by s c client shown) past ≡ b → known_ticks s c client shown b (part c past) ≡ plain_ticks shown (part c past)
      by false is = refl
      by true is = unwaited FAILURE (part c past) none ∙ sym (nothing_due shown (part c past) (opening_sends_none past P (opens_in_opening (comes_by s c client shown) past P is)))

  shown_orderly : (time : ℕ) (past : List Fact) → IsOrderly s c past → IsOrderly s c (TimeIs (max time (now past)) ∷ past)
  unfolding state pending present is_away view
  shown_orderly time past P = record {
    sound = (omega arith, P.sound);
    order = still s (TimeIs (max time (now past))) past refl refl refl refl (λ d. (refl, refl)) P.order;
    fit = record { placed = record { sound = (omega arith, P.sound); placed = (tt, P.fit.placed.placed) }; once = (tt, P.fit.once); asked = (tt, P.fit.asked) };
  }

  pub ticks_so : (time : ℕ) (past : List Fact) → IsOrderly s c past → part c (add (mbim_protocol s) (ClockShows time) past) ≡ known_ticks s c client (max time (now past)) (opens_in s c client (comes_by s c client (max time (now past))) past) (part c past)
  ticks_so time past P = let T = shown_orderly time past P in ticks-part s c client time past P.fit T.fit T.order

  pub ticks_plainly : (time : ℕ) (past : List Fact) → IsOrderly s c past → is_waiting s c (part c past) ≡ false → part c (add (mbim_protocol s) (ClockShows time) past) ≡ plain_ticks (max time (now past)) (part c past)
  ticks_plainly time past P none = ticks_so time past P ∙ plainly (max time (now past)) past P none

  refusals_end : (p : Request → Bool) (past : List Fact) → IsInOrder s past → (modem : ModemState) → now_in past ≡ modem → WaitFor modem (pending past)
      → MayEnd modem (now_in (each_pending (λ r before. refuse s (refused true r) r before) (filter p (pending past)) past))
  unfolding each_pending
  refusals_end p past I IsAway is none = subst (λ (l : List Request). MayEnd IsAway (now_in (each_pending (λ r before. refuse s (refused true r) r before) (filter p l) past))) (sym none) (subst (MayEnd IsAway) (sym is) tt)
  refusals_end p past I IsShut is none = subst (λ (l : List Request). MayEnd IsShut (now_in (each_pending (λ r before. refuse s (refused true r) r before) (filter p l) past))) (sym none) (subst (MayEnd IsShut) (sym is) tt)
  refusals_end p past I IsOpening is one =
      subst (λ (l : List Request). MayEnd IsOpening (now_in (each_pending (λ r before. refuse s (refused true r) r before) (filter p l) past))) (sym one.only)
      (elim (p one.request) as (λ b. MayEnd IsOpening (now_in (each_pending (λ r before. refuse s (refused true r) r before) (cond b (one.request ∷ []) []) past))) [
        | true ↦ subst (MayEnd IsOpening) (sym (only_refused s true one.request past one.opens one.own is one.only I).1) tt
        | false ↦ subst (MayEnd IsOpening) (sym is) tt
      ])
  refusals_end p past I IsReady is none = subst (MayEnd IsReady) (sym (commands_refused s true (filter p (pending past)) past (any_filter is_own_open p (pending past) none) (I, is)).1) tt

  pub ticks_end : (time : ℕ) (past : List Fact) → IsOrderly s c past → MayEnd (now_in past) (now_in (add (mbim_protocol s) (ClockShows time) past))
  unfolding state pending
  ticks_end time past P =
      let T = shown_orderly time past P in refusals_end (comes_by s c client (max time (now past))) (TimeIs (max time (now past)) ∷ past) T.order (now_in past) refl T.order.requests

  -- an opening whose time has come ends
  expires_shut : (time : ℕ) (past : List Fact) → IsOrderly s c past → opens_in s c client (comes_by s c client (max time (now past))) past ≡ true → now_in (add (mbim_protocol s) (ClockShows time) past) ≡ IsShut
  unfolding state pending each_pending
  expires_shut time past P any =
      let p : Request → Bool = comes_by s c client (max time (now past)) in
      let T = shown_orderly time past P in
      let one = opening_waits (now_in past) (pending past) P.order.requests (opens_in_opening p past P any) in
      let filtered : List Request → List Fact = λ (l : List Request). each_pending (λ r before. refuse s (refused true r) r before) l (TimeIs (max time (now past)) ∷ past) in
      let only : filter p (pending past) ≡ cond (p one.request) (one.request ∷ []) [] = ap (filter p) one.only in
      let by : (b : Bool) → p one.request ≡ b → now_in (filtered (cond b (one.request ∷ []) [])) ≡ IsShut =
      λ b. elim b as (λ b. p one.request ≡ b → now_in (filtered (cond b (one.request ∷ []) [])) ≡ IsShut) [
        | true ↦ λ is. (only_refused s true one.request (TimeIs (max time (now past)) ∷ past) one.opens one.own (opens_in_opening p past P any) one.only T.order).1
        | false ↦ λ is. absurd (let clash : false ≡ true = sym (ap (λ (b : Bool). list_any is_own_open (cond b (one.request ∷ []) [])) is) ∙ sym (ap (list_any is_own_open) only) ∙ any in cc)
      ]
      in ap (λ (l : List Request). now_in (filtered l)) only ∙ by (p one.request) refl

  -- ---- a loss of the modem ----

  abbrev pub plain_loss : List Fact → List Fact
  plain_loss facts =
      let aborted : List Fact = each_pending (refuse_known s c client false) (pending facts) facts in
      ModemLost ∷ (if is_present c aborted then SessionsClosed (c ∷ []) ∷ aborted else aborted)

  nothing_waits : (facts : List Fact) → pending facts ≡ [] → each_pending (refuse_known s c client false) (pending facts) facts ≡ facts
  unfolding each_pending
  nothing_waits facts none = ap (λ (l : List Request). each_pending (refuse_known s c client false) l facts) none

  aborts_plainly : (past : List Fact) → IsOrderly s c past → is_waiting s c (part c past) ≡ false → (b : Bool) → list_any is_own_open (pending past) ≡ b → known_aborts s c client b (part c past) ≡ each_pending (refuse_known s c client false) (pending (part c past)) (part c past)
  aborts_plainly past P none false is = refl
  aborts_plainly past P none true is = unwaited FAILURE (part c past) none ∙ sym (nothing_waits (part c past) (opening_sends_none past P (opens_then (now_in past) (pending past) P.order.requests is)))

  pub loses_plainly : (past : List Fact) → IsOrderly s c past → is_waiting s c (part c past) ≡ false → part c (add (mbim_protocol s) ModemIsLost past) ≡ plain_loss (part c past)
  loses_plainly past P none =
      loses-part s c client past P.fit P.order
      ∙ ap (λ (l : List Fact). ModemLost ∷ (if is_present c l then SessionsClosed (c ∷ []) ∷ l else l)) (aborts_plainly past P none (list_any is_own_open (pending past)) refl)

  -- the opening that the client waits for ends with it
  pub loses_opening : (past : List Fact) → IsOrderly s c past → now_in past ≡ IsOpening → (facts : List Fact) → facts ≡ opens_with s c client FAILURE (part c past) → pending facts ≡ [] → part c (add (mbim_protocol s) ModemIsLost past) ≡ plain_loss facts
  loses_opening past P opening facts is none =
      let one = opening_waits (now_in past) (pending past) P.order.requests opening in
      let any : list_any is_own_open (pending past) ≡ true = ap (list_any is_own_open) one.only ∙ ap (λ (b : Bool). b || false) one.opens in
      loses-part s c client past P.fit P.order
      ∙ ap (λ (b : Bool). known_loss s c client b (part c past)) any
      ∙ ap (λ (l : List Fact). ModemLost ∷ (if is_present c l then SessionsClosed (c ∷ []) ∷ l else l)) (sym is ∙ sym (nothing_waits facts none))

-- ---- all, and the client alone ----

module _ (s : Setup) (R : IsRoomy s) (c : ℕ) (client : c ≢ 0) where
  abbrev state_of : List Fact → ModemState
  state_of past = state s.starts_away past

  abbrev says : Option (List ℕ) → List Event → List Event
  says o solo = alone.meet_bytes (mbim_protocol s) (mbim_alone s) o solo

  -- what the client hears alone of such an item
  heard_of : (item : Item) (past own : List Fact) → OpenOnce s c past → (b o : Bool) → is_waiting s c (part c past) ≡ b → ends_opening item past ≡ message_if o failed → finds_it_open s c item past ≡ false → hears_if None s c item past own ≡ None
      → hears s c item past own ≡ (if b then (if o then answer_to (own_open_in own) failed else None) else None)
  heard_of item past own once b o waits ends unfound nothing =
      ap (λ (t : Bool). hears_if (let l : Option (List ℕ) = if t then Some (open_done 0 SUCCESS) else if contains c (waiting s past) then ends_opening item past else None in l) s c item past own) unfound
      ∙ ap (λ (t : Bool). hears_if (let l : Option (List ℕ) = if t then ends_opening item past else None in l) s c item past own) (waiting-part s c past once ∙ waits)
      ∙ ap (λ (l : Option (List ℕ)). hears_if (let k : Option (List ℕ) = if b then l else None in k) s c item past own) ends
      ∙ by b o
    where
      by : (b o : Bool) → hears_if (let k : Option (List ℕ) = if b then message_if o failed else None in k) s c item past own ≡ (if b then (if o then answer_to (own_open_in own) failed else None) else None)
      by true true = refl
      by true false = nothing
      by false o = nothing

  early_is : (b : Bool) (r : Request) → is_own_open r ≡ true → list_any is_own_open (cond b (r ∷ []) []) ≡ false → b ≡ false
  early_is true r opens none = absurd (let clash : true ≡ false = sym (ap (λ (b : Bool). b || false) opens) ∙ none in cc)
  early_is false r opens none = refl

  none_in_use : (items : List Item) (past : List Fact) → AllByRecursion (λ item. speaks item ≡ false) items → IsSound s.limits past → in_use past ≡ [] → in_use (add_all (mbim_protocol s) items past) ≡ []
  none_in_use items past silent sound none =
      none_left (in_use (add_all (mbim_protocol s) items past)) (still_in_use s (λ r. ⊥) items past silent sound (subst (AllByRecursion (λ r. ⊥)) (sym none) tt))

  -- ---- the clock ----

  module _ (time : ℕ) (past : List Fact) (solo : List Event) (bytes : List ℕ) (A : Alike s c past solo bytes) where
    abbrev own : List Fact
    own = history s solo

    abbrev ticks : List Fact → List Fact
    ticks facts = add (mbim_protocol s) (ClockShows time) facts

    ticked_orderly : (facts : List Fact) → IsOrderly s c facts → IsOrderly s c (ticks facts)
    ticked_orderly facts O = item_orderly s c client (ClockShows time) facts tt O

    time_then : (facts : List Fact) → IsOrderly s c facts → now (ticks facts) ≡ max time (now facts)
    time_then facts O = tick_is (mbim_protocol s) (Asks s) (orderly s) time facts O.sound

    before_that : list_any (is_end_of c) (ticks past) ≡ false → list_any (is_end_of c) past ≡ false
    unfolding add_all
    before_that none = ended_before s c (ClockShows time ∷ []) past A.orderly.sound none

    -- the client alone meets it behind what it heard
    module _ (solo_then : List Event) (may : AreSound (mbim_protocol s) solo_then) (rests : Rests s c (history s solo_then)) (quiet : IsQuietThere s c (modem_bytes s c solo_then)) (sent : stream c solo_then ≡ bytes) where
      abbrev at : List Fact
      at = EventBegan ∷ history s solo_then

      at_orderly : IsOrderly s c at
      at_orderly = begun_orderly s c client (history s solo_then) (histories_are_orderly s c client solo_then may)

      shows : part c (ticks past) ≡ part c (ticks at) → now (ticks past) ≡ now (ticks at) → (list_any (is_end_of c) (ticks past) ≡ false → Stands s c (ticks past) (ticks at)) → Alike s c (ticks past) (meet s c (Now time) solo_then) bytes
      unfolding add_all modem_stream stream to_modem modem_taken_count
      shows same times stands =
          let M = settles s R c client (Now time) solo_then (tt, may) rests quiet (inl (still_empty s (ClockShows time ∷ []) at ((refl, refl), tt) at_orderly.sound rests.queue)) in
          alike_settled s c (ticks past) (ticks at) (meet s c (Now time) solo_then) bytes (ticked_orderly past A.orderly) M.settled M.may M.quiet (M.sent ∙ sent) same times stands

    -- its request to open doesn't wait
    shows_plainly : is_waiting s c (part c past) ≡ false → Alike s c (ticks past) (meet s c (Now time) solo) bytes
    unfolding alone_part.part now add_all
    shows_plainly none =
        let O = at_orderly solo A.may A.rests A.quiet A.sent in
        let begun : List Fact = EventBegan ∷ own in
        let none_alone : is_waiting s c (part c begun) ≡ false = sym (ap (is_waiting s c) A.same) ∙ none in
        let shown : max time (now past) ≡ max time (now begun) = ap (max time) A.time in
        shows solo A.may A.rests A.quiet A.sent
        (ticks_plainly s c client time past A.orderly none
        ∙ ap (plain_ticks s c client (max time (now past))) A.same
        ∙ ap (λ (n : ℕ). plain_ticks s c client n (part c begun)) shown
        ∙ sym (ticks_plainly s c client time begun O none_alone))
        (time_then past A.orderly ∙ shown ∙ sym (time_then begun O))
        (λ stays. silent_stands s R c client (ClockShows time ∷ []) (ClockShows time ∷ []) past begun (refl, tt) (refl, tt) A.orderly O (ticked_orderly past A.orderly) (ticks_end s c client time past A.orderly) (ticks_end s c client time begun O) none
        (stands_like s c past own begun (begun_like s c own own (like_itself s c own)) (A.stands (before_that stays))))

    -- the opening that it waits for expires
    shows_failed : is_waiting s c (part c past) ≡ true → opens_in s c client (comes_by s c client (max time (now past))) past ≡ true → Alike s c (ticks past) (meet s c (Now time) (says (answer_to (own_open_in own) failed) solo)) bytes
    unfolding alone_part.part now add_all state in_use
    shows_failed waiting due_now =
        let W = waits_alike s R c client past solo bytes A waiting in
        let solo_then : List Event = says (answer_to (own_open_in own) failed) solo in
        let T = opens_alone s R c client past solo A.same A.time A.may A.rests A.quiet W.alone W.only.request W.only.opens W.only.only W.only.waits FAILURE failed (failed_tells s R c client) in
        let begun : List Fact = EventBegan ∷ history s solo_then in
        let sent : stream c solo_then ≡ bytes = T.sent ∙ A.sent in
        let O = at_orderly solo_then T.may T.settled.rests T.quiet sent in
        let shut : state_of begun ≡ IsShut = T.settled.state ∙ T.state in
        let same_then : part c begun ≡ opens_with s c client FAILURE (part c past) = T.settled.same ∙ T.same in
        let none : is_waiting s c (part c begun) ≡ false = waits_not s c client begun O (λ opening. let clash : IsShut ≡ IsOpening = sym shut ∙ opening in cc) in
        let facts : List Fact = ticks begun in
        let still_shut : state_of facts ≡ IsShut = ends_still (state_of begun) (state_of facts) (λ opening. let clash : IsShut ≡ IsOpening = sym shut ∙ opening in cc) (ticks_end s c client time begun O) ∙ shut in
        shows solo_then T.may T.settled.rests T.quiet sent
        (ticks_so s c client time past A.orderly
        ∙ ap (λ (b : Bool). known_ticks s c client (max time (now past)) b (part c past)) due_now
        ∙ sym same_then
        ∙ sym (ticks_plainly s c client time begun O none ∙ nothing_due s c client (max time (now begun)) (part c begun) (shut_sends_none s c client begun O shut)))
        (time_then past A.orderly ∙ ap (max time) (sym T.time ∙ sym T.settled.time) ∙ sym (time_then begun O))
        (λ stays. both_opened s c client FAILURE (ticks past) facts (ticked_orderly past A.orderly) (expires_shut s c client time past A.orderly due_now) still_shut (none_in_use (ClockShows time ∷ []) begun (refl, tt) O.sound (T.settled.in_use ∙ T.in_use)))

    -- the opening that it waits for goes on
    shows_waiting : is_waiting s c (part c past) ≡ true → opens_in s c client (comes_by s c client (max time (now past))) past ≡ false → Alike s c (ticks past) (meet s c (Now time) solo) bytes
    unfolding alone_part.part now add_all state in_use pending each_pending
    shows_waiting waiting early =
        let W = waits_alike s R c client past solo bytes A waiting in
        let O = at_orderly solo A.may A.rests A.quiet A.sent in
        let begun : List Fact = EventBegan ∷ own in
        let one = opening_waits s c client (state_of past) (pending past) A.orderly.order.requests W.all in
        let q : Request = W.only.request in
        let later : (r : Request) → pending past ≡ r ∷ [] → r.deadline ≤ q.deadline = λ r only. (subst (AllByRecursion (λ x. x.deadline ≤ q.deadline)) only W.only.later).0 in
        let all_early : nat_le one.request.deadline (max time (now past)) ≡ false =
        early_is (nat_le one.request.deadline (max time (now past))) one.request one.opens (sym (ap (λ (l : List Request). list_any is_own_open (due (max time (now past)) l)) one.only) ∙ early)
        in
        let behind = later one.request one.only in
        let own_early : nat_le q.deadline (max time (now own)) ≡ false = subst (λ (n : ℕ). nat_le q.deadline (max time n) ≡ false) A.time (grind (arith, nat_tests, all_early, behind)) in
        let none_due : due (max time (now own)) (pending own) ≡ [] = ap (due (max time (now own))) W.only.waits ∙ ap (λ (b : Bool). cond b (q ∷ []) []) own_early in
        let facts_are : ticks begun ≡ TimeIs (max time (now own)) ∷ begun = ap (λ (l : List Request). each_pending (λ r before. refuse s (refused true r) r before) l (TimeIs (max time (now own)) ∷ begun)) none_due in
        let same : part c (ticks past) ≡ part c past =
        ticks_so s c client time past A.orderly
        ∙ ap (λ (b : Bool). known_ticks s c client (max time (now past)) b (part c past)) early
        ∙ nothing_due s c client (max time (now past)) (part c past) (opening_sends_none s c client past A.orderly W.all)
        in
        shows solo A.may A.rests A.quiet A.sent (same ∙ A.same ∙ sym (ap (part c) facts_are)) (time_then past A.orderly ∙ ap (max time) A.time ∙ sym (time_then begun O))
        (λ stays. still_waits_alike s R c client past (ticks past) own (ticks begun) W (ticked_orderly past A.orderly) (ap (is_waiting s c) same ∙ waiting)
        (λ Q all. still_wait s Q (ClockShows time ∷ []) past (refl, tt) A.orderly.sound all) (ap state_of facts_are) (ap in_use facts_are) (ap pending facts_are))

    pub shows_alike : Alike s c (ticks past) (meet s c (Now time) (says (hears s c (ClockShows time) past own) solo)) bytes
    shows_alike = by (is_waiting s c (part c past)) (opens_in s c client (comes_by s c client (max time (now past))) past) refl refl
      where
        by : (b o : Bool) → is_waiting s c (part c past) ≡ b → opens_in s c client (comes_by s c client (max time (now past))) past ≡ o → Alike s c (ticks past) (meet s c (Now time) (says (hears s c (ClockShows time) past own) solo)) bytes
        by b o waiting expires =
            subst (λ (l : Option (List ℕ)). Alike s c (ticks past) (meet s c (Now time) (says l solo)) bytes) (sym (heard_of (ClockShows time) past own A.orderly.fit.once b o waiting (ap (λ (t : Bool). message_if t failed) expires) refl refl)) (so b o waiting expires)
          where
            so : (b o : Bool) → is_waiting s c (part c past) ≡ b → opens_in s c client (comes_by s c client (max time (now past))) past ≡ o
                → Alike s c (ticks past) (meet s c (Now time) (says (let l : Option (List ℕ) = if b then (if o then answer_to (own_open_in own) failed else None) else None in l) solo)) bytes
            so false o waiting expires = shows_plainly waiting
            so true true waiting expires = shows_failed waiting expires
            so true false waiting expires = shows_waiting waiting expires

  -- ---- a loss of the modem ----

  module _ (past : List Fact) (solo : List Event) (bytes : List ℕ) (A : Alike s c past solo bytes) (there : is_away s.starts_away past ≡ false) where
    abbrev loses : List Fact → List Fact
    loses facts = add (mbim_protocol s) ModemIsLost facts

    after_loss : IsOrderly s c (loses past)
    after_loss = item_orderly s c client ModemIsLost past tt A.orderly

    time_kept : (facts : List Fact) → IsOrderly s c facts → now (loses facts) ≡ now facts
    time_kept facts O = item_keeps_time (mbim_protocol s) (Asks s) (orderly s) ModemIsLost facts O.sound refl

    lost_stands : (facts : List Fact) → Stands s c (loses past) (loses facts)
    unfolding state in_use
    lost_stands facts = record {
      states = subst (λ (b : Bool). Stand s c b IsAway IsAway) (sym (waits_not s c client (loses past) after_loss (λ opening. let clash : IsAway ≡ IsOpening = opening in cc))) tt;
      asks = refl;
    }

    module _ (solo_then : List Event) (may : AreSound (mbim_protocol s) solo_then) (rests : Rests s c (history s solo_then)) (sent : stream c solo_then ≡ bytes) (there_then : is_away s.starts_away (history s solo_then) ≡ false) where
      goes : part c (loses past) ≡ part c (loses (EventBegan ∷ history s solo_then)) → now past ≡ now (history s solo_then) → Alike s c (loses past) (meet s c ModemGone solo_then) bytes
      unfolding add_all modem_stream stream to_modem modem_taken_count now
      goes same times =
          let begun : List Fact = EventBegan ∷ history s solo_then in
          let start = there_alone s R c client solo_then there_then in
          let O : IsOrderly s c begun = begun_orderly s c client (history s solo_then) (histories_are_orderly s c client solo_then may) in
          let is : added_alone s c ModemGone solo_then ≡ loses begun = ap (λ (o : Option (List ℕ)). add_all (mbim_protocol s) (is_lost_once o) begun) start.1 in
          let M = settles s R c client ModemGone solo_then (tt, may) rests tt (inl (ap (modem_queue (wire s)) is)) in
          alike_settled s c (loses past) (loses begun) (meet s c ModemGone solo_then) bytes after_loss (subst (λ (l : List Fact). IsSettled s c l (history s (meet s c ModemGone solo_then))) is M.settled) M.may M.quiet (M.sent ∙ sent)
          same (time_kept past A.orderly ∙ times ∙ sym (time_kept begun O)) (λ stays. lost_stands begun)

    goes_plainly : is_waiting s c (part c past) ≡ false → Alike s c (loses past) (meet s c ModemGone solo) bytes
    unfolding alone_part.part
    goes_plainly none =
        let begun : List Fact = EventBegan ∷ history s solo in
        let O : IsOrderly s c begun = begun_orderly s c client (history s solo) (histories_are_orderly s c client solo A.may) in
        goes solo A.may A.rests A.sent (away_alike s R c client past solo bytes A ∙ there)
        (loses_plainly s c client past A.orderly none ∙ ap (plain_loss s c client) A.same ∙ sym (loses_plainly s c client begun O (sym (ap (is_waiting s c) A.same) ∙ none))) A.time

    goes_failed : is_waiting s c (part c past) ≡ true → Alike s c (loses past) (meet s c ModemGone (says (answer_to (own_open_in (history s solo)) failed) solo)) bytes
    unfolding alone_part.part now state
    goes_failed waiting =
        let W = waits_alike s R c client past solo bytes A waiting in
        let solo_then : List Event = says (answer_to (own_open_in (history s solo)) failed) solo in
        let T = opens_alone s R c client past solo A.same A.time A.may A.rests A.quiet W.alone W.only.request W.only.opens W.only.only W.only.waits FAILURE failed (failed_tells s R c client) in
        let begun : List Fact = EventBegan ∷ history s solo_then in
        let own_then = histories_are_orderly s c client solo_then T.may in
        let O : IsOrderly s c begun = begun_orderly s c client (history s solo_then) own_then in
        let shut : state_of begun ≡ IsShut = T.settled.state ∙ T.state in
        let same_then : part c begun ≡ opens_with s c client FAILURE (part c past) = T.settled.same ∙ T.same in
        let none : is_waiting s c (part c begun) ≡ false = waits_not s c client begun O (λ opening. let clash : IsShut ≡ IsOpening = sym shut ∙ opening in cc) in
        goes solo_then T.may T.settled.rests (T.sent ∙ A.sent) (own_then.order.away ∙ ap is_absent shut)
        (loses_opening s c client past A.orderly W.all (part c begun) same_then (shut_sends_none s c client begun O shut) ∙ sym (loses_plainly s c client begun O none)) (sym T.time ∙ sym T.settled.time)

    pub fails_alike : Alike s c (loses past) (meet s c ModemGone (says (hears s c ModemIsLost past (history s solo)) solo)) bytes
    fails_alike = by (is_waiting s c (part c past)) refl
      where
        any_when : is_waiting s c (part c past) ≡ true → list_any is_own_open (pending past) ≡ true
        any_when waiting =
            let W = waits_alike s R c client past solo bytes A waiting in
            let one = opening_waits s c client (state_of past) (pending past) A.orderly.order.requests W.all in
            ap (list_any is_own_open) one.only ∙ ap (λ (b : Bool). b || false) one.opens

        by : (b : Bool) → is_waiting s c (part c past) ≡ b → Alike s c (loses past) (meet s c ModemGone (says (hears s c ModemIsLost past (history s solo)) solo)) bytes
        by false waiting =
            subst (λ (l : Option (List ℕ)). Alike s c (loses past) (meet s c ModemGone (says l solo)) bytes) (sym (heard_of ModemIsLost past (history s solo) A.orderly.fit.once false (list_any is_own_open (pending past)) waiting refl refl refl)) (goes_plainly waiting)
        by true waiting =
            subst (λ (l : Option (List ℕ)). Alike s c (loses past) (meet s c ModemGone (says l solo)) bytes)
            (sym (heard_of ModemIsLost past (history s solo) A.orderly.fit.once true true waiting (ap (λ (t : Bool). message_if t failed) (any_when waiting)) refl refl)) (goes_failed waiting)
