-- What the end of an opening, the clock and a loss of the modem do to a client's part of the history.
use Rattle.std.proofs.Common.{◌≡◌, ◌≢◌, ℕ, max, Bool, true, false, ◌||◌, nat_le, cond, if◌then◌else◌, List, [], ◌∷◌, filter, refl, ap, sym, ◌∙◌, Contains}
use Rattle.std.specs.List.{AllByRecursion, list_any}
use Rattle.std.proofs.lemmas.List.Elements.{All-filter, All-from_recursion, recursion_from_All}
use Rattle.mbim_frame.specs.declared.status.TheConstants.{FAILURE}
use Rattle.proxy_history.specs.Items.{ClockShows, ModemIsLost}
use Rattle.proxy_history.specs.Facts.{Fact, Request, Forwarded, Answered, OpeningEnded, SessionsClosed, ModemLost, TimeIs}
use Rattle.proxy_history.specs.Connections.{contains, present, is_present}
use Rattle.proxy_history.specs.Requests.{pending, has_request, is_pending}
use Rattle.proxy_history.specs.Modem.{now}
use Rattle.proxy_history.specs.Noting.{each_pending}
use Rattle.proxy_history.specs.Unanswered.{due}
use Rattle.proxy_history.specs.History.{add}
use Rattle.proxy_solo.specs.Part.{as_sent, concerns, facts_if, request_if, sent_by}
use Rattle.proxy_solo.specs.Part as alone_part
use Rattle.proxy_solo.proofs.Lists.{self}
use Rattle.proxy_solo.proofs.Placed.{forwarded_pending}
use Rattle.proxy_solo.proofs.Queries.{present-part, pending-part}
use Rattle.proxy_solo.proofs.Refusing.{refused, sent_by-due}
use Rattle.proxy_solo.proofs.Refusing as refusing
use Rattle.proxy_solo.proofs.Elsewhere.{own_is_theirs}
use Rattle.mbim_proxy.specs.Setup.{Setup}
use Rattle.mbim_proxy.specs.Step.{blank}
use Rattle.mbim_proxy.specs.Text.{mbim_wording, note}
use Rattle.mbim_proxy.specs.ModemStates.{ModemState, IsAway, IsShut, IsOpening, IsReady, is_own_open, state}
use Rattle.mbim_proxy.specs.Lists.{waiting}
use Rattle.mbim_proxy.specs.FromModem.{opening_status, end_opening, answer_or_late, refuse}
use Rattle.mbim_proxy.specs.History.{mbim_protocol}
use Rattle.mbim_solo.specs.Solo.{restated}
use Rattle.mbim_solo.specs.Part.{part}
use Rattle.mbim_solo.specs.Openings.{WaitFor, IsInOrder}
use Rattle.mbim_solo.proofs.Reading.{reads}
use Rattle.mbim_solo.proofs.Views.{OpenOnce}
use Rattle.mbim_solo.proofs.Noted.{end_known, over, noted-part, is_waiting, waiting-part}
use Rattle.mbim_solo.proofs.Hearing.{Fit}
use Rattle.mbim_solo.proofs.Openings.{any_filter, own_noted, refused_goes, answered_goes, open_goes}
use Rattle.mbim_solo.proofs.Orders.{refused_for, all_commands}

module _ (s : Setup) (c : ℕ) (client : c ≢ 0) where
  abbrev now_in : List Fact → ModemState
  now_in past = state s.starts_away past

  -- ---- the end of an opening ----

  -- the client is told a status, where it waits for one
  abbrev pub opens_with : (status : ℕ) → List Fact → List Fact
  opens_with status facts = if is_waiting s c facts then end_known s c (OpeningEnded status (c ∷ []) ∷ facts) else facts

  pub opening-part : (status : ℕ) (past : List Fact) → OpenOnce s c past → part c (end_opening s status past) ≡ opens_with status (part c past)
  opening-part status past once =
      noted-part s c (OpeningEnded status (waiting s past)) past (tt, once) refl
      ∙ ap (λ (b : Bool). if b then end_known s c (OpeningEnded status (c ∷ []) ∷ part c past) else part c past) (waiting-part s c past once)

  -- of a request of the proxy itself the client hears nothing
  own_answered : (r : Request) (m : List ℕ) (past : List Fact) → r.conn ≡ 0 → part c (Answered r m ∷ past) ≡ part c past
  unfolding alone_part.part
  own_answered r m past own = ap (λ (b : Bool). facts_if b (Answered (as_sent r) (blank m) ∷ []) (part c past)) (own_is_theirs c client r.conn own)

  own_refused : (flag : Bool) (r : Request) (past : List Fact) → r.conn ≡ 0 → part c (refused flag r ∷ past) ≡ part c past
  unfolding alone_part.part
  own_refused true r past own = ap (λ (b : Bool). facts_if b (refused true (as_sent r) ∷ []) (part c past)) (own_is_theirs c client r.conn own)
  own_refused false r past own = ap (λ (b : Bool). facts_if b (refused false (as_sent r) ∷ []) (part c past)) (own_is_theirs c client r.conn own)

  once_refused : (flag : Bool) (r : Request) (past : List Fact) → OpenOnce s c past → OpenOnce s c (refused flag r ∷ past)
  once_refused true r past once = (tt, once)
  once_refused false r past once = (tt, once)

  module _ (r : Request) (past : List Fact) (once : OpenOnce s c past) (I : IsInOrder s past) (opens : is_own_open r ≡ true) (own : r.conn ≡ 0) (opening : now_in past ≡ IsOpening) (only : pending past ≡ r ∷ []) where
    -- the modem answers the proxy's request to open
    pub open_answered-part : (m : List ℕ) → part c (answer_or_late s true r m past) ≡ opens_with (opening_status m) (part c past)
    open_answered-part m =
        let H = open_goes s (Answered r m) r past (answered_goes s r m past) opening only I in
        ap (λ (b : Bool). part c (if b then end_opening s (opening_status m) (note s (Answered r m) past) else note s (Answered r m) past)) opens
        ∙ ap (λ (l : List Fact). part c (end_opening s (opening_status m) l)) (own_noted s (Answered r m) r past refl own H.nobody)
        ∙ opening-part (opening_status m) (Answered r m ∷ past) (tt, once)
        ∙ ap (opens_with (opening_status m)) (own_answered r m past own)

    -- it gets no answer
    pub open_refused-part : (flag : Bool) → part c (refuse s (refused flag r) r past) ≡ opens_with FAILURE (part c past)
    open_refused-part flag =
        let H = open_goes s (refused flag r) r past (refused_goes s flag r past) opening only I in
        ap (λ (b : Bool). part c (if b then end_opening s FAILURE (note s (refused flag r) past) else note s (refused flag r) past)) opens
        ∙ ap (λ (l : List Fact). part c (end_opening s FAILURE l)) (own_noted s (refused flag r) r past (refused_for s flag r) own H.nobody)
        ∙ opening-part FAILURE (refused flag r ∷ past) (once_refused flag r past once)
        ∙ ap (opens_with FAILURE) (own_refused flag r past own)

    waits : is_pending r past ≡ true
    waits = ap (has_request r) only ∙ ap (λ (b : Bool). b || false) (self r.serial)

    pub only_refused-part : (flag : Bool) → part c (each_pending (λ r before. refuse s (refused flag r) r before) (r ∷ []) past) ≡ opens_with FAILURE (part c past)
    unfolding each_pending
    only_refused-part flag = ap (λ (b : Bool). part c (if b then refuse s (refused flag r) r past else past)) waits ∙ open_refused-part flag

  -- ---- commands that are refused ----

  abbrev pub refuse_known : Bool → Request → List Fact → List Fact
  refuse_known flag r facts = refusing.refuse_known s.limits (mbim_wording s) restated reads c flag r facts

  plain : (why : Fact) (r : Request) (past : List Fact) → is_own_open r ≡ false → refuse s why r past ≡ note s why past
  plain why r past command = ap (λ (b : Bool). let after : List Fact = if b then end_opening s FAILURE (note s why past) else note s why past in after) command

  pub commands-part : (flag : Bool) (requests : List Request) (past : List Fact) → Fit s c past → AllByRecursion (λ r. Contains past (Forwarded r)) requests → list_any is_own_open requests ≡ false
      → part c (each_pending (λ r before. refuse s (refused flag r) r before) requests past) ≡ each_pending (refuse_known flag) (sent_by c requests) (part c past)
  commands-part flag requests past F all none =
      (refusing.each_refused s.limits (mbim_wording s) restated reads c (OpenOnce s c) (λ d before held. (tt, held)) (λ before held. over s c before held) once_refused
      (refuse s) is_own_open
      (λ why r before command. refusing.noted_alone s.limits (mbim_wording s) restated reads c (OpenOnce s c) (λ d before held. (tt, held)) (λ before held. over s c before held) once_refused why before (refuse s why r before) (plain why r before command))
      flag requests past (record { placed = F.placed; good = F.once }) all (all_commands s requests none)).same

  -- ---- those of the requests that wait and pass a test ----

  -- no request of the proxy itself is the client's
  none_mine : (r : Request) → r.conn ≡ 0 → sent_by c (r ∷ []) ≡ []
  none_mine r own = ap (λ (b : Bool). request_if b (as_sent r) []) (own_is_theirs c client r.conn own)

  all_forwarded : (p : Request → Bool) (past : List Fact) → AllByRecursion (λ r. Contains past (Forwarded r)) (filter p (pending past))
  all_forwarded p past = recursion_from_All _ (filter p (pending past)) (All-filter p (λ (r : Request). Contains past (Forwarded r)) (pending past) (All-from_recursion (λ (r : Request). Contains past (Forwarded r)) (pending past) (forwarded_pending past)))

  -- whether the proxy's own request to open is among them
  abbrev pub opens_in : (Request → Bool) → List Fact → Bool
  opens_in p past = list_any is_own_open (filter p (pending past))

  abbrev refused_each : Bool → (Request → Bool) → List Fact → List Fact
  refused_each flag p past = each_pending (λ r before. refuse s (refused flag r) r before) (filter p (pending past)) past

  by_state : (flag : Bool) (p : Request → Bool) (past : List Fact) → Fit s c past → IsInOrder s past → (modem : ModemState) → now_in past ≡ modem → WaitFor modem (pending past)
      → part c (refused_each flag p past) ≡ (if opens_in p past then opens_with FAILURE (part c past) else each_pending (refuse_known flag) (sent_by c (filter p (pending past))) (part c past))
  unfolding each_pending
  by_state flag p past F I IsAway is none =
      ap (λ (l : List Request). part c (each_pending (λ r before. refuse s (refused flag r) r before) (filter p l) past)) none
      ∙ sym (ap (λ (l : List Request). if list_any is_own_open (filter p l) then opens_with FAILURE (part c past) else each_pending (refuse_known flag) (sent_by c (filter p l)) (part c past)) none)
  by_state flag p past F I IsShut is none =
      ap (λ (l : List Request). part c (each_pending (λ r before. refuse s (refused flag r) r before) (filter p l) past)) none
      ∙ sym (ap (λ (l : List Request). if list_any is_own_open (filter p l) then opens_with FAILURE (part c past) else each_pending (refuse_known flag) (sent_by c (filter p l)) (part c past)) none)
  by_state flag p past F I IsOpening is one =
      ap (λ (l : List Request). part c (each_pending (λ r before. refuse s (refused flag r) r before) (filter p l) past)) one.only
      ∙ elim (p one.request) as (λ b. part c (each_pending (λ r before. refuse s (refused flag r) r before) (cond b (one.request ∷ []) []) past)
      ≡ (if list_any is_own_open (cond b (one.request ∷ []) []) then opens_with FAILURE (part c past) else each_pending (refuse_known flag) (sent_by c (cond b (one.request ∷ []) [])) (part c past))) [
        | true ↦
            only_refused-part one.request past F.once I one.opens one.own is one.only flag
            ∙ sym (ap (λ (b : Bool). if b || false then opens_with FAILURE (part c past) else each_pending (refuse_known flag) (sent_by c (one.request ∷ [])) (part c past)) one.opens)
        | false ↦ refl
      ]
      ∙ sym (ap (λ (l : List Request). if list_any is_own_open (filter p l) then opens_with FAILURE (part c past) else each_pending (refuse_known flag) (sent_by c (filter p l)) (part c past)) one.only)
  by_state flag p past F I IsReady is none =
      let others : opens_in p past ≡ false = any_filter is_own_open p (pending past) none in
      commands-part flag (filter p (pending past)) past F (all_forwarded p past) others
      ∙ sym (ap (λ (b : Bool). if b then opens_with FAILURE (part c past) else each_pending (refuse_known flag) (sent_by c (filter p (pending past))) (part c past)) others)

  pub refusals-part : (flag : Bool) (p : Request → Bool) (past : List Fact) → Fit s c past → IsInOrder s past
      → part c (refused_each flag p past) ≡ (if opens_in p past then opens_with FAILURE (part c past) else each_pending (refuse_known flag) (sent_by c (filter p (pending past))) (part c past))
  refusals-part flag p past F I = by_state flag p past F I (now_in past) refl I.requests

  -- ---- the clock ----

  -- the opening ends where its time has come; else those of the client's requests whose time has come are refused
  abbrev pub known_ticks : (shown : ℕ) → (opens : Bool) → List Fact → List Fact
  known_ticks shown opens facts = if opens then opens_with FAILURE facts else each_pending (refuse_known true) (due shown (pending facts)) facts

  abbrev pub comes_by : ℕ → Request → Bool
  comes_by shown r = nat_le r.deadline shown

  pub ticks-part : (time : ℕ) (past : List Fact) → Fit s c past → Fit s c (TimeIs (max time (now past)) ∷ past) → IsInOrder s (TimeIs (max time (now past)) ∷ past)
      → part c (add (mbim_protocol s) (ClockShows time) past) ≡ known_ticks (max time (now past)) (opens_in (comes_by (max time (now past))) past) (part c past)
  unfolding pending alone_part.part
  ticks-part time past F T I =
      let shown : ℕ = max time (now past) in
      let mine : sent_by c (due shown (pending past)) ≡ due shown (pending (part c past)) = sent_by-due c shown (pending past) ∙ ap (due shown) (sym (pending-part s.limits blank restated reads c past F.placed)) in
      refusals-part true (comes_by shown) (TimeIs shown ∷ past) T I
      ∙ ap (λ (l : List Request). if opens_in (comes_by shown) past then opens_with FAILURE (part c past) else each_pending (refuse_known true) l (part c past)) mine

  -- ---- a loss of the modem ----

  any : Request → Bool
  any r = true

  all_pass : (requests : List Request) → filter any requests ≡ requests
  unfolding any
  all_pass [] = refl
  all_pass (r ∷ requests) = ap (λ (l : List Request). r ∷ l) (all_pass requests)

  -- the opening ends; else all requests of the client are refused
  abbrev pub known_aborts : (opens : Bool) → List Fact → List Fact
  known_aborts opens facts = if opens then opens_with FAILURE facts else each_pending (refuse_known false) (pending facts) facts

  pub aborts-part : (past : List Fact) → Fit s c past → IsInOrder s past
      → part c (each_pending (λ r before. refuse s (refused false r) r before) (pending past) past) ≡ known_aborts (list_any is_own_open (pending past)) (part c past)
  aborts-part past F I =
      ap (λ (l : List Request). part c (each_pending (λ r before. refuse s (refused false r) r before) l past)) (sym (all_pass (pending past)))
      ∙ refusals-part false any past F I
      ∙ ap (λ (l : List Request). if list_any is_own_open l then opens_with FAILURE (part c past) else each_pending (refuse_known false) (sent_by c l) (part c past)) (all_pass (pending past))
      ∙ ap (λ (l : List Request). if list_any is_own_open (pending past) then opens_with FAILURE (part c past) else each_pending (refuse_known false) l (part c past)) (sym (pending-part s.limits blank restated reads c past F.placed))

  -- and then each client is closed
  abbrev pub known_loss : (opens : Bool) → List Fact → List Fact
  known_loss opens facts =
      let aborted : List Fact = known_aborts opens facts in
      ModemLost ∷ (if is_present c aborted then SessionsClosed (c ∷ []) ∷ aborted else aborted)

  closed-part : (past : List Fact) → part c (ModemLost ∷ SessionsClosed (present past) ∷ past) ≡ ModemLost ∷ (if is_present c (part c past) then SessionsClosed (c ∷ []) ∷ part c past else part c past)
  unfolding alone_part.part
  closed-part past =
      elim (contains c (present past)) as (λ b. ModemLost ∷ facts_if b (SessionsClosed (c ∷ []) ∷ []) (part c past) ≡ ModemLost ∷ (if b then SessionsClosed (c ∷ []) ∷ part c past else part c past)) [ true ↦ refl | false ↦ refl ]
      ∙ ap (λ (b : Bool). ModemLost ∷ (if b then SessionsClosed (c ∷ []) ∷ part c past else part c past)) (sym (present-part s.limits blank restated reads c past))

  pub loses-part : (past : List Fact) → Fit s c past → IsInOrder s past → part c (add (mbim_protocol s) ModemIsLost past) ≡ known_loss (list_any is_own_open (pending past)) (part c past)
  loses-part past F I =
      let aborted : List Fact = each_pending (λ r before. refuse s (refused false r) r before) (pending past) past in
      closed-part aborted
      ∙ ap (λ (l : List Fact). ModemLost ∷ (if is_present c l then SessionsClosed (c ∷ []) ∷ l else l)) (aborts-part past F I)
