-- In each history of the MBIM proxy the modem's state tells which requests wait and which clients are open.
use Rattle.std.proofs.Common.{◌≡◌, ℕ, ◌+◌, ◌<◌, max, Bool, true, false, not, ◌&&◌, ◌||◌, ◌==◌, nat_le, nat_lt, if◌then◌else◌, List, [], ◌∷◌, ◌++◌, length, map, cond, filter, refl, ap, sym, ◌∙◌, subst, arith, Option, Some, None, is_none}
use Rattle.std.specs.List.{AllByRecursion, list_any}
use Rattle.std.proofs.lemmas.Bool.{and_parts}
use Rattle.std.proofs.lemmas.Bool.Decides.{nat_tests}
use Rattle.kit_bytes.specs.Subscriptions.{Pair}
use Rattle.mbim_frame.specs.declared.kind.MessageKind.TheVariants.{Open}
use Rattle.mbim_frame.specs.declared.status.TheConstants.{FAILURE}
use Rattle.mbim_frame.specs.Frame.{size_of}
use Rattle.mbim_frame.specs.Head.{is_kind}
use Rattle.mbim_fragments.specs.Runs.{Joining, Whole, More, OutOfSequence, TooLong}
use Rattle.mbim_fragments.specs.Assembling.{joining_behind}
use Rattle.proxy_history.specs.Events.{Event, Joined, Piece, Left, ModemPiece, ModemGone, ModemBack, Now, Took, ModemTook}
use Rattle.proxy_history.specs.Streams.{messages_of_piece, is_bad, stream, modem_stream}
use Rattle.proxy_history.specs.Items.{Item, Joins, Says, GoesBad, Leaves, ModemSays, ModemIsLost, ModemReturns, ClockShows, Takes, ModemTakes, item_if, delivered_by_piece, modem_items, is_lost_once, returns_once, items_of}
use Rattle.proxy_history.specs.Facts.{Fact, Request, Verdict, Own, Share, Ready, Waits, Forward, Full, NotAdmitted, BadStream, Leaving, EventBegan, Admitted, Ended, Judged, Taken, Forwarded, OpeningEnded, SessionsClosed, ListSent, ModemLost, ModemReturned, ModemTaken, TimeIs}
use Rattle.proxy_history.specs.Decision.{Decision, Replies, Forwards, forwards_under}
use Rattle.proxy_history.specs.Connections.{contains, present, is_present, message_count}
use Rattle.proxy_history.specs.Requests.{pending, has_share, has_request, is_pending}
use Rattle.proxy_history.specs.Modem.{now, is_away}
use Rattle.proxy_history.specs.View.{Entry, Shut, Taking, view}
use Rattle.proxy_history.specs.Wording.{told_by}
use Rattle.proxy_history.specs.Noting.{receivers_of, each_pending, join}
use Rattle.proxy_history.specs.Sound.{IsSound}
use Rattle.proxy_history.specs.Coming.{greatest_name, AreSound}
use Rattle.proxy_history.specs.History as proxy
use Rattle.proxy_history.specs.History.{add, add_all}
use Rattle.proxy_history.proofs.Sound.{kept_by_note}
use Rattle.proxy_history.proofs.Noted.{kept_by_each}
use Rattle.proxy_history.proofs.Folds.{away_agrees}
use Rattle.proxy_history.proofs.Walk.{behind_messages, one_if, sound_items, begun_is_sound}
use Rattle.proxy_solo.proofs.Lists.{self, contains-push}
use Rattle.proxy_solo.proofs.Refusing.{refused}
use Rattle.mbim_proxy.specs.Setup.{Setup, the_space}
use Rattle.mbim_proxy.specs.Known.{Known, fresh}
use Rattle.mbim_proxy.specs.OwnReplies.{is_open_request, is_command_fragment, may_open, is_for_modem, view_decides}
use Rattle.mbim_proxy.specs.Step.{view_of, known_from, known_now}
use Rattle.mbim_proxy.specs.Step as step
use Rattle.mbim_proxy.specs.Text.{mbim_wording, note}
use Rattle.mbim_proxy.specs.ModemStates.{ModemState, IsAway, IsShut, IsOpening, IsReady, is_own_open, state, is_shut, is_ready}
use Rattle.mbim_proxy.specs.Lists.{waiting, merged}
use Rattle.mbim_proxy.specs.Forwarding.{own_open, own_subscribe, number_for, request_of}
use Rattle.mbim_proxy.specs.Clients.{command_message, opening_decision, decision_on, forward_for, judge, hear_client, decision_for, passes_share}
use Rattle.mbim_proxy.specs.FromModem.{heard_as, end_opening, refuse}
use Rattle.mbim_proxy.specs.OwnList.{is_free, is_wanted, number_of_list, send_under, finish}
use Rattle.mbim_proxy.specs.History.{mbim_protocol, history}
use Rattle.mbim_proxy.proofs.Walk.{Asks, orderly}
use Rattle.mbim_proxy.proofs.Verdicts.{WhatGoes, what_goes}
use Rattle.mbim_solo.specs.Openings.{WaitFor, MayBeOpen, is_absent, IsInOrder, OpeningsAreInOrder}
use Rattle.mbim_solo.proofs.Openings.{entry_as_open, may_be_shut, any_filter, still, ended, not_the_proxy, noted_in_order, entry_known, judged, Suits, sent_may, forwarded_command, opens_for, refused_goes, command_goes, open_goes, opening_ends, own_noted, heard_in_order}

-- ---- what is decided ----

pub shut_is : (modem : ModemState) → is_shut modem ≡ true → modem ≡ IsShut
shut_is IsAway e = absurd (let clash : false ≡ true = e in cc)
shut_is IsShut e = refl
shut_is IsOpening e = absurd (let clash : false ≡ true = e in cc)
shut_is IsReady e = absurd (let clash : false ≡ true = e in cc)

pub ready_is : (modem : ModemState) → is_ready modem ≡ true → modem ≡ IsReady
ready_is IsAway e = absurd (let clash : false ≡ true = e in cc)
ready_is IsShut e = absurd (let clash : false ≡ true = e in cc)
ready_is IsOpening e = absurd (let clash : false ≡ true = e in cc)
ready_is IsReady e = refl

pub absent_is : (modem : ModemState) → is_absent modem ≡ true → modem ≡ IsAway
absent_is IsAway e = refl
absent_is IsShut e = absurd (let clash : false ≡ true = e in cc)
absent_is IsOpening e = absurd (let clash : false ≡ true = e in cc)
absent_is IsReady e = absurd (let clash : false ≡ true = e in cc)

module _ (s : Setup) where
  abbrev now_in : List Fact → ModemState
  now_in past = state s.starts_away past

  -- a reply by what all share suits the modem's state
  forwards_suit : (modem : ModemState) (o : Option ℕ) (verdict : Verdict) → forwards_under o ≡ Replies verdict → Suits s modem verdict
  forwards_suit modem None Full e = tt
  forwards_suit modem None Own e = tt
  forwards_suit modem None Ready e = absurd (cc)
  forwards_suit modem None Waits e = absurd (cc)
  forwards_suit modem None _ e = tt
  forwards_suit modem (Some n) verdict e = absurd (cc)

  opening_suits : (modem : ModemState) (o : Option ℕ) (verdict : Verdict) → opening_decision modem o ≡ Replies verdict → Suits s modem verdict
  opening_suits IsAway o Ready e = absurd (cc)
  opening_suits IsAway o Waits e = absurd (cc)
  opening_suits IsAway o _ e = tt
  opening_suits IsReady o Ready e = refl
  opening_suits IsReady o Waits e = absurd (cc)
  opening_suits IsReady o _ e = tt
  opening_suits IsOpening o Waits e = refl
  opening_suits IsOpening o Ready e = absurd (cc)
  opening_suits IsOpening o _ e = tt
  opening_suits IsShut o verdict e = forwards_suit IsShut o verdict e

  own_suits : (modem : ModemState) (verdict : Verdict) → Replies Own ≡ Replies verdict → Suits s modem verdict
  own_suits modem Ready e = absurd (cc)
  own_suits modem Waits e = absurd (cc)
  own_suits modem _ e = tt

  reply_suits : (known : Known) (m : List ℕ) (past : List Fact) (verdict : Verdict) → decision_on s known m past ≡ Replies verdict → Suits s (now_in past) verdict
  reply_suits known m past verdict e = by (view_decides s known m) (is_kind Open m) e
    where
      by : (own opens : Bool) → (let decision : Decision = if own then Replies Own else if opens then opening_decision (now_in past) (number_for s (own_open s) past) else forwards_under (number_for s (command_message s known m) past) in decision) ≡ Replies verdict → Suits s (now_in past) verdict
      by true opens e = own_suits (now_in past) verdict e
      by false true e = opening_suits (now_in past) (number_for s (own_open s) past) verdict e
      by false false e = forwards_suit (now_in past) (number_for s (command_message s known m) past) verdict e

  -- a command goes of an open client alone
  open_for_modem : (known : Known) (j : Joining) → is_for_modem known j ≡ true → known.opened ≡ true
  open_for_modem known (Whole command) e = let parts = and_parts _ _ (and_parts _ _ e).0 in parts.1
  open_for_modem known More e = absurd (let clash : false ≡ true = e in cc)
  open_for_modem known OutOfSequence e = absurd (let clash : false ≡ true = e in cc)
  open_for_modem known TooLong e = absurd (let clash : false ≡ true = e in cc)

  second_of_both : (x y : Bool) → x ≡ false → (not x && not y) ≡ false → y ≡ true
  second_of_both x true none e = refl
  second_of_both true false none e = absurd (cc)
  second_of_both false false none e = absurd (cc)

  pub shared_command : (known : Known) (m : List ℕ) → view_decides s known m ≡ false → is_kind Open m ≡ false → known.opened ≡ true
  shared_command known m shared command =
      let none : (is_open_request m && may_open known) ≡ false = ap (λ (b : Bool). (b && (length m == 16)) && may_open known) command in
      let both : (is_command_fragment m && is_for_modem known (joining_behind s.longest_body known.begun m)) ≡ true = second_of_both (is_open_request m && may_open known) (is_command_fragment m && is_for_modem known (joining_behind s.longest_body known.begun m)) none shared in
      open_for_modem known (joining_behind s.longest_body known.begun m) (and_parts (is_command_fragment m) (is_for_modem known (joining_behind s.longest_body known.begun m)) both).1

  never_forwards : (own opens share : Bool) (modem : ModemState) (one other : Option ℕ) (n : ℕ)
      → (let decision : Decision = if not own && not opens && share then Replies Share else if own then Replies Own else if opens then opening_decision modem one else forwards_under other in decision) ≡ Forwards n → own ≡ false
  never_forwards true opens share modem one other n e = absurd (cc)
  never_forwards false opens share modem one other n e = refl

  pub open_is_ready : (modem : ModemState) (known : Known) → MayBeOpen modem known → known.opened ≡ true → modem ≡ IsReady
  open_is_ready IsAway known may opened = absurd (let clash : true ≡ false = sym opened ∙ may.0 in cc)
  open_is_ready IsShut known may opened = absurd (let clash : true ≡ false = sym opened ∙ may.0 in cc)
  open_is_ready IsOpening known may opened = absurd (let clash : true ≡ false = sym opened ∙ may in cc)
  open_is_ready IsReady known may opened = refl

  -- ---- what a client says ----

  module _ (d : ℕ) (m : List ℕ) (past : List Fact) (there : is_present d past ≡ true) (I : IsInOrder s past) where
    abbrev known : Known
    known = known_now s d past

    abbrev before : Verdict → List Fact
    before verdict = Judged d (message_count d past + 1) m verdict ∷ past

    judged_so : (verdict : Verdict) → Suits s (now_in past) verdict → IsInOrder s (before verdict)
    judged_so verdict suits = judged s d (message_count d past + 1) m verdict past (λ is. sent_may s (now_in past) known m verdict suits (I.clients d is)) I

    forwarded_so : (n : ℕ) → decision_for s known d m past ≡ Forwards n → (opens : Bool) → is_kind Open m ≡ opens → IsInOrder s (forward_for opens s known d m n past)
    unfolding state
    forwarded_so n e true opens =
        let goes : WhatGoes s known m n past true = subst (WhatGoes s known m n past) opens (what_goes s known m n past d e) in
        opens_for s (request_of s 0 (own_open s) n (before Waits)) d (message_count d past + 1) m past refl refl (shut_is (now_in past) goes.0) I
    forwarded_so n e false command =
        let shared : view_decides s known m ≡ false = never_forwards (view_decides s known m) (is_kind Open m) (has_share s.limits.share d the_space past) (now_in past) (number_for s (own_open s) past) (number_for s (command_message s known m) past) n e in
        let ready : now_in past ≡ IsReady = open_is_ready (now_in past) known (I.clients d there) (shared_command known m shared command) in
        forwarded_command s (request_of s d (command_message s known m) n (before Forward)) (before Forward) refl ready (judged_so Forward tt)

    suits_for : (b : Bool) (decision : Decision) (verdict : Verdict) → (decision ≡ Replies verdict → Suits s (now_in past) verdict) → (if b then Replies Share else decision) ≡ Replies verdict → Suits s (now_in past) verdict
    suits_for true decision verdict suits e = let same : Share ≡ verdict = cc in subst (Suits s (now_in past)) same tt
    suits_for false decision verdict suits e = suits e

    judged_in_order : (decision : Decision) → decision_for s known d m past ≡ decision → IsInOrder s (judge s known d m decision past)
    judged_in_order (Replies verdict) e =
        noted_in_order s (Judged d (message_count d past + 1) m verdict) past
        (judged_so verdict (suits_for (passes_share s known d m past) (decision_on s known m past) verdict (λ is. reply_suits known m past verdict is) e))
    judged_in_order (Forwards n) e = forwarded_so n e (is_kind Open m) refl

    pub said_in_order : IsInOrder s (hear_client s known d m past)
    said_in_order = judged_in_order (decision_for s known d m past) refl

  -- ---- refusals ----

  pub note_state : (modem : ModemState) (fact : Fact) (past : List Fact) → now_in (fact ∷ past) ≡ modem → now_in (note s fact past) ≡ modem
  unfolding state
  note_state modem fact past is = kept_by_note s.limits (mbim_wording s) (λ after. now_in after ≡ modem) (λ d before there same. same) fact past is

  pub refused_for : (flag : Bool) (r : Request) → receivers_of (refused flag r) ≡ r.conn ∷ []
  refused_for true r = refl
  refused_for false r = refl

  refused_state : (flag : Bool) (r : Request) (past : List Fact) → now_in (refused flag r ∷ past) ≡ now_in past
  unfolding state
  refused_state true r past = refl
  refused_state false r past = refl

  abbrev refuse_it : Bool → Request → List Fact → List Fact
  refuse_it flag r past = refuse s (refused flag r) r past

  abbrev InReady : List Fact → Type 0
  InReady past = IsInOrder s past × (now_in past ≡ IsReady)

  refuse_command : (flag : Bool) (r : Request) (past : List Fact) → is_own_open r ≡ false → InReady past → InReady (refuse_it flag r past)
  refuse_command flag r past command I =
      subst (λ (b : Bool). InReady (let after : List Fact = if b then end_opening s FAILURE (note s (refused flag r) past) else note s (refused flag r) past in after)) (sym command)
      (noted_in_order s (refused flag r) past (command_goes s (refused flag r) r past (refused_goes s flag r past) I.1 I.0), note_state IsReady (refused flag r) past (refused_state flag r past ∙ I.1))

  abbrev InShut : List Fact → Type 0
  InShut past = IsInOrder s past × (now_in past ≡ IsShut)

  refuse_open : (flag : Bool) (r : Request) (past : List Fact) → is_own_open r ≡ true → r.conn ≡ 0 → now_in past ≡ IsOpening → pending past ≡ r ∷ [] → IsInOrder s past → InShut (refuse_it flag r past)
  unfolding state
  refuse_open flag r past opens own opening only I =
      let H = open_goes s (refused flag r) r past (refused_goes s flag r past) opening only I in
      let is_so : note s (refused flag r) past ≡ refused flag r ∷ past = own_noted s (refused flag r) r past (refused_for flag r) own H.nobody in
      subst (λ (b : Bool). InShut (let after : List Fact = if b then end_opening s FAILURE (note s (refused flag r) past) else note s (refused flag r) past in after)) (sym opens)
      (subst (λ (l : List Fact). InShut (end_opening s FAILURE l)) (sym is_so)
      (opening_ends s FAILURE (refused flag r ∷ past) H, note_state IsShut (OpeningEnded FAILURE (waiting s (refused flag r ∷ past))) (refused flag r ∷ past) refl))

  pub all_commands : (requests : List Request) → list_any is_own_open requests ≡ false → AllByRecursion (λ r. is_own_open r ≡ false) requests
  all_commands [] none = tt
  all_commands (r ∷ requests) none =
      let step : (b : Bool) → is_own_open r ≡ b → (b || list_any is_own_open requests) ≡ false → AllByRecursion (λ r. is_own_open r ≡ false) (r ∷ requests) =
      λ b. elim b as (λ b. is_own_open r ≡ b → (b || list_any is_own_open requests) ≡ false → AllByRecursion (λ r. is_own_open r ≡ false) (r ∷ requests)) [
        | true ↦ λ is h. absurd (let clash : true ≡ false = h in cc)
        | false ↦ λ is h. (is, all_commands requests h)
      ]
      in step (is_own_open r) refl none

  abbrev refused_each : Bool → List Request → List Fact → List Fact
  refused_each flag requests past = each_pending (λ r before. refuse_it flag r before) requests past

  pub commands_refused : (flag : Bool) (requests : List Request) (past : List Fact) → list_any is_own_open requests ≡ false → InReady past → InReady (refused_each flag requests past)
  commands_refused flag requests past none I = kept_by_each InReady (λ r. is_own_open r ≡ false) (λ r before. refuse_it flag r before) (λ r before command held. refuse_command flag r before command held) requests past (all_commands requests none) I

  pub only_refused : (flag : Bool) (r : Request) (past : List Fact) → is_own_open r ≡ true → r.conn ≡ 0 → now_in past ≡ IsOpening → pending past ≡ r ∷ [] → IsInOrder s past → InShut (refused_each flag (r ∷ []) past)
  unfolding each_pending
  only_refused flag r past opens own opening only I =
      let waits : is_pending r past ≡ true = ap (has_request r) only ∙ ap (λ (b : Bool). b || false) (self r.serial) in
      subst (λ (b : Bool). InShut (let after : List Fact = if b then refuse_it flag r past else past in after)) (sym waits) (refuse_open flag r past opens own opening only I)

  -- those of the requests that pass a test
  some_refused : (flag : Bool) (p : Request → Bool) (past : List Fact) → IsInOrder s past → (modem : ModemState) → now_in past ≡ modem → WaitFor modem (pending past) → IsInOrder s (refused_each flag (filter p (pending past)) past)
  unfolding each_pending
  some_refused flag p past I IsAway is none = subst (λ (l : List Request). IsInOrder s (refused_each flag (filter p l) past)) (sym none) I
  some_refused flag p past I IsShut is none = subst (λ (l : List Request). IsInOrder s (refused_each flag (filter p l) past)) (sym none) I
  some_refused flag p past I IsOpening is one =
      subst (λ (l : List Request). IsInOrder s (refused_each flag (filter p l) past)) (sym one.only)
      (elim (p one.request) as (λ b. IsInOrder s (refused_each flag (cond b (one.request ∷ []) []) past)) [ true ↦ (only_refused flag one.request past one.opens one.own is one.only I).0 | false ↦ I ])
  some_refused flag p past I IsReady is none = (commands_refused flag (filter p (pending past)) past (any_filter is_own_open p (pending past) none) (I, is)).0

  -- all of them, and then no opening goes on
  pub record AllAborted (past : List Fact) : Type 0 where
    pub order : IsInOrder s past
    pub settled : now_in past ≡ IsOpening → ⊥

  all_aborted : (past : List Fact) → IsInOrder s past → (modem : ModemState) → now_in past ≡ modem → WaitFor modem (pending past) → AllAborted (refused_each false (pending past) past)
  unfolding each_pending
  all_aborted past I IsAway is none = subst (λ (l : List Request). AllAborted (refused_each false l past)) (sym none) (record { order = I; settled = λ e. let clash : IsOpening ≡ IsAway = sym e ∙ is in cc })
  all_aborted past I IsShut is none = subst (λ (l : List Request). AllAborted (refused_each false l past)) (sym none) (record { order = I; settled = λ e. let clash : IsOpening ≡ IsShut = sym e ∙ is in cc })
  all_aborted past I IsOpening is one =
      subst (λ (l : List Request). AllAborted (refused_each false l past)) (sym one.only)
      (let done = only_refused false one.request past one.opens one.own is one.only I in record { order = done.0; settled = λ e. let clash : IsOpening ≡ IsShut = sym e ∙ done.1 in cc })
  all_aborted past I IsReady is none =
      let done = commands_refused false (pending past) past none (I, is) in record { order = done.0; settled = λ e. let clash : IsOpening ≡ IsReady = sym e ∙ done.1 in cc }

  -- ---- a loss, and a return ----

  none_waits : (modem : ModemState) (k : Known) → (modem ≡ IsOpening → ⊥) → MayBeOpen modem k → k.waits ≡ None
  none_waits IsAway k settled may = may.1
  none_waits IsShut k settled may = may.1
  none_waits IsOpening k settled may = absurd (settled refl)
  none_waits IsReady k settled may = may

  closed_in_order : (past : List Fact) → AllAborted past → IsInOrder s (ModemLost ∷ SessionsClosed (present past) ∷ past)
  unfolding state pending present is_away view
  closed_in_order past A = record {
    requests = refl;
    clients =
        λ c is.
        let none : (known_now s c past).waits ≡ None = none_waits (now_in past) (known_now s c past) A.settled (A.order.clients c is) in
        subst (MayBeOpen IsAway) (sym (entry_known s (contains c (present past)) Shut (view_of c past)))
        (subst (λ (b : Bool). MayBeOpen IsAway (let k : Known = if b then step.step s (known_now s c past) Shut else known_now s c past in k)) (sym is) (refl, none));
    away = refl;
    nobody = A.order.nobody;
  }

  loses_in_order : (past : List Fact) → IsInOrder s past → IsInOrder s (add (mbim_protocol s) ModemIsLost past)
  loses_in_order past I = closed_in_order (refused_each false (pending past) past) (all_aborted past I (now_in past) refl I.requests)

  returns_in_order : (past : List Fact) → now_in past ≡ IsAway → IsInOrder s past → IsInOrder s (ModemReturned ∷ past)
  unfolding state pending present is_away view
  returns_in_order past away I = record {
    requests = subst (λ (x : ModemState). WaitFor x (pending past)) away I.requests;
    clients = λ c is. subst (λ (x : ModemState). MayBeOpen x (known_now s c past)) away (I.clients c is);
    away = refl;
    nobody = I.nobody;
  }

  ticks_in_order : (time : ℕ) (past : List Fact) → IsInOrder s past → IsInOrder s (add (mbim_protocol s) (ClockShows time) past)
  unfolding state pending present is_away view
  ticks_in_order time past I =
      let shown : ℕ = max time (now past) in
      let timed : IsInOrder s (TimeIs shown ∷ past) = still s (TimeIs shown) past refl refl refl refl (λ c. (refl, refl)) I in
      some_refused true (λ r. nat_le r.deadline shown) (TimeIs shown ∷ past) timed (now_in (TimeIs shown ∷ past)) refl timed.requests

  -- ---- connections ----

  admitted_in_order : (d : ℕ) (past : List Fact) → (d == 0) ≡ false → IsInOrder s past → IsInOrder s (Admitted d ∷ past)
  unfolding state pending present is_away view told_by
  admitted_in_order d past some I = record {
    requests = I.requests;
    clients =
        λ c is.
        let at : (if d == c then true else is_present c past) ≡ true = sym (contains-push c d (present past)) ∙ is in
        let by : (b : Bool) → (if b then true else is_present c past) ≡ true → MayBeOpen (now_in past) (known_from s (let l : List Entry = if b then [] else view_of c past in l)) =
        λ b. elim b as (λ b. (if b then true else is_present c past) ≡ true → MayBeOpen (now_in past) (known_from s (let l : List Entry = if b then [] else view_of c past in l))) [
          | true ↦ λ h. may_be_shut (now_in past) (fresh s) refl refl
          | false ↦ λ h. I.clients c h
        ]
        in by (d == c) at;
    away = I.away;
    nobody = contains-push 0 d (present past) ∙ ap (λ (b : Bool). if b then true else is_present 0 past) some ∙ I.nobody;
  }

  joins_in_order : (d : ℕ) (past : List Fact) → (d == 0) ≡ false → IsInOrder s past → IsInOrder s (join s.limits d past)
  joins_in_order d past some I = elim (nat_lt (length (present past)) s.limits.connections) as (λ b. IsInOrder s (let after : List Fact = if b then Admitted d ∷ past else Ended d NotAdmitted ∷ past in after)) [
    | true ↦ admitted_in_order d past some I
    | false ↦ ended s d NotAdmitted past some I
  ]

  if_there : (d : ℕ) (past after : List Fact) → (is_present d past ≡ true → IsInOrder s after) → IsInOrder s past → IsInOrder s (let facts : List Fact = if is_present d past then after else past in facts)
  if_there d past after so I =
      let by : (b : Bool) → is_present d past ≡ b → IsInOrder s (let facts : List Fact = if b then after else past in facts) =
      λ b. elim b as (λ b. is_present d past ≡ b → IsInOrder s (let facts : List Fact = if b then after else past in facts)) [ true ↦ so | false ↦ λ e. I ]
      in by (is_present d past) refl

  -- ---- every item ----

  abbrev pub MayMeet : Item → List Fact → Type 0
  MayMeet (Joins d) past = (d == 0) ≡ false
  MayMeet ModemReturns past = now_in past ≡ IsAway
  MayMeet _ past = Unit {0}

  pub item_in_order : (item : Item) (past : List Fact) → MayMeet item past → IsSound s.limits past → IsInOrder s past → IsInOrder s (add (mbim_protocol s) item past)
  unfolding state pending present is_away view
  item_in_order (Joins d) past may sound I = joins_in_order d past may I
  item_in_order (Says d m) past may sound I = if_there d past (hear_client s (known_now s d past) d m past) (λ there. said_in_order d m past there I) I
  item_in_order (GoesBad d) past may sound I = if_there d past (Ended d BadStream ∷ past) (λ there. ended s d BadStream past (not_the_proxy s d past I.nobody there) I) I
  item_in_order (Leaves d) past may sound I = if_there d past (Ended d Leaving ∷ past) (λ there. ended s d Leaving past (not_the_proxy s d past I.nobody there) I) I
  item_in_order (ModemSays m) past may sound I = heard_in_order s (heard_as m) m past sound I
  item_in_order ModemIsLost past may sound I = loses_in_order past I
  item_in_order ModemReturns past may sound I = returns_in_order past may I
  item_in_order (ClockShows time) past may sound I = ticks_in_order time past I
  item_in_order (Takes d count) past may sound I =
      if_there d past (Taken d count ∷ past) (λ there. still s (Taken d count) past refl refl refl refl (λ c. entry_as_open s (d == c) (Taking count) (view_of c past) (λ known. (refl, refl))) I) I
  item_in_order (ModemTakes count) past may sound I = still s (ModemTaken count) past refl refl refl refl (λ c. (refl, refl)) I

  -- ---- the end of an event ----

  wanted_if : (b : Bool) (o : Option ℕ) (n : ℕ) → (if b then o else None) ≡ Some n → b ≡ true
  wanted_if true o n e = refl
  wanted_if false o n e = absurd (cc)

  sent_in_order : (list : List Pair) (past : List Fact) → IsInOrder s past → (number : Option ℕ) → number_of_list s list past ≡ number → IsInOrder s (send_under s list number past)
  unfolding state pending present is_away view
  sent_in_order list past I None e = I
  sent_in_order list past I (Some n) e =
      let wanted : is_wanted s list past ≡ true = wanted_if (is_wanted s list past) (number_for s (own_subscribe list) past) n e in
      let free : is_free s past ≡ true = (and_parts (is_free s past) _ wanted).0 in
      let ready : now_in past ≡ IsReady = ready_is (now_in past) (and_parts (is_ready (now_in past)) _ free).0 in
      let asked : IsInOrder s (Forwarded (request_of s 0 (own_subscribe list) n past) ∷ past) = forwarded_command s (request_of s 0 (own_subscribe list) n past) past refl ready I in
      still s (ListSent list) (Forwarded (request_of s 0 (own_subscribe list) n past) ∷ past) refl refl refl refl (λ c. (refl, refl)) asked

  pub finish_in_order : (past : List Fact) → IsInOrder s past → IsInOrder s (finish s past)
  finish_in_order past I = sent_in_order (merged s past) past I (number_of_list s (merged s past) past) refl

  -- ---- every event ----

  pub begun_in_order : (past : List Fact) → IsInOrder s past → IsInOrder s (EventBegan ∷ past)
  unfolding state pending present is_away view
  begun_in_order past I = still s EventBegan past refl refl refl refl (λ c. (refl, refl)) I

  soundly : (item : Item) (past : List Fact) → IsSound s.limits past → IsSound s.limits (add (mbim_protocol s) item past)
  unfolding add_all
  soundly item past sound = sound_items (mbim_protocol s) (Asks s) (orderly s) (item ∷ []) past sound

  unfoldable pub always : Item → Bool
  always (Joins d) = false
  always ModemReturns = false
  always _ = true

  pub may_always : (item : Item) (past : List Fact) → always item ≡ true → MayMeet item past
  unfolding always
  may_always (Joins d) past e = absurd (let clash : false ≡ true = e in cc)
  may_always ModemReturns past e = absurd (let clash : false ≡ true = e in cc)
  may_always _ past e = tt

  items_in_order : (items : List Item) (past : List Fact) → AllByRecursion (λ item. always item ≡ true) items → IsSound s.limits past → IsInOrder s past → IsInOrder s (add_all (mbim_protocol s) items past)
  unfolding add_all
  items_in_order [] past all sound I = I
  items_in_order (item ∷ items) past all sound I = items_in_order items (add (mbim_protocol s) item past) all.1 (soundly item past sound) (item_in_order item past (may_always item past all.0) sound I)

  pub clients_always : (d : ℕ) (messages : List (List ℕ)) (bad : Bool) → AllByRecursion (λ item. always item ≡ true) (map (λ m. Says d m) messages ++ item_if bad (GoesBad d))
  unfolding always
  clients_always d messages bad = behind_messages (λ item. always item ≡ true) (λ m. Says d m) messages (item_if bad (GoesBad d)) (λ m. refl) (one_if (λ item. always item ≡ true) bad (GoesBad d) refl)

  pub modems_always : (piece : List ℕ) (before : Option (List ℕ)) → AllByRecursion (λ item. always item ≡ true) (modem_items (mbim_protocol s) piece before)
  unfolding always
  modems_always piece None = tt
  modems_always piece (Some bytes) =
      behind_messages (λ item. always item ≡ true) (λ m. ModemSays m) (delivered_by_piece (mbim_protocol s) bytes piece) (item_if (is_bad size_of (bytes ++ piece)) ModemIsLost) (λ m. refl) (one_if (λ item. always item ≡ true) (is_bad size_of (bytes ++ piece)) ModemIsLost refl)

  pub gone_always : (before : Option (List ℕ)) → AllByRecursion (λ item. always item ≡ true) (is_lost_once before)
  unfolding always
  gone_always None = tt
  gone_always (Some bytes) = (refl, tt)

  event_in_order : (event : Event) (events : List Event) → AllByRecursion (λ item. always item ≡ true) (items_of (mbim_protocol s) events event) → IsInOrder s (history s events) → IsInOrder s (history s (event ∷ events))
  unfolding proxy.history
  event_in_order event events all I =
      finish_in_order _ (items_in_order (items_of (mbim_protocol s) events event) (EventBegan ∷ history s events) all (begun_is_sound (mbim_protocol s) (Asks s) (orderly s) events) (begun_in_order (history s events) I))

  pub not_zero : (d greatest : ℕ) → greatest < d → (d == 0) ≡ false
  not_zero d greatest rises = grind (arith, nat_tests, rises)

  pub histories_in_order : (events : List Event) → AreSound (mbim_protocol s) events → IsInOrder s (history s events)
  unfolding proxy.history proxy.add_all state pending present is_away always
  histories_in_order [] sound = record {
    requests = elim s.starts_away as (λ b. WaitFor (if b then IsAway else IsShut) []) [ true ↦ refl | false ↦ refl ];
    clients = λ c is. absurd (let clash : false ≡ true = is in cc);
    away = elim s.starts_away as (λ b. b ≡ is_absent (if b then IsAway else IsShut)) [ true ↦ refl | false ↦ refl ];
    nobody = refl;
  }
  histories_in_order (Joined d ∷ events) sound =
      finish_in_order _ (joins_in_order d (EventBegan ∷ history s events) (not_zero d (greatest_name events) sound.0) (begun_in_order (history s events) (histories_in_order events sound.1)))
  histories_in_order (Piece d bytes ∷ events) sound = event_in_order (Piece d bytes) events (clients_always d (messages_of_piece size_of (stream d events) bytes) (is_bad size_of (stream d events ++ bytes))) (histories_in_order events sound.1)
  histories_in_order (Left d ∷ events) sound = event_in_order (Left d) events (refl, tt) (histories_in_order events sound.1)
  histories_in_order (ModemPiece bytes ∷ events) sound = event_in_order (ModemPiece bytes) events (modems_always bytes (modem_stream size_of s.starts_away events)) (histories_in_order events sound.1)
  histories_in_order (ModemGone ∷ events) sound = event_in_order ModemGone events (gone_always (modem_stream size_of s.starts_away events)) (histories_in_order events sound.1)
  histories_in_order (ModemBack ∷ events) sound =
      let I = histories_in_order events sound.1 in
      let begun = begun_in_order (history s events) I in
      let agrees : is_away s.starts_away (history s events) ≡ is_none (modem_stream size_of s.starts_away events) = away_agrees (mbim_protocol s) (Asks s) (orderly s) events in
      let step : (o : Option (List ℕ)) → is_away s.starts_away (history s events) ≡ is_none o → IsInOrder s (add_all (mbim_protocol s) (returns_once o) (EventBegan ∷ history s events)) =
      λ o. elim o as (λ o. is_away s.starts_away (history s events) ≡ is_none o → IsInOrder s (add_all (mbim_protocol s) (returns_once o) (EventBegan ∷ history s events))) [
        | None ↦ λ e. returns_in_order (EventBegan ∷ history s events) (absent_is (now_in (history s events)) (sym I.away ∙ e)) begun
        | Some before ↦ λ e. begun
      ]
      in finish_in_order _ (step (modem_stream size_of s.starts_away events) agrees)
  histories_in_order (Now time ∷ events) sound = event_in_order (Now time) events (refl, tt) (histories_in_order events sound.1)
  histories_in_order (Took d count ∷ events) sound = event_in_order (Took d count) events (refl, tt) (histories_in_order events sound.1)
  histories_in_order (ModemTook count ∷ events) sound = event_in_order (ModemTook count) events (refl, tt) (histories_in_order events sound.1)

pub openings_are_in_order : OpeningsAreInOrder
openings_are_in_order s events sound = histories_in_order s events sound
