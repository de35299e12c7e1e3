-- What a message of a client adds to a rig's facts. Lists of facts have the newest first.
use Rattle.std.proofs.Common.{◌≡◌, ℕ, suc, ◌+◌, ◌-◌, ◌^◌, ◌<◌, ◌≤◌, Bool, true, false, not, cond, ◌&&◌, ◌||◌, ◌==◌, is_none, nat_le, nat_lt, if◌then◌else◌, List, [], ◌∷◌, ◌++◌, length, Option, Some, None, refl, ap, sym, ◌∙◌, arith, subst, lit≤}
use Rattle.std.proofs.lemmas.Bool.{eq-eqb}
use Rattle.std.proofs.lemmas.Bool.Decides.{nat_tests}
use Rattle.mbim_frame.specs.declared.kind.MessageKind.TheVariants.{Open, CommandDone}
use Rattle.mbim_frame.specs.Kinds.{kind_number}
use Rattle.mbim_frame.specs.Head.{is_kind, number_of}
use Rattle.mbim_frame.specs.Writing.{unsplit}
use Rattle.mbim_frame.specs.declared.status.TheConstants.{SUCCESS}
use Rattle.mbim_frame.specs.Bodies.{uuid_of, cid_of, done_text}
use Rattle.mbim_fragments.specs.Splitting.{split}
use Rattle.mbim_fragments.specs.Runs.{Joining, Whole}
use Rattle.mbim_fragments.specs.Assembling.{Assembled, joining_behind}
use Rattle.mbim_fragments.specs.Assembling as assembling
use Rattle.proxy_history.specs.Facts.{Fact, Verdict, Request, Own, Share, Foreign, Away, Full, Forward, Ready, Waits, Judged, Forwarded}
use Rattle.proxy_history.specs.Decision.{Decision, Replies, Forwards, forwards_under}
use Rattle.proxy_history.specs.Connections.{present, is_present, message_count}
use Rattle.proxy_history.specs.Requests.{has_share, in_use, forward_count, last_number, of_space, numbers_of, numbers_in_use, next_number, number_after, following, free_from, deadline_of}
use Rattle.proxy_history.specs.Modem.{now, modem_queue}
use Rattle.proxy_history.specs.View.{Entry, Said, entry_if, view}
use Rattle.proxy_history.specs.Rendering.{Rendering, render, put}
use Rattle.mbim_proxy.specs.Setup.{the_space}
use Rattle.mbim_proxy.specs.Known.{Known}
use Rattle.mbim_proxy.specs.OwnReplies.{OwnReply, is_command_fragment, may_open, is_for_modem, view_decides}
use Rattle.mbim_proxy.specs.Step.{view_of, known_now, whole_body}
use Rattle.mbim_proxy.specs.Text.{SHARE_PASSED, done_to, reply_text, text_as, note}
use Rattle.mbim_proxy.specs.ModemStates.{ModemState, IsShut, IsReady, is_own_open, state}
use Rattle.mbim_proxy.specs.Forwarding.{own_open, wire, wire_of, has_room, number_for, request_of, forward}
use Rattle.mbim_proxy.specs.Clients.{command_message, opening_decision, shared_decision, decision_on, decision_for, judge, forward_for, hear_client}
use Rattle.mbim_solo.proofs.Numbers.{number_within}
use Rattle.mbim_solo.proofs.Law.{served_proxies_are_roomy}
use Rattle.rig_runs.specs.Rig.{device, time_limit}
use Rattle.rig_runs.specs.Mbim.{setup}
use Rattle.rig_runs.specs.MbimExamples.{configuration, open_2}
use Rattle.rig_runs.specs.MbimLines.{passes_share}
use Rattle.rig_laws_mbim.proofs.Messages.{configuring, configuration_is, opening_is, body, query, cid_for, query_is, OpensModem, modem_is_opened, own_open_under}
use Rattle.rig_laws_mbim.proofs.Harmless.{IsWhole, IsSteady, steady, configuration_is_answered, own_decides, configuration_passes_none, opening_passes_none}
use Rattle.rig_laws_mbim.proofs.Calm.{Calm, Progress, shut, opening, ready, queue_is, judged, forwarded, judged_configuration, judged_ready, asks_to_open, one_more_configured}
use Rattle.rig_laws_mbim.proofs.Room.{HasRoom, AllHaveRoom, outbox, bytes_for, bytes_of, put_has_room, less_room, noted}

-- ---- the number that a request gets ----

few_in_space : (space : ℕ) (requests : List Request) → length (numbers_of (of_space space requests)) ≤ length requests
few_in_space space [] = omega arith
few_in_space space (r ∷ requests) =
    let less = few_in_space space requests in
    elim (r.space == space) as (λ b. length (numbers_of (cond b (r ∷ of_space space requests) (of_space space requests))) ≤ suc (length requests)) [ true ↦ omega (arith, less) | false ↦ omega (arith, less) ]

-- where nothing waits for the modem and few requests are in use, there is one for a short message
pub record HasNumber (m : List ℕ) (past : List Fact) : Type 0 where
  pub number : ℕ
  pub found : number_for setup m past ≡ Some number
  pub below : number < 2 ^ 32

pub has_number : {w : Progress} {requests : List Request} {past : List Fact} (m : List ℕ) → Calm w requests [] past → length requests ≤ 200 → length (wire_of setup 0 m) ≤ 200 → HasNumber m past
has_number {requests = requests} {past = past} m calm few short = by (next_number 256 (2 ^ 32 - 1) the_space past) refl
  where
    used : length (numbers_in_use the_space past) < 256
    used = let all = few_in_space the_space (in_use past) in let same : length (in_use past) ≡ length requests = ap length calm.uses in omega (arith, all, same, few)

    room : has_room setup m past ≡ true
    room = ap (λ (l : List ℕ). nat_le (length l + length (wire_of setup 0 m)) 1048576) (queue_is calm) ∙ fits (length (wire_of setup 0 m)) short
      where
        fits : (n : ℕ) → n ≤ 200 → nat_le (0 + n) 1048576 ≡ true
        fits n short = grind (arith, nat_tests)

    given : next_number 256 (2 ^ 32 - 1) the_space past ≡ Some (free_from (length (numbers_in_use the_space past)) (2 ^ 32 - 1) (numbers_in_use the_space past) (following (2 ^ 32 - 1) (last_number the_space past)))
    given = let test : nat_lt (length (numbers_in_use the_space past)) 256 ≡ true = grind (arith, nat_tests, used) in
        ap (λ (b : Bool). if b then Some (free_from (length (numbers_in_use the_space past)) (2 ^ 32 - 1) (numbers_in_use the_space past) (following (2 ^ 32 - 1) (last_number the_space past))) else None) test

    by : (o : Option ℕ) → next_number 256 (2 ^ 32 - 1) the_space past ≡ o → HasNumber m past
    by None e = absurd (let clash : Some (free_from (length (numbers_in_use the_space past)) (2 ^ 32 - 1) (numbers_in_use the_space past) (following (2 ^ 32 - 1) (last_number the_space past))) ≡ None = sym given ∙ e in cc)
    by (Some n) e =
        let found : number_for setup m past ≡ Some n = ap (λ (b : Bool). if b then next_number 256 (2 ^ 32 - 1) the_space past else None) room ∙ e in
        let within = number_within setup (served_proxies_are_roomy device time_limit false) m past n found in
        record { number = n; found = found; below = omega (arith, within) }

-- ---- one that names the device ----

pub sent_for : (b : Bool) (entry : Entry) (entries : List Entry) → b ≡ true → bytes_of (entry_if b entry entries) ≡ bytes_of (entry ∷ entries)
sent_for true entry entries e = refl
sent_for false entry entries e = absurd (cc)

module _ (c : ℕ) (past : List Fact) where
  abbrev known : Known
  known = known_now setup c past

  -- what passes no share is decided by other rows
  pub by_others : (m : List ℕ) → passes_share setup c m past ≡ false → decision_for setup known c m past ≡ decision_on setup known m past
  by_others m within = ap (λ (b : Bool). if b then Replies Share else decision_on setup known m past) within

  -- ---- a fact about its message alone brings it a short text ----

  judged_alone : (m : List ℕ) (verdict : Verdict) → length (text_as setup known (Said m verdict)) ≤ 200 → AllHaveRoom 200 past
      → note setup (Judged c (message_count c past + 1) m verdict) past ≡ Judged c (message_count c past + 1) m verdict ∷ past
  unfolding view present render
  judged_alone m verdict short has =
      noted (Judged c (message_count c past + 1) m verdict) past c refl
      (λ there. subst (λ (r : Rendering). r.is_over ≡ false) (sym (sent_for (c == c) (Said m verdict) (view_of c past) (eq-eqb c c refl)))
      (put_has_room 0 (text_as setup known (Said m verdict)) (bytes_for c past) (less_room (length (text_as setup known (Said m verdict)) + 0) 200 (bytes_for c past) (omega (arith, short)) (has c there))).fits)

  configured_text : IsSteady known → length (text_as setup known (Said configuration Own)) ≤ 200
  configured_text is =
      subst (λ (reply : OwnReply). length (reply_text known (number_of configuration) reply) ≤ 200) (sym (configuration_is_answered known is.begun))
      (subst (λ (n : ℕ). length (split (kind_number CommandDone) (number_of configuration) n (done_text (record { uuid = uuid_of configuring; cid = cid_of configuring; status = SUCCESS }) [])) ≤ 200) (sym is.fragment) (lit≤ tt))

  pub configuration_is_heard : {w : Progress} {requests : List Request} {queue : List ℕ} → Calm w requests queue past → AllHaveRoom 200 past → hear_client setup known c configuration past ≡ Judged c (message_count c past + 1) configuration Own ∷ past
  configuration_is_heard calm has =
      let is : IsSteady known = steady c past calm.harmless in
      ap (λ (d : Decision). judge setup known c configuration d past) (by_others configuration (configuration_passes_none c past is.begun))
      ∙ ap (λ (b : Bool). judge setup known c configuration (if b then Replies Own else shared_decision setup known configuration past) past) (own_decides known is.begun)
      ∙ judged_alone configuration Own (configured_text is) has

  -- ---- one that opens the modem ----

  opening_is_shared : known.configured ≡ true → known.waits ≡ None → view_decides setup known open_2 ≡ false
  opening_is_shared configured waits = ap (λ (b : Bool). not (b && is_none known.waits) && true) configured ∙ ap (λ (o : Option ℕ). not (is_none o) && true) waits

  pub opening_goes : known.configured ≡ true → known.waits ≡ None → (modem : ModemState) → state false past ≡ modem → decision_on setup known open_2 past ≡ opening_decision modem (number_for setup (own_open setup) past)
  opening_goes configured waits modem is =
      ap (λ (b : Bool). if b then Replies Own else opening_decision (state false past) (number_for setup (own_open setup) past)) (opening_is_shared configured waits)
      ∙ ap (λ (m : ModemState). opening_decision m (number_for setup (own_open setup) past)) is

  -- it finds the modem open
  pub open_is_heard : {joined configured opened : ℕ} {requests : List Request} {queue : List ℕ} → Calm (ready joined configured opened) requests queue past → 1 ≤ c → c ≤ configured → AllHaveRoom 200 past
      → hear_client setup known c open_2 past ≡ Judged c (message_count c past + 1) open_2 Ready ∷ past
  open_is_heard calm low high has =
      ap (λ (d : Decision). judge setup known c open_2 d past) (by_others open_2 (opening_passes_none c past) ∙ opening_goes ((calm.knows c).configured low high) (calm.knows c).waits IsReady calm.state_is)
      ∙ judged_alone open_2 Ready (lit≤ tt) has

  -- or the proxy asks it to open
  pub first_is_heard : {joined : ℕ} (number : ℕ) → Calm (shut joined 1) [] [] past → 1 ≤ c → c ≤ 1 → number_for setup (own_open setup) past ≡ Some number
      → hear_client setup known c open_2 past ≡ forward setup 0 (own_open setup) number (Judged c (message_count c past + 1) open_2 Waits ∷ past)
  first_is_heard number calm low high found =
      ap (λ (d : Decision). judge setup known c open_2 d past) (by_others open_2 (opening_passes_none c past) ∙ opening_goes ((calm.knows c).configured low high) (calm.knows c).waits IsShut calm.state_is)
      ∙ ap (λ (o : Option ℕ). judge setup known c open_2 (forwards_under o) past) found

  -- ---- a query ----

  module _ (choice own : ℕ) where
    abbrev m : List ℕ
    m = query (cid_for choice) own

    -- as the modem is asked
    abbrev asked : List ℕ
    asked = query (cid_for choice) (number_of m)

    joins : known.begun ≡ assembling.fresh → joining_behind 65536 known.begun m ≡ Whole (body (cid_for choice))
    joins begun = ap (λ (a : Assembled). joining_behind 65536 a m) begun ∙ (query_is choice).whole own

    query_is_shared : known.begun ≡ assembling.fresh → known.opened ≡ true → view_decides setup known m ≡ false
    query_is_shared begun is_open =
        let is = query_is choice in
        ap (λ (b : Bool). not (b && may_open known) && not (is_command_fragment m && is_for_modem known (joining_behind 65536 known.begun m))) (is.no_open own)
        ∙ ap (λ (b : Bool). not (b && is_for_modem known (joining_behind 65536 known.begun m))) (is.fragment own)
        ∙ ap (λ (j : Joining). not (is_for_modem known j)) (joins begun)
        ∙ ap not (is.shared known is_open)

    pub command_is : known.begun ≡ assembling.fresh → command_message setup known m ≡ asked
    command_is begun = ap (λ (j : Joining). unsplit 3 (number_of m) (whole_body j)) (joins begun)

    -- as many of the client's commands wait as may
    abbrev share : Bool
    share = has_share setup.limits.share c the_space past

    pub passes_where : known.begun ≡ assembling.fresh → known.opened ≡ true → passes_share setup c m past ≡ share
    passes_where begun is_open =
        ap (λ (b : Bool). not b && not (is_kind Open m) && share) (query_is_shared begun is_open) ∙ ap (λ (b : Bool). not b && share) ((query_is choice).no_request_to_open own)

    pub query_goes : known.begun ≡ assembling.fresh → known.opened ≡ true → share ≡ false → (number : ℕ) → number_for setup asked past ≡ Some number → decision_for setup known c m past ≡ Forwards number
    query_goes begun is_open free number found =
        by_others m (passes_where begun is_open ∙ free)
        ∙ ap (λ (b : Bool). if b then Replies Own else shared_decision setup known m past) (query_is_shared begun is_open)
        ∙ ap (λ (b : Bool). if b then opening_decision (state false past) (number_for setup (own_open setup) past) else forwards_under (number_for setup (command_message setup known m) past)) ((query_is choice).no_request_to_open own)
        ∙ ap (λ (command : List ℕ). forwards_under (number_for setup command past)) (command_is begun)
        ∙ ap forwards_under found

    -- the request that was added, the last that is in use; its bytes alone wait for the modem
    pub record IsForwarded (joined configured opened : ℕ) (requests : List Request) (after : List Fact) : Type 0 where
      pub r : Request
      pub command : is_own_open r ≡ false
      pub number : r.number < 2 ^ 32
      pub wire_is : wire setup r ≡ query (cid_for choice) r.number
      pub serial : r.serial ≡ forward_count past + 1
      pub sender : r.conn ≡ c
      pub place : r.place ≡ message_count c past + 1
      pub deadline : r.deadline ≡ deadline_of (now past) time_limit
      pub facts : after ≡ Forwarded r ∷ Judged c (message_count c past + 1) m Forward ∷ past
      pub calm : Calm (ready joined configured opened) (requests ++ r ∷ []) (wire setup r) after

    whole : IsWhole m
    whole = let q = query_is choice in record { fragment = q.fragment own; no_open = q.no_open own; closed = q.closed own }

    refused_text : IsSteady known → length (text_as setup known (Said m Share)) ≤ 200
    refused_text is =
        let same : text_as setup known (Said m Share) ≡ done_to known (number_of m) (body (cid_for choice)) SHARE_PASSED [] = ap (λ (j : Joining). done_to known (number_of m) (whole_body j) SHARE_PASSED []) (joins is.begun) in
        subst (λ (l : List ℕ). length l ≤ 200) (sym same)
        (subst (λ (n : ℕ). length (split (kind_number CommandDone) (number_of m) n (done_text (record { uuid = uuid_of (body (cid_for choice)); cid = cid_of (body (cid_for choice)); status = SHARE_PASSED }) [])) ≤ 200) (sym is.fragment) ((query_is choice).refused (number_of m)))

    -- it passes its client's share
    pub record IsRefused (joined configured opened : ℕ) (requests : List Request) (after : List Fact) : Type 0 where
      pub facts : after ≡ Judged c (message_count c past + 1) m Share ∷ past
      pub calm : Calm (ready joined configured opened) requests [] after

    pub query_is_refused : {joined configured opened : ℕ} {requests : List Request} → Calm (ready joined configured opened) requests [] past → 1 ≤ c → c ≤ opened → share ≡ true → AllHaveRoom 200 past
        → IsRefused joined configured opened requests (hear_client setup known c m past)
    query_is_refused {joined} {configured} {opened} {requests} calm low high full has =
        let is : IsSteady known = steady c past calm.harmless in
        let passes : passes_share setup c m past ≡ true = passes_where is.begun ((calm.knows c).opened low high) ∙ full in
        let heard : hear_client setup known c m past ≡ Judged c (message_count c past + 1) m Share ∷ past =
        ap (λ (b : Bool). judge setup known c m (if b then Replies Share else decision_on setup known m past) past) passes ∙ judged_alone m Share (refused_text is) has in
        record { facts = heard; calm = subst (Calm (ready joined configured opened) requests []) (sym heard) (judged calm c (message_count c past + 1) m Share high (whole, passes) (λ known. (refl, refl, refl))) }

    pub query_is_forwarded : {joined configured opened : ℕ} {requests : List Request} → Calm (ready joined configured opened) requests [] past → 1 ≤ c → c ≤ opened → length requests ≤ 200 → share ≡ false
        → IsForwarded joined configured opened requests (hear_client setup known c m past)
    unfolding message_count forward_count now
    query_is_forwarded {joined} {configured} {opened} {requests} calm low high few free =
        let is : IsSteady known = steady c past calm.harmless in
        let q = query_is choice in
        let given : HasNumber asked past = has_number asked calm few (subst (λ (l : List ℕ). length l ≤ 200) (sym (q.wire 0 (number_of m))) (q.short 0)) in
        let asks : List Fact = Judged c (message_count c past + 1) m Forward ∷ past in
        let added : Request = request_of setup c asked given.number asks in
        let heard : hear_client setup known c m past ≡ Forwarded added ∷ asks =
        ap (λ (d : Decision). judge setup known c m d past) (query_goes is.begun ((calm.knows c).opened low high) free given.number given.found)
        ∙ ap (λ (b : Bool). forward_for b setup known c m given.number past) (q.no_request_to_open own)
        ∙ ap (λ (command : List ℕ). forward setup c command given.number asks) (command_is is.begun) in
        record {
          r = added;
          command = q.no_request_to_open (number_of m);
          number = given.below;
          wire_is = q.wire given.number (number_of m);
          serial = refl;
          sender = refl;
          place = ap (λ (b : Bool). if b then message_count c past + 1 else message_count c past) (eq-eqb c c refl);
          deadline = refl;
          facts = heard;
          calm = subst (Calm (ready joined configured opened) (requests ++ added ∷ []) (wire setup added)) (sym heard) (forwarded (judged calm c (message_count c past + 1) m Forward high (whole, passes_where is.begun ((calm.knows c).opened low high) ∙ free) (λ known. (refl, refl, refl))) added (q.no_request_to_open (number_of m)));
        }
