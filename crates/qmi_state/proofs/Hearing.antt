-- What a message of a client makes of a core.
use Rattle.std.proofs.Common.{◌≡◌, ℕ, ◌+◌, Bool, true, false, ◌==◌, nat_le, List, ◌∷◌, ◌++◌, length, inl, refl, ap, sym, ◌∙◌, subst, arith, Option, Some, None, if◌then◌else◌}
use Rattle.std.proofs.lemmas.Bool.{eqb-true}
use Rattle.connections.specs.Table.{Connection, Table}
use Rattle.qmux_frame.specs.Head.{is_control}
use Rattle.qmux_frame.specs.Reply.{with_number}
use Rattle.proxy_history.specs.Facts.{Fact, Request, Verdict, Own, Share, Forward, Judged, Forwarded, Granted}
use Rattle.proxy_history.specs.Decision.{Decision, Replies, Forwards}
use Rattle.proxy_history.specs.Connections.{present, dropped, contains, message_count}
use Rattle.proxy_history.specs.Requests.{in_use, pending, of_client, has_share, last_number, number_after, numbers_in_use}
use Rattle.proxy_history.specs.ClientIds.{held, holder, holder_in, is_other}
use Rattle.proxy_history.specs.Sound.{IsFreeFor}
use Rattle.qmi_proxy.proofs.Verdicts.{used_id_is_free, can_go}
use Rattle.proxy_history.specs.Modem.{now, is_away, to_modem, modem_taken_count, modem_queue}
use Rattle.proxy_history.specs.View.{Said, view, said_count}
use Rattle.proxy_history.specs.Noting.{end_overfull}
use Rattle.proxy_history.proofs.Sound.{party_from_present}
use Rattle.proxy_state.specs.Stands.{Streams, connection_of}
use Rattle.proxy_state.specs.Faithful.{settled_if, settled}
use Rattle.proxy_state.proofs.Changed.{changed_found, changed_same}
use Rattle.proxy_state.proofs.Keeping.{found_there}
use Rattle.proxy_state.proofs.Replying as replying
use Rattle.qmi_proxy.specs.Setup.{Setup}
use Rattle.qmi_proxy.specs.Spaces.{space_of, control_space, service_space, limit_of, top_of}
use Rattle.qmi_proxy.specs.Messages.{uses_id, used_service, used_cid}
use Rattle.qmi_proxy.specs.OwnReplies.{step, is_open, view_decides}
use Rattle.qmi_proxy.specs.Text.{view_of}
use Rattle.qmi_proxy.specs.Clients.{wire, number_for, holder_for, has_room, deadline_of, shared_decision_of, decision_on, request_of, grant_if, forward, judge}
use Rattle.qmi_proxy.specs.Clients as clients
use Rattle.qmi_proxy.specs.History.{qmi_protocol}
use Rattle.number_space.specs.Table.{next_number}
use Rattle.qmi_proxy.specs.Regular.{IsPlaced, Regular}
use Rattle.qmi_state.specs.declared.client.Client.{Client}
use Rattle.proxy_state.specs.Requests.{requests_in_use}
use Rattle.qmi_state.specs.Asked.{asked_of}
use Rattle.qmi_state.specs.Traffic.{Traffic, row_of, traffic_of, of_control, with_numbers, gives, number_at, granted_if, kept_if, grants_id, row_for, forwards, ids, kept_ids}
use Rattle.qmi_state.specs.Core.{ModemSide, QmiState, side_of, kept_of}
use Rattle.qmi_state.specs.Transitions.{with_traffic, reply_as, holder_at, share_of, decision_of, replied, act_on, hear_client, qmi_handlers}
use Rattle.proxy_state.proofs.InUse.{numbers_used}
use Rattle.proxy_state.proofs.Shares.{share_counted}
use Rattle.number_space.specs.Table.{pending_of}
use Rattle.qmi_proxy.specs.Limits.{share_limit}
use Rattle.qmi_state.proofs.Ids.{holder_is}
use Rattle.qmi_state.proofs.ClientStates.{ClientState, client_state_of, judged_own, judged_other, forwarded_same}
use Rattle.qmi_state.proofs.TrafficSteps.{traffic_forwarded}
use Rattle.qmi_proxy.proofs.Walk.{newest}
use Rattle.qmi_proxy.proofs.Regulars.{regular_more}
use Rattle.qmi_state.proofs.Keeping as keeping
use Rattle.qmi_state.proofs.Keeping.{follows_connections, traffic_is, keeps_quiet, end_if}

-- ---- the number that it would get ----

pub number_is : (m : List ℕ) (past : List Fact) → number_at m (traffic_of past) ≡ number_for m past
number_is m past =
    elim (is_control m) as (λ b. next_number (of_control b (traffic_of past)) ≡ (let space = if b then control_space else service_space in number_after (limit_of space) (top_of space) (last_number space past) (numbers_in_use space past))) [
      | true ↦ ap (number_after 255 255 (last_number control_space past)) (numbers_used asked_of control_space past)
      | false ↦ ap (number_after 1024 65535 (last_number service_space past)) (numbers_used asked_of service_space past)
    ]

-- ---- what is decided ----

holder_same : (m : List ℕ) (past : List Fact) → holder_for m past ≡ holder_at m (traffic_of past)
holder_same m past = elim (uses_id m) as (λ b. (if b then holder (used_service m) (used_cid m) past else None) ≡ (if b then holder_in (used_service m) (used_cid m) (ids past) else None)) [ true ↦ sym (holder_is (used_service m) (used_cid m) past) | false ↦ refl ]

share_same : (c : ℕ) (m : List ℕ) (past : List Fact) → has_share share_limit c (space_of m) past ≡ share_of c m (traffic_of past)
share_same c m past =
    elim (is_control m) as (λ b. nat_le share_limit (length (of_client c (if b then control_space else service_space) (pending past))) ≡ nat_le share_limit (pending_of c (of_control b (traffic_of past)))) [
      | true ↦ ap (nat_le share_limit) (sym (share_counted asked_of c control_space past))
      | false ↦ ap (nat_le share_limit) (sym (share_counted asked_of c service_space past))
    ]

decision_is : (s : Setup) (c : ℕ) (m : List ℕ) (past : List Fact) → decision_on s c m past ≡ decision_of (is_away s.starts_away past) c m (is_open s.device (view_of c past)) (traffic_of past)
decision_is s c m past =
    let opened : Bool = is_open s.device (view_of c past) in
    let away : Bool = is_away s.starts_away past in
    let room : Bool = has_room (length (modem_queue wire past)) m in
    let decides : Bool → Option ℕ → Option ℕ → Decision = λ passed holder number. if view_decides opened m then Replies Own else if passed then Replies Share else shared_decision_of c holder away room number in
    ap (λ (passed : Bool). decides passed (holder_for m past) (number_for m past)) (share_same c m past)
    ∙ ap (λ (o : Option ℕ). decides (share_of c m (traffic_of past)) o (number_for m past)) (holder_same m past)
    ∙ ap (λ (o : Option ℕ). decides (share_of c m (traffic_of past)) (holder_at m (traffic_of past)) o) (sym (number_is m past))

module _ (s : Setup) (streams : Streams) where
  abbrev Kept : List Fact → QmiState → Type 0
  Kept past x = keeping.Kept s streams past x

  module _ (c : ℕ) (m : List ℕ) (past : List Fact) (x : QmiState) (there : contains c (present past) ≡ true) (K : Kept past x) where
    abbrev place : ℕ
    place = message_count c past + 1

    -- ---- what is forwarded ----

    abbrev pub after : List Fact
    after = Judged c place m Forward ∷ past

    kept_judged : Kept after x
    unfolding present dropped requests_in_use now is_away last_number ids kept_ids to_modem modem_taken_count
    kept_judged =
        keeps_quiet s streams after past x x.beside.traffic
        (λ d. same d) refl refl refl refl (traffic_is s streams past x K) (regular_more (Judged c place m Forward) past there tt tt K.fine) K
      where
        same : (d : ℕ) → client_state_of s.device after d ≡ client_state_of s.device past d
        same d =
            let step : (b : Bool) → (c == d) ≡ b → client_state_of s.device after d ≡ client_state_of s.device past d =
            λ b. elim b as (λ b. (c == d) ≡ b → client_state_of s.device after d ≡ client_state_of s.device past d) [
              | true ↦ λ e. subst (λ (n : ℕ). client_state_of s.device after n ≡ client_state_of s.device past n) (eqb-true c d e) (judged_own s.device past c place m Forward ∙ forwarded_same s.device past c m)
              | false ↦ λ e. judged_other s.device past c place d m Forward e
            ]
            in step (c == d) refl

    module _ (n : ℕ) (numbered : number_for m past ≡ Some n) where
      abbrev pub r : Request
      r = request_of s c m n after

      abbrev pub sent : List Fact
      sent = Forwarded r ∷ after

      placed : IsPlaced r
      placed = (refl, omega arith)

      regular_sent : Regular sent
      unfolding present in_use last_number
      regular_sent =
          let own = newest s c m n past there in
          let at : r.place ≡ said_count (view_of c after) = own.place in
          regular_more (Forwarded r) after (record { serial = refl; sender = party_from_present c after there; number = numbered }) (placed, inl (own.sender, omega arith, own.message)) tt kept_judged.fine

      traffic_sent : record (with_numbers (is_control m) (gives (row_of (record { request = r; waits = true })) (of_control (is_control m) x.beside.traffic)) x.beside.traffic) { waiting = x.beside.traffic.waiting ++ with_number n m } ≡ traffic_of sent
      traffic_sent =
          ap (λ (d : Traffic). let e : Traffic = record (with_numbers (is_control m) (gives (row_of (record { request = r; waits = true })) (of_control (is_control m) d)) d) { waiting = d.waiting ++ with_number n m } in e) (traffic_is s streams after x kept_judged)
          ∙ sym (traffic_forwarded r refl after kept_judged.fine.was_taken)

      kept_sent : Kept sent (with_traffic (record (with_numbers (is_control m) (gives (row_of (record { request = r; waits = true })) (of_control (is_control m) x.beside.traffic)) x.beside.traffic) { waiting = x.beside.traffic.waiting ++ with_number n m }) x)
      unfolding present dropped view now is_away
      kept_sent = keeps_quiet s streams sent after x _ (λ d. refl) refl refl refl refl traffic_sent regular_sent kept_judged

      kept_granted_if : (b : Bool) (y : QmiState) → (b ≡ true → IsFreeFor c (used_service m) (used_cid m) past) → Kept sent y → Kept (grant_if b c m sent) (with_traffic (record y.beside.traffic { held = granted_if b c m y.beside.traffic.held; kept = kept_if b m y.beside.traffic.kept }) y)
      unfolding present dropped view requests_in_use now is_away last_number ids kept_ids held to_modem modem_taken_count
      kept_granted_if true y free L =
          keeps_quiet s streams (Granted c (used_service m) (used_cid m) ∷ sent) sent y _ (λ d. refl) refl refl refl refl
          (ap (grants_id c (used_service m) (used_cid m)) (traffic_is s streams sent y L))
          (regular_more (Granted c (used_service m) (used_cid m)) sent (party_from_present c sent there, free refl) tt tt L.fine) L
      kept_granted_if false y free L = L

      forwards_is : (deadline : ℕ) → deadline ≡ r.deadline
          → record (with_numbers (is_control m) (gives (row_of (record { request = r; waits = true })) (of_control (is_control m) x.beside.traffic)) x.beside.traffic) { waiting = x.beside.traffic.waiting ++ with_number n m; held = granted_if (uses_id m) c m x.beside.traffic.held; kept = kept_if (uses_id m) m x.beside.traffic.kept } ≡ forwards deadline c m n x.beside.traffic
      forwards_is deadline same =
          elim (is_control m) as (λ b. (let e : Traffic = record (with_numbers b (gives (row_for r.deadline c m n) (of_control b x.beside.traffic)) x.beside.traffic) { waiting = x.beside.traffic.waiting ++ with_number n m; held = granted_if (uses_id m) c m x.beside.traffic.held; kept = kept_if (uses_id m) m x.beside.traffic.kept } in e)
          ≡ record {
            control = if b then gives (row_for r.deadline c m n) x.beside.traffic.control else x.beside.traffic.control;
            services = if b then x.beside.traffic.services else gives (row_for r.deadline c m n) x.beside.traffic.services;
            held = granted_if (uses_id m) c m x.beside.traffic.held;
            kept = kept_if (uses_id m) m x.beside.traffic.kept;
            waiting = x.beside.traffic.waiting ++ with_number n m;
          }) [ true ↦ refl | false ↦ refl ]
          ∙ ap (λ (t : ℕ). forwards t c m n x.beside.traffic) (sym same)

      pub kept_forwarded : (deadline : ℕ) → deadline ≡ r.deadline → is_other c (holder_for m past) ≡ false → Kept (grant_if (uses_id m) c m sent) (with_traffic (forwards deadline c m n x.beside.traffic) x)
      kept_forwarded deadline same free =
          subst (λ (d : Traffic). Kept (grant_if (uses_id m) c m sent) (with_traffic d x)) (forwards_is deadline same)
          (kept_granted_if (uses_id m) _ (used_id_is_free c m past free) kept_sent)

    -- ---- what is replied to ----

    abbrev was : ClientState
    was = client_state_of s.device past c

    abbrev it : Connection Client
    it = connection_of (qmi_protocol s) (kept_of s) streams.rests past c

    -- what is heard leaves the client's outbox as it is
    forwarded_is : (side : ModemSide) → settled_if qmi_handlers true c (record { client = it.client; outbox = it.outbox; beside = side; has_room = true }) x ≡ record x { beside = side }
    forwarded_is side =
        ap (λ (l : List (Connection Client)). let y : QmiState = record { table = record x.table { present = l }; beside = side } in y)
        (changed_found c (λ l. record l { client = it.client; outbox = it.outbox }) (λ l. l) x.table.present it (found_there (qmi_protocol s) (kept_of s) streams past x c K.holds there) refl ∙ changed_same c x.table.present)

    module _ (verdict : Verdict) where
      abbrev facts : List Fact
      facts = Judged c place m verdict ∷ past

      abbrev reply : List ℕ
      reply = reply_as s.device was.client.opened m verdict

      replied_is : Kept (end_if s streams c facts) (settled qmi_handlers c (replied reply (step s.device was.client.opened (Said m verdict)) it.client it.outbox x.beside) x)
      unfolding present dropped now is_away requests_in_use last_number ids kept_ids to_modem modem_taken_count connection_of
      replied_is =
          replying.keeps_replied (qmi_protocol s) (kept_of s) qmi_handlers Regular (follows_connections s) streams facts past x c reply
          (λ found. record { opened = if found then step s.device was.client.opened (Said m verdict) else was.client.opened }) x.beside
          (judged_own s.device past c place m verdict) (λ d differs. judged_other s.device past c place d m verdict differs) refl refl K.holds.beside
          (regular_more (Judged c place m verdict) past there tt tt K.fine) there K

  -- ---- whatever is decided ----

  module _ (c : ℕ) (m : List ℕ) (past : List Fact) (table : Table Client) (there : contains c (present past) ≡ true) (K : Kept past (record { table = table; beside = side_of s past })) where
    abbrev x : QmiState
    x = record { table = table; beside = side_of s past }

    abbrev one : Connection Client
    one = connection_of (qmi_protocol s) (kept_of s) streams.rests past c

    decided : (decision : Decision) → decision_on s c m past ≡ decision → Kept (judge s c m decision past) (settled qmi_handlers c (act_on c m decision one.client one.outbox (side_of s past)) x)
    unfolding end_overfull connection_of now
    decided (Replies verdict) e = replied_is c m past x there K verdict
    decided (Forwards n) e =
        let can = can_go s (is_open s.device (view_of c past)) c m past n e in
        subst (Kept (forward s c m n (Judged c (message_count c past + 1) m Forward ∷ past))) (sym (forwarded_is c m past x there K (record (side_of s past) { traffic = forwards (deadline_of (now past) s.time_limit) c m n (traffic_of past) })))
        (kept_forwarded c m past x there K n can.number (deadline_of (now past) s.time_limit) refl can.free)

    heard_here : Kept (clients.hear_client s c m past) (settled qmi_handlers c (hear_client c m one.client one.outbox (side_of s past)) x)
    unfolding connection_of
    heard_here =
        subst (λ (decision : Decision). Kept (clients.hear_client s c m past) (settled qmi_handlers c (act_on c m decision one.client one.outbox (side_of s past)) x)) (decision_is s c m past) (decided (decision_on s c m past) refl)

  pub keeps_heard : (c : ℕ) (m : List ℕ) (past : List Fact) (x : QmiState) → contains c (present past) ≡ true → Kept past x
      → (let l : Connection Client = connection_of (qmi_protocol s) (kept_of s) streams.rests past c in Kept (clients.hear_client s c m past) (settled qmi_handlers c (hear_client c m l.client l.outbox x.beside) x))
  keeps_heard c m past x there K =
      let l : Connection Client = connection_of (qmi_protocol s) (kept_of s) streams.rests past c in
      subst (λ (side : ModemSide). let y : QmiState = record { table = x.table; beside = side } in Kept (clients.hear_client s c m past) (settled qmi_handlers c (hear_client c m l.client l.outbox side) y)) (sym K.holds.beside)
      (heard_here c m past x.table there (subst (λ (side : ModemSide). Kept past (record { table = x.table; beside = side })) K.holds.beside K))
