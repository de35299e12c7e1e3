-- What a response of the modem makes of a core.
use Rattle.std.proofs.Common.{◌≡◌, ℕ, ◌≤◌, Bool, true, false, ◌&&◌, ◌==◌, List, ◌∷◌, length, map, refl, ap, sym, ◌∙◌, subst, ⊎_elim, Contains, Option, Some, None, if◌then◌else◌}
use Rattle.std.proofs.lemmas.Bool.{eqb-true, eq-eqb}
use Rattle.std.proofs.lemmas.List.Elements.{All-contains}
use Rattle.qmux_frame.specs.Head.{service_of, is_control, number_of}
use Rattle.qmux_frame.specs.Reply.{result_reply, with_number}
use Rattle.proxy_history.specs.Facts.{Fact, Request, Answered, IdHeld, Late, Stray, Granted, Freed}
use Rattle.proxy_history.specs.Connections.{present, dropped}
use Rattle.proxy_history.specs.Requests.{in_use, pending, last_number}
use Rattle.proxy_history.specs.ClientIds.{Grant, KeptId, holder_in}
use Rattle.proxy_history.specs.Modem.{now, is_away, to_modem, modem_taken_count}
use Rattle.proxy_history.specs.Noting.{end_overfull}
use Rattle.proxy_history.specs.View.{view}
use Rattle.proxy_history.proofs.SoundLaws.{waiting_are_parties}
use Rattle.proxy_history.specs.Sound.{IsParty, IsFreeFor}
use Rattle.qmi_proxy.specs.Setup.{Setup}
use Rattle.qmi_proxy.specs.Limits.{qmi_limits}
use Rattle.qmi_proxy.specs.Spaces.{control_space, service_space, space_of}
use Rattle.qmi_proxy.specs.Errors.{client_ids_exhausted}
use Rattle.qmi_proxy.specs.Messages.{value_of, byte_of}
use Rattle.qmi_proxy.specs.FromModem.{is_answered_by, IdChange, NoChange, Grants, Collides, Frees, id_change, holder_of_brought, answer, answer_to, answer_or_late, respond, first_answered_by}
use Rattle.qmi_state.specs.Asked.{asked_of}
use Rattle.qmi_proxy.specs.Text.{note}
use Rattle.qmi_proxy.specs.Releases.{freed_if}
use Rattle.qmi_proxy.specs.Regular.{IsSent, Regular}
use Rattle.proxy_state.specs.Requests.{RequestInUse, requests_in_use}
use Rattle.qmi_state.specs.Traffic.{Row, Numbers, Traffic, row_of, rows_of, traffic_of, of_control, with_numbers, row_numbered, frees, grants_id, frees_id, ids, kept_ids}
use Rattle.proxy_state.specs.Stands.{Streams}
use Rattle.qmi_state.specs.Core.{QmiState}
use Rattle.qmi_state.specs.Transitions.{with_traffic, tell, change_by, holder_brought, frees_own, answers, answers_sender, answers_if, fits, responds_if, responds_to, responds}
use Rattle.proxy_state.proofs.InUse.{request_in, in_use_is, request_in_use}
use Rattle.proxy_state.proofs.Apart.{request_waits}
use Rattle.qmi_state.proofs.Apart.{all_apart}
use Rattle.proxy_state.proofs.Matching.{Search, IsFound, IsNone, Found, search_for}
use Rattle.qmi_state.proofs.Matching.{are_different, pending_flag, fits_request, all_matched, answered_by_number}
use Rattle.qmi_state.proofs.Ids.{holder_is}
use Rattle.qmi_state.proofs.Heads.{service_kept, client_kept, number_kept, reply_kept, change_is}
use Rattle.qmi_state.proofs.ClientStates.{answered_own, answered_other, held_own, held_other}
use Rattle.qmi_state.proofs.TrafficSteps.{traffic_freed}
use Rattle.qmi_state.proofs.OwnRequests.{kept_given_back, kept_own_ended}
use Rattle.qmi_proxy.proofs.Answered.{change_free}
use Rattle.qmi_proxy.proofs.Regulars.{regular_more, asked_of_pending}
use Rattle.qmi_state.proofs.Keeping as keeping
use Rattle.qmi_state.proofs.Keeping.{traffic_is, keeps_quiet, keeps_told, end_if}

pub ask_waits : (past : List Fact) (a : RequestInUse) → Regular past → Contains (requests_in_use past) a → a.waits ≡ true → Contains (pending past) a.request
ask_waits past a R at waiting = request_waits past a (are_different past R) at qmi_limits R.sound waiting

pub numbers_at : (traffic : Traffic) (past : List Fact) (m : List ℕ) → traffic ≡ traffic_of past → (of_control (is_control m) traffic).rows ≡ rows_of (space_of m) (requests_in_use past)
numbers_at traffic past m is =
    ap (λ (d : Traffic). (of_control (is_control m) d).rows) is
    ∙ elim (is_control m) as (λ b. (of_control b (traffic_of past)).rows ≡ rows_of (if b then control_space else service_space) (requests_in_use past)) [ true ↦ refl | false ↦ refl ]

-- the other parts of the traffic don't matter
of_control-held : (control : Bool) (traffic : Traffic) (held : List Grant) (kept : List KeptId) → of_control control (record traffic { held = held; kept = kept }) ≡ of_control control traffic
of_control-held true traffic held kept = refl
of_control-held false traffic held kept = refl

abbrev freed_traffic : Bool → ℕ → Traffic → Traffic
freed_traffic control number traffic = with_numbers control (frees number (of_control control traffic)) traffic

freed-held : (control : Bool) (number : ℕ) (traffic : Traffic) (held : List Grant) (kept : List KeptId) → freed_traffic control number (record traffic { held = held; kept = kept }) ≡ record (freed_traffic control number traffic) { held = held; kept = kept }
freed-held control number traffic held kept = ap (λ (n : Numbers). let d : Traffic = record (with_numbers control (frees number n) traffic) { held = held; kept = kept } in d) (of_control-held control traffic held kept)

granted-freed : (control : Bool) (number c service cid : ℕ) (traffic : Traffic) → freed_traffic control number (grants_id c service cid traffic) ≡ grants_id c service cid (freed_traffic control number traffic)
granted-freed control number c service cid traffic = freed-held control number traffic (grants_id c service cid traffic).held (grants_id c service cid traffic).kept

given_back-freed : (control : Bool) (number c service cid : ℕ) (traffic : Traffic) → freed_traffic control number (frees_id c service cid traffic) ≡ frees_id c service cid (freed_traffic control number traffic)
given_back-freed control number c service cid traffic = freed-held control number traffic (frees_id c service cid traffic).held traffic.kept

module _ (s : Setup) (streams : Streams) where
  abbrev Kept : List Fact → QmiState → Type 0
  Kept past x = keeping.Kept s streams past x

  module _ (past : List Fact) (x : QmiState) (r : Request) (at : Contains (pending past) r) (used : Contains (in_use past) r) (placed : r.space ≡ space_of r.message) (K : Kept past x) where
    abbrev freed : Traffic
    freed = freed_traffic (is_control r.message) r.number x.beside.traffic

    freed_now : freed ≡ freed_traffic (is_control r.message) r.number (traffic_of past)
    freed_now = ap (freed_traffic (is_control r.message) r.number) (traffic_is s streams past x K)

    answered_untold : (m : List ℕ) (waits : Bool) → r.conn ≡ 0 → Kept (freed_if true r (note s.device (Answered r m) past)) (frees_own (row_of (record { request = r; waits = waits })) (with_traffic freed x))
    unfolding requests_in_use now is_away present dropped last_number ids kept_ids to_modem modem_taken_count
    answered_untold m waits own =
        kept_own_ended s streams past x r own (Answered r m) freed refl (λ d differs. answered_other s.device past r m d differs) refl refl refl refl
        (freed_now ∙ sym (traffic_freed r placed (Answered r m ∷ past) past (all_apart past r K.fine.sound used) (λ space. refl) refl refl refl refl))
        (regular_more (Answered r m) past at tt tt K.fine) K waits

    told_answer : (m : List ℕ) → 12 ≤ length m → IsSent past r
        → Kept (end_if s streams r.conn (Answered r m ∷ past)) (tell r.conn (with_number (number_of r.message) m) (with_traffic (freed_traffic (is_control r.message) r.number x.beside.traffic) x))
    unfolding requests_in_use now is_away present dropped last_number ids kept_ids to_modem modem_taken_count
    told_answer m long sent =
        keeps_told s streams (Answered r m ∷ past) past x r.conn (with_number (number_of r.message) m) (freed_traffic (is_control r.message) r.number x.beside.traffic)
        (answered_own s.device past r m long sent) (λ d differs. answered_other s.device past r m d differs) refl refl refl refl
        (freed_now ∙ sym (traffic_freed r placed (Answered r m ∷ past) past (all_apart past r K.fine.sound used) (λ space. refl) refl refl refl refl))
        (regular_more (Answered r m) past at tt tt K.fine) sent.0 K

    told_held : IsSent past r → Kept (end_if s streams r.conn (IdHeld r ∷ past)) (tell r.conn (result_reply r.message client_ids_exhausted) (with_traffic (freed_traffic (is_control r.message) r.number x.beside.traffic) x))
    unfolding requests_in_use now is_away present dropped last_number ids kept_ids to_modem modem_taken_count
    told_held sent =
        keeps_told s streams (IdHeld r ∷ past) past x r.conn (result_reply r.message client_ids_exhausted) (freed_traffic (is_control r.message) r.number x.beside.traffic)
        (held_own s.device past r sent) (λ d differs. held_other s.device past r d differs) refl refl refl refl
        (freed_now ∙ sym (traffic_freed r placed (IdHeld r ∷ past) past (all_apart past r K.fine.sound used) (λ space. refl) refl refl refl refl))
        (regular_more (IdHeld r) past at tt tt K.fine) sent.0 K

  kept_late : (past : List Fact) (x : QmiState) (r : Request) → Contains (in_use past) r → r.space ≡ space_of r.message → Kept past x → Kept (Late r ∷ past) (with_traffic (freed_traffic (is_control r.message) r.number x.beside.traffic) x)
  unfolding requests_in_use now is_away present dropped last_number ids kept_ids to_modem modem_taken_count view
  kept_late past x r used placed K =
      keeps_quiet s streams (Late r ∷ past) past x (freed_traffic (is_control r.message) r.number x.beside.traffic) (λ d. refl) refl refl refl refl
      (ap (freed_traffic (is_control r.message) r.number) (traffic_is s streams past x K) ∙ sym (traffic_freed r placed (Late r ∷ past) past (all_apart past r K.fine.sound used) (λ space. refl) refl refl refl refl))
      (regular_more (Late r) past used tt tt K.fine) K

  pub kept_stray : (past : List Fact) (x : QmiState) → Kept past x → Kept (Stray ∷ past) x
  unfolding requests_in_use now is_away present dropped last_number ids kept_ids to_modem modem_taken_count view
  kept_stray past x K = keeps_quiet s streams (Stray ∷ past) past x x.beside.traffic (λ d. refl) refl refl refl refl (traffic_is s streams past x K) (regular_more Stray past tt tt tt K.fine) K

  kept_granted : (past : List Fact) (x : QmiState) (c service cid : ℕ) → IsParty c past → IsFreeFor c service cid past → Kept past x → Kept (Granted c service cid ∷ past) (with_traffic (grants_id c service cid x.beside.traffic) x)
  unfolding requests_in_use now is_away present dropped last_number ids kept_ids to_modem modem_taken_count view
  kept_granted past x c service cid party free K =
      keeps_quiet s streams (Granted c service cid ∷ past) past x (grants_id c service cid x.beside.traffic) (λ d. refl) refl refl refl refl
      (ap (grants_id c service cid) (traffic_is s streams past x K)) (regular_more (Granted c service cid) past (party, free) tt tt K.fine) K

  -- ---- an answer to a request that waits ----

  module _ (past : List Fact) (x : QmiState) (a : RequestInUse) (m : List ℕ) (long : 12 ≤ length m) (at : Contains (requests_in_use past) a) (waiting : a.waits ≡ true) (placed : a.request.space ≡ space_of a.request.message) (K : Kept past x) where
    abbrev r : Request
    r = a.request

    abbrev x' : QmiState
    x' = with_traffic (freed_traffic (is_control r.message) r.number x.beside.traffic) x

    numbered : number_of (row_of a).note.head ≡ number_of r.message
    unfolding asked_of
    numbered = number_kept r.message

    replied : result_reply (row_of a).note.head client_ids_exhausted ≡ result_reply r.message client_ids_exhausted
    unfolding asked_of
    replied = reply_kept r.message client_ids_exhausted

    is_at : Contains (pending past) r
    is_at = ask_waits past a K.fine at waiting

    answered_by : IsSent past r → (change : IdChange) → ((service cid : ℕ) → change ≡ Grants service cid → IsFreeFor r.conn service cid past) → Kept (answer s.device r m change past) (answers (row_of a) m change x')
    unfolding end_overfull pending in_use present view
    answered_by sent NoChange free =
        subst (λ (n : ℕ). Kept (end_if s streams r.conn (Answered r m ∷ past)) (tell r.conn (with_number n m) x')) (sym numbered) (told_answer past x r is_at (request_in_use past a at) placed K m long sent)
    answered_by sent (Grants service cid) free =
        let before : List Fact = Granted r.conn service cid ∷ past in
        let now_held : Traffic = grants_id r.conn service cid x.beside.traffic in
        let party : IsParty r.conn past = All-contains (λ (q : Request). IsParty q.conn past) (pending past) r (waiting_are_parties qmi_limits past K.fine.sound) is_at in
        subst (λ (n : ℕ). Kept (end_if s streams r.conn (Answered r m ∷ before)) (tell r.conn (with_number n m) (with_traffic (grants_id r.conn service cid x'.beside.traffic) x'))) (sym numbered)
        (subst (λ (d : Traffic). Kept (end_if s streams r.conn (Answered r m ∷ before)) (tell r.conn (with_number (number_of r.message) m) (with_traffic d x))) (granted-freed (is_control r.message) r.number r.conn service cid x.beside.traffic)
        (told_answer before (with_traffic now_held x) r is_at (request_in_use past a at) placed (kept_granted past x r.conn service cid party (free service cid refl) K) m long sent))
    answered_by sent Collides free =
        subst (λ (l : List ℕ). Kept (end_if s streams r.conn (IdHeld r ∷ past)) (tell r.conn l x')) (sym replied) (told_held past x r is_at (request_in_use past a at) placed K sent)
    answered_by sent (Frees service cid) free =
        let before : List Fact = Freed r.conn service cid ∷ past in
        let now_held : Traffic = frees_id r.conn service cid x.beside.traffic in
        subst (λ (n : ℕ). Kept (end_if s streams r.conn (Answered r m ∷ before)) (tell r.conn (with_number n m) (with_traffic (frees_id r.conn service cid x'.beside.traffic) x'))) (sym numbered)
        (subst (λ (d : Traffic). Kept (end_if s streams r.conn (Answered r m ∷ before)) (tell r.conn (with_number (number_of r.message) m) (with_traffic d x))) (given_back-freed (is_control r.message) r.number r.conn service cid x.beside.traffic)
        (told_answer before (with_traffic now_held x) r is_at (request_in_use past a at) placed (kept_given_back s streams past x r.conn service cid K) m long sent))

    change_here : change_by (row_of a).conn (row_of a).note m (holder_brought m x'.beside.traffic) ≡ id_change r.conn r.message m (holder_of_brought m past)
    change_here =
        change_is r.conn r.message m (holder_brought m x'.beside.traffic)
        ∙ ap (λ (d : Traffic). id_change r.conn r.message m (holder_in (byte_of 0 (value_of 0x01 m)) (byte_of 1 (value_of 0x01 m)) d.held)) (traffic_is s streams past x K)
        ∙ ap (id_change r.conn r.message m) (holder_is (byte_of 0 (value_of 0x01 m)) (byte_of 1 (value_of 0x01 m)) past)

    answered_now : IsSent past r → Kept (answer s.device r m (id_change r.conn r.message m (holder_of_brought m past)) past) (answers (row_of a) m (change_by (row_of a).conn (row_of a).note m (holder_brought m x'.beside.traffic)) x')
    answered_now sent =
        subst (λ (change : IdChange). Kept (answer s.device r m (id_change r.conn r.message m (holder_of_brought m past)) past) (answers (row_of a) m change x')) (sym change_here)
        (answered_by sent (id_change r.conn r.message m (holder_of_brought m past)) (λ service cid e. change_free r.conn r.message m past service cid e))

    -- whoever asked
    pub answered_to : (own : Bool) → (r.conn == 0) ≡ own → Kept (answer_to own s.device r m past) (answers_sender own (row_of a) m x')
    answered_to true is = answered_untold past x r is_at (request_in_use past a at) placed K m a.waits (eqb-true r.conn 0 is)
    answered_to false is =
        answered_now (⊎_elim (λ (sent : IsSent past r). sent) (λ (own : r.conn ≡ 0). absurd (let clash : (r.conn == 0) ≡ true = eq-eqb r.conn 0 own in cc)) (asked_of_pending past r K.fine is_at))

  -- ---- a response ----

  fits_is : (m : List ℕ) (a : RequestInUse) → fits m (row_of a) ≡ fits_request m a.request
  unfolding asked_of
  fits_is m a = rw (service_kept a.request.message, client_kept a.request.message) refl

  same_control : (m : List ℕ) (r : Request) → fits_request m r ≡ true → is_control r.message ≡ is_control m
  same_control m r e =
      let same : service_of r.message ≡ service_of m = eqb_left (service_of r.message) (service_of m) _ e in ap (λ (n : ℕ). n == 0) same
    where
      eqb_left : (a b : ℕ) (c : Bool) → (a == b && c) ≡ true → a ≡ b
      eqb_left a b c e =
          let step : (t : Bool) → (a == b) ≡ t → (t && c) ≡ true → a ≡ b =
          λ t. elim t as (λ t. (a == b) ≡ t → (t && c) ≡ true → a ≡ b) [ true ↦ λ is h. eqb-true a b is | false ↦ λ is h. absurd (cc) ]
          in step (a == b) refl e

  module _ (past : List Fact) (x : QmiState) (m : List ℕ) (long : 12 ≤ length m) (K : Kept past x) where
    abbrev Finds : RequestInUse → Type 0
    Finds a = Found asked_of (space_of m) (number_of m) (is_answered_by m) (requests_in_use past) a

    abbrev Responded : Option Request → Option Row → Type 0
    Responded found row = Kept (respond s.device found m past) (responds_to row m x)

    found_if : (a : RequestInUse) → Finds a → (fitting : Bool) → fits_request m a.request ≡ fitting → Kept (respond s.device (if fitting then Some a.request else None) m past) (responds_if fitting (row_of a) m x)
    found_if a F true e =
        let r : Request = a.request in
        let placed : r.space ≡ space_of r.message = F.space_is ∙ ap (λ (b : Bool). if b then control_space else service_space) (sym (same_control m r e)) in
        let control : is_control r.message ≡ is_control m = same_control m r e in
        let waiting_if : (w : Bool) → a.waits ≡ w → Kept (answer_or_late s.device w r m past) (answers_if w (row_of a) m (with_traffic (freed_traffic (is_control r.message) r.number x.beside.traffic) x)) =
        λ w. elim w as (λ w. a.waits ≡ w → Kept (answer_or_late s.device w r m past) (answers_if w (row_of a) m (with_traffic (freed_traffic (is_control r.message) r.number x.beside.traffic) x))) [
          | true ↦ λ is. answered_to past x a m long F.at is placed K (r.conn == 0) refl
          | false ↦ λ is. kept_late past x r (request_in_use past a F.at) placed K
        ]
        in
        subst (λ (b : Bool). Kept (respond s.device (Some r) m past) (answers_if a.waits (row_of a) m (with_traffic (freed_traffic b r.number x.beside.traffic) x))) control
        (subst (λ (w : Bool). Kept (answer_or_late s.device w r m past) (answers_if a.waits (row_of a) m (with_traffic (freed_traffic (is_control r.message) r.number x.beside.traffic) x))) (sym (pending_flag past a K.fine F.at))
        (waiting_if a.waits refl))
    found_if a F false e = kept_stray past x K

    abbrev found_row : Option Row
    found_row = row_numbered (number_of m) (rows_of (space_of m) (requests_in_use past))

    responded : Search asked_of (space_of m) (number_of m) (is_answered_by m) (requests_in_use past) → Responded (first_answered_by m (map request_in (requests_in_use past))) found_row
    responded (IsNone none) = subst (λ (o : Option Request). Responded o found_row) (sym none.answered) (subst (λ (o : Option Row). Responded None o) (sym none.row) (kept_stray past x K))
    responded (IsFound a F) =
        let fitting : Bool = fits_request m a.request in
        let numbered : (if is_answered_by m a.request then Some a.request else None) ≡ (if fitting then Some a.request else None) = ap (λ (t : Bool). if t then Some a.request else None) (answered_by_number m a.request F.number_is) in
        subst (λ (o : Option Request). Responded o found_row) (sym (F.answered ∙ numbered))
        (subst (λ (o : Option Row). Responded (if fitting then Some a.request else None) o) (sym F.row)
        (subst (λ (b : Bool). Kept (respond s.device (if fitting then Some a.request else None) m past) (responds_if b (row_of a) m x)) (sym (fits_is m a)) (found_if a F fitting refl)))

    pub keeps_responds : Kept (respond s.device (first_answered_by m (in_use past)) m past) (responds m x)
    keeps_responds =
        subst (λ (l : List Request). Kept (respond s.device (first_answered_by m l) m past) (responds m x)) (sym (in_use_is past))
        (subst (λ (l : List Row). Kept (respond s.device (first_answered_by m (map request_in (requests_in_use past))) m past) (responds_to (row_numbered (number_of m) l) m x)) (sym (numbers_at x.beside.traffic past m (traffic_is s streams past x K)))
        (responded (search_for asked_of (space_of m) (number_of m) (is_answered_by m) (requests_in_use past) (are_different past K.fine) (all_matched m past K.fine))))
