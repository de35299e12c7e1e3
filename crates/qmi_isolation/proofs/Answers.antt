-- Who gets the answers and the indications of the modem.
use Rattle.std.proofs.Common.{◌≡◌, ◌≢◌, ℕ, ◌≤◌, Bool, true, false, not, cond, ◌&&◌, ◌==◌, if◌then◌else◌, List, [], ◌∷◌, length, map, filter, arith, ⊎_elim, refl, ap, sym, ◌∙◌, subst, All, Contains, Option, Some, None}
use Rattle.std.proofs.lemmas.Bool.Decides.{nat_tests}
use Rattle.std.proofs.lemmas.Bool.{eqb-true, eq-eqb, and_parts, false_from_ne_true}
use Rattle.std.proofs.lemmas.List.Elements.{All-contains}
use Rattle.qmux_frame.specs.Head.{service_of, is_control, cid_of, number_of}
use Rattle.qmux_frame.specs.declared.kind.MessageKind.TheVariants as kind
use Rattle.qmux_frame.specs.Kind.{framed_kind}
use Rattle.qmux_frame.specs.Control.{is_release}
use Rattle.qmux_frame.specs.Reply.{with_number, result_reply}
use Rattle.proxy_history.specs.Events.{Event}
use Rattle.proxy_history.specs.Items.{ModemSays}
use Rattle.proxy_history.specs.Facts.{Fact, Request, Answered, IdHeld, Late, Indicated, Stray, Granted, Freed, EventBegan, Ended, NoRoom}
use Rattle.proxy_history.specs.Connections.{contains, present}
use Rattle.proxy_history.specs.Requests.{in_use, pending, has_request, is_pending}
use Rattle.proxy_history.specs.ClientIds.{Grant, is_of, held, holder, holder_in, is_holder, is_other, holds_some}
use Rattle.proxy_history.specs.View.{Entry, Response, Refused, Indication, HeldId, entry_if, view}
use Rattle.proxy_history.specs.Rendering.{render, put}
use Rattle.proxy_history.specs.Noting.{end_overfull}
use Rattle.proxy_history.specs.Sound.{IsSound}
use Rattle.proxy_history.specs.Coming.{AreSound}
use Rattle.proxy_history.proofs.Walk.{was_asked, each_message}
use Rattle.proxy_history.proofs.Coming.{joins_or_modem_takes}
use Rattle.proxy_history.proofs.Lists.{contains_kept}
use Rattle.proxy_history.proofs.Given.{contained_has, none_left}
use Rattle.proxy_history.proofs.Noted.{noted_view, noted_in_use}
use Rattle.proxy_history.proofs.Sound.{in_use_from_pending, forwarded_from_in_use, waits}
use Rattle.qmi_proxy.specs.Limits.{qmi_limits, outbox_limit}
use Rattle.qmi_proxy.specs.Setup.{Setup}
use Rattle.qmi_proxy.specs.Errors.{client_ids_exhausted}
use Rattle.qmi_proxy.specs.Spaces.{space_of}
use Rattle.qmi_proxy.specs.Messages.{is_success, byte_of, value_of, used_service, used_cid}
use Rattle.qmi_proxy.specs.Text.{note, text, blank, view_of, rendering, qmi_wording}
use Rattle.qmi_proxy.specs.FromModem.{IdChange, NoChange, Frees, id_change, granted_unless, brings_id, holder_of_brought, is_answered_by, first_answered_by, answer, answer_to, answer_or_late, respond, hear_as, hear_modem, open_ones, receivers, tell}
use Rattle.qmi_proxy.specs.History.{qmi_protocol, history}
use Rattle.qmi_proxy.specs.Regular.{IsSent, Regular}
use Rattle.qmi_proxy.specs.Releases.{freed_if}
use Rattle.qmux_frame.proofs.Framed.{framed_long, number_last, responses_framed}
use Rattle.qmi_proxy.proofs.Walk.{Asks}
use Rattle.qmi_proxy.proofs.Sound.{sound_items, begun_is_sound, items_are_asked}
use Rattle.qmi_proxy.proofs.Regulars.{asked_of_pending, regular_begun, regular_items, histories_are_regular}
use Rattle.qmi_proxy.proofs.Answered.{one_is_answered, first_is, found_is}
use Rattle.qmi_isolation.specs.Laws.{facts_before, IsDelivered, IsForNobody}

-- ---- the facts before a message of the modem ----

pub sound_before : (s : Setup) (events : List Event) (earlier : List (List ℕ)) → IsSound qmi_limits (facts_before s events earlier)
sound_before s events earlier = sound_items s (map (λ m. ModemSays m) earlier) (EventBegan ∷ history s events) (begun_is_sound s events)

pub regular_before : (s : Setup) (events : List Event) (earlier : List (List ℕ)) → AreSound (qmi_protocol s) events → Regular (facts_before s events earlier)
regular_before s events earlier sound =
    regular_items s (map (λ m. ModemSays m) earlier) (EventBegan ∷ history s events) (each_message (λ item. joins_or_modem_takes item ≡ false) (λ m. ModemSays m) earlier (λ m. refl))
    (regular_begun s (history s events) (histories_are_regular s events sound))

-- ---- which request is answered ----

space_in_use : (s : Setup) (events : List Event) (earlier : List (List ℕ)) (r : Request) → Contains (in_use (facts_before s events earlier)) r → r.space ≡ space_of r.message
space_in_use s events earlier r at =
    let past : List Fact = facts_before s events earlier in
    let asked = was_asked (qmi_protocol s) (Asks s) past r (items_are_asked s (map (λ m. ModemSays m) earlier) events) (forwarded_from_in_use past r at) in
    ⊎_elim (λ newest. newest.space) (λ own. own.space) asked.1

-- ---- what comes of an answer ----

module _ (device : List ℕ) where
  module _ (r : Request) (m : List ℕ) (past : List Fact) (long : 12 ≤ length m) (asked : IsSent past r) where
    -- the bytes that the sender gets behind these facts, which have its view as it was
    abbrev Delivers : List ℕ → List Fact → Type 0
    Delivers bytes after = (rendering device r.conn after ≡ put outbox_limit bytes (rendering device r.conn past))
        × ((c : ℕ) → c ≢ r.conn → rendering device c after ≡ rendering device c past)
        × (has_request r (in_use after) ≡ false)

    other_is : (c : ℕ) → c ≢ r.conn → (r.conn == c) ≡ false
    other_is c differs = false_from_ne_true (r.conn == c) (λ e. differs (sym (eqb-true r.conn c e)))

    answered : (before : List Fact) → ((c : ℕ) → view_of c before ≡ view_of c past) → Delivers (with_number (number_of r.message) m) (note device (Answered r m) before)
    unfolding view in_use render
    answered before same = (
      ap (render outbox_limit (text device)) (noted_view qmi_limits (qmi_wording device) r.conn (Answered r m) before)
          ∙ ap (λ (b : Bool). render outbox_limit (text device) (entry_if b (Response r.place (blank m)) (view_of r.conn before))) (eq-eqb r.conn r.conn refl)
          ∙ ap (λ (v : List Entry). render outbox_limit (text device) (Response r.place (blank m) ∷ v)) (same r.conn)
          ∙ ap (λ (l : List ℕ). put outbox_limit (with_number (number_of l) (blank m)) (rendering device r.conn past)) asked.2
          ∙ ap (λ (l : List ℕ). put outbox_limit l (rendering device r.conn past)) (number_last (number_of r.message) m long),
      λ c differs.
          ap (render outbox_limit (text device)) (noted_view qmi_limits (qmi_wording device) c (Answered r m) before)
          ∙ ap (λ (b : Bool). render outbox_limit (text device) (entry_if b (Response r.place (blank m)) (view_of c before))) (other_is c differs)
          ∙ ap (render outbox_limit (text device)) (same c),
      ap (has_request r) (noted_in_use qmi_limits (qmi_wording device) (Answered r m) before) ∙ none_left r (in_use before),
    )

    refused : Delivers (result_reply r.message client_ids_exhausted) (note device (IdHeld r) past)
    unfolding view in_use render
    refused = (
      ap (render outbox_limit (text device)) (noted_view qmi_limits (qmi_wording device) r.conn (IdHeld r) past)
          ∙ ap (λ (b : Bool). render outbox_limit (text device) (entry_if b (Refused r.place HeldId) (view_of r.conn past))) (eq-eqb r.conn r.conn refl)
          ∙ ap (λ (l : List ℕ). put outbox_limit (result_reply l client_ids_exhausted) (rendering device r.conn past)) asked.2,
      λ c differs.
          ap (render outbox_limit (text device)) (noted_view qmi_limits (qmi_wording device) c (IdHeld r) past)
          ∙ ap (λ (b : Bool). render outbox_limit (text device) (entry_if b (Refused r.place HeldId) (view_of c past))) (other_is c differs),
      ap (has_request r) (noted_in_use qmi_limits (qmi_wording device) (IdHeld r) past) ∙ none_left r (in_use past),
    )

    -- the change of the client ids decides
    abbrev bytes_by : Bool → List ℕ
    bytes_by refuses = if refuses then result_reply r.message client_ids_exhausted else with_number (number_of r.message) m

    delivered_by : (brings other frees : Bool) (service cid service' cid' : ℕ)
        → Delivers (bytes_by (brings && other)) (answer device r m (if brings then granted_unless other service cid else if frees then Frees service' cid' else NoChange) past)
    unfolding view
    delivered_by true true frees service cid service' cid' = refused
    delivered_by true false frees service cid service' cid' = answered (Granted r.conn service cid ∷ past) (λ c. refl)
    delivered_by false other true service cid service' cid' = answered (Freed r.conn service' cid' ∷ past) (λ c. refl)
    delivered_by false other false service cid service' cid' = answered past (λ c. refl)

    delivered : IsDelivered device r m past (answer device r m (id_change r.conn r.message m (holder_of_brought m past)) past)
    delivered =
        let all = delivered_by (brings_id r.message m) (is_other r.conn (holder_of_brought m past)) (is_release r.message && is_success m)
        (byte_of 0 (value_of 0x01 m)) (byte_of 1 (value_of 0x01 m)) (used_service r.message) (used_cid r.message) in
        record { sender = all.0; others = all.1; once = all.2 }

-- a request that waits is a client's message, where the proxy itself didn't ask
pub sent_by_client : (past : List Fact) (r : Request) → Regular past → Contains (pending past) r → r.conn ≢ 0 → IsSent past r
sent_by_client past r R at clients = ⊎_elim (λ (sent : IsSent past r). sent) (λ (own : r.conn ≡ 0). absurd (clients own)) (asked_of_pending past r R at)

-- ---- what comes of an answer to the proxy itself ----

not_held : (service cid : ℕ) (grants : List Grant) → is_holder 0 (holder_in service cid (filter (λ g. not (is_of service cid g && (0 == g.conn))) grants)) ≡ false
not_held service cid [] = refl
not_held service cid (g ∷ grants) =
    let rest : List Grant = filter (λ (h : Grant). not (is_of service cid h && (0 == h.conn))) grants in
    let fewer : is_holder 0 (holder_in service cid rest) ≡ false = not_held service cid grants in
    let step : (of own : Bool) → is_of service cid g ≡ of → (0 == g.conn) ≡ own → is_holder 0 (holder_in service cid (cond (not (of && own)) (g ∷ rest) rest)) ≡ false =
    λ of own. elim of as (λ of. is_of service cid g ≡ of → (0 == g.conn) ≡ own → is_holder 0 (holder_in service cid (cond (not (of && own)) (g ∷ rest) rest)) ≡ false) [
      | true ↦ elim own as (λ own. is_of service cid g ≡ true → (0 == g.conn) ≡ own → is_holder 0 (holder_in service cid (cond (not own) (g ∷ rest) rest)) ≡ false) [
        | true ↦ λ e f. fewer
        | false ↦ λ e f. ap (λ (b : Bool). is_holder 0 (if b then Some g.conn else holder_in service cid rest)) e ∙ (let turned : (g.conn == 0) ≡ false = grind (arith, nat_tests, f) in turned)
      ]
      | false ↦ λ e f. ap (λ (b : Bool). is_holder 0 (if b then Some g.conn else holder_in service cid rest)) e ∙ fewer
    ]
    in step (is_of service cid g) (0 == g.conn) refl refl

module _ (device : List ℕ) (r : Request) (m : List ℕ) (past : List Fact) (own : r.conn ≡ 0) (R : Regular past) where
  abbrev facts : List Fact
  facts = Freed 0 (used_service r.message) (used_cid r.message) ∷ Answered r m ∷ past

  -- the proxy isn't there to be ended
  ends_nobody : note device (Answered r m) past ≡ Answered r m ∷ past
  unfolding end_overfull present
  ends_nobody = ap (λ (b : Bool). if b && (rendering device r.conn (Answered r m ∷ past)).is_over then Ended r.conn NoRoom ∷ Answered r m ∷ past else Answered r m ∷ past) (ap (λ (c : ℕ). contains c (present past)) own ∙ R.nobody)

  for_nobody : IsForNobody device r m past (freed_if true r (note device (Answered r m) past))
  unfolding view in_use held render
  for_nobody = record {
    facts = ap (λ (l : List Fact). Freed 0 (used_service r.message) (used_cid r.message) ∷ l) ends_nobody;
    clients = λ c differs.
        ap (render outbox_limit (text device)) (noted_view qmi_limits (qmi_wording device) c (Answered r m) past)
        ∙ ap (λ (b : Bool). render outbox_limit (text device) (entry_if b (Response r.place (blank m)) (view_of c past))) (false_from_ne_true (r.conn == c) (λ e. differs (sym (eqb-true r.conn c e) ∙ own)));
    once = ap (has_request r) (noted_in_use qmi_limits (qmi_wording device) (Answered r m) past) ∙ none_left r (in_use past);
    freed = not_held (used_service r.message) (used_cid r.message) (held (note device (Answered r m) past));
  }

module _ (s : Setup) (events : List Event) (earlier : List (List ℕ)) (m : List ℕ) (response : framed_kind m ≡ Some kind.Response) where
  abbrev past : List Fact
  past = facts_before s events earlier

  heard : hear_modem s.device m past ≡ respond s.device (first_answered_by m (in_use past)) m past
  heard = ap (λ answered. hear_as answered s.device m past) response

  -- the sender still waits, so this is what the modem's message does
  replied_to : (r : Request) → Contains (pending past) r → is_answered_by m r ≡ true → hear_modem s.device m past ≡ answer_to (r.conn == 0) s.device r m past
  replied_to r at answers =
      let used : Contains (in_use past) r = in_use_from_pending past r at in
      let found : first_answered_by m (in_use past) ≡ Some r = first_is m (in_use past) r (λ q at_q is. one_is_answered past m q r (sound_before s events earlier) (space_in_use s events earlier) at_q used is answers) used answers in
      let waiting : is_pending r past ≡ true = contained_has (pending past) r at in
      heard ∙ ap (λ (o : Option Request). respond s.device o m past) found ∙ ap (λ (b : Bool). answer_or_late s.device b r m past) waiting

  -- a client's request
  replied : (r : Request) → Contains (pending past) r → is_answered_by m r ≡ true → r.conn ≢ 0 → hear_modem s.device m past ≡ answer s.device r m (id_change r.conn r.message m (holder_of_brought m past)) past
  replied r at answers clients =
      let other : (r.conn == 0) ≡ false = false_from_ne_true (r.conn == 0) (λ e. clients (eqb-true r.conn 0 e)) in
      replied_to r at answers ∙ ap (λ (own : Bool). answer_to own s.device r m past) other

  pub held_ids_are_not_granted : (r : Request) → Contains (pending past) r → is_answered_by m r ≡ true → r.conn ≢ 0
      → brings_id r.message m ≡ true → is_other r.conn (holder_of_brought m past) ≡ true → hear_modem s.device m past ≡ note s.device (IdHeld r) past
  held_ids_are_not_granted r at answers clients brings other =
      let change : Bool → Bool → IdChange = λ b o.
      if b then granted_unless o (byte_of 0 (value_of 0x01 m)) (byte_of 1 (value_of 0x01 m)) else if is_release r.message && is_success m then Frees (used_service r.message) (used_cid r.message) else NoChange in
      replied r at answers clients
      ∙ ap (λ (b : Bool). answer s.device r m (change b (is_other r.conn (holder_of_brought m past))) past) brings
      ∙ ap (λ (o : Bool). answer s.device r m (change true o) past) other

  pub answers_have_one_receiver : (r : Request) → AreSound (qmi_protocol s) events → Contains (pending past) r → is_answered_by m r ≡ true → r.conn ≢ 0 → IsDelivered s.device r m past (hear_modem s.device m past)
  answers_have_one_receiver r sound at answers clients =
      subst (IsDelivered s.device r m past) (sym (replied r at answers clients)) (delivered s.device r m past (framed_long m (responses_framed m response)) (sent_by_client past r (regular_before s events earlier sound) at clients))

  -- a request of the proxy itself
  pub own_answers_are_for_nobody : (r : Request) → AreSound (qmi_protocol s) events → Contains (pending past) r → is_answered_by m r ≡ true → r.conn ≡ 0 → IsForNobody s.device r m past (hear_modem s.device m past)
  own_answers_are_for_nobody r sound at answers own =
      subst (IsForNobody s.device r m past) (sym (replied_to r at answers ∙ ap (λ (b : Bool). answer_to b s.device r m past) (eq-eqb r.conn 0 own)))
      (for_nobody s.device r m past own (regular_before s events earlier sound))

  pub other_answers_have_none : (c : ℕ) → All (λ r. is_answered_by m r ≡ false) (pending past) → rendering s.device c (hear_modem s.device m past) ≡ rendering s.device c past
  unfolding view
  other_answers_have_none c none =
      let step : (o : Option Request) → first_answered_by m (in_use past) ≡ o → rendering s.device c (respond s.device o m past) ≡ rendering s.device c past =
      λ o. elim o as (λ o. first_answered_by m (in_use past) ≡ o → rendering s.device c (respond s.device o m past) ≡ rendering s.device c past) [
        | None ↦ λ e. stray
        | Some r ↦ λ e.
            let found = found_is m (in_use past) r e in
            let idle : is_pending r past ≡ false = waits_not r found.0 found.1 (is_pending r past) refl in
            ap (λ (b : Bool). rendering s.device c (answer_or_late s.device b r m past)) idle ∙ late r
      ]
      in ap (rendering s.device c) heard ∙ step (first_answered_by m (in_use past)) refl
    where
      stray : rendering s.device c (Stray ∷ past) ≡ rendering s.device c past
      stray = refl

      late : (r : Request) → rendering s.device c (Late r ∷ past) ≡ rendering s.device c past
      late r = refl

      waits_not : (r : Request) → Contains (in_use past) r → is_answered_by m r ≡ true → (b : Bool) → is_pending r past ≡ b → b ≡ false
      waits_not r at answers true is =
          let isnt : is_answered_by m r ≡ false = All-contains (λ (q : Request). is_answered_by m q ≡ false) (pending past) r none (waits qmi_limits past r (sound_before s events earlier) (forwarded_from_in_use past r at) is) in
          absurd (cc)
      waits_not r at answers false is = refl

-- ---- indications ----

pub indications_reach_their_receivers : (device m : List ℕ) (past : List Fact) (c : ℕ)
    → rendering device c (tell device m past) ≡ (if contains c (receivers device m past) then put outbox_limit m (rendering device c past) else rendering device c past)
unfolding view render
indications_reach_their_receivers device m past c =
    ap (render outbox_limit (text device)) (noted_view qmi_limits (qmi_wording device) c (Indicated m (receivers device m past)) past)
    ∙ elim (contains c (receivers device m past)) as (λ b. render outbox_limit (text device) (entry_if b (Indication m) (view_of c past)) ≡ (if b then put outbox_limit m (rendering device c past) else rendering device c past)) [ true ↦ refl | false ↦ refl ]

pub holders_alone_are_told : (device m : List ℕ) (past : List Fact) (c : ℕ) → is_control m ≡ false → (cid_of m == 255) ≡ false → contains c (receivers device m past) ≡ true
    → holder (service_of m) (cid_of m) past ≡ Some c
holders_alone_are_told device m past c service id at =
    held_by (holder (service_of m) (cid_of m) past)
    (and_parts (contains c (present past)) _
    (sym (contains_kept c (λ (d : ℕ). is_holder d (holder (service_of m) (cid_of m) past)) (present past)) ∙ sym (ap (λ (l : List ℕ). contains c l) (receivers_are service id)) ∙ at)).1
  where
    receivers_are : is_control m ≡ false → (cid_of m == 255) ≡ false → receivers device m past ≡ filter (λ (d : ℕ). is_holder d (holder (service_of m) (cid_of m) past)) (present past)
    receivers_are service id =
        ap (λ (b : Bool). let l : List ℕ = if b then open_ones device past else if cid_of m == 255 then filter (λ (d : ℕ). holds_some d (service_of m) (held past)) (present past) else filter (λ (d : ℕ). is_holder d (holder (service_of m) (cid_of m) past)) (present past) in l) service
        ∙ ap (λ (b : Bool). let l : List ℕ = if b then filter (λ (d : ℕ). holds_some d (service_of m) (held past)) (present past) else filter (λ (d : ℕ). is_holder d (holder (service_of m) (cid_of m) past)) (present past) in l) id

    held_by : (o : Option ℕ) → is_holder c o ≡ true → o ≡ Some c
    held_by None e = absurd (cc)
    held_by (Some d) e = ap (λ (x : ℕ). Some x) (eqb-true d c e)
