-- A session at a modem itself and through a proxy.
use Rattle.std.proofs.Common.{◌≡◌, ℕ, ◌+◌, ◌<◌, ◌≤◌, Bool, true, false, ◌&&◌, ◌||◌, ◌==◌, nat_lt, if◌then◌else◌, List, [], ◌∷◌, length, Option, Some, None, refl, ap, sym, ◌∙◌, arith, subst}
use Rattle.std.specs.Prelude.{unwrap_or}
use Rattle.std.specs.Str.{encode_utf8_all}
use Rattle.std.proofs.lemmas.Bool.{eqb-true, ltb-true}
use Rattle.tlv_codec.specs.Tlv.{tlv_text, first_value}
use Rattle.qmux_frame.specs.declared.writing.NewMessage.{NewMessage}
use Rattle.qmux_frame.specs.declared.writing.Sender.TheVariants.{Modem}
use Rattle.qmux_frame.specs.declared.kind.MessageKind.TheVariants as kind
use Rattle.qmux_frame.specs.Head.{service_of, is_framed, tlvs_in}
use Rattle.qmux_frame.specs.Kind.{flags_for}
use Rattle.qmux_frame.specs.Reply.{result_reply, result_tlv}
use Rattle.qmux_frame.specs.Writing.{message_text, head_text}
use Rattle.link_session.specs.Marks.{Placed}
use Rattle.link_session.specs.Peer.{Peer, Talk, Finish, ask_then, nothing_said}
use Rattle.framing.specs.Cutting.{cut_from}
use Rattle.qmi_requests.specs.declared.QmiRequest.{QmiRequest}
use Rattle.qmi_requests.specs.declared.QmiRequest.TheVariants as request
use Rattle.qmi_services.specs.Requests.{row_of, inputs_of}
use Rattle.device_core.specs.declared.plan.QmiPlan.{QmiPlan}
use Rattle.device_core.specs.Requests.{Request, asked, message_of, new_message}
use Rattle.device_core.specs.Session.{service, proxy_open, allocate, allocated_in, release}
use Rattle.device_core.specs.Verdict.{reads, succeeds, reads_with, are_read}
use Rattle.tlv_codec.specs.Outcome.{outcome_in, is_success}
use Rattle.device_core.specs.Peer.{LastWord, OfAnswer, Unframed, unanswered, finish, release_at, leave_at, command_at, allocate_at, given_at, choose_at, proxy_at, session_at}
use Rattle.proxy_history.specs.Coming.{piece_limit}
use Rattle.proxy_history.specs.Requests.{following}
use Rattle.proxy_history.specs.Facts.{Own}
use Rattle.qmi_proxy.specs.Setup.{Setup}
use Rattle.qmi_proxy.specs.Spaces.{space_of, top_of}
use Rattle.qmi_proxy.specs.OwnReplies.{view_decides, is_opening}
use Rattle.lone_client.specs.Relay.{Answering, directly, through, relayed, asked_by}
use Rattle.lone_client.proofs.Rounds.{begins}
use Rattle.twin_sessions.specs.QmiRuns.{ReadsAs, Alike}
use Rattle.twin_sessions.specs.QmiServing.{Answers, first_command, of_control, IsServed}
use Rattle.twin_sessions.specs.QmiLaw.{SessionsEndAlike, SessionsMayCome}
use Rattle.twin_sessions.proofs.QmiMessages.{IsRead, is_read, text_is_short, OfControl, control_is, service_shared, service_refused, version_shared, allocate_shared, release_shared, release_refused, Opens, open_opens}
use Rattle.twin_sessions.proofs.QmiSteps.{is_response_text, played, Direct, Through, Goes, direct_goes, forward_goes, own_goes}

-- ---- the proxy's own replies ----

abbrev pub own_head : Request → NewMessage
own_head r = record { sender = Modem; service = (row_of r.body).service; cid = r.cid; flags = flags_for (row_of r.body).service kind.Response; number = r.number; message = (row_of r.body).id }

abbrev replying : NewMessage → NewMessage
replying m = record { sender = Modem; service = m.service; cid = m.cid; flags = flags_for m.service kind.Response; number = m.number; message = m.message }

refused_text : (m : NewMessage) (tlvs : List ℕ) (error : ℕ) → result_reply (message_text m tlvs) error ≡ message_text (replying m) (result_tlv error)
unfolding head_text
refused_text m tlvs error =
    let step : (b : Bool) → (m.service == 0) ≡ b → result_reply (message_text m tlvs) error ≡ message_text (replying m) (result_tlv error) =
    λ b. elim b as (λ b. (m.service == 0) ≡ b → result_reply (message_text m tlvs) error ≡ message_text (replying m) (result_tlv error)) [
      | true ↦ λ is. rw is refl
      | false ↦ λ is. rw is refl
    ]
    in step (m.service == 0) refl

own_text : (r : Request) (error : ℕ) → result_reply (message_of r) error ≡ message_text (own_head r) (result_tlv error)
unfolding message_of
own_text r error = refused_text (new_message r) (tlv_text (inputs_of r.body)) error

following_small : (n : ℕ) → following 255 n < 256
following_small n = elim (nat_lt n 255) as (λ b. nat_lt n 255 ≡ b → (if b then n + 1 else 1) < 256) [ true ↦ λ is. (let low : n < 255 = ltb-true n 255 is in omega (arith, low)) | false ↦ λ is. omega arith ] refl

-- ---- answers that read alike ----

reads_same : (body : QmiRequest) (a b : List ℕ) → ReadsAs a b → reads body a ≡ reads body b
unfolding reads
reads_same body a b same =
    ap (λ (f : Bool). f && reads_with (outcome_in (tlvs_in a)) (are_read (row_of body).output (tlvs_in a))) same.framed
    ∙ ap (λ (l : List ℕ). is_framed b && reads_with (outcome_in l) (are_read (row_of body).output l)) same.tlvs

succeeds_same : (body : QmiRequest) (a b : List ℕ) → ReadsAs a b → succeeds body a ≡ succeeds body b
unfolding succeeds
succeeds_same body a b same =
    ap (λ (f : Bool). f && is_success (outcome_in (tlvs_in a))) (reads_same body a b same)
    ∙ ap (λ (l : List ℕ). reads body b && is_success (outcome_in l)) same.tlvs

texts_read_alike : (h k : NewMessage) (tlvs : List ℕ) → h.flags ≡ flags_for h.service kind.Response → k.flags ≡ flags_for k.service kind.Response → ReadsAs (message_text h tlvs) (message_text k tlvs)
texts_read_alike h k tlvs flags_h flags_k =
    let a = is_response_text h tlvs flags_h in
    let b = is_response_text k tlvs flags_k in
    record { framed = a.framed ∙ sym b.framed; tlvs = a.tlvs_are ∙ sym b.tlvs_are }

-- two answers, each the message of a talk
placed_alike : {a b x y : List ℕ} → a ≡ x → b ≡ y → ReadsAs x y → ReadsAs a b
placed_alike is_a is_b same = record { framed = ap is_framed is_a ∙ same.framed ∙ sym (ap is_framed is_b); tlvs = ap tlvs_in is_a ∙ same.tlvs ∙ sym (ap tlvs_in is_b) }

module _ (s : Setup) (near : s.starts_away ≡ false) (modem : Answering) (plan : QmiPlan) where
  abbrev at_modem : Peer
  at_modem = directly (played s near modem plan.timeout)

  abbrev at_proxy : Peer
  at_proxy = through (played s near modem plan.timeout)

  -- what the proxy met on the way may come, and nothing waits
  abbrev pub Met : Talk → Type 0
  Met talk = (last : ℕ → ℕ) × (before : List (List ℕ)) × Through s near modem plan.timeout true last talk before

  abbrev pub IsAlike : Finish LastWord → Finish LastWord → Type 0
  IsAlike a b = Alike a.end b.end × Met b.talk

  or_true : (b : Bool) → (b || true) ≡ true
  or_true true = refl
  or_true false = refl

  -- ---- the client id is given back ----

  released_then : (peer : Peer) (cid number : ℕ) (talk : Talk) (message : Placed) (h : NewMessage) (tlvs : List ℕ) (Then : Talk → Type 0) → h.flags ≡ flags_for h.service kind.Response → (g : Goes s near modem plan.timeout peer (release plan cid number) talk (message_text h tlvs) Then)
      → release_at peer plan cid number message talk ≡ finish (OfAnswer plan.request None message) g.later
  released_then peer cid number talk message h tlvs Then flags g =
      g.is unanswered (λ before last talk. if is_framed last.bytes then finish (OfAnswer plan.request None message) talk else finish (Unframed last) talk)
      ∙ ap (λ (b : Bool). if b then finish (OfAnswer plan.request None message) g.later else finish (Unframed g.placed) g.later) (ap is_framed g.bytes ∙ (is_response_text h tlvs flags).framed)

  alike_by : {a b a' b' : Finish LastWord} → a ≡ a' → b ≡ b' → IsAlike a' b' → IsAlike a b
  alike_by {a = a} {b' = b'} is_a is_b same = subst (λ (f : Finish LastWord). IsAlike a f) (sym is_b) (subst (λ (f : Finish LastWord). IsAlike f b') (sym is_a) same)

  module _ (some : (service plan == 0) ≡ false) (cid number : ℕ) where
    abbrev pub d_release : Request
    d_release = release plan cid number

    abbrev pub t_release : Request
    t_release = release plan cid (number + 1)

    release_short : length (message_of t_release) ≤ piece_limit
    unfolding message_of
    release_short = omega (arith, text_is_short (new_message t_release) (tlv_text (inputs_of t_release.body)))

    space_control : space_of (message_of t_release) ≡ 0
    space_control = ap (λ (n : ℕ). if n == 0 then 0 else 1) (is_read t_release).service

    module _ (dm tm : Placed) (same : ReadsAs dm.bytes tm.bytes) (d_talk t_talk : Talk) where
      pub released_alike : (before : List (List ℕ)) (last : ℕ → ℕ) → (cid == 0) ≡ false → (cid == 255) ≡ false → Direct s near modem plan.timeout d_talk before → Through s near modem plan.timeout true last t_talk before → number ≡ following 255 (last 0)
          → Answers modem before (message_of d_release) → IsAlike (release_at at_modem plan cid number dm d_talk) (release_at at_proxy plan cid (number + 1) tm t_talk)
      released_alike before last low high direct has n_is a =
          let d = direct_goes s near modem plan.timeout d_release d_talk before direct a in
          let shared = release_shared (message_of t_release) (service plan) cid (control_is t_release.body t_release.number refl) some low high in
          let t = forward_goes s near modem plan.timeout last t_release number t_talk before has (n_is ∙ ap (λ (p : ℕ). following (top_of p) (last p)) (sym space_control)) shared release_short a in
          alike_by (released_then at_modem cid number d_talk dm a.response a.tlvs _ a.flags d) (released_then at_proxy cid (number + 1) t_talk tm (record a.response { number = number + 1 }) a.tlvs _ a.flags t) ((refl, refl, same), (_, _, t.goes_on))

      pub released_badly : (d_before t_before : List (List ℕ)) (last : ℕ → ℕ) → (cid == 0 || (cid == 255)) ≡ true → Direct s near modem plan.timeout d_talk d_before → Through s near modem plan.timeout true last t_talk t_before
          → Answers modem d_before (message_of d_release) → IsAlike (release_at at_modem plan cid number dm d_talk) (release_at at_proxy plan cid (number + 1) tm t_talk)
      released_badly d_before t_before last bad direct has a =
          let d = direct_goes s near modem plan.timeout d_release d_talk d_before direct a in
          let refused = release_refused s.device (message_of t_release) (service plan) cid (control_is t_release.body t_release.number refl) bad in
          let t = own_goes s near modem plan.timeout true last t_release t_talk t_before (own_head t_release) (result_tlv 7) has refused.0 release_short (ap (result_reply (message_of t_release)) refused.1 ∙ own_text t_release 7) refl refl refl refl in
          alike_by (released_then at_modem cid number d_talk dm a.response a.tlvs _ a.flags d) (released_then at_proxy cid (number + 1) t_talk tm (own_head t_release) (result_tlv 7) _ refl t) ((refl, refl, same), (last, t_before, subst (λ (b : Bool). Through s near modem plan.timeout b last t.later t_before) (or_true (is_opening s.device (message_of t_release) Own)) t.goes_on))

      -- the session is left
      left_alike : Met t_talk → IsAlike (release_at at_modem plan cid number dm d_talk) (release_at at_proxy plan cid (number + 1) tm t_talk) → IsAlike (leave_at at_modem plan cid number dm d_talk) (leave_at at_proxy plan cid (number + 1) tm t_talk)
      left_alike met released =
          let kept : (b : Bool) → IsAlike (if b then finish (OfAnswer plan.request (Some (service plan, cid)) dm) d_talk else release_at at_modem plan cid number dm d_talk) (if b then finish (OfAnswer plan.request (Some (service plan, cid)) tm) t_talk else release_at at_proxy plan cid (number + 1) tm t_talk) =
          λ b. elim b as (λ b. IsAlike (if b then finish (OfAnswer plan.request (Some (service plan, cid)) dm) d_talk else release_at at_modem plan cid number dm d_talk) (if b then finish (OfAnswer plan.request (Some (service plan, cid)) tm) t_talk else release_at at_proxy plan cid (number + 1) tm t_talk)) [
            | true ↦ ((refl, refl, same), met)
            | false ↦ released
          ] in
          subst (λ (z : Bool). IsAlike (if z then finish (OfAnswer plan.request None dm) d_talk else if plan.keep then finish (OfAnswer plan.request (Some (service plan, cid)) dm) d_talk else release_at at_modem plan cid number dm d_talk)
          (if z then finish (OfAnswer plan.request None tm) t_talk else if plan.keep then finish (OfAnswer plan.request (Some (service plan, cid)) tm) t_talk else release_at at_proxy plan cid (number + 1) tm t_talk)) (sym some) (kept plan.keep)

      -- the answer to the command is read
      pub read_alike : Met t_talk → IsAlike (leave_at at_modem plan cid number dm d_talk) (leave_at at_proxy plan cid (number + 1) tm t_talk)
          → IsAlike (if reads plan.request dm.bytes then leave_at at_modem plan cid number dm d_talk else finish (OfAnswer plan.request None dm) d_talk) (if reads plan.request tm.bytes then leave_at at_proxy plan cid (number + 1) tm t_talk else finish (OfAnswer plan.request None tm) t_talk)
      read_alike met left =
          subst (λ (z : Bool). IsAlike (if reads plan.request dm.bytes then leave_at at_modem plan cid number dm d_talk else finish (OfAnswer plan.request None dm) d_talk) (if z then leave_at at_proxy plan cid (number + 1) tm t_talk else finish (OfAnswer plan.request None tm) t_talk)) (reads_same plan.request dm.bytes tm.bytes same)
          (elim (reads plan.request dm.bytes) as (λ z. IsAlike (if z then leave_at at_modem plan cid number dm d_talk else finish (OfAnswer plan.request None dm) d_talk) (if z then leave_at at_proxy plan cid (number + 1) tm t_talk else finish (OfAnswer plan.request None tm) t_talk)) [
            | true ↦ left
            | false ↦ ((refl, refl, same), met)
          ])

  module _ (device_is : s.device ≡ encode_utf8_all plan.device) (served : IsServed modem plan) where
    -- ---- the command, with a client id ----

    command_then : (peer : Peer) (cid number : ℕ) (talk : Talk) (x : List ℕ) (Then : Talk → Type 0) → (service plan == 0) ≡ false → (g : Goes s near modem plan.timeout peer (first_command plan cid) talk x Then)
        → command_at peer plan cid number talk ≡ (if reads plan.request g.placed.bytes then leave_at peer plan cid number g.placed g.later else finish (OfAnswer plan.request None g.placed) g.later)
    command_then peer cid number talk x Then some g =
        let next : List Placed → Placed → Talk → Finish LastWord = λ before message talk. if reads plan.request message.bytes then leave_at peer plan cid number message talk else finish (OfAnswer plan.request None message) talk in
        ap (λ (b : Bool). let r : Request = record { body = plan.request; cid = cid; number = if b then number else 1 } in ask_then peer (asked plan.timeout r) talk unanswered next) some
        ∙ g.is unanswered next

    command_short : (cid : ℕ) → length (message_of (first_command plan cid)) ≤ piece_limit
    unfolding message_of
    command_short cid = omega (arith, text_is_short (new_message (first_command plan cid)) (tlv_text (inputs_of plan.request)), served.inputs)

    module _ (some : (service plan == 0) ≡ false) (cid number : ℕ) (d_talk t_talk : Talk) (before : List (List ℕ)) (last : ℕ → ℕ) (direct : Direct s near modem plan.timeout d_talk before) (has : Through s near modem plan.timeout true last t_talk before) where
      abbrev m : List ℕ
      m = message_of (first_command plan cid)

      read : IsRead (first_command plan cid)
      read = is_read (first_command plan cid)

      service_some : (service_of m == 0) ≡ false
      service_some = ap (λ (n : ℕ). n == 0) read.service ∙ some

      space_service : space_of m ≡ 1
      space_service = ap (λ (b : Bool). if b then 0 else 1) service_some

      pub commanded_alike : Answers modem before m → (cid == 0) ≡ false → (cid == 255) ≡ false → number ≡ following 255 (last 0) → 1 ≡ following 65535 (last 1)
          → IsAlike (command_at at_modem plan cid number d_talk) (command_at at_proxy plan cid (number + 1) t_talk)
      commanded_alike a low high n_is one_is =
          let d = direct_goes s near modem plan.timeout (first_command plan cid) d_talk before direct a in
          let shared : view_decides true m ≡ false = service_shared m read.framed read.flags service_some (ap (λ (n : ℕ). n == 0) read.cid ∙ low) (ap (λ (n : ℕ). n == 255) read.cid ∙ high) in
          let t = forward_goes s near modem plan.timeout last (first_command plan cid) 1 t_talk before has (one_is ∙ ap (λ (p : ℕ). following (top_of p) (last p)) (sym space_service)) shared (command_short cid) a in
          let same : ReadsAs d.placed.bytes t.placed.bytes = placed_alike d.bytes t.bytes (texts_read_alike a.response (record a.response { number = 1 }) a.tlvs a.flags a.flags) in
          let later_number : number ≡ following 255 (if space_of m == 0 then 1 else last 0) = n_is ∙ ap (λ (p : ℕ). following 255 (if p == 0 then 1 else last 0)) (sym space_service) in
          let released = released_alike some cid number d.placed t.placed same d.later t.later (m ∷ before) (λ space. if space_of m == space then 1 else last space) low high d.goes_on t.goes_on later_number ((served.services some).releases cid number (subst (λ (n : ℕ). n < 256) (sym n_is) (following_small (last 0))) (m ∷ before)) in
          alike_by (command_then at_modem cid number d_talk _ _ some d) (command_then at_proxy cid (number + 1) t_talk _ _ some t)
          (read_alike some cid number d.placed t.placed same d.later t.later (_, _, t.goes_on) (left_alike some cid number d.placed t.placed same d.later t.later (_, _, t.goes_on) released))

    -- with one that is nobody's
    refused_alike : (some : (service plan == 0) ≡ false) (cid number : ℕ) (d_talk t_talk : Talk) (last : ℕ → ℕ) → number ≡ following 255 (last 0) → Direct s near modem plan.timeout d_talk [] → Through s near modem plan.timeout true last t_talk [] → (cid == 0 || (cid == 255)) ≡ true
        → IsAlike (command_at at_modem plan cid number d_talk) (command_at at_proxy plan cid (number + 1) t_talk)
    refused_alike some cid number d_talk t_talk last n_is direct has bad =
        let r : Request = first_command plan cid in
        let m : List ℕ = message_of r in
        let read = is_read r in
        let a = (served.services some).given cid in
        let d = direct_goes s near modem plan.timeout r d_talk [] direct a in
        let refused = service_refused s.device m read.framed read.flags (ap (λ (n : ℕ). n == 0) read.service ∙ some) (ap (λ (n : ℕ). n == 0 || (n == 255)) read.cid ∙ bad) in
        let t = own_goes s near modem plan.timeout true last r t_talk [] (own_head r) (result_tlv 7) has refused.0 (command_short cid) (ap (result_reply m) refused.1 ∙ own_text r 7) refl refl refl refl in
        let same : ReadsAs d.placed.bytes t.placed.bytes = placed_alike d.bytes t.bytes (subst (λ (l : List ℕ). ReadsAs (message_text a.response a.tlvs) (message_text (own_head r) l)) ((served.services some).refuses cid bad) (texts_read_alike a.response (own_head r) a.tlvs a.flags refl)) in
        let opened : Through s near modem plan.timeout true last t.later [] = subst (λ (b : Bool). Through s near modem plan.timeout b last t.later []) (or_true (is_opening s.device m Own)) t.goes_on in
        let released = released_badly some cid number d.placed t.placed same d.later t.later (m ∷ []) [] last bad d.goes_on opened ((served.services some).releases cid number (subst (λ (n : ℕ). n < 256) (sym n_is) (following_small (last 0))) (m ∷ [])) in
        alike_by (command_then at_modem cid number d_talk _ _ some d) (command_then at_proxy cid (number + 1) t_talk _ _ some t)
        (read_alike some cid number d.placed t.placed same d.later t.later (last, [], opened) (left_alike some cid number d.placed t.placed same d.later t.later (last, [], opened) released))

    -- a client id that is given
    given_alike : (some : (service plan == 0) ≡ false) (cid number : ℕ) (d_talk t_talk : Talk) (last : ℕ → ℕ) → Direct s near modem plan.timeout d_talk [] → Through s near modem plan.timeout true last t_talk [] → number ≡ following 255 (last 0) → 1 ≡ following 65535 (last 1)
        → IsAlike (command_at at_modem plan cid number d_talk) (command_at at_proxy plan cid (number + 1) t_talk)
    given_alike some cid number d_talk t_talk last direct has n_is one_is =
        let Goal : Type 0 = IsAlike (command_at at_modem plan cid number d_talk) (command_at at_proxy plan cid (number + 1) t_talk) in
        let by : (a b : Bool) → (cid == 0) ≡ a → (cid == 255) ≡ b → Goal =
        λ a b. elim a as (λ a. (cid == 0) ≡ a → (cid == 255) ≡ b → Goal) [
          | true ↦ λ low high. refused_alike some cid number d_talk t_talk last n_is direct has (ap (λ (x : Bool). x || (cid == 255)) low)
          | false ↦ elim b as (λ b. (cid == 0) ≡ false → (cid == 255) ≡ b → Goal) [
            | true ↦ λ low high. refused_alike some cid number d_talk t_talk last n_is direct has (ap (λ (x : Bool). x || (cid == 255)) low ∙ high)
            | false ↦ λ low high. commanded_alike some cid number d_talk t_talk [] last direct has ((served.services some).given cid) low high n_is one_is
          ]
        ]
        in by (cid == 0) (cid == 255) refl refl

    -- ---- a client id is allocated ----

    allocated_alike : (some : (service plan == 0) ≡ false) (d_talk t_talk : Talk) → Direct s near modem plan.timeout d_talk [] → Through s near modem plan.timeout true (λ space. 0) t_talk [] → IsAlike (allocate_at at_modem plan 1 d_talk) (allocate_at at_proxy plan 2 t_talk)
    unfolding message_of
    allocated_alike some d_talk t_talk direct has =
        let r : Request = allocate plan 2 in
        let m : List ℕ = message_of r in
        let read = is_read r in
        let a = (served.services some).allocates in
        let d = direct_goes s near modem plan.timeout (allocate plan 1) d_talk [] direct a in
        let space : space_of m ≡ 0 = ap (λ (n : ℕ). if n == 0 then 0 else 1) read.service in
        let shared = allocate_shared m (service plan) (control_is r.body 2 refl) in
        let m_short : length m ≤ piece_limit = omega (arith, text_is_short (new_message r) (tlv_text (inputs_of r.body))) in
        let t = forward_goes s near modem plan.timeout (λ space. 0) r 1 t_talk [] has (ap (λ (p : ℕ). following (top_of p) 0) (sym space)) shared m_short a in
        let same : ReadsAs d.placed.bytes t.placed.bytes = placed_alike d.bytes t.bytes (texts_read_alike a.response (record a.response { number = 2 }) a.tlvs a.flags a.flags) in
        let tlvs_are : tlvs_in d.placed.bytes ≡ a.tlvs = ap tlvs_in d.bytes ∙ (is_response_text a.response a.tlvs a.flags).tlvs_are in
        let client_is : unwrap_or (allocated_in (tlvs_in d.placed.bytes)) 0 ≡ 1 = ap (λ (l : List ℕ). unwrap_or (allocated_in l) 0) tlvs_are ∙ ap (λ (o : Option ℕ). unwrap_or o 0) (served.services some).brings in
        let last : ℕ → ℕ = λ p. if space_of m == p then 1 else 0 in
        let second : 2 ≡ following 255 (last 0) = ap (λ (p : ℕ). following 255 (if p == 0 then 1 else 0)) (sym space) in
        let first : 1 ≡ following 65535 (last 1) = ap (λ (p : ℕ). following 65535 (if p == 1 then 1 else 0)) (sym space) in
        let commanded : IsAlike (command_at at_modem plan 1 2 d.later) (command_at at_proxy plan 1 3 t.later) = commanded_alike some 1 2 d.later t.later (message_of (allocate plan 1) ∷ []) last d.goes_on t.goes_on (served.services some).allocated refl refl second first in
        let d_end : Finish LastWord = finish (OfAnswer (request.Allocate (service plan)) None d.placed) d.later in
        let t_end : Finish LastWord = finish (OfAnswer (request.Allocate (service plan)) None t.placed) t.later in
        let d_then : (l : List ℕ) → Finish LastWord = λ l. command_at at_modem plan (unwrap_or (allocated_in l) 0) 2 d.later in
        let t_then : (l : List ℕ) → Finish LastWord = λ l. command_at at_proxy plan (unwrap_or (allocated_in l) 0) 3 t.later in
        let goes : IsAlike (d_then (tlvs_in d.placed.bytes)) (t_then (tlvs_in t.placed.bytes)) =
        subst (λ (l : List ℕ). IsAlike (d_then (tlvs_in d.placed.bytes)) (t_then l)) same.tlvs
        (subst (λ (c : ℕ). IsAlike (command_at at_modem plan c 2 d.later) (command_at at_proxy plan c 3 t.later)) (sym client_is) commanded)
        in
        let read_so : IsAlike (if succeeds (request.Allocate (service plan)) d.placed.bytes then d_then (tlvs_in d.placed.bytes) else d_end) (if succeeds (request.Allocate (service plan)) t.placed.bytes then t_then (tlvs_in t.placed.bytes) else t_end) =
        subst (λ (z : Bool). IsAlike (if succeeds (request.Allocate (service plan)) d.placed.bytes then d_then (tlvs_in d.placed.bytes) else d_end) (if z then t_then (tlvs_in t.placed.bytes) else t_end)) (succeeds_same (request.Allocate (service plan)) d.placed.bytes t.placed.bytes same)
        (elim (succeeds (request.Allocate (service plan)) d.placed.bytes) as (λ z. IsAlike (if z then d_then (tlvs_in d.placed.bytes) else d_end) (if z then t_then (tlvs_in t.placed.bytes) else t_end)) [
          | true ↦ goes
          | false ↦ ((refl, refl, same), (_, _, t.goes_on))
        ])
        in
        alike_by (d.is unanswered (λ before message talk. if succeeds (request.Allocate (service plan)) message.bytes then command_at at_modem plan (unwrap_or (allocated_in (tlvs_in message.bytes)) 0) 2 talk else finish (OfAnswer (request.Allocate (service plan)) None message) talk))
        (t.is unanswered (λ before message talk. if succeeds (request.Allocate (service plan)) message.bytes then command_at at_proxy plan (unwrap_or (allocated_in (tlvs_in message.bytes)) 0) 3 talk else finish (OfAnswer (request.Allocate (service plan)) None message) talk))
        read_so

    -- ---- a command of service 0 ----

    control_then : (peer : Peer) (number : ℕ) (talk : Talk) (x : List ℕ) (Then : Talk → Type 0) → (service plan == 0) ≡ true → (g : Goes s near modem plan.timeout peer (of_control plan.request number) talk x Then)
        → command_at peer plan 0 number talk ≡ finish (OfAnswer plan.request None g.placed) g.later
    control_then peer number talk x Then none g =
        let next : List Placed → Placed → Talk → Finish LastWord = λ before message talk. if reads plan.request message.bytes then leave_at peer plan 0 number message talk else finish (OfAnswer plan.request None message) talk in
        let ended : Finish LastWord = finish (OfAnswer plan.request None g.placed) g.later in
        let left : leave_at peer plan 0 number g.placed g.later ≡ ended = ap (λ (b : Bool). if b then ended else if plan.keep then finish (OfAnswer plan.request (Some (service plan, 0)) g.placed) g.later else release_at peer plan 0 number g.placed g.later) none in
        ap (λ (b : Bool). let r : Request = record { body = plan.request; cid = 0; number = if b then number else 1 } in ask_then peer (asked plan.timeout r) talk unanswered next) none
        ∙ g.is unanswered next
        ∙ ap (λ (f : Finish LastWord). if reads plan.request g.placed.bytes then f else ended) left
        ∙ elim (reads plan.request g.placed.bytes) as (λ b. (if b then ended else ended) ≡ ended) [ true ↦ refl | false ↦ refl ]

    control_alike : (none : (service plan == 0) ≡ true) (d_talk t_talk : Talk) → Direct s near modem plan.timeout d_talk [] → Through s near modem plan.timeout true (λ space. 0) t_talk [] → IsAlike (command_at at_modem plan 0 1 d_talk) (command_at at_proxy plan 0 2 t_talk)
    unfolding message_of
    control_alike none d_talk t_talk direct has =
        let r : Request = of_control plan.request 2 in
        let m : List ℕ = message_of r in
        let v = served.versions none in
        let a = v.answers in
        let d = direct_goes s near modem plan.timeout (of_control plan.request 1) d_talk [] direct a in
        let zero_service : service plan ≡ 0 = eqb-true (service plan) 0 none in
        let space : space_of m ≡ 0 = ap (λ (n : ℕ). if n == 0 then 0 else 1) ((is_read r).service ∙ zero_service) in
        let of = control_is plan.request 2 zero_service in
        let of_version : OfControl m 0x21 None = subst (OfControl m 0x21) v.input (subst (λ (id : ℕ). OfControl m id (first_value 1 (inputs_of plan.request))) v.id of) in
        let m_short : length m ≤ piece_limit = omega (arith, text_is_short (new_message r) (tlv_text (inputs_of r.body)), served.inputs) in
        let t = forward_goes s near modem plan.timeout (λ space. 0) r 1 t_talk [] has (ap (λ (p : ℕ). following (top_of p) 0) (sym space)) (version_shared m of_version) m_short a in
        let same : ReadsAs d.placed.bytes t.placed.bytes = placed_alike d.bytes t.bytes (texts_read_alike a.response (record a.response { number = 2 }) a.tlvs a.flags a.flags) in
        alike_by (control_then at_modem 1 d_talk _ _ none d) (control_then at_proxy 2 t_talk _ _ none t) ((refl, refl, same), (_, _, t.goes_on))

    -- ---- the whole session ----

    chosen_alike : (d_talk t_talk : Talk) → Direct s near modem plan.timeout d_talk [] → Through s near modem plan.timeout true (λ space. 0) t_talk [] → IsAlike (choose_at at_modem plan 1 d_talk) (choose_at at_proxy plan 2 t_talk)
    chosen_alike d_talk t_talk direct has =
        let by : (z : Bool) → (service plan == 0) ≡ z → IsAlike (if z then command_at at_modem plan 0 1 d_talk else given_at at_modem plan plan.cid 1 d_talk) (if z then command_at at_proxy plan 0 2 t_talk else given_at at_proxy plan plan.cid 2 t_talk) =
        λ z. elim z as (λ z. (service plan == 0) ≡ z → IsAlike (if z then command_at at_modem plan 0 1 d_talk else given_at at_modem plan plan.cid 1 d_talk) (if z then command_at at_proxy plan 0 2 t_talk else given_at at_proxy plan plan.cid 2 t_talk)) [
          | true ↦ λ none. control_alike none d_talk t_talk direct has
          | false ↦ λ some. by_id some plan.cid
        ]
        in by (service plan == 0) refl
      where
        by_id : (some : (service plan == 0) ≡ false) (cid : Option ℕ) → IsAlike (given_at at_modem plan cid 1 d_talk) (given_at at_proxy plan cid 2 t_talk)
        by_id some None = allocated_alike some d_talk t_talk direct has
        by_id some (Some cid) = given_alike some cid 1 d_talk t_talk (λ space. 0) direct has refl refl

    d_start : Direct s near modem plan.timeout nothing_said []
    unfolding cut_from asked_by
    d_start = record { left = refl; whole = refl; before_is = refl }

    t_start : Through s near modem plan.timeout false (λ space. 0) nothing_said []
    unfolding cut_from relayed
    t_start = record { left = refl; whole = refl; stands = begins s near; before_is = refl }

    -- the proxy opens the device by itself
    opened_reply : (r : Request) → succeeds (request.ProxyOpen plan.device) (message_text (own_head r) (result_tlv 0)) ≡ true
    unfolding succeeds reads cut_from
    opened_reply r = let is = is_response_text (own_head r) (result_tlv 0) refl in rw (is.framed, is.tlvs_are) refl

    pub sessions_alike : IsAlike (choose_at at_modem plan 1 nothing_said) (proxy_at at_proxy plan)
    unfolding message_of
    sessions_alike =
        let r : Request = proxy_open plan in
        let m : List ℕ = message_of r in
        let opens_it : Opens s.device m = subst (λ (l : List ℕ). Opens l m) (sym device_is) (open_opens (encode_utf8_all plan.device) m (control_is r.body 1 refl)) in
        let m_short : length m ≤ piece_limit = omega (arith, text_is_short (new_message r) (tlv_text (inputs_of r.body)), served.device) in
        let t = own_goes s near modem plan.timeout false (λ space. 0) r nothing_said [] (own_head r) (result_tlv 0) t_start opens_it.decides m_short (ap (result_reply m) opens_it.error ∙ own_text r 0) refl refl refl refl in
        let opened : Through s near modem plan.timeout true (λ space. 0) t.later [] = subst (λ (b : Bool). Through s near modem plan.timeout b (λ space. 0) t.later []) (rw (opens_it.fine, opens_it.opening) refl) t.goes_on in
        let good : succeeds (request.ProxyOpen plan.device) t.placed.bytes ≡ true = ap (succeeds (request.ProxyOpen plan.device)) t.bytes ∙ opened_reply r in
        let is : proxy_at at_proxy plan ≡ choose_at at_proxy plan 2 t.later =
        t.is unanswered (λ before message talk. if succeeds (request.ProxyOpen plan.device) message.bytes then choose_at at_proxy plan 2 talk else finish (OfAnswer (request.ProxyOpen plan.device) None message) talk)
        ∙ ap (λ (b : Bool). if b then choose_at at_proxy plan 2 t.later else finish (OfAnswer (request.ProxyOpen plan.device) None t.placed) t.later) good
        in
        subst (λ (f : Finish LastWord). IsAlike (choose_at at_modem plan 1 nothing_said) f) (sym is) (chosen_alike nothing_said t.later d_start opened)

pub sessions_end_alike : SessionsEndAlike
unfolding session_at
sessions_end_alike s modem plan near device served = (sessions_alike s near modem plan device served).0

pub sessions_may_come : SessionsMayCome
unfolding session_at
sessions_may_come s modem plan near device served = (sessions_alike s near modem plan device served).1.2.stands.sound
