-- A session at a simulated QMI modem itself, and carried by a simulated MBIM modem.
use Rattle.std.proofs.Common.{◌≡◌, ℕ, ◌+◌, ◌<◌, ◌≤◌, ◌^◌, Bool, true, false, ◌==◌, if◌then◌else◌, List, [], ◌∷◌, length, Option, Some, None, refl, ap, sym, ◌∙◌, arith, subst}
use Rattle.std.specs.Prelude.{unwrap_or}
use Rattle.tlv_codec.specs.Tlv.{tlv_text}
use Rattle.framing.specs.Cutting.{cut_from}
use Rattle.qmux_frame.specs.Head.{is_framed, tlvs_in}
use Rattle.qmux_frame.specs.Writing.{message_text}
use Rattle.link_session.specs.Marks.{Placed}
use Rattle.link_session.specs.Peer.{Peer, Talk, Finish, ask_then, nothing_said}
use Rattle.qmi_requests.specs.declared.QmiRequest.{QmiRequest}
use Rattle.qmi_requests.specs.declared.QmiRequest.TheVariants as request
use Rattle.qmi_services.specs.Requests.{inputs_of}
use Rattle.device_core.specs.declared.plan.QmiPlan.{QmiPlan}
use Rattle.device_core.specs.Requests.{Request, asked, message_of, new_message}
use Rattle.device_core.specs.Session.{service, allocate, allocated_in, command, release}
use Rattle.device_core.specs.Verdict.{reads, succeeds}
use Rattle.device_core.specs.Peer as direct
use Rattle.device_core.specs.Peer.{session_at}
use Rattle.tunnel_session.specs.Peer.{LastWord, OfAnswer, close_at, carry_then, finish, release_at, leave_at, command_at, take_at, allocate_at, given_at, choose_at, tunnel_at}
use Rattle.lone_client.specs.Relay.{Answering, directly, asked_by}
use Rattle.twin_sessions.specs.QmiServing.{Answers, first_command, IsServed}
use Rattle.twin_sessions.proofs.QmiMessages.{text_is_short}
use Rattle.twin_sessions.proofs.QmiSteps.{Direct, direct_goes, is_response_text}
use Rattle.modem_profile.specs.Profile.{Profile}
use Rattle.sim_modem.specs.Sim.{answers}
use Rattle.sim_qmi.specs.Modem.{machine}
use Rattle.relays.specs.QmiLaw.{IsPlan}
use Rattle.relays.specs.QmiRuns as relay
use Rattle.relays.specs.QmiRuns.{direct_run, setup_of}
use Rattle.relays.proofs.QmiServed.{is_served}
use Rattle.relays.specs.TunnelLaw.{Alike, SessionsEndAlike}
use Rattle.relays.proofs.TunnelSteps.{carrier_peer, Stands, opened, closed, carried}

alike_by : {a a' : Finish direct.LastWord} {b b' : Finish LastWord} → a ≡ a' → b ≡ b' → Alike a'.end b'.end → Alike a.end b.end
alike_by {a' = a'} {b = b} is_a is_b same = subst (λ (f : Finish direct.LastWord). Alike f.end b.end) (sym is_a) (subst (λ (f : Finish LastWord). Alike a'.end f.end) (sym is_b) same)

module _ (profile : Profile) (plan : QmiPlan) where
  abbrev d_peer : Peer
  d_peer = directly (relay.simulated profile plan)

  abbrev t_peer : Peer
  t_peer = carrier_peer profile plan

  abbrev qmi : Answering
  qmi = answers (machine profile)

  -- the modem that was asked these messages, itself and inside the other one
  record Both (d_talk t_talk : Talk) (met : List (List ℕ)) : Type 0 where
    direct : Direct (setup_of plan) refl qmi plan.timeout d_talk met
    carried : Stands profile plan t_talk met

  -- so it is with CLOSE behind
  closes : (word : direct.LastWord) (other : LastWord) (number : ℕ) (t_talk : Talk) (met : List (List ℕ)) → number < 2 ^ 32 → Stands profile plan t_talk met → Alike word other → Alike word (close_at t_peer other number plan.timeout t_talk).end
  closes word other number t_talk met small stands same = subst (Alike word) (sym (closed profile plan number small t_talk met stands other)) same

  -- ---- one request ----

  -- these bytes answer it, itself and inside
  record Goes (r : Request) (number : ℕ) (d_talk t_talk : Talk) (met : List (List ℕ)) (x : List ℕ) : Type 0 where
    d_placed : Placed
    t_placed : Placed
    d_bytes : d_placed.bytes ≡ x
    t_bytes : t_placed.bytes ≡ x
    d_later : Talk
    t_later : Talk
    d_is : (next : List Placed → Placed → Talk → Finish direct.LastWord) → ask_then d_peer (asked plan.timeout r) d_talk direct.unanswered next ≡ next [] d_placed d_later
    t_is : (next : Placed → Talk → Finish LastWord) → carry_then t_peer r number plan.timeout t_talk next ≡ next t_placed t_later
    both : Both d_later t_later (message_of r ∷ met)

  goes : (r : Request) (number : ℕ) (d_talk t_talk : Talk) (met : List (List ℕ)) → number < 2 ^ 32 → Both d_talk t_talk met → length (tlv_text (inputs_of r.body)) ≤ 8000 → (a : Answers qmi met (message_of r)) → Goes r number d_talk t_talk met (message_text a.response a.tlvs)
  unfolding message_of
  goes r number d_talk t_talk met small both inputs a =
      let d = direct_goes (setup_of plan) refl qmi plan.timeout r d_talk met both.direct a in
      let t = carried profile plan r number small t_talk met both.carried (omega (arith, text_is_short (new_message r) (tlv_text (inputs_of r.body)), inputs)) a in
      record {
        d_placed = d.placed;
        t_placed = t.placed;
        d_bytes = d.bytes;
        t_bytes = t.bytes;
        d_later = d.later;
        t_later = t.later;
        d_is = λ next. d.is direct.unanswered next;
        t_is = t.is;
        both = record { direct = d.goes_on; carried = t.stands };
      }

  -- ---- the client id is given back ----

  module _ (cid control number : ℕ) (small : number + 1 < 2 ^ 32) (d_talk t_talk : Talk) (met : List (List ℕ)) (both : Both d_talk t_talk met) (a : Answers qmi met (message_of (release plan cid control))) (dm tm : Placed) (same : dm.bytes ≡ tm.bytes) where
    released : Alike (direct.release_at d_peer plan cid control dm d_talk).end (release_at t_peer plan cid control tm number t_talk).end
    released =
        let g = goes (release plan cid control) number d_talk t_talk met (omega (arith, small)) both (omega arith) a in
        let framed : is_framed g.d_placed.bytes ≡ true = ap is_framed g.d_bytes ∙ (is_response_text a.response a.tlvs a.flags).framed in
        let ended : Finish direct.LastWord = direct.finish (direct.OfAnswer plan.request None dm) g.d_later in
        alike_by
        (g.d_is (λ before last talk. if is_framed last.bytes then direct.finish (direct.OfAnswer plan.request None dm) talk else direct.finish (direct.Unframed last) talk)
        ∙ ap (λ (b : Bool). if b then ended else direct.finish (direct.Unframed g.d_placed) g.d_later) framed)
        (g.t_is (λ message talk. close_at t_peer (OfAnswer plan.request None tm) (number + 1) plan.timeout talk))
        (closes (direct.OfAnswer plan.request None dm) (OfAnswer plan.request None tm) (number + 1) g.t_later (message_of (release plan cid control) ∷ met) small g.both.carried (refl, refl, same))

    -- the session is left
    left_some : (service plan == 0) ≡ false → Alike (direct.leave_at d_peer plan cid control dm d_talk).end (leave_at t_peer plan cid control tm number t_talk).end
    left_some some =
        let d_none : Finish direct.LastWord = direct.finish (direct.OfAnswer plan.request None dm) d_talk in
        let d_kept : Finish direct.LastWord = direct.finish (direct.OfAnswer plan.request (Some (service plan, cid)) dm) d_talk in
        let t_none : Finish LastWord = close_at t_peer (OfAnswer plan.request None tm) number plan.timeout t_talk in
        let t_kept : Finish LastWord = close_at t_peer (OfAnswer plan.request (Some (service plan, cid)) tm) number plan.timeout t_talk in
        let d_released : Finish direct.LastWord = direct.release_at d_peer plan cid control dm d_talk in
        let t_released : Finish LastWord = release_at t_peer plan cid control tm number t_talk in
        let kept : (b : Bool) → Alike (if b then d_kept else d_released).end (if b then t_kept else t_released).end =
        λ b. elim b as (λ b. Alike (if b then d_kept else d_released).end (if b then t_kept else t_released).end) [
          | true ↦ closes (direct.OfAnswer plan.request (Some (service plan, cid)) dm) (OfAnswer plan.request (Some (service plan, cid)) tm) number t_talk met (omega (arith, small)) both.carried (refl, refl, same)
          | false ↦ released
        ]
        in
        subst (λ (z : Bool). Alike (if z then d_none else if plan.keep then d_kept else d_released).end (if z then t_none else if plan.keep then t_kept else t_released).end) (sym some) (kept plan.keep)

  -- a command of service 0 leaves nothing to give back
  left_none : (cid control number : ℕ) (d_talk t_talk : Talk) (met : List (List ℕ)) → number < 2 ^ 32 → Both d_talk t_talk met → (dm tm : Placed) → dm.bytes ≡ tm.bytes → (service plan == 0) ≡ true
      → Alike (direct.leave_at d_peer plan cid control dm d_talk).end (leave_at t_peer plan cid control tm number t_talk).end
  left_none cid control number d_talk t_talk met small both dm tm same none =
      alike_by
      (ap (λ (z : Bool). if z then direct.finish (direct.OfAnswer plan.request None dm) d_talk else if plan.keep then direct.finish (direct.OfAnswer plan.request (Some (service plan, cid)) dm) d_talk else direct.release_at d_peer plan cid control dm d_talk) none)
      (ap (λ (z : Bool). if z then close_at t_peer (OfAnswer plan.request None tm) number plan.timeout t_talk else if plan.keep then close_at t_peer (OfAnswer plan.request (Some (service plan, cid)) tm) number plan.timeout t_talk else release_at t_peer plan cid control tm number t_talk) none)
      (closes (direct.OfAnswer plan.request None dm) (OfAnswer plan.request None tm) number t_talk met small both.carried (refl, refl, same))

  -- ---- the command ----

  module _ (is : IsPlan plan) where
    -- the answer is read, and the session is left where it reads
    module _ (cid control number : ℕ) (small : number < 2 ^ 32) (d_talk t_talk : Talk) (met : List (List ℕ)) (both : Both d_talk t_talk met) (a : Answers qmi met (message_of (command plan cid control)))
        (left : (d_later t_later : Talk) (dm tm : Placed) → Both d_later t_later (message_of (command plan cid control) ∷ met) → dm.bytes ≡ tm.bytes
        → Alike (direct.leave_at d_peer plan cid control dm d_later).end (leave_at t_peer plan cid control tm (number + 1) t_later).end) where
      commanded : Alike (direct.command_at d_peer plan cid control d_talk).end (command_at t_peer plan cid control number t_talk).end
      commanded =
          let g = goes (command plan cid control) number d_talk t_talk met small both is.inputs a in
          let same : g.d_placed.bytes ≡ g.t_placed.bytes = g.d_bytes ∙ sym g.t_bytes in
          let d_left : Finish direct.LastWord = direct.leave_at d_peer plan cid control g.d_placed g.d_later in
          let t_left : Finish LastWord = leave_at t_peer plan cid control g.t_placed (number + 1) g.t_later in
          let d_end : Finish direct.LastWord = direct.finish (direct.OfAnswer plan.request None g.d_placed) g.d_later in
          let t_end : Finish LastWord = finish (OfAnswer plan.request None g.t_placed) g.t_later in
          let read_so : (b : Bool) → Alike (if b then d_left else d_end).end (if b then t_left else t_end).end =
          λ b. elim b as (λ b. Alike (if b then d_left else d_end).end (if b then t_left else t_end).end) [ true ↦ left g.d_later g.t_later g.d_placed g.t_placed g.both same | false ↦ (refl, refl, same) ]
          in
          alike_by
          (g.d_is (λ before message talk. if reads plan.request message.bytes then direct.leave_at d_peer plan cid control message talk else direct.finish (direct.OfAnswer plan.request None message) talk)
          ∙ ap (λ (b : Bool). if b then d_left else d_end) (ap (reads plan.request) same))
          (g.t_is (λ message talk. if reads plan.request message.bytes then leave_at t_peer plan cid control message (number + 1) talk else finish (OfAnswer plan.request None message) talk))
          (read_so (reads plan.request g.t_placed.bytes))

    module _ (served : IsServed qmi plan) where
      -- with a client id
      commanded_some : (some : (service plan == 0) ≡ false) (cid control number : ℕ) → control < 256 → number + 2 < 2 ^ 32 → (d_talk t_talk : Talk) (met : List (List ℕ)) → Both d_talk t_talk met → Answers qmi met (message_of (first_command plan cid))
          → Alike (direct.command_at d_peer plan cid control d_talk).end (command_at t_peer plan cid control number t_talk).end
      commanded_some some cid control number low small d_talk t_talk met both a =
          let first : command plan cid control ≡ first_command plan cid = ap (λ (b : Bool). let r : Request = record { body = plan.request; cid = cid; number = if b then control else 1 } in r) some in
          commanded cid control number (omega (arith, small)) d_talk t_talk met both (subst (λ (r : Request). Answers qmi met (message_of r)) (sym first) a)
          (λ d_later t_later dm tm later same.
          left_some cid control (number + 1) (omega (arith, small)) d_later t_later (message_of (command plan cid control) ∷ met) later ((served.services some).releases cid control low (message_of (command plan cid control) ∷ met)) dm tm same some)

      commanded_none : (none : (service plan == 0) ≡ true) (d_talk t_talk : Talk) → Both d_talk t_talk [] → Alike (direct.command_at d_peer plan 0 1 d_talk).end (command_at t_peer plan 0 1 2 t_talk).end
      commanded_none none d_talk t_talk both =
          let only : command plan 0 1 ≡ first_command plan 0 = ap (λ (b : Bool). let r : Request = record { body = plan.request; cid = 0; number = if b then 1 else 1 } in r) none in
          commanded 0 1 2 (omega arith) d_talk t_talk [] both (subst (λ (r : Request). Answers qmi [] (message_of r)) (sym only) (served.versions none).answers)
          (λ d_later t_later dm tm later same. left_none 0 1 3 d_later t_later (message_of (command plan 0 1) ∷ []) (omega arith) later dm tm same none)

      -- ---- a client id is allocated ----

      allocated : (some : (service plan == 0) ≡ false) (d_talk t_talk : Talk) → Both d_talk t_talk [] → Alike (direct.allocate_at d_peer plan 1 d_talk).end (allocate_at t_peer plan 2 t_talk).end
      allocated some d_talk t_talk both =
          let body : QmiRequest = request.Allocate (service plan) in
          let a = (served.services some).allocates in
          let g = goes (allocate plan 1) 2 d_talk t_talk [] (omega arith) both (omega arith) a in
          let same : g.d_placed.bytes ≡ g.t_placed.bytes = g.d_bytes ∙ sym g.t_bytes in
          let id_in : List ℕ → ℕ = λ l. unwrap_or (allocated_in (tlvs_in l)) 0 in
          let id_is : id_in g.t_placed.bytes ≡ 1 = ap id_in g.t_bytes ∙ ap (λ (l : List ℕ). unwrap_or (allocated_in l) 0) (is_response_text a.response a.tlvs a.flags).tlvs_are ∙ ap (λ (o : Option ℕ). unwrap_or o 0) (served.services some).brings in
          let d_end : Finish direct.LastWord = direct.finish (direct.OfAnswer body None g.d_placed) g.d_later in
          let t_end : Finish LastWord = finish (OfAnswer body None g.t_placed) g.t_later in
          let t_closed : Finish LastWord = close_at t_peer (OfAnswer body None g.t_placed) 3 plan.timeout g.t_later in
          let d_goes : (l : List ℕ) → Finish direct.LastWord = λ l. direct.command_at d_peer plan (id_in l) 2 g.d_later in
          let t_goes : (l : List ℕ) → Finish LastWord = λ l. command_at t_peer plan (id_in l) 2 3 g.t_later in
          let refused : (b : Bool) → Alike d_end.end (if b then t_closed else t_end).end =
          λ b. elim b as (λ b. Alike d_end.end (if b then t_closed else t_end).end) [
            | true ↦ closes (direct.OfAnswer body None g.d_placed) (OfAnswer body None g.t_placed) 3 g.t_later (message_of (allocate plan 1) ∷ []) (omega arith) g.both.carried (refl, refl, same)
            | false ↦ (refl, refl, same)
          ]
          in
          let with_id : Alike (d_goes g.t_placed.bytes).end (t_goes g.t_placed.bytes).end =
          subst (λ (c : ℕ). Alike (direct.command_at d_peer plan c 2 g.d_later).end (command_at t_peer plan c 2 3 g.t_later).end) (sym id_is)
          (commanded_some some 1 2 3 (omega arith) (omega arith) g.d_later g.t_later (message_of (allocate plan 1) ∷ []) g.both (served.services some).allocated)
          in
          let read_so : (b : Bool) → Alike (if b then d_goes g.t_placed.bytes else d_end).end (if b then t_goes g.t_placed.bytes else if reads body g.t_placed.bytes then t_closed else t_end).end =
          λ b. elim b as (λ b. Alike (if b then d_goes g.t_placed.bytes else d_end).end (if b then t_goes g.t_placed.bytes else if reads body g.t_placed.bytes then t_closed else t_end).end) [
            | true ↦ with_id
            | false ↦ refused (reads body g.t_placed.bytes)
          ]
          in
          alike_by
          (g.d_is (λ before message talk. if succeeds body message.bytes then direct.command_at d_peer plan (unwrap_or (allocated_in (tlvs_in message.bytes)) 0) 2 talk else direct.finish (direct.OfAnswer body None message) talk)
          ∙ ap (λ (l : List ℕ). if succeeds body l then d_goes l else d_end) same)
          (g.t_is (λ message talk. take_at t_peer plan message 3 talk))
          (read_so (succeeds body g.t_placed.bytes))

      -- ---- the whole session ----

      chosen : (d_talk t_talk : Talk) → Both d_talk t_talk [] → Alike (direct.choose_at d_peer plan 1 d_talk).end (choose_at t_peer plan 2 t_talk).end
      chosen d_talk t_talk both =
          let by : (z : Bool) → (service plan == 0) ≡ z → Alike (if z then direct.command_at d_peer plan 0 1 d_talk else direct.given_at d_peer plan plan.cid 1 d_talk).end (if z then command_at t_peer plan 0 1 2 t_talk else given_at t_peer plan plan.cid 2 t_talk).end =
          λ z. elim z as (λ z. (service plan == 0) ≡ z → Alike (if z then direct.command_at d_peer plan 0 1 d_talk else direct.given_at d_peer plan plan.cid 1 d_talk).end (if z then command_at t_peer plan 0 1 2 t_talk else given_at t_peer plan plan.cid 2 t_talk).end) [
            | true ↦ λ none. commanded_none none d_talk t_talk both
            | false ↦ λ some. by_id some plan.cid
          ]
          in by (service plan == 0) refl
        where
          by_id : (some : (service plan == 0) ≡ false) (cid : Option ℕ) → Alike (direct.given_at d_peer plan cid 1 d_talk).end (given_at t_peer plan cid 2 t_talk).end
          by_id some None = allocated some d_talk t_talk both
          by_id some (Some cid) = commanded_some some cid 1 2 (omega arith) (omega arith) d_talk t_talk [] both ((served.services some).given cid)

  d_start : Direct (setup_of plan) refl qmi plan.timeout nothing_said []
  unfolding cut_from asked_by
  d_start = record { left = refl; whole = refl; before_is = refl }

pub sessions_end_alike : SessionsEndAlike
unfolding session_at tunnel_at
sessions_end_alike profile plan within sound is =
    let o = opened profile plan in
    subst (λ (f : Finish LastWord). Alike (direct_run profile plan).end f.end) (sym o.is) (chosen profile plan is (is_served profile plan within sound is) nothing_said o.later (record { direct = d_start profile plan; carried = o.stands }))
