-- One request of a carried session at a simulated modem. Lists of messages have the newest first.
use Rattle.std.proofs.Common.{◌≡◌, ℕ, ◌<◌, ◌≤◌, ◌^◌, Bool, true, false, ◌&&◌, ◌||◌, ◌==◌, if◌then◌else◌, List, [], ◌∷◌, ◌++◌, length, reverse, refl, ap, sym, ◌∙◌, arith, append-nil, Some, None}
use Rattle.std.specs.Prelude.{is_some}
use Rattle.std.specs.List.{concat}
use Rattle.std.proofs.lemmas.Bool.{eq-eqb}
use Rattle.std.proofs.lemmas.List.{reverse-append}
use Rattle.framing.specs.Framing.{IsMessage}
use Rattle.framing.specs.Cutting.{Cutting, cut_from}
use Rattle.qmux_frame.specs.Head.{is_framed}
use Rattle.qmux_frame.specs.Writing.{message_text}
use Rattle.mbim_frame.specs.declared.kind.MessageKind.{MessageKind}
use Rattle.mbim_frame.specs.declared.kind.MessageKind.TheVariants as kind
use Rattle.mbim_frame.specs.declared.status.TheConstants.{SUCCESS}
use Rattle.mbim_frame.specs.Numbers.{u32_bytes}
use Rattle.mbim_frame.specs.Frame.{size_of, mbim_cut}
use Rattle.mbim_frame.specs.Framing.{size_of-kept, size_of-positive}
use Rattle.mbim_frame.specs.Kinds.{kind_number}
use Rattle.mbim_frame.specs.Head.{number_of}
use Rattle.mbim_frame.specs.Bodies.{buffer_of, command_text, done_head_of, is_done, status_of}
use Rattle.mbim_frame.specs.declared.bodies.DoneHead.{DoneHead}
use Rattle.mbim_frame.proofs.ReadBack.{done_is_read}
use Rattle.mbim_frame.specs.Writing.{open_request, open_done, close_request, close_done}
use Rattle.mbim_requests.specs.declared.MbimRequest.TheVariants.{QueryRadioState}
use Rattle.link_session.specs.declared.waiting.Meaning.TheVariants as meaning
use Rattle.link_session.specs.Marks.{Mark, Placed}
use Rattle.link_session.specs.Asking.{Asked}
use Rattle.link_session.specs.Peer.{Peer, Talk, Turn, Finish, ask, nothing_said}
use Rattle.qmi_tunnel.specs.declared.service.TheConstants.{QMI_SERVICE, QMI_MESSAGE}
use Rattle.device_core.specs.declared.plan.QmiPlan.{QmiPlan}
use Rattle.device_core.specs.declared.wanted.Wanted.{Wanted}
use Rattle.device_core.specs.Requests.{Request, answers, message_of, wanted_by}
use Rattle.mbim_session.specs.Requests.{closing, commanding, opening, begins_at, is_error, is_of, judge_by, pieces}
use Rattle.mbim_session.specs.Answers.{body_with}
use Rattle.mbim_session.specs.Peer.{opens}
use Rattle.tunnel_session.specs.Requests.{carried_message, carrying}
use Rattle.tunnel_session.specs.Carried.{carried_in, done_in, error_in, is_reply}
use Rattle.tunnel_session.specs.Peer.{LastWord, OfOpen, came_then, carry_then, choose_at, close_at, finish, open_at, unanswered}
use Rattle.lone_client.specs.Relay.{sent_for, asked_then, asked_by, directly, to_newest}
use Rattle.lone_client.specs.MbimLaw.{IsShort, done_bytes}
use Rattle.lone_client.proofs.Fragments.{one_message}
use Rattle.lone_client.proofs.Turns.{command_is_cut, number_behind, plain_is_message}
use Rattle.twin_sessions.specs.QmiServing.{Answers}
use Rattle.twin_sessions.proofs.Asking.{IsWhole, IsAnsweredBy, answered_by_one, goes_on, one_said}
use Rattle.twin_sessions.proofs.QmiMessages.{is_read}
use Rattle.twin_sessions.proofs.QmiSteps.{answers_it, is_response_text}
use Rattle.twin_sessions.specs.MbimServing.{messages_of}
use Rattle.twin_sessions.proofs.MbimSteps.{command_answered, done_before, done_body, done_message, no_error}
use Rattle.modem_profile.specs.Profile.{Profile}
use Rattle.sim_tunnel.specs.Carrying.{State, carrier, exchange_at}
use Rattle.relays.specs.TunnelRuns.{simulated}
use Rattle.relays.proofs.TunnelCarrying.{after, done_of, heard_messages, heard_state, inside, is_one, modem, state_of}

-- says to anything what a peer says to this text
abbrev whatever_is_said : Peer → Talk → (text : List ℕ) → Peer
whatever_is_said peer talk text texts = peer (talk.texts ++ text ∷ [])

-- a request that is answered there is answered so at the peer, where its text is this one
as_asked : (peer : Peer) (asked : Asked) (text : List ℕ) (talk : Talk) (before : List Placed) (message : Placed) (left : List Mark)
    → IsAnsweredBy size_of (whatever_is_said peer talk text) asked talk before message left → IsAnsweredBy size_of peer (record asked { text = text }) talk before message left
unfolding ask
as_asked peer asked text talk before message left by = record {
  later = record { texts = talk.texts ++ text ∷ []; heard = by.later.heard };
  ask_is = ap (λ (t : Turn). let turn : Turn = record { outcome = t.outcome; talk = record { texts = talk.texts ++ text ∷ []; heard = t.talk.heard } } in turn) by.ask_is;
  texts = refl;
  left_is = by.left_is;
  whole = by.whole;
}

-- what is there is there by a test that holds
held_by : {A : Type 0} (b : Bool) (x : A) → is_some (if b then Some x else None) ≡ true → b ≡ true
held_by true x is = refl
held_by false x is = absurd (cc)

-- an answer that a DONE carries is what the session goes on with
answer_goes : (wanted : Wanted) (begin : ℕ) (body : List ℕ) (later : Talk) (next : Placed → Talk → Finish LastWord) → is_done body ≡ true → (status_of body == 0) ≡ true → is_reply wanted (buffer_of body) ≡ true
    → came_then (done_in wanted begin body) later next ≡ next (record { place = begin; bytes = buffer_of body }) later
answer_goes wanted begin body later next reads status reply = rw (reads, status, reply) refl

-- the DONE to an OPEN or a CLOSE answers it
judged : (done : MessageKind) (number : ℕ) (d : List ℕ) → is_of done number d ≡ true → (before : List Placed) (q : Placed) → q.bytes ≡ d → judge_by done number before q ≡ meaning.Answer
judged done number d is before q bytes =
    ap (λ (l : List ℕ). if is_of done number l || is_error number l then meaning.Answer else meaning.NoAnswer) bytes
    ∙ ap (λ (b : Bool). if b || is_error number d then meaning.Answer else meaning.NoAnswer) is

module _ (profile : Profile) (plan : QmiPlan) where
  abbrev pub carrier_peer : Peer
  carrier_peer = directly (simulated profile plan)

  -- nothing is left, and the modem is open and has carried these messages
  pub record Stands (talk : Talk) (met : List (List ℕ)) : Type 0 where
    pub left : talk.heard.left ≡ []
    pub whole : IsWhole size_of talk.heard.taken
    pub state : after profile (asked_by size_of (reverse talk.texts)) ≡ state_of profile [] met

  -- ---- a text of these messages ----

  module _ (talk : Talk) (text : List ℕ) (messages : List (List ℕ)) (cuts : (mbim_cut text).messages ≡ messages) where
    abbrev asked_before : List (List ℕ)
    asked_before = asked_by size_of (reverse talk.texts)

    newest : reverse (talk.texts ++ text ∷ []) ≡ text ∷ reverse talk.texts
    newest = reverse-append talk.texts (text ∷ [])

    said_to : carrier_peer (talk.texts ++ text ∷ []) ≡ concat (sent_for size_of (modem profile) asked_before messages)
    said_to =
        ap (to_newest (λ t before. concat (sent_for size_of (modem profile) (asked_by size_of before) (mbim_cut t).messages))) newest
        ∙ ap (λ (l : List (List ℕ)). concat (sent_for size_of (modem profile) asked_before l)) cuts

    asked_later : (later : Talk) → later.texts ≡ talk.texts ++ text ∷ [] → asked_by size_of (reverse later.texts) ≡ asked_then asked_before messages
    unfolding asked_by
    asked_later later texts = ap (λ (l : List (List ℕ)). asked_by size_of (reverse l)) texts ∙ ap (asked_by size_of) newest ∙ ap (asked_then asked_before) cuts

  -- ---- a message that is answered by one ----

  module _ (talk : Talk) (text d : List ℕ) (text_is : IsMessage size_of text) (d_is : IsMessage size_of d) (says : modem profile (asked_by size_of (reverse talk.texts)) text ≡ d) where
    one_cut : (mbim_cut text).messages ≡ text ∷ []
    one_cut = ap (λ (c : Cutting). c.messages) (one_message text text_is)

    one_reply : carrier_peer (talk.texts ++ text ∷ []) ≡ d
    unfolding sent_for
    one_reply =
        said_to talk text (text ∷ []) one_cut
        ∙ ap (λ (l : List ℕ). concat ((mbim_cut l).messages ++ [])) says
        ∙ ap (λ (c : Cutting). concat (c.messages ++ [])) (one_message d d_is)
        ∙ append-nil d

    module _ (asked : Asked) (same : asked.size ≡ size_of) (whole : IsWhole size_of talk.heard.taken) (left : talk.heard.left ≡ []) (answered : (before : List Placed) (q : Placed) → q.bytes ≡ d → asked.wait.judge before q ≡ meaning.Answer) where
      abbrev with_it : Asked
      with_it = record asked { text = text }

      abbrev one_answer : Placed
      one_answer = one_said size_of size_of-kept size_of-positive refl carrier_peer with_it same talk whole d

      answered_so : IsAnsweredBy size_of carrier_peer with_it talk [] one_answer []
      answered_so =
          answered_by_one size_of size_of-kept size_of-positive refl carrier_peer with_it same talk whole d d_is one_reply [] left
          (record { each = tt; quiets = omega arith; messages = omega arith }) (answered [] one_answer refl)

  -- ---- OPEN ----

  abbrev open_1 : List ℕ
  open_1 = open_request 1 4096

  abbrev opened_1 : List ℕ
  opened_1 = open_done 1 SUCCESS

  open_is : IsMessage size_of open_1
  open_is = plain_is_message (kind_number kind.Open) 1 (u32_bytes 4096) (omega arith) (omega arith) (omega arith)

  opened_is : IsMessage size_of opened_1
  opened_is = plain_is_message (kind_number kind.OpenDone) 1 (u32_bytes SUCCESS) (omega arith) (omega arith) (omega arith)

  pub record Opened : Type 0 where
    pub later : Talk
    pub is : open_at carrier_peer plan 1 nothing_said ≡ choose_at carrier_peer plan 2 later
    pub stands : Stands later []

  pub opened : Opened
  unfolding cut_from asked_by asked_then
  opened =
      let by = answered_so nothing_said open_1 opened_1 open_is opened_is refl (opening 1 plan.timeout) refl refl refl (judged kind.OpenDone 1 opened_1 refl) in
      record {
        later = by.later;
        is =
            goes_on size_of carrier_peer (opening 1 plan.timeout) nothing_said [] _ [] by unanswered
            (λ before message talk. if opens 1 message.bytes then choose_at carrier_peer plan 2 talk else finish (OfOpen 1 message) talk);
        stands = record {
          left = by.left_is;
          whole = by.whole;
          state = ap (after profile) (asked_later nothing_said open_1 (open_1 ∷ []) (one_cut nothing_said open_1 opened_1 open_is opened_is refl) by.later by.texts);
        };
      }

  -- ---- CLOSE ----

  module _ (number : ℕ) (number_fits : number < 2 ^ 32) (talk : Talk) (met : List (List ℕ)) (stands : Stands talk met) where
    abbrev close_text : List ℕ
    close_text = close_request number

    abbrev closed_text : List ℕ
    closed_text = close_done number SUCCESS

    close_is : IsMessage size_of close_text
    close_is = plain_is_message (kind_number kind.Close) number [] (omega arith) number_fits (omega arith)

    closed_is : IsMessage size_of closed_text
    closed_is = plain_is_message (kind_number kind.CloseDone) number (u32_bytes SUCCESS) (omega arith) number_fits (omega arith)

    close_number : number_of close_text ≡ number
    close_number = number_behind number [] number_fits

    close_says : modem profile (asked_by size_of (reverse talk.texts)) close_text ≡ closed_text
    close_says =
        ap (λ (s : State). (exchange_at (inside profile) close_text s).text) stands.state
        ∙ ap (λ (n : ℕ). close_done n SUCCESS) close_number

    close_judged : is_of kind.CloseDone number closed_text ≡ true
    close_judged = eq-eqb (number_of closed_text) number (number_behind number (u32_bytes SUCCESS) number_fits)

    pub closed : (word : LastWord) → (close_at carrier_peer word number plan.timeout talk).end ≡ word
    closed word =
        let by = answered_so talk close_text closed_text close_is closed_is close_says (closing number plan.timeout) refl stands.whole stands.left (judged kind.CloseDone number closed_text close_judged) in
        ap (λ (f : Finish LastWord). f.end) (goes_on size_of carrier_peer (closing number plan.timeout) talk [] _ [] by unanswered (λ before message talk. finish word talk))

  -- ---- a request that is carried ----

  -- what the modem inside answers is carried back, and the session goes on with it
  pub record Carries (r : Request) (number : ℕ) (talk : Talk) (x : List ℕ) (met : List (List ℕ)) : Type 0 where
    pub placed : Placed
    pub bytes : placed.bytes ≡ x
    pub later : Talk
    pub is : (next : Placed → Talk → Finish LastWord) → carry_then carrier_peer r number plan.timeout talk next ≡ next placed later
    pub stands : Stands later (message_of r ∷ met)

  module _ (r : Request) (number : ℕ) (number_fits : number < 2 ^ 32) (talk : Talk) (met : List (List ℕ)) (stands : Stands talk met) (short : length (message_of r) ≤ 65508) (a : Answers (inside profile) met (message_of r)) where
    abbrev x : List ℕ
    x = message_text a.response a.tlvs

    abbrev done : List ℕ
    done = done_of x

    abbrev wanted : Wanted
    wanted = wanted_by r

    done_short : IsShort done
    done_short = omega (arith, a.short)

    abbrev command : List ℕ
    command = command_text carrier (message_of r)

    abbrev sent_text : List ℕ
    sent_text = carried_message (message_of r) number

    sent_cut : (mbim_cut sent_text).messages ≡ messages_of number command
    unfolding carried_message
    sent_cut = ap (λ (c : Cutting). c.messages) (command_is_cut number command number_fits (omega (arith, short)))

    abbrev past : List (List ℕ)
    past = asked_by size_of (reverse talk.texts)

    reply_is : carrier_peer (talk.texts ++ sent_text ∷ []) ≡ done_bytes number done ++ []
    reply_is =
        said_to talk sent_text (messages_of number command) sent_cut
        ∙ ap (λ (l : List (List ℕ)). concat l) (heard_messages profile past met stands.state number number_fits (message_of r) (is_read r).is_message short x (is_response_text a.response a.tlvs a.flags).is_message a.replies done_short)
        ∙ sym (append-nil (done_bytes number done))

    -- as the answer to any command
    abbrev any_peer : Peer
    any_peer = whatever_is_said carrier_peer talk sent_text

    abbrev before : List Placed
    before = done_before any_peer QueryRadioState plan.timeout number number_fits talk stands.whole stands.left done done_short [] tt reply_is

    abbrev last : Placed
    last = done_message any_peer QueryRadioState plan.timeout number number_fits talk stands.whole stands.left done done_short [] tt reply_is

    by : IsAnsweredBy size_of carrier_peer (carrying r number plan.timeout) talk before last []
    by =
        as_asked carrier_peer (commanding QueryRadioState number plan.timeout) sent_text talk before last []
        (command_answered any_peer QueryRadioState plan.timeout number number_fits talk stands.whole stands.left done done_short [] tt reply_is)

    -- ---- what it reads as ----

    is_answer : is_reply wanted x ≡ true
    is_answer =
        let response = is_response_text a.response a.tlvs a.flags in
        let read = is_read r in
        ap (λ (b : Bool). b && is_framed x && answers wanted x) (is_one x response.is_message)
        ∙ ap (λ (b : Bool). b && answers wanted x) response.framed
        ∙ answers_it r a.response a.tlvs a.flags (a.service ∙ read.service) (a.cid ∙ read.cid) (a.number ∙ read.number)

    abbrev begin : ℕ
    begin = begins_at (pieces number before) last

    done_reads : is_done done ≡ true
    done_reads =
        let head : DoneHead = record { uuid = QMI_SERVICE; cid = QMI_MESSAGE; status = SUCCESS } in
        held_by (is_done done) (done_head_of done) (ap is_some (done_is_read head x refl (omega arith) (omega arith) (omega (arith, a.short))).head_is)

    came : carried_in wanted number before last ≡ done_in wanted begin done
    came =
        ap (λ (b : Bool). if b then error_in last else done_in wanted begin (body_with (pieces number before) last))
        (no_error any_peer QueryRadioState plan.timeout number number_fits talk stands.whole stands.left done done_short [] tt reply_is)
        ∙ ap (done_in wanted begin) (done_body any_peer QueryRadioState plan.timeout number number_fits talk stands.whole stands.left done done_short [] tt reply_is)

    goes_so : (later : Talk) (next : Placed → Talk → Finish LastWord) → came_then (carried_in wanted number before last) later next ≡ next (record { place = begin; bytes = x }) later
    goes_so later next = ap (λ c. came_then c later next) came ∙ answer_goes wanted begin done later next done_reads refl is_answer

    pub carried : Carries r number talk x met
    carried = record {
      placed = record { place = begin; bytes = x };
      bytes = refl;
      later = by.later;
      is = λ next.
          goes_on size_of carrier_peer (carrying r number plan.timeout) talk before last [] by unanswered (λ before message talk. came_then (carried_in wanted number before message) talk next)
          ∙ goes_so by.later next;
      stands = record {
        left = by.left_is;
        whole = by.whole;
        state =
            ap (after profile) (asked_later talk sent_text (messages_of number command) sent_cut by.later by.texts)
            ∙ heard_state profile past met stands.state number number_fits (message_of r) (is_read r).is_message short x (is_response_text a.response a.tlvs a.flags).is_message a.replies done_short;
      };
    }
