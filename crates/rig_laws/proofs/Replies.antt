-- What the simulated modem replies to the rig's requests.
use Rattle.std.proofs.Common.{◌≡◌, ℕ, zero, suc, ◌+◌, ◌%◌, ◌<◌, ◌≤◌, Bool, true, false, ◌&&◌, ◌||◌, ◌==◌, if◌then◌else◌, List, [], ◌∷◌, ◌++◌, length, Option, Some, Err, refl, ap, sym, ◌∙◌, arith, subst, lit≤, append-nil}
use Rattle.std.proofs.lemmas.Bool.{or_from, or_left, or_right}
use Rattle.std.proofs.lemmas.Bool.Decides.{nat_tests}
use Rattle.std.proofs.lemmas.List.Folds.{list_any-append}
use Rattle.framing.specs.Framing.{IsMessage}
use Rattle.framing.specs.Cutting.{cut, cut_from}
use Rattle.tlv_codec.specs.Tlv.{tlv_text, tlv_value}
use Rattle.qmux_frame.specs.declared.head.Head.{Head}
use Rattle.qmux_frame.specs.declared.writing.NewMessage.{NewMessage}
use Rattle.qmux_frame.specs.declared.kind.MessageKind.{MessageKind}
use Rattle.qmux_frame.specs.Frame.{size_of}
use Rattle.qmux_frame.specs.Head.{tlvs_in, service_of, cid_of}
use Rattle.qmux_frame.specs.Control.{is_allocate, is_release}
use Rattle.qmux_frame.specs.Reply.{with_number, reply_to}
use Rattle.qmux_frame.specs.Writing.{head_text, message_text}
use Rattle.qmux_frame.proofs.Written.{written_is_read}
use Rattle.modem_profile.specs.Profile.{default_profile}
use Rattle.qmi_values.specs.Value.{Value}
use Rattle.qmi_services.specs.Table as table
use Rattle.qmi_services.specs.Modem.{row_at}
use Rattle.qmi_services.specs.Requests.{tlv}
use Rattle.qmi_proxy.specs.Setup.{Setup}
use Rattle.qmi_proxy.specs.Messages.{byte_of}
use Rattle.sim_modem.specs.Sim.{Answering, answers, state_after}
use Rattle.sim_qmi.specs.State.{State, fresh, free_id, is_given, is_client, with_client}
use Rattle.sim_qmi.specs.Step.{failure, success}
use Rattle.sim_qmi.specs.Errors.{invalid_client_id}
use Rattle.sim_qmi.specs.Ctl.{client_id, allocates}
use Rattle.sim_qmi.specs.Nas.{signal, networks, plmn}
use Rattle.sim_qmi.specs.Nas.{serving_system as told_system}
use Rattle.sim_qmi.specs.Requests.{asked, asked_of, is_known}
use Rattle.sim_qmi.specs.Modem.{Exchange, answer_tlvs, response, takes, takes_kind, meets, machine}
use Rattle.sim_qmi.proofs.ClientIds.{free_from, first_free, given_isnt_free, free_here}
use Rattle.rig_laws.proofs.Answering.{suits_its_request}
use Rattle.rig_laws.proofs.Messages.{NasKind, signal_strength, network_scan, serving_system, home_network, row_of, allocate_head, allocate_message, allocate_is, nas_head, nas_message, nas_is}
use Rattle.rig_laws.proofs.Stage.{one_message, RepliesWell}

abbrev nothing_brought : Bool → Bool → Bool → Bool → Bool → Bool → Bool
nothing_brought a b c d e f = a && b && c && d && e && f

brings_none : (a b c d e f : Bool) → a ≡ false → nothing_brought a b c d e f ≡ true → ⊥
brings_none true b c d e f isnt is = cc
brings_none false b c d e f isnt is = cc

-- ---- requests of NAS ----

-- what is told where the client id is given
abbrev values_of : State → NasKind → List (Option Value)
values_of state signal_strength = Some (signal default_profile) ∷ []
values_of state network_scan = Some (networks default_profile) ∷ []
values_of state serving_system = told_system default_profile state.mode
values_of state home_network = Some (plmn default_profile) ∷ []

abbrev tlvs_if : State → NasKind → (known : Bool) → List ℕ
tlvs_if state what known = if known then answer_tlvs (row_of what).output (success (values_of state what)) else answer_tlvs [] (failure invalid_client_id)

short_if : (state : State) (what : NasKind) (known : Bool) → length (tlvs_if state what known) ≤ 8000
short_if state what false = lit≤ tt
short_if state signal_strength true = lit≤ tt
short_if state network_scan true = lit≤ tt
short_if state serving_system true = lit≤ tt
short_if state home_network true = lit≤ tt

abbrev nas_asked : NasKind → (client number : ℕ) → Head
nas_asked what client number = record { service = 3; cid = client; flags = 0; number = number; message = (row_of what).id; framed = true }

-- the request is in the table
sent_if : (state : State) (what : NasKind) (client number : ℕ) (tlvs : List ℕ) (known : Bool)
    → (takes default_profile state (nas_asked what client number) (if known then asked_of (row_at 3 (row_of what).id) tlvs else Err invalid_client_id)).messages
    ≡ message_text (reply_to (nas_asked what client number)) (tlvs_if state what known)
unfolding row_at
sent_if state what client number tlvs false = refl
sent_if state signal_strength client number tlvs true = append-nil _
sent_if state network_scan client number tlvs true = append-nil _
sent_if state serving_system client number tlvs true = append-nil _
sent_if state home_network client number tlvs true = append-nil _

sent_is : (state : State) (what : NasKind) (client number : ℕ) → (meets default_profile state (nas_message (row_of what).id client number)).messages
    ≡ message_text (reply_to (nas_asked what client number)) (tlvs_if state what (is_known state (nas_asked what client number)))
sent_is state what client number =
    let w : List ℕ = nas_message (row_of what).id client number in
    let is = nas_is (row_of what).id client number in
    ap (λ (k : Option MessageKind). (takes_kind default_profile state w k).messages) is.kind_is
    ∙ ap (λ (h : Head). (takes default_profile state h (asked state h (tlvs_in w))).messages) is.head
    ∙ sent_if state what client number (tlvs_in w) (is_known state (nas_asked what client number))

module _ (s : Setup) (there : s.starts_away ≡ false) (clients : ℕ) (before : List (List ℕ)) where
  abbrev modem : Answering
  modem = answers (machine default_profile)

  pub nas_is_answered : (what : NasKind) (c first number : ℕ) → RepliesWell s there clients modem before c (nas_message (row_of what).id c first) number
  nas_is_answered what c first number =
      let state : State = state_after (machine default_profile) before in
      let known : Bool = is_known state (nas_asked what c number) in
      let is = nas_is (row_of what).id c first in
      let answered : NewMessage = reply_to (nas_asked what c number) in
      let tlvs : List ℕ = tlvs_if state what known in
      record {
        is_message = subst (IsMessage size_of) (sym (is.renumbered number)) (written_is_read (nas_head (row_of what).id c number) []).whole;
        reply = message_text answered tlvs;
        messages =
            ap (λ (w : List ℕ). (cut size_of (modem before w)).messages) (is.renumbered number)
            ∙ ap (λ (l : List ℕ). (cut size_of l).messages) (sent_is state what c number)
            ∙ one_message (message_text answered tlvs) (written_is_read answered tlvs).whole;
        suits = λ r conn message number_is.
            suits_its_request answered tlvs r (short_if state what known) refl
            (ap service_of message ∙ is.service) (ap cid_of message ∙ is.client_is) number_is (ap is_release message ∙ is.no_release)
            (λ brings. absurd (brings_none (is_allocate r.message) _ _ _ _ _ (ap is_allocate message ∙ is.no_allocate) brings));
      }

-- ---- Allocate for NAS ----

-- a modem that gave so many client ids of NAS, from 1 on, and was asked nothing else
abbrev with_ids : ℕ → State
with_ids zero = fresh default_profile
with_ids (suc count) = with_client (with_ids count) 3 (count + 1)

is_given-more : (count id : ℕ) → is_given (with_ids (suc count)).clients 3 id ≡ (is_given (with_ids count).clients 3 id || ((count + 1 == id) || false))
is_given-more count id = list_any-append (is_client 3 id) (with_ids count).clients _

given_within : (count id : ℕ) → 1 ≤ id → id ≤ count → is_given (with_ids count).clients 3 id ≡ true
given_within zero id low high = absurd (omega arith)
given_within (suc count) id low high =
    let old : Bool = is_given (with_ids count).clients 3 id in
    let step : (b : Bool) → (count + 1 == id) ≡ b → (old || (b || false)) ≡ true =
    λ b. elim b as (λ b. (count + 1 == id) ≡ b → (old || (b || false)) ≡ true) [
      | true ↦ λ e. or_right old true refl
      | false ↦ λ e. let earlier : id ≤ count = grind (arith, nat_tests, e) in or_left old false (given_within count id low earlier)
    ]
    in is_given-more count id ∙ step (count + 1 == id) refl

given_not_above : (count id : ℕ) → count < id → is_given (with_ids count).clients 3 id ≡ false
given_not_above zero id above = refl
given_not_above (suc count) id above =
    let other : (count + 1 == id) ≡ false = grind (arith, nat_tests) in
    is_given-more count id ∙ or_from (is_given (with_ids count).clients 3 id) ((count + 1 == id) || false) (given_not_above count id (omega arith)) (ap (λ (b : Bool). b || false) other)

passes : (count n : ℕ) → n ≤ count → count < 254 → free_from (with_ids count).clients 3 1 ≡ free_from (with_ids count).clients 3 (n + 1)
passes count zero low few = refl
passes count (suc n) low few =
    passes count n (omega arith) few ∙ given_isnt_free (with_ids count).clients 3 (n + 1) (omega arith) (given_within count (n + 1) (omega arith) (omega arith))
    ∙ ap (free_from (with_ids count).clients 3) (let on : n + 1 + 1 ≡ suc n + 1 = omega arith in on)

next_is_free : (count : ℕ) → count < 254 → free_id (with_ids count).clients 3 ≡ Some (count + 1)
next_is_free count few =
    first_free (with_ids count).clients 3 ∙ passes count count (omega arith) few ∙ free_here (with_ids count).clients 3 (count + 1) (omega arith) (given_not_above count (count + 1) (omega arith))

abbrev allocate_asked : ℕ → Head
allocate_asked number = record { service = 0; cid = 0; flags = 0; number = number; message = 0x0022; framed = true }

-- the response and the state, by the id that is free
abbrev allocated : (state : State) (number : ℕ) → Option ℕ → Exchange
allocated state number free = record { messages = response (allocate_asked number) table.allocate.output (allocates state 3 free).answer ++ []; state = (allocates state 3 free).state }

asks_for_id : (state : State) (number : ℕ)
    → takes default_profile state (allocate_asked number) (asked state (allocate_asked number) (tlv_text (tlv 0x01 (3 ∷ [])))) ≡ allocated state number (free_id state.clients 3)
unfolding row_at cut_from
asks_for_id state number = refl

meets_allocate : (count number : ℕ) → count < 254 → meets default_profile (with_ids count) (allocate_message number) ≡ allocated (with_ids count) number (Some (count + 1))
meets_allocate count number few =
    let state : State = with_ids count in
    let w : List ℕ = allocate_message number in
    let is = allocate_is number in
    let behind : tlvs_in w ≡ tlv_text (tlv 0x01 (3 ∷ [])) = (written_is_read (allocate_head number) (tlv_text (tlv 0x01 (3 ∷ [])))).behind in
    ap (takes_kind default_profile state w) is.kind_is
    ∙ ap (λ (h : Head). takes default_profile state h (asked state h (tlvs_in w))) is.head
    ∙ ap (λ (l : List ℕ). takes default_profile state (allocate_asked number) (asked state (allocate_asked number) l)) behind
    ∙ asks_for_id state number
    ∙ ap (allocated state number) (next_is_free count few)

abbrev id_tlvs : ℕ → List ℕ
id_tlvs id = answer_tlvs table.allocate.output (success (Some (client_id 3 id) ∷ []))

id_brought : (id : ℕ) → byte_of 1 (tlv_value 0x01 (id_tlvs id)) ≡ id % 256
unfolding cut_from
id_brought id = refl

id_is_short : (id : ℕ) → length (id_tlvs id) ≤ 8000
id_is_short id = lit≤ tt

allocate_keeps : is_release (allocate_message 2) ≡ false
unfolding head_text
allocate_keeps = refl

allocate_service : service_of (allocate_message 2) ≡ 0
unfolding head_text
allocate_service = refl

allocate_client : cid_of (allocate_message 2) ≡ 0
unfolding head_text
allocate_client = refl

-- as many ids of NAS are given
pub AreGiven : (count : ℕ) → List (List ℕ) → Type 0
AreGiven count before = state_after (machine default_profile) before ≡ with_ids count

pub none_are_given : AreGiven 0 []
unfolding AreGiven
none_are_given = refl

pub one_more_is_given : (count number : ℕ) (before : List (List ℕ)) → AreGiven count before → count < 254 → AreGiven (count + 1) (with_number number (allocate_message 2) ∷ before)
unfolding AreGiven
one_more_is_given count number before given few =
    ap (λ (w : List ℕ). (meets default_profile (state_after (machine default_profile) before) w).state) (allocate_is number).renumbered
    ∙ ap (λ (state : State). (meets default_profile state (allocate_message number)).state) given
    ∙ ap (λ (x : Exchange). x.state) (meets_allocate count number few)
    ∙ ap with_ids (let on : suc count ≡ count + 1 = omega arith in on)

module _ (s : Setup) (there : s.starts_away ≡ false) (clients : ℕ) (before : List (List ℕ)) where
  pub id_is_given : (count number : ℕ) → AreGiven count before → count < 64 → number ≤ 255 → RepliesWell s there clients (answers (machine default_profile)) before (count + 1) (allocate_message 2) number
  unfolding AreGiven
  id_is_given count number given few low =
      let is = allocate_is number in
      let answered : NewMessage = reply_to (allocate_asked number) in
      let tlvs : List ℕ = id_tlvs (count + 1) in
      let read = written_is_read answered tlvs in
      record {
        is_message = subst (IsMessage size_of) (sym is.renumbered) (written_is_read (allocate_head number) (tlv_text (tlv 0x01 (3 ∷ [])))).whole;
        reply = message_text answered tlvs;
        messages =
            ap (λ (w : List ℕ). (cut size_of (answers (machine default_profile) before w)).messages) is.renumbered
            ∙ ap (λ (state : State). (cut size_of (meets default_profile state (allocate_message number)).messages).messages) given
            ∙ ap (λ (x : Exchange). (cut size_of x.messages).messages) (meets_allocate count number (omega (arith, few)))
            ∙ ap (λ (l : List ℕ). (cut size_of l).messages) (append-nil (message_text answered tlvs))
            ∙ one_message (message_text answered tlvs) read.whole;
        suits = λ r conn message number_is.
            suits_its_request answered tlvs r (id_is_short (count + 1)) refl
            (ap service_of message ∙ allocate_service) (ap cid_of message ∙ allocate_client) (omega (arith, number_is, low)) (ap is_release message ∙ allocate_keeps)
            (λ brings. ap (λ (l : List ℕ). byte_of 1 (tlv_value 0x01 l)) read.behind ∙ id_brought (count + 1) ∙ (let small : (count + 1) % 256 ≡ count + 1 = omega (arith, few) in small) ∙ sym conn);
      }
