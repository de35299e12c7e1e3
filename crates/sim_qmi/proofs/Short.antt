-- Requests whose answer is one short message, behind which nothing is told. Lists of messages have the newest first.
use Rattle.std.proofs.Common.{◌≡◌, ◌⊎◌, inl, inr, ℕ, ◌≤◌, Bool, true, false, ◌&&◌, ◌||◌, ◌==◌, if◌then◌else◌, cond, List, [], ◌∷◌, ◌++◌, length, Option, Some, None, refl, ap, sym, ◌∙◌, arith, subst, lit≤, lit<, append-nil}
use Rattle.std.specs.Prelude.{Result, Ok, Err, option_map, option_and_then, find, slice_get}
use Rattle.std.specs.Option.{ok_or}
use Rattle.std.proofs.lemmas.Option.{same_Some}
use Rattle.std.proofs.lemmas.Bool.{eqb-true, and_parts}
use Rattle.qmux_frame.specs.declared.kind.MessageKind.{MessageKind}
use Rattle.qmux_frame.specs.declared.kind.MessageKind.TheVariants as kind
use Rattle.qmux_frame.specs.declared.head.Head.{Head}
use Rattle.framing.specs.Cutting.{cut_from}
use Rattle.qmux_frame.specs.Head.{head_of, tlvs_in, service_of, cid_of, message_id_of}
use Rattle.qmux_frame.specs.Kind.{framed_kind}
use Rattle.qmux_frame.specs.Writing.{message_text}
use Rattle.qmux_frame.specs.Reply.{reply_to, result_tlv}
use Rattle.tlv_codec.specs.Tlv.{tlv_text, tlv_value}
use Rattle.qmi_services.specs.Table as table
use Rattle.qmi_services.specs.Table.{Output, Row, rows}
use Rattle.qmi_services.specs.Modem.{row_at, is_at, input_of}
use Rattle.modem_profile.specs.Profile.{Profile}
use Rattle.modem_profile.specs.Limits.{IsWithin}
use Rattle.sim_qmi.specs.declared.request.Request.{Request}
use Rattle.sim_qmi.specs.declared.request.Request.TheVariants.{Ctl, Wds, Dms, Nas, Wms}
use Rattle.sim_qmi.specs.declared.dms.DmsRequest.TheVariants as dms
use Rattle.sim_qmi.specs.declared.ctl.CtlRequest.{CtlRequest}
use Rattle.sim_qmi.specs.declared.ctl.CtlRequest.TheVariants as ctl
use Rattle.sim_qmi.specs.Ctl.{ctl_step, allocates, client_id, ctl_request}
use Rattle.sim_qmi.specs.Wds.{wds_request}
use Rattle.sim_qmi.specs.Dms.{dms_request}
use Rattle.sim_qmi.specs.Nas.{nas_request}
use Rattle.sim_qmi.specs.Wms.{wms_request}
use Rattle.sim_qmi.specs.declared.wds.WdsRequest.{WdsRequest}
use Rattle.sim_qmi.specs.declared.nas.NasRequest.{NasRequest}
use Rattle.sim_qmi.specs.declared.wms.WmsRequest.{WmsRequest}
use Rattle.sim_qmi.specs.Errors.{missing_argument, invalid_client_id}
use Rattle.sim_qmi.specs.Fits.{Fits, IsInRange}
use Rattle.sim_qmi.specs.Laws.{sets_mode}
use Rattle.sim_qmi.specs.Modem.{Exchange, answer_tlvs, indication, indications, meets, response, serves, takes, takes_kind}
use Rattle.sim_qmi.specs.Requests.{asked, asked_of, request_in, row_of, is_known}
use Rattle.sim_qmi.specs.State.{State, IsSound, fresh, is_any_given, is_given, free_id, without_client, with_client, client_ids}
use Rattle.sim_qmi.specs.Step.{Answer, failure, success, refused}
use Rattle.sim_qmi.proofs.Fits.{serves_fit}
use Rattle.sim_qmi.proofs.Rows.{request-of}
use Rattle.sim_qmi.specs.Short.{state_now, IsReplied, IsRequest, IsAnswered, ControlRequestsAreAnswered, RequestsAreAnswered, UnknownIdsAreRefused, IsService, of_wds, of_dms, of_nas, of_wms, first_id_tlvs, FirstIdsAreOne}

-- ---- one request ----

-- the answer has room, and nothing is told behind it
pub IsQuiet : (profile : Profile) (state : State) → Result Request ℕ → Type 0
IsQuiet profile state (Err error) = Unit {0}
IsQuiet profile state (Ok request) = Fits (row_of request).output (serves profile state request).answer × (indications profile (serves profile state request).state request ≡ [])

answer_short : (outputs : List Output) (answer : Answer) → Fits outputs answer → length (answer_tlvs outputs answer) ≤ 5000
answer_short outputs (failure error) fits = lit≤ tt
answer_short outputs (success values) fits = omega (arith, fits.1)

-- what is asked comes to these TLVs
abbrev pub tlvs_of : Profile → State → Result Request ℕ → List ℕ
tlvs_of profile state (Err error) = result_tlv error
tlvs_of profile state (Ok request) = answer_tlvs (row_of request).output (serves profile state request).answer

module _ (profile : Profile) (before : List (List ℕ)) (m : List ℕ) where
  abbrev here : State
  here = state_now profile before

  messages_are : (found : Result Request ℕ) → IsQuiet profile here found → (takes profile here (head_of m) found).messages ≡ message_text (reply_to (head_of m)) (tlvs_of profile here found)
  unfolding IsQuiet
  messages_are (Err error) quiet = refl
  messages_are (Ok request) quiet = ap (λ (l : List ℕ). response (head_of m) (row_of request).output (serves profile here request).answer ++ l) quiet.1 ∙ append-nil _

  short_tlvs : (found : Result Request ℕ) → IsQuiet profile here found → length (tlvs_of profile here found) ≤ 5000
  unfolding IsQuiet
  short_tlvs (Err error) quiet = lit≤ tt
  short_tlvs (Ok request) quiet = answer_short (row_of request).output (serves profile here request).answer quiet.0

  answered : (found : Result Request ℕ) → asked here (head_of m) (tlvs_in m) ≡ found → framed_kind m ≡ Some kind.Request → IsQuiet profile here found → IsReplied profile before m (tlvs_of profile here found)
  answered found is kind_is quiet = record {
    replies = ap (λ (k : Option MessageKind). (takes_kind profile here m k).messages) kind_is ∙ ap (λ (f : Result Request ℕ). (takes profile here (head_of m) f).messages) is ∙ messages_are found quiet;
    short = short_tlvs found quiet;
  }

-- ---- requests of service 0 ----

-- so it does in a state without messages
abbrev bare : State → State
bare state = record state { mode = 0; messages = [] }

bare_same : (state : State) (r : CtlRequest) → (ctl_step (bare state) r).answer ≡ (ctl_step state r).answer
bare_same state (ctl.Allocate service) = by (free_id state.clients service)
  where
    by : (o : Option ℕ) → (allocates (bare state) service o).answer ≡ (allocates state service o).answer
    by None = refl
    by (Some id) = refl
bare_same state (ctl.Release service id) = elim (is_given state.clients service id) as (λ b. (if b then record { answer = success (Some (client_id service id) ∷ []); state = without_client (bare state) service id } else refused (bare state) invalid_client_id).answer ≡ (if b then record { answer = success (Some (client_id service id) ∷ []); state = without_client state service id } else refused state invalid_client_id).answer) [ true ↦ refl | false ↦ refl ]
bare_same state _ = refl

bare_is_sound : (state : State) → IsSound (bare state)
bare_is_sound state = record { mode = lit< tt; stored = refl }

pub ctl_is_quiet : (profile : Profile) (state : State) (o : Option CtlRequest) → IsWithin profile → ((r : CtlRequest) → o ≡ Some r → IsInRange (Ctl r)) → IsQuiet profile state (ok_or (option_map Ctl o) missing_argument)
unfolding IsQuiet
ctl_is_quiet profile state None within range = tt
ctl_is_quiet profile state (Some r) within range = (
  subst (λ (a : Answer). Fits (row_of (Ctl r)).output a) (bare_same state r) (serves_fit profile (bare state) (Ctl r) within (bare_is_sound state) (range r refl)),
  refl,
)

-- ---- requests of other services ----

tells_none : (profile : Profile) (state : State) (request : Request) → (sets_mode (Ok request) && is_any_given state.clients table.nas) ≡ false → indications profile (serves profile state request).state request ≡ []
tells_none profile state (Dms (dms.SetOperatingMode mode)) none = ap (λ (b : Bool). if b then indication profile mode else []) none
tells_none profile state request none = refl

pub is_quiet : (profile : Profile) (state : State) (found : Result Request ℕ) → IsWithin profile → IsSound state → ((r : Request) → found ≡ Ok r → IsInRange r) → (sets_mode found && is_any_given state.clients table.nas) ≡ false → IsQuiet profile state found
unfolding IsQuiet
is_quiet profile state (Err error) within sound range none = tt
is_quiet profile state (Ok request) within sound range none = (serves_fit profile state request within sound (range request refl), tells_none profile state request none)

-- ---- the line of the table ----

passes_here : {A : Type 0} (test : A → Bool) (first x : A) (xs : List A) (b : Bool) → test first ≡ b → cond b (Some first) (find test xs) ≡ Some x → (find test xs ≡ Some x → test x ≡ true) → test x ≡ true
passes_here test first x xs true e is later = subst (λ y. test y ≡ true) (same_Some first x is) e
passes_here test first x xs false e is later = later is

passes : {A : Type 0} (test : A → Bool) (xs : List A) (x : A) → find test xs ≡ Some x → test x ≡ true
passes test [] x is = absurd cc
passes test (first ∷ xs) x is = passes_here test first x xs (test first) refl is (passes test xs x)

service_is : (service id : ℕ) (row : Row) → row_at service id ≡ Some row → row.service ≡ service
unfolding row_at
service_is service id row at = eqb-true row.service service (and_parts (row.service == service) (row.id == id) (passes (is_at service id) rows row at)).0

module _ (profile : Profile) (before : List (List ℕ)) (m : List ℕ) (row : Row) (request : IsRequest m row) where
  abbrev found_state : State
  found_state = state_now profile before

  abbrev tlvs : List ℕ
  tlvs = tlvs_in m

  in_range : (r : Request) → ok_or (request_in row tlvs) missing_argument ≡ Ok r → IsInRange r
  in_range r is = (request-of (service_of m) (message_id_of m) row tlvs r request.line (by (request_in row tlvs) is)).range
    where
      by : (o : Option Request) → ok_or o missing_argument ≡ Ok r → o ≡ Some r
      by None is = absurd cc
      by (Some q) is = cc

  asked_is : (known : Bool) → is_known found_state (head_of m) ≡ known → asked found_state (head_of m) tlvs ≡ (if known then ok_or (request_in row tlvs) missing_argument else Err invalid_client_id)
  asked_is known is = ap (λ (b : Bool). if b then asked_of (row_at (service_of m) (message_id_of m)) tlvs else Err invalid_client_id) is ∙ ap (λ (o : Option Row). if known then asked_of o tlvs else Err invalid_client_id) request.line

  -- a request of service 0, whatever was asked before
  pub control_is_answered : IsWithin profile → service_of m ≡ 0 → IsAnswered profile before m
  control_is_answered within none =
      let o : Option CtlRequest = ctl_request row.id (input_of row 1 tlvs) in
      let found : Result Request ℕ = ok_or (option_map Ctl o) missing_argument in
      let control : (row.service == 0) ≡ true = ap (λ (n : ℕ). n == 0) (service_is (service_of m) (message_id_of m) row request.line ∙ none) in
      let read : request_in row tlvs ≡ option_map Ctl o = ap (λ (b : Bool). if b then option_map Ctl o else if row.service == 1 then option_map Wds (wds_request row.id (input_of row 1 tlvs)) else if row.service == 2 then option_map Dms (dms_request row.id (input_of row 1 tlvs)) else if row.service == 3 then option_map Nas (nas_request row.id) else option_map Wms (wms_request row.id (input_of row 1 tlvs) (input_of row 16 tlvs))) control in
      let known : is_known found_state (head_of m) ≡ true = ap (λ (b : Bool). b || is_given found_state.clients (service_of m) (cid_of m)) (ap (λ (n : ℕ). n == 0) none) in
      let is : asked found_state (head_of m) tlvs ≡ found = asked_is true known ∙ ap (λ (q : Option Request). ok_or q missing_argument) read in
      let range : (r : CtlRequest) → o ≡ Some r → IsInRange (Ctl r) = λ r there. in_range (Ctl r) (ap (λ (q : Option Request). ok_or q missing_argument) (read ∙ ap (option_map Ctl) there)) in
      (tlvs_of profile found_state found, answered profile before m found is request.kind_is (ctl_is_quiet profile found_state o within range))

  -- what it asks sets no mode, where it is of another service than DMS
  sets_none : (a b c : Bool) (o0 : Option CtlRequest) (o1 : Option WdsRequest) (o3 : Option NasRequest) (o4 : Option WmsRequest)
      → sets_mode (ok_or (if a then option_map Ctl o0 else if b then option_map Wds o1 else if c then option_map Nas o3 else option_map Wms o4) missing_argument) ≡ false
  sets_none true b c None o1 o3 o4 = refl
  sets_none true b c (Some r) o1 o3 o4 = refl
  sets_none false true c o0 None o3 o4 = refl
  sets_none false true c o0 (Some r) o3 o4 = refl
  sets_none false false true o0 o1 None o4 = refl
  sets_none false false true o0 o1 (Some r) o4 = refl
  sets_none false false false o0 o1 o3 None = refl
  sets_none false false false o0 o1 o3 (Some r) = refl

  none_set : (service_of m == 2) ≡ false → sets_mode (ok_or (request_in row tlvs) missing_argument) ≡ false
  none_set other =
      let isnt : (row.service == 2) ≡ false = ap (λ (n : ℕ). n == 2) (service_is (service_of m) (message_id_of m) row request.line) ∙ other in
      ap (λ (b : Bool). sets_mode (ok_or (if row.service == 0 then option_map Ctl (ctl_request row.id (input_of row 1 tlvs)) else if row.service == 1 then option_map Wds (wds_request row.id (input_of row 1 tlvs)) else if b then option_map Dms (dms_request row.id (input_of row 1 tlvs)) else if row.service == 3 then option_map Nas (nas_request row.id) else option_map Wms (wms_request row.id (input_of row 1 tlvs) (input_of row 16 tlvs))) missing_argument)) isnt
      ∙ sets_none (row.service == 0) (row.service == 1) (row.service == 3) (ctl_request row.id (input_of row 1 tlvs)) (wds_request row.id (input_of row 1 tlvs)) (nas_request row.id) (wms_request row.id (input_of row 1 tlvs) (input_of row 16 tlvs))

  -- a request of any service, where nobody has an id of NAS, or it isn't of DMS
  pub request_is_answered : IsWithin profile → IsSound found_state → ((service_of m == 2) ≡ false) ⊎ (is_any_given found_state.clients table.nas ≡ false) → IsAnswered profile before m
  request_is_answered within sound nobody = by (is_known found_state (head_of m)) refl
    where
      no_told : (known : Bool) → ((service_of m == 2) ≡ false) ⊎ (is_any_given found_state.clients table.nas ≡ false) → (sets_mode (if known then ok_or (request_in row tlvs) missing_argument else Err invalid_client_id) && is_any_given found_state.clients table.nas) ≡ false
      no_told true (inl other) = ap (λ (b : Bool). b && is_any_given found_state.clients table.nas) (none_set other)
      no_told true (inr none) = ap (λ (b : Bool). sets_mode (ok_or (request_in row tlvs) missing_argument) && b) none ∙ and_false (sets_mode (ok_or (request_in row tlvs) missing_argument))
        where
          and_false : (b : Bool) → (b && false) ≡ false
          and_false true = refl
          and_false false = refl
      no_told false any = refl

      range : (known : Bool) (r : Request) → (if known then ok_or (request_in row tlvs) missing_argument else Err invalid_client_id) ≡ Ok r → IsInRange r
      range true r is = in_range r is
      range false r is = absurd cc

      by : (known : Bool) → is_known found_state (head_of m) ≡ known → IsAnswered profile before m
      by known is =
          let found : Result Request ℕ = if known then ok_or (request_in row tlvs) missing_argument else Err invalid_client_id in
          (tlvs_of profile found_state found, answered profile before m found (asked_is known is) request.kind_is (is_quiet profile found_state found within sound (range known) (no_told known nobody)))

  -- an id that isn't given is refused
  pub unknown_is_refused : is_known found_state (head_of m) ≡ false → IsReplied profile before m (result_tlv invalid_client_id)
  unfolding IsQuiet
  unknown_is_refused isnt = answered profile before m (Err invalid_client_id) (asked_is false isnt) request.kind_is tt

pub control_requests_are_answered : ControlRequestsAreAnswered
control_requests_are_answered profile before m row within request = control_is_answered profile before m row request within

pub requests_are_answered : RequestsAreAnswered
requests_are_answered profile before m row within request = request_is_answered profile before m row request within

pub unknown_ids_are_refused : UnknownIdsAreRefused
unknown_ids_are_refused profile before m row request = unknown_is_refused profile before m row request

-- ---- the first client id ----

abbrev asks_first : ℕ → Head
asks_first number = record { service = 0; cid = 0; flags = 0; number = number; message = 0x22; framed = true }

abbrev Computes : ℕ → Type 0
Computes service = (profile : Profile) (number : ℕ) → takes profile (fresh profile) (asks_first number) (asked (fresh profile) (asks_first number) (tlv_text (record { kind = 1; value = service ∷ [] } ∷ []))) ≡ record { messages = message_text (reply_to (asks_first number)) (first_id_tlvs service) ++ []; state = with_client (fresh profile) service 1 }

computes_1 : Computes 1
unfolding row_at cut_from client_ids
computes_1 profile number = refl

computes_2 : Computes 2
unfolding row_at cut_from client_ids
computes_2 profile number = refl

computes_3 : Computes 3
unfolding row_at cut_from client_ids
computes_3 profile number = refl

computes_5 : Computes 5
unfolding row_at cut_from client_ids
computes_5 profile number = refl

computes : (service : ℕ) → IsService service → Computes service
computes service (of_wds is) = subst Computes (sym is) computes_1
computes service (of_dms is) = subst Computes (sym is) computes_2
computes service (of_nas is) = subst Computes (sym is) computes_3
computes service (of_wms is) = subst Computes (sym is) computes_5

pub first_ids_are_one : FirstIdsAreOne
first_ids_are_one profile m service which is =
    let made : Exchange = record { messages = message_text (reply_to (asks_first is.number)) (first_id_tlvs service) ++ []; state = with_client (fresh profile) service 1 } in
    let meets_it : meets profile (fresh profile) m ≡ made =
    ap (takes_kind profile (fresh profile) m) is.kind_is
    ∙ ap (λ (h : Head). takes profile (fresh profile) h (asked (fresh profile) h (tlvs_in m))) is.head
    ∙ ap (λ (l : List ℕ). takes profile (fresh profile) (asks_first is.number) (asked (fresh profile) (asks_first is.number) l)) is.behind
    ∙ computes service which profile is.number
    in
    record {
      replied = record {
        replies = ap (λ (e : Exchange). e.messages) meets_it ∙ append-nil (message_text (reply_to (asks_first is.number)) (first_id_tlvs service)) ∙ ap (λ (h : Head). message_text (reply_to h) (first_id_tlvs service)) (sym is.head);
        short = lit≤ tt;
      };
      state = ap (λ (e : Exchange). e.state) meets_it;
    }

-- it brings id 1
pub brings_first : (service : ℕ) → option_and_then (λ value. slice_get value 1) (tlv_value 1 (first_id_tlvs service)) ≡ Some 1
unfolding cut_from
brings_first service = refl

-- where it was given, nobody holds an id of NAS but for NAS
pub nobody_of_nas : (profile : Profile) (service : ℕ) → (service == 3) ≡ false → is_any_given (with_client (fresh profile) service 1).clients 3 ≡ false
nobody_of_nas profile service other = rw other refl

-- a modem that gave an id is sound as before
pub sound_still : (profile : Profile) (service : ℕ) → IsSound (fresh profile) → IsSound (with_client (fresh profile) service 1)
sound_still profile service sound = record { mode = sound.mode; stored = sound.stored }
