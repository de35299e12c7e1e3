-- A fresh simulated modem serves every plan of a tool.
use Rattle.std.proofs.Common.{◌≡◌, ◌⊎◌, inl, inr, ℕ, ◌<◌, Bool, true, false, ◌||◌, ◌==◌, ◌%◌, if◌then◌else◌, List, [], ◌∷◌, None, refl, ap, sym, ◌∙◌, arith, subst}
use Rattle.std.proofs.lemmas.Bool.{eqb-true}
use Rattle.tlv_codec.specs.Tlv.{tlv_text, first_value}
use Rattle.qmux_frame.specs.declared.head.Head.{Head}
use Rattle.qmux_frame.specs.Head.{head_of, service_of, number_of, message_id_of}
use Rattle.qmux_frame.specs.Reply.{reply_to, result_tlv, short_number}
use Rattle.qmux_frame.proofs.Written.{written_is_read}
use Rattle.qmi_requests.specs.declared.QmiRequest.{QmiRequest}
use Rattle.qmi_requests.specs.declared.QmiRequest.TheVariants as request
use Rattle.qmi_services.specs.Modem.{row_at}
use Rattle.qmi_services.specs.Requests.{row_of, inputs_of}
use Rattle.qmi_services.proofs.Lines.{row_found}
use Rattle.device_core.specs.declared.plan.QmiPlan.{QmiPlan}
use Rattle.device_core.specs.Requests.{Request, message_of, new_message}
use Rattle.device_core.specs.Session.{service, allocate, release}
use Rattle.modem_profile.specs.Profile.{Profile}
use Rattle.modem_profile.specs.Limits.{IsWithin}
use Rattle.sim_modem.specs.Sim.{answers}
use Rattle.sim_qmi.specs.Modem.{machine}
use Rattle.sim_qmi.specs.State.{State, IsSound, fresh, with_client, is_any_given}
use Rattle.sim_qmi.specs.Requests.{is_known}
use Rattle.sim_qmi.specs.Short.{IsReplied, IsRequest, IsAnswered, IsService, of_wds, of_dms, of_nas, of_wms, IsAllocate, first_id_tlvs, GivesFirst}
use Rattle.sim_qmi.proofs.Short.{control_requests_are_answered, requests_are_answered, unknown_ids_are_refused, first_ids_are_one, brings_first, nobody_of_nas, sound_still}
use Rattle.lone_client.specs.Relay.{Answering}
use Rattle.twin_sessions.specs.QmiServing.{Answers, first_command, of_control, Serves, ServesVersions, IsServed}
use Rattle.twin_sessions.proofs.QmiMessages.{IsRead, is_read, text_is_short}
use Rattle.relays.specs.QmiLaw.{IsCommand, IsPlan}

-- ---- the requests' lines of the table ----

is_one : (n : ℕ) (wds dms nas wms : Bool) → (n == 1) ≡ wds → (n == 2) ≡ dms → (n == 3) ≡ nas → (n == 5) ≡ wms → (wds || dms || nas || wms) ≡ true → IsService n
is_one n true dms nas wms a b c d is = of_wds (eqb-true n 1 a)
is_one n false true nas wms a b c d is = of_dms (eqb-true n 2 b)
is_one n false false true wms a b c d is = of_nas (eqb-true n 3 c)
is_one n false false false true a b c d is = of_wms (eqb-true n 5 d)
is_one n false false false false a b c d is = absurd (cc)

is_service : (n : ℕ) → (n == 1 || n == 2 || n == 3 || n == 5) ≡ true → IsService n
is_service n is = is_one n (n == 1) (n == 2) (n == 3) (n == 5) refl refl refl refl is

which_service : (body : QmiRequest) → IsCommand body → ((row_of body).service == 0) ≡ false → IsService (row_of body).service
which_service request.GetServiceVersionInfo is some = absurd (cc)
which_service (request.ProxyOpen path) is some = absurd is
which_service (request.Allocate service) is some = absurd is
which_service (request.Release service cid) is some = absurd is
which_service body is some = is_service (row_of body).service refl

is_version : (body : QmiRequest) → IsCommand body → ((row_of body).service == 0) ≡ true → ((row_of body).id ≡ 0x21) × (first_value 1 (inputs_of body) ≡ None)
is_version request.GetServiceVersionInfo is none = (refl, refl)
is_version (request.ProxyOpen path) is none = absurd is
is_version (request.Allocate service) is none = absurd is
is_version (request.Release service cid) is none = absurd is
is_version _ is none = absurd (cc)

number_short : (head : Head) → head.number < 256 → short_number head ≡ head.number
number_short head small = elim (head.service == 0) as (λ b. (if b then head.number % 256 else head.number) ≡ head.number) [ true ↦ omega (arith, small) | false ↦ refl ]

module _ (profile : Profile) where
  abbrev pub modem : Answering
  modem = answers (machine profile)

  to_answers : (before : List (List ℕ)) (m tlvs : List ℕ) → IsReplied profile before m tlvs → number_of m < 256 → Answers modem before m
  to_answers before m tlvs is small = record {
    response = reply_to (head_of m);
    tlvs = tlvs;
    replies = is.replies;
    short = omega (arith, text_is_short (reply_to (head_of m)) tlvs, is.short);
    flags = refl;
    service = refl;
    cid = refl;
    number = number_short (head_of m) small;
  }

  of_table : (r : Request) → IsRequest (message_of r) (row_of r.body)
  of_table r = let is = is_read r in record { kind_is = is.kind_is; line = ap (λ (n : ℕ). row_at n (message_id_of (message_of r))) is.service ∙ ap (row_at (row_of r.body).service) is.id ∙ row_found r.body }

  module _ (plan : QmiPlan) (within : IsWithin profile) (sound : IsSound (fresh profile)) (is : IsPlan plan) where
    version_is : (service plan == 0) ≡ true → ServesVersions modem plan
    version_is none =
        let r : Request = of_control plan.request 1 in
        let read = is_read r in
        let v = is_version plan.request is.command none in
        let replied = control_requests_are_answered profile [] (message_of r) (row_of plan.request) within (of_table r) (read.service ∙ eqb-true (service plan) 0 none) in
        record { id = v.0; input = v.1; answers = to_answers [] (message_of r) replied.0 replied.1 (subst (λ (n : ℕ). n < 256) (sym read.number) (omega arith)) }

    module _ (some : (service plan == 0) ≡ false) where
      which : IsService (service plan)
      which = which_service plan.request is.command some

      asks_id : IsAllocate (message_of (allocate plan 1)) (service plan)
      unfolding message_of
      asks_id = let read = is_read (allocate plan 1) in record { kind_is = read.kind_is; number = 1; head = (written_is_read (new_message (allocate plan 1)) (tlv_text (inputs_of (allocate plan 1).body))).head; behind = read.tlvs }

      first : GivesFirst profile (message_of (allocate plan 1)) (service plan)
      first = first_ids_are_one profile (message_of (allocate plan 1)) (service plan) which asks_id

      nobody : IsService (service plan) → ((service plan == 2) ≡ false) ⊎ (is_any_given (with_client (fresh profile) (service plan) 1).clients 3 ≡ false)
      nobody (of_wds e) = inr (nobody_of_nas profile (service plan) (ap (λ (n : ℕ). n == 3) e))
      nobody (of_dms e) = inr (nobody_of_nas profile (service plan) (ap (λ (n : ℕ). n == 3) e))
      nobody (of_wms e) = inr (nobody_of_nas profile (service plan) (ap (λ (n : ℕ). n == 3) e))
      nobody (of_nas e) = inl (ap (λ (n : ℕ). n == 2) e)

      module _ (cid : ℕ) where
        abbrev r : Request
        r = first_command plan cid

        read : IsRead r
        read = is_read r

        small : number_of (message_of r) < 256
        small = subst (λ (n : ℕ). n < 256) (sym read.number) (omega arith)

        -- nobody has any id yet
        refused_first : IsReplied profile [] (message_of r) (result_tlv 7)
        refused_first =
            let unknown : is_known (fresh profile) (head_of (message_of r)) ≡ false = ap (λ (n : ℕ). (n == 0) || false) read.service ∙ ap (λ (b : Bool). b || false) some in
            unknown_ids_are_refused profile [] (message_of r) (row_of plan.request) (of_table r) unknown

        replied_then : IsAnswered profile (message_of (allocate plan 1) ∷ []) (message_of r)
        replied_then =
            requests_are_answered profile (message_of (allocate plan 1) ∷ []) (message_of r) (row_of plan.request) within (of_table r)
            (subst IsSound (sym first.state) (sound_still profile (service plan) sound))
            (subst (λ (st : State). ((service_of (message_of r) == 2) ≡ false) ⊎ (is_any_given st.clients 3 ≡ false)) (sym first.state)
            (subst (λ (n : ℕ). ((n == 2) ≡ false) ⊎ (is_any_given (with_client (fresh profile) (service plan) 1).clients 3 ≡ false)) (sym read.service) (nobody which)))

      released : (cid number : ℕ) → number < 256 → (before : List (List ℕ)) → Answers modem before (message_of (release plan cid number))
      released cid number low before =
          let q : Request = release plan cid number in
          let read = is_read q in
          let replied = control_requests_are_answered profile before (message_of q) (row_of q.body) within (of_table q) read.service in
          to_answers before (message_of q) replied.0 replied.1 (subst (λ (n : ℕ). n < 256) (sym read.number) low)

      serves : Serves modem plan
      unfolding to_answers
      serves =
          let replied = replied_then 1 in
          record {
            allocates = to_answers [] (message_of (allocate plan 1)) (first_id_tlvs (service plan)) first.replied (subst (λ (n : ℕ). n < 256) (sym (is_read (allocate plan 1)).number) (omega arith));
            brings = brings_first (service plan);
            given = λ cid. to_answers [] (message_of (first_command plan cid)) (result_tlv 7) (refused_first cid) (small cid);
            refuses = λ cid bad. refl;
            allocated = to_answers (message_of (allocate plan 1) ∷ []) (message_of (first_command plan 1)) replied.0 replied.1 (small 1);
            releases = released;
          }

    pub is_served : IsServed modem plan
    is_served = record { inputs = is.inputs; device = is.device; services = serves; versions = version_is }
