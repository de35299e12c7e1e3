-- Requests that are answered by one short message, behind which nothing is told. Lists of messages have the newest first.
use Rattle.std.specs.Prelude.{◌≡◌, ◌≤◌, ◌⊎◌, ℕ, true, false, ◌==◌, List, [], ◌∷◌, length, Some}
use Rattle.qmux_frame.specs.declared.kind.MessageKind.TheVariants as kind
use Rattle.qmux_frame.specs.Head.{head_of, tlvs_in, service_of, message_id_of}
use Rattle.qmux_frame.specs.Kind.{framed_kind}
use Rattle.qmux_frame.specs.Writing.{message_text}
use Rattle.qmux_frame.specs.Reply.{reply_to, result_tlv}
use Rattle.tlv_codec.specs.Tlv.{tlv_text}
use Rattle.qmi_services.specs.Table as table
use Rattle.qmi_services.specs.Table.{Row}
use Rattle.qmi_services.specs.Modem.{row_at}
use Rattle.modem_profile.specs.Profile.{Profile}
use Rattle.modem_profile.specs.Limits.{IsWithin}
use Rattle.sim_modem.specs.Sim.{answers, state_after}
use Rattle.sim_qmi.specs.Ctl.{client_id}
use Rattle.sim_qmi.specs.Errors.{invalid_client_id}
use Rattle.sim_qmi.specs.Modem.{answer_tlvs, machine}
use Rattle.sim_qmi.specs.Requests.{is_known}
use Rattle.sim_qmi.specs.State.{State, IsSound, fresh, is_any_given, with_client}
use Rattle.sim_qmi.specs.Step.{success}

-- the modem was asked these messages before
abbrev pub state_now : Profile → List (List ℕ) → State
state_now profile before = state_after (machine profile) before

-- a message is answered by one response with these TLVs, of at most 5,000 bytes, and by nothing else
pub record IsReplied (profile : Profile) (before : List (List ℕ)) (m tlvs : List ℕ) : Type 0 where
  pub replies : answers (machine profile) before m ≡ message_text (reply_to (head_of m)) tlvs
  pub short : length tlvs ≤ 5000

-- a message is a request of this line of the table
pub record IsRequest (m : List ℕ) (row : Row) : Type 0 where
  pub kind_is : framed_kind m ≡ Some kind.Request
  pub line : row_at (service_of m) (message_id_of m) ≡ Some row

abbrev pub IsAnswered : Profile → List (List ℕ) → List ℕ → Type 0
IsAnswered profile before m = (tlvs : List ℕ) × IsReplied profile before m tlvs

-- so is a request of service 0, whatever was asked before
abbrev pub ControlRequestsAreAnswered : Type 0
ControlRequestsAreAnswered = (profile : Profile) (before : List (List ℕ)) (m : List ℕ) (row : Row) → IsWithin profile → IsRequest m row → service_of m ≡ 0 → IsAnswered profile before m

-- a request of any service, unless it is one of DMS and anybody has an id of NAS, who might be told of a mode that it sets
abbrev pub RequestsAreAnswered : Type 0
RequestsAreAnswered =
    (profile : Profile) (before : List (List ℕ)) (m : List ℕ) (row : Row) → IsWithin profile → IsRequest m row → IsSound (state_now profile before)
    → ((service_of m == 2) ≡ false) ⊎ (is_any_given (state_now profile before).clients table.nas ≡ false) → IsAnswered profile before m

-- and one with a client id that isn't given, which is refused
abbrev pub UnknownIdsAreRefused : Type 0
UnknownIdsAreRefused =
    (profile : Profile) (before : List (List ℕ)) (m : List ℕ) (row : Row) → IsRequest m row → is_known (state_now profile before) (head_of m) ≡ false
    → IsReplied profile before m (result_tlv invalid_client_id)

-- ---- the first client id ----

-- the services whose client ids the modem gives
pub data IsService (service : ℕ) : Type 0 where
  of_wds : service ≡ 1 → IsService service
  of_dms : service ≡ 2 → IsService service
  of_nas : service ≡ 3 → IsService service
  of_wms : service ≡ 5 → IsService service

-- the Allocate of a service, as it is read
pub record IsAllocate (m : List ℕ) (service : ℕ) : Type 0 where
  pub kind_is : framed_kind m ≡ Some kind.Request
  pub number : ℕ
  pub head : head_of m ≡ record { service = 0; cid = 0; flags = 0; number = number; message = 0x22; framed = true }
  pub behind : tlvs_in m ≡ tlv_text (record { kind = 1; value = service ∷ [] } ∷ [])

-- the TLVs that bring id 1
abbrev pub first_id_tlvs : ℕ → List ℕ
first_id_tlvs service = answer_tlvs table.allocate.output (success (Some (client_id service 1) ∷ []))

-- a fresh modem gives id 1
pub record GivesFirst (profile : Profile) (m : List ℕ) (service : ℕ) : Type 0 where
  pub replied : IsReplied profile [] m (first_id_tlvs service)
  pub state : state_now profile (m ∷ []) ≡ with_client (fresh profile) service 1

abbrev pub FirstIdsAreOne : Type 0
FirstIdsAreOne = (profile : Profile) (m : List ℕ) (service : ℕ) → IsService service → IsAllocate m service → GivesFirst profile m service
