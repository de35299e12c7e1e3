-- The verdict on an answer: whether it reads, and whether it is a success, each as a function of its bytes.
use Rattle.std.specs.Prelude.{◌≡◌, ℕ, zero, suc, Bool, true, false, not, ◌==◌, ◌&&◌, ◌||◌, if◌then◌else◌, nat_lt, List, [], ◌∷◌, take, option_and_then, Option, Some, None, Result, Ok, Err}
use Rattle.qmux_frame.specs.Head.{is_framed, tlvs_in}
use Rattle.tlv_codec.specs.declared.outcome.Outcome.{Outcome}
use Rattle.tlv_codec.specs.Tlv.{tlv_value}
use Rattle.tlv_codec.specs.Outcome.{outcome_in, is_success}
use Rattle.qmi_shapes.specs.declared.shape.Prefix.{Prefix}
use Rattle.qmi_shapes.specs.declared.shape.Prefix.TheVariants.{Rest, Fixed, Counted}
use Rattle.qmi_shapes.specs.Form.{Form, unsigned, signed, string, array, sequence, Fields, no_fields, field}
use Rattle.qmi_values.specs.Numbers.{little_endian}
use Rattle.qmi_requests.specs.declared.QmiRequest.{QmiRequest}
use Rattle.qmi_services.specs.Table.{Output}
use Rattle.qmi_services.specs.Requests.{row_of}
use Rattle.qmi_services.specs.declared.answers.QmiAnswer.{QmiAnswer}
use Rattle.qmi_services.specs.declared.answers.QmiAnswer.TheVariants.{Success, Failure}
use Rattle.link_session.specs.declared.fault.SessionFault.{SessionFault}
use Rattle.link_session.specs.declared.fault.SessionFault.TheVariants as fault
use Rattle.link_session.specs.Marks.{Placed}
use Rattle.device_core.specs.Session.{Reads}

-- ---- the bytes behind what some begin with, if they begin so ----

-- behind so many bytes
abbrev pub behind_octets : ℕ → List ℕ → Option (List ℕ)
behind_octets zero bytes = Some bytes
behind_octets (suc count) [] = None
behind_octets (suc count) (byte ∷ bytes) = behind_octets count bytes

-- behind a number in so many bytes
abbrev pub behind_number : ℕ → List ℕ → Option (List ℕ)
behind_number zero bytes = Some bytes
behind_number (suc size) [] = None
behind_number (suc size) (byte ∷ bytes) = if nat_lt byte 256 then behind_number size bytes else None

-- behind so many of what stands one after another
abbrev pub behind_each : (List ℕ → Option (List ℕ)) → ℕ → List ℕ → Option (List ℕ)
behind_each behind_one zero bytes = Some bytes
behind_each behind_one (suc count) bytes = option_and_then (behind_each behind_one count) (behind_one bytes)

-- behind as many as a prefix says, or behind all that is left
abbrev pub behind_prefixed : Prefix → (ℕ → List ℕ → Option (List ℕ)) → List ℕ → Option (List ℕ)
behind_prefixed Rest behind_many bytes = Some []
behind_prefixed (Fixed count) behind_many bytes = behind_many count bytes
behind_prefixed (Counted size) behind_many bytes = option_and_then (behind_many (little_endian (take size bytes))) (behind_number size bytes)

abbrev mutual
  -- behind a value of this form
  pub behind_value : Form → List ℕ → Option (List ℕ)
  behind_value (unsigned size) bytes = behind_number size bytes
  behind_value (signed size) bytes = behind_number size bytes
  behind_value (string prefix) bytes = behind_prefixed prefix behind_octets bytes
  behind_value (array prefix element) bytes = behind_prefixed prefix (behind_each (behind_value element)) bytes
  behind_value (sequence fields) bytes = behind_fields fields bytes

  pub behind_fields : Fields → List ℕ → Option (List ℕ)
  behind_fields no_fields bytes = Some bytes
  behind_fields (field name form more) bytes = option_and_then (behind_fields more) (behind_value form bytes)

-- ---- whether an answer reads ----

abbrev pub is_none_left : Option (List ℕ) → Bool
is_none_left (Some []) = true
is_none_left _ = false

-- all of some bytes are a value of this form
abbrev pub is_spelling : Form → List ℕ → Bool
is_spelling form bytes = is_none_left (behind_value form bytes)

-- a TLV of the table reads whose first value is this one, or that isn't there
abbrev pub is_read : Output → Option (List ℕ) → Bool
is_read output None = not output.needed
is_read output (Some bytes) = is_spelling output.tlv.form bytes

abbrev pub are_read : List Output → List ℕ → Bool
are_read [] tlvs = true
are_read (output ∷ outputs) tlvs = is_read output (tlv_value output.tlv.kind tlvs) && are_read outputs tlvs

-- an answer with this outcome reads, where the TLVs of the table do or don't, which only a success needs
abbrev pub reads_with : Option Outcome → Bool → Bool
reads_with None read = false
reads_with (Some outcome) read = not (outcome.status == 0) || read

-- a message reads as an answer to this request
unfoldable pub reads : QmiRequest → List ℕ → Bool
reads request message = is_framed message && reads_with (outcome_in (tlvs_in message)) (are_read (row_of request).output (tlvs_in message))

-- and is a success
unfoldable pub succeeds : QmiRequest → List ℕ → Bool
succeeds request message = reads request message && is_success (outcome_in (tlvs_in message))

-- ---- the law ----

-- want of memory says nothing of the answer
abbrev pub HasVerdict : Result QmiAnswer SessionFault → (reads succeeds : Bool) → Type 0
HasVerdict (Ok (Success fields)) reads succeeds = (reads ≡ true) × (succeeds ≡ true)
HasVerdict (Ok (Failure error)) reads succeeds = (reads ≡ true) × (succeeds ≡ false)
HasVerdict (Err fault.OutOfMemory) reads succeeds = Unit {0}
HasVerdict (Err why) reads succeeds = (reads ≡ false) × (succeeds ≡ false)

-- the verdict on an answer is that of what is read of it
abbrev pub VerdictsAreOfWhatIsRead : Type 0
VerdictsAreOfWhatIsRead =
    (request : QmiRequest) (message : Placed) (result : Result QmiAnswer SessionFault)
    → Reads request message result → HasVerdict result (reads request message.bytes) (succeeds request message.bytes)
