-- What the answers to an OPEN and to a command say.
-- Source: the USB-IF MBIM specification 1.0, section 9.4.
use Rattle.std.specs.Prelude.{◌≡◌, ◌≢◌, ◌⊎◌, ℕ, Bool, true, false, ◌==◌, if◌then◌else◌, List, [], ◌∷◌, ◌++◌, length, Option, Some, None, Result, Ok, Err}
use Rattle.mbim_frame.specs.Numbers.{u32_at}
use Rattle.mbim_frame.specs.Bodies.{is_done, status_of, buffer_of}
use Rattle.mbim_fragments.specs.Runs.{joined}
use Rattle.mbim_requests.specs.declared.MbimRequest.{MbimRequest}
use Rattle.mbim_services.specs.declared.answers.MbimAnswer.TheVariants.{Failure}
use Rattle.mbim_services.specs.declared.answers.AnswerFault.TheVariants.{Unread}
use Rattle.mbim_services.specs.Requests.{sent_by}
use Rattle.mbim_services.specs.Answers.{Answers}
use Rattle.link_session.specs.declared.fault.SessionFault.{SessionFault}
use Rattle.link_session.specs.declared.fault.SessionFault.TheVariants as fault
use Rattle.link_session.specs.Marks.{Placed}
use Rattle.mbim_session.specs.declared.plan.MbimEnd.{MbimEnd}
use Rattle.mbim_session.specs.declared.plan.MbimEnd.TheVariants.{Answer, FunctionError}
use Rattle.mbim_session.specs.Requests.{is_error, pieces, bytes_of, begins_at}

-- the number behind the head: the status of OPEN_DONE, the code of FUNCTION_ERROR
abbrev pub field_of : List ℕ → ℕ
field_of message = u32_at message 12

-- ---- to an OPEN ----

-- how the answer ends the session, if it does
abbrev pub refusal : ℕ → List ℕ → Option MbimEnd
refusal number message =
    if is_error number message then Some (FunctionError (field_of message))
    else if field_of message == 0 then None
    else Some (Answer (Failure (field_of message)))

-- one that hasn't 16 bytes breaks the session where it begins
abbrev pub ReadsOpening : ℕ → Placed → Result (Option MbimEnd) SessionFault → Type 0
ReadsOpening number message (Ok refused) = (length message.bytes ≡ 16) × (refused ≡ refusal number message.bytes)
ReadsOpening number message (Err (fault.Broken place)) = (length message.bytes ≢ 16) × (place ≡ message.place)
ReadsOpening number message (Err _) = ⊥

-- ---- to a command ----

abbrev pub ReadsError : Placed → Result MbimEnd SessionFault → Type 0
ReadsError message (Ok (FunctionError code)) = (length message.bytes ≡ 16) × (code ≡ field_of message.bytes)
ReadsError message (Err (fault.Broken place)) = (length message.bytes ≢ 16) × (place ≡ message.place)
ReadsError message _ = ⊥

-- what its fragments carry
abbrev pub body_with : List Placed → Placed → List ℕ
body_with pieces message = joined (bytes_of pieces ++ message.bytes ∷ [])

-- a body that breaks its length rule or doesn't read breaks the session where the answer begins
abbrev pub ReadsBody : MbimRequest → (place : ℕ) → (body : List ℕ) → Result MbimEnd SessionFault → Type 0
ReadsBody request begin body (Ok (Answer answer)) = (is_done body ≡ true) × Answers (sent_by request).row.done (status_of body) (buffer_of body) (Ok answer)
ReadsBody request begin body (Err (fault.Broken place)) = (place ≡ begin) × ((is_done body ≡ false) ⊎ Answers (sent_by request).row.done (status_of body) (buffer_of body) (Err Unread))
ReadsBody request begin body (Err fault.OutOfMemory) = Unit {0}
ReadsBody request begin body _ = ⊥

abbrev pub ReadsAs : (error : Bool) → MbimRequest → List Placed → Placed → Result MbimEnd SessionFault → Type 0
ReadsAs true request pieces message result = ReadsError message result
ReadsAs false request pieces message result = ReadsBody request (begins_at pieces message) (body_with pieces message) result

-- the messages before it hold its other fragments
abbrev pub Reads : MbimRequest → ℕ → List Placed → Placed → Result MbimEnd SessionFault → Type 0
Reads request number before message result = ReadsAs (is_error number message.bytes) request (pieces number before) message result
