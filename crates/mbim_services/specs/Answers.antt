-- What the answer to a request says, by its status and its buffer.
-- Source: the USB-IF MBIM specification 1.0, MBIM_COMMAND_DONE (section 9.4.3): the status of a success is 0.
use Rattle.std.specs.Prelude.{◌≡◌, ◌≢◌, ◌<◌, ℕ, List, Result, Ok, Err}
use Rattle.mbim_fields.specs.Layout.{Layout}
use Rattle.mbim_fields.specs.Value.{list_of}
use Rattle.mbim_fields.specs.Fields.{Fields}
use Rattle.mbim_fields.specs.Footprint.{footprint, footprint_limit}
use Rattle.mbim_fields.specs.Decoding.{HasNone, IsWithinLimit}
use Rattle.mbim_fields.specs.View.{shape_view, val_view}
use Rattle.mbim_fields.specs.declared.fault.FieldFault.{FieldFault}
use Rattle.mbim_fields.specs.declared.fault.FieldFault.TheVariants as field_fault
use Rattle.mbim_services.specs.declared.answers.MbimAnswer.{MbimAnswer}
use Rattle.mbim_services.specs.declared.answers.MbimAnswer.TheVariants.{Success, Failure}
use Rattle.mbim_services.specs.declared.answers.AnswerFault.{AnswerFault}
use Rattle.mbim_services.specs.declared.answers.AnswerFault.TheVariants.{Unread, TooLarge, OutOfMemory}

-- what a status and a buffer say to a request whose answers have this layout
abbrev pub Answers : Layout → (status : ℕ) → (buffer : List ℕ) → Result MbimAnswer AnswerFault → Type 0
Answers layout status buffer (Ok (Failure code)) = (status ≢ 0) × (code ≡ status)
Answers layout status buffer (Ok (Success shape val)) = (status ≡ 0) × (shape_view shape ≡ layout) × Fields layout (list_of (val_view val)) buffer
Answers layout status buffer (Err Unread) = (status ≡ 0) × HasNone layout buffer
Answers layout status buffer (Err TooLarge) = (status ≡ 0) × (footprint_limit < footprint layout buffer)
Answers layout status buffer (Err OutOfMemory) = Unit {0}

-- what is read of a success counts as no more bytes than the limit, but for want of memory
abbrev pub Fits : Layout → (buffer : List ℕ) → Result MbimAnswer AnswerFault → Type 0
Fits layout buffer (Ok (Success shape val)) = IsWithinLimit layout buffer
Fits layout buffer (Ok (Failure code)) = Unit {0}
Fits layout buffer (Err Unread) = IsWithinLimit layout buffer
Fits layout buffer (Err _) = Unit {0}

abbrev pub fault_of : FieldFault → AnswerFault
fault_of (field_fault.OutOfRange place) = Unread
fault_of (field_fault.Lone place) = Unread
fault_of field_fault.TooLarge = TooLarge
fault_of field_fault.OutOfMemory = OutOfMemory
