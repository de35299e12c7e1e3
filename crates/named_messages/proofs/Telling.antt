-- What is told with an object more.
use Rattle.std.proofs.Common.{◌≡◌, Bool, true, false, List, Result, Ok, Err, refl}
use Rattle.message_tables.specs.Messages.{MessageForm}
use Rattle.message_tables.specs.declared.message.Message.{Message}
use Rattle.named_messages.specs.Answers.{Finds}
use Rattle.named_messages.specs.declared.fault.NamedFault.{NamedFault}
use Rattle.named_messages.specs.declared.fault.NamedFault.TheVariants.{Json, Missing, Several, Member, Format, Twice, Deep, OutOfMemory}
use Rattle.named_messages.specs.Told.{is_memory, with_read}

-- an indication that can't be read is left out
pub left_out : (earlier : List MessageForm) (stated : Result MessageForm NamedFault) (fault : NamedFault) → Finds stated (Err fault) → is_memory fault ≡ false → with_read earlier stated ≡ earlier
left_out earlier stated Json finds other = rw finds refl
left_out earlier stated Missing finds other = rw finds refl
left_out earlier stated Several finds other = rw finds refl
left_out earlier stated (Member which) finds other = rw finds refl
left_out earlier stated Format finds other = rw finds refl
left_out earlier stated Twice finds other = rw finds refl
left_out earlier stated Deep finds other = rw finds refl
left_out earlier stated OutOfMemory finds other = absurd cc
