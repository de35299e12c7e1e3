-- An answer of the modem, and what it is heard as.
use Rattle.mbim_proxy.specs.FromModem.{Heard, IsDone, IsOpenDone, IsError}
use Rattle.mbim_core.specs.declared.answer.Answer.{Answer}
use Rattle.mbim_core.specs.declared.answer.Answer.TheVariants as answer

abbrev pub heard_of : Answer → Heard
heard_of answer.Done = IsDone
heard_of answer.OpenDone = IsOpenDone
heard_of answer.Error = IsError
