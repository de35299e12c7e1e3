-- What is answered of a named message.
use Rattle.std.proofs.Common.{◌≡◌, List, ℕ, Ok, IfOk, subst}
use Rattle.message_tables.specs.Messages.{MessageForm}
use Rattle.message_tables.specs.View.{message_view}
use Rattle.message_tables.specs.WellMade.{IsSoundMessage}
use Rattle.message_tables.specs.declared.message.Message.{Message}
use Rattle.named_messages.specs.Reading.{named_in}
use Rattle.named_messages.proofs.Sound.{named_in-sound}

pub sound_from : (name text : List ℕ) (message : Message) → named_in name text ≡ Ok (message_view message) → IsSoundMessage (message_view message)
sound_from name text message is = subst (λ found. IfOk found IsSoundMessage) is (named_in-sound name text)
