-- What tells messages from each other.
use Rattle.std.specs.Prelude.{◌≡◌, List, Bool, ◌==◌, ◌&&◌, map}
use Rattle.std.specs.Map.{keys_of, values_of}
use Rattle.message_tables.specs.declared.message.Message.{Message}
use Rattle.message_tables.specs.declared.message.MessageKey.{MessageKey}
use Rattle.message_tables.specs.Messages.{MessageForm, same_bool}
use Rattle.message_tables.specs.View.{messages_in}

abbrev pub key_of : MessageForm → MessageKey
key_of message = record { service = message.service; id = message.id; indication = message.indication }

abbrev pub same_key : MessageKey → MessageKey → Bool
same_key key other = key.service == other.service && key.id == other.id && same_bool key.indication other.indication

-- each message stands behind its own key
abbrev pub AreKeyed : List (MessageKey × Message) → Type 0
AreKeyed entries = keys_of entries ≡ map key_of (messages_in (values_of entries))
