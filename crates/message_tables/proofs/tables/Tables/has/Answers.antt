use Rattle.std.proofs.Common.{◌∙◌, ap, is_some, Bool, List}
use Rattle.std.specs.Map.{lookup}
use Rattle.message_tables.specs.declared.message.Message.{Message}
use Rattle.message_tables.specs.declared.message.MessageKey.{MessageKey}
use Rattle.message_tables.specs.Messages.{is_among}
use Rattle.message_tables.specs.Keys.{same_key}
use Rattle.message_tables.specs.View.{message_view, messages_in}
use Rattle.message_tables.proofs.Keys.{same-same, among-lookup}
use Rattle.message_tables.proofs.tables.Tables.has.Goals as goal

pub returns : goal.returns
returns c =
    c.contains_key.ensures
    ∙ ap (λ (same : MessageKey → MessageKey → Bool). is_some (lookup (same c.key.result) c.self.inside.messages.entries)) same-same
    ∙ ap (λ (key : MessageKey). is_some (lookup (same_key key) c.self.inside.messages.entries)) c.key.ensures
    ∙ among-lookup (message_view c.args.message.now) c.self.inside.messages.entries c.self.invariant
    ∙ ap (λ (messages : List Message). is_among (message_view c.args.message.now) (messages_in messages)) c.self.view_is
