use Rattle.std.proofs.Common.{◌∙◌, ap, Bool, List, find, option_map}
use Rattle.std.specs.Map.{lookup}
use Rattle.message_tables.specs.declared.message.Message.{Message}
use Rattle.message_tables.specs.declared.message.MessageKey.{MessageKey}
use Rattle.message_tables.specs.Messages.{is_key}
use Rattle.message_tables.specs.View.{message_view, messages_in}
use Rattle.message_tables.proofs.Keys.{same-same, find-lookup, seen-lent}
use Rattle.message_tables.proofs.tables.Tables.message.Goals as goal

pub returns : goal.returns
returns c =
    let key : MessageKey = record { service = c.args.service; id = c.args.id; indication = c.args.indication } in
    seen-lent c.get.result
    ∙ ap (option_map message_view) (c.get.ensures.value ∙ ap (λ (same : MessageKey → MessageKey → Bool). lookup (same key) c.self.inside.messages.entries) same-same)
    ∙ find-lookup c.args.service c.args.id c.args.indication c.self.inside.messages.entries c.self.invariant
    ∙ ap (λ (messages : List Message). find (is_key c.args.service c.args.id c.args.indication) (messages_in messages)) c.self.view_is
