use Rattle.std.proofs.Common.{◌∙◌, sym}
use Rattle.message_tables.specs.View.{messages_in, names_in}
use Rattle.serde_json.specs.View.{view}
use Rattle.named_messages.specs.Told.{indication_in}
use Rattle.named_messages.proofs.Telling.{left_out}
use Rattle.named_messages.proofs.told.tell.Goals as goal

pub returns-else-is_memory : goal.returns-else-is_memory
returns-else-is_memory c =
    let is = sym c.is_indication.ensures ∙ c.if-not-is_indication.false in
    rw is (sym (left_out (messages_in c.args.told.now.items) (indication_in (names_in c.args.definitions.now) (view c.args.object.now)) c.in-Err.fault c.in-Err.ensures (sym c.is_memory.ensures ∙ c.if-is_memory.false)))
