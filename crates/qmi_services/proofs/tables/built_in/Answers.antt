use Rattle.std.proofs.Common.{◌≡◌, [], false, List, sym, ◌∙◌, ap, subst}
use Rattle.std.specs.List.{flat_map}
use Rattle.message_tables.specs.Messages.{MessageForm}
use Rattle.message_tables.specs.WellMade.{again_behind}
use Rattle.qmi_services.specs.BuiltIn.{forms_of}
use Rattle.qmi_services.proofs.Sound.{sound}
use Rattle.qmi_services.proofs.tables.built_in.Goals as goal

pub from_messages-requires : goal.from_messages-requires
from_messages-requires c = subst (λ (messages : List MessageForm). again_behind [] messages ≡ false) (sym (c.in_ok-messages.ensures ∙ ap (flat_map forms_of) c.rows.ensures)) sound.once
