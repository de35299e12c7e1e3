use Rattle.std.proofs.Common.{◌≡◌, map, take}
use Rattle.std.specs.List.{flat_map}
use Rattle.message_tables.specs.View.{message_view}
use Rattle.qmi_services.specs.BuiltIn.{forms_of}
use Rattle.qmi_services.specs.View.{row_view}
use Rattle.qmi_services.proofs.tables.all_messages.Given as goal

abbrev pub invariant-loop-row : goal.invariant-loop-row
invariant-loop-row l = map message_view l.messages.items ≡ flat_map forms_of (map (λ row. row_view row.now) (take l.row-index l.rows))
