-- The messages of the table, as those that are read from a description.
use Rattle.std.specs.Prelude.{List, [], ◌∷◌, map, Bool, true, false, if◌then◌else◌}
use Rattle.std.specs.List.{flat_map}
use Rattle.message_tables.specs.Tlvs.{TlvForm}
use Rattle.message_tables.specs.Messages.{MessageForm, message_form}
use Rattle.qmi_services.specs.Table.{Row, rows}

abbrev pub outputs : Row → List TlvForm
outputs row = map (λ output. output.tlv) row.output

abbrev pub form_of : Row → Bool → List TlvForm → MessageForm
form_of row indication input = message_form row.name row.service indication row.id input (outputs row)

-- a message, with its indication right behind it, which has no request
abbrev pub forms_of : Row → List MessageForm
forms_of row = if row.indicated then form_of row false row.input ∷ form_of row true [] ∷ [] else form_of row false row.input ∷ []

abbrev pub built_in : List MessageForm
built_in = flat_map forms_of rows
