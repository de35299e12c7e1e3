-- The tables that a description gives: a fold over its objects.
use Rattle.std.specs.Prelude.{ℕ, ◌+◌, ◌-◌, ◌^◌, min, List, Option, Some, None, Result, Ok, Err, if◌then◌else◌}
use Rattle.std.specs.Str.{is_utf8}
use Rattle.serde_json.specs.Data.{Data, Items, no_items, item}
use Rattle.serde_json.specs.Read.{read}
use Rattle.message_tables.specs.declared.fault.ObjectFault.{ObjectFault}
use Rattle.message_tables.specs.declared.fault.ObjectFault.TheVariants as object_fault
use Rattle.message_tables.specs.declared.fault.TableFault.{TableFault}
use Rattle.message_tables.specs.declared.fault.TableFault.TheVariants.{Json, Member, Format, Twice, Deep, OutOfMemory}
use Rattle.message_tables.specs.Comments.{json_text}
use Rattle.message_tables.specs.Members.{objects_in}
use Rattle.message_tables.specs.Messages.{MessageForm}
use Rattle.message_tables.specs.Objects.{Described, first_described, with_object}

abbrev pub fault_at : ℕ → ObjectFault → TableFault
fault_at number (object_fault.Member name) = Member number name
fault_at number object_fault.Format = Format number
fault_at number object_fault.Twice = Twice number
fault_at number object_fault.Deep = Deep number
fault_at number object_fault.OutOfMemory = OutOfMemory

abbrev pub or_fault : ℕ → (Described → Result Described TableFault) → Result Described ObjectFault → Result Described TableFault
or_fault number more (Ok described) = more described
or_fault number more (Err fault) = Err (fault_at number fault)

-- what objects describe behind those that described this, or the fault of the first that has one; they are counted up to the greatest number of 32 bits
unfoldable pub described_by : ℕ → Described → Items → Result Described TableFault
described_by number so_far no_items = Ok so_far
described_by number so_far (item entry objects) =
    or_fault number (λ described. described_by (min (number + 1) (2 ^ 32 - 1)) described objects) (with_object so_far entry)

abbrev pub messages_of : Result Described TableFault → Result (List MessageForm) TableFault
messages_of (Ok described) = Ok described.messages
messages_of (Err fault) = Err fault

abbrev pub tables_by : Option Items → Result (List MessageForm) TableFault
tables_by None = Err Json
tables_by (Some objects) = messages_of (described_by 0 first_described objects)

-- the messages that a JSON value describes, or the fault of its first object that has one
unfoldable pub tables : Data → Result (List MessageForm) TableFault
tables value = tables_by (objects_in value)

abbrev pub tables_read : Option Data → Result (List MessageForm) TableFault
tables_read None = Err Json
tables_read (Some value) = tables value

-- the JSON value that a text is, where it is one
unfoldable pub value_of : List ℕ → Option Data
value_of text = if is_utf8 text then read text else None

-- the same of a text, whose lines that are comments don't count
unfoldable pub tables_in : List ℕ → Result (List MessageForm) TableFault
tables_in text = tables_read (value_of (json_text text))
