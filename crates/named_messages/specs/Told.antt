-- The indications that a description's objects tell, each read with the definitions before it: what can't be read is left out.
-- Source: the members `type`, `name` and `common-ref` in libqmi's data/qmi-service-*.json.
use Rattle.std.specs.Prelude.{◌≡◌, ℕ, List, [], ◌∷◌, ◌++◌, Bool, true, false, Option, Some, None, chars, fold, Result, Ok, Err, if◌then◌else◌}
use Rattle.serde_json.specs.Data.{Data, Items}
use Rattle.message_tables.specs.Comments.{json_text}
use Rattle.message_tables.specs.Definitions.{Names, named_by, first_definitions}
use Rattle.message_tables.specs.Members.{text_in, objects_in}
use Rattle.message_tables.specs.Messages.{MessageForm, message_with}
use Rattle.message_tables.specs.Objects.{sort_of}
use Rattle.message_tables.specs.Tables.{value_of}
use Rattle.message_tables.specs.declared.fault.MemberName.TheVariants.{Name, Service}
use Rattle.message_tables.specs.declared.fault.ObjectFault.{ObjectFault}
use Rattle.message_tables.specs.declared.objects.Sort.{Sort}
use Rattle.message_tables.specs.declared.objects.Sort.TheVariants.{Message, Defines, Other}
use Rattle.named_messages.specs.Reading.{Definitions, defined_with, list_of, message_by}
use Rattle.named_messages.specs.Services.{service_called}
use Rattle.named_messages.specs.declared.fault.NamedFault.{NamedFault}
use Rattle.named_messages.specs.declared.fault.NamedFault.TheVariants.{Json, Member, OutOfMemory}

-- ---- one object ----

abbrev pub is_indication : Result Sort ObjectFault → Bool
is_indication (Ok (Message indication)) = indication
is_indication (Ok Defines) = false
is_indication (Ok Other) = false
is_indication (Err fault) = false

abbrev pub indication_for : Names → Data → List ℕ → Option ℕ → Result MessageForm NamedFault
indication_for names entry name None = Err (Member Service)
indication_for names entry name (Some service) = message_by (message_with names entry true (chars name) service)

abbrev pub indication_of : Names → Data → Option (List ℕ) → Option (List ℕ) → Result MessageForm NamedFault
indication_of names entry None service = Err (Member Name)
indication_of names entry (Some name) None = Err (Member Service)
indication_of names entry (Some name) (Some service) = indication_for names entry name (service_called service)

-- the indication that an object describes
unfoldable pub indication_in : Names → Data → Result MessageForm NamedFault
indication_in names entry = indication_of names entry (text_in Name entry) (text_in Service entry)

-- ---- all objects ----

abbrev pub with_read : List MessageForm → Result MessageForm NamedFault → List MessageForm
with_read earlier (Ok message) = earlier ++ message ∷ []
with_read earlier (Err fault) = earlier

-- the indications told so far, and that which one object more describes
abbrev pub told_by : Names → List MessageForm → Data → List MessageForm
told_by names earlier entry = if is_indication (sort_of entry) then with_read earlier (indication_in names entry) else earlier

-- the definitions and the indications so far
pub record Told : Type 0 where
  pub definitions : Definitions
  pub messages : List MessageForm

abbrev pub told_with : Told → Data → Told
told_with so_far entry = record { definitions = defined_with so_far.definitions entry; messages = told_by (named_by so_far.definitions) so_far.messages entry }

abbrev pub nothing_told : Told
nothing_told = record { definitions = first_definitions; messages = [] }

unfoldable pub told_in : List Data → List MessageForm
told_in objects = (fold told_with nothing_told objects).messages

-- ---- the text ----

abbrev pub told_among : Option Items → Result (List MessageForm) NamedFault
told_among None = Err Json
told_among (Some objects) = Ok (told_in (list_of objects))

abbrev pub told_of : Option Data → Result (List MessageForm) NamedFault
told_of None = Err Json
told_of (Some json) = told_among (objects_in json)

-- the indications that a text describes, whose lines that are comments don't count
unfoldable pub indications_in : List ℕ → Result (List MessageForm) NamedFault
indications_in text = told_of (value_of (json_text text))

-- ---- what is answered ----

abbrev pub is_memory : NamedFault → Bool
is_memory OutOfMemory = true
is_memory _ = false

-- what is told, or that there is no list of objects; only want of memory is free
abbrev pub Tells : {T : Type 0} → (T → List MessageForm) → Result (List MessageForm) NamedFault → Result T NamedFault → Type 0
Tells seen stated (Ok told) = stated ≡ Ok (seen told)
Tells seen stated (Err OutOfMemory) = Unit {0}
Tells seen stated (Err fault) = stated ≡ Err fault
