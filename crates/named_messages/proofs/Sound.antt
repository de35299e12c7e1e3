-- The message of a name is sound.
use Rattle.std.proofs.Common.{◌≡◌, ℕ, Bool, true, false, ◌||◌, List, [], ◌∷◌, Option, Some, None, Result, Ok, Err, IfOk, chars, filter, fold, refl, if◌then◌else◌}
use Rattle.std.specs.List.{AllByRecursion, before_first}
use Rattle.std.proofs.lemmas.Bool.{and_parts, or_parts, not-false}
use Rattle.qmi_shapes.specs.WellMade.{IsWellMade}
use Rattle.serde_json.specs.Data.{Data, Items}
use Rattle.message_tables.specs.Comments.{json_text}
use Rattle.message_tables.specs.Definitions.{Definition, Names, named_by, first_definitions}
use Rattle.message_tables.specs.Members.{text_in, objects_in}
use Rattle.message_tables.specs.Messages.{MessageForm, message_with, is_deep}
use Rattle.message_tables.specs.Objects.{sort_of, definition_of}
use Rattle.message_tables.specs.Reading.{Reading, faulty, unknown, known}
use Rattle.message_tables.specs.Tables.{value_of}
use Rattle.message_tables.specs.Tlvs.{TlvForm, nests_well, has_twice, nest_well}
use Rattle.message_tables.specs.WellMade.{IsSoundMessage}
use Rattle.message_tables.specs.declared.fault.MemberName.TheVariants.{Service}
use Rattle.message_tables.proofs.Soundness.{OnKnown, AreDefined, IsDefined}
use Rattle.message_tables.proofs.SoundTables.{message_with-well, sound-tlvs, defined-more, definition_of-good, first-defined}
use Rattle.named_messages.specs.declared.fault.NamedFault.{NamedFault}
use Rattle.named_messages.specs.declared.fault.NamedFault.TheVariants.{Twice, Deep}
use Rattle.named_messages.specs.Named.{is_definition, is_named}
use Rattle.named_messages.specs.Reading.{Definitions, defined_by, defined_with, defined_in, message_by, message_for, message_of_service, message_in, only, message_named, named_among, named_of, named_in}
use Rattle.named_messages.specs.Services.{service_called}

abbrev pub IsWellTlv : TlvForm → Type 0
IsWellTlv tlv = IsWellMade tlv.form

abbrev IsGoodPair : List ℕ × Definition → Type 0
IsGoodPair definition = IsDefined definition.1

abbrev pub IsSound : Result MessageForm NamedFault → Type 0
IsSound message = IfOk message IsSoundMessage

-- ---- definitions ----

abbrev pub AreGood : Definitions → Type 0
AreGood definitions = AreDefined (named_by definitions)

defined_by-good : (earlier : Definitions) (reading : Reading (List ℕ × Definition)) → AreGood earlier → OnKnown IsGoodPair reading → AreGood (defined_by earlier reading)
defined_by-good earlier (faulty which) good holds = good
defined_by-good earlier unknown good holds = good
defined_by-good earlier (known definition) good holds = by (nests_well definition.1.form)
  where
    by : (b : Bool) → AreGood (if b then definition ∷ earlier else earlier)
    by true = defined-more definition earlier holds good
    by false = good

pub defined_with-good : (earlier : Definitions) (entry : Data) → AreGood earlier → AreGood (defined_with earlier entry)
defined_with-good earlier entry good = by (is_definition (sort_of entry))
  where
    by : (b : Bool) → AreGood (if b then defined_by earlier (definition_of (named_by earlier) entry) else earlier)
    by true = defined_by-good earlier (definition_of (named_by earlier) entry) good (definition_of-good (named_by earlier) good entry)
    by false = good

folded-good : (earlier : Definitions) (objects : List Data) → AreGood earlier → AreGood (fold defined_with earlier objects)
folded-good earlier [] good = good
folded-good earlier (entry ∷ objects) good = folded-good (defined_with earlier entry) objects (defined_with-good earlier entry good)

-- ---- messages ----

known-sound : (message : MessageForm) → AllByRecursion IsWellTlv message.input × AllByRecursion IsWellTlv message.output → IsSound (message_by (known message))
known-sound message well = by (has_twice message.input || has_twice message.output) (is_deep message) refl refl
  where
    by : (twice deep : Bool) → has_twice message.input || has_twice message.output ≡ twice → is_deep message ≡ deep
        → IsSound (if twice then Err Twice else if deep then Err Deep else Ok message)
    by true deep ids flat = tt
    by false true ids flat = tt
    by false false ids flat =
        let once = or_parts (has_twice message.input) (has_twice message.output) ids in
        let nest = and_parts (nest_well message.input) (nest_well message.output) (not-false _ flat) in
        record { input = sound-tlvs message.input well.0 nest.0; output = sound-tlvs message.output well.1 nest.1; input_once = once.0; output_once = once.1 }

pub message_by-sound : (reading : Reading MessageForm) → OnKnown (λ m. AllByRecursion IsWellTlv m.input × AllByRecursion IsWellTlv m.output) reading → IsSound (message_by reading)
message_by-sound (faulty which) well = tt
message_by-sound unknown well = tt
message_by-sound (known message) well = known-sound message well

module _ (names : Names) (defined : AreDefined names) (name : List ℕ) (entry : Data) where
  for-sound : (service : Option ℕ) → IsSound (message_for names entry name service)
  for-sound None = tt
  for-sound (Some service) = message_by-sound (message_with names entry false (chars name) service) (message_with-well names defined entry false (chars name) service)

  of_service-sound : (service : Option (List ℕ)) → IsSound (message_of_service names entry name service)
  of_service-sound None = tt
  of_service-sound (Some service) = for-sound (service_called service)

  message_in-sound : IsSound (message_in names name entry)
  unfolding message_in
  message_in-sound = of_service-sound (text_in Service entry)

only-sound : (read : Data → Result MessageForm NamedFault) → ((entry : Data) → IsSound (read entry)) → (objects : List Data) → IsSound (only read objects)
only-sound read good [] = tt
only-sound read good (entry ∷ []) = good entry
only-sound read good (entry ∷ other ∷ more) = tt

message_named-sound : (name : List ℕ) (objects : List Data) → IsSound (message_named name objects)
unfolding message_named
message_named-sound name objects = only-sound _ (λ entry. message_in-sound _ (folded-good first_definitions (before_first (is_named name) objects) first-defined) name entry) (filter (is_named name) objects)

among-sound : (name : List ℕ) (objects : Option Items) → IsSound (named_among name objects)
among-sound name None = tt
among-sound name (Some objects) = message_named-sound name _

of-sound : (name : List ℕ) (json : Option Data) → IsSound (named_of name json)
of-sound name None = tt
of-sound name (Some json) = among-sound name (objects_in json)

pub named_in-sound : (name text : List ℕ) → IsSound (named_in name text)
unfolding named_in
named_in-sound name text = of-sound name (value_of (json_text text))
