-- Tables that are read are sound: TLVs, messages and objects.
use Rattle.std.proofs.Common.{◌≡◌, ℕ, ◌≤◌, Bool, true, false, inr, ◌||◌, List, [], ◌∷◌, ◌++◌, Option, Some, None, IfSome, Result, Ok, Err, IfOk, bytes_eq, codes, refl, sym, ap, ◌∙◌, arith, append_assoc, append-nil, if◌then◌else◌}
use Rattle.std.proofs.lemmas.Grind.{common_steps}
use Rattle.std.specs.List.{AllByRecursion}
use Rattle.std.proofs.lemmas.Bool.{and_parts, or_parts, not-false}
use Rattle.kit_bytes.proofs.Lists.{all_push}
use Rattle.serde_json.specs.Data.{Data, Items, no_items, item}
use Rattle.qmi_shapes.specs.Form.{Form}
use Rattle.qmi_shapes.specs.WellMade.{IsSize, IsWellMade}
use Rattle.message_tables.specs.declared.fault.MemberName.{MemberName}
use Rattle.message_tables.specs.declared.fault.MemberName.TheVariants as which
use Rattle.message_tables.specs.declared.fault.ObjectFault.{ObjectFault}
use Rattle.message_tables.specs.declared.fault.TableFault.{TableFault}
use Rattle.message_tables.specs.declared.objects.Sort.{Sort}
use Rattle.message_tables.specs.declared.objects.Sort.TheVariants.{Message, Defines, Other}
use Rattle.message_tables.specs.Reading.{Reading, faulty, unknown, known, and_then, required, listed}
use Rattle.message_tables.specs.Members.{value_in, text_in, objects_in}
use Rattle.message_tables.specs.Numbers.{id_in, tlv_id_in}
use Rattle.message_tables.specs.Definitions.{Definition, Names, named_by, referred, first_definitions, operation_result}
use Rattle.message_tables.specs.Forms.{form_of}
use Rattle.message_tables.specs.Tlvs.{TlvForm, tlv_with, tlv_for, named_kind, tlv_by, tlv_of, tlvs_listed, tlvs_at, tlvs_in, has_twice, nesting, nests_well, nest_well}
use Rattle.message_tables.specs.Messages.{MessageForm, message_form, message_with, message_for, message_by, message_of, service_named, is_among, comes_twice, is_deep}
use Rattle.message_tables.specs.Objects.{Described, first_described, with_message, definition_with, definition_of, with_definition, with_sort, sort_of, with_object}
use Rattle.message_tables.specs.Tables.{or_fault, described_by, messages_of, tables_by, tables, tables_read, value_of, tables_in}
use Rattle.message_tables.specs.WellMade.{IsSoundTlv, IsSoundMessage, again_behind, AreSound}
use Rattle.message_tables.proofs.Soundness.{OnKnown, on_map, on_then, on_any, AreDefined, IsDefined, form-well, if_some_then}

-- ---- TLVs ----

abbrev IsWellTlv : TlvForm → Type 0
IsWellTlv tlv = IsWellMade tlv.form

-- a function that keeps the form that it is given
abbrev KeepsForm : (Form → TlvForm) → Type 0
KeepsForm head = (form : Form) → IsWellMade form → IsWellTlv (head form)

module _ (names : Names) (defined : AreDefined names) where
  tlv_for-well : (definition : Option Definition) → IfSome definition IsDefined → OnKnown IsWellTlv (tlv_for definition)
  tlv_for-well None good = tt
  tlv_for-well (Some definition) good =
      on_then (λ _. Unit {0}) (λ _. Unit {0}) IsWellTlv (λ name kind. tlv_with name definition.form kind) (λ name kind first second. good)
      (required which.Name definition.name) (required which.Id definition.id) (on_any _) (on_any _)

  tlv_by-well : (reference : Option Data) (entry : Data) → OnKnown IsWellTlv (tlv_by names reference entry)
  tlv_by-well (Some reference) entry = tlv_for-well (referred names reference) (if_some_then IsDefined names defined _)
  tlv_by-well None entry =
      on_then KeepsForm IsWellMade IsWellTlv (λ head form. head form) (λ head form keeps well. keeps form well)
      (and_then named_kind (required which.Name (text_in which.Name entry)) (required which.Id (tlv_id_in entry))) (form_of names entry)
      (on_then (λ _. Unit {0}) (λ _. Unit {0}) KeepsForm named_kind (λ bytes kind first second form well. well)
      (required which.Name (text_in which.Name entry)) (required which.Id (tlv_id_in entry)) (on_any _) (on_any _))
      (form-well names defined entry)

  tlv_of-well : (entry : Data) → OnKnown IsWellTlv (tlv_of names entry)
  unfolding tlv_of
  tlv_of-well entry = tlv_by-well _ entry

  abbrev AreWell : List TlvForm → Type 0
  AreWell tlvs = AllByRecursion IsWellTlv tlvs

  listed-well : (objects : Items) → OnKnown AreWell (listed (tlv_of names) objects)
  listed-well no_items = tt
  listed-well (item value values) =
      on_then IsWellTlv AreWell AreWell (λ first more. first ∷ more) (λ first more well rest. (well, rest)) (tlv_of names value) (listed (tlv_of names) values) (tlv_of-well value) (listed-well values)

  tlvs_listed-well : (member_name : MemberName) (objects : Option Items) → OnKnown AreWell (tlvs_listed member_name names objects)
  tlvs_listed-well member_name None = tt
  tlvs_listed-well member_name (Some objects) = listed-well objects

  tlvs_at-well : (member_name : MemberName) (value : Option Data) → OnKnown AreWell (tlvs_at member_name names value)
  tlvs_at-well member_name None = tt
  tlvs_at-well member_name (Some value) = tlvs_listed-well member_name (objects_in value)

  tlvs_in-well : (member_name : MemberName) (entry : Data) → OnKnown AreWell (tlvs_in member_name names entry)
  unfolding tlvs_in
  tlvs_in-well member_name entry = tlvs_at-well member_name (value_in member_name entry)

  -- ---- messages ----

  abbrev IsWellMessage : MessageForm → Type 0
  IsWellMessage message = AreWell message.input × AreWell message.output

  abbrev KeepsOutput : (List TlvForm → MessageForm) → Type 0
  KeepsOutput head = (output : List TlvForm) → AreWell output → IsWellMessage (head output)

  pub message_with-well : (entry : Data) (indication : Bool) (name : List ℕ) (service : ℕ) → OnKnown IsWellMessage (message_with names entry indication name service)
  unfolding message_with
  message_with-well entry indication name service =
      on_then KeepsOutput AreWell IsWellMessage (λ head output. head output) (λ head output keeps well. keeps output well)
      (and_then (message_form name service indication) (required which.Id (id_in entry)) (tlvs_in which.Input names entry)) (tlvs_in which.Output names entry)
      (on_then (λ _. Unit {0}) AreWell KeepsOutput (message_form name service indication) (λ id input first well output rest. (well, rest)) (required which.Id (id_in entry))
      (tlvs_in which.Input names entry) (on_any _) (tlvs_in-well which.Input entry))
      (tlvs_in-well which.Output entry)

  abbrev MayBeWell : Option MessageForm → Type 0
  MayBeWell message = IfSome message IsWellMessage

  message_for-well : (entry : Data) (indication : Bool) (name : List ℕ) (service : Option ℕ) → OnKnown MayBeWell (message_for names entry indication name service)
  message_for-well entry indication name None = tt
  message_for-well entry indication name (Some service) =
      on_map IsWellMessage MayBeWell Some (λ message well. well) (message_with names entry indication name service) (message_with-well entry indication name service)

  message_by-well : (entry : Data) (indication : Bool) (name service : Option (List ℕ)) → OnKnown MayBeWell (message_by names entry indication name service)
  message_by-well entry indication None service = tt
  message_by-well entry indication (Some name) None = tt
  message_by-well entry indication (Some name) (Some service) = message_for-well entry indication _ (service_named service)

  message_of-well : (entry : Data) (indication : Bool) → OnKnown MayBeWell (message_of names entry indication)
  unfolding message_of
  message_of-well entry indication = message_by-well entry indication _ _

-- ---- lists of messages ----

nests : (form : Form) → nests_well form ≡ true → nesting form ≤ 16
nests form is = grind (arith, common_steps)

pub sound-tlvs : (tlvs : List TlvForm) → AllByRecursion IsWellTlv tlvs → nest_well tlvs ≡ true → AllByRecursion IsSoundTlv tlvs
sound-tlvs [] well nest = tt
sound-tlvs (tlv ∷ tlvs) well nest =
    let both = and_parts (nests_well tlv.form) (nest_well tlvs) nest in (record { well_made = well.0; nests_well = nests tlv.form both.0 }, sound-tlvs tlvs well.1 both.1)

again-push : (earlier messages : List MessageForm) (message : MessageForm) → again_behind earlier messages ≡ false → is_among message (earlier ++ messages) ≡ false
    → again_behind earlier (messages ++ message ∷ []) ≡ false
again-push earlier [] message once new = rw (sym (ap (is_among message) (append-nil earlier)) ∙ new) refl
again-push earlier (first ∷ more) message once new =
    let both = or_parts (is_among first earlier) (again_behind (earlier ++ first ∷ []) more) once in
    rw both.0 (again-push (earlier ++ first ∷ []) more message both.1 (ap (is_among message) (append_assoc earlier (first ∷ []) more) ∙ new))

-- ---- objects ----

record IsSoundSoFar (described : Described) : Type 0 where
  defined : AreDefined (named_by described.definitions)
  messages : AreSound described.messages

taken-sound : (so_far : Described) (message : MessageForm) → IsSoundSoFar so_far → (AllByRecursion IsWellTlv message.input × AllByRecursion IsWellTlv message.output)
    → comes_twice message so_far.messages ≡ false → is_deep message ≡ false → IsSoundSoFar (record so_far { messages = so_far.messages ++ message ∷ [] })
taken-sound so_far message sound well once flat =
    let new = or_parts (is_among message so_far.messages) (has_twice message.input || has_twice message.output) once in
    let ids = or_parts (has_twice message.input) (has_twice message.output) new.1 in
    let nest = and_parts (nest_well message.input) (nest_well message.output) (not-false _ flat) in
    record {
      defined = sound.defined;
      messages = record {
        each =
            all_push IsSoundMessage so_far.messages message sound.messages.each
            (record { input = sound-tlvs message.input well.0 nest.0; output = sound-tlvs message.output well.1 nest.1; input_once = ids.0; output_once = ids.1 });
        once = again-push [] so_far.messages message sound.messages.once new.0;
      };
    }

refused-or-taken : (so_far : Described) (message : MessageForm) (twice deep : Bool) → comes_twice message so_far.messages ≡ twice → is_deep message ≡ deep → IsSoundSoFar so_far
    → (AllByRecursion IsWellTlv message.input × AllByRecursion IsWellTlv message.output) → IfOk (with_message so_far (known (Some message))) IsSoundSoFar
refused-or-taken so_far message true deep again is sound well = rw again tt
refused-or-taken so_far message false true again is sound well = rw (again, is) tt
refused-or-taken so_far message false false again is sound well = rw (again, is) (taken-sound so_far message sound well again is)

with_message-sound : (so_far : Described) (reading : Reading (Option MessageForm)) → IsSoundSoFar so_far
    → OnKnown (λ message. IfSome message (λ m. AllByRecursion IsWellTlv m.input × AllByRecursion IsWellTlv m.output)) reading → IfOk (with_message so_far reading) IsSoundSoFar
with_message-sound so_far (faulty member_name) sound well = tt
with_message-sound so_far unknown sound well = tt
with_message-sound so_far (known None) sound well = sound
with_message-sound so_far (known (Some message)) sound well = refused-or-taken so_far message _ _ refl refl sound well

pub defined-more : (definition : List ℕ × Definition) (definitions : List (List ℕ × Definition)) → IsDefined definition.1 → AreDefined (named_by definitions) → AreDefined (named_by (definition ∷ definitions))
defined-more definition definitions good defined = λ name. by (bytes_eq definition.0 name) (named_by definitions name) (defined name)
  where
    by : (b : Bool) (rest : Option Definition) → IfSome rest IsDefined → IfSome (if b then Some definition.1 else rest) IsDefined
    by true rest others = good
    by false rest others = others

abbrev IsGoodPair : List ℕ × Definition → Type 0
IsGoodPair definition = IsDefined definition.1

defined-or-deep : (so_far : Described) (definition : List ℕ × Definition) (flat : Bool) → nests_well definition.1.form ≡ flat → IsSoundSoFar so_far → IsGoodPair definition
    → IfOk (with_definition so_far (known definition)) IsSoundSoFar
defined-or-deep so_far definition true is sound good = rw is (record { defined = defined-more definition so_far.definitions good sound.defined; messages = sound.messages })
defined-or-deep so_far definition false is sound good = rw is tt

with_definition-sound : (so_far : Described) (reading : Reading (List ℕ × Definition)) → IsSoundSoFar so_far → OnKnown IsGoodPair reading → IfOk (with_definition so_far reading) IsSoundSoFar
with_definition-sound so_far (faulty member_name) sound good = tt
with_definition-sound so_far unknown sound good = tt
with_definition-sound so_far (known definition) sound good = defined-or-deep so_far definition _ refl sound good

pub definition_of-good : (names : Names) → AreDefined names → (entry : Data) → OnKnown IsGoodPair (definition_of names entry)
unfolding definition_of
definition_of-good names defined entry =
    on_then (λ _. Unit {0}) IsWellMade IsGoodPair (definition_with entry) (λ reference form first well. well) (required which.CommonRef (text_in which.CommonRef entry)) (form_of names entry) (on_any _)
    (form-well names defined entry)

with_sort-sound : (so_far : Described) (entry : Data) (sort : Result Sort ObjectFault) → IsSoundSoFar so_far → IfOk (with_sort so_far entry sort) IsSoundSoFar
with_sort-sound so_far entry (Err fault) sound = tt
with_sort-sound so_far entry (Ok (Message indication)) sound =
    with_message-sound so_far (message_of (named_by so_far.definitions) entry indication) sound (message_of-well (named_by so_far.definitions) sound.defined entry indication)
with_sort-sound so_far entry (Ok Defines) sound =
    with_definition-sound so_far (definition_of (named_by so_far.definitions) entry) sound (definition_of-good (named_by so_far.definitions) sound.defined entry)
with_sort-sound so_far entry (Ok Other) sound = sound

with_object-sound : (so_far : Described) (entry : Data) → IsSoundSoFar so_far → IfOk (with_object so_far entry) IsSoundSoFar
unfolding with_object
with_object-sound so_far entry sound = with_sort-sound so_far entry (sort_of entry) sound

-- ---- tables ----

or_fault-sound : (number : ℕ) (more : Described → Result Described TableFault) (described : Result Described ObjectFault) → IfOk described IsSoundSoFar
    → ((next : Described) → IsSoundSoFar next → IfOk (more next) IsSoundSoFar) → IfOk (or_fault number more described) IsSoundSoFar
or_fault-sound number more (Ok described) sound goes_on = goes_on described sound
or_fault-sound number more (Err fault) sound goes_on = tt

described_by-sound : (objects : Items) (number : ℕ) (so_far : Described) → IsSoundSoFar so_far → IfOk (described_by number so_far objects) IsSoundSoFar
unfolding described_by
described_by-sound no_items number so_far sound = sound
described_by-sound (item entry objects) number so_far sound =
    or_fault-sound number _ (with_object so_far entry) (with_object-sound so_far entry sound) (λ next good. described_by-sound objects _ next good)

pub first-defined : AreDefined (named_by first_definitions)
first-defined =
    let two : IsSize 2 = (omega arith, omega arith) in
    let good : IsDefined operation_result = inr (tt, (two, (two, tt))) in
    defined-more (codes "Operation Result", operation_result) [] good (λ name. tt)

first-sound : IsSoundSoFar first_described
first-sound = record { defined = first-defined; messages = record { each = tt; once = refl } }

messages_of-sound : (described : Result Described TableFault) → IfOk described IsSoundSoFar → IfOk (messages_of described) AreSound
messages_of-sound (Ok described) sound = sound.messages
messages_of-sound (Err fault) sound = tt

tables_by-sound : (objects : Option Items) → IfOk (tables_by objects) AreSound
tables_by-sound None = tt
tables_by-sound (Some objects) = messages_of-sound (described_by 0 first_described objects) (described_by-sound objects 0 first_described first-sound)

tables_read-sound : (value : Option Data) → IfOk (tables_read value) AreSound
unfolding tables
tables_read-sound None = tt
tables_read-sound (Some value) = tables_by-sound (objects_in value)

-- the messages of any text are sound
pub tables_in-sound : (text : List ℕ) → IfOk (tables_in text) AreSound
unfolding tables_in
tables_in-sound text = tables_read-sound (value_of _)

pub sound-from : (text : List ℕ) (messages : List MessageForm) → tables_in text ≡ Ok messages → AreSound messages
sound-from text messages is = rw is at (tables_in-sound text)
