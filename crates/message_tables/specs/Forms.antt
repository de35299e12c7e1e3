-- The forms of values, as objects describe them by `format` and the members that it needs.
-- Source: VariableFactory.py, VariableSequence.py, VariableStruct.py, VariableArray.py and VariableString.py in libqmi's build-aux/qmi-codegen.
use Rattle.std.specs.Prelude.{ℕ, ◌&&◌, List, [], ◌∷◌, Bool, true, false, Option, Some, None, unwrap_or, option_map, option_and_then, chars, if◌then◌else◌}
use Rattle.std.specs.Ordering.{nat_cmp, match_ordering}
use Rattle.std.specs.Cmp.Lexicographic.{slice_cmp}
use Rattle.serde_json.specs.Data.{Data, null, boolean, number, string, array, object, Items, no_items, item, Members, no_members, member}
use Rattle.qmi_shapes.specs.Form.{Form, unsigned, signed, string as text, array as list, sequence}
use Rattle.qmi_shapes.specs.View.{NamedForm, fields_of}
use Rattle.qmi_shapes.specs.declared.shape.Prefix.{Prefix}
use Rattle.qmi_shapes.specs.declared.shape.Prefix.TheVariants.{Rest, Fixed, Counted}
use Rattle.message_tables.specs.declared.fault.MemberName.{MemberName}
use Rattle.message_tables.specs.declared.fault.MemberName.TheVariants.{Name, Format as FormatName, Contents, ArrayElement, CommonRef}
use Rattle.message_tables.specs.declared.format.Format.{Format}
use Rattle.message_tables.specs.declared.format.Format.TheVariants.{Unsigned, Signed, Sized, Text, Array, Sequence}
use Rattle.message_tables.specs.Reading.{Reading, faulty, unknown, known, reading_map, and_then, required, listed}
use Rattle.message_tables.specs.Members.{member_text, value_in, text_in, is_object, are_objects, objects_in}
use Rattle.message_tables.specs.Formats.{format_of, number_size, stated_prefix}
use Rattle.message_tables.specs.Definitions.{Definition, Names, referred}

-- ---- texts ----

abbrev pub inside_prefix : Prefix → Prefix
inside_prefix Rest = Counted 1
inside_prefix (Fixed count) = Fixed count
inside_prefix (Counted bytes) = Counted bytes

-- a text that states no size is the rest of a TLV where it is the TLV's whole form, and has a count of one byte inside another form
abbrev pub inside : Form → Form
inside (unsigned bytes) = unsigned bytes
inside (signed bytes) = signed bytes
inside (text prefix) = text (inside_prefix prefix)
inside (list prefix element) = list prefix element
inside (sequence fields) = sequence fields

-- ---- fields ----

abbrev pub field_for : Option Definition → Reading NamedForm
field_for None = faulty CommonRef
field_for (Some definition) = reading_map (λ name. record { name = name; form = inside definition.form }) (required Name definition.name)

abbrev pub field_by : Names → Option Data → Option (List ℕ) → Reading Form → Reading NamedForm
field_by names (Some reference) name form = field_for (referred names reference)
field_by names None name form = and_then (λ bytes form. record { name = chars bytes; form = inside form }) (required Name name) form

-- the field that an object describes: what its `common-ref` stands for, and else its name and its form
unfoldable pub field_with : Names → Data → Reading Form → Reading NamedForm
field_with names entry form = field_by names (value_in CommonRef entry) (text_in Name entry) form

-- ---- forms ----

-- an array: its element, which is described as a form inside another, and how many there are
abbrev pub array_form : Data → Reading Form → Reading Form
array_form entry element = and_then (λ form prefix. list (unwrap_or prefix (Counted 1)) (inside form)) element (stated_prefix entry)

abbrev pub form_in : Format → Data → Reading Form → Reading (List NamedForm) → Reading Form
form_in (Unsigned bytes) entry element fields = known (unsigned bytes)
form_in (Signed bytes) entry element fields = known (signed bytes)
form_in Sized entry element fields = reading_map unsigned (number_size entry)
form_in Text entry element fields = reading_map (λ prefix. text (unwrap_or prefix Rest)) (stated_prefix entry)
form_in Array entry element fields = array_form entry element
form_in Sequence entry element fields = reading_map (λ named. sequence (fields_of named)) fields

abbrev pub form_by : Option (Option Format) → Data → Reading Form → Reading (List NamedForm) → Reading Form
form_by None entry element fields = faulty FormatName
form_by (Some None) entry element fields = unknown
form_by (Some (Some format)) entry element fields = form_in format entry element fields

-- the form that an object describes by its `format`, given what its `array-element` and its `contents` describe
unfoldable pub form_with : Data → Reading Form → Reading (List NamedForm) → Reading Form
form_with entry element fields = form_by (option_map (format_of entry) (text_in FormatName entry)) entry element fields

-- what a member gives that has the wanted name, and else what the others give
abbrev pub at_member : {A : Type 0} → MemberName → List ℕ → A → A → A
at_member wanted name here elsewhere = match_ordering (slice_cmp nat_cmp (member_text wanted) name) elsewhere here elsewhere

abbrev pub some_items : Items → Bool
some_items no_items = false
some_items (item value values) = true

abbrev mutual
  -- the form that an object describes, where it is the whole form of a TLV
  pub form_of : Names → Data → Reading Form
  form_of names null = faulty FormatName
  form_of names (boolean b) = faulty FormatName
  form_of names (number n) = faulty FormatName
  form_of names (string s) = faulty FormatName
  form_of names (array values) = faulty FormatName
  form_of names (object parts) = form_with (object parts) (element_in names parts) (fields_in names parts)

  -- the form of the `array-element`, which is an object
  pub element_in : Names → Members → Reading Form
  element_in names no_members = faulty ArrayElement
  element_in names (member name value more) =
      at_member ArrayElement name (if is_object value then form_of names value else faulty ArrayElement) (element_in names more)

  -- the fields of the `contents`, a list of at least one object
  pub fields_in : Names → Members → Reading (List NamedForm)
  fields_in names no_members = faulty Contents
  fields_in names (member name value more) = at_member Contents name (fields_at names value) (fields_in names more)

  pub fields_at : Names → Data → Reading (List NamedForm)
  fields_at names null = faulty Contents
  fields_at names (boolean b) = faulty Contents
  fields_at names (number n) = faulty Contents
  fields_at names (string s) = faulty Contents
  fields_at names (array values) = if are_objects values && some_items values then fields_listed names values else faulty Contents
  fields_at names (object parts) = faulty Contents

  -- the fields that objects describe
  pub fields_listed : Names → Items → Reading (List NamedForm)
  fields_listed names no_items = known []
  fields_listed names (item value values) =
      and_then (λ first more. first ∷ more) (field_with names value (form_of names value)) (fields_listed names values)

-- ---- the same, one object at a time ----

-- the field that an object describes
abbrev pub field_of : Names → Data → Reading NamedForm
field_of names entry = field_with names entry (form_of names entry)

abbrev pub element_at : Names → Option Data → Reading Form
element_at names None = faulty ArrayElement
element_at names (Some value) = if is_object value then form_of names value else faulty ArrayElement

-- the form of an object's `array-element`
abbrev pub element_of : Names → Data → Reading Form
element_of names entry = element_at names (value_in ArrayElement entry)

abbrev pub contents_listed : Names → Option Items → Reading (List NamedForm)
contents_listed names None = faulty Contents
contents_listed names (Some no_items) = faulty Contents
contents_listed names (Some (item value values)) = listed (field_of names) (item value values)

-- the fields of an object's `contents`
abbrev pub contents_of : Names → Data → Reading (List NamedForm)
contents_of names entry = contents_listed names (option_and_then objects_in (value_in Contents entry))
