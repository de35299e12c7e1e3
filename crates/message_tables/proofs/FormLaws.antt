-- What an object describes, in terms of its members.
use Rattle.std.proofs.Common.{◌≡◌, ◌<◌, length, List, [], ◌∷◌, Option, Some, None, Bool, true, false, cond, ◌&&◌, Ordering, Less, Equal, Greater, nat_cmp, option_and_then, refl, ap, ap₂, ◌∙◌, arith}
use Rattle.std.specs.Ordering.{match_ordering}
use Rattle.std.specs.Cmp.Lexicographic.{slice_cmp}
use Rattle.serde_json.specs.Data.{Data, null, boolean, number, string, array, object, Items, no_items, item, Members, no_members, member}
use Rattle.serde_json.specs.Find.{get_member}
use Rattle.serde_json.specs.View.{items_view}
use Rattle.serde_json.specs.declared.value.Value.{Value}
use Rattle.qmi_shapes.specs.View.{NamedForm}
use Rattle.qmi_shapes.proofs.Views.{view-U, view-I, view-Str, view-List, view-Seq, view-field}
use Rattle.message_tables.specs.declared.fault.MemberName.TheVariants.{Contents, ArrayElement}
use Rattle.message_tables.specs.Reading.{Reading, faulty, and_then, listed}
use Rattle.message_tables.specs.Members.{member_text, value_in, are_objects, objects_in}
use Rattle.message_tables.specs.Definitions.{Names}
use Rattle.message_tables.specs.Forms.{form_of, element_in, fields_in, fields_at, fields_listed, form_with, field_of, element_at, element_of, contents_listed, contents_of, some_items}

chosen : {A B : Type 0} (f : A → B) (o : Ordering) (here later : A) → match_ordering o (f later) (f here) (f later) ≡ f (match_ordering o later here later)
chosen f Less here later = refl
chosen f Equal here later = refl
chosen f Greater here later = refl

element_in-at : (names : Names) (parts : Members) → element_in names parts ≡ element_at names (get_member (member_text ArrayElement) parts)
element_in-at names no_members = refl
element_in-at names (member name value more) =
    ap (λ later. match_ordering (slice_cmp nat_cmp (member_text ArrayElement) name) later (element_at names (Some value)) later) (element_in-at names more)
    ∙ chosen (element_at names) (slice_cmp nat_cmp (member_text ArrayElement) name) (Some value) (get_member (member_text ArrayElement) more)

fields_listed-listed : (names : Names) (values : Items) → fields_listed names values ≡ listed (field_of names) values
fields_listed-listed names no_items = refl
fields_listed-listed names (item value values) = ap (and_then (λ first more. first ∷ more) (field_of names value)) (fields_listed-listed names values)

listed_by : (names : Names) (values : Items) (b : Bool) → are_objects values ≡ b
    → cond (b && some_items values) (fields_listed names values) (faulty Contents) ≡ contents_listed names (cond b (Some values) None)
listed_by names no_items true is = refl
listed_by names (item value values) true is = fields_listed-listed names (item value values)
listed_by names no_items false is = refl
listed_by names (item value values) false is = refl

fields_at-listed : (names : Names) (value : Data) → fields_at names value ≡ contents_listed names (objects_in value)
fields_at-listed names null = refl
fields_at-listed names (boolean b) = refl
fields_at-listed names (number n) = refl
fields_at-listed names (string s) = refl
fields_at-listed names (array values) = listed_by names values (are_objects values) refl
fields_at-listed names (object parts) = refl

contents_at : Names → Option Data → Reading (List NamedForm)
contents_at names found = contents_listed names (option_and_then objects_in found)

fields_in-at : (names : Names) (parts : Members) → fields_in names parts ≡ contents_listed names (option_and_then objects_in (get_member (member_text Contents) parts))
unfolding contents_at
fields_in-at names no_members = refl
fields_in-at names (member name value more) =
    ap₂ (λ here later. match_ordering (slice_cmp nat_cmp (member_text Contents) name) later here later) (fields_at-listed names value) (fields_in-at names more)
    ∙ chosen (contents_at names) (slice_cmp nat_cmp (member_text Contents) name) (Some value) (get_member (member_text Contents) more)

-- an object's form is by its `format`, given the forms of its `array-element` and its `contents`
pub form_of-with : (names : Names) (entry : Data) → form_of names entry ≡ form_with entry (element_of names entry) (contents_of names entry)
unfolding form_with
form_of-with names null = refl
form_of-with names (boolean b) = refl
form_of-with names (number n) = refl
form_of-with names (string s) = refl
form_of-with names (array values) = refl
form_of-with names (object parts) = ap₂ (form_with (object parts)) (element_in-at names parts) (fields_in-at names parts)

some_listed : (names : Names) (values : List Value) → 0 < length values → contents_listed names (Some (items_view values)) ≡ listed (field_of names) (items_view values)
some_listed names [] some = absurd (omega arith)
some_listed names (value ∷ values) some = refl

pub contents_of-some : (names : Names) (entry value : Data) (values : List Value) → Some value ≡ value_in Contents entry → Some (items_view values) ≡ objects_in value → 0 < length values
    → contents_of names entry ≡ listed (field_of names) (items_view values)
contents_of-some names entry value values there lists some = rw (← there, ← lists) (some_listed names values some)

pub ruleset described = (form_of-with, view-U, view-I, view-Str, view-List, view-Seq, view-field)
