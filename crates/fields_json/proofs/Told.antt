-- The JSON of values tells them.
use Rattle.std.proofs.Common.{◌≡◌, ℕ, ◌+◌, ◌&&◌, Bool, true, false, true≢false, List, [], ◌∷◌, ◌++◌, map, slice_range, codes, encode_utf8_all, refl, sym, ap, ap₂, ◌∙◌, subst}
use Rattle.std.proofs.Math.Utf8.{scalars}
use Rattle.std.proofs.lemmas.Bool.{and_parts}
use Rattle.framing.specs.Framing.{AreBytes}
use Rattle.serde_json.specs.Data.{Data, null, array as listed, Items, no_items, item as one_item, no_members}
use Rattle.serde_json.specs.View.{items_of}
use Rattle.kit_bytes.specs.Numbers.{number_at}
use Rattle.mbim_fields.specs.Layout.{Fixed, size, Item, in_place, text, binary, structure, width, Form, one, each, run, perhaps, Layout, no_fields, field}
use Rattle.mbim_fields.specs.Value.{Value, number, uuid_of, octets, text_of, absent, elements, members, Values, no_more, first, list_of, values_of, room}
use Rattle.mbim_fields.specs.WellMade.{has_count, is_good_item, is_good_form, are_good_fields, is_well_made}
use Rattle.mbim_fields.specs.Fields.{IsAt, StandInRow, Stands, FormStands, FieldsStand}
use Rattle.mbim_fields.proofs.Readings.{values_of-list_of}
use Rattle.fields_json.specs.Json.{fixed_json, string_json, bytes_json, list_json, item_json, form_json, with_fields}
use Rattle.fields_json.specs.Apart.{is_apart, has_items_apart, has_names_apart, are_named_apart}
use Rattle.fields_json.specs.Told.{JsonTellsValues}
use Rattle.fields_json.proofs.Chars.{text_scalars}
use Rattle.fields_json.proofs.Parts.{members_of_json, string_tells, bytes_tell, part_bytes, one_tells, perhaps_tells}
use Rattle.fields_json.proofs.Held.{SameJson, fields_same, success_same}
use Rattle.fields_json.proofs.Counted.{Agree, all_same}

-- ---- lists ----

abbrev items_in : Data → Items
items_in (listed items) = items
items_in _ = no_items

abbrev is_empty : Items → Bool
is_empty no_items = true
is_empty (one_item json more) = false

abbrev first_of : Items → Data
first_of no_items = null
first_of (one_item json more) = json

abbrev rest_of : Items → Items
rest_of no_items = no_items
rest_of (one_item json more) = more

module _ (json : Value → Data) (Stand Other : Value → ℕ → Type 0) (step : ℕ) (good : (v w : Value) (at place : ℕ) → Stand v at → Other w place → json v ≡ json w → v ≡ w) where
  rows_tell : (vs ws : Values) (at place : ℕ) → StandInRow Stand step (list_of vs) at → StandInRow Other step (list_of ws) place → items_of (map json (list_of vs)) ≡ items_of (map json (list_of ws)) → vs ≡ ws
  rows_tell no_more no_more at place stand also same = refl
  rows_tell no_more (first w ws) at place stand also same = absurd (true≢false (ap is_empty same))
  rows_tell (first v vs) no_more at place stand also same = absurd (true≢false (sym (ap is_empty same)))
  rows_tell (first v vs) (first w ws) at place stand also same =
      ap₂ (λ (x : Value) (l : Values). first x l) (good v w at place stand.0 also.0 (ap first_of same)) (rows_tell vs ws (at + step) (place + step) stand.1 also.1 (ap rest_of same))

  lists_tell : (v w : Value) (vs ws : Values) (at place : ℕ) → v ≡ elements vs → w ≡ elements ws → StandInRow Stand step (list_of vs) at → StandInRow Other step (list_of ws) place → list_json json v ≡ list_json json w → v ≡ w
  lists_tell v w vs ws at place is are stand also same =
      is ∙ ap elements (rows_tell vs ws at place stand also (ap items_in (sym (ap (list_json json) is) ∙ same ∙ ap (list_json json) are))) ∙ sym are

-- ---- which values stand as an item or a form ----

record IsText (value : Value) : Type 0 where
  pub chars : List ℕ
  pub is : value ≡ text_of chars
  pub are : scalars chars ≡ true

is_text : (whole : List ℕ) (value : Value) (at : ℕ) → AreBytes whole → Stands text whole value at → IsText value
is_text whole (text_of chars) at are stands =
    let bytes : List ℕ = slice_range whole stands.offset (stands.offset + stands.size) in
    record { chars = chars; is = refl; are = subst (λ (l : List ℕ). scalars l ≡ true) (sym stands.holds.1) (text_scalars bytes (part_bytes whole stands.offset (stands.offset + stands.size) are)) }
is_text whole (number n) at are stands = absurd stands
is_text whole (uuid_of bytes) at are stands = absurd stands
is_text whole (octets bytes) at are stands = absurd stands
is_text whole absent at are stands = absurd stands
is_text whole (elements values) at are stands = absurd stands
is_text whole (members values) at are stands = absurd stands

record IsBinary (value : Value) : Type 0 where
  pub bytes : List ℕ
  pub is : value ≡ octets bytes
  pub are : AreBytes bytes

is_binary : (whole : List ℕ) (value : Value) (at : ℕ) → AreBytes whole → Stands binary whole value at → IsBinary value
is_binary whole (octets bytes) at are stands = record { bytes = bytes; is = refl; are = subst AreBytes (sym stands.holds) (part_bytes whole stands.offset (stands.offset + stands.size) are) }
is_binary whole (number n) at are stands = absurd stands
is_binary whole (uuid_of bytes) at are stands = absurd stands
is_binary whole (text_of chars) at are stands = absurd stands
is_binary whole absent at are stands = absurd stands
is_binary whole (elements values) at are stands = absurd stands
is_binary whole (members values) at are stands = absurd stands

record IsStructure (layout : Layout) (value : Value) : Type 0 where
  pub values : Values
  pub inner : List ℕ
  pub is : value ≡ members values
  pub are : AreBytes inner
  pub stand : FieldsStand layout inner [] (list_of values) 0

is_structure : (layout : Layout) (whole : List ℕ) (value : Value) (at : ℕ) → AreBytes whole → Stands (structure layout) whole value at → IsStructure layout value
is_structure layout whole (members values) at are stands =
    record { values = values; inner = slice_range whole stands.offset (stands.offset + stands.size); is = refl; are = part_bytes whole stands.offset (stands.offset + stands.size) are; stand = stands.holds }
is_structure layout whole (number n) at are stands = absurd stands
is_structure layout whole (uuid_of bytes) at are stands = absurd stands
is_structure layout whole (octets bytes) at are stands = absurd stands
is_structure layout whole (text_of chars) at are stands = absurd stands
is_structure layout whole absent at are stands = absurd stands
is_structure layout whole (elements values) at are stands = absurd stands

record IsList (Row : List Value → Type 0) (value : Value) : Type 0 where
  pub values : Values
  pub is : value ≡ elements values
  pub row : Row (list_of values)

is_each : (p : ℕ) (item : Item) (whole : List ℕ) (before : List Value) (value : Value) (at : ℕ) → FormStands (each p item) whole before value at → IsList (λ values. StandInRow (Stands item whole) (width item) values at) value
is_each p item whole before (elements values) at stands = record { values = values; is = refl; row = stands.1 }
is_each p item whole before (number n) at stands = absurd stands
is_each p item whole before (uuid_of bytes) at stands = absurd stands
is_each p item whole before (octets bytes) at stands = absurd stands
is_each p item whole before (text_of chars) at stands = absurd stands
is_each p item whole before absent at stands = absurd stands
is_each p item whole before (members values) at stands = absurd stands

is_run : (p : ℕ) (fixed : Fixed) (whole : List ℕ) (before : List Value) (value : Value) (at : ℕ) → FormStands (run p fixed) whole before value at
    → IsList (λ values. StandInRow (λ one there. IsAt fixed one whole there) (size fixed) values (number_at whole at 4)) value
is_run p fixed whole before (elements values) at stands = record { values = values; is = refl; row = stands.1 }
is_run p fixed whole before (number n) at stands = absurd stands
is_run p fixed whole before (uuid_of bytes) at stands = absurd stands
is_run p fixed whole before (octets bytes) at stands = absurd stands
is_run p fixed whole before (text_of chars) at stands = absurd stands
is_run p fixed whole before absent at stands = absurd stands
is_run p fixed whole before (members values) at stands = absurd stands

-- ---- items, forms and fields ----

mutual
  item_tells : (item : Item) (whole other : List ℕ) → is_good_item item ≡ true → has_items_apart item ≡ true → AreBytes whole → AreBytes other
      → (v w : Value) (at place : ℕ) → Stands item whole v at → Stands item other w place → item_json item v ≡ item_json item w → v ≡ w
  item_tells (in_place fixed) whole other good apart are they v w at place stands also same = one_tells fixed whole other are they v w at place stands also same
  item_tells text whole other good apart are they v w at place stands also same =
      let a = is_text whole v at are stands in
      let b = is_text other w place they also in
      a.is ∙ ap text_of (string_tells a.chars b.chars a.are b.are (sym (ap string_json a.is) ∙ same ∙ ap string_json b.is)) ∙ sym b.is
  item_tells binary whole other good apart are they v w at place stands also same =
      let a = is_binary whole v at are stands in
      let b = is_binary other w place they also in
      a.is ∙ ap octets (bytes_tell a.bytes b.bytes a.are b.are (sym (ap bytes_json a.is) ∙ same ∙ ap bytes_json b.is)) ∙ sym b.is
  item_tells (structure layout) whole other good apart are they v w at place stands also same =
      let a = is_structure layout whole v at are stands in
      let b = is_structure layout other w place they also in
      let inside : with_fields layout 0 (list_of a.values) no_members ≡ with_fields layout 0 (list_of b.values) no_members =
      ap members_of_json (sym (ap (item_json (structure layout)) a.is) ∙ same ∙ ap (item_json (structure layout)) b.is) in
      let agree = fields_agree layout [] a.inner b.inner good apart a.are b.are [] [] (list_of a.values) (list_of b.values) 0 0 0 a.stand b.stand (fields_same layout 0 (list_of a.values) (list_of b.values) apart inside) in
      let values : list_of a.values ≡ list_of b.values = all_same a.inner b.inner layout [] [] [] (list_of a.values) (list_of b.values) 0 0 0 refl refl refl good a.stand b.stand agree in
      a.is ∙ ap members (sym (values_of-list_of a.values) ∙ ap values_of values ∙ values_of-list_of b.values) ∙ sym b.is

  form_tells : (form : Form) (forms : List Form) (whole other : List ℕ) → is_good_form form forms ≡ true → has_names_apart form ≡ true → AreBytes whole → AreBytes other
      → (before behind : List Value) (v w : Value) (at place : ℕ) → FormStands form whole before v at → FormStands form other behind w place → form_json form v ≡ form_json form w → v ≡ w
  form_tells (one item) forms whole other good apart are they before behind v w at place stands also same = item_tells item whole other good apart are they v w at place stands also same
  form_tells (each p item) forms whole other good apart are they before behind v w at place stands also same =
      let a = is_each p item whole before v at stands in
      let b = is_each p item other behind w place also in
      let g = and_parts (has_count forms p) (is_good_item item) good in
      lists_tell (item_json item) (Stands item whole) (Stands item other) (width item) (item_tells item whole other g.1 apart are they) v w a.values b.values at place a.is b.is a.row b.row same
  form_tells (run p fixed) forms whole other good apart are they before behind v w at place stands also same =
      let a = is_run p fixed whole before v at stands in
      let b = is_run p fixed other behind w place also in
      lists_tell (fixed_json fixed) (λ one there. IsAt fixed one whole there) (λ one there. IsAt fixed one other there) (size fixed) (one_tells fixed whole other are they) v w a.values b.values (number_at whole at 4) (number_at other place 4) a.is b.is a.row b.row same
  form_tells (perhaps fixed) forms whole other good apart are they before behind v w at place stands also same = perhaps_tells fixed whole other are they before behind v w at place stands also same

  fields_agree : (layout : Layout) (forms : List Form) (whole other : List ℕ) → are_good_fields layout forms ≡ true → are_named_apart layout ≡ true → AreBytes whole → AreBytes other
      → (before behind vs ws : List Value) (at place n : ℕ) → FieldsStand layout whole before vs at → FieldsStand layout other behind ws place → SameJson layout n vs ws → Agree layout n vs ws
  fields_agree no_fields forms whole other good apart are they before behind vs ws at place n stands also same = tt
  fields_agree (field name form more) forms whole other good apart are they before behind [] ws at place n stands also same = absurd stands
  fields_agree (field name form more) forms whole other good apart are they before behind (v ∷ vs) [] at place n stands also same = absurd also
  fields_agree (field name form more) forms whole other good apart are they before behind (v ∷ vs) (w ∷ ws) at place n stands also same =
      let g = and_parts (is_good_form form forms) (are_good_fields more (forms ++ form ∷ [])) good in
      let p = and_parts (is_apart (encode_utf8_all name) more) (has_names_apart form && are_named_apart more) apart in
      let r = and_parts (has_names_apart form) (are_named_apart more) p.1 in (
        (λ isnt. form_tells form forms whole other g.0 r.0 are they before behind v w at place stands.1 also.1 (same.0 isnt)),
        fields_agree more (forms ++ form ∷ []) whole other g.1 r.1 are they (before ++ v ∷ []) (behind ++ w ∷ []) vs ws (at + room form before) (place + room form behind) (n + 1) stands.2 also.2 same.1,
      )

pub json_tells : JsonTellsValues
json_tells layout v w b c told are they stands also same =
    let p = and_parts (is_well_made layout) (are_named_apart layout && is_apart (codes "result") layout) told in
    let r = and_parts (are_named_apart layout) (is_apart (codes "result") layout) p.1 in
    all_same b c layout [] [] [] v w 0 0 0 refl refl refl p.0 stands also
    (fields_agree layout [] b c p.0 r.0 are they [] [] v w 0 0 0 stands also (success_same layout v w r.0 r.1 (ap members_of_json same)))
