-- Laying out items and fields, one after another.
use Rattle.std.proofs.Common.{◌≡◌, ◌≢◌, ℕ, suc, ◌+◌, ◌<◌, ◌≤◌, true, List, [], ◌∷◌, ◌++◌, length, take, drop, get_or, map, refl, sym, ◌∙◌, ap, rules, arith, Option, Some, None, option_map, option_and_then}
use Rattle.std.specs.Str.{all_scalars}
use Rattle.kit_bytes.specs.Utf16.{utf16_bytes}
use Rattle.std.proofs.lemmas.List.{get_or_default, take_more, drop_more, map_push}
use Rattle.mbim_fields.specs.Layout.{Fixed, Form, Layout, field}
use Rattle.mbim_fields.specs.View.{layout_of, field_view, form_view, shape_view, value_view}
use Rattle.mbim_fields.specs.Encoding.{Adds, IsMisfit}
use Rattle.mbim_fields.specs.declared.fault.EncodeFault.{EncodeFault}
use Rattle.mbim_fields.specs.declared.fault.EncodeFault.TheVariants.{Misfit, OutOfMemory}
use Rattle.mbim_fields.specs.declared.layout.Field.{Field, out-Field}
use Rattle.mbim_fields.specs.declared.layout.FieldShape.{FieldShape, out-FieldShape}
use Rattle.mbim_fields.specs.declared.value.FieldValue.{FieldValue}
use Rattle.mbim_fields.proofs.Views.{view-form, view-shape}
use Rattle.mbim_fields.specs.Value.{Value, Values, no_more, first, list_of, values_of, room}
use Rattle.mbim_fields.specs.Canon.{Laid, nothing, add, prefixed_in, run_bytes, point, lay_text, lay_each, counted_list, rooms, bytes_of, lay_form, lay_fields, canon}
use Rattle.mbim_fields.proofs.Readings.{list_of-values_of}

pub listed : (values : Values) (items : List Value) → values_of items ≡ values → list_of values ≡ items
listed values items is = ap list_of (sym is) ∙ list_of-values_of items

pub counted_list-is : (count : ℕ) (values : Values) → length (list_of values) ≡ count → counted_list count values ≡ Some (list_of values)
counted_list-is count values is = search rules

pub counted_list-not : (count : ℕ) (values : Values) → length (list_of values) ≢ count → counted_list count values ≡ None
counted_list-not count values isnt = search rules

pub lay_text-is : (begin : ℕ) (laid : Laid) (chars : List ℕ) → all_scalars chars ≡ true → lay_text begin laid chars ≡ point begin laid (utf16_bytes chars)
lay_text-is begin laid chars are = search rules

-- bytes that were added to those in place were added to what is laid out
pub in_place_is : (laid next : Laid) (stated : Option (List ℕ)) → next.back ≡ laid.back → Adds stated laid.front next.front → option_map (add laid) stated ≡ Some next
in_place_is laid next None same adds = let none : None ≡ Some next.front = adds in absurd (cc)
in_place_is laid next (Some bytes) same adds =
    let front : laid.front ++ bytes ≡ next.front = cc in
    ap (λ (f : List ℕ). let l : Laid = record { front = f; back = laid.back } in Some l) front ∙ ap (λ (b : List ℕ). let l : Laid = record { front = next.front; back = b } in Some l) (sym same)

-- a number and an address are two values
pub prefixed-not : (count : ℕ) (values : Values) → length (list_of values) ≢ 2 → prefixed_in count values ≡ None
prefixed-not count no_more isnt = refl
prefixed-not count (first prefix no_more) isnt = refl
prefixed-not count (first prefix (first address no_more)) isnt = absurd (isnt refl)
prefixed-not count (first prefix (first address (first more values))) isnt = refl

-- ---- what is laid out, and what is still to come ----

pub record RunLaid (fixed : Fixed) (all rest : List Value) (bytes : List ℕ) : Type 0 where
  pub same : run_bytes fixed bytes rest ≡ run_bytes fixed [] all

pub record EachLaid (lay : Laid → Value → Option Laid) (all rest : List Value) (initial now : Laid) : Type 0 where
  pub same : lay_each lay now rest ≡ lay_each lay initial all

pub record FieldsLaid (all rest : Layout) (begin : ℕ) (values before left : List Value) (now : Laid) : Type 0 where
  pub same : lay_fields rest begin now before left ≡ lay_fields all begin nothing [] values

pub record RoomSoFar (all rest : Layout) (values before left : List Value) (bytes : ℕ) : Type 0 where
  pub same : bytes + rooms rest before left ≡ rooms all [] values

-- ---- the field and the value at a place, and those behind ----

pub fields_at : (fields : List Field) (i : ℕ) (d : Field) → i < length fields
    → layout_of (map field_view (drop i fields)) ≡ field (field_view (get_or fields i d)).name (form_view (out-Field (get_or fields i d)).1) (layout_of (map field_view (drop (i + 1) fields)))
fields_at fields i d less =
    ap (λ (l : List Field). layout_of (map field_view l)) (drop_more fields i d less) ∙ ap (λ (f : Form). field (field_view (get_or fields i d)).name f (layout_of (map field_view (drop (i + 1) fields)))) (view-form (get_or fields i d))

pub values_at : (values : List FieldValue) (i : ℕ) (value : FieldValue) → i < length values → value ≡ get_or values i value → map value_view (drop i values) ≡ value_view value ∷ map value_view (drop (i + 1) values)
values_at values i value less is =
    ap (λ (l : List FieldValue). map value_view l) (drop_more values i value less) ∙ ap (λ (v : FieldValue). value_view v ∷ map value_view (drop (i + 1) values)) (sym is)

values_before : (values : List FieldValue) (i : ℕ) (value : FieldValue) → i < length values → value ≡ get_or values i value → map value_view (take (i + 1) values) ≡ map value_view (take i values) ++ value_view value ∷ []
values_before values i value less is =
    ap (λ (l : List FieldValue). map value_view l) (take_more values i value less) ∙ map_push value_view (take i values) (get_or values i value) ∙ ap (λ (v : FieldValue). map value_view (take i values) ++ value_view v ∷ []) (sym is)

-- ---- rooms ----

RoomSoFar-value : (all : Layout) (fields : List Field) (values : List FieldValue) (i : ℕ) (d : Field) (value : FieldValue) (bytes more : ℕ) → i < length fields → i < length values → value ≡ get_or values i value
    → RoomSoFar all (layout_of (map field_view (drop i fields))) (map value_view values) (map value_view (take i values)) (map value_view (drop i values)) bytes
    → more ≡ bytes + room (form_view (out-Field (get_or fields i d)).1) (map value_view (take i values))
    → RoomSoFar all (layout_of (map field_view (drop (i + 1) fields))) (map value_view values) (map value_view (take (i + 1) values)) (map value_view (drop (i + 1) values)) more
RoomSoFar-value all fields values i d value bytes more in_fields in_values is so more_is =
    let same = rw (fields_at fields i d in_fields, values_at values i value in_values is) at so.same in
    record { same = rw (values_before values i value in_values is) (omega (arith, same, more_is)) }

pub RoomSoFar-next : (all : Layout) (fields : List Field) (values : List FieldValue) (i : ℕ) (d : Field) (bytes more : ℕ) → i < length fields → i < length values
    → RoomSoFar all (layout_of (map field_view (drop i fields))) (map value_view values) (map value_view (take i values)) (map value_view (drop i values)) bytes
    → more ≡ bytes + room (form_view (out-Field (get_or fields i d)).1) (map value_view (take i values))
    → RoomSoFar all (layout_of (map field_view (drop (i + 1) fields))) (map value_view values) (map value_view (take (i + 1) values)) (map value_view (drop (i + 1) values)) more
RoomSoFar-next all fields [] i d bytes more in_fields in_values so more_is = absurd (omega arith)
RoomSoFar-next all fields (v ∷ values) i d bytes more in_fields in_values so more_is =
    RoomSoFar-value all fields (v ∷ values) i d (get_or (v ∷ values) i v) bytes more in_fields in_values (get_or_default (v ∷ values) i v (get_or (v ∷ values) i v) in_values) so more_is

-- what the fields up to one take is no more than what all take
pub RoomSoFar-past : (all : Layout) (fields : List Field) (values : List FieldValue) (i : ℕ) (d : Field) (bytes here limit : ℕ) → i < length fields → i < length values
    → RoomSoFar all (layout_of (map field_view (drop i fields))) (map value_view values) (map value_view (take i values)) (map value_view (drop i values)) bytes
    → here ≡ room (form_view (out-Field (get_or fields i d)).1) (map value_view (take i values)) → limit ≤ bytes + here → limit ≤ rooms all [] (map value_view values)
RoomSoFar-past all fields values i d bytes here limit in_fields in_values so here_is past =
    let next = RoomSoFar-next all fields values i d bytes (bytes + here) in_fields in_values so (ap (λ (n : ℕ). bytes + n) here_is) in
    omega (arith, next.same, past)

pub RoomSoFar-over : (all : Layout) (fields : List Field) (values : List FieldValue) (i : ℕ) (d : Field) (bytes limit : ℕ) → i < length fields → i < length values
    → RoomSoFar all (layout_of (map field_view (drop i fields))) (map value_view values) (map value_view (take i values)) (map value_view (drop i values)) bytes
    → limit ≤ room (form_view (out-Field (get_or fields i d)).1) (map value_view (take i values)) → limit ≤ rooms all [] (map value_view values)
RoomSoFar-over all fields values i d bytes limit in_fields in_values so over = RoomSoFar-past all fields values i d bytes _ limit in_fields in_values so refl (omega (arith, over))

-- ---- fields ----

pub canon-none : (layout : Layout) (values : List Value) (begin : ℕ) → begin ≡ rooms layout [] values → lay_fields layout begin nothing [] values ≡ None → canon layout values ≡ None
canon-none layout values begin is none = ap (option_map bytes_of) (rw is at none)

and-none : {A B : Type 0} (f : A → Option B) (o : Option A) → ((a : A) → f a ≡ None) → option_and_then f o ≡ None
and-none f None none = refl
and-none f (Some a) none = none a

-- there is a value for each field, or nothing is laid out
uneven : (fields : List Field) (values : List FieldValue) (begin : ℕ) (now : Laid) (before : List Value) → length fields ≢ length values
    → lay_fields (layout_of (map field_view fields)) begin now before (map value_view values) ≡ None
uneven [] [] begin now before isnt = absurd (isnt refl)
uneven [] (value ∷ values) begin now before isnt = refl
uneven (f ∷ fields) [] begin now before isnt = refl
uneven (f ∷ fields) (value ∷ values) begin now before isnt =
    and-none _ (lay_form (field_view f).form begin now before (value_view value))
    (λ next. uneven fields values begin next (before ++ value_view value ∷ []) (λ is. isnt (ap suc is)))

pub canon-uneven : (shape : FieldShape) (values : List FieldValue) → length (out-FieldShape shape).0.now ≢ length values → canon (shape_view shape) (map value_view values) ≡ None
canon-uneven shape values isnt =
    rw (view-shape shape) (ap (option_map bytes_of) (uneven (out-FieldShape shape).0.now values (rooms (layout_of (map field_view (out-FieldShape shape).0.now)) [] (map value_view values)) nothing [] isnt))

FieldsLaid-step : (all : Layout) (fields : List Field) (values : List FieldValue) (i begin : ℕ) (d : Field) (value : FieldValue) (now : Laid) → i < length fields → i < length values → value ≡ get_or values i value
    → FieldsLaid all (layout_of (map field_view (drop i fields))) begin (map value_view values) (map value_view (take i values)) (map value_view (drop i values)) now
    → option_and_then (λ next. lay_fields (layout_of (map field_view (drop (i + 1) fields))) begin next (map value_view (take (i + 1) values)) (map value_view (drop (i + 1) values)))
    (lay_form (form_view (out-Field (get_or fields i d)).1) begin now (map value_view (take i values)) (value_view value))
    ≡ lay_fields all begin nothing [] (map value_view values)
FieldsLaid-step all fields values i begin d value now in_fields in_values is so =
    let same = rw (fields_at fields i d in_fields, values_at values i value in_values is) at so.same in
    rw (values_before values i value in_values is) same

pub FieldsLaid-next : (all : Layout) (fields : List Field) (values : List FieldValue) (i begin : ℕ) (d : Field) (value : FieldValue) (now next : Laid) → i < length fields → i < length values → value ≡ get_or values i value
    → FieldsLaid all (layout_of (map field_view (drop i fields))) begin (map value_view values) (map value_view (take i values)) (map value_view (drop i values)) now
    → lay_form (form_view (out-Field (get_or fields i d)).1) begin now (map value_view (take i values)) (value_view value) ≡ Some next
    → FieldsLaid all (layout_of (map field_view (drop (i + 1) fields))) begin (map value_view values) (map value_view (take (i + 1) values)) (map value_view (drop (i + 1) values)) next
FieldsLaid-next all fields values i begin d value now next in_fields in_values is so laid = record { same = rw laid at (FieldsLaid-step all fields values i begin d value now in_fields in_values is so) }

pub FieldsLaid-misfit : (all : Layout) (fields : List Field) (values : List FieldValue) (i begin : ℕ) (d : Field) (value : FieldValue) (now : Laid) (fault : EncodeFault) → i < length fields → i < length values → value ≡ get_or values i value
    → begin ≡ rooms all [] (map value_view values)
    → FieldsLaid all (layout_of (map field_view (drop i fields))) begin (map value_view values) (map value_view (take i values)) (map value_view (drop i values)) now
    → IsMisfit (lay_form (form_view (out-Field (get_or fields i d)).1) begin now (map value_view (take i values)) (value_view value)) fault → IsMisfit (canon all (map value_view values)) fault
FieldsLaid-misfit all fields values i begin d value now Misfit in_fields in_values is begin_is so none =
    canon-none all (map value_view values) begin begin_is (sym (rw none at (FieldsLaid-step all fields values i begin d value now in_fields in_values is so)))
FieldsLaid-misfit all fields values i begin d value now OutOfMemory in_fields in_values is begin_is so none = tt
