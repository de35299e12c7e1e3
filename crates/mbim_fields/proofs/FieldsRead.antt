-- Reading the fields of a layout in memory, one after another.
use Rattle.std.proofs.Common.{◌≡◌, ℕ, ◌+◌, ◌<◌, ◌≤◌, List, [], ◌∷◌, ◌++◌, length, drop, get_or, map, Ok}
use Rattle.mbim_fields.specs.Layout.{Layout}
use Rattle.mbim_fields.specs.Value.{Value, room}
use Rattle.mbim_fields.specs.Reading.{read_form, read_fields}
use Rattle.mbim_fields.specs.Footprint.{form_footprint, fields_footprint}
use Rattle.mbim_fields.specs.View.{layout_of, field_view, form_view}
use Rattle.mbim_fields.specs.Decoding.{Ends}
use Rattle.mbim_fields.specs.declared.fault.FieldFault.{FieldFault}
use Rattle.mbim_fields.specs.declared.layout.Field.{Field, out-Field}
use Rattle.mbim_fields.proofs.Readings.{FieldsSoFar, FieldsSoFar-next, FieldsSoFar-ends}
use Rattle.mbim_fields.proofs.Writings.{fields_at}

pub FieldsRead-next : (all : Layout) (fields : List Field) (i : ℕ) (d : Field) (whole : List ℕ) (base : ℕ) (done : List Value) (at next before now later : ℕ) (value : Value) → i < length fields
    → FieldsSoFar all (layout_of (map field_view (drop i fields))) whole base done at before now
    → (next ≡ at + room (form_view (out-Field (get_or fields i d)).1) done) × (next ≤ length whole)
    → read_form (form_view (out-Field (get_or fields i d)).1) whole base at done ≡ Ok value
    → later + form_footprint (form_view (out-Field (get_or fields i d)).1) whole base at done ≡ now
    → FieldsSoFar all (layout_of (map field_view (drop (i + 1) fields))) whole base (done ++ value ∷ []) next before later
FieldsRead-next all fields i d whole base done at next before now later value less so here is takes =
    let form = form_view (out-Field (get_or fields i d)).1 in
    let more = layout_of (map field_view (drop (i + 1) fields)) in
    let split = rw (fields_at fields i d less) at so in
    let fits = rw here.0 at here.1 in
    rw here.0 (FieldsSoFar-next all (field_view (get_or fields i d)).name form more whole base done at before now later value split fits is takes)

pub FieldsRead-ends : (all : Layout) (fields : List Field) (i : ℕ) (d : Field) (whole : List ℕ) (base : ℕ) (done : List Value) (at next before now : ℕ) (fault : FieldFault) → i < length fields
    → FieldsSoFar all (layout_of (map field_view (drop i fields))) whole base done at before now
    → (next ≡ at + room (form_view (out-Field (get_or fields i d)).1) done) × (next ≤ length whole)
    → Ends (read_form (form_view (out-Field (get_or fields i d)).1) whole base at done) (form_footprint (form_view (out-Field (get_or fields i d)).1) whole base at done) now fault
    → Ends (read_fields all whole base 0 []) (fields_footprint all whole base 0 []) before fault
FieldsRead-ends all fields i d whole base done at next before now fault less so here ends =
    let form = form_view (out-Field (get_or fields i d)).1 in
    let more = layout_of (map field_view (drop (i + 1) fields)) in
    let split = rw (fields_at fields i d less) at so in
    let fits = rw here.0 at here.1 in
    FieldsSoFar-ends all (field_view (get_or fields i d)).name form more whole base done at before now fault split fits ends
