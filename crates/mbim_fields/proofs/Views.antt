-- What layouts and values in memory stand for, a level at a time.
use Rattle.std.proofs.Common.{◌≡◌, ℕ, List, map, chars, rules, Bor}
use Rattle.mbim_fields.specs.Layout.{in_place, text, binary, structure, one, each, run, perhaps}
use Rattle.mbim_fields.specs.View.{layout_of, fixed_view, item_view, form_view, field_view, shape_view}
use Rattle.mbim_fields.specs.declared.layout.Fixed.{Fixed}
use Rattle.mbim_fields.specs.declared.layout.Item.{Item, InPlace, Text, Binary, Structure, the_lemmas}
use Rattle.mbim_fields.specs.declared.layout.Form.{Form, One, Each, Run, Perhaps}
use Rattle.mbim_fields.specs.declared.layout.Field.{Field, roll-Field, out-Field}
use Rattle.mbim_fields.specs.declared.layout.FieldShape.{FieldShape, roll-FieldShape, out-FieldShape}
use Rattle.mbim_fields.specs.Value.{text_of, elements, members, values_of}
use Rattle.mbim_fields.specs.View.{value_view, val_view}
use Rattle.mbim_fields.specs.declared.value.FieldValue.{Text as TextOf, List as ListOf, Members, the_lemmas as value_lemmas}
use Rattle.mbim_fields.specs.declared.value.FieldVal.{FieldVal, out-FieldVal}

pub view-InPlace : (fixed : Fixed) → item_view (InPlace fixed) ≡ in_place (fixed_view fixed)
view-InPlace fixed = search (rules, the_lemmas)

pub view-Text : item_view Text ≡ text
view-Text = search (rules, the_lemmas)

pub view-Binary : item_view Binary ≡ binary
view-Binary = search (rules, the_lemmas)

pub view-Structure : (shape : FieldShape) → item_view (Structure shape) ≡ structure (shape_view shape)
view-Structure shape = search (rules, the_lemmas)

pub view-One : (item : Item) → form_view (One item) ≡ one (item_view item)
view-One item = search (rules, the_lemmas)

pub view-Each : (place : ℕ) (item : Item) → form_view (Each place item) ≡ each place (item_view item)
view-Each place item = search (rules, the_lemmas)

pub view-Run : (place : ℕ) (fixed : Fixed) → form_view (Run place fixed) ≡ run place (fixed_view fixed)
view-Run place fixed = search (rules, the_lemmas)

pub view-Perhaps : (fixed : Fixed) → form_view (Perhaps fixed) ≡ perhaps (fixed_view fixed)
view-Perhaps fixed = search (rules, the_lemmas)

pub view-shape : (shape : FieldShape) → shape_view shape ≡ layout_of (map field_view (out-FieldShape shape).0.now)
view-shape shape = search (rules, the_lemmas)

pub view-form : (f : Field) → (field_view f).form ≡ form_view (out-Field f).1
view-form f = search (rules, the_lemmas)

-- ---- values ----

pub view-TextOf : (chars : List ℕ) → value_view (TextOf chars) ≡ text_of chars
view-TextOf chars = search (rules, value_lemmas)

pub view-List : (val : FieldVal) → value_view (ListOf val) ≡ elements (val_view val)
view-List val = search (rules, value_lemmas)

pub view-Members : (val : FieldVal) → value_view (Members val) ≡ members (val_view val)
view-Members val = search (rules, value_lemmas)

pub view-val : (val : FieldVal) → val_view val ≡ values_of (map value_view (out-FieldVal val).values.items)
view-val val = search (rules, value_lemmas)

-- ---- layouts that are written out ----

pub view-field : (name : Bor (List ℕ)) (form : Form) → field_view (roll-Field (name, form)) ≡ record { name = chars name.now; form = form_view form }
view-field name form = search (rules, the_lemmas)

pub view-fields : (fields : Bor (List Field)) → shape_view (roll-FieldShape (record { 0 = fields })) ≡ layout_of (map field_view fields.now)
view-fields fields = search (rules, the_lemmas)

pub ruleset written_views = (view-InPlace, view-Text, view-Binary, view-Structure, view-One, view-Each, view-Run, view-Perhaps, view-field, view-fields)
