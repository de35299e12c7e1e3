-- How the text of a sequence grows, field by field.
use Rattle.std.proofs.Common.{◌≡◌, ℕ, suc, zero, ◌+◌, ◌<◌, ◌≤◌, min, List, [], ◌∷◌, ◌++◌, length, take, drop, get_or, map, Some, refl, sym, ◌∙◌, ap, arith, append_assoc, encode_utf8_all, rules}
use Rattle.std.specs.List.{take-map}
use Rattle.std.proofs.lemmas.List.{append-nil, map_more, length-map, length-take-le}
use Rattle.qmi_shapes.specs.declared.shape.Prefix.{Prefix}
use Rattle.qmi_shapes.specs.declared.shape.Shape.{the_lemmas}
use Rattle.qmi_shapes.specs.declared.shape.ShapeField.{ShapeField}
use Rattle.qmi_shapes.specs.Form.{Form, array, sequence, Fields}
use Rattle.qmi_shapes.specs.View.{NamedForm, fields_of, shape_view, field_view}
use Rattle.qmi_values.specs.declared.val.Val.{Val}
use Rattle.qmi_values.specs.Value.{Value, number, integer, text, elements, members, Values, list_of, values_of, elements_in, members_in}
use Rattle.qmi_values.proofs.Spellings.{list_of-values_of}
use Rattle.qmi_values.specs.View.{val_view}
use Rattle.qmi_values.proofs.Depth.{depth, fields_depth}
use Rattle.qmi_values.proofs.Readings.{around, depth_in}
use Rattle.qmi_shapes.proofs.Views.{view-form}
use Rattle.print_text.specs.Lines.{heading, deeper}
use Rattle.print_text.specs.declared.wording.Wording.{Wording}
use Rattle.qmicli_print.specs.declared.shown.Shown.{Shown}
use Rattle.qmicli_print.specs.declared.shown.Shown.TheVariants.{Plainly}
use Rattle.qmicli_print.specs.Printed.{list_text, titled_text, value_text, fields_text}

-- one field more
pub fields_text-push : (wording : Wording) (named : List NamedForm) (last : NamedForm) (indent : List ℕ) (values : List Value) (value : Value) → length named ≡ length values
    → fields_text wording (fields_of (named ++ last ∷ [])) indent (values ++ value ∷ []) ≡ fields_text wording (fields_of named) indent values ++ value_text wording last.form indent (encode_utf8_all last.name) value
fields_text-push wording [] last indent [] value same = append-nil _
fields_text-push wording [] last indent (v ∷ values) value same = absurd (omega (arith, same))
fields_text-push wording (n ∷ named) last indent [] value same = absurd (omega (arith, same))
fields_text-push wording (n ∷ named) last indent (v ∷ values) value same =
    ap (λ (l : List ℕ). value_text wording n.form indent (encode_utf8_all n.name) v ++ l) (fields_text-push wording named last indent values value (omega (arith, same)))
    ∙ sym (append_assoc (value_text wording n.form indent (encode_utf8_all n.name) v) (fields_text wording (fields_of named) indent values) (value_text wording last.form indent (encode_utf8_all last.name) value))

-- fields without a value and values without a field have no text
pub fields_text-take : (wording : Wording) (named : List NamedForm) (indent : List ℕ) (values : List Value) (count : ℕ) → count ≡ min (length named) (length values)
    → fields_text wording (fields_of (take count named)) indent (take count values) ≡ fields_text wording (fields_of named) indent values
fields_text-take wording [] indent values zero is = refl
fields_text-take wording [] indent values (suc count) is = absurd (omega (arith, is))
fields_text-take wording (n ∷ named) indent [] zero is = refl
fields_text-take wording (n ∷ named) indent [] (suc count) is = absurd (omega (arith, is))
fields_text-take wording (n ∷ named) indent (v ∷ values) zero is = absurd (omega (arith, is))
fields_text-take wording (n ∷ named) indent (v ∷ values) (suc count) is =
    ap (λ (l : List ℕ). value_text wording n.form indent (encode_utf8_all n.name) v ++ l) (fields_text-take wording named indent values count (omega (arith, is)))

view-name : (f : ShapeField) → (field_view f).name ≡ f.name
view-name f = search (rules, the_lemmas)

-- a field of a sequence is not as deep as all of them
pub field_depth : (fields : List ShapeField) (i : ℕ) (field : ShapeField) → i < length fields → field ≡ get_or fields i field → depth (shape_view field.shape) ≤ fields_depth (fields_of (map field_view fields))
field_depth fields i field less is =
    let split = around fields i field (fields_of (map field_view fields)) less is refl in
    let deep = depth_in (map field_view (take i fields)) (field_view field) (map field_view (drop (suc i) fields)) in
    omega (arith, deep, ap depth (view-form field), ap fields_depth split)

-- the value is a list of these elements
elements_are : (value : Value) (vs : Values) → Some vs ≡ elements_in value → value ≡ elements vs
elements_are (number n) vs is = absurd (cc)
elements_are (integer z) vs is = absurd (cc)
elements_are (text octets) vs is = absurd (cc)
elements_are (elements found) vs is = cc
elements_are (members found) vs is = absurd (cc)

members_are : (value : Value) (vs : Values) → Some vs ≡ members_in value → value ≡ members vs
members_are (number n) vs is = absurd (cc)
members_are (integer z) vs is = absurd (cc)
members_are (text octets) vs is = absurd (cc)
members_are (elements found) vs is = absurd (cc)
members_are (members found) vs is = cc

listed : (items : List Val) (all : Values) → values_of (map val_view items) ≡ all → list_of all ≡ map val_view items
listed items all is = sym (ap list_of is) ∙ list_of-values_of (map val_view items)

pub titled_text-list : (wording : Wording) (prefix : Prefix) (form : Form) (shown : Shown) (indent title : List ℕ) (items : List Val) (values : Values) (value : Value) → Some values ≡ elements_in value → values_of (map val_view items) ≡ values
    → titled_text wording (array prefix form) shown indent title value ≡ list_text shown (titled_text wording form Plainly) indent title (map val_view items)
titled_text-list wording prefix form shown indent title items values value found is =
    ap (titled_text wording (array prefix form) shown indent title) (elements_are value values found) ∙ ap (list_text shown (titled_text wording form Plainly) indent title) (listed items values is)

pub titled_text-sequence : (wording : Wording) (all : Fields) (shown : Shown) (indent inner title out headed : List ℕ) (fields : List ShapeField) (items : List Val) (values : Values) (value : Value) → Some values ≡ members_in value → values_of (map val_view items) ≡ values
    → fields_of (map field_view fields) ≡ all → inner ≡ deeper indent → headed ≡ out ++ heading indent title
    → out ++ titled_text wording (sequence all) shown indent title value ≡ headed ++ fields_text wording (fields_of (map field_view fields)) inner (map val_view items)
titled_text-sequence wording all shown indent inner title out headed fields items values value found is fields_is deep head =
    let inside : List ℕ = fields_text wording (fields_of (map field_view fields)) inner (map val_view items) in
    let same : titled_text wording (sequence all) shown indent title value ≡ heading indent title ++ inside =
    ap (titled_text wording (sequence all) shown indent title) (members_are value values found)
    ∙ ap (λ (l : List Value). heading indent title ++ fields_text wording all (deeper indent) l) (listed items values is)
    ∙ ap (λ (f : Fields). heading indent title ++ fields_text wording f (deeper indent) (map val_view items)) (sym fields_is)
    ∙ ap (λ (l : List ℕ). heading indent title ++ fields_text wording (fields_of (map field_view fields)) l (map val_view items)) (sym deep) in
    ap (λ (l : List ℕ). out ++ l) same ∙ sym (append_assoc out (heading indent title) inside) ∙ ap (λ (l : List ℕ). l ++ inside) (sym head)

module _ (wording : Wording) (indent before now new : List ℕ) where
  -- the fields so far, and one more
  pub fields-more : (fields : List ShapeField) (items : List Val) (i : ℕ) (field : ShapeField) (item : Val) (name : List ℕ) → i < length fields → i < length items → field ≡ get_or fields i field → item ≡ get_or items i item
      → name ≡ encode_utf8_all field.name → now ≡ before ++ fields_text wording (fields_of (map field_view (take i fields))) indent (map val_view (take i items))
      → new ≡ now ++ value_text wording (shape_view field.shape) indent name (val_view item) → new ≡ before ++ fields_text wording (fields_of (map field_view (take (i + 1) fields))) indent (map val_view (take (i + 1) items))
  fields-more fields items i field item name in_fields in_items field_is item_is named so_far adds =
      let front : List NamedForm = map field_view (take i fields) in
      let done : List Value = map val_view (take i items) in
      let fields_step : map field_view (take (i + 1) fields) ≡ front ++ field_view field ∷ [] = map_more field_view fields i field in_fields ∙ ap (λ (f : ShapeField). front ++ field_view f ∷ []) (sym field_is) in
      let items_step : map val_view (take (i + 1) items) ≡ done ++ val_view item ∷ [] = map_more val_view items i item in_items ∙ ap (λ (v : Val). done ++ val_view v ∷ []) (sym item_is) in
      let same : length front ≡ length done =
      omega (arith, length-map (take i fields) field_view, length-map (take i items) val_view, length-take-le i fields (omega (arith, in_fields)), length-take-le i items (omega (arith, in_items))) in
      let push = fields_text-push wording front (field_view field) indent done (val_view item) same in
      let last : value_text wording (field_view field).form indent (encode_utf8_all (field_view field).name) (val_view item) ≡ value_text wording (shape_view field.shape) indent name (val_view item) =
      ap (λ (f : Form). value_text wording f indent (encode_utf8_all (field_view field).name) (val_view item)) (view-form field)
      ∙ ap (λ (n : List ℕ). value_text wording (shape_view field.shape) indent n (val_view item)) (ap encode_utf8_all (view-name field) ∙ sym named) in
      let so_far_text : List ℕ = fields_text wording (fields_of front) indent done in
      adds ∙ ap (λ (l : List ℕ). l ++ value_text wording (shape_view field.shape) indent name (val_view item)) so_far ∙ append_assoc before so_far_text (value_text wording (shape_view field.shape) indent name (val_view item))
      ∙ ap (λ (l : List ℕ). before ++ l)
      (ap (λ (l : List ℕ). so_far_text ++ l) (sym last) ∙ sym push ∙ ap (λ (l : List NamedForm). fields_text wording (fields_of l) indent (done ++ val_view item ∷ [])) (sym fields_step)
      ∙ ap (λ (l : List Value). fields_text wording (fields_of (map field_view (take (i + 1) fields))) indent l) (sym items_step))

-- fields and values that have no partner change nothing
pub fields_text-all : (wording : Wording) (fields : List ShapeField) (items : List Val) (indent : List ℕ) (count : ℕ) → count ≡ min (length fields) (length items)
    → fields_text wording (fields_of (map field_view (take count fields))) indent (map val_view (take count items)) ≡ fields_text wording (fields_of (map field_view fields)) indent (map val_view items)
fields_text-all wording fields items indent count is =
    let sizes : count ≡ min (length (map field_view fields)) (length (map val_view items)) = omega (arith, is, length-map fields field_view, length-map items val_view) in
    ap (λ (l : List NamedForm). fields_text wording (fields_of l) indent (map val_view (take count items))) (sym (take-map field_view count fields))
    ∙ ap (λ (l : List Value). fields_text wording (fields_of (take count (map field_view fields))) indent l) (sym (take-map val_view count items))
    ∙ fields_text-take wording (map field_view fields) indent (map val_view items) count sizes
