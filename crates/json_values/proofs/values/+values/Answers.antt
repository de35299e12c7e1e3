use Rattle.std.proofs.Common.{◌≡◌, ℕ, ◌+◌, List, ◌∷◌, [], ◌++◌, map, chars, drop, Option, Some, Ok, Err, Vec, Global, rules, sym, ap, ◌∙◌}
use Rattle.std.proofs.lemmas.List.{map-append}
use Rattle.std.proofs.lemmas.Result.{err_from_is_err_and}
use Rattle.std.specs.Str.{encode_utf8_all}
use Rattle.std.specs.Option.{option_map, option_copied}
use Rattle.serde_json.specs.Data.{Data}
use Rattle.serde_json.specs.Find.{as_array, as_object, get}
use Rattle.serde_json.specs.Data.{Data}
use Rattle.serde_json.specs.View.{view, items_view}
use Rattle.serde_json.specs.declared.value.Value as json
use Rattle.qmi_shapes.specs.Form.{sequence}
use Rattle.qmi_shapes.proofs.Views.{view-field}
use Rattle.qmi_shapes.specs.View.{NamedForm, fields_of, field_view, fields_view, shape_view}
use Rattle.qmi_values.specs.Value.{Value, elements, members, values_of}
use Rattle.qmi_values.specs.View.{val_view}
use Rattle.qmi_values.specs.declared.val.Val.{Val}
use Rattle.message_tables.proofs.Weights.{weight_field}
use Rattle.json_values.specs.declared.path.Step.TheVariants.{Member, Element}
use Rattle.json_values.specs.Paths.{Fitting, fitting_as, both}
use Rattle.json_values.specs.Given.{list_by, elements_by, named_by, given, fields_given}
use Rattle.json_values.proofs.Continued.{with_first, HasGiven-none, HasGiven-one, HasGiven-fault, HasGiven-all, Gives-under, Gives-same, Gives-leads}
use Rattle.json_values.proofs.Walks.{next_element, next_field, copied_view, list_misfit, list_is, sequence_other, sequence_is, view-Seq}
use Rattle.json_values.proofs.values.+values.Goals as goal

pub fields_in-named_value-requires : goal.fields_in-named_value-requires
fields_in-named_value-requires t c =
    let falls = weight_field c.args.fields.now c.loop-field.field-index c.field-item.result c.loop-field-test.true c.field-item.is in
    search rules

pub items_in-returns-then-not-count_fits : goal.items_in-returns-then-not-count_fits
items_in-returns-then-not-count_fits t c =
    let found = ap (λ (l : List json.Value). Some (items_view l)) c.as_slice-items.ensures.value ∙ c.in-Some.ensures in
    let misfit = list_misfit c.args.prefix c.as_slice-items.result.now (as_array (view c.args.json.now)) (given (shape_view c.args.element.now)) found (sym c.count_fits.ensures ∙ c.if-not-count_fits.true) in
    rw c.whole-then-not-count_fits.ensures misfit

pub items_in-returns-in_err-elements_in : goal.items_in-returns-in_err-elements_in
items_in-returns-in_err-elements_in t c =
    let found = ap (λ (l : List json.Value). Some (items_view l)) c.as_slice-items.ensures.value ∙ c.in-Some.ensures in
    let is = list_is c.args.prefix c.as_slice-items.result.now (as_array (view c.args.json.now)) (given (shape_view c.args.element.now)) found (sym c.count_fits.ensures ∙ c.if-not-count_fits.false) in
    let p = err_from_is_err_and c.from_residual.result c.from_residual.ensures.1 in
    rw (p.1, p.2)
    (Gives-same (λ (vals : Vec Val Global). map val_view vals.items) val_view
    (elements_by (given (shape_view c.args.element.now)) 0 (items_view c.as_slice-items.result.now)) (list_by c.args.prefix (as_array (view c.args.json.now)) (given (shape_view c.args.element.now))) c.in_err-elements_in.field-0.0 c.in_err-elements_in.ensures
    (λ path e. is ∙ ap (fitting_as (λ (values : List Value). elements (values_of values))) e))

pub items_in-returns : goal.items_in-returns
items_in-returns t c =
    let found = ap (λ (l : List json.Value). Some (items_view l)) c.as_slice-items.ensures.value ∙ c.in-Some.ensures in
    let is = list_is c.args.prefix c.as_slice-items.result.now (as_array (view c.args.json.now)) (given (shape_view c.args.element.now)) found (sym c.count_fits.ensures ∙ c.if-not-count_fits.false) in
    is ∙ ap (fitting_as (λ (values : List Value). elements (values_of values))) c.in_ok-elements_in.ensures ∙ ap (λ (v : Value). Ok v) (sym c.list.ensures)

pub sequence_in-returns-in-Some-first_other : goal.sequence_in-returns-in-Some-first_other
sequence_in-returns-in-Some-first_other t c =
    Gives-leads val_view (given (sequence (fields_view c.args.fields.now)) (view c.args.json.now)) (Member (chars c.in-Some-first_other.other.now) ∷ []) c.no_member.result c.no_member.ensures
    (sequence_other c.as_slice-fields.result.now (fields_view c.args.fields.now) c.in-Some.members.now.entries (as_object (view c.args.json.now)) (view c.args.json.now) c.as_slice-fields.ensures c.in-Some.ensures
    c.in-Some-first_other.other.now c.in-Some-first_other.ensures)

pub sequence_in-returns-in_err-vals-in-None : goal.sequence_in-returns-in_err-vals-in-None
sequence_in-returns-in_err-vals-in-None t c =
    let is =
    sequence_is c.as_slice-fields.result.now (fields_view c.args.fields.now) c.in-Some.members.now.entries (as_object (view c.args.json.now)) (view c.args.json.now) c.as_slice-fields.ensures c.in-Some.ensures
    c.in-None.ensures in
    let p = err_from_is_err_and c.from_residual.result c.from_residual.ensures.1 in
    rw (p.1, p.2)
    (Gives-same (λ (vals : Vec Val Global). map val_view vals.items) val_view (fields_given (fields_of (map field_view c.as_slice-fields.result.now)) (view c.args.json.now))
    (given (sequence (fields_view c.args.fields.now)) (view c.args.json.now)) c.in_err-vals-in-None.field-0.0 c.in_err-vals-in-None.ensures
    (λ path e. is ∙ ap (fitting_as (λ (values : List Value). members (values_of values))) e))

pub sequence_in-returns-in_ok-vals-in-None : goal.sequence_in-returns-in_ok-vals-in-None
sequence_in-returns-in_ok-vals-in-None t c =
    let is =
    sequence_is c.as_slice-fields.result.now (fields_view c.args.fields.now) c.in-Some.members.now.entries (as_object (view c.args.json.now)) (view c.args.json.now) c.as_slice-fields.ensures c.in-Some.ensures
    c.in-None.ensures in
    is ∙ ap (fitting_as (λ (values : List Value). members (values_of values))) c.in_ok-vals-in-None.ensures
    ∙ ap (λ (value : Value). Ok value) (ap members (sym c.from.ensures) ∙ sym (view-Seq c.from.result))

pub elements_in-loop-index-init : goal.elements_in-loop-index-init
elements_in-loop-index-init t c = rw c.new-vals.ensures.items (HasGiven-none (elements_by (given (shape_view c.args.element.now)) 0 (items_view c.args.items.now)))

pub elements_in-loop-index-preserved : goal.elements_in-loop-index-preserved
elements_in-loop-index-preserved t c =
    let read = given (shape_view c.args.element.now) in
    let i = c.loop-index.index in
    let left = next_element read c.args.items.now i c.index-items-index.result c.loop-index-test.true c.index-items-index.is in
    rw (c.in_ok-push-in-Ok.ensures.items, map-append val_view c.loop-index.vals.items (c.in-Ok.val ∷ []))
    (HasGiven-one (elements_by read 0 (items_view c.args.items.now)) (elements_by read i (items_view (drop i c.args.items.now))) (elements_by read (i + 1) (items_view (drop (i + 1) c.args.items.now)))
    (map val_view c.loop-index.vals.items) (val_view c.in-Ok.val) c.loop-index.invariant (rw c.in-Ok.ensures at left))

pub elements_in-returns-in-Err : goal.elements_in-returns-in-Err
elements_in-returns-in-Err t c =
    let read = given (shape_view c.args.element.now) in
    let i = c.loop-index.index in
    let left = next_element read c.args.items.now i c.index-items-index.result c.loop-index-test.true c.index-items-index.is in
    Gives-under val_view (λ (vals : Vec Val Global). map val_view vals.items) (read (view c.index-items-index.result)) (elements_by read 0 (items_view c.args.items.now)) (Element i) c.in-Err.fault c.under.result c.in-Err.ensures c.under.ensures
    (λ path e. HasGiven-fault (elements_by read 0 (items_view c.args.items.now)) (elements_by read i (items_view (drop i c.args.items.now))) (elements_by read (i + 1) (items_view (drop (i + 1) c.args.items.now)))
    (map val_view c.loop-index.vals.items) (Element i ∷ path) c.loop-index.invariant (rw e at left))

pub fields_in-loop-field-init : goal.fields_in-loop-field-init
fields_in-loop-field-init t c = rw c.new-vals.ensures.items (HasGiven-none (fields_given (fields_of (map field_view c.args.fields.now)) (view c.args.json.now)))

pub fields_in-loop-field-preserved : goal.fields_in-loop-field-preserved
fields_in-loop-field-preserved t c =
    let json = view c.args.json.now in
    let i = c.loop-field.field-index in
    let read = given (shape_view c.field-item.result.shape) in
    let whole = fields_given (fields_of (map field_view c.args.fields.now)) json in
    let behind = fields_given (fields_of (map field_view (drop (i + 1) c.args.fields.now))) json in
    let left = next_field c.args.fields.now json i c.field-item.result c.loop-field-test.true c.field-item.is in
    let found = copied_view c.get-value.result ∙ c.get-value.ensures ∙ ap (λ (key : List ℕ). get key json) c.as_str.ensures in
    let same : named_by c.field-item.result.name read (get (encode_utf8_all c.field-item.result.name) json) ≡ Ok (val_view c.in_ok-named_value.field-0) = rw found at c.in_ok-named_value.ensures in
    rw (c.in_ok-push.ensures.items, map-append val_view c.loop-field.vals.items (c.in_ok-named_value.field-0 ∷ []))
    (HasGiven-one whole (fields_given (fields_of (map field_view (drop i c.args.fields.now))) json) behind (map val_view c.loop-field.vals.items) (val_view c.in_ok-named_value.field-0) c.loop-field.invariant
    (left ∙ ap (λ (n : NamedForm). both with_first (named_by n.name (given n.form) (get (encode_utf8_all n.name) json)) behind) (view-field c.field-item.result) ∙ ap (λ (m : Fitting Value). both with_first m behind) same))

pub fields_in-returns-in_err-named_value : goal.fields_in-returns-in_err-named_value
fields_in-returns-in_err-named_value t c =
    let json = view c.args.json.now in
    let i = c.loop-field.field-index in
    let read = given (shape_view c.field-item.result.shape) in
    let whole = fields_given (fields_of (map field_view c.args.fields.now)) json in
    let behind = fields_given (fields_of (map field_view (drop (i + 1) c.args.fields.now))) json in
    let left = next_field c.args.fields.now json i c.field-item.result c.loop-field-test.true c.field-item.is in
    let found = copied_view c.get-value.result ∙ c.get-value.ensures ∙ ap (λ (key : List ℕ). get key json) c.as_str.ensures in
    let p = err_from_is_err_and c.from_residual.result c.from_residual.ensures.1 in
    rw (p.1, p.2)
    (Gives-same val_view (λ (vals : Vec Val Global). map val_view vals.items) (named_by c.field-item.result.name read (option_map view (option_copied c.get-value.result))) whole c.in_err-named_value.field-0.0
    c.in_err-named_value.ensures
    (λ path e. HasGiven-fault whole (fields_given (fields_of (map field_view (drop i c.args.fields.now))) json) behind (map val_view c.loop-field.vals.items) path c.loop-field.invariant
    (left ∙ ap (λ (n : NamedForm). both with_first (named_by n.name (given n.form) (get (encode_utf8_all n.name) json)) behind) (view-field c.field-item.result) ∙ ap (λ (o : Option Data). both with_first (named_by c.field-item.result.name read o) behind) (sym found) ∙ ap (λ (m : Fitting Value). both with_first m behind) e)))
