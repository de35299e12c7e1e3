-- Writing values behind bytes, one after another.
use Rattle.std.proofs.Common.{◌≡◌, ℕ, suc, ◌+◌, ◌<◌, List, [], ◌∷◌, ◌++◌, length, take, drop, get_or, map, Some, refl, sym, ◌∙◌, ap, subst, arith, append_assoc}
use Rattle.std.proofs.lemmas.List.{append-nil, map_more, length-map, length-take-le}
use Rattle.qmi_shapes.specs.declared.shape.Prefix.{Prefix}
use Rattle.qmi_shapes.specs.declared.shape.ShapeField.{ShapeField}
use Rattle.qmi_shapes.specs.Form.{Form, array, sequence, Fields}
use Rattle.qmi_shapes.specs.View.{NamedForm, fields_of, shape_view, field_view}
use Rattle.qmi_shapes.proofs.Views.{view-form}
use Rattle.qmi_values.specs.declared.val.Val.{Val}
use Rattle.qmi_values.specs.declared.fault.EncodeFault.{EncodeFault}
use Rattle.qmi_values.specs.declared.fault.EncodeFault.TheVariants.{Misfit, OutOfMemory}
use Rattle.qmi_values.specs.Value.{Value, number, integer, text, elements, members, Values, list_of, values_of, text_in}
use Rattle.qmi_values.specs.View.{val_view}
use Rattle.qmi_values.specs.Spelling.{IsCount, EachSpells, Spells, FieldsSpell}
use Rattle.qmi_values.specs.Writing.{Adds, HoldsOfNone}
use Rattle.qmi_values.proofs.Spellings.{list_of-values_of}
use Rattle.qmi_values.proofs.Readings.{EachSpells-push, FieldsSpell-push, around, map_around}

-- ---- one writing after another ----

pub Adds-behind : (First Second Both : List ℕ → Type 0) → ((a b : List ℕ) → First a → Second b → Both (a ++ b)) → (old mid new : List ℕ) → Adds First old mid → Adds Second mid new → Adds Both old new
Adds-behind First Second Both join old mid new first then =
    record {
      bytes = first.bytes ++ then.bytes;
      whole = then.whole ∙ ap (λ (l : List ℕ). l ++ then.bytes) first.whole ∙ append_assoc old first.bytes then.bytes;
      holds = join first.bytes then.bytes first.holds then.holds;
    }

pub Adds-none : (Holds : List ℕ → Type 0) → Holds [] → (old : List ℕ) → Adds Holds old old
Adds-none Holds none old = record { bytes = []; whole = sym (append-nil old); holds = none }

-- no bytes are right for a whole whose part no bytes are right for
pub HoldsOfNone-part : (Part Whole : List ℕ → Type 0) → ((bytes : List ℕ) → Whole bytes → (some : List ℕ) × Part some) → (fault : EncodeFault) → HoldsOfNone Part fault → HoldsOfNone Whole fault
HoldsOfNone-part Part Whole has Misfit none = λ bytes holds. let part = has bytes holds in none part.0 part.1
HoldsOfNone-part Part Whole has OutOfMemory none = tt

pub text_of : (value : Value) (octets : List ℕ) → Some octets ≡ text_in value → value ≡ text octets
text_of (text found) octets is = cc
text_of (number n) octets is = absurd (cc)
text_of (integer z) octets is = absurd (cc)
text_of (elements vs) octets is = absurd (cc)
text_of (members vs) octets is = absurd (cc)

-- ---- lists ----

pub each_more : (form : Form) (items : List Val) (i : ℕ) (item : Val) (old mid new : List ℕ) → i < length items → item ≡ get_or items i item
    → Adds (EachSpells (Spells form) (map val_view (take i items))) old mid → Adds (Spells form (val_view item)) mid new → Adds (EachSpells (Spells form) (map val_view (take (i + 1) items))) old new
each_more form items i item old mid new less is first then =
    let done : List Value = map val_view (take i items) in
    let step : map val_view (take (i + 1) items) ≡ done ++ val_view item ∷ [] = map_more val_view items i item less ∙ ap (λ (v : Val). done ++ val_view v ∷ []) (sym is) in
    subst (λ (l : List Value). Adds (EachSpells (Spells form) l) old new) (sym step)
    (Adds-behind (EachSpells (Spells form) done) (Spells form (val_view item)) (EachSpells (Spells form) (done ++ val_view item ∷ [])) (EachSpells-push (Spells form) done (val_view item)) old mid new first then)

listed : (items : List Val) (all : Values) → values_of (map val_view items) ≡ all → map val_view items ≡ list_of all
listed items all is = sym (list_of-values_of (map val_view items)) ∙ ap list_of is

pub list_added : (prefix : Prefix) (form : Form) (items : List Val) (values : Values) (old mid new : List ℕ) → values_of (map val_view items) ≡ values → Adds (IsCount prefix (length items)) old mid
    → Adds (EachSpells (Spells form) (map val_view items)) mid new → Adds (Spells (array prefix form) (elements values)) old new
list_added prefix form items values old mid new is first then =
    let all = listed items values is in
    let size : length items ≡ length (list_of values) = sym (length-map items val_view) ∙ ap length all in
    Adds-behind (IsCount prefix (length (list_of values))) (EachSpells (Spells form) (list_of values)) (Spells (array prefix form) (elements values))
    (λ a b in_a in_b. record { front = a; back = b; whole = refl; before = in_a; behind = in_b })
    old mid new
    (subst (λ (n : ℕ). Adds (IsCount prefix n) old mid) size first)
    (subst (λ (l : List Value). Adds (EachSpells (Spells form) l) mid new) all then)

pub count_misfits : (prefix : Prefix) (form : Form) (items : List Val) (values : Values) (fault : EncodeFault) → values_of (map val_view items) ≡ values → HoldsOfNone (IsCount prefix (length items)) fault
    → HoldsOfNone (Spells (array prefix form) (elements values)) fault
count_misfits prefix form items values fault is =
    let size : length (list_of values) ≡ length items = sym (ap length (listed items values is)) ∙ length-map items val_view in
    HoldsOfNone-part (IsCount prefix (length items)) (Spells (array prefix form) (elements values)) (λ bytes holds. (holds.front, subst (λ (n : ℕ). IsCount prefix n holds.front) size holds.before)) fault

each_has : (Spelled : Value → List ℕ → Type 0) (done : List Value) (v : Value) (rest : List Value) (bytes : List ℕ) → EachSpells Spelled (done ++ v ∷ rest) bytes → (some : List ℕ) × Spelled v some
each_has Spelled [] v rest bytes holds = (holds.front, holds.before)
each_has Spelled (first ∷ done) v rest bytes holds = each_has Spelled done v rest holds.back holds.behind

pub element_misfits : (prefix : Prefix) (form : Form) (items : List Val) (i : ℕ) (item : Val) (values : Values) (fault : EncodeFault) → i < length items → item ≡ get_or items i item
    → values_of (map val_view items) ≡ values → HoldsOfNone (Spells form (val_view item)) fault → HoldsOfNone (Spells (array prefix form) (elements values)) fault
element_misfits prefix form items i item values fault less item_is is =
    let done : List Value = map val_view (take i items) in
    let rest : List Value = map val_view (drop (suc i) items) in
    let split : list_of values ≡ done ++ val_view item ∷ rest = sym (listed items values is) ∙ map_around val_view items i item less ∙ ap (λ (v : Val). done ++ val_view v ∷ rest) (sym item_is) in
    HoldsOfNone-part (Spells form (val_view item)) (Spells (array prefix form) (elements values))
    (λ bytes holds. each_has (Spells form) done (val_view item) rest holds.back (subst (λ (l : List Value). EachSpells (Spells form) l holds.back) split holds.behind)) fault

-- ---- fields ----

pub fields_add : (fields : List ShapeField) (items : List Val) (i : ℕ) (field : ShapeField) (item : Val) (old mid new : List ℕ) → i < length fields → i < length items → field ≡ get_or fields i field → item ≡ get_or items i item
    → Adds (FieldsSpell (fields_of (map field_view (take i fields))) (map val_view (take i items))) old mid → Adds (Spells (shape_view field.shape) (val_view item)) mid new
    → Adds (FieldsSpell (fields_of (map field_view (take (i + 1) fields))) (map val_view (take (i + 1) items))) old new
fields_add fields items i field item old mid new in_fields in_items field_is item_is first then =
    let named : List NamedForm = map field_view (take i fields) in
    let done : List Value = map val_view (take i items) in
    let named_more : map field_view (take (i + 1) fields) ≡ named ++ field_view field ∷ [] = map_more field_view fields i field in_fields ∙ ap (λ (f : ShapeField). named ++ field_view f ∷ []) (sym field_is) in
    let done_more : map val_view (take (i + 1) items) ≡ done ++ val_view item ∷ [] = map_more val_view items i item in_items ∙ ap (λ (v : Val). done ++ val_view v ∷ []) (sym item_is) in
    let here : Adds (Spells (field_view field).form (val_view item)) mid new = subst (λ (f : Form). Adds (Spells f (val_view item)) mid new) (sym (view-form field)) then in
    let both : Adds (FieldsSpell (fields_of (named ++ field_view field ∷ [])) (done ++ val_view item ∷ [])) old new =
    Adds-behind (FieldsSpell (fields_of named) done) (Spells (field_view field).form (val_view item)) (FieldsSpell (fields_of (named ++ field_view field ∷ [])) (done ++ val_view item ∷ []))
    (FieldsSpell-push named (field_view field) done (val_view item)) old mid new first here in
    subst (λ (l : List Value). Adds (FieldsSpell (fields_of (map field_view (take (i + 1) fields))) l) old new) (sym done_more)
    (subst (λ (l : List NamedForm). Adds (FieldsSpell (fields_of l) (done ++ val_view item ∷ [])) old new) (sym named_more) both)

pub fields_added : (fields : List ShapeField) (items : List Val) (all : Fields) (values : Values) (old new : List ℕ) → fields_of (map field_view fields) ≡ all → values_of (map val_view items) ≡ values
    → Adds (FieldsSpell (fields_of (map field_view fields)) (map val_view items)) old new → Adds (Spells (sequence all) (members values)) old new
fields_added fields items all values old new fields_are is adds =
    subst (λ (f : Fields). Adds (FieldsSpell f (list_of values)) old new) fields_are
    (subst (λ (l : List Value). Adds (FieldsSpell (fields_of (map field_view fields)) l) old new) (listed items values is) adds)

as_many : (named : List NamedForm) (vs : List Value) (bytes : List ℕ) → FieldsSpell (fields_of named) vs bytes → length named ≡ length vs
as_many [] [] bytes holds = refl
as_many [] (v ∷ vs) bytes holds = absurd holds
as_many (first ∷ named) [] bytes holds = absurd holds
as_many (first ∷ named) (v ∷ vs) bytes holds = ap suc (as_many named vs holds.back holds.behind)

pub other_number : (fields : List ShapeField) (items : List Val) (all : Fields) (values : Values) → fields_of (map field_view fields) ≡ all → values_of (map val_view items) ≡ values
    → (length fields ≡ length items → ⊥) → (bytes : List ℕ) → Spells (sequence all) (members values) bytes → ⊥
other_number fields items all values fields_are is other bytes holds =
    let spelled : FieldsSpell (fields_of (map field_view fields)) (map val_view items) bytes =
    subst (λ (f : Fields). FieldsSpell f (map val_view items) bytes) (sym fields_are) (subst (λ (l : List Value). FieldsSpell all l bytes) (sym (listed items values is)) holds) in
    other (sym (length-map fields field_view) ∙ as_many (map field_view fields) (map val_view items) bytes spelled ∙ length-map items val_view)

field_has : (named : List NamedForm) (here : NamedForm) (more : List NamedForm) (done : List Value) (v : Value) (rest : List Value) (bytes : List ℕ) → length named ≡ length done
    → FieldsSpell (fields_of (named ++ here ∷ more)) (done ++ v ∷ rest) bytes → (some : List ℕ) × Spells here.form v some
field_has [] here more [] v rest bytes size holds = (holds.front, holds.before)
field_has [] here more (w ∷ done) v rest bytes size holds = absurd (omega arith)
field_has (first ∷ named) here more [] v rest bytes size holds = absurd (omega arith)
field_has (first ∷ named) here more (w ∷ done) v rest bytes size holds = field_has named here more done v rest holds.back (omega arith) holds.behind

pub field_misfits : (fields : List ShapeField) (items : List Val) (i : ℕ) (field : ShapeField) (item : Val) (all : Fields) (values : Values) (fault : EncodeFault) → i < length fields → i < length items
    → field ≡ get_or fields i field → item ≡ get_or items i item → fields_of (map field_view fields) ≡ all → values_of (map val_view items) ≡ values
    → HoldsOfNone (Spells (shape_view field.shape) (val_view item)) fault → HoldsOfNone (Spells (sequence all) (members values)) fault
field_misfits fields items i field item all values fault in_fields in_items field_is item_is fields_are is =
    let named : List NamedForm = map field_view (take i fields) in
    let more : List NamedForm = map field_view (drop (suc i) fields) in
    let done : List Value = map val_view (take i items) in
    let rest : List Value = map val_view (drop (suc i) items) in
    let fields_split : all ≡ fields_of (named ++ field_view field ∷ more) = around fields i field all in_fields field_is fields_are in
    let split : list_of values ≡ done ++ val_view item ∷ rest = sym (listed items values is) ∙ map_around val_view items i item in_items ∙ ap (λ (v : Val). done ++ val_view v ∷ rest) (sym item_is) in
    let size : length named ≡ length done =
    length-map (take i fields) field_view ∙ length-take-le i fields (omega arith) ∙ sym (length-map (take i items) val_view ∙ length-take-le i items (omega arith)) in
    HoldsOfNone-part (Spells (shape_view field.shape) (val_view item)) (Spells (sequence all) (members values))
    (λ bytes holds.
    let spelled : FieldsSpell (fields_of (named ++ field_view field ∷ more)) (done ++ val_view item ∷ rest) bytes =
    subst (λ (f : Fields). FieldsSpell f (done ++ val_view item ∷ rest) bytes) fields_split (subst (λ (l : List Value). FieldsSpell all l bytes) split holds) in
    let has = field_has named (field_view field) more done (val_view item) rest bytes size spelled in
    (has.0, subst (λ (f : Form). Spells f (val_view item) has.0) (view-form field) has.1))
    fault
