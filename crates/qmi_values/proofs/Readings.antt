-- Reading values from bytes, one after another.
use Rattle.std.proofs.Common.{◌≡◌, ℕ, zero, suc, ◌+◌, ◌<◌, ◌≤◌, inl, inr, List, [], ◌∷◌, ◌++◌, length, take, drop, get_or, map, refl, sym, ◌∙◌, ap, subst, arith, append_assoc, length-append}
use Rattle.std.proofs.Math.Seq.{take-append_seam}
use Rattle.std.proofs.lemmas.List.{append-nil, map_more}
use Rattle.qmi_shapes.specs.declared.shape.Prefix.{Prefix}
use Rattle.qmi_shapes.specs.declared.shape.Prefix.TheVariants.{Rest, Fixed, Counted}
use Rattle.qmi_shapes.specs.declared.shape.ShapeField.{ShapeField}
use Rattle.qmi_shapes.specs.Form.{Form, array, sequence, Fields}
use Rattle.qmi_shapes.specs.View.{NamedForm, fields_of, shape_view, field_view}
use Rattle.qmi_shapes.specs.WellMade.{IsPart, AreParts}
use Rattle.qmi_values.specs.Value.{Value, elements, members, Values, list_of, values_of}
use Rattle.qmi_values.specs.Numbers.{little_endian}
use Rattle.qmi_values.specs.Spelling.{Follows, IsCount, EachSpells, Spells, FieldsSpell}
use Rattle.qmi_values.specs.Breaking.{Field, fixed, counted, room, IsText, IsListCount, ComesBehind, ComesInFields}
use Rattle.qmi_values.specs.Reading.{Reading, Took, Takes, IsCutOff, StopsIn}
use Rattle.qmi_values.specs.declared.fault.ValFault.{ValFault}
use Rattle.qmi_values.specs.declared.fault.ValFault.TheVariants.{Short, Over, OutOfMemory}
use Rattle.qmi_shapes.proofs.Views.{view-form}
use Rattle.qmi_values.proofs.Depth.{depth, fields_depth}
use Rattle.qmi_values.proofs.Spellings.{parts, list_of-values_of}

-- ---- one reading after another ----

pub Took-append : (a b : List ℕ) (old mid new : Reading) → Took a old mid → Took b mid new → Took (a ++ b) old new
Took-append a b old mid new first then =
    record {
      left = first.left ∙ ap (λ (l : List ℕ). a ++ l) then.left ∙ sym (append_assoc a b new.left);
      place = omega (arith, first.place, then.place, length-append a b);
    }

-- ---- texts and counts ----

pub fixed_cut : (count : ℕ) (reading : Reading) (fault : ValFault) → IsCutOff (λ next. next ≡ fixed count) reading fault → length reading.left < count
fixed_cut count reading fault cut = subst (λ (f : Field). length reading.left < room f reading.left) cut.is cut.short

pub count_cut : (size : ℕ) (reading : Reading) (fault : ValFault) → IsCutOff (λ next. next ≡ fixed size) reading fault → IsCutOff (IsListCount (Counted size)) reading fault
count_cut size reading fault cut = record { told = cut.told; next = cut.next; is = cut.is; short = cut.short }

pub text_cut : (prefix : Prefix) (reading : Reading) (fault : ValFault) → IsCutOff (IsListCount prefix) reading fault → IsCutOff (IsText prefix) reading fault
text_cut Rest reading fault cut = absurd cut.is
text_cut (Fixed size) reading fault cut = absurd cut.is
text_cut (Counted size) reading fault cut =
    let less : length reading.left < size = subst (λ (f : Field). length reading.left < room f reading.left) cut.is cut.short in
    record { told = cut.told; next = counted size; is = refl; short = omega arith }

pub text_cut_behind : (prefix : Prefix) (count : ℕ) (old mid : Reading) → Takes (IsCount prefix count) old mid → (prefix ≡ Rest → count ≡ length mid.left) → length mid.left < count
    → IsCutOff (IsText prefix) old (Short old.place)
text_cut_behind Rest count old mid takes rest less = let all = rest refl in absurd (omega arith)
text_cut_behind (Fixed size) count old mid takes rest less =
    let left : old.left ≡ mid.left = takes.took.left ∙ ap (λ (l : List ℕ). l ++ mid.left) takes.holds.1 in
    record { told = refl; next = fixed size; is = refl; short = omega (arith, ap length left, takes.holds.0) }
text_cut_behind (Counted size) count old mid takes rest less =
    let head : take size old.left ≡ takes.bytes = ap (λ (l : List ℕ). take size l) takes.took.left ∙ ap (λ (n : ℕ). take n (takes.bytes ++ mid.left)) (sym takes.holds.are.count) ∙ take-append_seam takes.bytes mid.left in
    let count_is : little_endian (take size old.left) ≡ count = ap little_endian head ∙ sym takes.holds.is in
    record { told = refl; next = counted size; is = refl; short = omega (arith, ap length takes.took.left, length-append takes.bytes mid.left, takes.holds.are.count) }

pub text_taken : (prefix : Prefix) (count : ℕ) (octets : List ℕ) (old mid new : Reading) → Takes (IsCount prefix count) old mid → length octets ≡ count → Took octets mid new
    → Takes (Follows (IsCount prefix (length octets)) (λ back. back ≡ octets)) old new
text_taken prefix count octets old mid new takes size took =
    record {
      bytes = takes.bytes ++ octets;
      took = Took-append takes.bytes octets old mid new takes.took took;
      holds = record { front = takes.bytes; back = octets; whole = refl; before = subst (λ (n : ℕ). IsCount prefix n takes.bytes) (sym size) takes.holds; behind = refl };
    }

-- one reading and then another
pub Takes-behind : (First Second Both : List ℕ → Type 0) → ((a b : List ℕ) → First a → Second b → Both (a ++ b)) → (old mid new : Reading) → Takes First old mid → Takes Second mid new → Takes Both old new
Takes-behind First Second Both join old mid new first then =
    record {
      bytes = first.bytes ++ then.bytes;
      took = Took-append first.bytes then.bytes old mid new first.took then.took;
      holds = join first.bytes then.bytes first.holds then.holds;
    }

pub Takes-none : (Holds : List ℕ → Type 0) → Holds [] → (reading : Reading) → Takes Holds reading reading
Takes-none Holds none reading = record { bytes = []; took = record { left = refl; place = omega arith }; holds = none }

-- ---- where reading stops ----

-- the first field of a form isn't whole
pub StopsIn-first : (Is : Field → Type 0) (form : Form) → ((next : Field) → Is next → ComesBehind form next []) → (reading : Reading) (fault : ValFault) → IsCutOff Is reading fault → StopsIn form reading fault
StopsIn-first Is form comes reading fault cut =
    subst (λ (f : ValFault). StopsIn form reading f) (sym cut.told)
    (0, omega arith, record { front = []; left = reading.left; whole = refl; before = refl; next = cut.next; comes = comes cut.next cut.is; short = cut.short })

-- a field isn't whole behind others
pub StopsIn-behind : (Holds : List ℕ → Type 0) (form outer : Form) → ((next : Field) (a b : List ℕ) → Holds a → ComesBehind form next b → ComesBehind outer next (a ++ b))
    → (old mid : Reading) (fault : ValFault) → Takes Holds old mid → StopsIn form mid fault → StopsIn outer old fault
StopsIn-behind Holds form outer join old mid (Short place) takes (behind, at_place, breaks) =
    let whole : old.left ≡ (takes.bytes ++ breaks.front) ++ breaks.left =
    takes.took.left ∙ ap (λ (l : List ℕ). takes.bytes ++ l) breaks.whole ∙ sym (append_assoc takes.bytes breaks.front breaks.left) in
    let before : length takes.bytes + behind ≡ length (takes.bytes ++ breaks.front) = omega (arith, breaks.before, length-append takes.bytes breaks.front) in (
      length takes.bytes + behind,
      omega (arith, at_place, takes.took.place),
      record {
        front = takes.bytes ++ breaks.front;
        left = breaks.left;
        whole = whole;
        before = before;
        next = breaks.next;
        comes = join breaks.next takes.bytes breaks.front takes.holds breaks.comes;
        short = breaks.short;
      },
    )
StopsIn-behind Holds form outer join old mid (Over place) takes stops = stops
StopsIn-behind Holds form outer join old mid OutOfMemory takes stops = tt

-- ---- lists ----

pub EachSpells-push : (Spelled : Value → List ℕ → Type 0) (vs : List Value) (v : Value) (a b : List ℕ) → EachSpells Spelled vs a → Spelled v b → EachSpells Spelled (vs ++ v ∷ []) (a ++ b)
EachSpells-push Spelled [] v a b in_a in_b = record { front = b; back = []; whole = ap (λ (l : List ℕ). l ++ b) in_a ∙ sym (append-nil b); before = in_b; behind = refl }
EachSpells-push Spelled (first ∷ vs) v a b in_a in_b =
    record { front = in_a.front; back = in_a.back ++ b; whole = parts a in_a.front in_a.back b in_a.whole; before = in_a.before; behind = EachSpells-push Spelled vs v in_a.back b in_a.behind in_b }

pub list_more : (form : Form) (vs : List Value) (v : Value) (old mid new : Reading) → Takes (EachSpells (Spells form) vs) old mid → Takes (Spells form v) mid new → Takes (EachSpells (Spells form) (vs ++ v ∷ [])) old new
list_more form vs v = Takes-behind (EachSpells (Spells form) vs) (Spells form v) (EachSpells (Spells form) (vs ++ v ∷ [])) (EachSpells-push (Spells form) vs v)

-- a count and then elements
counted_each : (prefix : Prefix) (form : Form) (count : ℕ) (vs : List Value) (old mid new : Reading) → Takes (IsCount prefix count) old mid → Takes (EachSpells (Spells form) vs) mid new
    → Takes (Follows (IsCount prefix count) (EachSpells (Spells form) vs)) old new
counted_each prefix form count vs =
    Takes-behind (IsCount prefix count) (EachSpells (Spells form) vs) (Follows (IsCount prefix count) (EachSpells (Spells form) vs))
    (λ a b in_a in_b. record { front = a; back = b; whole = refl; before = in_a; behind = in_b })

pub list_taken : (prefix : Prefix) (form : Form) (count : ℕ) (vs : List Value) (values : Values) (old mid new : Reading) → Takes (IsCount prefix count) old mid → Takes (EachSpells (Spells form) vs) mid new
    → length vs ≡ count → values ≡ values_of vs → Takes (Spells (array prefix form) (elements values)) old new
list_taken prefix form count vs values old mid new first then size is =
    let both : Takes (Follows (IsCount prefix (length vs)) (EachSpells (Spells form) vs)) old new =
    subst (λ (n : ℕ). Takes (Follows (IsCount prefix n) (EachSpells (Spells form) vs)) old new) (sym size) (counted_each prefix form count vs old mid new first then) in
    let listed : vs ≡ list_of values = sym (list_of-values_of vs) ∙ ap list_of (sym is) in
    subst (λ (l : List Value). Takes (Follows (IsCount prefix (length l)) (EachSpells (Spells form) l)) old new) listed both

pub list_stops : (prefix : Prefix) (form : Form) (count : ℕ) (vs : List Value) (old mid now : Reading) (fault : ValFault) → Takes (IsCount prefix count) old mid → Takes (EachSpells (Spells form) vs) mid now
    → length vs < count → StopsIn form now fault → StopsIn (array prefix form) old fault
list_stops prefix form count vs old mid now fault first then less =
    StopsIn-behind (Follows (IsCount prefix count) (EachSpells (Spells form) vs)) form (array prefix form)
    (λ next a b in_a comes. inr (
      count,
      vs,
      less,
      record {
        front = in_a.front;
        back = in_a.back ++ b;
        whole = parts a in_a.front in_a.back b in_a.whole;
        before = in_a.before;
        behind = record { front = in_a.back; back = b; whole = refl; before = in_a.behind; behind = comes };
      },
    ))
    old now fault (counted_each prefix form count vs old mid now first then)

-- ---- fields ----

pub FieldsSpell-push : (done : List NamedForm) (last : NamedForm) (vs : List Value) (v : Value) (a b : List ℕ) → FieldsSpell (fields_of done) vs a → Spells last.form v b
    → FieldsSpell (fields_of (done ++ last ∷ [])) (vs ++ v ∷ []) (a ++ b)
FieldsSpell-push [] last [] v a b in_a in_b = record { front = b; back = []; whole = ap (λ (l : List ℕ). l ++ b) in_a ∙ sym (append-nil b); before = in_b; behind = refl }
FieldsSpell-push [] last (w ∷ vs) v a b in_a in_b = absurd in_a
FieldsSpell-push (named ∷ done) last [] v a b in_a in_b = absurd in_a
FieldsSpell-push (named ∷ done) last (w ∷ vs) v a b in_a in_b =
    record { front = in_a.front; back = in_a.back ++ b; whole = parts a in_a.front in_a.back b in_a.whole; before = in_a.before; behind = FieldsSpell-push done last vs v in_a.back b in_a.behind in_b }

pub fields_more : (done : List NamedForm) (last : NamedForm) (vs : List Value) (v : Value) (old mid new : Reading) → Takes (FieldsSpell (fields_of done) vs) old mid → Takes (Spells last.form v) mid new
    → Takes (FieldsSpell (fields_of (done ++ last ∷ [])) (vs ++ v ∷ [])) old new
fields_more done last vs v =
    Takes-behind (FieldsSpell (fields_of done) vs) (Spells last.form v) (FieldsSpell (fields_of (done ++ last ∷ [])) (vs ++ v ∷ [])) (FieldsSpell-push done last vs v)

pub fields_taken : (fields : Fields) (vs : List Value) (values : Values) (old new : Reading) → Takes (FieldsSpell fields vs) old new → values ≡ values_of vs → Takes (Spells (sequence fields) (members values)) old new
fields_taken fields vs values old new takes is =
    let listed : vs ≡ list_of values = sym (list_of-values_of vs) ∙ ap list_of (sym is) in
    subst (λ (l : List Value). Takes (FieldsSpell fields l) old new) listed takes

ComesInFields-behind : (done : List NamedForm) (here : NamedForm) (rest : List NamedForm) (vs : List Value) (next : Field) (a b : List ℕ) → FieldsSpell (fields_of done) vs a → ComesBehind here.form next b
    → ComesInFields (fields_of (done ++ here ∷ rest)) next (a ++ b)
ComesInFields-behind [] here rest [] next a b in_a comes = inl (subst (λ (l : List ℕ). ComesBehind here.form next l) (ap (λ (l : List ℕ). l ++ b) (sym in_a)) comes)
ComesInFields-behind [] here rest (v ∷ vs) next a b in_a comes = absurd in_a
ComesInFields-behind (named ∷ done) here rest [] next a b in_a comes = absurd in_a
ComesInFields-behind (named ∷ done) here rest (v ∷ vs) next a b in_a comes =
    inr (
      v,
      record {
        front = in_a.front;
        back = in_a.back ++ b;
        whole = parts a in_a.front in_a.back b in_a.whole;
        before = in_a.before;
        behind = ComesInFields-behind done here rest vs next in_a.back b in_a.behind comes;
      },
    )

pub fields_stop : (done : List NamedForm) (here : NamedForm) (rest : List NamedForm) (vs : List Value) (old now : Reading) (fault : ValFault) → Takes (FieldsSpell (fields_of done) vs) old now
    → StopsIn here.form now fault → StopsIn (sequence (fields_of (done ++ here ∷ rest))) old fault
fields_stop done here rest vs = StopsIn-behind (FieldsSpell (fields_of done) vs) here.form (sequence (fields_of (done ++ here ∷ rest))) (ComesInFields-behind done here rest vs)

-- ---- a field among others ----

pub map_around : {A B : Type 0} (f : A → B) (items : List A) (i : ℕ) (d : A) → i < length items → map f items ≡ map f (take i items) ++ f (get_or items i d) ∷ map f (drop (suc i) items)
map_around f [] i d less = absurd (omega arith)
map_around f (item ∷ items) zero d less = refl
map_around {B = B} f (item ∷ items) (suc i) d less = ap (λ (l : List B). f item ∷ l) (map_around f items i d (omega arith))

part_of : (done : List NamedForm) (here : NamedForm) (rest : List NamedForm) → AreParts (fields_of (done ++ here ∷ rest)) → IsPart here.form
part_of [] here rest are = are.0
part_of (named ∷ done) here rest are = part_of done here rest are.1

pub depth_in : (done : List NamedForm) (here : NamedForm) (rest : List NamedForm) → depth here.form ≤ fields_depth (fields_of (done ++ here ∷ rest))
depth_in [] here rest = omega arith
depth_in (named ∷ done) here rest = omega (arith, depth_in done here rest)

-- a field's form among those of the others
pub around : (items : List ShapeField) (i : ℕ) (item : ShapeField) (all : Fields) → i < length items → item ≡ get_or items i item → fields_of (map field_view items) ≡ all
    → all ≡ fields_of (map field_view (take i items) ++ field_view item ∷ map field_view (drop (suc i) items))
around items i item all less is view =
    sym view ∙ ap fields_of (map_around field_view items i item less ∙ ap (λ (s : ShapeField). map field_view (take i items) ++ field_view s ∷ map field_view (drop (suc i) items)) (sym is))

-- it is well made, and not as deep as they are
pub field_part : (items : List ShapeField) (i : ℕ) (item : ShapeField) (all : Fields) → i < length items → item ≡ get_or items i item → fields_of (map field_view items) ≡ all → AreParts all
    → (depth (shape_view item.shape) ≤ fields_depth all) × IsPart (shape_view item.shape)
field_part items i item all less is view are =
    let split = around items i item all less is view in
    let deep = depth_in (map field_view (take i items)) (field_view item) (map field_view (drop (suc i) items)) in
    let part = part_of (map field_view (take i items)) (field_view item) (map field_view (drop (suc i) items)) (subst AreParts split are) in
    let form = view-form item in
    (omega (arith, ap depth form, ap fields_depth split), subst IsPart form part)

pub field_more : (items : List ShapeField) (i : ℕ) (item : ShapeField) (vs : List Value) (v : Value) (old mid new : Reading) → i < length items → item ≡ get_or items i item
    → Takes (FieldsSpell (fields_of (map field_view (take i items))) vs) old mid → Takes (Spells (shape_view item.shape) v) mid new
    → Takes (FieldsSpell (fields_of (map field_view (take (i + 1) items))) (vs ++ v ∷ [])) old new
field_more items i item vs v old mid new less is first then =
    let step : map field_view (take (i + 1) items) ≡ map field_view (take i items) ++ field_view item ∷ [] =
    map_more field_view items i item less ∙ ap (λ (s : ShapeField). map field_view (take i items) ++ field_view s ∷ []) (sym is) in
    let here = subst (λ (f : Form). Takes (Spells f v) mid new) (sym (view-form item)) then in
    subst (λ (l : List NamedForm). Takes (FieldsSpell (fields_of l) (vs ++ v ∷ [])) old new) (sym step) (fields_more (map field_view (take i items)) (field_view item) vs v old mid new first here)

pub field_stops : (items : List ShapeField) (i : ℕ) (item : ShapeField) (all : Fields) (vs : List Value) (old now : Reading) (fault : ValFault) → i < length items → item ≡ get_or items i item
    → fields_of (map field_view items) ≡ all → Takes (FieldsSpell (fields_of (map field_view (take i items))) vs) old now → StopsIn (shape_view item.shape) now fault → StopsIn (sequence all) old fault
field_stops items i item all vs old now fault less is view takes stops =
    let split = around items i item all less is view in
    let here = subst (λ (f : Form). StopsIn f now fault) (sym (view-form item)) stops in
    subst (λ (f : Fields). StopsIn (sequence f) old fault) (sym split)
    (fields_stop (map field_view (take i items)) (field_view item) (map field_view (drop (suc i) items)) vs old now fault takes here)
