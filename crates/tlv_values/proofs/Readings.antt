-- Bytes read as the values that they spell.
use Rattle.std.proofs.Common.{◌≡◌, inl, inr, ℕ, zero, suc, ◌<◌, List, [], ◌∷◌, ◌++◌, length, take, drop, Option, Some, None, refl, sym, ◌∙◌, ap, subst, arith, append_assoc, length-append}
use Rattle.std.proofs.Math.Seq.{take-append_seam, drop-append_seam}
use Rattle.std.proofs.lemmas.Bool.{le-leb, leb-true, eqb-true}
use Rattle.std.proofs.lemmas.List.{append-nil, take-append-drop, length-take-le}
use Rattle.std.proofs.lemmas.Option.{same_Some, cond_some, option_and_then_some}
use Rattle.std.specs.Prelude.{◌==◌, nat_le, option_and_then}
use Rattle.std.specs.List.{slice_index}
use Rattle.framing.specs.Framing.{AreBytes}
use Rattle.qmi_shapes.specs.declared.shape.Prefix.{Prefix}
use Rattle.qmi_shapes.specs.declared.shape.Prefix.TheVariants.{Rest, Fixed, Counted}
use Rattle.qmi_shapes.specs.Form.{Form, unsigned, signed, string, array, sequence, Fields, no_fields, field}
use Rattle.qmi_shapes.specs.WellMade.{IsBounded, IsPart, AreParts, IsWellMade}
use Rattle.qmi_values.specs.Value.{Value, number, integer, text, elements, members, Values, list_of, values_of}
use Rattle.qmi_values.specs.Numbers.{little_endian, twos_complement, AreBytes as AreSoMany, IsUnsigned, IsSigned}
use Rattle.qmi_values.specs.Spelling.{Follows, IsCount, EachSpells, Spells, FieldsSpell}
use Rattle.qmi_values.proofs.Spellings.{parts, values_of-list_of, list_of-values_of, rest_is}
use Rattle.tlv_values.specs.Reading.{Front, seen_as, octets_of, count_of, each_of, value_of, fields_of, alone, reading}
use Rattle.tlv_values.specs.Laws.{ReadAsSpelled}

-- ---- what is spelled reads ----

-- whatever stands behind a spelling is left
abbrev pub ReadsBack : {A : Type 0} → (A → List ℕ → Type 0) → (List ℕ → Option (Front A)) → Type 0
ReadsBack {A} Spelled read = (v : A) (bytes rest : List ℕ) → Spelled v bytes → read (bytes ++ rest) ≡ Some (record { value = v; left = rest })

octets-back : (size : ℕ) (bytes rest : List ℕ) → length bytes ≡ size → octets_of size (bytes ++ rest) ≡ Some (record { value = bytes; left = rest })
octets-back size bytes rest is =
    subst (λ (n : ℕ). octets_of n (bytes ++ rest) ≡ Some (record { value = bytes; left = rest })) is
    (rw (le-leb (length bytes) (length (bytes ++ rest)) (omega (arith, length-append bytes rest)), take-append_seam bytes rest, drop-append_seam bytes rest) refl)

count-back : (prefix : Prefix) → IsBounded prefix → ReadsBack (IsCount prefix) (count_of prefix)
count-back Rest bounded n bytes rest is = absurd bounded
count-back (Fixed fixed) bounded n bytes rest (fixed_is, none) =
    let whole : bytes ++ rest ≡ rest = ap (λ (l : List ℕ). l ++ rest) none in
    cc
count-back (Counted size) bounded n bytes rest is =
    ap (seen_as little_endian) (octets-back size bytes rest is.are.count) ∙ ap (λ (m : ℕ). Some (record { value = m; left = rest })) (sym is.is)

each-back : (Spelled : Value → List ℕ → Type 0) (read : List ℕ → Option (Front Value)) → ReadsBack Spelled read → (vs : List Value) (bytes rest : List ℕ) → EachSpells Spelled vs bytes
    → each_of read (length vs) (bytes ++ rest) ≡ Some (record { value = vs; left = rest })
each-back Spelled read back [] bytes rest is = ap (λ (l : List ℕ). Some (record { value = []; left = l ++ rest })) is
each-back Spelled read back (v ∷ vs) bytes rest is =
    let first = back v is.front (is.back ++ rest) is.before in
    let more = each-back Spelled read back vs is.back rest is.behind in
    rw (parts bytes is.front is.back rest is.whole, first, more) refl

text-back : (prefix : Prefix) → IsBounded prefix → (t bytes rest : List ℕ) → Spells (string prefix) (text t) bytes → value_of (string prefix) (bytes ++ rest) ≡ Some (record { value = text t; left = rest })
text-back prefix bounded t bytes rest is =
    let count = count-back prefix bounded (length t) is.front (is.back ++ rest) is.before in
    let octets = octets-back (length t) is.back rest (ap length is.behind) in
    rw (parts bytes is.front is.back rest is.whole, count, octets) (ap (λ (l : List ℕ). Some (record { value = text l; left = rest })) is.behind)

mutual
  part-back : (form : Form) → IsPart form → ReadsBack (Spells form) (value_of form)
  part-back (unsigned size) part (number n) bytes rest is =
      ap (seen_as (λ digits. number (little_endian digits))) (octets-back size bytes rest is.are.count) ∙ ap (λ (m : ℕ). Some (record { value = number m; left = rest })) (sym is.is)
  part-back (unsigned size) part _ bytes rest is = absurd is
  part-back (signed size) part (integer z) bytes rest is =
      ap (seen_as (λ digits. integer (twos_complement size (little_endian digits)))) (octets-back size bytes rest is.are.count)
      ∙ ap (λ y. Some (record { value = integer y; left = rest })) (sym is.is)
  part-back (signed size) part _ bytes rest is = absurd is
  part-back (string prefix) part (text t) bytes rest is = text-back prefix part t bytes rest is
  part-back (string prefix) part _ bytes rest is = absurd is
  part-back (array prefix element) part (elements vs) bytes rest is =
      let count = count-back prefix part.0 (length (list_of vs)) is.front (is.back ++ rest) is.before in
      let each = each-back (Spells element) (value_of element) (part-back element part.1) (list_of vs) is.back rest is.behind in
      rw (parts bytes is.front is.back rest is.whole, count, each) (ap (λ (l : Values). Some (record { value = elements l; left = rest })) (values_of-list_of vs))
  part-back (array prefix element) part _ bytes rest is = absurd is
  part-back (sequence fields) part (members vs) bytes rest is =
      ap (seen_as (λ values. members (values_of values))) (fields-back fields part.1 (list_of vs) bytes rest is)
      ∙ ap (λ (l : Values). Some (record { value = members l; left = rest })) (values_of-list_of vs)
  part-back (sequence fields) part _ bytes rest is = absurd is

  fields-back : (fields : Fields) → AreParts fields → ReadsBack (FieldsSpell fields) (fields_of fields)
  fields-back no_fields are [] bytes rest is = ap (λ (l : List ℕ). Some (record { value = []; left = l ++ rest })) is
  fields-back no_fields are (v ∷ vs) bytes rest is = absurd is
  fields-back (field name form more) are [] bytes rest is = absurd is
  fields-back (field name form more) are (v ∷ vs) bytes rest is =
      let first = part-back form are.0 v is.front (is.back ++ rest) is.before in
      let later = fields-back more are.1 vs is.back rest is.behind in
      rw (parts bytes is.front is.back rest is.whole, first, later) refl

-- where all of the bytes are read, nothing is left
alone-back : (form : Form) (v : Value) (bytes : List ℕ) → value_of form (bytes ++ []) ≡ Some (record { value = v; left = [] }) → reading form bytes ≡ Some v
alone-back form v bytes is = ap (λ (l : List ℕ). option_and_then alone (value_of form l)) (sym (append-nil bytes)) ∙ ap (option_and_then alone) is

rest-back : (bytes : List ℕ) → value_of (string Rest) (bytes ++ []) ≡ Some (record { value = text bytes; left = [] })
rest-back bytes = ap (seen_as text) (octets-back (length (bytes ++ [])) bytes [] (ap length (sym (append-nil bytes))))

pub read-back : (form : Form) (v : Value) (bytes : List ℕ) → IsWellMade form → Spells form v bytes → reading form bytes ≡ Some v
read-back form v bytes made is =
    alone-back form v bytes (
    elim made as (λ m. value_of form (bytes ++ []) ≡ Some (record { value = v; left = [] })) [
      | inl rest ↦
          let value = rest_is v bytes (subst (λ (f : Form). Spells f v bytes) rest is) in
          subst (λ (f : Form). value_of f (bytes ++ []) ≡ Some (record { value = v; left = [] })) (sym rest)
          (rest-back bytes ∙ ap (λ (w : Value). Some (record { value = w; left = [] })) (sym value))
      | inr part ↦ part-back form part v bytes [] is
    ]
    )

-- ---- what reads is spelled ----

bytes-cons : (x : ℕ) (a : List ℕ) → x < 256 → ((at : ℕ) → slice_index a at < 256) → (at : ℕ) → slice_index (x ∷ a) at < 256
bytes-cons x a first rest zero = first
bytes-cons x a first rest (suc at) = rest at

pub bytes-front : (a b : List ℕ) → AreBytes (a ++ b) → AreBytes a
bytes-front [] b are = λ at. omega arith
bytes-front (x ∷ a) b are = bytes-cons x a (are 0) (bytes-front a b (λ at. are (suc at)))

pub bytes-back : (a b : List ℕ) → AreBytes (a ++ b) → AreBytes b
bytes-back [] b are = are
bytes-back (x ∷ a) b are = bytes-back a b (λ at. are (suc at))

-- bytes of which this holds, and these left behind them
pub record Takes (Holds : List ℕ → Type 0) (bytes left : List ℕ) : Type 0 where
  pub taken : List ℕ
  pub whole : bytes ≡ taken ++ left
  pub holds : Holds taken

takes-weaker : (P Q : List ℕ → Type 0) (bytes left : List ℕ) → ((taken : List ℕ) → P taken → Q taken) → Takes P bytes left → Takes Q bytes left
takes-weaker P Q bytes left weaker takes = record { taken = takes.taken; whole = takes.whole; holds = weaker takes.taken takes.holds }

takes-none : (P : List ℕ → Type 0) (bytes : List ℕ) → P [] → Takes P bytes bytes
takes-none P bytes holds = record { taken = []; whole = refl; holds = holds }

takes-then : (First Second : List ℕ → Type 0) (bytes mid left : List ℕ) → Takes First bytes mid → Takes Second mid left → Takes (Follows First Second) bytes left
takes-then First Second bytes mid left a b =
    record {
      taken = a.taken ++ b.taken;
      whole = a.whole ∙ ap (λ (l : List ℕ). a.taken ++ l) b.whole ∙ sym (append_assoc a.taken b.taken left);
      holds = record { front = a.taken; back = b.taken; whole = refl; before = a.holds; behind = b.holds };
    }

takes-bytes : (P : List ℕ → Type 0) (bytes left : List ℕ) → AreBytes bytes → Takes P bytes left → AreBytes left
takes-bytes P bytes left are takes = bytes-back takes.taken left (subst AreBytes takes.whole are)

-- a value that is read is spelled by the bytes that are taken
abbrev pub ReadsTrue : {A : Type 0} → (A → List ℕ → Type 0) → (List ℕ → Option (Front A)) → Type 0
ReadsTrue {A} Spelled read = (bytes : List ℕ) (front : Front A) → AreBytes bytes → read bytes ≡ Some front → Takes (Spelled front.value) bytes front.left

seen-true : {A B : Type 0} (view : A → B) (Spelled : B → List ℕ → Type 0) (read : Option (Front A)) (bytes : List ℕ) (front : Front B)
    → ((inner : Front A) → read ≡ Some inner → Takes (Spelled (view inner.value)) bytes inner.left) → seen_as view read ≡ Some front → Takes (Spelled front.value) bytes front.left
seen-true view Spelled None bytes front takes is = absurd cc
seen-true {A} {B} view Spelled (Some inner) bytes front takes is =
    subst (λ (f : Front B). Takes (Spelled f.value) bytes f.left) (same_Some (record { value = view inner.value; left = inner.left }) front is) (takes inner refl)

-- so many bytes
abbrev IsOctets : ℕ → List ℕ → List ℕ → Type 0
IsOctets size octets taken = (taken ≡ octets) × AreSoMany size taken

octets-true : (size : ℕ) → ReadsTrue (IsOctets size) (octets_of size)
octets-true size bytes front are is =
    let taken : Front (List ℕ) = record { value = take size bytes; left = drop size bytes } in
    let both = cond_some (nat_le size (length bytes)) taken front is in
    let count = length-take-le size bytes (leb-true size (length bytes) both.0) in
    let whole : bytes ≡ take size bytes ++ drop size bytes = sym (take-append-drop size bytes) in
    let each : AreBytes (take size bytes) = bytes-front (take size bytes) (drop size bytes) (subst AreBytes whole are) in
    subst (λ (f : Front (List ℕ)). Takes (IsOctets size f.value) bytes f.left) both.1
    (record { taken = take size bytes; whole = whole; holds = (refl, record { count = count; each = each }) })

count-true : (prefix : Prefix) → ReadsTrue (IsCount prefix) (count_of prefix)
count-true Rest bytes front are is =
    subst (λ (f : Front ℕ). Takes (IsCount Rest f.value) bytes f.left) (same_Some (record { value = length bytes; left = bytes }) front is) (takes-none (IsCount Rest (length bytes)) bytes refl)
count-true (Fixed fixed) bytes front are is =
    subst (λ (f : Front ℕ). Takes (IsCount (Fixed fixed) f.value) bytes f.left) (same_Some (record { value = fixed; left = bytes }) front is) (takes-none (IsCount (Fixed fixed) fixed) bytes (refl, refl))
count-true (Counted size) bytes front are is =
    seen-true little_endian (IsCount (Counted size)) (octets_of size bytes) bytes front
    (λ inner of.
    takes-weaker (IsOctets size inner.value) (IsUnsigned size (little_endian inner.value)) bytes inner.left
    (λ taken holds. record { are = holds.1; is = ap little_endian (sym holds.0) })
    (octets-true size bytes inner are of))
    is

-- so many values, one after another
abbrev IsEach : (Value → List ℕ → Type 0) → ℕ → List Value → List ℕ → Type 0
IsEach Spelled count values taken = (length values ≡ count) × EachSpells Spelled values taken

each-true : (Spelled : Value → List ℕ → Type 0) (read : List ℕ → Option (Front Value)) → ReadsTrue Spelled read → (count : ℕ) → ReadsTrue (IsEach Spelled count) (each_of read count)
each-true Spelled read true_one zero bytes front are is =
    subst (λ (f : Front (List Value)). Takes (IsEach Spelled zero f.value) bytes f.left) (same_Some (record { value = []; left = bytes }) front is) (takes-none (IsEach Spelled zero []) bytes (refl, refl))
each-true Spelled read true_one (suc count) bytes front are is =
    option_and_then_some (λ first. seen_as (λ values. first.value ∷ values) (each_of read count first.left)) (read bytes) front is
    (λ first of_first of_more.
    let here = true_one bytes first are of_first in
    seen-true (λ values. first.value ∷ values) (IsEach Spelled (suc count)) (each_of read count first.left) bytes front
    (λ inner of.
    takes-weaker (Follows (Spelled first.value) (IsEach Spelled count inner.value)) (IsEach Spelled (suc count) (first.value ∷ inner.value)) bytes inner.left
    (λ taken holds. (ap suc holds.behind.0, record { front = holds.front; back = holds.back; whole = holds.whole; before = holds.before; behind = holds.behind.1 }))
    (takes-then (Spelled first.value) (IsEach Spelled count inner.value) bytes first.left inner.left here
    (each-true Spelled read true_one count first.left inner (takes-bytes (Spelled first.value) bytes first.left are here) of)))
    of_more)

text-true : (prefix : Prefix) → ReadsTrue (Spells (string prefix)) (value_of (string prefix))
text-true prefix bytes front are is =
    option_and_then_some (λ count. seen_as text (octets_of count.value count.left)) (count_of prefix bytes) front is
    (λ count of_count of_text.
    let here = count-true prefix bytes count are of_count in
    seen-true text (Spells (string prefix)) (octets_of count.value count.left) bytes front
    (λ inner of.
    takes-weaker (Follows (IsCount prefix count.value) (IsOctets count.value inner.value)) (Spells (string prefix) (text inner.value)) bytes inner.left
    (λ taken holds.
    let size : count.value ≡ length inner.value = sym holds.behind.1.count ∙ ap length holds.behind.0 in
    record { front = holds.front; back = holds.back; whole = holds.whole; before = subst (λ (n : ℕ). IsCount prefix n holds.front) size holds.before; behind = holds.behind.0 })
    (takes-then (IsCount prefix count.value) (IsOctets count.value inner.value) bytes count.left inner.left here
    (octets-true count.value count.left inner (takes-bytes (IsCount prefix count.value) bytes count.left are here) of)))
    of_text)

array-true : (prefix : Prefix) (element : Form) → ReadsTrue (Spells element) (value_of element) → ReadsTrue (Spells (array prefix element)) (value_of (array prefix element))
array-true prefix element true_one bytes front are is =
    option_and_then_some (λ count. seen_as (λ values. elements (values_of values)) (each_of (value_of element) count.value count.left)) (count_of prefix bytes) front is
    (λ count of_count of_each.
    let here = count-true prefix bytes count are of_count in
    seen-true (λ values. elements (values_of values)) (Spells (array prefix element)) (each_of (value_of element) count.value count.left) bytes front
    (λ inner of.
    takes-weaker (Follows (IsCount prefix count.value) (IsEach (Spells element) count.value inner.value)) (Spells (array prefix element) (elements (values_of inner.value))) bytes inner.left
    (λ taken holds.
    let all : list_of (values_of inner.value) ≡ inner.value = list_of-values_of inner.value in
    record {
      front = holds.front;
      back = holds.back;
      whole = holds.whole;
      before = subst (λ (n : ℕ). IsCount prefix n holds.front) (sym holds.behind.0 ∙ ap length (sym all)) holds.before;
      behind = subst (λ (vs : List Value). EachSpells (Spells element) vs holds.back) (sym all) holds.behind.1;
    })
    (takes-then (IsCount prefix count.value) (IsEach (Spells element) count.value inner.value) bytes count.left inner.left here
    (each-true (Spells element) (value_of element) true_one count.value count.left inner (takes-bytes (IsCount prefix count.value) bytes count.left are here) of)))
    of_each)

mutual
  value-true : (form : Form) → ReadsTrue (Spells form) (value_of form)
  value-true (unsigned size) bytes front are is =
      seen-true (λ digits. number (little_endian digits)) (Spells (unsigned size)) (octets_of size bytes) bytes front
      (λ inner of.
      takes-weaker (IsOctets size inner.value) (IsUnsigned size (little_endian inner.value)) bytes inner.left
      (λ taken holds. record { are = holds.1; is = ap little_endian (sym holds.0) })
      (octets-true size bytes inner are of))
      is
  value-true (signed size) bytes front are is =
      seen-true (λ digits. integer (twos_complement size (little_endian digits))) (Spells (signed size)) (octets_of size bytes) bytes front
      (λ inner of.
      takes-weaker (IsOctets size inner.value) (IsSigned size (twos_complement size (little_endian inner.value))) bytes inner.left
      (λ taken holds. record { are = holds.1; is = ap (λ (l : List ℕ). twos_complement size (little_endian l)) (sym holds.0) })
      (octets-true size bytes inner are of))
      is
  value-true (string prefix) bytes front are is = text-true prefix bytes front are is
  value-true (array prefix element) bytes front are is = array-true prefix element (value-true element) bytes front are is
  value-true (sequence fields) bytes front are is =
      seen-true (λ values. members (values_of values)) (Spells (sequence fields)) (fields_of fields bytes) bytes front
      (λ inner of.
      takes-weaker (FieldsSpell fields inner.value) (FieldsSpell fields (list_of (values_of inner.value))) bytes inner.left
      (λ taken holds. subst (λ (vs : List Value). FieldsSpell fields vs taken) (sym (list_of-values_of inner.value)) holds)
      (fields-true fields bytes inner are of))
      is

  fields-true : (fields : Fields) → ReadsTrue (FieldsSpell fields) (fields_of fields)
  fields-true no_fields bytes front are is =
      subst (λ (f : Front (List Value)). Takes (FieldsSpell no_fields f.value) bytes f.left) (same_Some (record { value = []; left = bytes }) front is) (takes-none (FieldsSpell no_fields []) bytes refl)
  fields-true (field name form more) bytes front are is =
      option_and_then_some (λ first. seen_as (λ values. first.value ∷ values) (fields_of more first.left)) (value_of form bytes) front is
      (λ first of_first of_more.
      let here = value-true form bytes first are of_first in
      seen-true (λ values. first.value ∷ values) (FieldsSpell (field name form more)) (fields_of more first.left) bytes front
      (λ inner of.
      takes-then (Spells form first.value) (FieldsSpell more inner.value) bytes first.left inner.left here
      (fields-true more first.left inner (takes-bytes (Spells form first.value) bytes first.left are here) of))
      of_more)

none_left : (left : List ℕ) → length left ≡ 0 → left ≡ []
none_left [] is = refl
none_left (byte ∷ left) is = absurd (omega arith)

pub read-true : (form : Form) (v : Value) (bytes : List ℕ) → AreBytes bytes → reading form bytes ≡ Some v → Spells form v bytes
read-true form v bytes are is =
    option_and_then_some alone (value_of form bytes) v is
    (λ front of of_alone.
    let both = cond_some (length front.left == 0) front.value v of_alone in
    let takes = value-true form bytes front are of in
    let whole : bytes ≡ takes.taken = takes.whole ∙ ap (λ (l : List ℕ). takes.taken ++ l) (none_left front.left (eqb-true (length front.left) 0 both.0)) ∙ append-nil takes.taken in
    subst (λ (w : Value). Spells form w bytes) both.1 (subst (λ (l : List ℕ). Spells form front.value l) (sym whole) takes.holds))

pub read_as_spelled : ReadAsSpelled
read_as_spelled form v bytes made are = (read-true form v bytes are, read-back form v bytes made)

none_if_never : (read : Option Value) → ((v : Value) → read ≡ Some v → ⊥) → read ≡ None
none_if_never None never = refl
none_if_never (Some v) never = absurd (never v refl)

-- bytes that spell nothing don't read
pub unread : (form : Form) (bytes : List ℕ) → AreBytes bytes → ((v : Value) → Spells form v bytes → ⊥) → reading form bytes ≡ None
unread form bytes are nothing = none_if_never (reading form bytes) (λ v is. nothing v (read-true form v bytes are is))
