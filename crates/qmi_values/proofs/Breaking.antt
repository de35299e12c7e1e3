-- Bytes that break off, or go on behind a spelling, spell nothing.
use Rattle.std.proofs.Common.{◌≡◌, ◌≢◌, ℕ, ◌+◌, ◌<◌, ◌≤◌, ◌⊎◌, inl, inr, List, [], ◌∷◌, ◌++◌, length, take, refl, sym, ◌∙◌, ap, subst, arith, length-append}
use Rattle.std.proofs.lemmas.List.{append-nil}
use Rattle.std.proofs.Math.Seq.{take-append_seam}
use Rattle.qmi_shapes.specs.declared.shape.Prefix.{Prefix}
use Rattle.qmi_shapes.specs.declared.shape.Prefix.TheVariants.{Rest, Fixed, Counted}
use Rattle.qmi_shapes.specs.Form.{Form, unsigned, signed, string, array, sequence, Fields, no_fields, field}
use Rattle.qmi_shapes.specs.WellMade.{IsBounded, IsPart, AreParts}
use Rattle.qmi_values.specs.Value.{Value, number, integer, text, elements, members, list_of}
use Rattle.qmi_values.specs.Numbers.{little_endian}
use Rattle.qmi_values.specs.Spelling.{Follows, IsCount, EachSpells, Spells, FieldsSpell}
use Rattle.qmi_values.specs.Breaking.{Field, fixed, room, IsText, IsListCount, ComesBehind, ComesInFields}
use Rattle.qmi_values.specs.Decoding.{SpellsNothing, Refuses}
use Rattle.qmi_values.specs.Laws.{BrokenSpellNothing, LongerSpellNothing, HasOneFault}
use Rattle.qmi_values.specs.declared.fault.ValFault.{ValFault}
use Rattle.qmi_values.specs.declared.fault.ValFault.TheVariants.{Short, Over, OutOfMemory}
use Rattle.qmi_values.proofs.Digits.{same_fronts}
use Rattle.qmi_values.proofs.Spellings.{EndsOnce, count_ends, ends, parts}

-- bytes that break off spell no value, whatever comes behind
abbrev pub StopsShort : (Value → List ℕ → Type 0) → (Field → List ℕ → Type 0) → Type 0
StopsShort Spelled Comes = (next : Field) (front left : List ℕ) (w : Value) (b s : List ℕ) → Comes next front → length left < room next left → Spelled w b → front ++ left ≡ b ++ s → ⊥

-- a number or a count isn't whole
pub number_stops : (size : ℕ) (next : Field) (front left b s : List ℕ) → next ≡ fixed size → front ≡ [] → length left < room next left → size ≤ length b → front ++ left ≡ b ++ s → ⊥
number_stops size next front left b s is none short enough same =
    let left_is : left ≡ b ++ s = ap (λ (l : List ℕ). l ++ left) (sym none) ∙ same in
    let less : length left < size = subst (λ (f : Field). length left < room f left) is short in
    omega (arith, ap length left_is, length-append b s)

text_stops : (prefix : Prefix) (t : List ℕ) (next : Field) (front left b s : List ℕ) → IsText prefix next → front ≡ [] → length left < room next left
    → Follows (IsCount prefix (length t)) (λ back. back ≡ t) b → front ++ left ≡ b ++ s → ⊥
text_stops Rest t next front left b s is none short in_b same = absurd is
text_stops (Fixed size) t next front left b s is none short in_b same =
    let whole = ap length in_b.whole in
    number_stops size next front left b s is none short (omega (arith, length-append in_b.front in_b.back, ap length in_b.behind, in_b.before.0)) same
text_stops (Counted size) t next front left b s is none short in_b same =
    let left_is : left ≡ in_b.front ++ (in_b.back ++ s) = ap (λ (l : List ℕ). l ++ left) (sym none) ∙ same ∙ parts b in_b.front in_b.back s in_b.whole in
    let less : length left < size + little_endian (take size left) = subst (λ (f : Field). length left < room f left) is short in
    let head : take size left ≡ in_b.front = ap (λ (l : List ℕ). take size l) left_is ∙ ap (λ (n : ℕ). take n (in_b.front ++ (in_b.back ++ s))) (sym in_b.before.are.count) ∙ take-append_seam in_b.front (in_b.back ++ s) in
    let count : little_endian (take size left) ≡ length t = ap little_endian head ∙ sym in_b.before.is in
    omega (arith, ap length left_is, length-append in_b.front (in_b.back ++ s), length-append in_b.back s, ap length in_b.behind, in_b.before.are.count)

count_stops : (prefix : Prefix) (n : ℕ) (next : Field) (front left a r : List ℕ) → IsListCount prefix next → front ≡ [] → length left < room next left → IsCount prefix n a → front ++ left ≡ a ++ r → ⊥
count_stops Rest n next front left a r is none short in_a same = absurd is
count_stops (Fixed size) n next front left a r is none short in_a same = absurd is
count_stops (Counted size) n next front left a r is none short in_a same = number_stops size next front left a r is none short (omega (arith, in_a.are.count)) same

each_stops : (Spelled : Value → List ℕ → Type 0) (Comes : Field → List ℕ → Type 0) → EndsOnce Spelled → StopsShort Spelled Comes → (vs ws : List Value) → length vs < length ws
    → (next : Field) (a front left b s : List ℕ) → EachSpells Spelled vs a → Comes next front → length left < room next left → EachSpells Spelled ws b → a ++ (front ++ left) ≡ b ++ s → ⊥
each_stops Spelled Comes once stops vs [] less next a front left b s in_a comes short in_b same = omega arith
each_stops Spelled Comes once stops [] (w ∷ ws) less next a front left b s in_a comes short in_b same =
    stops next front left w in_b.front (in_b.back ++ s) comes short in_b.before (ap (λ (l : List ℕ). l ++ (front ++ left)) (sym in_a) ∙ same ∙ parts b in_b.front in_b.back s in_b.whole)
each_stops Spelled Comes once stops (v ∷ vs) (w ∷ ws) less next a front left b s in_a comes short in_b same =
    let split : in_a.front ++ (in_a.back ++ (front ++ left)) ≡ in_b.front ++ (in_b.back ++ s) =
    sym (parts a in_a.front in_a.back (front ++ left) in_a.whole) ∙ same ∙ parts b in_b.front in_b.back s in_b.whole in
    let here = once v w in_a.front in_b.front (in_a.back ++ (front ++ left)) (in_b.back ++ s) in_a.before in_b.before split in
    let rest = same_fronts in_a.front in_b.front (in_a.back ++ (front ++ left)) (in_b.back ++ s) (ap length here.1) split in
    each_stops Spelled Comes once stops vs ws (omega arith) next in_a.back front left in_b.back s in_a.behind comes short in_b.behind rest.1

array_stops : (prefix : Prefix) (Spelled : Value → List ℕ → Type 0) (Comes : Field → List ℕ → Type 0) → IsBounded prefix → EndsOnce Spelled → StopsShort Spelled Comes → (ws : List Value)
    → (next : Field) (front left b s : List ℕ)
    → (IsListCount prefix next × (front ≡ [])) ⊎ ((count : ℕ) × (values : List Value) × (length values < count) × Follows (IsCount prefix count) (Follows (EachSpells Spelled values) (Comes next)) front)
    → length left < room next left → Follows (IsCount prefix (length ws)) (EachSpells Spelled ws) b → front ++ left ≡ b ++ s → ⊥
array_stops prefix Spelled Comes bounded once stops ws next front left b s (inl count) short in_b same =
    count_stops prefix (length ws) next front left in_b.front (in_b.back ++ s) count.0 count.1 short in_b.before (same ∙ parts b in_b.front in_b.back s in_b.whole)
array_stops prefix Spelled Comes bounded once stops ws next front left b s (inr (count, values, less, comes)) short in_b same =
    let split : comes.front ++ (comes.back ++ left) ≡ in_b.front ++ (in_b.back ++ s) =
    sym (parts front comes.front comes.back left comes.whole) ∙ same ∙ parts b in_b.front in_b.back s in_b.whole in
    let counts = count_ends prefix count (length ws) comes.front in_b.front (comes.back ++ left) (in_b.back ++ s) bounded comes.before in_b.before split in
    let inner = comes.behind in
    each_stops Spelled Comes once stops values ws (omega (arith, counts.0)) next inner.front inner.back left in_b.back s inner.before inner.behind short in_b.behind
    (sym (parts comes.back inner.front inner.back left inner.whole) ∙ counts.2)

mutual
  pub stops : (form : Form) → IsPart form → StopsShort (Spells form) (ComesBehind form)
  stops (unsigned size) is next front left (number n) b s comes short in_b same = number_stops size next front left b s comes.0 comes.1 short (omega (arith, in_b.are.count)) same
  stops (unsigned size) is next front left _ b s comes short in_b same = in_b
  stops (signed size) is next front left (integer z) b s comes short in_b same = number_stops size next front left b s comes.0 comes.1 short (omega (arith, in_b.are.count)) same
  stops (signed size) is next front left _ b s comes short in_b same = in_b
  stops (string prefix) is next front left (text t) b s comes short in_b same = text_stops prefix t next front left b s comes.0 comes.1 short in_b same
  stops (string prefix) is next front left _ b s comes short in_b same = in_b
  stops (array prefix element) is next front left (elements ws) b s comes short in_b same =
      array_stops prefix (Spells element) (ComesBehind element) is.0 (ends element is.1) (stops element is.1) (list_of ws) next front left b s comes short in_b same
  stops (array prefix element) is next front left _ b s comes short in_b same = in_b
  stops (sequence parts) is next front left (members ws) b s comes short in_b same = fields_stop parts is.1 (list_of ws) next front left b s comes short in_b same
  stops (sequence parts) is next front left _ b s comes short in_b same = in_b

  fields_stop : (fields : Fields) → AreParts fields → (ws : List Value) (next : Field) (front left b s : List ℕ) → ComesInFields fields next front → length left < room next left
      → FieldsSpell fields ws b → front ++ left ≡ b ++ s → ⊥
  fields_stop no_fields are ws next front left b s comes short in_b same = comes
  fields_stop (field name form more) are [] next front left b s comes short in_b same = in_b
  fields_stop (field name form more) are (w ∷ ws) next front left b s comes short in_b same =
      let split : front ++ left ≡ in_b.front ++ (in_b.back ++ s) = same ∙ parts b in_b.front in_b.back s in_b.whole in
      elim comes as (λ m. ⊥) [
        | inl here ↦ stops form are.0 next front left w in_b.front (in_b.back ++ s) here short in_b.before split
        | inr later ↦
            let inner = later.1 in
            let apart : inner.front ++ (inner.back ++ left) ≡ in_b.front ++ (in_b.back ++ s) = sym (parts front inner.front inner.back left inner.whole) ∙ split in
            let one = ends form are.0 later.0 w inner.front in_b.front (inner.back ++ left) (in_b.back ++ s) inner.before in_b.before apart in
            let rest = same_fronts inner.front in_b.front (inner.back ++ left) (in_b.back ++ s) (ap length one.1) apart in
            fields_stop more are.1 ws next inner.back left in_b.back s inner.behind short in_b.behind rest.1
      ]

-- ---- bytes break off in one place ----

-- bytes that break off do so behind one list of fields
abbrev pub StopsOnce : (Field → List ℕ → Type 0) → Type 0
StopsOnce Comes =
    (m n : Field) (a l b r : List ℕ) → Comes m a → length l < room m l → Comes n b → length r < room n r → a ++ l ≡ b ++ r → a ≡ b

each_place : (Spelled : Value → List ℕ → Type 0) (Comes : Field → List ℕ → Type 0) → EndsOnce Spelled → StopsShort Spelled Comes → StopsOnce Comes
    → (m n : Field) (vs ws : List Value) (a c l b d r : List ℕ) → EachSpells Spelled vs a → Comes m c → length l < room m l → EachSpells Spelled ws b → Comes n d → length r < room n r
    → a ++ (c ++ l) ≡ b ++ (d ++ r) → a ++ c ≡ b ++ d
each_place Spelled Comes once stops place m n [] [] a c l b d r in_a at_c short_l in_b at_d short_r same =
    let rest : c ++ l ≡ d ++ r = ap (λ (t : List ℕ). t ++ (c ++ l)) (sym in_a) ∙ same ∙ ap (λ (t : List ℕ). t ++ (d ++ r)) in_b in
    let one = place m n c l d r at_c short_l at_d short_r rest in
    ap (λ (t : List ℕ). t ++ c) in_a ∙ one ∙ ap (λ (t : List ℕ). t ++ d) (sym in_b)
each_place Spelled Comes once stops place m n [] (w ∷ ws) a c l b d r in_a at_c short_l in_b at_d short_r same =
    absurd (
    stops m c l w in_b.front (in_b.back ++ (d ++ r)) at_c short_l in_b.before
    (ap (λ (t : List ℕ). t ++ (c ++ l)) (sym in_a) ∙ same ∙ parts b in_b.front in_b.back (d ++ r) in_b.whole)
    )
each_place Spelled Comes once stops place m n (v ∷ vs) [] a c l b d r in_a at_c short_l in_b at_d short_r same =
    absurd (
    stops n d r v in_a.front (in_a.back ++ (c ++ l)) at_d short_r in_a.before
    (ap (λ (t : List ℕ). t ++ (d ++ r)) (sym in_b) ∙ sym same ∙ parts a in_a.front in_a.back (c ++ l) in_a.whole)
    )
each_place Spelled Comes once stops place m n (v ∷ vs) (w ∷ ws) a c l b d r in_a at_c short_l in_b at_d short_r same =
    let split : in_a.front ++ (in_a.back ++ (c ++ l)) ≡ in_b.front ++ (in_b.back ++ (d ++ r)) =
    sym (parts a in_a.front in_a.back (c ++ l) in_a.whole) ∙ same ∙ parts b in_b.front in_b.back (d ++ r) in_b.whole in
    let here = once v w in_a.front in_b.front (in_a.back ++ (c ++ l)) (in_b.back ++ (d ++ r)) in_a.before in_b.before split in
    let rest = same_fronts in_a.front in_b.front (in_a.back ++ (c ++ l)) (in_b.back ++ (d ++ r)) (ap length here.1) split in
    let behind = each_place Spelled Comes once stops place m n vs ws in_a.back c l in_b.back d r in_a.behind at_c short_l in_b.behind at_d short_r rest.1 in
    parts a in_a.front in_a.back c in_a.whole
    ∙ ap (λ (t : List ℕ). t ++ (in_a.back ++ c)) here.1
    ∙ ap (λ (t : List ℕ). in_b.front ++ t) behind
    ∙ sym (parts b in_b.front in_b.back d in_b.whole)

-- what comes behind the first fields of a list
abbrev InList : Prefix → (Value → List ℕ → Type 0) → (Field → List ℕ → Type 0) → Field → List ℕ → Type 0
InList prefix Spelled Comes next bytes =
    (IsListCount prefix next × (bytes ≡ []))
    ⊎ ((count : ℕ) × (values : List Value) × (length values < count) × Follows (IsCount prefix count) (Follows (EachSpells Spelled values) (Comes next)) bytes)

array_place : (prefix : Prefix) (Spelled : Value → List ℕ → Type 0) (Comes : Field → List ℕ → Type 0) → IsBounded prefix → EndsOnce Spelled → StopsShort Spelled Comes → StopsOnce Comes
    → (m n : Field) (a l b r : List ℕ) → InList prefix Spelled Comes m a → length l < room m l → InList prefix Spelled Comes n b → length r < room n r → a ++ l ≡ b ++ r → a ≡ b
array_place prefix Spelled Comes bounded once stops place m n a l b r (inl x) short_l (inl y) short_r same = x.1 ∙ sym y.1
array_place prefix Spelled Comes bounded once stops place m n a l b r (inl x) short_l (inr (count, values, less, y)) short_r same =
    absurd (count_stops prefix count m a l y.front (y.back ++ r) x.0 x.1 short_l y.before (same ∙ parts b y.front y.back r y.whole))
array_place prefix Spelled Comes bounded once stops place m n a l b r (inr (count, values, less, x)) short_l (inl y) short_r same =
    absurd (count_stops prefix count n b r x.front (x.back ++ l) y.0 y.1 short_r x.before (sym same ∙ parts a x.front x.back l x.whole))
array_place prefix Spelled Comes bounded once stops place m n a l b r (inr (i, vs, below_i, x)) short_l (inr (j, ws, below_j, y)) short_r same =
    let split : x.front ++ (x.back ++ l) ≡ y.front ++ (y.back ++ r) = sym (parts a x.front x.back l x.whole) ∙ same ∙ parts b y.front y.back r y.whole in
    let counts = count_ends prefix i j x.front y.front (x.back ++ l) (y.back ++ r) bounded x.before y.before split in
    let u = x.behind in
    let v = y.behind in
    let apart : u.front ++ (u.back ++ l) ≡ v.front ++ (v.back ++ r) = sym (parts x.back u.front u.back l u.whole) ∙ counts.2 ∙ parts y.back v.front v.back r v.whole in
    let behind = each_place Spelled Comes once stops place m n vs ws u.front u.back l v.front v.back r u.before u.behind short_l v.before v.behind short_r apart in
    x.whole
    ∙ ap (λ (t : List ℕ). t ++ x.back) counts.1
    ∙ ap (λ (t : List ℕ). y.front ++ t) (u.whole ∙ behind ∙ sym v.whole)
    ∙ sym y.whole

mutual
  place_once : (form : Form) → IsPart form → StopsOnce (ComesBehind form)
  place_once (unsigned size) is m n a l b r at_a short_l at_b short_r same = at_a.1 ∙ sym at_b.1
  place_once (signed size) is m n a l b r at_a short_l at_b short_r same = at_a.1 ∙ sym at_b.1
  place_once (string prefix) is m n a l b r at_a short_l at_b short_r same = at_a.1 ∙ sym at_b.1
  place_once (array prefix element) is m n a l b r at_a short_l at_b short_r same =
      array_place prefix (Spells element) (ComesBehind element) is.0 (ends element is.1) (stops element is.1) (place_once element is.1) m n a l b r at_a short_l at_b short_r same
  place_once (sequence parts) is m n a l b r at_a short_l at_b short_r same = fields_place parts is.1 m n a l b r at_a short_l at_b short_r same

  fields_place : (fields : Fields) → AreParts fields → StopsOnce (ComesInFields fields)
  fields_place no_fields are m n a l b r at_a short_l at_b short_r same = absurd at_a
  fields_place (field name form more) are m n a l b r (inl x) short_l (inl y) short_r same = place_once form are.0 m n a l b r x short_l y short_r same
  fields_place (field name form more) are m n a l b r (inl x) short_l (inr (w, y)) short_r same =
      absurd (stops form are.0 m a l w y.front (y.back ++ r) x short_l y.before (same ∙ parts b y.front y.back r y.whole))
  fields_place (field name form more) are m n a l b r (inr (v, x)) short_l (inl y) short_r same =
      absurd (stops form are.0 n b r v x.front (x.back ++ l) y short_r x.before (sym same ∙ parts a x.front x.back l x.whole))
  fields_place (field name form more) are m n a l b r (inr (v, x)) short_l (inr (w, y)) short_r same =
      let split : x.front ++ (x.back ++ l) ≡ y.front ++ (y.back ++ r) = sym (parts a x.front x.back l x.whole) ∙ same ∙ parts b y.front y.back r y.whole in
      let one = ends form are.0 v w x.front y.front (x.back ++ l) (y.back ++ r) x.before y.before split in
      let rest = same_fronts x.front y.front (x.back ++ l) (y.back ++ r) (ap length one.1) split in
      let behind = fields_place more are.1 m n x.back l y.back r x.behind short_l y.behind short_r rest.1 in
      x.whole ∙ ap (λ (t : List ℕ). t ++ x.back) one.1 ∙ ap (λ (t : List ℕ). y.front ++ t) behind ∙ sym y.whole

-- ---- the laws ----

pub broken : BrokenSpellNothing
broken form bytes place made breaks value in_b =
    elim made as (λ m. ⊥) [
      | inl rest ↦ (subst (λ (f : Form). ComesBehind f breaks.next breaks.front) rest breaks.comes).0
      | inr part ↦ stops form part breaks.next breaks.front breaks.left value bytes [] breaks.comes breaks.short in_b (sym breaks.whole ∙ sym (append-nil bytes))
    ]

pub longer : LongerSpellNothing
longer form bytes place is more value in_b =
    let one = ends form is more.value value more.front bytes more.left [] more.spelled in_b (sym more.whole ∙ sym (append-nil bytes)) in
    omega (arith, ap length one.1, ap length more.whole, length-append more.front more.left, more.some)

-- a text that is all the bytes refuses none
rest_spells : (bytes : List ℕ) → Spells (string Rest) (text bytes) bytes
rest_spells bytes = record { front = []; back = bytes; whole = refl; before = refl; behind = refl }

same_refusal : (form : Form) (bytes : List ℕ) → IsPart form → (a b : ValFault) → a ≢ OutOfMemory → b ≢ OutOfMemory → Refuses form bytes a → Refuses form bytes b → a ≡ b
same_refusal form bytes is (Short p) (Short q) told_a told_b (a, none_a) (b, none_b) =
    let front = place_once form is a.next b.next a.front a.left b.front b.left a.comes a.short b.comes b.short (sym a.whole ∙ b.whole) in
    let place : p ≡ q = a.before ∙ ap length front ∙ sym b.before in
    cc
same_refusal form bytes is (Short p) (Over q) told_a told_b (a, none_a) (b, none_b) =
    absurd (stops form is a.next a.front a.left b.value b.front b.left a.comes a.short b.spelled (sym a.whole ∙ b.whole))
same_refusal form bytes is (Over p) (Short q) told_a told_b (a, none_a) (b, none_b) =
    absurd (stops form is b.next b.front b.left a.value a.front a.left b.comes b.short a.spelled (sym b.whole ∙ a.whole))
same_refusal form bytes is (Over p) (Over q) told_a told_b (a, none_a) (b, none_b) =
    let one = ends form is a.value b.value a.front b.front a.left b.left a.spelled b.spelled (sym a.whole ∙ b.whole) in
    let place : p ≡ q = a.before ∙ ap length one.1 ∙ sym b.before in
    cc
same_refusal form bytes is (Short p) OutOfMemory told_a told_b a b = absurd (told_b refl)
same_refusal form bytes is (Over p) OutOfMemory told_a told_b a b = absurd (told_b refl)
same_refusal form bytes is OutOfMemory b told_a told_b refused_a refused_b = absurd (told_a refl)

none_spelled : (form : Form) (bytes : List ℕ) (fault : ValFault) → fault ≢ OutOfMemory → Refuses form bytes fault → SpellsNothing form bytes
none_spelled form bytes (Short p) told refused = refused.1
none_spelled form bytes (Over p) told refused = refused.1
none_spelled form bytes OutOfMemory told refused = absurd (told refl)

pub one_fault : HasOneFault
one_fault form bytes a b made told_a told_b refused_a refused_b =
    elim made as (λ m. a ≡ b) [
      | inl rest ↦
          let all : Spells form (text bytes) bytes = subst (λ (f : Form). Spells f (text bytes) bytes) (sym rest) (rest_spells bytes) in
          absurd (none_spelled form bytes a told_a refused_a (text bytes) all)
      | inr part ↦ same_refusal form bytes part a b told_a told_b refused_a refused_b
    ]
