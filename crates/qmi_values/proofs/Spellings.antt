-- A value has one spelling, and bytes spell one value.
use Rattle.std.proofs.Common.{◌≡◌, ℕ, inl, inr, List, [], ◌∷◌, ◌++◌, length, refl, sym, ◌∙◌, ap, subst, arith, append_assoc}
use Rattle.qmi_shapes.specs.declared.shape.Prefix.{Prefix}
use Rattle.qmi_shapes.specs.declared.shape.Prefix.TheVariants.{Rest, Fixed, Counted}
use Rattle.qmi_shapes.specs.Form.{Form, unsigned, signed, string, array, sequence, Fields, no_fields, field}
use Rattle.qmi_shapes.specs.WellMade.{IsBounded, IsPart, AreParts}
use Rattle.qmi_values.specs.Value.{Value, number, integer, text, elements, members, Values, no_values, first, list_of, values_of}
use Rattle.qmi_values.specs.Numbers.{little_endian, twos_complement}
use Rattle.qmi_values.specs.Spelling.{Follows, IsCount, EachSpells, Spells, FieldsSpell}
use Rattle.qmi_values.specs.Laws.{HasOneSpelling, SpellsOneValue}
use Rattle.qmi_values.proofs.Digits.{same_fronts, same_bytes, same_signed_bytes}

-- ---- values and lists of them ----

pub values_of-list_of : (values : Values) → values_of (list_of values) ≡ values
values_of-list_of no_values = refl
values_of-list_of (first value more) = ap (first value) (values_of-list_of more)

pub list_of-values_of : (values : List Value) → list_of (values_of values) ≡ values
list_of-values_of [] = refl
list_of-values_of (value ∷ more) = ap (λ (l : List Value). value ∷ l) (list_of-values_of more)

same_values : (a b : Values) → list_of a ≡ list_of b → a ≡ b
same_values a b same = sym (values_of-list_of a) ∙ ap values_of same ∙ values_of-list_of b

-- ---- what follows what ----

-- it is known where a spelling ends, and which value it spells
abbrev pub EndsOnce : (Value → List ℕ → Type 0) → Type 0
EndsOnce Spelled = (v w : Value) (a b r s : List ℕ) → Spelled v a → Spelled w b → a ++ r ≡ b ++ s → (v ≡ w) × (a ≡ b)

-- the bytes of two parts, with more behind them
pub parts : (bytes front back rest : List ℕ) → bytes ≡ front ++ back → bytes ++ rest ≡ front ++ (back ++ rest)
parts bytes front back rest whole = ap (λ (l : List ℕ). l ++ rest) whole ∙ append_assoc front back rest

-- ---- counts ----

pub count_ends : (prefix : Prefix) (m n : ℕ) (a b r s : List ℕ) → IsBounded prefix → IsCount prefix m a → IsCount prefix n b → a ++ r ≡ b ++ s → (m ≡ n) × (a ≡ b) × (r ≡ s)
count_ends Rest m n a b r s bounded in_a in_b same = absurd bounded
count_ends (Fixed fixed) m n a b r s bounded (of_a, none_a) (of_b, none_b) same =
    (of_a ∙ sym of_b, none_a ∙ sym none_b, ap (λ (l : List ℕ). l ++ r) (sym none_a) ∙ same ∙ ap (λ (l : List ℕ). l ++ s) none_b)
count_ends (Counted size) m n a b r s bounded in_a in_b same =
    let fronts = same_fronts a b r s (in_a.are.count ∙ sym in_b.are.count) same in
    let front : a ≡ b = fronts.0 in
    let rest : r ≡ s = fronts.1 in
    (in_a.is ∙ ap little_endian front ∙ sym in_b.is, front, rest)

count_once : (prefix : Prefix) (n : ℕ) (a b : List ℕ) → IsCount prefix n a → IsCount prefix n b → a ≡ b
count_once Rest n a b in_a in_b = in_a ∙ sym in_b
count_once (Fixed fixed) n a b (of_a, none_a) (of_b, none_b) = none_a ∙ sym none_b
count_once (Counted size) n a b in_a in_b = same_bytes size n a b in_a in_b

-- ---- bytes spell one value ----

text_ends : (prefix : Prefix) (t u a b r s : List ℕ) → IsBounded prefix → Follows (IsCount prefix (length t)) (λ back. back ≡ t) a → Follows (IsCount prefix (length u)) (λ back. back ≡ u) b
    → a ++ r ≡ b ++ s → (t ≡ u) × (a ≡ b)
text_ends prefix t u a b r s bounded in_a in_b same =
    let split : in_a.front ++ (in_a.back ++ r) ≡ in_b.front ++ (in_b.back ++ s) =
    sym (parts a in_a.front in_a.back r in_a.whole) ∙ same ∙ parts b in_b.front in_b.back s in_b.whole in
    let counts = count_ends prefix (length t) (length u) in_a.front in_b.front (in_a.back ++ r) (in_b.back ++ s) bounded in_a.before in_b.before split in
    let fronts : in_a.front ≡ in_b.front = counts.1 in
    let size : length in_a.back ≡ length in_b.back = ap length in_a.behind ∙ counts.0 ∙ ap length (sym in_b.behind) in
    let backs = same_fronts in_a.back in_b.back r s size counts.2 in
    let back : in_a.back ≡ in_b.back = backs.0 in
    (sym in_a.behind ∙ back ∙ in_b.behind, in_a.whole ∙ ap (λ (l : List ℕ). l ++ in_a.back) fronts ∙ ap (λ (l : List ℕ). in_b.front ++ l) back ∙ sym in_b.whole)

pub each_ends : (Spelled : Value → List ℕ → Type 0) → EndsOnce Spelled → (vs ws : List Value) (a b r s : List ℕ) → length vs ≡ length ws
    → EachSpells Spelled vs a → EachSpells Spelled ws b → a ++ r ≡ b ++ s → (vs ≡ ws) × (a ≡ b)
each_ends Spelled once [] [] a b r s size in_a in_b same = (refl, in_a ∙ sym in_b)
each_ends Spelled once [] (w ∷ ws) a b r s size in_a in_b same = absurd (omega arith)
each_ends Spelled once (v ∷ vs) [] a b r s size in_a in_b same = absurd (omega arith)
each_ends Spelled once (v ∷ vs) (w ∷ ws) a b r s size in_a in_b same =
    let split : in_a.front ++ (in_a.back ++ r) ≡ in_b.front ++ (in_b.back ++ s) =
    sym (parts a in_a.front in_a.back r in_a.whole) ∙ same ∙ parts b in_b.front in_b.back s in_b.whole in
    let here = once v w in_a.front in_b.front (in_a.back ++ r) (in_b.back ++ s) in_a.before in_b.before split in
    let front : in_a.front ≡ in_b.front = here.1 in
    let left = same_fronts in_a.front in_b.front (in_a.back ++ r) (in_b.back ++ s) (ap length front) split in
    let rest = each_ends Spelled once vs ws in_a.back in_b.back r s (omega arith) in_a.behind in_b.behind left.1 in
    let head : v ≡ w = here.0 in
    let tail : vs ≡ ws = rest.0 in
    (cc, in_a.whole ∙ ap (λ (l : List ℕ). l ++ in_a.back) front ∙ ap (λ (l : List ℕ). in_b.front ++ l) rest.1 ∙ sym in_b.whole)

array_ends : (prefix : Prefix) (Spelled : Value → List ℕ → Type 0) → EndsOnce Spelled → (vs ws : List Value) (a b r s : List ℕ) → IsBounded prefix
    → Follows (IsCount prefix (length vs)) (EachSpells Spelled vs) a → Follows (IsCount prefix (length ws)) (EachSpells Spelled ws) b → a ++ r ≡ b ++ s → (vs ≡ ws) × (a ≡ b)
array_ends prefix Spelled once vs ws a b r s bounded in_a in_b same =
    let split : in_a.front ++ (in_a.back ++ r) ≡ in_b.front ++ (in_b.back ++ s) =
    sym (parts a in_a.front in_a.back r in_a.whole) ∙ same ∙ parts b in_b.front in_b.back s in_b.whole in
    let counts = count_ends prefix (length vs) (length ws) in_a.front in_b.front (in_a.back ++ r) (in_b.back ++ s) bounded in_a.before in_b.before split in
    let front : in_a.front ≡ in_b.front = counts.1 in
    let each = each_ends Spelled once vs ws in_a.back in_b.back r s counts.0 in_a.behind in_b.behind counts.2 in
    (each.0, in_a.whole ∙ ap (λ (l : List ℕ). l ++ in_a.back) front ∙ ap (λ (l : List ℕ). in_b.front ++ l) each.1 ∙ sym in_b.whole)

mutual
  pub ends : (form : Form) → IsPart form → EndsOnce (Spells form)
  ends (unsigned size) is (number m) (number n) a b r s in_a in_b same =
      let fronts = same_fronts a b r s (in_a.are.count ∙ sym in_b.are.count) same in
      let front : a ≡ b = fronts.0 in
      (ap number (in_a.is ∙ ap little_endian front ∙ sym in_b.is), front)
  ends (unsigned size) is (number m) _ a b r s in_a in_b same = absurd in_b
  ends (unsigned size) is _ w a b r s in_a in_b same = absurd in_a
  ends (signed size) is (integer y) (integer z) a b r s in_a in_b same =
      let fronts = same_fronts a b r s (in_a.are.count ∙ sym in_b.are.count) same in
      let front : a ≡ b = fronts.0 in
      (ap integer (in_a.is ∙ ap (λ (l : List ℕ). twos_complement size (little_endian l)) front ∙ sym in_b.is), front)
  ends (signed size) is (integer y) _ a b r s in_a in_b same = absurd in_b
  ends (signed size) is _ w a b r s in_a in_b same = absurd in_a
  ends (string prefix) is (text t) (text u) a b r s in_a in_b same =
      let one = text_ends prefix t u a b r s is in_a in_b same in
      (ap text one.0, one.1)
  ends (string prefix) is (text t) _ a b r s in_a in_b same = absurd in_b
  ends (string prefix) is _ w a b r s in_a in_b same = absurd in_a
  ends (array prefix element) is (elements vs) (elements ws) a b r s in_a in_b same =
      let one = array_ends prefix (Spells element) (ends element is.1) (list_of vs) (list_of ws) a b r s is.0 in_a in_b same in
      (ap elements (same_values vs ws one.0), one.1)
  ends (array prefix element) is (elements vs) _ a b r s in_a in_b same = absurd in_b
  ends (array prefix element) is _ w a b r s in_a in_b same = absurd in_a
  ends (sequence parts) is (members vs) (members ws) a b r s in_a in_b same =
      let one = fields_end parts is.1 (list_of vs) (list_of ws) a b r s in_a in_b same in
      (ap members (same_values vs ws one.0), one.1)
  ends (sequence parts) is (members vs) _ a b r s in_a in_b same = absurd in_b
  ends (sequence parts) is _ w a b r s in_a in_b same = absurd in_a

  pub fields_end : (fields : Fields) → AreParts fields → (vs ws : List Value) (a b r s : List ℕ) → FieldsSpell fields vs a → FieldsSpell fields ws b → a ++ r ≡ b ++ s → (vs ≡ ws) × (a ≡ b)
  fields_end no_fields are [] [] a b r s in_a in_b same = (refl, in_a ∙ sym in_b)
  fields_end no_fields are [] (w ∷ ws) a b r s in_a in_b same = absurd in_b
  fields_end no_fields are (v ∷ vs) ws a b r s in_a in_b same = absurd in_a
  fields_end (field name form more) are [] ws a b r s in_a in_b same = absurd in_a
  fields_end (field name form more) are (v ∷ vs) [] a b r s in_a in_b same = absurd in_b
  fields_end (field name form more) are (v ∷ vs) (w ∷ ws) a b r s in_a in_b same =
      let split : in_a.front ++ (in_a.back ++ r) ≡ in_b.front ++ (in_b.back ++ s) =
      sym (parts a in_a.front in_a.back r in_a.whole) ∙ same ∙ parts b in_b.front in_b.back s in_b.whole in
      let here = ends form are.0 v w in_a.front in_b.front (in_a.back ++ r) (in_b.back ++ s) in_a.before in_b.before split in
      let front : in_a.front ≡ in_b.front = here.1 in
      let left = same_fronts in_a.front in_b.front (in_a.back ++ r) (in_b.back ++ s) (ap length front) split in
      let rest = fields_end more are.1 vs ws in_a.back in_b.back r s in_a.behind in_b.behind left.1 in
      let head : v ≡ w = here.0 in
      let tail : vs ≡ ws = rest.0 in
      (cc, in_a.whole ∙ ap (λ (l : List ℕ). l ++ in_a.back) front ∙ ap (λ (l : List ℕ). in_b.front ++ l) rest.1 ∙ sym in_b.whole)

-- ---- a value has one spelling ----

-- a value of these has one spelling
abbrev pub IsOnce : (Value → List ℕ → Type 0) → Type 0
IsOnce Spelled = (v : Value) (a b : List ℕ) → Spelled v a → Spelled v b → a ≡ b

text_once : (prefix : Prefix) (t a b : List ℕ) → Follows (IsCount prefix (length t)) (λ back. back ≡ t) a → Follows (IsCount prefix (length t)) (λ back. back ≡ t) b → a ≡ b
text_once prefix t a b in_a in_b =
    let front : in_a.front ≡ in_b.front = count_once prefix (length t) in_a.front in_b.front in_a.before in_b.before in
    let back : in_a.back ≡ in_b.back = in_a.behind ∙ sym in_b.behind in
    in_a.whole ∙ ap (λ (l : List ℕ). l ++ in_a.back) front ∙ ap (λ (l : List ℕ). in_b.front ++ l) back ∙ sym in_b.whole

each_once : (Spelled : Value → List ℕ → Type 0) → IsOnce Spelled → (vs : List Value) (a b : List ℕ) → EachSpells Spelled vs a → EachSpells Spelled vs b → a ≡ b
each_once Spelled once [] a b in_a in_b = in_a ∙ sym in_b
each_once Spelled once (v ∷ vs) a b in_a in_b =
    let front : in_a.front ≡ in_b.front = once v in_a.front in_b.front in_a.before in_b.before in
    let back : in_a.back ≡ in_b.back = each_once Spelled once vs in_a.back in_b.back in_a.behind in_b.behind in
    in_a.whole ∙ ap (λ (l : List ℕ). l ++ in_a.back) front ∙ ap (λ (l : List ℕ). in_b.front ++ l) back ∙ sym in_b.whole

array_once : (prefix : Prefix) (Spelled : Value → List ℕ → Type 0) → IsOnce Spelled → (vs : List Value) (a b : List ℕ)
    → Follows (IsCount prefix (length vs)) (EachSpells Spelled vs) a → Follows (IsCount prefix (length vs)) (EachSpells Spelled vs) b → a ≡ b
array_once prefix Spelled once vs a b in_a in_b =
    let front : in_a.front ≡ in_b.front = count_once prefix (length vs) in_a.front in_b.front in_a.before in_b.before in
    let back : in_a.back ≡ in_b.back = each_once Spelled once vs in_a.back in_b.back in_a.behind in_b.behind in
    in_a.whole ∙ ap (λ (l : List ℕ). l ++ in_a.back) front ∙ ap (λ (l : List ℕ). in_b.front ++ l) back ∙ sym in_b.whole

mutual
  once : (form : Form) → IsPart form → IsOnce (Spells form)
  once (unsigned size) is (number n) a b in_a in_b = same_bytes size n a b in_a in_b
  once (unsigned size) is _ a b in_a in_b = absurd in_a
  once (signed size) is (integer z) a b in_a in_b = same_signed_bytes size z a b is in_a in_b
  once (signed size) is _ a b in_a in_b = absurd in_a
  once (string prefix) is (text t) a b in_a in_b = text_once prefix t a b in_a in_b
  once (string prefix) is _ a b in_a in_b = absurd in_a
  once (array prefix element) is (elements vs) a b in_a in_b = array_once prefix (Spells element) (once element is.1) (list_of vs) a b in_a in_b
  once (array prefix element) is _ a b in_a in_b = absurd in_a
  once (sequence parts) is (members vs) a b in_a in_b = fields_once parts is.1 (list_of vs) a b in_a in_b
  once (sequence parts) is _ a b in_a in_b = absurd in_a

  fields_once : (fields : Fields) → AreParts fields → (vs : List Value) (a b : List ℕ) → FieldsSpell fields vs a → FieldsSpell fields vs b → a ≡ b
  fields_once no_fields are [] a b in_a in_b = in_a ∙ sym in_b
  fields_once no_fields are (v ∷ vs) a b in_a in_b = absurd in_a
  fields_once (field name form more) are [] a b in_a in_b = absurd in_a
  fields_once (field name form more) are (v ∷ vs) a b in_a in_b =
      let front : in_a.front ≡ in_b.front = once form are.0 v in_a.front in_b.front in_a.before in_b.before in
      let back : in_a.back ≡ in_b.back = fields_once more are.1 vs in_a.back in_b.back in_a.behind in_b.behind in
      in_a.whole ∙ ap (λ (l : List ℕ). l ++ in_a.back) front ∙ ap (λ (l : List ℕ). in_b.front ++ l) back ∙ sym in_b.whole

-- ---- the laws ----

-- the bytes of a text that is all of them
pub rest_is : (v : Value) (a : List ℕ) → Spells (string Rest) v a → v ≡ text a
rest_is (text t) a in_a = ap text (sym in_a.behind ∙ ap (λ (l : List ℕ). l ++ in_a.back) (sym in_a.before) ∙ sym in_a.whole)
rest_is _ a in_a = absurd in_a

pub one_spelling : HasOneSpelling
one_spelling form value a b made in_a in_b =
    elim made as (λ m. a ≡ b) [
      | inl rest ↦
          let of_a = rest_is value a (subst (λ (f : Form). Spells f value a) rest in_a) in
          let of_b = rest_is value b (subst (λ (f : Form). Spells f value b) rest in_b) in
          cc
      | inr part ↦ once form part value a b in_a in_b
    ]

pub one_value : SpellsOneValue
one_value form v w bytes made in_v in_w =
    elim made as (λ m. v ≡ w) [
      | inl rest ↦
          let of_v = rest_is v bytes (subst (λ (f : Form). Spells f v bytes) rest in_v) in
          let of_w = rest_is w bytes (subst (λ (f : Form). Spells f w bytes) rest in_w) in
          cc
      | inr part ↦ (ends form part v w bytes bytes [] [] in_v in_w refl).0
    ]
