-- Values that fit have spellings, and others don't.
use Rattle.std.proofs.Common.{◌≡◌, inl, inr, ℕ, Bool, true, false, List, [], ◌∷◌, ◌++◌, length, refl, sym, subst}
use Rattle.std.proofs.lemmas.Bool.{eqb-true, eq-eqb}
use Rattle.std.specs.Prelude.{IsTrue, ◌&&◌}
use Rattle.std.specs.List.{flat_map, list_all}
use Rattle.std.specs.Cmp.Derive.{both_true}
use Rattle.qmi_shapes.specs.declared.shape.Prefix.{Prefix}
use Rattle.qmi_shapes.specs.declared.shape.Prefix.TheVariants.{Rest, Fixed, Counted}
use Rattle.qmi_shapes.specs.Form.{Form, unsigned, signed, string, array, sequence, Fields, no_fields, field}
use Rattle.qmi_shapes.specs.WellMade.{IsPart, AreParts, IsWellMade}
use Rattle.qmi_values.specs.Value.{Value, number, integer, text, elements, members, list_of}
use Rattle.qmi_values.specs.Spelling.{Follows, IsCount, EachSpells, Spells, FieldsSpell}
use Rattle.qmi_values.proofs.Spellings.{one_spelling}
use Rattle.tlv_values.specs.Spelling.{count_fits, fits, fields_fit, count_bytes, spelling, fields_spelling}
use Rattle.tlv_values.specs.Laws.{AreSpelled, OnlyTheseSpell}
use Rattle.tlv_values.proofs.Numbers.{unsigned-spelled, unsigned-fits, signed-spelled, signed-fits}

both : (a b : Bool) → IsTrue (a && b) → IsTrue a × IsTrue b
both true b is = (refl, is)
both false b is = absurd cc

-- ---- values that fit ----

behind : (First Second : List ℕ → Type 0) (front back : List ℕ) → First front → Second back → Follows First Second (front ++ back)
behind First Second front back before after = record { front = front; back = back; whole = refl; before = before; behind = after }

count-spelled : (prefix : Prefix) (n : ℕ) → IsTrue (count_fits prefix n) → IsCount prefix n (count_bytes prefix n)
count-spelled Rest n fit = refl
count-spelled (Fixed fixed) n fit = (eqb-true n fixed fit, refl)
count-spelled (Counted size) n fit = unsigned-spelled size n fit

each-spelled : (Spelled : Value → List ℕ → Type 0) (fit : Value → Bool) (spell : Value → List ℕ) → ((v : Value) → IsTrue (fit v) → Spelled v (spell v))
    → (vs : List Value) → IsTrue (list_all fit vs) → EachSpells Spelled vs (flat_map spell vs)
each-spelled Spelled fit spell spelled [] fits_all = refl
each-spelled Spelled fit spell spelled (v ∷ vs) fits_all =
    let p = both (fit v) (list_all fit vs) fits_all in
    record { front = spell v; back = flat_map spell vs; whole = refl; before = spelled v p.0; behind = each-spelled Spelled fit spell spelled vs p.1 }

text-spelled : (prefix : Prefix) (t : List ℕ) → IsTrue (count_fits prefix (length t)) → Spells (string prefix) (text t) (spelling (string prefix) (text t))
text-spelled prefix t fit = behind (IsCount prefix (length t)) (λ back. back ≡ t) (count_bytes prefix (length t)) t (count-spelled prefix (length t) fit) refl

mutual
  part-spelled : (form : Form) → IsPart form → (v : Value) → IsTrue (fits form v) → Spells form v (spelling form v)
  part-spelled (unsigned size) is (number n) fit = unsigned-spelled size n fit
  part-spelled (unsigned size) is _ fit = absurd cc
  part-spelled (signed size) is (integer z) fit = signed-spelled size z is fit
  part-spelled (signed size) is _ fit = absurd cc
  part-spelled (string prefix) is (text t) fit = text-spelled prefix t fit
  part-spelled (string prefix) is _ fit = absurd cc
  part-spelled (array prefix element) is (elements vs) fit =
      let p = both (count_fits prefix (length (list_of vs))) (list_all (fits element) (list_of vs)) fit in
      behind (IsCount prefix (length (list_of vs))) (EachSpells (Spells element) (list_of vs)) (count_bytes prefix (length (list_of vs))) (flat_map (spelling element) (list_of vs))
      (count-spelled prefix (length (list_of vs)) p.0) (each-spelled (Spells element) (fits element) (spelling element) (part-spelled element is.1) (list_of vs) p.1)
  part-spelled (array prefix element) is _ fit = absurd cc
  part-spelled (sequence parts) is (members vs) fit = fields-spelled parts is.1 (list_of vs) fit
  part-spelled (sequence parts) is _ fit = absurd cc

  fields-spelled : (fields : Fields) → AreParts fields → (vs : List Value) → IsTrue (fields_fit fields vs) → FieldsSpell fields vs (fields_spelling fields vs)
  fields-spelled no_fields are [] fit = refl
  fields-spelled no_fields are (v ∷ vs) fit = absurd cc
  fields-spelled (field name form more) are [] fit = absurd cc
  fields-spelled (field name form more) are (v ∷ vs) fit =
      let p = both (fits form v) (fields_fit more vs) fit in
      behind (Spells form v) (FieldsSpell more vs) (spelling form v) (fields_spelling more vs) (part-spelled form are.0 v p.0) (fields-spelled more are.1 vs p.1)

string-spelled : (prefix : Prefix) (v : Value) → IsTrue (fits (string prefix) v) → Spells (string prefix) v (spelling (string prefix) v)
string-spelled prefix (text t) fit = text-spelled prefix t fit
string-spelled prefix _ fit = absurd cc

pub spelled : AreSpelled
spelled form value made fit =
    elim made as (λ m. Spells form value (spelling form value)) [
      | inl rest ↦
          subst (λ (f : Form). Spells f value (spelling f value)) (sym rest) (string-spelled Rest value (subst (λ (f : Form). IsTrue (fits f value)) rest fit))
      | inr part ↦ part-spelled form part value fit
    ]

-- ---- values that are spelled ----

count-fits : (prefix : Prefix) (n : ℕ) (bytes : List ℕ) → IsCount prefix n bytes → IsTrue (count_fits prefix n)
count-fits Rest n bytes is = refl
count-fits (Fixed fixed) n bytes is = eq-eqb n fixed is.0
count-fits (Counted size) n bytes is = unsigned-fits size n bytes is

each-fits : (Spelled : Value → List ℕ → Type 0) (fit : Value → Bool) → ((v : Value) (bytes : List ℕ) → Spelled v bytes → IsTrue (fit v)) → (vs : List Value) (bytes : List ℕ)
    → EachSpells Spelled vs bytes → IsTrue (list_all fit vs)
each-fits Spelled fit of_one [] bytes all = refl
each-fits Spelled fit of_one (v ∷ vs) bytes all = both_true (of_one v all.front all.before) (each-fits Spelled fit of_one vs all.back all.behind)

mutual
  part-fits : (form : Form) → IsPart form → (v : Value) (bytes : List ℕ) → Spells form v bytes → IsTrue (fits form v)
  part-fits (unsigned size) is (number n) bytes spells = unsigned-fits size n bytes spells
  part-fits (unsigned size) is _ bytes spells = absurd spells
  part-fits (signed size) is (integer z) bytes spells = signed-fits size z bytes is spells
  part-fits (signed size) is _ bytes spells = absurd spells
  part-fits (string prefix) is (text t) bytes spells = count-fits prefix (length t) spells.front spells.before
  part-fits (string prefix) is _ bytes spells = absurd spells
  part-fits (array prefix element) is (elements vs) bytes spells =
      both_true (count-fits prefix (length (list_of vs)) spells.front spells.before) (each-fits (Spells element) (fits element) (part-fits element is.1) (list_of vs) spells.back spells.behind)
  part-fits (array prefix element) is _ bytes spells = absurd spells
  part-fits (sequence parts) is (members vs) bytes spells = fields-fit parts is.1 (list_of vs) bytes spells
  part-fits (sequence parts) is _ bytes spells = absurd spells

  fields-fit : (fields : Fields) → AreParts fields → (vs : List Value) (bytes : List ℕ) → FieldsSpell fields vs bytes → IsTrue (fields_fit fields vs)
  fields-fit no_fields are [] bytes spell = refl
  fields-fit no_fields are (v ∷ vs) bytes spell = absurd spell
  fields-fit (field name form more) are [] bytes spell = absurd spell
  fields-fit (field name form more) are (v ∷ vs) bytes spell = both_true (part-fits form are.0 v spell.front spell.before) (fields-fit more are.1 vs spell.back spell.behind)

string-fits : (v : Value) (bytes : List ℕ) → Spells (string Rest) v bytes → IsTrue (fits (string Rest) v)
string-fits (text t) bytes spells = refl
string-fits _ bytes spells = absurd spells

fits-if_spelled : (form : Form) (value : Value) (bytes : List ℕ) → IsWellMade form → Spells form value bytes → IsTrue (fits form value)
fits-if_spelled form value bytes made spells =
    elim made as (λ m. IsTrue (fits form value)) [
      | inl rest ↦ subst (λ (f : Form). IsTrue (fits f value)) (sym rest) (string-fits value bytes (subst (λ (f : Form). Spells f value bytes) rest spells))
      | inr part ↦ part-fits form part value bytes spells
    ]

pub only_these : OnlyTheseSpell
only_these form value bytes made spells =
    let fit = fits-if_spelled form value bytes made spells in
    (fit, one_spelling form value bytes (spelling form value) made spells (spelled form value made fit))

pub spelling_is : (form : Form) (value : Value) (bytes : List ℕ) → IsWellMade form → Spells form value bytes → bytes ≡ spelling form value
spelling_is form value bytes made spells = (only_these form value bytes made spells).1
