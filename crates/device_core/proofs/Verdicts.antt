-- Whether an answer reads, and whether it is a success, are what is read of it.
use Rattle.std.proofs.Common.{◌≡◌, ℕ, zero, suc, ◌<◌, inl, inr, Bool, true, false, not, ◌==◌, ◌&&◌, ◌||◌, if◌then◌else◌, nat_lt, List, [], ◌∷◌, ◌++◌, length, take, Option, Some, None, Ok, Err, refl, sym, ◌∙◌, ap, subst, arith, append_assoc}
use Rattle.std.proofs.Math.Seq.{take-append_seam}
use Rattle.std.proofs.lemmas.Bool.{false_from_ne_true}
use Rattle.std.proofs.lemmas.Bool.Decides.{nat_tests}
use Rattle.std.proofs.lemmas.List.{append-nil}
use Rattle.std.specs.List.{slice_index}
use Rattle.std.specs.Prelude.{option_and_then}
use Rattle.qmux_frame.specs.Head.{is_framed, tlvs_in}
use Rattle.tlv_codec.specs.declared.outcome.Outcome.{Outcome}
use Rattle.tlv_codec.specs.Tlv.{tlv_value}
use Rattle.tlv_codec.specs.Outcome.{outcome_in, is_success}
use Rattle.qmi_shapes.specs.declared.shape.Prefix.{Prefix}
use Rattle.qmi_shapes.specs.declared.shape.Prefix.TheVariants.{Rest, Fixed, Counted}
use Rattle.qmi_shapes.specs.Form.{Form, unsigned, signed, string, array, sequence, Fields, no_fields, field}
use Rattle.qmi_shapes.specs.WellMade.{IsBounded, IsPart, AreParts, IsWellMade}
use Rattle.qmi_values.specs.Value.{Value, number, integer, text, elements, members, list_of, values_of}
use Rattle.qmi_values.specs.Numbers.{little_endian, twos_complement, AreBytes}
use Rattle.qmi_values.specs.Spelling.{Follows, IsCount, EachSpells, Spells, FieldsSpell}
use Rattle.qmi_values.proofs.Spellings.{parts, list_of-values_of}
use Rattle.qmi_requests.specs.declared.QmiRequest.{QmiRequest}
use Rattle.qmi_services.specs.Table.{Output}
use Rattle.qmi_services.specs.Requests.{row_of}
use Rattle.qmi_services.specs.declared.answers.QmiAnswer.TheVariants.{Success, Failure}
use Rattle.qmi_services.proofs.Lines.{outputs-well_made}
use Rattle.qmi_services.specs.Answers as answer
use Rattle.qmi_services.specs.Answers.{IsSuccess, FieldValue, Says, AllSay, IsUnread, AnyUnread, AreWellMade}
use Rattle.link_session.specs.declared.fault.SessionFault.TheVariants as fault
use Rattle.link_session.specs.Marks.{Placed}
use Rattle.device_core.specs.Verdict.{behind_octets, behind_number, behind_each, behind_prefixed, behind_value, behind_fields, is_none_left, is_spelling, is_read, are_read, reads_with, reads, succeeds, VerdictsAreOfWhatIsRead}
use Rattle.device_core.proofs.Sending.{not_zero, is_then}

-- ---- what bytes begin with ----

-- bytes begin with some like this, and these are behind them
record Begins (Is : List ℕ → Type 0) (bytes rest : List ℕ) : Type 0 where
  pub front : List ℕ
  pub whole : bytes ≡ front ++ rest
  pub is : Is front

-- what is behind bytes like this is found
record Finds (Is : List ℕ → Type 0) (find : List ℕ → Option (List ℕ)) : Type 0 where
  pub there : (bytes rest : List ℕ) → find bytes ≡ Some rest → Begins Is bytes rest
  pub found : (front rest : List ℕ) → Is front → find (front ++ rest) ≡ Some rest

Finds-as : {Is Same : List ℕ → Type 0} {find : List ℕ → Option (List ℕ)} → ((front : List ℕ) → Is front → Same front) → ((front : List ℕ) → Same front → Is front) → Finds Is find → Finds Same find
Finds-as {find = find} to fro finds = record {
  there = λ bytes rest is. let it = finds.there bytes rest is in record { front = it.front; whole = it.whole; is = to it.front it.is };
  found = λ front rest is. finds.found front rest (fro front is);
}

none_there : (bytes rest : List ℕ) → Some bytes ≡ Some rest → Begins (λ front. front ≡ []) bytes rest
none_there bytes rest is = let same : bytes ≡ rest = cc in record { front = []; whole = same; is = refl }

Finds-none : Finds (λ front. front ≡ []) (λ bytes. Some bytes)
Finds-none = record { there = none_there; found = λ front rest none. ap (λ (l : List ℕ). Some (l ++ rest)) none }

-- one thing behind another
both_are : (bytes front mid back rest : List ℕ) → bytes ≡ front ++ mid → mid ≡ back ++ rest → bytes ≡ (front ++ back) ++ rest
both_are bytes front mid back rest first second = first ∙ ap (λ (l : List ℕ). front ++ l) second ∙ sym (append_assoc front back rest)

module _ {First Second : List ℕ → Type 0} {first second : List ℕ → Option (List ℕ)} (finds_first : Finds First first) (finds_second : Finds Second second) where
  behind_both : (bytes rest : List ℕ) (mid : Option (List ℕ)) → first bytes ≡ mid → option_and_then second mid ≡ Some rest → Begins (Follows First Second) bytes rest
  behind_both bytes rest None is both = let none : None ≡ Some rest = both in absurd (cc)
  behind_both bytes rest (Some mid) is both =
      let a = finds_first.there bytes mid is in
      let b = finds_second.there mid rest both in
      record {
        front = a.front ++ b.front;
        whole = both_are bytes a.front mid b.front rest a.whole b.whole;
        is = record { front = a.front; back = b.front; whole = refl; before = a.is; behind = b.is };
      }

  Finds-follows : Finds (Follows First Second) (λ bytes. option_and_then second (first bytes))
  Finds-follows = record {
    there = λ bytes rest is. behind_both bytes rest (first bytes) refl is;
    found = λ front rest is.
        ap (option_and_then second) (ap first (parts front is.front is.back rest is.whole) ∙ finds_first.found is.front (is.back ++ rest) is.before)
        ∙ finds_second.found is.back rest is.behind;
  }

-- ---- bytes and numbers ----

octets_there : (count : ℕ) (bytes rest : List ℕ) → behind_octets count bytes ≡ Some rest → Begins (λ front. length front ≡ count) bytes rest
octets_there zero bytes rest is = let it = none_there bytes rest is in record { front = it.front; whole = it.whole; is = ap length it.is }
octets_there (suc count) [] rest is = let none : None ≡ Some rest = is in absurd (cc)
octets_there (suc count) (byte ∷ bytes) rest is =
    let it = octets_there count bytes rest is in
    record { front = byte ∷ it.front; whole = ap (λ (l : List ℕ). byte ∷ l) it.whole; is = ap suc it.is }

octets_found : (front rest : List ℕ) → behind_octets (length front) (front ++ rest) ≡ Some rest
octets_found [] rest = refl
octets_found (byte ∷ front) rest = octets_found front rest

Finds-octets : (count : ℕ) → Finds (λ front. length front ≡ count) (behind_octets count)
Finds-octets count = record { there = octets_there count; found = λ front rest is. subst (λ (n : ℕ). behind_octets n (front ++ rest) ≡ Some rest) is (octets_found front rest) }

is_small : (byte : ℕ) → nat_lt byte 256 ≡ true → byte < 256
is_small byte is = grind (arith, nat_tests, is)

small_is : (byte : ℕ) → byte < 256 → nat_lt byte 256 ≡ true
small_is byte small = grind (arith, nat_tests, small)

each_small : (byte : ℕ) (bytes : List ℕ) → byte < 256 → ((at : ℕ) → slice_index bytes at < 256) → (at : ℕ) → slice_index (byte ∷ bytes) at < 256
each_small byte bytes small each zero = small
each_small byte bytes small each (suc at) = each at

byte_there : (size byte : ℕ) (bytes rest : List ℕ) → (behind_number size bytes ≡ Some rest → Begins (AreBytes size) bytes rest) → (small : Bool) → nat_lt byte 256 ≡ small
    → (if small then behind_number size bytes else None) ≡ Some rest → Begins (AreBytes (suc size)) (byte ∷ bytes) rest
byte_there size byte bytes rest next true small is =
    let it = next is in
    record {
      front = byte ∷ it.front;
      whole = ap (λ (l : List ℕ). byte ∷ l) it.whole;
      is = record { count = ap suc it.is.count; each = each_small byte it.front (is_small byte small) it.is.each };
    }
byte_there size byte bytes rest next false small is = let none : None ≡ Some rest = is in absurd (cc)

no_bytes : (front : List ℕ) → front ≡ [] → AreBytes zero front
no_bytes front none = subst (AreBytes zero) (sym none) (record { count = refl; each = λ at. omega arith })

number_there : (size : ℕ) (bytes rest : List ℕ) → behind_number size bytes ≡ Some rest → Begins (AreBytes size) bytes rest
number_there zero bytes rest is = let it = none_there bytes rest is in record { front = it.front; whole = it.whole; is = no_bytes it.front it.is }
number_there (suc size) [] rest is = let none : None ≡ Some rest = is in absurd (cc)
number_there (suc size) (byte ∷ bytes) rest is = byte_there size byte bytes rest (number_there size bytes rest) (nat_lt byte 256) refl is

number_found : (front rest : List ℕ) → ((at : ℕ) → slice_index front at < 256) → behind_number (length front) (front ++ rest) ≡ Some rest
number_found [] rest each = refl
number_found (byte ∷ front) rest each =
    sym (is_then (behind_number (length front) (front ++ rest)) None (nat_lt byte 256) (small_is byte (each 0))) ∙ number_found front rest (λ at. each (suc at))

Finds-number : (size : ℕ) → Finds (AreBytes size) (behind_number size)
Finds-number size = record { there = number_there size; found = λ front rest are. subst (λ (n : ℕ). behind_number n (front ++ rest) ≡ Some rest) are.count (number_found front rest are.each) }

-- ---- values one after another ----

-- some value has this spelling
record Spelling (Spelled : Value → List ℕ → Type 0) (bytes : List ℕ) : Type 0 where
  pub value : Value
  pub spelled : Spelled value bytes

-- so many values have
record Spellings (Spelled : Value → List ℕ → Type 0) (count : ℕ) (bytes : List ℕ) : Type 0 where
  pub values : List Value
  pub count_is : length values ≡ count
  pub each : EachSpells Spelled values bytes

module _ (Spelled : Value → List ℕ → Type 0) where
  one_more : (count : ℕ) (front : List ℕ) → Follows (Spelling Spelled) (Spellings Spelled count) front → Spellings Spelled (suc count) front
  one_more count front is = record {
    values = is.before.value ∷ is.behind.values;
    count_is = ap suc is.behind.count_is;
    each = record { front = is.front; back = is.back; whole = is.whole; before = is.before.spelled; behind = is.behind.each };
  }

  one_first : (count : ℕ) (front : List ℕ) (values : List Value) → length values ≡ suc count → EachSpells Spelled values front → Follows (Spelling Spelled) (Spellings Spelled count) front
  one_first count front [] size each = absurd (omega (arith, size))
  one_first count front (value ∷ values) size each = record {
    front = each.front;
    back = each.back;
    whole = each.whole;
    before = record { value = value; spelled = each.before };
    behind = record { values = values; count_is = omega (arith, size); each = each.behind };
  }

  none_is : (front : List ℕ) (values : List Value) → length values ≡ zero → EachSpells Spelled values front → front ≡ []
  none_is front [] size each = each
  none_is front (value ∷ values) size each = absurd (omega (arith, size))

  Finds-each : {find : List ℕ → Option (List ℕ)} → Finds (Spelling Spelled) find → (count : ℕ) → Finds (Spellings Spelled count) (behind_each find count)
  Finds-each finds zero = Finds-as (λ front none. record { values = []; count_is = refl; each = none }) (λ front is. none_is front is.values is.count_is is.each) Finds-none
  Finds-each finds (suc count) = Finds-as (one_more count) (λ front is. one_first count front is.values is.count_is is.each) (Finds-follows finds (Finds-each finds count))

-- ---- as many as a prefix says ----

record Prefixed (prefix : Prefix) (Are : ℕ → List ℕ → Type 0) (bytes : List ℕ) : Type 0 where
  pub count : ℕ
  pub follows : Follows (IsCount prefix count) (Are count) bytes

front_is : (size : ℕ) (bytes front rest : List ℕ) → bytes ≡ front ++ rest → length front ≡ size → take size bytes ≡ front
front_is size bytes front rest whole count = ap (λ (l : List ℕ). take size l) whole ∙ ap (λ (n : ℕ). take n (front ++ rest)) (sym count) ∙ take-append_seam front rest

module _ {Are : ℕ → List ℕ → Type 0} {find : ℕ → List ℕ → Option (List ℕ)} (finds : (count : ℕ) → Finds (Are count) (find count)) where
  fixed_to : (size : ℕ) (front : List ℕ) → Are size front → Prefixed (Fixed size) Are front
  fixed_to size front are = record { count = size; follows = record { front = []; back = front; whole = refl; before = (refl, refl); behind = are } }

  fixed_fro : (size : ℕ) (front : List ℕ) → Prefixed (Fixed size) Are front → Are size front
  fixed_fro size front is =
      let f = is.follows in
      let back : f.back ≡ front = sym (f.whole ∙ ap (λ (l : List ℕ). l ++ f.back) f.before.1) in
      subst (λ (n : ℕ). Are n front) f.before.0 (subst (Are is.count) back f.behind)

  counted_there : (size : ℕ) (bytes rest : List ℕ) (mid : Option (List ℕ)) → behind_number size bytes ≡ mid → option_and_then (find (little_endian (take size bytes))) mid ≡ Some rest
      → Begins (Prefixed (Counted size) Are) bytes rest
  counted_there size bytes rest None is both = let none : None ≡ Some rest = both in absurd (cc)
  counted_there size bytes rest (Some mid) is both =
      let count : ℕ = little_endian (take size bytes) in
      let a = number_there size bytes mid is in
      let b = (finds count).there mid rest both in
      record {
        front = a.front ++ b.front;
        whole = both_are bytes a.front mid b.front rest a.whole b.whole;
        is = record {
          count = count;
          follows = record {
            front = a.front;
            back = b.front;
            whole = refl;
            before = record { are = a.is; is = ap little_endian (front_is size bytes a.front mid a.whole a.is.count) };
            behind = b.is;
          };
        };
      }

  counted_found : (size : ℕ) (front rest : List ℕ) → Prefixed (Counted size) Are front → option_and_then (find (little_endian (take size (front ++ rest)))) (behind_number size (front ++ rest)) ≡ Some rest
  counted_found size front rest is =
      let f = is.follows in
      let whole : front ++ rest ≡ f.front ++ (f.back ++ rest) = parts front f.front f.back rest f.whole in
      let count : little_endian (take size (front ++ rest)) ≡ is.count = ap little_endian (front_is size (front ++ rest) f.front (f.back ++ rest) whole f.before.are.count) ∙ sym f.before.is in
      ap (option_and_then (find (little_endian (take size (front ++ rest))))) (ap (behind_number size) whole ∙ (Finds-number size).found f.front (f.back ++ rest) f.before.are)
      ∙ ap (λ (n : ℕ). find n (f.back ++ rest)) count
      ∙ (finds is.count).found f.back rest f.behind

  Finds-prefixed : (prefix : Prefix) → IsBounded prefix → Finds (Prefixed prefix Are) (behind_prefixed prefix find)
  Finds-prefixed Rest bounded = absurd bounded
  Finds-prefixed (Fixed size) bounded = Finds-as (fixed_to size) (fixed_fro size) (finds size)
  Finds-prefixed (Counted size) bounded = record { there = λ bytes rest is. counted_there size bytes rest (behind_number size bytes) refl is; found = counted_found size }

-- ---- values ----

unsigned_fro : (size : ℕ) (front : List ℕ) (value : Value) → Spells (unsigned size) value front → AreBytes size front
unsigned_fro size front (number n) is = is.are
unsigned_fro size front _ is = absurd is

signed_fro : (size : ℕ) (front : List ℕ) (value : Value) → Spells (signed size) value front → AreBytes size front
signed_fro size front (integer z) is = is.are
signed_fro size front _ is = absurd is

-- a text of so many bytes
abbrev IsText : ℕ → List ℕ → Type 0
IsText count bytes = length bytes ≡ count

text_to : (prefix : Prefix) (front : List ℕ) → Prefixed prefix IsText front → Spelling (Spells (string prefix)) front
text_to prefix front is =
    let f = is.follows in
    record {
      value = text f.back;
      spelled = record { front = f.front; back = f.back; whole = f.whole; before = subst (λ (n : ℕ). IsCount prefix n f.front) (sym f.behind) f.before; behind = refl };
    }

text_fro : (prefix : Prefix) (front : List ℕ) (value : Value) → Spells (string prefix) value front → Prefixed prefix IsText front
text_fro prefix front (text t) is = record { count = length t; follows = record { front = is.front; back = is.back; whole = is.whole; before = is.before; behind = ap length is.behind } }
text_fro prefix front _ is = absurd is

array_to : (prefix : Prefix) (element : Form) (front : List ℕ) → Prefixed prefix (Spellings (Spells element)) front → Spelling (Spells (array prefix element)) front
array_to prefix element front is =
    let f = is.follows in
    let b = f.behind in
    record {
      value = elements (values_of b.values);
      spelled =
          subst (λ (l : List Value). Follows (IsCount prefix (length l)) (EachSpells (Spells element) l) front) (sym (list_of-values_of b.values))
          (record { front = f.front; back = f.back; whole = f.whole; before = subst (λ (n : ℕ). IsCount prefix n f.front) (sym b.count_is) f.before; behind = b.each });
    }

array_fro : (prefix : Prefix) (element : Form) (front : List ℕ) (value : Value) → Spells (array prefix element) value front → Prefixed prefix (Spellings (Spells element)) front
array_fro prefix element front (elements values) is = record {
  count = length (list_of values);
  follows = record { front = is.front; back = is.back; whole = is.whole; before = is.before; behind = record { values = list_of values; count_is = refl; each = is.behind } };
}
array_fro prefix element front _ is = absurd is

-- values of fields have this spelling
record FieldSpelling (fields : Fields) (bytes : List ℕ) : Type 0 where
  pub values : List Value
  pub spelled : FieldsSpell fields values bytes

no_fields_fro : (front : List ℕ) (values : List Value) → FieldsSpell no_fields values front → front ≡ []
no_fields_fro front [] is = is
no_fields_fro front (value ∷ values) is = absurd is

field_to : (name : List ℕ) (form : Form) (more : Fields) (front : List ℕ) → Follows (Spelling (Spells form)) (FieldSpelling more) front → FieldSpelling (field name form more) front
field_to name form more front is = record {
  values = is.before.value ∷ is.behind.values;
  spelled = record { front = is.front; back = is.back; whole = is.whole; before = is.before.spelled; behind = is.behind.spelled };
}

field_fro : (name : List ℕ) (form : Form) (more : Fields) (front : List ℕ) (values : List Value) → FieldsSpell (field name form more) values front → Follows (Spelling (Spells form)) (FieldSpelling more) front
field_fro name form more front [] is = absurd is
field_fro name form more front (value ∷ values) is = record {
  front = is.front;
  back = is.back;
  whole = is.whole;
  before = record { value = value; spelled = is.before };
  behind = record { values = values; spelled = is.behind };
}

sequence_to : (row : Fields) (front : List ℕ) → FieldSpelling row front → Spelling (Spells (sequence row)) front
sequence_to row front is = record { value = members (values_of is.values); spelled = subst (λ (l : List Value). FieldsSpell row l front) (sym (list_of-values_of is.values)) is.spelled }

sequence_fro : (row : Fields) (front : List ℕ) (value : Value) → Spells (sequence row) value front → FieldSpelling row front
sequence_fro row front (members values) is = record { values = list_of values; spelled = is }
sequence_fro row front _ is = absurd is

mutual
  Finds-value : (form : Form) → IsPart form → Finds (Spelling (Spells form)) (behind_value form)
  Finds-value (unsigned size) part =
      Finds-as (λ front are. record { value = number (little_endian front); spelled = record { are = are; is = refl } }) (λ front is. unsigned_fro size front is.value is.spelled) (Finds-number size)
  Finds-value (signed size) part =
      Finds-as (λ front are. record { value = integer (twos_complement size (little_endian front)); spelled = record { are = are; is = refl } }) (λ front is. signed_fro size front is.value is.spelled)
      (Finds-number size)
  Finds-value (string prefix) part = Finds-as (text_to prefix) (λ front is. text_fro prefix front is.value is.spelled) (Finds-prefixed Finds-octets prefix part)
  Finds-value (array prefix element) part =
      Finds-as (array_to prefix element) (λ front is. array_fro prefix element front is.value is.spelled)
      (Finds-prefixed (Finds-each (Spells element) (Finds-value element part.1)) prefix part.0)
  Finds-value (sequence row) part = Finds-as (sequence_to row) (λ front is. sequence_fro row front is.value is.spelled) (Finds-fields row part.1)

  Finds-fields : (fields : Fields) → AreParts fields → Finds (FieldSpelling fields) (behind_fields fields)
  Finds-fields no_fields are = Finds-as (λ front none. record { values = []; spelled = none }) (λ front is. no_fields_fro front is.values is.spelled) Finds-none
  Finds-fields (field name form more) are =
      Finds-as (field_to name form more) (λ front is. field_fro name form more front is.values is.spelled) (Finds-follows (Finds-value form are.0) (Finds-fields more are.1))

none_left : (left : Option (List ℕ)) → is_none_left left ≡ true → left ≡ Some []
none_left None is = let differ : false ≡ true = is in absurd (cc)
none_left (Some []) is = refl
none_left (Some (byte ∷ bytes)) is = let differ : false ≡ true = is in absurd (cc)

spelling_true : (form : Form) (bytes : List ℕ) (value : Value) → IsWellMade form → Spells form value bytes → is_spelling form bytes ≡ true
spelling_true form bytes value (inl rest) spelled = ap (λ (f : Form). is_spelling f bytes) rest
spelling_true form bytes value (inr part) spelled =
    ap (is_spelling form) (sym (append-nil bytes)) ∙ ap is_none_left ((Finds-value form part).found bytes [] (record { value = value; spelled = spelled }))

spelling_of : (form : Form) (bytes : List ℕ) → IsWellMade form → is_spelling form bytes ≡ true → Spelling (Spells form) bytes
spelling_of form bytes (inl rest) is =
    subst (λ (f : Form). Spelling (Spells f) bytes) (sym rest) (record { value = text bytes; spelled = record { front = []; back = bytes; whole = refl; before = refl; behind = refl } })
spelling_of form bytes (inr part) is =
    let it = (Finds-value form part).there bytes [] (none_left (behind_value form bytes) is) in
    subst (Spelling (Spells form)) (sym (it.whole ∙ append-nil it.front)) it.is

-- ---- the TLVs of the table ----

both_true : (b c : Bool) → b ≡ true → c ≡ true → b && c ≡ true
both_true b c is also = rw (is, also) refl

first_false : (b c : Bool) → b ≡ false → b && c ≡ false
first_false b c is = rw is refl

second_false : (b c : Bool) → c ≡ false → b && c ≡ false
second_false true c is = is
second_false false c is = refl

says_read : (output : Output) (value : Option (List ℕ)) (fields : List FieldValue) → IsWellMade output.tlv.form → Says output value fields → is_read output value ≡ true
says_read output None fields made (missing, none) = ap not missing
says_read output (Some bytes) fields made (value, are, spelled) = spelling_true output.tlv.form bytes value made spelled

unread_not : (output : Output) (value : Option (List ℕ)) → IsWellMade output.tlv.form → IsUnread output value → is_read output value ≡ false
unread_not output None made needed = ap not needed
unread_not output (Some bytes) made nothing = false_from_ne_true (is_spelling output.tlv.form bytes) (λ is. let it = spelling_of output.tlv.form bytes made is in nothing it.value it.spelled)

all_read : (outputs : List Output) (tlvs : List ℕ) (fields : List FieldValue) → AreWellMade outputs → AllSay outputs tlvs fields → are_read outputs tlvs ≡ true
all_read [] tlvs fields made say = refl
all_read (output ∷ outputs) tlvs fields made (here, later, whole, says, rest) =
    both_true (is_read output (tlv_value output.tlv.kind tlvs)) (are_read outputs tlvs) (says_read output (tlv_value output.tlv.kind tlvs) here made.0 says) (all_read outputs tlvs later made.1 rest)

any_unread : (outputs : List Output) (tlvs : List ℕ) → AreWellMade outputs → AnyUnread outputs tlvs → are_read outputs tlvs ≡ false
any_unread [] tlvs made none = absurd none
any_unread (output ∷ outputs) tlvs made (inl first) =
    first_false (is_read output (tlv_value output.tlv.kind tlvs)) (are_read outputs tlvs) (unread_not output (tlv_value output.tlv.kind tlvs) made.0 first)
any_unread (output ∷ outputs) tlvs made (inr any) = second_false (is_read output (tlv_value output.tlv.kind tlvs)) (are_read outputs tlvs) (any_unread outputs tlvs made.1 any)

-- ---- answers ----

module _ (body : QmiRequest) (message : Placed) where
  abbrev outputs : List Output
  outputs = (row_of body).output

  abbrev tlvs : List ℕ
  tlvs = tlvs_in message.bytes

  reads_as : (outcome : Option Outcome) (read : Bool) → outcome_in tlvs ≡ outcome → are_read outputs tlvs ≡ read → reads body message.bytes ≡ (is_framed message.bytes && reads_with outcome read)
  unfolding reads
  reads_as outcome read is are =
      ap (λ (o : Option Outcome). is_framed message.bytes && reads_with o (are_read outputs tlvs)) is ∙ ap (λ (b : Bool). is_framed message.bytes && reads_with outcome b) are

  is_good : (fields : List FieldValue) → is_framed message.bytes ≡ true → answer.Reads outputs tlvs (answer.success fields) → (reads body message.bytes ≡ true) × (succeeds body message.bytes ≡ true)
  unfolding succeeds
  is_good fields framed ((error, is), say) =
      let outcome : Outcome = record { status = 0; error = error } in
      let reads_so : reads body message.bytes ≡ true =
      reads_as (Some outcome) true is (all_read outputs tlvs fields (outputs-well_made body) say) ∙ ap (λ (b : Bool). b && true) framed in
      (reads_so, both_true (reads body message.bytes) (is_success (outcome_in tlvs)) reads_so (ap is_success is))

  is_failed : (error : ℕ) → is_framed message.bytes ≡ true → answer.Reads outputs tlvs (answer.failure error) → (reads body message.bytes ≡ true) × (succeeds body message.bytes ≡ false)
  unfolding succeeds
  is_failed error framed (status, bad, is) =
      let outcome : Outcome = record { status = status; error = error } in
      let not_good : (status == 0) ≡ false = not_zero status bad in (
        reads_as (Some outcome) (are_read outputs tlvs) is refl
            ∙ ap (λ (b : Bool). is_framed message.bytes && (not b || are_read outputs tlvs)) not_good
            ∙ ap (λ (b : Bool). b && true) framed,
        second_false (reads body message.bytes) (is_success (outcome_in tlvs)) (ap is_success is ∙ not_good),
      )

  is_unread : answer.Reads outputs tlvs answer.unread → reads body message.bytes ≡ false
  is_unread (inl none) = reads_as None (are_read outputs tlvs) none refl ∙ second_false (is_framed message.bytes) false refl
  is_unread (inr ((error, is), any)) =
      reads_as (Some (record { status = 0; error = error })) false is (any_unread outputs tlvs (outputs-well_made body) any) ∙ second_false (is_framed message.bytes) false refl

  is_unframed : is_framed message.bytes ≡ false → reads body message.bytes ≡ false
  unfolding reads
  is_unframed unframed = first_false (is_framed message.bytes) (reads_with (outcome_in (tlvs_in message.bytes)) (are_read (row_of body).output (tlvs_in message.bytes))) unframed

  neither : reads body message.bytes ≡ false → (reads body message.bytes ≡ false) × (succeeds body message.bytes ≡ false)
  unfolding succeeds
  neither unread = (unread, first_false (reads body message.bytes) (is_success (outcome_in (tlvs_in message.bytes))) unread)

pub verdicts_are_of_what_is_read : VerdictsAreOfWhatIsRead
verdicts_are_of_what_is_read body message (Ok (Success fields)) is = is_good body message (answer.fields_view fields) is.0 is.1
verdicts_are_of_what_is_read body message (Ok (Failure error)) is = is_failed body message error is.0 is.1
verdicts_are_of_what_is_read body message (Err (fault.Broken place)) (begins, inl unframed) = neither body message (is_unframed body message unframed)
verdicts_are_of_what_is_read body message (Err (fault.Broken place)) (begins, inr unread) = neither body message (is_unread body message unread)
verdicts_are_of_what_is_read body message (Err fault.OutOfMemory) is = tt
verdicts_are_of_what_is_read body message (Err why) is = absurd is
