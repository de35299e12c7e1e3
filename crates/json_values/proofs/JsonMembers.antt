-- Members that are put one after another.
use Rattle.std.proofs.Common.{◌≡◌, ℕ, ◌≤◌, max, Bool, true, false, List, [], ◌∷◌, length, Option, Some, None, option_and_then, codes, encode_utf8_all, bytes_eq, Ordering, Less, Equal, Greater, refl, ap, ◌∙◌, arith, if◌then◌else◌}
use Rattle.std.proofs.lemmas.Bool.{or_left, or_right, or_from, or_parts}
use Rattle.std.proofs.lemmas.List.{length-append}
use Rattle.std.proofs.lemmas.Slice.Eq.{bytes_eq-Decides}
use Rattle.std.specs.List.{list_any}
use Rattle.std.specs.Ordering.{nat_cmp, match_ordering}
use Rattle.std.specs.Cmp.Lexicographic.{slice_cmp}
use Rattle.serde_json.specs.Data.{Data, Members, no_members, member, put, depth, members_depth}
use Rattle.serde_json.specs.Find.{get_member}
use Rattle.serde_json.specs.Written.{has_float, members_have_float}
use Rattle.serde_json.proofs.Views.{get_member-put, get_member-put_other}
use Rattle.qmi_shapes.specs.Form.{Form, unsigned, signed, string, array, sequence, Fields, no_fields, field}
use Rattle.qmi_values.specs.Value.{Value, number_in}
use Rattle.json_values.specs.Given.{is_named, first_other, names_of}
use Rattle.json_values.specs.Showing.{Showing, wordless}
use Rattle.json_values.specs.Json.{text_json, json_of, word_key, word_of, with_word, with_fields}
use Rattle.json_values.specs.Apart.{IsApart, AreNamedApart}

-- ---- words ----

pub longer : (key : List ℕ) → ¬ (key ≡ word_key key)
longer key same = absurd (let sizes = ap length same ∙ length-append key (codes " word") in omega (arith, sizes))

pub no_word : (showing : Showing) (key : List ℕ) (form : Form) (value : Value) → word_of (wordless showing) key form value ≡ None
no_word showing key (unsigned size) value = by (number_in value)
  where
    by : (n : Option ℕ) → option_and_then ((wordless showing).word key) n ≡ None
    by None = refl
    by (Some n) = refl
no_word showing key (signed size) value = refl
no_word showing key (string prefix) value = refl
no_word showing key (array prefix element) value = refl
no_word showing key (sequence fields) value = refl

pub with_no_word : (showing : Showing) (key : List ℕ) (form : Form) (value : Value) (so_far : Members) → with_word key (word_of (wordless showing) key form value) so_far ≡ so_far
with_no_word showing key form value so_far = ap (λ (word : Option (List ℕ)). with_word key word so_far) (no_word showing key form value)

-- ---- what stands under a name ----

pub with_word-other : (q key : List ℕ) (word : Option (List ℕ)) (so_far : Members) → ¬ (q ≡ word_key key) → get_member q (with_word key word so_far) ≡ get_member q so_far
with_word-other q key None so_far apart = refl
with_word-other q key (Some word) so_far apart = get_member-put_other q (word_key key) (text_json word) so_far apart

with_fields-other : (showing : Showing) (fields : Fields) (values : List Value) (so_far : Members) (q : List ℕ) → IsApart q fields → get_member q (with_fields showing fields values so_far) ≡ get_member q so_far
with_fields-other showing no_fields values so_far q apart = refl
with_fields-other showing (field name form more) [] so_far q apart = refl
with_fields-other showing (field name form more) (value ∷ values) so_far q apart =
    let key : List ℕ = encode_utf8_all name in
    let json : Data = json_of showing (showing.digits key) form value in
    with_fields-other showing more values (with_word key (word_of showing key form value) (put key json so_far)) q apart.2
    ∙ with_word-other q key (word_of showing key form value) (put key json so_far) apart.1 ∙ get_member-put_other q key json so_far apart.0

-- each field's value stands under its name
abbrev pub HoldsAll : Showing → Fields → List Value → Members → Type 0
HoldsAll showing no_fields values held = Unit {0}
HoldsAll showing (field name form more) [] held = Unit {0}
HoldsAll showing (field name form more) (value ∷ values) held =
    (get_member (encode_utf8_all name) held ≡ Some (json_of showing (showing.digits (encode_utf8_all name)) form value)) × HoldsAll showing more values held

pub with_fields-hold : (showing : Showing) (fields : Fields) (values : List Value) (so_far : Members) → AreNamedApart fields → HoldsAll showing fields values (with_fields showing fields values so_far)
with_fields-hold showing no_fields values so_far apart = tt
with_fields-hold showing (field name form more) [] so_far apart = tt
with_fields-hold showing (field name form more) (value ∷ values) so_far apart =
    let key : List ℕ = encode_utf8_all name in
    let json : Data = json_of showing (showing.digits key) form value in
    let here : Members = with_word key (word_of showing key form value) (put key json so_far) in
    let found = with_fields-other showing more values here key apart.0 ∙ with_word-other key key (word_of showing key form value) (put key json so_far) (longer key) ∙ get_member-put key json so_far in
    (found, with_fields-hold showing more values here apart.2)

-- ---- no member has another name ----

named_first : (names : List (List ℕ)) (key : List ℕ) (json : Data) (more : Members) → first_other names (member key json more) ≡ None → (list_any (is_named key) names ≡ true) × (first_other names more ≡ None)
named_first names key json more = by (list_any (is_named key) names) refl
  where
    by : (b : Bool) → list_any (is_named key) names ≡ b → (if b then first_other names more else Some key) ≡ None → (list_any (is_named key) names ≡ true) × (first_other names more ≡ None)
    by true named none = (named, none)
    by false named none = absurd (cc)

named_behind : (names : List (List ℕ)) (key : List ℕ) (json : Data) (more : Members) → list_any (is_named key) names ≡ true → first_other names more ≡ None → first_other names (member key json more) ≡ None
named_behind names key json more named none = rw named none

put-named : (names : List (List ℕ)) (key : List ℕ) (json : Data) (so_far : Members) → list_any (is_named key) names ≡ true → first_other names so_far ≡ None → first_other names (put key json so_far) ≡ None
put-named names key json no_members named none = named_behind names key json no_members named none
put-named names key json (member other one more) named none = by (slice_cmp nat_cmp key other) (λ later. put-named names key json more named later)
  where
    by : (o : Ordering) → (first_other names more ≡ None → first_other names (put key json more) ≡ None)
        → first_other names (match_ordering o (member key json (member other one more)) (member other json more) (member other one (put key json more))) ≡ None
    by Less later = named_behind names key json (member other one more) named none
    by Equal later = let p = named_first names other one more none in named_behind names other json more p.0 p.1
    by Greater later = let p = named_first names other one more none in named_behind names other one (put key json more) p.0 (later p.1)

abbrev AreAmong : List (List ℕ) → Fields → Type 0
AreAmong names no_fields = Unit {0}
AreAmong names (field name form more) = (list_any (is_named (encode_utf8_all name)) names ≡ true) × AreAmong names more

among_more : (names : List (List ℕ)) (name : List ℕ) (fields : Fields) → AreAmong names fields → AreAmong (name ∷ names) fields
among_more names name no_fields among = tt
among_more names name (field other form more) among =
    (or_right (is_named (encode_utf8_all other) name) (list_any (is_named (encode_utf8_all other)) names) among.0, among_more names name more among.1)

among_own : (fields : Fields) → AreAmong (names_of fields) fields
among_own no_fields = tt
among_own (field name form more) =
    let key : List ℕ = encode_utf8_all name in
    (or_left (bytes_eq key key) (list_any (is_named key) (names_of more)) ((bytes_eq-Decides key key).1 refl), among_more (names_of more) name more (among_own more))

named_alone : (showing : Showing) (names : List (List ℕ)) (fields : Fields) (values : List Value) (so_far : Members) → AreAmong names fields → first_other names so_far ≡ None
    → first_other names (with_fields (wordless showing) fields values so_far) ≡ None
named_alone showing names no_fields values so_far among none = none
named_alone showing names (field name form more) [] so_far among none = none
named_alone showing names (field name form more) (value ∷ values) so_far among none =
    let key : List ℕ = encode_utf8_all name in
    let json : Data = json_of (wordless showing) (showing.digits key) form value in
    ap (λ (l : Members). first_other names (with_fields (wordless showing) more values l)) (with_no_word showing key form value (put key json so_far))
    ∙ named_alone showing names more values (put key json so_far) among.1 (put-named names key json so_far among.0 none)

-- without words an object has its fields' members alone
pub no_other : (showing : Showing) (fields : Fields) (values : List Value) → first_other (names_of fields) (with_fields (wordless showing) fields values no_members) ≡ None
no_other showing fields values = named_alone showing (names_of fields) fields values no_members (among_own fields) refl

-- ---- depth and floats ----

pub put-shallow : (key : List ℕ) (json : Data) (so_far : Members) → members_depth (put key json so_far) ≤ max (depth json) (members_depth so_far)
put-shallow key json no_members = omega arith
put-shallow key json (member other one more) = by (slice_cmp nat_cmp key other) (put-shallow key json more)
  where
    by : (o : Ordering) → members_depth (put key json more) ≤ max (depth json) (members_depth more)
        → members_depth (match_ordering o (member key json (member other one more)) (member other json more) (member other one (put key json more))) ≤ max (depth json) (members_depth (member other one more))
    by Less later = omega arith
    by Equal later = omega arith
    by Greater later = omega (arith, later)

pub put-no_float : (key : List ℕ) (json : Data) (so_far : Members) → has_float json ≡ false → members_have_float so_far ≡ false → members_have_float (put key json so_far) ≡ false
put-no_float key json no_members one none = or_from (has_float json) false one refl
put-no_float key json (member other here more) one none =
    let parts = or_parts (has_float here) (members_have_float more) none in
    by (slice_cmp nat_cmp key other) parts (put-no_float key json more one parts.1)
  where
    by : (o : Ordering) → (has_float here ≡ false) × (members_have_float more ≡ false) → members_have_float (put key json more) ≡ false
        → members_have_float (match_ordering o (member key json (member other here more)) (member other json more) (member other here (put key json more))) ≡ false
    by Less parts later = or_from (has_float json) (members_have_float (member other here more)) one none
    by Equal parts later = or_from (has_float json) (members_have_float more) one parts.1
    by Greater parts later = or_from (has_float here) (members_have_float (put key json more)) parts.0 later
