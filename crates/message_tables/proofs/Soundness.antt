-- Tables that are read are sound.
use Rattle.std.proofs.Common.{◌≡◌, ℕ, ◌≤◌, ◌⊎◌, inl, inr, nat_le, Bool, true, false, ◌&&◌, ◌||◌, cond, List, ◌∷◌, Option, Some, None, IfSome, Ordering, Less, Equal, Greater, nat_cmp, option_map, option_and_then, unwrap_or, bytes_eq, codes, refl, arith, if◌then◌else◌}
use Rattle.std.proofs.lemmas.Grind.{common_steps}
use Rattle.std.specs.Ordering.{match_ordering}
use Rattle.std.specs.Cmp.Lexicographic.{slice_cmp}
use Rattle.serde_json.specs.Data.{Data, null, boolean, number, string, array, object, Items, no_items, item, Members, no_members, member}
use Rattle.serde_json.specs.Find.{as_str}
use Rattle.qmi_shapes.specs.Form.{Form, unsigned, signed, string as text, array as list, sequence}
use Rattle.qmi_shapes.specs.View.{NamedForm, fields_of}
use Rattle.qmi_shapes.specs.WellMade.{IsSize, IsBounded, HasFields, IsPart, AreParts, IsWellMade}
use Rattle.qmi_shapes.specs.declared.shape.Prefix.{Prefix}
use Rattle.qmi_shapes.specs.declared.shape.Prefix.TheVariants.{Rest, Fixed, Counted}
use Rattle.message_tables.specs.declared.fault.MemberName.{MemberName}
use Rattle.message_tables.specs.declared.fault.MemberName.TheVariants as which
use Rattle.message_tables.specs.declared.format.Format.{Format}
use Rattle.message_tables.specs.declared.format.Format.TheVariants.{Unsigned, Signed, Sized, Text, Array, Sequence}
use Rattle.message_tables.specs.Reading.{Reading, faulty, unknown, known, reading_map, and_then, required}
use Rattle.message_tables.specs.Members.{member_text, value_in, text_in, is_object, are_objects}
use Rattle.message_tables.specs.Numbers.{size_of, in_range, integer_of}
use Rattle.message_tables.specs.Formats.{format_named, is_plain, format_of, count_named, number_size, prefix_by, stated_prefix}
use Rattle.message_tables.specs.Definitions.{Definition, Names, referred}
use Rattle.message_tables.specs.Forms.{inside, inside_prefix, field_for, field_by, field_with, form_in, form_by, form_with, some_items, form_of, element_in, fields_in, fields_at, fields_listed}

-- ---- facts of what is read, where it is known ----

abbrev pub OnKnown : {A : Type 0} → (A → Type 0) → Reading A → Type 0
OnKnown P (faulty member_name) = Unit {0}
OnKnown P unknown = Unit {0}
OnKnown P (known a) = P a

pub on_map : {A B : Type 0} (P : A → Type 0) (Q : B → Type 0) (f : A → B) → ((a : A) → P a → Q (f a)) → (r : Reading A) → OnKnown P r → OnKnown Q (reading_map f r)
on_map P Q f step (faulty member_name) holds = tt
on_map P Q f step unknown holds = tt
on_map P Q f step (known a) holds = step a holds

pub on_then : {A B C : Type 0} (P : A → Type 0) (Q : B → Type 0) (R : C → Type 0) (f : A → B → C) → ((a : A) (b : B) → P a → Q b → R (f a b))
    → (r : Reading A) (s : Reading B) → OnKnown P r → OnKnown Q s → OnKnown R (and_then f r s)
on_then P Q R f step (faulty member_name) s first second = tt
on_then P Q R f step unknown (faulty member_name) first second = tt
on_then P Q R f step unknown unknown first second = tt
on_then P Q R f step unknown (known b) first second = tt
on_then P Q R f step (known a) s first second = on_map Q R (f a) (λ b holds. step a b first holds) s second

pub on_any : {A : Type 0} (r : Reading A) → OnKnown (λ _. Unit {0}) r
on_any (faulty member_name) = tt
on_any unknown = tt
on_any (known a) = tt

pub on_required : {A : Type 0} (P : A → Type 0) (member_name : MemberName) (o : Option A) → IfSome o P → OnKnown P (required member_name o)
on_required P member_name None holds = tt
on_required P member_name (Some a) holds = holds

pub if_some_then : {A B : Type 0} (P : B → Type 0) (f : A → Option B) → ((a : A) → IfSome (f a) P) → (o : Option A) → IfSome (option_and_then f o) P
if_some_then P f holds None = tt
if_some_then P f holds (Some a) = holds a

pub either_way : {A : Type 0} (P : A → Type 0) (b : Bool) (x y : A) → P x → P y → P (if b then x else y)
either_way P true x y first second = first
either_way P false x y first second = second

pub at_either : {A : Type 0} (P : A → Type 0) (o : Ordering) (here elsewhere : A) → P here → P elsewhere → P (match_ordering o elsewhere here elsewhere)
at_either P Less here elsewhere first second = second
at_either P Equal here elsewhere first second = first
at_either P Greater here elsewhere first second = second

-- ---- sizes ----

range_by : (most size : ℕ) (a b : Bool) → nat_le 1 size ≡ a → nat_le size most ≡ b → IfSome (if a && b then Some size else None) (λ n. (1 ≤ n) × (n ≤ most))
range_by most size true true low high = (grind (arith, common_steps), grind (arith, common_steps))
range_by most size true false low high = tt
range_by most size false b low high = tt

size-good : (most : ℕ) (value : Data) → IfSome (size_of most value) (λ n. (1 ≤ n) × (n ≤ most))
unfolding size_of
size-good most value = if_some_then (λ n. (1 ≤ n) × (n ≤ most)) (in_range most) (λ size. range_by most size (nat_le 1 size) (nat_le size most) refl refl) (integer_of (as_str value) value)

number_size-good : (entry : Data) → OnKnown IsSize (number_size entry)
unfolding number_size
number_size-good entry = on_required IsSize which.GuintSize _ (if_some_then IsSize (size_of 8) (size-good 8) (value_in which.GuintSize entry))

abbrev IsCount : ℕ → Type 0
IsCount bytes = (bytes ≡ 1) ⊎ ((bytes ≡ 2) ⊎ (bytes ≡ 4))

-- a fact of a value, if there is one
record MayBe {A : Type 0} (P : A → Type 0) (o : Option A) : Type 0 where
  holds : IfSome o P

or_else : {A : Type 0} (P : A → Type 0) (b : Bool) (x : A) → P x → {rest : Option A} → MayBe P rest → MayBe P (if b then Some x else rest)
or_else P true x good rest = record { holds = good }
or_else P false x good rest = rest

no_more : {A : Type 0} (P : A → Type 0) → MayBe P None
no_more P = record { holds = tt }

count-good : (name : List ℕ) → IfSome (count_named name) IsCount
unfolding count_named
count-good name =
    let found =
    or_else IsCount (bytes_eq name (codes "guint8")) 1 (inl refl)
    (or_else IsCount (bytes_eq name (codes "guint16")) 2 (inr (inl refl)) (or_else IsCount (bytes_eq name (codes "guint32")) 4 (inr (inr refl)) (no_more IsCount))) in
    found.holds

abbrev MayBound : Option Prefix → Type 0
MayBound o = IfSome o IsBounded

prefix-by : (size count : Option Data) → OnKnown MayBound (prefix_by size count)
prefix-by (Some size) count =
    on_map (λ n. (1 ≤ n) × (n ≤ 65535)) MayBound (λ n. Some (Fixed n)) (λ n good. good.0) (required which.FixedSize (size_of 65535 size)) (on_required (λ n. (1 ≤ n) × (n ≤ 65535)) which.FixedSize (size_of 65535 size) (size-good 65535 size))
prefix-by None (Some count) =
    on_map IsCount MayBound (λ n. Some (Counted n)) (λ n good. good) (required which.SizePrefixFormat (option_and_then count_named (as_str count)))
    (on_required IsCount which.SizePrefixFormat (option_and_then count_named (as_str count)) (if_some_then IsCount count_named count-good (as_str count)))
prefix-by None None = tt

prefix-good : (entry : Data) → OnKnown MayBound (stated_prefix entry)
unfolding stated_prefix
prefix-good entry = prefix-by _ _

-- ---- formats ----

abbrev IsGood : Format → Type 0
IsGood (Unsigned bytes) = IsSize bytes
IsGood (Signed bytes) = IsSize bytes
IsGood Sized = Unit {0}
IsGood Text = Unit {0}
IsGood Array = Unit {0}
IsGood Sequence = Unit {0}

abbrev MayBeGood : Option Format → Type 0
MayBeGood o = IfSome o IsGood

format-good : (name : List ℕ) → MayBeGood (format_named name)
unfolding format_named
format-good name =
    let one : IsSize 1 = (omega arith, omega arith) in
    let two : IsSize 2 = (omega arith, omega arith) in
    let four : IsSize 4 = (omega arith, omega arith) in
    let eight : IsSize 8 = (omega arith, omega arith) in
    let others =
    or_else IsGood (bytes_eq name (codes "guint-sized")) Sized tt
    (or_else IsGood (bytes_eq name (codes "string")) Text tt
    (or_else IsGood (bytes_eq name (codes "array")) Array tt
    (or_else IsGood (bytes_eq name (codes "sequence") || bytes_eq name (codes "struct")) Sequence tt (no_more IsGood)))) in
    let signed_ones =
    or_else IsGood (bytes_eq name (codes "gint8")) (Signed 1) one
    (or_else IsGood (bytes_eq name (codes "gint16")) (Signed 2) two
    (or_else IsGood (bytes_eq name (codes "gint32")) (Signed 4) four (or_else IsGood (bytes_eq name (codes "gint64")) (Signed 8) eight others))) in
    let all =
    or_else IsGood (bytes_eq name (codes "guint8")) (Unsigned 1) one
    (or_else IsGood (bytes_eq name (codes "guint16")) (Unsigned 2) two
    (or_else IsGood (bytes_eq name (codes "guint32")) (Unsigned 4) four (or_else IsGood (bytes_eq name (codes "guint64")) (Unsigned 8) eight signed_ones))) in
    all.holds

-- ---- forms ----

inside_prefix-bounded : (prefix : Prefix) → IsBounded prefix → IsBounded (inside_prefix prefix)
inside_prefix-bounded Rest never = absurd never
inside_prefix-bounded (Fixed count) bounded = bounded
inside_prefix-bounded (Counted bytes) bounded = bounded

inside-part : (form : Form) → IsPart form → IsPart (inside form)
inside-part (unsigned bytes) part = part
inside-part (signed bytes) part = part
inside-part (text prefix) part = inside_prefix-bounded prefix part
inside-part (list prefix element) part = part
inside-part (sequence fields) part = part

-- a form that is well made is a part of another, where it stands inside that
inside-well : (form : Form) → IsWellMade form → IsPart (inside form)
inside-well form (inl rest) = rw rest (inl refl)
inside-well form (inr part) = inside-part form part

abbrev AreFields : List NamedForm → Type 0
AreFields named = HasFields (fields_of named) × AreParts (fields_of named)

text-well : (prefix : Option Prefix) → MayBound prefix → IsWellMade (text (unwrap_or prefix Rest))
text-well None bounded = inl refl
text-well (Some prefix) bounded = inr bounded

count-well : (prefix : Option Prefix) → MayBound prefix → IsBounded (unwrap_or prefix (Counted 1))
count-well None bounded = inl refl
count-well (Some prefix) bounded = bounded

form_in-well : (format : Format) (entry : Data) (element : Reading Form) (fields : Reading (List NamedForm)) → IsGood format → OnKnown IsWellMade element → OnKnown AreFields fields
    → OnKnown IsWellMade (form_in format entry element fields)
form_in-well (Unsigned bytes) entry element fields good inner parts = inr good
form_in-well (Signed bytes) entry element fields good inner parts = inr good
form_in-well Sized entry element fields good inner parts = on_map IsSize IsWellMade unsigned (λ bytes size. inr size) (number_size entry) (number_size-good entry)
form_in-well Text entry element fields good inner parts = on_map MayBound IsWellMade (λ prefix. text (unwrap_or prefix Rest)) text-well (stated_prefix entry) (prefix-good entry)
form_in-well Array entry element fields good inner parts =
    on_then IsWellMade MayBound IsWellMade (λ form prefix. list (unwrap_or prefix (Counted 1)) (inside form)) (λ form prefix well bounded. inr (count-well prefix bounded, inside-well form well))
    element (stated_prefix entry) inner (prefix-good entry)
form_in-well Sequence entry element fields good inner parts = on_map AreFields IsWellMade (λ named. sequence (fields_of named)) (λ named good. inr good) fields parts

form_by-well : (format : Option (Option Format)) (entry : Data) (element : Reading Form) (fields : Reading (List NamedForm)) → IfSome format MayBeGood → OnKnown IsWellMade element
    → OnKnown AreFields fields → OnKnown IsWellMade (form_by format entry element fields)
form_by-well None entry element fields good inner parts = tt
form_by-well (Some None) entry element fields good inner parts = tt
form_by-well (Some (Some format)) entry element fields good inner parts = form_in-well format entry element fields good inner parts

plain-good : (plain : Bool) (format : Option Format) → MayBeGood format → MayBeGood (cond plain format None)
plain-good true format good = good
plain-good false format good = tt

format_of-good : (entry : Data) (name : List ℕ) → MayBeGood (format_of entry name)
unfolding format_of
format_of-good entry name = plain-good (is_plain entry) (format_named name) (format-good name)

named-good : (entry : Data) (name : Option (List ℕ)) → IfSome (option_map (format_of entry) name) MayBeGood
named-good entry None = tt
named-good entry (Some name) = format_of-good entry name

form_with-well : (entry : Data) (element : Reading Form) (fields : Reading (List NamedForm)) → OnKnown IsWellMade element → OnKnown AreFields fields
    → OnKnown IsWellMade (form_with entry element fields)
unfolding form_with
form_with-well entry element fields inner parts = form_by-well _ entry element fields (named-good entry (text_in which.Format entry)) inner parts

-- ---- names ----

abbrev pub IsDefined : Definition → Type 0
IsDefined definition = IsWellMade definition.form

-- each name stands for a form that is well made
abbrev pub AreDefined : Names → Type 0
AreDefined names = (name : List ℕ) → IfSome (names name) IsDefined

referred-good : (names : Names) → AreDefined names → (reference : Data) → IfSome (referred names reference) IsDefined
referred-good names defined reference = if_some_then IsDefined names defined (as_str reference)

abbrev IsPartField : NamedForm → Type 0
IsPartField named = IsPart named.form

field_for-part : (definition : Option Definition) → IfSome definition IsDefined → OnKnown IsPartField (field_for definition)
field_for-part None good = tt
field_for-part (Some definition) good =
    on_map (λ _. Unit {0}) IsPartField (λ name. record { name = name; form = inside definition.form }) (λ name holds. inside-well definition.form good) (required which.Name definition.name) (on_any _)

field_by-part : (names : Names) → AreDefined names → (reference : Option Data) (name : Option (List ℕ)) (form : Reading Form) → OnKnown IsWellMade form
    → OnKnown IsPartField (field_by names reference name form)
field_by-part names defined (Some reference) name form well = field_for-part (referred names reference) (referred-good names defined reference)
field_by-part names defined None name form well = on_then (λ _. Unit {0}) IsWellMade IsPartField _ (λ bytes form holds well. inside-well form well) (required which.Name name) form (on_any _) well

field_with-part : (names : Names) → AreDefined names → (entry : Data) (form : Reading Form) → OnKnown IsWellMade form → OnKnown IsPartField (field_with names entry form)
unfolding field_with
field_with-part names defined entry form well = field_by-part names defined _ _ form well

abbrev AreAllParts : List NamedForm → Type 0
AreAllParts named = AreParts (fields_of named)

-- a list that isn't empty has fields
some-fields : (names : Names) (values : Items) → OnKnown AreAllParts (fields_listed names values) → some_items values ≡ true → OnKnown AreFields (fields_listed names values)
some-fields names no_items parts some = absurd cc
some-fields names (item value values) parts some = with-first (field_with names value (form_of names value)) (fields_listed names values) parts
  where
    with-first : (first : Reading NamedForm) (rest : Reading (List NamedForm)) → OnKnown AreAllParts (and_then (λ first more. first ∷ more) first rest)
        → OnKnown AreFields (and_then (λ first more. first ∷ more) first rest)
    with-first (faulty member_name) rest parts = tt
    with-first unknown (faulty member_name) parts = tt
    with-first unknown unknown parts = tt
    with-first unknown (known more) parts = tt
    with-first (known first) (faulty member_name) parts = tt
    with-first (known first) unknown parts = tt
    with-first (known first) (known more) parts = (tt, parts)

contents-fields : (names : Names) (values : Items) (a b : Bool) → some_items values ≡ b → OnKnown AreAllParts (fields_listed names values)
    → OnKnown AreFields (if a && b then fields_listed names values else faulty which.Contents)
contents-fields names values true true some parts = some-fields names values parts some
contents-fields names values true false some parts = tt
contents-fields names values false b some parts = tt

module _ (names : Names) (defined : AreDefined names) where
  mutual
    pub form-well : (entry : Data) → OnKnown IsWellMade (form_of names entry)
    form-well null = tt
    form-well (boolean b) = tt
    form-well (number n) = tt
    form-well (string s) = tt
    form-well (array values) = tt
    form-well (object parts) = form_with-well (object parts) (element_in names parts) (fields_in names parts) (element-well parts) (fields_in-good parts)

    element-well : (parts : Members) → OnKnown IsWellMade (element_in names parts)
    element-well no_members = tt
    element-well (member name value more) =
        at_either (OnKnown IsWellMade) (slice_cmp nat_cmp (member_text which.ArrayElement) name) _ _
        (either_way (OnKnown IsWellMade) (is_object value) (form_of names value) (faulty which.ArrayElement) (form-well value) tt) (element-well more)

    fields_in-good : (parts : Members) → OnKnown AreFields (fields_in names parts)
    fields_in-good no_members = tt
    fields_in-good (member name value more) =
        at_either (OnKnown AreFields) (slice_cmp nat_cmp (member_text which.Contents) name) _ _ (fields_at-good value) (fields_in-good more)

    fields_at-good : (value : Data) → OnKnown AreFields (fields_at names value)
    fields_at-good null = tt
    fields_at-good (boolean b) = tt
    fields_at-good (number n) = tt
    fields_at-good (string s) = tt
    fields_at-good (array values) = contents-fields names values (are_objects values) (some_items values) refl (fields-parts values)
    fields_at-good (object parts) = tt

    fields-parts : (values : Items) → OnKnown AreAllParts (fields_listed names values)
    fields-parts no_items = tt
    fields-parts (item value values) =
        on_then IsPartField AreAllParts AreAllParts (λ first more. first ∷ more) (λ first more part parts. (part, parts)) (field_with names value (form_of names value)) (fields_listed names values)
        (field_with-part names defined value (form_of names value) (form-well value)) (fields-parts values)
