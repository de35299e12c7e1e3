-- The values that an object gives are read from the TLVs that it gives.
use Rattle.std.proofs.Common.{◌≡◌, ℕ, ◌==◌, Bool, true, false, List, [], ◌∷◌, ◌++◌, length, map, nat_le, Option, Some, None, option_and_then, Ok, Err, refl, sym, ap, ◌∙◌, subst, append_assoc, if◌then◌else◌}
use Rattle.std.proofs.lemmas.Bool.{eq-eqb, or_parts}
use Rattle.std.proofs.lemmas.List.Folds.{list_any-append}
use Rattle.std.specs.Prelude.{IsTrue}
use Rattle.std.specs.List.{AllByRecursion, list_any}
use Rattle.std.specs.Str.{encode_utf8_all}
use Rattle.serde_json.specs.Data.{Data, Members}
use Rattle.serde_json.specs.Find.{get, as_object}
use Rattle.qmux_frame.specs.declared.writing.TheConstants.{LONGEST_TLVS}
use Rattle.tlv_codec.specs.Tlv.{Entry, tlv_text, first_value}
use Rattle.tlv_codec.proofs.Texts.{tlvs_of-text}
use Rattle.qmi_values.specs.Value.{Value}
use Rattle.tlv_values.specs.Spelling.{fits, spelling}
use Rattle.tlv_values.specs.Reading.{reading}
use Rattle.tlv_values.proofs.Spelled.{spelled}
use Rattle.tlv_values.proofs.Readings.{read-back}
use Rattle.message_tables.specs.Tlvs.{TlvForm, twice_behind}
use Rattle.message_tables.specs.WellMade.{IsSoundTlv}
use Rattle.json_values.specs.Paths.{Fitting, both}
use Rattle.json_values.specs.Given.{first_other, named_by, given}
use Rattle.json_values.proofs.Fits.{fits_named}
use Rattle.table_requests.specs.declared.request_fault.RequestFault.TheVariants.{TooLong}
use Rattle.table_requests.specs.Requests.{TlvValue, with_value, given_first, tlvs_given, entry_of, bytes_of, bytes_given, names_of, unless_other, request_by_members, request_of}
use Rattle.table_requests.specs.Laws.{IsReadIn, ReadsBack, AreReadBack}

-- ---- the first value of a kind ----

first-behind : (kind : ℕ) (front rest : List Entry) → first_value kind front ≡ None → first_value kind (front ++ rest) ≡ first_value kind rest
first-behind kind [] rest none = refl
first-behind kind (entry ∷ front) rest none = by (first-behind kind front rest) (entry.kind == kind) none
  where
    by : (first_value kind front ≡ None → first_value kind (front ++ rest) ≡ first_value kind rest) → (b : Bool) → (if b then Some entry.value else first_value kind front) ≡ None
        → (if b then Some entry.value else first_value kind (front ++ rest)) ≡ first_value kind rest
    by later true none = absurd cc
    by later false none = later none

first-here : (entry : Entry) (more : List Entry) → first_value entry.kind (entry ∷ more) ≡ Some entry.value
first-here entry more = rw (eq-eqb entry.kind entry.kind refl) refl

-- the entries are of no kinds but those of these TLVs
abbrev AreOfKinds : List TlvForm → List Entry → Type 0
AreOfKinds tlvs entries = (kind : ℕ) → list_any (λ tlv. tlv.kind == kind) tlvs ≡ false → first_value kind entries ≡ None

kinds-none : AreOfKinds [] []
kinds-none kind none = refl

module _ (earlier : List TlvForm) (tlv : TlvForm) (front : List Entry) (kinds : AreOfKinds earlier front) where
  parts : (kind : ℕ) → list_any (λ t. t.kind == kind) (earlier ++ tlv ∷ []) ≡ false → (list_any (λ t. t.kind == kind) earlier ≡ false) × (list_any (λ t. t.kind == kind) (tlv ∷ []) ≡ false)
  parts kind none =
      or_parts (list_any (λ t. t.kind == kind) earlier) (list_any (λ t. t.kind == kind) (tlv ∷ []))
      (sym (list_any-append (λ (t : TlvForm). t.kind == kind) earlier (tlv ∷ [])) ∙ none)

  kinds-left_out : AreOfKinds (earlier ++ tlv ∷ []) front
  kinds-left_out kind none = kinds kind (parts kind none).0

  kinds-written : (value : List ℕ) → AreOfKinds (earlier ++ tlv ∷ []) (front ++ record { kind = tlv.kind; value = value } ∷ [])
  kinds-written value kind none =
      first-behind kind front (record { kind = tlv.kind; value = value } ∷ []) (kinds kind (parts kind none).0) ∙ by (tlv.kind == kind) (or_parts (tlv.kind == kind) false (parts kind none).1).0
    where
      by : (b : Bool) → b ≡ false → (if b then Some value else None) ≡ None
      by true other = absurd cc
      by false other = refl

-- ---- values ----

-- the values are read from their TLVs behind these entries
abbrev AreRead : List Entry → List TlvValue → Type 0
AreRead front values = AllByRecursion (IsReadIn (tlv_text (front ++ map entry_of values))) values

read-one : (front more : List Entry) (one : TlvValue) → IsSoundTlv one.tlv → IsTrue (fits one.tlv.form one.value) → first_value one.tlv.kind front ≡ None
    → IsReadIn (tlv_text (front ++ entry_of one ∷ more)) one
read-one front more one sound fit none =
    let bytes = spelling one.tlv.form one.value in
    let first : first_value one.tlv.kind (front ++ entry_of one ∷ more) ≡ Some bytes = first-behind one.tlv.kind front (entry_of one ∷ more) none ∙ first-here (entry_of one) more in
    ap (λ (o : Option (List Entry)). option_and_then (reading one.tlv.form) (option_and_then (first_value one.tlv.kind) o)) (tlvs_of-text (front ++ entry_of one ∷ more))
    ∙ ap (option_and_then (reading one.tlv.form)) first
    ∙ read-back one.tlv.form one.value bytes sound.well_made (spelled one.tlv.form one.value sound.well_made fit)

some-read : (front : List Entry) (tlv : TlvForm) (first : Fitting Value) (rest : Fitting (List TlvValue)) (values : List TlvValue) → IsSoundTlv tlv → first_value tlv.kind front ≡ None
    → ((value : Value) → first ≡ Ok value → IsTrue (fits tlv.form value))
    → ((value : Value) (more : List TlvValue) → rest ≡ Ok more → AreRead (front ++ entry_of (record { tlv = tlv; value = value }) ∷ []) more)
    → both (with_value tlv) first rest ≡ Ok values → AreRead front values
some-read front tlv (Err path) rest values sound none fit later is = absurd cc
some-read front tlv (Ok value) (Err path) values sound none fit later is = absurd cc
some-read front tlv (Ok value) (Ok more) values sound none fit later is =
    let one : TlvValue = record { tlv = tlv; value = value } in
    let same : one ∷ more ≡ values = cc in
    let whole : (front ++ entry_of one ∷ []) ++ map entry_of more ≡ front ++ entry_of one ∷ map entry_of more = append_assoc front (entry_of one ∷ []) (map entry_of more) in
    let rest_read = subst (λ (entries : List Entry). AllByRecursion (IsReadIn (tlv_text entries)) more) whole (later value more refl) in
    subst (AreRead front) same (read-one front (map entry_of more) one sound (fit value refl) none, rest_read)

values-read : (json : Data) (tlvs earlier : List TlvForm) (front : List Entry) (values : List TlvValue) → AllByRecursion IsSoundTlv tlvs → twice_behind earlier tlvs ≡ false → AreOfKinds earlier front
    → tlvs_given tlvs json ≡ Ok values → AreRead front values
values-read json [] earlier front values sound once kinds is = let none : [] ≡ values = cc in subst (AreRead front) none tt
values-read json (tlv ∷ tlvs) earlier front values sound once kinds is =
    let apart = or_parts (list_any (λ t. t.kind == tlv.kind) earlier) (twice_behind (earlier ++ tlv ∷ []) tlvs) once in
    by (get (encode_utf8_all tlv.name) json) apart (values-read json tlvs (earlier ++ tlv ∷ [])) is
  where
    by : (found : Option Data) → (list_any (λ t. t.kind == tlv.kind) earlier ≡ false) × (twice_behind (earlier ++ tlv ∷ []) tlvs ≡ false)
        → ((front : List Entry) (values : List TlvValue) → AllByRecursion IsSoundTlv tlvs → twice_behind (earlier ++ tlv ∷ []) tlvs ≡ false → AreOfKinds (earlier ++ tlv ∷ []) front → tlvs_given tlvs json ≡ Ok values → AreRead front values)
        → given_first tlv found (tlvs_given tlvs json) ≡ Ok values → AreRead front values
    by None apart later is = later front values sound.1 apart.1 (kinds-left_out earlier tlv front kinds) is
    by (Some one) apart later is =
        some-read front tlv (named_by tlv.name (given tlv.form) (Some one)) (tlvs_given tlvs json) values sound.0 (kinds tlv.kind apart.0) (fits_named tlv.name tlv.form one)
        (λ value more made. later (front ++ entry_of (record { tlv = tlv; value = value }) ∷ []) more sound.1 apart.1 (kinds-written earlier tlv front kinds (spelling tlv.form value)) made) is

-- ---- the bytes of an object ----

pub are_read_back : AreReadBack
unfolding request_of
are_read_back tlvs json bytes sound once is = by (as_object json) (tlvs_given tlvs json) refl is
  where
    short : (values : List TlvValue) (b : Bool) → tlvs_given tlvs json ≡ Ok values → (if b then Ok (bytes_of values) else Err TooLong) ≡ Ok bytes → ReadsBack tlvs json bytes
    short values false are is = absurd cc
    short values true are is =
        let same : bytes_of values ≡ bytes = cc in
        (values, are, subst (λ (b : List ℕ). AllByRecursion (IsReadIn b) values) same (values-read json tlvs [] [] values sound once kinds-none are))

    known : (other : Option (List ℕ)) (values : Fitting (List TlvValue)) → tlvs_given tlvs json ≡ values → unless_other other (bytes_given values) ≡ Ok bytes → ReadsBack tlvs json bytes
    known (Some key) values are is = absurd cc
    known None (Err path) are is = absurd cc
    known None (Ok values) are is = short values (nat_le (length (bytes_of values)) LONGEST_TLVS) are is

    by : (members : Option Members) (values : Fitting (List TlvValue)) → tlvs_given tlvs json ≡ values → request_by_members tlvs members values ≡ Ok bytes → ReadsBack tlvs json bytes
    by None values are is = absurd cc
    by (Some members) values are is = known (first_other (names_of tlvs) members) values are is
