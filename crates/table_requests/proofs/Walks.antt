-- What the members of an object give the TLVs from a place on, and what a fault of them is.
use Rattle.std.proofs.Common.{◌≡◌, ℕ, zero, suc, ◌+◌, ◌<◌, ◌≤◌, List, [], ◌∷◌, ◌++◌, length, map, drop, get_or, Option, Some, None, Ok, Err, refl, sym, ap, ◌∙◌, subst, arith}
use Rattle.std.proofs.lemmas.List.{drop_all}
use Rattle.std.specs.List.{AllByRecursion}
use Rattle.std.specs.Str.{encode_utf8_all}
use Rattle.serde_json.specs.Data.{Data}
use Rattle.serde_json.specs.Find.{get}
use Rattle.qmi_values.specs.Value.{Value}
use Rattle.tlv_values.specs.Spelling.{spelling}
use Rattle.message_tables.specs.Tlvs.{TlvForm}
use Rattle.message_tables.specs.WellMade.{IsSoundTlv}
use Rattle.message_tables.specs.View.{tlv_view}
use Rattle.message_tables.specs.declared.tlv.TlvShape.{TlvShape}
use Rattle.message_tables.proofs.Lists.{drop_item}
use Rattle.json_values.specs.declared.path.Step.{Step}
use Rattle.json_values.specs.Paths.{Fitting, fitting_as, both}
use Rattle.json_values.specs.Given.{named_by, given}
use Rattle.json_values.proofs.Continued.{with_first, HasGiven, HasGiven-none, HasGiven-all, HasGiven-one, HasGiven-fault, in_front}
use Rattle.table_requests.specs.Requests.{TlvValue, with_value, given_first, tlvs_given, entry_of, names_of, spelled_by}

-- ---- from a place on ----

left_at : (tlvs : List TlvShape) (json : Data) (i : ℕ) (tlv : TlvShape) → i < length tlvs → tlv ≡ get_or tlvs i tlv
    → tlvs_given (map tlv_view (drop i tlvs)) json ≡ given_first (tlv_view tlv) (get (encode_utf8_all (tlv_view tlv).name) json) (tlvs_given (map tlv_view (drop (i + 1) tlvs)) json)
left_at tlvs json i tlv within is = ap (λ (l : List TlvShape). tlvs_given (map tlv_view l) json) (drop_item tlvs i tlv within is)

value-joined : (tlv : TlvForm) (value : Value) (rest : Fitting (List TlvValue)) → both (with_value tlv) (Ok value) rest ≡ both with_first (Ok (record { tlv = tlv; value = value })) rest
value-joined tlv value (Ok more) = refl
value-joined tlv value (Err path) = refl

-- the values that are given so far, and those of the TLVs from a place on
abbrev pub HasGivenTo : List TlvShape → Data → ℕ → List TlvValue → Type 0
HasGivenTo tlvs json i done = HasGiven (tlvs_given (map tlv_view tlvs) json) done (tlvs_given (map tlv_view (drop i tlvs)) json)

pub none_given : (tlvs : List TlvShape) (json : Data) → HasGivenTo tlvs json 0 []
none_given tlvs json = HasGiven-none (tlvs_given (map tlv_view tlvs) json)

pub all_given : (tlvs : List TlvShape) (json : Data) (i : ℕ) (done : List TlvValue) → length tlvs ≤ i → HasGivenTo tlvs json i done → tlvs_given (map tlv_view tlvs) json ≡ Ok done
all_given tlvs json i done end has =
    HasGiven-all (tlvs_given (map tlv_view tlvs) json) (tlvs_given (map tlv_view (drop i tlvs)) json) done has (ap (λ (l : List TlvShape). tlvs_given (map tlv_view l) json) (drop_all i tlvs end))

module _ (tlvs : List TlvShape) (json : Data) (i : ℕ) (tlv : TlvShape) (done : List TlvValue) (within : i < length tlvs) (is : tlv ≡ get_or tlvs i tlv) (has : HasGivenTo tlvs json i done) where
  found_at : (found : Option Data) → get (encode_utf8_all (tlv_view tlv).name) json ≡ found
      → tlvs_given (map tlv_view (drop i tlvs)) json ≡ given_first (tlv_view tlv) found (tlvs_given (map tlv_view (drop (i + 1) tlvs)) json)
  found_at found here = left_at tlvs json i tlv within is ∙ ap (λ (f : Option Data). given_first (tlv_view tlv) f (tlvs_given (map tlv_view (drop (i + 1) tlvs)) json)) here

  pub left_out : get (encode_utf8_all (tlv_view tlv).name) json ≡ None → HasGivenTo tlvs json (i + 1) done
  left_out none = has ∙ ap (in_front done) (found_at None none)

  module _ (one : Data) (some : get (encode_utf8_all (tlv_view tlv).name) json ≡ Some one) where
    -- the value whose bytes these are, and it is one more
    pub given_more : (bytes : List ℕ) → spelled_by (tlv_view tlv) one ≡ Ok bytes
        → (value : TlvValue) × (entry_of value ≡ record { kind = tlv.kind; value = bytes }) × HasGivenTo tlvs json (i + 1) (done ++ value ∷ [])
    given_more bytes spelled = by (named_by (tlv_view tlv).name (given (tlv_view tlv).form) (Some one)) refl spelled
      where
        by : (made : Fitting Value) → named_by (tlv_view tlv).name (given (tlv_view tlv).form) (Some one) ≡ made → fitting_as (spelling (tlv_view tlv).form) made ≡ Ok bytes
            → (value : TlvValue) × (entry_of value ≡ record { kind = tlv.kind; value = bytes }) × HasGivenTo tlvs json (i + 1) (done ++ value ∷ [])
        by (Err path) made spelled = absurd cc
        by (Ok value) made spelled =
            let same : spelling (tlv_view tlv).form value ≡ bytes = cc in
            let left = found_at (Some one) some ∙ ap (λ (m : Fitting Value). both (with_value (tlv_view tlv)) m (tlvs_given (map tlv_view (drop (i + 1) tlvs)) json)) made
            ∙ value-joined (tlv_view tlv) value (tlvs_given (map tlv_view (drop (i + 1) tlvs)) json) in (
              record { tlv = tlv_view tlv; value = value },
              ap (λ (b : List ℕ). record { kind = tlv.kind; value = b }) same,
              HasGiven-one (tlvs_given (map tlv_view tlvs) json) (tlvs_given (map tlv_view (drop i tlvs)) json) (tlvs_given (map tlv_view (drop (i + 1) tlvs)) json) done (record { tlv = tlv_view tlv; value = value }) has left,
            )

    pub misfit_is : (path : List Step) → spelled_by (tlv_view tlv) one ≡ Err path → tlvs_given (map tlv_view tlvs) json ≡ Err path
    misfit_is path spelled = by (named_by (tlv_view tlv).name (given (tlv_view tlv).form) (Some one)) refl spelled
      where
        by : (made : Fitting Value) → named_by (tlv_view tlv).name (given (tlv_view tlv).form) (Some one) ≡ made → fitting_as (spelling (tlv_view tlv).form) made ≡ Err path
            → tlvs_given (map tlv_view tlvs) json ≡ Err path
        by (Ok value) made spelled = absurd cc
        by (Err found) made spelled =
            let same : found ≡ path = cc in
            let left = found_at (Some one) some ∙ ap (λ (m : Fitting Value). both (with_value (tlv_view tlv)) m (tlvs_given (map tlv_view (drop (i + 1) tlvs)) json)) made in
            HasGiven-fault (tlvs_given (map tlv_view tlvs) json) (tlvs_given (map tlv_view (drop i tlvs)) json) (tlvs_given (map tlv_view (drop (i + 1) tlvs)) json) done found has left ∙ ap (λ (p : List Step). Err p) same

pub sound_at : (tlvs : List TlvShape) (i : ℕ) (tlv : TlvShape) → AllByRecursion IsSoundTlv (map tlv_view tlvs) → i < length tlvs → tlv ≡ get_or tlvs i tlv → IsSoundTlv (tlv_view tlv)
sound_at [] i tlv sound within is = absurd (omega arith)
sound_at (first ∷ tlvs) zero tlv sound within is = subst (λ (t : TlvShape). IsSoundTlv (tlv_view t)) (sym is) sound.0
sound_at (first ∷ tlvs) (suc i) tlv sound within is = sound_at tlvs i tlv sound.1 (omega arith) is

pub names_are : (tlvs : List TlvShape) → names_of (map tlv_view tlvs) ≡ map (λ tlv. tlv.name) tlvs
names_are [] = refl
names_are (tlv ∷ tlvs) = ap (λ (names : List (List ℕ)). (tlv_view tlv).name ∷ names) (names_are tlvs)
