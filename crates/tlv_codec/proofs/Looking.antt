-- Looking for the first TLV of a kind.
use Rattle.std.proofs.Common.{◌≡◌, ℕ, ◌≤◌, Bool, true, false, ◌==◌, List, [], ◌∷◌, ◌++◌, Option, Some, None, length, refl, sym, ◌∙◌, ap, subst}
use Rattle.std.specs.Prelude.{if◌then◌else◌}
use Rattle.std.specs.Option.{option_or}
use Rattle.framing.specs.Framing.{AreBytes}
use Rattle.tlv_codec.specs.declared.tlv.Tlv.{Tlv}
use Rattle.tlv_codec.specs.declared.look.First.TheVariants.{Found, Missing}
use Rattle.tlv_codec.specs.Reading.{spans_of, first_tlv, StandsAt}
use Rattle.tlv_codec.specs.Looking.{HoldsFirst, FindsFirst}
use Rattle.tlv_codec.proofs.Places.{holds_first, first_value-none}
use Rattle.tlv_codec.proofs.Reading.{HasRead, HasRead-more, HasRead-all}

-- the first of a kind among the TLVs up to a place
pub record HasLooked (bytes : List ℕ) (kind place : ℕ) (first : Option Tlv) : Type 0 where
  pub tlvs : List Tlv
  pub read : HasRead bytes place tlvs
  pub first_is : first ≡ first_tlv kind tlvs

first_tlv-push : (kind : ℕ) (tlvs : List Tlv) (tlv : Tlv) → first_tlv kind (tlvs ++ tlv ∷ []) ≡ option_or (first_tlv kind tlvs) (first_tlv kind (tlv ∷ []))
first_tlv-push kind [] tlv = refl
first_tlv-push kind (first ∷ tlvs) tlv =
    let Pushed : Bool → Type 0 = λ (b : Bool). (if b then Some first else first_tlv kind (tlvs ++ tlv ∷ [])) ≡ option_or (if b then Some first else first_tlv kind tlvs) (first_tlv kind (tlv ∷ [])) in
    elim (first.kind == kind) as (λ b. Pushed b) [ true ↦ refl | false ↦ first_tlv-push kind tlvs tlv ]

pub HasLooked-more : (bytes : List ℕ) (kind place : ℕ) (first : Option Tlv) (tlv : Tlv) → AreBytes bytes → StandsAt bytes place tlv → HasLooked bytes kind place first
    → HasLooked bytes kind tlv.end (option_or first (first_tlv kind (tlv ∷ [])))
HasLooked-more bytes kind place first tlv are stands looked = record {
  tlvs = looked.tlvs ++ tlv ∷ [];
  read = HasRead-more bytes place looked.tlvs tlv are stands looked.read;
  first_is = ap (λ (o : Option Tlv). option_or o (first_tlv kind (tlv ∷ []))) looked.first_is ∙ sym (first_tlv-push kind looked.tlvs tlv);
}

pub HasLooked-found : (bytes : List ℕ) (kind place : ℕ) (tlv : Tlv) → length bytes ≤ place → HasLooked bytes kind place (Some tlv) → FindsFirst bytes kind (Found tlv)
HasLooked-found bytes kind place tlv end looked =
    let all = HasRead-all bytes place looked.tlvs end looked.read in
    let first : first_tlv kind (spans_of 0 all.0) ≡ Some tlv = ap (first_tlv kind) (sym all.1.spans) ∙ sym looked.first_is in
    (all.0, all.1.read, first, subst (λ (l : List ℕ). HoldsFirst l kind all.0 tlv) (sym all.1.whole) (holds_first all.0 kind tlv first))

pub HasLooked-missing : (bytes : List ℕ) (kind place : ℕ) → length bytes ≤ place → HasLooked bytes kind place None → FindsFirst bytes kind Missing
HasLooked-missing bytes kind place end looked =
    let all = HasRead-all bytes place looked.tlvs end looked.read in
    let none : first_tlv kind (spans_of 0 all.0) ≡ None = ap (first_tlv kind) (sym all.1.spans) ∙ sym looked.first_is in
    (all.0, all.1.read, first_value-none all.0 0 kind none)
