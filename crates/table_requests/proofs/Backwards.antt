-- TLVs from the last one on.
use Rattle.std.proofs.Common.{◌≡◌, ℕ, zero, suc, ◌+◌, ◌-◌, ◌<◌, ◌≤◌, Bool, List, [], ◌∷◌, length, map, drop, get_or, refl, ap, ◌∙◌, arith}
use Rattle.std.proofs.lemmas.List.{drop_all}
use Rattle.std.specs.List.{AllByRecursion}
use Rattle.serde_json.specs.Data.{Members}
use Rattle.tlv_codec.specs.declared.tlv.Tlv.{Tlv}
use Rattle.message_tables.specs.Tlvs.{TlvForm}
use Rattle.message_tables.proofs.Lists.{drop_item}
use Rattle.dissect.specs.Places.{entry_at}
use Rattle.json_values.specs.Showing.{Showing}
use Rattle.table_requests.specs.Tlvs.{with_tlv, with_tlvs}

pub holds_at : {A : Type 0} (P : A → Type 0) (list : List A) (i : ℕ) (none : A) → AllByRecursion P list → i < length list → P (get_or list i none)
holds_at P [] i none all within = absurd (omega (arith, within))
holds_at P (first ∷ list) zero none all within = all.0
holds_at P (first ∷ list) (suc i) none all within = holds_at P list i none all.1 (omega (arith, within))

same_at : {A : Type 0} (list : List A) (i : ℕ) (none other : A) → i < length list → get_or list i none ≡ get_or list i other
same_at [] i none other within = absurd (omega (arith, within))
same_at (first ∷ list) zero none other within = refl
same_at (first ∷ list) (suc i) none other within = same_at list i none other (omega (arith, within))

module _ (showing : Showing) (answer : Bool) (forms : List TlvForm) (bytes : List ℕ) (list : List Tlv) (so_far : Members) where
  -- the TLVs from a place on
  abbrev pub put_from : ℕ → Members
  put_from place = with_tlvs showing answer forms (map (entry_at bytes) (drop place list)) so_far

  pub none_yet : put_from (length list - 0) ≡ so_far
  none_yet = ap (λ (l : List Tlv). with_tlvs showing answer forms (map (entry_at bytes) l) so_far) (drop_all (length list - 0) list (omega arith))

  pub one_more : (done i : ℕ) (none : Tlv) → i ≡ length list - 1 - done → done < length list
      → put_from (length list - (done + 1)) ≡ with_tlv showing answer forms (entry_at bytes (get_or list i none)) (put_from (length list - done))
  one_more done i none place within =
      let tlv : Tlv = get_or list i none in
      let inside : i < length list = omega (arith, place, within) in
      let before : length list - (done + 1) ≡ i = omega (arith, place) in
      let behind : i + 1 ≡ length list - done = omega (arith, place, within) in
      ap put_from before ∙ ap (λ (l : List Tlv). with_tlvs showing answer forms (map (entry_at bytes) l) so_far) (drop_item list i tlv inside (same_at list i none tlv inside))
      ∙ ap (λ (n : ℕ). with_tlv showing answer forms (entry_at bytes tlv) (put_from n)) behind

  pub all_done : (done : ℕ) → length list ≤ done → put_from (length list - done) ≡ put_from 0
  all_done done all = let none : length list - done ≡ 0 = omega (arith, all) in ap put_from none
