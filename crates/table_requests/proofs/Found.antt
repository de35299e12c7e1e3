-- The row for a type among the rows from a place on.
use Rattle.std.proofs.Common.{◌≡◌, ℕ, ◌+◌, ◌<◌, ◌≤◌, ◌==◌, true, false, List, length, map, drop, get_or, Option, Some, None, cond, ap, ◌∙◌, arith}
use Rattle.std.proofs.lemmas.Bool.Decides.{nat_tests}
use Rattle.std.proofs.lemmas.List.{drop_all}
use Rattle.std.specs.List.{find}
use Rattle.message_tables.specs.declared.tlv.TlvShape.{TlvShape}
use Rattle.message_tables.specs.Tlvs.{TlvForm}
use Rattle.message_tables.specs.View.{tlv_view}
use Rattle.message_tables.proofs.Lists.{drop_item}

same : (a b : ℕ) → a ≡ b → (a == b) ≡ true
same a b is = grind (arith, nat_tests, is)

other : (a b : ℕ) → (a ≡ b → ⊥) → (a == b) ≡ false
other a b isnt = grind (arith, nat_tests, isnt)

module _ (kind : ℕ) (forms : List TlvShape) where
  abbrev found : List TlvShape → Option TlvForm
  found list = find (λ (form : TlvForm). form.kind == kind) (map tlv_view list)

  module _ (place : ℕ) (form : TlvShape) (within : place < length forms) (is : form ≡ get_or forms place form) where
    pub here : form.kind ≡ kind → found (drop place forms) ≡ Some (tlv_view form)
    here does = ap found (drop_item forms place form within is) ∙ ap (λ b. cond b (Some (tlv_view form)) (found (drop (place + 1) forms))) (same form.kind kind does)

    pub behind : (form.kind ≡ kind → ⊥) → found (drop place forms) ≡ found (drop (place + 1) forms)
    behind doesnt = ap found (drop_item forms place form within is) ∙ ap (λ b. cond b (Some (tlv_view form)) (found (drop (place + 1) forms))) (other form.kind kind doesnt)

  pub nowhere : (place : ℕ) → length forms ≤ place → found (drop place forms) ≡ None
  nowhere place all = ap found (drop_all place forms all)
