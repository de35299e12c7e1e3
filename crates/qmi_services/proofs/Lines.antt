-- The lines of the table, by their services and ids.
use Rattle.std.proofs.Common.{◌≡◌, ℕ, true, false, List, Option, Some, None, arith, rules, refl, sym, ◌∙◌, ap, subst}
use Rattle.std.proofs.lemmas.Bool.{eq-eqb}
use Rattle.std.proofs.lemmas.Bool.Decides.{nat_tests}
use Rattle.std.specs.Cmp.Derive.{both_true}
use Rattle.std.proofs.lemmas.Option.{same_Some}
use Rattle.std.specs.Prelude.{find, ◌==◌, ◌&&◌, IsSome, option_map}
use Rattle.std.specs.List.{AllByRecursion}
use Rattle.qmi_requests.specs.declared.QmiRequest.{QmiRequest}
use Rattle.qmi_requests.specs.declared.QmiRequest.TheVariants as request
use Rattle.qmi_services.specs.Table.{Row, row_of, rows}
use Rattle.qmi_services.specs.Answers.{AreWellMade}
use Rattle.qmi_services.specs.Modem.{is_at, row_at, IsWellMadeRow}
use Rattle.qmi_services.proofs.Found.{find-holds}

pub row_at-is : (all : List Row) (service id : ℕ) → all ≡ rows → find (is_at service id) all ≡ row_at service id
unfolding row_at
row_at-is all service id is = ap (find (is_at service id)) is

well_made : AllByRecursion IsWellMadeRow rows
well_made = search rules

pub row-well_made : (all : List Row) (service id : ℕ) (row : Row) → all ≡ rows → Some row ≡ find (is_at service id) all → IsWellMadeRow row
row-well_made all service id row is found = find-holds IsWellMadeRow (is_at service id) all row (subst (AllByRecursion IsWellMadeRow) (sym is) well_made) (sym found)

pub both_are : (a b service id : ℕ) → a ≡ service → b ≡ id → ((a == service) && (b == id)) ≡ true
both_are a b service id same_service same_id = both_true (eq-eqb a service same_service) (eq-eqb b id same_id)

pub other_service : (a b service id : ℕ) → (a ≡ service → ⊥) → ((a == service) && (b == id)) ≡ false
other_service a b service id other = grind (arith, nat_tests)

pub other_id : (a b service id : ℕ) → (b ≡ id → ⊥) → ((a == service) && (b == id)) ≡ false
other_id a b service id other = grind (arith, nat_tests)

pub other-eqb : (a b : ℕ) → (a ≡ b → ⊥) → (a == b) ≡ false
other-eqb a b other = grind (arith, nat_tests)

-- each request's line is found
pub row_found : (body : QmiRequest) → row_at (row_of body).service (row_of body).id ≡ Some (row_of body)
unfolding row_at
row_found request.GetServiceVersionInfo = refl
row_found _ = refl

pub outputs-well_made : (body : QmiRequest) → AreWellMade (row_of body).output
unfolding row_at
outputs-well_made body = (row-well_made rows (row_of body).service (row_of body).id (row_of body) refl (sym (row_found body))).output

pub line-found : (body : QmiRequest) (all : List Row) (service id : ℕ) → all ≡ rows → service ≡ (row_of body).service → id ≡ (row_of body).id → find (is_at service id) all ≡ Some (row_of body)
line-found body all service id is service_is id_is = row_at-is all service id is ∙ ap (λ (n : ℕ). row_at n id) service_is ∙ ap (row_at (row_of body).service) id_is ∙ row_found body

module _ {A : Type 0} (view : A → Row) (row : Row) where
  pub is-there : (found : Option A) → option_map view found ≡ Some row → IsSome found
  is-there None is = absurd cc
  is-there (Some a) is = refl

  pub is-line : (found : Option A) (a : A) → option_map view found ≡ Some row → found ≡ Some a → view a ≡ row
  is-line found a is there = same_Some (view a) row (ap (option_map view) (sym there) ∙ is)
