-- The two fields of a sequence.
use Rattle.std.proofs.Common.{◌≡◌, ◌≢◌, List, [], ◌∷◌, length, get_or, map, Some, None, refl, sym, ap, ◌∙◌, arith}
use Rattle.qmi_values.specs.declared.val.Val.{Val}
use Rattle.qmi_values.specs.Value.{Value, number, integer, text, elements, members, Values, values_of, members_in}
use Rattle.qmi_values.specs.View.{val_view}
use Rattle.sim_qmi.specs.Inputs.{first_in, second_in}

-- a value with these members is a sequence of them
members_is : (v : Value) (w : Values) → Some w ≡ members_in v → v ≡ members w
members_is (members ws) w is = let same : w ≡ ws = cc in ap members (sym same)
members_is (number n) w is = absurd cc
members_is (integer z) w is = absurd cc
members_is (text octets) w is = absurd cc
members_is (elements ws) w is = absurd cc

first_of_two : (items : List Val) (a : Val) → length items ≡ 2 → a ≡ get_or items 0 a → Some (val_view a) ≡ first_in (members (values_of (map val_view items)))
first_of_two (x ∷ y ∷ []) a two at = ap (λ (v : Val). Some (val_view v)) at
first_of_two [] a two at = absurd (omega arith)
first_of_two (x ∷ []) a two at = absurd (omega arith)
first_of_two (x ∷ y ∷ z ∷ items) a two at = absurd (omega arith)

second_of_two : (items : List Val) (a : Val) → length items ≡ 2 → a ≡ get_or items 1 a → Some (val_view a) ≡ second_in (members (values_of (map val_view items)))
second_of_two (x ∷ y ∷ []) a two at = ap (λ (v : Val). Some (val_view v)) at
second_of_two [] a two at = absurd (omega arith)
second_of_two (x ∷ []) a two at = absurd (omega arith)
second_of_two (x ∷ y ∷ z ∷ items) a two at = absurd (omega arith)

no_first : (items : List Val) → length items ≢ 2 → None ≡ first_in (members (values_of (map val_view items)))
no_first (x ∷ y ∷ []) other = absurd (other refl)
no_first [] other = refl
no_first (x ∷ []) other = refl
no_first (x ∷ y ∷ z ∷ items) other = refl

no_second : (items : List Val) → length items ≢ 2 → None ≡ second_in (members (values_of (map val_view items)))
no_second (x ∷ y ∷ []) other = absurd (other refl)
no_second [] other = refl
no_second (x ∷ []) other = refl
no_second (x ∷ y ∷ z ∷ items) other = refl

-- ---- a value whose members are these ----

members_are : (v : Value) (w : Values) (items : List Val) → Some w ≡ members_in v → values_of (map val_view items) ≡ w → members (values_of (map val_view items)) ≡ v
members_are v w items is are = ap members are ∙ sym (members_is v w is)

pub first_is : (v : Value) (w : Values) (items : List Val) (a : Val) → Some w ≡ members_in v → values_of (map val_view items) ≡ w → length items ≡ 2 → a ≡ get_or items 0 a → Some (val_view a) ≡ first_in v
first_is v w items a is are two at = first_of_two items a two at ∙ ap first_in (members_are v w items is are)

pub second_is : (v : Value) (w : Values) (items : List Val) (a : Val) → Some w ≡ members_in v → values_of (map val_view items) ≡ w → length items ≡ 2 → a ≡ get_or items 1 a → Some (val_view a) ≡ second_in v
second_is v w items a is are two at = second_of_two items a two at ∙ ap second_in (members_are v w items is are)

pub first_is_none : (v : Value) (w : Values) (items : List Val) → Some w ≡ members_in v → values_of (map val_view items) ≡ w → length items ≢ 2 → None ≡ first_in v
first_is_none v w items is are other = no_first items other ∙ ap first_in (members_are v w items is are)

pub second_is_none : (v : Value) (w : Values) (items : List Val) → Some w ≡ members_in v → values_of (map val_view items) ≡ w → length items ≢ 2 → None ≡ second_in v
second_is_none v w items is are other = no_second items other ∙ ap second_in (members_are v w items is are)
