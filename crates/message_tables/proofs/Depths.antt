-- How deep values nest: by it the reading of a description ends.
use Rattle.std.proofs.Common.{◌≡◌, ℕ, zero, suc, ◌<◌, ◌≤◌, ◌⊎◌, inl, inr, List, [], ◌∷◌, length, get_or, Option, Some, None, Bool, true, false, cond, Ordering, Less, Equal, Greater, nat_cmp, ap, arith}
use Rattle.std.specs.Ordering.{match_ordering}
use Rattle.std.specs.Cmp.Lexicographic.{slice_cmp}
use Rattle.serde_json.specs.Data.{Data, null, boolean, number, string, array, object, Items, Members, no_members, member, depth, items_depth, members_depth}
use Rattle.serde_json.specs.Find.{get_member}
use Rattle.serde_json.specs.View.{view, items_view}
use Rattle.serde_json.specs.declared.value.Value.{Value}
use Rattle.message_tables.specs.declared.fault.MemberName.{MemberName}
use Rattle.message_tables.specs.Members.{member_text, value_in, are_objects, objects_in}

either : (o : Ordering) (here later : Option Data) (found : Data) → match_ordering o later here later ≡ Some found → (here ≡ Some found) ⊎ (later ≡ Some found)
either Less here later found is = inr is
either Equal here later found is = inl is
either Greater here later found is = inr is

depth_found : (name : List ℕ) (parts : Members) (found : Data) → get_member name parts ≡ Some found → depth found ≤ members_depth parts
depth_found name no_members found is = absurd cc
depth_found name (member other value more) found is =
    elim (either (slice_cmp nat_cmp name other) (Some value) (get_member name more) found is) [
      | inl here ↦ let same : value ≡ found = cc in let deep = ap depth same in omega arith
      | inr later ↦ let deep = depth_found name more found later in omega arith
    ]

-- a member is less deep than its object
pub depth_value : (which : MemberName) (entry found : Data) → value_in which entry ≡ Some found → depth found < depth entry
depth_value which null found is = absurd cc
depth_value which (boolean b) found is = absurd cc
depth_value which (number n) found is = absurd cc
depth_value which (string s) found is = absurd cc
depth_value which (array values) found is = absurd cc
depth_value which (object parts) found is = let deep = depth_found (member_text which) parts found is in omega arith

-- a list's value is no deeper than the list
pub depth_item : (values : List Value) (i : ℕ) (value : Value) → i < length values → value ≡ get_or values i value → depth (view value) ≤ items_depth (items_view values)
depth_item [] i value within is = absurd (omega arith)
depth_item (first ∷ more) zero value within is = let deep = ap (λ v. depth (view v)) is in omega arith
depth_item (first ∷ more) (suc i) value within is = let deep = depth_item more i value (omega arith) is in omega arith

listed_is : (b : Bool) (values found : Items) → cond b (Some values) None ≡ Some found → values ≡ found
listed_is true values found is = cc
listed_is false values found is = absurd cc

-- the values of a list are less deep than the list
pub depth_listed : (entry : Data) (found : Items) → objects_in entry ≡ Some found → items_depth found < depth entry
depth_listed null found is = absurd cc
depth_listed (boolean b) found is = absurd cc
depth_listed (number n) found is = absurd cc
depth_listed (string s) found is = absurd cc
depth_listed (array values) found is = let same = ap items_depth (listed_is (are_objects values) values found is) in omega arith
depth_listed (object parts) found is = absurd cc

pub ruleset shallow = (depth_value, depth_listed)
