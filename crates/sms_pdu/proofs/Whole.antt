-- Bytes without a fault have their fields.
use Rattle.std.proofs.Common.{◌≡◌, ℕ, ◌+◌, ◌-◌, ◌≤◌, nat_lt, nat_le, Bool, true, false, ◌&&◌, cond, List, [], ◌∷◌, length, refl, arith, Option, Some, None, find, option_map}
use Rattle.std.specs.List.{AllByRecursion}
use Rattle.std.specs.Option.{option_or}
use Rattle.std.proofs.lemmas.Bool.Decides.{nat_tests}
use Rattle.sms_pdu.specs.declared.fields.Field.{Field}
use Rattle.sms_pdu.specs.declared.pdu.PduFault.{PduFault}
use Rattle.sms_pdu.specs.declared.pdu.PduFault.TheVariants.{Kind, Short}
use Rattle.sms_pdu.specs.Fields.{address_place, address_size, data_place, data_size, fault_in, fields, first_place, header_size, is_short, kind, length_place, short_field, short_header}

none_found : {X : Type 0} (p : X → Bool) (xs : List X) → find p xs ≡ None → AllByRecursion (λ x. p x ≡ false) xs
none_found p [] none = tt
none_found {X} p (x ∷ xs) none = by (p x) refl (none_found p xs) none
  where
    by : (b : Bool) → p x ≡ b → (find p xs ≡ None → AllByRecursion (λ x. p x ≡ false) xs) → cond b (Some x) (find p xs) ≡ None → AllByRecursion (λ x. p x ≡ false) (x ∷ xs)
    by true passes more e = absurd (cc)
    by false fails more e = (fails, more e)

no_faults : (other : Bool) (field : Option Field) (header : Option PduFault) → cond other (Some Kind) (option_or (option_map (λ (field : Field). Short field.start) field) header) ≡ None
    → (field ≡ None) × (header ≡ None)
no_faults true field header none = absurd (cc)
no_faults false (Some field) header none = absurd (cc)
no_faults false None header none = (refl, none)

faultless : (bytes : List ℕ) → fault_in bytes ≡ None → (short_field bytes ≡ None) × (short_header bytes ≡ None)
faultless bytes none = no_faults (nat_lt (first_place bytes) (length bytes) && nat_le 2 (kind bytes)) (short_field bytes) (short_header bytes) none

-- the fields have as many octets as they tell
pub record IsWhole (bytes : List ℕ) : Type 0 where
  pub address : address_place bytes + 2 + address_size bytes ≤ length bytes
  pub user_data : data_place bytes + data_size bytes ≤ length bytes
  pub header : header_size bytes ≤ data_size bytes

long_enough : (end start size : ℕ) → nat_lt (end - start) size ≡ false → size ≤ end - start
long_enough end start size is = grind (arith, nat_tests, is)

not_shorter : (a b : ℕ) (fault : PduFault) → cond (nat_lt a b) (Some fault) None ≡ None → b ≤ a
not_shorter a b fault none = by (nat_lt a b) refl none
  where
    by : (test : Bool) → nat_lt a b ≡ test → cond test (Some fault) None ≡ None → b ≤ a
    by true less e = absurd (cc)
    by false not_less e = grind (arith, nat_tests, not_less)

pub whole : (bytes : List ℕ) → fault_in bytes ≡ None → IsWhole bytes
whole bytes none =
    let each = none_found (is_short bytes) (fields bytes) (faultless bytes none).0 in
    let kind = long_enough (length bytes) (address_place bytes + 1) 1 each.1.1.1.1.1.0 in
    let octets = long_enough (length bytes) (address_place bytes + 2) (address_size bytes) each.1.1.1.1.1.1.0 in
    let count = long_enough (length bytes) (length_place bytes) 1 each.1.1.1.1.1.1.1.1.1.1.0 in
    let octets_behind = long_enough (length bytes) (data_place bytes) (data_size bytes) each.1.1.1.1.1.1.1.1.1.1.1.0 in
    record { address = omega arith; user_data = omega arith; header = not_shorter (data_size bytes) (header_size bytes) (Short (data_place bytes)) (faultless bytes none).1 }
