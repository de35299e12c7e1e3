-- A buffer names the device where it has the fields of a configuration with its path.
use Rattle.std.proofs.Common.{◌≡◌, inl, inr, ℕ, ◌+◌, ◌<◌, ◌≤◌, Bool, true, false, ◌||◌, ◌==◌, nat_le, bytes_eq, IsTrue, List, length, All, refl, sym, subst, arith}
use Rattle.std.specs.Str.{all_scalars}
use Rattle.std.proofs.lemmas.Bool.{and_parts, and_from, or_left, or_right, eq-eqb, eqb-true}
use Rattle.std.proofs.lemmas.Bool.Decides.{nat_tests}
use Rattle.std.proofs.lemmas.List.Elements.{All-take, All-drop}
use Rattle.std.proofs.lemmas.Slice.Eq.{bytes_eq-Decides}
use Rattle.kit_bytes.specs.Numbers.{number_at}
use Rattle.kit_bytes.specs.Utf16.{utf16_bytes, is_utf16}
use Rattle.kit_bytes.proofs.RoundTrips.{reads_written}
use Rattle.mbim_services.specs.Paths.{HasPath}
use Rattle.mbim_services.proofs.Named.{LiesIn, path-there, path-whole, path-lies, path-is}
use Rattle.mbim_proxy.specs.Configuration.{path_of, names_device, NamesByItsLayout}

-- the path lies in the buffer, by its two tests
lies_by : (buffer : List ℕ) (within none : Bool) → nat_le (number_at buffer 0 4 + number_at buffer 4 4) (length buffer) ≡ within → (number_at buffer 4 4 == 0) ≡ none → (within || none) ≡ true → LiesIn buffer
lies_by buffer true none is_within is_none either = inr (grind (arith, nat_tests, is_within))
lies_by buffer false true is_within is_none either = inl (eqb-true (number_at buffer 4 4) 0 is_none)
lies_by buffer false false is_within is_none either = absurd (cc)

lies_tests : (buffer : List ℕ) → LiesIn buffer → (nat_le (number_at buffer 0 4 + number_at buffer 4 4) (length buffer) || number_at buffer 4 4 == 0) ≡ true
lies_tests buffer (inl none) = or_right (nat_le (number_at buffer 0 4 + number_at buffer 4 4) (length buffer)) (number_at buffer 4 4 == 0) (eq-eqb (number_at buffer 4 4) 0 none)
lies_tests buffer (inr within) =
    let is : nat_le (number_at buffer 0 4 + number_at buffer 4 4) (length buffer) ≡ true = grind (arith, nat_tests, within) in
    or_left (nat_le (number_at buffer 0 4 + number_at buffer 4 4) (length buffer)) (number_at buffer 4 4 == 0) is

module _ (device buffer : List ℕ) (scalars : IsTrue (all_scalars device)) (bytes : All (λ byte. byte < 256) buffer) where
  path_bytes : All (λ byte. byte < 256) (path_of buffer)
  path_bytes = All-take (λ byte. byte < 256) _ _ (All-drop (λ byte. byte < 256) (number_at buffer 0 4) buffer bytes)

  has_its_path : names_device device buffer ≡ true → HasPath buffer (utf16_bytes device)
  has_its_path names =
      let parts = and_parts _ (bytes_eq (path_of buffer) (utf16_bytes device)) names in
      let place = and_parts (nat_le 12 (length buffer)) _ parts.0 in
      let whole : nat_le 12 (length buffer) ≡ true = place.0 in
      let long : 12 ≤ length buffer = grind (arith, nat_tests, whole) in
      let same : path_of buffer ≡ utf16_bytes device = (bytes_eq-Decides _ _).0 parts.1 in
      let spelled : is_utf16 (path_of buffer) ≡ true = subst (λ (path : List ℕ). is_utf16 path ≡ true) (sym same) (reads_written device scalars).0 in
      path-there buffer (utf16_bytes device) long (lies_by buffer _ _ refl refl place.1) spelled path_bytes same

  names_it : HasPath buffer (utf16_bytes device) → names_device device buffer ≡ true
  names_it has =
      let long : 12 ≤ length buffer = path-whole buffer (utf16_bytes device) has in
      let whole : nat_le 12 (length buffer) ≡ true = grind (arith, nat_tests, long) in
      let same : path_of buffer ≡ utf16_bytes device = (path-is buffer (utf16_bytes device) path_bytes has).0 in
      and_from _ (bytes_eq (path_of buffer) (utf16_bytes device))
      (and_from (nat_le 12 (length buffer)) _ whole (lies_tests buffer (path-lies buffer (utf16_bytes device) has)))
      ((bytes_eq-Decides _ _).1 same)

pub names_by_its_layout : NamesByItsLayout
names_by_its_layout device buffer scalars bytes = (has_its_path device buffer scalars bytes, names_it device buffer scalars bytes)
