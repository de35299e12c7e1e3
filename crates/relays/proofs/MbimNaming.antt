-- The buffer of a configuration names its device.
use Rattle.std.proofs.Common.{◌≡◌, ℕ, ◌+◌, ◌-◌, ◌%◌, ◌<◌, ◌^◌, Bool, true, ◌&&◌, ◌||◌, ◌==◌, nat_le, bytes_eq, List, [], ◌∷◌, ◌++◌, length, take, slice_range, replicate, Option, unwrap_or, option_map, refl, ap, ◌∙◌, arith, length-append}
use Rattle.std.proofs.lemmas.Bool.{le-leb}
use Rattle.std.proofs.lemmas.List.{take_at}
use Rattle.std.proofs.lemmas.Slice.Eq.{bytes_eq-Decides}
use Rattle.kit_bytes.specs.Utf16.{utf16_bytes}
use Rattle.kit_bytes.proofs.Lengths.{utf16_short}
use Rattle.mbim_frame.specs.Numbers.{u32_at, u32_bytes}
use Rattle.mbim_frame.proofs.Numbers.{u32_at-bytes, u32_at-behind}
use Rattle.mbim_fields.specs.Canon.{Laid, nothing, bytes_of, add, point}
use Rattle.mbim_fields.proofs.RoundTrip.{number_in-is}
use Rattle.mbim_fields.proofs.Writings.{lay_text-is}
use Rattle.mbim_services.specs.Requests.{IsInRange}
use Rattle.mbim_requests.specs.declared.MbimRequest.TheVariants.{ProxyConfiguration}
use Rattle.mbim_session.specs.Requests.{buffer_for}
use Rattle.mbim_proxy.specs.Configuration.{names_device}

-- the test of a buffer of this length, that says these numbers of the place and the length of its path
abbrev names_by : (spelled buffer : List ℕ) (count offset size : ℕ) → Bool
names_by spelled buffer count offset size = (nat_le 12 count && (nat_le (offset + size) count || size == 0)) && bytes_eq (slice_range buffer offset (offset + size)) spelled

module _ (spelled pad : List ℕ) (small : length spelled < 2 ^ 32) where
  abbrev pointed : List ℕ
  pointed = u32_bytes 12 ++ (u32_bytes (length spelled) ++ (u32_bytes 30 ++ (spelled ++ pad)))

  offset_is : u32_at pointed 0 ≡ 12
  offset_is = u32_at-bytes 12 (u32_bytes (length spelled) ++ (u32_bytes 30 ++ (spelled ++ pad))) (omega arith)

  size_is : u32_at pointed 4 ≡ length spelled
  size_is = u32_at-behind (u32_bytes 12) (u32_bytes (length spelled) ++ (u32_bytes 30 ++ (spelled ++ pad))) 4 0 refl ∙ u32_at-bytes (length spelled) (u32_bytes 30 ++ (spelled ++ pad)) small

  data_is : slice_range pointed 12 (12 + length spelled) ≡ spelled
  data_is = ap (λ (n : ℕ). take n (spelled ++ pad)) (omega arith) ∙ take_at spelled pad (length spelled) refl

  pointed_names : names_by spelled pointed (length pointed) (u32_at pointed 0) (u32_at pointed 4) ≡ true
  pointed_names =
      let long : length pointed ≡ 12 + length spelled + length pad = omega (arith, length-append spelled pad) in
      ap (λ (o : ℕ). names_by spelled pointed (length pointed) o (u32_at pointed 4)) offset_is
      ∙ ap (names_by spelled pointed (length pointed) 12) size_is
      ∙ ap (λ (b : Bool). (b && (nat_le (12 + length spelled) (length pointed) || length spelled == 0)) && bytes_eq (slice_range pointed 12 (12 + length spelled)) spelled) (le-leb 12 (length pointed) (omega (arith, long)))
      ∙ ap (λ (b : Bool). (b || length spelled == 0) && bytes_eq (slice_range pointed 12 (12 + length spelled)) spelled) (le-leb (12 + length spelled) (length pointed) (omega (arith, long)))
      ∙ (bytes_eq-Decides (slice_range pointed 12 (12 + length spelled)) spelled).1 data_is

-- what points at bytes, and then a timeout
abbrev made_of : Option Laid → List ℕ
made_of laid = unwrap_or (option_map bytes_of (option_map (λ l. add l (u32_bytes 30)) laid)) []

names_by_data : (spelled : List ℕ) → length spelled < 2 ^ 32 → (let made = made_of (point 12 nothing spelled) in names_by spelled made (length made) (u32_at made 0) (u32_at made 4)) ≡ true
names_by_data [] small = refl
names_by_data (byte ∷ bytes) small =
    let pad : List ℕ = replicate ((4 - length (byte ∷ bytes) % 4) % 4) 0 in
    rw (number_in-is 4 (length (byte ∷ bytes)) small) (pointed_names (byte ∷ bytes) pad small)

pub names_itself : (path : List ℕ) → IsInRange (ProxyConfiguration path) → names_device path (buffer_for (ProxyConfiguration path)) ≡ true
names_itself path range =
    let small : length (utf16_bytes path) < 2 ^ 32 = omega (arith, range.1, utf16_short path) in
    rw (lay_text-is 12 nothing path range.0) (names_by_data (utf16_bytes path) small)
