-- What a framing keeps to, from what it says of the length, case by case.
use Rattle.std.proofs.Common.{◌≡◌, ℕ, ◌<◌, ◌≤◌, refl}
use Rattle.framing.specs.declared.framing.Size.{Size}
use Rattle.framing.specs.declared.framing.Size.TheVariants.{Unknown, Known, Invalid}
use Rattle.framing.specs.Framing.{IsKept, IsPositive, IsWithin}

pub kept_by : (size later : Size) → ((length : ℕ) → size ≡ Known length → later ≡ Known length) → (size ≡ Invalid → later ≡ Invalid) → IsKept size later
kept_by Unknown later known invalid = tt
kept_by (Known length) later known invalid = known length refl
kept_by Invalid later known invalid = invalid refl

pub positive_by : (size : Size) → ((length : ℕ) → size ≡ Known length → 0 < length) → IsPositive size
positive_by Unknown known = tt
positive_by (Known length) known = known length refl
positive_by Invalid known = tt

pub within_by : (longest count : ℕ) (size : Size) → (size ≡ Unknown → count < longest) → ((length : ℕ) → size ≡ Known length → length ≤ longest) → IsWithin longest size count
within_by longest count Unknown unknown known = unknown refl
within_by longest count (Known length) unknown known = known length refl
within_by longest count Invalid unknown known = tt
