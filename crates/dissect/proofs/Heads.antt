-- A whole message has its head.
use Rattle.std.proofs.Common.{◌≡◌, ℕ, ◌+◌, ◌≤◌, Bool, true, false, not, ◌==◌, ◌||◌, List, length, slice_index, refl, arith}
use Rattle.std.specs.Prelude.{if◌then◌else◌, nat_lt}
use Rattle.std.proofs.lemmas.Bool.Decides.{nat_tests}
use Rattle.kit_bytes.specs.Numbers.{number_at}
use Rattle.framing.specs.declared.framing.Size.{Size}
use Rattle.framing.specs.declared.framing.Size.TheVariants.{Unknown, Known, Invalid}
use Rattle.framing.specs.Framing.{IsMessage}
use Rattle.qmux_frame.specs.Frame as qmux
use Rattle.mbim_frame.specs.Numbers.{u32_at}
use Rattle.mbim_frame.specs.Frame as mbim

-- the length is open, or the message bad, only where it isn't known
known_open : (open_yet : Bool) (size : Size) (count : ℕ) → (if open_yet then Unknown else size) ≡ Known count → size ≡ Known count
known_open true size count is = absurd (cc)
known_open false size count is = is

known_good : (bad : Bool) (size : Size) (count : ℕ) → (if bad then Invalid else size) ≡ Known count → (bad ≡ false) × (size ≡ Known count)
known_good true size count is = absurd (cc)
known_good false size count is = (refl, is)

first_false : (a b : Bool) → (a || b) ≡ false → a ≡ false
first_false true b is = absurd (cc)
first_false false b is = refl

qmi_counts : (n count : ℕ) → nat_lt n 11 ≡ false → Known (n + 1) ≡ Known count → 12 ≤ count
qmi_counts n count long is =
    let same : n + 1 ≡ count = cc in
    grind (arith, nat_tests, long, same)

pub qmi_has_head : (m : List ℕ) → IsMessage qmux.size_of m → 12 ≤ length m
qmi_has_head m is =
    let n : ℕ = number_at m 1 2 in
    let known : Size = Known (n + 1) in
    let short : Size = if nat_lt n 11 then Invalid else known in
    let begun : Size = if nat_lt (length m) 3 then Unknown else short in
    let first : Size = if not (slice_index m 0 == 1) then Invalid else begun in
    let good = known_good (nat_lt n 11) known (length m) (known_open (nat_lt (length m) 3) short (length m) (known_good (not (slice_index m 0 == 1)) begun (length m) (known_open (length m == 0) first (length m) is)).1) in
    qmi_counts n (length m) good.0 good.1

mbim_counts : (n count : ℕ) → nat_lt n 12 ≡ false → Known n ≡ Known count → 12 ≤ count
mbim_counts n count long is =
    let same : n ≡ count = cc in
    grind (arith, nat_tests, long, same)

pub mbim_has_head : (m : List ℕ) → IsMessage mbim.size_of m → 12 ≤ length m
mbim_has_head m is =
    let n : ℕ = u32_at m 4 in
    let known : Size = Known n in
    let far : Bool = nat_lt 65556 n in
    let good = known_good (nat_lt n 12 || far) known (length m) (known_open (nat_lt (length m) 8) (if nat_lt n 12 || far then Invalid else known) (length m) is) in
    mbim_counts n (length m) (first_false (nat_lt n 12) far good.0) good.1
