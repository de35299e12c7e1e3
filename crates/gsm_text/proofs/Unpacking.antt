-- Packed codes are unpacked.
use Rattle.std.proofs.Common.{◌≡◌, ℕ, zero, suc, ◌+◌, ◌*◌, ◌/◌, ◌%◌, ◌^◌, ◌<◌, List, [], ◌∷◌, length, refl, ap, ◌∙◌, arith, All}
use Rattle.std.specs.List.{AllByRecursion}
use Rattle.std.proofs.Math.Nat.{mul-div_cancel_left, pow-le-pow_right}
use Rattle.std.proofs.lemmas.Nat.{pow-add, pow_pos, shl_below}
use Rattle.std.proofs.lemmas.List.Elements.{All-get_or}
use Rattle.kit_bytes.proofs.Lists.{all_from}
use Rattle.gsm_text.specs.Packing.{number_of, digits_of, octets_for, from_bit, pack}
use Rattle.gsm_text.specs.Laws.{UnpacksPacked}

-- digits of a number that is small enough give it
number_of-digits_of : (count number : ℕ) → number < 2 ^ (8 * count) → number_of 256 (digits_of 256 count number) ≡ number
number_of-digits_of zero number small = omega arith
number_of-digits_of (suc count) number small =
    let more : 8 * suc count ≡ 8 + 8 * count = omega arith in
    let within : number < 256 * 2 ^ (8 * count) = rw (more, pow-add 2 8 (8 * count)) at small in
    let rest = number_of-digits_of count (number / 256) (omega arith) in
    rw rest (omega arith)

number_of-below : (codes : List ℕ) → AllByRecursion (λ code. code < 128) codes → number_of 128 codes < 2 ^ (7 * length codes)
number_of-below [] all = omega arith
number_of-below (code ∷ codes) all =
    let more : 7 * length (code ∷ codes) ≡ 7 + 7 * length codes = omega arith in
    let rest = number_of-below codes all.1 in
    let here : code < 128 = all.0 in
    rw (more, pow-add 2 7 (7 * length codes)) (omega arith)

digits_of-number_of : (codes : List ℕ) → AllByRecursion (λ code. code < 128) codes → digits_of 128 (length codes) (number_of 128 codes) ≡ codes
digits_of-number_of [] all = refl
digits_of-number_of (code ∷ codes) all =
    let here : code < 128 = all.0 in
    let low : (code + 128 * number_of 128 codes) % 128 ≡ code = omega arith in
    let high : (code + 128 * number_of 128 codes) / 128 ≡ number_of 128 codes = omega arith in
    rw (low, high) (ap (λ (l : List ℕ). code ∷ l) (digits_of-number_of codes all.1))

pub all_below : (codes : List ℕ) → All (λ code. code < 128) codes → AllByRecursion (λ code. code < 128) codes
all_below codes all = all_from (λ code. code < 128) codes (λ k d within. All-get_or (λ code. code < 128) codes k d within all)

pub unpacks_packed : UnpacksPacked
unpacks_packed codes fill all few =
    let below = all_below codes all in
    let number = number_of 128 codes in
    let bits = fill + 7 * length codes in
    let small : number * 2 ^ fill < 2 ^ (7 * length codes + fill) = shl_below number (7 * length codes) fill (number_of-below codes below) in
    let fits : 2 ^ fill * number < 2 ^ (8 * octets_for bits) = omega (arith, pow-le-pow_right {n = 2} (omega arith) {i = 7 * length codes + fill} {j = 8 * octets_for bits} (omega arith)) in
    let read : number_of 256 (pack codes fill) ≡ 2 ^ fill * number = number_of-digits_of (octets_for bits) (2 ^ fill * number) fits in
    let whole : from_bit (pack codes fill) fill ≡ number = ap (λ (n : ℕ). n / 2 ^ fill) read ∙ mul-div_cancel_left number (pow_pos fill) in
    ap (digits_of 128 (length codes)) whole ∙ digits_of-number_of codes below
