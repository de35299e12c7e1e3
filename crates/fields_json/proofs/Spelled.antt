-- The texts of UUIDs and of addresses tell their bytes.
use Rattle.std.proofs.Common.{◌≡◌, ℕ, zero, suc, ◌*◌, ◌/◌, ◌%◌, ◌<◌, inl, List, [], ◌∷◌, ◌++◌, length, slice_index, codes, decimal, Option, Some, None, flat_map, refl, sym, ap, ap₂, ◌∙◌, subst, arith}
use Rattle.std.proofs.lemmas.Bool.Decides.{nat_tests}
use Rattle.std.proofs.lemmas.Fmt.{decimal_injective, decimal_is_IsNumeral, IsAscii-decimal}
use Rattle.std.proofs.lemmas.List.{append-nil}
use Rattle.std.proofs.lemmas.Str.{IsAscii-append}
use Rattle.std.proofs.lemmas.Str.Ascii.{IsAscii-nil}
use Rattle.std.specs.Char.{digit_value}
use Rattle.std.specs.Str.{IsAscii}
use Rattle.std.specs.Str.Parse.{AllDigits}
use Rattle.framing.specs.Framing.{AreBytes}
use Rattle.uuid.specs.Text.{lower, hex_digit, parsed_hyphenated}
use Rattle.uuid.proofs.RoundTrips.{parses_hyphenated_text}
use Rattle.uuid.proofs.TextLemmas.{all_fit, hex_digit_ascii, hyphenated_ascii, table_at}
use Rattle.print_text.specs.Texts.{ipv4_text, lower_hex_pair}
use Rattle.mbimcli_print.specs.declared.texts.Family.{Family}
use Rattle.mbimcli_print.specs.declared.texts.Family.TheVariants.{Ipv4, Ipv6}
use Rattle.mbimcli_print.specs.Texts.{uuid_text, group, groups, ipv6_text, address_text}

-- ---- lists ----

abbrev head_of : List ℕ → ℕ
head_of [] = 0
head_of (first ∷ rest) = first

abbrev tail_of : List ℕ → List ℕ
tail_of [] = []
tail_of (first ∷ rest) = rest

abbrev found : Option (List ℕ) → List ℕ
found None = []
found (Some list) = list

pub same_found : (a b : List ℕ) → Some a ≡ Some b → a ≡ b
same_found a b same = ap found same

-- each is a byte
abbrev AllSmall : List ℕ → Type 0
AllSmall [] = Unit {0}
AllSmall (byte ∷ bytes) = (byte < 256) × AllSmall bytes

all_small : (bytes : List ℕ) → AreBytes bytes → AllSmall bytes
all_small [] are = tt
all_small (byte ∷ bytes) are = (are zero, all_small bytes (λ at. are (suc at)))

pub ascii_bytes : (text : List ℕ) → IsAscii text → AreBytes text
ascii_bytes text ascii at = let less = ascii at in omega (arith, less)

-- ---- UUIDs ----

pub uuid_ascii : (bytes : List ℕ) → IsAscii (uuid_text bytes)
unfolding uuid_text
uuid_ascii bytes = hyphenated_ascii lower bytes (inl refl)

pub uuid_tells : (a b : List ℕ) → length a ≡ 16 → length b ≡ 16 → AreBytes a → AreBytes b → uuid_text a ≡ uuid_text b → a ≡ b
unfolding uuid_text
uuid_tells a b long also are they same =
    let first = parses_hyphenated_text lower a (inl refl) long (all_fit a (λ k less. are k)) in
    let second = parses_hyphenated_text lower b (inl refl) also (all_fit b (λ k less. they k)) in
    same_found a b (first ∙ ap parsed_hyphenated same ∙ sym second)

-- ---- IPv4: numbers, which have no dot ----

abbrev IsDotless : List ℕ → Type 0
IsDotless [] = Unit {0}
IsDotless (char ∷ chars) = ¬ (char ≡ 46) × IsDotless chars

no_dot : (char : ℕ) → digit_value char < 10 → ¬ (char ≡ 46)
no_dot char less is = absurd (let dot : digit_value 46 < 10 = subst (λ n. digit_value n < 10) is less in omega (arith, dot))

digits_dotless : (digits : List ℕ) → AllDigits 10 digits → IsDotless digits
digits_dotless [] all = tt
digits_dotless (digit ∷ digits) all = (no_dot digit all.0, digits_dotless digits all.1)

dotless : (n : ℕ) → n < 256 → IsDotless (decimal n)
dotless n less = digits_dotless (decimal n) (decimal_is_IsNumeral n (omega (arith, less))).0.1

-- what stands before the first dot, and behind it
split : (front left rest behind : List ℕ) → IsDotless front → IsDotless left → front ++ 46 ∷ rest ≡ left ++ 46 ∷ behind → (front ≡ left) × (rest ≡ behind)
split [] [] rest behind none nor same = (refl, ap tail_of same)
split [] (char ∷ left) rest behind none nor same = absurd (nor.0 (sym (ap head_of same)))
split (char ∷ front) [] rest behind none nor same = absurd (none.0 (ap head_of same))
split (char ∷ front) (other ∷ left) rest behind none nor same =
    let p = split front left rest behind none.1 nor.1 (ap tail_of same) in
    (ap₂ (λ (c : ℕ) (l : List ℕ). c ∷ l) (ap head_of same) p.0, p.1)

abbrev dotted : List ℕ → List ℕ
dotted bytes = flat_map (λ next. codes "." ++ decimal next) bytes

decimals_tell : (a b : ℕ) (more others : List ℕ) → AllSmall (a ∷ more) → AllSmall (b ∷ others) → length more ≡ length others
    → decimal a ++ dotted more ≡ decimal b ++ dotted others → a ∷ more ≡ b ∷ others
decimals_tell a b [] [] less small as_long same =
    let one = less.0 in
    let other = small.0 in
    ap (λ (n : ℕ). n ∷ []) (decimal_injective a b (omega (arith, one)) (omega (arith, other)) (sym (append-nil (decimal a)) ∙ same ∙ append-nil (decimal b)))
decimals_tell a b [] (d ∷ others) less small as_long same = absurd (omega (arith, as_long))
decimals_tell a b (c ∷ more) [] less small as_long same = absurd (omega (arith, as_long))
decimals_tell a b (c ∷ more) (d ∷ others) less small as_long same =
    let one = less.0 in
    let other = small.0 in
    let p = split (decimal a) (decimal b) (decimal c ++ dotted more) (decimal d ++ dotted others) (dotless a one) (dotless b other) same in
    ap₂ (λ (n : ℕ) (l : List ℕ). n ∷ l) (decimal_injective a b (omega (arith, one)) (omega (arith, other)) p.0) (decimals_tell c d more others less.1 small.1 (omega (arith, as_long)) p.1)

ipv4_tells : (a b : List ℕ) → length a ≡ 4 → length b ≡ 4 → AllSmall a → AllSmall b → ipv4_text a ≡ ipv4_text b → a ≡ b
unfolding ipv4_text
ipv4_tells [] b long also less small same = absurd (omega (arith, long))
ipv4_tells (x ∷ a) [] long also less small same = absurd (omega (arith, also))
ipv4_tells (x ∷ a) (y ∷ b) long also less small same = decimals_tell x y a b less small (omega (arith, long, also)) same

dot_ascii : IsAscii (codes ".")
dot_ascii zero = omega arith
dot_ascii (suc at) = IsAscii-nil at

dotted_ascii : (bytes : List ℕ) → AllSmall bytes → IsAscii (dotted bytes)
dotted_ascii [] less = IsAscii-nil
dotted_ascii (byte ∷ bytes) less =
    let one = less.0 in
    IsAscii-append (codes "." ++ decimal byte) (dotted bytes) (IsAscii-append (codes ".") (decimal byte) dot_ascii (IsAscii-decimal byte (omega (arith, one)))) (dotted_ascii bytes less.1)

ipv4_ascii : (bytes : List ℕ) → AllSmall bytes → IsAscii (ipv4_text bytes)
unfolding ipv4_text
ipv4_ascii [] less = IsAscii-nil
ipv4_ascii (byte ∷ bytes) less = let one = less.0 in IsAscii-append (decimal byte) (dotted bytes) (IsAscii-decimal byte (omega (arith, one))) (dotted_ascii bytes less.1)

-- ---- IPv6: groups of four digits ----

abbrev digit : ℕ → ℕ
digit half = slice_index (codes "0123456789abcdef") half

digit_is : (half : ℕ) → half < 16 → digit half ≡ hex_digit lower half
digit_is half less = table_at lower half 0 (inl refl) less

digit_tells : (a b : ℕ) → a < 16 → b < 16 → digit a ≡ digit b → a ≡ b
digit_tells a b less small same =
    let spelled : hex_digit lower a ≡ hex_digit lower b = sym (digit_is a less) ∙ same ∙ digit_is b small in
    grind (arith, nat_tests, spelled, less, small)

byte_tells : (a b : ℕ) → a < 256 → b < 256 → digit (a / 16) ≡ digit (b / 16) → digit (a % 16) ≡ digit (b % 16) → a ≡ b
byte_tells a b less small high low =
    let front : a / 16 ≡ b / 16 = digit_tells (a / 16) (b / 16) (omega (arith, less)) (omega (arith, small)) high in
    let back : a % 16 ≡ b % 16 = digit_tells (a % 16) (b % 16) (omega arith) (omega arith) low in
    omega (arith, front, back)

group_tells : (a b c d : ℕ) (rest behind : List ℕ) → (a < 256) × (b < 256) → (c < 256) × (d < 256) → group a b ++ rest ≡ group c d ++ behind → (a ≡ c) × (b ≡ d) × (rest ≡ behind)
group_tells a b c d rest behind less small same =
    let one = ap tail_of same in
    let two = ap tail_of one in
    let three = ap tail_of two in
    (byte_tells a c less.0 small.0 (ap head_of same) (ap head_of one), byte_tells b d less.1 small.1 (ap head_of two) (ap head_of three), ap tail_of three)

groups_tell : (n : ℕ) (a b : List ℕ) → length a ≡ 2 * n → length b ≡ 2 * n → AllSmall a → AllSmall b → groups a ≡ groups b → a ≡ b
groups_tell zero [] [] long also less small same = refl
groups_tell zero (x ∷ a) b long also less small same = absurd (omega (arith, long))
groups_tell zero [] (y ∷ b) long also less small same = absurd (omega (arith, also))
groups_tell (suc n) [] b long also less small same = absurd (omega (arith, long))
groups_tell (suc n) (x ∷ []) b long also less small same = absurd (omega (arith, long))
groups_tell (suc n) (x ∷ y ∷ a) [] long also less small same = absurd (omega (arith, also))
groups_tell (suc n) (x ∷ y ∷ a) (z ∷ []) long also less small same = absurd (omega (arith, also))
groups_tell (suc n) (x ∷ y ∷ a) (z ∷ w ∷ b) long also less small same =
    let p = group_tells x y z w (groups a) (groups b) (less.0, less.1.0) (small.0, small.1.0) (ap tail_of same) in
    let rest = groups_tell n a b (omega (arith, long)) (omega (arith, also)) less.1.1 small.1.1 p.2 in
    ap₂ (λ (c : ℕ) (l : List ℕ). c ∷ l) p.0 (ap₂ (λ (c : ℕ) (l : List ℕ). c ∷ l) p.1 rest)

ipv6_tells : (a b : List ℕ) → length a ≡ 16 → length b ≡ 16 → AllSmall a → AllSmall b → ipv6_text a ≡ ipv6_text b → a ≡ b
ipv6_tells [] b long also less small same = absurd (omega (arith, long))
ipv6_tells (x ∷ []) b long also less small same = absurd (omega (arith, long))
ipv6_tells (x ∷ y ∷ a) [] long also less small same = absurd (omega (arith, also))
ipv6_tells (x ∷ y ∷ a) (z ∷ []) long also less small same = absurd (omega (arith, also))
ipv6_tells (x ∷ y ∷ a) (z ∷ w ∷ b) long also less small same =
    groups_tell 8 (x ∷ y ∷ a) (z ∷ w ∷ b) long also less small (ap (λ (l : List ℕ). 58 ∷ l) same)

digit_ascii : (half : ℕ) → half < 16 → digit half < 128
digit_ascii half less = subst (λ c. c < 128) (sym (digit_is half less)) (hex_digit_ascii lower half (inl refl) less)

pair_ascii : (byte : ℕ) → byte < 256 → IsAscii (lower_hex_pair byte)
pair_ascii byte less zero = digit_ascii (byte / 16) (omega (arith, less))
pair_ascii byte less (suc zero) = digit_ascii (byte % 16) (omega arith)
pair_ascii byte less (suc (suc at)) = IsAscii-nil at

group_ascii : (high low : ℕ) → high < 256 → low < 256 → IsAscii (group high low)
group_ascii high low less small = IsAscii-append (lower_hex_pair high) (lower_hex_pair low) (pair_ascii high less) (pair_ascii low small)

colon_ascii : IsAscii (codes ":")
colon_ascii zero = omega arith
colon_ascii (suc at) = IsAscii-nil at

groups_ascii : (bytes : List ℕ) → AllSmall bytes → IsAscii (groups bytes)
groups_ascii [] less = IsAscii-nil
groups_ascii (x ∷ []) less = IsAscii-nil
groups_ascii (x ∷ y ∷ bytes) less =
    IsAscii-append (codes ":") (group x y ++ groups bytes) colon_ascii (IsAscii-append (group x y) (groups bytes) (group_ascii x y less.0 less.1.0) (groups_ascii bytes less.1.1))

ipv6_ascii : (bytes : List ℕ) → AllSmall bytes → IsAscii (ipv6_text bytes)
ipv6_ascii [] less = IsAscii-nil
ipv6_ascii (x ∷ []) less = IsAscii-nil
ipv6_ascii (x ∷ y ∷ bytes) less = IsAscii-append (group x y) (groups bytes) (group_ascii x y less.0 less.1.0) (groups_ascii bytes less.1.1)

-- ---- addresses of either kind ----

-- how many bytes one has
abbrev pub length_of : Family → ℕ
length_of Ipv4 = 4
length_of Ipv6 = 16

pub address_ascii : (family : Family) (bytes : List ℕ) → AreBytes bytes → IsAscii (address_text family bytes)
address_ascii Ipv4 bytes are = ipv4_ascii bytes (all_small bytes are)
address_ascii Ipv6 bytes are = ipv6_ascii bytes (all_small bytes are)

pub address_tells : (family : Family) (a b : List ℕ) → length a ≡ length_of family → length b ≡ length_of family → AreBytes a → AreBytes b → address_text family a ≡ address_text family b → a ≡ b
address_tells Ipv4 a b long also are they same = ipv4_tells a b long also (all_small a are) (all_small b they) same
address_tells Ipv6 a b long also are they same = ipv6_tells a b long also (all_small a are) (all_small b they) same
