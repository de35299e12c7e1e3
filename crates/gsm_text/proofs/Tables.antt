-- The tables, read both ways.
use Rattle.std.proofs.Common.{◌≡◌, ◌≢◌, ℕ, zero, suc, ◌+◌, ◌<◌, ◌==◌, Bool, true, false, cond, List, [], ◌∷◌, refl, ap, sym, ◌∙◌, subst, arith, Option, Some, None, find, option_map}
use Rattle.std.specs.List.{AllByRecursion, list_all, position}
use Rattle.std.specs.Prelude.{◌||◌}
use Rattle.std.proofs.str.Laws.{both}
use Rattle.std.proofs.lemmas.Bool.{eqb-true, eqb-false, ne_eqb}
use Rattle.std.proofs.lemmas.List.Quantifiers.{position-Some}
use Rattle.kit_bytes.proofs.Lists.{all_found}
use Rattle.gsm_text.specs.declared.alphabet.TheConstants.{ESCAPE, ALPHABET, EXTENSION}
use Rattle.gsm_text.specs.Alphabet.{char_of, extended_char, code_of, extension_code}

-- ---- each code ----

-- so many numbers, from one on
abbrev numbers : (from count : ℕ) → List ℕ
numbers from zero = []
numbers from (suc count) = from ∷ numbers (suc from) count

all_numbers : (p : ℕ → Bool) (from count : ℕ) → list_all p (numbers from count) ≡ true → (k at : ℕ) → k < count → from + k ≡ at → p at ≡ true
all_numbers p from zero all k at within is = absurd (omega arith)
all_numbers p from (suc count) all zero at within is =
    let here : from ≡ at = omega arith in
    ap p (sym here) ∙ (both (p from) (list_all p (numbers (suc from) count)) all).0
all_numbers p from (suc count) all (suc k) at within is = all_numbers p (suc from) count (both (p from) (list_all p (numbers (suc from) count)) all).1 k at (omega arith) (omega arith)

abbrev has : Option ℕ → ℕ → Bool
has None n = false
has (Some m) n = m == n

has_is : (o : Option ℕ) (n : ℕ) → has o n ≡ true → o ≡ Some n
has_is None n is = absurd (cc)
has_is (Some m) n is = ap (λ (k : ℕ). Some k) (eqb-true m n is)

is_found : ℕ → Bool
is_found code = (code == ESCAPE) || has (code_of (char_of code)) code

all_found_again : list_all is_found (numbers 0 128) ≡ true
unfolding is_found
all_found_again = refl

other_true : (a b : Bool) → a ≡ false → (a || b) ≡ true → b ≡ true
other_true a b none is = rw none at is

-- the code of a code's character is this code
pub code_of-char_of : (code : ℕ) → code < 128 → (code == ESCAPE) ≡ false → code_of (char_of code) ≡ Some code
unfolding is_found
code_of-char_of code within other =
    has_is (code_of (char_of code)) code (other_true (code == ESCAPE) (has (code_of (char_of code)) code) other (all_numbers is_found 0 128 all_found_again code code within (omega arith)))

-- ---- each character that has a code ----

-- its code has this character, and is no escape
pub record IsRead (char code : ℕ) : Type 0 where
  pub within : code < 128
  pub other : (code == ESCAPE) ≡ false
  pub read : char_of code ≡ char

pub code-read : (char code : ℕ) → code_of char ≡ Some code → IsRead char code
code-read char code is =
    let step : (b : Bool) → (char == ESCAPE) ≡ b → cond b None (position (λ other. other == char) ALPHABET) ≡ Some code → IsRead char code =
    λ b. elim b as (λ b. (char == ESCAPE) ≡ b → cond b None (position (λ other. other == char) ALPHABET) ≡ Some code → IsRead char code) [
      | true ↦ λ t e. absurd (cc)
      | false ↦ λ t e.
          let found = position-Some (λ other. other == char) ALPHABET code 0 e in
          let same : char_of code ≡ char = eqb-true (char_of code) char found.1 in
          record { within = found.0; other = not_escape (code == ESCAPE) refl same t; read = same }
    ]
    in step (char == ESCAPE) refl is
  where
    not_escape : (b : Bool) → (code == ESCAPE) ≡ b → char_of code ≡ char → (char == ESCAPE) ≡ false → (code == ESCAPE) ≡ false
    not_escape true t same clash =
        let at : code ≡ ESCAPE = eqb-true code ESCAPE t in
        let is_escape : char ≡ ESCAPE = sym same ∙ ap char_of at in
        absurd (eqb-false char ESCAPE clash is_escape)
    not_escape false t same clash = t

found_passes : {X : Type 0} (p : X → Bool) (xs : List X) (x : X) → find p xs ≡ Some x → p x ≡ true
found_passes p [] x is = absurd (cc)
found_passes {X} p (y ∷ xs) x is = by (p y) refl (found_passes p xs x) is
  where
    by : (b : Bool) → p y ≡ b → (find p xs ≡ Some x → p x ≡ true) → cond b (Some y) (find p xs) ≡ Some x → p x ≡ true
    by true passes more e = let same : y ≡ x = cc in subst (λ (z : X). p z ≡ true) same passes
    by false fails more e = more e

-- the character of an entry is that of its code behind the escape
pub record IsReadBehind (char code : ℕ) : Type 0 where
  pub within : code < 128
  pub read : extended_char code ≡ char

entries_read : AllByRecursion (λ (entry : ℕ × ℕ). IsReadBehind entry.1 entry.0) EXTENSION
entries_read = (record { within = omega arith; read = refl }, (record { within = omega arith; read = refl }, (record { within = omega arith; read = refl }, (record { within = omega arith; read = refl }, (record { within = omega arith; read = refl }, (record { within = omega arith; read = refl }, (record { within = omega arith; read = refl }, (record { within = omega arith; read = refl }, (record { within = omega arith; read = refl }, (record { within = omega arith; read = refl }, tt))))))))))

pub extension-read : (char code : ℕ) → extension_code char ≡ Some code → IsReadBehind char code
extension-read char code is = by (find (λ (entry : ℕ × ℕ). entry.1 == char) EXTENSION) refl is
  where
    by : (o : Option (ℕ × ℕ)) → find (λ (entry : ℕ × ℕ). entry.1 == char) EXTENSION ≡ o → option_map (λ (entry : ℕ × ℕ). entry.0) o ≡ Some code → IsReadBehind char code
    by None none e = absurd (cc)
    by (Some entry) found e =
        let same : entry.1 ≡ char = eqb-true entry.1 char (found_passes (λ (entry : ℕ × ℕ). entry.1 == char) EXTENSION entry found) in
        let code_is : entry.0 ≡ code = cc in
        subst (λ (c : ℕ). IsReadBehind char c) code_is (subst (λ (c : ℕ). IsReadBehind c entry.0) same (all_found (λ (entry : ℕ × ℕ). IsReadBehind entry.1 entry.0) (λ (entry : ℕ × ℕ). entry.1 == char) EXTENSION entry entries_read found))

-- a character that stands at its own number
pub own_code : (number char : ℕ) → number ≡ char → number < 128 → number ≢ ESCAPE → char_of number ≡ char → Some number ≡ code_of char
own_code number char same within other read = sym (code_of-char_of number within (ne_eqb number ESCAPE other)) ∙ ap code_of read
