-- What the proofs of numbers cite.
use Rattle.std.proofs.Common.{◌≡◌, ◌<◌, ◌==◌, ◌&&◌, ◌||◌, ◌^◌, ℕ, Bool, not, cond, true, false, nat_lt, List, [], ◌∷◌, length, drop, Some, None, Result, Ok, Err, slice_index, ap, sym, refl, arith, true≢false, lt-ltb, ltb-true, eqb-true, subst}
use Rattle.std.specs.Char.{digit_value, is_ascii_digit}
use Rattle.std.specs.List.{list_all}
use Rattle.std.specs.Result.{OkIff, result_ok}
use Rattle.std.specs.Str.Parse.{AllDigits, IsNumeral, ParsesUnsigned, digits_value, without_leading_plus}
use Rattle.std.proofs.lemmas.Grind.{common_steps}
use Rattle.clap.proofs.WalkLemmas.{both}
use Rattle.tool_words.specs.Values.{is_decimal, number_in}

digit_below : (c : ℕ) → is_ascii_digit c ≡ true → digit_value c < 10
digit_below c e = grind (arith, common_steps)

all_digits : (text : List ℕ) → list_all is_ascii_digit text ≡ true → AllDigits 10 text
all_digits [] e = tt
all_digits (c ∷ more) e = (digit_below c (both _ _ e).0, all_digits more (both _ _ e).1)

no_plus : (text : List ℕ) → list_all is_ascii_digit text ≡ true → without_leading_plus text ≡ text
no_plus [] e = refl
no_plus (c ∷ more) e = go (c == 43) refl
  where
    go : (b : Bool) → (c == 43) ≡ b → drop (cond b 1 0) (c ∷ more) ≡ c ∷ more
    go false h = refl
    go true h =
        let first : is_ascii_digit c ≡ true = (both _ _ e).0 in
        let same : c ≡ 43 = eqb-true c 43 h in
        absurd (grind (arith, common_steps))

decimal-digits : (text : List ℕ) → is_decimal text ≡ true → list_all is_ascii_digit text ≡ true
decimal-digits text e = go (length text == 0 || (not (length text == 1) && slice_index text 0 == 48)) e
  where
    go : (b : Bool) → cond b false (list_all is_ascii_digit text) ≡ true → list_all is_ascii_digit text ≡ true
    go true h = absurd (true≢false (sym h))
    go false h = h

decimal-length : (text : List ℕ) → is_decimal text ≡ true → 0 < length text
decimal-length [] e = absurd (true≢false (sym e))
decimal-length (c ∷ more) e = omega arith

-- what `parse` makes of a text that is decimal
pub decimal_reads : {E : Type 0} (text : List ℕ) (r : Result ℕ E) → is_decimal text ≡ true → ParsesUnsigned 64 10 text r → result_ok r ≡ number_in text
unfolding number_in
decimal_reads {E = E} text r e h = go r (subst (λ (t : List ℕ). OkIff r (IsNumeral 10 t × (digits_value 10 t < 2 ^ 64)) (digits_value 10 t)) (no_plus text digits) h)
  where
    digits : list_all is_ascii_digit text ≡ true
    digits = decimal-digits text e

    go : (r : Result ℕ E) → OkIff r (IsNumeral 10 text × (digits_value 10 text < 2 ^ 64)) (digits_value 10 text)
        → result_ok r ≡ cond (is_decimal text && nat_lt (digits_value 10 text) (2 ^ 64)) (Some (digits_value 10 text)) None
    go (Ok n) p = rw (e, lt-ltb (digits_value 10 text) (2 ^ 64) p.0.1) (ap Some p.1)
    go (Err why) p = wide (nat_lt (digits_value 10 text) (2 ^ 64)) refl
      where
        wide : (b : Bool) → nat_lt (digits_value 10 text) (2 ^ 64) ≡ b → None ≡ cond (is_decimal text && nat_lt (digits_value 10 text) (2 ^ 64)) (Some (digits_value 10 text)) None
        wide false t = rw (e, t) refl
        wide true t = absurd (p ((decimal-length text e, all_digits text digits), ltb-true _ _ t))

-- and what stands for one that isn't
pub not_decimal : (text : List ℕ) → is_decimal text ≡ false → None ≡ number_in text
unfolding number_in
not_decimal text e = rw e refl
