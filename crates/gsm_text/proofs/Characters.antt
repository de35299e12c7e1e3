-- A text is read back from its codes.
use Rattle.std.proofs.Common.{◌≡◌, ℕ, ◌+◌, ◌<◌, ◌≤◌, nat_lt, Bool, true, false, not, cond, List, [], ◌∷◌, ◌++◌, length, take, drop, get_or, drop_of_length-le, encode_utf8, encode_utf8_all, refl, ap, sym, ◌∙◌, arith, Option, Some, None, All}
use Rattle.std.specs.List.{AllByRecursion, position_from}
use Rattle.std.proofs.lemmas.Iterator.Adapters.{position_from-zero}
use Rattle.std.proofs.lemmas.List.{append-nil, flat_map_more, get_or-take}
use Rattle.std.proofs.lemmas.Bool.{ne_eqb}
use Rattle.std.proofs.lemmas.List.Elements.{All-nil, All-cons, All-append}
use Rattle.kit_bytes.proofs.Lists.{all_at}
use Rattle.kit_bytes.proofs.Sorted.{position_is, position_none}
use Rattle.gsm_text.specs.declared.alphabet.TheConstants.{ESCAPE}
use Rattle.gsm_text.specs.Alphabet.{chars_of, chars_behind, code_of, codes_by, codes_of, char_codes, extension_code, first_outside, has_codes}
use Rattle.gsm_text.specs.Laws.{CodesAreSmall, CodesAreWritten, ReadsBack}
use Rattle.gsm_text.proofs.Tables.{code-read, code_of-char_of, extension-read}

-- the character of codes, and what follows it
char-read : (char : ℕ) (rest : List ℕ) → has_codes char ≡ true → chars_of (char_codes char ++ rest) ≡ char ∷ chars_of rest
char-read char rest has = by (code_of char) (extension_code char) refl refl has
  where
    by : (code behind : Option ℕ) → code_of char ≡ code → extension_code char ≡ behind → nat_lt 0 (length (codes_by code behind)) ≡ true → chars_of (codes_by code behind ++ rest) ≡ char ∷ chars_of rest
    by (Some code) behind is _ has =
        let read = code-read char code is in
        rw (read.other, read.read) refl
    by None (Some code) _ is has = let read = extension-read char code is in ap (λ (c : ℕ). c ∷ chars_of rest) read.read
    by None None _ _ has = absurd (cc)

has_each : (from : ℕ) (text : List ℕ) → position_from (λ char. not (has_codes char)) from text ≡ None → chars_of (codes_of text) ≡ text
has_each from [] none = refl
has_each from (char ∷ text) none = by (has_codes char) refl (has_each (from + 1) text) none
  where
    by : (b : Bool) → has_codes char ≡ b → (position_from (λ char. not (has_codes char)) (from + 1) text ≡ None → chars_of (codes_of text) ≡ text) → cond (not b) (Some from) (position_from (λ char. not (has_codes char)) (from + 1) text) ≡ None → chars_of (codes_of (char ∷ text)) ≡ char ∷ text
    by true has more none = char-read char (codes_of text) has ∙ ap (λ (rest : List ℕ). char ∷ rest) (more none)
    by false has more none = absurd (cc)

pub reads_back : ReadsBack
reads_back text none = has_each 0 text (sym (position_from-zero (λ char. not (has_codes char)) text) ∙ none)

-- ---- the loop over codes ----

-- the characters of codes, which an escape stands before or doesn't
abbrev pub chars_after : Bool → List ℕ → List ℕ
chars_after true codes = chars_behind codes
chars_after false codes = chars_of codes

-- behind the last code an escape is a space
pub read_all : (codes : List ℕ) (text : List ℕ) (escaped : Bool) (index : ℕ) → length codes ≤ index → encode_utf8_all (chars_of codes) ≡ text ++ encode_utf8_all (chars_after escaped (drop index codes))
    → encode_utf8_all (chars_of codes) ≡ text ++ encode_utf8_all (chars_after escaped [])
read_all codes text escaped index past read = read ∙ ap (λ (rest : List ℕ). text ++ encode_utf8_all (chars_after escaped rest)) (drop_of_length-le codes past)

pub closed_escape : (codes text new : List ℕ) (escaped : Bool) → escaped ≡ true → new ≡ text ++ encode_utf8 32
    → encode_utf8_all (chars_of codes) ≡ text ++ encode_utf8_all (chars_after escaped []) → new ≡ encode_utf8_all (chars_of codes)
closed_escape codes text new escaped is pushed read = pushed ∙ ap (λ (l : List ℕ). text ++ l) (sym (append-nil (encode_utf8 32))) ∙ sym (rw is at read)

pub closed : (codes text : List ℕ) (escaped : Bool) → escaped ≡ false
    → encode_utf8_all (chars_of codes) ≡ text ++ encode_utf8_all (chars_after escaped []) → text ≡ encode_utf8_all (chars_of codes)
closed codes text escaped is read = sym (append-nil text) ∙ sym (rw is at read)

-- ---- the loop over characters ----

-- these characters have codes
abbrev pub AllHaveCodes : List ℕ → Type 0
AllHaveCodes chars = AllByRecursion (λ char. has_codes char ≡ true) chars

pub codes_of-push : (chars : List ℕ) (char : ℕ) → codes_of (chars ++ char ∷ []) ≡ codes_of chars ++ char_codes char
codes_of-push chars char = sym (flat_map_more char_codes [] chars char)

pub inside : (text : List ℕ) → AllHaveCodes text → first_outside text ≡ None
inside text each = position_none (λ char. not (has_codes char)) text (λ k d within. ap not (all_at (λ char. has_codes char ≡ true) text k d each within))

-- the first character without codes, behind some that have them
pub outside : (text chars : List ℕ) (char index : ℕ) → index ≡ length chars → chars ≡ take (length chars) text → length chars < length text → char ≡ get_or text (length chars) char
    → AllHaveCodes chars → has_codes char ≡ false → first_outside text ≡ Some index
outside text chars char index index_is front within here each none =
    position_is (λ char. not (has_codes char)) text index char
    (λ k before.
    let low : k < length chars = omega arith in
    let same : get_or text k char ≡ get_or chars k char = sym (get_or-take (length chars) text k char low) ∙ ap (λ (l : List ℕ). get_or l k char) (sym front) in
    ap (λ (c : ℕ). not (has_codes c)) same ∙ ap not (all_at (λ char. has_codes char ≡ true) chars k char each low))
    (omega arith)
    (ap (λ (i : ℕ). not (has_codes (get_or text i char))) index_is ∙ ap (λ (c : ℕ). not (has_codes c)) (sym here) ∙ ap not none)

-- ---- codes ----

char_codes-small : (char : ℕ) → All (λ code. code < 128) (char_codes char)
char_codes-small char = by (code_of char) (extension_code char) refl refl
  where
    by : (code behind : Option ℕ) → code_of char ≡ code → extension_code char ≡ behind → All (λ code. code < 128) (codes_by code behind)
    by (Some code) behind is _ = let read = code-read char code is in All-cons (λ code. code < 128) code [] read.within (All-nil (λ code. code < 128))
    by None (Some code) _ is =
        let read = extension-read char code is in
        All-cons (λ code. code < 128) ESCAPE (code ∷ []) (omega arith) (All-cons (λ code. code < 128) code [] read.within (All-nil (λ code. code < 128)))
    by None None _ _ = All-nil (λ code. code < 128)

pub codes_are_small : CodesAreSmall
codes_are_small [] = All-nil (λ code. code < 128)
codes_are_small (char ∷ text) = All-append (λ code. code < 128) (char_codes char) (codes_of text) (char_codes-small char) (codes_are_small text)

pub codes_are_written : CodesAreWritten
codes_are_written code within other = rw (code_of-char_of code within (ne_eqb code ESCAPE other)) refl
