-- The lines of a text, and blanks.
use Rattle.std.proofs.Common.{◌≡◌, ℕ, zero, suc, ◌<◌, List, [], ◌∷◌, length, get_or, take, drop, refl, ap, ◌∙◌, arith, nat_eq, Bool, false, true, if◌then◌else◌}
use Rattle.std.specs.List.{concat}
use Rattle.std.proofs.lemmas.Grind.{common_steps}
use Rattle.message_tables.specs.Comments.{lines_of, begun}

-- the first line ends with the first line feed
pub lines_of-split : (text : List ℕ) (end : ℕ) → end < length text → get_or text end 0 ≡ 10 → ((k : ℕ) → k < end → get_or text k 0 ≡ 10 → ⊥)
    → lines_of text ≡ take (suc end) text ∷ lines_of (drop (suc end) text)
lines_of-split [] end within is none = absurd (omega arith)
lines_of-split (byte ∷ bytes) zero within is none = grind (arith, common_steps)
lines_of-split (byte ∷ bytes) (suc end) within is none =
    let later = lines_of-split bytes end (omega arith) is (λ k below. none (suc k) (omega arith)) in
    let other : nat_eq byte 10 ≡ false = grind (arith, common_steps, none 0) in
    rw (other, later) refl

-- without a line feed the text is one line
pub lines_of-last : (text : List ℕ) → 0 < length text → ((k : ℕ) → k < length text → get_or text k 0 ≡ 10 → ⊥) → lines_of text ≡ text ∷ []
lines_of-last [] some none = absurd (omega arith)
lines_of-last (byte ∷ []) some none = grind (arith, common_steps, none 0)
lines_of-last (byte ∷ next ∷ bytes) some none =
    let later = lines_of-last (next ∷ bytes) (omega arith) (λ k below. none (suc k) (omega arith)) in
    let other : nat_eq byte 10 ≡ false = grind (arith, common_steps, none 0) in
    rw (other, later) refl

concat-begun : (byte : ℕ) (lines : List (List ℕ)) → concat (begun byte lines) ≡ byte ∷ concat lines
concat-begun byte [] = refl
concat-begun byte (line ∷ lines) = refl

whole-line : (byte : ℕ) (lines : List (List ℕ)) (text : List ℕ) (b : Bool) → concat lines ≡ text → concat (if b then (byte ∷ []) ∷ lines else begun byte lines) ≡ byte ∷ text
whole-line byte lines text true whole = ap (λ bytes. byte ∷ bytes) whole
whole-line byte lines text false whole = concat-begun byte lines ∙ ap (λ bytes. byte ∷ bytes) whole

-- the lines of a text are the whole text
pub concat-lines_of : (text : List ℕ) → concat (lines_of text) ≡ text
concat-lines_of [] = refl
concat-lines_of (byte ∷ bytes) = whole-line byte (lines_of bytes) bytes (nat_eq byte 10) (concat-lines_of bytes)
