-- The marks of a marked text come off.
use Rattle.std.proofs.Common.{◌≡◌, ℕ, ◌==◌, Bool, true, false, if◌then◌else◌, List, [], ◌∷◌, ◌++◌, length, refl, ap, ◌∙◌}
use Rattle.link_lines.specs.Lines.{marked_from}
use Rattle.link_lines.specs.Laws.{unmarked_from}

-- a mark is cut off
mark_off : (count : ℕ) (mark text : List ℕ) → unmarked_from count (length mark) (mark ++ text) ≡ unmarked_from count 0 text
mark_off count [] text = refl
mark_off count (byte ∷ mark) text = mark_off count mark text

pub marks_off : (mark : List ℕ) (begins : Bool) (text : List ℕ) → unmarked_from (length mark) (if begins then length mark else 0) (marked_from mark begins text) ≡ text
marks_off mark true [] = refl
marks_off mark false [] = refl
marks_off mark true (byte ∷ text) = mark_off (length mark) mark (byte ∷ marked_from mark (byte == 10) text) ∙ ap (λ (l : List ℕ). byte ∷ l) (marks_off mark (byte == 10) text)
marks_off mark false (byte ∷ text) = ap (λ (l : List ℕ). byte ∷ l) (marks_off mark (byte == 10) text)

pub marked_none : (mark : List ℕ) (begins : Bool) → marked_from mark begins [] ≡ []
marked_none mark true = refl
marked_none mark false = refl
