-- The marks of what a stream goes on with.
use Rattle.std.proofs.Common.{◌≡◌, ℕ, ◌+◌, List, [], ◌∷◌, ◌++◌, All, length, take, drop, refl, ◌∙◌, ap, arith, append_assoc, length-append}
use Rattle.std.proofs.Math.Seq.{drop-append_seam}
use Rattle.std.proofs.lemmas.List.{append-nil}
use Rattle.std.proofs.lemmas.List.Folds.{concat-append}
use Rattle.std.specs.List.{concat}
use Rattle.framing.specs.declared.framing.Size.{Size}
use Rattle.framing.specs.declared.framing.Size.TheVariants.{Unknown, Known, Invalid}
use Rattle.framing.specs.Framing.{IsMessage, IsPartial, IsBad, IsShort, IsKept, IsPositive}
use Rattle.framing.specs.Cutting.{Cutting, behind, cut}
use Rattle.framing.specs.Reading.{place_of}
use Rattle.framing.proofs.Cuts.{cut-given, cut-partial, cut-bad, cut-first}
use Rattle.link_session.specs.Marks.{Mark, Message, Bad, messages_from, bad_at, marks_of, marks_from, piece_marks}

messages_from-append : (place : ℕ) (xs ys : List (List ℕ)) → messages_from place (xs ++ ys) ≡ messages_from place xs ++ messages_from (place + length (concat xs)) ys
messages_from-append place [] ys = ap (λ (n : ℕ). messages_from n ys) (omega arith)
messages_from-append place (x ∷ xs) ys =
    ap (λ (l : List Mark). Message (record { place = place_of place; bytes = x }) ∷ l)
    (messages_from-append (place + length x) xs ys
    ∙ ap (λ (n : ℕ). messages_from (place + length x) xs ++ messages_from n ys) (omega (arith, length-append x (concat xs))))

partial_is_not_bad : (place : ℕ) (size : Size) (count : ℕ) → IsShort size count → bad_at place size ≡ []
partial_is_not_bad place Unknown count short = refl
partial_is_not_bad place (Known n) count short = refl
partial_is_not_bad place Invalid count short = absurd short

module _ (size : List ℕ → Size) where
  -- messages, and then what a cutting has
  pub marks_of-behind : (place : ℕ) (given : List (List ℕ)) (cutting : Cutting)
      → marks_of size place (behind given cutting) ≡ messages_from place given ++ marks_of size (place + length (concat given)) cutting
  marks_of-behind place given cutting =
      let far : place + length (concat (given ++ cutting.messages)) ≡ place + length (concat given) + length (concat cutting.messages) =
      omega (arith, ap length (concat-append given cutting.messages), length-append (concat given) (concat cutting.messages)) in
      ap (λ (n : ℕ). messages_from place (given ++ cutting.messages) ++ bad_at n (size cutting.rest)) far
      ∙ ap (λ (l : List Mark). l ++ bad_at (place + length (concat given) + length (concat cutting.messages)) (size cutting.rest)) (messages_from-append place given cutting.messages)
      ∙ append_assoc (messages_from place given) (messages_from (place + length (concat given)) cutting.messages) (bad_at (place + length (concat given) + length (concat cutting.messages)) (size cutting.rest))

  module _ (kept : (front more : List ℕ) → IsKept (size front) (size (front ++ more))) where
    -- less than a message has no mark
    pub marks_from-partial : (place : ℕ) (rest : List ℕ) → IsPartial size rest → marks_from size place rest ≡ []
    unfolding marks_from
    marks_from-partial place rest partial =
        ap (marks_of size place) (cut-partial size kept rest partial) ∙ partial_is_not_bad (place + 0) (size rest) (length rest) partial

    pub marks_from-bad : (place : ℕ) (rest : List ℕ) → IsBad size rest → marks_from size place rest ≡ Bad (place_of place) ∷ []
    unfolding marks_from
    marks_from-bad place rest bad =
        ap (marks_of size place) (cut-bad size kept rest bad)
        ∙ ap (bad_at (place + 0)) bad
        ∙ ap (λ (n : ℕ). Bad (place_of n) ∷ []) (omega arith)

    module _ (positive : (bytes : List ℕ) → IsPositive (size bytes)) where
      -- messages, and then what some bytes go on with
      pub marks_from-given : (place : ℕ) (given : List (List ℕ)) (rest : List ℕ) → All (IsMessage size) given
          → marks_from size place (concat given ++ rest) ≡ messages_from place given ++ marks_from size (place + length (concat given)) rest
      unfolding marks_from
      marks_from-given place given rest each =
          ap (marks_of size place) (cut-given size kept positive given rest each) ∙ marks_of-behind place given (cut size rest)

      -- a message stands first
      pub marks_from-message : (place : ℕ) (rest : List ℕ) (count : ℕ) → IsMessage size (take count rest)
          → marks_from size place rest ≡ Message (record { place = place_of place; bytes = take count rest }) ∷ marks_from size (place + length (take count rest)) (drop count rest)
      unfolding marks_from
      marks_from-message place rest count message =
          let first : Mark = Message (record { place = place_of place; bytes = take count rest }) in
          ap (marks_of size place) (cut-first size kept positive rest count message)
          ∙ marks_of-behind place (take count rest ∷ []) (cut size (drop count rest))
          ∙ ap (λ (n : ℕ). first ∷ marks_of size n (cut size (drop count rest))) (omega (arith, ap length (append-nil (take count rest))))

      -- what a piece brings to a stream that waits for more
      pub piece_marks-partial : (given : List (List ℕ)) (rest piece : List ℕ) → All (IsMessage size) given → IsPartial size rest
          → piece_marks size (concat given ++ rest) piece ≡ marks_from size (length (concat given)) (rest ++ piece)
      unfolding piece_marks
      piece_marks-partial given rest piece each partial =
          let before : marks_from size 0 (concat given ++ rest) ≡ messages_from 0 given =
          marks_from-given 0 given rest each
          ∙ ap (λ (l : List Mark). messages_from 0 given ++ l) (marks_from-partial (0 + length (concat given)) rest partial)
          ∙ append-nil (messages_from 0 given)
          in
          let after : marks_from size 0 (concat given ++ rest ++ piece) ≡ messages_from 0 given ++ marks_from size (length (concat given)) (rest ++ piece) =
          ap (marks_from size 0) (append_assoc (concat given) rest piece)
          ∙ marks_from-given 0 given (rest ++ piece) each
          ∙ ap (λ (n : ℕ). messages_from 0 given ++ marks_from size n (rest ++ piece)) (omega arith)
          in
          ap (λ (l : List Mark). drop (length l) (marks_from size 0 (concat given ++ rest ++ piece))) before
          ∙ ap (drop (length (messages_from 0 given))) after
          ∙ drop-append_seam (messages_from 0 given) (marks_from size (length (concat given)) (rest ++ piece))
