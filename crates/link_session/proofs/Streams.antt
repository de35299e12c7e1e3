-- A stream's marks don't depend on the pieces in which it comes.
use Rattle.std.proofs.Common.{◌≡◌, ℕ, ◌+◌, true, List, [], ◌∷◌, ◌++◌, All, length, drop, refl, sym, ◌∙◌, ap, subst, append_assoc}
use Rattle.std.proofs.Math.Seq.{drop-append_seam}
use Rattle.std.proofs.lemmas.List.{append-nil}
use Rattle.std.proofs.lemmas.List.Elements.{All-nil, All-cons, All-append, All-drop, All-head, All-tail, filter-append}
use Rattle.std.specs.List.{concat, filter}
use Rattle.framing.specs.declared.framing.Size.{Size}
use Rattle.framing.specs.declared.framing.Size.TheVariants.{Unknown, Known, Invalid}
use Rattle.framing.specs.Cutting.{Cutting, cut}
use Rattle.framing.proofs.Cuts.{cut-append}
use Rattle.link_io.specs.Calls.{Call, Opened, Paired, Sent, Took, WasQuiet, WasEnd, TakeFailed, Closed}
use Rattle.link_session.specs.Marks.{Mark, messages_from, bad_at, marks_of, marks_from, piece_marks, take_marks, bytes_in}
use Rattle.link_session.specs.Peer.{Keeps, is_of_bytes}
use Rattle.link_session.proofs.Places.{marks_of-behind, marks_from-bad}

pub same_behind : {A : Type 0} (front : List A) {xs ys : List A} → front ++ xs ≡ front ++ ys → xs ≡ ys
same_behind front {xs = xs} {ys = ys} same = sym (drop-append_seam front xs) ∙ ap (drop (length front)) same ∙ drop-append_seam front ys

pub All-behind : {A : Type 0} (P : A → Type 0) (front xs : List A) → All P (front ++ xs) → All P xs
All-behind P front xs each = subst (All P) (drop-append_seam front xs) (All-drop P (length front) (front ++ xs) each)

-- ---- marks of bytes ----

abbrev pub IsOfBytes : Mark → Type 0
IsOfBytes mark = is_of_bytes mark ≡ true

unfoldable pub of_bytes : List Mark → List Mark
of_bytes marks = filter is_of_bytes marks

pub of_bytes-append : (xs ys : List Mark) → of_bytes (xs ++ ys) ≡ of_bytes xs ++ of_bytes ys
unfolding of_bytes
of_bytes-append xs ys = filter-append is_of_bytes xs ys

pub of_bytes-all : (marks : List Mark) → All IsOfBytes marks → of_bytes marks ≡ marks
unfolding of_bytes
of_bytes-all [] each = refl
of_bytes-all (mark ∷ marks) each = rw (All-head IsOfBytes mark marks each) (ap (λ (l : List Mark). mark ∷ l) (of_bytes-all marks (All-tail IsOfBytes mark marks each)))

messages_from-of_bytes : (place : ℕ) (messages : List (List ℕ)) → All IsOfBytes (messages_from place messages)
messages_from-of_bytes place [] = All-nil IsOfBytes
messages_from-of_bytes place (message ∷ messages) =
    All-cons IsOfBytes _ (messages_from (place + length message) messages) refl (messages_from-of_bytes (place + length message) messages)

bad_at-of_bytes : (place : ℕ) (size : Size) → All IsOfBytes (bad_at place size)
bad_at-of_bytes place Unknown = All-nil IsOfBytes
bad_at-of_bytes place (Known count) = All-nil IsOfBytes
bad_at-of_bytes place Invalid = All-cons IsOfBytes _ [] refl (All-nil IsOfBytes)

module _ (size : List ℕ → Size) where
  pub piece_marks-of_bytes : (stream piece : List ℕ) → All IsOfBytes (piece_marks size stream piece)
  unfolding piece_marks marks_from
  piece_marks-of_bytes stream piece =
      let cutting : Cutting = cut size (stream ++ piece) in
      All-drop IsOfBytes (length (marks_from size 0 stream)) (marks_of size 0 cutting)
      (All-append IsOfBytes _ _ (messages_from-of_bytes 0 cutting.messages) (bad_at-of_bytes (0 + length (concat cutting.messages)) (size cutting.rest)))

  module _ (kept : Keeps size) where
    -- a piece takes nothing back
    goes_on : (stream piece : List ℕ) → (more : List Mark) × (marks_from size 0 (stream ++ piece) ≡ marks_from size 0 stream ++ more)
    unfolding marks_from
    goes_on stream piece =
        let front : Cutting = cut size stream in
        let back : List ℕ = front.rest ++ piece in
        let place : ℕ = 0 + length (concat front.messages) in
        let whole : marks_from size 0 (stream ++ piece) ≡ messages_from 0 front.messages ++ marks_from size place back =
        ap (marks_of size 0) (cut-append size stream piece) ∙ marks_of-behind size 0 front.messages (cut size back) in
        let Goes : List Mark → Type 0 = λ (bad : List Mark). (more : List Mark) × (marks_from size 0 (stream ++ piece) ≡ (messages_from 0 front.messages ++ bad) ++ more) in
        let open_end : [] ≡ bad_at place (size front.rest) → Goes (bad_at place (size front.rest)) =
        λ is. subst Goes is (marks_from size place back, whole ∙ ap (λ (l : List Mark). l ++ marks_from size place back) (sym (append-nil (messages_from 0 front.messages)))) in
        let step : (s : Size) → size front.rest ≡ s → Goes (bad_at place (size front.rest)) =
        λ s. elim s as (λ s. size front.rest ≡ s → Goes (bad_at place (size front.rest))) [
          | Unknown ↦ λ is. open_end (sym (ap (bad_at place) is))
          | Known count ↦ λ is. open_end (sym (ap (bad_at place) is))
          | Invalid ↦ λ is.
              let bad : size back ≡ Invalid = rw is at (kept front.rest piece) in
              ([], whole ∙ ap (λ (l : List Mark). messages_from 0 front.messages ++ l) (marks_from-bad size kept place back bad ∙ sym (ap (bad_at place) is)) ∙ sym (append-nil _))
        ]
        in step (size front.rest) refl

    marks_from-append : (stream piece : List ℕ) → marks_from size 0 (stream ++ piece) ≡ marks_from size 0 stream ++ piece_marks size stream piece
    unfolding piece_marks
    marks_from-append stream piece =
        let on = goes_on stream piece in
        on.1
        ∙ ap (λ (l : List Mark). marks_from size 0 stream ++ l)
        (sym (ap (drop (length (marks_from size 0 stream))) on.1 ∙ drop-append_seam (marks_from size 0 stream) on.0))

    pub piece_marks-nil : (stream : List ℕ) → piece_marks size stream [] ≡ []
    piece_marks-nil stream =
        same_behind (marks_from size 0 stream)
        (sym (marks_from-append stream []) ∙ ap (marks_from size 0) (append-nil stream) ∙ sym (append-nil (marks_from size 0 stream)))

    -- what a piece brings, its parts bring, one after the other
    pub piece_marks-append : (stream piece more : List ℕ) → piece_marks size stream (piece ++ more) ≡ piece_marks size stream piece ++ piece_marks size (stream ++ piece) more
    piece_marks-append stream piece more =
        same_behind (marks_from size 0 stream)
        (sym (marks_from-append stream (piece ++ more))
        ∙ ap (marks_from size 0) (sym (append_assoc stream piece more))
        ∙ marks_from-append (stream ++ piece) more
        ∙ ap (λ (l : List Mark). l ++ piece_marks size (stream ++ piece) more) (marks_from-append stream piece)
        ∙ append_assoc (marks_from size 0 stream) (piece_marks size stream piece) (piece_marks size (stream ++ piece) more))

    -- the marks of bytes among those of takes are those of all the bytes that they gave
    pub take_marks-of_bytes : (stream : List ℕ) (takes : List Call) → of_bytes (take_marks size stream takes) ≡ piece_marks size stream (bytes_in takes)
    unfolding of_bytes take_marks bytes_in
    take_marks-of_bytes stream [] = sym (piece_marks-nil stream)
    take_marks-of_bytes stream (Took piece ∷ takes) =
        of_bytes-append (piece_marks size stream piece) (take_marks size (stream ++ piece) takes)
        ∙ ap (λ (l : List Mark). l ++ of_bytes (take_marks size (stream ++ piece) takes)) (of_bytes-all (piece_marks size stream piece) (piece_marks-of_bytes stream piece))
        ∙ ap (λ (l : List Mark). piece_marks size stream piece ++ l) (take_marks-of_bytes (stream ++ piece) takes)
        ∙ sym (piece_marks-append stream piece (bytes_in takes))
    take_marks-of_bytes stream (WasQuiet ∷ takes) = take_marks-of_bytes stream takes
    take_marks-of_bytes stream (WasEnd ∷ takes) = take_marks-of_bytes stream takes
    take_marks-of_bytes stream (TakeFailed ∷ takes) = take_marks-of_bytes stream takes
    take_marks-of_bytes stream (Opened address ok ∷ takes) = take_marks-of_bytes stream takes
    take_marks-of_bytes stream (Paired ok ∷ takes) = take_marks-of_bytes stream takes
    take_marks-of_bytes stream (Sent bytes ok ∷ takes) = take_marks-of_bytes stream takes
    take_marks-of_bytes stream (Closed ∷ takes) = take_marks-of_bytes stream takes
