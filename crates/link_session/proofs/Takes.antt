-- Takes after takes, and the marks that they bring.
use Rattle.std.proofs.Common.{◌≡◌, inl, inr, ℕ, List, [], ◌∷◌, ◌++◌, refl, sym, ◌∙◌, ap, append_assoc}
use Rattle.std.proofs.lemmas.List.{append-nil}
use Rattle.std.proofs.lemmas.List.Elements.{All-nil, All-append}
use Rattle.framing.specs.declared.framing.Size.{Size}
use Rattle.link_io.specs.Calls.{Call, Opened, Paired, Sent, Took, WasQuiet, WasEnd, TakeFailed, Closed}
use Rattle.link_session.specs.Marks.{Mark, Quiet, End, Failed, IsTake, piece_marks, take_marks, bytes_in}
use Rattle.link_session.specs.Waiting.{Heard, Brings, AreNeeded, marks_with}

pub bytes_in-append : (xs ys : List Call) → bytes_in (xs ++ ys) ≡ bytes_in xs ++ bytes_in ys
unfolding bytes_in
bytes_in-append [] ys = refl
bytes_in-append (Took piece ∷ xs) ys = ap (λ (l : List ℕ). piece ++ l) (bytes_in-append xs ys) ∙ sym (append_assoc piece (bytes_in xs) (bytes_in ys))
bytes_in-append (WasQuiet ∷ xs) ys = bytes_in-append xs ys
bytes_in-append (WasEnd ∷ xs) ys = bytes_in-append xs ys
bytes_in-append (TakeFailed ∷ xs) ys = bytes_in-append xs ys
bytes_in-append (Opened address ok ∷ xs) ys = bytes_in-append xs ys
bytes_in-append (Paired ok ∷ xs) ys = bytes_in-append xs ys
bytes_in-append (Sent bytes ok ∷ xs) ys = bytes_in-append xs ys
bytes_in-append (Closed ∷ xs) ys = bytes_in-append xs ys

module _ (size : List ℕ → Size) where
  pub take_marks-append : (stream : List ℕ) (xs ys : List Call) → take_marks size stream (xs ++ ys) ≡ take_marks size stream xs ++ take_marks size (stream ++ bytes_in xs) ys
  unfolding take_marks bytes_in
  take_marks-append stream [] ys = ap (λ (l : List ℕ). take_marks size l ys) (sym (append-nil stream))
  take_marks-append stream (Took piece ∷ xs) ys =
      ap (λ (l : List Mark). piece_marks size stream piece ++ l)
      (take_marks-append (stream ++ piece) xs ys ∙ ap (λ (l : List ℕ). take_marks size (stream ++ piece) xs ++ take_marks size l ys) (append_assoc stream piece (bytes_in xs)))
      ∙ sym (append_assoc (piece_marks size stream piece) (take_marks size (stream ++ piece) xs) (take_marks size (stream ++ (piece ++ bytes_in xs)) ys))
  take_marks-append stream (WasQuiet ∷ xs) ys = ap (λ (l : List Mark). Quiet ∷ l) (take_marks-append stream xs ys)
  take_marks-append stream (WasEnd ∷ xs) ys = ap (λ (l : List Mark). End ∷ l) (take_marks-append stream xs ys)
  take_marks-append stream (TakeFailed ∷ xs) ys = ap (λ (l : List Mark). Failed ∷ l) (take_marks-append stream xs ys)
  take_marks-append stream (Opened address ok ∷ xs) ys = take_marks-append stream xs ys
  take_marks-append stream (Paired ok ∷ xs) ys = take_marks-append stream xs ys
  take_marks-append stream (Sent bytes ok ∷ xs) ys = take_marks-append stream xs ys
  take_marks-append stream (Closed ∷ xs) ys = take_marks-append stream xs ys

  pub Brings-none : (heard : Heard) → Brings size heard [] [] heard
  unfolding take_marks bytes_in
  Brings-none heard = record { each = All-nil IsTake; marks = append-nil heard.left; taken = sym (append-nil heard.taken) }

  -- more marks need them too
  pub AreNeeded-more : (heard : Heard) {takes : List Call} {marks : List Mark} (extra : List Mark) → AreNeeded size heard takes marks → AreNeeded size heard takes (marks ++ extra)
  AreNeeded-more heard extra (inl none) = inl none
  AreNeeded-more heard extra (inr (earlier, last, more, are, marks)) =
      inr (earlier, last, more ++ extra, are, ap (λ (l : List Mark). l ++ extra) marks ∙ append_assoc (marks_with size heard earlier) more extra)

  module _ {heard mid : Heard} {xs : List Call} {first : List Mark} (front : Brings size heard xs first mid) where
    -- what there is to look at with more takes
    pub marks_behind : (ys : List Call) → marks_with size heard (xs ++ ys) ≡ first ++ marks_with size mid ys
    marks_behind ys =
        ap (λ (l : List Mark). heard.left ++ l) (take_marks-append heard.taken xs ys)
        ∙ ap (λ (l : List ℕ). heard.left ++ (take_marks size heard.taken xs ++ take_marks size l ys)) (sym front.taken)
        ∙ sym (append_assoc heard.left (take_marks size heard.taken xs) (take_marks size mid.taken ys))
        ∙ ap (λ (l : List Mark). l ++ take_marks size mid.taken ys) front.marks
        ∙ append_assoc first mid.left (take_marks size mid.taken ys)

    -- one after the other
    pub Brings-append : {later : Heard} {ys : List Call} {more : List Mark} → Brings size mid ys more later → Brings size heard (xs ++ ys) (first ++ more) later
    Brings-append {later = later} {ys = ys} {more = more} back = record {
      each = All-append IsTake xs ys front.each back.each;
      marks = marks_behind ys ∙ ap (λ (l : List Mark). first ++ l) back.marks ∙ sym (append_assoc first more later.left);
      taken =
          back.taken
          ∙ ap (λ (l : List ℕ). l ++ bytes_in ys) front.taken
          ∙ append_assoc heard.taken (bytes_in xs) (bytes_in ys)
          ∙ ap (λ (l : List ℕ). heard.taken ++ l) (sym (bytes_in-append xs ys));
    }

    -- takes that are needed for the next mark, behind takes that are needed
    pub AreNeeded-append : {ys : List Call} → AreNeeded size heard xs first → AreNeeded size mid ys [] → AreNeeded size heard (xs ++ ys) first
    AreNeeded-append {ys = ys} early (inr (earlier, last, more, are, none)) =
        inr (
          xs ++ earlier,
          last,
          more,
          ap (λ (l : List Call). xs ++ l) are ∙ sym (append_assoc xs earlier (last ∷ [])),
          sym (ap (λ (l : List Mark). l ++ more) (marks_behind earlier)
              ∙ append_assoc first (marks_with size mid earlier) more
              ∙ ap (λ (l : List Mark). first ++ l) (sym none)
              ∙ append-nil first),
        )
    AreNeeded-append {ys = ys} (inl none) (inl no_more) = inl (ap (λ (l : List Call). l ++ ys) none ∙ no_more)
    AreNeeded-append {ys = ys} (inr (earlier, last, more, are, marks)) (inl no_more) =
        inr (earlier, last, more, ap (λ (l : List Call). xs ++ l) no_more ∙ append-nil xs ∙ are, marks)
