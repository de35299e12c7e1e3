-- What the session has heard goes on from call to call.
use Rattle.std.proofs.Common.{◌≡◌, ℕ, ◌+◌, List, [], ◌∷◌, ◌++◌, length, take, drop, slice_range, refl, sym, ◌∙◌, ap, arith, append_assoc, length-append}
use Rattle.std.proofs.lemmas.List.Elements.{All-nil}
use Rattle.std.specs.List.{concat}
use Rattle.kit_bytes.specs.declared.span.Span.{Span}
use Rattle.framing.specs.declared.framing.Size.{Size}
use Rattle.framing.specs.Framing.{IsMessage, IsPartial, IsBad, IsKept, IsPositive}
use Rattle.framing.specs.Reading.{Reading, GivesMessage}
use Rattle.framing.proofs.Standing.{StandsFor-gives, part_is, concat-push}
use Rattle.link_session.specs.Marks.{Mark, Message, Bad, marks_from, piece_marks}
use Rattle.link_session.specs.Waiting.{Heard, nothing_heard}
use Rattle.link_session.specs.Hearing.{Stands, IsFirst}
use Rattle.link_session.proofs.Places.{marks_from-partial, marks_from-bad, marks_from-message, piece_marks-partial}

module _ (size : List ℕ → Size) (kept : (front more : List ℕ) → IsKept (size front) (size (front ++ more))) where
  pub Stands-start : IsPartial size [] → Stands size (record { place = 0; handed = []; rest = [] }) nothing_heard
  Stands-start begins = record {
    given = [];
    stands = record { whole = refl; each = All-nil (IsMessage size); place = refl };
    left = sym (marks_from-partial size kept 0 [] begins);
  }

  module _ {cutter : Reading} {heard : Heard} (stands : Stands size cutter heard) where
    pub left-partial : IsPartial size cutter.rest → heard.left ≡ []
    left-partial partial = stands.left ∙ marks_from-partial size kept (length (concat stands.given)) cutter.rest partial

    pub left-bad : IsBad size cutter.rest → heard.left ≡ Bad cutter.place ∷ []
    left-bad bad =
        stands.left
        ∙ marks_from-bad size kept (length (concat stands.given)) cutter.rest bad
        ∙ ap (λ (n : ℕ). Bad n ∷ []) (sym stands.stands.place)

    module _ (positive : (bytes : List ℕ) → IsPositive (size bytes)) where
      pub left-message : {new : Reading} {span : Span} → GivesMessage size cutter new span
          → IsFirst size heard.left (Message (record { place = cutter.place; bytes = slice_range new.handed span.start span.end })) heard.taken new
      left-message {new = new} {span = span} it =
          let given = stands.given in
          let message : List ℕ = take it.count cutter.rest in
          let part : slice_range new.handed span.start span.end ≡ message = part_is size it.gives in
          let far : length (concat given) + length message ≡ length (concat (given ++ message ∷ [])) =
          omega (arith, ap length (concat-push given message), length-append (concat given) message) in
          let mark_at : ℕ → Mark = λ (n : ℕ). Message (record { place = n; bytes = message }) in
          rw part (record {
            later = marks_from size (length (concat (given ++ message ∷ []))) new.rest;
            are =
                stands.left
                ∙ marks_from-message size kept positive (length (concat given)) cutter.rest it.count it.message
                ∙ ap (λ (n : ℕ). mark_at n ∷ marks_from size (length (concat given) + length message) (drop it.count cutter.rest)) (sym stands.stands.place)
                ∙ ap (λ (n : ℕ). mark_at cutter.place ∷ marks_from size n (drop it.count cutter.rest)) far
                ∙ ap (λ (l : List ℕ). mark_at cutter.place ∷ marks_from size (length (concat (given ++ message ∷ []))) l) (sym it.gives.rest);
            stands = record {
              given = given ++ message ∷ [];
              stands = rw part at (StandsFor-gives size it heard.taken given stands.stands);
              left = refl;
            };
          })

      pub Stands-push : (piece : List ℕ) → IsPartial size cutter.rest → (new : Reading) → new ≡ record { place = cutter.place; handed = []; rest = cutter.rest ++ piece }
          → Stands size new (record { taken = heard.taken ++ piece; left = piece_marks size heard.taken piece })
      Stands-push piece partial new is =
          let given = stands.given in
          rw is (record {
            given = given;
            stands = record {
              whole = ap (λ (l : List ℕ). l ++ piece) stands.stands.whole ∙ append_assoc (concat given) cutter.rest piece;
              each = stands.stands.each;
              place = stands.stands.place;
            };
            left = ap (λ (l : List ℕ). piece_marks size l piece) stands.stands.whole ∙ piece_marks-partial size kept positive given cutter.rest piece stands.stands.each partial;
          })
