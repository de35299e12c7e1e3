-- The look for the next mark goes on and ends.
use Rattle.std.proofs.Common.{◌≡◌, inl, inr, ℕ, List, [], ◌∷◌, ◌++◌, All, Option, refl, sym, ◌∙◌, ap}
use Rattle.std.proofs.lemmas.List.{append-nil}
use Rattle.std.proofs.lemmas.List.Elements.{All-nil, All-cons}
use Rattle.kit_io.specs.Growth.{Grows}
use Rattle.kit_io.proofs.Growth.{Grows-none, Grows-append}
use Rattle.framing.specs.declared.framing.Size.{Size}
use Rattle.framing.specs.Reading.{Reading}
use Rattle.link_io.specs.Calls.{Call, Took, WasQuiet, WasEnd, TakeFailed}
use Rattle.link_session.specs.Marks.{Mark, Message, Bad, Quiet, End, Failed, IsTake, piece_marks, take_marks, bytes_in}
use Rattle.link_session.specs.Waiting.{Heard, Brings, AreNeeded, marks_with}
use Rattle.link_session.specs.Hearing.{Stands, IsFirst, Looks, placed_in}
use Rattle.link_session.specs.declared.incoming.Found.{Found}
use Rattle.link_session.specs.declared.mark.Mark.TheVariants as mark
use Rattle.link_session.proofs.Takes.{Brings-none, Brings-append}

-- takes were made that bring no mark but those that are left
pub record Looked (size : List ℕ → Size) (heard : Heard) (cutter : Reading) (before calls : Option (List Call)) : Type 0 where
  pub takes : List Call
  pub now : Heard
  pub brings : Brings size heard takes [] now
  pub needed : AreNeeded size heard takes []
  pub stands : Stands size cutter now
  pub grows : Grows before takes calls

module _ (size : List ℕ → Size) where
  pub Looked-none : {heard : Heard} {cutter : Reading} (calls : Option (List Call)) → Stands size cutter heard → Looked size heard cutter calls calls
  Looked-none {heard = heard} calls stands = record { takes = []; now = heard; brings = Brings-none size heard; needed = inl refl; stands = stands; grows = Grows-none calls }

  one_take : (call : Call) → IsTake call → All IsTake (call ∷ [])
  one_take call is = All-cons IsTake call [] is (All-nil IsTake)

  Brings-took : (heard : Heard) (piece : List ℕ) → heard.left ≡ [] → Brings size heard (Took piece ∷ []) [] (record { taken = heard.taken ++ piece; left = piece_marks size heard.taken piece })
  unfolding take_marks bytes_in
  Brings-took heard piece none = record {
    each = one_take (Took piece) tt;
    marks = ap (λ (l : List Mark). l ++ (piece_marks size heard.taken piece ++ [])) none ∙ append-nil (piece_marks size heard.taken piece);
    taken = ap (λ (l : List ℕ). heard.taken ++ l) (sym (append-nil piece));
  }

  Brings-quiet : (heard : Heard) → heard.left ≡ [] → Brings size heard (WasQuiet ∷ []) (Quiet ∷ []) heard
  unfolding take_marks bytes_in
  Brings-quiet heard none = record { each = one_take WasQuiet tt; marks = ap (λ (l : List Mark). l ++ Quiet ∷ []) none ∙ ap (λ (l : List Mark). Quiet ∷ l) (sym none); taken = sym (append-nil heard.taken) }

  Brings-end : (heard : Heard) → heard.left ≡ [] → Brings size heard (WasEnd ∷ []) (End ∷ []) heard
  unfolding take_marks bytes_in
  Brings-end heard none = record { each = one_take WasEnd tt; marks = ap (λ (l : List Mark). l ++ End ∷ []) none ∙ ap (λ (l : List Mark). End ∷ l) (sym none); taken = sym (append-nil heard.taken) }

  Brings-failed : (heard : Heard) → heard.left ≡ [] → Brings size heard (TakeFailed ∷ []) (Failed ∷ []) heard
  unfolding take_marks bytes_in
  Brings-failed heard none = record { each = one_take TakeFailed tt; marks = ap (λ (l : List Mark). l ++ Failed ∷ []) none ∙ ap (λ (l : List Mark). Failed ∷ l) (sym none); taken = sym (append-nil heard.taken) }

  module _ {heard : Heard} {cutter : Reading} {before calls : Option (List Call)} (looked : Looked size heard cutter before calls) where
    -- what was taken holds a mark
    pub Looks-message : {new : Reading} (found : Found) → IsFirst size looked.now.left (Message (placed_in new found)) looked.now.taken new → Looks size heard (mark.Message found) new before calls
    Looks-message found first = record {
      takes = looked.takes;
      later = record { taken = looked.now.taken; left = first.later };
      brings = record { each = looked.brings.each; marks = looked.brings.marks ∙ first.are; taken = looked.brings.taken };
      needed = looked.needed;
      stands = first.stands;
      grows = looked.grows;
    }

    pub Looks-bad : {new : Reading} (place : ℕ) → looked.now.left ≡ Bad place ∷ [] → Looks size heard (mark.Bad place) new before calls
    Looks-bad place bad = record {
      takes = looked.takes;
      later = record { taken = looked.now.taken; left = [] };
      brings = record { each = looked.brings.each; marks = looked.brings.marks ∙ bad; taken = looked.brings.taken };
      needed = looked.needed;
      stands = tt;
      grows = looked.grows;
    }

    -- it holds none, and one take more is needed
    module _ (none : looked.now.left ≡ []) where
      more_needed : (last : Call) → AreNeeded size heard (looked.takes ++ last ∷ []) []
      more_needed last = inr (looked.takes, last, [], refl, sym (append-nil (marks_with size heard looked.takes) ∙ looked.brings.marks ∙ none))

      pub Looked-more : {new : Reading} {after : Option (List Call)} (piece : List ℕ) → Stands size new (record { taken = looked.now.taken ++ piece; left = piece_marks size looked.now.taken piece })
          → Grows calls (Took piece ∷ []) after → Looked size heard new before after
      Looked-more piece stands grows = record {
        takes = looked.takes ++ Took piece ∷ [];
        now = record { taken = looked.now.taken ++ piece; left = piece_marks size looked.now.taken piece };
        brings = Brings-append size looked.brings (Brings-took looked.now piece none);
        needed = more_needed (Took piece);
        stands = stands;
        grows = Grows-append looked.grows grows;
      }

      module _ {new : Reading} {after : Option (List Call)} (stands : Stands size new looked.now) where
        pub Looks-quiet : Grows calls (WasQuiet ∷ []) after → Looks size heard mark.Quiet new before after
        Looks-quiet grows = record {
          takes = looked.takes ++ WasQuiet ∷ [];
          later = looked.now;
          brings = Brings-append size looked.brings (Brings-quiet looked.now none);
          needed = more_needed WasQuiet;
          stands = stands;
          grows = Grows-append looked.grows grows;
        }

        pub Looks-end : Grows calls (WasEnd ∷ []) after → Looks size heard mark.End new before after
        Looks-end grows = record {
          takes = looked.takes ++ WasEnd ∷ [];
          later = looked.now;
          brings = Brings-append size looked.brings (Brings-end looked.now none);
          needed = more_needed WasEnd;
          stands = stands;
          grows = Grows-append looked.grows grows;
        }

        pub Looks-failed : Grows calls (TakeFailed ∷ []) after → Looks size heard mark.Failed new before after
        Looks-failed grows = record {
          takes = looked.takes ++ TakeFailed ∷ [];
          later = looked.now;
          brings = Brings-append size looked.brings (Brings-failed looked.now none);
          needed = more_needed TakeFailed;
          stands = stands;
          grows = Grows-append looked.grows grows;
        }
