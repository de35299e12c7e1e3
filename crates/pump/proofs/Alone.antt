-- Whole messages are written alone.
use Rattle.std.proofs.Common.{◌≡◌, ◌⊎◌, inl, inr, ℕ, ◌<◌, true, false, List, [], ◌∷◌, ◌++◌, All, length, ⊎_elim, refl, sym, ◌∙◌, ap, subst}
use Rattle.std.proofs.lemmas.List.{append-nil}
use Rattle.std.proofs.lemmas.Bool.{cases_Bool}
use Rattle.std.proofs.lemmas.List.Elements.{recursion_from_All}
use Rattle.std.specs.List.{concat, AllByRecursion}
use Rattle.framing.specs.Framing.{IsMessage, IsPartial, IsBad, is_message}
use Rattle.framing.specs.Cutting.{Cutting, behind, cut_from, cut}
use Rattle.node_frame.specs.Frame.{size_of}
use Rattle.pump.specs.Writes.{some, writes_from, writes_behind}
use Rattle.pump.specs.Laws.{WholeMessagesAreWrittenAlone}
use Rattle.pump.proofs.Ends.{writes_from-ends, writes_from-goes_on, writes_from-message, writes_from-none, message_is_some, rest-append, rest-message, rest-none, bad-more}

alone-by_parts : (messages : List (List ℕ)) → AllByRecursion (IsMessage size_of) messages → writes_from [] [] (concat messages) ≡ messages
unfolding writes_from
alone-by_parts [] each = refl
alone-by_parts (message ∷ messages) each =
    writes_from-message [] [] message (concat messages) each.0 (message_is_some message each.0) ∙ ap (λ (l : List (List ℕ)). message ∷ l) (alone-by_parts messages each.1)

alone : (before : List ℕ) (messages : List (List ℕ)) → (cut size_of before).rest ≡ [] → All (IsMessage size_of) messages → writes_behind before (concat messages) ≡ messages
alone before messages none each = ap (λ (l : List ℕ). writes_from l [] (concat messages)) none ∙ alone-by_parts messages (recursion_from_All (IsMessage size_of) messages each)

cut_from-ends : (begun : List ℕ) (byte : ℕ) (stream : List ℕ) → is_message size_of (begun ++ byte ∷ []) ≡ true
    → cut_from size_of begun (byte ∷ stream) ≡ behind ((begun ++ byte ∷ []) ∷ []) (cut size_of stream)
unfolding cut_from
cut_from-ends begun byte stream ends = rw (ends, cut_from) refl

cut_from-goes_on : (begun : List ℕ) (byte : ℕ) (stream : List ℕ) → is_message size_of (begun ++ byte ∷ []) ≡ false
    → cut_from size_of begun (byte ∷ stream) ≡ cut_from size_of (begun ++ byte ∷ []) stream
unfolding cut_from
cut_from-goes_on begun byte stream goes_on = rw (goes_on, cut_from) refl

-- the messages, and what is left where there is any
writes_in : Cutting → List (List ℕ)
writes_in cutting = cutting.messages ++ some cutting.rest

-- with all that has begun in the write
in_one_piece_from : (begun stream : List ℕ) → writes_from begun begun stream ≡ writes_in (cut_from size_of begun stream)
unfolding writes_from cut_from writes_in
in_one_piece_from begun [] = refl
in_one_piece_from begun (byte ∷ stream) =
    ⊎_elim
    (λ ends.
    writes_from-ends begun begun byte stream ends
    ∙ ap (λ (l : List (List ℕ)). (begun ++ byte ∷ []) ∷ l) (in_one_piece_from [] stream)
    ∙ sym (ap writes_in (cut_from-ends begun byte stream ends)))
    (λ goes_on.
    writes_from-goes_on begun begun byte stream goes_on
    ∙ in_one_piece_from (begun ++ byte ∷ []) stream
    ∙ sym (ap writes_in (cut_from-goes_on begun byte stream goes_on)))
    (cases_Bool (is_message size_of (begun ++ byte ∷ [])))

in_one_piece : (stream : List ℕ) → writes_behind [] stream ≡ (cut size_of stream).messages ++ some (cut size_of stream).rest
unfolding cut_from writes_in
in_one_piece stream = in_one_piece_from [] stream

ended : (before tail more : List ℕ) → 0 < length tail → IsMessage size_of ((cut size_of before).rest ++ tail) → writes_behind before (tail ++ more) ≡ tail ∷ writes_behind (before ++ tail) more
ended before tail more long whole =
    let message : List ℕ = (cut size_of before).rest ++ tail in
    let none : (cut size_of (before ++ tail)).rest ≡ [] =
    rest-append before tail ∙ ap (λ (l : List ℕ). (cut size_of l).rest) (sym (append-nil message)) ∙ rest-message message [] whole ∙ rest-none [] (inl tt) in
    writes_from-message (cut size_of before).rest [] tail more whole long
    ∙ ap (λ (l : List ℕ). tail ∷ writes_from l [] more) (sym none)

as_it_came : (before piece : List ℕ) → IsPartial size_of ((cut size_of before).rest ++ piece) ⊎ IsBad size_of ((cut size_of before).rest ++ piece) → writes_behind before piece ≡ some piece
as_it_came before piece holds = writes_from-none (cut size_of before).rest [] piece holds

stays_bad : (before piece : List ℕ) → IsBad size_of (cut size_of before).rest → (writes_behind before piece ≡ some piece) × IsBad size_of (cut size_of (before ++ piece)).rest
stays_bad before piece bad =
    let more : IsBad size_of ((cut size_of before).rest ++ piece) = bad-more (cut size_of before).rest piece bad in
    let P : List ℕ → Type 0 = IsBad size_of in
    (as_it_came before piece (inr more), subst P (sym (rest-append before piece ∙ rest-none ((cut size_of before).rest ++ piece) (inr more))) more)

pub messages_are_alone : WholeMessagesAreWrittenAlone
messages_are_alone = record { alone = alone; in_one_piece = in_one_piece; ended = ended; as_it_came = as_it_came; stays_bad = stays_bad }
