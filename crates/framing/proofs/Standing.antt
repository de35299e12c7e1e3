-- What a cutter stands for goes on from call to call.
use Rattle.std.proofs.Common.{◌≡◌, ◌⊎◌, inl, inr, ℕ, List, [], ◌∷◌, ◌++◌, All, length, take, drop, slice_range, sym, ◌∙◌, ap, arith, append_assoc, length-append, take-append-drop, length-take}
use Rattle.std.proofs.lemmas.List.{append-nil, drop_at}
use Rattle.std.proofs.lemmas.Slice.{between_to_end}
use Rattle.std.proofs.lemmas.List.Elements.{All-push}
use Rattle.std.specs.List.{concat}
pub use Rattle.kit_bytes.proofs.Lists.{concat-push}
use Rattle.kit_bytes.specs.declared.span.Span.{Span}
use Rattle.framing.specs.declared.framing.Size.{Size}
use Rattle.framing.specs.Framing.{IsMessage, IsPartial, IsBad, IsKept, IsPositive}
use Rattle.framing.specs.Cutting.{Cutting, behind, cut}
use Rattle.framing.specs.Reading.{Reading, Gives, GivesMessage, StandsFor, HasGiven}
use Rattle.framing.proofs.Cuts.{cut-given, cut-partial, cut-bad}

module _ (size : List ℕ → Size) where
  -- the part that is given is the message
  pub part_is : {old new : Reading} {count : ℕ} {span : Span} → Gives old new count span → slice_range new.handed span.start span.end ≡ take count old.rest
  part_is {old = old} {new = new} {count = count} {span = span} gives =
      between_to_end new.handed span.start span.end (omega (arith, gives.end))
      ∙ ap (λ (l : List ℕ). drop span.start l) gives.handed
      ∙ drop_at old.handed (take count old.rest) span.start (sym gives.start)

  -- one message more is given
  pub StandsFor-gives : {old new : Reading} {span : Span} → GivesMessage size old new span
      → (stream : List ℕ) (given : List (List ℕ)) → StandsFor size old stream given → StandsFor size new stream (given ++ slice_range new.handed span.start span.end ∷ [])
  StandsFor-gives {old = old} {new = new} {span = span} it stream given stands =
      let message : List ℕ = take it.count old.rest in
      rw (part_is it.gives) (record {
        whole =
            stands.whole
            ∙ ap (λ (l : List ℕ). concat given ++ l) (sym (take-append-drop it.count old.rest) ∙ ap (λ (l : List ℕ). message ++ l) (sym it.gives.rest))
            ∙ sym (append_assoc (concat given) message new.rest)
            ∙ ap (λ (l : List ℕ). l ++ new.rest) (sym (concat-push given message));
        each = All-push (IsMessage size) given message stands.each it.message;
        place =
            let c = ap length (concat-push given message) in
            omega (arith, c, length-append (concat given) message, length-take it.count old.rest, it.gives.within, it.gives.place, stands.place);
      })

  module _ (kept : (front more : List ℕ) → IsKept (size front) (size (front ++ more))) (positive : (bytes : List ℕ) → IsPositive (size bytes)) where
    -- messages, and behind them bytes that hold no whole one
    cut-none : (given : List (List ℕ)) (rest : List ℕ) → All (IsMessage size) given → cut size rest ≡ record { messages = []; rest = rest }
        → cut size (concat given ++ rest) ≡ record { messages = given; rest = rest }
    cut-none given rest all none =
        cut-given size kept positive given rest all
        ∙ ap (behind given) none
        ∙ ap (λ (l : List (List ℕ)). record { messages = l; rest = rest }) (append-nil given)

    pub cut-only : (given : List (List ℕ)) (rest : List ℕ) → All (IsMessage size) given → IsPartial size rest ⊎ IsBad size rest
        → cut size (concat given ++ rest) ≡ record { messages = given; rest = rest }
    cut-only given rest all none = cut-none given rest all (elim none [ inl part ↦ cut-partial size kept rest part | inr bad ↦ cut-bad size kept rest bad ])

    -- with a rest that holds no message, all messages are given
    all_given : {cutter : Reading} {stream : List ℕ} {given : List (List ℕ)} → StandsFor size cutter stream given
        → cut size cutter.rest ≡ record { messages = []; rest = cutter.rest } → HasGiven size cutter stream given
    all_given {cutter = cutter} {given = given} stands none =
        let whole = ap (cut size) stands.whole ∙ cut-none given cutter.rest stands.each none in
        record { messages = ap (λ (c : Cutting). c.messages) whole; rest = ap (λ (c : Cutting). c.rest) whole }

    pub HasGiven-partial : {cutter : Reading} {stream : List ℕ} {given : List (List ℕ)} → StandsFor size cutter stream given → IsPartial size cutter.rest → HasGiven size cutter stream given
    HasGiven-partial {cutter = cutter} stands part = all_given stands (cut-partial size kept cutter.rest part)

    pub HasGiven-bad : {cutter : Reading} {stream : List ℕ} {given : List (List ℕ)} → StandsFor size cutter stream given → IsBad size cutter.rest → HasGiven size cutter stream given
    HasGiven-bad {cutter = cutter} stands bad = all_given stands (cut-bad size kept cutter.rest bad)
