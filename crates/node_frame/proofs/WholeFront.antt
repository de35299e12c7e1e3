-- The whole messages at the front of some bytes.
use Rattle.std.proofs.Common.{◌≡◌, ◌⊎◌, inl, inr, ℕ, ◌+◌, ◌<◌, ◌≤◌, List, [], ◌∷◌, ◌++◌, All, length, take, drop, slice_range, ◌-◌, refl, sym, subst, ◌∙◌, ap, rules, arith, append_assoc, length-append, take-append-drop, length-drop}
use Rattle.std.proofs.lemmas.List.{length-take-le, drop-drop}
use Rattle.std.proofs.lemmas.List.Elements.{All-push}
use Rattle.std.proofs.lemmas.Slice.{between_to_end}
use Rattle.std.specs.List.{concat}
use Rattle.kit_bytes.proofs.Lists.{concat-push}
use Rattle.framing.specs.declared.framing.Size.{Size}
use Rattle.framing.specs.declared.framing.Size.TheVariants.{Unknown, Known, Invalid}
use Rattle.framing.specs.Framing.{IsMessage, IsPartial, IsBad, IsShort}
use Rattle.framing.specs.Cutting.{Cutting, cut}
use Rattle.framing.proofs.Standing.{cut-only}
use Rattle.node_frame.specs.Frame.{size_of}
use Rattle.node_frame.specs.Framing.{size_of-kept, size_of-told, size_of-positive}

-- the first so many bytes are whole messages
pub record IsFront (bytes : List ℕ) (at : ℕ) : Type 0 where
  pub given : List (List ℕ)
  pub each : All (IsMessage size_of) given
  pub whole : bytes ≡ concat given ++ drop at bytes
  pub counted : at ≡ length (concat given)

pub IsFront-none : (bytes : List ℕ) → IsFront bytes 0
IsFront-none bytes = record { given = []; each = search rules; whole = refl; counted = refl }

module _ {bytes : List ℕ} {at : ℕ} (so_far : IsFront bytes at) where
  rest_is : at ≤ length bytes → slice_range bytes at (length bytes) ≡ drop at bytes
  rest_is within = between_to_end bytes at (length bytes) (omega arith)

  -- one message more
  pub IsFront-more : (count : ℕ) → at ≤ length bytes → size_of (slice_range bytes at (length bytes)) ≡ Known count → count ≤ length bytes - at → IsFront bytes (at + count)
  IsFront-more count within known fits =
      let rest : List ℕ = drop at bytes in
      let long : count ≤ length rest = omega (arith, fits, length-drop at bytes) in
      let known_here : size_of rest ≡ Known count = ap size_of (sym (rest_is within)) ∙ known in
      let taken : length (take count rest) ≡ count = length-take-le count rest long in
      record {
        given = so_far.given ++ take count rest ∷ [];
        each = All-push (IsMessage size_of) so_far.given (take count rest) so_far.each (size_of-told rest count known_here long ∙ ap (λ (n : ℕ). Known n) (sym taken));
        whole =
            so_far.whole
            ∙ ap (λ (l : List ℕ). concat so_far.given ++ l) (sym (take-append-drop count rest))
            ∙ sym (append_assoc (concat so_far.given) (take count rest) (drop count rest))
            ∙ ap (λ (l : List ℕ). l ++ drop count rest) (sym (concat-push so_far.given (take count rest)))
            ∙ ap (λ (l : List ℕ). concat (so_far.given ++ take count rest ∷ []) ++ l) (drop-drop count at bytes);
        counted = omega (arith, ap length (concat-push so_far.given (take count rest)), length-append (concat so_far.given) (take count rest), taken, so_far.counted);
      }

  open_is : (rest : List ℕ) → (size_of rest ≡ Unknown) ⊎ (size_of rest ≡ Invalid) → IsPartial size_of rest ⊎ IsBad size_of rest
  open_is rest is = elim is [
    | inl unknown ↦ inl (subst (λ (s : Size). IsShort s (length rest)) (sym unknown) tt)
    | inr bad ↦ inr bad
  ]

  -- no message more
  IsFront-ends : at ≤ length bytes → IsPartial size_of (slice_range bytes at (length bytes)) ⊎ IsBad size_of (slice_range bytes at (length bytes)) → at ≡ length (concat (cut size_of bytes).messages)
  IsFront-ends within none =
      let P : List ℕ → Type 0 = λ (l : List ℕ). IsPartial size_of l ⊎ IsBad size_of l in
      let only = ap (cut size_of) so_far.whole ∙ cut-only size_of size_of-kept size_of-positive so_far.given (drop at bytes) so_far.each (subst P (rest_is within) none) in
      so_far.counted ∙ ap (λ (c : Cutting). length (concat c.messages)) (sym only)

  -- no message goes on from here, or nothing tells yet how long it is
  pub IsFront-open : at ≤ length bytes → (size_of (slice_range bytes at (length bytes)) ≡ Unknown) ⊎ (size_of (slice_range bytes at (length bytes)) ≡ Invalid) → at ≡ length (concat (cut size_of bytes).messages)
  IsFront-open within is = IsFront-ends within (open_is (slice_range bytes at (length bytes)) is)

  -- a message goes on past the bytes
  pub IsFront-short : (count : ℕ) → at ≤ length bytes → size_of (slice_range bytes at (length bytes)) ≡ Known count → length bytes - at < count → at ≡ length (concat (cut size_of bytes).messages)
  IsFront-short count within known short =
      let long : length (slice_range bytes at (length bytes)) < count = omega (arith, short, ap length (rest_is within), length-drop at bytes) in
      IsFront-ends within (inl (subst (λ (s : Size). IsShort s (length (slice_range bytes at (length bytes)))) (sym known) long))
