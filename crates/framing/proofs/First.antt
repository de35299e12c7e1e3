-- The first message of a text, and what is cut of the text behind it.
use Rattle.std.proofs.Common.{◌≡◌, ℕ, false, List, [], ◌∷◌, ◌++◌, take, drop, refl, ap, sym, ◌∙◌}
use Rattle.framing.specs.declared.framing.Size.{Size}
use Rattle.framing.specs.declared.framing.Size.TheVariants.{Unknown, Known, Invalid}
use Rattle.framing.specs.Framing.{IsMessage, IsShort, IsKept, IsPositive, is_invalid}
use Rattle.framing.specs.Cutting.{Cutting, cut, behind}
use Rattle.framing.proofs.Cuts.{cut-first}

-- the bytes begin with this message
pub record Begins (size : List ℕ → Size) (rest after m : List ℕ) : Type 0 where
  pub count : ℕ
  pub message : m ≡ take count rest
  pub after_it : after ≡ drop count rest
  pub whole : IsMessage size (take count rest)

pub partial_is : (size : Size) (count : ℕ) → IsShort size count → is_invalid size ≡ false
partial_is Unknown count short = refl
partial_is (Known length) count short = refl
partial_is Invalid count short = absurd short

module _ (size : List ℕ → Size) (kept : (front more : List ℕ) → IsKept (size front) (size (front ++ more))) (positive : (bytes : List ℕ) → IsPositive (size bytes)) {rest after m : List ℕ} (b : Begins size rest after m) where
  pub cut_is : cut size rest ≡ behind (m ∷ []) (cut size after)
  cut_is =
      cut-first size kept positive rest b.count b.whole
      ∙ ap (λ (l : List ℕ). behind (l ∷ []) (cut size (drop b.count rest))) (sym b.message)
      ∙ ap (λ (l : List ℕ). behind (m ∷ []) (cut size l)) (sym b.after_it)

  pub rest_one : (cut size after).rest ≡ (cut size rest).rest
  rest_one = ap (λ (c : Cutting). c.rest) (sym cut_is)

  pub messages_one : (cut size rest).messages ≡ m ∷ (cut size after).messages
  messages_one = ap (λ (c : Cutting). c.messages) cut_is
