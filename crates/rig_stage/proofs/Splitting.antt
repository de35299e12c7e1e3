-- The first of the messages that stand one behind the other.
use Rattle.std.proofs.Common.{◌≡◌, ℕ, ◌-◌, ◌<◌, ◌≤◌, List, [], ◌∷◌, ◌++◌, length, take, drop, sym, ap, ◌∙◌, subst, arith, length-take-le, length-drop}
use Rattle.framing.specs.declared.framing.Size.{Size}
use Rattle.framing.specs.declared.framing.Size.TheVariants.{Known}
use Rattle.framing.specs.Framing.{IsMessage, IsPartial, IsBad, IsKept, IsPositive}
use Rattle.framing.specs.Cutting.{Cutting, cut}
use Rattle.framing.proofs.Cuts.{cut-first, cut-partial, cut-bad}
use Rattle.rig_stage.specs.Messages.{Splits}

module _ {size : List ℕ → Size} {bytes m later : List ℕ} {count : ℕ} (s : Splits size bytes count) (front : m ≡ take count bytes) (back : later ≡ drop count bytes) where
  pub first_is : (cut size bytes).messages ≡ m ∷ (cut size later).messages
  first_is = s.messages ∙ ap (λ l. l ∷ (cut size (drop count bytes)).messages) (sym front) ∙ ap (λ l. m ∷ (cut size l).messages) (sym back)

  pub first_is_message : IsMessage size m
  first_is_message = subst (IsMessage size) (sym front) s.whole

  pub fewer_are_left : length later < length bytes
  fewer_are_left = let left : length later ≡ length bytes - count = ap length back ∙ length-drop count bytes in omega (arith, left, s.some, s.within)

module _ (size : List ℕ → Size) (kept : (front more : List ℕ) → IsKept (size front) (size (front ++ more))) (positive : (bytes : List ℕ) → IsPositive (size bytes)) where
  pub splits : (bytes : List ℕ) (count : ℕ) → size bytes ≡ Known count → count ≤ length bytes → size (take count bytes) ≡ Known count → Splits size bytes count
  splits bytes count is within told =
      let whole : IsMessage size (take count bytes) = told ∙ ap Known (sym (length-take-le count bytes within)) in
      record {
        some = subst IsPositive is (positive bytes);
        within = within;
        whole = whole;
        messages = ap (λ (c : Cutting). c.messages) (cut-first size kept positive bytes count whole);
      }

  pub none_in_partial : (bytes : List ℕ) → IsPartial size bytes → (cut size bytes).messages ≡ []
  none_in_partial bytes part = ap (λ (c : Cutting). c.messages) (cut-partial size kept bytes part)

  pub none_in_bad : (bytes : List ℕ) → IsBad size bytes → (cut size bytes).messages ≡ []
  none_in_bad bytes bad = ap (λ (c : Cutting). c.messages) (cut-bad size kept bytes bad)
