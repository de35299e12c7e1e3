-- Streams that hold no message yet.
use Rattle.std.proofs.Common.{◌≡◌, ℕ, zero, suc, Bool, true, false, List, [], ◌∷◌, ◌++◌, length, drop, map, refl, ap, sym, ◌∙◌, subst}
use Rattle.framing.specs.declared.framing.Size.{Size}
use Rattle.framing.specs.declared.framing.Size.TheVariants.{Unknown, Known, Invalid}
use Rattle.framing.specs.Framing.{IsKept, is_invalid}
use Rattle.framing.specs.Cutting.{Cutting, cut, behind}
use Rattle.framing.proofs.Cuts.{cut-append, cut-bad}
use Rattle.proxy_history.specs.Streams.{Framing, is_bad}
use Rattle.proxy_history.specs.Items.{Says, GoesBad, item_if, client_items}

module _ (size : Framing) where
  -- it holds none, and may still become one
  pub record IsOpen (bytes : List ℕ) : Type 0 where
    pub none : (cut size bytes).messages ≡ []
    pub good : is_bad size bytes ≡ false

  none_of_two : (xs ys : List (List ℕ)) → xs ++ ys ≡ [] → xs ≡ []
  none_of_two [] ys is = refl
  none_of_two (x ∷ xs) ys is = absurd (cc)

  invalid_is : (s : Size) → is_invalid s ≡ true → s ≡ Invalid
  invalid_is Unknown is = absurd (cc)
  invalid_is (Known count) is = absurd (cc)
  invalid_is Invalid is = refl

  module _ (kept : (front more : List ℕ) → IsKept (size front) (size (front ++ more))) where
    -- what is bad stays bad
    stays_bad : (front more : List ℕ) → size front ≡ Invalid → size (front ++ more) ≡ Invalid
    stays_bad front more bad = (let P : Size → Type 0 = λ (s : Size). IsKept s (size (front ++ more)) in subst P bad (kept front more))

    front_is_good : (front more : List ℕ) → is_bad size (front ++ more) ≡ false → (b : Bool) → is_bad size front ≡ b → is_bad size front ≡ false
    front_is_good front more good false is = is
    front_is_good front more good true bad =
        let rest : List ℕ = (cut size front).rest in
        let later : size (rest ++ more) ≡ Invalid = stays_bad rest more (invalid_is (size rest) bad) in
        let whole : (cut size (front ++ more)).rest ≡ rest ++ more = ap (λ (c : Cutting). c.rest) (cut-append size front more ∙ ap (behind (cut size front).messages) (cut-bad size kept (rest ++ more) later)) in
        let clash : true ≡ false = sym (ap is_invalid (ap size whole ∙ later)) ∙ good in
        absurd (cc)

    -- so is each front of it
    pub front_is_open : (front more : List ℕ) → IsOpen (front ++ more) → IsOpen front
    front_is_open front more whole = record {
      none = none_of_two (cut size front).messages (cut size ((cut size front).rest ++ more)).messages (ap (λ (c : Cutting). c.messages) (sym (cut-append size front more)) ∙ whole.none);
      good = front_is_good front more whole.good (is_bad size front) refl;
    }

    none_left : (n : ℕ) → drop {A = List ℕ} n [] ≡ []
    none_left zero = refl
    none_left (suc n) = refl

    none_dropped : (n : ℕ) (xs : List (List ℕ)) → xs ≡ [] → drop n xs ≡ []
    none_dropped n xs is = ap (drop n) is ∙ none_left n

    -- a piece with which it holds none brings nothing
    pub no_items : (c : ℕ) (before piece : List ℕ) → IsOpen (before ++ piece) → client_items size c before piece ≡ []
    no_items c before piece whole =
        ap (λ (l : List (List ℕ)). map (λ m. Says c m) l ++ item_if (is_bad size (before ++ piece)) (GoesBad c)) (none_dropped (length (cut size before).messages) (cut size (before ++ piece)).messages whole.none)
        ∙ ap (λ (b : Bool). item_if b (GoesBad c)) whole.good
