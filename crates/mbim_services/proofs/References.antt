-- Numbers two by two, and the references that they are.
use Rattle.std.proofs.Common.{◌≡◌, ℕ, ◌<◌, ◌≤◌, List, [], ◌∷◌, ◌++◌, length, drop, slice_range, Option, Some, None, IsSome, unwrap_or, refl, sym, ◌∙◌, ap, subst, arith}
use Rattle.std.proofs.lemmas.Slice.{between_to_end}
use Rattle.kit_bytes.specs.Subscriptions.{Pair}
use Rattle.kit_bytes.specs.Numbers.{number_at}
use Rattle.mbim_services.specs.SubscribeLists.{numbers_of, pairs_at, both, pairs_referred}

-- eight bytes spell two numbers
pub numbers_two : (bytes : List ℕ) → 8 ≤ length bytes → numbers_of bytes ≡ number_at bytes 0 4 ∷ number_at bytes 4 4 ∷ numbers_of (drop 8 bytes)
numbers_two [] long = absurd (omega arith)
numbers_two (a ∷ []) long = absurd (omega arith)
numbers_two (a ∷ b ∷ []) long = absurd (omega arith)
numbers_two (a ∷ b ∷ c ∷ []) long = absurd (omega arith)
numbers_two (a ∷ b ∷ c ∷ d ∷ []) long = absurd (omega arith)
numbers_two (a ∷ b ∷ c ∷ d ∷ e ∷ []) long = absurd (omega arith)
numbers_two (a ∷ b ∷ c ∷ d ∷ e ∷ f ∷ []) long = absurd (omega arith)
numbers_two (a ∷ b ∷ c ∷ d ∷ e ∷ f ∷ g ∷ []) long = absurd (omega arith)
numbers_two (a ∷ b ∷ c ∷ d ∷ e ∷ f ∷ g ∷ h ∷ bytes) long = refl

-- fewer spell one number at most
pub numbers_few : {X : Type 0} (meaning : List ℕ → X) (x : X) → meaning [] ≡ x → ((n : ℕ) → meaning (n ∷ []) ≡ x) → (bytes : List ℕ) → length bytes < 8 → meaning (numbers_of bytes) ≡ x
numbers_few meaning x none one [] short = none
numbers_few meaning x none one (a ∷ []) short = none
numbers_few meaning x none one (a ∷ b ∷ []) short = none
numbers_few meaning x none one (a ∷ b ∷ c ∷ []) short = none
numbers_few meaning x none one (a ∷ b ∷ c ∷ d ∷ []) short = one (number_at (a ∷ b ∷ c ∷ d ∷ []) 0 4)
numbers_few meaning x none one (a ∷ b ∷ c ∷ d ∷ e ∷ []) short = one (number_at (a ∷ b ∷ c ∷ d ∷ []) 0 4)
numbers_few meaning x none one (a ∷ b ∷ c ∷ d ∷ e ∷ f ∷ []) short = one (number_at (a ∷ b ∷ c ∷ d ∷ []) 0 4)
numbers_few meaning x none one (a ∷ b ∷ c ∷ d ∷ e ∷ f ∷ g ∷ []) short = one (number_at (a ∷ b ∷ c ∷ d ∷ []) 0 4)
numbers_few meaning x none one (a ∷ b ∷ c ∷ d ∷ e ∷ f ∷ g ∷ h ∷ bytes) short = absurd (omega arith)

pub references_more : (buffer bytes : List ℕ) → 8 ≤ length bytes → pairs_referred buffer (numbers_of bytes) ≡ both (pairs_at buffer (number_at bytes 0 4) (number_at bytes 4 4)) (pairs_referred buffer (numbers_of (drop 8 bytes)))
references_more buffer bytes long = ap (pairs_referred buffer) (numbers_two bytes long)

pub references_none : (buffer bytes : List ℕ) → length bytes < 8 → pairs_referred buffer (numbers_of bytes) ≡ Some []
references_none buffer bytes short = numbers_few (pairs_referred buffer) (Some []) refl (λ n. refl) bytes short

-- ---- a reference taken from the front ----

both-parts : (pairs : List Pair) (more : Option (List Pair)) → IsSome (both (Some pairs) more) → IsSome more × (unwrap_or (both (Some pairs) more) [] ≡ pairs ++ unwrap_or more [])
both-parts pairs None some = absurd (cc)
both-parts pairs (Some more) some = (refl, refl)

both-none : (more : Option (List Pair)) → IsSome (both None more) → ⊥
both-none more some = absurd (cc)

-- its pairs stand in front of the others'
pub pairs-taken : (buffer references : List ℕ) (pairs : List Pair) → 8 ≤ length references → Some pairs ≡ pairs_at buffer (number_at references 0 4) (number_at references 4 4) → IsSome (pairs_referred buffer (numbers_of references))
    → IsSome (pairs_referred buffer (numbers_of (slice_range references 8 (length references))))
    × (unwrap_or (pairs_referred buffer (numbers_of references)) [] ≡ pairs ++ unwrap_or (pairs_referred buffer (numbers_of (slice_range references 8 (length references)))) [])
pairs-taken buffer references pairs long first whole =
    let more = pairs_referred buffer (numbers_of (drop 8 references)) in
    let is : pairs_referred buffer (numbers_of references) ≡ both (Some pairs) more = references_more buffer references long ∙ ap (λ (found : Option (List Pair)). both found more) (sym first) in
    rw (between_to_end references 8 (length references) (omega arith), is) (both-parts pairs more (subst IsSome is whole))

-- one that points at no whole structure isn't there
pub pairs-missing : (buffer references : List ℕ) → 8 ≤ length references → None ≡ pairs_at buffer (number_at references 0 4) (number_at references 4 4) → IsSome (pairs_referred buffer (numbers_of references)) → ⊥
pairs-missing buffer references long first whole =
    let more = pairs_referred buffer (numbers_of (drop 8 references)) in
    let is : pairs_referred buffer (numbers_of references) ≡ both None more = references_more buffer references long ∙ ap (λ (found : Option (List Pair)). both found more) (sym first) in
    both-none more (subst IsSome is whole)
