-- The clients are shut from place to place.
use Rattle.std.proofs.Common.{◌≡◌, ℕ, zero, suc, ◌+◌, ◌<◌, ◌≤◌, List, [], ◌∷◌, length, map, refl, ap, sym, ◌∙◌, subst, arith}
use Rattle.connections.specs.Table.{Connection, Table, changed_at, with_client, with_client_at}
use Rattle.proxy_state.specs.Chosen.{StandsAt}
use Rattle.proxy_state.proofs.Places.{connection_at, stands_at}
use Rattle.proxy_history.specs.View.{Shut}
use Rattle.mbim_proxy.specs.Setup.{Setup}
use Rattle.mbim_state.specs.Core.{Client}
use Rattle.mbim_state.specs.Transitions.{after, shut_all}

module _ {T : Type 0} (change : Connection T → Connection T) where
  -- those before this place are changed
  pub changed_to : ℕ → List (Connection T) → List (Connection T)
  changed_to zero present = present
  changed_to (suc count) [] = []
  changed_to (suc count) (k ∷ present) = change k ∷ changed_to count present

  pub changed_none : (present : List (Connection T)) → changed_to zero present ≡ present
  unfolding changed_to
  changed_none present = refl

  pub changed_all : (count : ℕ) (present : List (Connection T)) → length present ≤ count → changed_to count present ≡ map change present
  unfolding changed_to
  changed_all zero [] past = refl
  changed_all (suc count) [] past = refl
  changed_all zero (k ∷ present) past = absurd (omega arith)
  changed_all (suc count) (k ∷ present) past = ap (λ (l : List (Connection T)). change k ∷ l) (changed_all count present (omega arith))

  pub changed_length : (count : ℕ) (present : List (Connection T)) → length (changed_to count present) ≡ length present
  unfolding changed_to
  changed_length zero present = refl
  changed_length (suc count) [] = refl
  changed_length (suc count) (k ∷ present) = ap (λ (n : ℕ). suc n) (changed_length count present)

  -- `with_it` changes the one that stands there as the others are
  pub changed_here : (place : ℕ) (present : List (Connection T)) (k : Connection T) (with_it : Connection T → Connection T) → place < length present
      → StandsAt k (changed_to place present) place → with_it k ≡ change k → changed_at place with_it (changed_to place present) ≡ changed_to (place + 1) present
  unfolding changed_to
  changed_here place present k with_it within at same = by place present within at ∙ (let next : suc place ≡ place + 1 = omega arith in ap (λ (n : ℕ). changed_to n present) next)
    where
      by : (place : ℕ) (present : List (Connection T)) → place < length present → StandsAt k (changed_to place present) place → changed_at place with_it (changed_to place present) ≡ changed_to (suc place) present
      by zero [] within at = absurd (omega arith)
      by zero (l ∷ present) within at = ap (λ (n : Connection T). n ∷ present) (ap with_it (sym at) ∙ same ∙ ap change at)
      by (suc place) [] within at = absurd (omega arith)
      by (suc place) (l ∷ present) within at = ap (λ (n : List (Connection T)). change l ∷ n) (by place present (omega arith) at)

-- ---- a client that isn't open any more ----

abbrev pub shut_one : Setup → Connection Client → Connection Client
shut_one s k = with_client (after s Shut k.client) k

abbrev with_present : Table Client → List (Connection Client) → Table Client
with_present t present = record t { present = present }

abbrev pub shut_to : Setup → Table Client → ℕ → Table Client
shut_to s t place = with_present t (changed_to (shut_one s) place t.present)

module _ (s : Setup) (t : Table Client) where
  pub shut_none : t ≡ shut_to s t 0
  shut_none = ap (with_present t) (sym (changed_none (shut_one s) t.present))

  pub shut_end : (place : ℕ) → length t.present ≤ place → shut_to s t place ≡ with_present t (shut_all s t.present)
  shut_end place past = ap (with_present t) (changed_all (shut_one s) place t.present past)

  module _ (place : ℕ) (now : Table Client) (is : now ≡ shut_to s t place) where
    abbrev so_far : List (Connection Client)
    so_far = changed_to (shut_one s) place t.present

    pub shut_length : length now.present ≡ length t.present
    shut_length = ap (λ (u : Table Client). length u.present) is ∙ changed_length (shut_one s) place t.present

    -- the client of the place is shut
    pub shut_next : place < length now.present → (client later : Client) → ((k : Connection Client) → StandsAt k now.present place → client ≡ k.client) → later ≡ after s Shut client → with_client_at place later now ≡ shut_to s t (place + 1)
    shut_next within client later reads made =
        let same : now.present ≡ so_far = ap (λ (u : Table Client). u.present) is in
        let inside : place < length so_far = subst (λ (l : List (Connection Client)). place < length l) same within in
        let k : Connection Client = connection_at client so_far place in
        let at : StandsAt k so_far place = stands_at client so_far place inside in
        let kept : client ≡ k.client = reads k (subst (λ (l : List (Connection Client)). StandsAt k l place) (sym same) at) in
        ap (with_client_at place later) is
        ∙ ap (with_present t) (changed_here (shut_one s) place t.present k (with_client later) (omega (arith, within, shut_length)) at (ap (λ (n : Client). with_client n k) (made ∙ ap (after s Shut) kept)))
