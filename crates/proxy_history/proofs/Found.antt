-- The first request that passes a test.
use Rattle.std.proofs.Common.{◌≡◌, zero, Bool, true, false, if◌then◌else◌, List, [], ◌∷◌, refl, subst, arith, Contains, Some}
use Rattle.proxy_history.specs.Facts.{Request}
use Rattle.proxy_history.specs.Requests.{first_where}
use Rattle.proxy_history.proofs.Lists.{Contains-cons}

module _ (test : Request → Bool) where
  -- it is one of them, and passes
  pub found_is : (requests : List Request) (r : Request) → first_where test requests ≡ Some r → Contains requests r × (test r ≡ true)
  found_is [] r e = absurd (cc)
  found_is (q ∷ requests) r e =
      let step : (b : Bool) → test q ≡ b → (if b then Some q else first_where test requests) ≡ Some r → Contains (q ∷ requests) r × (test r ≡ true) =
      λ b. elim b as (λ b. test q ≡ b → (if b then Some q else first_where test requests) ≡ Some r → Contains (q ∷ requests) r × (test r ≡ true)) [
        | true ↦ λ is same. subst (λ (x : Request). Contains (q ∷ requests) x × (test x ≡ true)) (some_is same) ((zero, omega arith, refl), is)
        | false ↦ λ isnt same. let rest = found_is requests r same in (Contains-cons r q requests rest.0, rest.1)
      ]
      in step (test q) refl e
    where
      some_is : {x y : Request} → Some x ≡ Some y → x ≡ y
      some_is e = cc
