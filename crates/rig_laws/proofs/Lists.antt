-- Lists of numbers, and requests that differ.
use Rattle.std.proofs.Common.{◌≡◌, ℕ, zero, suc, ◌+◌, ◌<◌, ◌≤◌, Bool, true, false, not, cond, ◌||◌, ◌==◌, List, [], ◌∷◌, ◌++◌, length, filter, refl, ap, sym, ◌∙◌, arith, AllPairs}
use Rattle.std.specs.List.{AllByRecursion, range_with_len}
use Rattle.std.proofs.lemmas.Bool.Decides.{nat_tests}
use Rattle.std.proofs.lemmas.Bool.{eqb-true, eq-eqb, false_from_ne_true}
use Rattle.std.proofs.lemmas.List.Elements.{recursion_from_All, All-contains, Contains-append_right}
use Rattle.kit_bytes.proofs.Lists.{all_weaker}
use Rattle.proxy_history.specs.Facts.{Request}
use Rattle.proxy_history.specs.Connections.{contains}
use Rattle.proxy_history.specs.Requests.{without_request}
use Rattle.proxy_history.specs.Sound.{Differ}
use Rattle.proxy_history.proofs.Given.{head_all, tail_pairs}

-- ---- names ----

last : (n a j : ℕ) → a + n ≡ j → range_with_len a (suc n) ≡ range_with_len a n ++ j ∷ []
last zero a j e = let same : a ≡ j = omega arith in ap (λ (k : ℕ). k ∷ []) same
last (suc n) a j e = ap (λ (l : List ℕ). a ∷ l) (last n (a + 1) j (omega arith))

pub range-more : (a n j : ℕ) → a + n ≡ j → range_with_len a n ++ j ∷ [] ≡ range_with_len a (n + 1)
range-more a n j e = let on : suc n ≡ n + 1 = omega arith in sym (last n a j e) ∙ ap (range_with_len a) on

pub in_range : (n a c : ℕ) → a ≤ c → c < a + n → contains c (range_with_len a n) ≡ true
in_range zero a c low high = absurd (omega arith)
in_range (suc n) a c low high =
    let step : (b : Bool) → (c == a) ≡ b → (b || contains c (range_with_len (a + 1) n)) ≡ true =
    λ b. elim b as (λ b. (c == a) ≡ b → (b || contains c (range_with_len (a + 1) n)) ≡ true) [
      | true ↦ λ e. refl
      | false ↦ λ e. let later : a + 1 ≤ c = grind (arith, nat_tests, e) in in_range n (a + 1) c later (omega arith)
    ]
    in step (c == a) refl

pub within_range : (n a c : ℕ) → contains c (range_with_len a n) ≡ true → (a ≤ c) × (c < a + n)
within_range zero a c at = absurd (cc)
within_range (suc n) a c at =
    let step : (b : Bool) → (c == a) ≡ b → (b || contains c (range_with_len (a + 1) n)) ≡ true → (a ≤ c) × (c < a + suc n) =
    λ b. elim b as (λ b. (c == a) ≡ b → (b || contains c (range_with_len (a + 1) n)) ≡ true → (a ≤ c) × (c < a + suc n)) [
      | true ↦ λ e at. let same : c ≡ a = grind (arith, nat_tests, e) in (omega (arith, same), omega (arith, same))
      | false ↦ λ e at. let rest = within_range n (a + 1) c at in (omega (arith, rest.0), omega (arith, rest.1))
    ]
    in step (c == a) refl at

pub length-range : (n a : ℕ) → length (range_with_len a n) ≡ n
length-range zero a = refl
length-range (suc n) a = ap suc (length-range n (a + 1))

pub filter-all : {X : Type 0} (p : X → Bool) (xs : List X) → AllByRecursion (λ x. p x ≡ true) xs → filter p xs ≡ xs
filter-all p [] all = refl
filter-all {X} p (x ∷ xs) all = ap (λ (b : Bool). cond b (x ∷ filter p xs) (filter p xs)) all.0 ∙ ap (λ (l : List X). x ∷ l) (filter-all p xs all.1)

pub is_empty : {X : Type 0} (xs : List X) → length xs ≡ 0 → xs ≡ []
is_empty [] none = refl
is_empty (x ∷ xs) none = absurd (omega arith)

-- ---- a request among others ----

-- none of these has the request's serial number
pub none_goes : (r : Request) (requests : List Request) → AllByRecursion (λ q. (r.serial == q.serial) ≡ false) requests → without_request r requests ≡ requests
none_goes r requests all = filter-all (λ (q : Request). not (r.serial == q.serial)) requests (all_weaker _ _ (λ (q : Request) e. ap not e) requests all)

differs : (q r : Request) → Differ q r → (r.serial == q.serial) ≡ false
differs q r apart = false_from_ne_true (r.serial == q.serial) (λ e. apart.0 (sym (eqb-true r.serial q.serial e)))

differs_too : (q r : Request) → Differ q r → (q.serial == r.serial) ≡ false
differs_too q r apart = false_from_ne_true (q.serial == r.serial) (λ e. apart.0 (eqb-true q.serial r.serial e))

pub goes_from_between : (before : List Request) (r : Request) (behind : List Request) → AllPairs Differ (before ++ r ∷ behind) → without_request r (before ++ r ∷ behind) ≡ before ++ behind
goes_from_between [] r behind pairs =
    let others : AllByRecursion (λ q. (r.serial == q.serial) ≡ false) behind =
    all_weaker (Differ r) (λ (q : Request). (r.serial == q.serial) ≡ false) (differs_too r) behind (recursion_from_All (Differ r) behind (head_all Differ r behind pairs)) in
    ap (λ (b : Bool). cond (not b) (r ∷ without_request r behind) (without_request r behind)) (eq-eqb r.serial r.serial refl) ∙ none_goes r behind others
goes_from_between (q ∷ before) r behind pairs =
    let first : Differ q r = All-contains (Differ q) (before ++ r ∷ behind) r (head_all Differ q (before ++ r ∷ behind) pairs) (Contains-append_right before (r ∷ behind) r (zero, omega arith, refl)) in
    ap (λ (b : Bool). cond (not b) (q ∷ without_request r (before ++ r ∷ behind)) (without_request r (before ++ r ∷ behind))) (differs q r first)
    ∙ ap (λ (l : List Request). q ∷ l) (goes_from_between before r behind (tail_pairs Differ q (before ++ r ∷ behind) pairs))

-- what holds of each number from 1 on
pub each_of : (P : ℕ → Type 0) (n a : ℕ) → 1 ≤ a → ((c : ℕ) → 1 ≤ c → P c) → AllByRecursion P (range_with_len a n)
each_of P zero a some each = tt
each_of P (suc n) a some each = (each a some, each_of P n (a + 1) (omega arith) each)
