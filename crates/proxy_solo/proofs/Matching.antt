-- A request of the client is found where the client is alone: by its place, and so its number.
use Rattle.std.proofs.Common.{◌≡◌, ℕ, zero, Bool, true, false, ◌&&◌, ◌==◌, if◌then◌else◌, List, [], ◌∷◌, refl, ap, sym, ◌∙◌, subst, ⊎_elim, arith, Contains, Some}
use Rattle.std.proofs.lemmas.Bool.{eqb-true, eq-eqb, and_parts}
use Rattle.proxy_history.specs.Facts.{Fact, Request}
use Rattle.proxy_history.specs.Requests.{in_use}
use Rattle.proxy_history.proofs.Lists.{Contains-cons, Contains-cons_cases, Contains-nil}
use Rattle.proxy_solo.specs.Answers.{number_at}
use Rattle.proxy_solo.specs.Part.{as_sent, request_if, sent_by}

-- ---- what the client sent is there in both ----

pub sent_there : (c : ℕ) (list : List Request) (r : Request) → Contains list r → (r.conn == c) ≡ true → Contains (sent_by c list) (as_sent r)
sent_there c [] r at mine = absurd (Contains-nil r at)
sent_there c (q ∷ list) r at mine =
    ⊎_elim
    (λ (is : q ≡ r). subst (λ (x : Request). Contains (request_if (x.conn == c) (as_sent x) (sent_by c list)) (as_sent r)) (sym is)
    (subst (λ (b : Bool). Contains (request_if b (as_sent r) (sent_by c list)) (as_sent r)) (sym mine) (zero, omega arith, refl)))
    (λ (old : Contains list r). later (q.conn == c) (sent_there c list r old mine))
    (Contains-cons_cases r q list at)
  where
    later : (b : Bool) → Contains (sent_by c list) (as_sent r) → Contains (request_if b (as_sent q) (sent_by c list)) (as_sent r)
    later true at = Contains-cons (as_sent r) (as_sent q) (sent_by c list) at
    later false at = at

abbrev SentAs : ℕ → List Request → Request → Type 0
SentAs c list x = (q : Request) × Contains list q × ((q.conn == c) ≡ true) × (as_sent q ≡ x)

sent_from : (c : ℕ) (list : List Request) (x : Request) → Contains (sent_by c list) x → SentAs c list x
sent_from c [] x at = absurd (Contains-nil x at)
sent_from c (q ∷ list) x at =
    let further : SentAs c list x → SentAs c (q ∷ list) x = λ f. (f.0, Contains-cons f.0 q list f.1, f.2, f.3) in
    let step : (b : Bool) → (q.conn == c) ≡ b → Contains (request_if b (as_sent q) (sent_by c list)) x → SentAs c (q ∷ list) x =
    λ b. elim b as (λ b. (q.conn == c) ≡ b → Contains (request_if b (as_sent q) (sent_by c list)) x → SentAs c (q ∷ list) x) [
      | true ↦ λ mine at. ⊎_elim (λ (is : as_sent q ≡ x). (q, (zero, omega arith, refl), mine, is)) (λ (old : Contains (sent_by c list) x). further (sent_from c list x old)) (Contains-cons_cases x (as_sent q) (sent_by c list) at)
      | false ↦ λ mine at. further (sent_from c list x at)
    ]
    in step (q.conn == c) refl at

pub record Twin (c : ℕ) (own : List Fact) (r : Request) : Type 0 where
  pub request : Request
  pub at : Contains (in_use own) request
  pub mine : (request.conn == c) ≡ true
  pub same : as_sent request ≡ as_sent r

pub twin_of : (c : ℕ) (past own : List Fact) (r : Request) → sent_by c (in_use past) ≡ sent_by c (in_use own) → Contains (in_use past) r → (r.conn == c) ≡ true → Twin c own r
twin_of c past own r same at mine =
    let found = sent_from c (in_use own) (as_sent r) (subst (λ (l : List Request). Contains l (as_sent r)) same (sent_there c (in_use past) r at mine)) in
    record { request = found.0; at = found.1; mine = found.2; same = found.3 }

-- ---- it is found by its place ----

number_is : (c : ℕ) (list : List Request) (q : Request) (place : ℕ) → (q.conn == c) ≡ true → q.place ≡ place → ((x : Request) → Contains list x → (x.conn == c) ≡ true → x.place ≡ place → x ≡ q) → Contains list q
    → number_at c place list ≡ Some q.number
number_is c [] q place mine is one at = absurd (Contains-nil q at)
number_is c (x ∷ list) q place mine is one at =
    let step : (b : Bool) → (x.conn == c && (x.place == place)) ≡ b → (if b then Some x.number else number_at c place list) ≡ Some q.number =
    λ b. elim b as (λ b. (x.conn == c && (x.place == place)) ≡ b → (if b then Some x.number else number_at c place list) ≡ Some q.number) [
      | true ↦ λ e. let both = and_parts (x.conn == c) (x.place == place) e in ap (λ (y : Request). Some y.number) (one x (zero, omega arith, refl) both.0 (eqb-true x.place place both.1))
      | false ↦ λ e. ⊎_elim
          (λ (same : x ≡ q).
          let there : (x.conn == c) ≡ true = ap (λ (y : Request). y.conn == c) same ∙ mine in
          let here : (x.place == place) ≡ true = eq-eqb x.place place (ap (λ (y : Request). y.place) same ∙ is) in
          let clash : true ≡ false = sym (ap (λ (b : Bool). b && (x.place == place)) there ∙ here) ∙ e in absurd (cc))
          (λ (old : Contains list q). number_is c list q place mine is (λ y at. one y (Contains-cons y x list at)) old)
          (Contains-cons_cases q x list at)
    ]
    in step (x.conn == c && (x.place == place)) refl

-- where a place tells a request of the client
pub twin_number : (c : ℕ) (own : List Fact) (r : Request) (T : Twin c own r) → ((x : Request) → Contains (in_use own) x → (x.conn == c) ≡ true → x.place ≡ T.request.place → x ≡ T.request)
    → number_at c r.place (in_use own) ≡ Some T.request.number
twin_number c own r T one =
    let place : T.request.place ≡ r.place = ap (λ (y : Request). y.place) T.same in
    number_is c (in_use own) T.request r.place T.mine place (λ x at mine e. one x at mine (e ∙ sym place)) T.at
