-- What a client has of lists of requests, of grants and of names.
use Rattle.std.proofs.Common.{◌≡◌, ℕ, Bool, true, false, not, cond, ◌&&◌, ◌||◌, ◌==◌, if◌then◌else◌, List, [], ◌∷◌, ◌++◌, filter, refl, ap, sym, ◌∙◌, subst, arith}
use Rattle.std.specs.List.{AllByRecursion}
use Rattle.std.proofs.lemmas.Bool.Decides.{nat_tests}
use Rattle.std.proofs.lemmas.Bool.{eqb-true, eq-eqb}
use Rattle.proxy_history.specs.Facts.{Request}
use Rattle.proxy_history.specs.Connections.{contains, without}
use Rattle.proxy_history.specs.Requests.{without_request, has_request}
use Rattle.proxy_history.specs.ClientIds.{Grant, is_of}
use Rattle.proxy_history.proofs.Sound.{contains-without_self}
use Rattle.proxy_history.proofs.Numbers.{contains_other}
use Rattle.proxy_history.proofs.Lists.{filter-all, filter-none}
use Rattle.proxy_solo.specs.Part.{as_sent, request_if, sent_by, held_by}

pub turned : (m n : ℕ) → (m == n) ≡ (n == m)
turned m n =
    let step : (b : Bool) → (m == n) ≡ b → b ≡ (n == m) =
    λ b. elim b as (λ b. (m == n) ≡ b → b ≡ (n == m)) [
      | true ↦ λ e. sym (eq-eqb n m (sym (eqb-true m n e)))
      | false ↦ λ e. let other : (n == m) ≡ false = grind (arith, nat_tests, e) in sym other
    ]
    in step (m == n) refl

pub self : (c : ℕ) → (c == c) ≡ true
self c = eq-eqb c c refl

-- ---- names ----

pub contains-push : (c d : ℕ) (names : List ℕ) → contains c (names ++ d ∷ []) ≡ (if d == c then true else contains c names)
contains-push c d [] = ap (λ (b : Bool). b || false) (turned c d) ∙ elim (d == c) as (λ b. (b || false) ≡ (if b then true else false)) [ true ↦ refl | false ↦ refl ]
contains-push c d (x ∷ names) =
    ap (λ (b : Bool). c == x || b) (contains-push c d names)
    ∙ elim (d == c) as (λ b. (c == x || (if b then true else contains c names)) ≡ (if b then true else (c == x || contains c names))) [
      | true ↦ elim (c == x) as (λ b. (b || true) ≡ true) [ true ↦ refl | false ↦ refl ]
      | false ↦ refl
    ]

pub contains-without : (c d : ℕ) (names : List ℕ) → contains c (without d names) ≡ (if d == c then false else contains c names)
contains-without c d names =
    let step : (b : Bool) → (d == c) ≡ b → contains c (without d names) ≡ (if b then false else contains c names) =
    λ b. elim b as (λ b. (d == c) ≡ b → contains c (without d names) ≡ (if b then false else contains c names)) [
      | true ↦ λ e. subst (λ (x : ℕ). contains x (without d names) ≡ false) (eqb-true d c e) (contains-without_self d names)
      | false ↦ λ e. contains_other d c names e
    ]
    in step (d == c) refl

pub contains-filter : (c : ℕ) (p : ℕ → Bool) (names : List ℕ) → contains c (filter p names) ≡ (contains c names && p c)
contains-filter c p [] = refl
contains-filter c p (x ∷ names) =
    let rest = contains-filter c p names in
    let step : (b : Bool) → (c == x) ≡ b → contains c (cond (p x) (x ∷ filter p names) (filter p names)) ≡ ((b || contains c names) && p c) =
    λ b. elim b as (λ b. (c == x) ≡ b → contains c (cond (p x) (x ∷ filter p names) (filter p names)) ≡ ((b || contains c names) && p c)) [
      | true ↦ λ e.
          let same : p x ≡ p c = ap p (sym (eqb-true c x e)) in
          ap (λ (b : Bool). contains c (cond b (x ∷ filter p names) (filter p names))) same
          ∙ elim (p c) as (λ b. contains c (filter p names) ≡ (contains c names && b) → contains c (cond b (x ∷ filter p names) (filter p names)) ≡ b) [
            | true ↦ λ h. ap (λ (b : Bool). b || contains c (filter p names)) e
            | false ↦ λ h. h ∙ elim (contains c names) as (λ b. (b && false) ≡ false) [ true ↦ refl | false ↦ refl ]
          ] rest
      | false ↦ λ e. elim (p x) as (λ b. contains c (cond b (x ∷ filter p names) (filter p names)) ≡ (contains c names && p c)) [
        | true ↦ ap (λ (b : Bool). b || contains c (filter p names)) e ∙ rest
        | false ↦ rest
      ]
    ]
    in step (c == x) refl

-- ---- requests ----

pub sent_by-append : (c : ℕ) (front back : List Request) → sent_by c (front ++ back) ≡ sent_by c front ++ sent_by c back
sent_by-append c [] back = refl
sent_by-append c (r ∷ front) back =
    ap (request_if (r.conn == c) (as_sent r)) (sent_by-append c front back)
    ∙ elim (r.conn == c) as (λ b. request_if b (as_sent r) (sent_by c front ++ sent_by c back) ≡ request_if b (as_sent r) (sent_by c front) ++ sent_by c back) [ true ↦ refl | false ↦ refl ]

pub sent_by-push : (c : ℕ) (requests : List Request) (r : Request) → sent_by c (requests ++ r ∷ []) ≡ (if r.conn == c then sent_by c requests ++ as_sent r ∷ [] else sent_by c requests)
sent_by-push c [] r = elim (r.conn == c) as (λ b. request_if b (as_sent r) [] ≡ (if b then as_sent r ∷ [] else [])) [ true ↦ refl | false ↦ refl ]
sent_by-push c (q ∷ requests) r =
    ap (request_if (q.conn == c) (as_sent q)) (sent_by-push c requests r)
    ∙ elim (r.conn == c) as (λ b. request_if (q.conn == c) (as_sent q) (if b then sent_by c requests ++ as_sent r ∷ [] else sent_by c requests)
    ≡ (if b then request_if (q.conn == c) (as_sent q) (sent_by c requests) ++ as_sent r ∷ [] else request_if (q.conn == c) (as_sent q) (sent_by c requests))) [
      | true ↦ elim (q.conn == c) as (λ b. request_if b (as_sent q) (sent_by c requests ++ as_sent r ∷ []) ≡ request_if b (as_sent q) (sent_by c requests) ++ as_sent r ∷ []) [ true ↦ refl | false ↦ refl ]
      | false ↦ refl
    ]

-- a test, and one of what the sender knows that says the same
abbrev pub SameTest : ℕ → (Request → Bool) → (Request → Bool) → Request → Type 0
SameTest c p q r = (r.conn == c) ≡ true → p r ≡ q (as_sent r)

pub sent_by-filter : (c : ℕ) (p q : Request → Bool) (requests : List Request) → AllByRecursion (SameTest c p q) requests → sent_by c (filter p requests) ≡ filter q (sent_by c requests)
sent_by-filter c p q [] all = refl
sent_by-filter c p q (r ∷ requests) all =
    let rest = sent_by-filter c p q requests all.1 in
    let step : (b : Bool) → (r.conn == c) ≡ b → sent_by c (cond (p r) (r ∷ filter p requests) (filter p requests)) ≡ filter q (request_if b (as_sent r) (sent_by c requests)) =
    λ b. elim b as (λ b. (r.conn == c) ≡ b → sent_by c (cond (p r) (r ∷ filter p requests) (filter p requests)) ≡ filter q (request_if b (as_sent r) (sent_by c requests))) [
      | true ↦ λ e.
          ap (λ (t : Bool). sent_by c (cond t (r ∷ filter p requests) (filter p requests))) (all.0 e)
          ∙ elim (q (as_sent r)) as (λ t. sent_by c (cond t (r ∷ filter p requests) (filter p requests)) ≡ cond t (as_sent r ∷ filter q (sent_by c requests)) (filter q (sent_by c requests))) [
            | true ↦ ap (λ (t : Bool). request_if t (as_sent r) (sent_by c (filter p requests))) e ∙ ap (λ (l : List Request). as_sent r ∷ l) rest
            | false ↦ rest
          ]
      | false ↦ λ e. elim (p r) as (λ t. sent_by c (cond t (r ∷ filter p requests) (filter p requests)) ≡ filter q (sent_by c requests)) [
        | true ↦ ap (λ (t : Bool). request_if t (as_sent r) (sent_by c (filter p requests))) e ∙ rest
        | false ↦ rest
      ]
    ]
    in step (r.conn == c) refl

pub every : {X : Type 0} (P : X → Type 0) → ((x : X) → P x) → (xs : List X) → AllByRecursion P xs
every P h [] = tt
every P h (x ∷ xs) = (h x, every P h xs)

-- the requests of a connection that ends
pub sent_by-ended : (c d : ℕ) (requests : List Request) → sent_by c (filter (λ q. not (d == q.conn)) requests) ≡ (if d == c then [] else sent_by c requests)
sent_by-ended c d requests =
    let step : (b : Bool) → (d == c) ≡ b → sent_by c (filter (λ q. not (d == q.conn)) requests) ≡ (if b then [] else sent_by c requests) =
    λ b. elim b as (λ b. (d == c) ≡ b → sent_by c (filter (λ q. not (d == q.conn)) requests) ≡ (if b then [] else sent_by c requests)) [
      | true ↦ λ e.
          sent_by-filter c (λ q. not (d == q.conn)) (λ q. false) requests
          (every (SameTest c (λ q. not (d == q.conn)) (λ q. false)) (λ q is. let same : (d == q.conn) ≡ true = grind (arith, nat_tests, is, e) in ap not same) requests)
          ∙ filter-none (sent_by c requests)
      | false ↦ λ e.
          sent_by-filter c (λ q. not (d == q.conn)) (λ q. true) requests
          (every (SameTest c (λ q. not (d == q.conn)) (λ q. true)) (λ q is. let other : (d == q.conn) ≡ false = grind (arith, nat_tests, is, e) in ap not other) requests)
          ∙ filter-all (sent_by c requests)
    ]
    in step (d == c) refl

-- c's requests are told from this one of c by their places as by their serial numbers
abbrev pub IsTold : ℕ → Request → Request → Type 0
IsTold c r q = (r.serial == q.serial) ≡ (q.conn == c && (r.place == q.place))

abbrev pub IsOther : ℕ → Request → Request → Type 0
IsOther c r q = (q.conn == c) ≡ true → (r.serial == q.serial) ≡ false

pub sent_by-without_own : (c : ℕ) (r : Request) (requests : List Request) → AllByRecursion (IsTold c r) requests → sent_by c (without_request r requests) ≡ without_request (as_sent r) (sent_by c requests)
sent_by-without_own c r requests told = sent_by-filter c (λ q. not (r.serial == q.serial)) (λ q. not (r.place == q.serial)) requests (tests requests told)
  where
    tests : (qs : List Request) → AllByRecursion (IsTold c r) qs → AllByRecursion (SameTest c (λ q. not (r.serial == q.serial)) (λ q. not (r.place == q.serial))) qs
    tests [] told = tt
    tests (q ∷ qs) told = ((λ is. ap not (told.0 ∙ ap (λ (b : Bool). b && (r.place == q.place)) is)), tests qs told.1)

pub sent_by-without_other : (c : ℕ) (r : Request) (requests : List Request) → AllByRecursion (IsOther c r) requests → sent_by c (without_request r requests) ≡ sent_by c requests
sent_by-without_other c r requests others = sent_by-filter c (λ q. not (r.serial == q.serial)) (λ q. true) requests (tests requests others) ∙ filter-all (sent_by c requests)
  where
    tests : (qs : List Request) → AllByRecursion (IsOther c r) qs → AllByRecursion (SameTest c (λ q. not (r.serial == q.serial)) (λ q. true)) qs
    tests [] others = tt
    tests (q ∷ qs) others = ((λ is. ap not (others.0 is)), tests qs others.1)

pub sent_by-has : (c : ℕ) (r : Request) (requests : List Request) → AllByRecursion (IsTold c r) requests → has_request r requests ≡ has_request (as_sent r) (sent_by c requests)
sent_by-has c r [] told = refl
sent_by-has c r (q ∷ requests) told =
    ap (λ (b : Bool). b || has_request r requests) told.0
    ∙ ap (λ (b : Bool). (q.conn == c && (r.place == q.place)) || b) (sent_by-has c r requests told.1)
    ∙ elim (q.conn == c) as (λ b. ((b && (r.place == q.place)) || has_request (as_sent r) (sent_by c requests)) ≡ has_request (as_sent r) (request_if b (as_sent q) (sent_by c requests))) [ true ↦ refl | false ↦ refl ]

-- ---- client ids ----

abbrev pub grant_if : Bool → Grant → List Grant → List Grant
grant_if mine g grants = cond mine (g ∷ grants) grants

abbrev pub SameGrantTest : ℕ → (Grant → Bool) → (Grant → Bool) → Grant → Type 0
SameGrantTest c p q g = (g.conn == c) ≡ true → p g ≡ q g

pub held_by-filter : (c : ℕ) (p q : Grant → Bool) (grants : List Grant) → AllByRecursion (SameGrantTest c p q) grants → held_by c (filter p grants) ≡ filter q (held_by c grants)
held_by-filter c p q [] all = refl
held_by-filter c p q (g ∷ grants) all =
    let rest = held_by-filter c p q grants all.1 in
    let step : (b : Bool) → (g.conn == c) ≡ b → held_by c (cond (p g) (g ∷ filter p grants) (filter p grants)) ≡ filter q (grant_if b g (held_by c grants)) =
    λ b. elim b as (λ b. (g.conn == c) ≡ b → held_by c (cond (p g) (g ∷ filter p grants) (filter p grants)) ≡ filter q (grant_if b g (held_by c grants))) [
      | true ↦ λ e.
          ap (λ (t : Bool). held_by c (cond t (g ∷ filter p grants) (filter p grants))) (all.0 e)
          ∙ elim (q g) as (λ t. held_by c (cond t (g ∷ filter p grants) (filter p grants)) ≡ cond t (g ∷ filter q (held_by c grants)) (filter q (held_by c grants))) [
            | true ↦ ap (λ (t : Bool). grant_if t g (held_by c (filter p grants))) e ∙ ap (λ (l : List Grant). g ∷ l) rest
            | false ↦ rest
          ]
      | false ↦ λ e. elim (p g) as (λ t. held_by c (cond t (g ∷ filter p grants) (filter p grants)) ≡ filter q (held_by c grants)) [
        | true ↦ ap (λ (t : Bool). grant_if t g (held_by c (filter p grants))) e ∙ rest
        | false ↦ rest
      ]
    ]
    in step (g.conn == c) refl

pub held_by-push : (c : ℕ) (grants : List Grant) (g : Grant) → held_by c (grants ++ g ∷ []) ≡ (if g.conn == c then held_by c grants ++ g ∷ [] else held_by c grants)
held_by-push c [] g = elim (g.conn == c) as (λ b. grant_if b g [] ≡ (if b then g ∷ [] else [])) [ true ↦ refl | false ↦ refl ]
held_by-push c (h ∷ grants) g =
    ap (grant_if (h.conn == c) h) (held_by-push c grants g)
    ∙ elim (g.conn == c) as (λ b. grant_if (h.conn == c) h (if b then held_by c grants ++ g ∷ [] else held_by c grants) ≡ (if b then grant_if (h.conn == c) h (held_by c grants) ++ g ∷ [] else grant_if (h.conn == c) h (held_by c grants))) [
      | true ↦ elim (h.conn == c) as (λ b. grant_if b h (held_by c grants ++ g ∷ []) ≡ grant_if b h (held_by c grants) ++ g ∷ []) [ true ↦ refl | false ↦ refl ]
      | false ↦ refl
    ]

pub held_by-ended : (c d : ℕ) (grants : List Grant) → held_by c (filter (λ g. not (d == g.conn)) grants) ≡ (if d == c then [] else held_by c grants)
held_by-ended c d grants =
    let step : (b : Bool) → (d == c) ≡ b → held_by c (filter (λ g. not (d == g.conn)) grants) ≡ (if b then [] else held_by c grants) =
    λ b. elim b as (λ b. (d == c) ≡ b → held_by c (filter (λ g. not (d == g.conn)) grants) ≡ (if b then [] else held_by c grants)) [
      | true ↦ λ e.
          held_by-filter c (λ g. not (d == g.conn)) (λ g. false) grants
          (every (SameGrantTest c (λ g. not (d == g.conn)) (λ g. false)) (λ g is. let same : (d == g.conn) ≡ true = grind (arith, nat_tests, is, e) in ap not same) grants)
          ∙ filter-none (held_by c grants)
      | false ↦ λ e.
          held_by-filter c (λ g. not (d == g.conn)) (λ g. true) grants
          (every (SameGrantTest c (λ g. not (d == g.conn)) (λ g. true)) (λ g is. let other : (d == g.conn) ≡ false = grind (arith, nat_tests, is, e) in ap not other) grants)
          ∙ filter-all (held_by c grants)
    ]
    in step (d == c) refl

-- nobody else gives back what the client holds
pub held_by-freed : (c d service cid : ℕ) (grants : List Grant)
    → held_by c (filter (λ g. not (is_of service cid g && (d == g.conn))) grants) ≡ (if d == c then filter (λ g. not (is_of service cid g && (d == g.conn))) (held_by c grants) else held_by c grants)
held_by-freed c d service cid grants =
    let p : Grant → Bool = λ (g : Grant). not (is_of service cid g && (d == g.conn)) in
    let step : (b : Bool) → (d == c) ≡ b → held_by c (filter p grants) ≡ (if b then filter p (held_by c grants) else held_by c grants) =
    λ b. elim b as (λ b. (d == c) ≡ b → held_by c (filter p grants) ≡ (if b then filter p (held_by c grants) else held_by c grants)) [
      | true ↦ λ e. held_by-filter c p p grants (every (SameGrantTest c p p) (λ g is. refl) grants)
      | false ↦ λ e.
          held_by-filter c p (λ g. true) grants
          (every (SameGrantTest c p (λ g. true)) (λ g is. let other : (d == g.conn) ≡ false = grind (arith, nat_tests, is, e) in ap (λ (t : Bool). not (is_of service cid g && t)) other ∙ elim (is_of service cid g) as (λ t. not (t && false) ≡ true) [ true ↦ refl | false ↦ refl ]) grants)
          ∙ filter-all (held_by c grants)
    ]
    in step (d == c) refl

-- all that the client sent goes with it, and all that it holds
pub sent_by-all_go : (c d : ℕ) → (d == c) ≡ true → (requests : List Request) → filter (λ q. not (d == q.conn)) (sent_by c requests) ≡ []
sent_by-all_go c d is [] = refl
sent_by-all_go c d is (r ∷ requests) =
    let step : (b : Bool) → (r.conn == c) ≡ b → filter (λ q. not (d == q.conn)) (request_if b (as_sent r) (sent_by c requests)) ≡ [] =
    λ b. elim b as (λ b. (r.conn == c) ≡ b → filter (λ q. not (d == q.conn)) (request_if b (as_sent r) (sent_by c requests)) ≡ []) [
      | true ↦ λ e.
          let same : (d == r.conn) ≡ true = grind (arith, nat_tests, is, e) in
          ap (λ (t : Bool). cond (not t) (as_sent r ∷ filter (λ q. not (d == q.conn)) (sent_by c requests)) (filter (λ q. not (d == q.conn)) (sent_by c requests))) same ∙ sent_by-all_go c d is requests
      | false ↦ λ e. sent_by-all_go c d is requests
    ]
    in step (r.conn == c) refl

pub held_by-all_go : (c d : ℕ) → (d == c) ≡ true → (grants : List Grant) → filter (λ g. not (d == g.conn)) (held_by c grants) ≡ []
held_by-all_go c d is [] = refl
held_by-all_go c d is (g ∷ grants) =
    let step : (b : Bool) → (g.conn == c) ≡ b → filter (λ g. not (d == g.conn)) (grant_if b g (held_by c grants)) ≡ [] =
    λ b. elim b as (λ b. (g.conn == c) ≡ b → filter (λ g. not (d == g.conn)) (grant_if b g (held_by c grants)) ≡ []) [
      | true ↦ λ e.
          let same : (d == g.conn) ≡ true = grind (arith, nat_tests, is, e) in
          ap (λ (t : Bool). cond (not t) (g ∷ filter (λ g. not (d == g.conn)) (held_by c grants)) (filter (λ g. not (d == g.conn)) (held_by c grants))) same ∙ held_by-all_go c d is grants
      | false ↦ λ e. held_by-all_go c d is grants
    ]
    in step (g.conn == c) refl
