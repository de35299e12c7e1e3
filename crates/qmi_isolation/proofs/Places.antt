-- The places of a client's requests in a space.
use Rattle.std.proofs.Common.{◌≡◌, ℕ, Bool, true, false, cond, ◌&&◌, ◌==◌, if◌then◌else◌, List, [], ◌∷◌, ◌++◌, map, filter, refl, ap, sym, ◌∙◌, Contains}
use Rattle.std.specs.List.{AllByRecursion}
use Rattle.std.proofs.lemmas.List.Elements.{All-contains_itself, All-weaker, recursion_from_All}
use Rattle.proxy_history.specs.Facts.{Request}
use Rattle.proxy_history.specs.Requests.{of_client}
use Rattle.proxy_history.proofs.Lists.{filter-all}

abbrev pub places_of : (c space : ℕ) → List Request → List ℕ
places_of c space requests = map (λ r. r.place) (of_client c space requests)

-- where a test of the places says the same of the client's requests as a test of the requests
pub places_left : (c space : ℕ) (p : ℕ → Bool) (stays : Request → Bool) (requests : List Request) → AllByRecursion (λ q. (q.conn == c) ≡ true → stays q ≡ p q.place) requests
    → filter p (places_of c space requests) ≡ places_of c space (filter stays requests)
places_left c space p stays [] all = refl
places_left c space p stays (q ∷ requests) all =
    by (q.conn == c) (q.space == space) (stays q) (p q.place) refl refl refl refl all.0 (places_left c space p stays requests all.1)
  where
    by : (own here left kept : Bool) → (q.conn == c) ≡ own → (q.space == space) ≡ here → stays q ≡ left → p q.place ≡ kept → ((q.conn == c) ≡ true → stays q ≡ p q.place)
        → filter p (places_of c space requests) ≡ places_of c space (filter stays requests)
        → filter p (map (λ r. r.place) (cond (own && here) (q ∷ of_client c space requests) (of_client c space requests))) ≡ places_of c space (cond left (q ∷ filter stays requests) (filter stays requests))
    by true true true true eo eh el ek same rest =
        ap (λ (b : Bool). cond b (q.place ∷ filter p (places_of c space requests)) (filter p (places_of c space requests))) ek
        ∙ ap (λ (l : List ℕ). q.place ∷ l) rest
        ∙ sym (ap (λ (b : Bool). map (λ r. r.place) (cond (b && (q.space == space)) (q ∷ of_client c space (filter stays requests)) (of_client c space (filter stays requests)))) eo
        ∙ ap (λ (b : Bool). map (λ r. r.place) (cond b (q ∷ of_client c space (filter stays requests)) (of_client c space (filter stays requests)))) eh)
    by true true true false eo eh el ek same rest = absurd (let clash : true ≡ false = sym el ∙ same eo ∙ ek in cc)
    by true true false true eo eh el ek same rest = absurd (let clash : true ≡ false = sym ek ∙ sym (same eo) ∙ el in cc)
    by true true false false eo eh el ek same rest =
        ap (λ (b : Bool). cond b (q.place ∷ filter p (places_of c space requests)) (filter p (places_of c space requests))) ek ∙ rest
    by true false true kept eo eh el ek same rest =
        rest
        ∙ sym (ap (λ (b : Bool). map (λ r. r.place) (cond (b && (q.space == space)) (q ∷ of_client c space (filter stays requests)) (of_client c space (filter stays requests)))) eo
        ∙ ap (λ (b : Bool). map (λ r. r.place) (cond b (q ∷ of_client c space (filter stays requests)) (of_client c space (filter stays requests)))) eh)
    by true false false kept eo eh el ek same rest = rest
    by false here true kept eo eh el ek same rest =
        rest
        ∙ sym (ap (λ (b : Bool). map (λ r. r.place) (cond (b && (q.space == space)) (q ∷ of_client c space (filter stays requests)) (of_client c space (filter stays requests)))) eo)
    by false here false kept eo eh el ek same rest = rest

-- where all of the client's requests stay
pub places_stay : (c space : ℕ) (stays : Request → Bool) (requests : List Request) → AllByRecursion (λ q. (q.conn == c) ≡ true → stays q ≡ true) requests
    → places_of c space requests ≡ places_of c space (filter stays requests)
places_stay c space stays requests all = sym (filter-all (places_of c space requests)) ∙ places_left c space (λ p. true) stays requests all

-- none of the requests is the client's
pub no_places : (c space : ℕ) (requests : List Request) → AllByRecursion (λ q. (q.conn == c) ≡ false) requests → places_of c space requests ≡ []
no_places c space [] all = refl
no_places c space (q ∷ requests) all =
    ap (λ (b : Bool). map (λ r. r.place) (cond (b && (q.space == space)) (q ∷ of_client c space requests) (of_client c space requests))) all.0 ∙ no_places c space requests all.1

-- one request more
pub places_more : (c space : ℕ) (requests : List Request) (r : Request) (b : Bool) → (r.conn == c && (r.space == space)) ≡ b
    → places_of c space (requests ++ r ∷ []) ≡ (if b then places_of c space requests ++ r.place ∷ [] else places_of c space requests)
places_more c space [] r true is = ap (λ (b : Bool). map (λ r. r.place) (cond b (r ∷ []) [])) is
places_more c space [] r false is = ap (λ (b : Bool). map (λ r. r.place) (cond b (r ∷ []) [])) is
places_more c space (q ∷ requests) r b is = by b (q.conn == c && (q.space == space)) (places_more c space requests r b is)
  where
    by : (b mine : Bool) → places_of c space (requests ++ r ∷ []) ≡ (if b then places_of c space requests ++ r.place ∷ [] else places_of c space requests)
        → map (λ r. r.place) (cond mine (q ∷ of_client c space (requests ++ r ∷ [])) (of_client c space (requests ++ r ∷ [])))
        ≡ (let old : List ℕ = map (λ r. r.place) (cond mine (q ∷ of_client c space requests) (of_client c space requests)) in if b then old ++ r.place ∷ [] else old)
    by true true rest = ap (λ (l : List ℕ). q.place ∷ l) rest
    by true false rest = rest
    by false true rest = ap (λ (l : List ℕ). q.place ∷ l) rest
    by false false rest = rest

-- what holds of each that is in the list
pub each_in : (P : Request → Type 0) (requests : List Request) → ((q : Request) → Contains requests q → P q) → AllByRecursion P requests
each_in P requests holds = recursion_from_All P requests (All-weaker (Contains requests) P holds requests (All-contains_itself requests))
