-- The places of a client's commands that wait, of its requests and as its view tells them, oldest first.
use Rattle.std.proofs.Common.{◌≡◌, ℕ, zero, Bool, true, false, cond, not, ◌&&◌, ◌==◌, List, [], ◌∷◌, ◌++◌, length, map, filter, refl, ap, sym, ◌∙◌, arith, append-nil, length-append, Contains}
use Rattle.std.specs.List.{AllByRecursion}
use Rattle.std.proofs.lemmas.Bool.{and_parts}
use Rattle.std.proofs.lemmas.List.Elements.{All-contains_itself, All-weaker, recursion_from_All, filter-append}
use Rattle.proxy_history.specs.Facts.{Request}
use Rattle.proxy_history.specs.Requests.{of_client}
use Rattle.proxy_history.proofs.Lists.{filter_map_is, Contains-filter_from, Contains-filter_passes}
use Rattle.proxy_state.proofs.Filters.{filter_swap, filter_agree}
use Rattle.proxy_state.proofs.Lists.{filter_passes}
use Rattle.mbim_proxy.specs.Setup.{the_space}
use Rattle.mbim_proxy.specs.Known.{Ask, without_ask}

pub none_in : (requests : List Request) → ((q : Request) → Contains requests q → ⊥) → requests ≡ []
none_in [] none = refl
none_in (q ∷ requests) none = absurd (none q (zero, omega arith, refl))

-- ---- of requests ----

module _ (c : ℕ) where
  abbrev is_own : Request → Bool
  is_own r = r.conn == c && (r.space == the_space)

  abbrev own : List Request → List Request
  own requests = of_client c the_space requests

  abbrev pub places_of : List Request → List ℕ
  places_of requests = map (λ r. r.place) (own requests)

  -- what holds of each of the client's requests
  each_own : (P : Request → Type 0) (requests : List Request) → ((q : Request) → Contains requests q → (q.conn == c) ≡ true → P q) → AllByRecursion P (own requests)
  each_own P requests holds =
      recursion_from_All P (own requests)
      (All-weaker (Contains (own requests)) P
      (λ q at. holds q (Contains-filter_from is_own requests q at) (and_parts (q.conn == c) (q.space == the_space) (Contains-filter_passes is_own requests q at)).0)
      (own requests) (All-contains_itself (own requests)))

  -- where a test of the places says the same of the client's requests as a test of the requests
  pub places_left : (p : ℕ → Bool) (stays : Request → Bool) (requests : List Request) → ((q : Request) → Contains requests q → (q.conn == c) ≡ true → p q.place ≡ stays q)
      → filter p (places_of requests) ≡ places_of (filter stays requests)
  places_left p stays requests same =
      filter_map_is p (λ (r : Request). r.place) (own requests)
      ∙ ap (λ (l : List Request). map (λ r. r.place) l)
      (filter_agree (λ (q : Request). p q.place) stays (own requests) (each_own (λ (q : Request). p q.place ≡ stays q) requests same) ∙ filter_swap stays is_own requests)

  -- where all of the client's requests stay
  pub places_stay : (stays : Request → Bool) (requests : List Request) → ((q : Request) → Contains requests q → (q.conn == c) ≡ true → stays q ≡ true) → places_of requests ≡ places_of (filter stays requests)
  places_stay stays requests all =
      ap (λ (l : List Request). map (λ r. r.place) l)
      (sym (filter_passes stays (own requests) (each_own (λ (q : Request). stays q ≡ true) requests all)) ∙ filter_swap stays is_own requests)

  -- none of the requests is the client's
  pub no_places : (requests : List Request) → ((q : Request) → Contains requests q → (q.conn == c) ≡ false) → places_of requests ≡ []
  no_places requests others =
      ap (λ (l : List Request). map (λ r. r.place) l)
      (none_in (own requests)
      (λ q at.
      let own_one : (q.conn == c) ≡ true = (and_parts (q.conn == c) (q.space == the_space) (Contains-filter_passes is_own requests q at)).0 in
      let clash : true ≡ false = sym own_one ∙ others q (Contains-filter_from is_own requests q at) in
      absurd (cc)))

  map_push : (requests : List Request) (r : Request) → map (λ (q : Request). q.place) (requests ++ r ∷ []) ≡ map (λ (q : Request). q.place) requests ++ r.place ∷ []
  map_push [] r = refl
  map_push (q ∷ requests) r = ap (λ (l : List ℕ). q.place ∷ l) (map_push requests r)

  -- one request more, which is the client's, and one which isn't
  pub places_more : (requests : List Request) (r : Request) → (r.conn == c && (r.space == the_space)) ≡ true → places_of (requests ++ r ∷ []) ≡ places_of requests ++ r.place ∷ []
  places_more requests r is =
      ap (λ (l : List Request). map (λ r. r.place) l) (filter-append is_own requests (r ∷ []) ∙ ap (λ (b : Bool). own requests ++ cond b (r ∷ []) []) is) ∙ map_push (own requests) r

  pub places_same : (requests : List Request) (r : Request) → (r.conn == c && (r.space == the_space)) ≡ false → places_of (requests ++ r ∷ []) ≡ places_of requests
  places_same requests r is =
      ap (λ (l : List Request). map (λ r. r.place) l) (filter-append is_own requests (r ∷ []) ∙ ap (λ (b : Bool). own requests ++ cond b (r ∷ []) []) is ∙ append-nil (own requests))

-- ---- of what the view tells ----

abbrev pub asked_places : List Ask → List ℕ
asked_places [] = []
asked_places (ask ∷ asks) = asked_places asks ++ ask.place ∷ []

pub as_many_places : (asks : List Ask) → length (asked_places asks) ≡ length asks
as_many_places [] = refl
as_many_places (ask ∷ asks) = let rest = as_many_places asks in let both = length-append (asked_places asks) (ask.place ∷ []) in omega arith

pub places_without : (place : ℕ) (asks : List Ask) → asked_places (without_ask place asks) ≡ filter (λ p. not (p == place)) (asked_places asks)
places_without place [] = refl
places_without place (ask ∷ asks) =
    by (not (ask.place == place)) (places_without place asks)
    ∙ sym (filter-append (λ p. not (p == place)) (asked_places asks) (ask.place ∷ []))
  where
    by : (b : Bool) → asked_places (without_ask place asks) ≡ filter (λ p. not (p == place)) (asked_places asks)
        → asked_places (cond b (ask ∷ without_ask place asks) (without_ask place asks)) ≡ filter (λ p. not (p == place)) (asked_places asks) ++ cond b (ask.place ∷ []) []
    by true rest = ap (λ (l : List ℕ). l ++ ask.place ∷ []) rest
    by false rest = rest ∙ sym (append-nil (filter (λ p. not (p == place)) (asked_places asks)))
