-- Messages of the modem beside the requests that they answer, in one order.
use Rattle.std.proofs.Common.{◌≡◌, ℕ, suc, List, [], ◌∷◌, ◌++◌, length, refl, ap}
use Rattle.proxy_history.specs.Facts.{Request}

-- by any relation between a message and the request that it answers
module _ (Suits : List ℕ → Request → Type 0) where
  -- each message answers the request that stands at its place
  abbrev pub Pairs : List (List ℕ) → List Request → Type 0
  Pairs [] [] = Unit {0}
  Pairs (m ∷ messages) (r ∷ requests) = Suits m r × Pairs messages requests
  Pairs _ _ = ⊥

  pub as_many : (messages : List (List ℕ)) (requests : List Request) → Pairs messages requests → length requests ≡ length messages
  as_many [] [] pairs = refl
  as_many [] (r ∷ requests) pairs = absurd pairs
  as_many (m ∷ messages) [] pairs = absurd pairs
  as_many (m ∷ messages) (r ∷ requests) pairs = ap suc (as_many messages requests pairs.1)

  pub one_more : (messages : List (List ℕ)) (requests : List Request) (m : List ℕ) (r : Request) → Pairs messages requests → Suits m r → Pairs (messages ++ m ∷ []) (requests ++ r ∷ [])
  one_more [] [] m r pairs suits = (suits, tt)
  one_more [] (q ∷ requests) m r pairs suits = absurd pairs
  one_more (n ∷ messages) [] m r pairs suits = absurd pairs
  one_more (n ∷ messages) (q ∷ requests) m r pairs suits = (pairs.0, one_more messages requests m r pairs.1 suits)

  -- the request that a message answers, and those before and behind it
  pub record Found (front : List (List ℕ)) (m : List ℕ) (back : List (List ℕ)) (requests : List Request) : Type 0 where
    pub before : List Request
    pub r : Request
    pub behind : List Request
    pub whole : requests ≡ before ++ r ∷ behind
    pub suits : Suits m r
    pub others : Pairs (front ++ back) (before ++ behind)

  pub find : (front : List (List ℕ)) (m : List ℕ) (back : List (List ℕ)) (requests : List Request) → Pairs (front ++ m ∷ back) requests → Found front m back requests
  find [] m back [] pairs = absurd pairs
  find [] m back (r ∷ requests) pairs = record { before = []; r = r; behind = requests; whole = refl; suits = pairs.0; others = pairs.1 }
  find (n ∷ front) m back [] pairs = absurd pairs
  find (n ∷ front) m back (q ∷ requests) pairs =
      let rest = find front m back requests pairs.1 in
      record { before = q ∷ rest.before; r = rest.r; behind = rest.behind; whole = ap (λ (l : List Request). q ∷ l) rest.whole; suits = rest.suits; others = (pairs.0, rest.others) }
