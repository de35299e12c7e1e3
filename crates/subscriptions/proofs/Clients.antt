-- The client of a connection, by its place.
use Rattle.std.proofs.Common.{◌≡◌, ℕ, zero, suc, ◌+◌, Bool, true, false, cond, List, [], ◌∷◌, ◌++◌, get_or, set, map, filter, refl, ap, sym, ◌∙◌, arith, Some, None}
use Rattle.std.specs.List.{flat_map, position, position_from}
use Rattle.std.proofs.lemmas.Iterator.Adapters.{position_from-zero}
use Rattle.kit_bytes.specs.Subscriptions.{Pair}
use Rattle.kit_bytes.proofs.Lists.{find_first, find_none}
use Rattle.subscriptions.specs.Clients.{Client, is_of, changed, list_in, list_of, is_too_long, with_list, sets, share, gathered}

module _ (conn : ℕ) (change : Client → Client) where
  -- the place of the client in what is left
  record IsChangedAt (xs : List Client) (start i : ℕ) : Type 0 where
    place : ℕ
    is : start + place ≡ i
    changes : (d : Client) → changed conn change xs ≡ set xs place (change (get_or xs place d))

  changed_from : (xs : List Client) (start i : ℕ) → position_from (is_of conn) start xs ≡ Some i → IsChangedAt xs start i
  unfolding changed
  changed_from [] start i e = absurd (cc)
  changed_from (x ∷ xs) start i e = by (is_of conn x) refl e (λ there. changed_from xs (start + 1) i there)
    where
      by : (b : Bool) → is_of conn x ≡ b → cond b (Some start) (position_from (is_of conn) (start + 1) xs) ≡ Some i → (position_from (is_of conn) (start + 1) xs ≡ Some i → IsChangedAt xs (start + 1) i) → IsChangedAt (x ∷ xs) start i
      by true here e others =
          let same : start ≡ i = cc in
          record { place = zero; is = omega (arith, same); changes = λ d. ap (λ (b : Bool). cond b (change x ∷ xs) (x ∷ changed conn change xs)) here }
      by false other e others =
          let rest = others e in
          record {
            place = suc rest.place;
            is = omega (arith, rest.is);
            changes = λ d. ap (λ (b : Bool). cond b (change x ∷ xs) (x ∷ changed conn change xs)) other ∙ ap (λ (l : List Client). x ∷ l) (rest.changes d);
          }

  changed_none_from : (xs : List Client) (start : ℕ) → position_from (is_of conn) start xs ≡ None → changed conn change xs ≡ xs
  unfolding changed
  changed_none_from [] start e = refl
  changed_none_from (x ∷ xs) start e = by (is_of conn x) e (λ there. changed_none_from xs (start + 1) there)
    where
      by : (b : Bool) → cond b (Some start) (position_from (is_of conn) (start + 1) xs) ≡ None → (position_from (is_of conn) (start + 1) xs ≡ None → changed conn change xs ≡ xs) → cond b (change x ∷ xs) (x ∷ changed conn change xs) ≡ x ∷ xs
      by true e others = absurd (cc)
      by false e others = ap (λ (l : List Client). x ∷ l) (others e)

  -- the client of this place is changed
  pub changed_at : (xs : List Client) (i : ℕ) (d : Client) → Some i ≡ position (is_of conn) xs → changed conn change xs ≡ set xs i (change (get_or xs i d))
  changed_at xs i d e =
      let at = changed_from xs 0 i (sym (position_from-zero (is_of conn) xs) ∙ sym e) in
      let same : at.place ≡ i = omega (arith, at.is) in
      at.changes d ∙ ap (λ (n : ℕ). set xs n (change (get_or xs n d))) same

  -- a client that was changed stands in its place
  pub changed_place : (xs : List Client) (i : ℕ) (was now : Client) → Some i ≡ position (is_of conn) xs → was ≡ get_or xs i was → now ≡ change was → set xs i now ≡ changed conn change xs
  changed_place xs i was now e was_is now_is = ap (set xs i) (now_is ∙ ap change was_is) ∙ sym (changed_at xs i was e)

  -- nobody is changed
  pub changed_none : (xs : List Client) → None ≡ position (is_of conn) xs → changed conn change xs ≡ xs
  changed_none xs e = changed_none_from xs 0 (sym (position_from-zero (is_of conn) xs) ∙ sym e)

module _ (conn : ℕ) where
  pub list_at : (xs : List Client) (i : ℕ) (client : Client) → Some i ≡ position (is_of conn) xs → client ≡ get_or xs i client → client.list ≡ list_of conn xs
  list_at xs i client e is = ap (λ (c : Client). c.list) is ∙ sym (ap list_in (find_first (is_of conn) xs i client (sym e)))

  pub list_none : (xs : List Client) → None ≡ position (is_of conn) xs → list_of conn xs ≡ []
  list_none xs e = ap list_in (find_none (is_of conn) xs (sym e))

pub sets_short : (conn : ℕ) (list : List Pair) (clients : List Client) → is_too_long list ≡ false → changed conn (with_list list) clients ≡ sets conn list clients
sets_short conn list clients short = ap (λ (b : Bool). cond b clients (changed conn (with_list list) clients)) (sym short)

-- ---- the pairs of the shown clients ----

gathered_first : (x : Client) (xs : List Client) → gathered (x ∷ xs) ≡ cond x.shown (x.list ++ gathered xs) (gathered xs)
gathered_first x xs = by x.shown
  where
    by : (b : Bool) → flat_map (λ list. list) (map (λ client. client.list) (cond b (x ∷ filter (λ client. client.shown) xs) (filter (λ client. client.shown) xs))) ≡ cond b (x.list ++ gathered xs) (gathered xs)
    by true = refl
    by false = refl

pub share_first : (x : Client) (xs : List Client) → gathered (x ∷ xs) ≡ share x ++ gathered xs
share_first x xs = gathered_first x xs ∙ by x.shown
  where
    by : (b : Bool) → cond b (x.list ++ gathered xs) (gathered xs) ≡ cond b x.list [] ++ gathered xs
    by true = refl
    by false = refl
