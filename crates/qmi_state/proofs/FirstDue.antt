-- The first of the kept ids that is due is the same in whichever order they stand.
use Rattle.std.proofs.Common.{◌≡◌, ℕ, zero, ◌-◌, Bool, true, false, ◌&&◌, ◌||◌, ◌==◌, cond, nat_lt, nat_le, List, [], ◌∷◌, refl, ap, ◌∙◌, subst, ⊎_elim, arith, Contains, Option, Some, None}
use Rattle.std.proofs.lemmas.Bool.Decides.{nat_tests}
use Rattle.proxy_history.specs.ClientIds.{KeptId}
use Rattle.proxy_history.proofs.Lists.{Contains-cons, Contains-cons_cases, Contains-nil}
use Rattle.qmi_proxy.specs.Releases.{is_before, nearer, first_due}
use Rattle.holders.specs.Kept.{is_due, is_kept_before, FirstDue}

abbrev pub id_of : KeptId → ℕ × ℕ
id_of k = (k.service, k.cid)

abbrev pub id_in : Option KeptId → Option (ℕ × ℕ)
id_in None = None
id_in (Some k) = Some (id_of k)

-- ---- the order ----

not_itself : (s i : ℕ) → (nat_lt s s || (s == s && nat_lt i i)) ≡ false
not_itself s i = grind (arith, nat_tests)

not_back : (s i t j u k : ℕ) → (nat_lt s t || (s == t && nat_lt i j)) ≡ true → (nat_lt u t || (u == t && nat_lt k j)) ≡ false → (nat_lt u s || (u == s && nat_lt k i)) ≡ false
not_back s i t j u k first later = grind (arith, nat_tests, first, later)

neither : (s i t j : ℕ) → (nat_lt s t || (s == t && nat_lt i j)) ≡ false → (nat_lt t s || (t == s && nat_lt j i)) ≡ false → (s ≡ t) × (i ≡ j)
neither s i t j one other = (grind (arith, nat_tests, one, other), grind (arith, nat_tests, one, other))

-- ---- the first ----

module _ (after time : ℕ) where
  abbrev IsDue : KeptId → Bool → Type 0
  IsDue k b = is_due after time k ≡ b

  by_order : (k l : KeptId) (ids : List KeptId) (b : Bool) → is_before k l ≡ b → IsDue k true → FirstDue after time ids (Some (id_of l)) → FirstDue after time (k ∷ ids) (Some (id_of (cond b k l)))
  by_order k l ids true e due F = record {
    since = k.since;
    at = (zero, omega arith, refl);
    due = due;
    first = λ m at comes.
        ⊎_elim (λ (is : k ≡ m). subst (λ (n : KeptId). is_kept_before k.service k.cid n ≡ false) is (not_itself k.service k.cid))
        (λ (rest : Contains ids m). not_back k.service k.cid l.service l.cid m.service m.cid e (F.first m rest comes)) (Contains-cons_cases m k ids at);
  }
  by_order k l ids false e due F = record {
    since = F.since;
    at = Contains-cons (record { service = l.service; cid = l.cid; since = F.since }) k ids F.at;
    due = F.due;
    first = λ m at comes.
        ⊎_elim (λ (is : k ≡ m). subst (λ (n : KeptId). is_kept_before l.service l.cid n ≡ false) is e) (λ (rest : Contains ids m). F.first m rest comes) (Contains-cons_cases m k ids at);
  }

  by_test : (k : KeptId) (ids : List KeptId) (b : Bool) (found : Option KeptId) → IsDue k b → FirstDue after time ids (id_in found) → FirstDue after time (k ∷ ids) (id_in (nearer b k found))
  by_test k ids false None e none = λ m at. ⊎_elim (λ (is : k ≡ m). subst (λ (n : KeptId). is_due after time n ≡ false) is e) (λ (rest : Contains ids m). none m rest) (Contains-cons_cases m k ids at)
  by_test k ids false (Some l) e F = record {
    since = F.since;
    at = Contains-cons (record { service = l.service; cid = l.cid; since = F.since }) k ids F.at;
    due = F.due;
    first = λ m at comes.
        ⊎_elim (λ (is : k ≡ m). absurd (let clash : is_due after time m ≡ false = subst (λ (n : KeptId). is_due after time n ≡ false) is e in cc)) (λ (rest : Contains ids m). F.first m rest comes) (Contains-cons_cases m k ids at);
  }
  by_test k ids true None e none = record {
    since = k.since;
    at = (zero, omega arith, refl);
    due = e;
    first = λ m at comes.
        ⊎_elim (λ (is : k ≡ m). subst (λ (n : KeptId). is_kept_before k.service k.cid n ≡ false) is (not_itself k.service k.cid))
        (λ (rest : Contains ids m). absurd (let clash : is_due after time m ≡ false = none m rest in cc)) (Contains-cons_cases m k ids at);
  }
  by_test k ids true (Some l) e F = by_order k l ids (is_before k l) refl e F

  pub first_is : (ids : List KeptId) → FirstDue after time ids (id_in (first_due after time ids))
  unfolding first_due
  first_is [] = λ k at. absurd (Contains-nil k at)
  first_is (k ∷ ids) = by_test k ids (nat_le after (time - k.since)) (first_due after time ids) refl (first_is ids)

  -- ---- there is but one ----

  pub one_first : (one other : List KeptId) → ((k : KeptId) → Contains one k → Contains other k) → ((k : KeptId) → Contains other k → Contains one k)
      → (found same : Option (ℕ × ℕ)) → FirstDue after time one found → FirstDue after time other same → found ≡ same
  one_first one other to from None None F G = refl
  one_first one other to from None (Some id) F G =
      let there : KeptId = record { service = id.0; cid = id.1; since = G.since } in
      absurd (let clash : is_due after time there ≡ false = F there (from there G.at) in let due : is_due after time there ≡ true = G.due in cc)
  one_first one other to from (Some id) None F G =
      let there : KeptId = record { service = id.0; cid = id.1; since = F.since } in
      absurd (let clash : is_due after time there ≡ false = G there (to there F.at) in let due : is_due after time there ≡ true = F.due in cc)
  one_first one other to from (Some id) (Some second) F G =
      let here : KeptId = record { service = id.0; cid = id.1; since = F.since } in
      let there : KeptId = record { service = second.0; cid = second.1; since = G.since } in
      let same = neither id.0 id.1 second.0 second.1 (G.first here (to here F.at) F.due) (F.first there (from there G.at) G.due) in
      ap (λ (n : ℕ). let o : Option (ℕ × ℕ) = Some (n, id.1) in o) same.0 ∙ ap (λ (n : ℕ). let o : Option (ℕ × ℕ) = Some (second.0, n) in o) same.1
