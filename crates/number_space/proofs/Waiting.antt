-- Counts of connections, by the places of their names, and the rows that they are of.
use Rattle.std.proofs.Common.{◌≡◌, ◌≢◌, ℕ, zero, suc, ◌+◌, ◌-◌, ◌<◌, ◌≤◌, Bool, true, false, not, cond, ◌&&◌, ◌==◌, if◌then◌else◌, List, [], ◌∷◌, ◌++◌, length, map, filter, get_or, set, replicate, Option, Some, None, option_map, refl, ap, sym, ◌∙◌, arith}
use Rattle.std.specs.List.{remove}
use Rattle.std.proofs.lemmas.Bool.{eqb-true, eq-eqb}
use Rattle.std.proofs.lemmas.Bool.Decides.{nat_tests}
use Rattle.std.proofs.lemmas.List.Sums.{length-filter, count_by-le-length}
use Rattle.std.proofs.lemmas.List.{get_or-set_same, get_or-set_other, get_or-replicate}
use Rattle.number_space.specs.declared.counts.Count.{Count}
use Rattle.number_space.specs.declared.space.Row.{Row}
use Rattle.number_space.specs.Table.{waiting_of, settled_where}
use Rattle.number_space.specs.Counts.{place_of, nobody, count_of, known, NobodyWaits, OthersStay, AreCounted}

-- ---- a count that is set ----

pub in_table : (conn : ℕ) → place_of conn < 128
in_table conn = omega arith

pub set_here : (counts : List Count) (conn waits : ℕ) → length counts ≡ 128 → known (set counts (place_of conn) (record { conn = conn; waits = waits })) conn ≡ Some waits
set_here counts conn waits all =
    ap (count_of conn) (get_or-set_same counts (place_of conn) (record { conn = conn; waits = waits }) nobody (omega (arith, in_table conn)))
    ∙ ap (λ (b : Bool). if b then Some waits else None) (eq-eqb conn conn refl)

pub set_others : (counts : List Count) (conn waits : ℕ) → length counts ≡ 128 → OthersStay conn counts (set counts (place_of conn) (record { conn = conn; waits = waits }))
set_others counts conn waits all other n differs e = by (place_of other == place_of conn) refl
  where
    new : Count
    new = record { conn = conn; waits = waits }

    apart : (conn == other) ≡ false
    apart = grind (arith, nat_tests, differs)

    by : (b : Bool) → (place_of other == place_of conn) ≡ b → known counts other ≡ Some n
    by true same =
        let at : known (set counts (place_of conn) new) other ≡ count_of other new =
        ap (λ (place : ℕ). count_of other (get_or (set counts (place_of conn) new) place nobody)) (eqb-true (place_of other) (place_of conn) same)
        ∙ ap (count_of other) (get_or-set_same counts (place_of conn) new nobody (omega (arith, in_table conn)))
        in
        let none : None ≡ Some n = sym (at ∙ ap (λ (b : Bool). if b then Some waits else None) apart) ∙ e in absurd (cc)
    by false other_place =
        let differ : place_of other ≢ place_of conn = λ is. (let clash : true ≡ false = sym (eq-eqb (place_of other) (place_of conn) is) ∙ other_place in cc) in
        sym (ap (count_of other) (get_or-set_other counts (place_of conn) (place_of other) new nobody differ)) ∙ e

pub nobody_waits : (counts : List Count) → counts ≡ replicate 128 nobody → NobodyWaits counts
nobody_waits counts is conn n e =
    by (0 == conn) (sym (ap (λ (l : List Count). known l conn) is ∙ ap (count_of conn) (get_or-replicate 128 (place_of conn) nobody nobody (in_table conn))) ∙ e)
  where
    by : (b : Bool) → (if b then Some 0 else None) ≡ Some n → n ≡ 0
    by true e = let same : 0 ≡ n = cc in sym same
    by false e = absurd (cc)

-- ---- how many rows pass a test ----

abbrev one_if : Bool → ℕ
one_if b = if b then 1 else 0

module _ {X : Type 0} (p : X → Bool) where
  count_push : (xs : List X) (x : X) → length (filter p (xs ++ x ∷ [])) ≡ length (filter p xs) + one_if (p x)
  count_push [] x = let one : length (filter p (x ∷ [])) ≡ one_if (p x) = elim (p x) as (λ b. length (cond b (x ∷ []) []) ≡ cond b 1 0) [ true ↦ refl | false ↦ refl ] in one ∙ more (one_if (p x))
    where
      more : (k : ℕ) → k ≡ 0 + k
      more k = omega arith
  count_push (first ∷ xs) x =
      elim (p first) as (λ b. length (cond b (first ∷ filter p (xs ++ x ∷ [])) (filter p (xs ++ x ∷ []))) ≡ length (cond b (first ∷ filter p xs) (filter p xs)) + one_if (p x)) [
        | true ↦ omega (arith, count_push xs x)
        | false ↦ count_push xs x
      ]

  -- one that stands behind the first
  count_behind : (first : X) (xs ys : List X) (more : ℕ) → length (filter p xs) ≡ length (filter p ys) + more → length (filter p (first ∷ xs)) ≡ length (filter p (first ∷ ys)) + more
  count_behind first xs ys more is =
      elim (p first) as (λ b. length (cond b (first ∷ filter p xs) (filter p xs)) ≡ length (cond b (first ∷ filter p ys) (filter p ys)) + more) [ true ↦ omega (arith, is) | false ↦ is ]

  count_first : (x : X) (xs : List X) → length (filter p (x ∷ xs)) ≡ length (filter p xs) + one_if (p x)
  count_first x xs = elim (p x) as (λ b. length (cond b (x ∷ filter p xs) (filter p xs)) ≡ length (filter p xs) + cond b 1 0) [ true ↦ omega arith | false ↦ omega arith ]

  count_remove : (xs : List X) (i : ℕ) (d : X) → i < length xs → length (filter p xs) ≡ length (filter p (remove xs i)) + one_if (p (get_or xs i d))
  count_remove [] i d within = absurd (omega arith)
  count_remove (x ∷ xs) zero d within = count_first x xs
  count_remove (x ∷ xs) (suc i) d within = count_behind x xs (remove xs i) (one_if (p (get_or xs i d))) (count_remove xs i d (omega arith))

  -- one that passes no more
  count_set : (xs : List X) (i : ℕ) (y d : X) → i < length xs → p y ≡ false → length (filter p xs) ≡ length (filter p (set xs i y)) + one_if (p (get_or xs i d))
  count_set [] i y d within fails = absurd (omega arith)
  count_set (x ∷ xs) zero y d within fails = count_first x xs ∙ ap (λ (b : Bool). length (cond b (y ∷ filter p xs) (filter p xs)) + one_if (p x)) (sym fails)
  count_set (x ∷ xs) (suc i) y d within fails = count_behind x xs (set xs i y) (one_if (p (get_or xs i d))) (count_set xs i y d (omega arith) fails)

  count_map : (f : X → X) (q : X → Bool) → ((x : X) → p (f x) ≡ q x) → (xs : List X) → length (filter p (map f xs)) ≡ length (filter q xs)
  count_map f q same [] = refl
  count_map f q same (x ∷ xs) =
      ap (λ (b : Bool). length (cond b (f x ∷ filter p (map f xs)) (filter p (map f xs)))) (same x)
      ∙ elim (q x) as (λ b. length (cond b (f x ∷ filter p (map f xs)) (filter p (map f xs))) ≡ length (cond b (x ∷ filter q xs) (filter q xs))) [
        | true ↦ ap suc (count_map f q same xs)
        | false ↦ count_map f q same xs
      ]

none_passes : {X : Type 0} (xs : List X) → length (filter (λ x. false) xs) ≡ 0
none_passes [] = refl
none_passes (x ∷ xs) = none_passes xs

-- ---- the counts stay those of the rows ----

and_false : (b : Bool) → (b && false) ≡ false
and_false true = refl
and_false false = refl

and_true : (b : Bool) → (b && true) ≡ b
and_true true = refl
and_true false = refl

module _ {T : Type 0} where
  pub waiting_few : (conn : ℕ) (rows : List (Row T)) → waiting_of conn rows ≤ length rows
  waiting_few conn rows = omega (arith, length-filter (λ (r : Row T). r.pending && (r.conn == conn)) rows, count_by-le-length (λ (r : Row T). r.pending && (r.conn == conn)) rows)

  by_name : (old new : List Count) (conn : ℕ) (rows others : List (Row T)) → OthersStay conn old new → AreCounted old rows → ((n : ℕ) → known new conn ≡ Some n → n ≡ waiting_of conn others)
      → ((other : ℕ) → (conn == other) ≡ false → waiting_of other rows ≡ waiting_of other others) → AreCounted new others
  by_name old new conn rows others stay counted here same other n e = by (conn == other) refl
    where
      by : (b : Bool) → (conn == other) ≡ b → n ≡ waiting_of other others
      by true is =
          let named : conn ≡ other = eqb-true conn other is in
          here n (ap (λ (c : ℕ). known new c) named ∙ e) ∙ ap (λ (c : ℕ). waiting_of c others) named
      by false differs =
          let apart : other ≢ conn = λ is. (let clash : true ≡ false = sym (eq-eqb conn other (sym is)) ∙ differs in cc) in
          counted other n (stay other n apart e) ∙ same other differs

  -- a row counts for its own connection alone
  for_other : (row : Row T) (other : ℕ) → (row.conn == other) ≡ false → one_if (row.pending && (row.conn == other)) ≡ 0
  for_other row other differs = ap (λ (b : Bool). one_if (row.pending && b)) differs ∙ ap one_if (and_false row.pending)

  for_own : (row : Row T) → one_if (row.pending && (row.conn == row.conn)) ≡ one_if row.pending
  for_own row = ap (λ (b : Bool). one_if (row.pending && b)) (eq-eqb row.conn row.conn refl) ∙ ap one_if (and_true row.pending)

  pub counted_push : (old new : List Count) (rows : List (Row T)) (row : Row T) (waits : ℕ) → row.pending ≡ true → waits ≡ waiting_of row.conn rows → known new row.conn ≡ Some (waits + 1) → OthersStay row.conn old new →
      AreCounted old rows → AreCounted new (rows ++ row ∷ [])
  counted_push old new rows row waits pending is here stay counted =
      by_name old new row.conn rows (rows ++ row ∷ []) stay counted
      (λ n e.
      let one : waits + 1 ≡ n = let given : Some (waits + 1) ≡ Some n = sym here ∙ e in cc in
      let mine : one_if (row.pending && (row.conn == row.conn)) ≡ 1 = for_own row ∙ ap one_if pending in
      omega (arith, one, mine, is, count_push (λ (r : Row T). r.pending && (r.conn == row.conn)) rows row))
      (λ other differs. omega (arith, for_other row other differs, count_push (λ (r : Row T). r.pending && (r.conn == other)) rows row))

  -- whoever waited for a row waits no more
  counted_less : (old new : List Count) (rows others : List (Row T)) (row : Row T) → ((conn : ℕ) → waiting_of conn rows ≡ waiting_of conn others + one_if (row.pending && (row.conn == conn)))
      → known new row.conn ≡ option_map (λ waits. waits - one_if row.pending) (known old row.conn) → OthersStay row.conn old new → AreCounted old rows → AreCounted new others
  counted_less old new rows others row lost here stay counted =
      by_name old new row.conn rows others stay counted
      (λ n e. mine n (known old row.conn) refl (sym here ∙ e))
      (λ other differs. omega (arith, for_other row other differs, lost other))
    where
      mine : (n : ℕ) (was : Option ℕ) → known old row.conn ≡ was → option_map (λ waits. waits - one_if row.pending) was ≡ Some n → n ≡ waiting_of row.conn others
      mine n None is e = absurd (cc)
      mine n (Some waits) is e =
          let given : waits - one_if row.pending ≡ n = cc in
          let before : waits ≡ waiting_of row.conn rows = counted row.conn waits is in
          omega (arith, given, before, lost row.conn, for_own row)

  pub counted_remove : (old new : List Count) (rows others : List (Row T)) (i : ℕ) (row : Row T) → i < length rows → row ≡ get_or rows i row → others ≡ remove rows i
      → known new row.conn ≡ option_map (λ waits. waits - one_if row.pending) (known old row.conn) → OthersStay row.conn old new → AreCounted old rows → AreCounted new others
  counted_remove old new rows others i row within at is =
      counted_less old new rows others row
      (λ conn.
      count_remove (λ (r : Row T). r.pending && (r.conn == conn)) rows i row within
      ∙ ap (λ (l : List (Row T)). waiting_of conn l + one_if (let r = get_or rows i row in r.pending && (r.conn == conn))) (sym is)
      ∙ ap (λ (r : Row T). waiting_of conn others + one_if (r.pending && (r.conn == conn))) (sym at))

  pub counted_settled : (old new : List Count) (rows others : List (Row T)) (i : ℕ) (row : Row T) → i < length rows → row ≡ get_or rows i row → others ≡ set rows i (record row { pending = false })
      → known new row.conn ≡ option_map (λ waits. waits - one_if row.pending) (known old row.conn) → OthersStay row.conn old new → AreCounted old rows → AreCounted new others
  counted_settled old new rows others i row within at is =
      counted_less old new rows others row
      (λ conn.
      count_set (λ (r : Row T). r.pending && (r.conn == conn)) rows i (record row { pending = false }) row within refl
      ∙ ap (λ (l : List (Row T)). waiting_of conn l + one_if (let r = get_or rows i row in r.pending && (r.conn == conn))) (sym is)
      ∙ ap (λ (r : Row T). waiting_of conn others + one_if (r.pending && (r.conn == conn))) (sym at))

  pub counted_orphans : (old new : List Count) (conn : ℕ) (rows others : List (Row T)) → others ≡ map (settled_where (λ r. conn == r.conn)) rows → known new conn ≡ Some 0 → OthersStay conn old new → AreCounted old rows → AreCounted new others
  counted_orphans old new conn rows others is here stay counted =
      by_name old new conn rows others stay counted
      (λ n e.
      let none : 0 ≡ n = let given : Some 0 ≡ Some n = sym here ∙ e in cc in
      sym none ∙ sym (ap (waiting_of conn) is ∙ count_map (λ (r : Row T). r.pending && (r.conn == conn)) (settled_where (λ r. conn == r.conn)) (λ r. false) (λ r. mine r (conn == r.conn) refl) rows ∙ none_passes rows))
      (λ other differs. sym (ap (waiting_of other) is ∙ count_map (λ (r : Row T). r.pending && (r.conn == other)) (settled_where (λ r. conn == r.conn)) (λ r. r.pending && (r.conn == other)) (λ r. others_stay other differs r (conn == r.conn) refl) rows))
    where
      mine : (r : Row T) (b : Bool) → (conn == r.conn) ≡ b → ((not b && r.pending) && (r.conn == conn)) ≡ false
      mine r true is = refl
      mine r false differs = let turned : (r.conn == conn) ≡ false = grind (arith, nat_tests, differs) in ap (λ (b : Bool). r.pending && b) turned ∙ and_false r.pending

      others_stay : (other : ℕ) → (conn == other) ≡ false → (r : Row T) (b : Bool) → (conn == r.conn) ≡ b → ((not b && r.pending) && (r.conn == other)) ≡ (r.pending && (r.conn == other))
      others_stay other differs r true is =
          let named : conn ≡ r.conn = eqb-true conn r.conn is in
          let apart : (r.conn == other) ≡ false = ap (λ (c : ℕ). c == other) (sym named) ∙ differs in
          sym (ap (λ (b : Bool). r.pending && b) apart ∙ and_false r.pending)
      others_stay other differs r false differ = refl

  pub counted_none : (counts : List Count) (rows : List (Row T)) → rows ≡ [] → NobodyWaits counts → AreCounted counts rows
  counted_none counts rows none nobody_waits conn n e = nobody_waits conn n e ∙ ap (λ (l : List (Row T)). waiting_of conn l) (sym none)
