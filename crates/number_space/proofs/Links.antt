-- Values that are linked to their neighbours.
use Rattle.std.proofs.Common.{◌≡◌, ◌≢◌, ℕ, zero, suc, ◌+◌, ◌<◌, ◌≤◌, Bool, false, cond, ◌==◌, List, [], ◌∷◌, ◌++◌, length, take, drop, get_or, set, Option, Some, None, option_map, is_none, is_some, IsSome, refl, ap, sym, ◌∙◌, subst, arith, length-append, append-nil}
use Rattle.std.specs.List.{AllByRecursion, IsDistinct, remove}
use Rattle.std.proofs.lemmas.Bool.Decides.{nat_tests}
use Rattle.std.proofs.lemmas.Bool.{eq-eqb, ne_eqb, true≢false}
use Rattle.std.proofs.lemmas.List.{set_split}
use Rattle.kit_bytes.proofs.Lists.{all_weaker}
use Rattle.number_space.specs.declared.chain.Link.{Link}
use Rattle.number_space.specs.Chain.{KeyAt, keys, first_key, last_key, AreLinked, met_from, AreLinksOf, is_key, with_value, with_after, with_before, after_at, before_at}

some_same : {X : Type 0} {x y : X} → Some x ≡ Some y → x ≡ y
some_same is = cc

flipped : (j k : ℕ) → (j == k) ≡ false → (k == j) ≡ false
flipped j k apart = grind (arith, nat_tests, apart)

differs : (key k : ℕ) → (key == k) ≡ false → k ≢ key
differs key k apart same = absurd (true≢false (sym (eq-eqb key k (sym same)) ∙ apart))

module _ {V : Type 0} where
  -- no entry has this key
  abbrev Apart : ℕ → List (ℕ × V) → Type 0
  Apart key xs = AllByRecursion (λ k. (key == k) ≡ false) (keys xs)

  abbrev Distinct : List (ℕ × V) → Type 0
  Distinct xs = IsDistinct (λ j k. j == k) (keys xs)

  -- no key of the first is one of the second
  abbrev Across : List (ℕ × V) → List (ℕ × V) → Type 0
  Across xs ys = AllByRecursion (λ (x : ℕ × V). Apart x.0 ys) xs

  -- ---- distinct keys ----

  apart_parts : (key : ℕ) (xs ys : List (ℕ × V)) → Apart key (xs ++ ys) → Apart key xs × Apart key ys
  apart_parts key [] ys apart = (tt, apart)
  apart_parts key (x ∷ xs) ys apart = let rest = apart_parts key xs ys apart.1 in ((apart.0, rest.0), rest.1)

  apart_join : (key : ℕ) (xs ys : List (ℕ × V)) → Apart key xs → Apart key ys → Apart key (xs ++ ys)
  apart_join key [] ys front back = back
  apart_join key (x ∷ xs) ys front back = (front.0, apart_join key xs ys front.1 back)

  record Parts (xs ys : List (ℕ × V)) : Type 0 where
    front : Distinct xs
    back : Distinct ys
    across : Across xs ys

  distinct_parts : (xs ys : List (ℕ × V)) → Distinct (xs ++ ys) → Parts xs ys
  unfolding IsDistinct
  distinct_parts [] ys distinct = record { front = tt; back = distinct; across = tt }
  distinct_parts (x ∷ xs) ys distinct =
      let rest = distinct_parts xs ys distinct.1 in
      let apart = apart_parts x.0 xs ys distinct.0 in
      record { front = (apart.0, rest.front); back = rest.back; across = (apart.1, rest.across) }

  distinct_join : (xs ys : List (ℕ × V)) → Distinct xs → Distinct ys → Across xs ys → Distinct (xs ++ ys)
  unfolding IsDistinct
  distinct_join [] ys front back across = back
  distinct_join (x ∷ xs) ys front back across = (apart_join x.0 xs ys front.0 across.0, distinct_join xs ys front.1 back across.1)

  distinct_head : (x : ℕ × V) (xs : List (ℕ × V)) → Distinct (x ∷ xs) → Apart x.0 xs
  unfolding IsDistinct
  distinct_head x xs distinct = distinct.0

  distinct_tail : (x : ℕ × V) (xs : List (ℕ × V)) → Distinct (x ∷ xs) → Distinct xs
  unfolding IsDistinct
  distinct_tail x xs distinct = distinct.1

  distinct_one : (x : ℕ × V) → Distinct (x ∷ [])
  unfolding IsDistinct
  distinct_one x = (tt, tt)

  across_one : (x : ℕ × V) (xs : List (ℕ × V)) → Apart x.0 xs → Across xs (x ∷ [])
  across_one x [] apart = tt
  across_one x (y ∷ ys) apart = ((flipped x.0 y.0 apart.0, tt), across_one x ys apart.1)

  apart_last : (key first : ℕ) (xs : List (ℕ × V)) → (key == first) ≡ false → Apart key xs → is_key key (last_key (Some first) xs) ≡ false
  apart_last key first [] here apart = here
  apart_last key first (x ∷ xs) here apart = apart_last key x.0 xs apart.0 apart.1

  apart_first : (key : ℕ) (xs : List (ℕ × V)) → Apart key xs → is_key key (first_key None xs) ≡ false
  apart_first key [] apart = refl
  apart_first key (x ∷ xs) apart = apart.0

  -- a key behind isn't the last of those in front
  last_apart : (key : ℕ) (xs : List (ℕ × V)) → AllByRecursion (λ (x : ℕ × V). (x.0 == key) ≡ false) xs → is_key key (last_key None xs) ≡ false
  last_apart key [] apart = refl
  last_apart key (x ∷ xs) apart = from x.0 xs (flipped x.0 key apart.0) apart.1
    where
      from : (first : ℕ) (xs : List (ℕ × V)) → (key == first) ≡ false → AllByRecursion (λ (x : ℕ × V). (x.0 == key) ≡ false) xs → is_key key (last_key (Some first) xs) ≡ false
      from first [] here apart = here
      from first (x ∷ xs) here apart = from x.0 xs (flipped x.0 key apart.0) apart.1

  -- ---- lists of linked entries ----

  first_key-append : (behind : Option ℕ) (xs ys : List (ℕ × V)) → first_key behind (xs ++ ys) ≡ first_key (first_key behind ys) xs
  first_key-append behind [] ys = refl
  first_key-append behind (x ∷ xs) ys = refl

  last_key-append : (before : Option ℕ) (xs ys : List (ℕ × V)) → last_key before (xs ++ ys) ≡ last_key (last_key before xs) ys
  last_key-append before [] ys = refl
  last_key-append before (x ∷ xs) ys = last_key-append (Some x.0) xs ys

  -- the link of an entry between these
  abbrev link_of : Option ℕ → ℕ × V → Option ℕ → Link V
  link_of before x after = record { value = x.1; before = before; after = after }

  linked_parts : (links : ℕ → Option (Link V)) (before : Option ℕ) (xs ys : List (ℕ × V)) (behind : Option ℕ) → AreLinked links before (xs ++ ys) behind → AreLinked links before xs (first_key behind ys) × AreLinked links (last_key before xs) ys behind
  linked_parts links before [] ys behind linked = (tt, linked)
  linked_parts links before (x ∷ xs) ys behind linked =
      let rest = linked_parts links (Some x.0) xs ys behind linked.1 in
      ((linked.0 ∙ ap (λ (o : Option ℕ). Some (link_of before x o)) (first_key-append behind xs ys), rest.0), rest.1)

  linked_join : (links : ℕ → Option (Link V)) (before : Option ℕ) (xs ys : List (ℕ × V)) (behind : Option ℕ) → AreLinked links before xs (first_key behind ys) → AreLinked links (last_key before xs) ys behind → AreLinked links before (xs ++ ys) behind
  linked_join links before [] ys behind front back = back
  linked_join links before (x ∷ xs) ys behind front back =
      (front.0 ∙ ap (λ (o : Option ℕ). Some (link_of before x o)) (sym (first_key-append behind xs ys)), linked_join links (Some x.0) xs ys behind front.1 back)

  linked_same : (links new : ℕ → Option (Link V)) (before : Option ℕ) (xs : List (ℕ × V)) (behind : Option ℕ) → AllByRecursion (λ (x : ℕ × V). new x.0 ≡ links x.0) xs → AreLinked links before xs behind → AreLinked new before xs behind
  linked_same links new before [] behind same linked = tt
  linked_same links new before (x ∷ xs) behind same linked = (same.0 ∙ linked.0, linked_same links new (Some x.0) xs behind same.1 linked.1)

  after_other : (links : ℕ → Option (Link V)) (at after : Option ℕ) (key : ℕ) → is_key key at ≡ false → after_at at after links key ≡ links key
  after_other links at after key other = ap (λ (b : Bool). cond b (option_map (with_after after) (links key)) (links key)) other

  before_other : (links : ℕ → Option (Link V)) (at before : Option ℕ) (key : ℕ) → is_key key at ≡ false → before_at at before links key ≡ links key
  before_other links at before key other = ap (λ (b : Bool). cond b (option_map (with_before before) (links key)) (links key)) other

  after_here : (links : ℕ → Option (Link V)) (after : Option ℕ) (key : ℕ) (link : Link V) → links key ≡ Some link → after_at (Some key) after links key ≡ Some (with_after after link)
  after_here links after key link is =
      ap (λ (b : Bool). cond b (option_map (with_after after) (links key)) (links key)) (eq-eqb key key refl) ∙ ap (option_map (with_after after)) is

  before_here : (links : ℕ → Option (Link V)) (before : Option ℕ) (key : ℕ) (link : Link V) → links key ≡ Some link → before_at (Some key) before links key ≡ Some (with_before before link)
  before_here links before key link is =
      ap (λ (b : Bool). cond b (option_map (with_before before) (links key)) (links key)) (eq-eqb key key refl) ∙ ap (option_map (with_before before)) is

  -- another one comes behind the last
  relinked_end : (links new : ℕ → Option (Link V)) (before : Option ℕ) (xs : List (ℕ × V)) (behind after : Option ℕ) → Distinct xs → AllByRecursion (λ (x : ℕ × V). new x.0 ≡ after_at (last_key None xs) after links x.0) xs → AreLinked links before xs behind → AreLinked new before xs after
  relinked_end links new before [] behind after distinct turned linked = tt
  relinked_end links new before (x ∷ []) behind after distinct turned linked = (turned.0 ∙ after_here links after x.0 (link_of before x behind) linked.0, tt)
  relinked_end links new before (x ∷ y ∷ xs) behind after distinct turned linked =
      let apart = distinct_head x (y ∷ xs) distinct in (
        turned.0 ∙ after_other links (last_key (Some y.0) xs) after x.0 (apart_last x.0 y.0 xs apart.0 apart.1) ∙ linked.0,
        relinked_end links new (Some x.0) (y ∷ xs) behind after (distinct_tail x (y ∷ xs) distinct) turned.1 linked.1,
      )

  -- another one comes before the first
  relinked_start : (links new : ℕ → Option (Link V)) (old before : Option ℕ) (xs : List (ℕ × V)) (behind : Option ℕ) → Distinct xs → AllByRecursion (λ (x : ℕ × V). new x.0 ≡ before_at (first_key None xs) before links x.0) xs → AreLinked links old xs behind → AreLinked new before xs behind
  relinked_start links new old before [] behind distinct turned linked = tt
  relinked_start links new old before (x ∷ xs) behind distinct turned linked = (
    turned.0 ∙ before_here links before x.0 (link_of old x (first_key behind xs)) linked.0,
    linked_same links new (Some x.0) xs behind (others xs (distinct_head x xs distinct) turned.1) linked.1,
  )
    where
      others : (ys : List (ℕ × V)) → Apart x.0 ys → AllByRecursion (λ (y : ℕ × V). new y.0 ≡ before_at (Some x.0) before links y.0) ys → AllByRecursion (λ (y : ℕ × V). new y.0 ≡ links y.0) ys
      others [] apart turned = tt
      others (y ∷ ys) apart turned = (turned.0 ∙ before_other links (Some x.0) before y.0 (flipped x.0 y.0 apart.0), others ys apart.1 turned.1)

  -- a key with no link is none of theirs
  fresh : (links : ℕ → Option (Link V)) (before : Option ℕ) (xs : List (ℕ × V)) (behind : Option ℕ) (key : ℕ) → links key ≡ None → AreLinked links before xs behind → Apart key xs
  fresh links before [] behind key none linked = tt
  fresh links before (x ∷ xs) behind key none linked =
      (ne_eqb key x.0 (λ same. clash (sym none ∙ ap links same ∙ linked.0)), fresh links (Some x.0) xs behind key none linked.1)
    where
      clash : {link : Link V} → None ≡ Some link → ⊥
      clash is = cc

  met : (links : ℕ → Option (Link V)) (count : ℕ) (before : Option ℕ) (xs : List (ℕ × V)) → AreLinked links before xs None → length xs ≤ count → met_from links count (first_key None xs) ≡ xs
  met links zero before [] linked within = refl
  met links zero before (x ∷ xs) linked within = absurd (omega arith)
  met links (suc count) before [] linked within = refl
  met links (suc count) before (x ∷ xs) linked within =
      ap (λ (o : Option (Link V)). elim o [ None ↦ [] | Some link ↦ (x.0, link.value) ∷ met_from links count link.after ]) linked.0
      ∙ ap (λ (rest : List (ℕ × V)). x ∷ rest) (met links count (Some x.0) xs linked.1 (omega arith))

  pub met_is : (links : ℕ → Option (Link V)) (count : ℕ) (first last : Option ℕ) (xs : List (ℕ × V)) → AreLinksOf links count first last xs → met_from links count first ≡ xs
  met_is links count first last xs of = ap (met_from links count) of.begins ∙ met links count None xs of.linked (omega (arith, of.counted))

  pub met_kept : (links : ℕ → Option (Link V)) (count : ℕ) (first last : Option ℕ) (xs : List (ℕ × V)) → AreLinksOf links count first last xs → AreLinksOf links count first last (met_from links count first)
  met_kept links count first last xs of = subst (AreLinksOf links count first last) (sym (met_is links count first last xs of)) of

  -- ---- where an entry stands ----

  record SplitAt (xs : List (ℕ × V)) (place : ℕ) : Type 0 where
    x : ℕ × V
    whole : xs ≡ take place xs ++ x ∷ drop (suc place) xs
    read : (d : ℕ × V) → get_or xs place d ≡ x

  split_at : (xs : List (ℕ × V)) (place : ℕ) → place < length xs → SplitAt xs place
  split_at [] place within = absurd (omega arith)
  split_at (x ∷ xs) zero within = record { x = x; whole = refl; read = λ d. refl }
  split_at (x ∷ xs) (suc place) within =
      let rest = split_at xs place (omega arith) in
      record { x = rest.x; whole = ap (λ (l : List (ℕ × V)). x ∷ l) rest.whole; read = rest.read }

  record LinkedAt (links : ℕ → Option (Link V)) (xs : List (ℕ × V)) (place : ℕ) (key : ℕ) : Type 0 where
    split : SplitAt xs place
    named : split.x.0 ≡ key
    link : links key ≡ Some (link_of (last_key None (take place xs)) split.x (first_key None (drop (suc place) xs)))

  linked_at : (links : ℕ → Option (Link V)) (count : ℕ) (first last : Option ℕ) (xs : List (ℕ × V)) (key place : ℕ) → AreLinksOf links count first last xs → KeyAt key xs place → LinkedAt links xs place key
  linked_at links count first last xs key place of at =
      let split = split_at xs place at.within in
      let named : split.x.0 ≡ key = ap (λ (e : ℕ × V). e.0) (sym (split.read split.x)) ∙ at.named split.x in
      let linked : AreLinked links None (take place xs ++ split.x ∷ drop (suc place) xs) None = subst (λ (l : List (ℕ × V)). AreLinked links None l None) split.whole of.linked in
      record {
        split = split;
        named = named;
        link = ap links (sym named) ∙ (linked_parts links None (take place xs) (split.x ∷ drop (suc place) xs) None linked).1.0;
      }

  -- ---- what each call leaves ----

  each : (P : ℕ → Type 0) (key : ℕ) → ((k : ℕ) → (key == k) ≡ false → P k) → (xs : List (ℕ × V)) → Apart key xs → AllByRecursion (λ (x : ℕ × V). P x.0) xs
  each P key other [] apart = tt
  each P key other (x ∷ xs) apart = (other x.0 apart.0, each P key other xs apart.1)

  apart_end : (key : ℕ) (xs : List (ℕ × V)) → Apart key xs → is_key key (last_key None xs) ≡ false
  apart_end key [] apart = refl
  apart_end key (x ∷ xs) apart = apart_last key x.0 xs apart.0 apart.1

  columns : (xs ys : List (ℕ × V)) → Across xs ys → AllByRecursion (λ (y : ℕ × V). AllByRecursion (λ (x : ℕ × V). (x.0 == y.0) ≡ false) xs) ys
  columns xs [] across = tt
  columns xs (y ∷ ys) across = (
    all_weaker (λ (x : ℕ × V). Apart x.0 (y ∷ ys)) (λ (x : ℕ × V). (x.0 == y.0) ≡ false) (λ x apart. apart.0) xs across,
    columns xs ys (all_weaker (λ (x : ℕ × V). Apart x.0 (y ∷ ys)) (λ (x : ℕ × V). Apart x.0 ys) (λ x apart. apart.1) xs across),
  )

  some_last : (key : ℕ) (xs : List (ℕ × V)) → is_none (last_key (Some key) xs) ≡ false
  some_last key [] = refl
  some_last key (x ∷ xs) = some_last x.0 xs

  begins_join : (xs ys zs : List (ℕ × V)) → cond (is_none (last_key None xs)) (first_key None ys) (first_key None (xs ++ zs)) ≡ first_key None (xs ++ ys)
  begins_join [] ys zs = refl
  begins_join (x ∷ xs) ys zs = ap (λ (b : Bool). cond b (first_key None ys) (Some x.0)) (some_last x.0 xs)

  ends_join : (xs ys : List (ℕ × V)) (x : ℕ × V) → cond (is_none (first_key None ys)) (last_key None xs) (last_key None (xs ++ x ∷ ys)) ≡ last_key None (xs ++ ys)
  ends_join xs [] x = sym (last_key-append None xs [])
  ends_join xs (y ∷ ys) x = last_key-append None xs (x ∷ y ∷ ys) ∙ sym (last_key-append None xs (y ∷ ys))

  pub pushed : (links mid new : ℕ → Option (Link V)) (count more : ℕ) (first last begin : Option ℕ) (xs : List (ℕ × V)) (key : ℕ) (value : V) → AreLinksOf links count first last xs → links key ≡ None → more ≡ count + 1 → begin ≡ cond (is_none last) (Some key) first
      → mid key ≡ Some (link_of last (key, value) None) → ((other : ℕ) → other ≢ key → mid other ≡ links other) → ((k : ℕ) → new k ≡ after_at last (Some key) mid k)
      → AreLinksOf new more begin (Some key) (xs ++ (key, value) ∷ [])
  pushed links mid new count more first last begin xs key value of none more_is begin_is here others turned = record {
    linked = linked_join new None xs ((key, value) ∷ []) None front (back, tt);
    begins = begin_is ∙ start;
    ends = sym (last_key-append None xs ((key, value) ∷ []));
    counted = omega (arith, more_is, length-append xs ((key, value) ∷ []), of.counted);
    distinct = distinct_join xs ((key, value) ∷ []) of.distinct (distinct_one (key, value)) (across_one (key, value) xs apart);
  }
    where
      apart : Apart key xs
      apart = fresh links None xs None key none of.linked

      turns : (k : ℕ) → (key == k) ≡ false → new k ≡ after_at (last_key None xs) (Some key) links k
      turns k other =
          turned k ∙ ap (λ (o : Option (Link V)). cond (is_key k last) (option_map (with_after (Some key)) o) o) (others k (differs key k other))
          ∙ ap (λ (o : Option ℕ). after_at o (Some key) links k) of.ends

      front : AreLinked new None xs (Some key)
      front = relinked_end links new None xs None (Some key) of.distinct (each (λ k. new k ≡ after_at (last_key None xs) (Some key) links k) key turns xs apart) of.linked

      back : new key ≡ Some (link_of (last_key None xs) (key, value) None)
      back =
          turned key ∙ after_other mid last (Some key) key (ap (is_key key) of.ends ∙ apart_end key xs apart) ∙ here
          ∙ ap (λ (o : Option ℕ). Some (link_of o (key, value) None)) of.ends

      start : cond (is_none last) (Some key) first ≡ first_key None (xs ++ (key, value) ∷ [])
      start =
          ap (λ (o : Option ℕ). cond (is_none o) (Some key) first) of.ends ∙ ap (λ (o : Option ℕ). cond (is_none (last_key None xs)) (Some key) o) (of.begins ∙ ap (first_key None) (sym (append-nil xs)))
          ∙ begins_join xs ((key, value) ∷ []) []

  module _ (links : ℕ → Option (Link V)) (count : ℕ) (first last : Option ℕ) (front back : List (ℕ × V)) (x : ℕ × V) (of : AreLinksOf links count first last (front ++ x ∷ back)) where
    linked_split : AreLinked links None front (Some x.0) × AreLinked links (last_key None front) (x ∷ back) None
    linked_split = linked_parts links None front (x ∷ back) None of.linked

    distinct_split : Parts front (x ∷ back)
    distinct_split = distinct_parts front (x ∷ back) of.distinct

    before_x : AllByRecursion (λ (f : ℕ × V). (f.0 == x.0) ≡ false) front
    before_x = all_weaker (λ (f : ℕ × V). Apart f.0 (x ∷ back)) (λ (f : ℕ × V). (f.0 == x.0) ≡ false) (λ f apart. apart.0) front distinct_split.across

    pub removed : (one two new : ℕ → Option (Link V)) (less : ℕ) (before after begin end : Option ℕ) → begin ≡ cond (is_none before) after first → end ≡ cond (is_none after) before last → before ≡ last_key None front → after ≡ first_key None back → less + 1 ≡ count
        → ((other : ℕ) → other ≢ x.0 → one other ≡ links other) → ((k : ℕ) → two k ≡ after_at before after one k) → ((k : ℕ) → new k ≡ before_at after before two k)
        → AreLinksOf new less begin end (front ++ back)
    removed one two new less before after begin end begin_is end_is before_is after_is fewer others turned_after turned_before = record {
      linked = linked_join new None front back None ahead behind;
      begins =
          begin_is ∙ ap (λ (o : Option ℕ). cond (is_none o) after first) before_is ∙ ap (λ (o : Option ℕ). cond (is_none (last_key None front)) o first) after_is
          ∙ ap (λ (o : Option ℕ). cond (is_none (last_key None front)) (first_key None back) o) of.begins ∙ begins_join front back (x ∷ back);
      ends =
          end_is ∙ ap (λ (o : Option ℕ). cond (is_none o) before last) after_is ∙ ap (λ (o : Option ℕ). cond (is_none (first_key None back)) o last) before_is
          ∙ ap (λ (o : Option ℕ). cond (is_none (first_key None back)) (last_key None front) o) of.ends ∙ ends_join front back x;
      counted = omega (arith, fewer, of.counted, length-append front (x ∷ back), length-append front back);
      distinct = distinct_join front back distinct_split.front (distinct_tail x back distinct_split.back) (all_weaker (λ (f : ℕ × V). Apart f.0 (x ∷ back)) (λ (f : ℕ × V). Apart f.0 back) (λ f apart. apart.1) front distinct_split.across);
    }
      where
        ahead_turns : (f : ℕ × V) → Apart f.0 (x ∷ back) → new f.0 ≡ after_at (last_key None front) (first_key None back) links f.0
        ahead_turns f apart =
            turned_before f.0 ∙ before_other two after before f.0 (ap (is_key f.0) after_is ∙ apart_first f.0 back apart.1) ∙ turned_after f.0
            ∙ ap (λ (o : Option (Link V)). cond (is_key f.0 before) (option_map (with_after after) o) o) (others f.0 (differs x.0 f.0 (flipped f.0 x.0 apart.0)))
            ∙ ap (λ (o : Option ℕ). after_at o after links f.0) before_is ∙ ap (λ (o : Option ℕ). after_at (last_key None front) o links f.0) after_is

        ahead : AreLinked new None front (first_key None back)
        ahead =
            relinked_end links new None front (Some x.0) (first_key None back) distinct_split.front
            (all_weaker (λ (f : ℕ × V). Apart f.0 (x ∷ back)) (λ (f : ℕ × V). new f.0 ≡ after_at (last_key None front) (first_key None back) links f.0) ahead_turns front distinct_split.across) linked_split.0

        behind_turns : (ys : List (ℕ × V)) → Apart x.0 ys → AllByRecursion (λ (y : ℕ × V). AllByRecursion (λ (f : ℕ × V). (f.0 == y.0) ≡ false) front) ys → AllByRecursion (λ (y : ℕ × V). new y.0 ≡ before_at (first_key None back) (last_key None front) links y.0) ys
        behind_turns [] apart column = tt
        behind_turns (y ∷ ys) apart column = (
          turned_before y.0
              ∙ ap (λ (o : Option (Link V)). cond (is_key y.0 after) (option_map (with_before before) o) o)
              (turned_after y.0 ∙ after_other one before after y.0 (ap (is_key y.0) before_is ∙ last_apart y.0 front column.0) ∙ others y.0 (differs x.0 y.0 apart.0))
              ∙ ap (λ (o : Option ℕ). before_at o before links y.0) after_is ∙ ap (λ (o : Option ℕ). before_at (first_key None back) o links y.0) before_is,
          behind_turns ys apart.1 column.1,
        )

        behind : AreLinked new (last_key None front) back None
        behind =
            relinked_start links new (Some x.0) (last_key None front) back None (distinct_tail x back distinct_split.back)
            (behind_turns back (distinct_head x back distinct_split.back) (columns front back (all_weaker (λ (f : ℕ × V). Apart f.0 (x ∷ back)) (λ (f : ℕ × V). Apart f.0 back) (λ f apart. apart.1) front distinct_split.across)))
            linked_split.1.1

    pub replaced : (new : ℕ → Option (Link V)) (same : ℕ) (value : V) → same ≡ count → new x.0 ≡ Some (link_of (last_key None front) (x.0, value) (first_key None back)) → ((other : ℕ) → other ≢ x.0 → new other ≡ links other)
        → AreLinksOf new same first last (front ++ (x.0, value) ∷ back)
    replaced new same value count_is here others = record {
      linked =
          linked_join new None front ((x.0, value) ∷ back) None
          (linked_same links new None front (Some x.0) (all_weaker (λ (f : ℕ × V). (f.0 == x.0) ≡ false) (λ (f : ℕ × V). new f.0 ≡ links f.0) (λ f apart. others f.0 (differs x.0 f.0 (flipped f.0 x.0 apart))) front before_x) linked_split.0)
          (here, linked_same links new (Some x.0) back None (each (λ k. new k ≡ links k) x.0 (λ k apart. others k (differs x.0 k apart)) back (distinct_head x back distinct_split.back)) linked_split.1.1);
      begins = of.begins ∙ first_key-append None front (x ∷ back) ∙ sym (first_key-append None front ((x.0, value) ∷ back));
      ends = of.ends ∙ last_key-append None front (x ∷ back) ∙ sym (last_key-append None front ((x.0, value) ∷ back));
      counted = omega (arith, count_is, of.counted, length-append front (x ∷ back), length-append front ((x.0, value) ∷ back));
      distinct = subst (λ (l : List ℕ). IsDistinct (λ j k. j == k) l) (same_keys front) of.distinct;
    }
      where
        same_keys : (xs : List (ℕ × V)) → keys (xs ++ x ∷ back) ≡ keys (xs ++ (x.0, value) ∷ back)
        same_keys [] = refl
        same_keys (y ∷ ys) = ap (λ (l : List ℕ). y.0 ∷ l) (same_keys ys)

  -- ---- the same, by the place of the key ----

  module _ (links : ℕ → Option (Link V)) (count : ℕ) (first last : Option ℕ) (xs : List (ℕ × V)) (key place : ℕ) (of : AreLinksOf links count first last xs) (at : KeyAt key xs place) where
    pub has_link : IsSome (links key)
    has_link = ap is_some (linked_at links count first last xs key place of at).link

    abbrev split_whole : LinkedAt links xs place key → Type 0
    split_whole here = AreLinksOf links count first last (take place xs ++ here.split.x ∷ drop (suc place) xs)

    as_split : (here : LinkedAt links xs place key) → split_whole here
    as_split here = subst (λ (l : List (ℕ × V)). AreLinksOf links count first last l) here.split.whole of

    pub value_at : (link : Link V) (d : ℕ × V) → links key ≡ Some link → link.value ≡ (get_or xs place d).1
    value_at link d is =
        let here = linked_at links count first last xs key place of at in
        let same : link ≡ link_of (last_key None (take place xs)) here.split.x (first_key None (drop (suc place) xs)) = some_same (sym is ∙ here.link) in
        ap (λ (l : Link V). l.value) same ∙ ap (λ (e : ℕ × V). e.1) (sym (here.split.read d))

    after_at_place : (link : Link V) → links key ≡ Some link → link.after ≡ first_key None (drop (suc place) xs)
    after_at_place link is =
        let here = linked_at links count first last xs key place of at in
        ap (λ (l : Link V). l.after) (some_same (sym is ∙ here.link))

    before_at_place : (link : Link V) → links key ≡ Some link → link.before ≡ last_key None (take place xs)
    before_at_place link is =
        let here = linked_at links count first last xs key place of at in
        ap (λ (l : Link V). l.before) (some_same (sym is ∙ here.link))

    pub after_value : (link : Link V) → links key ≡ Some link → link.after ≡ first_key None (drop (place + 1) xs)
    after_value link is = let next : suc place ≡ place + 1 = omega arith in after_at_place link is ∙ ap (λ (n : ℕ). first_key None (drop n xs)) next

    pub removed_at : (one two new : ℕ → Option (Link V)) (less : ℕ) (link : Link V) (begin end : Option ℕ) → links key ≡ Some link → begin ≡ cond (is_none link.before) link.after first → end ≡ cond (is_none link.after) link.before last → less + 1 ≡ count
        → ((other : ℕ) → other ≢ key → one other ≡ links other) → ((k : ℕ) → two k ≡ after_at link.before link.after one k) → ((k : ℕ) → new k ≡ before_at link.after link.before two k)
        → AreLinksOf new less begin end (remove xs place)
    removed_at one two new less link begin end is begin_is end_is fewer others turned_after turned_before =
        let here = linked_at links count first last xs key place of at in
        removed links count first last (take place xs) (drop (suc place) xs) here.split.x (as_split here) one two new less link.before link.after begin end begin_is end_is
        (before_at_place link is) (after_at_place link is) fewer (λ other apart. others other (λ same. apart (same ∙ sym here.named))) turned_after turned_before

    pub replaced_at : (new : ℕ → Option (Link V)) (same : ℕ) (value : V) → same ≡ count → new key ≡ option_map (with_value value) (links key) → ((other : ℕ) → other ≢ key → new other ≡ links other)
        → AreLinksOf new same first last (set xs place (key, value))
    replaced_at new same value same_is here others =
        let at_place = linked_at links count first last xs key place of at in
        let turned : new at_place.split.x.0 ≡ Some (link_of (last_key None (take place xs)) (at_place.split.x.0, value) (first_key None (drop (suc place) xs))) = ap new at_place.named ∙ here ∙ ap (option_map (with_value value)) at_place.link in
        subst (λ (l : List (ℕ × V)). AreLinksOf new same first last l)
        (ap (λ (k : ℕ). take place xs ++ (k, value) ∷ drop (suc place) xs) at_place.named ∙ sym (set_split xs place (key, value) at.within))
        (replaced links count first last (take place xs) (drop (suc place) xs) at_place.split.x (as_split at_place) new same value same_is turned (λ other apart. others other (λ is. apart (is ∙ sym at_place.named))))

  pub none_linked : (links : ℕ → Option (Link V)) (count : ℕ) → count ≡ 0 → AreLinksOf links count None None []
  unfolding IsDistinct
  none_linked links count none = record { linked = tt; begins = refl; ends = refl; counted = sym none; distinct = tt }
