-- Changes of the connection of a name, and connections that are made of names.
use Rattle.std.proofs.Common.{◌≡◌, ℕ, Bool, true, false, not, cond, ◌||◌, ◌==◌, List, [], ◌∷◌, map, Some, None, refl, ap, sym, ◌∙◌, subst, if◌then◌else◌}
use Rattle.std.specs.List.{AllByRecursion, IsDistinct}
use Rattle.std.proofs.lemmas.Bool.{eqb-true}
use Rattle.connections.specs.Table.{Connection, connection_in, changed}
use Rattle.connections.specs.Table as tables
use Rattle.proxy_history.specs.Connections.{contains, without}

module _ {T : Type 0} (c : ℕ) where
  -- changes that agree on the connection of the name
  pub changed_found : (f g : Connection T → Connection T) (present : List (Connection T)) (k : Connection T) → connection_in c present ≡ Some k → f k ≡ g k → changed c f present ≡ changed c g present
  unfolding changed
  changed_found f g [] k found same = refl
  changed_found f g (l ∷ present) k found same =
      let step : (b : Bool) → cond b (Some l) (connection_in c present) ≡ Some k → (if b then f l ∷ present else l ∷ changed c f present) ≡ (if b then g l ∷ present else l ∷ changed c g present) =
      λ b. elim b as (λ b. cond b (Some l) (connection_in c present) ≡ Some k → (if b then f l ∷ present else l ∷ changed c f present) ≡ (if b then g l ∷ present else l ∷ changed c g present)) [
        | true ↦ λ found. let it : l ≡ k = cc in ap (λ (u : Connection T). u ∷ present) (ap f it ∙ same ∙ ap g (sym it))
        | false ↦ λ found. ap (λ (ls : List (Connection T)). l ∷ ls) (changed_found f g present k found same)
      ]
      in step (c == l.name) found

  pub changed_same : (present : List (Connection T)) → changed c (λ l. l) present ≡ present
  unfolding changed
  changed_same [] = refl
  changed_same (l ∷ present) =
      elim (c == l.name) as (λ b. (if b then l ∷ present else l ∷ changed c (λ l. l) present) ≡ l ∷ present) [ true ↦ refl | false ↦ ap (λ (ls : List (Connection T)). l ∷ ls) (changed_same present) ]

  module _ (f : Connection T → Connection T) (keeps : (l : Connection T) → (f l).name ≡ l.name) where
    pub changed_twice : (g : Connection T → Connection T) (present : List (Connection T)) → changed c g (changed c f present) ≡ changed c (λ l. g (f l)) present
    unfolding changed
    changed_twice g [] = refl
    changed_twice g (l ∷ present) =
        let step : (b : Bool) → (c == l.name) ≡ b → changed c g (if b then f l ∷ present else l ∷ changed c f present) ≡ (if b then g (f l) ∷ present else l ∷ changed c (λ l. g (f l)) present) =
        λ b. elim b as (λ b. (c == l.name) ≡ b → changed c g (if b then f l ∷ present else l ∷ changed c f present) ≡ (if b then g (f l) ∷ present else l ∷ changed c (λ l. g (f l)) present)) [
          | true ↦ λ e. let named : (c == (f l).name) ≡ true = ap (λ (n : ℕ). c == n) (keeps l) ∙ e in rw named refl
          | false ↦ λ e. rw e (ap (λ (ls : List (Connection T)). l ∷ ls) (changed_twice g present))
        ]
        in step (c == l.name) refl

    pub without_changed : (present : List (Connection T)) → tables.without c (changed c f present) ≡ tables.without c present
    unfolding changed tables.without
    without_changed [] = refl
    without_changed (l ∷ present) =
        let step : (b : Bool) → (c == l.name) ≡ b → tables.without c (if b then f l ∷ present else l ∷ changed c f present) ≡ (if b then present else l ∷ tables.without c present) =
        λ b. elim b as (λ b. (c == l.name) ≡ b → tables.without c (if b then f l ∷ present else l ∷ changed c f present) ≡ (if b then present else l ∷ tables.without c present)) [
          | true ↦ λ e. let named : (c == (f l).name) ≡ true = ap (λ (n : ℕ). c == n) (keeps l) ∙ e in rw named refl
          | false ↦ λ e. rw e (ap (λ (ls : List (Connection T)). l ∷ ls) (without_changed present))
        ]
        in step (c == l.name) refl

-- ---- connections made of names ----

module _ {T : Type 0} (make : ℕ → Connection T) (named : (d : ℕ) → (make d).name ≡ d) (c : ℕ) where
  pub found_made : (xs : List ℕ) → connection_in c (map make xs) ≡ cond (contains c xs) (Some (make c)) None
  found_made [] = refl
  found_made (x ∷ xs) =
      let Found : Bool → Type 0 = λ (b : Bool). cond b (Some (make x)) (connection_in c (map make xs)) ≡ cond (b || contains c xs) (Some (make c)) None in
      let step : (b : Bool) → (c == x) ≡ b → Found b =
      λ b. elim b as (λ b. (c == x) ≡ b → Found b) [
        | true ↦ λ e. ap (λ (y : ℕ). Some (make y)) (sym (eqb-true c x e))
        | false ↦ λ e. found_made xs
      ]
      in ap (λ (n : ℕ). cond (c == n) (Some (make x)) (connection_in c (map make xs))) (named x) ∙ step (c == x) refl

  -- others are made as before
  module _ (other : ℕ → Connection T) (same : (d : ℕ) → (c == d) ≡ false → other d ≡ make d) where
    behind : (x : ℕ) → c ≡ x → (ys : List ℕ) → AllByRecursion (λ y. (x == y) ≡ false) ys → (map make ys ≡ map other ys) × (map make ys ≡ map other (without c ys))
    behind x is [] all = (refl, refl)
    behind x is (y ∷ ys) all =
        let differs : (c == y) ≡ false = ap (λ (n : ℕ). n == y) is ∙ all.0 in
        let rest = behind x is ys all.1 in
        let head : make y ≡ other y = sym (same y differs) in (
          ap (λ (l : Connection T). l ∷ map make ys) head ∙ ap (λ (l : List (Connection T)). other y ∷ l) rest.0,
          ap (λ (l : Connection T). l ∷ map make ys) head ∙ ap (λ (l : List (Connection T)). other y ∷ l) rest.1
              ∙ sym (ap (λ (b : Bool). map other (cond (not b) (y ∷ without c ys) (without c ys))) differs),
        )

    pub changed_made : (f : Connection T → Connection T) → other c ≡ f (make c) → (xs : List ℕ) → IsDistinct (λ x y. x == y) xs → changed c f (map make xs) ≡ map other xs
    unfolding changed IsDistinct
    changed_made f own [] h = refl
    changed_made f own (x ∷ xs) h =
        let Changed : Bool → Type 0 = λ (b : Bool). (if b then f (make x) ∷ map make xs else make x ∷ changed c f (map make xs)) ≡ other x ∷ map other xs in
        let step : (b : Bool) → (c == x) ≡ b → Changed b =
        λ b. elim b as (λ b. (c == x) ≡ b → Changed b) [
          | true ↦ λ e.
              let is : c ≡ x = eqb-true c x e in
              ap (λ (l : Connection T). l ∷ map make xs) (subst (λ (y : ℕ). f (make y) ≡ other y) is (sym own)) ∙ ap (λ (l : List (Connection T)). other x ∷ l) (behind x is xs h.0).0
          | false ↦ λ e. ap (λ (l : Connection T). l ∷ changed c f (map make xs)) (sym (same x e)) ∙ ap (λ (l : List (Connection T)). other x ∷ l) (changed_made f own xs h.1)
        ]
        in ap (λ (n : ℕ). if c == n then f (make x) ∷ map make xs else make x ∷ changed c f (map make xs)) (named x) ∙ step (c == x) refl

    pub without_made : (xs : List ℕ) → IsDistinct (λ x y. x == y) xs → tables.without c (map make xs) ≡ map other (without c xs)
    unfolding tables.without IsDistinct
    without_made [] h = refl
    without_made (x ∷ xs) h =
        let Left : Bool → Type 0 = λ (b : Bool). (if b then map make xs else make x ∷ tables.without c (map make xs)) ≡ map other (cond (not b) (x ∷ without c xs) (without c xs)) in
        let step : (b : Bool) → (c == x) ≡ b → Left b =
        λ b. elim b as (λ b. (c == x) ≡ b → Left b) [
          | true ↦ λ e. (behind x (eqb-true c x e) xs h.0).1
          | false ↦ λ e. ap (λ (l : Connection T). l ∷ tables.without c (map make xs)) (sym (same x e)) ∙ ap (λ (l : List (Connection T)). other x ∷ l) (without_made xs h.1)
        ]
        in ap (λ (n : ℕ). if c == n then map make xs else make x ∷ tables.without c (map make xs)) (named x) ∙ step (c == x) refl

-- the changed one is found
pub found_changed : {T : Type 0} (c : ℕ) (f : Connection T → Connection T) → ((l : Connection T) → (f l).name ≡ l.name) → (present : List (Connection T)) (k : Connection T) → connection_in c present ≡ Some k → connection_in c (changed c f present) ≡ Some (f k)
unfolding changed
found_changed c f keeps [] k found = absurd (cc)
found_changed {T} c f keeps (l ∷ present) k found =
    let step : (b : Bool) → (c == l.name) ≡ b → cond b (Some l) (connection_in c present) ≡ Some k → connection_in c (if b then f l ∷ present else l ∷ changed c f present) ≡ Some (f k) =
    λ b. elim b as (λ b. (c == l.name) ≡ b → cond b (Some l) (connection_in c present) ≡ Some k → connection_in c (if b then f l ∷ present else l ∷ changed c f present) ≡ Some (f k)) [
      | true ↦ λ e is. let it : l ≡ k = cc in let named : (c == (f l).name) ≡ true = ap (λ (n : ℕ). c == n) (keeps l) ∙ e in rw named (ap (λ (u : Connection T). Some (f u)) it)
      | false ↦ λ e is. rw e (found_changed c f keeps present k is)
    ]
    in step (c == l.name) refl found
