-- What a core that stands for some events shows. Lists of events have the newest first.
use Rattle.std.proofs.Common.{◌≡◌, ℕ, zero, suc, ◌+◌, Bool, true, false, ◌||◌, ◌==◌, nat_lt, List, [], ◌∷◌, ◌++◌, length, drop, slice_get, cond, Option, Some, None, refl, sym, ◌∙◌, ap, arith, drop_at}
use Rattle.std.specs.Option.{option_map}
use Rattle.std.specs.List.{AllByRecursion, position, position_from}
use Rattle.std.proofs.lemmas.Bool.{or_right}
use Rattle.std.proofs.lemmas.Bool.Decides.{nat_tests}
use Rattle.std.proofs.lemmas.Option.{same_Some}
use Rattle.std.proofs.lemmas.Iterator.Adapters.{position_from-zero}
use Rattle.proxy_history.specs.Connections.{contains}
use Rattle.many_history.specs.Events.{ManyEvent}
use Rattle.many_serving.specs.Proxy.{ManyProxy}
use Rattle.many_serving.specs.Ends.{emptied_at}
use Rattle.serving_loop.specs.Face.{ManyFace, first_waiting}
use Rattle.serving_loop.specs.Cores.{Stands}
use Rattle.serving_loop.specs.Server.{emptied_after}

-- ---- who is there ----

pub contains-middle : (done : List ℕ) (c : ℕ) (later : List ℕ) → contains c (done ++ c ∷ later) ≡ true
contains-middle [] c later = let same : (c == c) ≡ true = grind (arith, nat_tests) in ap (λ (b : Bool). b || contains c later) same
contains-middle (d ∷ done) c later = let more = contains-middle done c later in ap (λ (b : Bool). (c == d) || b) more ∙ or_right (c == d) true refl

pub slice_get-at : (done todo : List ℕ) (c : ℕ) → slice_get (done ++ todo) (length done) ≡ Some c → (later : List ℕ) × (todo ≡ c ∷ later)
slice_get-at [] [] c is = absurd (cc)
slice_get-at [] (x ∷ later) c is = (later, (cc))
slice_get-at (d ∷ done) todo c is = slice_get-at done todo c is

pub contains-at : (names : List ℕ) (place c : ℕ) → slice_get names place ≡ Some c → contains c names ≡ true
contains-at [] place c is = absurd (cc)
contains-at (d ∷ names) zero c is = let same : c ≡ d = sym (same_Some d c is) in let test : (c == d) ≡ true = grind (arith, nat_tests) in ap (λ (b : Bool). b || contains c names) test
contains-at (d ∷ names) (suc place) c is = ap (λ (b : Bool). (c == d) || b) (contains-at names place c is) ∙ or_right (c == d) true refl

-- when the last connection went
pub emptied_is : {C : Type 0} {keeps : ManyProxy → List ManyEvent → C → Type 0} {face : C → ManyFace} {p : ManyProxy} {past : List ManyEvent} {old new : C} (event : ManyEvent) (emptied : ℕ) → Stands keeps face p past old → Stands keeps face p (event ∷ past) new → emptied ≡ emptied_at p past
    → emptied_after (face old) emptied (face new) ≡ emptied_at p (event ∷ past)
unfolding emptied_at
emptied_is event emptied before after is =
    let many = ap length before.shows.present in
    let time = after.shows.time in
    rw (many, time, is) refl

-- ---- for whom bytes wait ----

empty_of : (bytes : List ℕ) → nat_lt 0 (length bytes) ≡ false → bytes ≡ []
empty_of [] is = refl
empty_of (b ∷ bytes) is = absurd (grind (arith, nat_tests))

abbrev waits_in : (ℕ → List ℕ) → ℕ → Bool
waits_in waiting c = nat_lt 0 (length (waiting c))

-- the names up to the first for which bytes wait, that one, and those behind it
pub record Skips (waiting : ℕ → List ℕ) (names : List ℕ) (from at : ℕ) : Type 0 where
  pub front : List ℕ
  pub conn : ℕ
  pub later : List ℕ
  pub whole : names ≡ front ++ conn ∷ later
  pub counted : at ≡ from + length front
  pub empty : AllByRecursion (λ d. waiting d ≡ []) front

skips_from : (waiting : ℕ → List ℕ) (names : List ℕ) (from at : ℕ) → position_from (waits_in waiting) from names ≡ Some at → Skips waiting names from at
skips_from waiting [] from at is = absurd (cc)
skips_from waiting (d ∷ names) from at is =
    let step : (b : Bool) → waits_in waiting d ≡ b → cond b (Some from) (position_from (waits_in waiting) (from + 1) names) ≡ Some at → Skips waiting (d ∷ names) from at =
    λ b. elim b as (λ b. waits_in waiting d ≡ b → cond b (Some from) (position_from (waits_in waiting) (from + 1) names) ≡ Some at → Skips waiting (d ∷ names) from at) [
      | true ↦ λ waits here. record { front = []; conn = d; later = names; whole = refl; counted = sym (same_Some from at here) ∙ omega arith; empty = tt }
      | false ↦ λ none further.
          let rest = skips_from waiting names (from + 1) at further in
          record {
            front = d ∷ rest.front;
            conn = rest.conn;
            later = rest.later;
            whole = ap (λ (l : List ℕ). d ∷ l) rest.whole;
            counted = omega (arith, rest.counted);
            empty = (empty_of (waiting d) none, rest.empty);
          }
    ]
    in step (waits_in waiting d) refl is

none_from : (waiting : ℕ → List ℕ) (names : List ℕ) (from : ℕ) → position_from (waits_in waiting) from names ≡ None → AllByRecursion (λ d. waiting d ≡ []) names
none_from waiting [] from is = tt
none_from waiting (d ∷ names) from is =
    let step : (b : Bool) → waits_in waiting d ≡ b → cond b (Some from) (position_from (waits_in waiting) (from + 1) names) ≡ None → AllByRecursion (λ d. waiting d ≡ []) (d ∷ names) =
    λ b. elim b as (λ b. waits_in waiting d ≡ b → cond b (Some from) (position_from (waits_in waiting) (from + 1) names) ≡ None → AllByRecursion (λ d. waiting d ≡ []) (d ∷ names)) [
      | true ↦ λ waits here. absurd (cc)
      | false ↦ λ none further. (empty_of (waiting d) none, none_from waiting names (from + 1) further)
    ]
    in step (waits_in waiting d) refl is

mapped_some : (from at : ℕ) (o : Option ℕ) → option_map (λ n. from + n) o ≡ Some at → (n : ℕ) × (o ≡ Some n) × (at ≡ from + n)
mapped_some from at None is = absurd (cc)
mapped_some from at (Some n) is = (n, refl, sym (same_Some (from + n) at is))

mapped_none : (from : ℕ) (o : Option ℕ) → option_map (λ n. from + n) o ≡ None → o ≡ None
mapped_none from None is = refl
mapped_none from (Some n) is = absurd (cc)

module _ (p : ManyProxy) (past : List ManyEvent) (done todo : List ℕ) (whole : p.present past ≡ done ++ todo) where
  abbrev waiting : ℕ → List ℕ
  waiting c = p.waiting c past

  todo_is : drop (length done) (p.present past) ≡ todo
  todo_is = ap (drop (length done)) whole ∙ drop_at done todo (length done) refl

  -- the first of the others for which bytes wait
  pub first_is : (at : ℕ) → first_waiting p past (length done) ≡ Some at
      → (front : List ℕ) × (conn : ℕ) × (later : List ℕ) × (todo ≡ front ++ conn ∷ later) × (at ≡ length done + length front) × AllByRecursion (λ d. p.waiting d past ≡ []) front
  first_is at is =
      let found = mapped_some (length done) at (position (waits_in waiting) (drop (length done) (p.present past))) is in
      let first = skips_from waiting todo 0 found.0 (sym (position_from-zero (waits_in waiting) todo) ∙ ap (position (waits_in waiting)) (sym todo_is) ∙ found.1) in
      (first.front, first.conn, first.later, first.whole, omega (arith, found.2, first.counted), first.empty)

  -- no bytes wait for any of the others
  pub none_is : first_waiting p past (length done) ≡ None → AllByRecursion (λ d. p.waiting d past ≡ []) todo
  none_is is =
      none_from waiting todo 0
      (sym (position_from-zero (waits_in waiting) todo) ∙ ap (position (waits_in waiting)) (sym todo_is) ∙ mapped_none (length done) (position (waits_in waiting) (drop (length done) (p.present past))) is)
