-- Bytes for those who are chosen go from connection to connection.
use Rattle.std.proofs.Common.{◌≡◌, ℕ, zero, suc, ◌+◌, ◌<◌, ◌≤◌, Bool, true, false, cond, List, [], ◌∷◌, length, drop, filter, refl, ap, sym, ◌∙◌, subst, arith, Option, if◌then◌else◌}
use Rattle.std.specs.List.{AllByRecursion}
use Rattle.kit_bytes.specs.Sorted.{IsInOrder}
use Rattle.connections.specs.Table.{Connection, AreRising, connection_in, finds_room}
use Rattle.proxy_state.specs.State.{State}
use Rattle.proxy_state.specs.Telling.{told, tell_if, tell_to, tell, tell_each}
use Rattle.proxy_state.specs.Chosen.{StandsAt, names_in, chosen, tell_from}
use Rattle.proxy_state.proofs.Places.{found, drop_updated, drop_removed, length_removed, length_updated}

-- ---- lists from a place on ----

pub drop_here : {T : Type 0} (present : List (Connection T)) (i : ℕ) (s : Connection T) → i < length present → StandsAt s present i → drop i present ≡ s ∷ drop (suc i) present
drop_here {T} [] i s within at = absurd (omega arith)
drop_here {T} (t ∷ present) zero s within at = ap (λ (u : Connection T). u ∷ present) (sym at)
drop_here {T} (t ∷ present) (suc i) s within at = drop_here present i s (omega arith) at

later_names : {T : Type 0} (present : List (Connection T)) (i : ℕ) (s : Connection T) → AreRising present → i < length present → StandsAt s present i → AllByRecursion (λ (t : Connection T). s.name < t.name) (drop (suc i) present)
unfolding IsInOrder
later_names {T} [] i s rising within at = absurd (omega arith)
later_names {T} (t ∷ present) zero s rising within at = subst (λ (u : Connection T). AllByRecursion (λ (v : Connection T). u.name < v.name) present) (sym at) rising.0
later_names {T} (t ∷ present) (suc i) s rising within at = later_names present i s rising.1 (omega arith) at

drop_all : {T : Type 0} (present : List (Connection T)) (i : ℕ) → length present ≤ i → drop i present ≡ []
drop_all [] zero past = refl
drop_all [] (suc i) past = refl
drop_all (t ∷ present) zero past = absurd (omega arith)
drop_all (t ∷ present) (suc i) past = drop_all present i (omega arith)

-- whoever is given up, those behind it are chosen as before
module _ {T S : Type 0} (give_up : ℕ → S → S) (text : T → List ℕ) (change : T → T) (is_chosen : S → Connection T → Bool) (still : (c : ℕ) (beside : S) (k : Connection T) → c < k.name → is_chosen (give_up c beside) k ≡ is_chosen beside k) where
  chosen_still : (c : ℕ) (beside : S) (present : List (Connection T)) → AllByRecursion (λ (k : Connection T). c < k.name) present → chosen is_chosen (give_up c beside) present ≡ chosen is_chosen beside present
  chosen_still c beside [] later = refl
  chosen_still c beside (k ∷ present) later =
      let rest = chosen_still c beside present later.1 in
      ap (λ (b : Bool). names_in (cond b (k ∷ filter (is_chosen (give_up c beside)) present) (filter (is_chosen (give_up c beside)) present))) (still c beside k later.0)
      ∙ elim (is_chosen beside k) as (λ b. names_in (cond b (k ∷ filter (is_chosen (give_up c beside)) present) (filter (is_chosen (give_up c beside)) present)) ≡ names_in (cond b (k ∷ filter (is_chosen beside) present) (filter (is_chosen beside) present))) [
        | true ↦ ap (λ (l : List ℕ). k.name ∷ l) rest
        | false ↦ rest
      ]

  abbrev from : ℕ → State T S → State T S
  from i x = tell_from give_up text change is_chosen i x

  abbrev each : List ℕ → State T S → State T S
  each cs x = tell_each give_up text change cs x

  pub tell_from_first : (x : State T S) → from 0 x ≡ each (chosen is_chosen x.beside x.table.present) x
  unfolding tell_from
  tell_from_first x = refl

  pub tell_from_end : (i : ℕ) (x : State T S) → length x.table.present ≤ i → from i x ≡ x
  unfolding tell_from tell_each
  tell_from_end i x past = ap (λ (l : List (Connection T)). each (chosen is_chosen x.beside l) x) (drop_all x.table.present i past)

  module _ (i : ℕ) (x : State T S) (s : Connection T) (inside : i < length x.table.present) (at : StandsAt s x.table.present i) where
    abbrev rest : List ℕ
    rest = chosen is_chosen x.beside (drop (suc i) x.table.present)

    here_is : (b : Bool) → is_chosen x.beside s ≡ b → chosen is_chosen x.beside (drop i x.table.present) ≡ (if b then s.name ∷ rest else rest)
    here_is b is =
        let behind : List (Connection T) = filter (is_chosen x.beside) (drop (suc i) x.table.present) in
        ap (chosen is_chosen x.beside) (drop_here x.table.present i s inside at)
        ∙ ap (λ (b : Bool). names_in (cond b (s ∷ behind) behind)) is
        ∙ elim b as (λ b. names_in (cond b (s ∷ behind) behind) ≡ (if b then s.name ∷ rest else rest)) [ true ↦ refl | false ↦ refl ]

    next_place : i + 1 ≡ suc i
    next_place = omega arith

    -- ---- a turn of the loop ----

    -- it is for another
    pub turn_by : is_chosen x.beside s ≡ false → from (i + 1) x ≡ from i x
    unfolding tell_from
    turn_by is = ap (λ (n : ℕ). from n x) next_place ∙ sym (ap (λ (cs : List ℕ). each cs x) (here_is false is))

    module _ (rising : AreRising x.table.present) (is : is_chosen x.beside s ≡ true) (new : State T S) (made : new ≡ tell give_up text change s.name x) where
      abbrev told_as : Bool → State T S
      told_as fits = tell_if give_up text change fits s.name s x

      told_is : (fits : Bool) → fits ≡ finds_room (text s.client) (connection_in s.name x.table.present) → new ≡ told_as fits
      told_is fits room =
          let it = found s x.table.present i rising inside at in
          made ∙ ap (λ (o : Option (Connection T)). tell_to give_up text change o s.name x) it ∙ ap told_as (sym (room ∙ ap (finds_room (text s.client)) it))

      told_first : each rest new ≡ from i x
      unfolding tell_from tell_each
      told_first = ap (each rest) made ∙ sym (ap (λ (cs : List ℕ). each cs x) (here_is true is))

      -- it gets the bytes
      pub turn_on : true ≡ finds_room (text s.client) (connection_in s.name x.table.present) → (from (i + 1) new ≡ from i x) × (length new.table.present + i < length x.table.present + (i + 1))
      unfolding tell_from
      turn_on stays =
          let one : new ≡ told_as true = told_is true stays in
          let same : length new.table.present ≡ length x.table.present = ap (λ (y : State T S). length y.table.present) one ∙ length_updated s.name (told give_up text change) x.table.present in (
            ap (λ (n : ℕ). from n new) next_place ∙ ap (from (suc i)) one
                ∙ ap (λ (l : List (Connection T)). each (chosen is_chosen x.beside l) (told_as true)) (drop_updated s (told give_up text change) x.table.present i rising inside at)
                ∙ ap (each rest) (sym one) ∙ told_first,
            omega arith,
          )

      -- or it is dropped: what is left behind this place is less
      pub turn_off : false ≡ finds_room (text s.client) (connection_in s.name x.table.present) → (from i new ≡ from i x) × (length new.table.present + i < length x.table.present + i)
      unfolding tell_from
      turn_off goes =
          let one : new ≡ told_as false = told_is false goes in
          let fewer : length new.table.present + 1 ≡ length x.table.present = ap (λ (y : State T S). length y.table.present + 1) one ∙ length_removed s x.table.present i rising inside at in (
            ap (from i) one
                ∙ ap (λ (l : List (Connection T)). each (chosen is_chosen (give_up s.name x.beside) l) (told_as false)) (drop_removed s x.table.present i rising inside at)
                ∙ ap (λ (l : List ℕ). each l (told_as false)) (chosen_still s.name x.beside (drop (suc i) x.table.present) (later_names x.table.present i s rising inside at))
                ∙ ap (each rest) (sym one) ∙ told_first,
            omega arith,
          )
