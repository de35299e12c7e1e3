-- Messages that are held arrive: one of them, or all.
use Rattle.std.proofs.Common.{◌≡◌, ℕ, zero, suc, ◌+◌, ◌≤◌, false, List, [], ◌∷◌, ◌++◌, length, reverse, refl, ap, sym, ◌∙◌, arith, subst, append-nil, length-append}
use Rattle.std.proofs.lemmas.List.{reverse-append, reverse-reverse}
use Rattle.rig_runs.specs.Stage.{Stage, arrive, arrive_first, arrive_last, longest_arrives, shortest_arrives, arrive_each, all_arrive}
use Rattle.rig_runs.specs.Mbim.{cast}
use Rattle.rig_laws.proofs.Lists.{is_empty}
use Rattle.rig_laws_mbim.proofs.Calm.{ready}
use Rattle.rig_laws_mbim.proofs.Stage.{Stands, HasMet, arrives}

-- all but the first
abbrev pub others : List (List ℕ) → List (List ℕ)
others [] = []
others (m ∷ held) = held

turned : (stage_held held : List (List ℕ)) (m : List ℕ) → reverse stage_held ≡ m ∷ held → stage_held ≡ reverse held ++ m ∷ []
turned stage_held held m is = sym (reverse-reverse stage_held) ∙ ap reverse is ∙ reverse-append (m ∷ []) held

module _ (clients joined configured opened : ℕ) (within : joined ≤ clients) where
  abbrev Standing : Stage → Type 0
  Standing stage = Stands clients (ready joined configured opened) stage

  -- what is held then
  pub record IsFewer (count : ℕ) (after : Stage) : Type 0 where
    pub stands : Standing after
    pub fewer : length after.held ≤ count

  pub longest_is_heard : (stage : Stage) → Standing stage → HasMet clients (ready joined configured opened) (length (others stage.held)) (longest_arrives (cast clients) stage)
  longest_is_heard stage stands = by stage.held refl
    where
      by : (held : List (List ℕ)) → stage.held ≡ held → HasMet clients (ready joined configured opened) (length (others held)) (arrive_first (cast clients) held stage)
      by [] e = record { stands = stands; held = ap length e }
      by (m ∷ held) e = arrives clients joined configured opened [] m held stage stands within e

  pub shortest_is_heard : (stage : Stage) → Standing stage → IsFewer (length stage.held) (shortest_arrives (cast clients) stage)
  shortest_is_heard stage stands = by (reverse stage.held) refl
    where
      by : (held : List (List ℕ)) → reverse stage.held ≡ held → IsFewer (length stage.held) (arrive_last (cast clients) held stage)
      by [] e = record { stands = stands; fewer = omega arith }
      by (m ∷ held) e =
          let is : stage.held ≡ reverse held ++ m ∷ [] = turned stage.held held m e in
          let met = arrives clients joined configured opened (reverse held) m [] stage stands within is in
          let same : HasMet clients (ready joined configured opened) (length (reverse held)) (arrive (cast clients) m (record stage { held = reverse held })) =
          subst (λ (l : List (List ℕ)). HasMet clients (ready joined configured opened) (length l) (arrive (cast clients) m (record stage { held = l }))) (append-nil (reverse held)) met in
          let all : length stage.held ≡ length (reverse held) + 1 = ap length is ∙ length-append (reverse held) (m ∷ []) in
          let left = same.held in
          record { stands = same.stands; fewer = omega (arith, all, left) }

  fewer_held : (n : ℕ) (held : List (List ℕ)) → length held ≡ suc n → length (others held) ≡ n
  fewer_held n [] is = absurd (omega (arith, is))
  fewer_held n (m ∷ held) is = omega (arith, is)

  each_arrives : (messages : List (List ℕ)) (stage : Stage) → Standing stage → length stage.held ≡ length messages → HasMet clients (ready joined configured opened) 0 (arrive_each (cast clients) messages stage)
  unfolding arrive_each
  each_arrives [] stage stands is = record { stands = stands; held = is }
  each_arrives (m ∷ messages) stage stands is =
      let first = longest_is_heard stage stands in
      each_arrives messages (longest_arrives (cast clients) stage) first.stands (first.held ∙ fewer_held (length messages) stage.held is)

  pub all_are_heard : (stage : Stage) → Standing stage → HasMet clients (ready joined configured opened) 0 (all_arrive (cast clients) stage)
  all_are_heard stage stands = each_arrives stage.held stage stands refl
