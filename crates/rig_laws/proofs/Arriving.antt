-- Messages that are held arrive: one of them, or all.
use Rattle.std.proofs.Common.{◌≡◌, ℕ, suc, ◌+◌, ◌≤◌, false, List, [], ◌∷◌, ◌++◌, length, reverse, refl, ap, sym, ◌∙◌, arith, subst, append-nil, length-append}
use Rattle.std.proofs.lemmas.List.{reverse-append, reverse-reverse}
use Rattle.sim_modem.specs.Sim.{Answering}
use Rattle.qmi_proxy.specs.Setup.{Setup}
use Rattle.rig_runs.specs.Stage.{Stage, arrive, arrive_first, arrive_last, longest_arrives, shortest_arrives, arrive_each, all_arrive}
use Rattle.rig_laws.proofs.Lists.{is_empty}
use Rattle.rig_laws.proofs.Stage.{cast, Stands, HasMet, arrives}

-- all but the first
abbrev pub others : List (List ℕ) → List (List ℕ)
others [] = []
others (m ∷ held) = held

turned : (stage_held held : List (List ℕ)) (m : List ℕ) → reverse stage_held ≡ m ∷ held → stage_held ≡ reverse held ++ m ∷ []
turned stage_held held m is = sym (reverse-reverse stage_held) ∙ ap reverse is ∙ reverse-append (m ∷ []) held

module _ (s : Setup) (there : s.starts_away ≡ false) (clients : ℕ) (modem : Answering) (joined opened : ℕ) (within : joined ≤ clients) where
  abbrev Met : List (List ℕ) → List (List ℕ) → Stage → Type 0
  Met held asked stage = HasMet s there clients modem joined opened held asked stage

  abbrev Standing : Stage → Type 0
  Standing stage = Stands s there clients modem joined opened stage

  -- where nothing is held, nothing happens
  nothing_arrives : (stage : Stage) → Standing stage → stage.held ≡ [] → Met [] stage.asked stage
  nothing_arrives stage stands none = record { stands = stands; held_is = none; asked_is = refl }

  pub longest_is_heard : (stage : Stage) → Standing stage → Met (others stage.held) stage.asked (longest_arrives (cast s there clients modem) stage)
  longest_is_heard stage stands = by stage.held refl
    where
      by : (held : List (List ℕ)) → stage.held ≡ held → Met (others held) stage.asked (arrive_first (cast s there clients modem) held stage)
      by [] e = nothing_arrives stage stands e
      by (m ∷ held) e = arrives s there clients modem joined opened [] m held stage stands within e

  -- what is held then
  pub record IsFewer (stage after : Stage) : Type 0 where
    pub stands : Standing after
    pub fewer : length after.held ≤ length stage.held

  pub shortest_is_heard : (stage : Stage) → Standing stage → IsFewer stage (shortest_arrives (cast s there clients modem) stage)
  shortest_is_heard stage stands = by (reverse stage.held) refl
    where
      by : (held : List (List ℕ)) → reverse stage.held ≡ held → IsFewer stage (arrive_last (cast s there clients modem) held stage)
      by [] e = record { stands = stands; fewer = omega arith }
      by (m ∷ held) e =
          let is : stage.held ≡ reverse held ++ m ∷ [] = turned stage.held held m e in
          let met : Met (reverse held ++ []) stage.asked (arrive (cast s there clients modem) m (record stage { held = reverse held ++ [] })) =
          arrives s there clients modem joined opened (reverse held) m [] stage stands within is in
          let same : Met (reverse held) stage.asked (arrive (cast s there clients modem) m (record stage { held = reverse held })) =
          subst (λ (l : List (List ℕ)). Met l stage.asked (arrive (cast s there clients modem) m (record stage { held = l }))) (append-nil (reverse held)) met in
          let all : length stage.held ≡ length (reverse held) + 1 = ap length is ∙ length-append (reverse held) (m ∷ []) in
          let left = ap length same.held_is in
          record { stands = same.stands; fewer = omega (arith, all, left) }

  fewer_held : (n : ℕ) (held : List (List ℕ)) → length held ≡ suc n → length (others held) ≡ n
  fewer_held n [] is = absurd (omega arith)
  fewer_held n (m ∷ held) is = omega (arith, is)

  each_arrives : (messages : List (List ℕ)) (stage : Stage) → Standing stage → length stage.held ≡ length messages → Met [] stage.asked (arrive_each (cast s there clients modem) messages stage)
  unfolding arrive_each
  each_arrives [] stage stands is = nothing_arrives stage stands (is_empty stage.held is)
  each_arrives (m ∷ messages) stage stands is =
      let first = longest_is_heard stage stands in
      let less : length (longest_arrives (cast s there clients modem) stage).held ≡ length messages = ap length first.held_is ∙ fewer_held (length messages) stage.held is in
      subst (λ (asked : List (List ℕ)). Met [] asked (arrive_each (cast s there clients modem) messages (longest_arrives (cast s there clients modem) stage))) first.asked_is
      (each_arrives messages (longest_arrives (cast s there clients modem) stage) first.stands less)

  pub all_are_heard : (stage : Stage) → Standing stage → Met [] stage.asked (all_arrive (cast s there clients modem) stage)
  all_are_heard stage stands = each_arrives stage.held stage stands refl
