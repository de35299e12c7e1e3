-- What is noted in a history is noted in a client's part of it, or leaves it as it is; and what others do leaves it as it is.
use Rattle.std.proofs.Common.{◌≡◌, ℕ, Bool, true, false, ◌&&◌, ◌||◌, ◌==◌, if◌then◌else◌, List, [], ◌∷◌, ◌++◌, refl, ap, sym, ◌∙◌}
use Rattle.std.proofs.lemmas.Bool.{eqb-true}
use Rattle.proxy_history.specs.Limits.{Limits}
use Rattle.proxy_history.specs.Facts.{Fact, NoRoom, Ended}
use Rattle.proxy_history.specs.Connections.{contains, present, is_present}
use Rattle.proxy_history.specs.Rendering.{Rendering}
use Rattle.proxy_history.specs.Wording.{Wording}
use Rattle.proxy_history.specs.Noting.{rendering, end_if_overfull, end_overfull, receivers_of, note}
use Rattle.proxy_history.proofs.Sound.{contains-without_self}
use Rattle.proxy_solo.specs.Part.{concerns, as_known, facts_if, part}
use Rattle.proxy_solo.proofs.Lists.{self, turned}
use Rattle.proxy_solo.proofs.Reading.{Reads, is_judged}
use Rattle.proxy_solo.proofs.Queries.{present-part}

pub only : (c d : ℕ) → contains c (d ∷ []) ≡ (d == c)
only c d = ap (λ (b : Bool). b || false) (turned c d) ∙ elim (d == c) as (λ b. (b || false) ≡ b) [ true ↦ refl | false ↦ refl ]

-- the part has messages without their numbers already
abbrev pub known_wording : {Known : Type 0} → Wording Known → Wording Known
known_wording wording = record wording { blank = λ m. m }

module _ {Known : Type 0} (limits : Limits) (wording : Wording Known) (c : ℕ) where
  -- ---- ends for want of room ----

  abbrev pub known_rendering : List Fact → Rendering
  known_rendering facts = rendering limits (known_wording wording) c facts

  abbrev pub end_known : List Fact → List Fact
  end_known facts = end_if_overfull limits (known_wording wording) c facts

  end_twice : (facts : List Fact) → end_known (end_known facts) ≡ end_known facts
  unfolding present
  end_twice facts =
      let over : Bool = is_present c facts && (known_rendering facts).is_over in
      let step : (b : Bool) → over ≡ b → end_known (if b then Ended c NoRoom ∷ facts else facts) ≡ (if b then Ended c NoRoom ∷ facts else facts) =
      λ b. elim b as (λ b. over ≡ b → end_known (if b then Ended c NoRoom ∷ facts else facts) ≡ (if b then Ended c NoRoom ∷ facts else facts)) [
        | true ↦ λ e. ap (λ (t : Bool). if t && (known_rendering (Ended c NoRoom ∷ facts)).is_over then Ended c NoRoom ∷ Ended c NoRoom ∷ facts else Ended c NoRoom ∷ facts) (contains-without_self c (present facts))
        | false ↦ λ e. ap (λ (t : Bool). if t then Ended c NoRoom ∷ facts else facts) e
      ]
      in step over refl

module _ {Known : Type 0} (limits : Limits) (wording : Wording Known) (restated : Fact → List Fact) (R : Reads restated) (c : ℕ) where
  abbrev part_of : List Fact → List Fact
  part_of past = part wording.blank restated c past

  -- a fact of the client, and one of others
  pub own_fact : (b : Bool) (fact : Fact) (facts : List Fact) → is_judged fact ≡ false → b ≡ true → facts_if b (restated fact) facts ≡ fact ∷ facts
  own_fact b fact facts plain mine = ap (λ (t : Bool). facts_if t (restated fact) facts) mine ∙ ap (λ (l : List Fact). l ++ facts) (R.plain fact plain)

  pub others_fact : (b : Bool) (added facts : List Fact) → b ≡ false → facts_if b added facts ≡ facts
  others_fact b added facts theirs = ap (λ (t : Bool). facts_if t added facts) theirs

  end_elsewhere : (d : ℕ) (past : List Fact) → (d == c) ≡ false → part_of (end_if_overfull limits wording d past) ≡ part_of past
  unfolding part
  end_elsewhere d past other =
      elim (is_present d past && (rendering limits wording d past).is_over) as (λ b. part_of (if b then Ended d NoRoom ∷ past else past) ≡ part_of past) [
        | true ↦ others_fact (d == c) (restated (Ended d NoRoom)) (part_of past) other
        | false ↦ refl
      ]

  -- where a good history has no more room for the client than its part
  module _ (Good : List Fact → Type 0) (ends : (d : ℕ) (past : List Fact) → Good past → Good (Ended d NoRoom ∷ past))
      (over : (past : List Fact) → Good past → (rendering limits wording c past).is_over ≡ (known_rendering limits wording c (part_of past)).is_over) where
    is_over_same : (past : List Fact) → Good past → (is_present c past && (rendering limits wording c past).is_over) ≡ (is_present c (part_of past) && (known_rendering limits wording c (part_of past)).is_over)
    is_over_same past good =
        ap (λ (b : Bool). b && (rendering limits wording c past).is_over) (sym (present-part limits wording.blank restated R c past))
        ∙ ap (λ (b : Bool). is_present c (part_of past) && b) (over past good)

    end_here : (past : List Fact) → Good past → part_of (end_if_overfull limits wording c past) ≡ end_known limits wording c (part_of past)
    unfolding part
    end_here past good =
        ap (λ (b : Bool). part_of (if b then Ended c NoRoom ∷ past else past)) (is_over_same past good)
        ∙ elim (is_present c (part_of past) && (known_rendering limits wording c (part_of past)).is_over) as (λ b. part_of (if b then Ended c NoRoom ∷ past else past) ≡ (if b then Ended c NoRoom ∷ part_of past else part_of past)) [
          | true ↦ own_fact (c == c) (Ended c NoRoom) (part_of past) refl (self c)
          | false ↦ refl
        ]

    good_end : (d : ℕ) (past : List Fact) → Good past → Good (end_if_overfull limits wording d past)
    good_end d past good = elim (is_present d past && (rendering limits wording d past).is_over) as (λ b. Good (if b then Ended d NoRoom ∷ past else past)) [ true ↦ ends d past good | false ↦ good ]

    pub good_ends : (cs : List ℕ) (past : List Fact) → Good past → Good (end_overfull limits wording cs past)
    unfolding end_overfull
    good_ends [] past good = good
    good_ends (d ∷ cs) past good = good_ends cs _ (good_end d past good)

    end_all : (cs : List ℕ) (past : List Fact) → Good past → part_of (end_overfull limits wording cs past) ≡ (if contains c cs then end_known limits wording c (part_of past) else part_of past)
    unfolding end_overfull
    end_all [] past good = refl
    end_all (d ∷ cs) past good =
        let after : List Fact = end_if_overfull limits wording d past in
        let later = end_all cs after (good_end d past good) in
        let Goal : Bool → Type 0 = λ (b : Bool). part_of (end_overfull limits wording cs after) ≡ (if b || contains c cs then end_known limits wording c (part_of past) else part_of past) in
        let step : (b : Bool) → (c == d) ≡ b → Goal b =
        λ b. elim b as (λ b. (c == d) ≡ b → Goal b) [
          | true ↦ λ e.
              let same : d ≡ c = sym (eqb-true c d e) in
              let ended : part_of after ≡ end_known limits wording c (part_of past) = ap (λ (x : ℕ). part_of (end_if_overfull limits wording x past)) same ∙ end_here past good in
              later
              ∙ ap (λ (l : List Fact). if contains c cs then end_known limits wording c l else l) ended
              ∙ elim (contains c cs) as (λ b. (if b then end_known limits wording c (end_known limits wording c (part_of past)) else end_known limits wording c (part_of past)) ≡ end_known limits wording c (part_of past)) [ true ↦ end_twice limits wording c (part_of past) | false ↦ refl ]
          | false ↦ λ e. later ∙ ap (λ (l : List Fact). if contains c cs then end_known limits wording c l else l) (end_elsewhere d past (turned d c ∙ e))
        ]
        in step (c == d) refl

    -- a fact that is noted
    pub noted : (fact : Fact) (past : List Fact) → Good (fact ∷ past) → contains c (receivers_of fact) ≡ concerns c fact
        → part_of (note limits wording fact past) ≡ (if concerns c fact then end_known limits wording c (restated (as_known wording.blank c fact) ++ part_of past) else part_of past)
    unfolding part
    noted fact past good same =
        end_all (receivers_of fact) (fact ∷ past) good
        ∙ ap (λ (b : Bool). if b then end_known limits wording c (part_of (fact ∷ past)) else part_of (fact ∷ past)) same
        ∙ elim (concerns c fact) as (λ b. (if b then end_known limits wording c (facts_if b (restated (as_known wording.blank c fact)) (part_of past)) else facts_if b (restated (as_known wording.blank c fact)) (part_of past)) ≡ (if b then end_known limits wording c (restated (as_known wording.blank c fact) ++ part_of past) else part_of past)) [ true ↦ refl | false ↦ refl ]
