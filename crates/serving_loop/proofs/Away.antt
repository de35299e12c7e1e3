-- Which modems are away, from one face to another, and how many devices are there.
use Rattle.std.proofs.Common.{◌≡◌, ℕ, zero, suc, ◌+◌, ◌<◌, ◌≤◌, ◌==◌, ◌&&◌, Bool, true, false, if◌then◌else◌, refl, sym, ◌∙◌, ap, subst, arith}
use Rattle.std.proofs.lemmas.Bool.{eqb-true, false≢true}
use Rattle.std.proofs.lemmas.Bool.Decides.{nat_tests}
use Rattle.many_serving.specs.Ends.{are_away}
use Rattle.serving_loop.specs.Face.{ManyFace, SameAway, SameAwayBut}
use Rattle.serving_loop.specs.Server.{devices_there}
use Rattle.serving_loop.specs.Progress.{StayAway}

pub same-none : (face : ManyFace) → SameAway face face
same-none face = record { same = λ d within. refl }

pub same-then : {first mid last : ManyFace} → mid.devices ≡ first.devices → SameAway first mid → SameAway mid last → SameAway first last
same-then is before after = record { same = λ d within. after.same d (omega (arith, is, within)) ∙ before.same d within }

pub stays-none : (face : ManyFace) → StayAway face face
stays-none face = record { stay = λ d within away. away }

pub stays-then : {first mid last : ManyFace} → mid.devices ≡ first.devices → StayAway first mid → StayAway mid last → StayAway first last
stays-then is before after = record { stay = λ d within away. after.stay d (omega (arith, is, within)) (before.stay d within away) }

-- the others are as before, and this one was there
pub stays-but : {old new : ManyFace} (d : ℕ) → SameAwayBut d old new → old.away d ≡ false → StayAway old new
stays-but {old = old} {new = new} d others was_there = record { stay = stay }
  where
    stay : (e : ℕ) → e < old.devices → old.away e ≡ true → new.away e ≡ true
    stay e within away =
        let step : (b : Bool) → (d == e) ≡ b → new.away e ≡ true =
        λ b. elim b as (λ b. (d == e) ≡ b → new.away e ≡ true) [
          | true ↦ λ same. let is : old.away e ≡ false = subst (λ (n : ℕ). old.away n ≡ false) (eqb-true d e same) was_there in absurd (false≢true (sym is ∙ away))
          | false ↦ λ other. others.same e within other ∙ away
        ]
        in step (d == e) refl

-- whose modem is there was there
pub was_there : {old new : ManyFace} (d : ℕ) → d < old.devices → StayAway old new → new.away d ≡ false → old.away d ≡ false
was_there {old = old} {new = new} d within stays there =
    let step : (b : Bool) → old.away d ≡ b → old.away d ≡ false =
    λ b. elim b as (λ b. old.away d ≡ b → old.away d ≡ false) [
      | true ↦ λ away. absurd (false≢true (sym there ∙ stays.stay d within away))
      | false ↦ λ was. was
    ]
    in step (old.away d) refl

-- ---- whether all are away ----

pub one_more_away : (away : ℕ → Bool) (count : ℕ) → away count ≡ true → are_away away count ≡ true → are_away away (count + 1) ≡ true
one_more_away away count one rest =
    let is : suc count ≡ count + 1 = omega arith in subst (λ (n : ℕ). are_away away n ≡ true) is (ap (λ (b : Bool). b && are_away away count) one ∙ rest)

pub not_all_away : (away : ℕ → Bool) (count d : ℕ) → d < count → away d ≡ false → are_away away count ≡ false
not_all_away away zero d within there = absurd (omega (arith, within))
not_all_away away (suc count) d within there =
    let step : (b : Bool) → (count == d) ≡ b → are_away away (suc count) ≡ false =
    λ b. elim b as (λ b. (count == d) ≡ b → are_away away (suc count) ≡ false) [
      | true ↦ λ same. ap (λ (b : Bool). b && are_away away count) (subst (λ (n : ℕ). away n ≡ false) (sym (eqb-true count d same)) there)
      | false ↦ λ other. ap (λ (b : Bool). away count && b) (not_all_away away count d (grind (arith, nat_tests)) there) ∙ and_false (away count)
    ]
    in step (count == d) refl
  where
    and_false : (b : Bool) → (b && false) ≡ false
    and_false true = refl
    and_false false = refl

-- ---- how many are there ----

abbrev counts : Bool → ℕ
counts away = if away then 0 else 1

counted_less : (old new : Bool) → (old ≡ true → new ≡ true) → counts new ≤ counts old
counted_less true true stays = omega arith
counted_less true false stays = absurd (false≢true (stays refl))
counted_less false true stays = omega arith
counted_less false false stays = omega arith

pub no_more_there : (old new : ℕ → Bool) (count : ℕ) → ((d : ℕ) → d < count → old d ≡ true → new d ≡ true) → devices_there new count ≤ devices_there old count
no_more_there old new zero stays = omega arith
no_more_there old new (suc count) stays =
    let rest = no_more_there old new count (λ d within. stays d (omega (arith, within))) in
    let one = counted_less (old count) (new count) (stays count (omega arith)) in
    omega (arith, rest, one)

pub fewer_there : (old new : ℕ → Bool) (count d : ℕ) → ((e : ℕ) → e < count → old e ≡ true → new e ≡ true) → d < count → old d ≡ false → new d ≡ true → devices_there new count < devices_there old count
fewer_there old new zero d stays within was now = absurd (omega (arith, within))
fewer_there old new (suc count) d stays within was now =
    let Fewer : Type 0 = devices_there new (suc count) < devices_there old (suc count) in
    let step : (b : Bool) → (count == d) ≡ b → Fewer =
    λ b. elim b as (λ b. (count == d) ≡ b → Fewer) [
      | true ↦ λ same.
          let is : d ≡ count = sym (eqb-true count d same) in
          let before : counts (old count) ≡ 1 = ap counts (subst (λ (n : ℕ). old n ≡ false) is was) in
          let after : counts (new count) ≡ 0 = ap counts (subst (λ (n : ℕ). new n ≡ true) is now) in
          let rest = no_more_there old new count (λ e behind. stays e (omega (arith, behind))) in
          omega (arith, before, after, rest)
      | false ↦ λ other.
          let rest = fewer_there old new count d (λ e behind. stays e (omega (arith, behind))) (grind (arith, nat_tests)) was now in
          let one = counted_less (old count) (new count) (stays count (omega arith)) in
          omega (arith, rest, one)
    ]
    in step (count == d) refl

-- as many are there where the same are away
pub same_there : {old new : ManyFace} → new.devices ≡ old.devices → SameAway old new → devices_there new.away new.devices ≡ devices_there old.away old.devices
same_there {old = old} {new = new} is same = ap (devices_there new.away) is ∙ counted_same old.away new.away old.devices same.same
  where
    counted_same : (before after : ℕ → Bool) (count : ℕ) → ((d : ℕ) → d < count → after d ≡ before d) → devices_there after count ≡ devices_there before count
    counted_same before after zero still = refl
    counted_same before after (suc count) still =
        ap (λ (b : Bool). (if b then 0 else 1) + devices_there after count) (still count (omega arith)) ∙ ap (λ (n : ℕ). (if before count then 0 else 1) + n) (counted_same before after count (λ d within. still d (omega (arith, within))))
