-- Runs of which the last may be cut short. Lists of runs and of events have the newest first.
use Rattle.std.proofs.Common.{◌≡◌, ℕ, zero, suc, ◌+◌, ◌≤◌, List, [], ◌∷◌, ◌++◌, Option, refl, ap, sym, ◌∙◌, subst, arith, append_assoc, inl, inr}
use Rattle.std.proofs.lemmas.Bool.{cases_lt}
use Rattle.proxy_history.specs.Events.{Event}
use Rattle.core_bench.specs.Runs.{Run}
use Rattle.rig_stage.specs.Running.{AreRecorded}
use Rattle.rig_stage.proofs.Stopping.{none_more}
use Rattle.rig_play.specs.Runs.{StopsEarly}
use Rattle.rig.specs.Begun.{AreFirst, TellsFirst}
use Rattle.rig.proofs.Down.{down, down-more}

done_are_first : (later done : List Run) → AreFirst (later ++ done) done
done_are_first later [] = tt
done_are_first later (run ∷ done) = record { whole = run; later = later; order = refl; within = none_more run.events; same = refl }

-- those that are done were run as they are
pub tells_done : (later done earlier : List Run) (now : Option (List Run)) → AreRecorded now (done ++ earlier) → TellsFirst (later ++ done) earlier now
tells_done later done earlier now told = record { added = done; are_first = done_are_first later done; told = told }

-- the next one was not run, or is cut short
pub tells_next : (opened : Run) (events : List Event) (later done earlier : List Run) (now : Option (List Run)) → StopsEarly opened (done ++ earlier) events now
    → TellsFirst (later ++ record opened { events = events } ∷ done) earlier now
tells_next opened events later done earlier now (inl none) =
    let whole : Run = record opened { events = events } in
    subst (λ all. TellsFirst all earlier now) (append_assoc later (whole ∷ []) done) (tells_done (later ++ whole ∷ []) done earlier now none)
tells_next opened events later done earlier now (inr short) =
    let whole : Run = record opened { events = events } in
    record {
      added = record opened { events = short.met } ∷ done;
      are_first = record { whole = whole; later = later; order = refl; within = short.within; same = refl };
      told = short.told;
    }

first_behind : (all done added : List Run) → AreFirst all added → AreFirst (all ++ done) (added ++ done)
first_behind all done [] first = done_are_first all done
first_behind all done (run ∷ added) first = record {
  whole = first.whole;
  later = first.later;
  order = ap (λ runs. runs ++ done) first.order ∙ append_assoc first.later (first.whole ∷ added) done;
  within = first.within;
  same = first.same;
}

-- and those behind what was done before
pub tells_behind : (all done earlier : List Run) (now : Option (List Run)) → TellsFirst all (done ++ earlier) now → TellsFirst (all ++ done) earlier now
tells_behind all done earlier now it = record {
  added = it.added ++ done;
  are_first = first_behind all done it.added it.are_first;
  told = subst (AreRecorded now) (sym (append_assoc it.added done earlier)) it.told;
}

-- ---- what is made of the numbers from 1 on ----

-- of what is made of so many, that of fewer comes first
record HasMore {X : Type 0} (f : ℕ → X) (total count : ℕ) : Type 0 where
  later : List X
  order : down f total ≡ later ++ down f count

has_more : {X : Type 0} (f : ℕ → X) (count total : ℕ) → count ≤ total → HasMore f total count
has_more f count zero within = let none : zero ≡ count = omega (arith, within) in record { later = []; order = ap (down f) none }
has_more {X} f count (suc total) within = elim (cases_lt count (suc total)) [
  | inl fewer ↦
      let rest : HasMore f total count = has_more f count total (omega (arith, fewer)) in
      let on : suc total ≡ total + 1 = omega arith in
      record { later = f (suc total) ∷ rest.later; order = ap (down f) on ∙ down-more f total (suc total) (omega arith) ∙ ap (λ (xs : List X). f (suc total) ∷ xs) rest.order }
  | inr many ↦ let same : suc total ≡ count = omega (arith, within, many) in record { later = []; order = ap (down f) same }
]

-- the one with this number is the next behind those before it
pub next_of : {X : Type 0} (f : ℕ → X) (count c total : ℕ) → 1 + count ≡ c → c ≤ total → (later : List X) × (down f total ≡ later ++ f c ∷ down f count)
next_of {X} f count c total is within =
    let rest : HasMore f total (count + 1) = has_more f (count + 1) total (omega (arith, is, within)) in
    (rest.later, rest.order ∙ ap (λ (xs : List X). rest.later ++ xs) (down-more f count c is))
