-- How a child that is kept running is started again and again.
use Rattle.std.proofs.Common.{◌≡◌, ◌≢◌, ◌⊎◌, ℕ, ℤ, pos, ◌+◌, ◌-◌, ◌≤◌, List, [], ◌∷◌, ◌++◌, length, All, Option, Result, Ok, Err, refl, ap, sym, ◌∙◌, rules, arith, length-append, subst}
use Rattle.std.specs.List.{flat_map}
use Rattle.std.proofs.lemmas.List.{flat_map_more}
use Rattle.std.proofs.lemmas.List.Elements.{All-push}
use Rattle.kit_io.specs.Growth.{Grows}
use Rattle.kit_io.specs.declared.faults.Failed.{Failed}
use Rattle.kit_io.proofs.Growth.{Grows-none, Grows-append}
use Rattle.child_io.specs.Calls.{Call}
use Rattle.sim_supervision.specs.Supervision.{Run, run_calls, EndsSupervision, GrowsBySupervision, SupervisesOrLacksMemory}
use Rattle.sim_supervision.specs.Supervision as supervision
use Rattle.sim_supervision.specs.Once.{GrowsLike, IsRun}
use Rattle.sim_supervision.specs.declared.supervision.SupervisionEnd.{SupervisionEnd}
use Rattle.sim_supervision.specs.declared.supervision.SupervisionEnd.TheVariants.{Ended, StartFault, OutOfMemory}

-- so many children were started and ended, none of them with 0
pub record HasRun (words : List (List ℕ)) (count : ℕ) (old now : Option (List Call)) : Type 0 where
  pub runs : List Run
  pub each : All (λ run. run.status ≢ pos 0) runs
  pub counted : length runs ≡ count
  pub grows : Grows old (flat_map (run_calls words) runs) now

module _ {words : List (List ℕ)} where
  pub HasRun-none : (old : Option (List Call)) → HasRun words 0 old old
  HasRun-none old = record { runs = []; each = search rules; counted = refl; grows = Grows-none old }

  module _ {count : ℕ} {old now new : Option (List Call)} (so_far : HasRun words count old now) where
    -- one child more
    pub HasRun-more : (status : ℤ) → status ≢ pos 0 → GrowsLike (IsRun {E = Failed} words (Ok status)) now new → HasRun words (count + 1) old new
    HasRun-more status other more =
        let run : Run = record { child = more.are.0; status = status } in
        record {
          runs = so_far.runs ++ run ∷ [];
          each = All-push (λ (r : Run). r.status ≢ pos 0) so_far.runs run so_far.each other;
          counted = omega (arith, length-append so_far.runs (run ∷ []), so_far.counted);
          grows = subst (λ l. Grows old l new) (ap (λ l. flat_map (run_calls words) so_far.runs ++ l) more.are.1 ∙ flat_map_more (run_calls words) [] so_far.runs run) (Grows-append so_far.grows more.grows);
        }

    module _ (most : ℕ) (again : count ≤ most - 1) where
      -- the last child ended
      pub HasRun-ends : (status : ℤ) → status ≡ pos 0 ⊎ most ≤ count + 1 → GrowsLike (IsRun {E = Failed} words (Ok status)) now new → GrowsBySupervision words most old (Ended status) new
      HasRun-ends status last more = record {
        calls = flat_map (run_calls words) so_far.runs ++ more.calls;
        keeps = record {
          earlier = so_far.runs;
          last = more.calls;
          each = so_far.each;
          again = rw so_far.counted again;
          ends = rw so_far.counted (supervision.ended (record { child = more.are.0; status = status }) last refl more.are.1);
          whole = refl;
        };
        grows = Grows-append so_far.grows more.grows;
      }

      -- it failed to run
      pub HasRun-fails : (e : Failed) → GrowsLike (IsRun words (Err e)) now new → GrowsBySupervision words most old StartFault new
      HasRun-fails e more = record {
        calls = flat_map (run_calls words) so_far.runs ++ more.calls;
        keeps = record {
          earlier = so_far.runs;
          last = more.calls;
          each = so_far.each;
          again = rw so_far.counted again;
          ends = rw so_far.counted (supervision.failed more.are refl);
          whole = refl;
        };
        grows = Grows-append so_far.grows more.grows;
      }

-- ---- with memory ----

never : (words : List (List ℕ)) (most before : ℕ) (calls : List Call) → EndsSupervision words most before OutOfMemory calls → ⊥
never words most before calls (supervision.ended run last is are) = (cc)
never words most before calls (supervision.failed fails is) = (cc)

pub kept : (words : List (List ℕ)) (most : ℕ) {old new : Option (List Call)} (end : SupervisionEnd) → GrowsBySupervision words most old end new → SupervisesOrLacksMemory words most old end new
kept words most (Ended status) grows = grows
kept words most StartFault grows = grows
kept words most OutOfMemory grows = absurd (never words most _ _ grows.keeps.ends)
