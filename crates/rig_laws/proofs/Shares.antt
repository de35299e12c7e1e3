-- Messages that pass their clients' shares, counted. A list of facts has the newest first.
use Rattle.std.proofs.Common.{◌≡◌, ℕ, ◌+◌, Bool, true, false, List, [], ◌∷◌, refl, ap, arith}
use Rattle.std.proofs.lemmas.Bool.{false_from_ne_true}
use Rattle.proxy_history.specs.Facts.{Fact, Verdict, Own, Share, Foreign, Away, Full, Forward, Ready, Waits, Judged}
use Rattle.rig_runs.specs.Counts.{Refusal, Passing, IsForShare, AreForShares, count, one_if, refused}

abbrev pub is_over_share : Fact → Bool
is_over_share (Judged c place m Share) = true
is_over_share _ = false

module _ (is_refusal : Refusal) (passes : Passing) where
  not_another : (c : ℕ) (m : List ℕ) (verdict : Verdict) (past : List Fact) → IsForShare is_refusal passes c m verdict past → (verdict ≡ Share → ⊥) → one_if (is_refusal c m verdict past) ≡ 0
  not_another c m verdict past is other = ap one_if (false_from_ne_true (is_refusal c m verdict past) (λ e. other (is.for_that e)))

  -- where each refusal is of a share, they are as many as those messages
  pub refusals_are_counted : ((c : ℕ) (m : List ℕ) (past : List Fact) → is_refusal c m Share past ≡ true) → (past : List Fact) → AreForShares is_refusal passes past → refused is_refusal past ≡ count is_over_share past
  unfolding refused
  refusals_are_counted shares [] all = refl
  refusals_are_counted shares (Judged c place m Share ∷ past) all =
      let one : one_if (is_refusal c m Share past) ≡ 1 = ap one_if (shares c m past) in omega (arith, one, refusals_are_counted shares past all.1)
  refusals_are_counted shares (Judged c place m Own ∷ past) all = omega (arith, not_another c m Own past all.0 (λ e. cc), refusals_are_counted shares past all.1)
  refusals_are_counted shares (Judged c place m Foreign ∷ past) all = omega (arith, not_another c m Foreign past all.0 (λ e. cc), refusals_are_counted shares past all.1)
  refusals_are_counted shares (Judged c place m Away ∷ past) all = omega (arith, not_another c m Away past all.0 (λ e. cc), refusals_are_counted shares past all.1)
  refusals_are_counted shares (Judged c place m Full ∷ past) all = omega (arith, not_another c m Full past all.0 (λ e. cc), refusals_are_counted shares past all.1)
  refusals_are_counted shares (Judged c place m Forward ∷ past) all = omega (arith, not_another c m Forward past all.0 (λ e. cc), refusals_are_counted shares past all.1)
  refusals_are_counted shares (Judged c place m Ready ∷ past) all = omega (arith, not_another c m Ready past all.0 (λ e. cc), refusals_are_counted shares past all.1)
  refusals_are_counted shares (Judged c place m Waits ∷ past) all = omega (arith, not_another c m Waits past all.0 (λ e. cc), refusals_are_counted shares past all.1)
  refusals_are_counted shares (_ ∷ past) all = refusals_are_counted shares past all
