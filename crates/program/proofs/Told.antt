-- A link that is watched fails where it did.
use Rattle.std.proofs.Common.{◌≡◌, ℕ, ap, subst, inl, inr}
use Rattle.kit_io.specs.Causes.{Rose}
use Rattle.modem_routes.specs.Routes.{Path, Direct, ByProxy}
use Rattle.modem_routes.specs.Reaching.{LinkFails}

-- since it was watched
pub fails_behind : {L : Type 0} (path : Path) (faults open_faults : L → ℕ) (old mid new : L) → faults mid ≡ faults old → open_faults mid ≡ open_faults old
    → LinkFails path faults open_faults mid new → LinkFails path faults open_faults old new
fails_behind (Direct place) faults open_faults old mid new same same_open (inl rose) = inl (subst (λ (n : ℕ). Rose n (faults new)) same rose)
fails_behind (Direct place) faults open_faults old mid new same same_open (inr rose) = inr (subst (λ (n : ℕ). Rose n (open_faults new)) same_open rose)
fails_behind (ByProxy address words) faults open_faults old mid new same same_open rose = subst (λ (n : ℕ). Rose n (faults new)) same rose
