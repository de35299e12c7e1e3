-- The sender of a message holds the client id that the message uses.
use Rattle.std.proofs.Common.{◌≡◌, ℕ, Bool, true, false, List, refl, ap, sym, ◌∙◌, arith, Option, None, Some, is_some, IsSome, if◌then◌else◌}
use Rattle.std.proofs.lemmas.Bool.Decides.{nat_tests}
use Rattle.proxy_history.specs.ClientIds.{Grant, holder_in, is_other}
use Rattle.holders.specs.Grants.{AreInOrder}
use Rattle.holders.specs.Kept.{kept_without}
use Rattle.holders.proofs.Places.{granted_again}
use Rattle.qmi_proxy.specs.Messages.{uses_id, used_service, used_cid}
use Rattle.qmi_state.specs.Traffic.{Traffic, granted_if, kept_if, adopts_unless}
use Rattle.qmi_state.specs.Transitions.{holder_at}

-- adopting that id changes no holder: the id is kept no more, and that is all
pub adopts_held : (c : ℕ) (m : List ℕ) (traffic : Traffic) (holder : Option ℕ) → is_some holder ≡ true → holder ≡ holder_at m traffic → is_other c holder ≡ false → (IsSome holder → AreInOrder traffic.held) → uses_id m ≡ true
    → record traffic { kept = kept_without (used_service m) (used_cid m) traffic.kept } ≡ adopts_unless (is_other c (holder_at m traffic)) c m traffic
adopts_held c m traffic None some held free ordered uses = absurd (cc)
adopts_held c m traffic (Some d) some held free ordered uses =
    let same : d ≡ c = grind (arith, nat_tests, free) in
    let here : holder_in (used_service m) (used_cid m) traffic.held ≡ Some c = sym (held ∙ ap (λ (used : Bool). if used then holder_in (used_service m) (used_cid m) traffic.held else None) uses) ∙ ap Some same in
    sym
    (ap (λ (h : Option ℕ). adopts_unless (is_other c h) c m traffic) (sym held) ∙ ap (λ (other : Bool). adopts_unless other c m traffic) free
    ∙ ap (λ (used : Bool). record traffic { held = granted_if used c m traffic.held; kept = kept_if used m traffic.kept }) uses
    ∙ ap (λ (l : List Grant). record traffic { held = l; kept = kept_without (used_service m) (used_cid m) traffic.kept }) (granted_again c (used_service m) (used_cid m) traffic.held (ordered refl) here))
