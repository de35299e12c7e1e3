-- When the modem isn't asked for a list.
use Rattle.std.proofs.Common.{◌≡◌, ℕ, Bool, true, false, not, ◌&&◌, List, refl, ap, sym, ◌∙◌, Option, None, if◌then◌else◌}
use Rattle.kit_bytes.specs.Subscriptions.{Pair}
use Rattle.mbim_services.specs.SubscribeLists.{is_same_list}
use Rattle.mbim_proxy.specs.Setup.{Setup}
use Rattle.mbim_proxy.specs.Forwarding.{own_subscribe}
use Rattle.mbim_proxy.proofs.SameLists.{list_itself}
use Rattle.mbim_state.specs.Core.{MbimState}
use Rattle.mbim_state.specs.Transitions.{merged_in, with_side, number_at, is_free, send_under, finish}

unless : {A : Type 0} (free : Bool) (o : Option A) → (if free && not true then o else None) ≡ None
unless true o = refl
unless false o = refl

-- where the modem was last asked for it, the end of an event changes nothing
pub asked_for : (s : Setup) (x : MbimState) → merged_in x.table.present ≡ x.beside.last_list → finish s x ≡ x
asked_for s x asked =
    let list : List Pair = merged_in x.table.present in
    let number : Option ℕ = number_at s (own_subscribe list) x.beside in
    let same : is_same_list list x.beside.last_list ≡ true = ap (is_same_list list) (sym asked) ∙ list_itself list in
    ap (λ (b : Bool). with_side (send_under s list (if is_free x.beside && not b then number else None) x.beside) x) same
    ∙ ap (λ (o : Option ℕ). with_side (send_under s list o x.beside) x) (unless (is_free x.beside) number)
