-- What a fact that is noted leaves as it is, whoever ends with it for want of room, and what is kept while requests are refused.
use Rattle.std.proofs.Common.{◌≡◌, ℕ, true, false, ◌==◌, List, [], ◌∷◌, refl, ◌∙◌, if◌then◌else◌}
use Rattle.std.specs.List.{AllByRecursion}
use Rattle.proxy_history.specs.Limits.{Limits}
use Rattle.proxy_history.specs.Facts.{Fact, Request, Answered}
use Rattle.proxy_history.specs.Connections.{present, is_present}
use Rattle.proxy_history.specs.Requests.{in_use, is_pending}
use Rattle.proxy_history.specs.View.{view}
use Rattle.proxy_history.specs.Wording.{Wording}
use Rattle.proxy_history.specs.Noting.{note, each_pending}
use Rattle.proxy_history.proofs.Sound.{kept_by_note, kept_by_ends}
use Rattle.proxy_history.proofs.Numbers.{contains_other}

module _ {Known : Type 0} (limits : Limits) (wording : Wording Known) where
  -- one that ends for want of room has no entry for that
  pub noted_view : (client : ℕ) (fact : Fact) (past : List Fact) → view wording.blank client (note limits wording fact past) ≡ view wording.blank client (fact ∷ past)
  unfolding view
  noted_view client fact past = kept_by_note limits wording (λ after. view wording.blank client after ≡ view wording.blank client (fact ∷ past)) (λ c before there same. same) fact past refl

  pub noted_in_use : (fact : Fact) (past : List Fact) → in_use (note limits wording fact past) ≡ in_use (fact ∷ past)
  unfolding in_use
  noted_in_use fact past = kept_by_note limits wording (λ after. in_use after ≡ in_use (fact ∷ past)) (λ c before there same. same) fact past refl

  -- an answer ends no other than its receiver
  pub answered_present : (client : ℕ) (r : Request) (m : List ℕ) (past : List Fact) → (r.conn == client) ≡ false → is_present client (note limits wording (Answered r m) past) ≡ is_present client past
  unfolding present
  answered_present client r m past other =
      kept_by_ends limits wording (λ after. is_present client after ≡ is_present client past) (r.conn ∷ []) (Answered r m ∷ past)
      ((λ before there same. contains_other r.conn client (present before) other ∙ same), tt) refl

-- ---- requests that are refused ----

module _ (P : List Fact → Type 0) (Q : Request → Type 0) (action : Request → List Fact → List Fact) (keeps : (r : Request) (past : List Fact) → Q r → P past → P (action r past)) where
  pub kept_by_each : (requests : List Request) (past : List Fact) → AllByRecursion Q requests → P past → P (each_pending action requests past)
  unfolding each_pending
  kept_by_each [] past all held = held
  kept_by_each (r ∷ requests) past all held =
      kept_by_each requests _ all.1 (elim (is_pending r past) as (λ b. P (if b then action r past else past)) [ true ↦ keeps r past all.0 held | false ↦ held ])
