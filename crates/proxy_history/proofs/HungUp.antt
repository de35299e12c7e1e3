-- The names to hang up are those that ended since the event began.
use Rattle.std.proofs.Common.{◌≡◌, ℕ, false, List, [], ◌∷◌, ◌++◌, reverse, filter_map, refl, ap, sym, ◌∙◌, All, append-nil}
use Rattle.std.proofs.lemmas.List.{reverse-append}
use Rattle.std.proofs.lemmas.List.Elements.{All-head, All-tail, filter_map-append}
use Rattle.proxy_history.specs.Facts.{NotAdmitted, BadStream, NoRoom, Leaving, Fact, EventBegan, Ended}
use Rattle.proxy_history.specs.Connections.{dropped}
use Rattle.proxy_history.specs.HungUp.{hung_up_by, is_beginning}

names : List Fact → List ℕ
names facts = filter_map hung_up_by facts

dropped-step : (fact : Fact) (past : List Fact) → is_beginning fact ≡ false → dropped (fact ∷ past) ≡ dropped past ++ filter_map hung_up_by (fact ∷ [])
unfolding dropped
dropped-step EventBegan past other = absurd (cc)
dropped-step (Ended c Leaving) past other = sym (append-nil (dropped past))
dropped-step (Ended c NotAdmitted) past other = refl
dropped-step (Ended c BadStream) past other = refl
dropped-step (Ended c NoRoom) past other = refl
dropped-step _ past other = sym (append-nil (dropped past))

pub hung_up_since : (since before : List Fact) → All (λ fact. is_beginning fact ≡ false) since → dropped (since ++ EventBegan ∷ before) ≡ filter_map hung_up_by (reverse since)
unfolding dropped
hung_up_since [] before none = refl
hung_up_since (fact ∷ since) before none =
    dropped-step fact (since ++ EventBegan ∷ before) (All-head (λ f. is_beginning f ≡ false) fact since none)
    ∙ ap (λ (l : List ℕ). l ++ filter_map hung_up_by (fact ∷ [])) (hung_up_since since before (All-tail (λ f. is_beginning f ≡ false) fact since none))
    ∙ sym (filter_map-append hung_up_by (reverse since) (fact ∷ []))
    ∙ ap (filter_map hung_up_by) (sym (reverse-append (fact ∷ []) since))
