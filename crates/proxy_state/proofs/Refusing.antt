-- A request that is refused waits no more, and neither do those of the connections that end with it.
use Rattle.std.proofs.Common.{◌≡◌, ℕ, Bool, true, false, not, cond, ◌&&◌, ◌||◌, ◌==◌, List, [], ◌∷◌, filter, refl, ap, sym, ◌∙◌, if◌then◌else◌}
use Rattle.std.proofs.lemmas.Bool.{false_from_ne_true}
use Rattle.proxy_history.specs.Limits.{Limits}
use Rattle.proxy_history.specs.Facts.{Fact, Request, Ended, NoRoom, Expired, Aborted}
use Rattle.proxy_history.specs.Connections.{is_present}
use Rattle.proxy_history.specs.Requests.{pending, is_pending, has_request}
use Rattle.proxy_history.specs.Wording.{Wording}
use Rattle.proxy_history.specs.Noting.{rendering, receivers_of, end_if_overfull, end_overfull, note}
use Rattle.proxy_state.proofs.Filters.{has_filtered}
use Rattle.proxy_state.proofs.Expiring.{Shrinks, shrinks_more, shrinks_not}

-- a refusal at a deadline, or at a loss
abbrev pub refusal : Bool → Request → Fact
refusal true r = Expired r
refusal false r = Aborted r

-- what waits no more never waits again
pub still_gone : (r : Request) (earlier later : List Fact) → Shrinks earlier later → is_pending r earlier ≡ false → is_pending r later ≡ false
still_gone r earlier later S gone =
    false_from_ne_true (is_pending r later) (λ waits. let before : is_pending r earlier ≡ true = has_filtered S.passes r (pending earlier) (sym (ap (has_request r) S.left) ∙ waits) in absurd (cc))

none_left : (r : Request) (requests : List Request) → has_request r (filter (λ (q : Request). not (r.serial == q.serial)) requests) ≡ false
none_left r [] = refl
none_left r (q ∷ requests) =
    let step : (t : Bool) → (r.serial == q.serial) ≡ t → has_request r (cond (not t) (q ∷ filter (λ (q : Request). not (r.serial == q.serial)) requests) (filter (λ (q : Request). not (r.serial == q.serial)) requests)) ≡ false =
    λ t. elim t as (λ t. (r.serial == q.serial) ≡ t → has_request r (cond (not t) (q ∷ filter (λ (q : Request). not (r.serial == q.serial)) requests) (filter (λ (q : Request). not (r.serial == q.serial)) requests)) ≡ false) [
      | true ↦ λ e. none_left r requests
      | false ↦ λ e. ap (λ (t : Bool). t || has_request r (filter (λ (q : Request). not (r.serial == q.serial)) requests)) e ∙ none_left r requests
    ]
    in step (r.serial == q.serial) refl

module _ {Known : Type 0} (limits : Limits) (wording : Wording Known) where
  shrinks_if_ended : (c : ℕ) (past : List Fact) → Shrinks past (end_if_overfull limits wording c past)
  unfolding pending
  shrinks_if_ended c past =
      elim (is_present c past && (rendering limits wording c past).is_over) as (λ b. Shrinks past (if b then Ended c NoRoom ∷ past else past)) [
        | true ↦ record { passes = λ q. not (c == q.conn); left = refl }
        | false ↦ shrinks_not past
      ]

  shrinks_ended : (cs : List ℕ) (past : List Fact) → Shrinks past (end_overfull limits wording cs past)
  unfolding end_overfull
  shrinks_ended [] past = shrinks_not past
  shrinks_ended (c ∷ cs) past = shrinks_more past (end_if_overfull limits wording c past) _ (shrinks_if_ended c past) (shrinks_ended cs (end_if_overfull limits wording c past))

  -- with the ends that a fact brings
  pub shrinks_noted : (fact : Fact) (past : List Fact) → Shrinks past (fact ∷ past) → Shrinks past (note limits wording fact past)
  shrinks_noted fact past first = shrinks_more past (fact ∷ past) _ first (shrinks_ended (receivers_of fact) (fact ∷ past))

  module _ (flag : Bool) (r : Request) (past : List Fact) where
    waits_no_more : pending (refusal flag r ∷ past) ≡ filter (λ q. not (r.serial == q.serial)) (pending past)
    unfolding pending
    waits_no_more = elim flag as (λ b. pending (refusal b r ∷ past) ≡ filter (λ q. not (r.serial == q.serial)) (pending past)) [ true ↦ refl | false ↦ refl ]

    pub shrinks_refused : Shrinks past (note limits wording (refusal flag r) past)
    shrinks_refused = shrinks_noted (refusal flag r) past (record { passes = λ q. not (r.serial == q.serial); left = waits_no_more })

    pub refused_gone : is_pending r (note limits wording (refusal flag r) past) ≡ false
    refused_gone = still_gone r (refusal flag r ∷ past) _ (shrinks_ended (receivers_of (refusal flag r)) (refusal flag r ∷ past)) (ap (has_request r) waits_no_more ∙ none_left r (pending past))
