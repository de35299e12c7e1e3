-- Where all that waits is given up, nothing waits any more.
use Rattle.std.proofs.Common.{◌≡◌, Bool, true, false, not, ◌==◌, if◌then◌else◌, List, [], ◌∷◌, ⊎_elim, refl, ap, sym, ◌∙◌, subst, Contains}
use Rattle.std.proofs.lemmas.Bool.{eq-eqb}
use Rattle.mbim_frame.specs.declared.status.TheConstants.{FAILURE}
use Rattle.std.proofs.lemmas.List.Elements.{All-contains_itself, recursion_from_All}
use Rattle.proxy_history.specs.Facts.{Fact, Request, Aborted, OpeningEnded}
use Rattle.proxy_history.specs.Requests.{pending, is_pending}
use Rattle.proxy_history.specs.Noting.{each_pending, if_pending}
use Rattle.proxy_history.specs.Unanswered.{abort_all}
use Rattle.proxy_history.proofs.Lists.{Contains-nil, Contains-cons_cases, Contains-filter_from, Contains-filter_passes}
use Rattle.proxy_history.proofs.Given.{contained_has}
use Rattle.proxy_history.proofs.Sound.{kept_by_note}
use Rattle.proxy_history.proofs.Noted.{kept_by_each}
use Rattle.mbim_proxy.specs.Setup.{Setup}
use Rattle.mbim_proxy.specs.Text.{mbim_wording, note}
use Rattle.mbim_proxy.specs.ModemStates.{is_own_open}
use Rattle.mbim_proxy.specs.Lists.{waiting}
use Rattle.mbim_proxy.specs.FromModem.{end_opening, refuse, in_order}
use Rattle.mbim_isolation.proofs.Places.{none_in}

module _ (s : Setup) where
  abbrev gives_up : Request → List Fact → List Fact
  gives_up r past = refuse s (Aborted r) r past

  noted : (fact : Fact) (q : Request) (past : List Fact) → Contains (pending (note s fact past)) q → Contains (pending (fact ∷ past)) q
  unfolding pending
  noted fact q past =
      kept_by_note s.limits (mbim_wording s) (λ after. Contains (pending after) q → Contains (pending (fact ∷ past)) q)
      (λ d before there kept ended. kept (Contains-filter_from (λ (x : Request). not (d == x.conn)) (pending before) q ended)) fact past (λ at. at)

  opening_ended : (own : Bool) (q : Request) (past : List Fact) → Contains (pending (let after : List Fact = if own then end_opening s FAILURE past else past in after)) q → Contains (pending past) q
  unfolding pending
  opening_ended true q past at = noted (OpeningEnded FAILURE (waiting s past)) q past at
  opening_ended false q past at = at

  -- whoever waits behind it waited where the fact was noted
  waits_behind : (r q : Request) (past : List Fact) → Contains (pending (gives_up r past)) q → Contains (pending (Aborted r ∷ past)) q
  waits_behind r q past at = noted (Aborted r) q past (opening_ended (is_own_open r) q (note s (Aborted r) past) at)

  waited : (r q : Request) (past : List Fact) → Contains (pending (gives_up r past)) q → Contains (pending past) q
  unfolding pending
  waited r q past at = Contains-filter_from (λ (x : Request). not (r.serial == x.serial)) (pending past) q (waits_behind r q past at)

  -- it waits no more itself
  given_up_if : (r : Request) (past : List Fact) → Contains (pending (if_pending gives_up r past)) r → ⊥
  unfolding pending
  given_up_if r past at = by (is_pending r past) refl at
    where
      by : (b : Bool) → is_pending r past ≡ b → Contains (pending (let after : List Fact = if b then gives_up r past else past in after)) r → ⊥
      by true is there =
          let passes : not (r.serial == r.serial) ≡ true = Contains-filter_passes (λ (x : Request). not (r.serial == x.serial)) (pending past) r (waits_behind r r past there) in
          let clash : true ≡ false = sym passes ∙ ap not (eq-eqb r.serial r.serial refl) in
          absurd (cc)
      by false isnt there = let clash : true ≡ false = sym (contained_has (pending past) r there) ∙ isnt in absurd (cc)

  waited_each : (requests : List Request) (q : Request) (past : List Fact) → Contains (pending (each_pending gives_up requests past)) q → Contains (pending past) q
  waited_each requests q past =
      kept_by_each (λ after. Contains (pending after) q → Contains (pending past) q) (Contains requests) gives_up (λ r before of kept at. kept (waited r q before at)) requests past
      (recursion_from_All (Contains requests) requests (All-contains_itself requests)) (λ at. at)

  given_up_each : (requests : List Request) (q : Request) (past : List Fact) → Contains requests q → Contains (pending (each_pending gives_up requests past)) q → ⊥
  unfolding each_pending
  given_up_each [] q past of at = Contains-nil q of
  given_up_each (r ∷ requests) q past of at =
      ⊎_elim
      (λ (is : r ≡ q). given_up_if q past (subst (λ (x : Request). Contains (pending (if_pending gives_up x past)) q) is (waited_each requests q (if_pending gives_up r past) at)))
      (λ (later : Contains requests q). given_up_each requests q (if_pending gives_up r past) later at)
      (Contains-cons_cases q r requests of)

  pub all_given_up : (past : List Fact) → pending (abort_all (refuse s) in_order past) ≡ []
  all_given_up past = none_in (pending (abort_all (refuse s) in_order past)) (λ q at. given_up_each (pending past) q past (waited_each (pending past) q past at) at)
