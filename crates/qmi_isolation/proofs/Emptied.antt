-- Where all that waits is given up, nothing waits any more.
use Rattle.std.proofs.Common.{◌≡◌, ◌⊎◌, ℕ, zero, Bool, true, false, not, ◌==◌, if◌then◌else◌, List, [], ◌∷◌, arith, ⊎_elim, inl, inr, refl, ap, sym, ◌∙◌, subst, Contains}
use Rattle.std.proofs.lemmas.Bool.{eq-eqb}
use Rattle.std.proofs.lemmas.List.Elements.{All-contains, All-from_recursion, Contains-append_left, Contains-append_right}
use Rattle.qmux_frame.specs.Head.{is_control}
use Rattle.proxy_history.specs.Facts.{Fact, Request, Aborted}
use Rattle.proxy_history.specs.Requests.{in_use, pending, is_pending, of_space}
use Rattle.proxy_history.specs.Noting.{each_pending, if_pending}
use Rattle.proxy_history.proofs.Lists.{Contains-nil, Contains-cons_cases, Contains-filter, Contains-filter_from, Contains-filter_passes}
use Rattle.proxy_history.proofs.Given.{contained_has}
use Rattle.proxy_history.proofs.Sound.{in_use_from_pending, kept_by_note}
use Rattle.qmi_proxy.specs.Limits.{qmi_limits}
use Rattle.qmi_proxy.specs.Spaces.{control_space, service_space}
use Rattle.qmi_proxy.specs.Text.{note, qmi_wording}
use Rattle.qmi_proxy.specs.Releases.{freed_if}
use Rattle.qmi_proxy.specs.FromModem.{in_expiry_order, refuse, abort_all}
use Rattle.qmi_proxy.specs.Regular.{IsPlaced, Regular}

module _ (device : List ℕ) where
  abbrev gives_up : Request → List Fact → List Fact
  gives_up r past = refuse device (Aborted r) r past

  freed : (own : Bool) (r q : Request) (past : List Fact) → Contains (pending (freed_if own r past)) q → Contains (pending past) q
  unfolding pending
  freed true r q past at = at
  freed false r q past at = at

  noted : (r q : Request) (past : List Fact) → Contains (pending (note device (Aborted r) past)) q → Contains (pending (Aborted r ∷ past)) q
  unfolding pending
  noted r q past =
      kept_by_note qmi_limits (qmi_wording device) (λ after. Contains (pending after) q → Contains (pending (Aborted r ∷ past)) q)
      (λ d before there kept ended. kept (Contains-filter_from (λ (x : Request). not (d == x.conn)) (pending before) q ended)) (Aborted r) past (λ at. at)

  -- whoever waits behind it waited where the fact was noted
  waits_behind : (r q : Request) (past : List Fact) → Contains (pending (gives_up r past)) q → Contains (pending (Aborted r ∷ past)) q
  waits_behind r q past at = noted r q past (freed (r.conn == 0) r q (note device (Aborted r) past) at)

  waited : (r q : Request) (past : List Fact) → Contains (pending (gives_up r past)) q → Contains (pending past) q
  unfolding pending
  waited r q past at = Contains-filter_from (λ (x : Request). not (r.serial == x.serial)) (pending past) q (waits_behind r q past at)

  -- it waits no more itself
  given_up : (r : Request) (past : List Fact) → Contains (pending (gives_up r past)) r → ⊥
  unfolding pending
  given_up r past at =
      let passes : not (r.serial == r.serial) ≡ true = Contains-filter_passes (λ (x : Request). not (r.serial == x.serial)) (pending past) r (waits_behind r r past at) in
      let clash : true ≡ false = sym passes ∙ ap not (eq-eqb r.serial r.serial refl) in
      absurd (cc)

  waited_if : (r q : Request) (past : List Fact) → Contains (pending (if_pending gives_up r past)) q → Contains (pending past) q
  waited_if r q past at = by (is_pending r past) at
    where
      by : (b : Bool) → Contains (pending (let after : List Fact = if b then gives_up r past else past in after)) q → Contains (pending past) q
      by true there = waited r q past there
      by false there = there

  given_up_if : (r : Request) (past : List Fact) → Contains (pending (if_pending gives_up r past)) r → ⊥
  given_up_if r past at = by (is_pending r past) refl at
    where
      by : (b : Bool) → is_pending r past ≡ b → Contains (pending (let after : List Fact = if b then gives_up r past else past in after)) r → ⊥
      by true is there = given_up r past there
      by false isnt there = let clash : true ≡ false = sym (contained_has (pending past) r there) ∙ isnt in absurd (cc)

  waited_each : (requests : List Request) (q : Request) (past : List Fact) → Contains (pending (each_pending gives_up requests past)) q → Contains (pending past) q
  unfolding each_pending
  waited_each [] q past at = at
  waited_each (r ∷ requests) q past at = waited_if r q past (waited_each requests q (if_pending gives_up r past) at)

  given_up_each : (requests : List Request) (q : Request) (past : List Fact) → Contains requests q → Contains (pending (each_pending gives_up requests past)) q → ⊥
  unfolding each_pending
  given_up_each [] q past of at = Contains-nil q of
  given_up_each (r ∷ requests) q past of at =
      ⊎_elim
      (λ (is : r ≡ q). given_up_if q past (subst (λ (x : Request). Contains (pending (if_pending gives_up x past)) q) is (waited_each requests q (if_pending gives_up r past) at)))
      (λ (later : Contains requests q). given_up_each requests q (if_pending gives_up r past) later at)
      (Contains-cons_cases q r requests of)

  -- ---- all of them ----

  space_is_one : (control : Bool) → ((if control then control_space else service_space) ≡ control_space) ⊎ ((if control then control_space else service_space) ≡ service_space)
  space_is_one true = inl refl
  space_is_one false = inr refl

  in_order : (requests : List Request) (q : Request) → (q.space ≡ control_space) ⊎ (q.space ≡ service_space) → Contains requests q → Contains (in_expiry_order requests) q
  in_order requests q (inl control) at =
      Contains-append_left (of_space control_space requests) (of_space service_space requests) q (Contains-filter (λ x. x.space == control_space) requests q at (eq-eqb q.space control_space control))
  in_order requests q (inr service) at =
      Contains-append_right (of_space control_space requests) (of_space service_space requests) q (Contains-filter (λ x. x.space == service_space) requests q at (eq-eqb q.space service_space service))

  none_in : (requests : List Request) → ((q : Request) → Contains requests q → ⊥) → requests ≡ []
  none_in [] none = refl
  none_in (q ∷ requests) none = absurd (none q (zero, omega arith, refl))

  pub all_given_up : (past : List Fact) → Regular past → pending (abort_all device past) ≡ []
  all_given_up past R =
      none_in (pending (abort_all device past))
      (λ q at.
      let old : Contains (pending past) q = waited_each (in_expiry_order (pending past)) q past at in
      let placed : IsPlaced q = All-contains IsPlaced (in_use past) q (All-from_recursion IsPlaced (in_use past) R.placed) (in_use_from_pending past q old) in
      given_up_each (in_expiry_order (pending past)) q past
      (in_order (pending past) q (subst (λ (space : ℕ). (space ≡ control_space) ⊎ (space ≡ service_space)) (sym placed.0) (space_is_one (is_control q.message))) old) at)
