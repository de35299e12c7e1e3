-- Every request is in one of the two number spaces, so the order of refusals loses none.
use Rattle.std.proofs.Common.{◌≡◌, ◌↔◌, ◌⊎◌, ℕ, Bool, true, false, ◌==◌, if◌then◌else◌, List, refl, sym, inl, inr, ⊎_elim, subst, Contains}
use Rattle.std.proofs.lemmas.Bool.{eq-eqb}
use Rattle.std.proofs.lemmas.List.Elements.{Contains-append_left, Contains-append_right}
use Rattle.qmux_frame.specs.Head.{is_control}
use Rattle.proxy_history.specs.Events.{Event}
use Rattle.proxy_history.specs.Facts.{Fact, Request}
use Rattle.proxy_history.specs.Requests.{pending, of_space}
use Rattle.proxy_history.proofs.Lists.{Contains-filter}
use Rattle.proxy_history.proofs.Sound.{in_use_from_pending, forwarded_from_in_use}
use Rattle.proxy_history.proofs.Walk.{was_asked}
use Rattle.qmi_proxy.specs.Setup.{Setup}
use Rattle.qmi_proxy.specs.Spaces.{control_space, service_space}
use Rattle.qmi_proxy.specs.FromModem.{in_expiry_order}
use Rattle.qmi_proxy.specs.History.{qmi_protocol, history}
use Rattle.qmi_proxy.proofs.Walk.{Asks, only_those}
use Rattle.qmi_proxy.proofs.Sound.{requests_are_asked}

space_is_one : (control : Bool) → ((if control then control_space else service_space) ≡ control_space) ⊎ ((if control then control_space else service_space) ≡ service_space)
space_is_one true = inl refl
space_is_one false = inr refl

in_the_spaces : (s : Setup) (events : List Event) (r : Request) → Contains (pending (history s events)) r → (r.space ≡ control_space) ⊎ (r.space ≡ service_space)
in_the_spaces s events r at =
    let past : List Fact = history s events in
    let asked = was_asked (qmi_protocol s) (Asks s) past r (requests_are_asked s events) (forwarded_from_in_use past r (in_use_from_pending past r at)) in
    subst (λ (space : ℕ). (space ≡ control_space) ⊎ (space ≡ service_space)) (sym (⊎_elim (λ newest. newest.space) (λ own. own.space) asked.1)) (space_is_one (is_control r.message))

in_order : (requests : List Request) (r : Request) → (r.space ≡ control_space) ⊎ (r.space ≡ service_space) → Contains requests r → Contains (in_expiry_order requests) r
in_order requests r (inl control) at =
    Contains-append_left (of_space control_space requests) (of_space service_space requests) r (Contains-filter (λ q. q.space == control_space) requests r at (eq-eqb r.space control_space control))
in_order requests r (inr service) at =
    Contains-append_right (of_space control_space requests) (of_space service_space requests) r (Contains-filter (λ q. q.space == service_space) requests r at (eq-eqb r.space service_space service))

pub the_order_loses_none : (s : Setup) (events : List Event) (r : Request) → Contains (in_expiry_order (pending (history s events))) r ↔ Contains (pending (history s events)) r
the_order_loses_none s events r = (only_those (pending (history s events)) r, λ at. in_order (pending (history s events)) r (in_the_spaces s events r at) at)
