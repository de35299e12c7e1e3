-- A core of the MBIM proxy stands for its events.
use Rattle.std.proofs.Common.{◌≡◌, ℕ, Bool, List, [], ◌∷◌, refl, ap, sym, ◌∙◌, subst, arith}
use Rattle.proxy_history.specs.Events.{Event}
use Rattle.proxy_history.specs.Modem.{now, is_away}
use Rattle.proxy_state.specs.Stands.{CanStep}
use Rattle.proxy_state.proofs.Steps as proxy
use Rattle.mbim_proxy.specs.Setup.{Setup, mbim_setup}
use Rattle.mbim_proxy.specs.History.{mbim_protocol}
use Rattle.mbim_state.specs.Core.{MbimCore, kept_of, Stands, StandsAfter, opened_core, HasNumbers}
use Rattle.mbim_state.specs.Transitions.{mbim_handlers, step}
use Rattle.mbim_state.proofs.Regular.{Regular}
use Rattle.mbim_state.proofs.Faithful.{is_faithful}

module _ (s : Setup) (within : HasNumbers s) where
  pub stands_step : (event : Event) (events : List Event) (core : MbimCore) → CanStep (mbim_handlers s) event core → Stands s events core → StandsAfter s (event ∷ events) (step s event core)
  stands_step event events core can S = proxy.stands_step (mbim_protocol s) (kept_of s) (mbim_handlers s) (Regular s) (is_faithful s within) event events core can S

  -- nothing has happened yet
  pub stands_open : (core : MbimCore) → core ≡ opened_core s → Stands s [] core
  unfolding now is_away
  stands_open core is = subst (Stands s []) (sym is) (proxy.stands_open (mbim_protocol s) (kept_of s) (opened_core s) refl refl refl)

  -- an event and a core that are known by equations
  pub stands_as : (event known : Event) (old new : MbimCore) → event ≡ known → new ≡ step s known old → CanStep (mbim_handlers s) event old → (events : List Event) → Stands s events old → StandsAfter s (event ∷ events) new
  stands_as event known old new same is can events S =
      subst (StandsAfter s (event ∷ events)) (sym (is ∙ ap (λ (e : Event). step s e old) (sym same))) (stands_step event events old can S)

-- a proxy has them as it is served
pub has_numbers : (device : List ℕ) (time_limit : ℕ) (starts_away : Bool) → HasNumbers (mbim_setup device time_limit starts_away)
has_numbers device time_limit starts_away = λ space. omega arith
