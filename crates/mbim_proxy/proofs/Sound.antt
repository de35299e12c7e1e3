-- Each fact of an MBIM proxy's history may follow those before it.
use Rattle.std.proofs.Common.{List}
use Rattle.proxy_history.specs.Events.{Event}
use Rattle.proxy_history.specs.Sound.{IsSound}
use Rattle.proxy_history.specs.Adding.{AreAsked}
use Rattle.proxy_history.proofs.Walk as walk
use Rattle.mbim_proxy.specs.Setup.{Setup}
use Rattle.mbim_proxy.specs.History.{mbim_protocol, history}
use Rattle.mbim_proxy.proofs.Walk.{Asks, orderly}

module _ (s : Setup) where
  pub histories_are_sound : (events : List Event) → IsSound s.limits (history s events)
  histories_are_sound events = walk.histories_are_sound (mbim_protocol s) (Asks s) (orderly s) events

  pub requests_are_asked : (events : List Event) → AreAsked (mbim_protocol s) (Asks s) (history s events)
  requests_are_asked events = walk.requests_are_asked (mbim_protocol s) (Asks s) (orderly s) events
