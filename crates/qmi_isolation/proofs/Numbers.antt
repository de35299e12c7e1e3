-- A request is forwarded under a number that none has in use.
use Rattle.std.proofs.Common.{◌≡◌, false, List, [], ◌∷◌, ◌++◌}
use Rattle.proxy_history.specs.Events.{Event}
use Rattle.proxy_history.specs.Facts.{Fact, Request, Forwarded}
use Rattle.proxy_history.specs.Connections.{contains}
use Rattle.proxy_history.specs.Requests.{numbers_in_use}
use Rattle.proxy_history.specs.Sound.{IsSound}
use Rattle.proxy_history.proofs.Given as given
use Rattle.qmi_proxy.specs.Limits.{qmi_limits}
use Rattle.qmi_proxy.specs.Setup.{Setup}
use Rattle.qmi_proxy.specs.History.{history}
use Rattle.qmi_proxy.proofs.Sound.{histories_are_sound}
use Rattle.qmi_proxy.proofs.Apart.{within}

pub sound_behind : (later past : List Fact) → IsSound qmi_limits (later ++ past) → IsSound qmi_limits past
sound_behind [] past sound = sound
sound_behind (fact ∷ later) past sound = sound_behind later past sound.1

pub numbers_are_free_when_given : (s : Setup) (events : List Event) (later past : List Fact) (r : Request) → history s events ≡ later ++ Forwarded r ∷ past → contains r.number (numbers_in_use r.space past) ≡ false
numbers_are_free_when_given s events later past r whole = given.numbers_are_free_when_given qmi_limits within (history s events) later past r (histories_are_sound s events) whole
