-- What is kept beside the clients' connections.
use Rattle.std.specs.Prelude.{Bool, true, false}
use Rattle.mbim_proxy.specs.ModemStates.{ModemState, IsAway, IsShut, IsOpening, IsReady}
use Rattle.mbim_fragments.specs.Runs.{Joining, Whole}
use Rattle.mbim_clients.specs.declared.modem.Modem.{Modem}
use Rattle.mbim_clients.specs.declared.modem.Modem.TheVariants as modem

abbrev pub state_of : Modem → ModemState
state_of modem.Away = IsAway
state_of modem.Shut = IsShut
state_of modem.Opening = IsOpening
state_of modem.Ready = IsReady

-- a body became whole
abbrev pub is_whole : Joining → Bool
is_whole (Whole body) = true
is_whole _ = false
