-- What is kept of a client.
use Rattle.std.specs.Prelude.{false, []}
use Rattle.mbim_proxy.specs.Setup.{mbim_setup}
use Rattle.mbim_proxy.specs.Known.{fresh}
use Rattle.mbim_state.specs.Core.{Client, client_of}

-- one that joined a proxy as it is served, of any device
abbrev pub newcomer : Client
newcomer = client_of (fresh (mbim_setup [] 0 false))
