-- What a core of the MBIM proxy has asked the modem for by itself.
use Rattle.std.specs.Prelude.{◌≡◌, true, is_some}
use Rattle.proxy_history.specs.Events.{Event}
use Rattle.mbim_frame.specs.Frame.{size_of}
use Rattle.mbim_proxy.specs.Forwarding.{own_subscribe}
use Rattle.mbim_state.specs.Core.{MbimState, MbimCore, setup_of}
use Rattle.mbim_state.specs.Transitions.{merged_in, is_free, number_at}
use Rattle.mbim_core.specs.Meaning.{mbim_meaning}
use Rattle.proxy_core.specs.Core.{step}

-- the list last asked for is all that the open clients subscribe to, where the modem may be asked, and a number and room are there for it
abbrev pub IsAskedForAll : MbimState → Type 0
IsAskedForAll x =
    is_free x.beside ≡ true → is_some (number_at (setup_of x.beside) (own_subscribe (merged_in x.table.present)) x.beside) ≡ true → x.beside.last_list ≡ merged_in x.table.present

-- behind each event
abbrev pub TheModemIsAskedForAll : Type 0
TheModemIsAskedForAll = (event : Event) (core : MbimCore) → IsAskedForAll (step mbim_meaning size_of event core).state
