-- The modem's side, from its fields.
use Rattle.qmi_state.specs.Core.{ModemSide}
use Rattle.qmi_core.specs.declared.side.ModemSide.TheInside.{Inside}

-- what the fields of the modem's side stand for
abbrev pub side_in : Inside → ModemSide
side_in i = record { device = i.device; time_limit = i.time_limit; release = i.release; time = i.time; away = i.away; traffic = i.traffic }
