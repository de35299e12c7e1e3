-- What QMI means for a core. It has nothing at hand.
use Rattle.std.specs.Prelude.{ℕ, Bool, false, List}
use Rattle.std.specs.Str.{encode_utf8_all}
use Rattle.hub_io.specs.declared.settings.Limits.{Limits}
use Rattle.qmi_proxy.specs.History.{qmi_protocol}
use Rattle.qmi_proxy.specs.Regular.{Regular}
use Rattle.qmi_proxy.specs.Setup.{Setup}
use Rattle.qmi_state.specs.declared.client.Client.{Client}
use Rattle.qmi_state.specs.Core.{ModemSide, kept_of}
use Rattle.qmi_state.specs.Transitions.{qmi_handlers}
use Rattle.proxy_core.specs.Meaning.{Meaning}

-- the modem is there at the opening; `device` has the bytes of the device's path
abbrev pub setup_of : Limits → (device : List ℕ) → Setup
setup_of limits device = record { device = device; time_limit = limits.time; starts_away = false; release = limits.release }

-- a core stands for events by any setup by which it keeps them
abbrev pub qmi_meaning : Meaning Client ModemSide (Unit {0})
qmi_meaning = record {
  Lasting = Unit {0};
  lasting = λ side. tt;
  handlers = λ l. qmi_handlers;
  agrees = λ clients side hand. Unit {0};
  Setup = Setup;
  Known = Bool;
  protocol = qmi_protocol;
  kept = kept_of;
  fine = λ s. Regular;
  serves = λ s l. Unit {0};
  own_bytes = λ x. 0;
  own_bytes_by = λ s past. 0;
  opening = λ limits path. setup_of limits (encode_utf8_all path);
}
