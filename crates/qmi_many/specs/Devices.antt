-- A QMI proxy of several devices.
use Rattle.std.specs.Prelude.{ℕ, Bool, false, not, ◌&&◌, List, [], length, position, get_or, Option, Some, None}
use Rattle.qmux_frame.specs.Frame.{size_of}
use Rattle.qmi_proxy.specs.Setup.{Setup}
use Rattle.qmi_proxy.specs.Limits.{connection_limit}
use Rattle.qmi_proxy.specs.Messages.{is_malformed, opens}
use Rattle.qmi_proxy.specs.History.{qmi_protocol}
use Rattle.many_history.specs.Devices.{Devices}

-- the paths of the devices, how long a request waits for its answer, and after which time an id is released whose holder went
abbrev pub setup_at : (paths : List (List ℕ)) → (time_limit : ℕ) → (release : Option ℕ) → ℕ → Setup
setup_at paths time_limit release d = record { device = get_or paths d []; time_limit = time_limit; starts_away = false; release = release }

-- the message opens this device
abbrev pub chooses : List ℕ → List ℕ → Bool
chooses m path = not (is_malformed m) && opens path m

abbrev pub or_first : Option ℕ → ℕ
or_first None = 0
or_first (Some d) = d

-- the device that a first message opens, and device 0 where it opens none
abbrev pub choice_among : List (List ℕ) → List ℕ → ℕ
choice_among paths m = or_first (position (chooses m) paths)

abbrev pub qmi_devices : (paths : List (List ℕ)) → (time_limit : ℕ) → (release : Option ℕ) → Devices Bool
qmi_devices paths time_limit release = record {
  count = length paths;
  protocol = λ d. qmi_protocol (setup_at paths time_limit release d);
  size = size_of;
  choice = choice_among paths;
  limit = connection_limit;
}
