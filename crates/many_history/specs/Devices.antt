-- What a proxy of several devices is set up with. Each device has a proxy of its own. `Known` is what a client's own view tells of it.
use Rattle.std.specs.Prelude.{ℕ, ◌<◌, List, [], ◌∷◌, Option, Some, None, if◌then◌else◌}
use Rattle.framing.specs.Cutting.{cut}
use Rattle.proxy_history.specs.Streams.{Framing, is_invalid}
use Rattle.proxy_history.specs.Protocol.{Protocol}

pub record Devices (Known : Type 0) : Type 0 where
  -- how many there are
  pub count : ℕ
  -- that of each device, counted from 0
  pub protocol : ℕ → Protocol Known
  -- how a client's stream is cut while it hasn't chosen a device
  pub size : Framing
  -- the device that a client's first message chooses
  pub choice : List ℕ → ℕ
  -- how many connections may be there
  pub limit : ℕ

-- there is one, and each first message chooses one that there is
pub record HasDevices {Known : Type 0} (s : Devices Known) : Type 0 where
  pub some : 0 < s.count
  pub choice : (m : List ℕ) → s.choice m < s.count

-- ---- the device that a client chooses ----

-- that of its first message, device 0 where its stream begins none, and none yet where no message is whole
abbrev pub choice_of_cut : {Known : Type 0} → Devices Known → List (List ℕ) → (rest : List ℕ) → Option ℕ
choice_of_cut s [] rest = if is_invalid (s.size rest) then Some 0 else None
choice_of_cut s (m ∷ messages) rest = Some (s.choice m)

abbrev pub choice_on : {Known : Type 0} → Devices Known → (stream : List ℕ) → Option ℕ
choice_on s stream = let c = cut s.size stream in choice_of_cut s c.messages c.rest
