-- What serving has to remember beside a core.
use Rattle.std.specs.Prelude.{ℕ, zero, suc, ◌+◌, ◌==◌, ◌&&◌, nat_le, nat_lt, if◌then◌else◌, Bool, true, false, List, [], ◌∷◌, ◌++◌, Option, Some, None, length}
use Rattle.hub_io.specs.declared.settings.ServeEnd.{ServeEnd}
use Rattle.hub_io.specs.declared.settings.ServeEnd.TheVariants as end
use Rattle.hub_io.specs.declared.settings.Until.{Until}
use Rattle.many_history.specs.Events.{ManyEvent, Now}
use Rattle.many_serving.specs.Ends.{are_away}
use Rattle.serving_loop.specs.Face.{ManyFace}

-- when the last connection went, after an event that made one face of the other
abbrev pub emptied_after : ManyFace → ℕ → ManyFace → ℕ
emptied_after old emptied new = if length old.present == 0 then emptied else new.time

-- nobody has been there for so long, as a face and the time at which the last connection went tell it
abbrev pub is_idle_at : Option ℕ → ManyFace → ℕ → Bool
is_idle_at None face emptied = false
is_idle_at (Some limit) face emptied = length face.present == 0 && nat_le (emptied + limit) face.time

-- all devices are away, where their loss is to end the serving
abbrev pub is_lost_at : Bool → ManyFace → Bool
is_lost_at lost face = lost && are_away face.away face.devices

-- why the serving ends at an event, where it does
abbrev pub end_at : ManyEvent → Until → ManyFace → ℕ → Option ServeEnd
end_at (Now time) until face emptied = if is_idle_at until.empty face emptied then Some end.Empty else if is_lost_at until.lost face then Some end.Lost else None
end_at _ until face emptied = None

abbrev pub is_clock : ManyEvent → Bool
is_clock (Now time) = true
is_clock _ = false

-- the clock is told while the modem of this device is away
abbrev pub misses_modem : ManyEvent → ManyFace → ℕ → Bool
misses_modem event face d = is_clock event && face.away d

-- how many of the first so many devices are there
abbrev pub devices_there : (ℕ → Bool) → ℕ → ℕ
devices_there away zero = 0
devices_there away (suc count) = (if away count then 0 else 1) + devices_there away count

-- one more that takes nothing now, where it is one of the first 64
abbrev pub remembering : ℕ → List ℕ → List ℕ
remembering name blocked = if nat_lt (length blocked) 64 then blocked ++ name ∷ [] else blocked
