-- What the core that a bench holds shows and keeps. Lists of events have the newest first.
use Rattle.std.specs.Prelude.{◌≡◌, ℕ, Bool, true, false, refl, List, []}
use Rattle.proxy_history.specs.Events.{Event}
use Rattle.proxy_history.specs.Connections.{contains}
use Rattle.proxy_history.specs.Proxy.{Proxy}
use Rattle.proxy_serving.specs.Face.{Face}
use Rattle.proxy_serving.specs.Cores.{Shows}
use Rattle.proxy_core.specs.Face as face
use Rattle.proxy_core.specs.Shows as shows
use Rattle.qmux_frame.specs.Frame as qmux
use Rattle.mbim_frame.specs.Frame as mbim
use Rattle.mbim_clients.specs.Client.{newcomer}
use Rattle.qmi_core.specs.Meaning.{qmi_meaning}
use Rattle.qmi_core.specs.Lawful as qmi_law
use Rattle.mbim_core.specs.Meaning.{mbim_meaning}
use Rattle.mbim_core.specs.Lawful as mbim_law
use Rattle.core_bench.specs.Nobody.{nothing_waits}
use Rattle.core_bench.specs.declared.held.Held.{Held}
use Rattle.core_bench.specs.declared.held.Held.TheVariants.{None, Qmi, Mbim}

-- where no core is held nobody is there, and nothing waits
abbrev pub nothing : Face
nothing = record { present = []; queue = λ c. []; modem_queue = []; modem_backlog = 0; dropped = []; away = false; time = 0; greatest = 0 }

abbrev pub face_of : Held → Face
face_of None = nothing
face_of (Qmi core) = face.face_of qmi_meaning core
face_of (Mbim core) = face.face_of mbim_meaning core

abbrev pub is_held : Held → Bool
is_held None = false
is_held (Qmi core) = true
is_held (Mbim core) = true

abbrev pub Keeps : Proxy → List Event → Held → Type 0
Keeps p past None = ⊥
Keeps p past (Qmi core) = face.Keeps qmi_meaning p past core
Keeps p past (Mbim core) = face.Keeps mbim_meaning p past core

pub shows_of : (p : Proxy) (past : List Event) (held : Held) → Keeps p past held → (is_held held ≡ true) × Shows p past (face_of held)
shows_of p past None kept = absurd kept
shows_of p past (Qmi core) kept = (refl, shows.shows_of qmi_meaning (record { opened = false }) qmux.size_of qmi_law.is_lawful p past core kept)
shows_of p past (Mbim core) kept = (refl, shows.shows_of mbim_meaning newcomer mbim.size_of mbim_law.is_lawful p past core kept)

pub nobody_of : (held : Held) (c : ℕ) → contains c (face_of held).present ≡ false → (face_of held).dropped ≡ [] → (face_of held).queue c ≡ []
nobody_of None c absent none = refl
nobody_of (Qmi core) c absent none = nothing_waits c core absent none
nobody_of (Mbim core) c absent none = nothing_waits c core absent none
