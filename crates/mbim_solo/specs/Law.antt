-- What a client of the MBIM proxy gets beside others, it gets alone: what the law asks, and what it rests on. Lists of events and views have the newest first.
use Rattle.std.specs.Prelude.{◌≡◌, ◌≢◌, ◌<◌, ◌≤◌, ◌^◌, ℕ, Bool, List, [], ◌∷◌, ◌++◌}
use Rattle.std.specs.List.{concat}
use Rattle.mbim_frame.specs.Frame.{size_of}
use Rattle.proxy_history.specs.Events.{Event}
use Rattle.proxy_history.specs.Streams.{Framing}
use Rattle.proxy_history.specs.Items.{Item, client_items}
use Rattle.proxy_solo.specs.Law as alone
use Rattle.mbim_proxy.specs.Setup.{Setup, the_space, mbim_setup}
use Rattle.mbim_proxy.specs.History.{mbim_protocol, history}
use Rattle.mbim_solo.specs.Solo.{parts, mbim_alone, solo}

-- ---- the client and its proxy ----

-- the limits leave room for what the proxy asks by itself: a number for its request to open, the 16 bytes of that, and the 28 bytes of an answer's body
pub record IsRoomy (s : Setup) : Type 0 where
  pub some : 0 < s.limits.in_use the_space
  pub enough : (space : ℕ) → s.limits.in_use space ≤ s.limits.top space
  pub top : s.limits.top the_space < 2 ^ 32
  pub body : 28 ≤ s.longest_body
  pub short : s.longest_body < 2 ^ 32
  pub room : 16 ≤ s.limits.modem_outbox

-- so has a proxy as it is served
abbrev pub ServedProxiesAreRoomy : Type 0
ServedProxiesAreRoomy = (device : List ℕ) (time_limit : ℕ) (starts_away : Bool) → IsRoomy (mbim_setup device time_limit starts_away)

-- these events may come, and nothing that the client met tells of others
abbrev pub IsLetAlone : Setup → ℕ → List Event → Type 0
IsLetAlone s c events = alone.IsLetAlone (mbim_protocol s) c events

-- ---- what a client gets that was let alone; the proxy itself, whose requests have sender 0, is no client ----

-- its bytes are those that it gets alone
abbrev pub GetsTheSameAlone : Type 0
GetsTheSameAlone = (s : Setup) (c : ℕ) (events : List Event) → IsRoomy s → c ≢ 0 → IsLetAlone s c events → alone.GetsTheSame (mbim_protocol s) (mbim_alone s) c events

-- what it meets alone may come: a proxy can be run on it
abbrev pub AloneIsSound : Type 0
AloneIsSound = (s : Setup) (c : ℕ) (events : List Event) → IsRoomy s → c ≢ 0 → IsLetAlone s c events → alone.MayComeAlone (mbim_protocol s) (mbim_alone s) c events

-- the history of all, and that of the client alone
abbrev pub HistoriesAreSame : Type 0
HistoriesAreSame = (s : Setup) (c : ℕ) (events : List Event) → IsRoomy s → c ≢ 0 → IsLetAlone s c events → alone.IsSame (mbim_protocol s) (mbim_alone s) c (history s events) (history s (solo s c events))

-- ---- the client's bytes, cut at the ends of its messages ----

-- what pieces of a client bring, one after the other; `before` are its bytes before them
unfoldable pub brought : Framing → ℕ → (before : List ℕ) → (pieces : List (List ℕ)) → List Item
brought size c before [] = []
brought size c before (piece ∷ pieces) = client_items size c before piece ++ brought size c (before ++ piece) pieces

-- the parts are the piece, and bring what it brings
pub record AreThePiece (c : ℕ) (before piece : List ℕ) : Type 0 where
  pub bytes : concat (parts before piece) ≡ piece
  pub items : brought size_of c before (parts before piece) ≡ client_items size_of c before piece

abbrev pub PartsAreThePiece : Type 0
PartsAreThePiece = (c : ℕ) (before piece : List ℕ) → AreThePiece c before piece
