-- What a core of a proxy of several devices shows to whoever serves its clients, and the events that it may be told. Lists of events have the newest first.
use Rattle.std.specs.Prelude.{◌≡◌, ℕ, ◌+◌, ◌<◌, ◌≤◌, Bool, false, ◌==◌, nat_lt, List, [], ◌∷◌, length, drop, position, Option, Some, None}
use Rattle.std.specs.Option.{option_map}
use Rattle.proxy_history.specs.Events as history
use Rattle.proxy_history.specs.Coming.{piece_limit}
use Rattle.proxy_serving.specs.Face as one
use Rattle.many_history.specs.Events.{ManyEvent, Joined, Piece, Took, ModemPiece, ModemGone, ModemBack, ModemTook}
use Rattle.many_io.specs.Record.{without_device}
use Rattle.many_serving.specs.Proxy.{ManyProxy}

pub record ManyFace : Type 0 where
  -- how many devices there are
  pub devices : ℕ
  -- the connections that are there, in order of joining
  pub present : List ℕ
  -- the bytes that wait for a connection that is there
  pub queue : ℕ → List ℕ
  -- the bytes that wait for the modem of a device
  pub modem_queue : ℕ → List ℕ
  -- how many those are, and how many more its proxy may ask by itself while the modem only takes
  pub modem_backlog : ℕ → ℕ
  -- the connections that were dropped and weren't asked for yet, in order of dropping
  pub dropped : List ℕ
  -- whether the modem of a device is away
  pub away : ℕ → Bool
  -- the clock, in milliseconds
  pub time : ℕ
  -- the greatest name of a connection so far
  pub greatest : ℕ

-- ---- the events that may come ----

abbrev pub MayCome : ManyEvent → ManyFace → Type 0
MayCome (Joined c) face = face.greatest < c
MayCome (Piece c bytes) face = length bytes ≤ piece_limit
MayCome (Took c count) face = count ≤ length (face.queue c)
MayCome (ModemPiece d bytes) face = (d < face.devices) × (length bytes ≤ piece_limit)
MayCome (ModemGone d) face = d < face.devices
MayCome (ModemBack d) face = d < face.devices
MayCome (ModemTook d count) face = (d < face.devices) × (count ≤ length (face.modem_queue d))
MayCome _ face = Unit {0}

pub record CanMeet (event : ManyEvent) (face : ManyFace) : Type 0 where
  -- each connection that was dropped has been asked for
  pub hung_up : face.dropped ≡ []
  pub may_come : MayCome event face

-- the greatest name so far, once an event was met
abbrev pub greatest_after : ManyEvent → ℕ → ℕ
greatest_after event known = history.greatest_after (without_device event) known

-- it brings something in: a client, bytes or the time
abbrev pub BringsIn : ManyEvent → Type 0
BringsIn event = one.BringsIn (without_device event)

-- ---- what a core tells ----

-- the same modems are away
pub record SameAway (old new : ManyFace) : Type 0 where
  pub same : (d : ℕ) → d < old.devices → new.away d ≡ old.away d

-- of the others the same are
pub record SameAwayBut (d : ℕ) (old new : ManyFace) : Type 0 where
  pub same : (e : ℕ) → e < old.devices → (d == e) ≡ false → new.away e ≡ old.away e

-- the first of the dropped connections is asked for
pub record IsAsked (c : ℕ) (old new : ManyFace) : Type 0 where
  pub dropped : old.dropped ≡ c ∷ new.dropped
  pub devices : new.devices ≡ old.devices
  pub away : SameAway old new
  pub greatest : new.greatest ≡ old.greatest

abbrev pub NextDropped : {C : Type 0} → (C → ManyFace) → C → C → Option ℕ → Type 0
NextDropped face old new None = ((face old).dropped ≡ []) × (new ≡ old)
NextDropped face old new (Some c) = IsAsked c (face old) (face new)

-- the place of the first connection from this place on for which bytes wait
abbrev pub first_waiting : ManyProxy → List ManyEvent → ℕ → Option ℕ
first_waiting p past from = option_map (λ at. from + at) (position (λ c. nat_lt 0 (length (p.waiting c past))) (drop from (p.present past)))
