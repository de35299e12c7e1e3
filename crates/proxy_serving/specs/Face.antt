-- What a core of a proxy shows to whoever serves its clients, and the events that it may be told. Lists of events have the newest first.
use Rattle.std.specs.Prelude.{◌≡◌, ℕ, ◌+◌, ◌<◌, ◌≤◌, Bool, nat_lt, List, [], ◌∷◌, length, drop, position, Option, Some, None}
use Rattle.std.specs.Option.{option_map}
use Rattle.proxy_history.specs.Events.{Event, Joined, Piece, ModemPiece, Now, Took, ModemTook}
use Rattle.proxy_history.specs.Coming.{piece_limit}
use Rattle.proxy_history.specs.Proxy.{Proxy}

pub record Face : Type 0 where
  -- the connections that are there, in order of joining
  pub present : List ℕ
  -- the bytes that wait for a connection that is there
  pub queue : ℕ → List ℕ
  -- the bytes that wait for the modem
  pub modem_queue : List ℕ
  -- how many those are, and how many more the proxy may ask by itself while the modem only takes
  pub modem_backlog : ℕ
  -- the connections that were dropped and weren't asked for yet, in order of dropping
  pub dropped : List ℕ
  -- whether the modem is away
  pub away : Bool
  -- the clock, in milliseconds
  pub time : ℕ
  -- the greatest name of a connection so far
  pub greatest : ℕ

-- ---- the events that may come ----

abbrev pub MayCome : Event → Face → Type 0
MayCome (Joined c) face = face.greatest < c
MayCome (Piece c bytes) face = length bytes ≤ piece_limit
MayCome (ModemPiece bytes) face = length bytes ≤ piece_limit
MayCome (Took c count) face = count ≤ length (face.queue c)
MayCome (ModemTook count) face = count ≤ length face.modem_queue
MayCome _ face = Unit {0}

pub record CanMeet (event : Event) (face : Face) : Type 0 where
  -- each connection that was dropped has been asked for
  pub hung_up : face.dropped ≡ []
  pub may_come : MayCome event face

-- it brings something in: a client, bytes or the time
abbrev pub BringsIn : Event → Type 0
BringsIn (Joined c) = Unit {0}
BringsIn (Piece c bytes) = Unit {0}
BringsIn (ModemPiece bytes) = Unit {0}
BringsIn (Now time) = Unit {0}
BringsIn _ = ⊥

-- ---- what a core tells ----

-- the first of the dropped connections is asked for
pub record IsAsked (c : ℕ) (old new : Face) : Type 0 where
  pub dropped : old.dropped ≡ c ∷ new.dropped
  pub away : new.away ≡ old.away
  pub greatest : new.greatest ≡ old.greatest

abbrev pub NextDropped : {C : Type 0} → (C → Face) → C → C → Option ℕ → Type 0
NextDropped face old new None = ((face old).dropped ≡ []) × (new ≡ old)
NextDropped face old new (Some c) = IsAsked c (face old) (face new)

-- the place of the first connection from this place on for which bytes wait
abbrev pub first_waiting : Proxy → List Event → ℕ → Option ℕ
first_waiting p past from = option_map (λ at. from + at) (position (λ c. nat_lt 0 (length (p.waiting c past))) (drop from (p.present past)))
