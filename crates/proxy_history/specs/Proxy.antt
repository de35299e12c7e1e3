-- What a proxy's definitions say of the events that it met, and the rules that they keep. Lists of events have the newest first.
use Rattle.std.specs.Prelude.{◌≡◌, ℕ, ◌<◌, ◌≤◌, Bool, true, false, ◌==◌, List, [], ◌∷◌, ◌++◌, length, drop}
use Rattle.proxy_history.specs.Events.{Event, Joined, Left, ModemGone, ModemBack, Took, ModemTook}
use Rattle.proxy_history.specs.Connections.{contains, without}

pub record Proxy : Type 0 where
  -- all bytes for a client since it joined
  pub text : ℕ → List Event → List ℕ
  -- those that wait for it
  pub waiting : ℕ → List Event → List ℕ
  -- the bytes that wait for the modem
  pub waiting_for_modem : List Event → List ℕ
  -- how many those are, and how many more the proxy may ask by itself while the modem only takes
  pub modem_backlog : List Event → ℕ
  pub is_away : List Event → Bool
  -- the connections that are there, in order of joining
  pub present : List Event → List ℕ
  -- the connections that the last event ended, but those that went by themselves
  pub dropped : List Event → List ℕ
  -- the clock, in milliseconds
  pub time : List Event → ℕ

-- ---- the rules ----

-- the bytes for a client stay, more may come behind them, and what came waits
pub record HasGrown (p : Proxy) (c : ℕ) (before after : List Event) : Type 0 where
  pub more : List ℕ
  pub text : p.text c after ≡ p.text c before ++ more
  pub waiting : p.waiting c after ≡ p.waiting c before ++ more

-- the event isn't the client's joining, and its socket takes nothing by it
abbrev pub LeavesBytesOf : ℕ → Event → Type 0
LeavesBytesOf c (Joined d) = (d == c) ≡ false
LeavesBytesOf c (Took d count) = (d == c) ≡ false
LeavesBytesOf c _ = Unit {0}

-- a taking of the modem takes the first of the bytes that wait for it, and more may come behind the others
pub record IsTakenByModem (p : Proxy) (count : ℕ) (past : List Event) : Type 0 where
  pub more : List ℕ
  pub waiting : p.waiting_for_modem (ModemTook count ∷ past) ≡ drop count (p.waiting_for_modem past) ++ more

-- the rules by which a proxy can be served over a hub, whatever its protocol
pub record IsLawful (p : Proxy) : Type 0 where
  -- ---- before any event ----
  -- nobody is there
  pub nobody : p.present [] ≡ []
  -- nobody is to be hung up
  pub none_dropped : p.dropped [] ≡ []
  -- all bytes for a client wait
  pub no_bytes : (c : ℕ) → p.text c [] ≡ p.waiting c []
  -- no bytes wait for the modem
  pub no_modem_bytes : p.waiting_for_modem [] ≡ []
  -- ---- the bytes for a client ----
  -- all of them wait when it joins
  pub joined : (c : ℕ) (past : List Event) → p.text c (Joined c ∷ past) ≡ p.waiting c (Joined c ∷ past)
  -- they only grow
  pub grown : (c : ℕ) (event : Event) (past : List Event) → LeavesBytesOf c event → HasGrown p c past (event ∷ past)
  -- a taking leaves them
  pub taken_text : (c count : ℕ) (past : List Event) → contains c (p.present past) ≡ true → p.text c (Took c count ∷ past) ≡ p.text c past
  -- and takes the first of those that wait
  pub taken_waiting : (c count : ℕ) (past : List Event) → contains c (p.present past) ≡ true → p.waiting c (Took c count ∷ past) ≡ drop count (p.waiting c past)
  -- ---- what brings no bytes to others ----
  -- the taking of another client
  pub took_other : (c count d : ℕ) (past : List Event) → (c == d) ≡ false → p.waiting d (Took c count ∷ past) ≡ p.waiting d past
  -- its leaving
  pub left_other : (c d : ℕ) (past : List Event) → (c == d) ≡ false → p.waiting d (Left c ∷ past) ≡ p.waiting d past
  -- the modem's taking
  pub modem_took_other : (count d : ℕ) (past : List Event) → p.waiting d (ModemTook count ∷ past) ≡ p.waiting d past
  -- ---- who is there ----
  -- a taking ends nobody
  pub took_present : (c count : ℕ) (past : List Event) → p.present (Took c count ∷ past) ≡ p.present past
  -- nor does the modem's
  pub modem_took_present : (count : ℕ) (past : List Event) → p.present (ModemTook count ∷ past) ≡ p.present past
  -- who leaves isn't there any more, and the others are
  pub left_present : (c : ℕ) (past : List Event) → contains c (p.present past) ≡ true → p.present (Left c ∷ past) ≡ without c (p.present past)
  -- ---- the modem ----
  -- a taking neither loses it nor brings it back
  pub took_away : (c count : ℕ) (past : List Event) → p.is_away (Took c count ∷ past) ≡ p.is_away past
  -- nor does a leaving
  pub left_away : (c : ℕ) (past : List Event) → p.is_away (Left c ∷ past) ≡ p.is_away past
  -- one that is gone while bytes wait for it is away
  pub gone_away : (past : List Event) → 0 < length (p.waiting_for_modem past) → p.is_away (ModemGone ∷ past) ≡ true
  -- it takes the first of the bytes that wait for it
  pub modem_taken : (count : ℕ) (past : List Event) → IsTakenByModem p count past
  -- and where it takes some of them its backlog is less
  pub backlog_lessens : (count : ℕ) (past : List Event) → 0 < count → count ≤ length (p.waiting_for_modem past) → p.modem_backlog (ModemTook count ∷ past) < p.modem_backlog past
  -- ---- who is to be hung up ----
  -- nobody once a client's socket took bytes
  pub took_dropped : (c count : ℕ) (past : List Event) → p.dropped (Took c count ∷ past) ≡ []
  -- once a client left by itself
  pub left_dropped : (c : ℕ) (past : List Event) → p.dropped (Left c ∷ past) ≡ []
  -- once the modem took bytes
  pub modem_took_dropped : (count : ℕ) (past : List Event) → p.dropped (ModemTook count ∷ past) ≡ []
  -- or once it came back
  pub back_dropped : (past : List Event) → p.dropped (ModemBack ∷ past) ≡ []
