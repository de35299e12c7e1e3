-- The rules by which a proxy of several devices can be served over a hub, where the names of those who join rise. Lists of events have the newest first.
use Rattle.std.specs.Prelude.{◌≡◌, ℕ, ◌<◌, ◌≤◌, true, false, ◌==◌, List, [], ◌∷◌, ◌++◌, length, drop, Option, Some, None}
use Rattle.proxy_history.specs.Connections.{contains, without}
use Rattle.proxy_history.specs.Proxy.{LeavesBytesOf}
use Rattle.many_history.specs.Events.{ManyEvent, Joined, Left, Took, ModemGone, ModemBack, ModemTook}
use Rattle.many_history.specs.Coming.{NamesRise}
use Rattle.many_io.specs.Record.{without_device}
use Rattle.many_serving.specs.Proxy.{ManyProxy}

-- the bytes for a client stay, more may come behind them, and what came waits
pub record HasGrown (p : ManyProxy) (c : ℕ) (before after : List ManyEvent) : Type 0 where
  pub more : List ℕ
  pub text : p.text c after ≡ p.text c before ++ more
  pub waiting : p.waiting c after ≡ p.waiting c before ++ more

-- a taking of a device's modem takes the first of the bytes that wait for it, and more may come behind the others
pub record IsTakenByModem (p : ManyProxy) (d count : ℕ) (past : List ManyEvent) : Type 0 where
  pub more : List ℕ
  pub waiting : p.waiting_for_modem d (ModemTook d count ∷ past) ≡ drop count (p.waiting_for_modem d past) ++ more

-- whose modem takes bytes, is gone or comes back
abbrev pub modem_of : ManyEvent → Option ℕ
modem_of (ModemTook d count) = Some d
modem_of (ModemGone d) = Some d
modem_of (ModemBack d) = Some d
modem_of _ = None

pub record IsLawful (p : ManyProxy) : Type 0 where
  -- ---- before any event ----
  -- nobody is there
  pub nobody : p.present [] ≡ []
  -- nobody is to be hung up
  pub none_dropped : p.dropped [] ≡ []
  -- all bytes for a client wait
  pub no_bytes : (c : ℕ) → p.text c [] ≡ p.waiting c []
  -- no bytes wait for any modem
  pub no_modem_bytes : (d : ℕ) → d < p.devices → p.waiting_for_modem d [] ≡ []
  -- ---- the bytes for a client ----
  -- all of them wait when it joins
  pub joined : (c : ℕ) (past : List ManyEvent) → NamesRise (Joined c ∷ past) → p.text c (Joined c ∷ past) ≡ p.waiting c (Joined c ∷ past)
  -- they only grow
  pub grown : (c : ℕ) (event : ManyEvent) (past : List ManyEvent) → NamesRise (event ∷ past) → LeavesBytesOf c (without_device event) → HasGrown p c past (event ∷ past)
  -- a taking leaves them
  pub taken_text : (c count : ℕ) (past : List ManyEvent) → contains c (p.present past) ≡ true → p.text c (Took c count ∷ past) ≡ p.text c past
  -- and takes the first of those that wait
  pub taken_waiting : (c count : ℕ) (past : List ManyEvent) → contains c (p.present past) ≡ true → p.waiting c (Took c count ∷ past) ≡ drop count (p.waiting c past)
  -- ---- what brings no bytes to other clients ----
  -- the taking of another client
  pub took_other : (c count d : ℕ) (past : List ManyEvent) → (c == d) ≡ false → p.waiting d (Took c count ∷ past) ≡ p.waiting d past
  -- its leaving
  pub left_other : (c d : ℕ) (past : List ManyEvent) → (c == d) ≡ false → p.waiting d (Left c ∷ past) ≡ p.waiting d past
  -- a modem's taking
  pub modem_took_other : (d count c : ℕ) (past : List ManyEvent) → d < p.devices → p.waiting c (ModemTook d count ∷ past) ≡ p.waiting c past
  -- ---- who is there ----
  -- a taking ends nobody
  pub took_present : (c count : ℕ) (past : List ManyEvent) → p.present (Took c count ∷ past) ≡ p.present past
  -- nor does a modem's
  pub modem_took_present : (d count : ℕ) (past : List ManyEvent) → d < p.devices → p.present (ModemTook d count ∷ past) ≡ p.present past
  -- who leaves isn't there any more, and the others are
  pub left_present : (c : ℕ) (past : List ManyEvent) → NamesRise past → contains c (p.present past) ≡ true → p.present (Left c ∷ past) ≡ without c (p.present past)
  -- ---- the modems ----
  -- a client's taking neither loses one nor brings it back
  pub took_away : (c count d : ℕ) (past : List ManyEvent) → d < p.devices → p.is_away d (Took c count ∷ past) ≡ p.is_away d past
  -- nor does a leaving
  pub left_away : (c d : ℕ) (past : List ManyEvent) → d < p.devices → p.is_away d (Left c ∷ past) ≡ p.is_away d past
  -- nor does another modem
  pub other_away : (d e : ℕ) (event : ManyEvent) (past : List ManyEvent) → modem_of event ≡ Some d → d < p.devices → e < p.devices → (d == e) ≡ false → p.is_away e (event ∷ past) ≡ p.is_away e past
  -- one that is gone while bytes wait for it is away
  pub gone_away : (d : ℕ) (past : List ManyEvent) → d < p.devices → 0 < length (p.waiting_for_modem d past) → p.is_away d (ModemGone d ∷ past) ≡ true
  -- it takes the first of the bytes that wait for it
  pub modem_taken : (d count : ℕ) (past : List ManyEvent) → d < p.devices → IsTakenByModem p d count past
  -- and where it takes some of them its backlog is less
  pub backlog_lessens : (d count : ℕ) (past : List ManyEvent) → d < p.devices → 0 < count → count ≤ length (p.waiting_for_modem d past) → p.modem_backlog d (ModemTook d count ∷ past) < p.modem_backlog d past
  -- those that wait for another modem stay
  pub took_other_modem : (d count e : ℕ) (past : List ManyEvent) → d < p.devices → e < p.devices → (d == e) ≡ false → p.waiting_for_modem e (ModemTook d count ∷ past) ≡ p.waiting_for_modem e past
  -- ---- who is to be hung up ----
  -- nobody once a client's socket took bytes
  pub took_dropped : (c count : ℕ) (past : List ManyEvent) → p.dropped (Took c count ∷ past) ≡ []
  -- once a client left by itself
  pub left_dropped : (c : ℕ) (past : List ManyEvent) → p.dropped (Left c ∷ past) ≡ []
  -- once a modem took bytes
  pub modem_took_dropped : (d count : ℕ) (past : List ManyEvent) → d < p.devices → p.dropped (ModemTook d count ∷ past) ≡ []
  -- or once it came back
  pub back_dropped : (d : ℕ) (past : List ManyEvent) → d < p.devices → p.dropped (ModemBack d ∷ past) ≡ []
