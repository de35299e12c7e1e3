-- Who holds a client id, as a reader of the history would say. A list of facts has the newest first.
use Rattle.std.specs.Prelude.{◌≡◌, ◌↔◌, ℕ, Bool, true, false, ◌&&◌, ◌==◌, List, ◌∷◌, ◌++◌, Some, None, All, Contains}
use Rattle.std.specs.List.{AllByRecursion}
use Rattle.proxy_history.specs.Facts.{Why, Fact, Ended, Granted, Freed, Reset, ModemLost}
use Rattle.proxy_history.specs.ClientIds.{Grant, KeptId, is_of, held, holder, kept}
use Rattle.proxy_history.specs.Modem.{now}
use Rattle.proxy_history.specs.Laws.{GoesOn}

abbrev pub grants : Grant → Fact
grants g = Granted g.conn g.service g.cid

-- the id is granted anew, to whomever; its connection gives it back, or ends; the modem began anew, or is lost
abbrev pub ends_holding : Grant → Fact → Bool
ends_holding g (Granted c service cid) = is_of service cid g
ends_holding g (Freed c service cid) = is_of service cid g && (c == g.conn)
ends_holding g (Ended c why) = c == g.conn
ends_holding g Reset = true
ends_holding g ModemLost = true
ends_holding g _ = false

-- an id is held exactly where it was granted, and no later fact ends that
abbrev pub HeldUntilEnded : Type 0
HeldUntilEnded = (facts : List Fact) (g : Grant) → Contains (held facts) g ↔ GoesOn grants ends_holding g facts

-- its holder is the connection that it was last granted to, where nothing ended that since
abbrev pub HoldersWereGrantedLast : Type 0
HoldersWereGrantedLast = (facts : List Fact) (c service cid : ℕ)
    → (holder service cid facts ≡ Some c) ↔ GoesOn grants ends_holding (record { conn = c; service = service; cid = cid }) facts

-- an id whose holder went is nobody's as long as it is kept
abbrev pub KeptAreNobodys : Type 0
KeptAreNobodys = (facts : List Fact) → AllByRecursion (λ k. holder k.service k.cid facts ≡ None) (kept facts)

-- the id is granted, to whomever; the modem began anew, or is lost
abbrev pub ends_keeping : KeptId → Fact → Bool
ends_keeping k (Granted c service cid) = k.service == service && (k.cid == cid)
ends_keeping k Reset = true
ends_keeping k ModemLost = true
ends_keeping k _ = false

-- the connection that held the id ended at this time, and no later fact ends that the id is kept
pub record IsLeftSince (k : KeptId) (facts : List Fact) : Type 0 where
  pub conn : ℕ
  pub why : Why
  pub later : List Fact
  pub earlier : List Fact
  pub whole : facts ≡ later ++ Ended conn why ∷ earlier
  pub held : holder k.service k.cid earlier ≡ Some conn
  pub time : now earlier ≡ k.since
  pub none : All (λ fact. ends_keeping k fact ≡ false) later

-- an id is kept exactly from the end of its holder until one of these
abbrev pub KeptUntilGranted : Type 0
KeptUntilGranted = (facts : List Fact) (k : KeptId) → Contains (kept facts) k ↔ IsLeftSince k facts
