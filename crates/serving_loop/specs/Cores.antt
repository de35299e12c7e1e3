-- What a core of a proxy of several devices stands for, and what an event makes of what it shows. Lists of events have the newest first.
use Rattle.std.specs.Prelude.{◌≡◌, ℕ, ◌+◌, ◌<◌, ◌≤◌, true, ◌==◌, List, [], ◌++◌, length, drop}
use Rattle.std.specs.List.{IsDistinct}
use Rattle.proxy_history.specs.Connections.{contains}
use Rattle.many_history.specs.Events.{ManyEvent, Left, ModemGone, ModemBack, Took, ModemTook}
use Rattle.many_history.specs.Coming.{NamesRise}
use Rattle.many_serving.specs.Proxy.{ManyProxy}
use Rattle.many_serving.specs.Lawful.{IsLawful}
use Rattle.serving_loop.specs.Face.{ManyFace, SameAway, SameAwayBut}

-- ---- what it stands for ----

-- it shows what the definitions of a proxy say of these events; of the dropped names some may have been asked for
pub record Shows (p : ManyProxy) (past : List ManyEvent) (face : ManyFace) : Type 0 where
  pub lawful : IsLawful p
  pub rise : NamesRise past
  pub devices : face.devices ≡ p.devices
  pub present : face.present ≡ p.present past
  pub queue : (c : ℕ) → contains c (p.present past) ≡ true → face.queue c ≡ p.waiting c past
  pub modem_queue : (d : ℕ) → d < p.devices → face.modem_queue d ≡ p.waiting_for_modem d past
  pub modem_backlog : (d : ℕ) → d < p.devices → face.modem_backlog d ≡ p.modem_backlog d past
  pub dropped : p.dropped past ≡ [] → face.dropped ≡ []
  pub away : (d : ℕ) → d < p.devices → face.away d ≡ p.is_away d past
  pub time : face.time ≡ p.time past
  pub distinct : IsDistinct (λ c d. c == d) (p.present past)

-- it keeps what it has to, which `keeps` says, and so shows what the definitions say
pub record Stands {C : Type 0} (keeps : ManyProxy → List ManyEvent → C → Type 0) (face : C → ManyFace) (p : ManyProxy) (past : List ManyEvent) (core : C) : Type 0 where
  pub kept : keeps p past core
  pub shows : Shows p past (face core)

-- just after the newest of these events: all names that it dropped are still to be asked for
pub record StandsAfter {C : Type 0} (keeps : ManyProxy → List ManyEvent → C → Type 0) (face : C → ManyFace) (p : ManyProxy) (past : List ManyEvent) (core : C) : Type 0 where
  pub stands : Stands keeps face p past core
  pub all_dropped : (face core).dropped ≡ p.dropped past

-- it keeps what some proxy has to keep of some events
pub record IsKnown {C : Type 0} (keeps : ManyProxy → List ManyEvent → C → Type 0) (core : C) : Type 0 where
  pub proxy : ManyProxy
  pub past : List ManyEvent
  pub kept : keeps proxy past core

-- ---- what an event makes of what it shows ----

-- the socket of a client that is there took bytes
pub record IsTaken (c count : ℕ) (old new : ManyFace) : Type 0 where
  pub present : new.present ≡ old.present
  pub queue : new.queue c ≡ drop count (old.queue c)
  pub dropped : new.dropped ≡ old.dropped
  pub away : SameAway old new

-- a client that was there left
pub record HasLeft (c : ℕ) (old new : ManyFace) : Type 0 where
  pub fewer : length new.present + 1 ≡ length old.present
  pub dropped : new.dropped ≡ old.dropped
  pub away : SameAway old new

-- the modem of a device took bytes, and more may wait behind the others; its backlog is less
pub record IsModemTaken (d count : ℕ) (old new : ManyFace) : Type 0 where
  pub more : List ℕ
  pub modem_queue : new.modem_queue d ≡ drop count (old.modem_queue d) ++ more
  pub modem_backlog : 0 < count → count ≤ length (old.modem_queue d) → new.modem_backlog d < old.modem_backlog d
  pub dropped : new.dropped ≡ old.dropped
  pub others : SameAwayBut d old new

-- the modem of a device is gone
pub record IsModemGone (d : ℕ) (old new : ManyFace) : Type 0 where
  pub away : 0 < length (old.modem_queue d) → new.away d ≡ true
  pub others : SameAwayBut d old new

-- it is back
pub record IsModemBack (d : ℕ) (old new : ManyFace) : Type 0 where
  pub dropped : new.dropped ≡ old.dropped
  pub others : SameAwayBut d old new

abbrev pub Makes : ManyEvent → ManyFace → ManyFace → Type 0
Makes (Took c count) old new = contains c old.present ≡ true → IsTaken c count old new
Makes (Left c) old new = contains c old.present ≡ true → HasLeft c old new
Makes (ModemTook d count) old new = IsModemTaken d count old new
Makes (ModemGone d) old new = IsModemGone d old new
Makes (ModemBack d) old new = IsModemBack d old new
Makes _ old new = Unit {0}
