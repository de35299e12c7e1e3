-- What serving a proxy over a hub comes to, read off the hub's record. Lists of calls and of events have the newest first.
use Rattle.std.specs.Prelude.{◌≡◌, ◌⊎◌, ℕ, zero, suc, ◌+◌, ◌<◌, Bool, true, false, ◌&&◌, ◌==◌, nat_le, if◌then◌else◌, List, [], ◌∷◌, ◌++◌, length, take, reverse, Option, Some, None}
use Rattle.std.specs.List.{AllByRecursion}
use Rattle.proxy_history.specs.Events.{Event, Joined, ModemGone, ModemBack, Now}
use Rattle.proxy_history.specs.Proxy.{Proxy}
use Rattle.hub_io.specs.Record.{Call, Told, ToldRoom, ToldModemRoom, ToldStop, NextFailed, Sent, SendFailed, SentModem, SendModemFailed, Opened, Paired, Reopened, ReopenFailed, HungUp, events}
use Rattle.hub_io.specs.declared.settings.Until.{Until}

-- ---- bytes ----

-- bytes were handed over that stand at the front of a queue, one at least
pub record IsFront (bytes queue : List ℕ) : Type 0 where
  pub some : 0 < length bytes
  pub rest : List ℕ
  pub whole : queue ≡ bytes ++ rest

-- each sending was handed a front, not empty, of what waited
abbrev pub SendsWhatWaits : Proxy → List Call → Type 0
SendsWhatWaits p [] = Unit {0}
SendsWhatWaits p (Sent c bytes taken ∷ calls) = IsFront bytes (p.waiting c (events calls)) × SendsWhatWaits p calls
SendsWhatWaits p (SendFailed c bytes ∷ calls) = IsFront bytes (p.waiting c (events calls)) × SendsWhatWaits p calls
SendsWhatWaits p (SentModem bytes taken ∷ calls) = IsFront bytes (p.waiting_for_modem (events calls)) × SendsWhatWaits p calls
SendsWhatWaits p (SendModemFailed bytes ∷ calls) = IsFront bytes (p.waiting_for_modem (events calls)) × SendsWhatWaits p calls
SendsWhatWaits p (_ ∷ calls) = SendsWhatWaits p calls

-- the bytes that a client's socket took since the client joined
unfoldable pub taken_by : ℕ → List Call → List ℕ
taken_by c [] = []
taken_by c (Told (Joined d) ∷ calls) = if d == c then [] else taken_by c calls
taken_by c (Sent d bytes taken ∷ calls) = if d == c then taken_by c calls ++ take taken bytes else taken_by c calls
taken_by c (_ ∷ calls) = taken_by c calls

-- the bytes that a client's socket took are the first of all bytes for it, and the others wait
abbrev pub TakesTheFirst : Proxy → List Call → Type 0
TakesTheFirst p calls = (c : ℕ) → p.text c (events calls) ≡ taken_by c calls ++ p.waiting c (events calls)

-- ---- offering ----

-- the client's last sending took nothing, and no room was told for it since
unfoldable pub is_blocked : ℕ → List Call → Bool
is_blocked c [] = false
is_blocked c (Sent d bytes zero ∷ calls) = if d == c then true else is_blocked c calls
is_blocked c (Sent d bytes (suc taken) ∷ calls) = if d == c then false else is_blocked c calls
is_blocked c (ToldRoom d ∷ calls) = if d == c then false else is_blocked c calls
is_blocked c (_ ∷ calls) = is_blocked c calls

-- the same of the modem, which also takes bytes once it was opened again
unfoldable pub is_modem_blocked : List Call → Bool
is_modem_blocked [] = false
is_modem_blocked (SentModem bytes zero ∷ calls) = true
is_modem_blocked (SentModem bytes (suc taken) ∷ calls) = false
is_modem_blocked (ToldModemRoom ∷ calls) = false
is_modem_blocked (Reopened ∷ calls) = false
is_modem_blocked (_ ∷ calls) = is_modem_blocked calls

-- whatever waits for a client was offered to its socket, which takes nothing now
abbrev pub IsOffered : Proxy → List Call → ℕ → Type 0
IsOffered p calls c = (p.waiting c (events calls) ≡ []) ⊎ (is_blocked c calls ≡ true)

-- the same of the modem, while it isn't away
abbrev pub IsModemOffered : Proxy → List Call → Type 0
IsModemOffered p calls = (p.is_away (events calls) ≡ true) ⊎ (p.waiting_for_modem (events calls) ≡ []) ⊎ (is_modem_blocked calls ≡ true)

pub record AllIsOffered (p : Proxy) (calls : List Call) : Type 0 where
  pub clients : AllByRecursion (IsOffered p calls) (p.present (events calls))
  pub modem : IsModemOffered p calls

-- ---- hanging up ----

-- the connections that are to be hung up: those that the proxy ended, and those whose sending failed
unfoldable pub due_hang_ups : Proxy → List Call → List ℕ
due_hang_ups p [] = []
due_hang_ups p (Told event ∷ calls) = reverse (p.dropped (event ∷ events calls)) ++ due_hang_ups p calls
due_hang_ups p (SendFailed c bytes ∷ calls) = c ∷ due_hang_ups p calls
due_hang_ups p (SendModemFailed bytes ∷ calls) = reverse (p.dropped (ModemGone ∷ events calls)) ++ due_hang_ups p calls
due_hang_ups p (Reopened ∷ calls) = reverse (p.dropped (ModemBack ∷ events calls)) ++ due_hang_ups p calls
due_hang_ups p (_ ∷ calls) = due_hang_ups p calls

-- the connections that were hung up
unfoldable pub hang_ups : List Call → List ℕ
hang_ups [] = []
hang_ups (HungUp c ∷ calls) = c ∷ hang_ups calls
hang_ups (_ ∷ calls) = hang_ups calls

-- the hang-ups of these, and no other calls
abbrev pub hanging_up : List ℕ → List Call
hanging_up [] = []
hanging_up (c ∷ names) = HungUp c ∷ hanging_up names

-- ---- opening and reopening ----

-- the hub wasn't opened or paired by this call
abbrev pub IsNoOpening : Call → Type 0
IsNoOpening (Opened socket device ok) = ⊥
IsNoOpening (Paired ok) = ⊥
IsNoOpening _ = Unit {0}

-- how often the modem was opened again, or tried to be, since the hub was last asked for what comes next
unfoldable pub reopenings : List Call → ℕ
reopenings [] = 0
reopenings (Reopened ∷ calls) = reopenings calls + 1
reopenings (ReopenFailed ∷ calls) = reopenings calls + 1
reopenings (Told event ∷ calls) = 0
reopenings (ToldRoom c ∷ calls) = 0
reopenings (ToldModemRoom ∷ calls) = 0
reopenings (_ ∷ calls) = reopenings calls

-- how often it is to be: once where the clock was told while the modem is away
unfoldable pub due_reopenings : Proxy → List Call → ℕ
due_reopenings p [] = 0
due_reopenings p (Told (Now time) ∷ calls) = if p.is_away (Now time ∷ events calls) then 1 else 0
due_reopenings p (Told event ∷ calls) = 0
due_reopenings p (ToldRoom c ∷ calls) = 0
due_reopenings p (ToldModemRoom ∷ calls) = 0
due_reopenings p (_ ∷ calls) = due_reopenings p calls

-- ---- before the hub is asked for what comes next ----

-- all that waits was offered, just those were hung up that are to be, and the modem was opened again as often as it is to be
pub record AllIsDone (p : Proxy) (calls : List Call) : Type 0 where
  pub offered : AllIsOffered p calls
  pub hung_up : hang_ups calls ≡ due_hang_ups p calls
  pub reopened : reopenings calls ≡ due_reopenings p calls

-- each time that the hub was asked for what comes next, all was done
abbrev pub DoesAllBeforeEachNext : Proxy → List Call → Type 0
DoesAllBeforeEachNext p [] = Unit {0}
DoesAllBeforeEachNext p (Told event ∷ calls) = AllIsDone p calls × DoesAllBeforeEachNext p calls
DoesAllBeforeEachNext p (ToldRoom c ∷ calls) = AllIsDone p calls × DoesAllBeforeEachNext p calls
DoesAllBeforeEachNext p (ToldModemRoom ∷ calls) = AllIsDone p calls × DoesAllBeforeEachNext p calls
DoesAllBeforeEachNext p (ToldStop ∷ calls) = AllIsDone p calls × DoesAllBeforeEachNext p calls
DoesAllBeforeEachNext p (NextFailed ∷ calls) = AllIsDone p calls × DoesAllBeforeEachNext p calls
DoesAllBeforeEachNext p (_ ∷ calls) = DoesAllBeforeEachNext p calls

-- ---- ends ----

-- how often the hub was asked for what comes next
unfoldable pub turns_in : List Call → ℕ
turns_in [] = 0
turns_in (Told event ∷ calls) = turns_in calls + 1
turns_in (ToldRoom c ∷ calls) = turns_in calls + 1
turns_in (ToldModemRoom ∷ calls) = turns_in calls + 1
turns_in (ToldStop ∷ calls) = turns_in calls + 1
turns_in (NextFailed ∷ calls) = turns_in calls + 1
turns_in (_ ∷ calls) = turns_in calls

-- the hub didn't say by it that the serving is to end, nor fail to tell what comes next
abbrev pub IsNoEnd : Call → Type 0
IsNoEnd ToldStop = ⊥
IsNoEnd NextFailed = ⊥
IsNoEnd _ = Unit {0}

abbrev pub is_nobody : List ℕ → Bool
is_nobody names = length names == 0

-- when the last connection went, 0 where none joined
unfoldable pub emptied_at : Proxy → List Event → ℕ
emptied_at p [] = 0
emptied_at p (event ∷ past) = if is_nobody (p.present past) then emptied_at p past else p.time (event ∷ past)

-- nobody has been there for so long
abbrev pub is_idle : Proxy → Option ℕ → List Event → Bool
is_idle p None past = false
is_idle p (Some limit) past = is_nobody (p.present past) && nat_le (emptied_at p past + limit) (p.time past)

-- the device is away, where its loss is to end the serving
abbrev pub is_lost : Proxy → Bool → List Event → Bool
is_lost p false past = false
is_lost p true past = p.is_away past

-- it isn't over by itself at any time
abbrev pub never : Until
never = record { empty = None; lost = false }

-- it is over since nobody has been there for long enough
abbrev pub IsEmptied : Proxy → Until → List Event → Type 0
IsEmptied p until past = is_idle p until.empty past ≡ true

-- it is over since the device is lost
pub record IsLost (p : Proxy) (until : Until) (past : List Event) : Type 0 where
  pub awake : is_idle p until.empty past ≡ false
  pub lost : is_lost p until.lost past ≡ true

-- it isn't over for either reason
pub record IsGoingOn (p : Proxy) (until : Until) (past : List Event) : Type 0 where
  pub awake : is_idle p until.empty past ≡ false
  pub there : is_lost p until.lost past ≡ false

-- it wasn't whenever the clock was told
abbrev pub NeverOver : Proxy → Until → List Call → Type 0
NeverOver p until [] = Unit {0}
NeverOver p until (Told (Now time) ∷ calls) = IsGoingOn p until (Now time ∷ events calls) × NeverOver p until calls
NeverOver p until (_ ∷ calls) = NeverOver p until calls
