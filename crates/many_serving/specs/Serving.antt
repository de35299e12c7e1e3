-- What serving a proxy of several devices comes to, read off the hub's record. Lists of calls and of events have the newest first.
use Rattle.std.specs.Prelude.{◌≡◌, ◌⊎◌, ℕ, zero, suc, ◌+◌, ◌<◌, ◌≤◌, Bool, true, false, ◌==◌, if◌then◌else◌, List, [], ◌∷◌, ◌++◌, reverse}
use Rattle.std.specs.List.{AllByRecursion}
use Rattle.proxy_serving.specs.Serving.{IsFront, taken_by, is_blocked, hang_ups, IsNoOpening}
use Rattle.many_history.specs.Events.{ModemGone, ModemBack, Now}
use Rattle.many_io.specs.Record.{ManyCall, Told, ToldRoom, ToldModemRoom, ToldStop, NextFailed, Sent, SendFailed, SentModem, SendModemFailed, Reopened, ReopenFailed, events, calls_without_device}
use Rattle.many_serving.specs.Proxy.{ManyProxy}

-- each sending was handed a front, not empty, of what waited
abbrev pub SendsWhatWaits : ManyProxy → List ManyCall → Type 0
SendsWhatWaits p [] = Unit {0}
SendsWhatWaits p (Sent c bytes taken ∷ calls) = IsFront bytes (p.waiting c (events calls)) × SendsWhatWaits p calls
SendsWhatWaits p (SendFailed c bytes ∷ calls) = IsFront bytes (p.waiting c (events calls)) × SendsWhatWaits p calls
SendsWhatWaits p (SentModem d bytes taken ∷ calls) = IsFront bytes (p.waiting_for_modem d (events calls)) × SendsWhatWaits p calls
SendsWhatWaits p (SendModemFailed d bytes ∷ calls) = IsFront bytes (p.waiting_for_modem d (events calls)) × SendsWhatWaits p calls
SendsWhatWaits p (_ ∷ calls) = SendsWhatWaits p calls

-- what a client's socket took are the first of all bytes for it, and the others wait
abbrev pub TakesTheFirst : ManyProxy → List ManyCall → Type 0
TakesTheFirst p calls = (c : ℕ) → p.text c (events calls) ≡ taken_by c (calls_without_device calls) ++ p.waiting c (events calls)

-- ---- offering ----

-- the last sending to a device's modem took nothing; no room was told for it since, nor was it opened again
unfoldable pub is_modem_blocked : ℕ → List ManyCall → Bool
is_modem_blocked d [] = false
is_modem_blocked d (SentModem e bytes zero ∷ calls) = if e == d then true else is_modem_blocked d calls
is_modem_blocked d (SentModem e bytes (suc taken) ∷ calls) = if e == d then false else is_modem_blocked d calls
is_modem_blocked d (ToldModemRoom e ∷ calls) = if e == d then false else is_modem_blocked d calls
is_modem_blocked d (Reopened e ∷ calls) = if e == d then false else is_modem_blocked d calls
is_modem_blocked d (_ ∷ calls) = is_modem_blocked d calls

-- whatever waits for a client was offered to its socket, which takes nothing now
abbrev pub IsOffered : ManyProxy → List ManyCall → ℕ → Type 0
IsOffered p calls c = (p.waiting c (events calls) ≡ []) ⊎ (is_blocked c (calls_without_device calls) ≡ true)

-- the same of the modem of a device, while it isn't away
abbrev pub IsModemOffered : ManyProxy → List ManyCall → ℕ → Type 0
IsModemOffered p calls d = (p.is_away d (events calls) ≡ true) ⊎ (p.waiting_for_modem d (events calls) ≡ []) ⊎ (is_modem_blocked d calls ≡ true)

pub record AllIsOffered (p : ManyProxy) (calls : List ManyCall) : Type 0 where
  pub clients : AllByRecursion (IsOffered p calls) (p.present (events calls))
  pub modems : (d : ℕ) → d < p.devices → IsModemOffered p calls d

-- ---- hanging up ----

-- the connections that are to be hung up: those that the proxy ended, and those whose sending failed
unfoldable pub due_hang_ups : ManyProxy → List ManyCall → List ℕ
due_hang_ups p [] = []
due_hang_ups p (Told event ∷ calls) = reverse (p.dropped (event ∷ events calls)) ++ due_hang_ups p calls
due_hang_ups p (SendFailed c bytes ∷ calls) = c ∷ due_hang_ups p calls
due_hang_ups p (SendModemFailed d bytes ∷ calls) = reverse (p.dropped (ModemGone d ∷ events calls)) ++ due_hang_ups p calls
due_hang_ups p (Reopened d ∷ calls) = reverse (p.dropped (ModemBack d ∷ events calls)) ++ due_hang_ups p calls
due_hang_ups p (_ ∷ calls) = due_hang_ups p calls

-- ---- opening again ----

-- how often a device's modem was opened again, or tried to be, since the hub was last asked for what comes next
unfoldable pub reopenings : ℕ → List ManyCall → ℕ
reopenings d [] = 0
reopenings d (Reopened e ∷ calls) = if e == d then reopenings d calls + 1 else reopenings d calls
reopenings d (ReopenFailed e ∷ calls) = if e == d then reopenings d calls + 1 else reopenings d calls
reopenings d (Told event ∷ calls) = 0
reopenings d (ToldRoom c ∷ calls) = 0
reopenings d (ToldModemRoom e ∷ calls) = 0
reopenings d (_ ∷ calls) = reopenings d calls

-- how often it is to be: once where the clock was told while it is away
unfoldable pub due_reopenings : ManyProxy → ℕ → List ManyCall → ℕ
due_reopenings p d [] = 0
due_reopenings p d (Told (Now time) ∷ calls) = if p.is_away d (Now time ∷ events calls) then 1 else 0
due_reopenings p d (Told event ∷ calls) = 0
due_reopenings p d (ToldRoom c ∷ calls) = 0
due_reopenings p d (ToldModemRoom e ∷ calls) = 0
due_reopenings p d (_ ∷ calls) = due_reopenings p d calls

-- ---- before the hub is asked for what comes next ----

-- all that waits was offered, just those were hung up that are to be, and each modem was opened again as often as it is to be
pub record AllIsDone (p : ManyProxy) (calls : List ManyCall) : Type 0 where
  pub offered : AllIsOffered p calls
  pub hung_up : hang_ups (calls_without_device calls) ≡ due_hang_ups p calls
  pub reopened : (d : ℕ) → d < p.devices → reopenings d calls ≡ due_reopenings p d calls

-- each time that the hub was asked for what comes next, all was done
abbrev pub DoesAllBeforeEachNext : ManyProxy → List ManyCall → Type 0
DoesAllBeforeEachNext p [] = Unit {0}
DoesAllBeforeEachNext p (Told event ∷ calls) = AllIsDone p calls × DoesAllBeforeEachNext p calls
DoesAllBeforeEachNext p (ToldRoom c ∷ calls) = AllIsDone p calls × DoesAllBeforeEachNext p calls
DoesAllBeforeEachNext p (ToldModemRoom d ∷ calls) = AllIsDone p calls × DoesAllBeforeEachNext p calls
DoesAllBeforeEachNext p (ToldStop ∷ calls) = AllIsDone p calls × DoesAllBeforeEachNext p calls
DoesAllBeforeEachNext p (NextFailed ∷ calls) = AllIsDone p calls × DoesAllBeforeEachNext p calls
DoesAllBeforeEachNext p (_ ∷ calls) = DoesAllBeforeEachNext p calls

-- what was sent, taken, offered, hung up and opened again is what the definitions say, and the hub wasn't opened
pub record Serves (p : ManyProxy) (calls : List ManyCall) : Type 0 where
  pub sends : SendsWhatWaits p calls
  pub takes : TakesTheFirst p calls
  pub does_all : DoesAllBeforeEachNext p calls
  pub hangs_up : hang_ups (calls_without_device calls) ≡ due_hang_ups p calls
  pub reopens : (d : ℕ) → d < p.devices → reopenings d calls ≤ due_reopenings p d calls
  pub no_opening : AllByRecursion IsNoOpening (calls_without_device calls)
