-- What becomes of the bytes for the modem, from one event to the next. Lists of events and of facts have the newest first.
use Rattle.std.specs.Prelude.{◌≡◌, ◌≤◌, ℕ, Bool, true, false, not, ◌&&◌, List, [], ◌∷◌, ◌++◌, length, drop}
use Rattle.proxy_history.specs.Events.{Event, ModemTook, modem_takes}
use Rattle.proxy_history.specs.Facts.{Fact}
use Rattle.proxy_history.specs.Modem.{is_away, to_modem, modem_taken_count, modem_queue}
use Rattle.qmi_proxy.specs.Setup.{Setup}
use Rattle.qmi_proxy.specs.Limits.{modem_outbox_limit}
use Rattle.qmi_proxy.specs.Clients.{wire}
use Rattle.qmi_proxy.specs.History.{history}

-- the modem was there, and is away once the event was met
abbrev pub loses_modem : Setup → Event → List Event → Bool
loses_modem s event events = not (is_away s.starts_away (history s events)) && is_away s.starts_away (history s (event ∷ events))

-- the bytes for the modem that were there, and perhaps more behind them; none is taken
pub record ModemGetsMore (before after : List Fact) : Type 0 where
  pub more : List ℕ
  pub bytes : to_modem wire after ≡ to_modem wire before ++ more
  pub taken : modem_taken_count after ≡ modem_taken_count before
  -- where it didn't take more than there were, what is new waits behind what waited
  pub waiting : modem_taken_count before ≤ length (to_modem wire before) → modem_queue wire after ≡ modem_queue wire before ++ more

-- where the modem takes nothing and isn't lost, the bytes for it only grow
abbrev pub ModemBytesOnlyGrow : Type 0
ModemBytesOnlyGrow = (s : Setup) (event : Event) (events : List Event)
    → modem_takes event ≡ false → loses_modem s event events ≡ false → ModemGetsMore (history s events) (history s (event ∷ events))

-- a taking takes the first of those that wait
abbrev pub ModemTakesTheFirst : Type 0
ModemTakesTheFirst = (s : Setup) (count : ℕ) (events : List Event)
    → (to_modem wire (history s (ModemTook count ∷ events)) ≡ to_modem wire (history s events))
    × (modem_queue wire (history s (ModemTook count ∷ events)) ≡ drop count (modem_queue wire (history s events)))

-- a loss leaves none, and nothing counts as taken
abbrev pub LossLeavesNone : Type 0
LossLeavesNone = (s : Setup) (event : Event) (events : List Event) → loses_modem s event events ≡ true
    → (to_modem wire (history s (event ∷ events)) ≡ []) × (modem_queue wire (history s (event ∷ events)) ≡ []) × (modem_taken_count (history s (event ∷ events)) ≡ 0)

-- no more bytes wait for the modem than may
abbrev pub NoMoreWaitForTheModemThanMay : Type 0
NoMoreWaitForTheModemThanMay = (s : Setup) (events : List Event) → length (modem_queue wire (history s events)) ≤ modem_outbox_limit
