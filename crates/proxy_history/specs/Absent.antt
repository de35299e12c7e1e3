-- What those who are away do: nothing of it counts. A list of facts has the newest first.
use Rattle.std.specs.Prelude.{◌≡◌, ℕ, Bool, true, false, List}
use Rattle.proxy_history.specs.Facts.{Fact}
use Rattle.proxy_history.specs.Items.{Says, GoesBad, Leaves, ModemIsLost, ModemReturns, Takes}
use Rattle.proxy_history.specs.Connections.{is_present}
use Rattle.proxy_history.specs.Modem.{is_away}
use Rattle.proxy_history.specs.Protocol.{Protocol}
use Rattle.proxy_history.specs.History.{add}

-- what a connection says, that its stream goes bad, that it leaves and what its socket takes add nothing where it isn't there
pub record AddsNothing {Known : Type 0} (p : Protocol Known) (c : ℕ) (past : List Fact) : Type 0 where
  pub message : (m : List ℕ) → add p (Says c m) past ≡ past
  pub bad_stream : add p (GoesBad c) past ≡ past
  pub leaving : add p (Leaves c) past ≡ past
  pub taking : (count : ℕ) → add p (Takes c count) past ≡ past

abbrev pub TheAbsentAddNothing : Type 0 → Type 0
TheAbsentAddNothing Known = (p : Protocol Known) (c : ℕ) (past : List Fact) → is_present c past ≡ false → AddsNothing p c past

-- the modem is away once it is lost, and there once it returns
abbrev pub ALostModemIsAway : Type 0 → Type 0
ALostModemIsAway Known = (p : Protocol Known) (away : Bool) (past : List Fact) → is_away away (add p ModemIsLost past) ≡ true

abbrev pub AModemThatReturnsIsThere : Type 0 → Type 0
AModemThatReturnsIsThere Known = (p : Protocol Known) (away : Bool) (past : List Fact) → is_away away (add p ModemReturns past) ≡ false
