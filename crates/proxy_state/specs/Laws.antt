-- What a core tells of the events that it stands for. Lists of events have the newest first.
use Rattle.std.specs.Prelude.{◌≡◌, ℕ, true, List, Option}
use Rattle.proxy_history.specs.Events.{Event}
use Rattle.proxy_history.specs.Protocol.{Protocol}
use Rattle.proxy_history.specs.History.{text_for}
use Rattle.proxy_state.specs.State.{Core}
use Rattle.proxy_state.specs.Stands.{Kept, Stands, waiting_for, is_owed, NextDropped}

-- the bytes that wait for a connection that is there, or was dropped and isn't asked for yet, are those of the history
abbrev pub WaitingAreOfTheHistory : Type 0 → Type 0 → Type 0 → Type 0
WaitingAreOfTheHistory Known T S = (p : Protocol Known) (k : Kept Known T S) (events : List Event) (core : Core T S) (c : ℕ)
    → Stands p k events core → is_owed c core ≡ true → waiting_for c core ≡ (text_for p c events).waiting

-- a core from which the first of the dropped connections was asked stands for its events
abbrev pub AskingKeepsStanding : Type 0 → Type 0 → Type 0 → Type 0
AskingKeepsStanding Known T S = (p : Protocol Known) (k : Kept Known T S) (events : List Event) (old new : Core T S) (result : Option ℕ)
    → NextDropped old new result → Stands p k events old → Stands p k events new
