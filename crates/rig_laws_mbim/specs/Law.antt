-- What holds of every run of the rig for MBIM. Lists of events have the newest first.
use Rattle.std.specs.Prelude.{◌≡◌, ℕ, ◌≤◌, List, ◌++◌, codes, decimal}
use Rattle.std.specs.List.{range_with_len}
use Rattle.proxy_history.specs.Events.{Event}
use Rattle.proxy_history.specs.Coming.{AreSound}
use Rattle.mbim_proxy.specs.History.{mbim_protocol, history}
use Rattle.rig_runs.specs.Counts.{lines_of}
use Rattle.rig_runs.specs.Mbim.{setup, mbim_rig}
use Rattle.rig_runs.specs.MbimLines.{counted, equal, AreForShares, summary}

-- the line that tells that so many clients of as many get the same
abbrev pub all_equal : (clients : ℕ) → List ℕ
all_equal clients = codes "equal " ++ decimal clients ++ codes " of " ++ decimal clients ++ codes "\n"

-- the text's last line is this one; those before end with a line feed
pub record EndsWithLine (line text : List ℕ) : Type 0 where
  pub front : List ℕ
  pub lines : text ≡ front ++ codes "\n" ++ line

pub record IsFair (clients turns : ℕ) (events : List Event) : Type 0 where
  -- the events may come
  pub sound : AreSound (mbim_protocol setup) events
  -- nobody is told of others
  pub undisturbed : counted setup clients events ≡ range_with_len 1 clients
  -- each client gets the bytes that it gets alone
  pub same : equal setup clients events ≡ range_with_len 1 clients
  -- a message is refused just where it passes its client's share
  pub refused_for_shares : AreForShares setup (history setup events)
  pub last_line : EndsWithLine (all_equal clients) (lines_of (summary setup clients turns events))

-- so is each run with 1 to 64 clients
abbrev pub EachRunIsFair : Type 0
EachRunIsFair = (clients turns number : ℕ) → 1 ≤ clients → clients ≤ 64 → IsFair clients turns (mbim_rig clients turns number)
