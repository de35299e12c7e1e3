-- The requests whose numbers are in use, and their rows in a number space. A list of facts has the newest first; all other lists have the oldest first.
use Rattle.std.specs.Prelude.{ℕ, Bool, true, not, ◌&&◌, ◌==◌, List, [], ◌∷◌, ◌++◌, map, filter}
use Rattle.proxy_history.specs.Facts.{Fact, Request, Ended, Forwarded, Answered, IdHeld, Late, Expired, Aborted, Reset, ModemLost}
use Rattle.number_space.specs.declared.space.Row as space

-- a request that is in use, and whether its sender still waits
pub record RequestInUse : Type 0 where
  pub request : Request
  pub waits : Bool

abbrev pub silenced_if : Bool → RequestInUse → RequestInUse
silenced_if over r = record { request = r.request; waits = not over && r.waits }

-- the requests in use in order of forwarding: an answer of any kind ends one, a refusal or the end of its sender ends the waiting
unfoldable pub requests_in_use : List Fact → List RequestInUse
requests_in_use [] = []
requests_in_use (Forwarded r ∷ past) = requests_in_use past ++ record { request = r; waits = true } ∷ []
requests_in_use (Answered r message ∷ past) = filter (λ a. not (r.serial == a.request.serial)) (requests_in_use past)
requests_in_use (IdHeld r ∷ past) = filter (λ a. not (r.serial == a.request.serial)) (requests_in_use past)
requests_in_use (Late r ∷ past) = filter (λ a. not (r.serial == a.request.serial)) (requests_in_use past)
requests_in_use (Expired r ∷ past) = map (λ a. silenced_if (r.serial == a.request.serial) a) (requests_in_use past)
requests_in_use (Aborted r ∷ past) = map (λ a. silenced_if (r.serial == a.request.serial) a) (requests_in_use past)
requests_in_use (Ended c why ∷ past) = map (λ a. silenced_if (c == a.request.conn) a) (requests_in_use past)
requests_in_use (Reset ∷ past) = []
requests_in_use (ModemLost ∷ past) = []
requests_in_use (_ ∷ past) = requests_in_use past

-- `note` says what is kept of a request's message
abbrev pub row_of : {N : Type 0} → (note : List ℕ → N) → RequestInUse → space.Row N
row_of note a = record { number = a.request.number; conn = a.request.conn; note = note a.request.message; deadline = a.request.deadline; pending = a.waits }

-- the rows of a space
abbrev pub rows_of : {N : Type 0} → (note : List ℕ → N) → ℕ → List RequestInUse → List (space.Row N)
rows_of note space requests = map (row_of note) (filter (λ a. a.request.space == space) requests)
