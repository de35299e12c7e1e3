-- The requests that wait for the modem, and their transaction numbers.
-- A list of facts has the newest first; the lists that are read off it have the oldest first.
-- A number space has numbers from 1 to its top, of which at most its limit are in use.
use Rattle.std.specs.Prelude.{ℕ, zero, suc, ◌+◌, ◌-◌, ◌^◌, min, Bool, true, false, not, ◌&&◌, ◌||◌, ◌==◌, nat_le, nat_lt, if◌then◌else◌, List, [], ◌∷◌, ◌++◌, length, map, filter, Option, Some, None}
use Rattle.proxy_history.specs.Facts.{Fact, Request, Ended, Forwarded, Answered, IdHeld, Late, Expired, Aborted, Reset, ModemLost}
use Rattle.proxy_history.specs.Connections.{contains}

abbrev pub without_request : Request → List Request → List Request
without_request r requests = filter (λ q. not (r.serial == q.serial)) requests

abbrev pub has_request : Request → List Request → Bool
has_request r [] = false
has_request r (q ∷ requests) = r.serial == q.serial || has_request r requests

-- the first of them that passes a test
abbrev pub first_where : (Request → Bool) → List Request → Option Request
first_where test [] = None
first_where test (r ∷ requests) = if test r then Some r else first_where test requests

-- the requests whose numbers are in use, in order of forwarding: the modem may still answer each of them
unfoldable pub in_use : List Fact → List Request
in_use [] = []
in_use (Forwarded r ∷ past) = in_use past ++ r ∷ []
in_use (Answered r message ∷ past) = without_request r (in_use past)
in_use (IdHeld r ∷ past) = without_request r (in_use past)
in_use (Late r ∷ past) = without_request r (in_use past)
in_use (Reset ∷ past) = []
in_use (ModemLost ∷ past) = []
in_use (_ ∷ past) = in_use past

-- those of them whose senders still wait; the number of one that expired stays in use, so that its late answer finds nobody
unfoldable pub pending : List Fact → List Request
pending [] = []
pending (Forwarded r ∷ past) = pending past ++ r ∷ []
pending (Answered r message ∷ past) = without_request r (pending past)
pending (IdHeld r ∷ past) = without_request r (pending past)
pending (Late r ∷ past) = without_request r (pending past)
pending (Expired r ∷ past) = without_request r (pending past)
pending (Aborted r ∷ past) = without_request r (pending past)
pending (Ended c why ∷ past) = filter (λ q. not (c == q.conn)) (pending past)
pending (Reset ∷ past) = []
pending (ModemLost ∷ past) = []
pending (_ ∷ past) = pending past

abbrev pub is_pending : Request → List Fact → Bool
is_pending r past = has_request r (pending past)

-- how many requests were forwarded
unfoldable pub forward_count : List Fact → ℕ
forward_count [] = 0
forward_count (Forwarded r ∷ past) = forward_count past + 1
forward_count (_ ∷ past) = forward_count past

-- ---- a client's share ----

-- those of a client in a space
abbrev pub of_client : ℕ → ℕ → List Request → List Request
of_client c space requests = filter (λ r. r.conn == c && (r.space == space)) requests

-- as many of the client wait in the space as may
abbrev pub has_share : (share : ℕ) → ℕ → ℕ → List Fact → Bool
has_share share c space past = nat_le share (length (of_client c space (pending past)))

-- ---- transaction numbers ----

abbrev pub of_space : ℕ → List Request → List Request
of_space space requests = filter (λ r. r.space == space) requests

abbrev pub numbers_of : List Request → List ℕ
numbers_of requests = map (λ r. r.number) requests

-- the numbers of a space that are in use
abbrev pub numbers_in_use : ℕ → List Fact → List ℕ
numbers_in_use space past = numbers_of (of_space space (in_use past))

-- the last number that was given in the space, 0 where none was; a reset doesn't set it back
unfoldable pub last_number : ℕ → List Fact → ℕ
last_number space [] = 0
last_number space (Forwarded r ∷ past) = if r.space == space then r.number else last_number space past
last_number space (_ ∷ past) = last_number space past

-- the number after n: the numbers go from 1 to the top and round again
abbrev pub following : ℕ → ℕ → ℕ
following top n = if nat_lt n top then n + 1 else 1

-- the first number from n on that isn't used, looking at most so many numbers further
unfoldable pub free_from : ℕ → ℕ → List ℕ → ℕ → ℕ
free_from zero top used n = n
free_from (suc steps) top used n = elim (contains n used) [ true ↦ free_from steps top used (following top n) | false ↦ n ]

-- the first free number after the last one given: where fewer than the limit are in use
abbrev pub number_after : ℕ → ℕ → ℕ → List ℕ → Option ℕ
number_after limit top last used =
    if nat_lt (length used) limit then Some (free_from (length used) top used (following top last)) else None

-- the number that the next request of the space gets
abbrev pub next_number : ℕ → ℕ → ℕ → List Fact → Option ℕ
next_number limit top space past = number_after limit top (last_number space past) (numbers_in_use space past)

-- ---- deadlines ----

-- the time as a 64-bit number, the greatest for those past it
abbrev pub deadline_of : (time limit : ℕ) → ℕ
deadline_of time limit = min (time + limit) (2 ^ 64 - 1)
