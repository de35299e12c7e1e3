-- Who is there, as the facts tell it.
-- A list of facts has the newest first; the lists that are read off it have the oldest first.
use Rattle.std.specs.Prelude.{ℕ, ◌+◌, Bool, false, not, ◌||◌, ◌==◌, if◌then◌else◌, List, [], ◌∷◌, ◌++◌, filter}
use Rattle.proxy_history.specs.Facts.{Fact, EventBegan, Admitted, Ended, Judged, Leaving}

abbrev pub contains : ℕ → List ℕ → Bool
contains x [] = false
contains x (y ∷ ys) = x == y || contains x ys

abbrev pub without : ℕ → List ℕ → List ℕ
without x ys = filter (λ y. not (x == y)) ys

-- the connections that are there, in order of joining
unfoldable pub present : List Fact → List ℕ
present [] = []
present (Admitted c ∷ past) = present past ++ c ∷ []
present (Ended c why ∷ past) = without c (present past)
present (_ ∷ past) = present past

abbrev pub is_present : ℕ → List Fact → Bool
is_present c past = contains c (present past)

-- the connections that the proxy itself ended in the last event, and that are to be hung up
unfoldable pub dropped : List Fact → List ℕ
dropped [] = []
dropped (EventBegan ∷ past) = []
dropped (Ended c Leaving ∷ past) = dropped past
dropped (Ended c _ ∷ past) = dropped past ++ c ∷ []
dropped (_ ∷ past) = dropped past

-- how many messages of the connection were judged
unfoldable pub message_count : ℕ → List Fact → ℕ
message_count c [] = 0
message_count c (Admitted d ∷ past) = if d == c then 0 else message_count c past
message_count c (Judged d place message verdict ∷ past) = if d == c then message_count c past + 1 else message_count c past
message_count c (_ ∷ past) = message_count c past
