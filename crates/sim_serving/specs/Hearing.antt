-- What a piece of a client's stream makes of the core of a simulated modem's server. Lists of requests have the newest first.
use Rattle.std.specs.Prelude.{◌≡◌, ℕ, ◌-◌, ◌+◌, Bool, not, ◌||◌, ◌⊎◌, List, [], ◌∷◌, ◌++◌, map, filter, drop, Option, Some, None, ◌==◌, if◌then◌else◌}
use Rattle.std.specs.List.{flat_map}
use Rattle.framing.specs.Framing.{is_invalid}
use Rattle.framing.specs.Cutting.{Cutting, cut}
use Rattle.proxy_history.specs.Streams.{Framing}
use Rattle.served_sim.specs.Conduct.{Conduct, IsPrompt}
use Rattle.sim_serving.specs.Clients.{Owed, heeded, hangs_up, asks, promised, due_at}
use Rattle.sim_serving.specs.Core.{Client, Core, Replies, late_after}
use Rattle.sim_serving.specs.declared.replies.Late.{Late}

-- ---- what a client is to get ----

-- messages that go in so many ticks, of which 0 is at once, are put behind the others
abbrev pub with_messages : (ticks : ℕ) → (messages : List ℕ) → Replies → Replies
with_messages ticks messages r =
    if ticks == 0 then record { waiting = r.waiting ++ messages; late = r.late } else record { waiting = r.waiting; late = r.late ++ record { ticks = ticks; messages = messages } ∷ [] }

-- what is owed is, where so many ticks have been
abbrev pub with_owed : (ticks : ℕ) → List Owed → Replies → Replies
with_owed ticks owed r = record { waiting = r.waiting ++ due_at ticks owed; late = r.late ++ late_after ticks owed }

-- at a tick the messages go that were due in one, and then these; all others are due one tick sooner
abbrev pub are_due : List Late → List ℕ
are_due late = flat_map (λ l. l.messages) (filter (λ l. l.ticks == 1) late)

abbrev pub sooner : Late → Late
sooner l = record { ticks = l.ticks - 1; messages = l.messages }

abbrev pub still_late : List Late → List Late
still_late late = map sooner (filter (λ l. not (l.ticks == 1)) late)

-- what was late before is
abbrev pub all_passed : List Late → Replies → Replies
all_passed late r = record { waiting = r.waiting ++ are_due late; late = r.late ++ still_late late }

-- one of them is
abbrev pub passed : Late → Replies → Replies
passed l r = if l.ticks == 1 then record { waiting = r.waiting ++ l.messages; late = r.late } else record { waiting = r.waiting; late = r.late ++ sooner l ∷ [] }

abbrev pub ticked : (told : List ℕ) → Replies → Replies
ticked told r = record { waiting = (r.waiting ++ are_due r.late) ++ told; late = still_late r.late }

-- ---- what a piece asks ----

-- behind so many ticks a modem that keeps these requests was asked these messages too, up to the first at which it hangs up, and its answers are put behind what the client was to get
pub record Answers {S : Type 0} (keeps : ℕ → Conduct → List (List ℕ) → S → Type 0) (ticks : ℕ) (conduct : Conduct) (before : List (List ℕ)) (messages : List (List ℕ)) (sim : S) (old new : Replies) : Type 0 where
  pub modem : keeps ticks conduct (asks (heeded conduct messages before) before) sim
  pub answered : new ≡ with_owed ticks (promised conduct ticks (heeded conduct messages before) before) old

-- the cut of what the client's stream left and the piece
abbrev pub cut_of : Framing → List ℕ → Client → Cutting
cut_of size piece k = cut size (k.rest ++ piece)

-- the stream is good behind these bytes, and the modem doesn't hang up at one of their messages
abbrev pub is_good : Framing → Conduct → List (List ℕ) → List ℕ → Bool
is_good size conduct before bytes = not (is_invalid (size (cut size bytes).rest) || hangs_up conduct (cut size bytes).messages before)

abbrev pub goes_on : Framing → Conduct → List (List ℕ) → List ℕ → Client → Bool
goes_on size conduct before piece k = is_good size conduct before (k.rest ++ piece)

-- what the piece asks
abbrev pub heeded_of : Framing → Conduct → List (List ℕ) → List ℕ → Client → List (List ℕ)
heeded_of size conduct before piece k = heeded conduct (cut_of size piece k).messages before

-- what it promises
abbrev pub promised_of : Framing → (ticks : ℕ) → Conduct → List (List ℕ) → List ℕ → Client → List Owed
promised_of size ticks conduct before piece k = promised conduct ticks (heeded_of size conduct before piece k) before

-- the client once all that the piece asks was answered
abbrev pub heard : Framing → (ticks : ℕ) → Conduct → List (List ℕ) → List ℕ → Client → Client
heard size ticks conduct before piece k = record {
  name = k.name;
  rest = (cut_of size piece k).rest;
  replies = with_owed ticks (promised_of size ticks conduct before piece k) k.replies;
}

-- ---- the client of a name ----

-- it is changed
unfoldable pub changed : ℕ → (Client → Client) → List Client → List Client
changed name change [] = []
changed name change (k ∷ clients) = if name == k.name then change k ∷ clients else k ∷ changed name change clients

-- it is gone
unfoldable pub gone : ℕ → List Client → List Client
gone name [] = []
gone name (k ∷ clients) = if name == k.name then clients else k ∷ gone name clients

abbrev pub took : ℕ → Client → Client
took count k = record k { replies = record { waiting = drop count k.replies.waiting; late = k.replies.late } }

-- ---- what a piece makes of the core ----

-- the modem was asked what the piece of a client that is there made whole; the client's answers are put behind the others, or it is gone and to be hung up where its stream went bad or the modem hangs up
pub record Hears {S : Type 0} (size : Framing) (keeps : ℕ → Conduct → List (List ℕ) → S → Type 0) (ticks : ℕ) (conduct : Conduct) (before : List (List ℕ)) (k : Client) (piece : List ℕ) (old new : Core S) : Type 0 where
  pub modem : keeps ticks conduct (asks (heeded_of size conduct before piece k) before) new.sim
  pub clients : new.clients ≡ (if goes_on size conduct before piece k then changed k.name (heard size ticks conduct before piece) old.clients else gone k.name old.clients)
  pub dropped : new.dropped ≡ (if goes_on size conduct before piece k then old.dropped else Some k.name)
  pub greatest : new.greatest ≡ old.greatest

abbrev pub Brings : {S : Type 0} → Framing → (ℕ → Conduct → List (List ℕ) → S → Type 0) → (ticks : ℕ) → Conduct → List (List ℕ) → Option Client → List ℕ → Core S → Core S → Type 0
Brings size keeps ticks conduct before None piece old new = new ≡ old
Brings size keeps ticks conduct before (Some k) piece old new = Hears size keeps ticks conduct before k piece old new

-- ---- what a tick makes of it ----

-- the client once the clock has ticked
abbrev pub ticks_on : (told : List ℕ) → Client → Client
ticks_on told k = record k { replies = ticked told k.replies }

-- each client is told what the modem tells, or the clock doesn't matter to the modem
pub record Ticks {S : Type 0} (keeps : ℕ → Conduct → List (List ℕ) → S → Type 0) (ticks : ℕ) (conduct : Conduct) (before : List (List ℕ)) (old new : Core S) : Type 0 where
  pub modem : keeps (ticks + 1) conduct before new.sim
  pub clients : (IsPrompt conduct × (new.clients ≡ old.clients)) ⊎ (new.clients ≡ map (ticks_on (conduct.told (ticks + 1) before)) old.clients)
  pub dropped : new.dropped ≡ old.dropped
  pub greatest : new.greatest ≡ old.greatest
