-- A request at a peer that answers: how it ends and what is heard are a function of what the peer says.
use Rattle.std.specs.Prelude.{◌≡◌, ℕ, ◌+◌, Bool, true, false, List, [], ◌∷◌, ◌++◌, map, replicate, All, Option, option_map, Result, Ok, Err}
use Rattle.std.specs.List.{concat, filter_map}
use Rattle.framing.specs.declared.framing.Size.{Size}
use Rattle.framing.specs.Framing.{IsKept}
use Rattle.link_io.specs.Calls.{Call, Sent, Took, WasQuiet}
use Rattle.link_session.specs.declared.fault.SessionFault.{SessionFault}
use Rattle.link_session.specs.declared.fault.SessionFault.TheVariants as fault
use Rattle.link_session.specs.Marks.{Placed, Mark, Message, Bad, Quiet, End, Failed, bytes_in, piece_marks}
use Rattle.link_session.specs.Waiting.{Heard, nothing_heard, Wait, Outcome, Answered, Fails, decision}
use Rattle.link_session.specs.Asking.{Asked, Asks}

-- what a peer says to the newest of the texts that have come to it, the oldest of them first
abbrev pub Peer : Type 0
Peer = List (List ℕ) → List ℕ

-- what it says to these texts, one after another, behind those that came before
unfoldable pub said : Peer → List (List ℕ) → List (List ℕ) → List ℕ
said peer before [] = []
said peer before (text ∷ texts) = peer (before ++ text ∷ []) ++ said peer (before ++ text ∷ []) texts

-- ---- the mark that decides ----

-- a mark of some, with those before it and those behind it
pub record Seen : Type 0 where
  pub before : List Mark
  pub mark : Mark
  pub left : List Mark

-- each of these marks, which stand behind some others
unfoldable pub each_seen : List Mark → List Mark → List Seen
each_seen before [] = []
each_seen before (mark ∷ marks) = record { before = before; mark = mark; left = marks } ∷ each_seen (before ++ mark ∷ []) marks

-- how a wait ends, and the marks that it leaves
pub record Ending : Type 0 where
  pub outcome : Outcome
  pub left : List Mark

abbrev pub ending_at : Wait → Seen → Option Ending
ending_at wait seen = option_map (λ outcome. record { outcome = outcome; left = seen.left }) (decision wait seen.before seen.mark)

-- where no mark decides, nothing more comes and the wait is quiet
abbrev pub silence : Ending
silence = record { outcome = Fails fault.TimedOut; left = [] }

abbrev pub earliest : List Ending → Ending
earliest [] = silence
earliest (ending ∷ endings) = ending

-- what the first of the marks that decide comes to
unfoldable pub ending : Wait → List Mark → Ending
ending wait marks = earliest (filter_map (ending_at wait) (each_seen [] marks))

-- ---- a request at a peer ----

-- the texts that have come to a peer, and what was heard of all that it said to them
pub record Talk : Type 0 where
  pub texts : List (List ℕ)
  pub heard : Heard

abbrev pub nothing_said : Talk
nothing_said = record { texts = []; heard = nothing_heard }

-- how a request ends, and the talk then
pub record Turn : Type 0 where
  pub outcome : Outcome
  pub talk : Talk

-- what the peer says to a request
abbrev pub reply_to : Peer → Asked → Talk → List ℕ
reply_to peer asked talk = peer (talk.texts ++ asked.text ∷ [])

-- how the wait for its answer ends
abbrev pub ending_of : Peer → Asked → Talk → Ending
ending_of peer asked talk = ending asked.wait (talk.heard.left ++ piece_marks asked.size talk.heard.taken (reply_to peer asked talk))

unfoldable pub ask : Peer → Asked → Talk → Turn
ask peer asked talk = record {
  outcome = (ending_of peer asked talk).outcome;
  talk = record {
    texts = talk.texts ++ asked.text ∷ [];
    heard = record { taken = talk.heard.taken ++ reply_to peer asked talk; left = (ending_of peer asked talk).left };
  };
}

-- ---- a session at a peer ----

-- how a session ends, and the talk then
pub record Finish (E : Type 0) : Type 0 where
  pub end : E
  pub talk : Talk

-- what follows a request that ended so
abbrev pub finish_behind : {E : Type 0} → Outcome → Talk → (failed : SessionFault → E) → (next : List Placed → Placed → Talk → Finish E) → Finish E
finish_behind (Answered before message) talk failed next = next before message talk
finish_behind (Fails why) talk failed next = record { end = failed why; talk = talk }

-- a request, and what follows where it is answered
abbrev pub ask_then : {E : Type 0} → Peer → Asked → Talk → (failed : SessionFault → E) → (next : List Placed → Placed → Talk → Finish E) → Finish E
ask_then peer asked talk failed next = finish_behind (ask peer asked talk).outcome (ask peer asked talk).talk failed next

-- ---- a link to a peer ----

-- the texts that calls sent whole
unfoldable pub texts_in : List Call → List (List ℕ)
texts_in [] = []
texts_in (Sent text true ∷ calls) = text ∷ texts_in calls
texts_in (_ ∷ calls) = texts_in calls

-- The calls are on a link to a peer, to which these texts came before, and of whose bytes these are still to come:
-- at any of them, the bytes that were taken are a front of what the peer has said to the texts that were sent.
pub record LeadsTo (peer : Peer) (before : List (List ℕ)) (late : List ℕ) (calls : List Call) : Type 0 where
  pub comes : (front more : List Call) → calls ≡ front ++ more → (rest : List ℕ) × (late ++ said peer before (texts_in front) ≡ bytes_in front ++ rest)

-- a mark of bytes, and not of their absence
abbrev pub is_of_bytes : Mark → Bool
is_of_bytes (Message message) = true
is_of_bytes (Bad place) = true
is_of_bytes Quiet = false
is_of_bytes End = false
is_of_bytes Failed = false

-- the same was heard, up to these bytes, which are still to come
pub record IsUpTo (size : List ℕ → Size) (late : List ℕ) (heard whole : Heard) : Type 0 where
  pub taken : whole.taken ≡ heard.taken ++ late
  pub left : whole.left ≡ heard.left ++ piece_marks size heard.taken late
  pub each : All (λ mark. is_of_bytes mark ≡ true) heard.left

-- a wait ended neither by the link nor for want of memory, nor by silence while some of what the peer said was still to come
abbrev pub EndsByPeer : (all : List ℕ) → (taken : List ℕ) → Outcome → Type 0
EndsByPeer all taken (Fails fault.OutOfMemory) = ⊥
EndsByPeer all taken (Fails fault.LinkFault) = ⊥
EndsByPeer all taken (Fails fault.LinkEnd) = ⊥
EndsByPeer all taken (Fails fault.TimedOut) = taken ≡ all
EndsByPeer all taken _ = Unit {0}

-- a session did
abbrev pub FinishesByPeer : {R : Type 0} → (all : List ℕ) → (taken : List ℕ) → Result R SessionFault → Type 0
FinishesByPeer all taken (Ok end) = Unit {0}
FinishesByPeer all taken (Err why) = EndsByPeer all taken (Fails why)

-- ---- the laws ----

-- what some bytes say of a message's length, they say with more behind them too
abbrev pub Keeps : (List ℕ → Size) → Type 0
Keeps size = (front more : List ℕ) → IsKept (size front) (size (front ++ more))

-- a request that ended so, before these calls, ended as at the peer
pub record EndsAs (peer : Peer) (size : List ℕ → Size) (turn : Turn) (outcome : Outcome) (later : Heard) (more : List Call) : Type 0 where
  pub outcome_is : outcome ≡ turn.outcome
  pub late : List ℕ
  pub heard : IsUpTo size late later turn.talk.heard
  pub leads : LeadsTo peer turn.talk.texts late more

-- over any link to a peer, in whatever pieces and at whatever times its bytes come, a request ends as at the peer
abbrev pub LinksDecideNothing : Type 0
LinksDecideNothing =
    (peer : Peer) (asked : Asked) (talk : Talk) (late : List ℕ) (heard later : Heard) (calls more : List Call) (outcome : Outcome)
    → Keeps asked.size → IsUpTo asked.size late heard talk.heard → LeadsTo peer talk.texts late (calls ++ more) → Asks asked heard calls outcome later
    → EndsByPeer (late ++ said peer talk.texts (texts_in calls)) (bytes_in calls) outcome → EndsAs peer asked.size (ask peer asked talk) outcome later more

-- a request that is sent, and of these takes as many as it needs
pub record AsksWithin (asked : Asked) (heard : Heard) (takes : List Call) (outcome : Outcome) : Type 0 where
  pub own : List Call
  pub unneeded : List Call
  pub later : Heard
  pub are : takes ≡ own ++ unneeded
  pub asks : Asks asked heard (Sent asked.text true ∷ own) outcome later

-- takes that bring these pieces, and then nothing until that is too long
abbrev pub takes_of : (patience : ℕ) → List (List ℕ) → List Call
takes_of patience pieces = map (λ piece. Took piece) pieces ++ replicate (patience + 1) WasQuiet

-- a link that brings what a peer says, in any pieces, is a link to it; a request can be made over it, and ends as at the peer
abbrev pub PeersCanBeAsked : Type 0
PeersCanBeAsked =
    (peer : Peer) (asked : Asked) (talk : Talk) (late : List ℕ) (heard : Heard) (pieces : List (List ℕ))
    → Keeps asked.size → IsUpTo asked.size late heard talk.heard → concat pieces ≡ late ++ reply_to peer asked talk
    → LeadsTo peer talk.texts late (Sent asked.text true ∷ takes_of asked.wait.patience pieces) × AsksWithin asked heard (takes_of asked.wait.patience pieces) (ask peer asked talk).outcome
