-- Which takes a following makes, how it ends, and what is taken of its lines.
use Rattle.std.specs.Prelude.{◌≡◌, ℕ, ◌<◌, Bool, true, false, List, [], ◌∷◌, ◌++◌, length, Option, Some, None, Result, Ok, Err}
use Rattle.std.specs.List.{flat_map, list_all}
use Rattle.framing.specs.declared.framing.Size.{Size}
use Rattle.link_io.specs.Calls.{Call}
use Rattle.link_session.specs.declared.fault.SessionFault.{SessionFault}
use Rattle.link_session.specs.declared.fault.SessionFault.TheVariants as fault
use Rattle.link_session.specs.Marks.{Placed, Mark, Message, Bad, Quiet, End, Failed, messages_in}
use Rattle.link_session.specs.Waiting.{Heard, Brings, AreNeeded}
use Rattle.link_following.specs.declared.end.FollowEnd.{FollowEnd}
use Rattle.link_following.specs.declared.end.FollowEnd.TheVariants.{LinkEnd, TurnsSpent, WriteFault}

-- ---- what comes ----

-- the next mark is brought by as few takes as bring it, and this follows
pub record ComesThen (size : List ℕ → Size) (heard : Heard) (mark : Mark) (takes : List Call) (Then : Heard → List Call → Type 0) : Type 0 where
  pub own : List Call
  pub more : List Call
  pub now : Heard
  pub are : takes ≡ own ++ more
  pub brings : Brings size heard own (mark ∷ []) now
  pub needed : AreNeeded size heard own []
  pub follows : Then now more

-- takes, and no other calls, bring these marks, one after another; this is heard then
abbrev pub Come : (size : List ℕ → Size) → Heard → List Mark → List Call → Heard → Type 0
Come size heard [] takes later = (takes ≡ []) × (later ≡ heard)
Come size heard (mark ∷ marks) takes later = ComesThen size heard mark takes (λ now more. Come size now marks more later)

-- ---- what is shown ----

-- the lines of a message, none where it isn't shown
abbrev pub Showing : Type 0
Showing = List ℕ → List ℕ

abbrev pub lines_of : Showing → List Mark → List ℕ
lines_of shown marks = flat_map (λ (message : Placed). shown message.bytes) (messages_in marks)

-- ---- how it ends ----

-- a message or a quiet tick, behind which more may come
abbrev pub goes_on : Mark → Bool
goes_on (Message message) = true
goes_on Quiet = true
goes_on _ = false

abbrev pub end_by : Mark → Option (Result FollowEnd SessionFault)
end_by (Message message) = None
end_by Quiet = None
end_by (Bad place) = Some (Err (fault.Broken place))
end_by End = Some (Ok LinkEnd)
end_by Failed = Some (Err fault.LinkFault)

-- fewer marks than there are turns, behind each of which more may come
pub record GoOn (turns : ℕ) (marks : List Mark) : Type 0 where
  pub each : list_all goes_on marks ≡ true
  pub few : length marks < turns

-- how it ends with these marks, and what is taken then
pub data Ends (shown : Showing) (turns : ℕ) (marks : List Mark) (end : Result FollowEnd SessionFault) (taken : List ℕ) : Type 0 where
  spent : list_all goes_on marks ≡ true → length marks ≡ turns → end ≡ Ok TurnsSpent → taken ≡ lines_of shown marks → Ends shown turns marks end taken
  decided : (before : List Mark) (mark : Mark) → marks ≡ before ++ mark ∷ [] → GoOn turns before → end_by mark ≡ Some end → taken ≡ lines_of shown before → Ends shown turns marks end taken
  -- a front of the last message's lines is taken
  unwritten : (before : List Mark) (message : Placed) (front rest : List ℕ) → marks ≡ before ++ Message message ∷ [] → GoOn turns before → shown message.bytes ≡ front ++ rest
      → end ≡ Ok WriteFault → taken ≡ lines_of shown before ++ front → Ends shown turns marks end taken
  -- there is no memory for them
  no_memory : (before : List Mark) (message : Placed) → marks ≡ before ++ Message message ∷ [] → GoOn turns before → end ≡ Err fault.OutOfMemory → taken ≡ lines_of shown before
      → Ends shown turns marks end taken

-- messages are followed by takes: their lines are taken as they come, until it ends
pub record Follows (size : List ℕ → Size) (shown : Showing) (turns : ℕ) (heard : Heard) (takes : List Call) (end : Result FollowEnd SessionFault) (later : Heard) (taken : List ℕ) : Type 0 where
  pub marks : List Mark
  pub come : Come size heard marks takes later
  pub ends : Ends shown turns marks end taken

-- ---- the law ----

-- takes that bring marks one after another bring all of them
abbrev pub MarksComeInOrder : Type 0
MarksComeInOrder = (size : List ℕ → Size) (heard : Heard) (marks : List Mark) (takes : List Call) (later : Heard) → Come size heard marks takes later → Brings size heard takes marks later
