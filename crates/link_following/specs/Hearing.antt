-- What the code's calls do, as what the session has heard.
use Rattle.std.specs.Prelude.{◌≡◌, ℕ, true, List, [], ◌∷◌, ◌++◌, Option, Some, None, Result, Ok, Err, IfOk}
use Rattle.kit_io.specs.Growth.{Grows, GrowsByFront}
use Rattle.framing.specs.declared.framing.Size.{Size}
use Rattle.framing.specs.Reading.{Reading}
use Rattle.link_io.specs.Calls.{Call}
use Rattle.link_session.specs.declared.fault.SessionFault.{SessionFault}
use Rattle.link_session.specs.declared.fault.SessionFault.TheVariants as fault
use Rattle.link_session.specs.Marks.{Placed, Mark, Message}
use Rattle.link_session.specs.Waiting.{Heard, Brings, AreNeeded}
use Rattle.link_session.specs.Hearing.{Stands}
use Rattle.link_following.specs.declared.end.FollowEnd.{FollowEnd}
use Rattle.link_following.specs.declared.end.FollowEnd.TheVariants.{WriteFault}
use Rattle.link_following.specs.Following.{Follows, Showing, end_by, goes_on, lines_of}

-- the calls and what was taken have grown by those of a following, behind whose end the session can go on
pub record FollowsTo
    (size : List ℕ → Size)
    (shown : Showing)
    (turns : ℕ)
    (heard : Heard)
    (end : Result FollowEnd SessionFault)
    (cutter : Reading)
    (calls_before calls_after : Option (List Call))
    (taken_before taken_after : Option (List ℕ)) : Type 0 where
  pub takes : List Call
  pub later : Heard
  pub taken : List ℕ
  pub follows : Follows size shown turns heard takes end later taken
  pub stands : IfOk end (λ done. Stands size cutter later)
  pub calls_grow : Grows calls_before takes calls_after
  pub taken_grow : Grows taken_before taken taken_after

-- ---- one turn ----

-- a front of a message's lines is taken
pub record IsUnwritten (shown : Showing) (mark : Mark) (taken : List ℕ) : Type 0 where
  pub message : Placed
  pub rest : List ℕ
  pub is : mark ≡ Message message
  pub whole : shown message.bytes ≡ taken ++ rest

-- what a turn with this mark comes to, and what is taken with it
abbrev pub Says : Showing → Mark → Result (Option FollowEnd) SessionFault → List ℕ → Type 0
Says shown mark (Ok None) taken = (goes_on mark ≡ true) × (taken ≡ lines_of shown (mark ∷ []))
Says shown mark (Ok (Some WriteFault)) taken = IsUnwritten shown mark taken
Says shown mark (Ok (Some end)) taken = (end_by mark ≡ Some (Ok end)) × (taken ≡ [])
Says shown mark (Err fault.OutOfMemory) taken = (message : Placed) × (mark ≡ Message message) × (taken ≡ [])
Says shown mark (Err why) taken = (end_by mark ≡ Some (Err why)) × (taken ≡ [])

-- the next mark came, as few takes bring it
pub record Turns
    (size : List ℕ → Size)
    (shown : Showing)
    (heard : Heard)
    (result : Result (Option FollowEnd) SessionFault)
    (cutter : Reading)
    (calls_before calls_after : Option (List Call))
    (taken_before taken_after : Option (List ℕ)) : Type 0 where
  pub mark : Mark
  pub takes : List Call
  pub later : Heard
  pub taken : List ℕ
  pub brings : Brings size heard takes (mark ∷ []) later
  pub needed : AreNeeded size heard takes []
  pub says : Says shown mark result taken
  pub stands : IfOk result (λ stop. Stands size cutter later)
  pub calls_grow : Grows calls_before takes calls_after
  pub taken_grow : Grows taken_before taken taken_after

-- lines were taken whole, or a front of them, or there was no memory for them
abbrev pub Writes : List ℕ → Option (List ℕ) → Result (Option FollowEnd) SessionFault → Option (List ℕ) → Type 0
Writes lines before (Ok None) after = Grows before lines after
Writes lines before (Ok (Some WriteFault)) after = GrowsByFront before lines after
Writes lines before (Err fault.OutOfMemory) after = Grows before [] after
Writes lines before result after = ⊥
