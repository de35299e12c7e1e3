-- Which children a list of calls leaves, the oldest call first.
use Rattle.std.specs.Prelude.{◌≡◌, ℕ, Bool, true, false, not, ◌==◌, List, [], ◌∷◌, ◌++◌, filter}
use Rattle.std.specs.List.{list_any}
use Rattle.child_io.specs.Calls.{Call, Started, Ended, Stopped}

-- the call answered that this child has ended
abbrev pub sees_end_of : ℕ → Call → Bool
sees_end_of child (Ended other status) = other == child
sees_end_of child (Stopped other true after) = other == child
sees_end_of child _ = false

-- of these children, those whose end none of the calls saw
abbrev pub left_after : List Call → List ℕ → List ℕ
left_after calls children = filter (λ child. not (list_any (sees_end_of child) calls)) children

-- the child that the call named
abbrev pub named_by : Call → List ℕ
named_by (Started words child) = child ∷ []
named_by _ = []

-- the children that a `start` named and whose end no later call saw, in the order of their starts
abbrev pub alive : List Call → List ℕ
alive [] = []
alive (call ∷ later) = left_after later (named_by call) ++ alive later

-- children that stand for the calls that were made
abbrev pub StandsFor : List Call → List ℕ → Type 0
StandsFor calls children = children ≡ alive calls
