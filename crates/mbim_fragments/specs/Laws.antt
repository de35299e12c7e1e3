-- Laws of runs and of pieces.
use Rattle.std.specs.Prelude.{◌≡◌, ℕ, ◌+◌, ◌-◌, ◌^◌, ◌<◌, ◌≤◌, List, [], ◌∷◌, ◌++◌, length, replicate, get_or, All}
use Rattle.mbim_frame.specs.Frame.{mbim_cut}
use Rattle.mbim_frame.specs.Head.{number_of}
use Rattle.mbim_frame.specs.Fragment.{total_of, current_of}
use Rattle.mbim_fragments.specs.Runs.{More, Whole, joined, run_after, run_of, joinings}
use Rattle.mbim_fragments.specs.Splitting.{pieces, split}

-- ---- runs ----

-- the fragments have one number and one total, and each stands at its place
pub record AreInOrder (number total : ℕ) (fragments : List (List ℕ)) : Type 0 where
  pub number_is : All (λ fragment. number_of fragment ≡ number) fragments
  pub total_is : All (λ fragment. total_of fragment ≡ total) fragments
  pub places : (place : ℕ) → place < length fragments → current_of (get_or fragments place []) ≡ place

-- the fragments end with this run, which is the front of one message and may go on
pub record EndsWithRun (longest : ℕ) (fragments run : List (List ℕ)) : Type 0 where
  pub before : List (List ℕ)
  pub number : ℕ
  pub total : ℕ
  pub whole : fragments ≡ before ++ run
  pub in_order : AreInOrder number total run
  pub more_due : length run < total
  pub short : length (joined run) ≤ longest

abbrev pub RunIsAFront : Type 0
RunIsAFront = (longest : ℕ) (fragments : List (List ℕ)) → EndsWithRun longest fragments (run_of longest fragments)

-- with one fragment more
abbrev pub RunGoesOn : Type 0
RunGoesOn = (longest : ℕ) (fragments : List (List ℕ)) (fragment : List ℕ) → run_of longest (fragments ++ fragment ∷ []) ≡ run_after longest (run_of longest fragments) fragment

-- ---- pieces ----

-- the fragments, joined in order, give this body with the last of them, and nothing else
pub record GivesBody (longest : ℕ) (fragments : List (List ℕ)) (body : List ℕ) : Type 0 where
  pub each : joinings longest fragments ≡ replicate (length fragments - 1) More ++ Whole body ∷ []
  pub closed : run_of longest fragments ≡ []

abbrev pub PiecesGiveTheBody : Type 0
PiecesGiveTheBody = (longest kind number max : ℕ) (body : List ℕ) → kind < 2 ^ 32 → number < 2 ^ 32 → 64 ≤ max → max ≤ 4096
    → length body ≤ longest → length body < 2 ^ 32 → GivesBody longest (pieces kind number max body) body

-- each has at most so many bytes, and each but the last has so many
pub record AreFilled (max : ℕ) (pieces : List (List ℕ)) : Type 0 where
  pub within : All (λ piece. length piece ≤ max) pieces
  pub full : (place : ℕ) → place + 1 < length pieces → length (get_or pieces place []) ≡ max

abbrev pub PiecesAreFilled : Type 0
PiecesAreFilled = (kind number max : ℕ) (body : List ℕ) → 64 ≤ max → AreFilled max (pieces kind number max body)

-- in a stream they are the messages that they were written as
abbrev pub PiecesAreCut : Type 0
PiecesAreCut = (kind number max : ℕ) (body : List ℕ) → kind < 2 ^ 32 → number < 2 ^ 32 → 64 ≤ max → max ≤ 4096 → length body < 2 ^ 32
    → mbim_cut (split kind number max body) ≡ record { messages = pieces kind number max body; rest = [] }
