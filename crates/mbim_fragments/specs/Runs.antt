-- Messages in fragments, joined. A run is the fragments of a message of which more are due, the oldest first; it is empty where no message has begun.
-- Source: the USB-IF MBIM specification 1.0, section 9.2, "MBIM_FRAGMENT_HEADER". What ends a run early, and the longest body, are the project's own.
use Rattle.std.specs.Prelude.{ℕ, Bool, ◌&&◌, ◌==◌, nat_lt, if◌then◌else◌, List, [], ◌∷◌, ◌++◌, length}
use Rattle.std.specs.List.{flat_map}
use Rattle.mbim_fragments.specs.declared.assembly.Took.{Took}
use Rattle.mbim_fragments.specs.declared.assembly.Took.TheVariants as took
use Rattle.mbim_frame.specs.Head.{number_of}
use Rattle.mbim_frame.specs.Fragment.{total_of, current_of, body_of}

-- a body has at most so many bytes
abbrev pub longest_body : ℕ
longest_body = 65536

-- the parts of the body that fragments carry
abbrev pub joined : List (List ℕ) → List ℕ
joined fragments = flat_map body_of fragments

-- a run goes on with the fragment that has its number, its total, and its length as the place; an empty one begins with a first fragment
abbrev pub is_due : (run : List (List ℕ)) → (fragment : List ℕ) → Bool
is_due [] fragment = current_of fragment == 0 && nat_lt 0 (total_of fragment)
is_due (first ∷ run) fragment = number_of fragment == number_of first && (total_of fragment == total_of first) && (current_of fragment == length (first ∷ run))

-- what a fragment comes to
pub data Joining : Type 0 where
  -- more fragments are to follow
  More : Joining
  -- it is the last, and this is the body
  Whole : (body : List ℕ) → Joining
  -- it isn't the one that is due
  OutOfSequence : Joining
  -- the body would be too long
  TooLong : Joining

-- the fragments that are there with the one that is due; `longest` is how many bytes a body may have
abbrev pub joining_due : (longest : ℕ) → (fragments : List (List ℕ)) → (total : ℕ) → Joining
joining_due longest fragments total =
    if nat_lt longest (length (joined fragments)) then TooLong
    else if length fragments == total then Whole (joined fragments)
    else More

abbrev pub joining : (longest : ℕ) → (run : List (List ℕ)) → (fragment : List ℕ) → Joining
joining longest run fragment = if is_due run fragment then joining_due longest (run ++ fragment ∷ []) (total_of fragment) else OutOfSequence

abbrev pub run_with : List (List ℕ) → List ℕ → Joining → List (List ℕ)
run_with run fragment More = run ++ fragment ∷ []
run_with run fragment _ = []

-- whatever completes a message or isn't taken ends the run
abbrev pub run_after : (longest : ℕ) → (run : List (List ℕ)) → (fragment : List ℕ) → List (List ℕ)
run_after longest run fragment = run_with run fragment (joining longest run fragment)

-- ---- many fragments ----

-- the run that fragments leave, one after another
unfoldable pub run_from : (longest : ℕ) → (run fragments : List (List ℕ)) → List (List ℕ)
run_from longest run [] = run
run_from longest run (fragment ∷ fragments) = run_from longest (run_after longest run fragment) fragments

abbrev pub run_of : (longest : ℕ) → (fragments : List (List ℕ)) → List (List ℕ)
run_of longest fragments = run_from longest [] fragments

-- what each of them comes to
unfoldable pub joinings_from : (longest : ℕ) → (run fragments : List (List ℕ)) → List Joining
joinings_from longest run [] = []
joinings_from longest run (fragment ∷ fragments) = joining longest run fragment ∷ joinings_from longest (run_after longest run fragment) fragments

abbrev pub joinings : (longest : ℕ) → (fragments : List (List ℕ)) → List Joining
joinings longest fragments = joinings_from longest [] fragments

-- ---- what an assembly tells of a joining ----

abbrev pub told : Joining → Took
told More = took.More
told (Whole body) = took.Message
told OutOfSequence = took.OutOfSequence
told TooLong = took.TooLong
