-- The modem's messages as the proxy hears them. Its answers and its indications may come in fragments, and those of both kinds between each other.
-- A list of messages has the oldest first.
-- Source: the USB-IF MBIM specification 1.0, section 9.2, "MBIM_FRAGMENT_HEADER".
use Rattle.std.specs.Prelude.{ℕ, Bool, ◌&&◌, nat_le, List, [], ◌∷◌, ◌++◌, length, if◌then◌else◌}
use Rattle.mbim_frame.specs.declared.kind.MessageKind.{MessageKind}
use Rattle.mbim_frame.specs.declared.kind.MessageKind.TheVariants.{CommandDone, IndicateStatus}
use Rattle.mbim_frame.specs.Head.{kind_of, is_kind, number_of}
use Rattle.mbim_frame.specs.Writing.{unsplit}
use Rattle.mbim_fragments.specs.Runs.{Joining, Whole}
use Rattle.mbim_fragments.specs.Assembling.{Assembled, fresh, joining_behind, assembled_after}

-- what has come of an answer, and of an indication, of which more fragments are due
pub record Begun : Type 0 where
  pub answer : Assembled
  pub indication : Assembled

abbrev pub none_begun : Begun
none_begun = record { answer = fresh; indication = fresh }

-- a message of this kind with both heads
abbrev pub is_fragment : MessageKind → (message : List ℕ) → Bool
is_fragment kind m = is_kind kind m && nat_le 20 (length m)

-- a body that became whole is heard as one message; the fragment is the last of it
abbrev pub heard_whole : (fragment : List ℕ) → Joining → List (List ℕ)
heard_whole m (Whole body) = unsplit (kind_of m) (number_of m) body ∷ []
heard_whole m _ = []

-- what is heard with a message
abbrev pub heard_with : (longest : ℕ) → Begun → (message : List ℕ) → List (List ℕ)
heard_with longest begun m =
    if is_fragment CommandDone m then heard_whole m (joining_behind longest begun.answer m)
    else if is_fragment IndicateStatus m then heard_whole m (joining_behind longest begun.indication m)
    else m ∷ []

abbrev pub begun_after : (longest : ℕ) → Begun → (message : List ℕ) → Begun
begun_after longest begun m = record {
  answer = if is_fragment CommandDone m then assembled_after longest begun.answer m else begun.answer;
  indication = if is_fragment IndicateStatus m then assembled_after longest begun.indication m else begun.indication;
}

-- what is heard of messages, one after another
unfoldable pub heard_from : (longest : ℕ) → Begun → (messages : List (List ℕ)) → List (List ℕ)
heard_from longest begun [] = []
heard_from longest begun (m ∷ messages) = heard_with longest begun m ++ heard_from longest (begun_after longest begun m) messages

-- what they leave open
unfoldable pub begun_from : (longest : ℕ) → Begun → (messages : List (List ℕ)) → Begun
begun_from longest begun [] = begun
begun_from longest begun (m ∷ messages) = begun_from longest (begun_after longest begun m) messages

-- all that is heard of a stream's messages
abbrev pub deliver : (longest : ℕ) → (messages : List (List ℕ)) → List (List ℕ)
deliver longest messages = heard_from longest none_begun messages
