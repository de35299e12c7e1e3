-- What the proxy hears of the modem's messages, one after another. Lists of messages have the oldest first.
use Rattle.std.specs.Prelude.{◌≡◌, ℕ, ◌^◌, ◌<◌, ◌≤◌, false, List, [], ◌∷◌, ◌++◌, length}
use Rattle.framing.specs.Framing.{is_invalid}
use Rattle.mbim_frame.specs.declared.kind.MessageKind.{MessageKind}
use Rattle.mbim_frame.specs.Frame.{size_of, mbim_cut}
use Rattle.mbim_frame.specs.Kinds.{kind_number}
use Rattle.mbim_frame.specs.Writing.{unsplit}
use Rattle.mbim_fragments.specs.Splitting.{split}
use Rattle.mbim_proxy.specs.Delivering.{none_begun, heard_from, begun_from, deliver}

-- what is heard of further messages depends on them and on what those before left open
abbrev pub HearingGoesOn : Type 0
HearingGoesOn = (longest : ℕ) (messages more : List (List ℕ)) → deliver longest (messages ++ more) ≡ deliver longest messages ++ heard_from longest (begun_from longest none_begun messages) more

-- messages are heard as one, and leave nothing open
pub record AreHeardAs (longest : ℕ) (messages : List (List ℕ)) (whole : List ℕ) : Type 0 where
  pub heard : deliver longest messages ≡ whole ∷ []
  pub closed : begun_from longest none_begun messages ≡ none_begun

-- the bytes of a message of this kind that was split into fragments are heard as the one message that carries the whole body
abbrev pub FragmentsAreHeardWhole : MessageKind → Type 0
FragmentsAreHeardWhole kind = (longest number max : ℕ) (body : List ℕ) → number < 2 ^ 32 → 64 ≤ max → max ≤ 4096 → length body ≤ longest → length body < 2 ^ 32
    → AreHeardAs longest (mbim_cut (split (kind_number kind) number max body)).messages (unsplit (kind_number kind) number body)

-- of these bytes nothing is heard yet, and a message may go on from them
pub record AreUnheard (longest : ℕ) (bytes : List ℕ) : Type 0 where
  pub heard : deliver longest (mbim_cut bytes).messages ≡ []
  pub good : is_invalid (size_of (mbim_cut bytes).rest) ≡ false

-- so it is with those bytes but for some of the last
abbrev pub FrontsAreUnheard : MessageKind → Type 0
FrontsAreUnheard kind = (longest number max : ℕ) (body front later : List ℕ) → number < 2 ^ 32 → 64 ≤ max → max ≤ 4096 → length body ≤ longest → length body < 2 ^ 32
    → front ++ later ≡ split (kind_number kind) number max body → 0 < length later → AreUnheard longest front
