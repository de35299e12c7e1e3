-- Examples of messages in fragments, byte for byte.
use Rattle.std.specs.Prelude.{◌≡◌, ℕ, List, [], ◌∷◌, ◌++◌, length}
use Rattle.std.specs.List.{range_with_len}
use Rattle.mbim_frame.specs.declared.kind.MessageKind.TheVariants.{CommandDone}
use Rattle.mbim_frame.specs.Kinds.{kind_number}
use Rattle.mbim_fragments.specs.Runs.{More, Whole, OutOfSequence, TooLong, joinings, longest_body}
use Rattle.mbim_fragments.specs.Splitting.{pieces, split}

-- ---- joining ----

-- the fragments 0, 1 and 2 of a command in 3, with number 9 and two bytes of body each
abbrev pub part_0 : List ℕ
part_0 = 0x03 ∷ 0x00 ∷ 0x00 ∷ 0x00 ∷ 0x16 ∷ 0x00 ∷ 0x00 ∷ 0x00 ∷ 0x09 ∷ 0x00 ∷ 0x00 ∷ 0x00 ∷ 0x03 ∷ 0x00 ∷ 0x00 ∷ 0x00 ∷ 0x00 ∷ 0x00 ∷ 0x00 ∷ 0x00 ∷ 0xA0 ∷ 0xA1 ∷ []

abbrev pub part_1 : List ℕ
part_1 = 0x03 ∷ 0x00 ∷ 0x00 ∷ 0x00 ∷ 0x16 ∷ 0x00 ∷ 0x00 ∷ 0x00 ∷ 0x09 ∷ 0x00 ∷ 0x00 ∷ 0x00 ∷ 0x03 ∷ 0x00 ∷ 0x00 ∷ 0x00 ∷ 0x01 ∷ 0x00 ∷ 0x00 ∷ 0x00 ∷ 0xB0 ∷ 0xB1 ∷ []

abbrev pub part_2 : List ℕ
part_2 = 0x03 ∷ 0x00 ∷ 0x00 ∷ 0x00 ∷ 0x16 ∷ 0x00 ∷ 0x00 ∷ 0x00 ∷ 0x09 ∷ 0x00 ∷ 0x00 ∷ 0x00 ∷ 0x03 ∷ 0x00 ∷ 0x00 ∷ 0x00 ∷ 0x02 ∷ 0x00 ∷ 0x00 ∷ 0x00 ∷ 0xC0 ∷ 0xC1 ∷ []

-- fragment 1 with number 10, and fragment 1 of 4
abbrev pub of_another : List ℕ
of_another = 0x03 ∷ 0x00 ∷ 0x00 ∷ 0x00 ∷ 0x16 ∷ 0x00 ∷ 0x00 ∷ 0x00 ∷ 0x0A ∷ 0x00 ∷ 0x00 ∷ 0x00 ∷ 0x03 ∷ 0x00 ∷ 0x00 ∷ 0x00 ∷ 0x01 ∷ 0x00 ∷ 0x00 ∷ 0x00 ∷ 0xB0 ∷ 0xB1 ∷ []

abbrev pub of_four : List ℕ
of_four = 0x03 ∷ 0x00 ∷ 0x00 ∷ 0x00 ∷ 0x16 ∷ 0x00 ∷ 0x00 ∷ 0x00 ∷ 0x09 ∷ 0x00 ∷ 0x00 ∷ 0x00 ∷ 0x04 ∷ 0x00 ∷ 0x00 ∷ 0x00 ∷ 0x01 ∷ 0x00 ∷ 0x00 ∷ 0x00 ∷ 0xB0 ∷ 0xB1 ∷ []

-- fragment 0 of none
abbrev pub of_none : List ℕ
of_none = 0x03 ∷ 0x00 ∷ 0x00 ∷ 0x00 ∷ 0x14 ∷ 0x00 ∷ 0x00 ∷ 0x00 ∷ 0x09 ∷ 0x00 ∷ 0x00 ∷ 0x00 ∷ 0x00 ∷ 0x00 ∷ 0x00 ∷ 0x00 ∷ 0x00 ∷ 0x00 ∷ 0x00 ∷ 0x00 ∷ []

pub record FragmentsAreJoined : Type 0 where
  pub in_order : joinings longest_body (part_0 ∷ part_1 ∷ part_2 ∷ []) ≡ More ∷ More ∷ Whole (0xA0 ∷ 0xA1 ∷ 0xB0 ∷ 0xB1 ∷ 0xC0 ∷ 0xC1 ∷ []) ∷ []
  -- a skipped fragment ends the run, and the one that was due doesn't go on with it
  pub skipped : joinings longest_body (part_0 ∷ part_2 ∷ part_1 ∷ []) ≡ More ∷ OutOfSequence ∷ OutOfSequence ∷ []
  pub repeated : joinings longest_body (part_0 ∷ part_0 ∷ []) ≡ More ∷ OutOfSequence ∷ []
  pub other_number : joinings longest_body (part_0 ∷ of_another ∷ []) ≡ More ∷ OutOfSequence ∷ []
  pub other_total : joinings longest_body (part_0 ∷ of_four ∷ []) ≡ More ∷ OutOfSequence ∷ []
  pub no_total : joinings longest_body (of_none ∷ []) ≡ OutOfSequence ∷ []
  -- with room for 5 bytes
  pub too_long : joinings 5 (part_0 ∷ part_1 ∷ part_2 ∷ part_0 ∷ []) ≡ More ∷ More ∷ TooLong ∷ More ∷ []

-- ---- splitting ----

-- both heads of the answer with number 7
abbrev pub head : (length total current : ℕ) → List ℕ
head length total current =
    0x03 ∷ 0x00 ∷ 0x00 ∷ 0x80 ∷ length ∷ 0x00 ∷ 0x00 ∷ 0x00 ∷ 0x07 ∷ 0x00 ∷ 0x00 ∷ 0x00
    ∷ total ∷ 0x00 ∷ 0x00 ∷ 0x00 ∷ current ∷ 0x00 ∷ 0x00 ∷ 0x00 ∷ []

-- the numbers from 0 on
abbrev pub bytes : ℕ → List ℕ
bytes count = range_with_len 0 count

pub record BodiesAreSplit : Type 0 where
  pub none : split (kind_number CommandDone) 7 64 [] ≡ head 0x14 1 0
  pub whole : split (kind_number CommandDone) 7 64 (bytes 44) ≡ head 0x40 1 0 ++ bytes 44
  pub in_three : pieces (kind_number CommandDone) 7 64 (bytes 100)
      ≡ (head 0x40 3 0 ++ bytes 44) ∷ (head 0x40 3 1 ++ range_with_len 44 44) ∷ (head 0x20 3 2 ++ range_with_len 88 12) ∷ []
