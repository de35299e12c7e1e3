-- Examples of messages in fragments.
use Rattle.std.specs.Prelude.{◌≡◌, ℕ, List, [], ◌∷◌, ◌++◌, codes}
use Rattle.kit_bytes.specs.Hex.{hex}
use Rattle.proxy_history.specs.Events.{Event, Joined, Piece, Left, ModemPiece, Now}
use Rattle.proxy_history.specs.Requests.{in_use}
use Rattle.mbim_examples.specs.Story.{configure, configured, open_6, opened_6, open_1, opened_1, query_7, query_2, query_3, answer_2, answer_3, answer_7, failed_7, one_configured, one_open, both_open, bytes_for, to_modem, history, small_bytes_for, small_to_modem}

-- ---- of the modem ----

-- an answer in 3 fragments
abbrev pub answer_part_0 : List ℕ
answer_part_0 = hex (codes "03 00 00 80 40 00 00 00 02 00 00 00 03 00 00 00 00 00 00 00 A2 89 CC 33 BC BB 8B 4F B6 B0 13 3E C2 AA E6 DF 03 00 00 00 00 00 00 00 64 00 00 00 00 01 02 03 04 05 06 07 08 09 0A 0B 0C 0D 0E 0F")

abbrev pub answer_part_1 : List ℕ
answer_part_1 = hex (codes "03 00 00 80 40 00 00 00 02 00 00 00 03 00 00 00 01 00 00 00 10 11 12 13 14 15 16 17 18 19 1A 1B 1C 1D 1E 1F 20 21 22 23 24 25 26 27 28 29 2A 2B 2C 2D 2E 2F 30 31 32 33 34 35 36 37 38 39 3A 3B")

abbrev pub answer_part_2 : List ℕ
answer_part_2 = hex (codes "03 00 00 80 3C 00 00 00 02 00 00 00 03 00 00 00 02 00 00 00 3C 3D 3E 3F 40 41 42 43 44 45 46 47 48 49 4A 4B 4C 4D 4E 4F 50 51 52 53 54 55 56 57 58 59 5A 5B 5C 5D 5E 5F 60 61 62 63")

-- one in 2 fragments, to numbers 2 and 3, with another buffer than the whole answers have
abbrev pub half_2 : List ℕ
half_2 = hex (codes "03 00 00 80 30 00 00 00 02 00 00 00 02 00 00 00 00 00 00 00 A2 89 CC 33 BC BB 8B 4F B6 B0 13 3E C2 AA E6 DF 03 00 00 00 00 00 00 00 08 00 00 00")

abbrev pub rest_2 : List ℕ
rest_2 = hex (codes "03 00 00 80 1C 00 00 00 02 00 00 00 02 00 00 00 01 00 00 00 02 00 00 00 02 00 00 00")

abbrev pub half_3 : List ℕ
half_3 = hex (codes "03 00 00 80 30 00 00 00 03 00 00 00 02 00 00 00 00 00 00 00 A2 89 CC 33 BC BB 8B 4F B6 B0 13 3E C2 AA E6 DF 03 00 00 00 00 00 00 00 08 00 00 00")

abbrev pub rest_3 : List ℕ
rest_3 = hex (codes "03 00 00 80 1C 00 00 00 03 00 00 00 02 00 00 00 01 00 00 00 02 00 00 00 02 00 00 00")

-- an indication in 2 fragments
abbrev pub indication_part_0 : List ℕ
indication_part_0 = hex (codes "07 00 00 80 40 00 00 00 00 00 00 00 02 00 00 00 00 00 00 00 53 3F BE EB 14 FE 44 67 9F 90 33 A2 23 E5 6C 3F 02 00 00 00 3C 00 00 00 00 01 02 03 04 05 06 07 08 09 0A 0B 0C 0D 0E 0F 10 11 12 13")

abbrev pub indication_part_1 : List ℕ
indication_part_1 = hex (codes "07 00 00 80 3C 00 00 00 00 00 00 00 02 00 00 00 01 00 00 00 14 15 16 17 18 19 1A 1B 1C 1D 1E 1F 20 21 22 23 24 25 26 27 28 29 2A 2B 2C 2D 2E 2F 30 31 32 33 34 35 36 37 38 39 3A 3B")

-- both whole, as the client gets them
abbrev pub whole_answer : List ℕ
whole_answer = hex (codes "03 00 00 80 94 00 00 00 07 00 00 00 01 00 00 00 00 00 00 00 A2 89 CC 33 BC BB 8B 4F B6 B0 13 3E C2 AA E6 DF 03 00 00 00 00 00 00 00 64 00 00 00 00 01 02 03 04 05 06 07 08 09 0A 0B 0C 0D 0E 0F 10 11 12 13 14 15 16 17 18 19 1A 1B 1C 1D 1E 1F 20 21 22 23 24 25 26 27 28 29 2A 2B 2C 2D 2E 2F 30 31 32 33 34 35 36 37 38 39 3A 3B 3C 3D 3E 3F 40 41 42 43 44 45 46 47 48 49 4A 4B 4C 4D 4E 4F 50 51 52 53 54 55 56 57 58 59 5A 5B 5C 5D 5E 5F 60 61 62 63")

abbrev pub whole_indication : List ℕ
whole_indication = hex (codes "07 00 00 80 68 00 00 00 00 00 00 00 01 00 00 00 00 00 00 00 53 3F BE EB 14 FE 44 67 9F 90 33 A2 23 E5 6C 3F 02 00 00 00 3C 00 00 00 00 01 02 03 04 05 06 07 08 09 0A 0B 0C 0D 0E 0F 10 11 12 13 14 15 16 17 18 19 1A 1B 1C 1D 1E 1F 20 21 22 23 24 25 26 27 28 29 2A 2B 2C 2D 2E 2F 30 31 32 33 34 35 36 37 38 39 3A 3B")

-- the fragments of an answer come with those of an indication between them
abbrev pub interleaved : List Event
interleaved = one_open (Piece 1 query_7 ∷ ModemPiece (answer_part_0 ++ indication_part_0) ∷ ModemPiece (answer_part_1 ++ indication_part_1 ++ answer_part_2) ∷ [])

-- what the modem says without a place in the two leaves them as they are: an answer of 19 bytes, an OPEN_DONE, an error
abbrev pub others_between : List Event
others_between = one_open (Piece 1 query_7 ∷ ModemPiece answer_part_0 ∷ ModemPiece (hex (codes "03 00 00 80 13 00 00 00 02 00 00 00 03 00 00 00 00 00 00")) ∷ ModemPiece opened_1 ∷ ModemPiece (hex (codes "04 00 00 80 10 00 00 00 09 00 00 00 01 00 00 00")) ∷ ModemPiece answer_part_1 ∷ ModemPiece answer_part_2 ∷ [])

pub record BothArriveWhole : Type 0 where
  pub client : bytes_for 1 interleaved ≡ configured ++ opened_6 ++ whole_indication ++ whole_answer
  pub between : bytes_for 1 others_between ≡ configured ++ opened_6 ++ whole_answer

-- a fragment is left out: the message is dropped, and the one fragment that is the whole of the next is heard
abbrev pub leaves_one_out : List Event
leaves_one_out = one_open (Piece 1 query_7 ∷ ModemPiece (answer_part_0 ++ answer_part_2 ++ answer_part_1) ∷ ModemPiece answer_2 ∷ [])

-- so it is where a fragment comes twice
abbrev pub comes_twice : List Event
comes_twice = one_open (Piece 1 query_7 ∷ ModemPiece (half_2 ++ half_2 ++ rest_2) ∷ ModemPiece answer_2 ∷ [])

pub record DroppedAnswers : Type 0 where
  pub client : bytes_for 1 leaves_one_out ≡ configured ++ opened_6 ++ answer_7
  pub twice : bytes_for 1 comes_twice ≡ configured ++ opened_6 ++ answer_7

-- the fragments of two answers come between each other: both are dropped; one comes again, whole, and whoever waits for the other gets status 2 in the end
abbrev pub two_at_once : List Event
two_at_once = both_open (Piece 1 query_7 ∷ Piece 2 query_7 ∷ ModemPiece (half_2 ++ half_3 ++ rest_3 ++ rest_2) ∷ ModemPiece answer_3 ∷ Now 30000 ∷ [])

pub record TwoAnswersAtOnce : Type 0 where
  pub first : bytes_for 1 two_at_once ≡ configured ++ opened_6 ++ failed_7
  pub second : bytes_for 2 two_at_once ≡ configured ++ opened_6 ++ answer_7

-- a client leaves in the middle of its answer: with the rest of it the number is free, and the other's answer comes
abbrev pub leaves_in_its_answer : List Event
leaves_in_its_answer = both_open (Piece 1 query_7 ∷ Piece 2 query_7 ∷ ModemPiece half_2 ∷ Left 1 ∷ ModemPiece (rest_2 ++ answer_3) ∷ [])

pub record AnswersGoOnWithoutTheirClient : Type 0 where
  pub second : bytes_for 2 leaves_in_its_answer ≡ configured ++ opened_6 ++ answer_7
  pub free : in_use (history leaves_in_its_answer) ≡ []

-- a body of 120 bytes is taken, and one of 121 is dropped
abbrev pub small_answer : List ℕ → List Event
small_answer answer = one_configured (Piece 1 (hex (codes "01 00 00 00 10 00 00 00 06 00 00 00 54 00 00 00")) ∷ ModemPiece opened_1 ∷ Piece 1 query_7 ∷ ModemPiece answer ∷ ModemPiece answer_2 ∷ [])

pub record LongAnswers : Type 0 where
  pub fits : small_bytes_for 1 (small_answer (hex (codes "03 00 00 80 8C 00 00 00 02 00 00 00 01 00 00 00 00 00 00 00 A2 89 CC 33 BC BB 8B 4F B6 B0 13 3E C2 AA E6 DF 03 00 00 00 00 00 00 00 5C 00 00 00 00 00 00 00 00 00 00 00 00 00 00 00 00 00 00 00 00 00 00 00 00 00 00 00 00 00 00 00 00 00 00 00 00 00 00 00 00 00 00 00 00 00 00 00 00 00 00 00 00 00 00 00 00 00 00 00 00 00 00 00 00 00 00 00 00 00 00 00 00 00 00 00 00 00 00 00 00 00 00 00 00 00 00 00 00 00 00 00 00 00 00 00"))) ≡ configured ++ opened_6 ++ hex (codes "03 00 00 80 54 00 00 00 07 00 00 00 02 00 00 00 00 00 00 00 A2 89 CC 33 BC BB 8B 4F B6 B0 13 3E C2 AA E6 DF 03 00 00 00 00 00 00 00 5C 00 00 00 00 00 00 00 00 00 00 00 00 00 00 00 00 00 00 00 00 00 00 00 00 00 00 00 00 00 00 00 00 00 00 00 00 00 00 00 03 00 00 80 4C 00 00 00 07 00 00 00 02 00 00 00 01 00 00 00 00 00 00 00 00 00 00 00 00 00 00 00 00 00 00 00 00 00 00 00 00 00 00 00 00 00 00 00 00 00 00 00 00 00 00 00 00 00 00 00 00 00 00 00 00 00 00 00 00 00 00 00 00 00 00 00")
  pub dropped : small_bytes_for 1 (small_answer (hex (codes "03 00 00 80 8D 00 00 00 02 00 00 00 01 00 00 00 00 00 00 00 A2 89 CC 33 BC BB 8B 4F B6 B0 13 3E C2 AA E6 DF 03 00 00 00 00 00 00 00 5D 00 00 00 00 00 00 00 00 00 00 00 00 00 00 00 00 00 00 00 00 00 00 00 00 00 00 00 00 00 00 00 00 00 00 00 00 00 00 00 00 00 00 00 00 00 00 00 00 00 00 00 00 00 00 00 00 00 00 00 00 00 00 00 00 00 00 00 00 00 00 00 00 00 00 00 00 00 00 00 00 00 00 00 00 00 00 00 00 00 00 00 00 00 00 00 00"))) ≡ configured ++ opened_6 ++ answer_7

-- ---- of clients ----

-- a command in three fragments with number 9, and as the modem gets it
abbrev pub command_part_0 : List ℕ
command_part_0 = hex (codes "03 00 00 00 40 00 00 00 09 00 00 00 03 00 00 00 00 00 00 00 A2 89 CC 33 BC BB 8B 4F B6 B0 13 3E C2 AA E6 DF 03 00 00 00 00 00 00 00 64 00 00 00 00 01 02 03 04 05 06 07 08 09 0A 0B 0C 0D 0E 0F")

abbrev pub command_part_1 : List ℕ
command_part_1 = hex (codes "03 00 00 00 40 00 00 00 09 00 00 00 03 00 00 00 01 00 00 00 10 11 12 13 14 15 16 17 18 19 1A 1B 1C 1D 1E 1F 20 21 22 23 24 25 26 27 28 29 2A 2B 2C 2D 2E 2F 30 31 32 33 34 35 36 37 38 39 3A 3B")

abbrev pub command_part_2 : List ℕ
command_part_2 = hex (codes "03 00 00 00 3C 00 00 00 09 00 00 00 03 00 00 00 02 00 00 00 3C 3D 3E 3F 40 41 42 43 44 45 46 47 48 49 4A 4B 4C 4D 4E 4F 50 51 52 53 54 55 56 57 58 59 5A 5B 5C 5D 5E 5F 60 61 62 63")

abbrev pub whole_command : List ℕ
whole_command = hex (codes "03 00 00 00 94 00 00 00 02 00 00 00 01 00 00 00 00 00 00 00 A2 89 CC 33 BC BB 8B 4F B6 B0 13 3E C2 AA E6 DF 03 00 00 00 00 00 00 00 64 00 00 00 00 01 02 03 04 05 06 07 08 09 0A 0B 0C 0D 0E 0F 10 11 12 13 14 15 16 17 18 19 1A 1B 1C 1D 1E 1F 20 21 22 23 24 25 26 27 28 29 2A 2B 2C 2D 2E 2F 30 31 32 33 34 35 36 37 38 39 3A 3B 3C 3D 3E 3F 40 41 42 43 44 45 46 47 48 49 4A 4B 4C 4D 4E 4F 50 51 52 53 54 55 56 57 58 59 5A 5B 5C 5D 5E 5F 60 61 62 63")

-- HOST_ERROR, an unknown kind and a COMMAND of 19 bytes between the fragments leave them as they are
abbrev pub sends_in_parts : List Event
sends_in_parts = one_open (Piece 1 command_part_0 ∷ Piece 1 (hex (codes "04 00 00 00 18 00 00 00 03 00 00 00 02 00 00 00 00 00 00 00 00 00 00 00")) ∷ Piece 1 (hex (codes "09 00 00 00 18 00 00 00 03 00 00 00 02 00 00 00 00 00 00 00 00 00 00 00")) ∷ Piece 1 (hex (codes "03 00 00 00 13 00 00 00 09 00 00 00 03 00 00 00 01 00 00")) ∷ Piece 1 command_part_1 ∷ Piece 1 command_part_2 ∷ ModemPiece answer_2 ∷ [])

pub record CommandsAreJoined : Type 0 where
  pub modem : to_modem sends_in_parts ≡ open_1 ++ whole_command
  pub client : bytes_for 1 sends_in_parts ≡ configured ++ opened_6 ++ hex (codes "04 00 00 80 10 00 00 00 03 00 00 00 06 00 00 00") ++ hex (codes "04 00 00 80 10 00 00 00 09 00 00 00 03 00 00 00") ++ hex (codes "03 00 00 80 38 00 00 00 09 00 00 00 01 00 00 00 00 00 00 00 A2 89 CC 33 BC BB 8B 4F B6 B0 13 3E C2 AA E6 DF 03 00 00 00 00 00 00 00 08 00 00 00 01 00 00 00 01 00 00 00")

-- a client leaves in the middle of its command: nothing of that is left for whoever comes next, and the other client's command goes on as before
abbrev pub leaves_in_its_command : List Event
leaves_in_its_command = both_open (Piece 1 command_part_0 ∷ Left 1 ∷ Joined 3 ∷ Piece 3 configure ∷ Piece 3 open_6 ∷ Piece 3 query_7 ∷ Piece 2 query_7 ∷ ModemPiece answer_2 ∷ ModemPiece answer_3 ∷ [])

pub record HalfACommandGoesWithItsClient : Type 0 where
  pub modem : to_modem leaves_in_its_command ≡ open_1 ++ query_2 ++ query_3
  pub second : bytes_for 2 leaves_in_its_command ≡ configured ++ opened_6 ++ answer_7
  pub newcomer : bytes_for 3 leaves_in_its_command ≡ configured ++ opened_6 ++ answer_7

-- the last comes after the first: error 2
abbrev pub skips : List Event
skips = one_open (Piece 1 (command_part_0 ++ command_part_2) ∷ [])

-- another number, another total, a total of 0; and the fragment that was due, which is so no more
abbrev pub strays : List Event
strays =
    one_open (
    Piece 1 (command_part_0 ++ hex (codes "03 00 00 00 40 00 00 00 08 00 00 00 03 00 00 00 01 00 00 00 10 11 12 13 14 15 16 17 18 19 1A 1B 1C 1D 1E 1F 20 21 22 23 24 25 26 27 28 29 2A 2B 2C 2D 2E 2F 30 31 32 33 34 35 36 37 38 39 3A 3B"))
    ∷ Piece 1 (command_part_0 ++ hex (codes "03 00 00 00 40 00 00 00 09 00 00 00 04 00 00 00 01 00 00 00 00 00 00 00 00 00 00 00 00 00 00 00 00 00 00 00 00 00 00 00 00 00 00 00 00 00 00 00 00 00 00 00 00 00 00 00 00 00 00 00 00 00 00 00"))
    ∷ Piece 1 (hex (codes "03 00 00 00 30 00 00 00 09 00 00 00 00 00 00 00 00 00 00 00 00 00 00 00 00 00 00 00 00 00 00 00 00 00 00 00 00 00 00 00 00 00 00 00 00 00 00 00"))
    ∷ Piece 1 command_part_1 ∷ [])

pub record SkippedFragmentIsRefused : Type 0 where
  pub client : bytes_for 1 skips ≡ configured ++ opened_6 ++ hex (codes "04 00 00 80 10 00 00 00 09 00 00 00 02 00 00 00")
  pub modem : to_modem skips ≡ open_1
  pub strays : bytes_for 1 strays ≡ configured ++ opened_6 ++ hex (codes "04 00 00 80 10 00 00 00 08 00 00 00 02 00 00 00") ++ hex (codes "04 00 00 80 10 00 00 00 09 00 00 00 02 00 00 00") ++ hex (codes "04 00 00 80 10 00 00 00 09 00 00 00 02 00 00 00") ++ hex (codes "04 00 00 80 10 00 00 00 09 00 00 00 02 00 00 00")

-- a command goes to the modem in fragments of at most 84 bytes: a body of 98 takes 138 bytes in two, for which no room is; one of 121 bytes is error 8
abbrev pub small_command : List ℕ → List Event
small_command command = one_configured (Piece 1 open_6 ∷ ModemPiece opened_1 ∷ Piece 1 command ∷ [])

pub record LongCommands : Type 0 where
  pub modem : small_to_modem (small_command (hex (codes "03 00 00 00 6C 00 00 00 09 00 00 00 01 00 00 00 00 00 00 00 A2 89 CC 33 BC BB 8B 4F B6 B0 13 3E C2 AA E6 DF 03 00 00 00 00 00 00 00 3C 00 00 00 00 00 00 00 00 00 00 00 00 00 00 00 00 00 00 00 00 00 00 00 00 00 00 00 00 00 00 00 00 00 00 00 00 00 00 00 00 00 00 00 00 00 00 00 00 00 00 00 00 00 00 00 00 00 00 00 00 00 00 00"))) ≡ hex (codes "01 00 00 00 10 00 00 00 01 00 00 00 54 00 00 00") ++ hex (codes "03 00 00 00 54 00 00 00 02 00 00 00 02 00 00 00 00 00 00 00 A2 89 CC 33 BC BB 8B 4F B6 B0 13 3E C2 AA E6 DF 03 00 00 00 00 00 00 00 3C 00 00 00 00 00 00 00 00 00 00 00 00 00 00 00 00 00 00 00 00 00 00 00 00 00 00 00 00 00 00 00 00 00 00 00 00 00 00 00 03 00 00 00 2C 00 00 00 02 00 00 00 02 00 00 00 01 00 00 00 00 00 00 00 00 00 00 00 00 00 00 00 00 00 00 00 00 00 00 00 00 00 00 00")
  pub no_room : small_bytes_for 1 (small_command (hex (codes "03 00 00 00 76 00 00 00 09 00 00 00 01 00 00 00 00 00 00 00 A2 89 CC 33 BC BB 8B 4F B6 B0 13 3E C2 AA E6 DF 03 00 00 00 00 00 00 00 46 00 00 00 00 00 00 00 00 00 00 00 00 00 00 00 00 00 00 00 00 00 00 00 00 00 00 00 00 00 00 00 00 00 00 00 00 00 00 00 00 00 00 00 00 00 00 00 00 00 00 00 00 00 00 00 00 00 00 00 00 00 00 00 00 00 00 00 00 00 00 00 00 00"))) ≡ configured ++ opened_6 ++ hex (codes "03 00 00 80 30 00 00 00 09 00 00 00 01 00 00 00 00 00 00 00 A2 89 CC 33 BC BB 8B 4F B6 B0 13 3E C2 AA E6 DF 03 00 00 00 01 00 00 00 00 00 00 00")
  pub longest : small_bytes_for 1 (small_command (hex (codes "03 00 00 00 8C 00 00 00 09 00 00 00 01 00 00 00 00 00 00 00 A2 89 CC 33 BC BB 8B 4F B6 B0 13 3E C2 AA E6 DF 03 00 00 00 00 00 00 00 5C 00 00 00 00 00 00 00 00 00 00 00 00 00 00 00 00 00 00 00 00 00 00 00 00 00 00 00 00 00 00 00 00 00 00 00 00 00 00 00 00 00 00 00 00 00 00 00 00 00 00 00 00 00 00 00 00 00 00 00 00 00 00 00 00 00 00 00 00 00 00 00 00 00 00 00 00 00 00 00 00 00 00 00 00 00 00 00 00 00 00 00 00 00 00 00"))) ≡ configured ++ opened_6 ++ hex (codes "03 00 00 80 30 00 00 00 09 00 00 00 01 00 00 00 00 00 00 00 A2 89 CC 33 BC BB 8B 4F B6 B0 13 3E C2 AA E6 DF 03 00 00 00 01 00 00 00 00 00 00 00")
  pub too_long : small_bytes_for 1 (small_command (hex (codes "03 00 00 00 8D 00 00 00 09 00 00 00 01 00 00 00 00 00 00 00 A2 89 CC 33 BC BB 8B 4F B6 B0 13 3E C2 AA E6 DF 03 00 00 00 00 00 00 00 5D 00 00 00 00 00 00 00 00 00 00 00 00 00 00 00 00 00 00 00 00 00 00 00 00 00 00 00 00 00 00 00 00 00 00 00 00 00 00 00 00 00 00 00 00 00 00 00 00 00 00 00 00 00 00 00 00 00 00 00 00 00 00 00 00 00 00 00 00 00 00 00 00 00 00 00 00 00 00 00 00 00 00 00 00 00 00 00 00 00 00 00 00 00 00 00 00"))) ≡ configured ++ opened_6 ++ hex (codes "04 00 00 80 10 00 00 00 09 00 00 00 08 00 00 00")

-- ---- how long a client's fragments are ----

abbrev pub answer_in_parts : List ℕ
answer_in_parts = hex (codes "03 00 00 80 40 00 00 00 07 00 00 00 03 00 00 00 00 00 00 00 A2 89 CC 33 BC BB 8B 4F B6 B0 13 3E C2 AA E6 DF 03 00 00 00 00 00 00 00 64 00 00 00 00 01 02 03 04 05 06 07 08 09 0A 0B 0C 0D 0E 0F 03 00 00 80 40 00 00 00 07 00 00 00 03 00 00 00 01 00 00 00 10 11 12 13 14 15 16 17 18 19 1A 1B 1C 1D 1E 1F 20 21 22 23 24 25 26 27 28 29 2A 2B 2C 2D 2E 2F 30 31 32 33 34 35 36 37 38 39 3A 3B 03 00 00 80 3C 00 00 00 07 00 00 00 03 00 00 00 02 00 00 00 3C 3D 3E 3F 40 41 42 43 44 45 46 47 48 49 4A 4B 4C 4D 4E 4F 50 51 52 53 54 55 56 57 58 59 5A 5B 5C 5D 5E 5F 60 61 62 63")

abbrev pub one_answer : List ℕ
one_answer = hex (codes "03 00 00 80 94 00 00 00 02 00 00 00 01 00 00 00 00 00 00 00 A2 89 CC 33 BC BB 8B 4F B6 B0 13 3E C2 AA E6 DF 03 00 00 00 00 00 00 00 64 00 00 00 00 01 02 03 04 05 06 07 08 09 0A 0B 0C 0D 0E 0F 10 11 12 13 14 15 16 17 18 19 1A 1B 1C 1D 1E 1F 20 21 22 23 24 25 26 27 28 29 2A 2B 2C 2D 2E 2F 30 31 32 33 34 35 36 37 38 39 3A 3B 3C 3D 3E 3F 40 41 42 43 44 45 46 47 48 49 4A 4B 4C 4D 4E 4F 50 51 52 53 54 55 56 57 58 59 5A 5B 5C 5D 5E 5F 60 61 62 63")

-- a client asks for fragments of a length, and then a query
abbrev pub asks_for : List ℕ → List Event
asks_for opening = one_open (Piece 1 opening ∷ Piece 1 query_7 ∷ ModemPiece one_answer ∷ [])

-- an OPEN that is refused, since one waits, tells it too
abbrev pub asks_while_waiting : List Event
asks_while_waiting = one_configured (Piece 1 open_6 ∷ Piece 1 (hex (codes "01 00 00 00 10 00 00 00 09 00 00 00 40 00 00 00")) ∷ ModemPiece opened_1 ∷ Piece 1 query_7 ∷ ModemPiece one_answer ∷ ModemPiece indication_part_0 ∷ ModemPiece indication_part_1 ∷ [])

pub record AnswersComeInTheClientsFragments : Type 0 where
  pub client : bytes_for 1 (asks_for (hex (codes "01 00 00 00 10 00 00 00 06 00 00 00 40 00 00 00"))) ≡ configured ++ opened_6 ++ opened_6 ++ answer_in_parts
  pub modem : to_modem (asks_for (hex (codes "01 00 00 00 10 00 00 00 06 00 00 00 40 00 00 00"))) ≡ open_1 ++ query_2
  pub raised : bytes_for 1 (asks_for (hex (codes "01 00 00 00 10 00 00 00 06 00 00 00 3F 00 00 00"))) ≡ configured ++ opened_6 ++ opened_6 ++ answer_in_parts
  pub lowered : bytes_for 1 (asks_for (hex (codes "01 00 00 00 10 00 00 00 06 00 00 00 00 00 10 00"))) ≡ configured ++ opened_6 ++ opened_6 ++ whole_answer
  pub refused : bytes_for 1 asks_while_waiting ≡ configured ++ hex (codes "01 00 00 80 10 00 00 00 09 00 00 00 01 00 00 00") ++ opened_6 ++ answer_in_parts ++ hex (codes "07 00 00 80 40 00 00 00 00 00 00 00 02 00 00 00 00 00 00 00 53 3F BE EB 14 FE 44 67 9F 90 33 A2 23 E5 6C 3F 02 00 00 00 3C 00 00 00 00 01 02 03 04 05 06 07 08 09 0A 0B 0C 0D 0E 0F 10 11 12 13 07 00 00 80 3C 00 00 00 00 00 00 00 02 00 00 00 01 00 00 00 14 15 16 17 18 19 1A 1B 1C 1D 1E 1F 20 21 22 23 24 25 26 27 28 29 2A 2B 2C 2D 2E 2F 30 31 32 33 34 35 36 37 38 39 3A 3B")

-- an OPEN of 17 bytes tells nothing
pub record OpeningsOutOfForm : Type 0 where
  pub client : bytes_for 1 (asks_for (hex (codes "01 00 00 00 11 00 00 00 06 00 00 00 40 00 00 00 00"))) ≡ configured ++ opened_6 ++ hex (codes "04 00 00 80 10 00 00 00 06 00 00 00 03 00 00 00") ++ whole_answer

-- nobody has longer fragments than the proxy
abbrev pub asks_for_long : List ℕ → List Event
asks_for_long answer = one_configured (Piece 1 open_6 ∷ ModemPiece opened_1 ∷ Piece 1 query_7 ∷ ModemPiece answer ∷ [])

pub record FragmentsOfTheSmallProxy : Type 0 where
  pub client : small_bytes_for 1 (asks_for_long (hex (codes "03 00 00 80 6C 00 00 00 02 00 00 00 01 00 00 00 00 00 00 00 A2 89 CC 33 BC BB 8B 4F B6 B0 13 3E C2 AA E6 DF 03 00 00 00 00 00 00 00 3C 00 00 00 00 00 00 00 00 00 00 00 00 00 00 00 00 00 00 00 00 00 00 00 00 00 00 00 00 00 00 00 00 00 00 00 00 00 00 00 00 00 00 00 00 00 00 00 00 00 00 00 00 00 00 00 00 00 00 00 00 00 00 00"))) ≡ configured ++ opened_6 ++ hex (codes "03 00 00 80 54 00 00 00 07 00 00 00 02 00 00 00 00 00 00 00 A2 89 CC 33 BC BB 8B 4F B6 B0 13 3E C2 AA E6 DF 03 00 00 00 00 00 00 00 3C 00 00 00 00 00 00 00 00 00 00 00 00 00 00 00 00 00 00 00 00 00 00 00 00 00 00 00 00 00 00 00 00 00 00 00 00 00 00 00 03 00 00 80 2C 00 00 00 07 00 00 00 02 00 00 00 01 00 00 00 00 00 00 00 00 00 00 00 00 00 00 00 00 00 00 00 00 00 00 00 00 00 00 00")
