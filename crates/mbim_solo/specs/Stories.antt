-- Stories of two clients, and what each of them meets alone. A story is told in its order; lists of events have the newest first.
use Rattle.std.specs.Prelude.{◌≡◌, ℕ, List, [], ◌∷◌, ◌++◌, length, map, replicate, reverse, take, drop, codes}
use Rattle.kit_bytes.specs.Hex.{hex}
use Rattle.mbim_frame.specs.declared.kind.MessageKind.TheVariants.{CommandDone}
use Rattle.mbim_frame.specs.Kinds.{kind_number}
use Rattle.mbim_frame.specs.Writing.{unsplit}
use Rattle.proxy_history.specs.Events.{Event, Joined, Piece, Left, ModemPiece, ModemGone, ModemBack, Now, Took, ModemTook}
use Rattle.proxy_solo.specs.Solo.{pieces_of}
use Rattle.mbim_examples.specs.Story.{setup, configure, configured, open_6, opened_6, failed_6, opened_1, opened_2, query_7, answer_2, answer_3, answer_7, failed_7, close_8, closed_8, both_configured, both_open, bytes_for}
use Rattle.mbim_examples.specs.Openings.{both_ask}
use Rattle.mbim_examples.specs.Fragments.{answer_part_0, answer_part_1, answer_part_2, indication_part_0, indication_part_1, whole_answer, whole_indication, one_answer}
use Rattle.mbim_examples.specs.Lists.{set_two, has_two, has_all, told_2, told_3, both_hear}
use Rattle.mbim_solo.specs.Solo.{in_fragments, solo}

-- what comes after a client that is alone named the device, and once it is open
abbrev pub alone_configured : ℕ → List Event → List Event
alone_configured c story = reverse (Joined c ∷ Piece c configure ∷ story)

abbrev pub alone_open : ℕ → List Event → List Event
alone_open c story = alone_configured c (Piece c open_6 ∷ ModemTook 16 ∷ ModemPiece opened_1 ∷ story)

-- of these events the client meets these alone, and either way it gets these bytes once it named the device
pub record MeetsAlone (c : ℕ) (events own : List Event) (bytes : List ℕ) : Type 0 where
  pub met : solo setup c events ≡ own
  pub beside : bytes_for c events ≡ configured ++ bytes
  pub alone : bytes_for c own ≡ configured ++ bytes

-- ---- answers that come out of order ----

abbrev pub OutOfOrderFirst : Type 0
OutOfOrderFirst = MeetsAlone 1 both_ask (alone_open 1 (Piece 1 query_7 ∷ ModemTook 48 ∷ ModemPiece answer_2 ∷ [])) (opened_6 ++ answer_7)

-- its command has number 2 where it is alone
abbrev pub OutOfOrderSecond : Type 0
OutOfOrderSecond = MeetsAlone 2 both_ask (alone_open 2 (Piece 2 query_7 ∷ ModemTook 48 ∷ ModemPiece answer_2 ∷ [])) (opened_6 ++ answer_7)

-- ---- a modem that is open already ----

-- client 2 asks to open it and for more in one piece, and begins a third message
abbrev pub opens_late : List Event
opens_late = both_configured (Piece 1 open_6 ∷ ModemPiece opened_1 ∷ Piece 1 query_7 ∷ Piece 2 (open_6 ++ query_7 ++ take 9 query_7) ∷ ModemPiece answer_3 ∷ [])

abbrev pub OpensLate : Type 0
OpensLate =
    MeetsAlone 2 opens_late
    (alone_configured 2 (Piece 2 open_6 ∷ ModemTook 16 ∷ ModemPiece opened_1 ∷ Piece 2 query_7 ∷ ModemTook 48 ∷ Piece 2 (take 9 query_7) ∷ ModemPiece answer_2 ∷ []))
    (opened_6 ++ answer_7)

-- ---- an opening that fails ----

-- OPEN_DONEs with number 1 that tell statuses 2 and 9, and what a client gets of the second
abbrev pub failed_1 : List ℕ
failed_1 = hex (codes "01 00 00 80 10 00 00 00 01 00 00 00 02 00 00 00")

abbrev pub refused_1 : List ℕ
refused_1 = hex (codes "01 00 00 80 10 00 00 00 01 00 00 00 09 00 00 00")

abbrev pub refused_6 : List ℕ
refused_6 = hex (codes "01 00 00 80 10 00 00 00 06 00 00 00 09 00 00 00")

-- client 2 waits for what client 1 had the proxy ask 100 milliseconds before, and that expires; it comes late, and client 2 asks again
abbrev pub expires : List Event
expires = both_configured (Piece 1 open_6 ∷ Now 100 ∷ Piece 2 open_6 ∷ Now 30000 ∷ ModemPiece opened_1 ∷ Piece 2 open_6 ∷ ModemPiece opened_2 ∷ [])

abbrev pub Expires : Type 0
Expires =
    MeetsAlone 2 expires
    (alone_configured 2 (Now 100 ∷ Piece 2 open_6 ∷ ModemTook 16 ∷ ModemPiece failed_1 ∷ Now 30000 ∷ Piece 2 open_6 ∷ ModemTook 16 ∷ ModemPiece opened_2 ∷ []))
    (failed_6 ++ opened_6)

-- the modem refuses
abbrev pub refuses : List Event
refuses = both_configured (Piece 1 open_6 ∷ Piece 2 open_6 ∷ ModemPiece refused_1 ∷ [])

abbrev pub Refuses : Type 0
Refuses = MeetsAlone 2 refuses (alone_configured 2 (Piece 2 open_6 ∷ ModemTook 16 ∷ ModemPiece refused_1 ∷ [])) refused_6

-- it answers with an error
abbrev pub errs : List Event
errs = both_configured (Piece 1 open_6 ∷ Piece 2 open_6 ∷ ModemPiece (hex (codes "04 00 00 80 10 00 00 00 01 00 00 00 03 00 00 00")) ∷ [])

abbrev pub Errs : Type 0
Errs = MeetsAlone 2 errs (alone_configured 2 (Piece 2 open_6 ∷ ModemTook 16 ∷ ModemPiece failed_1 ∷ [])) failed_6

-- the modem is lost while it opens
abbrev pub is_lost : List Event
is_lost = both_configured (Piece 1 open_6 ∷ Piece 2 open_6 ∷ ModemGone ∷ ModemBack ∷ ModemPiece opened_1 ∷ Piece 1 open_6 ∷ [])

abbrev pub IsLostFirst : Type 0
IsLostFirst = MeetsAlone 1 is_lost (alone_configured 1 (Piece 1 open_6 ∷ ModemTook 16 ∷ ModemPiece failed_1 ∷ ModemGone ∷ ModemBack ∷ Piece 1 open_6 ∷ ModemTook 16 ∷ [])) failed_6

abbrev pub IsLostSecond : Type 0
IsLostSecond = MeetsAlone 2 is_lost (alone_configured 2 (Piece 2 open_6 ∷ ModemTook 16 ∷ ModemPiece failed_1 ∷ ModemGone ∷ ModemBack ∷ [])) failed_6

-- a client leaves that waits: nobody answers it any more
abbrev pub leaves : List Event
leaves = both_configured (Piece 1 open_6 ∷ Piece 2 open_6 ∷ Left 1 ∷ ModemPiece opened_1 ∷ Now 30000 ∷ [])

abbrev pub Leaves : Type 0
Leaves = MeetsAlone 1 leaves (alone_configured 1 (Piece 1 open_6 ∷ ModemTook 16 ∷ Left 1 ∷ Now 30000 ∷ [])) []

-- ---- lists of subscriptions ----

-- the modem's answers with numbers 2 and 3, which take a list
abbrev pub taken_2 : List ℕ
taken_2 = hex (codes "03 00 00 80 30 00 00 00 02 00 00 00 01 00 00 00 00 00 00 00 A2 89 CC 33 BC BB 8B 4F B6 B0 13 3E C2 AA E6 DF 13 00 00 00 00 00 00 00 00 00 00 00")

abbrev pub taken_3 : List ℕ
taken_3 = hex (codes "03 00 00 80 30 00 00 00 03 00 00 00 01 00 00 00 00 00 00 00 A2 89 CC 33 BC BB 8B 4F B6 B0 13 3E C2 AA E6 DF 13 00 00 00 00 00 00 00 00 00 00 00")

-- beside client 2 the proxy asks for the lists of both, which the modem doesn't answer; alone it asks for SMS 2, and for none once the client closes
abbrev pub ListsFirst : Type 0
ListsFirst =
    MeetsAlone 1 both_hear
    (alone_open 1 (Piece 1 set_two ∷ ModemTook 84 ∷ ModemPiece taken_2 ∷ ModemPiece told_2 ∷ Piece 1 close_8 ∷ ModemTook 52 ∷ ModemPiece taken_3 ∷ []))
    (opened_6 ++ has_two ++ told_2 ++ closed_8)

abbrev pub ListsSecond : Type 0
ListsSecond =
    MeetsAlone 2 both_hear
    (alone_open 2 (Piece 2 (hex (codes "03 00 00 00 50 00 00 00 09 00 00 00 01 00 00 00 00 00 00 00 A2 89 CC 33 BC BB 8B 4F B6 B0 13 3E C2 AA E6 DF 13 00 00 00 01 00 00 00 20 00 00 00 01 00 00 00 0C 00 00 00 14 00 00 00 53 3F BE EB 14 FE 44 67 9F 90 33 A2 23 E5 6C 3F 00 00 00 00")) ∷ ModemTook 80 ∷ ModemPiece taken_2 ∷ ModemPiece told_2 ∷ ModemPiece told_3 ∷ ModemPiece told_2 ∷ []))
    (opened_6 ++ has_all ++ told_2 ++ told_3 ++ told_2)

-- an OPEN_DONE with number 3, and the modem's answer with number 4, which takes a list
abbrev pub opened_3 : List ℕ
opened_3 = hex (codes "01 00 00 80 10 00 00 00 03 00 00 00 00 00 00 00")

abbrev pub taken_4 : List ℕ
taken_4 = hex (codes "03 00 00 80 30 00 00 00 04 00 00 00 01 00 00 00 00 00 00 00 A2 89 CC 33 BC BB 8B 4F B6 B0 13 3E C2 AA E6 DF 13 00 00 00 00 00 00 00 00 00 00 00")

-- a client that set a list opens again, as the modem is open already, and where it is alone the modem gets that list once more
abbrev pub opens_with_a_list : List Event
opens_with_a_list = both_open (Piece 1 set_two ∷ Piece 2 query_7 ∷ ModemGone ∷ ModemBack ∷ Piece 2 open_6 ∷ ModemPiece opened_3 ∷ Piece 1 open_6 ∷ [])

abbrev pub OpensWithAList : Type 0
OpensWithAList =
    MeetsAlone 1 opens_with_a_list
    (alone_open 1 (Piece 1 set_two ∷ ModemTook 84 ∷ ModemPiece taken_2 ∷ ModemGone ∷ ModemBack ∷ Piece 1 open_6 ∷ ModemTook 16 ∷ ModemPiece opened_3
    ∷ ModemTook 84 ∷ ModemPiece taken_4 ∷ []))
    (opened_6 ++ has_two ++ opened_6)

-- ---- fragments ----

-- an answer for client 1 has fragments of an indication between its own, which both hear
abbrev pub interleaved : List Event
interleaved = both_open (Piece 1 query_7 ∷ ModemPiece (answer_part_0 ++ indication_part_0) ∷ ModemPiece (answer_part_1 ++ indication_part_1 ++ take 5 answer_part_2) ∷ ModemPiece (drop 5 answer_part_2) ∷ [])

abbrev pub InterleavedFirst : Type 0
InterleavedFirst = MeetsAlone 1 interleaved (alone_open 1 (Piece 1 query_7 ∷ ModemTook 48 ∷ ModemPiece whole_indication ∷ ModemPiece one_answer ∷ [])) (opened_6 ++ whole_indication ++ whole_answer)

abbrev pub InterleavedSecond : Type 0
InterleavedSecond = MeetsAlone 2 interleaved (alone_open 2 (ModemPiece whole_indication ∷ [])) (opened_6 ++ whole_indication)

-- an answer with a body of 20,000 bytes comes in two pieces: four whole fragments, and the fifth
abbrev pub LongComesInTwo : Type 0
LongComesInTwo = map (λ piece. length piece) (pieces_of 20100 (in_fragments 2 (unsplit (kind_number CommandDone) 7 (replicate 20000 0)))) ≡ 16384 ∷ 3716 ∷ []

-- ---- a modem whose stream goes bad ----

abbrev pub goes_bad : List Event
goes_bad = both_open (Piece 1 query_7 ∷ Piece 2 query_7 ∷ ModemPiece (answer_3 ++ hex (codes "03 00 00 00 0B 00 00 00")) ∷ ModemPiece answer_2 ∷ ModemGone ∷ [])

abbrev pub GoesBadFirst : Type 0
GoesBadFirst = MeetsAlone 1 goes_bad (alone_open 1 (Piece 1 query_7 ∷ ModemTook 48 ∷ ModemGone ∷ ModemGone ∷ [])) (opened_6 ++ failed_7)

abbrev pub GoesBadSecond : Type 0
GoesBadSecond = MeetsAlone 2 goes_bad (alone_open 2 (Piece 2 query_7 ∷ ModemTook 48 ∷ ModemPiece answer_2 ∷ ModemGone ∷ ModemGone ∷ [])) (opened_6 ++ answer_7)

-- ---- a client that is alone meets what it meets ----

abbrev pub only_story : List Event
only_story = alone_open 1 (Took 1 48 ∷ Piece 1 query_7 ∷ ModemTook 48 ∷ ModemPiece answer_2 ∷ Took 1 16 ∷ Now 60000 ∷ [])

abbrev pub OnlyClient : Type 0
OnlyClient = MeetsAlone 1 only_story only_story (opened_6 ++ answer_7)
