-- Examples of commands and what becomes of them.
use Rattle.std.specs.Prelude.{◌≡◌, ℕ, true, List, [], ◌∷◌, ◌++◌, length, codes, Option, Some, None, is_some}
use Rattle.kit_bytes.specs.Hex.{hex}
use Rattle.proxy_history.specs.Events.{Event, Piece, Left, ModemPiece, ModemGone, Now, ModemTook}
use Rattle.proxy_history.specs.Connections.{present}
use Rattle.proxy_history.specs.Requests.{in_use, number_after}
use Rattle.proxy_history.specs.Modem.{modem_queue}
use Rattle.mbim_proxy.specs.Setup.{mbim_limits, the_space}
use Rattle.mbim_proxy.specs.Forwarding.{wire}
use Rattle.mbim_examples.specs.Story.{setup, configured, open_6, opened_6, open_1, opened_1, query_7, query_2, query_3, answer_2, answer_3, answer_7, busy_6, busy_7, failed_7, not_opened_7, close_8, closed_8, subscribe_none_2, one_configured, one_open, both_open, bytes_for, to_modem, history, small_bytes_for, small_to_modem, small_history}

-- no answer in 30 seconds: status 2, at that time and not before; the answer then comes to nobody, and the number is free
abbrev pub expires : ℕ → List Event
expires time = one_open (Now 1000 ∷ Piece 1 query_7 ∷ Now time ∷ [])

abbrev pub answered_late : List Event
answered_late = one_open (Now 1000 ∷ Piece 1 query_7 ∷ Now 31000 ∷ ModemPiece answer_2 ∷ [])

pub record NoAnswerInTime : Type 0 where
  pub before : bytes_for 1 (expires 30999) ≡ configured ++ opened_6
  pub at_deadline : bytes_for 1 (expires 31000) ≡ configured ++ opened_6 ++ failed_7
  pub late : bytes_for 1 answered_late ≡ configured ++ opened_6 ++ failed_7
  pub free : in_use (history answered_late) ≡ []

-- two commands of a client get no answer: they are refused in the order in which they came, once their time is over and where the modem is lost
abbrev pub failed_9 : List ℕ
failed_9 = hex (codes "03 00 00 80 30 00 00 00 09 00 00 00 01 00 00 00 00 00 00 00 A2 89 CC 33 BC BB 8B 4F B6 B0 13 3E C2 AA E6 DF 03 00 00 00 02 00 00 00 00 00 00 00")

abbrev pub asks_twice : Event → List Event
asks_twice event = one_open (Piece 1 (hex (codes "03 00 00 00 30 00 00 00 09 00 00 00 01 00 00 00 00 00 00 00 A2 89 CC 33 BC BB 8B 4F B6 B0 13 3E C2 AA E6 DF 03 00 00 00 00 00 00 00 00 00 00 00")) ∷ Piece 1 query_7 ∷ event ∷ [])

pub record RefusedInOrder : Type 0 where
  pub expired : bytes_for 1 (asks_twice (Now 30000)) ≡ configured ++ opened_6 ++ failed_9 ++ failed_7
  pub lost : bytes_for 1 (asks_twice ModemGone) ≡ configured ++ opened_6 ++ failed_9 ++ failed_7

-- an error in place of the answer is passed on with the client's number; one of 17 bytes is for nobody, and so is one with another number
abbrev pub errs : List Event
errs = one_open (Piece 1 query_7 ∷ ModemPiece (hex (codes "04 00 00 80 11 00 00 00 02 00 00 00 05 00 00 00 00")) ∷ ModemPiece (hex (codes "04 00 00 80 10 00 00 00 03 00 00 00 05 00 00 00")) ∷ ModemPiece (hex (codes "04 00 00 80 10 00 00 00 02 00 00 00 05 00 00 00")) ∷ ModemPiece answer_2 ∷ [])

-- an answer whose length says another buffer, or that is too short for its head, is for nobody
abbrev pub bad_answers : List Event
bad_answers = one_open (Piece 1 query_7 ∷ ModemPiece (hex (codes "03 00 00 80 34 00 00 00 02 00 00 00 01 00 00 00 00 00 00 00 A2 89 CC 33 BC BB 8B 4F B6 B0 13 3E C2 AA E6 DF 03 00 00 00 00 00 00 00 09 00 00 00 01 00 00 00")) ∷ ModemPiece (hex (codes "03 00 00 80 2F 00 00 00 02 00 00 00 01 00 00 00 00 00 00 00 A2 89 CC 33 BC BB 8B 4F B6 B0 13 3E C2 AA E6 DF 03 00 00 00 00 00 00 00 00 00 00")) ∷ [])

pub record ErrorsAndBadAnswers : Type 0 where
  pub erred : bytes_for 1 errs ≡ configured ++ opened_6 ++ hex (codes "04 00 00 80 10 00 00 00 07 00 00 00 05 00 00 00")
  pub bad : bytes_for 1 bad_answers ≡ configured ++ opened_6

-- a request of one that left keeps its number, and the next one gets another
abbrev pub leaves_asking : List Event
leaves_asking = both_open (Piece 1 query_7 ∷ Left 1 ∷ Piece 2 query_7 ∷ ModemPiece answer_2 ∷ ModemPiece answer_3 ∷ [])

pub record OrphansKeepTheirNumber : Type 0 where
  pub modem : to_modem leaves_asking ≡ open_1 ++ query_2 ++ query_3
  pub second : bytes_for 2 leaves_asking ≡ configured ++ opened_6 ++ answer_7

-- a client closes while its query waits: it gets the answer, and its next command is refused; one that isn't open can't close
abbrev pub closes_asking : List Event
closes_asking = one_open (Piece 1 query_7 ∷ Piece 1 close_8 ∷ ModemPiece answer_2 ∷ Piece 1 query_7 ∷ Piece 1 close_8 ∷ [])

pub record ClosedClients : Type 0 where
  pub client : bytes_for 1 closes_asking ≡ configured ++ opened_6 ++ closed_8 ++ answer_7 ++ not_opened_7 ++ hex (codes "04 00 00 80 10 00 00 00 08 00 00 00 05 00 00 00")
  pub modem : to_modem closes_asking ≡ open_1 ++ query_2 ++ hex (codes "03 00 00 00 34 00 00 00 03 00 00 00 01 00 00 00 00 00 00 00 A2 89 CC 33 BC BB 8B 4F B6 B0 13 3E C2 AA E6 DF 13 00 00 00 01 00 00 00 04 00 00 00 00 00 00 00")

-- the last client closes: the proxy asks for an empty list
abbrev pub closes : List Event
closes = one_open (Piece 1 close_8 ∷ [])

pub record NobodySubscribes : Type 0 where
  pub modem : to_modem closes ≡ open_1 ++ subscribe_none_2

-- ---- few numbers, and little room ----

-- a fourth request finds no number: status 1; the answer to the first frees one
abbrev pub asks_often : List Event → List Event
asks_often story = one_configured (Piece 1 (hex (codes "01 00 00 00 10 00 00 00 06 00 00 00 40 00 00 00")) ∷ ModemPiece opened_1 ∷ ModemTook 16 ∷ Piece 1 query_7 ∷ ModemTook 48 ∷ Piece 1 query_7 ∷ ModemTook 48 ∷ Piece 1 query_7 ∷ ModemTook 48 ∷ story)

pub record NoNumberIsFree : Type 0 where
  pub numbers : length (in_use (small_history (asks_often (Piece 1 query_7 ∷ [])))) ≡ 3
  pub client : small_bytes_for 1 (asks_often (Piece 1 query_7 ∷ [])) ≡ configured ++ opened_6 ++ busy_7
  pub again : small_to_modem (asks_often (ModemPiece answer_2 ∷ Piece 1 query_7 ∷ [])) ≡ hex (codes "01 00 00 00 10 00 00 00 01 00 00 00 54 00 00 00") ++ query_2 ++ query_3 ++ hex (codes "03 00 00 00 30 00 00 00 04 00 00 00 01 00 00 00 00 00 00 00 A2 89 CC 33 BC BB 8B 4F B6 B0 13 3E C2 AA E6 DF 03 00 00 00 00 00 00 00 00 00 00 00") ++ hex (codes "03 00 00 00 30 00 00 00 05 00 00 00 01 00 00 00 00 00 00 00 A2 89 CC 33 BC BB 8B 4F B6 B0 13 3E C2 AA E6 DF 03 00 00 00 00 00 00 00 00 00 00 00")

-- 150 bytes of room for the modem: 16 of OPEN and 96 of two queries leave 38
abbrev pub asks_much : List Event
asks_much = one_configured (Piece 1 open_6 ∷ ModemPiece opened_1 ∷ Piece 1 query_7 ∷ Piece 1 query_7 ∷ Piece 1 query_7 ∷ [])

pub record NoRoomToTheModem : Type 0 where
  pub client : small_bytes_for 1 asks_much ≡ configured ++ opened_6 ++ busy_7
  pub modem : small_to_modem asks_much ≡ hex (codes "01 00 00 00 10 00 00 00 01 00 00 00 54 00 00 00") ++ query_2 ++ query_3
  pub waiting : length (modem_queue (wire setup) (history asks_much)) ≡ 160

-- the numbers 1 to 3 expired and stay in use: the proxy can't open the modem, status 1
abbrev pub opening_without_a_number : List Event
opening_without_a_number = one_configured (Piece 1 open_6 ∷ Now 30000 ∷ Piece 1 open_6 ∷ Now 60000 ∷ Piece 1 open_6 ∷ Now 90000 ∷ Piece 1 open_6 ∷ [])

pub record OpeningWithoutANumber : Type 0 where
  pub modem : small_to_modem opening_without_a_number ≡ hex (codes "01 00 00 00 10 00 00 00 01 00 00 00 54 00 00 00") ++ hex (codes "01 00 00 00 10 00 00 00 02 00 00 00 54 00 00 00") ++ hex (codes "01 00 00 00 10 00 00 00 03 00 00 00 54 00 00 00")
  pub client : small_bytes_for 1 opening_without_a_number ≡ configured ++ hex (codes "01 00 00 80 10 00 00 00 06 00 00 00 02 00 00 00") ++ hex (codes "01 00 00 80 10 00 00 00 06 00 00 00 02 00 00 00") ++ hex (codes "01 00 00 80 10 00 00 00 06 00 00 00 02 00 00 00") ++ busy_6

-- 256 numbers may be in use; they go to 4,294,967,295 and round again
abbrev pub number_behind : ℕ → List ℕ → Option ℕ
number_behind last used = number_after (mbim_limits.in_use the_space) (mbim_limits.top the_space) last used

pub record NumbersOfASpace : Type 0 where
  pub full : (used : List ℕ) → length used ≡ 256 → number_behind 7 used ≡ None
  pub nearly_full : (used : List ℕ) → length used ≡ 255 → is_some (number_behind 7 used) ≡ true
  pub last : number_behind 4294967294 [] ≡ Some 4294967295
  pub first : number_behind 4294967295 [] ≡ Some 1
  pub first_free : number_behind 4294967295 (2 ∷ 1 ∷ []) ≡ Some 3

-- 230 bytes of room for the client, of which 80 are taken up: an answer that comes in 150 bytes fits, and one in 151, which would be 131 in one fragment, ends the client
abbrev pub gets_much : List ℕ → List Event
gets_much answer = one_open (Piece 1 open_6 ∷ Piece 1 query_7 ∷ ModemPiece answer ∷ [])

pub record NoRoomForTheClient : Type 0 where
  pub fits : small_bytes_for 1 (gets_much (hex (codes "03 00 00 80 82 00 00 00 02 00 00 00 01 00 00 00 00 00 00 00 A2 89 CC 33 BC BB 8B 4F B6 B0 13 3E C2 AA E6 DF 03 00 00 00 00 00 00 00 52 00 00 00 00 00 00 00 00 00 00 00 00 00 00 00 00 00 00 00 00 00 00 00 00 00 00 00 00 00 00 00 00 00 00 00 00 00 00 00 00 00 00 00 00 00 00 00 00 00 00 00 00 00 00 00 00 00 00 00 00 00 00 00 00 00 00 00 00 00 00 00 00 00 00 00 00 00 00 00 00 00 00 00 00 00"))) ≡ configured ++ opened_6 ++ opened_6 ++ hex (codes "03 00 00 80 54 00 00 00 07 00 00 00 02 00 00 00 00 00 00 00 A2 89 CC 33 BC BB 8B 4F B6 B0 13 3E C2 AA E6 DF 03 00 00 00 00 00 00 00 52 00 00 00 00 00 00 00 00 00 00 00 00 00 00 00 00 00 00 00 00 00 00 00 00 00 00 00 00 00 00 00 00 00 00 00 00 00 00 00 03 00 00 80 42 00 00 00 07 00 00 00 02 00 00 00 01 00 00 00 00 00 00 00 00 00 00 00 00 00 00 00 00 00 00 00 00 00 00 00 00 00 00 00 00 00 00 00 00 00 00 00 00 00 00 00 00 00 00 00 00 00 00 00 00 00")
  pub stays : present (small_history (gets_much (hex (codes "03 00 00 80 82 00 00 00 02 00 00 00 01 00 00 00 00 00 00 00 A2 89 CC 33 BC BB 8B 4F B6 B0 13 3E C2 AA E6 DF 03 00 00 00 00 00 00 00 52 00 00 00 00 00 00 00 00 00 00 00 00 00 00 00 00 00 00 00 00 00 00 00 00 00 00 00 00 00 00 00 00 00 00 00 00 00 00 00 00 00 00 00 00 00 00 00 00 00 00 00 00 00 00 00 00 00 00 00 00 00 00 00 00 00 00 00 00 00 00 00 00 00 00 00 00 00 00 00 00 00 00 00 00 00")))) ≡ 1 ∷ []
  pub none : small_bytes_for 1 (gets_much (hex (codes "03 00 00 80 83 00 00 00 02 00 00 00 01 00 00 00 00 00 00 00 A2 89 CC 33 BC BB 8B 4F B6 B0 13 3E C2 AA E6 DF 03 00 00 00 00 00 00 00 53 00 00 00 00 00 00 00 00 00 00 00 00 00 00 00 00 00 00 00 00 00 00 00 00 00 00 00 00 00 00 00 00 00 00 00 00 00 00 00 00 00 00 00 00 00 00 00 00 00 00 00 00 00 00 00 00 00 00 00 00 00 00 00 00 00 00 00 00 00 00 00 00 00 00 00 00 00 00 00 00 00 00 00 00 00 00"))) ≡ configured ++ opened_6 ++ opened_6
  pub ends : present (small_history (gets_much (hex (codes "03 00 00 80 83 00 00 00 02 00 00 00 01 00 00 00 00 00 00 00 A2 89 CC 33 BC BB 8B 4F B6 B0 13 3E C2 AA E6 DF 03 00 00 00 00 00 00 00 53 00 00 00 00 00 00 00 00 00 00 00 00 00 00 00 00 00 00 00 00 00 00 00 00 00 00 00 00 00 00 00 00 00 00 00 00 00 00 00 00 00 00 00 00 00 00 00 00 00 00 00 00 00 00 00 00 00 00 00 00 00 00 00 00 00 00 00 00 00 00 00 00 00 00 00 00 00 00 00 00 00 00 00 00 00 00")))) ≡ []
