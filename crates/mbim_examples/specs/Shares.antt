-- Examples of a client that asks for more than its share.
use Rattle.std.specs.Prelude.{◌≡◌, ℕ, zero, suc, ◌+◌, List, [], ◌∷◌, ◌++◌, codes, length}
use Rattle.kit_bytes.specs.Hex.{hex}
use Rattle.mbim_frame.specs.Head.{with_number}
use Rattle.proxy_history.specs.Events.{Event, Piece, ModemPiece, Now}
use Rattle.proxy_history.specs.Requests.{in_use}
use Rattle.mbim_examples.specs.Story.{configured, open_6, opened_6, open_1, query_7, answer_2, answer_7, close_8, closed_8, one_open, both_open, bytes_for, to_modem, history}

-- so many queries, as a client sends them, and as the modem sees them with numbers from 2 on
abbrev pub queries : ℕ → List ℕ
queries zero = []
queries (suc n) = queries n ++ query_7

abbrev pub queries_sent : ℕ → List ℕ
queries_sent zero = []
queries_sent (suc n) = queries_sent n ++ with_number (suc (suc n)) query_7

-- the refusal that tells status 13
abbrev pub passed_7 : List ℕ
passed_7 = hex (codes "03 00 00 80 30 00 00 00 07 00 00 00 01 00 00 00 00 00 00 00 A2 89 CC 33 BC BB 8B 4F B6 B0 13 3E C2 AA E6 DF 03 00 00 00 0D 00 00 00 00 00 00 00")

-- a client asks 17 times: the last one is refused, and another client's query is forwarded
abbrev pub asks_17 : List Event
asks_17 = both_open (Piece 1 (queries 17) ∷ Piece 2 query_7 ∷ [])

pub record SeventeenthIsRefused : Type 0 where
  pub first : bytes_for 1 asks_17 ≡ configured ++ opened_6 ++ passed_7
  pub second : bytes_for 2 asks_17 ≡ configured ++ opened_6
  pub modem : to_modem asks_17 ≡ open_1 ++ queries_sent 17

-- once the first was answered, one more goes
abbrev pub answered_once : List Event
answered_once = one_open (Piece 1 (queries 17) ∷ ModemPiece answer_2 ∷ Piece 1 query_7 ∷ [])

pub record AnswersMakeRoom : Type 0 where
  pub client : bytes_for 1 answered_once ≡ configured ++ opened_6 ++ passed_7 ++ answer_7
  pub modem : to_modem answered_once ≡ open_1 ++ queries_sent 17

-- and so it does once they all expired, whose numbers stay in use
abbrev pub expired : List Event
expired = one_open (Piece 1 (queries 16) ∷ Now 30000 ∷ Piece 1 query_7 ∷ [])

pub record ExpiryMakesRoom : Type 0 where
  pub modem : to_modem expired ≡ open_1 ++ queries_sent 17
  pub used : length (in_use (history expired)) ≡ 17

-- a client that has its share still closes and opens
abbrev pub closes_at_its_share : List Event
closes_at_its_share = one_open (Piece 1 (queries 16) ∷ Piece 1 close_8 ∷ Piece 1 open_6 ∷ [])

pub record ClosesAtItsShare : Type 0 where
  pub client : bytes_for 1 closes_at_its_share ≡ configured ++ opened_6 ++ closed_8 ++ opened_6
