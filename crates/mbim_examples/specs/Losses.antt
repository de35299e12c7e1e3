-- Examples of a modem that is lost and comes back.
use Rattle.std.specs.Prelude.{◌≡◌, List, [], ◌∷◌, ◌++◌, take, drop, codes}
use Rattle.kit_bytes.specs.Hex.{hex}
use Rattle.proxy_history.specs.Events.{Event, Piece, ModemPiece, ModemGone, ModemBack}
use Rattle.proxy_history.specs.Requests.{in_use}
use Rattle.mbim_proxy.specs.Lists.{waiting}
use Rattle.mbim_examples.specs.Story.{setup, configured, open_6, opened_6, failed_6, open_1, opened_1, open_2, query_7, query_2, answer_2, answer_7, failed_7, not_opened_7, both_configured, one_open, bytes_for, to_modem, history}
use Rattle.mbim_examples.specs.Fragments.{answer_part_0, answer_part_1, answer_part_2}

-- a command waits while the modem is lost: status 2, and the client isn't open any more
abbrev pub loses_a_command : List Event
loses_a_command = one_open (Piece 1 query_7 ∷ ModemGone ∷ Piece 1 query_7 ∷ [])

-- openings wait while it is lost: status 2
abbrev pub loses_an_opening : List Event
loses_an_opening = both_configured (Piece 1 open_6 ∷ Piece 2 open_6 ∷ ModemGone ∷ ModemBack ∷ ModemPiece opened_1 ∷ Piece 1 open_6 ∷ [])

pub record LossRefusesWhatWaits : Type 0 where
  pub command : bytes_for 1 loses_a_command ≡ configured ++ opened_6 ++ failed_7 ++ not_opened_7
  pub modem : to_modem loses_a_command ≡ []
  pub freed : in_use (history loses_a_command) ≡ []
  pub first : bytes_for 1 loses_an_opening ≡ configured ++ failed_6
  pub second : bytes_for 2 loses_an_opening ≡ configured ++ failed_6
  pub again : to_modem loses_an_opening ≡ open_2
  pub waits : waiting setup (history loses_an_opening) ≡ 1 ∷ []

-- the modem's stream goes bad: a loss; what it sends then counts once it is back
abbrev pub goes_bad : List Event
goes_bad = one_open (Piece 1 query_7 ∷ ModemPiece (hex (codes "03 00 00 00 0B 00 00 00")) ∷ ModemPiece answer_2 ∷ [])

pub record BadStreamIsALoss : Type 0 where
  pub client : bytes_for 1 goes_bad ≡ configured ++ opened_6 ++ failed_7

-- the modem is lost in the middle of an answer: it doesn't go on after its return
abbrev pub loses_half : List Event
loses_half =
    one_open (Piece 1 query_7 ∷ ModemPiece answer_part_0 ∷ ModemGone ∷ ModemBack ∷ Piece 1 open_6 ∷ ModemPiece (hex (codes "01 00 00 80 10 00 00 00 03 00 00 00 00 00 00 00")) ∷ Piece 1 query_7
    ∷ ModemPiece (answer_part_1 ++ answer_part_2) ∷ ModemPiece (hex (codes "03 00 00 80 38 00 00 00 04 00 00 00 01 00 00 00 00 00 00 00 A2 89 CC 33 BC BB 8B 4F B6 B0 13 3E C2 AA E6 DF 03 00 00 00 00 00 00 00 08 00 00 00 01 00 00 00 01 00 00 00")) ∷ [])

pub record HalfAnAnswerIsLost : Type 0 where
  pub client : bytes_for 1 loses_half ≡ configured ++ opened_6 ++ failed_7 ++ opened_6 ++ answer_7

-- the modem is said to be back while it is there: nothing changes
abbrev pub comes_back_again : List Event
comes_back_again = one_open (Piece 1 query_7 ∷ ModemPiece (take 5 answer_2) ∷ ModemBack ∷ ModemPiece (drop 5 answer_2) ∷ [])

pub record ReturnInAMessage : Type 0 where
  pub client : bytes_for 1 comes_back_again ≡ configured ++ opened_6 ++ answer_7
  pub modem : to_modem comes_back_again ≡ open_1 ++ query_2
