-- Examples of openings, and of two clients that use the same numbers.
use Rattle.std.specs.Prelude.{◌≡◌, true, List, [], ◌∷◌, ◌++◌, reverse, codes}
use Rattle.kit_bytes.specs.Hex.{hex}
use Rattle.proxy_history.specs.Events.{Event, Joined, Piece, Left, ModemPiece, ModemGone, ModemBack, Now}
use Rattle.proxy_history.specs.Connections.{dropped}
use Rattle.proxy_history.specs.Requests.{in_use}
use Rattle.mbim_proxy.specs.Setup.{Setup, mbim_limits}
use Rattle.mbim_proxy.specs.Lists.{waiting}
use Rattle.mbim_proxy.specs.History as proxy
use Rattle.mbim_examples.specs.Story.{setup, configured, open_6, opened_6, failed_6, open_1, opened_1, open_2, opened_2, query_7, query_2, query_3, answer_7, answer_2, answer_3, not_opened_7, one_configured, both_configured, one_open, both_open, bytes_for, to_modem, history}

-- the proxy opens the modem once, and both clients use the number 7 at once; the answers come in the other order
abbrev pub both_ask : List Event
both_ask = both_open (Piece 1 query_7 ∷ Piece 2 query_7 ∷ ModemPiece answer_3 ∷ ModemPiece answer_2 ∷ [])

pub record OneAnswerEach : Type 0 where
  pub modem : to_modem both_ask ≡ open_1 ++ query_2 ++ query_3
  pub first : bytes_for 1 both_ask ≡ configured ++ opened_6 ++ answer_7
  pub second : bytes_for 2 both_ask ≡ configured ++ opened_6 ++ answer_7

-- an OPEN of a client that named no device: status 14; and a command of one that isn't open: error 5
abbrev pub unconfigured : List Event
unconfigured = reverse (Joined 1 ∷ Piece 1 open_6 ∷ Piece 1 query_7 ∷ [])

pub record MustConfigureAndOpen : Type 0 where
  pub client : bytes_for 1 unconfigured ≡ hex (codes "01 00 00 80 10 00 00 00 06 00 00 00 0E 00 00 00") ++ not_opened_7
  pub modem : to_modem unconfigured ≡ []

-- once the modem is open, a client is open at once; until then each waits, in the order in which they asked
abbrev pub opens_late : List Event
opens_late = both_configured (Piece 1 open_6 ∷ ModemPiece opened_1 ∷ Piece 2 open_6 ∷ Piece 2 query_7 ∷ [])

abbrev pub both_wait : List Event
both_wait = both_configured (Piece 2 open_6 ∷ Piece 1 open_6 ∷ [])

-- each is answered with its own number
abbrev pub both_are_told : List Event
both_are_told = both_configured (Piece 1 open_6 ∷ Piece 2 (hex (codes "01 00 00 00 10 00 00 00 09 00 00 00 00 10 00 00")) ∷ ModemPiece opened_1 ∷ [])

-- their outboxes have room for the answer to the configuration alone: both are hung up, in the same order
abbrev pub tight : Setup
tight = record setup { limits = record mbim_limits { outbox = 48 } }

abbrev pub neither_has_room : List Event
neither_has_room = both_configured (Piece 2 open_6 ∷ Piece 1 open_6 ∷ ModemPiece opened_1 ∷ [])

pub record ClientsShareTheOpening : Type 0 where
  pub late : bytes_for 2 opens_late ≡ configured ++ opened_6
  pub late_modem : to_modem opens_late ≡ open_1 ++ query_2
  pub waits : waiting setup (history both_wait) ≡ 2 ∷ 1 ∷ []
  pub hung_up : dropped (proxy.history tight neither_has_room) ≡ 2 ∷ 1 ∷ []
  pub first : bytes_for 1 both_wait ≡ configured
  pub modem : to_modem both_wait ≡ open_1
  pub first_told : bytes_for 1 both_are_told ≡ configured ++ opened_6
  pub second_told : bytes_for 2 both_are_told ≡ configured ++ hex (codes "01 00 00 80 10 00 00 00 09 00 00 00 00 00 00 00")

-- a second OPEN while the first waits: status 1, and the first is answered still, with its own number
abbrev pub opens_twice : List Event
opens_twice = one_configured (Piece 1 open_6 ∷ Piece 1 (hex (codes "01 00 00 00 10 00 00 00 09 00 00 00 00 10 00 00")) ∷ ModemPiece opened_1 ∷ [])

-- one that is open opens again
abbrev pub opens_again : List Event
opens_again = one_open (Piece 1 (hex (codes "01 00 00 00 10 00 00 00 09 00 00 00 00 10 00 00")) ∷ [])

-- the second OPEN of the first client that waits doesn't send it behind the other
abbrev pub keeps_its_turn : List Event
keeps_its_turn = both_configured (Piece 1 open_6 ∷ Piece 2 open_6 ∷ Piece 1 open_6 ∷ [])

pub record OneOpeningWaits : Type 0 where
  pub twice : bytes_for 1 opens_twice ≡ configured ++ hex (codes "01 00 00 80 10 00 00 00 09 00 00 00 01 00 00 00") ++ opened_6
  pub modem : to_modem opens_twice ≡ open_1
  pub turn : waiting setup (history keeps_its_turn) ≡ 1 ∷ 2 ∷ []
  pub again : bytes_for 1 opens_again ≡ configured ++ opened_6 ++ hex (codes "01 00 00 80 10 00 00 00 09 00 00 00 00 00 00 00")

-- a client that waits leaves: nobody waits but the other
abbrev pub leaves_waiting : List Event
leaves_waiting = both_configured (Piece 1 open_6 ∷ Piece 2 open_6 ∷ Left 1 ∷ [])

abbrev pub opened_without_it : List Event
opened_without_it = both_configured (Piece 1 open_6 ∷ Piece 2 open_6 ∷ Left 1 ∷ ModemPiece opened_1 ∷ [])

pub record WhoLeavesWaitsNoMore : Type 0 where
  pub waits : waiting setup (history leaves_waiting) ≡ 2 ∷ []
  pub second : bytes_for 2 opened_without_it ≡ configured ++ opened_6
  pub nobody : waiting setup (history opened_without_it) ≡ []

-- the modem refuses with status 9: so is the client refused, and its next OPEN has the proxy ask again
abbrev pub modem_refuses : List Event
modem_refuses = one_configured (Piece 1 open_6 ∷ ModemPiece (hex (codes "01 00 00 80 10 00 00 00 01 00 00 00 09 00 00 00")) ∷ Piece 1 query_7 ∷ Piece 1 open_6 ∷ ModemPiece opened_2 ∷ [])

-- after that the other client asks first
abbrev pub asks_behind : List Event
asks_behind = both_configured (Piece 1 open_6 ∷ ModemPiece (hex (codes "01 00 00 80 10 00 00 00 01 00 00 00 09 00 00 00")) ∷ Piece 2 open_6 ∷ Piece 1 open_6 ∷ [])

-- it answers with an error: status 2
abbrev pub modem_errs : List Event
modem_errs = one_configured (Piece 1 open_6 ∷ ModemPiece (hex (codes "04 00 00 80 10 00 00 00 01 00 00 00 03 00 00 00")) ∷ [])

-- the error has 17 bytes, or the OPEN_DONE has; an answer to a command comes in its place: all of them are for nobody
abbrev pub modem_blunders : List Event
modem_blunders = one_configured (Piece 1 open_6 ∷ ModemPiece (hex (codes "04 00 00 80 11 00 00 00 01 00 00 00 03 00 00 00 00")) ∷ ModemPiece (hex (codes "01 00 00 80 11 00 00 00 01 00 00 00 00 00 00 00 00")) ∷ ModemPiece (hex (codes "03 00 00 80 30 00 00 00 01 00 00 00 01 00 00 00 00 00 00 00 A2 89 CC 33 BC BB 8B 4F B6 B0 13 3E C2 AA E6 DF 03 00 00 00 00 00 00 00 00 00 00 00")) ∷ [])

pub record RefusedOpenings : Type 0 where
  pub refused : bytes_for 1 modem_refuses ≡ configured ++ hex (codes "01 00 00 80 10 00 00 00 06 00 00 00 09 00 00 00") ++ not_opened_7 ++ opened_6
  pub again : to_modem modem_refuses ≡ open_1 ++ open_2
  pub behind : waiting setup (history asks_behind) ≡ 2 ∷ 1 ∷ []
  pub erred : bytes_for 1 modem_errs ≡ configured ++ failed_6
  pub blundered : bytes_for 1 modem_blunders ≡ configured
  pub waits_still : waiting setup (history modem_blunders) ≡ 1 ∷ []

-- an OPEN_DONE and a CLOSE_DONE to a command are for nobody, and the answer still comes
abbrev pub opened_for_a_command : List Event
opened_for_a_command = one_open (Piece 1 query_7 ∷ ModemPiece opened_2 ∷ ModemPiece (hex (codes "02 00 00 80 10 00 00 00 02 00 00 00 00 00 00 00")) ∷ ModemPiece answer_2 ∷ [])

pub record AnswersFitTheirRequests : Type 0 where
  pub client : bytes_for 1 opened_for_a_command ≡ configured ++ opened_6 ++ answer_7

-- the proxy's own OPEN gets no answer in 30 seconds: status 2; its late answer opens nothing, and the next OPEN has number 2
abbrev pub opening_expires : List Event
opening_expires = one_configured (Piece 1 open_6 ∷ Now 29999 ∷ Now 30000 ∷ ModemPiece opened_1 ∷ Piece 1 open_6 ∷ [])

abbrev pub opening_goes_on : List Event
opening_goes_on = one_configured (Piece 1 open_6 ∷ Now 29999 ∷ [])

-- a late error ends no other opening
abbrev pub opening_errs_late : List Event
opening_errs_late = one_configured (Piece 1 open_6 ∷ Now 30000 ∷ Piece 1 open_6 ∷ ModemPiece (hex (codes "04 00 00 80 10 00 00 00 01 00 00 00 03 00 00 00")) ∷ ModemPiece opened_2 ∷ [])

pub record ExpiredOpening : Type 0 where
  pub before : bytes_for 1 opening_goes_on ≡ configured
  pub client : bytes_for 1 opening_expires ≡ configured ++ failed_6
  pub modem : to_modem opening_expires ≡ open_1 ++ open_2
  pub errs_late : bytes_for 1 opening_errs_late ≡ configured ++ failed_6 ++ opened_6
  pub free : in_use (history opening_errs_late) ≡ []

-- the modem is away: status 2; once it is back it is opened with the next number
abbrev pub opens_while_away : List Event
opens_while_away = one_configured (ModemGone ∷ Piece 1 open_6 ∷ ModemBack ∷ Piece 1 open_6 ∷ ModemPiece opened_1 ∷ [])

-- it may be away from the start
abbrev pub away_setup : Setup
away_setup = record setup { starts_away = true }

abbrev pub starts_away : List Event
starts_away = one_configured (Piece 1 open_6 ∷ ModemBack ∷ Piece 1 open_6 ∷ [])

pub record NobodyOpensAnAbsentModem : Type 0 where
  pub client : bytes_for 1 opens_while_away ≡ configured ++ failed_6 ++ opened_6
  pub modem : to_modem opens_while_away ≡ open_1
  pub at_the_start : (proxy.text_for away_setup 1 starts_away).bytes ≡ configured ++ failed_6
  pub after_its_return : proxy.to_modem away_setup starts_away ≡ open_1
