-- Examples of messages of clients that are out of form, or that no client may send.
use Rattle.std.specs.Prelude.{◌≡◌, List, [], ◌∷◌, ◌++◌, reverse, codes}
use Rattle.kit_bytes.specs.Hex.{hex}
use Rattle.proxy_history.specs.Events.{Event, Joined, Piece}
use Rattle.mbim_proxy.specs.Setup.{Setup}
use Rattle.mbim_proxy.specs.History as proxy
use Rattle.mbim_examples.specs.Story.{setup, configured, open_6, opened_6, open_1, query_7, subscribe_none_2, one_configured, one_open, bytes_for, to_modem}
use Rattle.mbim_examples.specs.Lists.{set_two}

-- OPEN of 17 bytes, CLOSE of 13, COMMAND of 19: error 3; HOST_ERROR: nothing; kinds that no client sends: error 6
abbrev pub bad_messages : List Event
bad_messages =
    one_open (
    Piece 1 (hex (codes "01 00 00 00 11 00 00 00 09 00 00 00 40 00 00 00 00"))
    ∷ Piece 1 (hex (codes "02 00 00 00 0D 00 00 00 09 00 00 00 00"))
    ∷ Piece 1 (hex (codes "03 00 00 00 13 00 00 00 09 00 00 00 01 00 00 00 00 00 00"))
    ∷ Piece 1 (hex (codes "04 00 00 00 10 00 00 00 09 00 00 00 02 00 00 00"))
    ∷ Piece 1 (hex (codes "05 00 00 00 0C 00 00 00 09 00 00 00"))
    ∷ Piece 1 (hex (codes "01 00 00 80 10 00 00 00 09 00 00 00 00 00 00 00")) ∷ [])

pub record MessagesOutOfForm : Type 0 where
  pub client : bytes_for 1 bad_messages ≡ configured ++ opened_6 ++ hex (codes "04 00 00 80 10 00 00 00 09 00 00 00 03 00 00 00") ++ hex (codes "04 00 00 80 10 00 00 00 09 00 00 00 03 00 00 00") ++ hex (codes "04 00 00 80 10 00 00 00 09 00 00 00 03 00 00 00") ++ hex (codes "04 00 00 80 10 00 00 00 09 00 00 00 06 00 00 00") ++ hex (codes "04 00 00 80 10 00 00 00 09 00 00 00 06 00 00 00")
  pub modem : to_modem bad_messages ≡ open_1

-- a command with a body of 27 bytes, of type 2, with a length that says a byte more than its buffer has, or less: error 3
abbrev pub bad_commands : List Event
bad_commands =
    one_open (
    Piece 1 (hex (codes "03 00 00 00 2F 00 00 00 09 00 00 00 01 00 00 00 00 00 00 00 A2 89 CC 33 BC BB 8B 4F B6 B0 13 3E C2 AA E6 DF 03 00 00 00 00 00 00 00 00 00 00"))
    ∷ Piece 1 (hex (codes "03 00 00 00 30 00 00 00 09 00 00 00 01 00 00 00 00 00 00 00 A2 89 CC 33 BC BB 8B 4F B6 B0 13 3E C2 AA E6 DF 03 00 00 00 02 00 00 00 00 00 00 00"))
    ∷ Piece 1 (hex (codes "03 00 00 00 30 00 00 00 09 00 00 00 01 00 00 00 00 00 00 00 A2 89 CC 33 BC BB 8B 4F B6 B0 13 3E C2 AA E6 DF 03 00 00 00 00 00 00 00 01 00 00 00"))
    ∷ Piece 1 (hex (codes "03 00 00 00 31 00 00 00 09 00 00 00 01 00 00 00 00 00 00 00 A2 89 CC 33 BC BB 8B 4F B6 B0 13 3E C2 AA E6 DF 03 00 00 00 00 00 00 00 00 00 00 00 00")) ∷ [])

pub record CommandsOutOfForm : Type 0 where
  pub client : bytes_for 1 bad_commands ≡ configured ++ opened_6 ++ hex (codes "04 00 00 80 10 00 00 00 09 00 00 00 03 00 00 00") ++ hex (codes "04 00 00 80 10 00 00 00 09 00 00 00 03 00 00 00") ++ hex (codes "04 00 00 80 10 00 00 00 09 00 00 00 03 00 00 00") ++ hex (codes "04 00 00 80 10 00 00 00 09 00 00 00 03 00 00 00")
  pub modem : to_modem bad_commands ≡ open_1

-- a client isn't open: a command out of form is error 3 for it too, and a list that it sets error 5
abbrev pub unopened : List Event
unopened = one_configured (Piece 1 (hex (codes "03 00 00 00 30 00 00 00 09 00 00 00 01 00 00 00 00 00 00 00 A2 89 CC 33 BC BB 8B 4F B6 B0 13 3E C2 AA E6 DF 03 00 00 00 02 00 00 00 00 00 00 00")) ∷ Piece 1 set_two ∷ [])

pub record CommandsBeforeTheOpening : Type 0 where
  pub client : bytes_for 1 unopened ≡ configured ++ hex (codes "04 00 00 80 10 00 00 00 09 00 00 00 03 00 00 00") ++ hex (codes "04 00 00 80 10 00 00 00 09 00 00 00 05 00 00 00")
  pub modem : to_modem unopened ≡ []

-- proxy control: another CID, a query, another device: status 21, and the client named none
abbrev pub bad_configurations : List Event
bad_configurations =
    reverse (Joined 1
    ∷ Piece 1 (hex (codes "03 00 00 00 58 00 00 00 05 00 00 00 01 00 00 00 00 00 00 00 83 8C F7 FB 8D 0D 4D 7F 87 1E D7 1D BE FB B3 9B 02 00 00 00 01 00 00 00 28 00 00 00 0C 00 00 00 1A 00 00 00 1E 00 00 00 2F 00 64 00 65 00 76 00 2F 00 63 00 64 00 63 00 2D 00 77 00 64 00 6D 00 30 00 00 00"))
    ∷ Piece 1 (hex (codes "03 00 00 00 58 00 00 00 05 00 00 00 01 00 00 00 00 00 00 00 83 8C F7 FB 8D 0D 4D 7F 87 1E D7 1D BE FB B3 9B 01 00 00 00 00 00 00 00 28 00 00 00 0C 00 00 00 1A 00 00 00 1E 00 00 00 2F 00 64 00 65 00 76 00 2F 00 63 00 64 00 63 00 2D 00 77 00 64 00 6D 00 30 00 00 00"))
    ∷ Piece 1 (hex (codes "03 00 00 00 58 00 00 00 05 00 00 00 01 00 00 00 00 00 00 00 83 8C F7 FB 8D 0D 4D 7F 87 1E D7 1D BE FB B3 9B 01 00 00 00 01 00 00 00 28 00 00 00 0C 00 00 00 1A 00 00 00 1E 00 00 00 2F 00 64 00 65 00 76 00 2F 00 63 00 64 00 63 00 2D 00 77 00 64 00 6D 00 31 00 00 00"))
    ∷ Piece 1 open_6 ∷ [])

pub record ConfigurationsThatNameNothing : Type 0 where
  pub client : bytes_for 1 bad_configurations ≡ hex (codes "03 00 00 80 30 00 00 00 05 00 00 00 01 00 00 00 00 00 00 00 83 8C F7 FB 8D 0D 4D 7F 87 1E D7 1D BE FB B3 9B 02 00 00 00 15 00 00 00 00 00 00 00") ++ hex (codes "03 00 00 80 30 00 00 00 05 00 00 00 01 00 00 00 00 00 00 00 83 8C F7 FB 8D 0D 4D 7F 87 1E D7 1D BE FB B3 9B 01 00 00 00 15 00 00 00 00 00 00 00") ++ hex (codes "03 00 00 80 30 00 00 00 05 00 00 00 01 00 00 00 00 00 00 00 83 8C F7 FB 8D 0D 4D 7F 87 1E D7 1D BE FB B3 9B 01 00 00 00 15 00 00 00 00 00 00 00") ++ hex (codes "01 00 00 80 10 00 00 00 06 00 00 00 0E 00 00 00")
  pub modem : to_modem bad_configurations ≡ []

-- the device "a": its path may stand anywhere in the buffer, but the buffer has 12 bytes at least, and the path lies in it
abbrev pub short_setup : Setup
short_setup = record setup { device = codes "a" }

abbrev pub short_paths : List Event
short_paths =
    reverse (Joined 1
    ∷ Piece 1 (hex (codes "03 00 00 00 3A 00 00 00 05 00 00 00 01 00 00 00 00 00 00 00 83 8C F7 FB 8D 0D 4D 7F 87 1E D7 1D BE FB B3 9B 01 00 00 00 01 00 00 00 0A 00 00 00 08 00 00 00 02 00 00 00 61 00"))
    ∷ Piece 1 (hex (codes "03 00 00 00 3D 00 00 00 05 00 00 00 01 00 00 00 00 00 00 00 83 8C F7 FB 8D 0D 4D 7F 87 1E D7 1D BE FB B3 9B 01 00 00 00 01 00 00 00 0D 00 00 00 0C 00 00 00 02 00 00 00 1E 00 00 00 61"))
    ∷ Piece 1 (hex (codes "03 00 00 00 3E 00 00 00 05 00 00 00 01 00 00 00 00 00 00 00 83 8C F7 FB 8D 0D 4D 7F 87 1E D7 1D BE FB B3 9B 01 00 00 00 01 00 00 00 0E 00 00 00 0C 00 00 00 04 00 00 00 1E 00 00 00 61 00"))
    ∷ Piece 1 open_6
    ∷ Piece 1 (hex (codes "03 00 00 00 3C 00 00 00 05 00 00 00 01 00 00 00 00 00 00 00 83 8C F7 FB 8D 0D 4D 7F 87 1E D7 1D BE FB B3 9B 01 00 00 00 01 00 00 00 0C 00 00 00 08 00 00 00 02 00 00 00 61 00 00 00"))
    ∷ Piece 1 open_6 ∷ [])

pub record PathsLieInTheBuffer : Type 0 where
  pub client : (proxy.text_for short_setup 1 short_paths).bytes ≡ hex (codes "03 00 00 80 30 00 00 00 05 00 00 00 01 00 00 00 00 00 00 00 83 8C F7 FB 8D 0D 4D 7F 87 1E D7 1D BE FB B3 9B 01 00 00 00 15 00 00 00 00 00 00 00") ++ hex (codes "03 00 00 80 30 00 00 00 05 00 00 00 01 00 00 00 00 00 00 00 83 8C F7 FB 8D 0D 4D 7F 87 1E D7 1D BE FB B3 9B 01 00 00 00 15 00 00 00 00 00 00 00") ++ hex (codes "03 00 00 80 30 00 00 00 05 00 00 00 01 00 00 00 00 00 00 00 83 8C F7 FB 8D 0D 4D 7F 87 1E D7 1D BE FB B3 9B 01 00 00 00 15 00 00 00 00 00 00 00") ++ hex (codes "01 00 00 80 10 00 00 00 06 00 00 00 0E 00 00 00") ++ hex (codes "03 00 00 80 30 00 00 00 05 00 00 00 01 00 00 00 00 00 00 00 83 8C F7 FB 8D 0D 4D 7F 87 1E D7 1D BE FB B3 9B 01 00 00 00 00 00 00 00 00 00 00 00")

-- a client's stream that goes bad ends it
abbrev pub goes_bad : List Event
goes_bad = one_open (Piece 1 (hex (codes "03 00 00 00 0B 00 00 00")) ∷ Piece 1 query_7 ∷ [])

pub record BadStreamsEndTheirClient : Type 0 where
  pub client : bytes_for 1 goes_bad ≡ configured ++ opened_6
  pub modem : to_modem goes_bad ≡ open_1 ++ subscribe_none_2
