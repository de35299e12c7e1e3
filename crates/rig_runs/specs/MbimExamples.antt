-- Small rigs for MBIM, byte for byte, and refusals. A trace is told in its order; lists of events have the newest first.
-- Source of the bytes: a model of the rig in another language, which was written from the rules alone.
use Rattle.std.specs.Prelude.{◌≡◌, ℕ, List, [], ◌∷◌, ◌++◌, reverse, codes}
use Rattle.kit_bytes.specs.Hex.{hex}
use Rattle.proxy_history.specs.Events.{Event, Joined, Piece, ModemPiece, Now, Took, ModemTook}
use Rattle.mbim_proxy.specs.History.{history}
use Rattle.mbim_examples.specs.Story as story
use Rattle.mbim_examples.specs.Openings.{unconfigured}
use Rattle.mbim_solo.specs.Premises.{asks_too_often}
use Rattle.mbim_solo.specs.Solo.{solo}
use Rattle.rig_runs.specs.Mbim.{setup, mbim_rig}
use Rattle.rig_runs.specs.Counts.{lines_of}
use Rattle.rig_runs.specs.MbimLines.{summary, refused}

-- ---- the setup ----

-- the configuration for the device, with number 1, and OPEN, with number 2
abbrev pub configuration : List ℕ
configuration = hex (codes "03 00 00 00 44 00 00 00 01 00 00 00 01 00 00 00 00 00 00 00 83 8C F7 FB 8D 0D 4D 7F 87 1E D7 1D BE FB B3 9B 01 00 00 00 01 00 00 00 14 00 00 00 0C 00 00 00 06 00 00 00 1E 00 00 00 72 00 69 00 67 00 00 00")

abbrev pub open_2 : List ℕ
open_2 = hex (codes "01 00 00 00 10 00 00 00 02 00 00 00 00 10 00 00")

-- the modem's answer to the proxy's own request to open
abbrev pub opened_1 : List ℕ
opened_1 = hex (codes "01 00 00 80 10 00 00 00 01 00 00 00 00 00 00 00")

-- a client names the device and is told so, and has the modem opened
abbrev pub opens : ℕ → List Event
opens c = Piece c configuration ∷ Took c 48 ∷ Piece c open_2 ∷ ModemTook 16 ∷ ModemPiece opened_1 ∷ Took c 16 ∷ []

-- or finds it open
abbrev pub finds_it_open : ℕ → List Event
finds_it_open c = Piece c configuration ∷ Took c 48 ∷ Piece c open_2 ∷ Took c 16 ∷ []

-- ---- one client that sends nothing ----

abbrev pub one_client : List Event
one_client = reverse (Joined 1 ∷ opens 1 ++ Now 60000 ∷ [])

-- what the proxy meets, what the client meets alone, and the lines
pub record OneClient : Type 0 where
  pub met : mbim_rig 1 0 0 ≡ one_client
  pub alone : solo setup 1 one_client ≡ one_client
  pub lines :
      lines_of (summary setup 1 0 one_client)
      ≡ codes "clients 1\nturns 0\nforwarded 0\nanswered 0\nexpired 0\nlate 0\nrefused 0\nequal 1 of 1\n"

-- ---- two clients in six turns: three requests, the clock, the answer that is held shortest, and the one that is held longest ----

-- a query of Basic Connect with a number of the client's own
abbrev pub query : (number cid : List ℕ) → List ℕ
query number cid =
    hex (codes "03 00 00 00 30 00 00 00") ++ number ++ hex (codes "01 00 00 00 00 00 00 00 A2 89 CC 33 BC BB 8B 4F B6 B0 13 3E C2 AA E6 DF") ++ cid ++ hex (codes "00 00 00 00 00 00 00 00")

-- and an answer, as the modem gives it to this number
abbrev pub answer : (length number cid : List ℕ) → (buffer : List ℕ) → List ℕ
answer length number cid buffer =
    hex (codes "03 00 00 80") ++ length ++ number ++ hex (codes "01 00 00 00 00 00 00 00 A2 89 CC 33 BC BB 8B 4F B6 B0 13 3E C2 AA E6 DF") ++ cid ++ buffer

abbrev pub four : (byte : ℕ) → List ℕ
four byte = byte ∷ 0 ∷ 0 ∷ 0 ∷ []

abbrev pub home_provider_to : (number : ℕ) → List ℕ
home_provider_to number =
    answer (four 0x74) (four number) (four 6) (hex (codes "00 00 00 00 44 00 00 00 20 00 00 00 0A 00 00 00 00 00 00 00 2C 00 00 00 16 00 00 00 00 00 00 00 14 00 00 00 00 00 00 00 30 00 30 00 31 00 30 00 31 00 00 00 45 00 78 00 61 00 6D 00 70 00 6C 00 65 00 20 00 4E 00 65 00 74 00 00 00"))

abbrev pub register_state_to : (number : ℕ) → List ℕ
register_state_to number =
    answer (four 0x60) (four number) (four 9) (hex (codes "00 00 00 00 30 00 00 00 00 00 00 00 03 00 00 00 00 00 00 00 00 00 00 00 00 00 00 00 00 00 00 00 00 00 00 00 00 00 00 00 00 00 00 00 00 00 00 00 00 00 00 00 00 00 00 00"))

abbrev pub signal_state_to : (number : ℕ) → List ℕ
signal_state_to number =
    answer (four 0x44) (four number) (four 11) (hex (codes "00 00 00 00 14 00 00 00 14 00 00 00 00 00 00 00 00 00 00 00 00 00 00 00 00 00 00 00"))

abbrev pub two_clients : List Event
two_clients =
    reverse (
    Joined 1 ∷ Joined 2 ∷ opens 1 ++ finds_it_open 2
    ++ Piece 2 (query (four 3) (four 11)) ∷ ModemTook 48 ∷ Piece 1 (query (four 3) (four 9)) ∷ ModemTook 48 ∷ Now 1000 ∷ Piece 1 (query (four 4) (four 6)) ∷ ModemTook 48
    ∷ ModemPiece (home_provider_to 4) ∷ Took 1 116 ∷ ModemPiece (signal_state_to 2) ∷ Took 2 68
    ∷ ModemPiece (register_state_to 3) ∷ Took 1 96 ∷ Now 61000 ∷ [])

-- alone a client's requests have numbers of their own, and the client has the modem opened
abbrev pub first_alone : List Event
first_alone =
    reverse (
    Joined 1 ∷ opens 1
    ++ Piece 1 (query (four 3) (four 9)) ∷ ModemTook 48 ∷ Now 1000 ∷ Piece 1 (query (four 4) (four 6)) ∷ ModemTook 48
    ∷ ModemPiece (home_provider_to 3) ∷ Took 1 116 ∷ ModemPiece (register_state_to 2) ∷ Took 1 96 ∷ Now 61000 ∷ [])

abbrev pub second_alone : List Event
second_alone =
    reverse (
    Joined 2 ∷ opens 2
    ++ Piece 2 (query (four 3) (four 11)) ∷ ModemTook 48 ∷ Now 1000 ∷ ModemPiece (signal_state_to 2) ∷ Took 2 68 ∷ Now 61000 ∷ [])

pub record TwoClients : Type 0 where
  pub met : mbim_rig 2 6 2946 ≡ two_clients
  pub first : solo setup 1 two_clients ≡ first_alone
  pub second : solo setup 2 two_clients ≡ second_alone
  pub lines :
      lines_of (summary setup 2 6 two_clients)
      ≡ codes "clients 2\nturns 6\nforwarded 3\nanswered 3\nexpired 0\nlate 0\nrefused 0\nequal 2 of 2\n"

-- ---- refusals ----

-- an OPEN of a client that named no device, and a command of one that isn't open; and a command for which no number is left
pub record Refusals : Type 0 where
  pub unopened : refused story.setup (history story.setup unconfigured) ≡ 2
  pub full : refused story.small (history story.small asks_too_often) ≡ 1
