-- Small rigs for QMI, byte for byte. A trace is told in its order; lists of events have the newest first.
-- Source of the bytes: a model of the rig in another language, which was written from the rules alone.
use Rattle.std.specs.Prelude.{◌≡◌, ℕ, List, [], ◌∷◌, ◌++◌, reverse, codes}
use Rattle.kit_bytes.specs.Hex.{hex}
use Rattle.proxy_history.specs.Events.{Event, Joined, Piece, ModemPiece, Now, Took, ModemTook}
use Rattle.qmi_solo.specs.Solo.{solo}
use Rattle.rig_runs.specs.Qmi.{setup, qmi_rig}
use Rattle.rig_runs.specs.Lines.{summary, lines_of}
use Rattle.rig_runs.specs.Draws.{next, drawn}

-- ---- the draws ----

-- the numbers behind 0 and behind 7, and who is drawn of 40
pub record FirstDraws : Type 0 where
  pub of_0 : next 0 ≡ 1442695040888963407
  pub of_7 : next 7 ≡ 9098160460397411210
  pub of_40 : drawn 40 (next 7) ≡ 38

-- ---- the setup ----

-- Proxy Open of the device, and Allocate for NAS
abbrev pub open_device : List ℕ
open_device = hex (codes "01 11 00 00 00 00 00 01 00 FF 06 00 01 03 00 72 69 67")

abbrev pub allocate : List ℕ
allocate = hex (codes "01 0F 00 00 00 00 00 02 22 00 04 00 01 01 00 03")

-- client ids 1 and 2 of NAS, as the modem gives them to numbers 1 and 2
abbrev pub id_1 : List ℕ
id_1 = hex (codes "01 17 00 80 00 00 01 01 22 00 0C 00 02 04 00 00 00 00 00 01 02 00 03 01")

abbrev pub id_2 : List ℕ
id_2 = hex (codes "01 17 00 80 00 00 01 02 22 00 0C 00 02 04 00 00 00 00 00 01 02 00 03 02")

abbrev pub id_2_to_1 : List ℕ
id_2_to_1 = hex (codes "01 17 00 80 00 00 01 01 22 00 0C 00 02 04 00 00 00 00 00 01 02 00 03 02")

abbrev pub opens : ℕ → (id : List ℕ) → List Event
opens c id = Piece c open_device ∷ Took c 19 ∷ Piece c allocate ∷ ModemTook 16 ∷ ModemPiece id ∷ Took c 24 ∷ []

-- ---- one client that sends nothing ----

abbrev pub one_client : List Event
one_client = reverse (Joined 1 ∷ opens 1 id_1 ++ Now 60000 ∷ [])

-- what the proxy meets, what the client meets alone, and the lines
pub record OneClient : Type 0 where
  pub met : qmi_rig 1 0 0 ≡ one_client
  pub alone : solo setup 1 one_client ≡ one_client
  pub lines :
      lines_of (summary setup 1 0 one_client)
      ≡ codes "clients 1\nturns 0\nforwarded 1\nanswered 1\nexpired 0\nlate 0\nrefused 0\nequal 1 of 1\n"

-- ---- two clients in six turns: three requests, the clock, the answer that is held shortest, and the one that is held longest ----

-- requests of a client with its own client id and its own number, and the answers as the modem gives them
abbrev pub home_network : List ℕ
home_network = hex (codes "01 0C 00 00 03 02 00 01 00 25 00 00 00")

abbrev pub serving_system : List ℕ
serving_system = hex (codes "01 0C 00 00 03 01 00 01 00 24 00 00 00")

abbrev pub network_scan : List ℕ
network_scan = hex (codes "01 0C 00 00 03 01 00 02 00 21 00 00 00")

abbrev pub home_network_to_1 : List ℕ
home_network_to_1 = hex (codes "01 26 00 80 03 02 02 01 00 25 00 1A 00 02 04 00 00 00 00 00 01 10 00 01 00 01 00 0B 45 78 61 6D 70 6C 65 20 4E 65 74")

abbrev pub serving_system_to : (number : List ℕ) → List ℕ
serving_system_to number =
    hex (codes "01 2F 00 80 03 01 02") ++ number
    ++ hex (codes "24 00 23 00 02 04 00 00 00 00 00 01 06 00 01 01 01 02 01 08 12 10 00 01 00 01 00 0B 45 78 61 6D 70 6C 65 20 4E 65 74")

abbrev pub network_scan_to : (number : List ℕ) → List ℕ
network_scan_to number =
    hex (codes "01 29 00 80 03 01 02") ++ number
    ++ hex (codes "21 00 1D 00 02 04 00 00 00 00 00 10 13 00 01 00 01 00 01 00 01 0B 45 78 61 6D 70 6C 65 20 4E 65 74")

abbrev pub number_1 : List ℕ
number_1 = hex (codes "01 00")

abbrev pub number_2 : List ℕ
number_2 = hex (codes "02 00")

abbrev pub number_3 : List ℕ
number_3 = hex (codes "03 00")

abbrev pub two_clients : List Event
two_clients =
    reverse (
    Joined 1 ∷ Joined 2 ∷ opens 1 id_1 ++ opens 2 id_2
    ++ Piece 2 home_network ∷ ModemTook 13 ∷ Piece 1 serving_system ∷ ModemTook 13 ∷ Now 1000 ∷ Piece 1 network_scan ∷ ModemTook 13
    ∷ ModemPiece (network_scan_to number_3) ∷ Took 1 42 ∷ ModemPiece home_network_to_1 ∷ Took 2 39
    ∷ ModemPiece (serving_system_to number_2) ∷ Took 1 48 ∷ Now 61000 ∷ [])

-- alone a client's requests have numbers of their own
abbrev pub first_alone : List Event
first_alone =
    reverse (
    Joined 1 ∷ opens 1 id_1
    ++ Piece 1 serving_system ∷ ModemTook 13 ∷ Now 1000 ∷ Piece 1 network_scan ∷ ModemTook 13
    ∷ ModemPiece (network_scan_to number_2) ∷ Took 1 42 ∷ ModemPiece (serving_system_to number_1) ∷ Took 1 48 ∷ Now 61000 ∷ [])

abbrev pub second_alone : List Event
second_alone =
    reverse (
    Joined 2 ∷ opens 2 id_2_to_1
    ++ Piece 2 home_network ∷ ModemTook 13 ∷ Now 1000 ∷ ModemPiece home_network_to_1 ∷ Took 2 39 ∷ Now 61000 ∷ [])

pub record TwoClients : Type 0 where
  pub met : qmi_rig 2 6 2946 ≡ two_clients
  pub first : solo setup 1 two_clients ≡ first_alone
  pub second : solo setup 2 two_clients ≡ second_alone
  pub lines :
      lines_of (summary setup 2 6 two_clients)
      ≡ codes "clients 2\nturns 6\nforwarded 5\nanswered 5\nexpired 0\nlate 0\nrefused 0\nequal 2 of 2\n"
