-- Examples of requests and their answers.
use Rattle.std.specs.Prelude.{◌≡◌, ℕ, List, [], ◌∷◌, ◌++◌, reverse, take, codes}
use Rattle.kit_bytes.specs.Hex.{hex}
use Rattle.proxy_history.specs.Events.{Event, Joined, Piece, Left, ModemPiece, Now, Took, ModemTook}
use Rattle.proxy_history.specs.Facts.{Stray}
use Rattle.proxy_history.specs.Requests.{in_use}
use Rattle.proxy_history.specs.Modem.{modem_queue}
use Rattle.qmi_proxy.specs.Clients.{wire}
use Rattle.qmi_proxy.specs.History.{text_for}
use Rattle.proxy_examples.specs.Story.{setup, open_device, opened, get_version, version, version_aborted, allocate, allocate_as_2, id_5, id_6, id_6_to_2, get_model, get_model_as_2, model, model_to_2, both_open, bytes_for, to_modem, history}

-- the proxy itself answers a Proxy Open
abbrev pub opening : List Event
opening = reverse (Joined 1 ∷ Piece 1 open_device ∷ [])

pub record OpensByItself : Type 0 where
  pub client : bytes_for 1 opening ≡ opened
  pub modem : to_modem opening ≡ []

-- two clients use the number 1 at once; the answers come in the other order
abbrev pub two_allocate : List Event
two_allocate = both_open (Piece 1 allocate ∷ Piece 2 allocate ∷ ModemPiece id_6_to_2 ∷ ModemPiece id_5 ∷ [])

-- the same, before the second answer came
abbrev pub one_is_answered : List Event
one_is_answered = both_open (Piece 1 allocate ∷ Piece 2 allocate ∷ ModemPiece id_6_to_2 ∷ [])

pub record OneAnswerEach : Type 0 where
  pub modem : to_modem two_allocate ≡ allocate ++ allocate_as_2
  pub first_waits : bytes_for 1 one_is_answered ≡ opened
  pub second_has : bytes_for 2 one_is_answered ≡ opened ++ id_6
  pub first : bytes_for 1 two_allocate ≡ opened ++ id_5
  pub second : bytes_for 2 two_allocate ≡ opened ++ id_6

-- the request expires at its deadline and not before; its answer comes too late, and sets its number free
abbrev pub nearly_expired : List Event
nearly_expired = both_open (Now 1000 ∷ Piece 1 get_version ∷ Now 30999 ∷ [])

abbrev pub expired : List Event
expired = both_open (Now 1000 ∷ Piece 1 get_version ∷ Now 30999 ∷ Now 31000 ∷ [])

abbrev pub answered_late : List Event
answered_late = both_open (Now 1000 ∷ Piece 1 get_version ∷ Now 30999 ∷ Now 31000 ∷ ModemPiece version ∷ [])

pub record LateAnswerGoesToNobody : Type 0 where
  pub before : bytes_for 1 nearly_expired ≡ opened
  pub at_deadline : bytes_for 1 expired ≡ opened ++ version_aborted
  pub first : bytes_for 1 answered_late ≡ opened ++ version_aborted
  pub second : bytes_for 2 answered_late ≡ opened
  pub free : in_use (history answered_late) ≡ []

abbrev pub answered_in_time : List Event
answered_in_time = both_open (Now 1000 ∷ Piece 1 get_version ∷ Now 30999 ∷ ModemPiece version ∷ Now 31000 ∷ [])

pub record AnswerInTime : Type 0 where
  pub client : bytes_for 1 answered_in_time ≡ opened ++ version

-- a client leaves while its request waits: the number stays in use, and its answer isn't taken for that of the next client's request
abbrev pub leaving : List Event
leaving =
    both_open (
    Piece 1 allocate ∷ ModemPiece id_5
    ∷ Piece 1 get_model ∷ Left 1 ∷ Piece 2 get_model
    ∷ ModemPiece model ∷ ModemPiece model_to_2 ∷ [])

pub record OrphanedNumberStaysInUse : Type 0 where
  pub modem : to_modem leaving ≡ allocate ++ get_model ++ get_model_as_2
  pub first : bytes_for 1 leaving ≡ opened ++ id_5
  pub second : bytes_for 2 leaving ≡ opened ++ model

-- at one deadline the requests of service 0 expire first
abbrev pub model_aborted : List ℕ
model_aborted = hex (codes "01 13 00 80 02 05 02 01 00 22 00 07 00 02 04 00 01 00 04 00")

abbrev pub both_expire : List Event
both_expire = both_open (Piece 1 get_model ∷ Piece 1 get_version ∷ Now 30000 ∷ [])

pub record ControlExpiresFirst : Type 0 where
  pub client : bytes_for 1 both_expire ≡ opened ++ version_aborted ++ model_aborted

-- what a client's socket and the modem took waits no longer, and stays among the bytes for the client
abbrev pub takes : List Event
takes = both_open (Took 1 19 ∷ Piece 1 get_version ∷ ModemTook 12 ∷ ModemPiece version ∷ Piece 2 allocate ∷ [])

pub record TakenBytesWaitNoLonger : Type 0 where
  pub client : (text_for setup 1 takes).bytes ≡ opened ++ version
  pub waiting : (text_for setup 1 takes).waiting ≡ version
  pub modem : modem_queue wire (history takes) ≡ allocate_as_2

-- an answer to nothing, and a message of a length that its head denies, are for nobody
abbrev pub strays : List Event
strays = both_open (ModemPiece version ∷ ModemPiece (hex (codes "01 0B 00 80 00 00 02 00 27 00 01 00")) ∷ [])

pub record StraysChangeNothing : Type 0 where
  pub first : bytes_for 1 strays ≡ opened
  pub second : bytes_for 2 strays ≡ opened
  pub newest_fact : take 1 (history strays) ≡ Stray ∷ []
