-- Examples of a proxy of the devices `a` and `b`. A story is told in its order; lists of events have the newest first.
use Rattle.std.specs.Prelude.{◌≡◌, ℕ, Bool, List, [], ◌∷◌, ◌++◌, reverse, take, drop, codes, Some}
use Rattle.kit_bytes.specs.Hex.{hex}
use Rattle.proxy_history.specs.Events as one
use Rattle.proxy_examples.specs.Story.{opened, get_version, version, version_internal, version_aborted, get_model}
use Rattle.proxy_examples.specs.Releases.{release_5_as_1}
use Rattle.many_history.specs.Events.{ManyEvent, Joined, Piece, Left, ModemPiece, ModemGone, Now}
use Rattle.many_history.specs.Devices.{Devices}
use Rattle.many_history.specs.Many.{At, many, own}
use Rattle.many_history.specs.Queues.{text_for, to_modem}
use Rattle.qmi_many.specs.Devices.{qmi_devices}

abbrev pub devices : Devices Bool
devices = qmi_devices (codes "a" ∷ codes "b" ∷ []) 30000 (Some 5000)

abbrev pub bytes_for : ℕ → List ManyEvent → List ℕ
bytes_for c events = (text_for devices c events).bytes

-- Proxy Open of each
abbrev pub open_a : List ℕ
open_a = hex (codes "01 0F 00 00 00 00 00 01 00 FF 04 00 01 01 00 61")

abbrev pub open_b : List ℕ
open_b = hex (codes "01 0F 00 00 00 00 00 01 00 FF 04 00 01 01 00 62")

abbrev pub refused_open : List ℕ
refused_open = hex (codes "01 12 00 80 00 00 01 01 00 FF 07 00 02 04 00 01 00 03 00")

-- client 1 opens `a` and client 2 opens `b`
abbrev pub both_open : List ManyEvent → List ManyEvent
both_open story = reverse (Joined 1 ∷ Joined 2 ∷ Piece 1 open_a ∷ Piece 2 open_b ∷ story)

-- each modem has numbers of its own, and each answer goes to the client of its device
abbrev pub both_ask : List ManyEvent
both_ask = both_open (Piece 1 get_version ∷ Piece 2 get_version ∷ [])

abbrev pub both_are_answered : List ManyEvent
both_are_answered = both_open (Piece 1 get_version ∷ Piece 2 get_version ∷ ModemPiece 1 version ∷ ModemPiece 0 version ∷ [])

pub record EachDeviceHasItsNumbers : Type 0 where
  pub a : to_modem devices 0 both_ask ≡ get_version
  pub b : to_modem devices 1 both_ask ≡ get_version
  pub first : bytes_for 1 both_are_answered ≡ opened ++ version
  pub second : bytes_for 2 both_are_answered ≡ opened ++ version

-- the modem of `b` is gone: who opened `a` is told nothing
abbrev pub b_is_gone : List ManyEvent
b_is_gone = both_open (Piece 1 get_version ∷ Piece 2 get_version ∷ ModemGone 1 ∷ [])

-- and `b` is another device than that of who opened `a`
abbrev pub opens_another : List ManyEvent
opens_another = both_open (Piece 1 get_version ∷ Piece 2 get_version ∷ ModemGone 1 ∷ Piece 1 open_b ∷ [])

pub record ALossIsOfItsDevice : Type 0 where
  pub first : bytes_for 1 b_is_gone ≡ opened
  pub second : bytes_for 2 b_is_gone ≡ opened ++ version_aborted
  pub another : bytes_for 1 opens_another ≡ opened ++ refused_open

-- a first message that opens no device is for device 0
abbrev pub asks_first : List ManyEvent
asks_first = Piece 3 get_version ∷ Joined 3 ∷ []

pub record DeviceZeroElse : Type 0 where
  pub refused : bytes_for 3 asks_first ≡ version_internal
  pub other : own devices 1 asks_first ≡ []

-- a client is named at its device once its first message is whole, and in the order of choosing
abbrev pub chooses_later : List ManyEvent
chooses_later = reverse (Joined 7 ∷ Joined 9 ∷ Piece 7 (take 3 open_b) ∷ Piece 9 open_b ∷ Now 5 ∷ Piece 7 (drop 3 open_b ++ get_version) ∷ [])

pub record NamedInOrderOfChoosing : Type 0 where
  pub seats : (many devices chooses_later).seats ≡ record { conn = 7; place = At 1 2 } ∷ record { conn = 9; place = At 1 1 } ∷ []
  pub met : own devices 1 chooses_later ≡ one.Piece 2 (drop 3 open_b ++ get_version) ∷ one.Piece 2 (take 3 open_b) ∷ one.Joined 2 ∷ one.Now 5 ∷ one.Piece 1 open_b ∷ one.Joined 1 ∷ []
  pub modem : to_modem devices 1 chooses_later ≡ get_version

-- a stream that begins no message is for device 0, whose proxy drops it
abbrev pub goes_bad : List ManyEvent
goes_bad = both_open (Joined 3 ∷ Piece 3 (2 ∷ []) ∷ [])

pub record BadStreamsAreForDeviceZero : Type 0 where
  pub dropped : (many devices goes_bad).dropped ≡ record { conn = 3; place = At 0 2 } ∷ []
  pub left : (many devices goes_bad).seats ≡ record { conn = 1; place = At 0 1 } ∷ record { conn = 2; place = At 1 1 } ∷ []

-- both use the client id 5 of their device; client 1 goes, and after the time it is released at `a`, and not at `b`
abbrev pub goes_for_long : List ManyEvent
goes_for_long = both_open (Piece 1 get_model ∷ Piece 2 get_model ∷ Left 1 ∷ Now 5000 ∷ [])

pub record IdsAreOfTheirDevice : Type 0 where
  pub a : to_modem devices 0 goes_for_long ≡ get_model ++ release_5_as_1
  pub b : to_modem devices 1 goes_for_long ≡ get_model
