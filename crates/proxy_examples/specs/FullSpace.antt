-- An example of a number space in which no number is free.
use Rattle.std.specs.Prelude.{◌≡◌, ℕ, zero, suc, ◌*◌, List, [], ◌∷◌, ◌++◌, codes, length}
use Rattle.kit_bytes.specs.Hex.{hex}
use Rattle.proxy_history.specs.Events.{Event, Joined, Piece}
use Rattle.proxy_history.specs.Requests.{in_use}
use Rattle.proxy_examples.specs.Story.{open_device, opened, get_version, bytes_for, to_modem, history, repeated}

-- Allocate CID with number 9, and its refusal with error 23
abbrev pub allocate_9 : List ℕ
allocate_9 = hex (codes "01 0F 00 00 00 00 00 09 22 00 04 00 01 01 00 02")

abbrev pub full : List ℕ
full = hex (codes "01 12 00 80 00 00 01 09 22 00 07 00 02 04 00 01 00 17 00")

-- clients 1 to n open the device
abbrev pub all_open : ℕ → List Event
all_open zero = []
all_open (suc n) = Piece (suc n) open_device ∷ Joined (suc n) ∷ all_open n

-- clients 1 to n send 16 requests of service 0 each
abbrev pub all_ask : ℕ → List Event → List Event
all_ask zero events = events
all_ask (suc n) events = Piece (suc n) (repeated 16 get_version) ∷ all_ask n events

-- 15 clients send as many requests as they may, the 16th one less, and the 17th one more
abbrev pub asks_too_much : List Event
asks_too_much = Piece 17 allocate_9 ∷ Piece 16 (repeated 15 get_version) ∷ all_ask 15 (all_open 17)

pub record FullSpaceIsRefused : Type 0 where
  pub forwarded : length (in_use (history asks_too_much)) ≡ 255
  pub modem : length (to_modem asks_too_much) ≡ 255 * length get_version
  pub refused : bytes_for 17 asks_too_much ≡ opened ++ full
