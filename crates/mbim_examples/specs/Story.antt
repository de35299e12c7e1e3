-- What the examples share: a proxy, its clients 1 and 2, and the messages that they and the modem send.
-- A story is told in its order; lists of events have the newest first.
use Rattle.std.specs.Prelude.{ℕ, false, List, ◌∷◌, reverse, codes}
use Rattle.kit_bytes.specs.Hex.{hex}
use Rattle.proxy_history.specs.Events.{Event, Joined, Piece, ModemPiece}
use Rattle.proxy_history.specs.Facts.{Fact}
use Rattle.mbim_proxy.specs.Setup.{Setup, mbim_setup}
use Rattle.mbim_proxy.specs.History as proxy

abbrev pub setup : Setup
setup = mbim_setup (codes "/dev/cdc-wdm0") 30000 false

-- a proxy of few: 3 connections, 3 numbers up to 5, an outbox of 230 bytes and of 150 for the modem, bodies of 120 bytes in fragments of 84, and lists of 3 pairs
abbrev pub small : Setup
small = record setup {
  limits = record { connections = 3; share = 4; outbox = 230; modem_outbox = 150; in_use = λ space. 3; top = λ space. 5 };
  longest_body = 120;
  longest_fragment = 84;
  longest_list = 3;
}

-- ---- messages ----

-- a client names /dev/cdc-wdm0 with number 5, and the success
abbrev pub configure : List ℕ
configure = hex (codes "03 00 00 00 58 00 00 00 05 00 00 00 01 00 00 00 00 00 00 00 83 8C F7 FB 8D 0D 4D 7F 87 1E D7 1D BE FB B3 9B 01 00 00 00 01 00 00 00 28 00 00 00 0C 00 00 00 1A 00 00 00 1E 00 00 00 2F 00 64 00 65 00 76 00 2F 00 63 00 64 00 63 00 2D 00 77 00 64 00 6D 00 30 00 00 00")

abbrev pub configured : List ℕ
configured = hex (codes "03 00 00 80 30 00 00 00 05 00 00 00 01 00 00 00 00 00 00 00 83 8C F7 FB 8D 0D 4D 7F 87 1E D7 1D BE FB B3 9B 01 00 00 00 00 00 00 00 00 00 00 00")

-- OPEN with number 6 and fragments of 4,096 bytes, its success, and the refusals that tell statuses 1 and 2
abbrev pub open_6 : List ℕ
open_6 = hex (codes "01 00 00 00 10 00 00 00 06 00 00 00 00 10 00 00")

abbrev pub opened_6 : List ℕ
opened_6 = hex (codes "01 00 00 80 10 00 00 00 06 00 00 00 00 00 00 00")

abbrev pub busy_6 : List ℕ
busy_6 = hex (codes "01 00 00 80 10 00 00 00 06 00 00 00 01 00 00 00")

abbrev pub failed_6 : List ℕ
failed_6 = hex (codes "01 00 00 80 10 00 00 00 06 00 00 00 02 00 00 00")

-- OPEN as the proxy sends it with numbers 1 and 2, and the modem's answers
abbrev pub open_1 : List ℕ
open_1 = hex (codes "01 00 00 00 10 00 00 00 01 00 00 00 00 10 00 00")

abbrev pub opened_1 : List ℕ
opened_1 = hex (codes "01 00 00 80 10 00 00 00 01 00 00 00 00 00 00 00")

abbrev pub open_2 : List ℕ
open_2 = hex (codes "01 00 00 00 10 00 00 00 02 00 00 00 00 10 00 00")

abbrev pub opened_2 : List ℕ
opened_2 = hex (codes "01 00 00 80 10 00 00 00 02 00 00 00 00 00 00 00")

-- a query of Basic Connect, CID 3, with number 7, and as the modem sees it with numbers 2 and 3
abbrev pub query_7 : List ℕ
query_7 = hex (codes "03 00 00 00 30 00 00 00 07 00 00 00 01 00 00 00 00 00 00 00 A2 89 CC 33 BC BB 8B 4F B6 B0 13 3E C2 AA E6 DF 03 00 00 00 00 00 00 00 00 00 00 00")

abbrev pub query_2 : List ℕ
query_2 = hex (codes "03 00 00 00 30 00 00 00 02 00 00 00 01 00 00 00 00 00 00 00 A2 89 CC 33 BC BB 8B 4F B6 B0 13 3E C2 AA E6 DF 03 00 00 00 00 00 00 00 00 00 00 00")

abbrev pub query_3 : List ℕ
query_3 = hex (codes "03 00 00 00 30 00 00 00 03 00 00 00 01 00 00 00 00 00 00 00 A2 89 CC 33 BC BB 8B 4F B6 B0 13 3E C2 AA E6 DF 03 00 00 00 00 00 00 00 00 00 00 00")

-- its answers to numbers 2 and 3, as a client gets them, and the refusals that tell statuses 1 and 2
abbrev pub answer_2 : List ℕ
answer_2 = hex (codes "03 00 00 80 38 00 00 00 02 00 00 00 01 00 00 00 00 00 00 00 A2 89 CC 33 BC BB 8B 4F B6 B0 13 3E C2 AA E6 DF 03 00 00 00 00 00 00 00 08 00 00 00 01 00 00 00 01 00 00 00")

abbrev pub answer_3 : List ℕ
answer_3 = hex (codes "03 00 00 80 38 00 00 00 03 00 00 00 01 00 00 00 00 00 00 00 A2 89 CC 33 BC BB 8B 4F B6 B0 13 3E C2 AA E6 DF 03 00 00 00 00 00 00 00 08 00 00 00 01 00 00 00 01 00 00 00")

abbrev pub answer_7 : List ℕ
answer_7 = hex (codes "03 00 00 80 38 00 00 00 07 00 00 00 01 00 00 00 00 00 00 00 A2 89 CC 33 BC BB 8B 4F B6 B0 13 3E C2 AA E6 DF 03 00 00 00 00 00 00 00 08 00 00 00 01 00 00 00 01 00 00 00")

abbrev pub busy_7 : List ℕ
busy_7 = hex (codes "03 00 00 80 30 00 00 00 07 00 00 00 01 00 00 00 00 00 00 00 A2 89 CC 33 BC BB 8B 4F B6 B0 13 3E C2 AA E6 DF 03 00 00 00 01 00 00 00 00 00 00 00")

abbrev pub failed_7 : List ℕ
failed_7 = hex (codes "03 00 00 80 30 00 00 00 07 00 00 00 01 00 00 00 00 00 00 00 A2 89 CC 33 BC BB 8B 4F B6 B0 13 3E C2 AA E6 DF 03 00 00 00 02 00 00 00 00 00 00 00")

-- the error that tells that the client isn't open
abbrev pub not_opened_7 : List ℕ
not_opened_7 = hex (codes "04 00 00 80 10 00 00 00 07 00 00 00 05 00 00 00")

-- CLOSE with number 8, and its success
abbrev pub close_8 : List ℕ
close_8 = hex (codes "02 00 00 00 0C 00 00 00 08 00 00 00")

abbrev pub closed_8 : List ℕ
closed_8 = hex (codes "02 00 00 80 10 00 00 00 08 00 00 00 00 00 00 00")

-- what the proxy asks for once nobody is open, with number 2
abbrev pub subscribe_none_2 : List ℕ
subscribe_none_2 = hex (codes "03 00 00 00 34 00 00 00 02 00 00 00 01 00 00 00 00 00 00 00 A2 89 CC 33 BC BB 8B 4F B6 B0 13 3E C2 AA E6 DF 13 00 00 00 01 00 00 00 04 00 00 00 00 00 00 00")

-- ---- stories ----

-- what comes after client 1, or both clients, named the device
abbrev pub one_configured : List Event → List Event
one_configured story = reverse (Joined 1 ∷ Piece 1 configure ∷ story)

abbrev pub both_configured : List Event → List Event
both_configured story = reverse (Joined 1 ∷ Piece 1 configure ∷ Joined 2 ∷ Piece 2 configure ∷ story)

-- and are open
abbrev pub one_open : List Event → List Event
one_open story = one_configured (Piece 1 open_6 ∷ ModemPiece opened_1 ∷ story)

abbrev pub both_open : List Event → List Event
both_open story = both_configured (Piece 1 open_6 ∷ Piece 2 open_6 ∷ ModemPiece opened_1 ∷ story)

-- ---- what it comes to ----

abbrev pub bytes_for : ℕ → List Event → List ℕ
bytes_for c events = (proxy.text_for setup c events).bytes

abbrev pub to_modem : List Event → List ℕ
to_modem events = proxy.to_modem setup events

abbrev pub history : List Event → List Fact
history events = proxy.history setup events

-- with the small proxy
abbrev pub small_bytes_for : ℕ → List Event → List ℕ
small_bytes_for c events = (proxy.text_for small c events).bytes

abbrev pub small_to_modem : List Event → List ℕ
small_to_modem events = proxy.to_modem small events

abbrev pub small_history : List Event → List Fact
small_history events = proxy.history small events
