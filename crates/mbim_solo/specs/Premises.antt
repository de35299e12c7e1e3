-- What the law of a client alone asks, and that without each of these the client gets other bytes alone.
use Rattle.std.specs.Prelude.{◌≡◌, ℕ, List, [], ◌∷◌, ◌++◌, reverse, codes}
use Rattle.kit_bytes.specs.Hex.{hex}
use Rattle.proxy_history.specs.Events.{Event, Joined, Piece, Left, ModemPiece, ModemTook}
use Rattle.mbim_proxy.specs.Setup.{Setup}
use Rattle.mbim_proxy.specs.History.{text_for}
use Rattle.mbim_examples.specs.Story.{setup, small, configure, configured, open_6, opened_6, opened_1, query_7, answer_7, busy_7, both_configured, both_open, one_open}
use Rattle.mbim_examples.specs.Openings.{both_ask}
use Rattle.mbim_solo.specs.Solo.{solo}
use Rattle.mbim_solo.specs.Law.{IsLetAlone}

-- they can be met
abbrev pub SecondIsLetAlone : Type 0
SecondIsLetAlone = IsLetAlone setup 2 both_ask

-- the client of this proxy gets these bytes beside others, and those alone
pub record GetsOthersAlone (s : Setup) (c : ℕ) (events : List Event) (gets would_get : List ℕ) : Type 0 where
  pub beside : (text_for s c events).bytes ≡ gets
  pub alone : (text_for s c (solo s c events)).bytes ≡ would_get

-- the fourth client of a proxy of three isn't let in
abbrev pub comes_last : List Event
comes_last = reverse (Joined 1 ∷ Joined 2 ∷ Joined 3 ∷ Joined 4 ∷ Piece 4 configure ∷ [])

abbrev pub NotLetInTells : Type 0
NotLetInTells = GetsOthersAlone small 4 comes_last [] configured

-- client 1 took up the three numbers of the small proxy
abbrev pub asks_too_often : List Event
asks_too_often =
    both_configured (
    Piece 1 open_6 ∷ Piece 2 open_6 ∷ ModemTook 16 ∷ ModemPiece opened_1
    ∷ Piece 1 query_7 ∷ ModemTook 48 ∷ Piece 1 query_7 ∷ ModemTook 48 ∷ Piece 1 query_7 ∷ ModemTook 48 ∷ Piece 2 query_7 ∷ [])

abbrev pub FullSpaceTells : Type 0
FullSpaceTells = GetsOthersAlone small 2 asks_too_often (configured ++ opened_6 ++ busy_7) (configured ++ opened_6)

-- or the room of 150 bytes for the modem
abbrev pub asks_too_much : List Event
asks_too_much = both_configured (Piece 1 open_6 ∷ Piece 2 open_6 ∷ ModemPiece opened_1 ∷ Piece 1 query_7 ∷ Piece 1 query_7 ∷ Piece 2 query_7 ∷ [])

abbrev pub FullQueueTells : Type 0
FullQueueTells = GetsOthersAlone small 2 asks_too_much (configured ++ opened_6 ++ busy_7) (configured ++ opened_6)

-- a name joins again: the answer is for its second command, and its first has the same place
abbrev pub joins_again : List Event
joins_again =
    both_open (
    Piece 1 query_7 ∷ Piece 2 query_7 ∷ Left 2 ∷ Joined 2 ∷ Piece 2 configure ∷ Piece 2 open_6 ∷ Piece 2 query_7
    ∷ ModemPiece (hex (codes "03 00 00 80 38 00 00 00 04 00 00 00 01 00 00 00 00 00 00 00 A2 89 CC 33 BC BB 8B 4F B6 B0 13 3E C2 AA E6 DF 03 00 00 00 00 00 00 00 08 00 00 00 01 00 00 00 01 00 00 00")) ∷ [])

abbrev pub OldNameTells : Type 0
OldNameTells = GetsOthersAlone setup 2 joins_again (configured ++ opened_6 ++ answer_7) (configured ++ opened_6)

-- the proxy itself, whose requests have sender 0, is no client
abbrev pub ProxyTells : Type 0
ProxyTells = GetsOthersAlone setup 0 (one_open []) (hex (codes "01 00 00 80 14 00 00 00 00 00 00 00 01 00 00 00 00 00 00 00")) []
