-- Examples of streams that are cut into pieces anywhere.
use Rattle.std.specs.Prelude.{◌≡◌, List, [], ◌∷◌, ◌++◌, take, drop, reverse}
use Rattle.proxy_history.specs.Events.{Event, Joined, Piece, ModemPiece}
use Rattle.proxy_examples.specs.Story.{open_device, opened, get_version, version, allocate, allocate_as_2, id_5_to_2, id_5, bytes_for, to_modem}

-- a client's two messages in three pieces, and the modem's two answers in two
abbrev pub cut_anywhere : List Event
cut_anywhere =
    reverse (
    Joined 1 ∷ Piece 1 (take 2 open_device) ∷ Piece 1 (drop 2 open_device ++ take 11 get_version) ∷ Piece 1 (drop 11 get_version ++ allocate)
    ∷ ModemPiece (version ++ take 1 id_5_to_2) ∷ ModemPiece (drop 1 id_5_to_2) ∷ [])

pub record PiecesMakeNoDifference : Type 0 where
  pub client : bytes_for 1 cut_anywhere ≡ opened ++ version ++ id_5
  pub modem : to_modem cut_anywhere ≡ get_version ++ allocate_as_2
