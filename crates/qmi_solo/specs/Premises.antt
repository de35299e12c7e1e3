-- What the law of a client alone asks, and that without each of these the client gets other bytes alone.
use Rattle.std.specs.Prelude.{◌≡◌, ℕ, List, [], ◌∷◌, ◌++◌, length, map, replicate}
use Rattle.proxy_history.specs.Events.{Event, Joined, Piece, Left, ModemPiece}
use Rattle.proxy_examples.specs.Story.{setup, open_device, opened, get_version, version, id_5, no_id, model_refused, both_open, bytes_for}
use Rattle.proxy_examples.specs.ClientIds.{uses_foreign_id, one_id_twice}
use Rattle.proxy_examples.specs.Connections.{joined}
use Rattle.proxy_examples.specs.FullSpace.{full, asks_too_much}
use Rattle.proxy_solo.specs.Solo.{pieces_of}
use Rattle.qmi_solo.specs.Solo.{solo}
use Rattle.qmi_solo.specs.Law.{IsLetAlone}
use Rattle.qmi_solo.specs.Stories.{out_of_order, version_to_3}

-- they can be met
abbrev pub SecondIsLetAlone : Type 0
SecondIsLetAlone = IsLetAlone setup 2 out_of_order

-- the client gets these bytes beside others, and those alone
pub record GetsOthersAlone (c : ℕ) (events : List Event) (gets would_get : List ℕ) : Type 0 where
  pub beside : bytes_for c events ≡ gets
  pub alone : bytes_for c (solo setup c events) ≡ would_get

-- client 2 uses a client id that client 1 holds: alone it would wait for the modem's answer
abbrev pub ForeignIdTells : Type 0
ForeignIdTells = GetsOthersAlone 2 uses_foreign_id (opened ++ model_refused) opened

-- the modem gives client 2 the id that it gave client 1
abbrev pub TakenIdTells : Type 0
TakenIdTells = GetsOthersAlone 2 one_id_twice (opened ++ no_id) (opened ++ id_5)

-- client 65 isn't let in
abbrev pub comes_last : List Event
comes_last = Piece 65 open_device ∷ joined 65

abbrev pub NotLetInTells : Type 0
NotLetInTells = GetsOthersAlone 65 comes_last [] opened

-- sixteen clients took up all numbers of service 0
abbrev pub FullSpaceTells : Type 0
FullSpaceTells = GetsOthersAlone 17 asks_too_much (opened ++ full) opened

-- a name joins again: the answer is for its second request, and its first has the same place
abbrev pub joins_again : List Event
joins_again =
    both_open (
    Piece 1 get_version ∷ Piece 2 get_version ∷ Left 2 ∷ Joined 2 ∷ Piece 2 open_device ∷ Piece 2 get_version ∷ ModemPiece version_to_3 ∷ [])

abbrev pub OldNameTells : Type 0
OldNameTells = GetsOthersAlone 2 joins_again (opened ++ version) opened

-- ---- a long message ----

-- a message of 16,400 bytes comes in two pieces
abbrev pub LongComesInTwo : Type 0
LongComesInTwo = map (λ piece. length piece) (pieces_of 16400 (replicate 16400 0)) ≡ 16384 ∷ 16 ∷ []
