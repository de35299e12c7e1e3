-- Examples of a client that asks for more than its share.
use Rattle.std.specs.Prelude.{◌≡◌, ℕ, zero, suc, List, [], ◌∷◌, ◌++◌, codes, map}
use Rattle.kit_bytes.specs.Hex.{hex}
use Rattle.qmux_frame.specs.Reply.{with_number}
use Rattle.proxy_history.specs.Events.{Event, Piece, ModemPiece, Now}
use Rattle.proxy_history.specs.Requests.{in_use}
use Rattle.proxy_examples.specs.Story.{opened, get_version, version, both_open, bytes_for, to_modem, history}

-- Get Version Info with this number
abbrev pub get_version_as : ℕ → List ℕ
get_version_as number = with_number number get_version

-- those with the numbers 1 to n
abbrev pub asks_up_to : ℕ → List ℕ
asks_up_to zero = []
asks_up_to (suc n) = asks_up_to n ++ get_version_as (suc n)

-- the refusal of the 17th with error 2
abbrev pub share_passed : List ℕ
share_passed = hex (codes "01 12 00 80 00 00 01 11 21 00 07 00 02 04 00 01 00 02 00")

-- client 1 asks 17 times
abbrev pub asks_17 : List Event
asks_17 = both_open (Piece 1 (asks_up_to 17) ∷ [])

pub record SeventeenthIsRefused : Type 0 where
  pub modem : to_modem asks_17 ≡ asks_up_to 16
  pub first : bytes_for 1 asks_17 ≡ opened ++ share_passed

-- once the first was answered, one more goes
abbrev pub answered_once : List Event
answered_once = both_open (Piece 1 (asks_up_to 17) ∷ ModemPiece version ∷ Piece 1 get_version ∷ [])

pub record AnswersMakeRoom : Type 0 where
  pub modem : to_modem answered_once ≡ asks_up_to 17
  pub first : bytes_for 1 answered_once ≡ opened ++ share_passed ++ version

-- and so it does once they all expired, whose numbers stay in use
abbrev pub expired : List Event
expired = both_open (Piece 1 (asks_up_to 16) ∷ Now 30000 ∷ Piece 1 get_version ∷ [])

pub record ExpiryMakesRoom : Type 0 where
  pub modem : to_modem expired ≡ asks_up_to 17
  pub used : map (λ r. r.number) (in_use (history expired)) ≡ 1 ∷ 2 ∷ 3 ∷ 4 ∷ 5 ∷ 6 ∷ 7 ∷ 8 ∷ 9 ∷ 10 ∷ 11 ∷ 12 ∷ 13 ∷ 14 ∷ 15 ∷ 16 ∷ 17 ∷ []
