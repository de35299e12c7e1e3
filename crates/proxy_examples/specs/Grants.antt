-- Examples of the answers to an Allocate: which grant an id, and which are handed on alone.
use Rattle.std.specs.Prelude.{◌≡◌, ℕ, List, [], ◌∷◌, ◌++◌, codes}
use Rattle.kit_bytes.specs.Hex.{hex}
use Rattle.proxy_history.specs.Events.{Event, Piece, ModemPiece}
use Rattle.proxy_history.specs.ClientIds.{Grant, held}
use Rattle.proxy_examples.specs.Story.{opened, allocate, id_5, id_5_to_2, both_open, bytes_for, history}

-- client 1 holds id 5 of DMS
abbrev pub grant_of_5 : Grant
grant_of_5 = record { conn = 1; service = 2; cid = 5 }

-- one client is given one id twice: both answers come
abbrev pub given_twice : List Event
given_twice = both_open (Piece 1 allocate ∷ Piece 1 allocate ∷ ModemPiece id_5 ∷ ModemPiece id_5_to_2 ∷ [])

pub record OwnIdIsGivenAgain : Type 0 where
  pub first : bytes_for 1 given_twice ≡ opened ++ id_5 ++ id_5
  pub held : held (history given_twice) ≡ grant_of_5 ∷ []

-- ---- answers that grant nothing ----

abbrev pub answered : List ℕ → List Event
answered answer = both_open (Piece 1 allocate ∷ ModemPiece answer ∷ [])

-- client ids 255 and 0 of DMS, and client id 5 of service 0
abbrev pub id_255 : List ℕ
id_255 = hex (codes "01 17 00 80 00 00 01 01 22 00 0C 00 02 04 00 00 00 00 00 01 02 00 02 FF")

abbrev pub id_0 : List ℕ
id_0 = hex (codes "01 17 00 80 00 00 01 01 22 00 0C 00 02 04 00 00 00 00 00 01 02 00 02 00")

abbrev pub id_of_service_0 : List ℕ
id_of_service_0 = hex (codes "01 17 00 80 00 00 01 01 22 00 0C 00 02 04 00 00 00 00 00 01 02 00 00 05")

pub record NobodysIdsAreNotGranted : Type 0 where
  pub everybody : bytes_for 1 (answered id_255) ≡ opened ++ id_255
  pub everybodys_holders : held (history (answered id_255)) ≡ []
  pub nobody : bytes_for 1 (answered id_0) ≡ opened ++ id_0
  pub nobodys_holders : held (history (answered id_0)) ≡ []
  pub control : bytes_for 1 (answered id_of_service_0) ≡ opened ++ id_of_service_0
  pub controls_holders : held (history (answered id_of_service_0)) ≡ []

-- a Result whose status is 0x0100, and one of two bytes: neither says success
abbrev pub high_status : List ℕ
high_status = hex (codes "01 17 00 80 00 00 01 01 22 00 0C 00 02 04 00 00 01 00 00 01 02 00 02 05")

abbrev pub short_result : List ℕ
short_result = hex (codes "01 15 00 80 00 00 01 01 22 00 0A 00 02 02 00 00 00 01 02 00 02 05")

pub record SuccessIsStatusZero : Type 0 where
  pub high : bytes_for 1 (answered high_status) ≡ opened ++ high_status
  pub high_holders : held (history (answered high_status)) ≡ []
  pub short : bytes_for 1 (answered short_result) ≡ opened ++ short_result
  pub short_holders : held (history (answered short_result)) ≡ []

-- an id with a byte more
abbrev pub long_id : List ℕ
long_id = hex (codes "01 18 00 80 00 00 01 01 22 00 0D 00 02 04 00 00 00 00 00 01 03 00 02 05 00")

pub record LongIdIsNotGranted : Type 0 where
  pub long : bytes_for 1 (answered long_id) ≡ opened ++ long_id
  pub holders : held (history (answered long_id)) ≡ []
