-- Examples of client ids, indications and the modem's resets.
use Rattle.std.specs.Prelude.{◌≡◌, ℕ, List, [], ◌∷◌, ◌++◌, take, codes, Some, None}
use Rattle.kit_bytes.specs.Hex.{hex}
use Rattle.proxy_history.specs.Events.{Event, Piece, ModemPiece, Now}
use Rattle.proxy_history.specs.Facts.{Request, Answered, Granted}
use Rattle.proxy_history.specs.Requests.{next_number}
use Rattle.proxy_history.specs.ClientIds.{holder, held}
use Rattle.proxy_examples.specs.Story.{opened, get_version, version_aborted, allocate, id_5, id_6, id_6_to_2, id_5_to_2, no_id, get_model, model_refused, sync, dms_indication, both_open, bytes_for, to_modem, history}

-- client 1 holds DMS id 5
abbrev pub uses_foreign_id : List Event
uses_foreign_id = both_open (Piece 1 allocate ∷ ModemPiece id_5 ∷ Piece 2 get_model ∷ [])

pub record ForeignIdIsRefused : Type 0 where
  pub modem : to_modem uses_foreign_id ≡ allocate
  pub second : bytes_for 2 uses_foreign_id ≡ opened ++ model_refused

-- the modem answers two requests with one client id: the second client is refused it
abbrev pub one_id_twice : List Event
one_id_twice = both_open (Piece 1 allocate ∷ Piece 2 allocate ∷ ModemPiece id_5 ∷ ModemPiece id_5_to_2 ∷ [])

pub record HeldIdIsNotGiven : Type 0 where
  pub first : bytes_for 1 one_id_twice ≡ opened ++ id_5
  pub second : bytes_for 2 one_id_twice ≡ opened ++ no_id
  pub holder : holder 2 5 (history one_id_twice) ≡ Some 1

-- an id is granted before the answer that brings it is queued
abbrev pub allocates : List Event
allocates = both_open (Piece 2 allocate ∷ ModemPiece id_5 ∷ [])

-- the first request of all, which is the second message of client 2
abbrev pub first_request : Request
first_request = record { serial = 1; conn = 2; place = 2; space = 0; number = 1; message = allocate; deadline = 30000 }

pub record GrantComesFirst : Type 0 where
  pub newest_facts : take 2 (history allocates) ≡ Answered first_request id_5 ∷ Granted 2 2 5 ∷ []

-- an indication for client id 255 comes once to a client with two ids of its service, and not to one with none
abbrev pub indicates : List Event
indicates =
    both_open (
    Piece 1 allocate ∷ ModemPiece id_5 ∷ Piece 1 allocate ∷ ModemPiece id_6_to_2
    ∷ ModemPiece dms_indication ∷ [])

pub record IndicationComesOnce : Type 0 where
  pub first : bytes_for 1 indicates ≡ opened ++ id_5 ++ id_6 ++ dms_indication
  pub second : bytes_for 2 indicates ≡ opened

-- a Sync indication: what waits is aborted in order of forwarding, then everybody is told; numbering goes on
abbrev pub syncs : List Event
syncs = both_open (Piece 1 get_version ∷ Piece 2 get_version ∷ Piece 1 get_version ∷ ModemPiece sync ∷ [])

pub record SyncAborts : Type 0 where
  pub first : bytes_for 1 syncs ≡ opened ++ version_aborted ++ version_aborted ++ sync
  pub second : bytes_for 2 syncs ≡ opened ++ version_aborted ++ sync
  pub next : next_number 255 255 0 (history syncs) ≡ Some 4

-- an id that nobody held is its user's, and a Release that the modem answers with success frees it
abbrev pub release_5 : List ℕ
release_5 = hex (codes "01 10 00 00 00 00 00 02 23 00 05 00 01 02 00 02 05")

abbrev pub released : List ℕ
released = hex (codes "01 17 00 80 00 00 01 01 23 00 0C 00 02 04 00 00 00 00 00 01 02 00 02 05")

abbrev pub adopts : List Event
adopts = both_open (Piece 2 get_model ∷ Piece 1 get_model ∷ [])

abbrev pub releases : List Event
releases = both_open (Piece 2 get_model ∷ Piece 1 get_model ∷ Piece 2 release_5 ∷ ModemPiece released ∷ [])

pub record UsersHoldTheirIds : Type 0 where
  pub adopted : holder 2 5 (history adopts) ≡ Some 2
  pub first : bytes_for 1 adopts ≡ opened ++ model_refused
  pub released : holder 2 5 (history releases) ≡ None
  pub second : bytes_for 2 releases ≡ opened ++ hex (codes "01 17 00 80 00 00 01 02 23 00 0C 00 02 04 00 00 00 00 00 01 02 00 02 05")

-- an indication for one client id comes to its holder alone
abbrev pub dms_indication_for_5 : List ℕ
dms_indication_for_5 = hex (codes "01 0C 00 80 02 05 04 00 00 01 00 00 00")

abbrev pub indicates_to_one : List Event
indicates_to_one =
    both_open (
    Piece 1 allocate ∷ Piece 2 allocate ∷ ModemPiece id_5 ∷ ModemPiece id_6_to_2
    ∷ ModemPiece dms_indication_for_5 ∷ [])

pub record IndicationFindsItsHolder : Type 0 where
  pub first : bytes_for 1 indicates_to_one ≡ opened ++ id_5 ++ dms_indication_for_5
  pub second : bytes_for 2 indicates_to_one ≡ opened ++ id_6

-- an Allocate that the modem refuses, and one that is answered too late, grant nothing
abbrev pub allocate_aborted : List ℕ
allocate_aborted = hex (codes "01 12 00 80 00 00 01 01 22 00 07 00 02 04 00 01 00 04 00")

abbrev pub refused_allocate : List Event
refused_allocate = both_open (Piece 1 allocate ∷ ModemPiece no_id ∷ [])

abbrev pub late_allocate : List Event
late_allocate = both_open (Piece 1 allocate ∷ Now 30000 ∷ ModemPiece id_5 ∷ [])

pub record OnlySuccessGrants : Type 0 where
  pub refused : bytes_for 1 refused_allocate ≡ opened ++ no_id
  pub refused_grants : held (history refused_allocate) ≡ []
  pub late : bytes_for 1 late_allocate ≡ opened ++ allocate_aborted
  pub late_grants : held (history late_allocate) ≡ []
