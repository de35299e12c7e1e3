-- Stories of two clients, and what each of them meets alone. A story is told in its order; lists of events have the newest first.
use Rattle.std.specs.Prelude.{◌≡◌, ℕ, List, [], ◌∷◌, ◌++◌, reverse, take, drop, codes}
use Rattle.kit_bytes.specs.Hex.{hex}
use Rattle.proxy_history.specs.Events.{Event, Joined, Piece, Left, ModemPiece, ModemGone, ModemBack, Now, Took, ModemTook}
use Rattle.proxy_examples.specs.Story.{setup, open_device, opened, get_version, version, version_internal, version_aborted, allocate, id_5, id_6, id_5_to_2, get_model, model, sync, both_open, bytes_for}
use Rattle.proxy_examples.specs.ClientIds.{dms_indication_for_5}
use Rattle.qmi_solo.specs.Solo.{solo}

-- what comes after a client that is alone has opened the device
abbrev pub alone_open : ℕ → List Event → List Event
alone_open c story = reverse (Joined c ∷ Piece c open_device ∷ story)

-- of these events the client meets this story alone, and either way it gets these bytes once it has opened the device
pub record MeetsAlone (c : ℕ) (events story : List Event) (bytes : List ℕ) : Type 0 where
  pub met : solo setup c events ≡ alone_open c story
  pub beside : bytes_for c events ≡ opened ++ bytes
  pub alone : bytes_for c (alone_open c story) ≡ opened ++ bytes

-- ---- answers that come out of order, one of them cut, and an indication for each client id ----

-- DMS Get Model of client id 5 with number 300, and its answer
abbrev pub get_model_300 : List ℕ
get_model_300 = hex (codes "01 0C 00 00 02 05 00 2C 01 22 00 00 00")

abbrev pub model_to_300 : List ℕ
model_to_300 = hex (codes "01 1C 00 80 02 05 02 2C 01 22 00 10 00 02 04 00 00 00 00 00 01 06 00 45 4D 37 34 35 35")

abbrev pub dms_indication_for_6 : List ℕ
dms_indication_for_6 = hex (codes "01 0C 00 80 02 06 04 00 00 01 00 00 00")

abbrev pub out_of_order : List Event
out_of_order =
    both_open (
    Piece 1 allocate ∷ Piece 2 allocate ∷ ModemTook 16 ∷ ModemPiece (id_5_to_2 ++ id_6) ∷ Took 2 19
    ∷ Piece 2 get_model_300 ∷ ModemPiece (take 9 model) ∷ ModemPiece (drop 9 model ++ dms_indication_for_5 ++ dms_indication_for_6) ∷ [])

abbrev pub OutOfOrderFirst : Type 0
OutOfOrderFirst = MeetsAlone 1 out_of_order (Piece 1 allocate ∷ ModemTook 16 ∷ ModemPiece id_6 ∷ ModemPiece dms_indication_for_6 ∷ []) (id_6 ++ dms_indication_for_6)

-- its Allocate has number 1 where it is alone
abbrev pub OutOfOrderSecond : Type 0
OutOfOrderSecond =
    MeetsAlone 2 out_of_order
    (Piece 2 allocate ∷ ModemTook 16 ∷ ModemPiece id_5 ∷ Took 2 19 ∷ Piece 2 get_model_300 ∷ ModemTook 13 ∷ ModemPiece model ∷ ModemPiece dms_indication_for_5 ∷ [])
    (id_5 ++ model_to_300 ++ dms_indication_for_5)

-- ---- a modem that begins anew ----

-- answers to Get Version Info as the modem sends them to numbers 2 and 3
abbrev pub version_to_2 : List ℕ
version_to_2 = hex (codes "01 1B 00 80 00 00 01 02 21 00 10 00 02 04 00 00 00 00 00 01 06 00 01 02 01 00 03 00")

abbrev pub version_to_3 : List ℕ
version_to_3 = hex (codes "01 1B 00 80 00 00 01 03 21 00 10 00 02 04 00 00 00 00 00 01 06 00 01 02 01 00 03 00")

-- refusals that tell error 4
abbrev pub allocate_aborted : List ℕ
allocate_aborted = hex (codes "01 12 00 80 00 00 01 01 22 00 07 00 02 04 00 01 00 04 00")

abbrev pub model_aborted : List ℕ
model_aborted = hex (codes "01 13 00 80 02 05 02 01 00 22 00 07 00 02 04 00 01 00 04 00")

abbrev pub begins_anew : List Event
begins_anew =
    both_open (
    Piece 1 allocate ∷ Piece 2 get_version ∷ Piece 2 get_model ∷ ModemPiece sync ∷ Piece 2 get_version ∷ ModemPiece version_to_3 ∷ [])

abbrev pub BeginsAnewFirst : Type 0
BeginsAnewFirst = MeetsAlone 1 begins_anew (Piece 1 allocate ∷ ModemTook 16 ∷ ModemPiece sync ∷ []) (allocate_aborted ++ sync)

abbrev pub BeginsAnewSecond : Type 0
BeginsAnewSecond =
    MeetsAlone 2 begins_anew
    (Piece 2 get_version ∷ ModemTook 12 ∷ Piece 2 get_model ∷ ModemTook 13 ∷ ModemPiece sync ∷ Piece 2 get_version ∷ ModemTook 12 ∷ ModemPiece version_to_2 ∷ [])
    (version_aborted ++ model_aborted ++ sync ++ version)

-- ---- answers that come late ----

abbrev pub late : List Event
late =
    both_open (
    Piece 1 get_version ∷ Piece 2 get_version ∷ Now 30000 ∷ ModemPiece version_to_2 ∷ Piece 2 get_version ∷ ModemPiece (version_to_3 ++ version) ∷ Left 1 ∷ [])

abbrev pub LateFirst : Type 0
LateFirst = MeetsAlone 1 late (Piece 1 get_version ∷ ModemTook 12 ∷ Now 30000 ∷ ModemPiece version ∷ Left 1 ∷ []) version_aborted

abbrev pub LateSecond : Type 0
LateSecond =
    MeetsAlone 2 late
    (Piece 2 get_version ∷ ModemTook 12 ∷ Now 30000 ∷ ModemPiece version ∷ Piece 2 get_version ∷ ModemTook 12 ∷ ModemPiece version_to_2 ∷ [])
    (version_aborted ++ version)

-- ---- a modem whose stream goes bad ----

-- an indication of service 0, for every client that has opened the device
abbrev pub control_indication : List ℕ
control_indication = hex (codes "01 0B 00 80 00 00 02 00 30 00 00 00")

abbrev pub goes_bad : List Event
goes_bad =
    both_open (
    Piece 1 get_version ∷ Piece 2 get_version ∷ ModemPiece (control_indication ++ 2 ∷ []) ∷ Piece 2 get_version ∷ ModemPiece version
    ∷ ModemGone ∷ ModemBack ∷ Piece 2 get_version ∷ ModemPiece version_to_3 ∷ [])

abbrev pub GoesBadFirst : Type 0
GoesBadFirst =
    MeetsAlone 1 goes_bad (Piece 1 get_version ∷ ModemTook 12 ∷ ModemPiece control_indication ∷ ModemGone ∷ ModemGone ∷ ModemBack ∷ []) (control_indication ++ version_aborted)

abbrev pub GoesBadSecond : Type 0
GoesBadSecond =
    MeetsAlone 2 goes_bad
    (Piece 2 get_version ∷ ModemTook 12 ∷ ModemPiece control_indication ∷ ModemGone ∷ Piece 2 get_version ∷ ModemGone ∷ ModemBack ∷ Piece 2 get_version ∷ ModemTook 12 ∷ ModemPiece version_to_2 ∷ [])
    (control_indication ++ version_aborted ++ version_internal ++ version)

-- ---- a client whose stream goes bad ----

abbrev pub is_dropped : List Event
is_dropped =
    both_open (
    Piece 2 (get_version ++ 3 ∷ []) ∷ Piece 1 get_version ∷ ModemPiece (version_to_2 ++ version) ∷ ModemGone ∷ ModemBack
    ∷ ModemPiece control_indication ∷ Took 1 19 ∷ Joined 5 ∷ [])

abbrev pub IsDroppedFirst : Type 0
IsDroppedFirst =
    MeetsAlone 1 is_dropped
    (Piece 1 get_version ∷ ModemTook 12 ∷ ModemPiece version ∷ ModemGone ∷ ModemBack ∷ ModemPiece control_indication ∷ Took 1 19 ∷ [])
    (version ++ control_indication)

abbrev pub IsDroppedSecond : Type 0
IsDroppedSecond = MeetsAlone 2 is_dropped (Piece 2 (get_version ++ 3 ∷ []) ∷ ModemTook 12 ∷ ModemPiece version ∷ ModemGone ∷ ModemBack ∷ []) []

-- ---- a client that is alone meets what it meets ----

abbrev pub only_story : List Event
only_story = Took 1 19 ∷ Piece 1 allocate ∷ ModemTook 16 ∷ ModemPiece id_5 ∷ Took 1 24 ∷ Now 60000 ∷ []

abbrev pub OnlyClient : Type 0
OnlyClient = MeetsAlone 1 (alone_open 1 only_story) only_story id_5
