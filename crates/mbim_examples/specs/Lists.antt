-- Examples of subscriptions: the modem gets the list of all open clients together, and each client hears of its own.
use Rattle.std.specs.Prelude.{◌≡◌, ℕ, List, [], ◌∷◌, ◌++◌, map, codes, Some, None}
use Rattle.std.specs.List.{range_with_len}
use Rattle.kit_bytes.specs.Hex.{hex}
use Rattle.kit_bytes.specs.declared.services.TheConstants.{SMS, PHONEBOOK}
use Rattle.kit_bytes.specs.Services.{starting_list}
use Rattle.kit_bytes.specs.Subscriptions.{Pair, normal_form}
use Rattle.proxy_history.specs.Events.{Event, Piece, Left, ModemPiece, ModemGone, ModemBack, ModemTook, Now}
use Rattle.mbim_services.specs.SubscribeLists.{list_buffer}
use Rattle.mbim_proxy.specs.OwnReplies.{Refuses, Subscribes, reply_to_pairs}
use Rattle.mbim_examples.specs.Story.{setup, configured, open_6, opened_6, open_1, opened_1, opened_2, query_7, close_8, closed_8, one_configured, both_configured, one_open, both_open, bytes_for, to_modem, small_bytes_for, small_to_modem}

-- a client sets SMS 2 with number 9, and what it gets
abbrev pub set_two : List ℕ
set_two = hex (codes "03 00 00 00 54 00 00 00 09 00 00 00 01 00 00 00 00 00 00 00 A2 89 CC 33 BC BB 8B 4F B6 B0 13 3E C2 AA E6 DF 13 00 00 00 01 00 00 00 24 00 00 00 01 00 00 00 0C 00 00 00 18 00 00 00 53 3F BE EB 14 FE 44 67 9F 90 33 A2 23 E5 6C 3F 01 00 00 00 02 00 00 00")

abbrev pub has_two : List ℕ
has_two = hex (codes "03 00 00 80 54 00 00 00 09 00 00 00 01 00 00 00 00 00 00 00 A2 89 CC 33 BC BB 8B 4F B6 B0 13 3E C2 AA E6 DF 13 00 00 00 00 00 00 00 24 00 00 00 01 00 00 00 0C 00 00 00 18 00 00 00 53 3F BE EB 14 FE 44 67 9F 90 33 A2 23 E5 6C 3F 01 00 00 00 02 00 00 00")

-- a client sets all of SMS, and what it gets
abbrev pub set_all : List ℕ
set_all = hex (codes "03 00 00 00 50 00 00 00 09 00 00 00 01 00 00 00 00 00 00 00 A2 89 CC 33 BC BB 8B 4F B6 B0 13 3E C2 AA E6 DF 13 00 00 00 01 00 00 00 20 00 00 00 01 00 00 00 0C 00 00 00 14 00 00 00 53 3F BE EB 14 FE 44 67 9F 90 33 A2 23 E5 6C 3F 00 00 00 00")

abbrev pub has_all : List ℕ
has_all = hex (codes "03 00 00 80 50 00 00 00 09 00 00 00 01 00 00 00 00 00 00 00 A2 89 CC 33 BC BB 8B 4F B6 B0 13 3E C2 AA E6 DF 13 00 00 00 00 00 00 00 20 00 00 00 01 00 00 00 0C 00 00 00 14 00 00 00 53 3F BE EB 14 FE 44 67 9F 90 33 A2 23 E5 6C 3F 00 00 00 00")

-- what the proxy asks of the modem, and the answers
abbrev pub own_two : List ℕ
own_two = hex (codes "03 00 00 00 54 00 00 00 02 00 00 00 01 00 00 00 00 00 00 00 A2 89 CC 33 BC BB 8B 4F B6 B0 13 3E C2 AA E6 DF 13 00 00 00 01 00 00 00 24 00 00 00 01 00 00 00 0C 00 00 00 18 00 00 00 53 3F BE EB 14 FE 44 67 9F 90 33 A2 23 E5 6C 3F 01 00 00 00 02 00 00 00")

abbrev pub own_two_done : List ℕ
own_two_done = hex (codes "03 00 00 80 30 00 00 00 02 00 00 00 01 00 00 00 00 00 00 00 A2 89 CC 33 BC BB 8B 4F B6 B0 13 3E C2 AA E6 DF 13 00 00 00 00 00 00 00 00 00 00 00")

abbrev pub own_start : List ℕ
own_start = hex (codes "03 00 00 00 C0 00 00 00 03 00 00 00 01 00 00 00 00 00 00 00 A2 89 CC 33 BC BB 8B 4F B6 B0 13 3E C2 AA E6 DF 13 00 00 00 01 00 00 00 90 00 00 00 05 00 00 00 2C 00 00 00 14 00 00 00 40 00 00 00 14 00 00 00 54 00 00 00 14 00 00 00 68 00 00 00 14 00 00 00 7C 00 00 00 14 00 00 00 4B F3 84 76 1E 6A 41 DB B1 D8 BE D2 89 C2 5B DB 00 00 00 00 53 3F BE EB 14 FE 44 67 9F 90 33 A2 23 E5 6C 3F 00 00 00 00 A2 89 CC 33 BC BB 8B 4F B6 B0 13 3E C2 AA E6 DF 00 00 00 00 D8 F2 01 31 FC B5 4E 17 86 02 D6 ED 38 16 16 4C 00 00 00 00 E5 50 A0 C8 5E 82 47 9E 82 F7 10 AB F4 C3 35 1F 00 00 00 00")

abbrev pub own_start_done : List ℕ
own_start_done = hex (codes "03 00 00 80 30 00 00 00 03 00 00 00 01 00 00 00 00 00 00 00 A2 89 CC 33 BC BB 8B 4F B6 B0 13 3E C2 AA E6 DF 13 00 00 00 00 00 00 00 00 00 00 00")

abbrev pub own_all : List ℕ
own_all = hex (codes "03 00 00 00 50 00 00 00 04 00 00 00 01 00 00 00 00 00 00 00 A2 89 CC 33 BC BB 8B 4F B6 B0 13 3E C2 AA E6 DF 13 00 00 00 01 00 00 00 20 00 00 00 01 00 00 00 0C 00 00 00 14 00 00 00 53 3F BE EB 14 FE 44 67 9F 90 33 A2 23 E5 6C 3F 00 00 00 00")

abbrev pub own_all_done : List ℕ
own_all_done = hex (codes "03 00 00 80 30 00 00 00 04 00 00 00 01 00 00 00 00 00 00 00 A2 89 CC 33 BC BB 8B 4F B6 B0 13 3E C2 AA E6 DF 13 00 00 00 00 00 00 00 00 00 00 00")

abbrev pub own_two_again : List ℕ
own_two_again = hex (codes "03 00 00 00 54 00 00 00 05 00 00 00 01 00 00 00 00 00 00 00 A2 89 CC 33 BC BB 8B 4F B6 B0 13 3E C2 AA E6 DF 13 00 00 00 01 00 00 00 24 00 00 00 01 00 00 00 0C 00 00 00 18 00 00 00 53 3F BE EB 14 FE 44 67 9F 90 33 A2 23 E5 6C 3F 01 00 00 00 02 00 00 00")

abbrev pub own_two_again_done : List ℕ
own_two_again_done = hex (codes "03 00 00 80 30 00 00 00 05 00 00 00 01 00 00 00 00 00 00 00 A2 89 CC 33 BC BB 8B 4F B6 B0 13 3E C2 AA E6 DF 13 00 00 00 00 00 00 00 00 00 00 00")

-- client 1 is open and sets SMS 2; client 2 opens; it sets all of SMS; client 1 sets SMS 2 again; client 2 leaves
abbrev pub both_subscribe : List Event
both_subscribe =
    both_configured (
    Piece 1 open_6 ∷ ModemPiece opened_1
    ∷ Piece 1 set_two ∷ ModemPiece own_two_done
    ∷ Piece 2 open_6 ∷ ModemPiece own_start_done
    ∷ Piece 2 set_all ∷ ModemPiece own_all_done
    ∷ Piece 1 set_two
    ∷ Left 2 ∷ ModemPiece own_two_again_done ∷ [])

pub record ListsAreMerged : Type 0 where
  pub modem : to_modem both_subscribe ≡ open_1 ++ own_two ++ own_start ++ own_all ++ own_two_again
  pub first : bytes_for 1 both_subscribe ≡ configured ++ opened_6 ++ has_two ++ has_two
  pub second : bytes_for 2 both_subscribe ≡ configured ++ opened_6 ++ has_all

-- a single CID beside all of its service goes, and the others stand in order, each once; so one structure stands for each service
pub record ListsInNormalForm : Type 0 where
  pub all : normal_form ((SMS, Some 2) ∷ (SMS, None) ∷ (SMS, Some 3) ∷ []) ≡ (SMS, None) ∷ []
  pub in_order : normal_form ((SMS, Some 3) ∷ (PHONEBOOK, Some 1) ∷ (SMS, Some 2) ∷ (SMS, Some 3) ∷ []) ≡ (PHONEBOOK, Some 1) ∷ (SMS, Some 2) ∷ (SMS, Some 3) ∷ []
  pub buffer : list_buffer ((PHONEBOOK, Some 1) ∷ (SMS, Some 2) ∷ (SMS, Some 3) ∷ []) ≡ hex (codes "02 00 00 00 14 00 00 00 18 00 00 00 2C 00 00 00 1C 00 00 00 4B F3 84 76 1E 6A 41 DB B1 D8 BE D2 89 C2 5B DB 01 00 00 00 01 00 00 00 53 3F BE EB 14 FE 44 67 9F 90 33 A2 23 E5 6C 3F 02 00 00 00 02 00 00 00 03 00 00 00")
  pub start : normal_form starting_list ≡ starting_list
  pub none : list_buffer [] ≡ hex (codes "00 00 00 00")

-- a list out of order comes back in normal form, and so does one whose structures overlap or leave bytes between them
abbrev pub sets_out_of_order : List Event
sets_out_of_order = one_open (Piece 1 (hex (codes "03 00 00 00 74 00 00 00 09 00 00 00 01 00 00 00 00 00 00 00 A2 89 CC 33 BC BB 8B 4F B6 B0 13 3E C2 AA E6 DF 13 00 00 00 01 00 00 00 44 00 00 00 02 00 00 00 14 00 00 00 1C 00 00 00 30 00 00 00 14 00 00 00 53 3F BE EB 14 FE 44 67 9F 90 33 A2 23 E5 6C 3F 02 00 00 00 03 00 00 00 02 00 00 00 4B F3 84 76 1E 6A 41 DB B1 D8 BE D2 89 C2 5B DB 00 00 00 00")) ∷ [])

abbrev pub sets_overlapping : List Event
sets_overlapping = one_open (Piece 1 (hex (codes "03 00 00 00 60 00 00 00 09 00 00 00 01 00 00 00 00 00 00 00 A2 89 CC 33 BC BB 8B 4F B6 B0 13 3E C2 AA E6 DF 13 00 00 00 01 00 00 00 30 00 00 00 02 00 00 00 18 00 00 00 18 00 00 00 18 00 00 00 18 00 00 00 EE EE EE EE 53 3F BE EB 14 FE 44 67 9F 90 33 A2 23 E5 6C 3F 01 00 00 00 02 00 00 00")) ∷ [])

pub record ListsComeBackInNormalForm : Type 0 where
  pub in_order : bytes_for 1 sets_out_of_order ≡ configured ++ opened_6 ++ hex (codes "03 00 00 80 74 00 00 00 09 00 00 00 01 00 00 00 00 00 00 00 A2 89 CC 33 BC BB 8B 4F B6 B0 13 3E C2 AA E6 DF 13 00 00 00 00 00 00 00 44 00 00 00 02 00 00 00 14 00 00 00 14 00 00 00 28 00 00 00 1C 00 00 00 4B F3 84 76 1E 6A 41 DB B1 D8 BE D2 89 C2 5B DB 00 00 00 00 53 3F BE EB 14 FE 44 67 9F 90 33 A2 23 E5 6C 3F 02 00 00 00 02 00 00 00 03 00 00 00")
  pub modem : to_modem sets_out_of_order ≡ open_1 ++ hex (codes "03 00 00 00 74 00 00 00 02 00 00 00 01 00 00 00 00 00 00 00 A2 89 CC 33 BC BB 8B 4F B6 B0 13 3E C2 AA E6 DF 13 00 00 00 01 00 00 00 44 00 00 00 02 00 00 00 14 00 00 00 14 00 00 00 28 00 00 00 1C 00 00 00 4B F3 84 76 1E 6A 41 DB B1 D8 BE D2 89 C2 5B DB 00 00 00 00 53 3F BE EB 14 FE 44 67 9F 90 33 A2 23 E5 6C 3F 02 00 00 00 02 00 00 00 03 00 00 00")
  pub overlapping : bytes_for 1 sets_overlapping ≡ configured ++ opened_6 ++ has_two

-- a query of the list, a buffer that is too short for its count, a reference that leaves the buffer by a byte, CIDs that leave their structure: status 21, and the list stays
abbrev pub sets_nothing : List Event
sets_nothing =
    one_open (
    Piece 1 (hex (codes "03 00 00 00 54 00 00 00 09 00 00 00 01 00 00 00 00 00 00 00 A2 89 CC 33 BC BB 8B 4F B6 B0 13 3E C2 AA E6 DF 13 00 00 00 00 00 00 00 24 00 00 00 01 00 00 00 0C 00 00 00 18 00 00 00 53 3F BE EB 14 FE 44 67 9F 90 33 A2 23 E5 6C 3F 01 00 00 00 02 00 00 00"))
    ∷ Piece 1 (hex (codes "03 00 00 00 3B 00 00 00 09 00 00 00 01 00 00 00 00 00 00 00 A2 89 CC 33 BC BB 8B 4F B6 B0 13 3E C2 AA E6 DF 13 00 00 00 01 00 00 00 0B 00 00 00 01 00 00 00 0C 00 00 00 00 00 00"))
    ∷ Piece 1 (hex (codes "03 00 00 00 54 00 00 00 09 00 00 00 01 00 00 00 00 00 00 00 A2 89 CC 33 BC BB 8B 4F B6 B0 13 3E C2 AA E6 DF 13 00 00 00 01 00 00 00 24 00 00 00 01 00 00 00 0C 00 00 00 19 00 00 00 53 3F BE EB 14 FE 44 67 9F 90 33 A2 23 E5 6C 3F 01 00 00 00 02 00 00 00"))
    ∷ Piece 1 (hex (codes "03 00 00 00 54 00 00 00 09 00 00 00 01 00 00 00 00 00 00 00 A2 89 CC 33 BC BB 8B 4F B6 B0 13 3E C2 AA E6 DF 13 00 00 00 01 00 00 00 24 00 00 00 01 00 00 00 0C 00 00 00 18 00 00 00 53 3F BE EB 14 FE 44 67 9F 90 33 A2 23 E5 6C 3F 02 00 00 00 02 00 00 00")) ∷ [])

pub record ListsOutOfForm : Type 0 where
  pub client : bytes_for 1 sets_nothing ≡ configured ++ opened_6 ++ hex (codes "03 00 00 80 30 00 00 00 09 00 00 00 01 00 00 00 00 00 00 00 A2 89 CC 33 BC BB 8B 4F B6 B0 13 3E C2 AA E6 DF 13 00 00 00 15 00 00 00 00 00 00 00") ++ hex (codes "03 00 00 80 30 00 00 00 09 00 00 00 01 00 00 00 00 00 00 00 A2 89 CC 33 BC BB 8B 4F B6 B0 13 3E C2 AA E6 DF 13 00 00 00 15 00 00 00 00 00 00 00") ++ hex (codes "03 00 00 80 30 00 00 00 09 00 00 00 01 00 00 00 00 00 00 00 A2 89 CC 33 BC BB 8B 4F B6 B0 13 3E C2 AA E6 DF 13 00 00 00 15 00 00 00 00 00 00 00") ++ hex (codes "03 00 00 80 30 00 00 00 09 00 00 00 01 00 00 00 00 00 00 00 A2 89 CC 33 BC BB 8B 4F B6 B0 13 3E C2 AA E6 DF 13 00 00 00 15 00 00 00 00 00 00 00")
  pub modem : to_modem sets_nothing ≡ open_1

-- CID 19 of SMS is no list: the modem gets it
abbrev pub asks_of_sms : List Event
asks_of_sms = one_open (Piece 1 (hex (codes "03 00 00 00 30 00 00 00 09 00 00 00 01 00 00 00 00 00 00 00 53 3F BE EB 14 FE 44 67 9F 90 33 A2 23 E5 6C 3F 13 00 00 00 00 00 00 00 00 00 00 00")) ∷ [])

pub record ListsAreOfBasicConnect : Type 0 where
  pub modem : to_modem asks_of_sms ≡ open_1 ++ hex (codes "03 00 00 00 30 00 00 00 02 00 00 00 01 00 00 00 00 00 00 00 53 3F BE EB 14 FE 44 67 9F 90 33 A2 23 E5 6C 3F 13 00 00 00 00 00 00 00 00 00 00 00")
  pub client : bytes_for 1 asks_of_sms ≡ configured ++ opened_6

-- the small proxy has lists of 3 pairs; 4 pairs of which one stands twice are 3
abbrev pub sets_in_small : List ℕ → List Event
sets_in_small list = one_configured (Piece 1 open_6 ∷ ModemPiece opened_1 ∷ Piece 1 list ∷ [])

pub record LongLists : Type 0 where
  pub four : small_bytes_for 1 (sets_in_small (hex (codes "03 00 00 00 60 00 00 00 09 00 00 00 01 00 00 00 00 00 00 00 A2 89 CC 33 BC BB 8B 4F B6 B0 13 3E C2 AA E6 DF 13 00 00 00 01 00 00 00 30 00 00 00 01 00 00 00 0C 00 00 00 24 00 00 00 53 3F BE EB 14 FE 44 67 9F 90 33 A2 23 E5 6C 3F 04 00 00 00 01 00 00 00 02 00 00 00 03 00 00 00 04 00 00 00"))) ≡ configured ++ opened_6 ++ hex (codes "03 00 00 80 30 00 00 00 09 00 00 00 01 00 00 00 00 00 00 00 A2 89 CC 33 BC BB 8B 4F B6 B0 13 3E C2 AA E6 DF 13 00 00 00 15 00 00 00 00 00 00 00")
  pub three : small_bytes_for 1 (sets_in_small (hex (codes "03 00 00 00 60 00 00 00 09 00 00 00 01 00 00 00 00 00 00 00 A2 89 CC 33 BC BB 8B 4F B6 B0 13 3E C2 AA E6 DF 13 00 00 00 01 00 00 00 30 00 00 00 01 00 00 00 0C 00 00 00 24 00 00 00 53 3F BE EB 14 FE 44 67 9F 90 33 A2 23 E5 6C 3F 04 00 00 00 01 00 00 00 02 00 00 00 03 00 00 00 01 00 00 00"))) ≡ configured ++ opened_6 ++ hex (codes "03 00 00 80 54 00 00 00 09 00 00 00 02 00 00 00 00 00 00 00 A2 89 CC 33 BC BB 8B 4F B6 B0 13 3E C2 AA E6 DF 13 00 00 00 00 00 00 00 2C 00 00 00 01 00 00 00 0C 00 00 00 20 00 00 00 53 3F BE EB 14 FE 44 67 9F 90 33 A2 23 E5 6C 3F 03 00 00 00 01 00 00 00 03 00 00 80 1C 00 00 00 09 00 00 00 02 00 00 00 01 00 00 00 02 00 00 00 03 00 00 00")

-- the proxy that is served has lists of 30 pairs, each counted once
abbrev pub sms_to : ℕ → List Pair
sms_to count = map (λ cid. (SMS, Some cid)) (range_with_len 1 count)

pub record ListsOfThirty : Type 0 where
  pub thirty : reply_to_pairs setup [] (Some (sms_to 30)) ≡ Subscribes [] (sms_to 30)
  pub more : reply_to_pairs setup [] (Some (sms_to 31)) ≡ Refuses [] 21
  pub twice : reply_to_pairs setup [] (Some (sms_to 16 ++ sms_to 16)) ≡ Subscribes [] (sms_to 16)

-- ---- indications ----

-- of SMS with CIDs 2 and 3, as the modem sends them with number 9, and as clients get them
abbrev pub indication_2 : List ℕ
indication_2 = hex (codes "07 00 00 80 30 00 00 00 09 00 00 00 01 00 00 00 00 00 00 00 53 3F BE EB 14 FE 44 67 9F 90 33 A2 23 E5 6C 3F 02 00 00 00 04 00 00 00 05 00 00 00")

abbrev pub indication_3 : List ℕ
indication_3 = hex (codes "07 00 00 80 30 00 00 00 09 00 00 00 01 00 00 00 00 00 00 00 53 3F BE EB 14 FE 44 67 9F 90 33 A2 23 E5 6C 3F 03 00 00 00 04 00 00 00 06 00 00 00")

abbrev pub told_2 : List ℕ
told_2 = hex (codes "07 00 00 80 30 00 00 00 00 00 00 00 01 00 00 00 00 00 00 00 53 3F BE EB 14 FE 44 67 9F 90 33 A2 23 E5 6C 3F 02 00 00 00 04 00 00 00 05 00 00 00")

abbrev pub told_3 : List ℕ
told_3 = hex (codes "07 00 00 80 30 00 00 00 00 00 00 00 01 00 00 00 00 00 00 00 53 3F BE EB 14 FE 44 67 9F 90 33 A2 23 E5 6C 3F 03 00 00 00 04 00 00 00 06 00 00 00")

-- client 1 has SMS 2, client 2 all of SMS; then client 1 closes; a service that nobody has is told to nobody
abbrev pub both_hear : List Event
both_hear =
    both_open (Piece 1 set_two ∷ Piece 2 set_all ∷ ModemPiece indication_2 ∷ ModemPiece indication_3 ∷ ModemPiece (hex (codes "07 00 00 80 2C 00 00 00 00 00 00 00 01 00 00 00 00 00 00 00 E5 50 A0 C8 5E 82 47 9E 82 F7 10 AB F4 C3 35 1F 02 00 00 00 00 00 00 00")) ∷ Piece 1 close_8 ∷ ModemPiece indication_2 ∷ [])

-- an indication whose buffer is a byte shorter than it says, and one of 23 bytes of body
abbrev pub bad_indications : List Event
bad_indications = one_open (ModemPiece (hex (codes "07 00 00 80 30 00 00 00 00 00 00 00 01 00 00 00 00 00 00 00 53 3F BE EB 14 FE 44 67 9F 90 33 A2 23 E5 6C 3F 02 00 00 00 05 00 00 00 01 00 00 00")) ∷ ModemPiece (hex (codes "07 00 00 80 2B 00 00 00 00 00 00 00 01 00 00 00 00 00 00 00 53 3F BE EB 14 FE 44 67 9F 90 33 A2 23 E5 6C 3F 02 00 00 00 00 00 00")) ∷ [])

pub record IndicationsFindTheirSubscribers : Type 0 where
  pub first : bytes_for 1 both_hear ≡ configured ++ opened_6 ++ has_two ++ told_2 ++ closed_8
  pub second : bytes_for 2 both_hear ≡ configured ++ opened_6 ++ has_all ++ told_2 ++ told_3 ++ told_2
  pub bad : bytes_for 1 bad_indications ≡ configured ++ opened_6

-- ---- when the proxy asks ----

-- two changes while the proxy's own request waits: the last of them is asked for, once, when the answer has come
abbrev pub changes_twice : List Event
changes_twice = one_open (Piece 1 set_two ∷ Piece 1 set_all ∷ Piece 1 (hex (codes "03 00 00 00 54 00 00 00 09 00 00 00 01 00 00 00 00 00 00 00 A2 89 CC 33 BC BB 8B 4F B6 B0 13 3E C2 AA E6 DF 13 00 00 00 01 00 00 00 24 00 00 00 01 00 00 00 0C 00 00 00 18 00 00 00 53 3F BE EB 14 FE 44 67 9F 90 33 A2 23 E5 6C 3F 01 00 00 00 04 00 00 00")) ∷ ModemPiece own_two_done ∷ [])

-- the modem refuses, or gives no answer: the list counts as asked for
abbrev pub is_refused : List Event
is_refused = one_open (Piece 1 set_two ∷ ModemPiece (hex (codes "03 00 00 80 30 00 00 00 02 00 00 00 01 00 00 00 00 00 00 00 A2 89 CC 33 BC BB 8B 4F B6 B0 13 3E C2 AA E6 DF 13 00 00 00 02 00 00 00 00 00 00 00")) ∷ Piece 1 query_7 ∷ [])

abbrev pub is_unanswered : List Event
is_unanswered = one_open (Piece 1 set_two ∷ Now 30000 ∷ Piece 1 set_all ∷ [])

-- an OPEN_DONE to the list is for nobody, and an error answers it
abbrev pub is_answered_by : List ℕ → List Event
is_answered_by answer = one_open (Piece 1 set_two ∷ ModemPiece answer ∷ Piece 1 set_all ∷ [])

pub record OneListAtATime : Type 0 where
  pub waits : to_modem (one_open (Piece 1 set_two ∷ Piece 1 set_all ∷ [])) ≡ open_1 ++ own_two
  pub changed : to_modem changes_twice ≡ open_1 ++ own_two ++ hex (codes "03 00 00 00 54 00 00 00 03 00 00 00 01 00 00 00 00 00 00 00 A2 89 CC 33 BC BB 8B 4F B6 B0 13 3E C2 AA E6 DF 13 00 00 00 01 00 00 00 24 00 00 00 01 00 00 00 0C 00 00 00 18 00 00 00 53 3F BE EB 14 FE 44 67 9F 90 33 A2 23 E5 6C 3F 01 00 00 00 04 00 00 00")
  pub refused : to_modem is_refused ≡ open_1 ++ own_two ++ hex (codes "03 00 00 00 30 00 00 00 03 00 00 00 01 00 00 00 00 00 00 00 A2 89 CC 33 BC BB 8B 4F B6 B0 13 3E C2 AA E6 DF 03 00 00 00 00 00 00 00 00 00 00 00")
  pub unanswered : to_modem is_unanswered ≡ open_1 ++ own_two ++ hex (codes "03 00 00 00 50 00 00 00 03 00 00 00 01 00 00 00 00 00 00 00 A2 89 CC 33 BC BB 8B 4F B6 B0 13 3E C2 AA E6 DF 13 00 00 00 01 00 00 00 20 00 00 00 01 00 00 00 0C 00 00 00 14 00 00 00 53 3F BE EB 14 FE 44 67 9F 90 33 A2 23 E5 6C 3F 00 00 00 00")
  pub client : bytes_for 1 is_unanswered ≡ configured ++ opened_6 ++ has_two ++ has_all
  pub opened : to_modem (is_answered_by opened_2) ≡ open_1 ++ own_two
  pub erred : to_modem (is_answered_by (hex (codes "04 00 00 80 10 00 00 00 02 00 00 00 05 00 00 00"))) ≡ open_1 ++ own_two ++ hex (codes "03 00 00 00 50 00 00 00 03 00 00 00 01 00 00 00 00 00 00 00 A2 89 CC 33 BC BB 8B 4F B6 B0 13 3E C2 AA E6 DF 13 00 00 00 01 00 00 00 20 00 00 00 01 00 00 00 0C 00 00 00 14 00 00 00 53 3F BE EB 14 FE 44 67 9F 90 33 A2 23 E5 6C 3F 00 00 00 00")

-- after a loss the modem has its starting list again, and the client the list that it set
abbrev pub opens_again : List Event
opens_again = one_open (Piece 1 set_two ∷ ModemPiece own_two_done ∷ ModemGone ∷ ModemBack ∷ Piece 1 open_6 ∷ ModemPiece (hex (codes "01 00 00 80 10 00 00 00 03 00 00 00 00 00 00 00")) ∷ [])

pub record ListsOutliveALoss : Type 0 where
  pub modem : to_modem opens_again ≡ hex (codes "01 00 00 00 10 00 00 00 03 00 00 00 00 10 00 00") ++ hex (codes "03 00 00 00 54 00 00 00 04 00 00 00 01 00 00 00 00 00 00 00 A2 89 CC 33 BC BB 8B 4F B6 B0 13 3E C2 AA E6 DF 13 00 00 00 01 00 00 00 24 00 00 00 01 00 00 00 0C 00 00 00 18 00 00 00 53 3F BE EB 14 FE 44 67 9F 90 33 A2 23 E5 6C 3F 01 00 00 00 02 00 00 00")

-- a client that closes keeps the list that it set: once it opens again, it counts
abbrev pub closes_and_opens : List Event
closes_and_opens = one_open (Piece 1 set_two ∷ ModemPiece own_two_done ∷ Piece 1 close_8 ∷ ModemPiece own_start_done ∷ Piece 1 open_6 ∷ ModemPiece indication_2 ∷ ModemPiece indication_3 ∷ [])

pub record ListsOutliveAClose : Type 0 where
  pub modem : to_modem closes_and_opens ≡ open_1 ++ own_two ++ hex (codes "03 00 00 00 34 00 00 00 03 00 00 00 01 00 00 00 00 00 00 00 A2 89 CC 33 BC BB 8B 4F B6 B0 13 3E C2 AA E6 DF 13 00 00 00 01 00 00 00 04 00 00 00 00 00 00 00") ++ hex (codes "03 00 00 00 54 00 00 00 04 00 00 00 01 00 00 00 00 00 00 00 A2 89 CC 33 BC BB 8B 4F B6 B0 13 3E C2 AA E6 DF 13 00 00 00 01 00 00 00 24 00 00 00 01 00 00 00 0C 00 00 00 18 00 00 00 53 3F BE EB 14 FE 44 67 9F 90 33 A2 23 E5 6C 3F 01 00 00 00 02 00 00 00")
  pub client : bytes_for 1 closes_and_opens ≡ configured ++ opened_6 ++ has_two ++ closed_8 ++ opened_6 ++ told_2

-- 150 bytes of room for the modem: while the OPEN and two queries wait, the list isn't asked for; once the modem took them it is
abbrev pub waits_for_room : List Event → List Event
waits_for_room story = one_configured (Piece 1 open_6 ∷ ModemPiece opened_1 ∷ Piece 1 query_7 ∷ Piece 1 query_7 ∷ Piece 1 set_two ∷ story)

-- and where each number is in use, it isn't, until one is free
abbrev pub waits_for_a_number : List Event → List Event
waits_for_a_number story = one_configured (Piece 1 open_6 ∷ ModemPiece opened_1 ∷ Piece 1 query_7 ∷ Piece 1 query_7 ∷ ModemTook 112 ∷ Piece 1 query_7 ∷ ModemTook 48 ∷ Piece 1 set_two ∷ story)

pub record ListsWaitForRoom : Type 0 where
  pub no_room : small_to_modem (waits_for_room []) ≡ hex (codes "01 00 00 00 10 00 00 00 01 00 00 00 54 00 00 00") ++ hex (codes "03 00 00 00 30 00 00 00 02 00 00 00 01 00 00 00 00 00 00 00 A2 89 CC 33 BC BB 8B 4F B6 B0 13 3E C2 AA E6 DF 03 00 00 00 00 00 00 00 00 00 00 00") ++ hex (codes "03 00 00 00 30 00 00 00 03 00 00 00 01 00 00 00 00 00 00 00 A2 89 CC 33 BC BB 8B 4F B6 B0 13 3E C2 AA E6 DF 03 00 00 00 00 00 00 00 00 00 00 00")
  pub room : small_to_modem (waits_for_room (ModemTook 112 ∷ [])) ≡ hex (codes "01 00 00 00 10 00 00 00 01 00 00 00 54 00 00 00") ++ hex (codes "03 00 00 00 30 00 00 00 02 00 00 00 01 00 00 00 00 00 00 00 A2 89 CC 33 BC BB 8B 4F B6 B0 13 3E C2 AA E6 DF 03 00 00 00 00 00 00 00 00 00 00 00") ++ hex (codes "03 00 00 00 30 00 00 00 03 00 00 00 01 00 00 00 00 00 00 00 A2 89 CC 33 BC BB 8B 4F B6 B0 13 3E C2 AA E6 DF 03 00 00 00 00 00 00 00 00 00 00 00") ++ hex (codes "03 00 00 00 54 00 00 00 04 00 00 00 01 00 00 00 00 00 00 00 A2 89 CC 33 BC BB 8B 4F B6 B0 13 3E C2 AA E6 DF 13 00 00 00 01 00 00 00 24 00 00 00 01 00 00 00 0C 00 00 00 18 00 00 00 53 3F BE EB 14 FE 44 67 9F 90 33 A2 23 E5 6C 3F 01 00 00 00 02 00 00 00")
  pub no_number : small_to_modem (waits_for_a_number []) ≡ hex (codes "01 00 00 00 10 00 00 00 01 00 00 00 54 00 00 00") ++ hex (codes "03 00 00 00 30 00 00 00 02 00 00 00 01 00 00 00 00 00 00 00 A2 89 CC 33 BC BB 8B 4F B6 B0 13 3E C2 AA E6 DF 03 00 00 00 00 00 00 00 00 00 00 00") ++ hex (codes "03 00 00 00 30 00 00 00 03 00 00 00 01 00 00 00 00 00 00 00 A2 89 CC 33 BC BB 8B 4F B6 B0 13 3E C2 AA E6 DF 03 00 00 00 00 00 00 00 00 00 00 00") ++ hex (codes "03 00 00 00 30 00 00 00 04 00 00 00 01 00 00 00 00 00 00 00 A2 89 CC 33 BC BB 8B 4F B6 B0 13 3E C2 AA E6 DF 03 00 00 00 00 00 00 00 00 00 00 00")
  pub number : small_to_modem (waits_for_a_number (ModemPiece (hex (codes "03 00 00 80 30 00 00 00 02 00 00 00 01 00 00 00 00 00 00 00 A2 89 CC 33 BC BB 8B 4F B6 B0 13 3E C2 AA E6 DF 03 00 00 00 00 00 00 00 00 00 00 00")) ∷ [])) ≡ hex (codes "01 00 00 00 10 00 00 00 01 00 00 00 54 00 00 00") ++ hex (codes "03 00 00 00 30 00 00 00 02 00 00 00 01 00 00 00 00 00 00 00 A2 89 CC 33 BC BB 8B 4F B6 B0 13 3E C2 AA E6 DF 03 00 00 00 00 00 00 00 00 00 00 00") ++ hex (codes "03 00 00 00 30 00 00 00 03 00 00 00 01 00 00 00 00 00 00 00 A2 89 CC 33 BC BB 8B 4F B6 B0 13 3E C2 AA E6 DF 03 00 00 00 00 00 00 00 00 00 00 00") ++ hex (codes "03 00 00 00 30 00 00 00 04 00 00 00 01 00 00 00 00 00 00 00 A2 89 CC 33 BC BB 8B 4F B6 B0 13 3E C2 AA E6 DF 03 00 00 00 00 00 00 00 00 00 00 00") ++ hex (codes "03 00 00 00 54 00 00 00 05 00 00 00 01 00 00 00 00 00 00 00 A2 89 CC 33 BC BB 8B 4F B6 B0 13 3E C2 AA E6 DF 13 00 00 00 01 00 00 00 24 00 00 00 01 00 00 00 0C 00 00 00 18 00 00 00 53 3F BE EB 14 FE 44 67 9F 90 33 A2 23 E5 6C 3F 01 00 00 00 02 00 00 00")
