-- Messages of the examples, byte for byte.
-- Source: the USB-IF MBIM specification 1.0, sections 9 and 10, for the places of the fields.
use Rattle.std.specs.Prelude.{ℕ, List, codes}
use Rattle.kit_bytes.specs.Hex.{hex}

-- the host opens the modem, and its messages may have 4,096 bytes
abbrev pub open_1 : List ℕ
open_1 = hex (codes "01 00 00 00 10 00 00 00 01 00 00 00 00 10 00 00")

abbrev pub opened_1 : List ℕ
opened_1 = hex (codes "01 00 00 80 10 00 00 00 01 00 00 00 00 00 00 00")

-- and they may have 64 bytes
abbrev pub open_small : List ℕ
open_small = hex (codes "01 00 00 00 10 00 00 00 01 00 00 00 40 00 00 00")

abbrev pub close_3 : List ℕ
close_3 = hex (codes "02 00 00 00 0C 00 00 00 03 00 00 00")

abbrev pub closed_3 : List ℕ
closed_3 = hex (codes "02 00 00 80 10 00 00 00 03 00 00 00 00 00 00 00")

-- what the device can do, and what it answers: 8 numbers, 4 pairs of an offset and a size, and 3 texts
abbrev pub query_caps : List ℕ
query_caps = hex (codes "03 00 00 00 30 00 00 00 02 00 00 00 01 00 00 00 00 00 00 00 A2 89 CC 33 BC BB 8B 4F B6 B0 13 3E C2 AA E6 DF 01 00 00 00 00 00 00 00 00 00 00 00")

abbrev pub caps : List ℕ
caps = hex (codes "03 00 00 80 A4 00 00 00 02 00 00 00 01 00 00 00 00 00 00 00 A2 89 CC 33 BC BB 8B 4F B6 B0 13 3E C2 AA E6 DF 01 00 00 00 00 00 00 00 74 00 00 00 00 00 00 00 00 00 00 00 00 00 00 00 00 00 00 00 00 00 00 00 00 00 00 00 00 00 00 00 00 00 00 00 00 00 00 00 00 00 00 00 40 00 00 00 1E 00 00 00 60 00 00 00 06 00 00 00 68 00 00 00 0A 00 00 00 30 00 30 00 30 00 30 00 30 00 30 00 30 00 30 00 30 00 30 00 30 00 30 00 30 00 30 00 30 00 00 00 31 00 2E 00 30 00 00 00 53 00 69 00 6D 00 2D 00 31 00 00 00")

-- the same in messages of 64 bytes
abbrev pub small_caps : List ℕ
small_caps = hex (codes "03 00 00 80 40 00 00 00 02 00 00 00 04 00 00 00 00 00 00 00 A2 89 CC 33 BC BB 8B 4F B6 B0 13 3E C2 AA E6 DF 01 00 00 00 00 00 00 00 74 00 00 00 00 00 00 00 00 00 00 00 00 00 00 00 00 00 00 00 03 00 00 80 40 00 00 00 02 00 00 00 04 00 00 00 01 00 00 00 00 00 00 00 00 00 00 00 00 00 00 00 00 00 00 00 00 00 00 00 00 00 00 00 40 00 00 00 1E 00 00 00 60 00 00 00 06 00 00 00 68 00 00 00 03 00 00 80 40 00 00 00 02 00 00 00 04 00 00 00 02 00 00 00 0A 00 00 00 30 00 30 00 30 00 30 00 30 00 30 00 30 00 30 00 30 00 30 00 30 00 30 00 30 00 30 00 30 00 00 00 31 00 2E 00 30 00 00 00 03 00 00 80 20 00 00 00 02 00 00 00 04 00 00 00 03 00 00 00 53 00 69 00 6D 00 2D 00 31 00 00 00")

-- the radio: a query, and what it answers while it is on and off
abbrev pub query_radio : List ℕ
query_radio = hex (codes "03 00 00 00 30 00 00 00 02 00 00 00 01 00 00 00 00 00 00 00 A2 89 CC 33 BC BB 8B 4F B6 B0 13 3E C2 AA E6 DF 03 00 00 00 00 00 00 00 00 00 00 00")

abbrev pub radio_on : List ℕ
radio_on = hex (codes "03 00 00 80 38 00 00 00 02 00 00 00 01 00 00 00 00 00 00 00 A2 89 CC 33 BC BB 8B 4F B6 B0 13 3E C2 AA E6 DF 03 00 00 00 00 00 00 00 08 00 00 00 01 00 00 00 01 00 00 00")

abbrev pub radio_off : List ℕ
radio_off = hex (codes "03 00 00 80 38 00 00 00 02 00 00 00 01 00 00 00 00 00 00 00 A2 89 CC 33 BC BB 8B 4F B6 B0 13 3E C2 AA E6 DF 03 00 00 00 00 00 00 00 08 00 00 00 01 00 00 00 00 00 00 00")

-- sets, and the indication behind the answer
abbrev pub switch_off : List ℕ
switch_off = hex (codes "03 00 00 00 34 00 00 00 02 00 00 00 01 00 00 00 00 00 00 00 A2 89 CC 33 BC BB 8B 4F B6 B0 13 3E C2 AA E6 DF 03 00 00 00 01 00 00 00 04 00 00 00 00 00 00 00")

abbrev pub switch_on : List ℕ
switch_on = hex (codes "03 00 00 00 34 00 00 00 02 00 00 00 01 00 00 00 00 00 00 00 A2 89 CC 33 BC BB 8B 4F B6 B0 13 3E C2 AA E6 DF 03 00 00 00 01 00 00 00 04 00 00 00 01 00 00 00")

abbrev pub switch_wrong : List ℕ
switch_wrong = hex (codes "03 00 00 00 34 00 00 00 02 00 00 00 01 00 00 00 00 00 00 00 A2 89 CC 33 BC BB 8B 4F B6 B0 13 3E C2 AA E6 DF 03 00 00 00 01 00 00 00 04 00 00 00 02 00 00 00")

abbrev pub told_off : List ℕ
told_off = hex (codes "07 00 00 80 34 00 00 00 00 00 00 00 01 00 00 00 00 00 00 00 A2 89 CC 33 BC BB 8B 4F B6 B0 13 3E C2 AA E6 DF 03 00 00 00 08 00 00 00 01 00 00 00 00 00 00 00")

abbrev pub told_on : List ℕ
told_on = hex (codes "07 00 00 80 34 00 00 00 00 00 00 00 01 00 00 00 00 00 00 00 A2 89 CC 33 BC BB 8B 4F B6 B0 13 3E C2 AA E6 DF 03 00 00 00 08 00 00 00 01 00 00 00 01 00 00 00")

abbrev pub refused_radio : List ℕ
refused_radio = hex (codes "03 00 00 80 30 00 00 00 02 00 00 00 01 00 00 00 00 00 00 00 A2 89 CC 33 BC BB 8B 4F B6 B0 13 3E C2 AA E6 DF 03 00 00 00 15 00 00 00 00 00 00 00")

-- a buffer of 3 bytes, which has no number of 4
abbrev pub short_switch : List ℕ
short_switch = hex (codes "03 00 00 00 33 00 00 00 02 00 00 00 01 00 00 00 00 00 00 00 A2 89 CC 33 BC BB 8B 4F B6 B0 13 3E C2 AA E6 DF 03 00 00 00 01 00 00 00 03 00 00 00 00 00 00")

-- a buffer that is shorter than its length says
abbrev pub wrong_length : List ℕ
wrong_length = hex (codes "03 00 00 00 33 00 00 00 02 00 00 00 01 00 00 00 00 00 00 00 A2 89 CC 33 BC BB 8B 4F B6 B0 13 3E C2 AA E6 DF 03 00 00 00 01 00 00 00 04 00 00 00 00 00 00")

-- a command that isn't in the tables, and a set of one that is only asked
abbrev pub query_unknown : List ℕ
query_unknown = hex (codes "03 00 00 00 30 00 00 00 02 00 00 00 01 00 00 00 00 00 00 00 A2 89 CC 33 BC BB 8B 4F B6 B0 13 3E C2 AA E6 DF 05 00 00 00 00 00 00 00 00 00 00 00")

abbrev pub unknown : List ℕ
unknown = hex (codes "03 00 00 80 30 00 00 00 02 00 00 00 01 00 00 00 00 00 00 00 A2 89 CC 33 BC BB 8B 4F B6 B0 13 3E C2 AA E6 DF 05 00 00 00 09 00 00 00 00 00 00 00")

abbrev pub set_caps : List ℕ
set_caps = hex (codes "03 00 00 00 30 00 00 00 02 00 00 00 01 00 00 00 00 00 00 00 A2 89 CC 33 BC BB 8B 4F B6 B0 13 3E C2 AA E6 DF 01 00 00 00 01 00 00 00 00 00 00 00")

abbrev pub unset_caps : List ℕ
unset_caps = hex (codes "03 00 00 80 30 00 00 00 02 00 00 00 01 00 00 00 00 00 00 00 A2 89 CC 33 BC BB 8B 4F B6 B0 13 3E C2 AA E6 DF 01 00 00 00 09 00 00 00 00 00 00 00")

-- the query of the radio in two parts
abbrev pub first_part : List ℕ
first_part = hex (codes "03 00 00 00 24 00 00 00 02 00 00 00 02 00 00 00 00 00 00 00 A2 89 CC 33 BC BB 8B 4F B6 B0 13 3E C2 AA E6 DF")

abbrev pub second_part : List ℕ
second_part = hex (codes "03 00 00 00 20 00 00 00 02 00 00 00 02 00 00 00 01 00 00 00 03 00 00 00 00 00 00 00 00 00 00 00")

abbrev pub out_of_sequence : List ℕ
out_of_sequence = hex (codes "04 00 00 80 10 00 00 00 02 00 00 00 02 00 00 00")

abbrev pub not_opened : List ℕ
not_opened = hex (codes "04 00 00 80 10 00 00 00 02 00 00 00 05 00 00 00")

abbrev pub mismatched : List ℕ
mismatched = hex (codes "04 00 00 80 10 00 00 00 02 00 00 00 03 00 00 00")

abbrev pub long_open : List ℕ
long_open = hex (codes "01 00 00 00 14 00 00 00 02 00 00 00 00 10 00 00 00 00 00 00")

abbrev pub host_error : List ℕ
host_error = hex (codes "04 00 00 00 10 00 00 00 02 00 00 00 01 00 00 00")

-- the host listens to nothing
abbrev pub subscribe_none : List ℕ
subscribe_none = hex (codes "03 00 00 00 34 00 00 00 02 00 00 00 01 00 00 00 00 00 00 00 A2 89 CC 33 BC BB 8B 4F B6 B0 13 3E C2 AA E6 DF 13 00 00 00 01 00 00 00 04 00 00 00 00 00 00 00")

abbrev pub has_none : List ℕ
has_none = hex (codes "03 00 00 80 34 00 00 00 02 00 00 00 01 00 00 00 00 00 00 00 A2 89 CC 33 BC BB 8B 4F B6 B0 13 3E C2 AA E6 DF 13 00 00 00 00 00 00 00 04 00 00 00 00 00 00 00")

-- to two CIDs of SMS, one of them twice, and to one of Basic Connect twice, and the same in order
abbrev pub subscribe_some : List ℕ
subscribe_some = hex (codes "03 00 00 00 9C 00 00 00 02 00 00 00 01 00 00 00 00 00 00 00 A2 89 CC 33 BC BB 8B 4F B6 B0 13 3E C2 AA E6 DF 13 00 00 00 01 00 00 00 6C 00 00 00 03 00 00 00 1C 00 00 00 18 00 00 00 34 00 00 00 1C 00 00 00 50 00 00 00 1C 00 00 00 53 3F BE EB 14 FE 44 67 9F 90 33 A2 23 E5 6C 3F 01 00 00 00 02 00 00 00 A2 89 CC 33 BC BB 8B 4F B6 B0 13 3E C2 AA E6 DF 02 00 00 00 03 00 00 00 03 00 00 00 53 3F BE EB 14 FE 44 67 9F 90 33 A2 23 E5 6C 3F 02 00 00 00 01 00 00 00 02 00 00 00")

abbrev pub has_some : List ℕ
has_some = hex (codes "03 00 00 80 78 00 00 00 02 00 00 00 01 00 00 00 00 00 00 00 A2 89 CC 33 BC BB 8B 4F B6 B0 13 3E C2 AA E6 DF 13 00 00 00 00 00 00 00 48 00 00 00 02 00 00 00 14 00 00 00 1C 00 00 00 30 00 00 00 18 00 00 00 53 3F BE EB 14 FE 44 67 9F 90 33 A2 23 E5 6C 3F 02 00 00 00 01 00 00 00 02 00 00 00 A2 89 CC 33 BC BB 8B 4F B6 B0 13 3E C2 AA E6 DF 01 00 00 00 03 00 00 00")

-- all messages, and one; a message of 3 octets and one of none
abbrev pub read_messages : List ℕ
read_messages = hex (codes "03 00 00 00 3C 00 00 00 02 00 00 00 01 00 00 00 00 00 00 00 53 3F BE EB 14 FE 44 67 9F 90 33 A2 23 E5 6C 3F 02 00 00 00 00 00 00 00 0C 00 00 00 00 00 00 00 00 00 00 00 00 00 00 00")

abbrev pub has_messages : List ℕ
has_messages = hex (codes "03 00 00 80 6C 00 00 00 02 00 00 00 01 00 00 00 00 00 00 00 53 3F BE EB 14 FE 44 67 9F 90 33 A2 23 E5 6C 3F 02 00 00 00 00 00 00 00 3C 00 00 00 00 00 00 00 02 00 00 00 18 00 00 00 14 00 00 00 2C 00 00 00 10 00 00 00 01 00 00 00 00 00 00 00 10 00 00 00 03 00 00 00 01 02 03 00 02 00 00 00 00 00 00 00 00 00 00 00 00 00 00 00")

abbrev pub read_second : List ℕ
read_second = hex (codes "03 00 00 00 3C 00 00 00 02 00 00 00 01 00 00 00 00 00 00 00 53 3F BE EB 14 FE 44 67 9F 90 33 A2 23 E5 6C 3F 02 00 00 00 00 00 00 00 0C 00 00 00 00 00 00 00 01 00 00 00 02 00 00 00")

abbrev pub has_second : List ℕ
has_second = hex (codes "03 00 00 80 50 00 00 00 02 00 00 00 01 00 00 00 00 00 00 00 53 3F BE EB 14 FE 44 67 9F 90 33 A2 23 E5 6C 3F 02 00 00 00 00 00 00 00 20 00 00 00 00 00 00 00 01 00 00 00 10 00 00 00 10 00 00 00 02 00 00 00 00 00 00 00 00 00 00 00 00 00 00 00")

abbrev pub delete_first : List ℕ
delete_first = hex (codes "03 00 00 00 38 00 00 00 02 00 00 00 01 00 00 00 00 00 00 00 53 3F BE EB 14 FE 44 67 9F 90 33 A2 23 E5 6C 3F 04 00 00 00 01 00 00 00 08 00 00 00 01 00 00 00 01 00 00 00")

abbrev pub deleted : List ℕ
deleted = hex (codes "03 00 00 80 30 00 00 00 02 00 00 00 01 00 00 00 00 00 00 00 53 3F BE EB 14 FE 44 67 9F 90 33 A2 23 E5 6C 3F 04 00 00 00 00 00 00 00 00 00 00 00")

abbrev pub not_deleted : List ℕ
not_deleted = hex (codes "03 00 00 80 30 00 00 00 02 00 00 00 01 00 00 00 00 00 00 00 53 3F BE EB 14 FE 44 67 9F 90 33 A2 23 E5 6C 3F 04 00 00 00 15 00 00 00 00 00 00 00")

abbrev pub read_first : List ℕ
read_first = hex (codes "03 00 00 00 3C 00 00 00 02 00 00 00 01 00 00 00 00 00 00 00 53 3F BE EB 14 FE 44 67 9F 90 33 A2 23 E5 6C 3F 02 00 00 00 00 00 00 00 0C 00 00 00 00 00 00 00 01 00 00 00 01 00 00 00")

abbrev pub not_read : List ℕ
not_read = hex (codes "03 00 00 80 30 00 00 00 02 00 00 00 01 00 00 00 00 00 00 00 53 3F BE EB 14 FE 44 67 9F 90 33 A2 23 E5 6C 3F 02 00 00 00 15 00 00 00 00 00 00 00")

-- of a format that isn't kept
abbrev pub read_wrong : List ℕ
read_wrong = hex (codes "03 00 00 00 3C 00 00 00 02 00 00 00 01 00 00 00 00 00 00 00 53 3F BE EB 14 FE 44 67 9F 90 33 A2 23 E5 6C 3F 02 00 00 00 00 00 00 00 0C 00 00 00 01 00 00 00 00 00 00 00 00 00 00 00")

-- the phone book
abbrev pub read_book : List ℕ
read_book = hex (codes "03 00 00 00 38 00 00 00 02 00 00 00 01 00 00 00 00 00 00 00 4B F3 84 76 1E 6A 41 DB B1 D8 BE D2 89 C2 5B DB 02 00 00 00 00 00 00 00 08 00 00 00 00 00 00 00 00 00 00 00")

abbrev pub has_two : List ℕ
has_two = hex (codes "03 00 00 80 88 00 00 00 02 00 00 00 01 00 00 00 00 00 00 00 4B F3 84 76 1E 6A 41 DB B1 D8 BE D2 89 C2 5B DB 02 00 00 00 00 00 00 00 58 00 00 00 02 00 00 00 14 00 00 00 24 00 00 00 38 00 00 00 20 00 00 00 01 00 00 00 14 00 00 00 06 00 00 00 1C 00 00 00 06 00 00 00 31 00 31 00 30 00 00 00 42 00 6F 00 62 00 00 00 02 00 00 00 14 00 00 00 06 00 00 00 1C 00 00 00 04 00 00 00 31 00 31 00 32 00 00 00 41 00 6C 00")

abbrev pub delete_one : List ℕ
delete_one = hex (codes "03 00 00 00 38 00 00 00 02 00 00 00 01 00 00 00 00 00 00 00 4B F3 84 76 1E 6A 41 DB B1 D8 BE D2 89 C2 5B DB 03 00 00 00 01 00 00 00 08 00 00 00 01 00 00 00 01 00 00 00")

abbrev pub one_deleted : List ℕ
one_deleted = hex (codes "03 00 00 80 30 00 00 00 02 00 00 00 01 00 00 00 00 00 00 00 4B F3 84 76 1E 6A 41 DB B1 D8 BE D2 89 C2 5B DB 03 00 00 00 00 00 00 00 00 00 00 00")

-- the least place that isn't used, and a place that is named
abbrev pub write_unused : List ℕ
write_unused = hex (codes "03 00 00 00 50 00 00 00 02 00 00 00 01 00 00 00 00 00 00 00 4B F3 84 76 1E 6A 41 DB B1 D8 BE D2 89 C2 5B DB 04 00 00 00 01 00 00 00 20 00 00 00 00 00 00 00 00 00 00 00 18 00 00 00 02 00 00 00 1C 00 00 00 02 00 00 00 37 00 00 00 43 00 00 00")

abbrev pub write_third : List ℕ
write_third = hex (codes "03 00 00 00 50 00 00 00 02 00 00 00 01 00 00 00 00 00 00 00 4B F3 84 76 1E 6A 41 DB B1 D8 BE D2 89 C2 5B DB 04 00 00 00 01 00 00 00 20 00 00 00 01 00 00 00 03 00 00 00 18 00 00 00 02 00 00 00 1C 00 00 00 02 00 00 00 37 00 00 00 43 00 00 00")

abbrev pub write_beyond : List ℕ
write_beyond = hex (codes "03 00 00 00 50 00 00 00 02 00 00 00 01 00 00 00 00 00 00 00 4B F3 84 76 1E 6A 41 DB B1 D8 BE D2 89 C2 5B DB 04 00 00 00 01 00 00 00 20 00 00 00 01 00 00 00 65 00 00 00 18 00 00 00 02 00 00 00 1C 00 00 00 02 00 00 00 37 00 00 00 43 00 00 00")

abbrev pub written : List ℕ
written = hex (codes "03 00 00 80 30 00 00 00 02 00 00 00 01 00 00 00 00 00 00 00 4B F3 84 76 1E 6A 41 DB B1 D8 BE D2 89 C2 5B DB 04 00 00 00 00 00 00 00 00 00 00 00")

abbrev pub not_written : List ℕ
not_written = hex (codes "03 00 00 80 30 00 00 00 02 00 00 00 01 00 00 00 00 00 00 00 4B F3 84 76 1E 6A 41 DB B1 D8 BE D2 89 C2 5B DB 04 00 00 00 15 00 00 00 00 00 00 00")

abbrev pub has_least : List ℕ
has_least = hex (codes "03 00 00 80 80 00 00 00 02 00 00 00 01 00 00 00 00 00 00 00 4B F3 84 76 1E 6A 41 DB B1 D8 BE D2 89 C2 5B DB 02 00 00 00 00 00 00 00 50 00 00 00 02 00 00 00 14 00 00 00 1C 00 00 00 30 00 00 00 20 00 00 00 01 00 00 00 14 00 00 00 02 00 00 00 18 00 00 00 02 00 00 00 37 00 00 00 43 00 00 00 02 00 00 00 14 00 00 00 06 00 00 00 1C 00 00 00 04 00 00 00 31 00 31 00 32 00 00 00 41 00 6C 00")

abbrev pub has_third : List ℕ
has_third = hex (codes "03 00 00 80 AC 00 00 00 02 00 00 00 01 00 00 00 00 00 00 00 4B F3 84 76 1E 6A 41 DB B1 D8 BE D2 89 C2 5B DB 02 00 00 00 00 00 00 00 7C 00 00 00 03 00 00 00 1C 00 00 00 24 00 00 00 40 00 00 00 20 00 00 00 60 00 00 00 1C 00 00 00 01 00 00 00 14 00 00 00 06 00 00 00 1C 00 00 00 06 00 00 00 31 00 31 00 30 00 00 00 42 00 6F 00 62 00 00 00 02 00 00 00 14 00 00 00 06 00 00 00 1C 00 00 00 04 00 00 00 31 00 31 00 32 00 00 00 41 00 6C 00 03 00 00 00 14 00 00 00 02 00 00 00 18 00 00 00 02 00 00 00 37 00 00 00 43 00 00 00")

-- session 7
abbrev pub connect : List ℕ
connect = hex (codes "03 00 00 00 6C 00 00 00 02 00 00 00 01 00 00 00 00 00 00 00 A2 89 CC 33 BC BB 8B 4F B6 B0 13 3E C2 AA E6 DF 0C 00 00 00 01 00 00 00 3C 00 00 00 07 00 00 00 01 00 00 00 00 00 00 00 00 00 00 00 00 00 00 00 00 00 00 00 00 00 00 00 00 00 00 00 00 00 00 00 00 00 00 00 01 00 00 00 00 00 00 00 00 00 00 00 00 00 00 00 00 00 00 00")

abbrev pub disconnect : List ℕ
disconnect = hex (codes "03 00 00 00 6C 00 00 00 02 00 00 00 01 00 00 00 00 00 00 00 A2 89 CC 33 BC BB 8B 4F B6 B0 13 3E C2 AA E6 DF 0C 00 00 00 01 00 00 00 3C 00 00 00 07 00 00 00 00 00 00 00 00 00 00 00 00 00 00 00 00 00 00 00 00 00 00 00 00 00 00 00 00 00 00 00 00 00 00 00 00 00 00 00 01 00 00 00 00 00 00 00 00 00 00 00 00 00 00 00 00 00 00 00")

abbrev pub query_session : List ℕ
query_session = hex (codes "03 00 00 00 54 00 00 00 02 00 00 00 01 00 00 00 00 00 00 00 A2 89 CC 33 BC BB 8B 4F B6 B0 13 3E C2 AA E6 DF 0C 00 00 00 00 00 00 00 24 00 00 00 07 00 00 00 00 00 00 00 00 00 00 00 00 00 00 00 00 00 00 00 00 00 00 00 00 00 00 00 00 00 00 00 00 00 00 00")

abbrev pub connected : List ℕ
connected = hex (codes "03 00 00 80 54 00 00 00 02 00 00 00 01 00 00 00 00 00 00 00 A2 89 CC 33 BC BB 8B 4F B6 B0 13 3E C2 AA E6 DF 0C 00 00 00 00 00 00 00 24 00 00 00 07 00 00 00 01 00 00 00 00 00 00 00 00 00 00 00 00 00 00 00 00 00 00 00 00 00 00 00 00 00 00 00 00 00 00 00")

abbrev pub disconnected : List ℕ
disconnected = hex (codes "03 00 00 80 54 00 00 00 02 00 00 00 01 00 00 00 00 00 00 00 A2 89 CC 33 BC BB 8B 4F B6 B0 13 3E C2 AA E6 DF 0C 00 00 00 00 00 00 00 24 00 00 00 07 00 00 00 03 00 00 00 00 00 00 00 00 00 00 00 00 00 00 00 00 00 00 00 00 00 00 00 00 00 00 00 00 00 00 00")

abbrev pub query_addresses : List ℕ
query_addresses = hex (codes "03 00 00 00 6C 00 00 00 02 00 00 00 01 00 00 00 00 00 00 00 A2 89 CC 33 BC BB 8B 4F B6 B0 13 3E C2 AA E6 DF 0F 00 00 00 00 00 00 00 3C 00 00 00 07 00 00 00 00 00 00 00 00 00 00 00 00 00 00 00 00 00 00 00 00 00 00 00 00 00 00 00 00 00 00 00 00 00 00 00 00 00 00 00 00 00 00 00 00 00 00 00 00 00 00 00 00 00 00 00 00 00 00 00")

abbrev pub addresses : List ℕ
addresses = hex (codes "03 00 00 80 7C 00 00 00 02 00 00 00 01 00 00 00 00 00 00 00 A2 89 CC 33 BC BB 8B 4F B6 B0 13 3E C2 AA E6 DF 0F 00 00 00 00 00 00 00 4C 00 00 00 07 00 00 00 00 00 00 00 00 00 00 00 01 00 00 00 3C 00 00 00 00 00 00 00 00 00 00 00 44 00 00 00 00 00 00 00 01 00 00 00 48 00 00 00 00 00 00 00 00 00 00 00 DC 05 00 00 00 00 00 00 18 00 00 00 0A 00 00 02 0A 00 00 01 0A 00 00 01")

-- the provider, with the id 00101
abbrev pub query_home : List ℕ
query_home = hex (codes "03 00 00 00 30 00 00 00 02 00 00 00 01 00 00 00 00 00 00 00 A2 89 CC 33 BC BB 8B 4F B6 B0 13 3E C2 AA E6 DF 06 00 00 00 00 00 00 00 00 00 00 00")

abbrev pub home : List ℕ
home = hex (codes "03 00 00 80 74 00 00 00 02 00 00 00 01 00 00 00 00 00 00 00 A2 89 CC 33 BC BB 8B 4F B6 B0 13 3E C2 AA E6 DF 06 00 00 00 00 00 00 00 44 00 00 00 20 00 00 00 0A 00 00 00 00 00 00 00 2C 00 00 00 16 00 00 00 00 00 00 00 14 00 00 00 00 00 00 00 30 00 30 00 31 00 30 00 31 00 00 00 45 00 78 00 61 00 6D 00 70 00 6C 00 65 00 20 00 4E 00 65 00 74 00 00 00")

-- a dialogue with the network
abbrev pub exchange : List ℕ
exchange = hex (codes "03 00 00 00 44 00 00 00 02 00 00 00 01 00 00 00 00 00 00 00 E5 50 A0 C8 5E 82 47 9E 82 F7 10 AB F4 C3 35 1F 01 00 00 00 01 00 00 00 14 00 00 00 00 00 00 00 0F 00 00 00 10 00 00 00 03 00 00 00 AA 18 0C 00")

abbrev pub exchanged : List ℕ
exchanged = hex (codes "03 00 00 80 48 00 00 00 02 00 00 00 01 00 00 00 00 00 00 00 E5 50 A0 C8 5E 82 47 9E 82 F7 10 AB F4 C3 35 1F 01 00 00 00 00 00 00 00 18 00 00 00 00 00 00 00 00 00 00 00 0F 00 00 00 14 00 00 00 03 00 00 00 AA 18 0C 00")
