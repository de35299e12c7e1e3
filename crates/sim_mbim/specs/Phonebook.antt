-- What the modem answers to the commands of the service Phonebook.
-- Source: the USB-IF MBIM specification 1.0, section 10.8. How long a text may be is this modem's own.
use Rattle.std.specs.Prelude.{ℕ, ◌+◌, ◌*◌, ◌==◌, nat_le, nat_lt, Bool, ◌&&◌, ◌||◌, List, [], ◌∷◌, length, position, is_none, Option, Some, None, option_map, option_and_then, if◌then◌else◌}
use Rattle.mbim_fields.specs.Value.{Value, number, text_of}
use Rattle.mbim_services.specs.Table as table
use Rattle.modem_profile.specs.declared.phonebook.PhonebookEntry.{PhonebookEntry}
use Rattle.modem_profile.specs.Limits.{is_phonebook_text}
use Rattle.sim_mbim.specs.Values.{number_at, text_at, zeros, count_of, list, structure}
use Rattle.sim_mbim.specs.Places.{values_asked, with_item, without}
use Rattle.sim_mbim.specs.Modem.{Modem, Outcome, becomes}

-- ---- reading ----

-- its index, its number and its name
abbrev pub entry : ℕ × PhonebookEntry → Value
entry e = structure (number e.0 ∷ text_of (e.1).number ∷ text_of (e.1).name ∷ [])

abbrev pub list_of : (entries : List Value) → List Value
list_of entries = count_of entries ∷ list entries ∷ []

abbrev pub read : (flag index : ℕ) → Modem → Option (List Value)
read flag index m = option_map list_of (values_asked entry flag index m.entries)

abbrev pub delete : (flag index : ℕ) → Modem → Option Outcome
delete flag index m = option_and_then (λ left. becomes (record m { entries = left }) []) (without flag index m.entries)

-- ---- writing ----

-- MBIM_PHONEBOOK_WRITE_FLAG: MBIMPhonebookFlagSaveUnused and MBIMPhonebookFlagSaveIndex
abbrev pub save_unused : ℕ
save_unused = 0

abbrev pub save_index : ℕ
save_index = 1

-- the least index under which nothing is kept
abbrev pub unused : Modem → Option ℕ
unused m = option_map (λ place. place + 1) (position is_none m.entries)

-- the index under which an entry is to be kept, if there is such a place
abbrev pub index_for : (flag index : ℕ) → Modem → Option ℕ
index_for flag index m =
    if flag == save_unused then unused m
    else if flag == save_index && nat_le 1 index && nat_le index (length m.entries) then Some index
    else None

abbrev pub write_entry : PhonebookEntry → (index : ℕ) → Modem → Option Outcome
write_entry e index m = becomes (record m { entries = with_item index (Some e) m.entries }) []

abbrev pub write : (flag index : ℕ) → PhonebookEntry → Modem → Option Outcome
write flag index e m = if is_phonebook_text e.number && is_phonebook_text e.name then option_and_then (λ place. write_entry e place m) (index_for flag index m) else None

-- ---- queries and sets ----

abbrev pub answer_to_query : (cid : ℕ) → List Value → Modem → Option (List Value)
answer_to_query cid asked m =
    if cid == table.phonebook_configuration.cid then Some (zeros 5)
    else if cid == table.phonebook_read.cid then read (number_at asked 0) (number_at asked 1) m
    else None

abbrev pub answer_to_set : (cid : ℕ) → List Value → Modem → Option Outcome
answer_to_set cid asked m =
    if cid == table.phonebook_delete.cid then delete (number_at asked 0) (number_at asked 1) m
    else if cid == table.phonebook_write.cid then write (number_at asked 0) (number_at asked 1) (record { number = text_at asked 2; name = text_at asked 3 }) m
    else None
