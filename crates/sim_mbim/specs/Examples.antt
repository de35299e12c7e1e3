-- Worked examples of answers, byte for byte. Past messages have the newest first.
use Rattle.std.specs.Prelude.{◌≡◌, ℕ, List, [], ◌∷◌, ◌++◌, replicate, chars, codes}
use Prim.Native.String.{String}
use Rattle.modem_profile.specs.Profile.{Profile, default_profile}
use Rattle.sim_modem.specs.Sim.{answers}
use Rattle.sim_mbim.specs.Answers.{machine}
use Rattle.sim_mbim.specs.Messages.{open_1, opened_1, open_small, close_3, closed_3, query_caps, caps, small_caps, query_radio, radio_on, radio_off, switch_off, switch_on, switch_wrong, told_off, told_on, refused_radio, short_switch, wrong_length, query_unknown, unknown, set_caps, unset_caps, first_part, second_part, out_of_sequence, not_opened, mismatched, long_open, host_error, subscribe_none, has_none, subscribe_some, has_some, read_messages, has_messages, read_second, has_second, delete_first, deleted, not_deleted, read_first, not_read, read_wrong, read_book, has_two, delete_one, one_deleted, write_unused, write_third, write_beyond, written, not_written, has_least, has_third, connect, disconnect, query_session, connected, disconnected, query_addresses, addresses, query_home, home, exchange, exchanged}

-- ---- the modem ----

-- with two messages, and two entries in the phone book
abbrev pub profile : Profile
profile = record default_profile {
  sms = (1 ∷ 2 ∷ 3 ∷ []) ∷ [] ∷ [];
  phonebook = record { number = codes "110"; name = codes "Bob" } ∷ record { number = codes "112"; name = codes "Al" } ∷ [];
}

-- with a full phone book
abbrev pub full : Profile
full = record profile { phonebook = replicate 100 (record { number = codes "1"; name = codes "A" }) }

-- the modem was opened, and these messages came behind, the newest first
abbrev pub behind : List (List ℕ) → List (List ℕ)
behind past = past ++ open_1 ∷ []

abbrev pub Answers : List (List ℕ) → (message answer : List ℕ) → Type 0
Answers past message answer = answers (machine profile) (behind past) message ≡ answer

-- ---- opening ----

pub record OpeningComesFirst : Type 0 where
  pub opens : answers (machine profile) [] open_1 ≡ opened_1
  pub before : answers (machine profile) [] query_radio ≡ not_opened
  pub behind : Answers [] query_radio radio_on
  pub closes : Answers [] close_3 closed_3
  pub stays_open : Answers (close_3 ∷ []) query_radio radio_on
  pub long : Answers [] long_open mismatched
  pub other : Answers [] host_error []

-- ---- what is refused ----

pub record CommandsAreRefused : Type 0 where
  pub no_command : Answers [] query_unknown unknown
  pub no_set : Answers [] set_caps unset_caps
  pub short : Answers [] short_switch refused_radio
  pub wrong : Answers [] switch_wrong refused_radio
  pub unchanged : Answers (switch_wrong ∷ []) query_radio radio_on
  pub length : Answers [] wrong_length mismatched
  pub length_before : answers (machine profile) [] wrong_length ≡ mismatched

-- ---- fragments ----

pub record FragmentsAreJoined : Type 0 where
  pub first : Answers [] first_part []
  pub second : Answers (first_part ∷ []) second_part radio_on
  pub alone : Answers [] second_part out_of_sequence
  pub twice : Answers (first_part ∷ []) first_part out_of_sequence
  pub between : Answers (query_radio ∷ first_part ∷ []) second_part out_of_sequence
  pub before : answers (machine profile) (first_part ∷ []) second_part ≡ not_opened
  pub small : answers (machine profile) (open_small ∷ []) query_caps ≡ small_caps

-- ---- the device ----

pub record DeviceIsDescribed : Type 0 where
  pub caps_are : Answers [] query_caps caps
  pub home_is : Answers [] query_home home

-- ---- the radio ----

pub record RadioIsTold : Type 0 where
  pub off : Answers [] switch_off (radio_off ++ told_off)
  pub is_off : Answers (switch_off ∷ []) query_radio radio_off
  pub on : Answers (switch_off ∷ []) switch_on (radio_on ++ told_on)
  pub same : Answers [] switch_on (radio_on ++ told_on)
  pub none : Answers [] subscribe_none has_none
  pub unheard : Answers (subscribe_none ∷ []) switch_off radio_off
  pub some : Answers [] subscribe_some has_some
  pub heard : Answers (subscribe_some ∷ []) switch_off (radio_off ++ told_off)

-- ---- sessions ----

pub record SessionsAreKept : Type 0 where
  pub at_first : Answers [] query_session disconnected
  pub connects : Answers [] connect connected
  pub is_connected : Answers (connect ∷ []) query_session connected
  pub disconnects : Answers (connect ∷ []) disconnect disconnected
  pub is_disconnected : Answers (disconnect ∷ connect ∷ []) query_session disconnected
  pub addresses_are : Answers [] query_addresses addresses

-- ---- messages ----

pub record MessagesDontMove : Type 0 where
  pub all : Answers [] read_messages has_messages
  pub deletes : Answers [] delete_first deleted
  pub left : Answers (delete_first ∷ []) read_messages has_second
  pub one : Answers (delete_first ∷ []) read_second has_second
  pub gone : Answers (delete_first ∷ []) read_first not_read
  pub again : Answers (delete_first ∷ []) delete_first not_deleted
  pub format : Answers [] read_wrong not_read

-- ---- the phone book ----

pub record EntriesFindPlaces : Type 0 where
  pub all : Answers [] read_book has_two
  pub deletes : Answers [] delete_one one_deleted
  pub writes : Answers (delete_one ∷ []) write_unused written
  pub least : Answers (write_unused ∷ delete_one ∷ []) read_book has_least
  pub third : Answers (write_unused ∷ []) read_book has_third
  pub named : Answers (write_third ∷ []) read_book has_third
  pub beyond : Answers [] write_beyond not_written
  pub full_book : answers (machine full) (open_1 ∷ []) write_unused ≡ not_written
  pub over : answers (machine full) (open_1 ∷ []) write_third ≡ written

-- ---- a dialogue ----

abbrev pub DialogueComesBack : Type 0
DialogueComesBack = Answers [] exchange exchanged
