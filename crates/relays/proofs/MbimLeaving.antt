-- What a command leaves of a simulated modem: it stays open, and its messages are as long as they were.
use Rattle.std.proofs.Common.{◌≡◌, ℕ, Bool, true, false, ◌&&◌, ◌==◌, bytes_eq, if◌then◌else◌, List, [], Option, Some, None, IfSome, option_and_then, Ok, Err, refl}
use Rattle.mbim_frame.specs.declared.bodies.CommandHead.{CommandHead}
use Rattle.mbim_fields.specs.Layout.{Layout}
use Rattle.mbim_fields.specs.Value.{Value}
use Rattle.mbim_fields.specs.Reading.{Read, read}
use Rattle.mbim_services.specs.Table as table
use Rattle.mbim_services.specs.Table.{layout_for}
use Rattle.modem_profile.specs.Profile.{Profile}
use Rattle.modem_profile.specs.declared.phonebook.PhonebookEntry.{PhonebookEntry}
use Rattle.modem_profile.specs.Limits.{is_phonebook_text}
use Rattle.sim_mbim.specs.Values.{number_at, text_at}
use Rattle.sim_mbim.specs.Places.{without}
use Rattle.sim_mbim.specs.Modem.{Modem, Outcome, started, becomes, unchanged}
use Rattle.sim_mbim.specs.BasicConnect as basic_connect
use Rattle.sim_mbim.specs.Sms as sms
use Rattle.sim_mbim.specs.Ussd as ussd
use Rattle.sim_mbim.specs.Phonebook as phonebook
use Rattle.sim_mbim.specs.Commands.{answer_to_set, answer_to_query, outcome, replied, reply_to_values, reply_in, reply_to, way, is_list_set}

-- the fresh one once it was opened
abbrev pub opened_modem : Profile → Modem
opened_modem profile = record (started profile) { opened = true; longest = 4096 }

-- ---- what holds of whatever a command comes to ----

module _ (P : Outcome → Type 0) where
  pub by_test : (b : Bool) (x y : Option Outcome) → IfSome x P → IfSome y P → IfSome (if b then x else y) P
  by_test true x y one other = one
  by_test false x y one other = other

  pub by_option : {A : Type 0} (found : Option A) (next : A → Option Outcome) → ((x : A) → IfSome (next x) P) → IfSome (option_and_then next found) P
  by_option None next later = tt
  by_option (Some x) next later = later x

-- ---- what it leaves ----

module _ (m : Modem) where
  abbrev pub StaysOpen : Modem → Type 0
  StaysOpen now = (now.opened ≡ m.opened) × (now.longest ≡ m.longest)

  abbrev Stays : Outcome → Type 0
  Stays o = StaysOpen o.modem

  abbrev Leaves : Option Outcome → Type 0
  Leaves o = IfSome o Stays

  told_leaves : (told : Option (List Value)) → Leaves (unchanged m told)
  told_leaves None = tt
  told_leaves (Some values) = (refl, refl)

  -- ---- by service ----

  radio_leaves : (state : ℕ) → Leaves (basic_connect.set_radio state m)
  radio_leaves state = by_test Stays (state == 1) _ _ (refl, refl) (by_test Stays (state == 0) _ _ (refl, refl) tt)

  packet_leaves : (action : ℕ) → Leaves (basic_connect.set_packet_service action m)
  packet_leaves action = by_test Stays (action == 0) _ _ (refl, refl) (by_test Stays (action == 1) _ _ (refl, refl) tt)

  connect_leaves : (session command : ℕ) → Leaves (basic_connect.connect session command m)
  connect_leaves session command = by_test Stays (command == 1) _ _ (refl, refl) (by_test Stays (command == 0) _ _ (refl, refl) tt)

  basic_leaves : (cid : ℕ) (asked : List Value) → Leaves (basic_connect.answer_to_set cid asked m)
  basic_leaves cid asked =
      by_test Stays (cid == table.radio_state.cid) _ _ (radio_leaves (number_at asked 0))
      (by_test Stays (cid == table.packet_service.cid) _ _ (packet_leaves (number_at asked 0)) (by_test Stays (cid == table.connect.cid) _ _ (connect_leaves (number_at asked 0) (number_at asked 1)) tt))

  sms_leaves : (cid : ℕ) (asked : List Value) → Leaves (sms.answer_to_set cid asked m)
  sms_leaves cid asked = by_test Stays (cid == table.sms_delete.cid) _ _ (by_option Stays (without (number_at asked 0) (number_at asked 1) m.messages) (λ left. becomes (record m { messages = left }) []) (λ left. (refl, refl))) tt

  entry_leaves : (e : PhonebookEntry) (flag index : ℕ) → Leaves (phonebook.write flag index e m)
  entry_leaves e flag index =
      by_test Stays (is_phonebook_text e.number && is_phonebook_text e.name) _ _ (by_option Stays (phonebook.index_for flag index m) (λ place. phonebook.write_entry e place m) (λ place. (refl, refl))) tt

  phonebook_leaves : (cid : ℕ) (asked : List Value) → Leaves (phonebook.answer_to_set cid asked m)
  phonebook_leaves cid asked =
      by_test Stays (cid == table.phonebook_delete.cid) _ _ (by_option Stays (without (number_at asked 0) (number_at asked 1) m.entries) (λ left. becomes (record m { entries = left }) []) (λ left. (refl, refl)))
      (by_test Stays (cid == table.phonebook_write.cid) _ _ (entry_leaves (record { number = text_at asked 2; name = text_at asked 3 }) (number_at asked 0) (number_at asked 1)) tt)

  set_leaves : (service : List ℕ) (cid : ℕ) (asked : List Value) → Leaves (answer_to_set service cid asked m)
  set_leaves service cid asked =
      by_test Stays (bytes_eq service table.basic_connect) _ _ (basic_leaves cid asked)
      (by_test Stays (bytes_eq service table.sms) _ _ (sms_leaves cid asked)
      (by_test Stays (bytes_eq service table.ussd) _ _ (told_leaves (ussd.answer_to_set cid asked)) (by_test Stays (bytes_eq service table.phonebook) _ _ (phonebook_leaves cid asked) (refl, refl))))

  outcome_leaves : (head : CommandHead) (asked : List Value) → Leaves (outcome head asked m)
  outcome_leaves head asked = by_test Stays head.set _ _ (set_leaves head.uuid head.cid asked) (told_leaves (answer_to_query head.uuid head.cid asked m))

  -- ---- any command ----

  replied_leaves : (head : CommandHead) (o : Option Outcome) → Leaves o → StaysOpen (replied head m o).modem
  replied_leaves head None leaves = (refl, refl)
  replied_leaves head (Some o) leaves = leaves

  read_leaves : (head : CommandHead) (found : Read (List Value)) → StaysOpen (reply_to_values head m found).modem
  read_leaves head (Err fault) = (refl, refl)
  read_leaves head (Ok values) = replied_leaves head (outcome head values m) (outcome_leaves head values)

  laid_leaves : (head : CommandHead) (buffer : List ℕ) (found : Option Layout) → StaysOpen (reply_in head buffer m found).modem
  laid_leaves head buffer None = (refl, refl)
  laid_leaves head buffer (Some layout) = read_leaves head (read layout buffer)

  pub stays_open : (head : CommandHead) (buffer : List ℕ) → StaysOpen (reply_to head buffer m).modem
  stays_open head buffer = by (is_list_set head)
    where
      by : (is_list : Bool) → StaysOpen (if is_list then replied head m (basic_connect.set_list buffer m) else reply_in head buffer m (layout_for head.uuid head.cid (way head.set))).modem
      by true = replied_leaves head (basic_connect.set_list buffer m) (by_option Stays (basic_connect.list_taken buffer) (λ pairs. basic_connect.subscribe pairs m) (λ pairs. (refl, refl)))
      by false = laid_leaves head buffer (layout_for head.uuid head.cid (way head.set))
