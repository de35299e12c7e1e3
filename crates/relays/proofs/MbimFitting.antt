-- The answers of a fresh simulated modem fit a message in fragments.
use Rattle.std.proofs.Common.{◌≡◌, ℕ, zero, suc, ◌+◌, ◌-◌, ◌*◌, ◌/◌, ◌%◌, ◌≤◌, Bool, true, false, cond, ◌&&◌, ◌==◌, nat_lt, if◌then◌else◌, List, [], ◌∷◌, ◌++◌, length, map, flat_map, replicate, get_or, Option, Some, None, IfSome, option_map, option_and_then, unwrap_or, Ok, Err, refl, ap, sym, ◌∙◌, arith, subst, length-append}
use Rattle.std.specs.List.{AllByRecursion}
use Rattle.std.specs.Char.Escape.{encode_utf16}
use Rattle.std.proofs.lemmas.List.{length-map, length-replicate}
use Rattle.kit_bytes.specs.Utf16.{utf16_bytes}
use Rattle.kit_bytes.specs.Numbers.{u16_bytes}
use Rattle.kit_bytes.proofs.Spelling.{utf16_bytes-append}
use Rattle.mbim_frame.specs.declared.bodies.CommandHead.{CommandHead}
use Rattle.mbim_fields.specs.Layout.{structure, Layout}
use Rattle.mbim_fields.specs.Value.{Value, number, octets, list_of, values_of}
use Rattle.mbim_fields.specs.View.{layout_of}
use Rattle.mbim_fields.specs.Reading.{Read, read}
use Rattle.mbim_fields.specs.Canon.{rooms, canon}
use Rattle.mbim_fields.proofs.RoundTrip.{canon-stands}
use Rattle.mbim_fields.proofs.Agreement.{stand-read}
use Rattle.mbim_requests.specs.declared.MbimRequest.{MbimRequest}
use Rattle.mbim_requests.specs.declared.MbimRequest.TheVariants as request
use Rattle.mbim_services.specs.Table as table
use Rattle.mbim_services.specs.Table.{layout_for, layout_sent}
use Rattle.mbim_services.specs.declared.table.Way.TheVariants.{Done}
use Rattle.mbim_services.specs.Requests.{sent_by, IsInRange}
use Rattle.mbim_services.proofs.Encoded as requests
use Rattle.mbim_session.specs.Requests.{command_head, buffer_for}
use Rattle.modem_profile.specs.declared.phonebook.PhonebookEntry.{PhonebookEntry}
use Rattle.modem_profile.specs.Profile.{Profile}
use Rattle.modem_profile.specs.Limits.{is_phonebook_text, IsPhonebookEntry, IsWithin}
use Rattle.sim_mbim.specs.Values.{number_at, text_at}
use Rattle.sim_mbim.specs.Places.{kept_from, kept_at, asked, values_asked, without}
use Rattle.sim_mbim.specs.Modem.{Modem, Outcome, becomes, unchanged}
use Rattle.sim_mbim.specs.BasicConnect as basic_connect
use Rattle.sim_mbim.specs.BasicConnect.{provider_id, three_digits, two_digits}
use Rattle.sim_mbim.specs.Sms as sms
use Rattle.sim_mbim.specs.Phonebook as phonebook
use Rattle.sim_mbim.specs.Commands.{encoded, outcome, replied, reply_to_values, reply_in, reply_to, way}
use Rattle.relays.specs.MbimLaw.{IsCommand}
use Rattle.relays.proofs.MbimLengths.{most_each, most_item, most_fields, encoded_short}
use Rattle.relays.proofs.MbimLeaving.{opened_modem, by_test, by_option}

-- ---- what is kept in places ----

module _ {A : Type 0} (P : A → Type 0) where
  abbrev pub EachPlace : List (Option A) → Type 0
  EachPlace [] = Unit {0}
  EachPlace (place ∷ places) = IfSome place P × EachPlace places

  abbrev AreFew : List (ℕ × A) → Type 0
  AreFew kept = AllByRecursion (λ k. P k.1) kept × (length kept ≤ 100)

  kept_so : (index : ℕ) (places : List (Option A)) → EachPlace places → AllByRecursion (λ k. P k.1) (kept_from index places) × (length (kept_from index places) ≤ length places)
  kept_so index [] all = (tt, omega arith)
  kept_so index (None ∷ places) all = let rest = kept_so (index + 1) places all.1 in (rest.0, omega (arith, rest.1))
  kept_so index (Some x ∷ places) all = let rest = kept_so (index + 1) places all.1 in ((all.0, rest.0), omega (arith, rest.1))

  kept_one : (index : ℕ) (places : List (Option A)) → EachPlace places → IfSome (get_or places index None) P
  kept_one index [] all = tt
  kept_one zero (place ∷ places) all = all.0
  kept_one (suc index) (place ∷ places) all = kept_one index places all.1

  one_few : (index : ℕ) (found : Option A) → IfSome found P → IfSome (option_map (λ item. (index, item) ∷ []) found) AreFew
  one_few index None is = tt
  one_few index (Some x) is = ((is, tt), omega arith)

  at_few : (index : ℕ) (places : List (Option A)) → EachPlace places → IfSome (option_map (λ item. (index, item) ∷ []) (kept_at index places)) AreFew
  at_few zero places all = tt
  at_few (suc index) places all = one_few (suc index) (get_or places index None) (kept_one index places all)

  pub asked_few : (flag index : ℕ) (places : List (Option A)) → EachPlace places → length places ≤ 100 → IfSome (asked flag index places) AreFew
  asked_few flag index places all few = by (flag == 0) (flag == 1)
    where
      by : (b c : Bool) → IfSome (if b then Some (kept_from 1 places) else if c then option_map (λ item. (index, item) ∷ []) (kept_at index places) else None) AreFew
      by true c = let so = kept_so 1 places all in (so.0, omega (arith, so.1, few))
      by false true = at_few index places all
      by false false = tt

  pub some_places : (xs : List A) → AllByRecursion P xs → EachPlace (map Some xs)
  some_places [] all = tt
  some_places (x ∷ xs) all = (all.0, some_places xs all.1)

  no_places : (count : ℕ) → EachPlace (replicate count None)
  no_places zero = tt
  no_places (suc count) = (tt, no_places count)

  pub padded_places : (xs : List A) (count : ℕ) → AllByRecursion P xs → EachPlace (map Some xs ++ replicate count None)
  padded_places [] count all = no_places count
  padded_places (x ∷ xs) count all = (all.0, padded_places xs count all.1)

-- ---- texts ----

char_most : (char : ℕ) → length (utf16_bytes (char ∷ [])) ≤ 4
char_most char = by (nat_lt char 0x1_0000)
  where
    by : (low : Bool) → length (flat_map u16_bytes (cond low (char ∷ []) ((0xD800 + (char - 0x1_0000) / 0x400) ∷ (0xDC00 + (char - 0x1_0000) % 0x400) ∷ []) ++ [])) ≤ 4
    by true = omega arith
    by false = omega arith

text_most : (chars : List ℕ) → length (utf16_bytes chars) ≤ 4 * length chars
text_most [] = omega arith
text_most (char ∷ chars) = omega (arith, char_most char, text_most chars, ap length (utf16_bytes-append (char ∷ []) chars), length-append (utf16_bytes (char ∷ [])) (utf16_bytes chars))

units_length : (units : List ℕ) → length (flat_map u16_bytes units) ≡ 2 * length units
units_length [] = refl
units_length (unit ∷ units) = omega (arith, units_length units)

-- ---- what commands come to ----

module _ (profile : Profile) (within : IsWithin profile) where
  abbrev m : Modem
  m = opened_modem profile

  abbrev Fits : CommandHead → Outcome → Type 0
  Fits head o = length (encoded head o.values) ≤ 65508

  replied_fits : (head : CommandHead) (o : Option Outcome) → IfSome o (Fits head) → length (replied head m o).buffer ≤ 65508
  replied_fits head None fits = omega arith
  replied_fits head (Some o) fits = fits

  read_fits : (head : CommandHead) (found : Read (List Value)) → ((values : List Value) → IfSome (outcome head values m) (Fits head)) → length (reply_to_values head m found).buffer ≤ 65508
  read_fits head (Err fault) each_fits = omega arith
  read_fits head (Ok values) each_fits = replied_fits head (outcome head values m) (each_fits values)

  laid_fits : (head : CommandHead) (buffer : List ℕ) (found : Option Layout) → ((values : List Value) → IfSome (outcome head values m) (Fits head)) → length (reply_in head buffer m found).buffer ≤ 65508
  laid_fits head buffer None each_fits = omega arith
  laid_fits head buffer (Some layout) each_fits = read_fits head (read layout buffer) each_fits

  told_fits : (head : CommandHead) (told : Option (List Value)) → IfSome told (λ values. length (encoded head values) ≤ 65508) → IfSome (unchanged m told) (Fits head)
  told_fits head None fits = tt
  told_fits head (Some values) fits = fits

  by_bound : (layout : Layout) (values : List Value) → rooms layout [] values + most_fields layout values ≤ 65508 → length (unwrap_or (canon layout values) []) ≤ 65508
  by_bound layout values few = omega (arith, encoded_short layout values, few)

  -- what holds of the layout, where there is one
  abbrev HasRoom : Option Layout → List Value → Type 0
  HasRoom found values = IfSome found (λ layout. rooms layout [] values + most_fields layout values ≤ 65508)

  room_fits : (found : Option Layout) (values : List Value) → HasRoom found values → length (unwrap_or (option_and_then (λ layout. canon layout values) found) []) ≤ 65508
  room_fits None values few = omega arith
  room_fits (Some layout) values few = by_bound layout values few

  outcome_fits : (head : CommandHead) (o : Option Outcome) → IfSome o (λ o. HasRoom (layout_for head.uuid head.cid Done) o.values) → IfSome o (Fits head)
  outcome_fits head None few = tt
  outcome_fits head (Some o) few = room_fits (layout_for head.uuid head.cid Done) o.values few

  -- ---- lists of messages and entries ----

  messages_most : (kept : List (ℕ × List ℕ)) → AllByRecursion (λ k. length k.1 ≤ 255) kept → most_each (most_item (structure (layout_of table.sms_message))) (list_of (values_of (map sms.message kept))) ≤ 300 * length kept
  messages_most [] all = omega arith
  messages_most (k ∷ kept) all = omega (arith, all.0, messages_most kept all.1)

  entries_most : (kept : List (ℕ × PhonebookEntry)) → AllByRecursion (λ k. IsPhonebookEntry k.1) kept → most_each (most_item (structure (layout_of table.phonebook_entry))) (list_of (values_of (map phonebook.entry kept))) ≤ 500 * length kept
  entries_most [] all = omega arith
  entries_most (k ∷ kept) all = omega (arith, all.0.0, all.0.1, units_length (flat_map encode_utf16 (k.1).number), units_length (flat_map encode_utf16 (k.1).name), entries_most kept all.1)

  abbrev sms_head : CommandHead
  sms_head = command_head request.SmsReadAll

  abbrev phonebook_head : CommandHead
  phonebook_head = command_head request.PhonebookReadAll

  messages_fit : (found : Option (List (ℕ × List ℕ))) → IfSome found (λ kept. AllByRecursion (λ k. length k.1 ≤ 255) kept × (length kept ≤ 100))
      → IfSome (option_map sms.list_of (option_map (map sms.message) found)) (λ values. length (encoded sms_head values) ≤ 65508)
  unfolding layout_for
  messages_fit None few = tt
  messages_fit (Some kept) few = by_bound table.sms_read.done (sms.list_of (map sms.message kept)) (omega (arith, few.1, length-map kept sms.message, messages_most kept few.0))

  entries_fit : (found : Option (List (ℕ × PhonebookEntry))) → IfSome found (λ kept. AllByRecursion (λ k. IsPhonebookEntry k.1) kept × (length kept ≤ 100))
      → IfSome (option_map phonebook.list_of (option_map (map phonebook.entry) found)) (λ values. length (encoded phonebook_head values) ≤ 65508)
  unfolding layout_for
  entries_fit None few = tt
  entries_fit (Some kept) few = by_bound table.phonebook_read.done (phonebook.list_of (map phonebook.entry kept)) (omega (arith, few.1, length-map kept phonebook.entry, entries_most kept few.0))

  reads_messages : (format flag index : ℕ) → IfSome (sms.read format flag index m) (λ values. length (encoded sms_head values) ≤ 65508)
  reads_messages format flag index = by (format == 0)
    where
      by : (b : Bool) → IfSome (if b then option_map sms.list_of (values_asked sms.message flag index m.messages) else None) (λ values. length (encoded sms_head values) ≤ 65508)
      by true =
          messages_fit (asked flag index m.messages)
          (asked_few (λ pdu. length pdu ≤ 255) flag index m.messages (some_places (λ pdu. length pdu ≤ 255) profile.sms within.sms) (omega (arith, length-map profile.sms Some, within.sms_count)))
      by false = tt

  reads_entries : (flag index : ℕ) → IfSome (phonebook.read flag index m) (λ values. length (encoded phonebook_head values) ≤ 65508)
  reads_entries flag index =
      let places : List (Option PhonebookEntry) = m.entries in
      let count : length (map Some profile.phonebook ++ replicate (100 - length profile.phonebook) None) ≤ 100 =
      omega (arith, length-append (map Some profile.phonebook) (replicate (100 - length profile.phonebook) None), length-map profile.phonebook Some, length-replicate {A = Option PhonebookEntry} (100 - length profile.phonebook) None, within.phonebook_count)
      in
      entries_fit (asked flag index m.entries) (asked_few IsPhonebookEntry flag index m.entries (padded_places IsPhonebookEntry profile.phonebook (100 - length profile.phonebook) within.phonebook) count)

  -- ---- every request ----

  provider_short : length (provider_id profile) ≤ 6
  provider_short = by (nat_lt 99 profile.mnc)
    where
      by : (three : Bool) → length (three_digits profile.mcc ++ (if three then three_digits profile.mnc else two_digits profile.mnc)) ≤ 6
      by true = omega arith
      by false = omega arith

  -- what a command that names its payload comes to
  abbrev exchanged : (scheme : ℕ) (payload : List ℕ) → List Value
  exchanged scheme payload = number 0 ∷ number 0 ∷ number scheme ∷ octets payload ∷ []

  ussd_fits : (scheme : ℕ) (payload : List ℕ) → length payload ≤ 255 → length (encoded (command_head request.UssdCancel) (exchanged scheme payload)) ≤ 65508
  unfolding layout_for
  ussd_fits scheme payload short = by_bound table.ussd_exchange.done (exchanged scheme payload) (omega (arith, short))

  abbrev ussd_layout : Layout
  ussd_layout = unwrap_or table.ussd_exchange.set table.ussd_exchange.done

  -- its buffer reads as its values
  reads_back : (r : MbimRequest) (range : IsInRange r) (layout : Layout) → layout_sent (sent_by r).row (sent_by r).set ≡ Some layout → read layout (buffer_for r) ≡ Ok (sent_by r).values
  reads_back r range layout is =
      let e = requests.encoded r range in
      let sent : canon layout (sent_by r).values ≡ Some e.0 = ap (λ (l : Option Layout). option_and_then (λ layout. canon layout (sent_by r).values) l) (sym is) ∙ e.1 in
      ap (λ (o : Option (List ℕ)). read layout (unwrap_or o [])) e.1 ∙ stand-read layout (sent_by r).values e.0 (canon-stands layout (sent_by r).values e.0 sent)

  ussd_answered : (r : MbimRequest) (range : IsInRange r) (layout : Layout) → layout_sent (sent_by r).row (sent_by r).set ≡ Some layout → length (replied (command_head r) m (outcome (command_head r) (sent_by r).values m)).buffer ≤ 65508
      → length (reply_to_values (command_head r) m (read layout (buffer_for r))).buffer ≤ 65508
  ussd_answered r range layout is fits = subst (λ (found : Read (List Value)). length (reply_to_values (command_head r) m found).buffer ≤ 65508) (sym (reads_back r range layout is)) fits

  radio_fits : (on : Bool) (state : ℕ) → IfSome (basic_connect.set_radio state m) (Fits (command_head (request.SetRadioState on)))
  unfolding layout_for
  radio_fits on state =
      by_test (Fits (command_head (request.SetRadioState on))) (state == 1) _ _ (by_bound table.radio_state.done (number 1 ∷ number 1 ∷ []) (omega arith))
      (by_test (Fits (command_head (request.SetRadioState on))) (state == 0) _ _ (by_bound table.radio_state.done (number 1 ∷ number 0 ∷ []) (omega arith)) tt)

  packet_fits : (action : ℕ) → IfSome (basic_connect.set_packet_service action m) (Fits (command_head request.AttachPacketService))
  unfolding layout_for
  packet_fits action =
      by_test (Fits (command_head request.AttachPacketService)) (action == 0) _ _ (by_bound table.packet_service.done (basic_connect.packet_service (basic_connect.with_packet_service true m)) (omega arith))
      (by_test (Fits (command_head request.AttachPacketService)) (action == 1) _ _ (by_bound table.packet_service.done (basic_connect.packet_service (basic_connect.with_packet_service false m)) (omega arith)) tt)

  abbrev connect_head : CommandHead
  connect_head = command_head (request.Disconnect 0)

  connect_fits : (session command : ℕ) → IfSome (basic_connect.connect session command m) (Fits connect_head)
  unfolding layout_for
  connect_fits session command =
      by_test (Fits connect_head) (command == 1) _ _ (by_bound table.connect.done (basic_connect.connection session (basic_connect.connected session m)) (omega arith))
      (by_test (Fits connect_head) (command == 0) _ _ (by_bound table.connect.done (basic_connect.connection session (basic_connect.disconnected session m)) (omega arith)) tt)

  abbrev providers_head : CommandHead
  providers_head = command_head request.QueryVisibleProviders

  providers_fit : (action : ℕ) → IfSome (unchanged m (basic_connect.visible_providers action m)) (Fits providers_head)
  unfolding layout_for
  providers_fit action = by (action == 0)
    where
      by : (b : Bool) → IfSome (unchanged m (if b then Some (basic_connect.providers profile) else None)) (Fits providers_head)
      by true = by_bound table.visible_providers.done (basic_connect.providers profile) (omega (arith, text_most (provider_id profile), provider_short, text_most profile.operator, within.operator.short))
      by false = tt

  abbrev write_head : CommandHead
  write_head = command_head (request.PhonebookDelete 0)

  write_fits : (e : PhonebookEntry) (flag index : ℕ) → IfSome (phonebook.write flag index e m) (λ o. length (encoded (record write_head { cid = table.phonebook_write.cid }) o.values) ≤ 65508)
  unfolding layout_for
  write_fits e flag index =
      by_test (λ o. length (encoded (record write_head { cid = table.phonebook_write.cid }) o.values) ≤ 65508) (is_phonebook_text e.number && is_phonebook_text e.name) _ _
      (by_option (λ o. length (encoded (record write_head { cid = table.phonebook_write.cid }) o.values) ≤ 65508) (phonebook.index_for flag index m) (λ place. phonebook.write_entry e place m) (λ place. by_bound table.phonebook_write.done [] (omega arith))) tt

  abbrev Answer : MbimRequest → Type 0
  Answer r = length (reply_to (command_head r) (buffer_for r) m).buffer ≤ 65508

  -- the layout is found, and the values are of any reading
  answered : (r : MbimRequest) → ((values : List Value) → IfSome (outcome (command_head r) values m) (Fits (command_head r))) → length (reply_in (command_head r) (buffer_for r) m (layout_for (command_head r).uuid (command_head r).cid (way (command_head r).set))).buffer ≤ 65508
  answered r each_fits = laid_fits (command_head r) (buffer_for r) (layout_for (command_head r).uuid (command_head r).cid (way (command_head r).set)) each_fits

  pub answers_fit : (r : MbimRequest) → IsCommand r → IsInRange r → Answer r
  unfolding layout_for
  answers_fit request.QueryDeviceCaps is range = answered request.QueryDeviceCaps (λ values. by_bound table.device_caps.done (basic_connect.device_caps profile) (omega (arith, text_most profile.imei, within.imei.short, text_most profile.revision, within.revision.short, text_most profile.model, within.model.short)))
  answers_fit request.QuerySubscriberReadyStatus is range = answered request.QuerySubscriberReadyStatus (λ values. by_bound table.subscriber_ready.done (basic_connect.subscriber_ready profile) (omega (arith, text_most profile.msisdn, within.msisdn.short)))
  answers_fit (request.SetRadioState on) is range = answered (request.SetRadioState on) (λ values. radio_fits on (number_at values 0))
  answers_fit request.QueryHomeProvider is range = answered request.QueryHomeProvider (λ values. by_bound table.home_provider.done (basic_connect.provider profile) (omega (arith, text_most (provider_id profile), provider_short, text_most profile.operator, within.operator.short)))
  answers_fit request.QueryVisibleProviders is range = answered request.QueryVisibleProviders (λ values. providers_fit (number_at values 0))
  answers_fit request.AttachPacketService is range = answered request.AttachPacketService (λ values. packet_fits (number_at values 0))
  answers_fit request.DetachPacketService is range = answered request.DetachPacketService (λ values. packet_fits (number_at values 0))
  answers_fit (request.Connect session access username password ip_type) is range = answered (request.Connect session access username password ip_type) (λ values. connect_fits (number_at values 0) (number_at values 1))
  answers_fit (request.Disconnect session) is range = answered (request.Disconnect session) (λ values. connect_fits (number_at values 0) (number_at values 1))
  answers_fit (request.QueryConnectionState session) is range = answered (request.QueryConnectionState session) (λ values. by_bound table.connect.done (basic_connect.connection (number_at values 0) m) (omega arith))
  answers_fit (request.QueryIpConfiguration session) is range = answered (request.QueryIpConfiguration session) (λ values. by_bound table.ip_configuration.done (basic_connect.ip_configuration (number_at values 0)) (omega arith))
  answers_fit request.SmsReadAll is range = answered request.SmsReadAll (λ values. told_fits sms_head (sms.read (number_at values 0) (number_at values 1) (number_at values 2) m) (reads_messages (number_at values 0) (number_at values 1) (number_at values 2)))
  answers_fit (request.SmsRead index) is range = answered (request.SmsRead index) (λ values. told_fits sms_head (sms.read (number_at values 0) (number_at values 1) (number_at values 2) m) (reads_messages (number_at values 0) (number_at values 1) (number_at values 2)))
  answers_fit (request.SmsDelete index) is range = answered (request.SmsDelete index) (λ values. by_option (Fits (command_head (request.SmsDelete index))) (without (number_at values 0) (number_at values 1) m.messages) (λ left. becomes (record m { messages = left }) []) (λ left. by_bound table.sms_delete.done [] (omega arith)))
  answers_fit (request.UssdInitiate scheme payload) is range = ussd_answered (request.UssdInitiate scheme payload) range ussd_layout refl (ussd_fits scheme payload range.1)
  answers_fit (request.UssdContinue scheme payload) is range = ussd_answered (request.UssdContinue scheme payload) range ussd_layout refl (ussd_fits scheme payload range.1)
  answers_fit request.UssdCancel is range = ussd_answered request.UssdCancel range ussd_layout refl (ussd_fits 0 [] (omega arith))
  answers_fit request.PhonebookReadAll is range = answered request.PhonebookReadAll (λ values. told_fits phonebook_head (phonebook.read (number_at values 0) (number_at values 1) m) (reads_entries (number_at values 0) (number_at values 1)))
  answers_fit (request.PhonebookRead index) is range = answered (request.PhonebookRead index) (λ values. told_fits phonebook_head (phonebook.read (number_at values 0) (number_at values 1) m) (reads_entries (number_at values 0) (number_at values 1)))
  answers_fit (request.PhonebookDelete index) is range = answered (request.PhonebookDelete index) (λ values. by_option (Fits (command_head (request.PhonebookDelete index))) (without (number_at values 0) (number_at values 1) m.entries) (λ left. becomes (record m { entries = left }) []) (λ left. by_bound table.phonebook_delete.done [] (omega arith)))
  answers_fit (request.PhonebookWrite name phone index) is range = answered (request.PhonebookWrite name phone index) (λ values. write_fits (record { number = text_at values 2; name = text_at values 3 }) (number_at values 0) (number_at values 1))
  answers_fit (request.ProxyConfiguration path) is range = absurd is
  -- the others are answered with numbers and with texts that don't change
  answers_fit body is range = answered body (λ values. outcome_fits (command_head body) (outcome (command_head body) values m) (omega arith))
