-- Every answer fits its message.
use Rattle.std.proofs.Common.{◌≡◌, ℕ, zero, suc, ◌+◌, ◌*◌, ◌<◌, ◌≤◌, Bool, true, false, nat_lt, List, [], ◌∷◌, ◌++◌, length, map, Option, Some, None, refl, sym, ap, subst, arith, length-append, append-nil, lit≤}
use Rattle.std.proofs.lemmas.Bool.{lt-ltb, leb-true}
use Rattle.std.specs.Cmp.Derive.{both_true}
use Rattle.std.specs.Prelude.{IsTrue, ◌&&◌, ◌==◌, ℤ, pos, negsuc, ◌≤ℤ◌, nat_le, if◌then◌else◌, slice_get, option_and_then}
use Rattle.std.specs.List.{AllByRecursion, list_all, flat_map, filter_map, enumerate_from, range_with_len}
use Rattle.std.proofs.lemmas.Int.{ints}
use Rattle.std.proofs.lemmas.Option.{same_Some}
use Rattle.std.specs.Prelude.{not}
use Rattle.qmi_shapes.specs.Form.{Form}
use Rattle.qmi_values.specs.Value.{Value, number, text, list_of, values_of}
use Rattle.tlv_values.specs.Spelling.{FitsTlv, fits, signed_fits, spelling}
use Rattle.qmi_services.specs.Table as table
use Rattle.qmi_services.specs.Table.{Output, Row}
use Rattle.qmi_services.proofs.Found.{find-holds}
use Rattle.modem_profile.specs.Profile.{Profile}
use Rattle.modem_profile.specs.Limits.{IsWithin}
use Rattle.sim_qmi.specs.declared.client_id.ClientId.{ClientId}
use Rattle.sim_qmi.specs.declared.request.Request.{Request}
use Rattle.sim_qmi.specs.declared.request.Request.TheVariants.{Ctl, Wds, Dms, Nas, Wms}
use Rattle.sim_qmi.specs.declared.ctl.CtlRequest.{CtlRequest}
use Rattle.sim_qmi.specs.declared.ctl.CtlRequest.TheVariants as ctl
use Rattle.sim_qmi.specs.declared.wds.WdsRequest.{WdsRequest}
use Rattle.sim_qmi.specs.declared.wds.WdsRequest.TheVariants as wds
use Rattle.sim_qmi.specs.declared.dms.DmsRequest.{DmsRequest}
use Rattle.sim_qmi.specs.declared.dms.DmsRequest.TheVariants as dms
use Rattle.sim_qmi.specs.declared.nas.NasRequest.{NasRequest}
use Rattle.sim_qmi.specs.declared.nas.NasRequest.TheVariants as nas
use Rattle.sim_qmi.specs.declared.wms.WmsRequest.{WmsRequest}
use Rattle.sim_qmi.specs.declared.wms.WmsRequest.TheVariants as wms
use Rattle.sim_qmi.specs.Ctl.{allocates, client_id, ctl_row, ctl_step, versions}
use Rattle.sim_qmi.specs.Dms.{capabilities, dms_row, dms_step}
use Rattle.sim_qmi.specs.Errors.{invalid_client_id}
use Rattle.sim_qmi.specs.Fits.{Fits, IsInRange}
use Rattle.sim_qmi.specs.Modem.{serves}
use Rattle.sim_qmi.specs.Nas.{drx, nas_row, nas_step, networks, plmn, serving_system, signal}
use Rattle.sim_qmi.specs.Requests.{row_of}
use Rattle.sim_qmi.specs.State.{IsSound, State, client_ids, free_id, is_given, is_stored, message_at, without_client}
use Rattle.sim_qmi.specs.Step.{refused, success}
use Rattle.sim_qmi.specs.Values.{address, number_after}
use Rattle.sim_qmi.specs.Wds.{connection, handle_after, rates, settings, wds_row, wds_step}
use Rattle.sim_qmi.proofs.Storage.{and_parts}
use Rattle.sim_qmi.specs.Wms.{deletes, listed, listing, raw, reads, wms_row, wms_step}

-- a success with one output
one : (output : Output) (value : Value) → IsTrue (fits output.tlv.form value) → length (spelling output.tlv.form value) ≤ 4000 → Fits (output ∷ []) (success (Some value ∷ []))
one output value of_form short =
    ((record { of_form = of_form; short = omega arith }, tt), simp length-append (omega arith))

-- one output of this form, whichever its type and its name are
abbrev of : (needed : Bool) (kind : ℕ) (name : List ℕ) (form : Form) → Output
of needed kind name form = record { needed = needed; tlv = record { kind = kind; name = name; form = form } }

-- the first output of a line
abbrev output_of : Row → Output
output_of row = elim row.output [ [] ↦ of false 0 [] table.u8 | ◌∷◌ output outputs ↦ output ]

abbrev name_of : Row → List ℕ
name_of row = (output_of row).tlv.name

-- ---- CTL ----

pub versions_fit : Fits table.get_version_info.output (success (Some versions ∷ []))
versions_fit = one (output_of table.get_version_info) versions refl (lit≤ tt)

client_id_fits : (needed : Bool) (name : List ℕ) (service id : ℕ) → service < 256 → id < 256 → Fits (of needed 0x01 name table.client_id ∷ []) (success (Some (client_id service id) ∷ []))
client_id_fits needed name service id service_below id_below =
    one (of needed 0x01 name table.client_id) (client_id service id) (both_true (lt-ltb service 256 service_below) (both_true (lt-ltb id 256 id_below) refl)) (lit≤ tt)

range_below : (first count : ℕ) → first + count ≤ 256 → AllByRecursion (λ (n : ℕ). n < 256) (range_with_len first count)
range_below first zero within = tt
range_below first (suc count) within = (omega arith, range_below (first + 1) count (omega arith))

ids_below : AllByRecursion (λ (n : ℕ). n < 256) client_ids
unfolding client_ids
ids_below = range_below 1 254 (lit≤ tt)

free_id_below : (clients : List ClientId) (service id : ℕ) → free_id clients service ≡ Some id → id < 256
free_id_below clients service id is = find-holds (λ (n : ℕ). n < 256) (λ n. not (is_given clients service n)) client_ids id ids_below is

allocation_fits : (state : State) (service : ℕ) (free : Option ℕ) → service < 256 → ((id : ℕ) → free ≡ Some id → id < 256) → Fits table.allocate.output (allocates state service free).answer
allocation_fits state service None service_below below = tt
allocation_fits state service (Some id) service_below below = client_id_fits true (name_of table.allocate) service id service_below (below id refl)

release_fits : (state : State) (service id : ℕ) (given : Bool) → service < 256 → id < 256
    → Fits table.release.output (if given then record { answer = success (Some (client_id service id) ∷ []); state = without_client state service id } else refused state invalid_client_id).answer
release_fits state service id true service_below id_below = client_id_fits false (name_of table.release) service id service_below id_below
release_fits state service id false service_below id_below = tt

ctl_fits : (state : State) (request : CtlRequest) → IsInRange (Ctl request) → Fits (ctl_row request).output (ctl_step state request).answer
ctl_fits state ctl.GetVersionInfo range = versions_fit
ctl_fits state (ctl.Allocate service) range = allocation_fits state service (free_id state.clients service) range (free_id_below state.clients service)
ctl_fits state (ctl.Release service id) range = release_fits state service id (is_given state.clients service id) range.0 range.1
ctl_fits state ctl.Sync range = (tt, lit≤ tt)
ctl_fits state ctl.ProxyOpen range = (tt, lit≤ tt)

-- ---- DMS ----

text_fits : (kind : ℕ) (name octets : List ℕ) → length octets ≤ 100 → Fits (of true kind name table.text ∷ []) (success (Some (text octets) ∷ []))
text_fits kind name octets short = one (of true kind name table.text) (text octets) refl (omega arith)

ids_fit : (imei : List ℕ) → length imei ≤ 100 → Fits table.get_ids.output (success (None ∷ Some (text imei) ∷ None ∷ []))
ids_fit imei short = ((tt, (record { of_form = refl; short = omega arith }, (tt, tt))), simp length-append (omega arith))

byte_fits : (kind : ℕ) (name : List ℕ) (byte : ℕ) → byte < 256 → Fits (of true kind name table.u8 ∷ []) (success (Some (number byte) ∷ []))
byte_fits kind name byte below = one (of true kind name table.u8) (number byte) (lt-ltb byte 256 below) (lit≤ tt)

dms_fits : (profile : Profile) (state : State) (request : DmsRequest) → IsWithin profile → IsSound state → Fits (dms_row request).output (dms_step profile state request).answer
dms_fits profile state dms.GetCapabilities within sound = one (output_of table.get_capabilities) capabilities refl (lit≤ tt)
dms_fits profile state dms.GetManufacturer within sound = text_fits 0x01 (name_of table.get_manufacturer) profile.manufacturer within.manufacturer.short
dms_fits profile state dms.GetModel within sound = text_fits 0x01 (name_of table.get_model) profile.model within.model.short
dms_fits profile state dms.GetRevision within sound = text_fits 0x01 (name_of table.get_revision) profile.revision within.revision.short
dms_fits profile state dms.GetMsisdn within sound = text_fits 0x01 (name_of table.get_msisdn) profile.msisdn within.msisdn.short
dms_fits profile state dms.GetIds within sound = ids_fit profile.imei within.imei.short
dms_fits profile state dms.GetOperatingMode within sound = byte_fits 0x01 (name_of table.get_operating_mode) state.mode sound.mode
dms_fits profile state (dms.SetOperatingMode mode) within sound = (tt, lit≤ tt)

-- ---- NAS ----

signal_of_form : (z : ℤ) → negsuc 127 ≤ℤ z → z ≤ℤ pos 0 → IsTrue (signed_fits 1 z)
signal_of_form (pos n) least most = lt-ltb n 128 (omega (arith, ints))
signal_of_form (negsuc n) least most = lt-ltb n 128 (omega (arith, ints))

signal_fits : (profile : Profile) → IsWithin profile → Fits table.get_signal_strength.output (success (Some (signal profile) ∷ []))
signal_fits profile within = one (output_of table.get_signal_strength) (signal profile) (both_true (signal_of_form profile.signal within.signal.0 within.signal.1) refl) (lit≤ tt)

code_below : (code : ℕ) → code ≤ 999 → nat_lt code 65536 ≡ true
code_below code most = lt-ltb code 65536 (omega arith)

name_below : (name : List ℕ) → length name ≤ 100 → nat_lt (length name) 256 ≡ true
name_below name short = lt-ltb (length name) 256 (omega arith)

networks_fit : (profile : Profile) → IsWithin profile → Fits table.network_scan.output (success (Some (networks profile) ∷ []))
networks_fit profile within =
    let short : length profile.operator ≤ 100 = within.operator.short in
    one (output_of table.network_scan) (networks profile)
    (both_true (both_true (code_below profile.mcc within.mcc) (both_true (code_below profile.mnc within.mnc) (both_true (name_below profile.operator short) refl))) refl)
    (simp length-append (omega arith))

plmn_of_form : (profile : Profile) → IsWithin profile → IsTrue (fits table.plmn (plmn profile))
plmn_of_form profile within = both_true (code_below profile.mcc within.mcc) (both_true (code_below profile.mnc within.mnc) (both_true (name_below profile.operator within.operator.short) refl))

plmn_short : (profile : Profile) → IsWithin profile → length (spelling table.plmn (plmn profile)) ≤ 200
plmn_short profile within =
    let short : length profile.operator ≤ 100 = within.operator.short in
    simp length-append (omega arith)

registration_below : (online : Bool) → nat_lt (if online then 1 else 0) 256 ≡ true
registration_below true = refl
registration_below false = refl

pub serving_system_fits : (profile : Profile) (mode : ℕ) → IsWithin profile → Fits table.get_serving_system.output (success (serving_system profile mode))
serving_system_fits profile mode within =
    let short : length (spelling table.plmn (plmn profile)) ≤ 200 = plmn_short profile within in (
      (
        record { of_form = both_true (registration_below (mode == 0)) refl; short = lit≤ tt },
        (tt, (record { of_form = plmn_of_form profile within; short = omega arith }, tt)),
      ),
      simp length-append (omega arith),
    )

nas_fits : (profile : Profile) (state : State) (request : NasRequest) → IsWithin profile → Fits (nas_row request).output (nas_step profile state request).answer
nas_fits profile state nas.GetSignalStrength within = signal_fits profile within
nas_fits profile state nas.NetworkScan within = networks_fit profile within
nas_fits profile state nas.GetServingSystem within = serving_system_fits profile state.mode within
nas_fits profile state nas.GetHomeNetwork within =
    let short : length (spelling table.plmn (plmn profile)) ≤ 200 = plmn_short profile within in
    one (output_of table.get_home_network) (plmn profile) (plmn_of_form profile within) (omega arith)
nas_fits profile state nas.GetDrx within = one (output_of table.get_drx) (number drx) refl (lit≤ tt)

-- ---- WDS ----

word_fits : (kind : ℕ) (name : List ℕ) (word : ℕ) → word < 4294967296 → Fits (of true kind name table.u32 ∷ []) (success (Some (number word) ∷ []))
word_fits kind name word below = one (of true kind name table.u32) (number word) (lt-ltb word 4294967296 below) (lit≤ tt)

connection_fits : (connected : Bool) → Fits table.get_packet_service_status.output (success (Some (number (connection connected)) ∷ []))
connection_fits true = one (output_of table.get_packet_service_status) (number 2) refl (lit≤ tt)
connection_fits false = one (output_of table.get_packet_service_status) (number 1) refl (lit≤ tt)

stop_fits : (state : State) (ends : Bool) → Fits table.stop_network.output (if ends then record { answer = success []; state = record state { connected = false } } else refused state invalid_client_id).answer
stop_fits state true = (tt, lit≤ tt)
stop_fits state false = tt

settings_fit : Fits table.get_current_settings.output (success settings)
settings_fit =
    let a : FitsTlv table.u32 (address 10 0 0 1) = record { of_form = refl; short = lit≤ tt } in
    ((a, (tt, (record { of_form = refl; short = lit≤ tt }, (a, (record { of_form = refl; short = lit≤ tt }, (record { of_form = refl; short = lit≤ tt }, tt)))))), lit≤ tt)

wds_fits : (state : State) (request : WdsRequest) → Fits (wds_row request).output (wds_step state request).answer
wds_fits state wds.StartNetwork = word_fits 0x01 (name_of table.start_network) (handle_after state.handle) (omega arith)
wds_fits state (wds.StopNetwork handle) = stop_fits state (state.connected && handle == state.handle)
wds_fits state wds.GetPacketServiceStatus = connection_fits state.connected
wds_fits state wds.GetChannelRates = one (output_of table.get_channel_rates) rates refl (lit≤ tt)
wds_fits state wds.GetCurrentSettings = settings_fit

-- ---- WMS ----

list_of-values_of : (values : List Value) → list_of (values_of values) ≡ values
list_of-values_of [] = refl
list_of-values_of (value ∷ values) = ap (λ (vs : List Value). value ∷ vs) (list_of-values_of values)

-- bytes as values: how many, of their form, and how long their spelling is
length-numbers : (bytes : List ℕ) → length (map number bytes) ≡ length bytes
length-numbers [] = refl
length-numbers (byte ∷ bytes) = ap suc (length-numbers bytes)

numbers_of_form : (bytes : List ℕ) → list_all (λ (byte : ℕ). nat_lt byte 256) bytes ≡ true → list_all (fits table.u8) (map number bytes) ≡ true
numbers_of_form [] are = refl
numbers_of_form (byte ∷ bytes) are = let p = and_parts (nat_lt byte 256) (list_all (λ (byte : ℕ). nat_lt byte 256) bytes) are in both_true p.0 (numbers_of_form bytes p.1)

length-numbers_spelled : (bytes : List ℕ) → length (flat_map (spelling table.u8) (map number bytes)) ≡ length bytes
length-numbers_spelled [] = refl
length-numbers_spelled (byte ∷ bytes) = ap suc (length-numbers_spelled bytes)

short_behind_four : (xs : List ℕ) (n : ℕ) → length xs ≡ n → n ≤ 255 → suc (suc (suc (suc (length (xs ++ []))))) ≤ 4000
short_behind_four xs n is short = let whole : length (xs ++ []) ≡ length xs = ap length (append-nil xs) in omega arith

short_behind : (n most : ℕ) → n ≤ most → most ≤ 500 → suc (suc (suc (suc n))) ≤ 4000
short_behind n most within short = omega arith

raw_fits : (message : List ℕ) → is_stored (Some message) ≡ true → Fits table.raw_read.output (success (Some (raw message) ∷ []))
raw_fits message stored =
    let p = and_parts (nat_le (length message) 255) (list_all (λ (byte : ℕ). nat_lt byte 256) message) stored in
    let short : length message ≤ 255 = leb-true (length message) 255 p.0 in
    let inside = list_of-values_of (map number message) in
    let count = length-numbers message in
    let counted : nat_lt (length (list_of (values_of (map number message)))) 65536 ≡ true =
    subst (λ (values : List Value). nat_lt (length values) 65536 ≡ true) (sym inside) (subst (λ (n : ℕ). nat_lt n 65536 ≡ true) (sym count) (lt-ltb (length message) 65536 (omega arith))) in
    let formed : list_all (fits table.u8) (list_of (values_of (map number message))) ≡ true =
    subst (λ (values : List Value). list_all (fits table.u8) values ≡ true) (sym inside) (numbers_of_form message p.1) in
    one (output_of table.raw_read) (raw message)
    (both_true (both_true counted formed) refl)
    (rw inside (short_behind_four (flat_map (spelling table.u8) (map number message)) (length message) (length-numbers_spelled message) short))

all_at : (messages : List (Option (List ℕ))) (index : ℕ) (message : List ℕ) → list_all is_stored messages ≡ true → option_and_then (λ m. m) (slice_get messages index) ≡ Some message → is_stored (Some message) ≡ true
all_at [] index message all at = absurd cc
all_at (None ∷ messages) zero message all at = absurd cc
all_at (Some first ∷ messages) zero message all at =
    let p = and_parts (is_stored (Some first)) (list_all is_stored messages) all in
    subst (λ (m : List ℕ). is_stored (Some m) ≡ true) (same_Some first message at) p.0
all_at (first ∷ messages) (suc index) message all at =
    let p = and_parts (is_stored first) (list_all is_stored messages) all in
    all_at messages index message p.1 at

read_fits : (state : State) (message : Option (List ℕ)) → ((m : List ℕ) → message ≡ Some m → is_stored (Some m) ≡ true) → Fits table.raw_read.output (reads state message).answer
read_fits state None stored = tt
read_fits state (Some message) stored = raw_fits message (stored message refl)

delete_fits : (state : State) (index : ℕ) (message : Option (List ℕ)) → Fits table.delete.output (deletes state index message).answer
delete_fits state index None = tt
delete_fits state index (Some message) = (tt, lit≤ tt)

-- the entries of a list: how many, of their form, and how long their spelling is
abbrev entry_form : Form
entry_form = table.fields (table.field "Index" table.u32 ∷ table.field "Tag" table.u8 ∷ [])

abbrev entries : ℕ → List (Option (List ℕ)) → List Value
entries n messages = filter_map listed (enumerate_from n messages)

length-entries : (n : ℕ) (messages : List (Option (List ℕ))) → length (entries n messages) ≤ length messages
length-entries n [] = omega arith
length-entries n (None ∷ messages) = let rest = length-entries (n + 1) messages in omega arith
length-entries n (Some message ∷ messages) = let rest = length-entries (n + 1) messages in omega arith

entries_of_form : (n : ℕ) (messages : List (Option (List ℕ))) → n + length messages ≤ 100 → list_all (fits entry_form) (entries n messages) ≡ true
entries_of_form n [] within = refl
entries_of_form n (None ∷ messages) within = entries_of_form (n + 1) messages (omega arith)
entries_of_form n (Some message ∷ messages) within =
    both_true (both_true (lt-ltb n 4294967296 (omega arith)) refl) (entries_of_form (n + 1) messages (omega arith))

length-entries_spelled : (n : ℕ) (messages : List (Option (List ℕ))) → length (flat_map (spelling entry_form) (entries n messages)) ≤ 5 * length messages
length-entries_spelled n [] = omega arith
length-entries_spelled n (None ∷ messages) = let rest = length-entries_spelled (n + 1) messages in omega arith
length-entries_spelled n (Some message ∷ messages) = let rest = length-entries_spelled (n + 1) messages in omega arith

listing_fits : (state : State) → IsSound state → Fits table.list_messages.output (success (Some (listing state) ∷ []))
listing_fits state sound =
    let p = and_parts (nat_le (length state.messages) 100) (list_all is_stored state.messages) sound.stored in
    let few : length state.messages ≤ 100 = leb-true (length state.messages) 100 p.0 in
    let inside = list_of-values_of (entries 0 state.messages) in
    let count : length (entries 0 state.messages) ≤ length state.messages = length-entries 0 state.messages in
    let spelled : length (flat_map (spelling entry_form) (entries 0 state.messages)) ≤ 5 * length state.messages = length-entries_spelled 0 state.messages in
    let counted : nat_lt (length (list_of (values_of (entries 0 state.messages)))) 4294967296 ≡ true =
    subst (λ (values : List Value). nat_lt (length values) 4294967296 ≡ true) (sym inside) (lt-ltb (length (entries 0 state.messages)) 4294967296 (omega arith)) in
    let formed : list_all (fits entry_form) (list_of (values_of (entries 0 state.messages))) ≡ true =
    subst (λ (values : List Value). list_all (fits entry_form) values ≡ true) (sym inside) (entries_of_form 0 state.messages (omega arith)) in
    one (output_of table.list_messages) (listing state)
    (both_true counted formed)
    (rw inside (short_behind (length (flat_map (spelling entry_form) (entries 0 state.messages))) (5 * length state.messages) spelled (omega arith)))

half_fits : (kind : ℕ) (name : List ℕ) (n : ℕ) → n < 65536 → Fits (of true kind name table.u16 ∷ []) (success (Some (number n) ∷ []))
half_fits kind name n below = one (of true kind name table.u16) (number n) (lt-ltb n 65536 below) (lit≤ tt)

wms_fits : (state : State) (request : WmsRequest) → IsSound state → Fits (wms_row request).output (wms_step state request).answer
wms_fits state wms.RawSend sound = half_fits 0x01 (name_of table.raw_send) (number_after 65535 state.sent) (omega arith)
wms_fits state (wms.RawRead index) sound =
    let p = and_parts (nat_le (length state.messages) 100) (list_all is_stored state.messages) sound.stored in
    read_fits state (message_at state index) (λ m at. all_at state.messages index m p.1 at)
wms_fits state (wms.Delete None) sound = tt
wms_fits state (wms.Delete (Some index)) sound = delete_fits state index (message_at state index)
wms_fits state wms.ListMessages sound = listing_fits state sound

-- ---- all ----

pub serves_fit : (profile : Profile) (state : State) (request : Request) → IsWithin profile → IsSound state → IsInRange request → Fits (row_of request).output (serves profile state request).answer
serves_fit profile state (Ctl request) within sound range = ctl_fits state request range
serves_fit profile state (Wds request) within sound range = wds_fits state request
serves_fit profile state (Dms request) within sound range = dms_fits profile state request within sound
serves_fit profile state (Nas request) within sound range = nas_fits profile state request within
serves_fit profile state (Wms request) within sound range = wms_fits state request sound
