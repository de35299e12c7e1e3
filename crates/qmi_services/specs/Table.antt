-- The messages of a modem's services that requests send, and what is in them.
-- Source: the messages of these names in libqmi's data/qmi-service-ctl.json, qmi-service-dms.json, qmi-service-nas.json, qmi-service-wds.json and qmi-service-wms.json.
use Rattle.std.specs.Prelude.{ℕ, List, [], ◌∷◌, Bool, true, false, codes, chars}
use Prim.Native.String.{String}
use Rattle.qmi_shapes.specs.declared.shape.Prefix.TheVariants.{Rest, Counted}
use Rattle.qmi_shapes.specs.Form.{Form, unsigned, signed, string, array, sequence}
use Rattle.qmi_shapes.specs.View.{NamedForm, fields_of}
use Rattle.message_tables.specs.Tlvs.{TlvForm}
use Rattle.qmux_frame.specs.Control as control
use Rattle.qmi_requests.specs.declared.QmiRequest.{QmiRequest}
use Rattle.qmi_requests.specs.declared.QmiRequest.TheVariants as request

-- a TLV of an answer, and whether a success always has it
pub record Output : Type 0 where
  pub needed : Bool
  pub tlv : TlvForm

-- the TLVs of a request and those of its answer, besides the Result TLV
pub record Row : Type 0 where
  pub service : ℕ
  pub id : ℕ
  pub name : List ℕ
  pub input : List TlvForm
  pub output : List Output
  -- whether modems send an indication of this id as well, with the TLVs of the answer
  pub indicated : Bool

-- ---- how values stand in bytes ----

abbrev pub u8 : Form
u8 = unsigned 1

abbrev pub u16 : Form
u16 = unsigned 2

abbrev pub u32 : Form
u32 = unsigned 4

abbrev pub i8 : Form
i8 = signed 1

-- the bytes that are left
abbrev pub text : Form
text = string Rest

-- behind their count in a byte
abbrev pub text8 : Form
text8 = string (Counted 1)

-- elements behind their count in 1, 2 or 4 bytes
abbrev pub list8 : Form → Form
list8 element = array (Counted 1) element

abbrev pub list16 : Form → Form
list16 element = array (Counted 2) element

abbrev pub list32 : Form → Form
list32 element = array (Counted 4) element

-- fields one after another
abbrev pub fields : List NamedForm → Form
fields named = sequence (fields_of named)

abbrev pub field : String → Form → NamedForm
field name form = record { name = chars (codes name); form = form }

-- a field without a name
abbrev pub unnamed : Form → NamedForm
unnamed form = field "" form

-- ---- what a message is made of ----

abbrev pub input : ℕ → String → Form → TlvForm
input kind name form = record { kind = kind; name = chars (codes name); form = form }

abbrev pub needed : ℕ → String → Form → Output
needed kind name form = record { needed = true; tlv = input kind name form }

abbrev pub optional : ℕ → String → Form → Output
optional kind name form = record { needed = false; tlv = input kind name form }

abbrev pub message : ℕ → ℕ → String → List TlvForm → List Output → Row
message service id name input output = record { service = service; id = id; name = chars (codes name); input = input; output = output; indicated = false }

abbrev pub and_indication : Row → Row
and_indication row = record row { indicated = true }

-- Source: the enum QmiService in libqmi's src/libqmi-glib/qmi-enums.h.
abbrev pub ctl : ℕ
ctl = 0

abbrev pub wds : ℕ
wds = 1

abbrev pub dms : ℕ
dms = 2

abbrev pub nas : ℕ
nas = 3

abbrev pub wms : ℕ
wms = 5

-- ---- the messages ----

-- a network's codes of its country and of its operator, and its name
abbrev pub plmn : Form
plmn = fields (field "MCC" u16 ∷ field "MNC" u16 ∷ field "Description" text8 ∷ [])

abbrev pub client_id : Form
client_id = fields (field "Service" u8 ∷ field "Client id" u8 ∷ [])

abbrev pub get_version_info : Row
get_version_info = message ctl control.get_version_info "Get Version Info" [] (needed 0x01 "Service list" (list8 (fields (field "Service" u8 ∷ field "Major" u16 ∷ field "Minor" u16 ∷ []))) ∷ [])

abbrev pub allocate : Row
allocate = message ctl control.allocate "Allocate CID" (input 0x01 "" u8 ∷ []) (needed 0x01 "Allocation" client_id ∷ [])

abbrev pub release : Row
release = message ctl control.release "Release CID" (input 0x01 "" (fields (unnamed u8 ∷ unnamed u8 ∷ [])) ∷ []) (optional 0x01 "Release" client_id ∷ [])

abbrev pub sync : Row
sync = and_indication (message ctl control.sync "Sync" [] [])

abbrev pub proxy_open : Row
proxy_open = message ctl control.proxy_open "Internal Proxy Open" (input 0x01 "" text ∷ []) []

abbrev pub get_capabilities : Row
get_capabilities = message dms 0x0020 "Get Capabilities" [] (needed 0x01 "Info" (fields (field "Max TX rate" u32 ∷ field "Max RX rate" u32 ∷ field "Data service" u8 ∷ field "SIM" u8 ∷ field "Radio interfaces" (list8 u8) ∷ [])) ∷ [])

abbrev pub get_manufacturer : Row
get_manufacturer = message dms 0x0021 "Get Manufacturer" [] (needed 0x01 "Manufacturer" text ∷ [])

abbrev pub get_model : Row
get_model = message dms 0x0022 "Get Model" [] (needed 0x01 "Model" text ∷ [])

abbrev pub get_revision : Row
get_revision = message dms 0x0023 "Get Revision" [] (needed 0x01 "Revision" text ∷ [])

abbrev pub get_msisdn : Row
get_msisdn = message dms 0x0024 "Get MSISDN" [] (needed 0x01 "MSISDN" text ∷ [])

abbrev pub get_ids : Row
get_ids = message dms 0x0025 "Get IDs" [] (optional 0x10 "ESN" text ∷ optional 0x11 "IMEI" text ∷ optional 0x12 "MEID" text ∷ [])

abbrev pub get_operating_mode : Row
get_operating_mode = message dms 0x002D "Get Operating Mode" [] (needed 0x01 "Mode" u8 ∷ [])

abbrev pub set_operating_mode : Row
set_operating_mode = message dms 0x002E "Set Operating Mode" (input 0x01 "" u8 ∷ []) []

abbrev pub get_signal_strength : Row
get_signal_strength = message nas 0x0020 "Get Signal Strength" [] (needed 0x01 "Signal" (fields (field "Strength" i8 ∷ field "Radio interface" i8 ∷ [])) ∷ [])

abbrev pub network_scan : Row
network_scan = message nas 0x0021 "Network Scan" [] (needed 0x10 "Networks" (list16 (fields (field "MCC" u16 ∷ field "MNC" u16 ∷ field "Status" u8 ∷ field "Description" text8 ∷ []))) ∷ [])

abbrev pub get_serving_system : Row
get_serving_system = and_indication (message nas 0x0024 "Get Serving System" [] (needed 0x01 "Serving system" (fields (field "Registration" u8 ∷ field "CS" u8 ∷ field "PS" u8 ∷ field "Network" u8 ∷ field "Radio interfaces" (list8 i8) ∷ [])) ∷ optional 0x10 "Roaming" u8 ∷ optional 0x12 "PLMN" plmn ∷ []))

abbrev pub get_home_network : Row
get_home_network = message nas 0x0025 "Get Home Network" [] (needed 0x01 "Home network" plmn ∷ [])

abbrev pub get_drx : Row
get_drx = message nas 0x0089 "Get DRX" [] (optional 0x10 "DRX" u32 ∷ [])

abbrev pub start_network : Row
start_network = message wds 0x0020 "Start Network" (input 0x14 "APN" text ∷ input 0x17 "user" text ∷ input 0x18 "password" text ∷ input 0x19 "IP family" u8 ∷ []) (needed 0x01 "Packet data handle" u32 ∷ [])

abbrev pub stop_network : Row
stop_network = message wds 0x0021 "Stop Network" (input 0x01 "" u32 ∷ []) []

abbrev pub get_packet_service_status : Row
get_packet_service_status = message wds 0x0022 "Get Packet Service Status" [] (needed 0x01 "Connection" u8 ∷ [])

abbrev pub get_channel_rates : Row
get_channel_rates = message wds 0x0023 "Get Channel Rates" [] (needed 0x01 "Rates" (fields (field "TX" u32 ∷ field "RX" u32 ∷ field "Max TX" u32 ∷ field "Max RX" u32 ∷ [])) ∷ [])

abbrev pub get_current_settings : Row
get_current_settings = message wds 0x002D "Get Current Settings" (input 0x10 "" u32 ∷ []) (optional 0x15 "Primary DNS" u32 ∷ optional 0x16 "Secondary DNS" u32 ∷ optional 0x1E "Address" u32 ∷ optional 0x20 "Gateway" u32 ∷ optional 0x21 "Mask" u32 ∷ optional 0x29 "MTU" u32 ∷ [])

abbrev pub raw_send : Row
raw_send = message wms 0x0020 "Raw Send" (input 0x01 "" (fields (field "format" u8 ∷ unnamed (list16 u8) ∷ [])) ∷ []) (needed 0x01 "Message id" u16 ∷ [])

abbrev pub raw_read : Row
raw_read = message wms 0x0022 "Raw Read" (input 0x01 "" (fields (field "storage" u8 ∷ field "index" u32 ∷ [])) ∷ []) (needed 0x01 "Message" (fields (field "Tag" u8 ∷ field "Format" u8 ∷ field "Data" (list16 u8) ∷ [])) ∷ [])

abbrev pub delete : Row
delete = message wms 0x0024 "Delete" (input 0x01 "storage" u8 ∷ input 0x10 "index" u32 ∷ []) []

abbrev pub list_messages : Row
list_messages = message wms 0x0031 "List Messages" (input 0x01 "storage" u8 ∷ []) (needed 0x01 "Messages" (list32 (fields (field "Index" u32 ∷ field "Tag" u8 ∷ []))) ∷ [])

-- all of them
abbrev pub rows : List Row
rows =
    get_version_info ∷ allocate ∷ release ∷ sync ∷ proxy_open ∷
    get_capabilities ∷ get_manufacturer ∷ get_model ∷ get_revision ∷ get_msisdn ∷
    get_ids ∷ get_operating_mode ∷ set_operating_mode ∷ get_signal_strength ∷ network_scan ∷
    get_serving_system ∷ get_home_network ∷ get_drx ∷ start_network ∷ stop_network ∷ get_packet_service_status ∷
    get_channel_rates ∷ get_current_settings ∷ raw_send ∷ raw_read ∷ delete ∷
    list_messages ∷ []

-- ---- which request sends which ----

-- the line that a request has
abbrev pub row_of : QmiRequest → Row
row_of request.GetServiceVersionInfo = get_version_info
row_of request.DmsGetCapabilities = get_capabilities
row_of request.DmsGetManufacturer = get_manufacturer
row_of request.DmsGetModel = get_model
row_of request.DmsGetRevision = get_revision
row_of request.DmsGetMsisdn = get_msisdn
row_of request.DmsGetIds = get_ids
row_of request.DmsGetOperatingMode = get_operating_mode
row_of (request.DmsSetOperatingMode mode) = set_operating_mode
row_of request.NasGetSignalStrength = get_signal_strength
row_of request.NasNetworkScan = network_scan
row_of request.NasGetServingSystem = get_serving_system
row_of request.NasGetHomeNetwork = get_home_network
row_of request.NasGetDrx = get_drx
row_of (request.WdsStartNetwork apn username password ip_type) = start_network
row_of (request.WdsStopNetwork handle) = stop_network
row_of request.WdsGetPacketServiceStatus = get_packet_service_status
row_of request.WdsGetChannelRates = get_channel_rates
row_of request.WdsGetCurrentSettings = get_current_settings
row_of (request.WmsRawSend pdu) = raw_send
row_of (request.WmsRawRead storage index) = raw_read
row_of (request.WmsDelete storage index) = delete
row_of (request.WmsListMessages storage) = list_messages
row_of (request.ProxyOpen path) = proxy_open
row_of (request.Allocate service) = allocate
row_of (request.Release service cid) = release
