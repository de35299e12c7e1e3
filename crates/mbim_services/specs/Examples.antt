-- Worked examples of layouts, of buffers, and of what requests send.
use Rattle.std.specs.Prelude.{◌≡◌, ℕ, Bool, true, false, List, [], ◌∷◌, ◌++◌, replicate, Some, None, option_map, option_and_then, Ok, Err, codes}
use Prim.Native.String.{String}
use Rattle.kit_bytes.specs.Hex.{hex}
use Rattle.mbim_requests.specs.declared.MbimRequest.{MbimRequest}
use Rattle.mbim_requests.specs.declared.MbimRequest.TheVariants as request
use Rattle.mbim_requests.specs.declared.ContextIpType.TheVariants.{Ipv4v6}
use Rattle.mbim_fields.specs.Value.{Value, number, uuid_of, text_of, elements, members, no_more, first}
use Rattle.mbim_fields.specs.Reading.{read}
use Rattle.mbim_fields.specs.Canon.{canon}
use Rattle.mbim_fields.specs.declared.fault.FieldFault.TheVariants.{OutOfRange}
use Rattle.mbim_services.specs.Table.{basic_connect, sms, proxy_control, layout_for}
use Rattle.mbim_services.specs.Requests.{sent_by, buffer_sent}
use Rattle.mbim_services.specs.declared.table.Way.{Way}
use Rattle.mbim_services.specs.declared.table.Way.TheVariants.{Set, Done}

-- SMS has no command with the CID 3
abbrev pub NoSuchCommand : Type 0
NoSuchCommand = (way : Way) → layout_for sms 3 way ≡ None

-- ---- buffers that are read ----

-- an SMS configuration of 27 bytes, whose pair at 16 points at so many bytes from 24 on
abbrev pub configuration : ℕ → List ℕ
configuration size = replicate 16 0 ++ 24 ∷ 0 ∷ 0 ∷ 0 ∷ size ∷ 0 ∷ 0 ∷ 0 ∷ 65 ∷ 0 ∷ 0 ∷ []

-- 4 bytes from 24 on are past the end
abbrev pub PairPastTheEnd : Type 0
PairPastTheEnd = option_map (λ layout. read layout (configuration 4)) (layout_for sms 1 Done) ≡ Some (Err (OutOfRange 16))

-- 2 bytes from 24 on are a text
abbrev pub PairUpToTheEnd : Type 0
PairUpToTheEnd =
    option_map (λ layout. read layout (configuration 2)) (layout_for sms 1 Done) ≡ Some (Ok (number 0 ∷ number 0 ∷ number 0 ∷ number 0 ∷ text_of (codes "A") ∷ []))

-- ---- what requests send ----

-- a command of this service, its CID, whether it sets or asks, and its buffer in hexadecimal digits
abbrev pub Sends : MbimRequest → (service : List ℕ) → (cid : ℕ) → (set : Bool) → String → Type 0
Sends request service cid set buffer =
    ((sent_by request).row.service ≡ service) × ((sent_by request).row.cid ≡ cid) × ((sent_by request).set ≡ set) × (buffer_sent (sent_by request) ≡ Some (hex (codes buffer)))

-- a pair, the timeout of 30 seconds, and 26 bytes of text, filled up to 28
abbrev pub ConfigurationBytes : Type 0
ConfigurationBytes =
    Sends (request.ProxyConfiguration (codes "/dev/cdc-wdm0")) proxy_control 1 true
    "0C 00 00 00 1A 00 00 00 1E 00 00 00 2F 00 64 00 65 00 76 00 2F 00 63 00 64 00 63 00 2D 00 77 00 64 00 6D 00 30 00 00 00"

-- the session, to activate, three pairs, no compression, no authentication, either type of addresses, the internet, and the texts, each filled up on its own
abbrev pub ConnectBytes : Type 0
ConnectBytes =
    Sends (request.Connect 1 (Some (codes "web")) None (Some (codes "p")) Ipv4v6) basic_connect 12 true
    "01 00 00 00 01 00 00 00 3C 00 00 00 06 00 00 00 00 00 00 00 00 00 00 00 44 00 00 00 02 00 00 00 00 00 00 00 00 00 00 00 03 00 00 00 7E 5E 2A 7E 4E 6F 72 72 73 6B 65 6E 7E 5E 2A 7E 77 00 65 00 62 00 00 00 70 00 00 00"

-- the radio is to be on
abbrev pub RadioBytes : Type 0
RadioBytes = Sends (request.SetRadioState true) basic_connect 3 true "01 00 00 00"

-- 60 bytes: all but the session's id is 0, or no list and no address
abbrev pub SessionBytes : Type 0
SessionBytes = Sends (request.QueryIpConfiguration 7) basic_connect 15 false
    "07 00 00 00 00 00 00 00 00 00 00 00 00 00 00 00 00 00 00 00 00 00 00 00 00 00 00 00 00 00 00 00 00 00 00 00 00 00 00 00 00 00 00 00 00 00 00 00 00 00 00 00 00 00 00 00 00 00 00 00"

-- ---- lists of subscriptions ----

-- these values have these bytes in the layout of a command
abbrev pub HaveBytes : List ℕ → ℕ → Way → List Value → String → Type 0
HaveBytes service cid way values buffer = option_and_then (λ layout. canon layout values) (layout_for service cid way) ≡ Some (hex (codes buffer))

-- a subscription to nothing
abbrev pub NoEventBytes : Type 0
NoEventBytes = HaveBytes basic_connect 19 Set (number 0 ∷ elements no_more ∷ []) "00 00 00 00"

-- a subscription to all of SMS: how many events there are, a pair, and the event of 20 bytes at which it points
abbrev pub AllEventsBytes : Type 0
AllEventsBytes =
    HaveBytes basic_connect 19 Set (number 1 ∷ elements (first (members (first (uuid_of sms) (first (number 0) (first (elements no_more) no_more)))) no_more) ∷ [])
    "01 00 00 00 0C 00 00 00 14 00 00 00 53 3F BE EB 14 FE 44 67 9F 90 33 A2 23 E5 6C 3F 00 00 00 00"
