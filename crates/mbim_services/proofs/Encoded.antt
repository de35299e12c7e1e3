-- Every request has an encoding.
use Rattle.std.proofs.Common.{◌≡◌, ℕ, ◌+◌, ◌*◌, ◌^◌, ◌<◌, ◌≤◌, Bool, true, false, IsTrue, if◌then◌else◌, nat_le, List, [], length, Option, Some, None, option_and_then, IsSome, IfSome, refl, arith}
use Rattle.std.proofs.lemmas.Bool.{leb-true}
use Rattle.std.specs.Str.{all_scalars}
use Rattle.kit_bytes.specs.Utf16.{utf16_bytes}
use Rattle.kit_bytes.proofs.Lengths.{utf16_short}
use Rattle.mbim_requests.specs.declared.MbimRequest.{MbimRequest}
use Rattle.mbim_requests.specs.declared.MbimRequest.TheVariants as request
use Rattle.mbim_requests.specs.declared.ContextIpType.{ContextIpType}
use Rattle.mbim_requests.specs.declared.ContextIpType.TheVariants as ip_type
use Rattle.mbim_fields.specs.Layout.{u32, in_place, text, Layout}
use Rattle.mbim_fields.specs.Value.{Value}
use Rattle.mbim_fields.specs.Canon.{rooms, canon}
use Rattle.mbim_services.specs.Requests.{Sent, sent_by, buffer_sent, IsInRange, IsText, IsIndex, context_ip_type, save_flag, save_index, text_given}
use Rattle.mbim_services.specs.Table.{Row, layout_sent}
use Rattle.mbim_services.specs.Laws.{RequestsHaveBuffers}
use Rattle.mbim_services.specs.declared.requests.TheConstants.{LONGEST_BUFFER}
use Rattle.mbim_fields.proofs.RoundTrip.{Some-same}
use Rattle.mbim_services.proofs.Fitting.{ItemFits, FieldsFit, all_data, canon-within}

-- ---- values ----

text_fits : (words : ℕ) (chars : List ℕ) → IsText (2 * words) chars → IsTrue (all_scalars chars) × (length (utf16_bytes chars) ≤ 4 * words)
text_fits words chars is = (is.0, omega (arith, is.1, utf16_short chars))

nothing_fits : IsTrue (all_scalars []) × (length (utf16_bytes []) ≤ 2000)
nothing_fits = (refl, omega arith)

given_fits : (given : Option (List ℕ)) → IfSome given (IsText 1000) → ItemFits 500 text (text_given given)
given_fits None range = nothing_fits
given_fits (Some chars) range = text_fits 500 chars range

switch_fits : (on : Bool) → (if on then 1 else 0) < 2 ^ 32
switch_fits true = omega arith
switch_fits false = omega arith

ip_type_fits : (t : ContextIpType) → ItemFits 500 (in_place u32) (context_ip_type t)
ip_type_fits ip_type.Default = omega arith
ip_type_fits ip_type.Ipv4 = omega arith
ip_type_fits ip_type.Ipv6 = omega arith
ip_type_fits ip_type.Ipv4v6 = omega arith

flag_fits : (index : Option ℕ) → ItemFits 500 (in_place u32) (save_flag index)
flag_fits None = omega arith
flag_fits (Some index) = omega arith

index_fits : (index : Option ℕ) → IfSome index IsIndex → ItemFits 500 (in_place u32) (save_index index)
index_fits None range = omega arith
index_fits (Some index) range = range

-- ---- requests ----

abbrev SentFits : (words : ℕ) → Sent → Option Layout → Type 0
SentFits words sent None = ⊥
SentFits words sent (Some layout) = FieldsFit words layout [] sent.values × (nat_le (rooms layout [] sent.values + all_data words layout) LONGEST_BUFFER ≡ true)

abbrev HasBuffer : Option Layout → List Value → Type 0
HasBuffer layout values = (buffer : List ℕ) × (option_and_then (λ layout. canon layout values) layout ≡ Some buffer) × (length buffer ≤ LONGEST_BUFFER)

there_with : (words : ℕ) (sent : Sent) (layout : Option Layout) → SentFits words sent layout → HasBuffer layout sent.values
there_with words sent None fits = absurd fits
there_with words sent (Some layout) fits = let e = canon-within words LONGEST_BUFFER layout sent.values fits.0 (leb-true _ _ fits.1) (omega arith) in (e.buffer, e.is, e.short)

there : (words : ℕ) (sent : Sent) → SentFits words sent (layout_sent sent.row sent.set) → HasBuffer (layout_sent sent.row sent.set) sent.values
there words sent fits = there_with words sent (layout_sent sent.row sent.set) fits

-- a request without values has a buffer with no bytes
pub encoded : RequestsHaveBuffers
encoded (request.SetRadioState on) range = there 0 (sent_by (request.SetRadioState on)) ((switch_fits on, tt), refl)
encoded request.QueryVisibleProviders range = there 0 (sent_by request.QueryVisibleProviders) ((omega arith, tt), refl)
encoded request.AttachPacketService range = there 0 (sent_by request.AttachPacketService) ((omega arith, tt), refl)
encoded request.DetachPacketService range = there 0 (sent_by request.DetachPacketService) ((omega arith, tt), refl)
encoded (request.Connect session access username password ip_type) range = there 500 (sent_by (request.Connect session access username password ip_type)) ((range.0, (omega arith, (given_fits access range.1, (given_fits username range.2, (given_fits password range.3, (omega arith, (omega arith, (ip_type_fits ip_type, (refl, tt))))))))), refl)
encoded (request.Disconnect session) range = there 500 (sent_by (request.Disconnect session)) ((range, (omega arith, (nothing_fits, (nothing_fits, (nothing_fits, (omega arith, (omega arith, (omega arith, (refl, tt))))))))), refl)
encoded (request.QueryConnectionState session) range = there 0 (sent_by (request.QueryConnectionState session)) ((range, (omega arith, (omega arith, (omega arith, (refl, (omega arith, tt)))))), refl)
encoded (request.QueryIpConfiguration session) range = there 0 (sent_by (request.QueryIpConfiguration session)) ((range, (omega arith, (omega arith, (omega arith, (refl, (omega arith, (refl, (tt, (tt, (omega arith, (refl, (omega arith, (refl, (omega arith, (omega arith, tt))))))))))))))), refl)
encoded request.SmsReadAll range = there 0 (sent_by request.SmsReadAll) ((omega arith, (omega arith, (omega arith, tt))), refl)
encoded (request.SmsRead index) range = there 0 (sent_by (request.SmsRead index)) ((omega arith, (omega arith, (range, tt))), refl)
encoded (request.SmsDelete index) range = there 0 (sent_by (request.SmsDelete index)) ((omega arith, (range, tt)), refl)
encoded (request.UssdInitiate scheme payload) range = there 64 (sent_by (request.UssdInitiate scheme payload)) ((omega arith, (omega (arith, range.0), (omega (arith, range.1), tt))), refl)
encoded (request.UssdContinue scheme payload) range = there 64 (sent_by (request.UssdContinue scheme payload)) ((omega arith, (omega (arith, range.0), (omega (arith, range.1), tt))), refl)
encoded request.UssdCancel range = there 0 (sent_by request.UssdCancel) ((omega arith, (omega arith, (omega arith, tt))), refl)
encoded request.PhonebookReadAll range = there 0 (sent_by request.PhonebookReadAll) ((omega arith, (omega arith, tt)), refl)
encoded (request.PhonebookRead index) range = there 0 (sent_by (request.PhonebookRead index)) ((omega arith, (range, tt)), refl)
encoded (request.PhonebookDelete index) range = there 0 (sent_by (request.PhonebookDelete index)) ((omega arith, (range, tt)), refl)
encoded (request.PhonebookWrite name phone index) range = there 500 (sent_by (request.PhonebookWrite name phone index)) ((flag_fits index, (index_fits index range.2, (text_fits 500 phone range.1, (text_fits 500 name range.0, tt)))), refl)
encoded (request.ProxyConfiguration path) range = there 2048 (sent_by (request.ProxyConfiguration path)) ((text_fits 2048 path range, (omega arith, tt)), refl)
encoded body range = there 0 (sent_by body) (tt, refl)

-- ---- what is sent ----

pub sent-is : (sent : Sent) (row : Row) (set : Bool) (values : List Value) (layout : Option Layout) → row ≡ sent.row → set ≡ sent.set → values ≡ sent.values → layout ≡ layout_sent row set
    → option_and_then (λ layout. canon layout values) layout ≡ buffer_sent sent
sent-is sent row set values layout row_is set_is values_are layout_is = rw (layout_is, row_is, set_is, values_are) refl

pub sent-some : (request : MbimRequest) → IsInRange request → IsSome (buffer_sent (sent_by request))
sent-some request range = let e = encoded request range in rw e.1 refl

pub sent-short : (request : MbimRequest) (buffer : List ℕ) → IsInRange request → buffer_sent (sent_by request) ≡ Some buffer → length buffer ≤ LONGEST_BUFFER
sent-short request buffer range is = let e = encoded request range in rw (Some-same _ _ _ is e.1) e.2
