-- What a request of an object is, and its faults.
use Rattle.std.proofs.Common.{◌≡◌, ◌≤◌, ℕ, Bool, true, false, List, length, map, nat_le, chars, Option, Some, None, Result, Ok, Err, refl, sym, ap, ◌∙◌, arith}
use Rattle.std.proofs.lemmas.Bool.Decides.{nat_tests}
use Rattle.serde_json.specs.Data.{Data, Members}
use Rattle.serde_json.specs.Find.{as_object}
use Rattle.qmux_frame.specs.declared.writing.TheConstants.{LONGEST_TLVS}
use Rattle.message_tables.specs.Messages.{MessageForm}
use Rattle.message_tables.specs.Tables.{value_of}
use Rattle.message_tables.specs.WellMade.{IsSoundMessage}
use Rattle.message_tables.specs.Tlvs.{TlvForm}
use Rattle.message_tables.specs.View.{tlv_view}
use Rattle.message_tables.specs.declared.tlv.TlvShape.{TlvShape}
use Rattle.named_messages.specs.Answers.{Finds}
use Rattle.named_messages.specs.Reading.{named_in}
use Rattle.named_messages.specs.declared.fault.NamedFault.{NamedFault}
use Rattle.named_messages.specs.declared.fault.NamedFault.TheVariants as named
use Rattle.json_values.specs.declared.fault.ValueFault.{ValueFault}
use Rattle.json_values.specs.declared.fault.ValueFault.TheVariants as value
use Rattle.json_values.specs.declared.path.Step.{Step}
use Rattle.json_values.specs.Answers.{Gives as ValueGives}
use Rattle.json_values.specs.Given.{first_other}
use Rattle.json_values.specs.Paths.{Fitting}
use Rattle.table_requests.specs.declared.request_fault.RequestFault.{RequestFault}
use Rattle.table_requests.specs.declared.request_fault.RequestFault.TheVariants.{Tables, Json, NoTlv, Misfit, TooLong, OutOfMemory}
use Rattle.table_requests.specs.Calls.{Gives, IsNoTlv}
use Rattle.table_requests.specs.RequestFaults.{of_named, of_value}
use Rattle.table_requests.specs.Requests.{TlvValue, Asked, asked, asked_by, tlvs_given, bytes_given, bytes_of, if_short, names_of, request_of, request_by_members, request_with, request_by, unless_other}
use Rattle.table_requests.specs.Written.{IsWritten}
use Rattle.table_requests.specs.Laws.{ReadsBack}
use Rattle.table_requests.proofs.ReadBack.{are_read_back}
use Rattle.table_requests.proofs.Walks.{names_are}

-- ---- faults ----

-- a name that no TLV has
pub Gives-no_tlv : {T A : Type 0} (seen : T → A) (stated : Result A RequestFault) (name : List ℕ) (fault : RequestFault) → IsNoTlv name fault → stated ≡ Err (NoTlv (chars name)) → Gives seen stated (Err fault)
Gives-no_tlv seen stated name (Tables which) lacks is = absurd lacks
Gives-no_tlv seen stated name Json lacks is = absurd lacks
Gives-no_tlv seen stated name (NoTlv told) lacks is = is ∙ ap (λ (n : List ℕ). Err (NoTlv n)) (sym lacks)
Gives-no_tlv seen stated name (Misfit path) lacks is = absurd lacks
Gives-no_tlv seen stated name TooLong lacks is = absurd lacks
Gives-no_tlv seen stated name OutOfMemory lacks is = tt

-- a value that doesn't fit
pub Gives-misfit : {T U A B : Type 0} (seen : T → A) (shown : U → B) (values : Fitting A) (stated : Result B RequestFault) (fault : ValueFault)
    → ValueGives seen values (Err fault) → ((path : List Step) → values ≡ Err path → stated ≡ Err (Misfit path)) → Gives shown stated (Err (of_value fault))
Gives-misfit seen shown values stated (value.Misfit path) gives is = is path gives
Gives-misfit seen shown values stated value.OutOfMemory gives is = tt

-- a message that isn't found
pub Gives-tables : {T : Type 0} (seen : T → Asked) (found : Result MessageForm NamedFault) (text : List ℕ) (fault : NamedFault) → Finds found (Err fault) → Gives seen (asked_by found text) (Err (of_named fault))
Gives-tables seen found text named.Json finds = rw finds refl
Gives-tables seen found text named.Missing finds = rw finds refl
Gives-tables seen found text named.Several finds = rw finds refl
Gives-tables seen found text (named.Member which) finds = rw finds refl
Gives-tables seen found text named.Format finds = rw finds refl
Gives-tables seen found text named.Twice finds = rw finds refl
Gives-tables seen found text named.Deep finds = rw finds refl
Gives-tables seen found text named.OutOfMemory finds = tt

-- a fault of the TLVs is one of the request
pub Gives-asked : {T U : Type 0} (seen : T → List ℕ) (shown : U → Asked) (message : MessageForm) (request : Result (List ℕ) RequestFault) (fault : RequestFault)
    → Gives seen request (Err fault) → Gives shown (asked message request) (Err fault)
Gives-asked seen shown message request (Tables which) gives = ap (asked message) gives
Gives-asked seen shown message request Json gives = ap (asked message) gives
Gives-asked seen shown message request (NoTlv name) gives = ap (asked message) gives
Gives-asked seen shown message request (Misfit path) gives = ap (asked message) gives
Gives-asked seen shown message request TooLong gives = ap (asked message) gives
Gives-asked seen shown message request OutOfMemory gives = tt

-- ---- the text of a request ----

pub request_by_is : (tables name text : List ℕ) (message : MessageForm) → named_in name tables ≡ Ok message → request_by tables name text ≡ asked message (request_with message.input (value_of text))
unfolding request_by
request_by_is tables name text message is = ap (λ (found : Result MessageForm NamedFault). asked_by found text) is

pub reads_back : (message : MessageForm) (json : Option Data) (bytes : List ℕ) → IsSoundMessage message → request_with message.input json ≡ Ok bytes
    → (object : Data) × (json ≡ Some object) × ReadsBack message.input object bytes
reads_back message None bytes sound is = absurd cc
reads_back message (Some one) bytes sound is = (one, refl, are_read_back message.input one bytes sound.input sound.input_once is)

-- a message has room for what is given
if_short-short : (bytes given : List ℕ) → if_short bytes ≡ Ok given → length given ≤ LONGEST_TLVS
if_short-short bytes given is = by (nat_le (length bytes) LONGEST_TLVS) refl
  where
    by : (b : Bool) → nat_le (length bytes) LONGEST_TLVS ≡ b → length given ≤ LONGEST_TLVS
    by true fits = let same : bytes ≡ given = cc in let count = ap (λ (l : List ℕ). length l) same in grind (arith, nat_tests, count, fits)
    by false over = absurd cc

unless_other-short : (other : Option (List ℕ)) (values : Fitting (List TlvValue)) (given : List ℕ) → unless_other other (bytes_given values) ≡ Ok given → length given ≤ LONGEST_TLVS
unless_other-short None (Ok values) given is = if_short-short (bytes_of values) given is
unless_other-short None (Err path) given is = absurd cc
unless_other-short (Some key) values given is = absurd cc

by_members-short : (tlvs : List TlvForm) (members : Option Members) (values : Fitting (List TlvValue)) (given : List ℕ) → request_by_members tlvs members values ≡ Ok given → length given ≤ LONGEST_TLVS
by_members-short tlvs None values given is = absurd cc
by_members-short tlvs (Some members) values given is = unless_other-short (first_other (names_of tlvs) members) values given is

pub is_short : (tlvs : List TlvForm) (json : Option Data) (given : List ℕ) → request_with tlvs json ≡ Ok given → length given ≤ LONGEST_TLVS
unfolding request_of
is_short tlvs None given is = absurd cc
is_short tlvs (Some one) given is = by_members-short tlvs (as_object one) (tlvs_given tlvs one) given is

-- ---- an object ----

module _ (tlvs : List TlvShape) (forms : List TlvForm) (json : Data) (members : Members) (are : map tlv_view tlvs ≡ forms) (is : as_object json ≡ Some members) where
  pub request_other : (key : List ℕ) → Some key ≡ first_other (map (λ tlv. tlv.name) tlvs) members → request_of forms json ≡ Err (NoTlv (chars key))
  unfolding request_of
  request_other key other = rw (← are, is, names_are tlvs, ← other) refl

  module _ (none : None ≡ first_other (map (λ tlv. tlv.name) tlvs) members) where
    pub request_is : request_of forms json ≡ bytes_given (tlvs_given (map tlv_view tlvs) json)
    unfolding request_of
    request_is = rw (← are, is, names_are tlvs, ← none) refl

    pub request_misfit : (path : List Step) → tlvs_given (map tlv_view tlvs) json ≡ Err path → request_of forms json ≡ Err (Misfit path)
    request_misfit path misfit = request_is ∙ ap bytes_given misfit

    pub request_written : (values : List TlvValue) (bytes : List ℕ) → tlvs_given (map tlv_view tlvs) json ≡ Ok values → IsWritten (Some bytes) values → request_of forms json ≡ Ok bytes
    request_written values bytes given written =
        let same : bytes_of values ≡ bytes = sym written.0 in
        let short : nat_le (length (bytes_of values)) LONGEST_TLVS ≡ true = let count = ap (λ (l : List ℕ). length l) same in let room = written.1 in grind (arith, nat_tests, count, room) in
        request_is ∙ ap bytes_given given ∙ rw short (ap (λ (b : List ℕ). Ok b) same)

    pub request_too_long : (values : List TlvValue) → tlvs_given (map tlv_view tlvs) json ≡ Ok values → IsWritten None values → request_of forms json ≡ Err TooLong
    request_too_long values given over =
        let long : nat_le (length (bytes_of values)) LONGEST_TLVS ≡ false = grind (arith, nat_tests, over) in
        request_is ∙ ap bytes_given given ∙ rw long refl
