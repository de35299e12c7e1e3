-- What is answered of a file and of JSON that give no request.
use Rattle.std.proofs.Common.{◌≡◌, inl, inr, Result, Err, sym, ap, ◌∙◌, subst}
use Rattle.table_requests.specs.Calls.{Gives as RequestGives}
use Rattle.table_requests.specs.declared.request_fault.RequestFault.{RequestFault}
use Rattle.table_requests.specs.declared.request_fault.RequestFault.TheVariants as request
use Rattle.named_messages.specs.declared.fault.NamedFault.{NamedFault}
use Rattle.named_messages.specs.declared.fault.NamedFault.TheVariants as named
use Rattle.table_requests.specs.declared.fault.NoRequest.{NoRequest}
use Rattle.table_requests.specs.declared.fault.NoRequest.TheVariants.{ReadFault, Long, Message, Input, OutOfMemory}
use Rattle.table_requests.specs.Faults.{IsNoRequest, no_message, no_request}
use Rattle.table_requests.specs.Files.{Gives, or_none}

exactly : {T A : Type 0} (seen : T → A) (stated : Result A NoRequest) (none : NoRequest) → stated ≡ Err none → Gives seen stated (Err none)
exactly seen stated ReadFault is = is
exactly seen stated Long is = is
exactly seen stated (Message fault) is = is
exactly seen stated (Input fault) is = is
exactly seen stated OutOfMemory is = tt

-- a fault of the JSON, or of the tables
module _ {T A : Type 0} (seen : T → A) (stated : Result A RequestFault) where
  told : (fault : RequestFault) (none : NoRequest) → stated ≡ Err fault → none ≡ no_request fault → Gives seen (or_none no_request stated) (Err none)
  told fault none gives is = exactly seen (or_none no_request stated) none (ap (or_none no_request) gives ∙ ap (λ (n : NoRequest). Err n) (sym is))

  without_memory : (none : NoRequest) → none ≡ OutOfMemory → Gives seen (or_none no_request stated) (Err none)
  without_memory none is = subst (λ (n : NoRequest). Gives seen (or_none no_request stated) (Err n)) (sym is) tt

  pub told_of : (fault : RequestFault) (none : NoRequest) → RequestGives seen stated (Err fault) → IsNoRequest fault none → Gives seen (or_none no_request stated) (Err none)
  told_of fault none gives (inr is) = without_memory none is
  told_of (request.Tables which) none gives (inl is) = told (request.Tables which) none gives is
  told_of request.Json none gives (inl is) = told request.Json none gives is
  told_of (request.NoTlv name) none gives (inl is) = told (request.NoTlv name) none gives is
  told_of (request.Misfit path) none gives (inl is) = told (request.Misfit path) none gives is
  told_of request.TooLong none gives (inl is) = told request.TooLong none gives is
  told_of request.OutOfMemory none gives (inl is) = without_memory none is

-- ---- neither is a read fault ----

message_read : (fault : NamedFault) → no_message fault ≡ ReadFault → ⊥
message_read named.Json e = absurd (cc)
message_read named.Missing e = absurd (cc)
message_read named.Several e = absurd (cc)
message_read (named.Member which) e = absurd (cc)
message_read named.Format e = absurd (cc)
message_read named.Twice e = absurd (cc)
message_read named.Deep e = absurd (cc)
message_read named.OutOfMemory e = absurd (cc)

request_read : (fault : RequestFault) → no_request fault ≡ ReadFault → ⊥
request_read (request.Tables which) e = message_read which e
request_read request.Json e = absurd (cc)
request_read (request.NoTlv name) e = absurd (cc)
request_read (request.Misfit path) e = absurd (cc)
request_read request.TooLong e = absurd (cc)
request_read request.OutOfMemory e = absurd (cc)

pub reads_nothing : (fault : RequestFault) (none : NoRequest) → IsNoRequest fault none → none ≡ ReadFault → ⊥
reads_nothing fault none (inl is) e = request_read fault (sym is ∙ e)
reads_nothing fault none (inr is) e = absurd (cc)
