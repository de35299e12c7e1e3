-- Laws of requests and of answers.
use Rattle.std.specs.Prelude.{◌≡◌, ℕ, List}
use Rattle.qmi_requests.specs.declared.QmiRequest.{QmiRequest}
use Rattle.qmi_services.specs.Table.{Output}
use Rattle.qmi_services.specs.Requests.{row_of, inputs_of}
use Rattle.qmi_services.specs.Inputs.{IsInRange, values_of, AllGive}
use Rattle.qmi_services.specs.Answers.{AreWellMade, Reading, Reads}

-- a request's TLVs are the inputs of its message in the table, each with bytes that spell its value
abbrev pub AreSpelled : Type 0
AreSpelled = (request : QmiRequest) → IsInRange request → AllGive (row_of request).input (values_of request) (inputs_of request)

-- TLVs read in one way alone
abbrev pub ReadOneWay : Type 0
ReadOneWay = (outputs : List Output) (tlvs : List ℕ) (a b : Reading) → AreWellMade outputs → Reads outputs tlvs a → Reads outputs tlvs b → a ≡ b
