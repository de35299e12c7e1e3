-- Which answers a message has room for.
use Rattle.std.specs.Prelude.{◌≤◌, ◌<◌, ◌^◌, List, length}
use Rattle.tlv_codec.specs.Tlv.{tlv_text}
use Rattle.qmi_services.specs.Table.{Output}
use Rattle.qmi_services.specs.Modem.{FitOutputs, output_tlvs}
use Rattle.sim_qmi.specs.declared.request.Request.{Request}
use Rattle.sim_qmi.specs.declared.request.Request.TheVariants.{Ctl}
use Rattle.sim_qmi.specs.declared.ctl.CtlRequest.TheVariants.{Allocate, Release}
use Rattle.sim_qmi.specs.Step.{Answer, failure, success}

-- the values of a success are of the outputs' forms, and short
abbrev pub Fits : List Output → Answer → Type 0
Fits outputs (failure error) = Unit {0}
Fits outputs (success values) = FitOutputs outputs values × (length (tlv_text (output_tlvs outputs values)) ≤ 4096)

-- the numbers that a request's answer repeats are in the ranges of their types
abbrev pub IsInRange : Request → Type 0
IsInRange (Ctl (Allocate service)) = service < 2 ^ 8
IsInRange (Ctl (Release service id)) = (service < 2 ^ 8) × (id < 2 ^ 8)
IsInRange _ = Unit {0}
