use Rattle.std.proofs.Common.{List}
use Rattle.serde_json.specs.View.{view}
use Rattle.table_requests.specs.Requests.{TlvValue}
use Rattle.table_requests.specs.Written.{IsWritten}
use Rattle.table_requests.proofs.Walks.{HasGivenTo}
use Rattle.table_requests.proofs.input_tlvs.tlvs_in.Given as goal

-- the values so far are given, and written as far as there is room
abbrev pub invariant-loop-tlv : goal.invariant-loop-tlv
invariant-loop-tlv l = (done : List TlvValue) × HasGivenTo l.tlvs (view l.json) l.tlv-index done × IsWritten l.written done
