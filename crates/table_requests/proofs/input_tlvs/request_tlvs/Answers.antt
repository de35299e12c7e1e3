use Rattle.std.proofs.Common.{List, ℕ, map, sym}
use Rattle.std.proofs.lemmas.Result.{err_from_is_err_and}
use Rattle.serde_json.specs.View.{view, members_view}
use Rattle.message_tables.specs.View.{tlv_view, tlvs_view}
use Rattle.table_requests.specs.Requests.{TlvValue, request_of, tlvs_given}
use Rattle.table_requests.proofs.Faults.{Gives-no_tlv, Gives-misfit, request_other, request_misfit, request_written, request_too_long}
use Rattle.table_requests.proofs.input_tlvs.request_tlvs.Goals as goal

pub returns-in-Some-first_other : goal.returns-in-Some-first_other
returns-in-Some-first_other c =
    Gives-no_tlv (λ (octets : List ℕ). octets) (request_of (tlvs_view c.args.tlvs.now) (view c.args.json.now)) c.in-Some-first_other.other.now c.no_tlv.result c.no_tlv.ensures
    (request_other c.as_slice-tlvs.result.now (tlvs_view c.args.tlvs.now) (view c.args.json.now) (members_view c.in-Some.members.now.entries) c.as_slice-tlvs.ensures (sym c.in-Some.ensures)
    c.in-Some-first_other.other.now c.in-Some-first_other.ensures)

pub returns-in_err-octets : goal.returns-in_err-octets
returns-in_err-octets c =
    let p = err_from_is_err_and c.from_residual.result c.from_residual.ensures.1 in
    rw (p.1, p.2)
    (Gives-misfit (λ (values : List TlvValue). values) (λ (octets : List ℕ). octets) (tlvs_given (map tlv_view c.as_slice-tlvs.result.now) (view c.args.json.now)) (request_of (tlvs_view c.args.tlvs.now) (view c.args.json.now))
    c.in_err-octets.field-0.0 c.in_err-octets.ensures
    (request_misfit c.as_slice-tlvs.result.now (tlvs_view c.args.tlvs.now) (view c.args.json.now) (members_view c.in-Some.members.now.entries) c.as_slice-tlvs.ensures (sym c.in-Some.ensures) c.in_default-first_other.ensures))

pub returns-in-Some-2 : goal.returns-in-Some-2
returns-in-Some-2 c =
    let written = rw c.in-Some-2.is at c.in_ok-octets.ensures in
    request_written c.as_slice-tlvs.result.now (tlvs_view c.args.tlvs.now) (view c.args.json.now) (members_view c.in-Some.members.now.entries) c.as_slice-tlvs.ensures (sym c.in-Some.ensures) c.in_default-first_other.ensures
    written.0 c.in-Some-2.octets written.1 written.2

pub returns-in-None : goal.returns-in-None
returns-in-None c =
    let over = rw c.in-None.is at c.in_ok-octets.ensures in
    request_too_long c.as_slice-tlvs.result.now (tlvs_view c.args.tlvs.now) (view c.args.json.now) (members_view c.in-Some.members.now.entries) c.as_slice-tlvs.ensures (sym c.in-Some.ensures) c.in_default-first_other.ensures
    over.0 over.1 over.2
