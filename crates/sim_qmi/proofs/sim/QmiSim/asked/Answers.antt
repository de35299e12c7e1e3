use Rattle.std.proofs.Common.{◌≡◌, Some, sym}
use Rattle.qmi_services.specs.View.{row_view}
use Rattle.sim_qmi.specs.Requests.{request_in}
use Rattle.sim_qmi.proofs.Rows.{request-of}
use Rattle.sim_qmi.proofs.sim.QmiSim.asked.Goals as goal

pub returns-in-Some-2-clause-row : goal.returns-in-Some-2-clause-row
returns-in-Some-2-clause-row c =
    let read : request_in (row_view c.in-Some.message) c.args.tlvs.now ≡ Some c.in-Some-2.request = cc (c.in_ok-request.ensures, c.in-Some-2.is) in
    let of = request-of c.args.head.now.service c.args.head.now.message (row_view c.in-Some.message) c.args.tlvs.now c.in-Some-2.request (sym c.in-Some.ensures) read in
    (sym of.line, of.range)
