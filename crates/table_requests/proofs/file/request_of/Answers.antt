use Rattle.std.proofs.Common.{◌≡◌, ap}
use Rattle.table_requests.specs.View.{asked_view}
use Rattle.table_requests.specs.Requests.{request_by}
use Rattle.table_requests.specs.declared.fault.NoRequest.TheVariants.{ReadFault}
use Rattle.table_requests.specs.Faults.{no_request}
use Rattle.table_requests.specs.Files.{or_none}
use Rattle.table_requests.proofs.Told.{reads_nothing, told_of}
use Rattle.table_requests.proofs.file.request_of.Goals as goal

pub returns-in-Ok-clause-gives : goal.returns-in-Ok-clause-gives
returns-in-Ok-clause-gives c = ap (or_none no_request) c.in-Ok.ensures.exact

pub returns-in-Err-clause-gives : goal.returns-in-Err-clause-gives
returns-in-Err-clause-gives c =
    told_of asked_view (request_by c.args.tables.now c.args.name.now c.args.input.now) c.in-Err.fault c.no_request.result c.in-Err.ensures.exact c.no_request.ensures

pub returns-in-Err-clause-read_fault : goal.returns-in-Err-clause-read_fault
returns-in-Err-clause-read_fault c = λ e.
    let is : c.no_request.result ≡ ReadFault = cc in
    reads_nothing c.in-Err.fault c.no_request.result c.no_request.ensures is
