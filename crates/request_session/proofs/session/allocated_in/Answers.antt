use Rattle.link_session.specs.Hearing.{found_in}
use Rattle.device_core.proofs.Allocation.{allocated-in}
use Rattle.request_session.proofs.Taking.{allocated-is}
use Rattle.request_session.proofs.session.allocated_in.Goals as goal

pub returns : goal.returns
returns c = allocated-is (found_in c.args.incoming.now c.args.found) c.args.next (allocated-in c.tlvs_in.ensures c.bytes.ensures c.allocated-id.ensures)
