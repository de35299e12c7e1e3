use Rattle.qmi_isolation.proofs.Forwarded.{forwarded_requests_are_queued}
use Rattle.qmi_isolation.proofs.laws.forwarded_requests_are_queued.Goals as goal

pub returns : goal.returns
returns c = forwarded_requests_are_queued
