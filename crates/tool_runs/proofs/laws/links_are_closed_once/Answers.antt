use Rattle.tool_runs.proofs.Calling.{qmi_visits, qmi_requests_sent, mbim_visits, mbim_messages_sent}
use Rattle.tool_runs.proofs.laws.links_are_closed_once.Goals as goal

pub returns : goal.returns
returns c = record { visit = (qmi_visits, mbim_visits); requests = (qmi_requests_sent, mbim_messages_sent) }
