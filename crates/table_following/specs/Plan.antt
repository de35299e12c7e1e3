-- What a session is to do whose indications are followed.
use Rattle.std.specs.Prelude.{ℕ, ◌==◌, ◌&&◌, not, List, Option, Some, None, if◌then◌else◌}
use Rattle.message_tables.specs.declared.message.Message.{Message}
use Rattle.request_session.specs.declared.client.Client.{Client}
use Rattle.request_session.specs.declared.plan.RequestPlan.{RequestPlan}
use Rattle.table_requests.specs.Plan as table
use Rattle.table_following.specs.Lines.{Watched}

pub record Plan : Type 0 where
  pub request : table.Plan
  -- those that its file tells
  pub indications : List Message
  pub turns : ℕ

-- service 0 has no client ids
abbrev pub kept_by : RequestPlan → Client → Option (ℕ × ℕ)
kept_by session client = if not (session.request.service == 0) && session.keep then Some (session.request.service, client.id) else None

abbrev pub watched : Plan → Client → Watched
watched plan client = record { service = plan.request.session.request.service; cid = client.id; json = plan.request.json; indications = plan.indications }
