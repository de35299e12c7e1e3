-- What a session for a request by tables is to do.
use Rattle.std.specs.Prelude.{Bool}
use Rattle.message_tables.specs.declared.message.Message.{Message}
use Rattle.request_session.specs.declared.plan.RequestPlan.{RequestPlan}

pub record Plan : Type 0 where
  pub session : RequestPlan
  -- the message whose request it is
  pub message : Message
  -- whether the answer is printed as one JSON object
  pub json : Bool
