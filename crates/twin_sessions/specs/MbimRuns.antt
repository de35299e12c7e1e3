-- The session of a plan twice: at a modem itself, and through a proxy where the tool is alone.
use Rattle.std.specs.Prelude.{◌≡◌, ℕ, true, false, List, Option, Some, None}
use Rattle.link_session.specs.Peer.{Finish}
use Rattle.proxy_history.specs.Events.{Event}
use Rattle.mbim_session.specs.declared.plan.MbimPlan.{MbimPlan}
use Rattle.mbim_services.specs.declared.answers.MbimAnswer.{MbimAnswer}
use Rattle.mbim_services.specs.declared.answers.MbimAnswer.TheVariants.{Success, Failure}
use Rattle.mbim_session.specs.Requests.{is_error, pieces}
use Rattle.mbim_session.specs.Answers.{body_with}
use Rattle.mbim_session.specs.Peer.{LastWord, OfCommand, session_at}
use Rattle.lone_client.specs.Relay.{Cast, directly, through}
use Rattle.twin_sessions.specs.Twice.{met_in}

abbrev pub direct_run : Cast → MbimPlan → Finish LastWord
direct_run cast plan = session_at (directly cast) (record plan { proxied = false })

abbrev pub through_run : Cast → MbimPlan → Finish LastWord
through_run cast plan = session_at (through cast) (record plan { proxied = true })

-- what the proxy meets
abbrev pub met : Cast → MbimPlan → List Event
met cast plan = met_in cast (through_run cast plan)

-- ---- ends of the two ----

-- both end with the answer to the same command, and the answers carry the same body; their numbers may differ
abbrev pub Alike : LastWord → LastWord → Type 0
Alike (OfCommand request number before message) (OfCommand request' number' before' message') =
    (request ≡ request') × (is_error number message.bytes ≡ false) × (is_error number' message'.bytes ≡ false)
    × (body_with (pieces number before) message ≡ body_with (pieces number' before') message')
Alike _ _ = ⊥

-- the status by which an answer refuses
abbrev pub status_in : MbimAnswer → Option ℕ
status_in (Success shape val) = None
status_in (Failure status) = Some status
