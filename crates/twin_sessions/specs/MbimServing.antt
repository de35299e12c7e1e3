-- A modem that serves the session of a plan. Lists of messages have the newest first.
use Rattle.std.specs.Prelude.{◌≡◌, ℕ, ◌≤◌, true, false, List, [], ◌∷◌, ◌++◌, length}
use Rattle.std.specs.List.{AllByRecursion}
use Rattle.mbim_frame.specs.declared.kind.MessageKind.TheVariants as kind
use Rattle.mbim_frame.specs.declared.status.TheConstants.{SUCCESS}
use Rattle.mbim_frame.specs.Frame.{size_of}
use Rattle.mbim_frame.specs.Kinds.{kind_number}
use Rattle.mbim_frame.specs.Fragment.{body_of}
use Rattle.mbim_frame.specs.Bodies.{is_command, is_done}
use Rattle.mbim_frame.specs.Bodies as bodies
use Rattle.mbim_frame.specs.Writing.{open_request, open_done, close_request, close_done}
use Rattle.mbim_fragments.specs.Splitting.{pieces}
use Rattle.proxy_history.specs.Coming.{piece_limit}
use Rattle.mbim_requests.specs.declared.MbimRequest.{MbimRequest}
use Rattle.mbim_session.specs.declared.plan.MbimPlan.{MbimPlan}
use Rattle.mbim_session.specs.Requests.{command_head, buffer_for}
use Rattle.mbim_session.specs.Session.{configuration}
use Rattle.mbim_proxy.specs.Setup.{mbim_setup}
use Rattle.mbim_proxy.specs.OwnReplies.{is_for_proxy, is_subscribe_list, configures}
use Rattle.mbim_proxy.specs.Forwarding.{own_subscribe}
use Rattle.lone_client.specs.Relay.{Answering, sent_for, asked_then}
use Rattle.lone_client.specs.Turns.{longest_message, command_text}
use Rattle.lone_client.specs.MbimLaw.{IsShort, IsTold, done_messages, done_bytes, told_messages, told_bytes}

-- the body of a request's command
abbrev pub command_of : MbimRequest → List ℕ
command_of request = bodies.command_text (command_head request) (buffer_for request)

-- the messages of the command with this body and number
abbrev pub messages_of : (number : ℕ) → (command : List ℕ) → List (List ℕ)
messages_of number command = pieces (kind_number kind.Command) number longest_message command

-- a command that fits the limits
pub record Fits (command : List ℕ) : Type 0 where
  pub is_command : is_command command ≡ true
  pub short : IsShort command
  pub comes_at_once : (number : ℕ) → length (command_text number command) ≤ piece_limit

-- the plan's configuration names the proxy's device, and its command is for the modem
pub record IsPlan (plan : MbimPlan) : Type 0 where
  pub configuration_fits : Fits (command_of (configuration plan))
  pub configures : (time_limit : ℕ) → configures (mbim_setup plan.device time_limit false) (command_of (configuration plan)) ≡ true
  pub fits : Fits (command_of plan.request)
  pub for_modem : is_for_proxy (command_of plan.request) ≡ false
  pub no_list : is_subscribe_list (command_of plan.request) ≡ false

-- the modem answers what it is asked with this body, and behind it tells this
pub record Answers (modem : Answering) (asked : List (List ℕ)) (number : ℕ) (command : List ℕ) (told : List (List ℕ)) : Type 0 where
  pub done : List ℕ
  pub says : sent_for size_of modem asked (messages_of number command) ≡ done_messages number done ++ told_messages told
  pub is_done : is_done done ≡ true
  pub short : IsShort done

abbrev pub opened : List (List ℕ)
opened = open_request 1 longest_message ∷ []

-- what the modem was asked once it heard the plan's command
abbrev pub commanded : MbimPlan → List (List ℕ)
commanded plan = asked_then opened (messages_of 2 (command_of plan.request))

-- it is opened under number 1, is asked the plan's command under number 2, and then is closed by the tool or asked for no indications by the proxy
pub record IsServed (modem : Answering) (plan : MbimPlan) : Type 0 where
  pub opens : modem [] (open_request 1 longest_message) ≡ open_done 1 SUCCESS
  pub told : List (List ℕ)
  pub answers : Answers modem opened 2 (command_of plan.request) told
  pub are_told : AllByRecursion IsTold told
  pub room : (number : ℕ) → length (done_bytes number answers.done ++ told_bytes told) ≤ 262144
  pub closes : modem (commanded plan) (close_request 3) ≡ close_done 3 SUCCESS
  pub unlists : Answers modem (commanded plan) 3 (body_of (own_subscribe [])) []
