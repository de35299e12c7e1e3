-- The requests that rules are for: those that are whole in one message.
use Rattle.std.specs.Prelude.{ℕ, ◌&&◌, ◌==◌, nat_lt, List, length, Option, Some, None, option_map, if◌then◌else◌}
use Rattle.kit_bytes.specs.declared.Kind.{Kind}
use Rattle.kit_bytes.specs.declared.Kind.TheVariants.{Qmi, Mbim}
use Rattle.qmux_frame.specs.declared.head.Head.{Head}
use Rattle.qmux_frame.specs.declared.kind.MessageKind.{MessageKind}
use Rattle.qmux_frame.specs.declared.kind.MessageKind.TheVariants.{Request}
use Rattle.qmux_frame.specs.Head.{head_of}
use Rattle.qmux_frame.specs.Kind.{framed_kind}
use Rattle.mbim_frame.specs.declared.bodies.CommandHead.{CommandHead}
use Rattle.mbim_frame.specs.declared.kind.MessageKind.TheVariants as mbim
use Rattle.mbim_frame.specs.Bodies.{read_command}
use Rattle.mbim_frame.specs.Fragment.{total_of, current_of, body_of}
use Rattle.mbim_frame.specs.Head.{is_kind}
use Rattle.modem_rules.specs.declared.kind.RequestKind.{RequestKind}
use Rattle.modem_rules.specs.declared.kind.RequestKind.TheVariants.{Message, Command}

abbrev pub if_request : Head → Option MessageKind → Option Head
if_request head (Some Request) = Some head
if_request head _ = None

-- the head of a QMI request
abbrev pub request_in : List ℕ → Option Head
request_in message = if nat_lt (length message) 12 then None else if_request (head_of message) (framed_kind message)

-- the head of an MBIM command that has one fragment
abbrev pub command_in : List ℕ → Option CommandHead
command_in message =
    if nat_lt (length message) 20 then None
    else if is_kind mbim.Command message && total_of message == 1 && current_of message == 0 then read_command (body_of message)
    else None

abbrev pub kind_of : Kind → List ℕ → Option RequestKind
kind_of Qmi message = option_map (λ head. Message head.service head.message) (request_in message)
kind_of Mbim message = option_map (λ head. Command head.uuid head.cid) (command_in message)
