-- QMI messages as the buffers of an MBIM modem's commands and of their answers.
-- Source: the service QMI in libmbim's data/mbim-service-qmi.json. Where a buffer is ragged is this project's own.
use Rattle.std.specs.Prelude.{ℕ, true, if◌then◌else◌, List, [], ◌∷◌, length, Result, Ok, Err}
use Rattle.framing.specs.Framing.{is_message}
use Rattle.qmux_frame.specs.declared.head.Head.{Head}
use Rattle.qmux_frame.specs.Frame.{size_of, qmux_cut}
use Rattle.qmux_frame.specs.Head.{head_of}
use Rattle.mbim_services.specs.declared.sent.Command.{Command}
use Rattle.qmi_tunnel.specs.declared.service.TheConstants.{QMI_SERVICE, QMI_MESSAGE}
use Rattle.qmi_tunnel.specs.declared.unwrapping.Ragged.{Ragged}

-- a set whose buffer is the message
abbrev pub wrapped : (message : List ℕ) → Command
wrapped message = record { uuid = QMI_SERVICE; cid = QMI_MESSAGE; set = true; buffer = message }

-- behind the first of a buffer's messages, and at its start where it has none
abbrev pub first_end : (messages : List (List ℕ)) → ℕ
first_end [] = 0
first_end (first ∷ messages) = length first

-- one whole message, or it is ragged
abbrev pub unwrapped : (buffer : List ℕ) → Result Head Ragged
unwrapped buffer = if is_message size_of buffer then Ok (head_of buffer) else Err (record { place = first_end (qmux_cut buffer).messages })
