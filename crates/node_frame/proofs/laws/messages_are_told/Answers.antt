use Rattle.node_frame.proofs.Told.{message_of_qmux, message_of_mbim}
use Rattle.node_frame.proofs.laws.messages_are_told.Goals as goal

pub returns : goal.returns
returns c = record { of_qmux = message_of_qmux; of_mbim = message_of_mbim }
