use Rattle.std.proofs.Common.{refl}
use Rattle.framing.specs.Cutting.{cut_from}
use Rattle.qmux_frame.specs.Writing.{head_text}
use Rattle.link_session.specs.Marks.{marks_from, piece_marks}
use Rattle.link_session.specs.Peer.{ask, each_seen, ending}
use Rattle.device_core.specs.Requests as device
use Rattle.device_core.specs.Verdict.{reads, succeeds}
use Rattle.request_session.specs.Requests.{message_of}
use Rattle.request_session.specs.Session.{session}
use Rattle.request_session.proofs.examples.signal_info_is_asked.Goals as goal

pub returns : goal.returns
unfolding session message_of device.message_of head_text ask ending each_seen cut_from marks_from piece_marks reads succeeds
returns c = record { sent = refl; ends = refl; failure_sent = refl; failure = refl }
