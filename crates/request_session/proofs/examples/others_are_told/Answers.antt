use Rattle.std.proofs.Common.{refl}
use Rattle.framing.specs.Cutting.{cut_from}
use Rattle.qmux_frame.specs.Writing.{head_text}
use Rattle.link_session.specs.Marks.{marks_from, piece_marks}
use Rattle.link_session.specs.Peer.{ask, each_seen, ending}
use Rattle.device_core.specs.Requests as device
use Rattle.device_core.specs.Verdict.{reads, succeeds}
use Rattle.request_session.specs.Requests.{message_of}
use Rattle.request_session.specs.Session.{session}
use Rattle.request_session.proofs.examples.others_are_told.Goals as goal

pub returns : goal.returns
unfolding session message_of device.message_of head_text ask ending each_seen cut_from marks_from piece_marks reads succeeds lib.Utf8.encode
returns c = record {
  kept_sent = refl;
  kept = refl;
  control_sent = refl;
  control = refl;
  refused_sent = refl;
  refused = refl;
  unopened_sent = refl;
  unopened = refl;
  unframed = refl;
  long_tlv = refl;
  no_result = refl;
  silence = refl;
}
