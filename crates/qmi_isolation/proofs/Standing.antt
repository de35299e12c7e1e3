-- An answer stands in its sender's queue at the end of its event.
use Rattle.std.proofs.Common.{◌≡◌, ◌≢◌, ℕ, true, List, ◌∷◌, ◌++◌, Contains, Some}
use Rattle.qmux_frame.specs.declared.kind.MessageKind.TheVariants as kind
use Rattle.qmux_frame.specs.Frame.{size_of}
use Rattle.qmux_frame.specs.Kind.{framed_kind}
use Rattle.proxy_history.specs.Events.{Event, ModemPiece}
use Rattle.proxy_history.specs.Streams.{messages_of_piece, modem_stream}
use Rattle.proxy_history.specs.Facts.{Request}
use Rattle.proxy_history.specs.Requests.{pending}
use Rattle.proxy_history.specs.Coming.{AreSound}
use Rattle.proxy_history.specs.Standing.{IsServed}
use Rattle.proxy_history.proofs.Standing.{served}
use Rattle.qmi_proxy.specs.Limits.{qmi_limits}
use Rattle.qmi_proxy.specs.Setup.{Setup}
use Rattle.qmi_proxy.specs.Text.{qmi_wording}
use Rattle.qmi_proxy.specs.FromModem.{is_answered_by}
use Rattle.qmi_proxy.specs.History.{history, qmi_protocol}
use Rattle.qmi_proxy.proofs.Walk.{Asks, orderly}
use Rattle.qmi_isolation.specs.Laws.{facts_before, due}
use Rattle.qmi_isolation.proofs.Answers.{regular_before, sent_by_client, answers_have_one_receiver}

pub answers_stand : (s : Setup) (events : List Event) (stream piece : List ℕ) (earlier later : List (List ℕ)) (m : List ℕ) (r : Request)
    → AreSound (qmi_protocol s) events → modem_stream size_of s.starts_away events ≡ Some stream
    → messages_of_piece size_of stream piece ≡ earlier ++ m ∷ later → framed_kind m ≡ Some kind.Response
    → Contains (pending (facts_before s events earlier)) r → is_answered_by m r ≡ true → r.conn ≢ 0
    → IsServed qmi_limits (qmi_wording s.device) r.conn (due r m (facts_before s events earlier)) (facts_before s events earlier) (history s (ModemPiece piece ∷ events))
answers_stand s events stream piece earlier later m r sound back brings response at answers clients =
    served (qmi_protocol s) (Asks s) (orderly s) events earlier stream piece later m back brings r.conn (due r m (facts_before s events earlier))
    (sent_by_client (facts_before s events earlier) r (regular_before s events earlier sound) at clients).0
    (answers_have_one_receiver s events earlier m response r sound at answers clients).sender
