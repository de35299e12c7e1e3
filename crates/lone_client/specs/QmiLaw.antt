-- What a client of a QMI proxy gets that is alone there, where the modem answers at once. Lists of texts have the newest first.
use Rattle.std.specs.Prelude.{◌≡◌, ◌≤◌, ℕ, Bool, true, false, List, [], ◌∷◌, length, Some}
use Rattle.framing.specs.Framing.{IsMessage}
use Rattle.framing.specs.Cutting.{cut}
use Rattle.qmux_frame.specs.declared.kind.MessageKind.TheVariants as kind
use Rattle.qmux_frame.specs.Frame.{size_of}
use Rattle.qmux_frame.specs.Head.{service_of, cid_of, number_of}
use Rattle.qmux_frame.specs.Kind.{framed_kind}
use Rattle.qmux_frame.specs.Reply.{with_number, result_reply}
use Rattle.proxy_history.specs.Coming.{AreSound, piece_limit}
use Rattle.proxy_history.specs.Requests.{last_number, following}
use Rattle.qmi_proxy.specs.Setup.{Setup}
use Rattle.qmi_proxy.specs.Spaces.{space_of, top_of}
use Rattle.qmi_proxy.specs.OwnReplies.{is_open, own_error, view_decides}
use Rattle.qmi_proxy.specs.Text.{view_of}
use Rattle.qmi_proxy.specs.History.{qmi_protocol, history}
use Rattle.qmi_proxy.specs.Proxy.{proxy_of}
use Rattle.lone_client.specs.Relay.{Answering, Cast, Stage, relayed, reply}

-- the client has this QMI proxy, and the proxy this modem
abbrev pub cast_of : Setup → Answering → Cast
cast_of s modem = record { proxy = proxy_of s; modem = modem; size = size_of }

module _ (s : Setup) (modem : Answering) (stage : Stage) where
  -- the client has opened the device by then
  abbrev pub has_opened : Bool
  has_opened = is_open s.device (view_of 1 (history s stage.events))

  -- the number under which a message goes to the modem then
  abbrev pub number_given : List ℕ → ℕ
  number_given m = following (top_of (space_of m)) (last_number (space_of m) (history s stage.events))

  abbrev pub as_sent : List ℕ → List ℕ
  as_sent m = with_number (number_given m) m

  -- the modem says this one response to the message, and nothing else
  pub record IsAnswered (m response : List ℕ) : Type 0 where
    pub sent : IsMessage size_of (as_sent m)
    pub alone : (cut size_of (modem stage.asked (as_sent m))).messages ≡ response ∷ []
    pub is_message : IsMessage size_of response
    pub short : length response ≤ piece_limit
    pub kind_is : framed_kind response ≡ Some kind.Response
    pub service : service_of m ≡ service_of response
    pub cid : cid_of m ≡ cid_of response
    pub number : number_given m ≡ number_of response

  -- a text is one message, and the modem answers it where the client's own view doesn't
  pub record IsMet (m : List ℕ) : Type 0 where
    pub is_message : IsMessage size_of m
    pub short : length m ≤ piece_limit
    pub answered : view_decides has_opened m ≡ false → (response : List ℕ) × IsAnswered m response

  -- its answer comes to the client under the client's own number
  pub record GetsItsAnswer (m : List ℕ) : Type 0 where
    pub own : view_decides has_opened m ≡ true → reply (cast_of s modem) m stage ≡ result_reply m (own_error s.device has_opened m)
    pub modems : (response : List ℕ) → view_decides has_opened m ≡ false → IsAnswered m response → reply (cast_of s modem) m stage ≡ with_number (number_of m) response

abbrev pub AreMet : Setup → Answering → List (List ℕ) → Type 0
AreMet s modem [] = Unit {0}
AreMet s modem (text ∷ texts) = IsMet s modem (relayed (cast_of s modem) texts) text × AreMet s modem texts

-- a client gets an answer to each of its messages, and the proxy can be run on what it meets then
abbrev pub LoneClientsAreAnswered : Type 0
LoneClientsAreAnswered =
    (s : Setup) → s.starts_away ≡ false → (modem : Answering) (text : List ℕ) (texts : List (List ℕ)) → AreMet s modem (text ∷ texts)
    → GetsItsAnswer s modem (relayed (cast_of s modem) texts) text × AreSound (qmi_protocol s) (relayed (cast_of s modem) (text ∷ texts)).events
