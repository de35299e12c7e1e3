-- The events of a rig are plain, and every moment of it is harmless. Lists of events and of facts have the newest first.
use Rattle.std.proofs.Common.{◌≡◌, ℕ, ◌≤◌, true, List, [], ◌∷◌, length, Some}
use Rattle.framing.specs.Framing.{IsMessage}
use Rattle.qmux_frame.specs.Frame.{size_of}
use Rattle.qmux_frame.specs.Kind.{framed_kind}
use Rattle.qmux_frame.specs.declared.kind.MessageKind.TheVariants.{Response}
use Rattle.proxy_history.specs.Events.{Event, Joined, Piece, ModemPiece, Now, Took, ModemTook}
use Rattle.proxy_history.specs.Coming.{piece_limit}
use Rattle.proxy_history.specs.Facts.{Fact}
use Rattle.proxy_history.specs.Connections.{is_present, message_count}
use Rattle.proxy_history.specs.Modem.{to_modem, modem_taken_count}
use Rattle.qmi_proxy.specs.Setup.{Setup}
use Rattle.qmi_proxy.specs.Limits.{connection_limit}
use Rattle.qmi_proxy.specs.Clients.{wire}
use Rattle.qmi_proxy.specs.History.{history}
use Rattle.rig_laws.proofs.Harmless.{AreHarmless}

-- ---- each client says whole messages while it is there, the modem answers with whole ones, and nobody leaves ----

-- a client that is there says one message
pub record IsSaid (c : ℕ) (m : List ℕ) (past : List Fact) : Type 0 where
  pub low : 1 ≤ c
  pub high : c ≤ connection_limit
  pub whole : IsMessage size_of m
  pub short : length m ≤ piece_limit
  pub there : is_present c past ≡ true

-- the modem gives one answer
pub record IsResponse (m : List ℕ) : Type 0 where
  pub whole : IsMessage size_of m
  pub short : length m ≤ piece_limit
  pub kind : framed_kind m ≡ Some Response

-- an event behind this history
abbrev pub IsPlain : Event → List Fact → Type 0
IsPlain (Joined c) past = message_count c past ≡ 0
IsPlain (Piece c m) past = IsSaid c m past
IsPlain (ModemPiece m) past = IsResponse m
IsPlain (Now time) past = Unit {0}
IsPlain (Took c count) past = Unit {0}
IsPlain (ModemTook count) past = Unit {0}
IsPlain _ past = ⊥

abbrev pub ArePlain : Setup → List Event → Type 0
ArePlain s [] = Unit {0}
ArePlain s (event ∷ events) = IsPlain event (history s events) × ArePlain s events

-- ---- every moment ----

-- at every moment of these events
abbrev pub AtEach : (List Event → Type 0) → List Event → Type 0
AtEach P [] = P []
AtEach P (event ∷ events) = P (event ∷ events) × AtEach P events

-- the facts so far tell nobody of others and refuse nothing, and the modem took no more than was there
pub record IsHarmlessNow (s : Setup) (events : List Event) : Type 0 where
  pub harmless : AreHarmless s (history s events)
  pub within : modem_taken_count (history s events) ≤ length (to_modem wire (history s events))
