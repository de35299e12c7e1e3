-- The streams of plain events are whole messages. Lists of events have the newest first.
use Rattle.std.proofs.Common.{◌≡◌, ℕ, Bool, true, false, ◌==◌, if◌then◌else◌, List, [], ◌∷◌, ◌++◌, map, refl, ap, ◌∙◌, Some, None}
use Rattle.framing.specs.Framing.{IsMessage}
use Rattle.framing.specs.Cutting.{cut_from, cut}
use Rattle.qmux_frame.specs.Frame.{size_of}
use Rattle.qmux_frame.specs.Framing.{size_of-kept, size_of-positive}
use Rattle.proxy_history.specs.Events.{Event, Joined, Piece, Left, ModemPiece, ModemGone, ModemBack, Now, Took, ModemTook}
use Rattle.proxy_history.specs.Items.{Item, Says, ModemSays, ModemIsLost, GoesBad, item_if, modem_items}
use Rattle.proxy_history.specs.Streams.{stream, modem_stream, with_piece, is_bad}
use Rattle.proxy_history.specs.Facts.{EventBegan}
use Rattle.proxy_history.specs.History as proxy
use Rattle.proxy_history.proofs.Pieces.{EndsMessage, ends_message}
use Rattle.qmi_proxy.specs.Setup.{Setup}
use Rattle.qmi_proxy.specs.History.{qmi_protocol, items_of, add, history}
use Rattle.rig_laws.proofs.Plain.{ArePlain}

-- a message behind whole ones
ends : (before m : List ℕ) → (cut size_of before).rest ≡ [] → IsMessage size_of m → EndsMessage size_of size_of-kept size_of-positive refl before m m
ends before m rest is = ends_message size_of size_of-kept size_of-positive refl before m [] m rest refl is

module _ (s : Setup) (there : s.starts_away ≡ false) where
  clear_if : (b : Bool) (one other : List ℕ) → (cut size_of one).rest ≡ [] → (cut size_of other).rest ≡ [] → (cut size_of (if b then one else other)).rest ≡ []
  clear_if true one other first second = first
  clear_if false one other first second = second

  pub client_clear : (c : ℕ) (events : List Event) → ArePlain s events → (cut size_of (stream c events)).rest ≡ []
  unfolding stream cut_from
  client_clear c [] plain = refl
  client_clear c (Joined d ∷ events) plain = clear_if (d == c) [] (stream c events) refl (client_clear c events plain.1)
  client_clear c (Piece d m ∷ events) plain =
      let before = client_clear c events plain.1 in clear_if (d == c) (stream c events ++ m) (stream c events) (ends (stream c events) m before plain.0.whole).rest before
  client_clear c (ModemPiece m ∷ events) plain = client_clear c events plain.1
  client_clear c (Now time ∷ events) plain = client_clear c events plain.1
  client_clear c (Took d count ∷ events) plain = client_clear c events plain.1
  client_clear c (ModemTook count ∷ events) plain = client_clear c events plain.1
  client_clear c (Left d ∷ events) plain = absurd plain.0
  client_clear c (ModemGone ∷ events) plain = absurd plain.0
  client_clear c (ModemBack ∷ events) plain = absurd plain.0

  -- the modem's stream is there
  pub record IsClear (events : List Event) : Type 0 where
    pub before : List ℕ
    pub stream : modem_stream size_of s.starts_away events ≡ Some before
    pub rest : (cut size_of before).rest ≡ []

  pub modem_clear : (events : List Event) → ArePlain s events → IsClear events
  unfolding modem_stream cut_from
  modem_clear [] plain = record { before = []; stream = ap (λ (b : Bool). if b then None else Some []) there; rest = refl }
  modem_clear (ModemPiece m ∷ events) plain =
      let C = modem_clear events plain.1 in let e = ends C.before m C.rest plain.0.whole in
      record { before = C.before ++ m; stream = ap (with_piece size_of m) C.stream ∙ ap (λ (b : Bool). if b then None else Some (C.before ++ m)) e.good; rest = e.rest }
  modem_clear (Joined d ∷ events) plain = let C = modem_clear events plain.1 in record { before = C.before; stream = C.stream; rest = C.rest }
  modem_clear (Piece d m ∷ events) plain = let C = modem_clear events plain.1 in record { before = C.before; stream = C.stream; rest = C.rest }
  modem_clear (Now time ∷ events) plain = let C = modem_clear events plain.1 in record { before = C.before; stream = C.stream; rest = C.rest }
  modem_clear (Took d count ∷ events) plain = let C = modem_clear events plain.1 in record { before = C.before; stream = C.stream; rest = C.rest }
  modem_clear (ModemTook count ∷ events) plain = let C = modem_clear events plain.1 in record { before = C.before; stream = C.stream; rest = C.rest }
  modem_clear (Left d ∷ events) plain = absurd plain.0
  modem_clear (ModemGone ∷ events) plain = absurd plain.0
  modem_clear (ModemBack ∷ events) plain = absurd plain.0

  -- ---- the items of a message ----

  pub says_one : (c : ℕ) (m : List ℕ) (events : List Event) → ArePlain s events → IsMessage size_of m → items_of s events (Piece c m) ≡ Says c m ∷ []
  says_one c m events plain is =
      let e = ends (stream c events) m (client_clear c events plain) is in
      ap (λ (messages : List (List ℕ)). map (λ m. Says c m) messages ++ item_if (is_bad size_of (stream c events ++ m)) (GoesBad c)) e.messages
      ∙ ap (λ (b : Bool). Says c m ∷ item_if b (GoesBad c)) e.good

  pub hears_one : (m : List ℕ) (events : List Event) → ArePlain s events → IsMessage size_of m → items_of s events (ModemPiece m) ≡ ModemSays m ∷ []
  hears_one m events plain is =
      let C = modem_clear events plain in let e = ends C.before m C.rest is in
      ap (modem_items (qmi_protocol s) m) C.stream
      ∙ ap (λ (messages : List (List ℕ)). map (λ m. ModemSays m) messages ++ item_if (is_bad size_of (C.before ++ m)) ModemIsLost) e.messages
      ∙ ap (λ (b : Bool). ModemSays m ∷ item_if b ModemIsLost) e.good

  -- what an event of one item adds
  pub adds_one : (event : Event) (events : List Event) (item : Item) → items_of s events event ≡ item ∷ [] → history s (event ∷ events) ≡ add s item (EventBegan ∷ history s events)
  unfolding proxy.history proxy.add_all
  adds_one event events item is = ap (λ (items : List Item). proxy.add_all (qmi_protocol s) items (EventBegan ∷ history s events)) is
