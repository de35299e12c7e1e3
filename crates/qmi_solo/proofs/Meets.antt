-- What a client of the QMI proxy meets alone: its piece comes whole, and the modem says nothing with it.
use Rattle.std.proofs.Common.{◌≡◌, ℕ, Bool, true, false, List, [], ◌∷◌, ◌++◌, map, refl, Option, Some, None}
use Rattle.qmux_frame.specs.Frame.{size_of}
use Rattle.proxy_history.specs.Events.{Event, Piece, ModemGone}
use Rattle.proxy_history.specs.Streams.{stream, modem_stream, messages_of_piece, is_bad}
use Rattle.proxy_history.specs.Items.{Item, Says, GoesBad, item_if, is_lost_once}
use Rattle.proxy_history.specs.Facts.{Fact, EventBegan}
use Rattle.proxy_solo.specs.Part as alone_part
use Rattle.proxy_solo.specs.Solo as alone
use Rattle.qmi_proxy.specs.Setup.{Setup}
use Rattle.qmi_proxy.specs.Text.{blank}
use Rattle.qmi_proxy.specs.History.{qmi_protocol, items_of, history}
use Rattle.qmi_solo.specs.Solo.{qmi_alone}

abbrev pub meet : Setup → Event → List Event → List Event
meet s event solo = alone.meet (qmi_protocol s) (qmi_alone s) event solo

abbrev pub meet_if : Bool → Setup → Event → List Event → List Event
meet_if b s event solo = alone.meet_if b (qmi_protocol s) (qmi_alone s) event solo

abbrev pub meet_pieces : Setup → List (List ℕ) → List Event → List Event
meet_pieces s pieces solo = alone.meet_pieces (qmi_protocol s) (qmi_alone s) pieces solo

abbrev pub meet_message : Setup → Option (List ℕ) → List Event → List Event
meet_message s o solo = alone.meet_bytes (qmi_protocol s) (qmi_alone s) o solo

abbrev pub hear_all : Setup → ℕ → List Item → List Fact → List Event → List Event
hear_all s c items past solo = alone.hear_all (qmi_protocol s) (qmi_alone s) c items past solo

-- what a piece of the modem brings
abbrev pub meet_items : Setup → ℕ → List Item → List Fact → List Event → List Event
meet_items s c items past solo = meet_if (alone.fails items) s ModemGone (hear_all s c items past solo)

abbrev pub meet_event : Setup → ℕ → List Event → Event → List Event → List Event
meet_event s c events event solo = alone.meet_event (qmi_protocol s) (qmi_alone s) c events event solo

-- a fact, and one of the client's part
abbrev pub as_known : ℕ → Fact → Fact
as_known c fact = alone_part.as_known blank c fact

abbrev pub fact_if : Bool → Fact → List Fact → List Fact
fact_if b fact facts = alone_part.facts_if b (fact ∷ []) facts

module _ (s : Setup) (c : ℕ) where
  hears_none : (messages : List (List ℕ)) (bad : Bool) (past : List Fact) (solo : List Event) → hear_all s c (map (λ m. Says c m) messages ++ item_if bad (GoesBad c)) past solo ≡ solo
  unfolding alone.hear_all
  hears_none [] true past solo = refl
  hears_none [] false past solo = refl
  hears_none (m ∷ messages) bad past solo = hears_none messages bad _ solo

  pub meets_whole : (events : List Event) (bytes : List ℕ) (solo : List Event) → alone.meet_own (qmi_protocol s) (qmi_alone s) c events bytes solo ≡ meet s (Piece c bytes) solo
  unfolding alone.meet_parts
  meets_whole events bytes solo = hears_none (messages_of_piece size_of (stream c events) bytes) (is_bad size_of (stream c events ++ bytes)) (EventBegan ∷ history s events) (meet s (Piece c bytes) solo)

  pub hears_no_loss : (events solo : List Event) → hear_all s c (items_of s events ModemGone) (EventBegan ∷ history s events) solo ≡ solo
  unfolding alone.hear_all
  hears_no_loss events solo =
      elim (modem_stream size_of s.starts_away events) as (λ o. hear_all s c (is_lost_once o) (EventBegan ∷ history s events) solo ≡ solo) [ None ↦ refl | Some bytes ↦ refl ]
