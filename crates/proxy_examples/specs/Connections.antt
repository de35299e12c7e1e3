-- Examples of connections that join and end, and of a modem that is away.
use Rattle.std.specs.Prelude.{◌≡◌, ℕ, zero, suc, ◌-◌, true, List, [], ◌∷◌, ◌++◌, take, length, codes, false, None}
use Rattle.kit_bytes.specs.Hex.{hex}
use Rattle.proxy_history.specs.Events.{Event, Joined, Piece, ModemGone, ModemBack, ModemPiece}
use Rattle.proxy_history.specs.Connections.{present, dropped}
use Rattle.proxy_history.specs.Rendering.{Rendering, put}
use Rattle.qmi_proxy.specs.Limits.{outbox_limit}
use Rattle.qmi_proxy.specs.Setup.{Setup}
use Rattle.qmi_proxy.specs.History as proxy
use Rattle.proxy_examples.specs.Story.{setup, opened, get_version, version, version_internal, version_aborted, both_open, bytes_for, to_modem, history}

-- both are there, in order of joining, and the stream of client 1 goes on with a byte that begins no message
abbrev pub goes_bad : List Event
goes_bad = both_open (Piece 1 (2 ∷ []) ∷ [])

pub record BadStreamIsDropped : Type 0 where
  pub before : present (history (both_open [])) ≡ 1 ∷ 2 ∷ []
  pub dropped : dropped (history goes_bad) ≡ 1 ∷ []
  pub present : present (history goes_bad) ≡ 2 ∷ []
  pub second : bytes_for 2 goes_bad ≡ opened

-- a refusal of 19 bytes is due to a client whose outbox has 18 bytes of room: what was queued stays, and nothing is added
pub record FullOutboxEnds : Type 0 where
  pub full : (r : Rendering) → r.is_over ≡ false → length r.waiting ≡ outbox_limit - 18
      → put outbox_limit version_aborted r ≡ record { bytes = r.bytes; waiting = r.waiting; is_over = true }
  pub fits : (r : Rendering) → r.is_over ≡ false → length r.waiting ≡ outbox_limit - 19
      → put outbox_limit version_aborted r ≡ record { bytes = r.bytes ++ version_aborted; waiting = r.waiting ++ version_aborted; is_over = false }

-- clients 1 to n
abbrev pub joined : ℕ → List Event
joined zero = []
joined (suc n) = Joined (suc n) ∷ joined n

pub record SixtyFifthIsDropped : Type 0 where
  pub before : dropped (history (joined 64)) ≡ []
  pub dropped : dropped (history (joined 65)) ≡ 65 ∷ []
  pub present : length (present (history (joined 65))) ≡ 64

-- a modem that is away at the opening: a client's own view still answers, and nothing is forwarded
abbrev pub away_setup : Setup
away_setup = record { device = setup.device; time_limit = setup.time_limit; starts_away = true; release = None }

abbrev pub asks_nobody : List Event
asks_nobody = both_open (Piece 1 get_version ∷ [])

pub record AwayModemIsRefused : Type 0 where
  pub first : (proxy.text_for away_setup 1 asks_nobody).bytes ≡ opened ++ version_internal
  pub modem : proxy.to_modem away_setup asks_nobody ≡ []

-- the modem is lost while a request waits, and comes back: its stream and its queue begin anew, the numbers go on
abbrev pub loses : List Event
loses =
    both_open (
    Piece 1 get_version ∷ ModemPiece (take 2 version) ∷ ModemGone
    ∷ Piece 1 get_version ∷ ModemBack ∷ Piece 1 get_version ∷ [])

abbrev pub get_version_as_2 : List ℕ
get_version_as_2 = hex (codes "01 0B 00 00 00 00 00 02 21 00 00 00")

pub record LostModemAborts : Type 0 where
  pub first : bytes_for 1 loses ≡ opened ++ version_aborted ++ version_internal
  pub modem : to_modem loses ≡ get_version_as_2
