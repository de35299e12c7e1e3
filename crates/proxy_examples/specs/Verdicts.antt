-- An example of each decision on a client's message, and of each reply that a client's own view decides.
use Rattle.std.specs.Prelude.{◌≡◌, ℕ, ◌-◌, true, false, List, [], ◌∷◌, ◌++◌, reverse, codes, Some, None}
use Rattle.kit_bytes.specs.Hex.{hex}
use Rattle.proxy_history.specs.Events.{Event, Joined, Piece}
use Rattle.proxy_history.specs.Facts.{Foreign, Away, Full}
use Rattle.proxy_history.specs.Decision.{Replies, Forwards}
use Rattle.qmi_proxy.specs.Limits.{modem_outbox_limit}
use Rattle.qmi_proxy.specs.Clients.{shared_decision_of, has_room}
use Rattle.proxy_examples.specs.Story.{open_device, opened, get_version, both_open, bytes_for, to_modem}

-- ---- the client's own view decides ----

-- a message whose flags say that it is a response: error 1
abbrev pub flagged : List ℕ
flagged = hex (codes "01 0B 00 00 00 00 01 01 21 00 00 00")

-- an Allocate whose service has two bytes: error 1
abbrev pub long_allocate : List ℕ
long_allocate = hex (codes "01 10 00 00 00 00 00 01 22 00 05 00 01 02 00 02 00")

-- a Proxy Open of /dev/cdc-wdm1: error 3
abbrev pub open_other : List ℕ
open_other = hex (codes "01 1B 00 00 00 00 00 01 00 FF 10 00 01 0D 00 2F 64 65 76 2F 63 64 63 2D 77 64 6D 31")

-- Sync: success
abbrev pub ask_sync : List ℕ
ask_sync = hex (codes "01 0B 00 00 00 00 00 01 27 00 00 00")

-- DMS Get Model of client ids 0 and 255, and a Release of id 0: error 7
abbrev pub get_model_of_0 : List ℕ
get_model_of_0 = hex (codes "01 0C 00 00 02 00 00 01 00 22 00 00 00")

abbrev pub get_model_of_255 : List ℕ
get_model_of_255 = hex (codes "01 0C 00 00 02 FF 00 01 00 22 00 00 00")

abbrev pub release_0 : List ℕ
release_0 = hex (codes "01 10 00 00 00 00 00 01 23 00 05 00 01 02 00 02 00")

-- what client 1 gets behind the success of its Proxy Open
abbrev pub after_opening : List ℕ → List Event
after_opening message = both_open (Piece 1 message ∷ [])

abbrev pub all_of_them : List ℕ
all_of_them = flagged ++ long_allocate ++ open_other ++ open_device ++ ask_sync ++ get_model_of_0 ++ get_model_of_255 ++ release_0

pub record OwnRepliesFollow : Type 0 where
  pub response : bytes_for 1 (after_opening flagged) ≡ opened ++ hex (codes "01 12 00 80 00 00 01 01 21 00 07 00 02 04 00 01 00 01 00")
  pub long : bytes_for 1 (after_opening long_allocate) ≡ opened ++ hex (codes "01 12 00 80 00 00 01 01 22 00 07 00 02 04 00 01 00 01 00")
  pub other : bytes_for 1 (after_opening open_other) ≡ opened ++ hex (codes "01 12 00 80 00 00 01 01 00 FF 07 00 02 04 00 01 00 03 00")
  pub again : bytes_for 1 (after_opening open_device) ≡ opened ++ opened
  pub sync : bytes_for 1 (after_opening ask_sync) ≡ opened ++ hex (codes "01 12 00 80 00 00 01 01 27 00 07 00 02 04 00 00 00 00 00")
  pub nobody : bytes_for 1 (after_opening get_model_of_0) ≡ opened ++ hex (codes "01 13 00 80 02 00 02 01 00 22 00 07 00 02 04 00 01 00 07 00")
  pub everybody : bytes_for 1 (after_opening get_model_of_255) ≡ opened ++ hex (codes "01 13 00 80 02 FF 02 01 00 22 00 07 00 02 04 00 01 00 07 00")
  pub release : bytes_for 1 (after_opening release_0) ≡ opened ++ hex (codes "01 12 00 80 00 00 01 01 23 00 07 00 02 04 00 01 00 07 00")
  pub modem : to_modem (after_opening all_of_them) ≡ []

-- a Proxy Open of another device changes nothing once this one is open
pub record StaysOpen : Type 0 where
  pub client : bytes_for 1 (after_opening (open_other ++ get_version)) ≡ opened ++ hex (codes "01 12 00 80 00 00 01 01 00 FF 07 00 02 04 00 01 00 03 00")
  pub modem : to_modem (after_opening (open_other ++ get_version)) ≡ get_version

-- before a Proxy Open every other message gets error 3, a malformed one error 1
abbrev pub before_opening : List Event
before_opening = reverse (Joined 1 ∷ Piece 1 get_version ∷ Piece 1 ask_sync ∷ Piece 1 get_model_of_0 ∷ Piece 1 flagged ∷ [])

pub record MustOpenFirst : Type 0 where
  pub client : bytes_for 1 before_opening
      ≡ hex (codes "01 12 00 80 00 00 01 01 21 00 07 00 02 04 00 01 00 03 00")
      ++ hex (codes "01 12 00 80 00 00 01 01 27 00 07 00 02 04 00 01 00 03 00")
      ++ hex (codes "01 13 00 80 02 00 02 01 00 22 00 07 00 02 04 00 01 00 03 00")
      ++ hex (codes "01 12 00 80 00 00 01 01 21 00 07 00 02 04 00 01 00 01 00")
  pub modem : to_modem before_opening ≡ []

-- ---- what is shared decides: for client 1, the holder of the id, whether the modem is away, whether there is room, and the next number ----

pub record FirstThatFits : Type 0 where
  pub foreign : shared_decision_of 1 (Some 2) true false None ≡ Replies Foreign
  pub away : shared_decision_of 1 (Some 1) true false None ≡ Replies Away
  pub no_number : shared_decision_of 1 None false true None ≡ Replies Full
  pub no_room : shared_decision_of 1 None false false (Some 1) ≡ Replies Full
  pub own_id : shared_decision_of 1 (Some 1) false true (Some 1) ≡ Forwards 1
  pub no_id : shared_decision_of 1 None false true (Some 7) ≡ Forwards 7
  pub room : has_room (modem_outbox_limit - 12) get_version ≡ true
  pub none : has_room (modem_outbox_limit - 11) get_version ≡ false
