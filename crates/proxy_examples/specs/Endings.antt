-- Examples of clients that end: one that leaves, one whose stream goes bad, and one whose outbox lacks room for what is due to it.
use Rattle.std.specs.Prelude.{◌≡◌, ◌-◌, true, false, List, [], ◌∷◌, ◌++◌, length, None}
use Rattle.proxy_history.specs.Events.{Event, Piece, Left, Now}
use Rattle.proxy_history.specs.Facts.{Fact, Request, Ended, NoRoom, Answered, Expired, Indicated, Freed}
use Rattle.proxy_history.specs.Connections.{present, is_present, dropped}
use Rattle.proxy_history.specs.Requests.{pending, numbers_in_use}
use Rattle.proxy_history.specs.ClientIds.{held, holder}
use Rattle.qmi_proxy.specs.Limits.{outbox_limit}
use Rattle.qmi_proxy.specs.Text.{note, rendering}
use Rattle.qmi_proxy.specs.FromModem.{answer_or_late}
use Rattle.proxy_examples.specs.Story.{setup, get_version, version, sync, both_open, to_modem, history}
use Rattle.proxy_examples.specs.ClientIds.{release_5, released}

-- nobody is to be hung up where a client leaves
abbrev pub one_leaves : List Event
one_leaves = both_open (Left 1 ∷ [])

pub record LeavingHangsUpNobody : Type 0 where
  pub dropped : dropped (history one_leaves) ≡ []
  pub present : present (history one_leaves) ≡ 2 ∷ []

-- a bad stream of client 1, and then the clock: the name is to be hung up in its own event alone
abbrev pub goes_bad_before_the_clock : List Event
goes_bad_before_the_clock = both_open (Piece 1 (2 ∷ []) ∷ Now 1000 ∷ [])

pub record NamesAreOfTheirEvent : Type 0 where
  pub dropped : dropped (history goes_bad_before_the_clock) ≡ []
  pub present : present (history goes_bad_before_the_clock) ≡ 2 ∷ []

-- a good message, and behind it a byte that begins none: the message goes to the modem, and then the client ends
abbrev pub goes_bad_behind_a_message : List Event
goes_bad_behind_a_message = both_open (Piece 1 (get_version ++ 2 ∷ []) ∷ [])

pub record GoodMessagesCount : Type 0 where
  pub modem : to_modem goes_bad_behind_a_message ≡ get_version
  pub in_use : numbers_in_use 0 (history goes_bad_behind_a_message) ≡ 1 ∷ []
  pub waits : pending (history goes_bad_behind_a_message) ≡ []
  pub dropped : dropped (history goes_bad_behind_a_message) ≡ 1 ∷ []

-- ---- no room ----

-- client 1 is there, and its outbox has 11 bytes of room
pub record HasElevenLeft (past : List Fact) : Type 0 where
  pub present : is_present 1 past ≡ true
  pub going : (rendering setup.device 1 past).is_over ≡ false
  pub waiting : length (rendering setup.device 1 past).waiting ≡ outbox_limit - 11

-- client 1 asks for the version, and gives id 5 of DMS back
abbrev pub version_request : Request
version_request = record { serial = 1; conn = 1; place = 2; space = 0; number = 1; message = get_version; deadline = 30000 }

abbrev pub release_request : Request
release_request = record { serial = 1; conn = 1; place = 2; space = 0; number = 1; message = release_5; deadline = 30000 }

-- an indication of 12 bytes, an answer, and a refusal at the deadline each end the client
pub record NoRoomEnds : Type 0 where
  pub indication : (past : List Fact) → HasElevenLeft past
      → note setup.device (Indicated sync (1 ∷ [])) past ≡ Ended 1 NoRoom ∷ Indicated sync (1 ∷ []) ∷ past
  pub answer : (past : List Fact) → HasElevenLeft past
      → answer_or_late setup.device true version_request version past ≡ Ended 1 NoRoom ∷ Answered version_request version ∷ past
  pub expiry : (past : List Fact) → HasElevenLeft past
      → note setup.device (Expired version_request) past ≡ Ended 1 NoRoom ∷ Expired version_request ∷ past

-- the answer to a Release ends the client, and the id is free
pub record ReleasedWithoutRoom : Type 0 where
  pub facts : (past : List Fact) → HasElevenLeft past
      → answer_or_late setup.device true release_request released past ≡ Ended 1 NoRoom ∷ Answered release_request released ∷ Freed 1 2 5 ∷ past
  pub free : (past : List Fact) → HasElevenLeft past → held past ≡ record { conn = 1; service = 2; cid = 5 } ∷ []
      → holder 2 5 (answer_or_late setup.device true release_request released past) ≡ None
