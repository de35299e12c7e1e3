-- The client ids that the proxy itself releases: those whose holders went so long ago. A list of facts has the newest first.
use Rattle.std.specs.Prelude.{ℕ, zero, suc, ◌+◌, ◌-◌, Bool, true, false, ◌&&◌, ◌||◌, ◌==◌, nat_lt, nat_le, cond, List, [], ◌∷◌, length, Option, Some, None}
use Rattle.proxy_history.specs.Facts.{Request, Fact, Forwarded, Granted, Freed}
use Rattle.proxy_history.specs.Requests.{forward_count, next_number, deadline_of}
use Rattle.proxy_history.specs.ClientIds.{KeptId, kept}
use Rattle.proxy_history.specs.Modem.{now, modem_queue}
use Rattle.qmi_proxy.specs.Setup.{Setup}
use Rattle.qmi_proxy.specs.Spaces.{control_space, limit_of, top_of}
use Rattle.qmi_proxy.specs.Messages.{used_service, used_cid}
use Rattle.qmi_proxy.specs.Clients.{wire, has_room}

-- Release CID of this id, with the number 0
abbrev pub release_of : ℕ → ℕ → List ℕ
release_of service cid = 0x01 ∷ 0x10 ∷ 0x00 ∷ 0x00 ∷ 0x00 ∷ 0x00 ∷ 0x00 ∷ 0x00 ∷ 0x23 ∷ 0x00 ∷ 0x05 ∷ 0x00 ∷ 0x01 ∷ 0x02 ∷ 0x00 ∷ service ∷ cid ∷ []

-- the proxy itself is the sender
abbrev pub own_request : Setup → ℕ → ℕ → ℕ → List Fact → Request
own_request s service cid number past = record {
  serial = forward_count past + 1;
  conn = 0;
  place = 0;
  space = control_space;
  number = number;
  message = release_of service cid;
  deadline = deadline_of (now past) s.time_limit;
}

-- ---- which are due ----

abbrev pub is_before : KeptId → KeptId → Bool
is_before k l = nat_lt k.service l.service || (k.service == l.service && nat_lt k.cid l.cid)

abbrev pub nearer : Bool → KeptId → Option KeptId → Option KeptId
nearer false k found = found
nearer true k None = Some k
nearer true k (Some l) = Some (cond (is_before k l) k l)

-- the first of them in order of service, then id, that is kept for so long
unfoldable pub first_due : (after time : ℕ) → List KeptId → Option KeptId
first_due after time [] = None
first_due after time (k ∷ ids) = nearer (nat_le after (time - k.since)) k (first_due after time ids)

-- ---- releasing them ----

-- the proxy holds the id from then on
abbrev pub releases_one : Setup → KeptId → ℕ → List Fact → List Fact
releases_one s k number past = Granted 0 k.service k.cid ∷ Forwarded (own_request s k.service k.cid number past) ∷ past

abbrev pub own_number : List Fact → Option ℕ
own_number past = next_number (limit_of control_space) (top_of control_space) control_space past

abbrev pub number_if : Bool → Option ℕ → Option ℕ
number_if true number = number
number_if false number = None

-- the number under which the next one goes, where there is one and there is room
abbrev pub number_for_own : KeptId → List Fact → Option ℕ
number_for_own k past = number_if (has_room (length (modem_queue wire past)) (release_of k.service k.cid)) (own_number past)

-- one after the other, up to the first for which no number or no room is there, and at most so many
unfoldable pub releases : Setup → (after : ℕ) → ℕ → List Fact → List Fact
releases s after zero past = past
releases s after (suc count) past =
    elim (first_due after (now past) (kept past)) [
      | None ↦ past
      | Some k ↦ elim (number_for_own k past) [ None ↦ past | Some number ↦ releases s after count (releases_one s k number past) ]
    ]

abbrev pub release_due : Setup → Option ℕ → List Fact → List Fact
release_due s None past = past
release_due s (Some after) past = releases s after (length (kept past)) past

-- ---- an answer, or none ----

-- nobody holds the id of an own request that ended
abbrev pub freed_if : Bool → Request → List Fact → List Fact
freed_if true r past = Freed 0 (used_service r.message) (used_cid r.message) ∷ past
freed_if false r past = past
