-- How facts are noted: what one fact brings with it. A list of facts has the newest first.
use Rattle.std.specs.Prelude.{ℕ, ◌&&◌, nat_lt, if◌then◌else◌, List, [], ◌∷◌, length}
use Rattle.proxy_history.specs.Limits.{Limits}
use Rattle.proxy_history.specs.Facts.{Why, NotAdmitted, NoRoom, Request, Fact, Admitted, Ended, Judged, Answered, IdHeld, Expired, Aborted, Indicated, OpeningEnded}
use Rattle.proxy_history.specs.Connections.{present, is_present}
use Rattle.proxy_history.specs.Requests.{is_pending}
use Rattle.proxy_history.specs.View.{view}
use Rattle.proxy_history.specs.Rendering.{Rendering, render}
use Rattle.proxy_history.specs.Wording.{Wording, text_behind}

-- the bytes for a connection
abbrev pub rendering : {Known : Type 0} → Limits → Wording Known → ℕ → List Fact → Rendering
rendering limits wording c past = render limits.outbox (text_behind wording) (view wording.blank c past)

-- ---- connections ----

-- a connection ends
abbrev pub end : ℕ → Why → List Fact → List Fact
end c why past = Ended c why ∷ past

-- a connection is let in, or refused where there are as many as may be
abbrev pub join : Limits → ℕ → List Fact → List Fact
join limits c past = if nat_lt (length (present past)) limits.connections then Admitted c ∷ past else end c NotAdmitted past

-- what a client does counts while it is there
abbrev pub if_present : ℕ → List Fact → List Fact → List Fact
if_present c past then_facts = if is_present c past then then_facts else past

-- ---- facts that bring bytes to clients ----

-- the connections whose views a fact may add bytes to
abbrev pub receivers_of : Fact → List ℕ
receivers_of (Judged c place message verdict) = c ∷ []
receivers_of (Answered r message) = r.conn ∷ []
receivers_of (IdHeld r) = r.conn ∷ []
receivers_of (Expired r) = r.conn ∷ []
receivers_of (Aborted r) = r.conn ∷ []
receivers_of (Indicated message receivers) = receivers
receivers_of (OpeningEnded status receivers) = receivers
receivers_of _ = []

-- a connection that is there ends where its outbox lacks room for the bytes that came last
abbrev pub end_if_overfull : {Known : Type 0} → Limits → Wording Known → ℕ → List Fact → List Fact
end_if_overfull limits wording c past = if is_present c past && (rendering limits wording c past).is_over then end c NoRoom past else past

unfoldable pub end_overfull : {Known : Type 0} → Limits → Wording Known → List ℕ → List Fact → List Fact
end_overfull limits wording [] past = past
end_overfull limits wording (c ∷ receivers) past = end_overfull limits wording receivers (end_if_overfull limits wording c past)

-- a fact, and the ends that it brings with it
abbrev pub note : {Known : Type 0} → Limits → Wording Known → Fact → List Fact → List Fact
note limits wording fact past = end_overfull limits wording (receivers_of fact) (fact ∷ past)

-- ---- requests ----

abbrev pub if_pending : (Request → List Fact → List Fact) → Request → List Fact → List Fact
if_pending action r past = if is_pending r past then action r past else past

-- what is done to these requests in turn, but to those that no longer wait: what is done to one may end a connection with more
unfoldable pub each_pending : (Request → List Fact → List Fact) → List Request → List Fact → List Fact
each_pending action [] past = past
each_pending action (r ∷ requests) past = each_pending action requests (if_pending action r past)
