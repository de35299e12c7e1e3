-- What a client gets beside others, it gets alone: what the laws of the protocols say. Lists of events and views have the newest first.
use Rattle.std.specs.Prelude.{◌≡◌, ℕ, Bool, true, false, List, [], All}
use Rattle.proxy_history.specs.Events.{Event}
use Rattle.proxy_history.specs.Facts.{Fact, NotAdmitted, Foreign, Full}
use Rattle.proxy_history.specs.Connections.{is_present}
use Rattle.proxy_history.specs.Requests.{in_use, pending}
use Rattle.proxy_history.specs.ClientIds.{held}
use Rattle.proxy_history.specs.Modem.{now, is_away}
use Rattle.proxy_history.specs.Modem as modem
use Rattle.proxy_history.specs.Noting.{rendering}
use Rattle.proxy_history.specs.Coming.{AreSound}
use Rattle.proxy_history.specs.Adding.{IsOrderly}
use Rattle.proxy_history.specs.Orderly.{Anything}
use Rattle.proxy_history.specs.View.{Entry, Said, Refused, End, HeldId, view}
use Rattle.proxy_history.specs.Protocol.{Protocol}
use Rattle.proxy_history.specs.History.{known_of, history, text_for}
use Rattle.proxy_solo.specs.Alone.{Alone}
use Rattle.proxy_solo.specs.Solo.{solo}
use Rattle.proxy_solo.specs.Part.{part, sent_by, held_by}

-- ---- what a client has of others ----

-- the client was one too many, its client id was another's, or what all share was used up
abbrev pub tells_of_others : Entry → Bool
tells_of_others (Said message Foreign) = true
tells_of_others (Said message Full) = true
tells_of_others (Refused place HeldId) = true
tells_of_others (End NotAdmitted) = true
tells_of_others _ = false

-- the client was let in, if it came, and nothing that it met tells of others
abbrev pub IsUndisturbed : List Entry → Type 0
IsUndisturbed entries = All (λ entry. tells_of_others entry ≡ false) entries

-- these events may come, and nothing that the client met tells of others
pub record IsLetAlone {Known : Type 0} (p : Protocol Known) (c : ℕ) (events : List Event) : Type 0 where
  pub sound : AreSound p events
  pub undisturbed : IsUndisturbed (view p.wording.blank c (history p events))

-- ---- what such a client gets ----

-- its bytes are those that it gets alone
abbrev pub GetsTheSame : {Known : Type 0} → Protocol Known → Alone → ℕ → List Event → Type 0
GetsTheSame p a c events = text_for p c (solo p a c events) ≡ text_for p c events

-- what it meets alone may come: a proxy can be run on it
abbrev pub MayComeAlone : {Known : Type 0} → Protocol Known → Alone → ℕ → List Event → Type 0
MayComeAlone p a c events = AreSound p (solo p a c events)

-- ---- the two histories ----

-- the history of all, and that of the client alone
pub record IsSame {Known : Type 0} (p : Protocol Known) (a : Alone) (c : ℕ) (past own : List Fact) : Type 0 where
  -- the facts that concern the client are the same, but for what only the proxy knows
  pub facts : part p.wording.blank a.restated c past ≡ part p.wording.blank a.restated c own
  -- so each question that the proxy asks for its sake has the same answer in both
  pub bytes : rendering p.limits p.wording c past ≡ rendering p.limits p.wording c own
  pub known : known_of p c past ≡ known_of p c own
  pub there : is_present c past ≡ is_present c own
  -- its requests in their order, each with its place, its message and its deadline
  pub requests : sent_by c (in_use past) ≡ sent_by c (in_use own)
  pub waiting : sent_by c (pending past) ≡ sent_by c (pending own)
  pub ids : held_by c (held past) ≡ held_by c (held own)
  pub time : now past ≡ now own
  pub away : is_away p.starts_away past ≡ is_away p.starts_away own
  -- alone nothing waits for the modem
  pub queue : modem.modem_queue p.wire own ≡ []

-- ---- what holds of every orderly protocol ----

-- what the client meets alone takes it to the time at which all are
abbrev pub TimeIsTheSame : Type 0 → Type 0
TimeIsTheSame Known = (p : Protocol Known) → IsOrderly p Anything → (a : Alone) (c : ℕ) (events : List Event) → now (history p events) ≡ now (history p (solo p a c events))
