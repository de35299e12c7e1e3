-- The summary of a rig's run: counts over the facts of its history. Lists of facts and of events have the newest first.
use Rattle.std.specs.Prelude.{◌≡◌, ℕ, ◌+◌, Bool, true, false, not, ◌==◌, if◌then◌else◌, List, [], ◌∷◌, ◌++◌, length, filter, codes, decimal, bytes_eq}
use Rattle.std.specs.List.{list_all, range_with_len}
use Rattle.proxy_history.specs.Events.{Event}
use Rattle.proxy_history.specs.Facts.{Fact, Verdict, Share, Judged, Forwarded, Answered, Expired, Late}
use Rattle.proxy_history.specs.View.{view}
use Rattle.proxy_history.specs.Protocol.{Protocol}
use Rattle.proxy_history.specs.History.{history, text_for}
use Rattle.proxy_solo.specs.Alone.{Alone}
use Rattle.proxy_solo.specs.Solo.{solo}
use Rattle.proxy_solo.specs.Law.{tells_of_others}

-- ---- requests of clients, and what became of them; sender 0 is the proxy itself ----

abbrev pub count : (Fact → Bool) → List Fact → ℕ
count test facts = length (filter test facts)

abbrev pub is_forwarded : Fact → Bool
is_forwarded (Forwarded r) = not (r.conn == 0)
is_forwarded _ = false

abbrev pub is_answered : Fact → Bool
is_answered (Answered r message) = not (r.conn == 0)
is_answered _ = false

abbrev pub is_expired : Fact → Bool
is_expired (Expired r) = not (r.conn == 0)
is_expired _ = false

abbrev pub is_late : Fact → Bool
is_late (Late r) = not (r.conn == 0)
is_late _ = false

-- ---- refusals ----

-- whether the reply that comes with this verdict on a client's message refuses it; the facts are those before
abbrev pub Refusal : Type 0
Refusal = (conn : ℕ) → (message : List ℕ) → Verdict → List Fact → Bool

abbrev pub one_if : Bool → ℕ
one_if b = if b then 1 else 0

unfoldable pub refused : Refusal → List Fact → ℕ
refused is_refusal [] = 0
refused is_refusal (Judged c place m verdict ∷ past) = one_if (is_refusal c m verdict past) + refused is_refusal past
refused is_refusal (_ ∷ past) = refused is_refusal past

-- whether a client's message would go to the modem while as many of its requests wait as may; the facts are those before
abbrev pub Passing : Type 0
Passing = (conn : ℕ) → (message : List ℕ) → List Fact → Bool

-- a message with this verdict is refused just where it passes its client's share, and then for that
pub record IsForShare (is_refusal : Refusal) (passes : Passing) (c : ℕ) (m : List ℕ) (verdict : Verdict) (past : List Fact) : Type 0 where
  pub just_then : is_refusal c m verdict past ≡ passes c m past
  pub for_that : is_refusal c m verdict past ≡ true → verdict ≡ Share

-- so it is with each message
abbrev pub AreForShares : Refusal → Passing → List Fact → Type 0
AreForShares is_refusal passes [] = Unit {0}
AreForShares is_refusal passes (Judged c place m verdict ∷ past) = IsForShare is_refusal passes c m verdict past × AreForShares is_refusal passes past
AreForShares is_refusal passes (_ ∷ past) = AreForShares is_refusal passes past

-- ---- the clients ----

-- the client was let in, and nothing that it met tells of others
abbrev pub is_let_alone : {Known : Type 0} → Protocol Known → List Fact → ℕ → Bool
is_let_alone p past c = list_all (λ entry. not (tells_of_others entry)) (view p.wording.blank c past)

-- it gets the bytes that it gets alone
abbrev pub gets_the_same : {Known : Type 0} → Protocol Known → Alone → List Event → ℕ → Bool
gets_the_same p a events c = bytes_eq (text_for p c events).bytes (text_for p c (solo p a c events)).bytes

abbrev pub counted : {Known : Type 0} → Protocol Known → (clients : ℕ) → List Event → List ℕ
counted p clients events = filter (is_let_alone p (history p events)) (range_with_len 1 clients)

abbrev pub equal : {Known : Type 0} → Protocol Known → Alone → (clients : ℕ) → List Event → List ℕ
equal p a clients events = filter (gets_the_same p a events) (counted p clients events)

-- ---- the summary ----

pub record Summary : Type 0 where
  pub clients : ℕ
  pub turns : ℕ
  pub forwarded : ℕ
  pub answered : ℕ
  pub expired : ℕ
  pub late : ℕ
  pub refused : ℕ
  -- of the clients that nothing told of others, how many got the bytes that they get alone
  pub equal : ℕ
  pub counted : ℕ

abbrev pub summary : {Known : Type 0} → Protocol Known → Alone → Refusal → (clients turns : ℕ) → List Event → Summary
summary p a is_refusal clients turns events = record {
  clients = clients;
  turns = turns;
  forwarded = count is_forwarded (history p events);
  answered = count is_answered (history p events);
  expired = count is_expired (history p events);
  late = count is_late (history p events);
  refused = refused is_refusal (history p events);
  equal = length (equal p a clients events);
  counted = length (counted p clients events);
}

-- ---- its lines ----

abbrev pub line : (name : List ℕ) → ℕ → List ℕ
line name n = name ++ codes " " ++ decimal n ++ codes "\n"

abbrev pub lines_of : Summary → List ℕ
lines_of summary =
    line (codes "clients") summary.clients
    ++ line (codes "turns") summary.turns
    ++ line (codes "forwarded") summary.forwarded
    ++ line (codes "answered") summary.answered
    ++ line (codes "expired") summary.expired
    ++ line (codes "late") summary.late
    ++ line (codes "refused") summary.refused
    ++ codes "equal " ++ decimal summary.equal ++ codes " of " ++ decimal summary.counted ++ codes "\n"
