-- What is read off two histories that tell the same is the same.
use Rattle.std.proofs.Common.{◌≡◌, ℕ, ◌+◌, Bool, not, ◌==◌, ◌&&◌, nat_le, if◌then◌else◌, List, [], ◌∷◌, ◌++◌, length, drop, filter, cond, refl, ap, ap₂, sym, ◌∙◌}
use Rattle.proxy_history.specs.Facts.{Fact, Request, NotAdmitted, BadStream, NoRoom, Leaving, Admitted, Ended, Judged, Taken, Forwarded, Answered, IdHeld, Late, Expired, Aborted, Indicated, Granted, Freed, OpeningEnded, SessionsClosed, Reset, ModemLost, ModemReturned, ModemTaken, TimeIs}
use Rattle.proxy_history.specs.Connections.{contains, without, present, message_count}
use Rattle.proxy_history.specs.Requests.{without_request, in_use, pending, forward_count, of_client, has_share, of_space, numbers_of, last_number, number_after, next_number}
use Rattle.proxy_history.specs.ClientIds.{Grant, KeptId, is_of, held, kept, kept_since}
use Rattle.proxy_history.specs.Modem.{now, is_away, to_modem, modem_taken_count, modem_queue}
use Rattle.proxy_history.specs.View.{Blank, Entry, Said, Response, Refused, Indication, OpenedWith, Shut, Taking, End, HeldId, NoAnswer, entry_if, view}
use Rattle.proxy_stray.specs.Alike.{substance, TellTheSame}

-- a question that the substance of a history answers
abbrev pub IsTold : {X : Type 0} → (List Fact → X) → Type 0
IsTold q = (facts : List Fact) → q (substance facts) ≡ q facts

pub told : {X : Type 0} (q : List Fact → X) → IsTold q → (facts others : List Fact) → TellTheSame facts others → q facts ≡ q others
told q is facts others same = sym (is facts) ∙ ap q same ∙ is others

pub present-told : IsTold present
unfolding present substance
present-told [] = refl
present-told (Admitted c ∷ past) = ap (λ (l : List ℕ). l ++ c ∷ []) (present-told past)
present-told (Ended c why ∷ past) = ap (without c) (present-told past)
present-told (Indicated m [] ∷ past) = present-told past
present-told (_ ∷ past) = present-told past

pub count-told : (c : ℕ) → IsTold (message_count c)
unfolding message_count substance
count-told c [] = refl
count-told c (Admitted d ∷ past) = ap (λ (n : ℕ). if d == c then 0 else n) (count-told c past)
count-told c (Judged d place m verdict ∷ past) = ap (λ (n : ℕ). if d == c then n + 1 else n) (count-told c past)
count-told c (Indicated m [] ∷ past) = count-told c past
count-told c (_ ∷ past) = count-told c past

pub in_use-told : IsTold in_use
unfolding in_use substance
in_use-told [] = refl
in_use-told (Forwarded r ∷ past) = ap (λ (l : List Request). l ++ r ∷ []) (in_use-told past)
in_use-told (Answered r m ∷ past) = ap (without_request r) (in_use-told past)
in_use-told (IdHeld r ∷ past) = ap (without_request r) (in_use-told past)
in_use-told (Late r ∷ past) = ap (without_request r) (in_use-told past)
in_use-told (Reset ∷ past) = refl
in_use-told (ModemLost ∷ past) = refl
in_use-told (Indicated m [] ∷ past) = in_use-told past
in_use-told (_ ∷ past) = in_use-told past

pub pending-told : IsTold pending
unfolding pending substance
pending-told [] = refl
pending-told (Forwarded r ∷ past) = ap (λ (l : List Request). l ++ r ∷ []) (pending-told past)
pending-told (Answered r m ∷ past) = ap (without_request r) (pending-told past)
pending-told (IdHeld r ∷ past) = ap (without_request r) (pending-told past)
pending-told (Late r ∷ past) = ap (without_request r) (pending-told past)
pending-told (Expired r ∷ past) = ap (without_request r) (pending-told past)
pending-told (Aborted r ∷ past) = ap (without_request r) (pending-told past)
pending-told (Ended c why ∷ past) = ap (filter (λ (q : Request). not (c == q.conn))) (pending-told past)
pending-told (Reset ∷ past) = refl
pending-told (ModemLost ∷ past) = refl
pending-told (Indicated m [] ∷ past) = pending-told past
pending-told (_ ∷ past) = pending-told past

pub forwards-told : IsTold forward_count
unfolding forward_count substance
forwards-told [] = refl
forwards-told (Forwarded r ∷ past) = ap (λ (n : ℕ). n + 1) (forwards-told past)
forwards-told (Indicated m [] ∷ past) = forwards-told past
forwards-told (_ ∷ past) = forwards-told past

pub last-told : (space : ℕ) → IsTold (last_number space)
unfolding last_number substance
last-told space [] = refl
last-told space (Forwarded r ∷ past) = ap (λ (n : ℕ). if r.space == space then r.number else n) (last-told space past)
last-told space (Indicated m [] ∷ past) = last-told space past
last-told space (_ ∷ past) = last-told space past

pub held-told : IsTold held
unfolding held substance
held-told [] = refl
held-told (Granted c service cid ∷ past) =
    ap (λ (l : List Grant). filter (λ (g : Grant). not (is_of service cid g)) l ++ record { conn = c; service = service; cid = cid } ∷ []) (held-told past)
held-told (Freed c service cid ∷ past) = ap (filter (λ (g : Grant). not (is_of service cid g && (c == g.conn)))) (held-told past)
held-told (Ended c why ∷ past) = ap (filter (λ (g : Grant). not (c == g.conn))) (held-told past)
held-told (Reset ∷ past) = refl
held-told (ModemLost ∷ past) = refl
held-told (Indicated m [] ∷ past) = held-told past
held-told (_ ∷ past) = held-told past

pub now-told : IsTold now
unfolding now substance
now-told [] = refl
now-told (TimeIs time ∷ past) = refl
now-told (Indicated m [] ∷ past) = now-told past
now-told (_ ∷ past) = now-told past

pub kept-told : IsTold kept
unfolding kept substance
kept-told [] = refl
kept-told (Ended c why ∷ past) =
    ap₂ (λ (l more : List KeptId). l ++ more) (kept-told past)
    (ap₂ (λ (time : ℕ) (grants : List Grant). kept_since time (filter (λ (g : Grant). c == g.conn) grants)) (now-told past) (held-told past))
kept-told (Granted c service cid ∷ past) = ap (filter (λ (k : KeptId). not (k.service == service && (k.cid == cid)))) (kept-told past)
kept-told (Reset ∷ past) = refl
kept-told (ModemLost ∷ past) = refl
kept-told (Indicated m [] ∷ past) = kept-told past
kept-told (_ ∷ past) = kept-told past

pub away-told : (away : Bool) → IsTold (is_away away)
unfolding is_away substance
away-told away [] = refl
away-told away (ModemLost ∷ past) = refl
away-told away (ModemReturned ∷ past) = refl
away-told away (Indicated m [] ∷ past) = away-told away past
away-told away (_ ∷ past) = away-told away past

pub to_modem-told : (wire : Request → List ℕ) → IsTold (to_modem wire)
unfolding to_modem substance
to_modem-told wire [] = refl
to_modem-told wire (Forwarded r ∷ past) = ap (λ (l : List ℕ). l ++ wire r) (to_modem-told wire past)
to_modem-told wire (ModemLost ∷ past) = refl
to_modem-told wire (Indicated m [] ∷ past) = to_modem-told wire past
to_modem-told wire (_ ∷ past) = to_modem-told wire past

pub was_taken-told : IsTold modem_taken_count
unfolding modem_taken_count substance
was_taken-told [] = refl
was_taken-told (ModemTaken count ∷ past) = ap (λ (n : ℕ). n + count) (was_taken-told past)
was_taken-told (ModemLost ∷ past) = refl
was_taken-told (Indicated m [] ∷ past) = was_taken-told past
was_taken-told (_ ∷ past) = was_taken-told past

pub view-told : (blank : Blank) (c : ℕ) → IsTold (view blank c)
unfolding view substance
view-told blank c [] = refl
view-told blank c (Admitted d ∷ past) = ap (λ (l : List Entry). if d == c then [] else l) (view-told blank c past)
view-told blank c (Judged d place m verdict ∷ past) = ap (entry_if (d == c) (Said m verdict)) (view-told blank c past)
view-told blank c (Answered r m ∷ past) = ap (entry_if (r.conn == c) (Response r.place (blank m))) (view-told blank c past)
view-told blank c (IdHeld r ∷ past) = ap (entry_if (r.conn == c) (Refused r.place HeldId)) (view-told blank c past)
view-told blank c (Expired r ∷ past) = ap (entry_if (r.conn == c) (Refused r.place NoAnswer)) (view-told blank c past)
view-told blank c (Aborted r ∷ past) = ap (entry_if (r.conn == c) (Refused r.place NoAnswer)) (view-told blank c past)
view-told blank c (Indicated m [] ∷ past) = view-told blank c past
view-told blank c (Indicated m receivers ∷ past) = ap (entry_if (contains c receivers) (Indication m)) (view-told blank c past)
view-told blank c (OpeningEnded status receivers ∷ past) = ap (entry_if (contains c receivers) (OpenedWith status)) (view-told blank c past)
view-told blank c (SessionsClosed receivers ∷ past) = ap (entry_if (contains c receivers) Shut) (view-told blank c past)
view-told blank c (Taken d count ∷ past) = ap (entry_if (d == c) (Taking count)) (view-told blank c past)
view-told blank c (Ended d NotAdmitted ∷ past) = ap (λ (l : List Entry). if d == c then End NotAdmitted ∷ [] else l) (view-told blank c past)
view-told blank c (Ended d BadStream ∷ past) = ap (entry_if (d == c) (End BadStream)) (view-told blank c past)
view-told blank c (Ended d Leaving ∷ past) = ap (entry_if (d == c) (End Leaving)) (view-told blank c past)
view-told blank c (Ended d NoRoom ∷ past) = view-told blank c past
view-told blank c (_ ∷ past) = view-told blank c past

-- ---- questions that are put together of these ----

pub next-told : (limit top space : ℕ) → IsTold (next_number limit top space)
next-told limit top space facts =
    ap₂ (λ (last : ℕ) (requests : List Request). number_after limit top last (numbers_of (of_space space requests))) (last-told space facts) (in_use-told facts)

pub share-told : (share c space : ℕ) → IsTold (has_share share c space)
share-told share c space facts = ap (λ (requests : List Request). nat_le share (length (of_client c space requests))) (pending-told facts)

pub queue-told : (wire : Request → List ℕ) → IsTold (modem_queue wire)
queue-told wire facts = ap₂ (λ (n : ℕ) (bytes : List ℕ). drop n bytes) (was_taken-told facts) (to_modem-told wire facts)

-- a filter by tests that agree
pub filter_same : {X : Type 0} (f g : X → Bool) (xs : List X) → ((x : X) → f x ≡ g x) → filter f xs ≡ filter g xs
filter_same f g [] same = refl
filter_same f g (x ∷ xs) same = ap₂ (λ (b : Bool) rest. cond b (x ∷ rest) rest) (same x) (filter_same f g xs same)
