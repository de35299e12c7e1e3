-- A view that tells of no others, with one entry and with one fact more.
use Rattle.std.proofs.Common.{◌≡◌, ℕ, Bool, true, false, ◌==◌, if◌then◌else◌, List, [], ◌∷◌, refl}
use Rattle.proxy_history.specs.Facts.{Fact, Admitted, Ended, Judged, Taken, Answered, IdHeld, Expired, Aborted, Indicated, OpeningEnded, SessionsClosed}
use Rattle.proxy_history.specs.Connections.{contains}
use Rattle.proxy_history.specs.View.{Blank, Entry, Said, Response, Refused, Indication, OpenedWith, Shut, Taking, NoAnswer, entry_if, view}
use Rattle.proxy_solo.specs.Law.{tells_of_others}
use Rattle.proxy_solo.proofs.Undisturbed.{AreUndisturbed}

pub undisturbed_entry : (b : Bool) (entry : Entry) (entries : List Entry) → tells_of_others entry ≡ false → AreUndisturbed entries → AreUndisturbed (entry_if b entry entries)
undisturbed_entry true entry entries here rest = (here, rest)
undisturbed_entry false entry entries here rest = rest

pub undisturbed_joining : (b : Bool) (entries : List Entry) → AreUndisturbed entries → AreUndisturbed (if b then [] else entries)
undisturbed_joining true entries rest = tt
undisturbed_joining false entries rest = rest

-- a fact by which nobody ends, and no client's view tells of others
abbrev pub LetsAlone : Fact → Type 0
LetsAlone (Ended c why) = ⊥
LetsAlone (Judged c place m verdict) = tells_of_others (Said m verdict) ≡ false
LetsAlone (IdHeld r) = ⊥
LetsAlone _ = Unit {0}

pub undisturbed_by : (blank : Blank) (c : ℕ) (fact : Fact) (past : List Fact) → LetsAlone fact → AreUndisturbed (view blank c past) → AreUndisturbed (view blank c (fact ∷ past))
unfolding view
undisturbed_by blank c (Admitted d) past alone rest = undisturbed_joining (d == c) (view blank c past) rest
undisturbed_by blank c (Ended d why) past alone rest = absurd alone
undisturbed_by blank c (Judged d place m verdict) past alone rest = undisturbed_entry (d == c) (Said m verdict) (view blank c past) alone rest
undisturbed_by blank c (Taken d count) past alone rest = undisturbed_entry (d == c) (Taking count) (view blank c past) refl rest
undisturbed_by blank c (Answered r m) past alone rest = undisturbed_entry (r.conn == c) (Response r.place (blank m)) (view blank c past) refl rest
undisturbed_by blank c (IdHeld r) past alone rest = absurd alone
undisturbed_by blank c (Expired r) past alone rest = undisturbed_entry (r.conn == c) (Refused r.place NoAnswer) (view blank c past) refl rest
undisturbed_by blank c (Aborted r) past alone rest = undisturbed_entry (r.conn == c) (Refused r.place NoAnswer) (view blank c past) refl rest
undisturbed_by blank c (Indicated m receivers) past alone rest = undisturbed_entry (contains c receivers) (Indication m) (view blank c past) refl rest
undisturbed_by blank c (OpeningEnded status receivers) past alone rest = undisturbed_entry (contains c receivers) (OpenedWith status) (view blank c past) refl rest
undisturbed_by blank c (SessionsClosed receivers) past alone rest = undisturbed_entry (contains c receivers) Shut (view blank c past) refl rest
undisturbed_by blank c _ past alone rest = rest
