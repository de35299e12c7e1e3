-- The bytes for a client only grow, but where a connection of its name begins anew or its socket takes some of them.
use Rattle.std.proofs.Common.{◌≡◌, ℕ, Bool, true, false, ◌==◌, if◌then◌else◌, List, [], ◌∷◌, ◌++◌, refl, ap, sym, ◌∙◌, subst, append_assoc}
use Rattle.std.proofs.lemmas.List.{append-nil}
use Rattle.proxy_history.specs.Limits.{Limits}
use Rattle.proxy_history.specs.Facts.{NotAdmitted, BadStream, Leaving, Fact, Admitted, Ended, Judged, Taken, Answered, IdHeld, Expired, Aborted, Indicated, OpeningEnded, SessionsClosed}
use Rattle.proxy_history.specs.Connections.{contains}
use Rattle.proxy_history.specs.View.{Entry, Said, Response, Refused, Indication, OpenedWith, Shut, Taking, End, HeldId, NoAnswer, entry_if, view}
use Rattle.proxy_history.specs.Rendering.{Rendering, EntryText, render, put_unless, Grows}
use Rattle.proxy_history.specs.Wording.{Wording, text_behind}
use Rattle.proxy_history.specs.Noting.{rendering}
use Rattle.proxy_history.specs.Sound.{begins_anew}

-- ---- renderings ----

pub grows_same : (r : Rendering) → Grows r r
grows_same r = record { more = []; bytes = sym (append-nil r.bytes); waiting = sym (append-nil r.waiting) }

-- one growth after another
pub grows_then : (first second third : Rendering) → Grows first second → Grows second third → Grows first third
grows_then first second third one other = record {
  more = one.more ++ other.more;
  bytes = other.bytes ∙ ap (λ (l : List ℕ). l ++ other.more) one.bytes ∙ append_assoc first.bytes one.more other.more;
  waiting = other.waiting ∙ ap (λ (l : List ℕ). l ++ other.more) one.waiting ∙ append_assoc first.waiting one.more other.more;
}

put_grows : (over : Bool) (new : List ℕ) (r : Rendering) → Grows r (put_unless over new r)
put_grows true new r = record { more = []; bytes = sym (append-nil r.bytes); waiting = sym (append-nil r.waiting) }
put_grows false new r = record { more = new; bytes = refl; waiting = refl }

abbrev pub is_taking : Entry → Bool
is_taking (Taking count) = true
is_taking _ = false

module _ (room : ℕ) (text : EntryText) where
  entry_grows : (entry : Entry) (entries : List Entry) → is_taking entry ≡ false → Grows (render room text entries) (render room text (entry ∷ entries))
  unfolding render
  entry_grows (Taking count) entries none = absurd (cc)
  entry_grows (Said message verdict) entries none = put_grows _ (text entries (Said message verdict)) (render room text entries)
  entry_grows (Response place message) entries none = put_grows _ (text entries (Response place message)) (render room text entries)
  entry_grows (Refused place cause) entries none = put_grows _ (text entries (Refused place cause)) (render room text entries)
  entry_grows (Indication message) entries none = put_grows _ (text entries (Indication message)) (render room text entries)
  entry_grows (OpenedWith status) entries none = put_grows _ (text entries (OpenedWith status)) (render room text entries)
  entry_grows Shut entries none = grows_same (render room text entries)
  entry_grows (End why) entries none = grows_same (render room text entries)

  entry_if_grows : (b : Bool) (entry : Entry) (entries : List Entry) → is_taking entry ≡ false → Grows (render room text entries) (render room text (entry_if b entry entries))
  entry_if_grows true entry entries none = entry_grows entry entries none
  entry_if_grows false entry entries none = grows_same (render room text entries)

-- ---- facts ----

-- a connection of this name begins anew, or its socket takes bytes
abbrev pub begins_or_takes : ℕ → Fact → Bool
begins_or_takes c (Taken d count) = d == c
begins_or_takes c fact = begins_anew c fact

module _ {Known : Type 0} (limits : Limits) (wording : Wording Known) (client : ℕ) where
  -- the bytes of some entries
  abbrev bytes_of : List Entry → Rendering
  bytes_of entries = render limits.outbox (text_behind wording) entries

  abbrev pub GrowsFor : List Fact → List Fact → Type 0
  GrowsFor past after = Grows (rendering limits wording client past) (rendering limits wording client after)

  same : (past : List Fact) → GrowsFor past past
  same past = grows_same (rendering limits wording client past)

  pub grows_further : (past between after : List Fact) → GrowsFor past between → GrowsFor between after → GrowsFor past after
  grows_further past between after one other = grows_then (rendering limits wording client past) (rendering limits wording client between) (rendering limits wording client after) one other

  -- a test that fails leaves the view
  other_grows : (entries other : List Entry) (b : Bool) → b ≡ false → Grows (bytes_of entries) (bytes_of (if b then other else entries))
  other_grows entries other true is = absurd (cc)
  other_grows entries other false is = grows_same (bytes_of entries)

  pub fact_grows : (fact : Fact) (past : List Fact) → begins_or_takes client fact ≡ false → GrowsFor past (fact ∷ past)
  unfolding view
  fact_grows (Admitted d) past none = other_grows (view wording.blank client past) [] (d == client) none
  fact_grows (Ended d NotAdmitted) past none = other_grows (view wording.blank client past) (End NotAdmitted ∷ []) (d == client) none
  fact_grows (Ended d BadStream) past none = entry_if_grows limits.outbox (text_behind wording) (d == client) (End BadStream) (view wording.blank client past) refl
  fact_grows (Ended d Leaving) past none = entry_if_grows limits.outbox (text_behind wording) (d == client) (End Leaving) (view wording.blank client past) refl
  fact_grows (Taken d count) past none = subst (λ (b : Bool). Grows (bytes_of (view wording.blank client past)) (bytes_of (entry_if b (Taking count) (view wording.blank client past)))) (sym none) (same past)
  fact_grows (Judged d place message verdict) past none = entry_if_grows limits.outbox (text_behind wording) (d == client) (Said message verdict) (view wording.blank client past) refl
  fact_grows (Answered r message) past none = entry_if_grows limits.outbox (text_behind wording) (r.conn == client) (Response r.place (wording.blank message)) (view wording.blank client past) refl
  fact_grows (IdHeld r) past none = entry_if_grows limits.outbox (text_behind wording) (r.conn == client) (Refused r.place HeldId) (view wording.blank client past) refl
  fact_grows (Expired r) past none = entry_if_grows limits.outbox (text_behind wording) (r.conn == client) (Refused r.place NoAnswer) (view wording.blank client past) refl
  fact_grows (Aborted r) past none = entry_if_grows limits.outbox (text_behind wording) (r.conn == client) (Refused r.place NoAnswer) (view wording.blank client past) refl
  fact_grows (Indicated message receivers) past none = entry_if_grows limits.outbox (text_behind wording) (contains client receivers) (Indication message) (view wording.blank client past) refl
  fact_grows (OpeningEnded status receivers) past none = entry_if_grows limits.outbox (text_behind wording) (contains client receivers) (OpenedWith status) (view wording.blank client past) refl
  fact_grows (SessionsClosed receivers) past none = entry_if_grows limits.outbox (text_behind wording) (contains client receivers) Shut (view wording.blank client past) refl
  fact_grows _ past none = same past
