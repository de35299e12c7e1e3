-- Who is there got all that was due to it: where a fact brings a connection more than its outbox has room for, the connection's end comes with the fact.
use Rattle.std.proofs.Common.{◌≡◌, ℕ, ◌+◌, Bool, true, false, ◌&&◌, ◌||◌, ◌==◌, nat_lt, if◌then◌else◌, List, [], ◌∷◌, length, refl, ap, sym, ◌∙◌, arith, subst}
use Rattle.std.proofs.lemmas.Bool.Decides.{nat_tests}
use Rattle.proxy_history.specs.Limits.{Limits}
use Rattle.proxy_history.specs.Facts.{Why, NotAdmitted, BadStream, NoRoom, Leaving, Verdict, Fact, Admitted, Ended, Judged, Taken, Answered, IdHeld, Expired, Aborted, Indicated, OpeningEnded, SessionsClosed}
use Rattle.proxy_history.specs.Connections.{contains, present, is_present}
use Rattle.proxy_history.specs.View.{Entry, Said, Response, Refused, Indication, OpenedWith, Shut, Taking, End, HeldId, NoAnswer, entry_if, view}
use Rattle.proxy_history.specs.Rendering.{Rendering, render, put}
use Rattle.proxy_history.specs.Wording.{Wording, text_behind}
use Rattle.proxy_history.specs.Noting.{rendering, end_overfull, note, receivers_of}
use Rattle.proxy_history.specs.Adding.{AllFit}
use Rattle.proxy_history.proofs.Rendering.{waiting_within}
use Rattle.proxy_history.proofs.SoundLaws.{left_is_absent, stayed_was_there, joined_was_there}

module _ {Known : Type 0} (limits : Limits) (wording : Wording Known) where
  -- the bytes of some entries
  abbrev bytes_of : List Entry → Rendering
  bytes_of entries = render limits.outbox (text_behind wording) entries

  -- each but perhaps these
  abbrev OthersFit : List ℕ → List Fact → Type 0
  OthersFit cs past = (c : ℕ) → is_present c past ≡ true → contains c cs ≡ false → (rendering limits wording c past).is_over ≡ false

  -- ---- one fact ----

  other_entry : (b : Bool) (entry : Entry) (entries : List Entry) → b ≡ false → (bytes_of entries).is_over ≡ false → (bytes_of (entry_if b entry entries)).is_over ≡ false
  other_entry b entry entries other fits = ap (λ (b : Bool). (bytes_of (entry_if b entry entries)).is_over) other ∙ fits

  fresh_entries : (b : Bool) (fresh entries : List Entry) → (bytes_of fresh).is_over ≡ false → (b ≡ false → (bytes_of entries).is_over ≡ false) → (bytes_of (if b then fresh else entries)).is_over ≡ false
  fresh_entries true fresh entries fits old = fits
  fresh_entries false fresh entries fits old = old refl

  -- an end and a closing bring no bytes
  ended_entry : (b : Bool) (why : Why) (entries : List Entry) → (bytes_of entries).is_over ≡ false → (bytes_of (entry_if b (End why) entries)).is_over ≡ false
  unfolding render
  ended_entry true why entries fits = fits
  ended_entry false why entries fits = fits

  shut_entry : (b : Bool) (entries : List Entry) → (bytes_of entries).is_over ≡ false → (bytes_of (entry_if b Shut entries)).is_over ≡ false
  unfolding render
  shut_entry true entries fits = fits
  shut_entry false entries fits = fits

  taken_entry : (b : Bool) (count : ℕ) (entries : List Entry) → (bytes_of entries).is_over ≡ false → (bytes_of (entry_if b (Taking count) entries)).is_over ≡ false
  unfolding render
  taken_entry true count entries fits = fits
  taken_entry false count entries fits = fits

  only_other : (c d : ℕ) → contains c (d ∷ []) ≡ false → (d == c) ≡ false
  only_other c d none =
      let step : (b : Bool) → (c == d) ≡ b → (b || false) ≡ false → (d == c) ≡ false =
      λ b. elim b as (λ b. (c == d) ≡ b → (b || false) ≡ false → (d == c) ≡ false) [ true ↦ λ e no. absurd (cc) | false ↦ λ e no. grind (arith, nat_tests, e) ]
      in step (c == d) refl none

  -- a fact leaves the others as they are
  fact_fits : (fact : Fact) (past : List Fact) → AllFit limits wording past → OthersFit (receivers_of fact) (fact ∷ past)
  unfolding view present render
  fact_fits (Admitted d) past fits c there none = fresh_entries (d == c) [] (view wording.blank c past) refl (λ other. fits c (joined_was_there c d past other there))
  fact_fits (Ended d NotAdmitted) past fits c there none = fresh_entries (d == c) (End NotAdmitted ∷ []) (view wording.blank c past) refl (λ other. fits c (stayed_was_there c d past there))
  fact_fits (Ended d BadStream) past fits c there none = ended_entry (d == c) BadStream (view wording.blank c past) (fits c (stayed_was_there c d past there))
  fact_fits (Ended d Leaving) past fits c there none = ended_entry (d == c) Leaving (view wording.blank c past) (fits c (stayed_was_there c d past there))
  fact_fits (Ended d NoRoom) past fits c there none = fits c (stayed_was_there c d past there)
  fact_fits (Judged d place m verdict) past fits c there none = other_entry (d == c) (Said m verdict) (view wording.blank c past) (only_other c d none) (fits c there)
  fact_fits (Taken d count) past fits c there none = taken_entry (d == c) count (view wording.blank c past) (fits c there)
  fact_fits (Answered r m) past fits c there none = other_entry (r.conn == c) (Response r.place (wording.blank m)) (view wording.blank c past) (only_other c r.conn none) (fits c there)
  fact_fits (IdHeld r) past fits c there none = other_entry (r.conn == c) (Refused r.place HeldId) (view wording.blank c past) (only_other c r.conn none) (fits c there)
  fact_fits (Expired r) past fits c there none = other_entry (r.conn == c) (Refused r.place NoAnswer) (view wording.blank c past) (only_other c r.conn none) (fits c there)
  fact_fits (Aborted r) past fits c there none = other_entry (r.conn == c) (Refused r.place NoAnswer) (view wording.blank c past) (only_other c r.conn none) (fits c there)
  fact_fits (Indicated m receivers) past fits c there none = other_entry (contains c receivers) (Indication m) (view wording.blank c past) none (fits c there)
  fact_fits (OpeningEnded status receivers) past fits c there none = other_entry (contains c receivers) (OpenedWith status) (view wording.blank c past) none (fits c there)
  fact_fits (SessionsClosed receivers) past fits c there none = shut_entry (contains c receivers) (view wording.blank c past) (fits c there)
  fact_fits _ past fits c there none = fits c there

  -- ---- the ends that it brings ----

  -- one of them ends, where it is over
  one_less : (d : ℕ) (cs : List ℕ) (past : List Fact) → OthersFit (d ∷ cs) past
      → (b : Bool) → (is_present d past && (rendering limits wording d past).is_over) ≡ b → OthersFit cs (if b then Ended d NoRoom ∷ past else past)
  unfolding view present
  one_less d cs past fits true ends c there none =
      let step : (b : Bool) → (d == c) ≡ b → (rendering limits wording c past).is_over ≡ false =
      λ b. elim b as (λ b. (d == c) ≡ b → (rendering limits wording c past).is_over ≡ false) [
        | true ↦ λ e. absurd (let clash : true ≡ false = sym there ∙ left_is_absent c d past e in cc)
        | false ↦ λ e. let turned : (c == d) ≡ false = grind (arith, nat_tests, e) in fits c (stayed_was_there c d past there) (ap (λ (b : Bool). b || contains c cs) turned ∙ none)
      ]
      in step (d == c) refl
  one_less d cs past fits false goes c there none =
      let step : (b : Bool) → (c == d) ≡ b → (rendering limits wording c past).is_over ≡ false =
      λ b. elim b as (λ b. (c == d) ≡ b → (rendering limits wording c past).is_over ≡ false) [
        | true ↦ λ e.
            let same : d ≡ c = grind (arith, nat_tests, e) in
            let mine : (is_present c past && (rendering limits wording c past).is_over) ≡ false = subst (λ (x : ℕ). (is_present x past && (rendering limits wording x past).is_over) ≡ false) same goes in
            sym (ap (λ (b : Bool). b && (rendering limits wording c past).is_over) there) ∙ mine
        | false ↦ λ e. fits c there (ap (λ (b : Bool). b || contains c cs) e ∙ none)
      ]
      in step (c == d) refl

  overfull_fits : (cs : List ℕ) (past : List Fact) → OthersFit cs past → AllFit limits wording (end_overfull limits wording cs past)
  unfolding end_overfull
  overfull_fits [] past fits = λ c there. fits c there refl
  overfull_fits (d ∷ cs) past fits = overfull_fits cs _ (one_less d cs past fits (is_present d past && (rendering limits wording d past).is_over) refl)

  pub note_fits : (fact : Fact) (past : List Fact) → AllFit limits wording past → AllFit limits wording (note limits wording fact past)
  note_fits fact past fits = overfull_fits (receivers_of fact) (fact ∷ past) (fact_fits fact past fits)

  -- a message that brings its sender no bytes finds room
  pub silent_fits : (d place : ℕ) (m : List ℕ) (verdict : Verdict) (past : List Fact) → ((entries : List Entry) → text_behind wording entries (Said m verdict) ≡ []) → AllFit limits wording past → AllFit limits wording (Judged d place m verdict ∷ past)
  unfolding view present render
  silent_fits d place m verdict past silent fits c there =
      let r : Rendering = rendering limits wording c past in
      let within = waiting_within limits.outbox (text_behind wording) (view wording.blank c past) in
      let room : nat_lt limits.outbox (length r.waiting + 0) ≡ false = grind (arith, nat_tests, within) in
      elim (d == c) as (λ b. (bytes_of (entry_if b (Said m verdict) (view wording.blank c past))).is_over ≡ false) [
        | true ↦ ap (λ (new : List ℕ). (put limits.outbox new r).is_over) (silent (view wording.blank c past)) ∙ ap (λ (b : Bool). b || nat_lt limits.outbox (length r.waiting + 0)) (fits c there) ∙ room
        | false ↦ fits c there
      ]
