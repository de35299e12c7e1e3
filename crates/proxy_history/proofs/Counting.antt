-- A client's messages are as many in the history as in its view.
use Rattle.std.proofs.Common.{◌≡◌, ℕ, ◌+◌, Bool, true, false, ◌==◌, if◌then◌else◌, List, [], ◌∷◌, refl, ap, sym, ◌∙◌}
use Rattle.proxy_history.specs.Facts.{NotAdmitted, BadStream, NoRoom, Leaving, Verdict, Fact, Admitted, Ended, Judged, Taken, Answered, IdHeld, Expired, Aborted, Indicated, OpeningEnded, SessionsClosed}
use Rattle.proxy_history.specs.Connections.{contains, present, is_present, message_count}
use Rattle.proxy_history.specs.View.{Blank, Entry, Said, Response, Refused, Indication, OpenedWith, Shut, Taking, End, HeldId, NoAnswer, entry_if, view, said_count}
use Rattle.proxy_history.proofs.SoundLaws.{left_is_absent, stayed_was_there, joined_was_there}

unsent : (b : Bool) (entry : Entry) (entries : List Entry) → ((l : List Entry) → said_count (entry ∷ l) ≡ said_count l) → said_count (entry_if b entry entries) ≡ said_count entries
unsent true entry entries silent = silent entries
unsent false entry entries silent = refl

joined : (b : Bool) (count : ℕ) (entries : List Entry) → (b ≡ false → count ≡ said_count entries) → (if b then 0 else count) ≡ said_count (let l : List Entry = if b then [] else entries in l)
joined true count entries old = refl
joined false count entries old = old refl

refused : (b : Bool) (count : ℕ) (entries : List Entry) → (b ≡ true → ⊥) → count ≡ said_count entries → count ≡ said_count (let l : List Entry = if b then End NotAdmitted ∷ [] else entries in l)
refused true count entries other old = absurd (other refl)
refused false count entries other old = old

sent : (b : Bool) (m : List ℕ) (verdict : Verdict) (count : ℕ) (entries : List Entry) → count ≡ said_count entries → (if b then count + 1 else count) ≡ said_count (entry_if b (Said m verdict) entries)
sent true m verdict count entries old = ap (λ (n : ℕ). n + 1) old
sent false m verdict count entries old = old

module _ (blank : Blank) (c : ℕ) where
  pub counted : (facts : List Fact) → is_present c facts ≡ true → message_count c facts ≡ said_count (view blank c facts)
  unfolding present message_count view
  counted [] there = absurd (cc)
  counted (Admitted d ∷ past) there = joined (d == c) (message_count c past) (view blank c past) (λ other. counted past (joined_was_there c d past other there))
  counted (Ended d NotAdmitted ∷ past) there =
      refused (d == c) (message_count c past) (view blank c past) (λ e. let clash : true ≡ false = sym there ∙ left_is_absent c d past e in absurd (cc)) (counted past (stayed_was_there c d past there))
  counted (Ended d BadStream ∷ past) there = counted past (stayed_was_there c d past there) ∙ sym (unsent (d == c) (End BadStream) (view blank c past) (λ l. refl))
  counted (Ended d Leaving ∷ past) there = counted past (stayed_was_there c d past there) ∙ sym (unsent (d == c) (End Leaving) (view blank c past) (λ l. refl))
  counted (Ended d NoRoom ∷ past) there = counted past (stayed_was_there c d past there)
  counted (Judged d place m verdict ∷ past) there = sent (d == c) m verdict (message_count c past) (view blank c past) (counted past there)
  counted (Taken d count ∷ past) there = counted past there ∙ sym (unsent (d == c) (Taking count) (view blank c past) (λ l. refl))
  counted (Answered r m ∷ past) there = counted past there ∙ sym (unsent (r.conn == c) (Response r.place (blank m)) (view blank c past) (λ l. refl))
  counted (IdHeld r ∷ past) there = counted past there ∙ sym (unsent (r.conn == c) (Refused r.place HeldId) (view blank c past) (λ l. refl))
  counted (Expired r ∷ past) there = counted past there ∙ sym (unsent (r.conn == c) (Refused r.place NoAnswer) (view blank c past) (λ l. refl))
  counted (Aborted r ∷ past) there = counted past there ∙ sym (unsent (r.conn == c) (Refused r.place NoAnswer) (view blank c past) (λ l. refl))
  counted (Indicated m receivers ∷ past) there = counted past there ∙ sym (unsent (contains c receivers) (Indication m) (view blank c past) (λ l. refl))
  counted (OpeningEnded status receivers ∷ past) there = counted past there ∙ sym (unsent (contains c receivers) (OpenedWith status) (view blank c past) (λ l. refl))
  counted (SessionsClosed receivers ∷ past) there = counted past there ∙ sym (unsent (contains c receivers) Shut (view blank c past) (λ l. refl))
  counted (_ ∷ past) there = counted past there
