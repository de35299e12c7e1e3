-- Where nothing of a view tells of others, nothing did before.
use Rattle.std.proofs.Common.{◌≡◌, ℕ, Bool, true, false, ◌==◌, if◌then◌else◌, List, [], ◌∷◌, refl, sym, subst}
use Rattle.std.specs.List.{AllByRecursion}
use Rattle.proxy_history.specs.Items.{Item, Joins}
use Rattle.proxy_history.specs.Facts.{Fact, Request, NotAdmitted, BadStream, Leaving, Admitted, Ended, Judged, Taken, Forwarded, Answered, IdHeld, Expired, Aborted, Indicated, OpeningEnded, SessionsClosed, ListSent}
use Rattle.proxy_history.specs.Connections.{contains}
use Rattle.proxy_history.specs.View.{Blank, Entry, Said, Response, Refused, Indication, OpenedWith, Shut, Taking, End, HeldId, NoAnswer, view, entry_if}
use Rattle.proxy_history.specs.Sound.{IsSound, begins_anew}
use Rattle.proxy_history.specs.Protocol.{Protocol}
use Rattle.proxy_history.specs.History.{add_all}
use Rattle.proxy_history.specs.Adding.{MayAdd, MayFinish, IsOrderly}
use Rattle.proxy_history.proofs.Walk.{kept_by_items, kept_at_end}
use Rattle.proxy_solo.specs.Law.{tells_of_others}

abbrev pub AreUndisturbed : List Entry → Type 0
AreUndisturbed entries = AllByRecursion (λ entry. tells_of_others entry ≡ false) entries

behind_entry : (b : Bool) (entry : Entry) (entries : List Entry) → AreUndisturbed (entry_if b entry entries) → AreUndisturbed entries
behind_entry true entry entries all = all.1
behind_entry false entry entries all = all

behind_none : (b : Bool) (anew entries : List Entry) → b ≡ false → AreUndisturbed (if b then anew else entries) → AreUndisturbed entries
behind_none b anew entries none all = subst (λ (t : Bool). AreUndisturbed (if t then anew else entries)) none all

module _ (blank : Blank) (c : ℕ) where
  pub before_fact : (fact : Fact) (past : List Fact) → begins_anew c fact ≡ false → AreUndisturbed (view blank c (fact ∷ past)) → AreUndisturbed (view blank c past)
  unfolding view
  before_fact (Admitted d) past other all = behind_none (d == c) [] (view blank c past) other all
  before_fact (Ended d NotAdmitted) past other all = behind_none (d == c) (End NotAdmitted ∷ []) (view blank c past) other all
  before_fact (Ended d BadStream) past other all = behind_entry (d == c) (End BadStream) (view blank c past) all
  before_fact (Ended d Leaving) past other all = behind_entry (d == c) (End Leaving) (view blank c past) all
  before_fact (Judged d place m verdict) past other all = behind_entry (d == c) (Said m verdict) (view blank c past) all
  before_fact (Taken d count) past other all = behind_entry (d == c) (Taking count) (view blank c past) all
  before_fact (Answered r m) past other all = behind_entry (r.conn == c) (Response r.place (blank m)) (view blank c past) all
  before_fact (IdHeld r) past other all = behind_entry (r.conn == c) (Refused r.place HeldId) (view blank c past) all
  before_fact (Expired r) past other all = behind_entry (r.conn == c) (Refused r.place NoAnswer) (view blank c past) all
  before_fact (Aborted r) past other all = behind_entry (r.conn == c) (Refused r.place NoAnswer) (view blank c past) all
  before_fact (Indicated m receivers) past other all = behind_entry (contains c receivers) (Indication m) (view blank c past) all
  before_fact (OpeningEnded status receivers) past other all = behind_entry (contains c receivers) (OpenedWith status) (view blank c past) all
  before_fact (SessionsClosed receivers) past other all = behind_entry (contains c receivers) Shut (view blank c past) all
  before_fact _ past other all = all

-- an item by which the client doesn't join
abbrev pub joins : ℕ → Item → Bool
joins c (Joins d) = d == c
joins c _ = false

module _ (c : ℕ) where
  nobody_anew : (item : Item) → joins c item ≡ false → (fact : Fact) (past : List Fact) → MayAdd item fact past → begins_anew c fact ≡ false
  nobody_anew (Joins d) other (Admitted e) past may = subst (λ (x : ℕ). (x == c) ≡ false) (sym may) other
  nobody_anew (Joins d) other (Ended e NotAdmitted) past may = subst (λ (x : ℕ). (x == c) ≡ false) (sym may) other
  nobody_anew (Joins d) other _ past may = absurd may
  nobody_anew _ other (Admitted e) past may = absurd may
  nobody_anew _ other (Ended e NotAdmitted) past may = absurd may
  nobody_anew _ other _ past may = refl

  nobody_at_end : (fact : Fact) (past : List Fact) → MayFinish fact past → begins_anew c fact ≡ false
  nobody_at_end (Forwarded r) past may = refl
  nobody_at_end (ListSent list) past may = refl
  nobody_at_end _ past may = absurd may

module _ {Known : Type 0} (p : Protocol Known) (Asks : Request → List Fact → Type 0) (O : IsOrderly p Asks) (c : ℕ) where
  abbrev pub IsLeftAlone : List Fact → Type 0
  IsLeftAlone past = AreUndisturbed (view p.wording.blank c past)

  pub before_items : (items : List Item) (past : List Fact) → AllByRecursion (λ item. joins c item ≡ false) items → IsSound p.limits past → IsLeftAlone (add_all p items past) → IsLeftAlone past
  before_items items past others sound =
      kept_by_items p Asks O (λ after. IsLeftAlone after → IsLeftAlone past) (λ item. joins c item ≡ false)
      (λ item other fact before follows may asked held alone. held (before_fact p.wording.blank c fact before (nobody_anew c item other fact before may) alone))
      items past others sound (λ alone. alone)

  pub before_end : (past : List Fact) → IsSound p.limits past → IsLeftAlone (p.finish past) → IsLeftAlone past
  before_end past sound =
      kept_at_end p Asks O (λ after. IsLeftAlone after → IsLeftAlone past)
      (λ fact before follows may asked held alone. held (before_fact p.wording.blank c fact before (nobody_at_end c fact before may) alone)) past sound (λ alone. alone)
