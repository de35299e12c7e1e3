-- What a client's view tells of its requests that wait is kept fact by fact.
use Rattle.std.proofs.Common.{◌≡◌, ◌≢◌, ◌⊎◌, ℕ, Bool, true, false, not, ◌&&◌, ◌||◌, ◌==◌, if◌then◌else◌, List, [], ◌∷◌, filter, ⊎_elim, refl, ap, sym, ◌∙◌, subst, Contains}
use Rattle.std.specs.List.{AllByRecursion}
use Rattle.std.proofs.lemmas.Bool.{eqb-true, eq-eqb, false_from_ne_true}
use Rattle.std.proofs.lemmas.List.Elements.{All-contains, Contains-append_cases}
use Rattle.proxy_history.specs.Facts.{Verdict, Own, Share, Foreign, Away, Full, Forward, Ready, Waits, Fact, Request, NotAdmitted, BadStream, NoRoom, Leaving, Admitted, Ended, Judged, Taken, Forwarded, Answered, IdHeld, Late, Expired, Aborted, Indicated, Granted, Freed, OpeningEnded, SessionsClosed, Reset, ModemLost}
use Rattle.proxy_history.specs.Connections.{contains, present, is_present}
use Rattle.proxy_history.specs.Requests.{pending, has_request, is_pending, without_request}
use Rattle.proxy_history.specs.View.{Entry, Said, Response, Refused, Indication, OpenedWith, Shut, Taking, End, HeldId, NoAnswer, view, entry_if}
use Rattle.proxy_history.specs.Sound.{IsParty, MayFollow, IsSound}
use Rattle.proxy_history.proofs.Lists.{Contains-filter_from, Contains-nil, Contains-cons_cases}
use Rattle.proxy_history.proofs.Sound.{in_use_from_pending}
use Rattle.proxy_history.proofs.SoundLaws.{waiting_are_parties, left_is_absent, stayed_was_there, joined_was_there}
use Rattle.qmi_proxy.specs.Limits.{qmi_limits}
use Rattle.qmi_proxy.specs.Text.{view_of, blank}
use Rattle.qmi_proxy.proofs.Apart.{apart_in_use}
use Rattle.qmi_isolation.specs.Shares.{without_place, waiting_places}
use Rattle.qmi_isolation.proofs.Places.{places_of, places_left, places_stay, no_places, places_more, each_in}

-- an entry that tells nothing of requests
silent : (space : ℕ) (b : Bool) (entry : Entry) (entries : List Entry) → waiting_places space (entry ∷ entries) ≡ waiting_places space entries → waiting_places space (entry_if b entry entries) ≡ waiting_places space entries
silent space true entry entries same = same
silent space false entry entries same = refl

not_forwarded : (space : ℕ) (m : List ℕ) (verdict : Verdict) (entries : List Entry) → verdict ≢ Forward → waiting_places space (Said m verdict ∷ entries) ≡ waiting_places space entries
not_forwarded space m Own entries other = refl
not_forwarded space m Share entries other = refl
not_forwarded space m Foreign entries other = refl
not_forwarded space m Away entries other = refl
not_forwarded space m Full entries other = refl
not_forwarded space m Forward entries other = absurd (other refl)
not_forwarded space m Ready entries other = refl
not_forwarded space m Waits entries other = refl

module _ (c : ℕ) where
  -- what the view tells of the client's requests that wait
  pub record Fitting (past : List Fact) : Type 0 where
    -- two of them have different places
    pub apart : (q r : Request) → Contains (pending past) q → Contains (pending past) r → (q.conn == c) ≡ true → (r.conn == c) ≡ true → (r.place == q.place) ≡ true → q ≡ r
    pub fits : is_present c past ≡ true → (space : ℕ) → waiting_places space (view_of c past) ≡ places_of c space (pending past)

  -- a fact that adds no request of the client, and after which those wait that waited and that it doesn't name
  abbrev pub IsCalm : Fact → List Fact → Type 0
  IsCalm (Admitted d) past = contains d (present past) ≡ false
  IsCalm (Judged d place m verdict) past = ((d == c) ≡ false) ⊎ (verdict ≢ Forward)
  IsCalm (Forwarded r) past = (r.conn == c) ≡ false
  IsCalm (Late r) past = is_pending r past ≡ false
  IsCalm Reset past = pending past ≡ []
  IsCalm ModemLost past = pending past ≡ []
  IsCalm _ past = Unit {0}

  -- the client's requests that wait now waited before
  waited : (fact : Fact) (past : List Fact) → IsCalm fact past → (q : Request) → (q.conn == c) ≡ true → Contains (pending (fact ∷ past)) q → Contains (pending past) q
  unfolding pending
  waited (Forwarded r) past calm q own at =
      ⊎_elim (λ old. old)
      (λ (new : Contains (r ∷ []) q). ⊎_elim
      (λ (is : r ≡ q). absurd (let clash : true ≡ false = sym own ∙ ap (λ (x : Request). x.conn == c) (sym is) ∙ calm in cc))
      (λ (none : Contains [] q). absurd (Contains-nil q none))
      (Contains-cons_cases q r [] new))
      (Contains-append_cases (pending past) (r ∷ []) q at)
  waited (Answered r m) past calm q own at = Contains-filter_from (λ (x : Request). not (r.serial == x.serial)) (pending past) q at
  waited (IdHeld r) past calm q own at = Contains-filter_from (λ (x : Request). not (r.serial == x.serial)) (pending past) q at
  waited (Late r) past calm q own at = Contains-filter_from (λ (x : Request). not (r.serial == x.serial)) (pending past) q at
  waited (Expired r) past calm q own at = Contains-filter_from (λ (x : Request). not (r.serial == x.serial)) (pending past) q at
  waited (Aborted r) past calm q own at = Contains-filter_from (λ (x : Request). not (r.serial == x.serial)) (pending past) q at
  waited (Ended d why) past calm q own at = Contains-filter_from (λ (x : Request). not (d == x.conn)) (pending past) q at
  waited Reset past calm q own at = absurd (Contains-nil q at)
  waited ModemLost past calm q own at = absurd (Contains-nil q at)
  waited _ past calm q own at = at

  -- ---- facts that need nothing of those before them ----

  -- one that ends is another
  stayed : (past : List Fact) (d : ℕ) → contains c (filter (λ e. not (d == e)) (present past)) ≡ true → (d == c) ≡ false
  stayed past d there = by (d == c) refl
    where
      by : (b : Bool) → (d == c) ≡ b → b ≡ false
      by true e = let clash : true ≡ false = sym there ∙ left_is_absent c d past e in absurd (cc)
      by false e = refl

  none_ended : (past : List Fact) (d space : ℕ) → (d == c) ≡ false → places_of c space (pending past) ≡ places_of c space (filter (λ q. not (d == q.conn)) (pending past))
  none_ended past d space other =
      places_stay c space (λ q. not (d == q.conn)) (pending past)
      (each_in (λ q. (q.conn == c) ≡ true → not (d == q.conn) ≡ true) (pending past) (λ q at own. ap not (ap (λ (n : ℕ). d == n) (eqb-true q.conn c own) ∙ other)))

  pub ended_too : (d : ℕ) (past : List Fact) → Fitting past → Fitting (Ended d NoRoom ∷ past)
  unfolding pending present view
  ended_too d past F = record {
    apart = λ q r at_q at_r own_q own_r same.
        F.apart q r (Contains-filter_from (λ (x : Request). not (d == x.conn)) (pending past) q at_q) (Contains-filter_from (λ (x : Request). not (d == x.conn)) (pending past) r at_r) own_q own_r same;
    fits = λ there space. F.fits (stayed_was_there c d past there) space ∙ none_ended past d space (stayed past d there);
  }

  pub granted_too : (d service cid : ℕ) (past : List Fact) → Fitting past → Fitting (Granted d service cid ∷ past)
  unfolding pending present view
  granted_too d service cid past F = record { apart = F.apart; fits = F.fits }

  pub freed_too : (d service cid : ℕ) (past : List Fact) → Fitting past → Fitting (Freed d service cid ∷ past)
  unfolding pending present view
  freed_too d service cid past F = record { apart = F.apart; fits = F.fits }

  pub told_too : (m : List ℕ) (receivers : List ℕ) (past : List Fact) → Fitting past → Fitting (Indicated m receivers ∷ past)
  unfolding pending present view
  told_too m receivers past F = record { apart = F.apart; fits = λ there space. silent space (contains c receivers) (Indication m) (view_of c past) refl ∙ F.fits there space }

  -- ---- a request that is done with ----

  module _ (past : List Fact) (sound : IsSound qmi_limits past) (F : Fitting past) where
    -- its entry takes its place out, where it is the client's
    done : (r : Request) (entry : Entry) (space : ℕ) → Contains (pending past) r → is_present c past ≡ true
        → waiting_places space (entry ∷ view_of c past) ≡ without_place r.place (waiting_places space (view_of c past))
        → waiting_places space (entry_if (r.conn == c) entry (view_of c past)) ≡ places_of c space (without_request r (pending past))
    done r entry space at there takes = by (r.conn == c) refl
      where
        by : (b : Bool) → (r.conn == c) ≡ b → waiting_places space (entry_if b entry (view_of c past)) ≡ places_of c space (without_request r (pending past))
        by true own =
            takes ∙ ap (λ (l : List ℕ). without_place r.place l) (F.fits there space)
            ∙ places_left c space (λ p. not (r.place == p)) (λ q. not (r.serial == q.serial)) (pending past)
            (each_in (λ q. (q.conn == c) ≡ true → not (r.serial == q.serial) ≡ not (r.place == q.place)) (pending past)
            (λ q at_q own_q. tests q (r.serial == q.serial) (r.place == q.place) refl refl (λ e. (apart_in_use past q r sound (in_use_from_pending past q at_q) (in_use_from_pending past r at)).serial e) (λ e. F.apart q r at_q at own_q own e)))
          where
            tests : (q : Request) (one other : Bool) → (r.serial == q.serial) ≡ one → (r.place == q.place) ≡ other → ((r.serial == q.serial) ≡ true → q ≡ r) → ((r.place == q.place) ≡ true → q ≡ r) → not one ≡ not other
            tests q true true e f serial place = refl
            tests q false false e f serial place = refl
            tests q true false e f serial place =
                let clash : true ≡ false = sym (eq-eqb r.place q.place (sym (ap (λ (x : Request). x.place) (serial e)))) ∙ f in absurd (cc)
            tests q false true e f serial place =
                let clash : true ≡ false = sym (eq-eqb r.serial q.serial (sym (ap (λ (x : Request). x.serial) (place f)))) ∙ e in absurd (cc)
        by false other =
            F.fits there space
            ∙ places_stay c space (λ q. not (r.serial == q.serial)) (pending past)
            (each_in (λ q. (q.conn == c) ≡ true → not (r.serial == q.serial) ≡ true) (pending past)
            (λ q at_q own_q. differs q (r.serial == q.serial) refl (λ e. (apart_in_use past q r sound (in_use_from_pending past q at_q) (in_use_from_pending past r at)).serial e) own_q))
          where
            differs : (q : Request) (one : Bool) → (r.serial == q.serial) ≡ one → ((r.serial == q.serial) ≡ true → q ≡ r) → (q.conn == c) ≡ true → not one ≡ true
            differs q false e serial own = refl
            differs q true e serial own = let clash : true ≡ false = sym own ∙ ap (λ (x : Request). x.conn == c) (serial e) ∙ other in absurd (cc)

    -- a late answer's request didn't wait
    none_late : (r : Request) (space : ℕ) → is_pending r past ≡ false → places_of c space (pending past) ≡ places_of c space (without_request r (pending past))
    none_late r space none = places_stay c space (λ q. not (r.serial == q.serial)) (pending past) (others (pending past) none)
      where
        both : (b d : Bool) → (b || d) ≡ false → (not b ≡ true) × (d ≡ false)
        both true d e = absurd (cc)
        both false d e = (refl, e)

        others : (requests : List Request) → has_request r requests ≡ false → AllByRecursion (λ q. (q.conn == c) ≡ true → not (r.serial == q.serial) ≡ true) requests
        others [] e = tt
        others (q ∷ requests) e = let parts = both (r.serial == q.serial) (has_request r requests) e in ((λ own. parts.0), others requests parts.1)

    -- who joins has asked nothing
    none_asked : (space : ℕ) → c ≢ 0 → contains c (present past) ≡ false → places_of c space (pending past) ≡ []
    none_asked space client absent =
        no_places c space (pending past)
        (each_in (λ q. (q.conn == c) ≡ false) (pending past)
        (λ q at. by q (q.conn == c) refl (All-contains (λ (r : Request). IsParty r.conn past) (pending past) q (waiting_are_parties qmi_limits past sound) at)))
      where
        by : (q : Request) (b : Bool) → (q.conn == c) ≡ b → IsParty q.conn past → b ≡ false
        by q false e party = refl
        by q true e party =
            let own : (c == 0 || contains c (present past)) ≡ true = subst (λ (n : ℕ). (n == 0 || contains n (present past)) ≡ true) (eqb-true q.conn c e) party in
            let apart : (c == 0) ≡ false = false_from_ne_true (c == 0) (λ e. client (eqb-true c 0 e)) in
            let clash : true ≡ false = sym own ∙ ap (λ (b : Bool). b || contains c (present past)) apart ∙ absent in
            absurd (cc)

    -- ---- every calm fact ----

    fits_then : c ≢ 0 → (fact : Fact) → MayFollow qmi_limits fact past → IsCalm fact past → is_present c (fact ∷ past) ≡ true → (space : ℕ) → waiting_places space (view_of c (fact ∷ past)) ≡ places_of c space (pending (fact ∷ past))
    unfolding pending present view
    fits_then client (Admitted d) follows calm there space = by (d == c) refl
      where
        by : (b : Bool) → (d == c) ≡ b → waiting_places space (if b then [] else view_of c past) ≡ places_of c space (pending past)
        by true e = sym (none_asked space client (subst (λ (n : ℕ). contains n (present past) ≡ false) (eqb-true d c e) calm))
        by false e = F.fits (joined_was_there c d past e there) space
    fits_then client (Ended d NotAdmitted) follows calm there space =
        let other = stayed past d there in
        ap (λ (b : Bool). waiting_places space (if b then End NotAdmitted ∷ [] else view_of c past)) other ∙ F.fits (stayed_was_there c d past there) space ∙ none_ended past d space other
    fits_then client (Ended d BadStream) follows calm there space =
        silent space (d == c) (End BadStream) (view_of c past) refl ∙ F.fits (stayed_was_there c d past there) space ∙ none_ended past d space (stayed past d there)
    fits_then client (Ended d Leaving) follows calm there space =
        silent space (d == c) (End Leaving) (view_of c past) refl ∙ F.fits (stayed_was_there c d past there) space ∙ none_ended past d space (stayed past d there)
    fits_then client (Ended d NoRoom) follows calm there space = F.fits (stayed_was_there c d past there) space ∙ none_ended past d space (stayed past d there)
    fits_then client (Judged d place m verdict) follows calm there space =
        ⊎_elim
        (λ (other : (d == c) ≡ false). ap (λ (b : Bool). waiting_places space (entry_if b (Said m verdict) (view_of c past))) other)
        (λ (unsent : verdict ≢ Forward). silent space (d == c) (Said m verdict) (view_of c past) (not_forwarded space m verdict (view_of c past) unsent)) calm
        ∙ F.fits there space
    fits_then client (Taken d count) follows calm there space = silent space (d == c) (Taking count) (view_of c past) refl ∙ F.fits there space
    fits_then client (Forwarded r) follows calm there space =
        F.fits there space ∙ sym (places_more c space (pending past) r false (ap (λ (b : Bool). b && (r.space == space)) calm))
    fits_then client (Answered r m) follows calm there space = done r (Response r.place (blank m)) space follows there refl
    fits_then client (IdHeld r) follows calm there space = done r (Refused r.place HeldId) space follows there refl
    fits_then client (Expired r) follows calm there space = done r (Refused r.place NoAnswer) space follows there refl
    fits_then client (Aborted r) follows calm there space = done r (Refused r.place NoAnswer) space follows there refl
    fits_then client (Late r) follows calm there space = F.fits there space ∙ none_late r space calm
    fits_then client (Indicated m receivers) follows calm there space = silent space (contains c receivers) (Indication m) (view_of c past) refl ∙ F.fits there space
    fits_then client (OpeningEnded status receivers) follows calm there space = silent space (contains c receivers) (OpenedWith status) (view_of c past) refl ∙ F.fits there space
    fits_then client (SessionsClosed receivers) follows calm there space = silent space (contains c receivers) Shut (view_of c past) refl ∙ F.fits there space
    fits_then client Reset follows calm there space = F.fits there space ∙ ap (places_of c space) calm
    fits_then client ModemLost follows calm there space = F.fits there space ∙ ap (places_of c space) calm
    fits_then client _ follows calm there space = F.fits there space

    pub fitting_more : c ≢ 0 → (fact : Fact) → MayFollow qmi_limits fact past → IsCalm fact past → Fitting (fact ∷ past)
    fitting_more client fact follows calm = record {
      apart = λ q r at_q at_r own_q own_r same. F.apart q r (waited fact past calm q own_q at_q) (waited fact past calm r own_r at_r) own_q own_r same;
      fits = fits_then client fact follows calm;
    }
