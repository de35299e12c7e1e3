-- What a client's view tells of its commands that wait is kept fact by fact.
use Rattle.std.proofs.Common.{◌≡◌, ◌≢◌, ◌⊎◌, ℕ, ◌+◌, ◌≤◌, Bool, true, false, not, ◌&&◌, ◌||◌, ◌==◌, if◌then◌else◌, List, [], ◌∷◌, ◌++◌, filter, ⊎_elim, refl, ap, sym, ◌∙◌, subst, arith, All, Contains}
use Rattle.std.proofs.lemmas.Bool.{eqb-true, eq-eqb, false_from_ne_true}
use Rattle.std.proofs.lemmas.List.Elements.{All-contains, All-tail}
use Rattle.proxy_history.specs.Facts.{Verdict, Own, Forward, Fact, Request, NotAdmitted, BadStream, NoRoom, Leaving, Admitted, Ended, Judged, Taken, Forwarded, Answered, IdHeld, Late, Expired, Aborted, Indicated, OpeningEnded, SessionsClosed, Reset, ModemLost}
use Rattle.proxy_history.specs.Connections.{contains, present, is_present, message_count}
use Rattle.proxy_history.specs.Requests.{pending, has_request, is_pending, without_request}
use Rattle.proxy_history.specs.Laws.{ends_waiting}
use Rattle.proxy_history.specs.View.{Entry, Said, Response, Refused, Indication, OpenedWith, Shut, Taking, End, HeldId, NoAnswer, view, entry_if, said_count}
use Rattle.proxy_history.specs.Wording.{told_by}
use Rattle.proxy_history.specs.Sound.{IsParty, MayFollow, IsSound}
use Rattle.proxy_history.proofs.Lists.{Contains-filter_from}
use Rattle.proxy_history.proofs.GoesOn.{pending-exactly}
use Rattle.proxy_history.proofs.Given.{contained_has}
use Rattle.proxy_history.proofs.Sound.{in_use_from_pending, forwarded_from_in_use, same_serial}
use Rattle.proxy_history.proofs.SoundLaws.{waiting_are_parties, left_is_absent, stayed_was_there, joined_was_there}
use Rattle.mbim_proxy.specs.Setup.{Setup, the_space}
use Rattle.mbim_proxy.specs.Known.{Known, without_ask}
use Rattle.mbim_proxy.specs.OwnReplies.{OwnReply, Closes, Configures, Subscribes, own_reply}
use Rattle.mbim_proxy.specs.Step.{blank, with_message, with_reply, step, known_from, view_of, known_now}
use Rattle.mbim_isolation.proofs.Places.{places_of, places_left, places_stay, no_places, places_same, asked_places, places_without}

-- which waits waited before, unless it is forwarded by the newest fact
waited_unless : (fact : Fact) (past : List Fact) (q : Request) → (fact ≡ Forwarded q → ⊥) → Contains (pending (fact ∷ past)) q → Contains (pending past) q
waited_unless fact past q other at = let goes = (pending-exactly (fact ∷ past) q).0 at in by goes.later goes.earlier goes.whole goes.none
  where
    by : (later earlier : List Fact) → fact ∷ past ≡ later ++ Forwarded q ∷ earlier → All (λ f. ends_waiting q f ≡ false) later → Contains (pending past) q
    by [] earlier whole none = absurd (other (let first : fact ≡ Forwarded q = cc in first))
    by (f ∷ later) earlier whole none =
        let rest : past ≡ later ++ Forwarded q ∷ earlier = cc in
        (pending-exactly past q).1 (record { later = later; earlier = earlier; whole = rest; none = All-tail (λ f. ends_waiting q f ≡ false) f later none })

-- ---- what an entry tells of commands ----

module _ (s : Setup) where
  behind_reply : (reply : OwnReply) (known : Known) → ((with_reply reply known).sent ≡ known.sent) × ((with_reply reply known).asks ≡ known.asks)
  behind_reply Closes known = (refl, refl)
  behind_reply (Configures command) known = (refl, refl)
  behind_reply (Subscribes command list) known = (refl, refl)
  behind_reply _ known = (refl, refl)

  counted_more : (known : Known) (m : List ℕ) (verdict : Verdict) → (step s known (Said m verdict)).sent ≡ known.sent + 1
  counted_more known m Own = (behind_reply (own_reply s known m) (with_message s m known)).0
  counted_more known m _ = refl

  pub all_counted : (entries : List Entry) → (known_from s entries).sent ≡ said_count entries
  unfolding told_by
  all_counted [] = refl
  all_counted (Said m verdict ∷ entries) = counted_more (known_from s entries) m verdict ∙ ap (λ (n : ℕ). n + 1) (all_counted entries)
  all_counted (_ ∷ entries) = all_counted entries

  not_forwarded : (known : Known) (m : List ℕ) (verdict : Verdict) → verdict ≢ Forward → (step s known (Said m verdict)).asks ≡ known.asks
  not_forwarded known m Own other = (behind_reply (own_reply s known m) (with_message s m known)).1
  not_forwarded known m Forward other = absurd (other refl)
  not_forwarded known m _ other = refl

  abbrev asked_in : List Entry → List ℕ
  asked_in entries = asked_places (known_from s entries).asks

  -- an entry that tells nothing of them
  silent : (b : Bool) (entry : Entry) (entries : List Entry) → (step s (known_from s entries) entry).asks ≡ (known_from s entries).asks → asked_in (entry_if b entry entries) ≡ asked_in entries
  unfolding told_by
  silent true entry entries same = ap asked_places same
  silent false entry entries same = refl

  module _ (c : ℕ) where
    -- what the view tells of the client's commands that wait
    pub record Fitting (past : List Fact) : Type 0 where
      -- they are of messages that were judged, and two of them of different ones
      pub early : (q : Request) → Contains (pending past) q → (q.conn == c) ≡ true → q.place ≤ message_count c past
      pub apart : (q r : Request) → Contains (pending past) q → Contains (pending past) r → (q.conn == c) ≡ true → (r.conn == c) ≡ true → (r.place == q.place) ≡ true → q ≡ r
      pub fits : is_present c past ≡ true → asked_places (known_now s c past).asks ≡ places_of c (pending past)

    -- a fact that adds no request of the client, and after which those wait that waited and that it doesn't name
    abbrev pub IsCalm : Fact → List Fact → Type 0
    IsCalm (Admitted d) past = contains d (present past) ≡ false
    IsCalm (Judged d place m verdict) past = ((d == c) ≡ false) ⊎ (verdict ≢ Forward)
    IsCalm (Forwarded r) past = (r.conn == c) ≡ false
    IsCalm (Late r) past = is_pending r past ≡ false
    IsCalm Reset past = pending past ≡ []
    IsCalm ModemLost past = pending past ≡ []
    IsCalm _ past = Unit {0}

    -- the client's requests that wait now waited before
    waited : (fact : Fact) (past : List Fact) → IsCalm fact past → (q : Request) → (q.conn == c) ≡ true → Contains (pending (fact ∷ past)) q → Contains (pending past) q
    waited fact past calm q own at = waited_unless fact past q (λ (is : fact ≡ Forwarded q). let clash : true ≡ false = sym own ∙ subst (λ (f : Fact). IsCalm f past) is calm in cc) at

    -- ---- facts that need nothing of those before them ----

    -- one that ends is another
    stayed : (past : List Fact) (d : ℕ) → contains c (filter (λ e. not (d == e)) (present past)) ≡ true → (d == c) ≡ false
    stayed past d there = false_from_ne_true (d == c) (λ e. let clash : true ≡ false = sym there ∙ left_is_absent c d past e in cc)

    none_ended : (past : List Fact) (d : ℕ) → (d == c) ≡ false → places_of c (pending past) ≡ places_of c (filter (λ q. not (d == q.conn)) (pending past))
    none_ended past d other = places_stay c (λ q. not (d == q.conn)) (pending past) (λ q at own. ap not (ap (λ (n : ℕ). d == n) (eqb-true q.conn c own) ∙ other))

    pub ended_too : (d : ℕ) (past : List Fact) → Fitting past → Fitting (Ended d NoRoom ∷ past)
    unfolding pending present view message_count
    ended_too d past F = record {
      early = λ q at own. F.early q (Contains-filter_from (λ (x : Request). not (d == x.conn)) (pending past) q at) own;
      apart = λ q r at_q at_r own_q own_r same.
          F.apart q r (Contains-filter_from (λ (x : Request). not (d == x.conn)) (pending past) q at_q) (Contains-filter_from (λ (x : Request). not (d == x.conn)) (pending past) r at_r) own_q own_r same;
      fits = λ there. F.fits (stayed_was_there c d past there) ∙ none_ended past d (stayed past d there);
    }

    pub told_too : (m : List ℕ) (receivers : List ℕ) (past : List Fact) → Fitting past → Fitting (Indicated m receivers ∷ past)
    unfolding pending present view message_count
    told_too m receivers past F = record { early = F.early; apart = F.apart; fits = λ there. silent (contains c receivers) (Indication m) (view_of c past) refl ∙ F.fits there }

    pub opening_ended_too : (status : ℕ) (receivers : List ℕ) (past : List Fact) → Fitting past → Fitting (OpeningEnded status receivers ∷ past)
    unfolding pending present view message_count
    opening_ended_too status receivers past F = record { early = F.early; apart = F.apart; fits = λ there. silent (contains c receivers) (OpenedWith status) (view_of c past) refl ∙ F.fits there }

    pub forwarded_too : (r : Request) (past : List Fact) → (r.conn == c) ≡ false → Fitting past → Fitting (Forwarded r ∷ past)
    unfolding pending present view message_count
    forwarded_too r past other F = record {
      early = λ q at own. F.early q (waited (Forwarded r) past other q own at) own;
      apart = λ q x at_q at_x own_q own_x same. F.apart q x (waited (Forwarded r) past other q own_q at_q) (waited (Forwarded r) past other x own_x at_x) own_q own_x same;
      fits = λ there. F.fits there ∙ sym (places_same c (pending past) r (ap (λ (b : Bool). b && (r.space == the_space)) other));
    }

    -- ---- a request that is done with ----

    module _ (past : List Fact) (sound : IsSound s.limits past) (F : Fitting past) where
      serials_tell : (q r : Request) → Contains (pending past) q → Contains (pending past) r → (r.serial == q.serial) ≡ true → q ≡ r
      serials_tell q r at_q at_r e =
          same_serial s.limits past q r sound (forwarded_from_in_use past q (in_use_from_pending past q at_q)) (forwarded_from_in_use past r (in_use_from_pending past r at_r)) (sym (eqb-true r.serial q.serial e))

      -- its entry takes its place out, where it is the client's
      done : (r : Request) (entry : Entry) → Contains (pending past) r → is_present c past ≡ true
          → (step s (known_now s c past) entry).asks ≡ without_ask r.place (known_now s c past).asks
          → asked_in (entry_if (r.conn == c) entry (view_of c past)) ≡ places_of c (without_request r (pending past))
      unfolding told_by
      done r entry at there takes = by (r.conn == c) refl
        where
          by : (b : Bool) → (r.conn == c) ≡ b → asked_in (entry_if b entry (view_of c past)) ≡ places_of c (without_request r (pending past))
          by true own =
              ap asked_places takes ∙ places_without r.place (known_now s c past).asks ∙ ap (λ (l : List ℕ). filter (λ p. not (p == r.place)) l) (F.fits there)
              ∙ places_left c (λ p. not (p == r.place)) (λ q. not (r.serial == q.serial)) (pending past)
              (λ q at_q own_q. tests q (r.serial == q.serial) (q.place == r.place) refl refl (serials_tell q r at_q at) (λ e. sym (F.apart r q at at_q own own_q e)))
            where
              tests : (q : Request) (one other : Bool) → (r.serial == q.serial) ≡ one → (q.place == r.place) ≡ other → ((r.serial == q.serial) ≡ true → q ≡ r) → ((q.place == r.place) ≡ true → q ≡ r) → not other ≡ not one
              tests q true true e f serial place = refl
              tests q false false e f serial place = refl
              tests q true false e f serial place =
                  let clash : true ≡ false = sym (eq-eqb q.place r.place (ap (λ (x : Request). x.place) (serial e))) ∙ f in absurd (cc)
              tests q false true e f serial place =
                  let clash : true ≡ false = sym (eq-eqb r.serial q.serial (sym (ap (λ (x : Request). x.serial) (place f)))) ∙ e in absurd (cc)
          by false other =
              F.fits there
              ∙ places_stay c (λ q. not (r.serial == q.serial)) (pending past)
              (λ q at_q own_q.
              ap not (false_from_ne_true (r.serial == q.serial) (λ e. let clash : true ≡ false = sym own_q ∙ ap (λ (x : Request). x.conn == c) (serials_tell q r at_q at e) ∙ other in cc)))

      -- a late answer's request didn't wait
      none_late : (r : Request) → is_pending r past ≡ false → places_of c (pending past) ≡ places_of c (without_request r (pending past))
      none_late r none =
          places_stay c (λ q. not (r.serial == q.serial)) (pending past)
          (λ q at own. ap not (false_from_ne_true (r.serial == q.serial) (λ e. let clash : true ≡ false = sym (same q (pending past) (eqb-true r.serial q.serial e) ∙ contained_has (pending past) q at) ∙ none in cc)))
        where
          same : (q : Request) (requests : List Request) → r.serial ≡ q.serial → has_request r requests ≡ has_request q requests
          same q [] e = refl
          same q (x ∷ requests) e = ap (λ (n : ℕ). n == x.serial || has_request r requests) e ∙ ap (λ (b : Bool). q.serial == x.serial || b) (same q requests e)

      -- who joins has asked nothing
      none_asked : c ≢ 0 → contains c (present past) ≡ false → (q : Request) → Contains (pending past) q → (q.conn == c) ≡ false
      none_asked client absent q at = by (q.conn == c) refl (All-contains (λ (r : Request). IsParty r.conn past) (pending past) q (waiting_are_parties s.limits past sound) at)
        where
          by : (b : Bool) → (q.conn == c) ≡ b → IsParty q.conn past → b ≡ false
          by false e party = refl
          by true e party =
              let own : (c == 0 || contains c (present past)) ≡ true = subst (λ (n : ℕ). (n == 0 || contains n (present past)) ≡ true) (eqb-true q.conn c e) party in
              let apart : (c == 0) ≡ false = false_from_ne_true (c == 0) (λ e. client (eqb-true c 0 e)) in
              let clash : true ≡ false = sym own ∙ ap (λ (b : Bool). b || contains c (present past)) apart ∙ absent in
              absurd (cc)

      joined_none : c ≢ 0 → (d : ℕ) → contains d (present past) ≡ false → (d == c) ≡ true → (q : Request) → Contains (pending past) q → (q.conn == c) ≡ false
      joined_none client d absent e = none_asked client (subst (λ (n : ℕ). contains n (present past) ≡ false) (eqb-true d c e) absent)

      -- ---- every calm fact ----

      early_then : c ≢ 0 → (fact : Fact) → IsCalm fact past → (q : Request) → Contains (pending (fact ∷ past)) q → (q.conn == c) ≡ true → q.place ≤ message_count c (fact ∷ past)
      unfolding pending message_count
      early_then client (Admitted d) calm q at own = by (d == c) refl
        where
          by : (b : Bool) → (d == c) ≡ b → q.place ≤ (if b then 0 else message_count c past)
          by true e = absurd (let clash : true ≡ false = sym own ∙ joined_none client d calm e q at in cc)
          by false e = F.early q at own
      early_then client (Judged d place m verdict) calm q at own =
          let within = F.early q at own in elim (d == c) as (λ b. q.place ≤ (if b then message_count c past + 1 else message_count c past)) [ true ↦ omega arith | false ↦ within ]
      early_then client fact calm q at own = F.early q (waited fact past calm q own at) own

      fits_then : c ≢ 0 → (fact : Fact) → MayFollow s.limits fact past → IsCalm fact past → is_present c (fact ∷ past) ≡ true → asked_in (view_of c (fact ∷ past)) ≡ places_of c (pending (fact ∷ past))
      unfolding pending present view told_by
      fits_then client (Admitted d) follows calm there = by (d == c) refl
        where
          by : (b : Bool) → (d == c) ≡ b → asked_in (if b then [] else view_of c past) ≡ places_of c (pending past)
          by true e = sym (no_places c (pending past) (joined_none client d calm e))
          by false e = F.fits (joined_was_there c d past e there)
      fits_then client (Ended d NotAdmitted) follows calm there =
          let other = stayed past d there in
          ap (λ (b : Bool). asked_in (if b then End NotAdmitted ∷ [] else view_of c past)) other ∙ F.fits (stayed_was_there c d past there) ∙ none_ended past d other
      fits_then client (Ended d BadStream) follows calm there =
          silent (d == c) (End BadStream) (view_of c past) refl ∙ F.fits (stayed_was_there c d past there) ∙ none_ended past d (stayed past d there)
      fits_then client (Ended d Leaving) follows calm there =
          silent (d == c) (End Leaving) (view_of c past) refl ∙ F.fits (stayed_was_there c d past there) ∙ none_ended past d (stayed past d there)
      fits_then client (Ended d NoRoom) follows calm there = F.fits (stayed_was_there c d past there) ∙ none_ended past d (stayed past d there)
      fits_then client (Judged d place m verdict) follows calm there =
          ⊎_elim
          (λ (other : (d == c) ≡ false). ap (λ (b : Bool). asked_in (entry_if b (Said m verdict) (view_of c past))) other)
          (λ (unsent : verdict ≢ Forward). silent (d == c) (Said m verdict) (view_of c past) (not_forwarded (known_now s c past) m verdict unsent)) calm
          ∙ F.fits there
      fits_then client (Taken d count) follows calm there = silent (d == c) (Taking count) (view_of c past) refl ∙ F.fits there
      fits_then client (Forwarded r) follows calm there = (forwarded_too r past calm F).fits there
      fits_then client (Answered r m) follows calm there = done r (Response r.place (blank m)) follows there refl
      fits_then client (IdHeld r) follows calm there = done r (Refused r.place HeldId) follows there refl
      fits_then client (Expired r) follows calm there = done r (Refused r.place NoAnswer) follows there refl
      fits_then client (Aborted r) follows calm there = done r (Refused r.place NoAnswer) follows there refl
      fits_then client (Late r) follows calm there = F.fits there ∙ none_late r calm
      fits_then client (Indicated m receivers) follows calm there = (told_too m receivers past F).fits there
      fits_then client (OpeningEnded status receivers) follows calm there = (opening_ended_too status receivers past F).fits there
      fits_then client (SessionsClosed receivers) follows calm there = silent (contains c receivers) Shut (view_of c past) refl ∙ F.fits there
      fits_then client Reset follows calm there = F.fits there ∙ ap (places_of c) calm
      fits_then client ModemLost follows calm there = F.fits there ∙ ap (places_of c) calm
      fits_then client _ follows calm there = F.fits there

      pub fitting_more : c ≢ 0 → (fact : Fact) → MayFollow s.limits fact past → IsCalm fact past → Fitting (fact ∷ past)
      fitting_more client fact follows calm = record {
        early = early_then client fact calm;
        apart = λ q r at_q at_r own_q own_r same. F.apart q r (waited fact past calm q own_q at_q) (waited fact past calm r own_r at_r) own_q own_r same;
        fits = fits_then client fact follows calm;
      }
