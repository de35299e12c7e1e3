-- What a client's own view tells of it, and the bytes for it, are those of its part of the history.
use Rattle.std.proofs.Common.{◌≡◌, ℕ, ◌+◌, ◌≤◌, Bool, true, false, ◌||◌, ◌==◌, nat_lt, if◌then◌else◌, List, [], ◌∷◌, ◌++◌, length, refl, ap, sym, ◌∙◌, arith, append-nil, Option, None}
use Rattle.std.proofs.lemmas.Bool.Decides.{nat_tests}
use Rattle.mbim_frame.specs.declared.status.TheConstants.{SUCCESS}
use Rattle.mbim_frame.specs.Head.{number_of}
use Rattle.mbim_frame.specs.Writing.{open_done}
use Rattle.proxy_history.specs.Facts.{Fact, Verdict, Own, Share, Foreign, Away, Full, Forward, Ready, Waits, NotAdmitted, BadStream, Leaving, Admitted, Ended, Judged, Taken, Answered, IdHeld, Expired, Aborted, Indicated, OpeningEnded, SessionsClosed}
use Rattle.proxy_history.specs.Connections.{contains}
use Rattle.proxy_history.specs.View.{Entry, Said, Response, Refused, Indication, OpenedWith, Shut, Taking, End, HeldId, NoAnswer, view, entry_if}
use Rattle.proxy_history.specs.Rendering.{Rendering, put, put_unless, take_waiting, render}
use Rattle.proxy_history.specs.Wording.{told_by, text_behind}
use Rattle.proxy_history.proofs.Rendering.{waiting_within}
use Rattle.proxy_solo.specs.Part.{as_sent, concerns, as_known, facts_if, part}
use Rattle.proxy_solo.proofs.Lists.{self}
use Rattle.proxy_solo.proofs.Reading.{is_judged, kept, kept_plain, passed_plain}
use Rattle.proxy_solo.proofs.Noting.{only}
use Rattle.mbim_proxy.specs.Setup.{Setup}
use Rattle.mbim_proxy.specs.Known.{Known}
use Rattle.mbim_proxy.specs.Step.{with_message, with_verdict, blank, view_of, known_from, known_now}
use Rattle.mbim_proxy.specs.Step as step
use Rattle.mbim_proxy.specs.Text.{mbim_wording, text_as}
use Rattle.mbim_solo.specs.Solo.{restated}
use Rattle.mbim_solo.specs.Part as mbim
use Rattle.mbim_solo.proofs.Reading.{reads}

-- ---- nothing that is put changes nothing ----

put_none_unless : (over : Bool) (r : Rendering) → over ≡ r.is_over → put_unless over [] r ≡ r
put_none_unless true r is = ap (λ (b : Bool). let same : Rendering = record { bytes = r.bytes; waiting = r.waiting; is_over = b } in same) is
put_none_unless false r is =
    ap (λ (l : List ℕ). let same : Rendering = record { bytes = l; waiting = r.waiting ++ []; is_over = false } in same) (append-nil r.bytes)
    ∙ ap (λ (l : List ℕ). let same : Rendering = record { bytes = r.bytes; waiting = l; is_over = false } in same) (append-nil r.waiting)
    ∙ ap (λ (b : Bool). let same : Rendering = record { bytes = r.bytes; waiting = r.waiting; is_over = b } in same) is

put_none : (room : ℕ) (r : Rendering) → length r.waiting ≤ room → put room [] r ≡ r
put_none room r within =
    let fits : nat_lt room (length r.waiting + 0) ≡ false = grind (arith, nat_tests, within) in
    put_none_unless (r.is_over || nat_lt room (length r.waiting + 0)) r (ap (λ (b : Bool). r.is_over || b) fits ∙ elim r.is_over as (λ b. (b || false) ≡ b) [ true ↦ refl | false ↦ refl ])

module _ (s : Setup) where
  -- what a view tells, and the bytes that it comes to
  pub record Told : Type 0 where
    pub known : Known
    pub text : Rendering

  abbrev pub told : List Entry → Told
  told entries = record { known = known_from s entries; text = render s.limits.outbox (text_behind (mbim_wording s)) entries }

  -- an entry more
  abbrev text_with : Entry → Told → Rendering
  text_with (Taking count) t = take_waiting count t.text
  text_with Shut t = t.text
  text_with (End why) t = t.text
  text_with entry t = put s.limits.outbox (text_as s t.known entry) t.text

  abbrev with_entry : Entry → Told → Told
  with_entry entry t = record { known = step.step s t.known entry; text = text_with entry t }

  one_more : (entry : Entry) (entries : List Entry) → told (entry ∷ entries) ≡ with_entry entry (told entries)
  unfolding render told_by
  one_more (Said m verdict) entries = refl
  one_more (Response place m) entries = refl
  one_more (Refused place cause) entries = refl
  one_more (Indication m) entries = refl
  one_more (OpenedWith status) entries = refl
  one_more Shut entries = refl
  one_more (Taking count) entries = refl
  one_more (End why) entries = refl

  -- a request to open that an open modem answers, of a client none of whose waits
  ready_is : (m : List ℕ) (t : Told) → t.known.waits ≡ None → length t.text.waiting ≤ s.limits.outbox → with_entry (OpenedWith SUCCESS) (with_entry (Said m Waits) t) ≡ with_entry (Said m Ready) t
  ready_is m t none within =
      ap (λ (r : Rendering). let both : Told = record { known = record (with_message s m t.known) { waits = None; opened = true }; text = put s.limits.outbox (open_done (number_of m) SUCCESS) r } in both) (put_none s.limits.outbox t.text within)
      ∙ ap (λ (o : Option ℕ). let both : Told = record { known = record (with_message s m t.known) { waits = o; opened = true }; text = put s.limits.outbox (open_done (number_of m) SUCCESS) t.text } in both) (sym none)

  module _ (c : ℕ) where
    -- each request to open of the client that an open modem answered was its only one
    abbrev pub OpensOnce : Fact → List Fact → Type 0
    OpensOnce (Judged d place m Ready) past = (d == c) ≡ true → (known_now s c past).waits ≡ None
    OpensOnce _ past = Unit {0}

    abbrev pub OpenOnce : List Fact → Type 0
    OpenOnce [] = Unit {0}
    OpenOnce (fact ∷ past) = OpensOnce fact past × OpenOnce past

    abbrev pub known_view : List Fact → List Entry
    known_view facts = view (λ m. m) c facts

    told_if : Bool → Entry → Told → Told
    told_if true entry t = with_entry entry t
    told_if false entry t = t

    grown : (b : Bool) (entry : Entry) (entries : List Entry) → told (entry_if b entry entries) ≡ told_if b entry (told entries)
    unfolding told_if
    grown true entry entries = one_more entry entries
    grown false entry entries = refl

    -- views that tell the same tell the same with an entry more
    same_if : (b : Bool) (entry : Entry) (one other : List Entry) → told one ≡ told other → told (entry_if b entry one) ≡ told (entry_if b entry other)
    same_if b entry one other same = grown b entry one ∙ ap (told_if b entry) same ∙ sym (grown b entry other)

    anew_if : (b : Bool) (anew one other : List Entry) → told one ≡ told other → told (if b then anew else one) ≡ told (if b then anew else other)
    anew_if true anew one other same = refl
    anew_if false anew one other same = same

    -- a view that grows by an entry
    entered : (b : Bool) (fact : Fact) (entry : Entry) (facts : List Fact) → is_judged fact ≡ false → (b ≡ true → known_view (fact ∷ facts) ≡ entry_if b entry (known_view facts)) → known_view (facts_if b (restated fact) facts) ≡ entry_if b entry (known_view facts)
    entered b fact entry facts plain is = kept_plain restated reads known_view (λ t l. entry_if t entry l) b fact facts plain refl is

    -- by a fact that tells several, and tells it alone in its part
    told_too : (receivers : List ℕ) (fact : Fact) (entry : Entry) (facts : List Fact) → is_judged fact ≡ false → known_view (fact ∷ facts) ≡ entry_if (contains c (c ∷ [])) entry (known_view facts)
        → known_view (facts_if (contains c receivers) (restated fact) facts) ≡ entry_if (contains c receivers) entry (known_view facts)
    told_too receivers fact entry facts plain is =
        entered (contains c receivers) fact entry facts plain
        (λ e. is ∙ ap (λ (t : Bool). entry_if (t || false) entry (known_view facts)) (self c) ∙ ap (λ (t : Bool). entry_if t entry (known_view facts)) (sym e))

    -- ---- judged messages ----

    module _ (d place : ℕ) (m : List ℕ) (past : List Fact) (same : told (known_view (mbim.part c past)) ≡ told (view_of c past)) where
      as_it_stands : (verdict : Verdict) → told (known_view (facts_if (d == c) (Judged d place m verdict ∷ []) (mbim.part c past))) ≡ told (entry_if (d == c) (Said m verdict) (view_of c past))
      unfolding view
      as_it_stands verdict =
          ap told (kept known_view (λ t l. entry_if t (Said m verdict) l) (d == c) (Judged d place m verdict ∷ []) (mbim.part c past) refl (λ e. refl))
          ∙ same_if (d == c) (Said m verdict) (known_view (mbim.part c past)) (view_of c past) same

      by_waiting : ((d == c) ≡ true → (known_now s c past).waits ≡ None) → told (known_view (facts_if (d == c) (OpeningEnded SUCCESS (d ∷ []) ∷ Judged d place m Waits ∷ []) (mbim.part c past))) ≡ told (entry_if (d == c) (Said m Ready) (view_of c past))
      unfolding view
      by_waiting none =
          let facts : List Fact = OpeningEnded SUCCESS (d ∷ []) ∷ Judged d place m Waits ∷ [] in
          let step : (b : Bool) → (d == c) ≡ b → told (known_view (facts_if b facts (mbim.part c past))) ≡ told (entry_if b (Said m Ready) (view_of c past)) =
          λ b. elim b as (λ b. (d == c) ≡ b → told (known_view (facts_if b facts (mbim.part c past))) ≡ told (entry_if b (Said m Ready) (view_of c past))) [
            | true ↦ λ e.
                ap (λ (t : Bool). told (entry_if t (OpenedWith SUCCESS) (entry_if (d == c) (Said m Waits) (known_view (mbim.part c past))))) (only c d ∙ e)
                ∙ ap (λ (t : Bool). told (OpenedWith SUCCESS ∷ entry_if t (Said m Waits) (known_view (mbim.part c past)))) e
                ∙ one_more (OpenedWith SUCCESS) (Said m Waits ∷ known_view (mbim.part c past))
                ∙ ap (with_entry (OpenedWith SUCCESS)) (one_more (Said m Waits) (known_view (mbim.part c past)))
                ∙ ap (λ (t : Told). with_entry (OpenedWith SUCCESS) (with_entry (Said m Waits) t)) same
                ∙ ready_is m (told (view_of c past)) (none e) (waiting_within s.limits.outbox (text_behind (mbim_wording s)) (view_of c past))
                ∙ sym (one_more (Said m Ready) (view_of c past))
            | false ↦ λ e. same
          ]
          in step (d == c) refl

      judged_tells : (verdict : Verdict) → OpensOnce (Judged d place m verdict) past → told (known_view (facts_if (d == c) (restated (Judged d place m verdict)) (mbim.part c past))) ≡ told (entry_if (d == c) (Said m verdict) (view_of c past))
      judged_tells Own once = as_it_stands Own
      judged_tells Share once = as_it_stands Share
      judged_tells Foreign once = as_it_stands Foreign
      judged_tells Away once = as_it_stands Away
      judged_tells Full once = as_it_stands Full
      judged_tells Forward once = as_it_stands Forward
      judged_tells Ready once = by_waiting once
      judged_tells Waits once = as_it_stands Waits

    -- ---- every fact ----

    pub told-part : (past : List Fact) → OpenOnce past → told (known_view (mbim.part c past)) ≡ told (view_of c past)
    unfolding view part
    told-part [] once = refl
    told-part (Admitted d ∷ past) once =
        ap told (kept_plain restated reads known_view (λ t l. if t then [] else l) (d == c) (Admitted d) (mbim.part c past) refl refl (λ e. refl))
        ∙ anew_if (d == c) [] (known_view (mbim.part c past)) (view_of c past) (told-part past once.1)
    told-part (Ended d NotAdmitted ∷ past) once =
        ap told (kept_plain restated reads known_view (λ t l. if t then End NotAdmitted ∷ [] else l) (d == c) (Ended d NotAdmitted) (mbim.part c past) refl refl (λ e. refl))
        ∙ anew_if (d == c) (End NotAdmitted ∷ []) (known_view (mbim.part c past)) (view_of c past) (told-part past once.1)
    told-part (Ended d BadStream ∷ past) once = ap told (entered (d == c) (Ended d BadStream) (End BadStream) (mbim.part c past) refl (λ e. refl)) ∙ same_if (d == c) (End BadStream) (known_view (mbim.part c past)) (view_of c past) (told-part past once.1)
    told-part (Ended d Leaving ∷ past) once = ap told (entered (d == c) (Ended d Leaving) (End Leaving) (mbim.part c past) refl (λ e. refl)) ∙ same_if (d == c) (End Leaving) (known_view (mbim.part c past)) (view_of c past) (told-part past once.1)
    told-part (Judged d place m verdict ∷ past) once = judged_tells d place m past (told-part past once.1) verdict once.0
    told-part (Taken d count ∷ past) once = ap told (entered (d == c) (Taken d count) (Taking count) (mbim.part c past) refl (λ e. refl)) ∙ same_if (d == c) (Taking count) (known_view (mbim.part c past)) (view_of c past) (told-part past once.1)
    told-part (Answered r m ∷ past) once =
        ap told (entered (r.conn == c) (Answered (as_sent r) (blank m)) (Response r.place (blank m)) (mbim.part c past) refl (λ e. refl))
        ∙ same_if (r.conn == c) (Response r.place (blank m)) (known_view (mbim.part c past)) (view_of c past) (told-part past once.1)
    told-part (IdHeld r ∷ past) once = ap told (entered (r.conn == c) (IdHeld (as_sent r)) (Refused r.place HeldId) (mbim.part c past) refl (λ e. refl)) ∙ same_if (r.conn == c) (Refused r.place HeldId) (known_view (mbim.part c past)) (view_of c past) (told-part past once.1)
    told-part (Expired r ∷ past) once = ap told (entered (r.conn == c) (Expired (as_sent r)) (Refused r.place NoAnswer) (mbim.part c past) refl (λ e. refl)) ∙ same_if (r.conn == c) (Refused r.place NoAnswer) (known_view (mbim.part c past)) (view_of c past) (told-part past once.1)
    told-part (Aborted r ∷ past) once = ap told (entered (r.conn == c) (Aborted (as_sent r)) (Refused r.place NoAnswer) (mbim.part c past) refl (λ e. refl)) ∙ same_if (r.conn == c) (Refused r.place NoAnswer) (known_view (mbim.part c past)) (view_of c past) (told-part past once.1)
    told-part (Indicated m receivers ∷ past) once = ap told (told_too receivers (Indicated m (c ∷ [])) (Indication m) (mbim.part c past) refl refl) ∙ same_if (contains c receivers) (Indication m) (known_view (mbim.part c past)) (view_of c past) (told-part past once.1)
    told-part (OpeningEnded status receivers ∷ past) once = ap told (told_too receivers (OpeningEnded status (c ∷ [])) (OpenedWith status) (mbim.part c past) refl refl) ∙ same_if (contains c receivers) (OpenedWith status) (known_view (mbim.part c past)) (view_of c past) (told-part past once.1)
    told-part (SessionsClosed receivers ∷ past) once = ap told (told_too receivers (SessionsClosed (c ∷ [])) Shut (mbim.part c past) refl refl) ∙ same_if (contains c receivers) Shut (known_view (mbim.part c past)) (view_of c past) (told-part past once.1)
    told-part (fact ∷ past) once = ap told (passed_plain restated reads known_view (concerns c fact) (as_known blank c fact) (mbim.part c past) refl refl) ∙ told-part past once.1

    pub known-part : (past : List Fact) → OpenOnce past → known_from s (known_view (mbim.part c past)) ≡ known_now s c past
    known-part past once = ap (λ (t : Told). t.known) (told-part past once)

    pub text-part : (past : List Fact) → OpenOnce past → render s.limits.outbox (text_behind (mbim_wording s)) (known_view (mbim.part c past)) ≡ render s.limits.outbox (text_behind (mbim_wording s)) (view_of c past)
    text-part past once = ap (λ (t : Told). t.text) (told-part past once)
