-- Requests that are refused in turn are refused in a client's part of the history, as far as they are the client's.
use Rattle.std.proofs.Common.{◌≡◌, ℕ, nat_le, Bool, true, false, ◌==◌, if◌then◌else◌, List, [], ◌∷◌, ◌++◌, refl, ap, sym, ◌∙◌, subst, Contains}
use Rattle.std.specs.List.{AllByRecursion}
use Rattle.std.proofs.lemmas.List.Elements.{All-weaker, All-from_recursion, recursion_from_All}
use Rattle.proxy_history.specs.Limits.{Limits}
use Rattle.proxy_history.specs.Facts.{Fact, Request, NoRoom, Ended, Expired, Aborted, Forwarded}
use Rattle.proxy_history.specs.Connections.{contains}
use Rattle.proxy_history.specs.Requests.{pending, is_pending}
use Rattle.proxy_history.specs.Wording.{Wording}
use Rattle.proxy_history.specs.Noting.{rendering, receivers_of, note, each_pending}
use Rattle.proxy_history.specs.Unanswered.{due}
use Rattle.proxy_history.proofs.Lists.{Contains-cons}
use Rattle.proxy_history.proofs.Sound.{kept_by_note, waits}
use Rattle.proxy_solo.specs.Part.{as_sent, concerns, as_known, part, request_if, sent_by}
use Rattle.proxy_solo.proofs.Lists.{sent_by-filter, every, SameTest}
use Rattle.proxy_solo.proofs.Reading.{Reads}
use Rattle.proxy_solo.proofs.Placed.{Placed}
use Rattle.proxy_solo.proofs.Queries.{is_pending-part}
use Rattle.proxy_solo.proofs.Noting.{only, noted, known_rendering, end_known}

-- a request is refused: its time is over, or the modem won't answer it
abbrev pub refused : Bool → Request → Fact
refused true r = Expired r
refused false r = Aborted r

pub sent_by-due : (c time : ℕ) (requests : List Request) → sent_by c (due time requests) ≡ due time (sent_by c requests)
sent_by-due c time requests = sent_by-filter c (λ r. nat_le r.deadline time) (λ r. nat_le r.deadline time) requests (every (SameTest c (λ r. nat_le r.deadline time) (λ r. nat_le r.deadline time)) (λ r mine. refl) requests)

module _ {Known : Type 0} (limits : Limits) (wording : Wording Known) (restated : Fact → List Fact) (R : Reads restated) (c : ℕ) where
  abbrev part_of : List Fact → List Fact
  part_of past = part wording.blank restated c past

  abbrev pub refuse_known : Bool → Request → List Fact → List Fact
  refuse_known flag r facts = end_known limits wording c (refused flag r ∷ facts)

  -- `Good` is what else is known of the history
  module _ (Good : List Fact → Type 0) (ends : (d : ℕ) (past : List Fact) → Good past → Good (Ended d NoRoom ∷ past))
      (over : (past : List Fact) → Good past → (rendering limits wording c past).is_over ≡ (known_rendering limits wording c (part_of past)).is_over)
      (refusals : (flag : Bool) (r : Request) (past : List Fact) → Good past → Good (refused flag r ∷ past)) where
    pub record Known_so (past : List Fact) : Type 0 where
      pub placed : Placed limits wording.blank restated R c past
      pub good : Good past

    -- the fact is noted, and what else is added the client isn't told
    pub record IsNoted (fact : Fact) (past after : List Fact) : Type 0 where
      pub same : part_of after ≡ part_of (note limits wording fact past)
      pub known : Known_so (note limits wording fact past) → Known_so after
      pub all : (other : Fact) → Contains (note limits wording fact past) other → Contains after other

    pub noted_alone : (fact : Fact) (past after : List Fact) → after ≡ note limits wording fact past → IsNoted fact past after
    noted_alone fact past after is = record { same = ap part_of is; known = λ K. subst Known_so (sym is) K; all = λ other at. subst (λ (l : List Fact). Contains l other) (sym is) at }

    -- `special` are the requests whose refusals bring more than that
    module _ (refuse : Fact → Request → List Fact → List Fact) (special : Request → Bool) (plain : (why : Fact) (r : Request) (past : List Fact) → special r ≡ false → IsNoted why past (refuse why r past)) (flag : Bool) where
      concerns_it : (r : Request) → concerns c (refused flag r) ≡ (r.conn == c)
      concerns_it r = elim flag as (λ f. concerns c (refused f r) ≡ (r.conn == c)) [ true ↦ refl | false ↦ refl ]

      known_as : (r : Request) (facts : List Fact) → restated (as_known wording.blank c (refused flag r)) ++ facts ≡ refused flag (as_sent r) ∷ facts
      known_as r facts =
          elim flag as (λ f. restated (as_known wording.blank c (refused f r)) ++ facts ≡ refused f (as_sent r) ∷ facts) [
            | true ↦ ap (λ (l : List Fact). l ++ facts) (R.plain (Expired (as_sent r)) refl)
            | false ↦ ap (λ (l : List Fact). l ++ facts) (R.plain (Aborted (as_sent r)) refl)
          ]

      goes_to : (r : Request) → contains c (receivers_of (refused flag r)) ≡ concerns c (refused flag r)
      goes_to r = elim flag as (λ f. contains c (receivers_of (refused f r)) ≡ concerns c (refused f r)) [ true ↦ only c r.conn | false ↦ only c r.conn ]

      known_behind : (r : Request) (past : List Fact) → Known_so past → Contains (pending past) r → Known_so (refused flag r ∷ past)
      known_behind r past K at = record { placed = placed flag; good = refusals flag r past K.good }
        where
          placed : (f : Bool) → Placed limits wording.blank restated R c (refused f r ∷ past)
          placed true = record { sound = (at, K.placed.sound); placed = (tt, K.placed.placed) }
          placed false = record { sound = (at, K.placed.sound); placed = (tt, K.placed.placed) }

      known_noted : (r : Request) (past : List Fact) → Known_so past → Contains (pending past) r → Known_so (note limits wording (refused flag r) past)
      known_noted r past K at =
          kept_by_note limits wording Known_so
          (λ d before there held. record { placed = record { sound = (there, held.placed.sound); placed = (tt, held.placed.placed) }; good = ends d before held.good }) (refused flag r) past (known_behind r past K at)

      noted_refusal : (r : Request) (past : List Fact) → Known_so past → Contains (pending past) r → part_of (note limits wording (refused flag r) past) ≡ (if r.conn == c then refuse_known flag (as_sent r) (part_of past) else part_of past)
      noted_refusal r past K at =
          noted limits wording restated R c Good ends over (refused flag r) past (known_behind r past K at).good (goes_to r)
          ∙ ap (λ (l : List Fact). if concerns c (refused flag r) then end_known limits wording c l else part_of past) (known_as r (part_of past))
          ∙ ap (λ (b : Bool). if b then refuse_known flag (as_sent r) (part_of past) else part_of past) (concerns_it r)

      abbrev pub refuse_it : Request → List Fact → List Fact
      refuse_it r past = refuse (refused flag r) r past

      pub record Refused (requests : List Request) (past : List Fact) : Type 0 where
        pub same : part_of (each_pending refuse_it requests past) ≡ each_pending (refuse_known flag) (sent_by c requests) (part_of past)
        pub known : Known_so (each_pending refuse_it requests past)

      pub each_refused : (requests : List Request) (past : List Fact) → Known_so past → AllByRecursion (λ r. Contains past (Forwarded r)) requests → AllByRecursion (λ r. special r ≡ false) requests → Refused requests past
      unfolding each_pending
      each_refused [] past K all none = record { same = refl; known = K }
      each_refused (r ∷ requests) past K all none =
          let waiting : Bool = is_pending r past in
          let After : Bool → List Fact = λ (b : Bool). if b then refuse_it r past else past in
          let by_note : IsNoted (refused flag r) past (refuse_it r past) = plain (refused flag r) r past none.0 in
          let at : waiting ≡ true → Contains (pending past) r = λ e. waits limits past r K.placed.sound all.0 e in
          let knows : (b : Bool) → waiting ≡ b → Known_so (After b) =
          λ b. elim b as (λ b. waiting ≡ b → Known_so (After b)) [ true ↦ λ e. by_note.known (known_noted r past K (at e)) | false ↦ λ e. K ]
          in
          let keeps : (b : Bool) (q : Request) → Contains past (Forwarded q) → Contains (After b) (Forwarded q) =
          λ b. elim b as (λ b. (q : Request) → Contains past (Forwarded q) → Contains (After b) (Forwarded q)) [
            | true ↦ λ q there.
                by_note.all (Forwarded q)
                (kept_by_note limits wording (λ after. Contains after (Forwarded q)) (λ d before was held. Contains-cons (Forwarded q) (Ended d NoRoom) before held)
                (refused flag r) past (Contains-cons (Forwarded q) (refused flag r) past there))
            | false ↦ λ q there. there
          ]
          in
          let rest = each_refused requests (After waiting) (knows waiting refl)
          (recursion_from_All (λ (q : Request). Contains (After waiting) (Forwarded q)) requests (All-weaker (λ (q : Request). Contains past (Forwarded q)) (λ (q : Request). Contains (After waiting) (Forwarded q)) (λ q there. keeps waiting q there) requests (All-from_recursion (λ (q : Request). Contains past (Forwarded q)) requests all.1))) none.1
          in
          let here : (b : Bool) → waiting ≡ b → part_of (After b) ≡ (if b then (if r.conn == c then refuse_known flag (as_sent r) (part_of past) else part_of past) else part_of past) =
          λ b. elim b as (λ b. waiting ≡ b → part_of (After b) ≡ (if b then (if r.conn == c then refuse_known flag (as_sent r) (part_of past) else part_of past) else part_of past)) [
            | true ↦ λ e. by_note.same ∙ noted_refusal r past K (at e)
            | false ↦ λ e. refl
          ]
          in
          let Goal : Bool → Type 0 = λ (b : Bool). part_of (each_pending refuse_it requests (After waiting)) ≡ each_pending (refuse_known flag) (request_if b (as_sent r) (sent_by c requests)) (part_of past) in
          let step : (b : Bool) → (r.conn == c) ≡ b → Goal b =
          λ b. elim b as (λ b. (r.conn == c) ≡ b → Goal b) [
            | true ↦ λ e.
                let told : waiting ≡ is_pending (as_sent r) (part_of past) = is_pending-part limits wording.blank restated R c past r K.placed all.0 e in
                rest.same
                ∙ ap (each_pending (refuse_known flag) (sent_by c requests))
                (here waiting refl
                ∙ ap (λ (t : Bool). if waiting then (if t then refuse_known flag (as_sent r) (part_of past) else part_of past) else part_of past) e
                ∙ ap (λ (b : Bool). if b then refuse_known flag (as_sent r) (part_of past) else part_of past) told)
            | false ↦ λ e.
                rest.same
                ∙ ap (each_pending (refuse_known flag) (sent_by c requests))
                (here waiting refl
                ∙ ap (λ (t : Bool). if waiting then (if t then refuse_known flag (as_sent r) (part_of past) else part_of past) else part_of past) e
                ∙ elim waiting as (λ b. (if b then part_of past else part_of past) ≡ part_of past) [ true ↦ refl | false ↦ refl ])
          ]
          in
          record { same = step (r.conn == c) refl; known = rest.known }
