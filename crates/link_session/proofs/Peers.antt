-- Over a link to a peer a request ends as at the peer.
use Rattle.std.proofs.Common.{◌≡◌, ◌⊎◌, inl, inr, ℕ, ◌≤◌, true, false, List, [], ◌∷◌, ◌++◌, length, All, Some, Result, Ok, Err, refl, sym, ◌∙◌, ap, subst, arith, append_assoc, length-append}
use Rattle.std.proofs.Math.Seq.{take-append_seam}
use Rattle.std.proofs.lemmas.List.{append-nil, nil_from_length}
use Rattle.std.proofs.lemmas.List.Elements.{All-nil, All-cons, All-head, All-tail, All-take}
use Rattle.framing.specs.declared.framing.Size.{Size}
use Rattle.link_io.specs.Calls.{Call, Opened, Paired, Sent, Took, WasQuiet, WasEnd, TakeFailed, Closed}
use Rattle.link_session.specs.declared.fault.SessionFault.{SessionFault}
use Rattle.link_session.specs.declared.fault.SessionFault.TheVariants as fault
use Rattle.link_session.specs.Marks.{Placed, Mark, Message, Bad, Quiet, End, Failed, IsTake, piece_marks, take_marks, bytes_in}
use Rattle.link_session.specs.Waiting.{Heard, nothing_heard, Wait, Outcome, Answered, Fails, AreUndecided, Waits, decision, marks_with}
use Rattle.link_session.specs.Asking.{Asked, Asks, unmade, unsent, sent, AfterOutcome, Step, Stops}
use Rattle.link_session.specs.Peer.{Peer, said, Finish, FinishesByPeer, ask_then, finish_behind, nothing_said, Ending, ending, Talk, ask, reply_to, texts_in, LeadsTo, is_of_bytes, IsUpTo, EndsByPeer, Keeps, EndsAs, LinksDecideNothing}
use Rattle.link_session.proofs.Takes.{bytes_in-append, take_marks-append}
use Rattle.link_session.proofs.Streams.{IsOfBytes, of_bytes, of_bytes-append, of_bytes-all, piece_marks-of_bytes, piece_marks-nil, piece_marks-append, take_marks-of_bytes, same_behind, All-behind}
use Rattle.link_session.proofs.Deciding.{decided_by_quiet, ending-decided, ending-silence, of_bytes-decision, of_bytes-undecided}

pub All-front : {A : Type 0} (P : A → Type 0) (xs ys : List A) → All P (xs ++ ys) → All P xs
All-front P xs ys each = subst (All P) (take-append_seam xs ys) (All-take P (length xs) (xs ++ ys) each)

-- ---- a link to a peer ----

pub takes_send_nothing : (takes : List Call) → All IsTake takes → texts_in takes ≡ []
unfolding texts_in
takes_send_nothing [] each = refl
takes_send_nothing (Took piece ∷ takes) each = takes_send_nothing takes (All-tail IsTake _ takes each)
takes_send_nothing (WasQuiet ∷ takes) each = takes_send_nothing takes (All-tail IsTake _ takes each)
takes_send_nothing (WasEnd ∷ takes) each = takes_send_nothing takes (All-tail IsTake _ takes each)
takes_send_nothing (TakeFailed ∷ takes) each = takes_send_nothing takes (All-tail IsTake _ takes each)
takes_send_nothing (Sent bytes ok ∷ takes) each = absurd (All-head IsTake (Sent bytes ok) takes each)
takes_send_nothing (Opened address ok ∷ takes) each = absurd (All-head IsTake (Opened address ok) takes each)
takes_send_nothing (Paired ok ∷ takes) each = absurd (All-head IsTake (Paired ok) takes each)
takes_send_nothing (Closed ∷ takes) each = absurd (All-head IsTake Closed takes each)

pub texts_in-append : (xs ys : List Call) → texts_in (xs ++ ys) ≡ texts_in xs ++ texts_in ys
unfolding texts_in
texts_in-append [] ys = refl
texts_in-append (Sent text true ∷ xs) ys = ap (λ (l : List (List ℕ)). text ∷ l) (texts_in-append xs ys)
texts_in-append (Sent text false ∷ xs) ys = texts_in-append xs ys
texts_in-append (Took piece ∷ xs) ys = texts_in-append xs ys
texts_in-append (WasQuiet ∷ xs) ys = texts_in-append xs ys
texts_in-append (WasEnd ∷ xs) ys = texts_in-append xs ys
texts_in-append (TakeFailed ∷ xs) ys = texts_in-append xs ys
texts_in-append (Opened address ok ∷ xs) ys = texts_in-append xs ys
texts_in-append (Paired ok ∷ xs) ys = texts_in-append xs ys
texts_in-append (Closed ∷ xs) ys = texts_in-append xs ys

-- behind calls that sent one text
LeadsTo-behind : (peer : Peer) (before : List (List ℕ)) (text late rest : List ℕ) (own more : List Call) → LeadsTo peer before late (own ++ more) → texts_in own ≡ text ∷ []
    → late ++ peer (before ++ text ∷ []) ≡ bytes_in own ++ rest → LeadsTo peer (before ++ text ∷ []) rest more
unfolding said
LeadsTo-behind peer before text late rest own more leads one are = record {
  comes = λ front after is.
      let it = leads.comes (own ++ front) after (ap (λ (l : List Call). own ++ l) is ∙ sym (append_assoc own front after)) in
      let reply : List ℕ = peer (before ++ text ∷ []) in
      let further : List ℕ = said peer (before ++ text ∷ []) (texts_in front) in (
        it.0,
        same_behind (bytes_in own)
            (sym (append_assoc (bytes_in own) rest further)
            ∙ ap (λ (l : List ℕ). l ++ further) (sym are)
            ∙ append_assoc late reply further
            ∙ ap (λ (l : List (List ℕ)). late ++ said peer before (l ++ texts_in front)) (sym one)
            ∙ ap (λ (l : List (List ℕ)). late ++ said peer before l) (sym (texts_in-append own front))
            ∙ it.1
            ∙ ap (λ (l : List ℕ). l ++ it.0) (bytes_in-append own front)
            ∙ append_assoc (bytes_in own) (bytes_in front) it.0),
      );
}

-- ---- what the last take brings ----

at_most_one : (marks more : List Mark) (mark : Mark) (left : List Mark) → length marks ≤ 1 → marks ≡ more ++ mark ∷ left → left ≡ []
at_most_one marks more mark left few are = nil_from_length left (omega (arith, ap length are, length-append more (mark ∷ left)))

module _ (size : List ℕ → Size) where
  -- a mark that a take brings, and those behind it
  abbrev pub IsOfOneTake : Mark → List Mark → Type 0
  IsOfOneTake mark left = All IsOfBytes (mark ∷ left) ⊎ (left ≡ [])

  of_one_take : (stream : List ℕ) (last : Call) (more : List Mark) (mark : Mark) (left : List Mark) → take_marks size stream (last ∷ []) ≡ more ++ mark ∷ left → IsOfOneTake mark left
  unfolding take_marks
  of_one_take stream (Took piece) more mark left are =
      inl (All-behind IsOfBytes more (mark ∷ left) (subst (All IsOfBytes) (sym (append-nil (piece_marks size stream piece)) ∙ are) (piece_marks-of_bytes size stream piece)))
  of_one_take stream WasQuiet more mark left are = inr (at_most_one (Quiet ∷ []) more mark left (omega arith) are)
  of_one_take stream WasEnd more mark left are = inr (at_most_one (End ∷ []) more mark left (omega arith) are)
  of_one_take stream TakeFailed more mark left are = inr (at_most_one (Failed ∷ []) more mark left (omega arith) are)
  of_one_take stream (Opened address ok) more mark left are = inr (at_most_one [] more mark left (omega arith) are)
  of_one_take stream (Paired ok) more mark left are = inr (at_most_one [] more mark left (omega arith) are)
  of_one_take stream (Sent bytes ok) more mark left are = inr (at_most_one [] more mark left (omega arith) are)
  of_one_take stream Closed more mark left are = inr (at_most_one [] more mark left (omega arith) are)

  pub marks_with-append : (heard : Heard) (xs ys : List Call) → marks_with size heard (xs ++ ys) ≡ marks_with size heard xs ++ take_marks size (heard.taken ++ bytes_in xs) ys
  marks_with-append heard xs ys =
      ap (λ (l : List Mark). heard.left ++ l) (take_marks-append size heard.taken xs ys)
      ∙ sym (append_assoc heard.left (take_marks size heard.taken xs) (take_marks size (heard.taken ++ bytes_in xs) ys))

  module _ {wait : Wait} {heard later : Heard} {takes : List Call} {outcome : Outcome} (each : All IsOfBytes heard.left) (waits : Waits size wait heard takes outcome later) where
    marks_are : marks_with size heard takes ≡ waits.before ++ waits.mark ∷ later.left
    marks_are = waits.brings.marks ∙ append_assoc waits.before (waits.mark ∷ []) later.left

    left_is : IsOfOneTake waits.mark later.left
    unfolding take_marks
    left_is = elim waits.needed [
      | inl none ↦
          inl (All-behind IsOfBytes waits.before (waits.mark ∷ later.left)
          (subst (All IsOfBytes) (sym (append-nil heard.left) ∙ ap (marks_with size heard) (sym none) ∙ marks_are) each))
      | inr (earlier, last, more, are, marks) ↦
          of_one_take (heard.taken ++ bytes_in earlier) last more waits.mark later.left
          (same_behind (marks_with size heard earlier)
          (sym (marks_with-append heard earlier (last ∷ []))
          ∙ ap (marks_with size heard) (sym are)
          ∙ marks_are
          ∙ ap (λ (l : List Mark). l ++ waits.mark ∷ later.left) marks
          ∙ append_assoc (marks_with size heard earlier) more (waits.mark ∷ later.left)))
    ]

    -- the mark that decides is like all marks of the takes
    pub mark_is : (P : Mark → Type 0) (unneeded : List Call) → All P (marks_with size heard (takes ++ unneeded)) → P waits.mark
    mark_is P unneeded all =
        All-head P waits.mark later.left
        (All-behind P waits.before (waits.mark ∷ later.left)
        (subst (All P) marks_are (All-front P (marks_with size heard takes) _ (subst (All P) (marks_with-append heard takes unneeded) all))))

  module _ (kept : Keeps size) where
    -- ---- how the wait ends ----

    -- what there is to look at in all is what takes brought of it, and what is still to come
    whole_marks : {late : List ℕ} {heard whole : Heard} → IsUpTo size late heard whole → (takes : List Call) (reply rest : List ℕ) → late ++ reply ≡ bytes_in takes ++ rest
        → whole.left ++ piece_marks size whole.taken reply ≡ of_bytes (marks_with size heard takes) ++ piece_marks size (heard.taken ++ bytes_in takes) rest
    whole_marks {late = late} {heard = heard} {whole = whole} upto takes reply rest are =
        let t : List ℕ = heard.taken in
        ap (λ (l : List Mark). l ++ piece_marks size whole.taken reply) upto.left
        ∙ append_assoc heard.left (piece_marks size t late) (piece_marks size whole.taken reply)
        ∙ ap (λ (l : List ℕ). heard.left ++ (piece_marks size t late ++ piece_marks size l reply)) upto.taken
        ∙ ap (λ (l : List Mark). heard.left ++ l) (sym (piece_marks-append size kept t late reply))
        ∙ ap (λ (l : List ℕ). heard.left ++ piece_marks size t l) are
        ∙ ap (λ (l : List Mark). heard.left ++ l) (piece_marks-append size kept t (bytes_in takes) rest)
        ∙ sym (append_assoc heard.left (piece_marks size t (bytes_in takes)) (piece_marks size (t ++ bytes_in takes) rest))
        ∙ ap (λ (l : List Mark). l ++ piece_marks size (t ++ bytes_in takes) rest)
        (sym (of_bytes-append heard.left (take_marks size t takes)
        ∙ ap (λ (l : List Mark). l ++ of_bytes (take_marks size t takes)) (of_bytes-all heard.left upto.each)
        ∙ ap (λ (l : List Mark). heard.left ++ l) (take_marks-of_bytes size kept t takes)))

    module _ (wait : Wait) (before : List Mark) (undecided : AreUndecided wait before) (later : Heard) (outcome : Outcome) where
      -- the ending, whatever is still to come
      abbrev EndsSo : Mark → List Mark → List Mark → Type 0
      EndsSo mark left coming = (ending wait ((of_bytes before ++ of_bytes (mark ∷ left)) ++ coming) ≡ record { outcome = outcome; left = left ++ coming }) × All IsOfBytes left

      left_of_bytes : (mark : Mark) (left : List Mark) → IsOfOneTake mark left → All IsOfBytes left
      left_of_bytes mark left (inl each) = All-tail IsOfBytes mark left each
      left_of_bytes mark left (inr none) = subst (All IsOfBytes) (sym none) (All-nil IsOfBytes)

      ends_by_bytes : (mark : Mark) (left coming : List Mark) → is_of_bytes mark ≡ true → decision wait before mark ≡ Some outcome → IsOfOneTake mark left → EndsSo mark left coming
      ends_by_bytes mark left coming is decides one =
          let each = left_of_bytes mark left one in (
            ap (λ (l : List Mark). ending wait ((of_bytes before ++ l) ++ coming)) (of_bytes-all (mark ∷ left) (All-cons IsOfBytes mark left is each))
                ∙ ap (ending wait) (append_assoc (of_bytes before) (mark ∷ left) coming)
                ∙ ending-decided wait (of_bytes before) mark (left ++ coming) outcome (of_bytes-undecided wait before undecided) (of_bytes-decision wait before mark is ∙ decides),
            each,
          )

      ends_in_silence : (left coming : List Mark) → coming ≡ [] → Fails fault.TimedOut ≡ outcome → IsOfOneTake Quiet left → EndsSo Quiet left coming
      unfolding of_bytes
      ends_in_silence left coming nothing timed (inl each) = let is : false ≡ true = All-head IsOfBytes Quiet left each in absurd (cc)
      ends_in_silence left coming nothing timed (inr none) =
          let at : Outcome → List Mark → Ending = λ o l. record { outcome = o; left = l } in
          rw (none, nothing) (
            ap (ending wait) (append-nil (of_bytes before ++ []) ∙ append-nil (of_bytes before))
                ∙ ending-silence wait (of_bytes before) (of_bytes-undecided wait before undecided)
                ∙ ap (λ (o : Outcome). at o []) timed,
            All-nil IsOfBytes,
          )

      ends_so : (mark : Mark) (left coming : List Mark) (reply taken : List ℕ) → (taken ≡ reply → coming ≡ []) → decision wait before mark ≡ Some outcome → EndsByPeer reply taken outcome → IsOfOneTake mark left
          → EndsSo mark left coming
      ends_so (Message message) left coming reply taken nothing decides ends one = ends_by_bytes (Message message) left coming refl decides one
      ends_so (Bad place) left coming reply taken nothing decides ends one = ends_by_bytes (Bad place) left coming refl decides one
      ends_so Quiet left coming reply taken nothing decides ends one =
          let timed : Fails fault.TimedOut ≡ outcome = decided_by_quiet wait before outcome decides in
          ends_in_silence left coming (nothing (subst (EndsByPeer reply taken) (sym timed) ends)) timed one
      ends_so End left coming reply taken nothing decides ends one =
          let same : outcome ≡ Fails fault.LinkEnd = cc in let bad : EndsByPeer reply taken (Fails fault.LinkEnd) = subst (EndsByPeer reply taken) same ends in absurd bad
      ends_so Failed left coming reply taken nothing decides ends one =
          let same : outcome ≡ Fails fault.LinkFault = cc in let bad : EndsByPeer reply taken (Fails fault.LinkFault) = subst (EndsByPeer reply taken) same ends in absurd bad

    -- a wait ends as it does with all that the peer says
    pub record WaitsAs (wait : Wait) (whole : Heard) (reply rest : List ℕ) (outcome : Outcome) (later : Heard) : Type 0 where
      pub ends : ending wait (whole.left ++ piece_marks size whole.taken reply) ≡ record { outcome = outcome; left = later.left ++ piece_marks size later.taken rest }
      pub each : All IsOfBytes later.left
      pub taken : whole.taken ++ reply ≡ later.taken ++ rest

    pub waits_as : {wait : Wait} {late : List ℕ} {heard whole later : Heard} {takes : List Call} {outcome : Outcome} → IsUpTo size late heard whole → (reply rest : List ℕ) → late ++ reply ≡ bytes_in takes ++ rest
        → Waits size wait heard takes outcome later → EndsByPeer (late ++ reply) (bytes_in takes) outcome → WaitsAs wait whole reply rest outcome later
    waits_as {wait = wait} {late = late} {heard = heard} {whole = whole} {later = later} {takes = takes} {outcome = outcome} upto reply rest are waits ends =
        let coming : List Mark = piece_marks size later.taken rest in
        let nothing : bytes_in takes ≡ late ++ reply → coming ≡ [] = λ all.
        let none : rest ≡ [] = same_behind (bytes_in takes) (sym are ∙ sym all ∙ sym (append-nil (bytes_in takes))) in
        ap (piece_marks size later.taken) none ∙ piece_marks-nil size kept later.taken in
        let so = ends_so wait waits.before waits.undecided later outcome waits.mark later.left coming (late ++ reply) (bytes_in takes) nothing waits.decided_is ends (left_is upto.each waits) in
        record {
          ends =
              ap (ending wait)
              (whole_marks upto takes reply rest are
              ∙ ap (λ (l : List Mark). of_bytes l ++ piece_marks size (heard.taken ++ bytes_in takes) rest) (marks_are upto.each waits)
              ∙ ap (λ (l : List ℕ). of_bytes (waits.before ++ waits.mark ∷ later.left) ++ piece_marks size l rest) (sym waits.brings.taken)
              ∙ ap (λ (l : List Mark). l ++ coming) (of_bytes-append waits.before (waits.mark ∷ later.left)))
              ∙ so.0;
          each = so.1;
          taken =
              ap (λ (l : List ℕ). l ++ reply) upto.taken
              ∙ append_assoc heard.taken late reply
              ∙ ap (λ (l : List ℕ). heard.taken ++ l) are
              ∙ sym (append_assoc heard.taken (bytes_in takes) rest)
              ∙ ap (λ (l : List ℕ). l ++ rest) (sym waits.brings.taken);
        }

-- ---- a request ----

-- a request sent its text, and ended as at the peer, while this was still to come
record GoesAs (peer : Peer) (asked : Asked) (talk : Talk) (late : List ℕ) (own : List Call) (outcome : Outcome) (later : Heard) (more : List Call) : Type 0 where
  pub one : texts_in own ≡ asked.text ∷ []
  pub ends : EndsAs peer asked.size (ask peer asked talk) outcome later more
  pub come : late ++ reply_to peer asked talk ≡ bytes_in own ++ ends.late

goes_as : (peer : Peer) (asked : Asked) (talk : Talk) (late : List ℕ) (heard later : Heard) (calls more : List Call) (outcome : Outcome)
    → Keeps asked.size → IsUpTo asked.size late heard talk.heard → LeadsTo peer talk.texts late (calls ++ more) → Asks asked heard calls outcome later
    → EndsByPeer (late ++ said peer talk.texts (texts_in calls)) (bytes_in calls) outcome → GoesAs peer asked talk late calls outcome later more
unfolding ask texts_in said bytes_in
goes_as peer asked talk late heard later calls more outcome kept upto leads (unmade none is) ends =
    let all : List ℕ = late ++ said peer talk.texts (texts_in calls) in
    let bad : EndsByPeer all (bytes_in calls) (Fails fault.OutOfMemory) = subst (EndsByPeer all (bytes_in calls)) is ends in absurd bad
goes_as peer asked talk late heard later calls more outcome kept upto leads (unsent front rest whole are is) ends =
    let all : List ℕ = late ++ said peer talk.texts (texts_in calls) in
    let bad : EndsByPeer all (bytes_in calls) (Fails fault.LinkFault) = subst (EndsByPeer all (bytes_in calls)) is ends in absurd bad
goes_as peer asked talk late heard later calls more outcome kept upto leads (sent takes are waits) ends =
    let reply : List ℕ = reply_to peer asked talk in
    let one : texts_in calls ≡ asked.text ∷ [] = ap texts_in are ∙ ap (λ (l : List (List ℕ)). asked.text ∷ l) (takes_send_nothing takes waits.brings.each) in
    let all : late ++ said peer talk.texts (texts_in calls) ≡ late ++ reply =
    ap (λ (l : List (List ℕ)). late ++ said peer talk.texts l) one ∙ ap (λ (l : List ℕ). late ++ l) (append-nil reply) in
    let it = leads.comes calls more refl in
    let rest : List ℕ = it.0 in
    let taken : bytes_in calls ≡ bytes_in takes = ap bytes_in are in
    let come : late ++ reply ≡ bytes_in calls ++ rest = sym all ∙ it.1 in
    let ended = waits_as asked.size kept upto reply rest (come ∙ ap (λ (l : List ℕ). l ++ rest) taken) waits
    (subst (λ (l : List ℕ). EndsByPeer (late ++ reply) l outcome) taken (subst (λ (l : List ℕ). EndsByPeer l (bytes_in calls) outcome) all ends)) in
    record {
      one = one;
      ends = record {
        outcome_is = sym (ap (λ (e : Ending). e.outcome) ended.ends);
        late = rest;
        heard = record { taken = ended.taken; left = ap (λ (e : Ending). e.left) ended.ends; each = ended.each };
        leads = LeadsTo-behind peer talk.texts asked.text late rest calls more leads one come;
      };
      come = come;
    }

pub links_decide_nothing : LinksDecideNothing
links_decide_nothing peer asked talk late heard later calls more outcome kept upto leads asks ends =
    (goes_as peer asked talk late heard later calls more outcome kept upto leads asks ends).ends

-- ---- a session ----

-- these calls of a session, behind others, end as at the peer: like this, and having sent the same
pub record AsAtPeer {E R : Type 0} (peer : Peer) (size : List ℕ → Size) (IsEnd : E → Type 0) (talk : Talk) (heard : Heard) (calls : List Call) (result : Result R SessionFault) (finish : Finish E) : Type 0 where
  pub goes : (late : List ℕ) → IsUpTo size late heard talk.heard → LeadsTo peer talk.texts late calls → FinishesByPeer (late ++ said peer talk.texts (texts_in calls)) (bytes_in calls) result
      → IsEnd finish.end × (talk.texts ++ texts_in calls ≡ finish.talk.texts)

same_ends : (all taken fewer less : List ℕ) (why : SessionFault) → (taken ≡ all → less ≡ fewer) → EndsByPeer all taken (Fails why) → EndsByPeer fewer less (Fails why)
same_ends all taken fewer less fault.OutOfMemory same ends = absurd ends
same_ends all taken fewer less fault.LinkFault same ends = absurd ends
same_ends all taken fewer less fault.LinkEnd same ends = absurd ends
same_ends all taken fewer less fault.TimedOut same ends = same ends
same_ends all taken fewer less fault.Flooded same ends = tt
same_ends all taken fewer less (fault.Broken place) same ends = tt

same_finish : {R : Type 0} (all taken fewer less : List ℕ) (result : Result R SessionFault) → (taken ≡ all → less ≡ fewer) → FinishesByPeer all taken result → FinishesByPeer fewer less result
same_finish all taken fewer less (Ok end) same ends = tt
same_finish all taken fewer less (Err why) same ends = same_ends all taken fewer less why same ends

module _ {E R : Type 0} (peer : Peer) {IsEnd : E → Type 0} {talk : Talk} {heard : Heard} {calls : List Call} {result : Result R SessionFault} where
  -- nothing more is called
  pub AsAtPeer-stops : (size : List ℕ → Size) {stop : Result R SessionFault} {end : E} → Stops stop calls result → (result ≡ stop → IsEnd end) → AsAtPeer peer size IsEnd talk heard calls result (record { end = end; talk = talk })
  unfolding texts_in
  AsAtPeer-stops size stops is = record {
    goes = λ late upto leads ends. (is stops.1, ap (λ (l : List Call). talk.texts ++ texts_in l) stops.0 ∙ append-nil talk.texts);
  }

  pub AsAtPeer-no_memory : (size : List ℕ → Size) {finish : Finish E} → Stops (Err fault.OutOfMemory) calls result → AsAtPeer peer size IsEnd talk heard calls result finish
  AsAtPeer-no_memory size stops = record {
    goes = λ late upto leads ends.
        let bad : ⊥ = subst (λ (r : Result R SessionFault). FinishesByPeer (late ++ said peer talk.texts (texts_in calls)) (bytes_in calls) r) stops.1 ends in absurd bad;
  }

  module _ {asked : Asked} (kept : Keeps asked.size) {Then : List Placed → Placed → Heard → List Call → Type 0} (failed : SessionFault → E) (next : List Placed → Placed → Talk → Finish E) where
    behind_outcome : (own more : List Call) (outcome : Outcome) (later : Heard) → calls ≡ own ++ more → Asks asked heard own outcome later → AfterOutcome outcome more result (λ before message. Then before message later more)
        → ((why : SessionFault) → result ≡ Err why → IsEnd (failed why))
        → ((before : List Placed) (message : Placed) (later : Heard) (more : List Call) (talk : Talk) → Then before message later more → AsAtPeer peer asked.size IsEnd talk later more result (next before message talk))
        → AsAtPeer peer asked.size IsEnd talk heard calls result (ask_then peer asked talk failed next)
    unfolding ask said
    behind_outcome own more (Fails why) later are asks follows fails goes = record {
      goes = λ late upto leads ends.
          let calls_are : calls ≡ own = are ∙ ap (λ (l : List Call). own ++ l) follows.0 ∙ append-nil own in
          let by_peer : EndsByPeer (late ++ said peer talk.texts (texts_in own)) (bytes_in own) (Fails why) =
          subst (λ (r : Result R SessionFault). FinishesByPeer (late ++ said peer talk.texts (texts_in own)) (bytes_in own) r) follows.1
          (subst (λ (l : List Call). FinishesByPeer (late ++ said peer talk.texts (texts_in l)) (bytes_in l) result) calls_are ends) in
          let it = goes_as peer asked talk late heard later own more (Fails why) kept upto (subst (LeadsTo peer talk.texts late) are leads) asks by_peer in
          let Same : Outcome → Type 0 = λ (o : Outcome). let finish = finish_behind o (ask peer asked talk).talk failed next in IsEnd finish.end × (talk.texts ++ texts_in calls ≡ finish.talk.texts) in
          subst Same it.ends.outcome_is (fails why follows.1, ap (λ (l : List Call). talk.texts ++ texts_in l) calls_are ∙ ap (λ (l : List (List ℕ)). talk.texts ++ l) it.one);
    }
    behind_outcome own more (Answered before message) later are asks follows fails goes = record {
      goes = λ late upto leads ends.
          let it = goes_as peer asked talk late heard later own more (Answered before message) kept upto (subst (LeadsTo peer talk.texts late) are leads) asks tt in
          let now : Talk = (ask peer asked talk).talk in
          let reply : List ℕ = reply_to peer asked talk in
          let further : List ℕ = said peer now.texts (texts_in more) in
          let sent_are : texts_in calls ≡ asked.text ∷ texts_in more = ap texts_in are ∙ texts_in-append own more ∙ ap (λ (l : List (List ℕ)). l ++ texts_in more) it.one in
          let all : late ++ said peer talk.texts (texts_in calls) ≡ bytes_in own ++ (it.ends.late ++ further) =
          ap (λ (l : List (List ℕ)). late ++ said peer talk.texts l) sent_are
          ∙ sym (append_assoc late reply further)
          ∙ ap (λ (l : List ℕ). l ++ further) it.come
          ∙ append_assoc (bytes_in own) it.ends.late further in
          let taken : bytes_in calls ≡ bytes_in own ++ bytes_in more = ap bytes_in are ∙ bytes_in-append own more in
          let after = (goes before message later more now follows).goes it.ends.late it.ends.heard it.ends.leads
          (same_finish (late ++ said peer talk.texts (texts_in calls)) (bytes_in calls) (it.ends.late ++ further) (bytes_in more) result
          (λ same. same_behind (bytes_in own) (sym taken ∙ same ∙ all)) ends) in
          let Same : Outcome → Type 0 = λ (o : Outcome). let finish = finish_behind o now failed next in IsEnd finish.end × (talk.texts ++ texts_in calls ≡ finish.talk.texts) in
          subst Same it.ends.outcome_is (
            after.0,
            ap (λ (l : List (List ℕ)). talk.texts ++ l) sent_are ∙ sym (append_assoc talk.texts (asked.text ∷ []) (texts_in more)) ∙ after.1,
          );
    }

    -- a request, and what follows it
    pub AsAtPeer-step : Step asked heard calls result Then → ((why : SessionFault) → result ≡ Err why → IsEnd (failed why))
        → ((before : List Placed) (message : Placed) (later : Heard) (more : List Call) (talk : Talk) → Then before message later more → AsAtPeer peer asked.size IsEnd talk later more result (next before message talk))
        → AsAtPeer peer asked.size IsEnd talk heard calls result (ask_then peer asked talk failed next)
    AsAtPeer-step step fails goes = behind_outcome step.own step.more step.outcome step.later step.are step.asks step.follows fails goes

-- from the start on
pub AsAtPeer-start : {E R : Type 0} (peer : Peer) {size : List ℕ → Size} {IsEnd : E → Type 0} {calls : List Call} {result : Result R SessionFault} {finish : Finish E} → Keeps size
    → AsAtPeer peer size IsEnd nothing_said nothing_heard calls result finish → LeadsTo peer [] [] calls → FinishesByPeer (said peer [] (texts_in calls)) (bytes_in calls) result
    → IsEnd finish.end × (texts_in calls ≡ finish.talk.texts)
AsAtPeer-start peer {size = size} kept at_peer leads ends = at_peer.goes [] (record { taken = refl; left = sym (piece_marks-nil size kept []); each = All-nil IsOfBytes }) leads ends
