-- The first mark that decides.
use Rattle.std.proofs.Common.{◌≡◌, ◌⊎◌, inl, inr, ℕ, ◌+◌, ◌<◌, ◌≤◌, Bool, true, false, ◌==◌, cond, List, [], ◌∷◌, ◌++◌, Option, Some, None, refl, sym, ◌∙◌, ap, subst, arith, count_by, append_assoc}
use Rattle.std.proofs.lemmas.Bool.Decides.{nat_tests}
use Rattle.std.proofs.lemmas.List.{append-nil}
use Rattle.std.proofs.lemmas.List.Elements.{filter_map-append}
use Rattle.std.proofs.lemmas.List.Sums.{sum_by-append}
use Rattle.std.specs.List.{filter_map}
use Rattle.link_session.specs.declared.fault.SessionFault.TheVariants as fault
use Rattle.link_session.specs.declared.waiting.Meaning.{Meaning}
use Rattle.link_session.specs.declared.waiting.Meaning.TheVariants as meaning
use Rattle.link_session.specs.Marks.{Placed, Mark, Message, Bad, Quiet, End, Failed, message_in, messages_in}
use Rattle.link_session.specs.Waiting.{Wait, Outcome, Answered, Fails, ArePassed, AreUndecided, IsPassed, is_quiet, is_message, decided, decision}
use Rattle.link_session.specs.Peer.{Ending, EndsByPeer, ending, ending_at, earliest, silence, each_seen, is_of_bytes}
use Rattle.link_session.proofs.Passing.{ArePassed-push, count_by-push, decision-is, decision-flooded, decision-timed_out}
use Rattle.link_session.proofs.Streams.{of_bytes}

pub count_by-append : (p : Mark → Bool) (xs ys : List Mark) → count_by p (xs ++ ys) ≡ count_by p xs + count_by p ys
count_by-append p xs ys = sum_by-append (λ (m : Mark). cond (p m) 1 0) xs ys

isnt : (n most : ℕ) → n < most → (n == most) ≡ false
isnt n most less = grind (arith, nat_tests, less)

is_so : (n most : ℕ) → (n == most) ≡ true → n ≡ most
is_so n most is = grind (arith, nat_tests, is)

is_less : (n most : ℕ) → n < most → (n + 1 == most) ≡ false → n + 1 < most
is_less n most less isnt = grind (arith, nat_tests, less, isnt)

is_fewer : (n most : ℕ) → n ≤ most → (n == most) ≡ false → n + 1 ≤ most
is_fewer n most within isnt = grind (arith, nat_tests, within, isnt)

-- ---- without the marks of no bytes ----

of_bytes-messages : (marks : List Mark) → messages_in (of_bytes marks) ≡ messages_in marks
unfolding of_bytes
of_bytes-messages [] = refl
of_bytes-messages (Message message ∷ marks) = ap (λ (l : List Placed). message ∷ l) (of_bytes-messages marks)
of_bytes-messages (Bad place ∷ marks) = of_bytes-messages marks
of_bytes-messages (Quiet ∷ marks) = of_bytes-messages marks
of_bytes-messages (End ∷ marks) = of_bytes-messages marks
of_bytes-messages (Failed ∷ marks) = of_bytes-messages marks

of_bytes-count : (marks : List Mark) → count_by is_message (of_bytes marks) ≡ count_by is_message marks
unfolding of_bytes
of_bytes-count [] = refl
of_bytes-count (Message message ∷ marks) = grind (arith, of_bytes-count marks, count_by-append is_message (Message message ∷ []) marks, count_by-append is_message (Message message ∷ []) (of_bytes marks))
of_bytes-count (Bad place ∷ marks) = grind (arith, of_bytes-count marks, count_by-append is_message (Bad place ∷ []) marks, count_by-append is_message (Bad place ∷ []) (of_bytes marks))
of_bytes-count (Quiet ∷ marks) = grind (arith, of_bytes-count marks, count_by-append is_message (Quiet ∷ []) marks)
of_bytes-count (End ∷ marks) = grind (arith, of_bytes-count marks, count_by-append is_message (End ∷ []) marks)
of_bytes-count (Failed ∷ marks) = grind (arith, of_bytes-count marks, count_by-append is_message (Failed ∷ []) marks)

of_bytes-quiets : (marks : List Mark) → count_by is_quiet (of_bytes marks) ≡ 0
unfolding of_bytes
of_bytes-quiets [] = refl
of_bytes-quiets (Message message ∷ marks) = grind (arith, of_bytes-quiets marks, count_by-append is_quiet (Message message ∷ []) (of_bytes marks))
of_bytes-quiets (Bad place ∷ marks) = grind (arith, of_bytes-quiets marks, count_by-append is_quiet (Bad place ∷ []) (of_bytes marks))
of_bytes-quiets (Quiet ∷ marks) = of_bytes-quiets marks
of_bytes-quiets (End ∷ marks) = of_bytes-quiets marks
of_bytes-quiets (Failed ∷ marks) = of_bytes-quiets marks

module _ (wait : Wait) where
  of_bytes-passed : (before fewer marks : List Mark) → messages_in before ≡ messages_in fewer → ArePassed wait.judge before marks → ArePassed wait.judge fewer (of_bytes marks)
  unfolding of_bytes
  of_bytes-passed before fewer [] same each = tt
  of_bytes-passed before fewer (Message message ∷ marks) same each = (
    subst (λ (l : List Placed). wait.judge l message ≡ meaning.NoAnswer) same each.0,
    of_bytes-passed (before ++ Message message ∷ []) (fewer ++ Message message ∷ []) marks
        (filter_map-append message_in before (Message message ∷ []) ∙ ap (λ (l : List Placed). l ++ message ∷ []) same ∙ sym (filter_map-append message_in fewer (Message message ∷ []))) each.1,
  )
  of_bytes-passed before fewer (Bad place ∷ marks) same each = absurd each.0
  of_bytes-passed before fewer (Quiet ∷ marks) same each =
      of_bytes-passed (before ++ Quiet ∷ []) fewer marks (filter_map-append message_in before (Quiet ∷ []) ∙ append-nil (messages_in before) ∙ same) each.1
  of_bytes-passed before fewer (End ∷ marks) same each = absurd each.0
  of_bytes-passed before fewer (Failed ∷ marks) same each = absurd each.0

  pub of_bytes-undecided : (marks : List Mark) → AreUndecided wait marks → AreUndecided wait (of_bytes marks)
  of_bytes-undecided marks undecided = record {
    each = of_bytes-passed [] [] marks refl undecided.each;
    quiets = rw (of_bytes-quiets marks) (omega arith);
    messages = rw (of_bytes-count marks) undecided.messages;
  }

  same_decided : (before fewer : List Mark) (message : Placed) (is : Meaning) → messages_in fewer ≡ messages_in before → count_by is_message fewer ≡ count_by is_message before
      → decided fewer message is ≡ decided before message is
  same_decided before fewer message meaning.NoAnswer same count = rw count refl
  same_decided before fewer message meaning.Answer same count = ap (λ (l : List Placed). Some (Answered l message)) same
  same_decided before fewer message (meaning.Broken place) same count = refl

  pub of_bytes-decision : (before : List Mark) (mark : Mark) → is_of_bytes mark ≡ true → decision wait (of_bytes before) mark ≡ decision wait before mark
  of_bytes-decision before (Message message) is =
      ap (λ (l : List Placed). decided (of_bytes before) message (wait.judge l message)) (of_bytes-messages before)
      ∙ same_decided before (of_bytes before) message (wait.judge (messages_in before) message) (of_bytes-messages before) (of_bytes-count before)
  of_bytes-decision before (Bad place) is = refl
  of_bytes-decision before Quiet is = absurd (cc)
  of_bytes-decision before End is = absurd (cc)
  of_bytes-decision before Failed is = absurd (cc)

  -- ---- the ending ----

  passed_decides : (before : List Mark) (mark : Mark) → IsPassed wait.judge before mark → count_by is_quiet before + cond (is_quiet mark) 1 0 ≤ wait.patience → count_by is_message before + cond (is_message mark) 1 0 < 65536
      → decision wait before mark ≡ None
  passed_decides before (Message message) is quiets messages =
      decision-is wait before message is ∙ ap (λ (b : Bool). cond b (Some (Fails fault.Flooded)) None) (isnt (count_by is_message before + 1) 65536 messages)
  passed_decides before (Bad place) is quiets messages = absurd is
  passed_decides before Quiet is quiets messages = ap (λ (b : Bool). cond b (Some (Fails fault.TimedOut)) None) (isnt (count_by is_quiet before) wait.patience (omega (arith, quiets)))
  passed_decides before End is quiets messages = absurd is
  passed_decides before Failed is quiets messages = absurd is

  endings : List Mark → List Mark → List Ending
  endings before marks = filter_map (ending_at wait) (each_seen before marks)

  endings-passed : (before xs ys : List Mark) → ArePassed wait.judge before xs → count_by is_quiet (before ++ xs) ≤ wait.patience → count_by is_message (before ++ xs) < 65536
      → endings before (xs ++ ys) ≡ endings (before ++ xs) ys
  unfolding endings each_seen
  endings-passed before [] ys each quiets messages = ap (λ (l : List Mark). endings l ys) (sym (append-nil before))
  endings-passed before (mark ∷ xs) ys each quiets messages =
      let joined = append_assoc before (mark ∷ []) xs in
      let none : decision wait before mark ≡ None =
      passed_decides before mark each.0
      (omega (arith, count_by-push is_quiet before mark, count_by-append is_quiet (before ++ mark ∷ []) xs, ap (count_by is_quiet) joined))
      (omega (arith, count_by-push is_message before mark, count_by-append is_message (before ++ mark ∷ []) xs, ap (count_by is_message) joined)) in
      rw none
      (endings-passed (before ++ mark ∷ []) xs ys each.1 (rw joined quiets) (rw joined messages) ∙ ap (λ (l : List Mark). endings l ys) joined)

  pub ending-silence : (marks : List Mark) → AreUndecided wait marks → ending wait marks ≡ silence
  unfolding ending endings each_seen
  ending-silence marks undecided =
      ap earliest (ap (endings []) (sym (append-nil marks)) ∙ endings-passed [] marks [] undecided.each undecided.quiets undecided.messages)

  pub ending-decided : (before : List Mark) (mark : Mark) (left : List Mark) (outcome : Outcome) → AreUndecided wait before → decision wait before mark ≡ Some outcome
      → ending wait (before ++ mark ∷ left) ≡ record { outcome = outcome; left = left }
  unfolding ending endings each_seen
  ending-decided before mark left outcome undecided is =
      ap earliest (endings-passed [] before (mark ∷ left) undecided.each undecided.quiets undecided.messages) ∙ rw is refl

  -- what a mark of bytes decides is the peer's
  pub decided_by_peer : (before : List Mark) (mark : Mark) (reply taken : List ℕ) (outcome : Outcome) → is_of_bytes mark ≡ true → decision wait before mark ≡ Some outcome → EndsByPeer reply taken outcome
  decided_by_peer before (Message message) reply taken outcome is decides =
      let P : Option Outcome → Type 0 = λ (o : Option Outcome). (outcome : Outcome) → o ≡ Some outcome → EndsByPeer reply taken outcome in
      let flooded : (b : Bool) → P (cond b (Some (Fails fault.Flooded)) None) = λ b. elim b as (λ b. P (cond b (Some (Fails fault.Flooded)) None)) [
        | true ↦ λ outcome is. subst (EndsByPeer reply taken) (let same : Fails fault.Flooded ≡ outcome = cc in same) tt
        | false ↦ λ outcome is. absurd (cc)
      ] in
      let step : (m : Meaning) → P (decided before message m) = λ m. elim m as (λ m. P (decided before message m)) [
        | meaning.NoAnswer ↦ flooded (count_by is_message before + 1 == 65536)
        | meaning.Answer ↦ λ outcome is. subst (EndsByPeer reply taken) (let same : Answered (messages_in before) message ≡ outcome = cc in same) tt
        | meaning.Broken place ↦ λ outcome is. subst (EndsByPeer reply taken) (let same : Fails (fault.Broken place) ≡ outcome = cc in same) tt
      ] in
      step (wait.judge (messages_in before) message) outcome decides
  decided_by_peer before (Bad place) reply taken outcome is decides = subst (EndsByPeer reply taken) (let same : Fails (fault.Broken place) ≡ outcome = cc in same) tt
  decided_by_peer before Quiet reply taken outcome is decides = absurd (cc)
  decided_by_peer before End reply taken outcome is decides = absurd (cc)
  decided_by_peer before Failed reply taken outcome is decides = absurd (cc)

  -- what a quiet take decides
  pub decided_by_quiet : (before : List Mark) (outcome : Outcome) → decision wait before Quiet ≡ Some outcome → Fails fault.TimedOut ≡ outcome
  decided_by_quiet before outcome is =
      let step : (b : Bool) → cond b (Some (Fails fault.TimedOut)) None ≡ Some outcome → Fails fault.TimedOut ≡ outcome = λ b. elim b as (λ b. cond b (Some (Fails fault.TimedOut)) None ≡ Some outcome → Fails fault.TimedOut ≡ outcome) [
        | true ↦ λ is. let same : Fails fault.TimedOut ≡ outcome = cc in same
        | false ↦ λ is. absurd (cc)
      ] in
      step (count_by is_quiet before == wait.patience) is

  -- ---- the search for it ----

  -- the first mark that decides among new ones, behind others that don't
  pub record Decides (done new : List Mark) : Type 0 where
    pub more : List Mark
    pub mark : Mark
    pub left : List Mark
    pub outcome : Outcome
    pub are : new ≡ more ++ mark ∷ left
    pub undecided : AreUndecided wait (done ++ more)
    pub is : decision wait (done ++ more) mark ≡ Some outcome

  -- whether a mark decides
  abbrev OneMore : List Mark → Mark → Type 0
  OneMore done mark = AreUndecided wait (done ++ mark ∷ []) ⊎ ((outcome : Outcome) × (decision wait done mark ≡ Some outcome))

  passes : (done : List Mark) (mark : Mark) → AreUndecided wait done → IsPassed wait.judge done mark → count_by is_quiet done + cond (is_quiet mark) 1 0 ≤ wait.patience → count_by is_message done + cond (is_message mark) 1 0 < 65536
      → OneMore done mark
  passes done mark undecided is quiets messages = inl (record {
    each = ArePassed-push wait.judge [] done mark undecided.each is;
    quiets = rw (count_by-push is_quiet done mark) quiets;
    messages = rw (count_by-push is_message done mark) messages;
  })

  one_more : (done : List Mark) (mark : Mark) → AreUndecided wait done → OneMore done mark
  one_more done (Message message) undecided =
      let Step : Meaning → Type 0 = λ (m : Meaning). wait.judge (messages_in done) message ≡ m → OneMore done (Message message) in
      let count : ℕ = count_by is_message done in
      let flooded : (b : Bool) → (count + 1 == 65536) ≡ b → Step meaning.NoAnswer = λ b. elim b as (λ b. (count + 1 == 65536) ≡ b → Step meaning.NoAnswer) [
        | true ↦ λ many none. inr (Fails fault.Flooded, decision-flooded wait done message none (is_so (count + 1) 65536 many))
        | false ↦ λ few none. passes done (Message message) undecided none (omega (arith, undecided.quiets)) (is_less count 65536 undecided.messages few)
      ] in
      let step : (m : Meaning) → Step m = λ m. elim m as (λ m. Step m) [
        | meaning.NoAnswer ↦ flooded (count + 1 == 65536) refl
        | meaning.Answer ↦ λ is. inr (_, decision-is wait done message is)
        | meaning.Broken place ↦ λ is. inr (_, decision-is wait done message is)
      ] in
      step (wait.judge (messages_in done) message) refl
  one_more done (Bad place) undecided = inr (_, refl)
  one_more done Quiet undecided =
      let count : ℕ = count_by is_quiet done in
      let step : (b : Bool) → (count == wait.patience) ≡ b → OneMore done Quiet = λ b. elim b as (λ b. (count == wait.patience) ≡ b → OneMore done Quiet) [
        | true ↦ λ many. inr (Fails fault.TimedOut, decision-timed_out wait done (is_so count wait.patience many))
        | false ↦ λ few. passes done Quiet undecided tt (is_fewer count wait.patience undecided.quiets few) (omega (arith, undecided.messages))
      ] in
      step (count == wait.patience) refl
  one_more done End undecided = inr (_, refl)
  one_more done Failed undecided = inr (_, refl)

  pub decide : (done new : List Mark) → AreUndecided wait done → AreUndecided wait (done ++ new) ⊎ Decides done new
  decide done [] undecided = inl (rw (append-nil done) undecided)
  decide done (mark ∷ new) undecided = elim (one_more done mark undecided) [
    | inl more ↦
        elim (decide (done ++ mark ∷ []) new more) [
          | inl all ↦ inl (rw (append_assoc done (mark ∷ []) new) at all)
          | inr it ↦
              inr (record {
                more = mark ∷ it.more;
                mark = it.mark;
                left = it.left;
                outcome = it.outcome;
                are = ap (λ (l : List Mark). mark ∷ l) it.are;
                undecided = rw (append_assoc done (mark ∷ []) it.more) at it.undecided;
                is = rw (append_assoc done (mark ∷ []) it.more) at it.is;
              })
        ]
    | inr (outcome, is) ↦
        inr (record { more = []; mark = mark; left = new; outcome = outcome; are = refl; undecided = rw (append-nil done) undecided; is = rw (append-nil done) is })
  ]
