-- The wait for an answer goes on and ends.
use Rattle.std.proofs.Common.{◌≡◌, inl, ℕ, ◌+◌, ◌<◌, ◌≤◌, Bool, true, ◌==◌, List, [], ◌∷◌, ◌++◌, Option, Some, None, Result, Ok, Err, refl, sym, ◌∙◌, ap, subst, arith, count_by, cond, append_assoc}
use Rattle.std.proofs.lemmas.Bool.Decides.{nat_tests}
use Rattle.std.proofs.lemmas.List.{append-nil}
use Rattle.std.proofs.lemmas.List.Elements.{filter_map-append}
use Rattle.std.proofs.lemmas.List.Sums.{sum_by_push}
use Rattle.kit_io.specs.Growth.{Grows}
use Rattle.kit_io.proofs.Growth.{Grows-none, Grows-append}
use Rattle.framing.specs.declared.framing.Size.{Size}
use Rattle.framing.specs.Reading.{Reading}
use Rattle.link_io.specs.Calls.{Call}
use Rattle.link_session.specs.Marks.{Placed, Mark, Message, Quiet, message_in, messages_in}
use Rattle.link_session.specs.Waiting.{Heard, Judge, Wait, Brings, AreNeeded, ArePassed, IsPassed, is_quiet, is_message, decided, decision, Fails}
use Rattle.link_session.specs.Hearing.{Stands, Looks, WaitsFor, HasAnswered, IfAnswered, placed_in, mark_in, outcome_in}
use Rattle.link_session.specs.declared.fault.SessionFault.{SessionFault}
use Rattle.link_session.specs.declared.fault.SessionFault.TheVariants as fault
use Rattle.link_session.specs.declared.incoming.Found.{Found}
use Rattle.link_session.specs.declared.mark.Mark as declared
use Rattle.link_session.specs.declared.mark.Mark.TheVariants as mark
use Rattle.link_session.specs.declared.waiting.Meaning.{Meaning}
use Rattle.link_session.specs.declared.waiting.Meaning.TheVariants as meaning
use Rattle.link_session.proofs.Takes.{Brings-none, Brings-append, AreNeeded-append, AreNeeded-more}

-- marks were passed, of which so many are quiet and so many messages
pub record Passed
    (size : List ℕ → Size)
    (judge : Judge)
    (HasHeard : List Placed → Type 0)
    (heard : Heard)
    (cutter : Reading)
    (quiets messages : ℕ)
    (before calls : Option (List Call)) : Type 0 where
  pub takes : List Call
  pub now : Heard
  pub marks : List Mark
  pub brings : Brings size heard takes marks now
  pub needed : AreNeeded size heard takes marks
  pub each : ArePassed judge [] marks
  pub knows : HasHeard (messages_in marks)
  pub quiet : count_by is_quiet marks ≡ quiets
  pub of_messages : count_by is_message marks ≡ messages
  pub stands : Stands size cutter now
  pub grows : Grows before takes calls

is_the_same : (m n : ℕ) → m ≡ n → (m == n) ≡ true
is_the_same m n same = grind (arith, nat_tests, same)

pub count_by-push : (p : Mark → Bool) (marks : List Mark) (mark : Mark) → count_by p (marks ++ mark ∷ []) ≡ count_by p marks + cond (p mark) 1 0
count_by-push p marks mark = sum_by_push (λ (m : Mark). cond (p m) 1 0) marks mark

module _ (judge : Judge) where
  pub ArePassed-push : (before marks : List Mark) (mark : Mark) → ArePassed judge before marks → IsPassed judge (before ++ marks) mark → ArePassed judge before (marks ++ mark ∷ [])
  ArePassed-push before [] mark each is = (subst (λ (l : List Mark). IsPassed judge l mark) (append-nil before) is, tt)
  ArePassed-push before (first ∷ marks) mark each is = (
    each.0,
    ArePassed-push (before ++ first ∷ []) marks mark each.1 (subst (λ (l : List Mark). IsPassed judge l mark) (sym (append_assoc before (first ∷ []) marks)) is),
  )

module _ (wait : Wait) where
  -- what the marks decide
  pub decision-is : (marks : List Mark) (message : Placed) {is : Meaning} → wait.judge (messages_in marks) message ≡ is → decision wait marks (Message message) ≡ decided marks message is
  decision-is marks message is = ap (decided marks message) is

  pub decision-flooded : (marks : List Mark) (message : Placed) → wait.judge (messages_in marks) message ≡ meaning.NoAnswer → count_by is_message marks + 1 ≡ 65536
      → decision wait marks (Message message) ≡ Some (Fails fault.Flooded)
  decision-flooded marks message is many = rw (is, many) refl

  pub decision-timed_out : (marks : List Mark) → count_by is_quiet marks ≡ wait.patience → decision wait marks Quiet ≡ Some (Fails fault.TimedOut)
  decision-timed_out marks enough = ap (λ (b : Bool). cond b (Some (Fails fault.TimedOut)) None) (is_the_same _ _ enough)

module _ (size : List ℕ → Size) (judge : Judge) where
  pub Passed-none : (HasHeard : List Placed → Type 0) {heard : Heard} {cutter : Reading} (calls : Option (List Call)) → HasHeard [] → Stands size cutter heard
      → Passed size judge HasHeard heard cutter 0 0 calls calls
  Passed-none HasHeard {heard = heard} calls knows stands = record {
    takes = [];
    now = heard;
    marks = [];
    brings = Brings-none size heard;
    needed = inl refl;
    each = tt;
    knows = knows;
    quiet = refl;
    of_messages = refl;
    stands = stands;
    grows = Grows-none calls;
  }

  module _
      {HasHeard : List Placed → Type 0}
      {heard : Heard}
      {cutter : Reading}
      {quiets messages : ℕ}
      {before calls : Option (List Call)}
      (passed : Passed size judge HasHeard heard cutter quiets messages before calls) where
    module _ {mark : declared.Mark} {new : Reading} {after : Option (List Call)} (looks : Looks size passed.now mark new calls after) where
      -- a mark that decides nothing
      Passed-more : (Knows : List Placed → Type 0) (more_quiets more_messages : ℕ) → IsPassed judge passed.marks (mark_in new mark) → Knows (messages_in (passed.marks ++ mark_in new mark ∷ [])) → Stands size new looks.later
          → quiets + cond (is_quiet (mark_in new mark)) 1 0 ≡ more_quiets → messages + cond (is_message (mark_in new mark)) 1 0 ≡ more_messages
          → Passed size judge Knows heard new more_quiets more_messages before after
      Passed-more Knows more_quiets more_messages is_passed knows stands quiet of_messages = record {
        takes = passed.takes ++ looks.takes;
        now = looks.later;
        marks = passed.marks ++ mark_in new mark ∷ [];
        brings = Brings-append size passed.brings looks.brings;
        needed = AreNeeded-more size heard (mark_in new mark ∷ []) (AreNeeded-append size passed.brings passed.needed looks.needed);
        each = ArePassed-push judge [] passed.marks (mark_in new mark) passed.each is_passed;
        knows = knows;
        quiet = count_by-push is_quiet passed.marks (mark_in new mark) ∙ ap (λ (n : ℕ). n + cond (is_quiet (mark_in new mark)) 1 0) passed.quiet ∙ quiet;
        of_messages = count_by-push is_message passed.marks (mark_in new mark) ∙ ap (λ (n : ℕ). n + cond (is_message (mark_in new mark)) 1 0) passed.of_messages ∙ of_messages;
        stands = stands;
        grows = Grows-append passed.grows looks.grows;
      }

      -- the mark that decides
      pub WaitsFor-ends : {patience : ℕ} (HasAnswer : List Placed → Placed → Type 0) (result : Result Found SessionFault) → quiets ≤ patience → messages < 65536
          → decision (record { judge = judge; patience = patience }) passed.marks (mark_in new mark) ≡ Some (outcome_in (messages_in passed.marks) new result)
          → IfAnswered result (HasAnswered size HasAnswer (messages_in passed.marks) new looks.later) → WaitsFor size (record { judge = judge; patience = patience }) HasAnswer heard result new before after
      WaitsFor-ends HasAnswer result few_quiets few_messages is answered = record {
        takes = passed.takes ++ looks.takes;
        later = looks.later;
        passed = messages_in passed.marks;
        waits = record {
          before = passed.marks;
          mark = mark_in new mark;
          brings = Brings-append size passed.brings looks.brings;
          undecided = record { each = passed.each; quiets = rw passed.quiet few_quiets; messages = rw passed.of_messages few_messages };
          decided_is = is;
          needed = AreNeeded-append size passed.brings passed.needed looks.needed;
        };
        answered = answered;
        grows = Grows-append passed.grows looks.grows;
      }

    module _ {new : Reading} {after : Option (List Call)} (looks : Looks size passed.now mark.Quiet new calls after) where
      pub Passed-quiet : (more : ℕ) → quiets + 1 ≡ more → Passed size judge HasHeard heard new more messages before after
      Passed-quiet more is = Passed-more looks HasHeard more messages tt (subst HasHeard (sym (filter_map-append message_in passed.marks (Quiet ∷ []) ∙ append-nil (messages_in passed.marks))) passed.knows) looks.stands is (omega arith)

      pub WaitsFor-timed_out : {patience : ℕ} (HasAnswer : List Placed → Placed → Type 0) → quiets ≤ patience → messages < 65536 → quiets ≡ patience → WaitsFor size (record { judge = judge; patience = patience }) HasAnswer heard (Err fault.TimedOut) new before after
      WaitsFor-timed_out {patience = patience} HasAnswer few_quiets few_messages enough =
          WaitsFor-ends looks HasAnswer (Err fault.TimedOut) few_quiets few_messages (decision-timed_out (record { judge = judge; patience = patience }) passed.marks (passed.quiet ∙ enough)) tt

    -- a message comes
    module _ {new : Reading} {after : Option (List Call)} {found : Found} (looks : Looks size passed.now (mark.Message found) new calls after) where
      pub Passed-message : {Knows : List Placed → Type 0} (more : ℕ) → messages + 1 ≡ more → judge (messages_in passed.marks) (placed_in new found) ≡ meaning.NoAnswer
          → Knows (messages_in passed.marks ++ placed_in new found ∷ []) → Passed size judge Knows heard new quiets more before after
      Passed-message {Knows = Knows} more is none knows =
          Passed-more looks Knows quiets more none (subst Knows (sym (filter_map-append message_in passed.marks (Message (placed_in new found) ∷ []))) knows) looks.stands (omega arith) is

      module _ {patience : ℕ} (few_quiets : quiets ≤ patience) (few_messages : messages < 65536) where
        pub WaitsFor-flooded : (HasAnswer : List Placed → Placed → Type 0) → messages + 1 ≡ 65536 → judge (messages_in passed.marks) (placed_in new found) ≡ meaning.NoAnswer
            → WaitsFor size (record { judge = judge; patience = patience }) HasAnswer heard (Err fault.Flooded) new before after
        WaitsFor-flooded HasAnswer many none =
            WaitsFor-ends looks HasAnswer (Err fault.Flooded) few_quiets few_messages
            (decision-flooded (record { judge = judge; patience = patience }) passed.marks (placed_in new found) none (ap (λ (n : ℕ). n + 1) passed.of_messages ∙ many)) tt

        pub WaitsFor-answered : {HasAnswer : List Placed → Placed → Type 0} → judge (messages_in passed.marks) (placed_in new found) ≡ meaning.Answer
            → HasAnswer (messages_in passed.marks) (placed_in new found) → WaitsFor size (record { judge = judge; patience = patience }) HasAnswer heard (Ok found) new before after
        WaitsFor-answered {HasAnswer = HasAnswer} is has =
            WaitsFor-ends looks HasAnswer (Ok found) few_quiets few_messages (decision-is (record { judge = judge; patience = patience }) passed.marks (placed_in new found) is) (record { answer = has; stands = looks.stands })

        pub WaitsFor-broken : (HasAnswer : List Placed → Placed → Type 0) {place : ℕ} → judge (messages_in passed.marks) (placed_in new found) ≡ meaning.Broken place
            → WaitsFor size (record { judge = judge; patience = patience }) HasAnswer heard (Err (fault.Broken place)) new before after
        WaitsFor-broken HasAnswer {place = place} is = WaitsFor-ends looks HasAnswer (Err (fault.Broken place)) few_quiets few_messages (decision-is (record { judge = judge; patience = patience }) passed.marks (placed_in new found) is) tt
