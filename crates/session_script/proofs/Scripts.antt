-- Scripts one behind another.
use Rattle.std.proofs.Common.{◌≡◌, inl, inr, List, [], ◌++◌, Result, Ok, Err, sym, ◌∙◌, ap, subst, append_assoc}
use Rattle.link_io.specs.Calls.{Call}
use Rattle.link_session.specs.declared.fault.SessionFault.{SessionFault}
use Rattle.link_session.specs.declared.fault.SessionFault.TheVariants as fault
use Rattle.link_session.specs.Marks.{Placed}
use Rattle.link_session.specs.Waiting.{Heard, Outcome, Answered, Fails}
use Rattle.link_session.specs.Asking.{AfterOutcome}
use Rattle.session_script.specs.Script.{Script, Ends, Asks, behind, Plays, ScriptsGoOn}

-- what follows an outcome, where the same follows an answer, and a failure ends both
goes_on : {A E : Type 0} {result : Result A SessionFault} {other : Result E SessionFault} (Then Also : List Placed → Placed → Type 0) (calls more : List Call)
    → ((why : SessionFault) → calls ≡ [] → result ≡ Err why → (more ≡ []) × (other ≡ Err why)) → ((before : List Placed) (message : Placed) → Then before message → Also before message)
    → (outcome : Outcome) → AfterOutcome outcome calls result Then → AfterOutcome outcome more other Also
goes_on Then Also calls more fails goes (Answered before message) follows = goes before message follows
goes_on Then Also calls more fails goes (Fails why) follows = fails why follows.0 follows.1

module _ {A E : Type 0} (next : A → Script E) where
  module _ (end : A) (now later : Heard) (more : List Call) (result : Result E SessionFault) (plays : Plays (next end) now more result later) where
    pub plays-behind : (script : Script A) (heard : Heard) (calls : List Call) → Plays script heard calls (Ok end) now → Plays (behind next script) heard (calls ++ more) result later
    plays-behind script heard calls (inl (none, is)) = absurd (cc)
    plays-behind (Ends (Ok other)) heard calls (inr ((none, is), same)) =
        let ends : end ≡ other = cc in
        subst (λ (l : List Call). Plays (next other) heard (l ++ more) result later) (sym none)
        (subst (λ (h : Heard). Plays (next other) h more result later) same (subst (λ (a : A). Plays (next a) now more result later) ends plays))
    plays-behind (Ends (Err why)) heard calls (inr ((none, is), same)) = absurd (cc)
    plays-behind (Asks asked goes) heard calls (inr step) = inr (record {
      own = step.own;
      more = step.more ++ more;
      outcome = step.outcome;
      later = step.later;
      are = ap (λ (l : List Call). l ++ more) step.are ∙ append_assoc step.own step.more more;
      asks = step.asks;
      follows =
          goes_on {result = Ok end} {other = result}
          (λ before message. Plays (goes before message) step.later step.more (Ok end) now)
          (λ before message. Plays (behind next (goes before message)) step.later (step.more ++ more) result later)
          step.more
          (step.more ++ more)
          (λ why none is. absurd (cc))
          (λ before message. plays-behind (goes before message) step.later step.more)
          step.outcome
          step.follows;
    })

  -- where it has no end, nothing follows
  module _ (why : SessionFault) (later : Heard) where
    pub fails-behind : (script : Script A) (heard : Heard) (calls : List Call) → Plays script heard calls (Err why) later → Plays (behind next script) heard calls (Err why) later
    fails-behind script heard calls (inl (none, is)) = let same : why ≡ fault.OutOfMemory = cc in inl (none, ap (λ (w : SessionFault). Err w) same)
    fails-behind (Ends (Ok other)) heard calls (inr ((none, is), same)) = absurd (cc)
    fails-behind (Ends (Err other)) heard calls (inr ((none, is), same)) = let ends : why ≡ other = cc in inr ((none, ap (λ (w : SessionFault). Err w) ends), same)
    fails-behind (Asks asked goes) heard calls (inr step) = inr (record {
      own = step.own;
      more = step.more;
      outcome = step.outcome;
      later = step.later;
      are = step.are;
      asks = step.asks;
      follows =
          goes_on {result = Err why} {other = Err why}
          (λ before message. Plays (goes before message) step.later step.more (Err why) later)
          (λ before message. Plays (behind next (goes before message)) step.later step.more (Err why) later)
          step.more
          step.more
          (λ other none is. let same : why ≡ other = cc in (none, ap (λ (w : SessionFault). Err w) same))
          (λ before message. fails-behind (goes before message) step.later step.more)
          step.outcome
          step.follows;
    })

pub scripts_go_on : {A E : Type 0} → ScriptsGoOn A E
scripts_go_on script next heard now later calls more end result plays goes = plays-behind next end now later more result goes script heard calls plays
