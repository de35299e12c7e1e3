-- A session's steps, put together.
use Rattle.std.proofs.Common.{◌≡◌, inl, inr, ℕ, true, false, List, [], ◌∷◌, ◌++◌, Option, Result, Ok, Err, refl, sym, subst}
use Rattle.std.proofs.lemmas.List.{append-nil}
use Rattle.kit_io.specs.Growth.{Grows}
use Rattle.kit_io.proofs.Growth.{Grows-none, Grows-append}
use Rattle.framing.specs.Reading.{Reading}
use Rattle.link_io.specs.Calls.{Call, Sent, SendsFront}
use Rattle.link_session.specs.declared.fault.SessionFault.{SessionFault}
use Rattle.link_session.specs.declared.fault.SessionFault.TheVariants as fault
use Rattle.link_session.specs.declared.asking.Reply.{Reply}
use Rattle.link_session.specs.declared.incoming.Found.{Found}
use Rattle.link_session.specs.Marks.{Placed}
use Rattle.link_session.specs.Waiting.{Heard, Outcome, Answered, Fails}
use Rattle.link_session.specs.Asking.{Asked, unmade, unsent, sent, AfterOutcome, Makes, ReadsThen, Step}
use Rattle.link_session.specs.Hearing.{AsksFor, RepliesTo, WaitsFor, found_in, placed_in}

-- ---- a link's calls ----

pub Makes-none : {P : List Call → Type 0} (calls : Option (List Call)) → P [] → Makes P calls calls
Makes-none calls are = record { calls = []; are = are; grows = Grows-none calls }

pub Makes-map : {P Q : List Call → Type 0} {before after : Option (List Call)} → ((calls : List Call) → P calls → Q calls) → Makes P before after → Makes Q before after
Makes-map f makes = record { calls = makes.calls; are = f makes.calls makes.are; grows = makes.grows }

-- ---- one request ----

module _ (asked : Asked) (HasAnswer : List Placed → Placed → Type 0) where
  pub AsksFor-unmade : (heard : Heard) (cutter : Reading) (calls : Option (List Call)) → AsksFor asked HasAnswer heard (Err fault.OutOfMemory) cutter calls calls
  AsksFor-unmade heard cutter calls = record { calls = []; later = heard; passed = []; asks = unmade refl refl; answered = tt; grows = Grows-none calls }

  pub AsksFor-unsent : (heard : Heard) (cutter : Reading) {before after : Option (List Call)} → SendsFront before asked.text after → AsksFor asked HasAnswer heard (Err fault.LinkFault) cutter before after
  AsksFor-unsent heard cutter sends =
      record { calls = Sent sends.front false ∷ []; later = heard; passed = []; asks = unsent sends.front sends.rest sends.whole refl refl; answered = tt; grows = sends.grows }

  pub AsksFor-sent : {heard : Heard} {result : Result Found SessionFault} {cutter : Reading} {before mid after : Option (List Call)} → Grows before (Sent asked.text true ∷ []) mid
      → WaitsFor asked.size asked.wait HasAnswer heard result cutter mid after → AsksFor asked HasAnswer heard result cutter before after
  AsksFor-sent sends waits = record {
    calls = Sent asked.text true ∷ waits.takes;
    later = waits.later;
    passed = waits.passed;
    asks = sent waits.takes refl waits.waits;
    answered = waits.answered;
    grows = Grows-append sends waits.grows;
  }

-- ---- what follows ----

module _ {asked : Asked} {HasAnswer : List Placed → Placed → Type 0} {heard : Heard} {cutter : Reading} where
  -- the request isn't answered
  pub Step-fails : {E : Type 0} {why : SessionFault} {before after : Option (List Call)} {Then : List Placed → Placed → Heard → List Call → Type 0}
      → AsksFor asked HasAnswer heard (Err why) cutter before after → Makes (λ calls. Step {E = E} asked heard calls (Err why) Then) before after
  Step-fails {E = E} asks = record {
    calls = asks.calls;
    are = record { own = asks.calls; more = []; outcome = Fails _; later = asks.later; are = sym (append-nil asks.calls); asks = asks.asks; follows = (refl, refl) };
    grows = asks.grows;
  }

  -- it is, and this follows
  pub Step-goes : {E : Type 0} {found : Found} {before mid after : Option (List Call)} {result : Result E SessionFault} {Then : List Placed → Placed → Heard → List Call → Type 0}
      (asks : AsksFor asked HasAnswer heard (Ok found) cutter before mid) → Makes (λ more. Then asks.passed (placed_in cutter found) asks.later more) mid after
      → Makes (λ calls. Step asked heard calls result Then) before after
  Step-goes asks makes = record {
    calls = asks.calls ++ makes.calls;
    are = record { own = asks.calls; more = makes.calls; outcome = Answered _ _; later = asks.later; are = refl; asks = asks.asks; follows = makes.are };
    grows = Grows-append asks.grows makes.grows;
  }

-- ---- a request whose answer is read ----

module _ {A : Type 0} {asked : Asked} {Reads : List Placed → Placed → Result A SessionFault → Type 0} {heard : Heard} {cutter : Reading} where
  -- it isn't answered, or the answer doesn't read
  pub Step-unread : {E : Type 0} {why : SessionFault} {before after : Option (List Call)} {Then : List Placed → Placed → Heard → List Call → A → Type 0}
      → RepliesTo asked Reads heard (Err why) cutter before after
      → Makes (λ calls. Step {E = E} asked heard calls (Err why) (λ passed message later more. ReadsThen {E = E} (Reads passed message) more (Err why) (Then passed message later more))) before after
  Step-unread {E = E} {why = why} {Then = Then} replies =
      let After : Outcome → Type 0 = λ (o : Outcome). AfterOutcome {E = E} o [] (Err why) (λ passed message. ReadsThen {E = E} (Reads passed message) [] (Err why) (Then passed message replies.later [])) in
      let follows : After replies.outcome = elim replies.says [
        | inl is ↦ subst After (sym is) (refl, refl)
        | inr read ↦ subst After (sym read.1) (record { read = Err why; reads = read.2; follows = (refl, refl) })
      ]
      in
      record {
        calls = replies.calls;
        are = record { own = replies.calls; more = []; outcome = replies.outcome; later = replies.later; are = sym (append-nil replies.calls); asks = replies.asks; follows = follows };
        grows = replies.grows;
      }

  -- it is answered, and this follows
  pub Step-read : {E : Type 0} {reply : Reply A} {before mid after : Option (List Call)} {result : Result E SessionFault} {Then : List Placed → Placed → Heard → List Call → A → Type 0}
      (replies : RepliesTo asked Reads heard (Ok reply) cutter before mid) → Makes (λ more. Then replies.passed (placed_in cutter reply.found) replies.later more reply.answer) mid after
      → Makes (λ calls. Step asked heard calls result (λ passed message later more. ReadsThen (Reads passed message) more result (Then passed message later more))) before after
  Step-read {reply = reply} {result = result} {Then = Then} replies makes =
      let After : Outcome → Type 0 = λ (o : Outcome). AfterOutcome o makes.calls result (λ passed message. ReadsThen (Reads passed message) makes.calls result (Then passed message replies.later makes.calls)) in
      record {
        calls = replies.calls ++ makes.calls;
        are = record {
          own = replies.calls;
          more = makes.calls;
          outcome = replies.outcome;
          later = replies.later;
          are = refl;
          asks = replies.asks;
          follows = subst After (sym replies.says.0) (record { read = Ok reply.answer; reads = replies.says.1; follows = makes.are });
        };
        grows = Grows-append replies.grows makes.grows;
      }

  -- a reply with this answer
  pub Replies-as : {reply : Reply A} {before after : Option (List Call)} {answer : A} → reply.answer ≡ answer
      → RepliesTo asked Reads heard (Ok reply) cutter before after → RepliesTo asked Reads heard (Ok (record { found = reply.found; answer = answer })) cutter before after
  Replies-as {reply = reply} {before = before} {after = after} answer_is replies =
      let P : A → Type 0 = λ (a : A). RepliesTo asked Reads heard (Ok (record { found = reply.found; answer = a })) cutter before after in
      subst P answer_is replies

  -- from a request's outcome to what it says
  module _ {HasAnswer : List Placed → Placed → Type 0} {before after : Option (List Call)} where
    pub RepliesTo-fails : {why : SessionFault} → AsksFor asked HasAnswer heard (Err why) cutter before after → RepliesTo asked Reads heard (Err why) cutter before after
    RepliesTo-fails asks = record { calls = asks.calls; outcome = Fails _; later = asks.later; passed = []; asks = asks.asks; says = inl refl; grows = asks.grows }

    pub RepliesTo-unread : {found : Found} {bytes : List ℕ} {why : SessionFault} (asks : AsksFor asked HasAnswer heard (Ok found) cutter before after) → bytes ≡ found_in cutter found
        → Reads asks.passed (record { place = found.place; bytes = bytes }) (Err why) → RepliesTo asked Reads heard (Err why) cutter before after
    RepliesTo-unread {found = found} {why = why} asks is reads =
        let P : List ℕ → Type 0 = λ (l : List ℕ). Reads asks.passed (record { place = found.place; bytes = l }) (Err why) in
        record { calls = asks.calls; outcome = Answered _ _; later = asks.later; passed = asks.passed; asks = asks.asks; says = inr (_, refl, subst P is reads); grows = asks.grows }

    pub RepliesTo-reads : {found : Found} {bytes : List ℕ} {answer : A} (asks : AsksFor asked HasAnswer heard (Ok found) cutter before after) → bytes ≡ found_in cutter found
        → Reads asks.passed (record { place = found.place; bytes = bytes }) (Ok answer) → RepliesTo asked Reads heard (Ok (record { found = found; answer = answer })) cutter before after
    RepliesTo-reads {found = found} {answer = answer} asks is reads =
        let P : List ℕ → Type 0 = λ (l : List ℕ). Reads asks.passed (record { place = found.place; bytes = l }) (Ok answer) in
        record { calls = asks.calls; outcome = Answered _ _; later = asks.later; passed = asks.passed; asks = asks.asks; says = (refl, subst P is reads, asks.answered.stands); grows = asks.grows }
