-- What the code's calls come to, as calls by a script.
use Rattle.std.proofs.Common.{◌≡◌, inl, inr, ℕ, List, [], ◌++◌, Option, Result, Ok, Err, refl, sym, subst}
use Rattle.std.specs.Prelude.{IfOk}
use Rattle.std.proofs.lemmas.List.{append-nil}
use Rattle.kit_io.proofs.Growth.{Grows-none, Grows-append}
use Rattle.framing.specs.declared.framing.Size.{Size}
use Rattle.framing.specs.Reading.{Reading}
use Rattle.link_io.specs.Calls.{Call}
use Rattle.link_session.specs.declared.fault.SessionFault.{SessionFault}
use Rattle.link_session.specs.declared.fault.SessionFault.TheVariants as fault
use Rattle.link_session.specs.declared.asking.Reply.{Reply}
use Rattle.link_session.specs.declared.incoming.Found.{Found}
use Rattle.link_session.specs.Marks.{Placed}
use Rattle.link_session.specs.Waiting.{Heard, nothing_heard, Outcome}
use Rattle.link_session.specs.Asking.{Asked, AfterOutcome, Makes}
use Rattle.link_session.specs.Hearing.{AsksFor, RepliesTo, Stands, placed_in}
use Rattle.link_session.proofs.Steps.{Step-fails, Step-goes}
use Rattle.session_script.specs.Script.{Script, Ends, Asks, behind, Performs, Plays}
use Rattle.session_script.specs.Hearing.{Goes}
use Rattle.session_script.proofs.Scripts.{fails-behind, plays-behind}

-- where it holds anyway
ok_holds : {A E : Type 0} {Holds : Type 0} (result : Result A E) → Holds → IfOk result (λ end. Holds)
ok_holds (Ok end) holds = holds
ok_holds (Err why) holds = tt

-- a session
pub Goes-performs : {E : Type 0} {size : List ℕ → Size} {script : Script E} {result : Result E SessionFault} {cutter : Reading} {before after : Option (List Call)} → Goes size script nothing_heard result cutter before after
    → Makes (λ calls. Performs script calls result) before after
Goes-performs goes = record { calls = goes.calls; are = (goes.later, goes.plays); grows = goes.grows }

module _ {E : Type 0} {size : List ℕ → Size} {heard : Heard} {cutter : Reading} where
  -- ---- nothing is called ----

  pub Goes-ends : {end : Result E SessionFault} (calls : Option (List Call)) → Stands size cutter heard → Goes size (Ends end) heard end cutter calls calls
  Goes-ends {end = end} calls stands = record { calls = []; later = heard; plays = inr ((refl, refl), refl); stands = ok_holds end stands; grows = Grows-none calls }

  pub Goes-no_memory : (script : Script E) (calls : Option (List Call)) → Goes size script heard (Err fault.OutOfMemory) cutter calls calls
  Goes-no_memory script calls = record { calls = []; later = heard; plays = inl (refl, refl); stands = tt; grows = Grows-none calls }

  -- ---- one script behind another ----

  module _ {A : Type 0} (next : A → Script E) {script : Script A} {before after : Option (List Call)} where
    pub Goes-behind : {end : A} {result : Result E SessionFault} {last : Reading} {mid : Option (List Call)} → Goes size script heard (Ok end) cutter before mid
        → ((now : Heard) → Stands size cutter now → Goes size (next end) now result last mid after) → Goes size (behind next script) heard result last before after
    Goes-behind {end = end} {result = result} goes rest =
        let it = rest goes.later goes.stands in
        record {
          calls = goes.calls ++ it.calls;
          later = it.later;
          plays = plays-behind next end goes.later it.later it.calls result it.plays script heard goes.calls goes.plays;
          stands = it.stands;
          grows = Grows-append goes.grows it.grows;
        }

    pub Goes-behind_fails : {why : SessionFault} → Goes size script heard (Err why) cutter before after → Goes size (behind next script) heard (Err why) cutter before after
    Goes-behind_fails {why = why} goes = record {
      calls = goes.calls;
      later = goes.later;
      plays = fails-behind next why goes.later script heard goes.calls goes.plays;
      stands = tt;
      grows = goes.grows;
    }

  -- ---- a request ----

  module _ {asked : Asked} {next : List Placed → Placed → Script E} {before after : Option (List Call)} where
    module _ {HasAnswer : List Placed → Placed → Type 0} where
      pub Goes-unanswered : {why : SessionFault} → AsksFor asked HasAnswer heard (Err why) cutter before after → Goes size (Asks asked next) heard (Err why) cutter before after
      Goes-unanswered asks = let makes = Step-fails asks in record { calls = makes.calls; later = heard; plays = inr makes.are; stands = tt; grows = makes.grows }

      pub Goes-answered : {found : Found} {result : Result E SessionFault} {last : Reading} {mid : Option (List Call)} (asks : AsksFor asked HasAnswer heard (Ok found) cutter before mid)
          → Goes size (next asks.passed (placed_in cutter found)) asks.later result last mid after → Goes size (Asks asked next) heard result last before after
      Goes-answered {result = result} asks goes =
          let makes = Step-goes {Then = λ passed message now more. Plays (next passed message) now more result goes.later} asks (record { calls = goes.calls; are = goes.plays; grows = goes.grows }) in
          record { calls = makes.calls; later = goes.later; plays = inr makes.are; stands = goes.stands; grows = makes.grows }

    -- whose answer is read
    module _ {A : Type 0} {Reads : List Placed → Placed → Result A SessionFault → Type 0} where
      pub Goes-unread : {why : SessionFault} → RepliesTo asked Reads heard (Err why) cutter before after
          → ((passed : List Placed) (message : Placed) (now : Heard) → Reads passed message (Err why) → Plays (next passed message) now [] (Err why) now) → Goes size (Asks asked next) heard (Err why) cutter before after
      Goes-unread {why = why} replies ends =
          let After : Outcome → Type 0 = λ (o : Outcome). AfterOutcome {E = E} o [] (Err why) (λ passed message. Plays (next passed message) replies.later [] (Err why) replies.later) in
          let follows : After replies.outcome = elim replies.says [
            | inl is ↦ subst After (sym is) (refl, refl)
            | inr (message, is, reads) ↦ subst After (sym is) (ends replies.passed message replies.later reads)
          ]
          in
          record {
            calls = replies.calls;
            later = replies.later;
            plays = inr (record { own = replies.calls; more = []; outcome = replies.outcome; later = replies.later; are = sym (append-nil replies.calls); asks = replies.asks; follows = follows });
            stands = tt;
            grows = replies.grows;
          }

      pub Goes-read : {reply : Reply A} {result : Result E SessionFault} {last : Reading} {mid : Option (List Call)} (replies : RepliesTo asked Reads heard (Ok reply) cutter before mid)
          → Goes size (next replies.passed (placed_in cutter reply.found)) replies.later result last mid after → Goes size (Asks asked next) heard result last before after
      Goes-read {result = result} replies goes =
          let After : Outcome → Type 0 = λ (o : Outcome). AfterOutcome o goes.calls result (λ passed message. Plays (next passed message) replies.later goes.calls result goes.later) in
          record {
            calls = replies.calls ++ goes.calls;
            later = goes.later;
            plays = inr (record {
              own = replies.calls;
              more = goes.calls;
              outcome = replies.outcome;
              later = replies.later;
              are = refl;
              asks = replies.asks;
              follows = subst After (sym replies.says.0) goes.plays;
            });
            stands = goes.stands;
            grows = Grows-append replies.grows goes.grows;
          }

-- by the same script
pub Goes-as : {E : Type 0} {size : List ℕ → Size} {script same : Script E} {heard : Heard} {result : Result E SessionFault} {cutter : Reading} {before after : Option (List Call)} → script ≡ same
    → Goes size script heard result cutter before after → Goes size same heard result cutter before after
Goes-as {size = size} {heard = heard} {result = result} {cutter = cutter} {before = before} {after = after} is goes =
    subst (λ (s : Script _). Goes size s heard result cutter before after) is goes
