-- What a party goes on to, and the numbers of its requests. Lists of runs and of events have the newest first.
use Rattle.std.proofs.Common.{◌≡◌, ◌≢◌, ℕ, ◌+◌, ◌-◌, ◌%◌, ◌<◌, ◌≤◌, List, [], ◌∷◌, fold, length, slice_index, slice_set, Option, sym, ap, ◌∙◌, subst, arith, inl, inr, get_or-set_same, get_or-set_other, length-set}
use Rattle.std.specs.List.{range_with_len}
use Rattle.std.proofs.lemmas.Bool.{cases_eq}
use Rattle.std.proofs.lemmas.List.Sums.{fold-append}
use Rattle.proxy_history.specs.Events.{Event}
use Rattle.proxy_history.specs.Proxy.{Proxy}
use Rattle.proxy_history.specs.Streams.{Framing}
use Rattle.sim_modem.specs.Sim.{Answering}
use Rattle.core_bench.specs.Runs.{Run}
use Rattle.rig_runs.specs.Rig.{Script, sent, number_after, next_number, say, ask, open_device}
use Rattle.rig_runs.specs.Stage.{Cast, Stage, all_arrive}
use Rattle.rig_stage.specs.Stage as running
use Rattle.rig_stage.specs.Stage.{World, Acts}
use Rattle.rig_stage.proofs.Going.{range_more}
use Rattle.rig_play.specs.Play.{Party, AreNext, Plays, Takes, script_of}
use Rattle.rig_play.proofs.Sent.{says_one, others_say_none}

-- ---- the numbers ----

pub next_kept : (script : Script) (before after : List Event) (numbers : List ℕ) → ((c : ℕ) → sent c after ≡ sent c before) → AreNext script before numbers → AreNext script after numbers
next_kept script before after numbers same next = record {
  opened = λ at within. rw (same (at + 1)) (next.opened at within);
  next = λ at within. next.next at within ∙ ap (λ n. number_after script.first (n - length (script.opening (at + 1)))) (sym (same (at + 1)));
}

-- the number behind a number
number_behind : (first opened sent : ℕ) → opened ≤ sent → number_after first (sent - opened) % 65535 + 1 ≡ number_after first (sent + 1 - opened)
number_behind first opened sent enough = omega (arith, enough)

module _ (cast : Cast) (script : Script) (place : ℕ) (message : List ℕ) (stage : Stage) where
  abbrev after : List Event
  after = (say cast (place + 1) stage message).events

  others_sent : (at : ℕ) → at ≢ place → sent (at + 1) after ≡ sent (at + 1) stage.events
  others_sent at other = others_say_none (at + 1) cast (place + 1) message stage (λ e. other (omega (arith, e)))

  no_less : (at : ℕ) → sent (at + 1) stage.events ≤ sent (at + 1) after
  no_less at = elim (cases_eq at place) [
    | inl same ↦ subst (λ k. sent (k + 1) stage.events ≤ sent (k + 1) after) (sym same) (omega (arith, says_one (place + 1) cast message stage))
    | inr other ↦ omega (arith, others_sent at other)
  ]

  pub next_after : (numbers : List ℕ) → place < length numbers → AreNext script stage.events numbers → AreNext script after (slice_set numbers place (slice_index numbers place % 65535 + 1))
  next_after numbers within next =
      let value : ℕ = slice_index numbers place % 65535 + 1 in
      let long : length (slice_set numbers place value) ≡ length numbers = length-set numbers place value in
      let opening : ℕ → ℕ = λ (at : ℕ). length (script.opening (at + 1)) in
      record {
        opened = λ at inside. omega (arith, next.opened at (omega (arith, inside, long)), no_less at);
        next = λ at inside. elim (cases_eq at place) [
          | inl same ↦
              subst (λ k. slice_index (slice_set numbers place value) k ≡ next_number script (k + 1) after) (sym same)
              (get_or-set_same numbers place value 0 within
              ∙ ap (λ n. n % 65535 + 1) (next.next place within)
              ∙ number_behind script.first (opening place) (sent (place + 1) stage.events) (next.opened place within)
              ∙ ap (λ n. number_after script.first (n - opening place)) (sym (says_one (place + 1) cast message stage)))
          | inr other ↦
              get_or-set_other numbers place at value 0 other
              ∙ next.next at (omega (arith, inside, long))
              ∙ ap (λ n. number_after script.first (n - opening at)) (sym (others_sent at other))
        ];
      }

-- ---- the party ----

module _ {B M : Type 0} {keeps : Proxy → List Event → B → Type 0} {tells : B → Option (List Run)} {asks : Answering → List (List ℕ) → M → Type 0} {size : Framing} where
  -- each of the names from 1 on in turn
  pub acts_more : {old middle new : World M} {before between after : B} (step : Cast → Stage → ℕ → Stage) (count c : ℕ) → 1 + count ≡ c
      → Acts keeps tells asks size (λ cast stage. fold (step cast) stage (range_with_len 1 count)) old before middle between → Acts keeps tells asks size (λ cast stage. step cast stage c) middle between new after
      → Acts keeps tells asks size (λ cast stage. fold (step cast) stage (range_with_len 1 (count + 1))) old before new after
  acts_more {new = new} {after = after} step count c is one two = record {
    plays = λ cast opened earlier stage it.
        let names : List ℕ = range_with_len 1 count in
        subst (λ now. running.Plays keeps tells asks size cast opened earlier now new after) (sym (ap (fold (step cast) stage) (range_more count c is) ∙ fold-append (step cast) stage names (c ∷ [])))
        (two.plays cast opened earlier (fold (step cast) stage names) (one.plays cast opened earlier stage it));
  }

  pub acts_none : (step : Cast → Stage → ℕ → Stage) (world : World M) (bench : B) → Acts keeps tells asks size (λ cast stage. fold (step cast) stage (range_with_len 1 0)) world bench world bench
  acts_none step world bench = record { plays = λ cast opened earlier stage it. it }

  -- one after the other
  pub acts_then : {old middle new : World M} {before between after : B} (first second : Cast → Stage → Stage) → Acts keeps tells asks size first old before middle between → Acts keeps tells asks size second middle between new after
      → Acts keeps tells asks size (λ cast stage. second cast (first cast stage)) old before new after
  acts_then first second one two = record { plays = λ cast opened earlier stage it. two.plays cast opened earlier (first cast stage) (one.plays cast opened earlier stage it) }

  -- a client opens the device by two messages
  pub opens_device : {w0 w1 w2 w3 w4 : World M} {b0 b1 b2 b3 b4 : B} (conn : ℕ) (one two opens_first opens_second : List ℕ) (asks_for : (conn choice number : ℕ) → List ℕ) (number : ℕ) → one ≡ opens_first → two ≡ opens_second
      → Acts keeps tells asks size (λ cast stage. say cast conn stage one) w0 b0 w1 b1 → Acts keeps tells asks size all_arrive w1 b1 w2 b2
      → Acts keeps tells asks size (λ cast stage. say cast conn stage two) w2 b2 w3 b3 → Acts keeps tells asks size all_arrive w3 b3 w4 b4
      → Acts keeps tells asks size (λ cast now. open_device cast (script_of opens_first opens_second asks_for number) now conn) w0 b0 w4 b4
  opens_device {w4 = w4} {b4 = b4} conn one two opens_first opens_second asks_for number first_is second_is says_one arrive_one says_two arrive_two = record {
    plays = λ cast opened earlier stage it.
        let Gives : List ℕ → List ℕ → Type 0 = λ m n. running.Plays keeps tells asks size cast opened earlier (ask cast conn (ask cast conn stage m) n) w4 b4 in
        let said : Stage = say cast conn stage one in
        let asked : Stage = ask cast conn stage one in
        let both : Gives one two = arrive_two.plays cast opened earlier (say cast conn asked two) (says_two.plays cast opened earlier asked (arrive_one.plays cast opened earlier said (says_one.plays cast opened earlier stage it))) in
        subst (λ m. Gives m opens_second) first_is (subst (λ n. Gives one n) second_is both);
  }

  -- nobody sends anything
  pub takes_sending_none : (script : Script) {goes_on : Cast → Stage → Stage} {old new held : Party M} {before after : B} → held ≡ old → Acts keeps tells asks size goes_on held.world before new.world after → new.numbers ≡ held.numbers
      → ((c : ℕ) (cast : Cast) (stage : Stage) → sent c (goes_on cast stage).events ≡ sent c stage.events) → Takes keeps tells asks size script goes_on old before new after
  takes_sending_none script {goes_on = goes_on} {new = new} {held = held} {before = before} {after = after} is acts numbers none =
      subst (λ party. Takes keeps tells asks size script goes_on party before new after) is
      (record {
        plays = λ cast opened earlier stage it. record {
          stands = acts.plays cast opened earlier stage it.stands;
          numbers =
              subst (λ list. AreNext script (goes_on cast stage).events list) (sym numbers)
              (next_kept script stage.events (goes_on cast stage).events held.numbers (λ c. none c cast stage) it.numbers);
        };
      })

  pub takes_as : (script : Script) {old new : Party M} {before after : B} {first second : Cast → Stage → Stage} → Takes keeps tells asks size script first old before new after
      → ((cast : Cast) (opened : Run) (earlier : List Run) (stage : Stage) → Plays keeps tells asks size script cast opened earlier stage old before → first cast stage ≡ second cast stage)
      → Takes keeps tells asks size script second old before new after
  takes_as script {new = new} {after = after} one same = record {
    plays = λ cast opened earlier stage it. subst (λ now. Plays keeps tells asks size script cast opened earlier now new after) (same cast opened earlier stage it) (one.plays cast opened earlier stage it);
  }

  -- a client sends its next request
  pub sends_next : (script : Script) (place choice number : ℕ) {conn : ℕ} {message : List ℕ} {old new held : Party M} {before after : B} → held ≡ old
      → Acts keeps tells asks size (λ cast stage. say cast conn stage message) held.world before new.world after → place < length held.numbers → number ≡ slice_index held.numbers place → conn ≡ place + 1
      → message ≡ script.request (place + 1) choice number → new.numbers ≡ slice_set held.numbers place (slice_index held.numbers place % 65535 + 1)
      → Takes keeps tells asks size script (λ cast stage. say cast (place + 1) stage (script.request (place + 1) choice (next_number script (place + 1) stage.events))) old before new after
  sends_next script place choice number {conn = conn} {message = message} {new = new} {held = held} {before = before} {after = after} is acts within number_is conn_is message_is numbers =
      let Goes : Party M → Type 0 = λ party.
      Takes keeps tells asks size script (λ cast stage. say cast (place + 1) stage (script.request (place + 1) choice (next_number script (place + 1) stage.events))) party before new after in
      subst Goes is
      (record {
        plays = λ cast opened earlier stage it.
            let next : number ≡ next_number script (place + 1) stage.events = number_is ∙ it.numbers.next place within in
            let says : say cast conn stage message ≡ say cast (place + 1) stage (script.request (place + 1) choice (next_number script (place + 1) stage.events)) =
            ap (λ d. say cast d stage message) conn_is ∙ ap (λ m. say cast (place + 1) stage m) (message_is ∙ ap (script.request (place + 1) choice) next) in
            subst (λ now. Plays keeps tells asks size script cast opened earlier now new after) says
            (record {
              stands = acts.plays cast opened earlier stage it.stands;
              numbers =
                  subst (λ d. AreNext script (say cast d stage message).events new.numbers) (sym conn_is)
                  (subst (λ list. AreNext script (say cast (place + 1) stage message).events list) (sym numbers) (next_after cast script place message stage held.numbers within it.numbers));
            });
      })
