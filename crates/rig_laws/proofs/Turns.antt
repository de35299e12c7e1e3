-- The turns of the rig, and what comes behind them.
use Rattle.std.proofs.Common.{◌≡◌, ℕ, zero, suc, ◌+◌, ◌/◌, ◌%◌, ◌^◌, ◌<◌, ◌≤◌, Bool, true, false, ◌==◌, nat_lt, if◌then◌else◌, List, [], ◌∷◌, length, fold, refl, ap, sym, ◌∙◌, arith, subst, length-append}
use Rattle.std.proofs.lemmas.Bool.Decides.{nat_tests}
use Rattle.rig_runs.specs.Draws.{Turn, next, turn_after, turns_after}
use Rattle.rig_runs.specs.Qmi.{setup, script, says, asks_for}
use Rattle.rig_runs.specs.Qmi as rig
use Rattle.rig_runs.specs.Stage.{Stage, longest_arrives, shortest_arrives, all_arrive}
use Rattle.rig_runs.specs.Rig.{say, pass, request_or_arrive, play, played, ready, ended, next_number, most_held, tick, last_tick}
use Rattle.rig_laws.proofs.Lists.{length-range}
use Rattle.rig_laws.proofs.Says.{IsRequestOf}
use Rattle.rig_laws.proofs.Events.{fills_share}
use Rattle.rig_laws.proofs.Stage.{HasSaid, refuses_stage, asks_stage, passes}
use Rattle.rig_laws.proofs.Arriving.{others, longest_is_heard, shortest_is_heard, all_are_heard}
use Rattle.rig_laws.proofs.Messages.{row_of, kind_for, nas_message, said_nas, nas_is_request}
use Rattle.rig_laws.proofs.Replies.{nas_is_answered}
use Rattle.rig_laws.proofs.Ready.{modem, Standing, is_ready}

not_zero : (c : ℕ) → 1 ≤ c → (c == 0) ≡ false
not_zero c low = grind (arith, nat_tests)

not_everybody : (c : ℕ) → c ≤ 64 → (c == 255) ≡ false
not_everybody c high = grind (arith, nat_tests)

others_are_fewer : (held : List (List ℕ)) → length (others held) ≤ length held
others_are_fewer [] = omega arith
others_are_fewer (m ∷ held) = omega arith

one_of : (clients y : ℕ) → 1 ≤ clients → y % clients + 1 ≤ clients
one_of clients y some = omega arith

module _ (clients : ℕ) (some : 1 ≤ clients) (within : clients ≤ 64) where
  -- between two turns
  pub record IsUsual (stage : Stage) : Type 0 where
    pub stands : Standing clients within clients clients stage
    pub few : length stage.held ≤ 200

  longest : (stage : Stage) → IsUsual stage → IsUsual (longest_arrives (rig.cast clients) stage)
  longest stage usual =
      let met = longest_is_heard setup refl clients (modem clients within) clients clients (omega arith) stage usual.stands in
      record { stands = met.stands; few = let left = ap length met.held_is in omega (arith, left, others_are_fewer stage.held, usual.few) }

  shortest : (stage : Stage) → IsUsual stage → IsUsual (shortest_arrives (rig.cast clients) stage)
  shortest stage usual =
      let left = shortest_is_heard setup refl clients (modem clients within) clients clients (omega arith) stage usual.stands in
      record { stands = left.stands; few = omega (arith, left.fewer, usual.few) }

  time_passes : (time : ℕ) (stage : Stage) → IsUsual stage → IsUsual (pass (rig.cast clients) time stage)
  time_passes time stage usual =
      let met = passes setup refl clients (modem clients within) clients clients time stage usual.stands (omega arith) usual.few in
      record { stands = met.stands; few = let same = ap length met.held_is in omega (arith, same, usual.few) }

  requests : (c choice number : ℕ) (stage : Stage) → 1 ≤ c → c ≤ clients → IsUsual stage → length stage.held < 200 → IsUsual (say (rig.cast clients) c stage (says (asks_for choice) c number))
  requests c choice number stage low high usual room =
      let m : List ℕ = nas_message (row_of (kind_for choice)).id c number in
      let is : IsRequestOf c m = nas_is_request (row_of (kind_for choice)).id c number (not_zero c low) (not_everybody c (omega (arith, high, within))) in
      let step : (b : Bool) → fills_share setup c m stage.events ≡ b → IsUsual (say (rig.cast clients) c stage m) =
      λ b. elim b as (λ b. fills_share setup c m stage.events ≡ b → IsUsual (say (rig.cast clients) c stage m)) [
        | true ↦ λ full.
            let met = refuses_stage setup refl clients (modem clients within) clients clients c m stage usual.stands low high (omega arith) (omega arith) is full in
            record { stands = met.stands; few = let same = ap length met.held_is in omega (arith, same, usual.few) }
        | false ↦ λ free.
            let said : HasSaid setup refl clients (modem clients within) clients clients m stage (say (rig.cast clients) c stage m) =
            asks_stage setup refl clients (modem clients within) clients clients c m stage usual.stands low high (omega arith) (omega arith) (omega (arith, room)) is free
            (λ n below. nas_is_answered setup refl clients stage.asked (kind_for choice) c number n) in
            record { stands = said.met.stands; few = let more = ap length said.met.held_is ∙ length-append stage.held (said.reply ∷ []) in omega (arith, more, room) }
      ]
      in subst (λ (m : List ℕ). IsUsual (say (rig.cast clients) c stage m)) (sym (said_nas choice c number)) (step (fills_share setup c m stage.events) refl)

  request_or : (turn : Turn) (stage : Stage) → 1 ≤ turn.client → turn.client ≤ clients → IsUsual stage → IsUsual (request_or_arrive (rig.cast clients) script turn stage)
  request_or turn stage low high usual =
      let message : List ℕ = says (asks_for turn.choice) turn.client (next_number script turn.client stage.events) in
      let step : (b : Bool) → nat_lt (length stage.held) most_held ≡ b → IsUsual (if b then say (rig.cast clients) turn.client stage message else longest_arrives (rig.cast clients) stage) =
      λ b. elim b as (λ b. nat_lt (length stage.held) most_held ≡ b → IsUsual (if b then say (rig.cast clients) turn.client stage message else longest_arrives (rig.cast clients) stage)) [
        | true ↦ λ e. requests turn.client turn.choice (next_number script turn.client stage.events) stage low high usual (grind (arith, nat_tests, e))
        | false ↦ λ e. longest stage usual
      ]
      in step (nat_lt (length stage.held) most_held) refl

  plays : (turn : Turn) (stage : Stage) → 1 ≤ turn.client → turn.client ≤ clients → IsUsual stage → IsUsual (play (rig.cast clients) script stage turn)
  plays turn stage low high usual = by (nat_lt turn.choice 4) (nat_lt turn.choice 6) (turn.choice == 6)
    where
      by : (a b c : Bool) → IsUsual (if a then request_or_arrive (rig.cast clients) script turn stage else if b then longest_arrives (rig.cast clients) stage else if c then shortest_arrives (rig.cast clients) stage else pass (rig.cast clients) tick stage)
      by true b c = request_or turn stage low high usual
      by false true c = longest stage usual
      by false false true = shortest stage usual
      by false false false = time_passes tick stage usual

  all_play : (count x : ℕ) (stage : Stage) → IsUsual stage → IsUsual (fold (play (rig.cast clients) script) stage (turns_after clients count x))
  unfolding turns_after
  all_play zero x stage usual = usual
  all_play (suc count) x stage usual =
      all_play count (next (next x)) (play (rig.cast clients) script stage (turn_after clients x))
      (plays (turn_after clients x) stage (omega arith) (one_of clients (next x / 2 ^ 33) some) usual)

  pub all_is_usual : (turns number : ℕ) → IsUsual (ended (rig.cast clients) (played (rig.cast clients) script turns number))
  all_is_usual turns number =
      let start : Stage = ready (rig.cast clients) script in
      let first = is_ready clients within in
      let begin : IsUsual start = record { stands = first.stands; few = let none = ap length first.none in omega (arith, none) } in
      let end : IsUsual (played (rig.cast clients) script turns number) =
      subst (λ (n : ℕ). IsUsual (fold (play (rig.cast clients) script) start (turns_after n turns number))) (sym (length-range clients 1)) (all_play turns number start begin) in
      let met = all_are_heard setup refl clients (modem clients within) clients clients (omega arith) (played (rig.cast clients) script turns number) end.stands in
      time_passes last_tick (all_arrive (rig.cast clients) (played (rig.cast clients) script turns number)) (record { stands = met.stands; few = let none = ap length met.held_is in omega (arith, none) })
