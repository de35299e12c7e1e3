-- Turns, one after another. Lists of runs and of events have the newest first.
use Rattle.std.proofs.Common.{◌≡◌, ℕ, suc, ◌+◌, ◌<◌, ◌≤◌, List, fold, length, Option, refl, sym, ap, ap₂, ◌∙◌, subst, lt-ltb, le-ltb}
use Rattle.proxy_history.specs.Events.{Event}
use Rattle.proxy_history.specs.Proxy.{Proxy}
use Rattle.proxy_history.specs.Streams.{Framing}
use Rattle.sim_modem.specs.Sim.{Answering}
use Rattle.core_bench.specs.Runs.{Run}
use Rattle.rig_runs.specs.Draws.{Turn, turn_after, turns_after, next, drawn}
use Rattle.rig_runs.specs.Rig.{Script, say, pass, play, request_or_arrive, next_number}
use Rattle.rig_runs.specs.Stage.{Cast, Stage, longest_arrives, shortest_arrives}
use Rattle.rig_play.specs.Play.{Party, Plays, Takes}

-- so many turns are left, which are drawn from this number
pub record IsTurning {B M : Type 0} (keeps : Proxy → List Event → B → Type 0) (tells : B → Option (List Run)) (asks : Answering → List (List ℕ) → M → Type 0) (size : Framing) (script : Script)
    (cast : Cast) (opened : Run) (earlier : List Run) (all : Stage) (left x : ℕ) (party : Party M) (bench : B) : Type 0 where
  pub now : Stage
  pub plays : Plays keeps tells asks size script cast opened earlier now party bench
  pub rest : fold (play cast script) now (turns_after (length cast.clients) left x) ≡ all

module _ {B M : Type 0} {keeps : Proxy → List Event → B → Type 0} {tells : B → Option (List Run)} {asks : Answering → List (List ℕ) → M → Type 0} {size : Framing} (script : Script) where
  pub turning_one : (cast : Cast) (opened : Run) (earlier : List Run) (all : Stage) (left later x y : ℕ) {old new : Party M} {before after : B} → left ≡ suc later → y ≡ next (next x)
      → Takes keeps tells asks size script (λ cast stage. play cast script stage (turn_after (length cast.clients) x)) old before new after
      → IsTurning keeps tells asks size script cast opened earlier all left x old before → IsTurning keeps tells asks size script cast opened earlier all later y new after
  unfolding turns_after
  turning_one cast opened earlier all left later x y more on takes it =
      let clients : ℕ = length cast.clients in
      let one : Stage = play cast script it.now (turn_after clients x) in
      record {
        now = one;
        plays = takes.plays cast opened earlier it.now it.plays;
        rest = ap (λ n. fold (play cast script) one (turns_after clients later n)) on ∙ sym (ap (λ n. fold (play cast script) it.now (turns_after clients n x)) more) ∙ it.rest;
      }

  pub turning_done : (cast : Cast) (opened : Run) (earlier : List Run) (all : Stage) (left x : ℕ) (party : Party M) (bench : B) → left ≡ 0
      → IsTurning keeps tells asks size script cast opened earlier all left x party bench → Plays keeps tells asks size script cast opened earlier all party bench
  unfolding turns_after
  turning_done cast opened earlier all left x party bench none it =
      subst (λ now. Plays keeps tells asks size script cast opened earlier now party bench) (sym (ap (λ n. fold (play cast script) it.now (turns_after (length cast.clients) n x)) none) ∙ it.rest) it.plays

-- ---- what is drawn is done ----

module _ (cast : Cast) (script : Script) (client choice : ℕ) (stage : Stage) where
  abbrev turn : Turn
  turn = record { client = client; choice = choice }

  pub plays_request : choice < 4 → request_or_arrive cast script turn stage ≡ play cast script stage turn
  plays_request small = rw (lt-ltb choice 4 small) refl

  pub plays_longest : 4 ≤ choice → choice < 6 → longest_arrives cast stage ≡ play cast script stage turn
  plays_longest least small = rw (le-ltb choice 4 least, lt-ltb choice 6 small) refl

  pub plays_shortest : choice ≡ 6 → shortest_arrives cast stage ≡ play cast script stage turn
  plays_shortest is = rw is refl

  pub plays_pass : choice ≡ 7 → pass cast 1000 stage ≡ play cast script stage turn
  plays_pass is = rw is refl

  pub requests : length stage.held < 200 → say cast client stage (script.request client choice (next_number script client stage.events)) ≡ request_or_arrive cast script turn stage
  requests few = rw (lt-ltb (length stage.held) 200 few) refl

  pub arrives : 200 ≤ length stage.held → longest_arrives cast stage ≡ request_or_arrive cast script turn stage
  arrives many = rw (le-ltb (length stage.held) 200 many) refl

-- who is drawn, and what it may be
pub turn_is : (clients many index choice x y z : ℕ) → many ≡ clients → y ≡ next x → z ≡ next y → index ≡ drawn many y → choice ≡ drawn 8 z → record { client = index + 1; choice = choice } ≡ turn_after clients x
turn_is clients many index choice x y z same first second who what =
    ap₂ (λ i k. let drawn_turn : Turn = record { client = i + 1; choice = k } in drawn_turn)
    (who ∙ ap₂ drawn same first) (what ∙ ap (drawn 8) (second ∙ ap next first))
