use Rattle.std.proofs.Common.{List, ℕ, ◌∙◌}
use Rattle.framing.specs.Cutting.{cut}
use Rattle.rig_stage.proofs.Splitting.{first_is}
use Rattle.rig_stage.proofs.Acting.{asking_one, asking_done, asked_bytes}
use Rattle.rig_stage.proofs.stage.Stage.ask_all.Goals as goal

pub loop-count-preserved : goal.loop-count-preserved
loop-count-preserved g c =
    let i = c.loop-count.invariant in
    let all : List (List ℕ) = (cut g.S.Framing.Framing.size c.args.bytes.now).messages in
    record {
      asking = λ cast stage held.
          asking_one cast all (cut g.S.Framing.Framing.size c.loop-count.rest.now).messages c.split_at.result.0.now (cut g.S.Framing.Framing.size c.split_at.result.1.now).messages stage c.loop-count.self c.ask.new.self
          (i.asking cast stage held) (first_is c.in-Some.ensures c.split_at.ensures.front c.split_at.ensures.back) c.in_ok-ask.ensures.asks;
      clients = c.in_ok-ask.ensures.clients ∙ i.clients;
      time = c.in_ok-ask.ensures.time ∙ i.time;
    }

pub returns-clause-asks : goal.returns-clause-asks
returns-clause-asks g c =
    let i = c.loop-count.invariant in
    let all : List (List ℕ) = (cut g.S.Framing.Framing.size c.args.bytes.now).messages in
    asked_bytes c.args.bytes.now (λ cast stage held.
    asking_done cast all (cut g.S.Framing.Framing.size c.loop-count.rest.now).messages stage c.loop-count.self (i.asking cast stage held) c.in_default.ensures)
