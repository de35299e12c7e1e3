use Rattle.std.proofs.Common.{◌≡◌, List, ℕ, ◌++◌, ap, ◌∙◌}
use Rattle.mbim_frame.specs.declared.bodies.CommandHead.{CommandHead}
use Rattle.sim_mbim.specs.Writing.{indication}
use Rattle.sim_tunnel.specs.Carrying.{carrier}
use Rattle.sim_tunnel.proofs.Telling.{told-more}
use Rattle.sim_tunnel.proofs.answering.add_indications.Goals as goal

pub loop-count-preserved : goal.loop-count-preserved
loop-count-preserved c =
    let message = c.split_at.result.0.now in
    let told : c.as_slice.result.now ≡ indication c.args.longest carrier message = c.as_slice.ensures ∙ c.in_ok-told.ensures ∙ ap (λ (head : CommandHead). indication c.args.longest head message) c.carrier.ensures in
    told-more c.args.longest c.loop-count.rest.now c.in-Some.count c.in-Some.ensures message c.split_at.result.1.now c.split_at.ensures.front c.split_at.ensures.back c.loop-count.text c.extend_from_slice.new.self _
    (c.in_ok-extend_from_slice.ensures.ok ∙ ap (λ (l : List ℕ). c.loop-count.text ++ l) told) c.loop-count.invariant
