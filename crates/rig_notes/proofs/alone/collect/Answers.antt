use Rattle.std.proofs.Common.{Bool, ℕ, List, nat_eq, ap, sym, ◌∙◌}
use Rattle.std.specs.List.{starts_with}
use Rattle.rig_notes.proofs.Meeting.{comes, refused, queue_is}
use Rattle.rig_notes.proofs.alone.collect.Goals as goal

pub returns-then-not-waits-clause-same : goal.returns-then-not-waits-clause-same
returns-then-not-waits-clause-same g c =
    let old : g.row.B.Denot = c.args.bench.now in
    let compared : List ℕ → Bool = λ queue. starts_with nat_eq queue c.args.bytes.now in
    refused (λ p own kept.
    sym c.if-not-waits.true ∙ c.waits.ensures.waits
    ∙ ap compared (queue_is p own (g.B.Bench.face old) c.args.conn (g.met.B.Bench.shows p own old kept).1 (λ absent. g.met.B.Bench.nobody old c.args.conn absent c.requires.asked)))

pub returns-clause-same : goal.returns-clause-same
returns-clause-same g c =
    let old : g.row.B.Denot = c.args.bench.now in
    let compared : List ℕ → Bool = λ queue. starts_with nat_eq queue c.args.bytes.now in
    comes (λ p own kept.
    sym c.if-not-waits.false ∙ c.waits.ensures.waits
    ∙ ap compared (queue_is p own (g.B.Bench.face old) c.args.conn (g.met.B.Bench.shows p own old kept).1 (λ absent. g.met.B.Bench.nobody old c.args.conn absent c.requires.asked)))
    c.meets.ensures.met
