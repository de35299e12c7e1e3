use Rattle.std.proofs.Common.{sym, arith}
use Rattle.std.proofs.lemmas.Bool.{eq-eqb}
use Rattle.many_cores.proofs.Having.{is_found, none_at_all, one_more}
use Rattle.many_cores.proofs.cores.has.Goals as goal

pub loop-place-init : goal.loop-place-init
loop-place-init c = record { within = omega arith; earlier = λ i n less got. absurd (omega (arith, less)) }

pub loop-place-preserved : goal.loop-place-preserved
loop-place-preserved c = record {
  within = omega (arith, c.loop-place-test.true, c.present.ensures);
  earlier = one_more c.args.name c.args.core.now.state.table.present c.loop-place.place c.conn_at.result c.conn_at.ensures c.if-name-conn_at.false c.loop-place.invariant.earlier;
}

pub loop-place-smaller : goal.loop-place-smaller
loop-place-smaller c = omega (arith, c.loop-place-test.true, c.present.ensures)

pub returns-then-name-conn_at : goal.returns-then-name-conn_at
returns-then-name-conn_at c = sym (is_found c.args.name c.args.core.now.state.table.present c.loop-place.place c.conn_at.result c.conn_at.ensures (eq-eqb c.args.name c.conn_at.result c.if-name-conn_at.true))

pub returns : goal.returns
returns c = sym (none_at_all c.args.name c.args.core.now.state.table.present c.loop-place.place (omega (arith, c.loop-place-test.false, c.present.ensures)) c.loop-place.invariant.earlier)
