use Rattle.std.proofs.Common.{◌≡◌, List, [], ◌∷◌, map, map-id, rules, subst, sym, ◌∙◌}
use Rattle.std.proofs.lemmas.Iterator.Adapters.{YieldsList-from_vec}
use Rattle.std.proofs.lemmas.Iterator.Consumers.{YieldsList-end}
use Rattle.std.proofs.lemmas.List.{map-append}
use Rattle.transparency.specs.Lines.{Named, Shown, named_view}
use Rattle.transparency.specs.declared.lines.NamedRequest.{NamedRequest}
use Rattle.transparency.proofs.InTurn.{goes_on}
use Rattle.transparency.proofs.lines.lines_at.Goals as goal

pub returns : goal.returns
returns g c =
    let runs = g.B.Bench.runs in
    let trial = g.R.RunsTwice.trial in
    let all : map (λ x. x) c.loop-named.yielded ≡ c.args.requests.items =
    (YieldsList-end (YieldsList-from_vec {s = c.into_iter-named-iterator.result} c.args.requests.items (search rules) (search rules)) c.loop-named.yielded c.loop-named.named-iterator c.loop-named.yielded_by c.next.result c.next.new.self c.in-None.is c.next.ensures.steps).0 in
    subst (λ (l : List (NamedRequest _)). Shown trial (map named_view l) c.loop-named.lines (runs c.args.bench.now) (runs c.loop-named.bench)) (sym (map-id c.loop-named.yielded) ∙ all) c.loop-named.invariant

pub loop-named-preserved : goal.loop-named-preserved
loop-named-preserved g c =
    let runs = g.B.Bench.runs in
    let trial = g.R.RunsTwice.trial in
    subst (λ (l : List (Named _)). Shown trial l c.add_line.new.lines (runs c.args.bench.now) (runs c.add_line.new.bench)) (sym (map-append named_view c.loop-named.yielded (c.in-Some.named ∷ [])))
    (goes_on trial (map named_view c.loop-named.yielded) (named_view c.in-Some.named) c.loop-named.lines c.add_line.new.lines _ (runs c.loop-named.bench) _ c.loop-named.invariant c.in_ok-add_line.ensures)
