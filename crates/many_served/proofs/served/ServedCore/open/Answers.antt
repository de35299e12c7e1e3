use Rattle.std.proofs.Common.{ℕ, List, length, map, sym, ap, ◌∙◌, arith}
use Rattle.std.proofs.lemmas.List.{length-map}
use Rattle.hub_io.specs.declared.settings.Limits.{Limits}
use Rattle.many_served.specs.Face.{many_proxy}
use Rattle.many_served.proofs.served.ServedCore.open.Goals as goal

pub returns : goal.returns
returns c =
    let x = c.in_ok-core.core in
    let given = map (λ path. path.now) c.args.paths.now in
    record {
      some = omega (arith, c.requires, ap (λ (l : List (List ℕ)). length l) c.in_ok-core.ensures.paths, length-map c.args.paths.now (λ path. path.now));
      same = ap (λ (l : List (List ℕ)). many_proxy l c.args.limits.now.time c.args.limits.now.release) (sym c.in_ok-core.ensures.paths) ∙ ap (λ (limits : Limits). many_proxy x.paths limits.time limits.release) (sym c.in_ok-core.ensures.limits);
      stands = c.in_ok-core.ensures.stands;
    }
