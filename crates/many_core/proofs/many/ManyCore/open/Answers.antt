use Rattle.std.proofs.Common.{◌≡◌, ℕ, ◌<◌, List, [], length, map, refl, ap, sym, ◌∙◌, subst, arith}
use Rattle.std.proofs.lemmas.List.{length-map}
use Rattle.qmi_state.specs.Core.{QmiCore}
use Rattle.many_history.specs.Many.{Seat}
use Rattle.qmi_many_state.specs.Core.{opened_for}
use Rattle.many_core.proofs.Greatest.{greatest_of}
use Rattle.many_core.proofs.Inside.{PlacesFit}
use Rattle.many_core.proofs.Opening.{mapped_twice, no_names_yet, opened_stands}
use Rattle.many_core.proofs.many.ManyCore.open.Goals as goal

pub invariant_of-result : goal.invariant_of-result
invariant_of-result c =
    let given = c.args.paths.now in
    let limits = c.args.limits.now in
    let paths : length c.in_ok-copy_of.field-0 ≡ length given = ap (λ (l : List (List ℕ)). length l) c.in_ok-copy_of.ensures ∙ length-map given (λ path. path.now) in
    let cores : length c.in_ok-open.field-0 ≡ length given = ap (λ (l : List QmiCore). length l) c.in_ok-open.ensures ∙ length-map given (λ path. opened_for [] limits.time limits.release path.now) in
    record {
      some = omega (arith, c.requires, paths);
      count = cores ∙ sym paths;
      names = no_names_yet (λ path. opened_for [] limits.time limits.release path.now) (λ path. refl) c.in_ok-open-2.field-0.names given c.in_ok-open-2.ensures.names c.in_ok-open-2.ensures.count ∙ sym (ap (λ (l : List QmiCore). map greatest_of l) c.in_ok-open.ensures);
      places = subst (λ (l : List Seat). PlacesFit (length c.in_ok-copy_of.field-0) l) (sym c.in_ok-open-2.ensures.nobody.0) tt;
    }

pub returns-clause-stands : goal.returns-clause-stands
returns-clause-stands c =
    let given = c.args.paths.now in
    let limits = c.args.limits.now in
    let paths : List (List ℕ) = c.in_ok-copy_of.field-0 in
    let count : length paths ≡ length given = ap (λ (l : List (List ℕ)). length l) c.in_ok-copy_of.ensures ∙ length-map given (λ path. path.now) in
    let opened = opened_for paths limits.time limits.release in
    let cores : c.in_ok-open.field-0 ≡ map opened paths = c.in_ok-open.ensures ∙ sym (mapped_twice opened (λ path. path.now) given) ∙ ap (λ (l : List (List ℕ)). map opened l) (sym c.in_ok-copy_of.ensures) in
    let nobody = c.in_ok-open-2.ensures.nobody in
    opened_stands paths limits.time limits.release (omega (arith, c.requires, count)) c.in_ok-open.field-0 c.in_ok-open-2.field-0.seats c.in_ok-open-2.field-0.dropped c.in_ok-open-2.field-0.greatest cores nobody.0 nobody.1 nobody.2
