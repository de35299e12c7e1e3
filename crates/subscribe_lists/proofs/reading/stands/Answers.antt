use Rattle.std.proofs.Common.{◌≡◌, ℕ, true, List, length, take, drop, sym, ◌∙◌, subst, arith, Contains, Some}
use Rattle.std.specs.Prelude.{◌&&◌, bytes_eq}
use Rattle.std.specs.List.{list_any}
use Rattle.std.proofs.lemmas.Bool.{and_parts}
use Rattle.std.proofs.lemmas.List.{take-append-drop}
use Rattle.std.proofs.lemmas.List.Elements.{Contains-append_right}
use Rattle.std.proofs.lemmas.Slice.{between_to_end}
use Rattle.kit_bytes.specs.Subscriptions.{Pair}
use Rattle.subscriptions.specs.Lists.{covers, has_cid}
use Rattle.subscriptions.proofs.NormalForms.{any_has, any_from, both_true}
use Rattle.subscribe_lists.proofs.reading.stands.Goals as goal

pub returns : goal.returns
returns c = λ is.
    let pairs : List Pair = c.args.pairs.now in
    let from : ℕ = c.min-from.result in
    let behind = between_to_end pairs from (length pairs) (omega arith) in
    let found : list_any (λ other. has_cid other.1 (Some c.args.cid) && bytes_eq other.0 c.args.uuid) (drop from pairs) ≡ true =
    subst (λ (l : List Pair). list_any (λ other. has_cid other.1 (Some c.args.cid) && bytes_eq other.0 c.args.uuid) l ≡ true) behind (sym c.some_stands.ensures ∙ is) in
    let some = any_has (λ other. has_cid other.1 (Some c.args.cid) && bytes_eq other.0 c.args.uuid) (drop from pairs) found in
    let there : Contains pairs some.0 = subst (λ (l : List Pair). Contains l some.0) (take-append-drop from pairs) (Contains-append_right (take from pairs) (drop from pairs) some.0 some.1) in
    let parts = and_parts (has_cid some.0.1 (Some c.args.cid)) (bytes_eq some.0.0 c.args.uuid) some.2 in
    any_from (λ other. covers other (c.args.uuid, Some c.args.cid)) pairs some.0 there (both_true (bytes_eq some.0.0 c.args.uuid) (has_cid some.0.1 (Some c.args.cid)) parts.1 parts.0)
