use Rattle.std.proofs.Common.{◌<◌, length, arith, sym}
use Rattle.std.proofs.lemmas.Grind.{common_steps}
use Rattle.serde_json.specs.View.{view, items_view}
use Rattle.message_tables.specs.declared.fault.MemberName.TheVariants.{Contents}
use Rattle.message_tables.proofs.FormLaws.{contents_of-some}
use Rattle.message_tables.proofs.Depths.{depth_value, depth_listed}
use Rattle.message_tables.proofs.shapes.contents.Goals as goal

pub returns-in-Some-objects_in-clause-found : goal.returns-in-Some-objects_in-clause-found
returns-in-Some-objects_in-clause-found c =
    let some : 0 < length c.in-Some-objects_in.objects.now = grind (arith, common_steps, c.if-not-is_empty.ensures) in
    λ names. contents_of-some names (view c.args.object.now) (view c.in-Some.value.now) c.in-Some-objects_in.objects.now c.in-Some.ensures c.in-Some-objects_in.ensures some

pub returns-in-Some-objects_in-clause-within : goal.returns-in-Some-objects_in-clause-within
returns-in-Some-objects_in-clause-within c =
    let value = depth_value Contents (view c.args.object.now) (view c.in-Some.value.now) (sym c.in-Some.ensures) in
    let listed = depth_listed (view c.in-Some.value.now) (items_view c.in-Some-objects_in.objects.now) (sym c.in-Some-objects_in.ensures) in
    omega arith
