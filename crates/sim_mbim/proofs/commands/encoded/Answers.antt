use Rattle.std.proofs.Common.{◌≡◌, ℕ, List, [], Option, Some, None, option_map, option_and_then, refl, sym, ap, ◌∙◌}
use Rattle.std.specs.Prelude.{unwrap_or, map}
use Rattle.mbim_fields.specs.Layout.{Layout}
use Rattle.mbim_fields.specs.Value.{Value, list_of}
use Rattle.mbim_fields.specs.Canon.{canon}
use Rattle.mbim_fields.specs.Encoding.{IsMisfit}
use Rattle.mbim_fields.specs.View.{shape_view, value_view, val_view}
use Rattle.mbim_fields.specs.declared.fault.EncodeFault.{EncodeFault}
use Rattle.mbim_fields.specs.declared.fault.EncodeFault.TheVariants.{Misfit, OutOfMemory}
use Rattle.mbim_fields.proofs.Readings.{list_of-values_of}
use Rattle.mbim_services.specs.Table.{layout_for}
use Rattle.mbim_services.specs.declared.table.Way.TheVariants.{Done}
use Rattle.sim_mbim.proofs.commands.encoded.Goals as goal

encoded-is : (found : Option Layout) (layout : Layout) (laid values : List Value) (buffer : List ℕ) → found ≡ Some layout → laid ≡ values → canon layout laid ≡ Some buffer
    → buffer ≡ unwrap_or (option_and_then (λ layout. canon layout values) found) []
encoded-is found layout laid values buffer is same lays = rw (is, ← same, lays) refl

pub returns-in-Ok : goal.returns-in-Ok
returns-in-Ok c =
    encoded-is (layout_for c.args.head.now.uuid c.args.head.now.cid Done) (shape_view c.in-Some.shape) (list_of (val_view c.from.result)) (map value_view c.args.values.items) c.in-Ok.buffer
    (sym c.layout.ensures ∙ ap (option_map shape_view) c.in-Some.is) (ap list_of c.from.ensures ∙ list_of-values_of _) c.in-Ok.ensures.ok

encoded-none : (found : Option Layout) (layout : Layout) (laid values : List Value) (fault : EncodeFault) (buffer : List ℕ) → found ≡ Some layout → laid ≡ values → fault ≡ Misfit → IsMisfit (canon layout laid) fault → buffer ≡ []
    → buffer ≡ unwrap_or (option_and_then (λ layout. canon layout values) found) []
encoded-none found layout laid values Misfit buffer is same it misfit none = let lays : canon layout laid ≡ None = misfit in none ∙ rw (is, ← same, lays) refl
encoded-none found layout laid values OutOfMemory buffer is same it misfit none = absurd (cc)

pub returns : goal.returns
returns c =
    encoded-none (layout_for c.args.head.now.uuid c.args.head.now.cid Done) (shape_view c.in-Some.shape) (list_of (val_view c.from.result)) (map value_view c.args.values.items) c.in-Err-Misfit.field-0 c.new-in-Err-Misfit.result
    (sym c.layout.ensures ∙ ap (option_map shape_view) c.in-Some.is) (ap list_of c.from.ensures ∙ list_of-values_of _) c.in-Err-Misfit.field-0-is c.in-Err-Misfit.ensures.err c.new-in-Err-Misfit.ensures
