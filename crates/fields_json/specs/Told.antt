-- Laws of what the JSON of values tells.
use Rattle.std.specs.Prelude.{◌≡◌, ℕ, Bool, ◌&&◌, List, IsTrue, codes}
use Rattle.std.specs.List.{list_all}
use Rattle.framing.specs.Framing.{AreBytes}
use Rattle.serde_json.specs.Data.{object}
use Rattle.mbim_fields.specs.Layout.{Layout}
use Rattle.mbim_fields.specs.Value.{Value}
use Rattle.mbim_fields.specs.Fields.{Fields}
use Rattle.mbim_fields.specs.WellMade.{is_well_made}
use Rattle.mbim_services.specs.Table.{rows}
use Rattle.fields_json.specs.Answers.{success_members}
use Rattle.fields_json.specs.Apart.{is_apart, are_named_apart}

-- its lists are counted, and its names differ, also from that of the result
abbrev pub is_told : Layout → Bool
is_told layout = is_well_made layout && (are_named_apart layout && is_apart (codes "result") layout)

-- values that buffers have in a layout are the same where the JSON of the answers is
abbrev pub JsonTellsValues : Type 0
JsonTellsValues =
    (layout : Layout) (v w : List Value) (b c : List ℕ) → IsTrue (is_told layout) → AreBytes b → AreBytes c → Fields layout v b → Fields layout w c
    → object (success_members layout v) ≡ object (success_members layout w) → v ≡ w

-- the layout of each command's answer is such
abbrev pub AnswersAreTold : Type 0
AnswersAreTold = IsTrue (list_all (λ row. is_told row.done) rows)
