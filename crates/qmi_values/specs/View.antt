-- The value that a `Val` stands for: what it is, without the memory that it takes.
use Rattle.qmi_values.specs.Value.{Value, number, integer, text, elements, members, Values, values_of}
use Rattle.qmi_values.specs.declared.val.Val.{Val, Val-F, fold-Val}
use Rattle.qmi_values.specs.declared.val.Val.TheOpen.{U, I, Str, List, Seq}
use Rattle.qmi_values.specs.declared.val.Vals.{Vals, Vals-F, fold-Vals}

-- ---- one level, with what is inside already seen as what it stands for ----

abbrev pub val_step : Val-F Value Values → Value
val_step (U n) = number n
val_step (I z) = integer z
val_step (Str bytes) = text bytes
val_step (List vals) = elements vals
val_step (Seq vals) = members vals

abbrev pub vals_step : Vals-F Value Values → Values
vals_step vs = values_of vs.vals.items

-- ---- all levels ----

abbrev pub val_view : Val → Value
val_view = fold-Val Value Values val_step vals_step

abbrev pub vals_view : Vals → Values
vals_view = fold-Vals Value Values val_step vals_step
