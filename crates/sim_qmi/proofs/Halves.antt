-- What holds of all lines of the table: those whose messages have the input 0x01, and the others.
use Rattle.std.proofs.Common.{Bool, true, false, not, List, [], ◌∷◌}
use Rattle.std.specs.Prelude.{cond, filter, is_some}
use Rattle.std.specs.List.{AllByRecursion}
use Rattle.qmi_services.specs.Table.{Row, rows}
use Rattle.qmi_services.specs.Modem.{input_at}
use Rattle.sim_qmi.specs.Requests.{main_input}

abbrev pub has_input : Row → Bool
has_input row = is_some (input_at main_input row.input)

abbrev pub has_none : Row → Bool
has_none row = not (has_input row)

-- those with the input, in the order of the table
abbrev pub with_input : List Row
with_input = filter has_input rows

abbrev pub others : List Row
others = filter has_none rows

module _ (P : Row → Type 0) where
  pub both_halves : (xs : List Row) → AllByRecursion P (filter has_input xs) → AllByRecursion P (filter has_none xs) → AllByRecursion P xs
  both_halves [] having lacking = tt
  both_halves (row ∷ xs) having lacking = here (has_input row) (both_halves xs) having lacking
    where
      here : (b : Bool) → (AllByRecursion P (filter has_input xs) → AllByRecursion P (filter has_none xs) → AllByRecursion P xs)
          → AllByRecursion P (cond b (row ∷ filter has_input xs) (filter has_input xs)) → AllByRecursion P (cond (not b) (row ∷ filter has_none xs) (filter has_none xs))
          → P row × AllByRecursion P xs
      here true later having lacking = (having.0, later having.1 lacking)
      here false later having lacking = (lacking.0, later having lacking.1)

  pub all_lines : AllByRecursion P with_input → AllByRecursion P others → AllByRecursion P rows
  all_lines having lacking = both_halves rows having lacking

pub each_so : (P Q : Row → Type 0) (xs : List Row) → ((row : Row) → P row → Q row) → AllByRecursion P xs → AllByRecursion Q xs
each_so P Q [] so all = tt
each_so P Q (row ∷ xs) so all = (so row all.0, each_so P Q xs so all.1)
