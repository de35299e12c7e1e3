use Rattle.std.proofs.Common.{refl}
use Rattle.dissect.specs.Tables.{by_tables}
use Rattle.dissect.proofs.by_tables.dissect_by_tables.Goals as goal

-- the capture was shown by the tables that were found
pub returns-clause-dissects : goal.returns-clause-dissects
returns-clause-dissects g c =
    by_tables c.in-Ok.tables _ _ c.in-Ok.ensures.tables (rw (c.as_str-capture.ensures, c.value.ensures.same) at c.dissect-end.ensures.shows) refl
