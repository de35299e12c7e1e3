use Rattle.kit_io.proofs.Growth.{Grows-none}
use Rattle.program.specs.Tables.{followed, is_told, not_followed, not_told}
use Rattle.program.proofs.tables.follow_by_tables.Goals as goal

-- the indications that the file tells were followed behind the answer to the request that it gives
pub returns-in-Ok-request_in_file-clause-follows : goal.returns-in-Ok-request_in_file-clause-follows
returns-in-Ok-request_in_file-clause-follows g c =
    is_told _ _ c.in-Ok.ensures.reads (followed _ c.in-Ok-request_in_file.ensures.reads c.follow_with.ensures.follows)

-- or it tells them, and gives no request
pub returns-in-Err-request_in_file-clause-follows : goal.returns-in-Err-request_in_file-clause-follows
returns-in-Err-request_in_file-clause-follows g c =
    is_told _ _ c.in-Ok.ensures.reads (not_followed _ c.in-Err-request_in_file.ensures.reads c.from-in-Err-request_in_file.ensures (Grows-none _, Grows-none _, Grows-none _))

-- or it tells none
pub returns-in-Err-clause-follows : goal.returns-in-Err-clause-follows
returns-in-Err-clause-follows g c = not_told _ c.in-Err.ensures.reads c.from.ensures (Grows-none _, Grows-none _, Grows-none _)
