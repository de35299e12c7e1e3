-- The sessions of `qmicli` for a request by the tables of a file.
use Rattle.std.specs.Prelude.{List, [], ℕ, false, Option, Some, None}
use Rattle.sms_print.specs.declared.decoding.Decoding.TheVariants.{Nothing}
use Rattle.table_requests.specs.declared.session.TableEnd.{TableEnd}
use Rattle.table_requests.specs.declared.session.TableEnd.TheVariants.{Refused, Printed}
use Rattle.table_requests.specs.Plan.{Plan}
use Rattle.table_requests.specs.Session.{Session}
use Rattle.tool_runs.specs.declared.session.Refusal.{Refusal}
use Rattle.tool_runs.specs.Asking.{Asked, asked_of, shown}
use Rattle.tool_runs.specs.Json.{no_bodies}

abbrev pub refused : TableEnd → Option Refusal
refused (Refused error) = Some (record { function = false; code = error })
refused (Printed text) = None

abbrev pub printed : TableEnd → List ℕ
printed (Refused error) = []
printed (Printed text) = text

abbrev pub asked_by_tables : Plan → Asked TableEnd
asked_by_tables plan = asked_of Session refused (shown Nothing printed no_bodies) plan
