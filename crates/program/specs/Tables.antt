-- What a command does whose request the tables of a file give.
use Rattle.std.specs.Prelude.{◌≡◌, ℕ, List, Option, Some, None, Vec, Result, Ok, Err}
use Rattle.std.specs.Global.{Global}
use Rattle.std.specs.Str.{encode_utf8_all}
use Rattle.file_io.specs.Calls.{Call}
use Rattle.message_tables.specs.View.{messages_in}
use Rattle.message_tables.specs.declared.message.Message.{Message}
use Rattle.table_requests.specs.View.{asked_view}
use Rattle.table_requests.specs.declared.asked.Asked.{Asked}
use Rattle.table_requests.specs.declared.fault.NoRequest.{NoRequest}
use Rattle.table_requests.specs.Files.{OfFile, request_in}
use Rattle.table_requests.specs.Plan.{Plan}
use Rattle.table_following.specs.Plan as following
use Rattle.table_following.specs.Files.{told_in}
use Rattle.tool_words.specs.declared.qmicli.RequestTask.{RequestTask}
use Rattle.tool_runs.specs.Asking as asking
use Rattle.tool_runs.specs.Tables.{asked_by_tables}
use Rattle.program.specs.declared.status.Status.{Status}
use Rattle.program.specs.Status.{status_of_none}
use Rattle.program.specs.Routes.{Asks, Follows, NothingAsked, route_to}

-- ---- the plans ----

abbrev pub table_plan : RequestTask → Asked → Plan
table_plan task asked = record {
  session = record {
    device = task.device;
    proxied = task.link.proxied;
    cid = task.cid;
    keep = task.keep;
    timeout = task.link.timeout;
    request = record { service = asked.message.service; message = asked.message.id; tlvs = asked.tlvs };
  };
  message = asked.message;
  json = task.json;
}

abbrev pub follow_plan : RequestTask → Asked → (told : List Message) → (turns : ℕ) → following.Plan
follow_plan task asked told turns = record { request = table_plan task asked; indications = told; turns = turns }

-- ---- what the file gives ----

-- the request of the message that the words name, with their values
abbrev pub GivesRequest : RequestTask → Option (List Call) → Result Asked NoRequest → Option (List Call) → Type 0
GivesRequest task = OfFile asked_view (request_in (encode_utf8_all task.message) (encode_utf8_all task.input)) (encode_utf8_all task.tables)

-- and the indications
abbrev pub GivesIndications : RequestTask → Option (List Call) → Result (Vec Message Global) NoRequest → Option (List Call) → Type 0
GivesIndications task = OfFile (λ told. messages_in told.items) told_in (encode_utf8_all task.tables)

-- ---- the command ----

-- the file was read, and a modem was asked with the request that it gives; or it gives none, and nothing more was done
pub data AsksOnce (task : RequestTask) (files more : Option (List Call)) (before after : asking.Told) (result : Status) : Type 0 where
  asked : (found : Asked) → GivesRequest task files (Ok found) more → Asks (route_to task.device task.link) (asked_by_tables (table_plan task found)) before after result
      → AsksOnce task files more before after result
  not_asked : (none : NoRequest) → GivesRequest task files (Err none) more → result ≡ status_of_none none → NothingAsked before after → AsksOnce task files more before after result

-- the same, and these indications were followed behind the answer
pub data FollowsTold (task : RequestTask) (told : List Message) (turns : ℕ) (files more : Option (List Call)) (before after : asking.Told) (result : Status) : Type 0 where
  followed : (found : Asked) → GivesRequest task files (Ok found) more → Follows (route_to task.device task.link) (follow_plan task found told turns) before after result
      → FollowsTold task told turns files more before after result
  not_followed : (none : NoRequest) → GivesRequest task files (Err none) more → result ≡ status_of_none none → NothingAsked before after → FollowsTold task told turns files more before after result

-- before that the file was read for the indications that it tells; or it tells none, and nothing more was done
pub data FollowsByTables (task : RequestTask) (turns : ℕ) (files more : Option (List Call)) (before after : asking.Told) (result : Status) : Type 0 where
  is_told : (indications : Vec Message Global) (mid : Option (List Call)) → GivesIndications task files (Ok indications) mid → FollowsTold task indications.items turns mid more before after result
      → FollowsByTables task turns files more before after result
  not_told : (none : NoRequest) → GivesIndications task files (Err none) more → result ≡ status_of_none none → NothingAsked before after → FollowsByTables task turns files more before after result

-- indications are followed where the words want them, for so many turns
pub data AsksByTables (task : RequestTask) (files more : Option (List Call)) (before after : asking.Told) (result : Status) : Type 0 where
  asks_once : task.follow ≡ None → AsksOnce task files more before after result → AsksByTables task files more before after result
  follows : (turns : ℕ) → task.follow ≡ Some turns → FollowsByTables task turns files more before after result → AsksByTables task files more before after result
