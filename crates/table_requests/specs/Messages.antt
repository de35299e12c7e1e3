-- An answer as one JSON object: its TLVs, what is kept, and its result; and an indication.
use Rattle.std.specs.Prelude.{ℕ, ◌==◌, List, true, false, Option, codes, encode_utf8_all, if◌then◌else◌}
use Rattle.serde_json.specs.Data.{Data, string as quoted, object, Members, no_members, put}
use Rattle.tlv_codec.specs.Tlv.{tlvs_of}
use Rattle.tlv_codec.specs.declared.outcome.Outcome.{Outcome}
use Rattle.message_tables.specs.Tlvs.{TlvForm}
use Rattle.json_values.specs.declared.ending.Ending.{Ending}
use Rattle.json_values.specs.declared.ending.Ending.TheVariants.{Success, Denied}
use Rattle.json_values.specs.Showing.{Showing}
use Rattle.json_values.specs.Ends.{with_ending, with_kept}
use Rattle.table_requests.specs.Tlvs.{with_all}

-- a status of 0 is success
abbrev pub ending_of : Outcome → Ending
ending_of outcome = if outcome.status == 0 then Success else Denied outcome.error

abbrev pub answer_members : Showing → List TlvForm → List ℕ → Option (ℕ × ℕ) → Outcome → Members
answer_members showing forms tlvs kept outcome = with_ending (ending_of outcome) (with_kept kept (with_all showing true forms tlvs (tlvs_of tlvs) no_members))

-- an answer by its table, and the service and the client id that are kept
abbrev pub answer_json : Showing → List TlvForm → List ℕ → Option (ℕ × ℕ) → Outcome → Data
answer_json showing forms tlvs kept outcome = object (answer_members showing forms tlvs kept outcome)

-- an indication of a name by its table
abbrev pub indication_members : Showing → List ℕ → List TlvForm → List ℕ → Members
indication_members showing name forms tlvs = put (codes "indication") (quoted (encode_utf8_all name)) (with_all showing false forms tlvs (tlvs_of tlvs) no_members)

abbrev pub indication_json : Showing → List ℕ → List TlvForm → List ℕ → Data
indication_json showing name forms tlvs = object (indication_members showing name forms tlvs)
