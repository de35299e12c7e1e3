use Rattle.std.proofs.Common.{◌≡◌, true, drop, map}
use Rattle.std.specs.List.{AllByRecursion, find}
use Rattle.message_tables.specs.Messages.{is_key}
use Rattle.message_tables.specs.View.{message_view}
use Rattle.message_tables.specs.WellMade.{IsSoundMessage}
use Rattle.table_following.proofs.watch.Watch.form_of.Given as goal

abbrev pub invariant-loop-form : goal.invariant-loop-form
invariant-loop-form l = record {
  found : find (is_key l.self.service l.id true) (map message_view l.self.indications) ≡ find (is_key l.self.service l.id true) (map message_view (drop l.form-index l.self.indications));
  sound : AllByRecursion IsSoundMessage (map message_view (drop l.form-index l.self.indications));
}
