use Rattle.message_tables.proofs.FormLaws.{form_of-with}
use Rattle.message_tables.proofs.laws.forms_are_by_their_members.Goals as goal

pub returns : goal.returns
returns c = form_of-with
