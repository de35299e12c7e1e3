use Rattle.message_tables.specs.View.{messages_in}
use Rattle.message_tables.proofs.SoundTables.{sound-from}
use Rattle.message_tables.proofs.read.read_tables.Goals as goal

pub returns-clause-sound : goal.returns-clause-sound
returns-clause-sound c = sound-from c.args.text.now (messages_in c.in_ok-tables.tables) c.in_ok-tables.ensures
