use Rattle.message_tables.specs.View.{messages_in}
use Rattle.named_messages.proofs.SoundTold.{sound_from}
use Rattle.named_messages.proofs.read.read_indications.Goals as goal

pub returns-clause-sound : goal.returns-clause-sound
returns-clause-sound c = sound_from c.args.text.now (messages_in c.in_ok-told.told.items) c.in_ok-told.ensures
