use Rattle.named_messages.proofs.Answering.{sound_from}
use Rattle.named_messages.proofs.named.read_message.Goals as goal

pub returns-clause-sound : goal.returns-clause-sound
returns-clause-sound c = sound_from c.args.name.now c.args.text.now c.in_ok-message.message c.in_ok-message.ensures
