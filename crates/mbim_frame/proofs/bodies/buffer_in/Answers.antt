use Rattle.std.proofs.lemmas.List.{take_rest}
use Rattle.mbim_frame.proofs.bodies.buffer_in.Goals as goal

pub returns : goal.returns
returns c = take_rest c.args.body.now 28
