use Rattle.std.proofs.Common.{sym}
use Rattle.mbim_services.proofs.Ranges.{events-length}
use Rattle.mbim_services.proofs.event_list.EventList.len.Goals as goal

pub returns : goal.returns
returns c = rw (← c.self.view_is) (sym (events-length c.self.inside.buffer.now c.self.inside.references.now))
