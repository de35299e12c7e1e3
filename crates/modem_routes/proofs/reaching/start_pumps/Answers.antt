use Rattle.std.proofs.Common.{[]}
use Rattle.modem_routes.proofs.reaching.start_pumps.Goals as goal

pub returns-clause-starts : goal.returns-clause-starts
returns-clause-starts g c = (let more = c.start_more_pumps.ensures.starts in record { starts = more.starts; are = more.are; grows = more.grows; stands = more.stands [] c.requires })
