use Rattle.proxy_history.proofs.Streams.{goes_on_from_rest}
use Rattle.proxy_history.proofs.laws.streams_go_on_from_their_rest.Goals as goal

pub returns : goal.returns
returns c = goes_on_from_rest
