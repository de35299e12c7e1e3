use Rattle.proxy_history.proofs.SoundLaws.{waiting_are_parties, holders_are_parties}
use Rattle.proxy_history.proofs.laws.parties_are_present.Goals as goal

pub returns : goal.returns
returns c = record { waiting = waiting_are_parties; holders = holders_are_parties }
