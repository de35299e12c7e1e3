use Rattle.std.proofs.Common.{◌<◌, ◌≤◌, length, sym, rules}
use Rattle.std.proofs.lemmas.Bool.{le-leb, lt-leb}
use Rattle.proxy_history.specs.Coming.{piece_limit}
use Rattle.rig_notes.proofs.Meeting.{comes, refused}
use Rattle.rig_notes.proofs.alone.say.Goals as goal

pub returns-then-message-gt-LONGEST_PIECE-clause-same : goal.returns-then-message-gt-LONGEST_PIECE-clause-same
returns-then-message-gt-LONGEST_PIECE-clause-same g c = let long : piece_limit < length c.args.message.now = search rules in refused (λ p own kept. sym (lt-leb _ _ long))

pub returns-clause-same : goal.returns-clause-same
returns-clause-same g c = let short : length c.args.message.now ≤ piece_limit = search rules in comes (λ p own kept. sym (le-leb _ _ short)) c.meets.ensures.met
