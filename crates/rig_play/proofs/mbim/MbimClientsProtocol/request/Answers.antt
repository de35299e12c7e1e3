use Rattle.std.proofs.Common.{◌≡◌, ◌≤◌, length, rules}
use Rattle.std.proofs.lemmas.Result.{IfOk-weaker}
use Rattle.mbim_session.specs.Requests.{command_message}
use Rattle.rig_runs.specs.Mbim.{asks_for}
use Rattle.rig_play.proofs.Short.{short_as, short_query}
use Rattle.rig_play.proofs.mbim.MbimClientsProtocol.request.Goals as goal

pub returns-clause-short : goal.returns-clause-short
returns-clause-short c =
    IfOk-weaker c.command_message-message.result (λ message. message ≡ command_message (asks_for c.args.choice) c.args.number) (λ message. length message ≤ 16384) (λ message is. short_as message is (short_query c.args.choice c.args.number)) (search rules)
