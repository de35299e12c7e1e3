use Rattle.mbim_isolation.proofs.Queues.{answers_stand, openings_stand}
use Rattle.mbim_isolation.proofs.laws.answers_stand.Goals as goal

pub returns : goal.returns
returns c = record {
  commands = λ s events stream piece earlier later m r within coming back brings reply at client answers. answers_stand s events stream piece earlier later m r within coming back brings reply at answers client;
  openings = λ s events stream piece earlier later m r client within coming back brings reply some at opens answers waits. openings_stand s events stream piece earlier later m r within coming back brings reply at answers client some opens waits;
}
