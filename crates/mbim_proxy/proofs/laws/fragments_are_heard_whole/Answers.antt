use Rattle.mbim_proxy.proofs.Delivered.{answers_are_heard_whole, indications_are_heard_whole}
use Rattle.mbim_proxy.proofs.laws.fragments_are_heard_whole.Goals as goal

pub returns : goal.returns
returns c = record {
  answers = answers_are_heard_whole;
  indications = indications_are_heard_whole;
}
