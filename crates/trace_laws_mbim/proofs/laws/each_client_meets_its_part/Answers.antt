use Rattle.trace_laws_mbim.proofs.Parts.{each_meets_its_part, each_takes_the_same}
use Rattle.trace_laws_mbim.proofs.laws.each_client_meets_its_part.Goals as goal

pub returns : goal.returns
returns c = record {
  part = each_meets_its_part;
  same = each_takes_the_same;
}
