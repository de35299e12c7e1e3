use Rattle.std.proofs.Common.{refl}
use Rattle.mbim_fragments.specs.Runs.{joinings_from}
use Rattle.mbim_fragments.proofs.examples.fragments_are_joined.Goals as goal

pub returns : goal.returns
unfolding joinings_from
returns c = record {
  in_order = refl;
  skipped = refl;
  repeated = refl;
  other_number = refl;
  other_total = refl;
  no_total = refl;
  too_long = refl;
}
