use Rattle.link_lines.proofs.Directions.{each_direction}
use Rattle.link_lines.proofs.laws.each_direction_is_dissected.Goals as goal

pub returns : goal.returns
returns c = each_direction
