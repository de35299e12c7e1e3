use Rattle.std.proofs.Common.{true}
use Rattle.link_lines.proofs.Marking.{marks_off}
use Rattle.link_lines.proofs.laws.marks_come_off.Goals as goal

pub returns : goal.returns
returns c = λ mark text. marks_off mark true text
