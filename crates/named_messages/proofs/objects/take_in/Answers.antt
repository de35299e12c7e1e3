use Rattle.std.proofs.Common.{◌∙◌, sym}
use Rattle.named_messages.proofs.objects.take_in.Goals as goal

pub returns-in_ok-define : goal.returns-in_ok-define
returns-in_ok-define c = λ earlier are. let is = sym c.is_definition.ensures ∙ c.if-is_definition.true in rw is (c.in_ok-define.ensures earlier are)

pub returns-else-is_definition : goal.returns-else-is_definition
returns-else-is_definition c = λ earlier are. let is = sym c.is_definition.ensures ∙ c.if-is_definition.false in rw is are
