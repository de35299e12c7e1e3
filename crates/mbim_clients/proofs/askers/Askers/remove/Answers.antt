use Rattle.std.proofs.Common.{not, ◌==◌, rules}
use Rattle.std.proofs.lemmas.Grind.{common_steps}
use Rattle.arrayvec.proofs.ArrayVecLemmas.{filter-from_retain}
use Rattle.mbim_clients.proofs.askers.Askers.remove.Goals as goal

pub returns : goal.returns
returns c = rw (← c.self.view_is) (filter-from_retain _ (λ other. not (c.args.name == other)) _ (λ x b f' y called. search (rules, common_steps)) _ _ c.retain.ensures.filtered)
