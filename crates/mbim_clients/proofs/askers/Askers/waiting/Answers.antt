use Rattle.std.proofs.Common.{filter, ap, ◌∙◌, rules}
use Rattle.std.proofs.lemmas.Grind.{common_steps}
use Rattle.arrayvec.proofs.ArrayVecLemmas.{filter-from_retain}
use Rattle.connections.specs.Table.{connection_in}
use Rattle.mbim_state.specs.Transitions.{is_waiting}
use Rattle.mbim_clients.proofs.askers.Askers.waiting.Goals as goal

pub returns : goal.returns
returns c =
    filter-from_retain _ (λ name. is_waiting (connection_in name c.args.connections.now.present)) _ (λ x b f' y called. search (rules, common_steps)) _ _ c.retain.ensures.filtered
    ∙ ap (filter (λ name. is_waiting (connection_in name c.args.connections.now.present))) (c.copied-names.ensures ∙ c.self.view_is)
