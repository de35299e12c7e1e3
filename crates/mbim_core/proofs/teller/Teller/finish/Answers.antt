use Rattle.std.proofs.Common.{List, ap, sym, ◌∙◌}
use Rattle.kit_bytes.specs.Subscriptions.{Pair}
use Rattle.subscriptions.specs.Clients.{merged}
use Rattle.mbim_proxy.proofs.SameLists.{same_list_is}
use Rattle.mbim_state.specs.Core.{setup_of}
use Rattle.mbim_state.specs.Transitions.{send_list}
use Rattle.mbim_core.specs.State.{state_of}
use Rattle.mbim_core.proofs.Asked.{asked_for}
use Rattle.mbim_core.proofs.Subscribed.{merged_is}
use Rattle.mbim_core.proofs.teller.Teller.finish.Goals as goal

pub returns-then-self-clause-told : goal.returns-then-self-clause-told
returns-then-self-clause-told c =
    sym (asked_for (setup_of c.args.side.now) (state_of c.args.connections.now c.args.side.now) (sym (merged_is c.args.connections.now.present) ∙ sym (ap merged c.requires.subscribed) ∙ c.requires.asked c.if-self.true))

pub returns : goal.returns
returns c = record {
  told =
      ap (state_of c.args.connections.now)
      (c.send_list-self.ensures.side
      ∙ ap (λ (list : List Pair). send_list (setup_of c.args.side.now) list c.args.side.now) (c.merged_list.ensures ∙ ap merged c.requires.subscribed ∙ merged_is c.args.connections.now.present));
  agrees = record {
    limit = c.requires.limit;
    subscribed = c.requires.subscribed;
    asked = λ is. sym c.merged_list.ensures ∙ same_list_is c.merged_list.result.now c.send_list-self.new.self.last_list (sym c.send_list-self.ensures.asked ∙ is);
  };
}
