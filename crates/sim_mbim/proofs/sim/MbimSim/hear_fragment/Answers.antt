use Rattle.std.proofs.Common.{◌≡◌, List, ℕ, sym, ap, ◌∙◌}
use Rattle.mbim_fragments.specs.Runs.{Joining, Whole}
use Rattle.mbim_fragments.specs.Assembling.{joining_behind}
use Rattle.sim_mbim.specs.Modem.{Modem}
use Rattle.sim_mbim.specs.Answers.{Exchange, State}
use Rattle.sim_mbim.proofs.Outcomes.{is_whole, whole-heard}
use Rattle.sim_mbim.proofs.sim.MbimSim.hear_fragment.Goals as goal

pub returns-in_ok-hear-in-Message-clause-text : goal.returns-in_ok-hear-in-Message-clause-text
returns-in_ok-hear-in-Message-clause-text c =
    let s : State = c.args.self.now in
    let modem : c.self.inside.modem ≡ s.modem = ap (λ (s : State). s.modem) c.self.view_is in
    let begun : joining_behind 65536 c.self.inside.begun c.args.fragment.now ≡ joining_behind 65536 s.begun c.args.fragment.now = ap (λ (s : State). joining_behind 65536 s.begun c.args.fragment.now) c.self.view_is in
    let whole : joining_behind 65536 s.begun c.args.fragment.now ≡ Whole c.take.new.whole =
    sym begun ∙ is_whole (joining_behind 65536 c.self.inside.begun c.args.fragment.now) c.self.inside.body (sym c.take.ensures.told ∙ c.in-Message.is) ∙ ap Whole (sym c.take.ensures.given) in
    sym (
    ap (λ (t : Exchange). t.text) (
    whole-heard c.args.number s.modem c.self.inside.modem c.hear.new.self (joining_behind 65536 s.begun c.args.fragment.now) c.take.new.whole c.as_slice.result.now c.in_ok-hear-in-Message.field-0 whole c.as_slice.ensures.bytes modem
    c.in_ok-hear-in-Message.ensures
    )
    )

pub returns-in_ok-hear-in-Message-clause-modem : goal.returns-in_ok-hear-in-Message-clause-modem
returns-in_ok-hear-in-Message-clause-modem c =
    let s : State = c.args.self.now in
    let modem : c.self.inside.modem ≡ s.modem = ap (λ (s : State). s.modem) c.self.view_is in
    let begun : joining_behind 65536 c.self.inside.begun c.args.fragment.now ≡ joining_behind 65536 s.begun c.args.fragment.now = ap (λ (s : State). joining_behind 65536 s.begun c.args.fragment.now) c.self.view_is in
    let whole : joining_behind 65536 s.begun c.args.fragment.now ≡ Whole c.take.new.whole =
    sym begun ∙ is_whole (joining_behind 65536 c.self.inside.begun c.args.fragment.now) c.self.inside.body (sym c.take.ensures.told ∙ c.in-Message.is) ∙ ap Whole (sym c.take.ensures.given) in
    sym (
    ap (λ (t : Exchange). t.modem) (
    whole-heard c.args.number s.modem c.self.inside.modem c.hear.new.self (joining_behind 65536 s.begun c.args.fragment.now) c.take.new.whole c.as_slice.result.now c.in_ok-hear-in-Message.field-0 whole c.as_slice.ensures.bytes modem
    c.in_ok-hear-in-Message.ensures
    )
    )
