use Rattle.std.proofs.Common.{◌<◌, ℕ, List, length, ap, ap₂, sym, ◌∙◌, subst}
use Rattle.proxy_history.specs.View.{OpenedWith}
use Rattle.mbim_proxy.specs.Setup.{Setup}
use Rattle.mbim_state.specs.Core.{MbimState, setup_of}
use Rattle.mbim_state.specs.Transitions.{with_side, tell_each}
use Rattle.mbim_core.specs.State.{state_of}
use Rattle.mbim_core.proofs.Texts.{opening_told, next_told, none_told, fewer_left}
use Rattle.mbim_core.proofs.teller.Teller.end_opening.Goals as goal

pub loop-name-preserved : goal.loop-name-preserved
loop-name-preserved c =
    let was : MbimState = state_of c.loop-name.connections c.loop-name.side in
    record {
      told =
          λ s.
          ap₂ (tell_each s (OpenedWith c.args.status)) c.take_first.ensures.rest (c.tell_opened.ensures.told s)
          ∙ next_told s c.args.status c.in-Some.name c.loop-name.waiting was c.in-Some.ensures.first
          ∙ c.loop-name.invariant.told s;
      agrees = c.tell_opened.ensures.agrees;
    }

pub loop-name-smaller : goal.loop-name-smaller
loop-name-smaller c = subst (λ (names : List ℕ). length names < length c.loop-name.waiting) (sym c.take_first.ensures.rest) (fewer_left c.in-Some.name c.loop-name.waiting c.in-Some.ensures.first)

pub returns-clause-told : goal.returns-clause-told
returns-clause-told c =
    let s : Setup = setup_of c.args.side.now in
    let was : MbimState = state_of c.args.connections.now c.args.side.now in
    none_told s c.args.status c.loop-name.waiting (state_of c.loop-name.connections c.loop-name.side) c.in_default.ensures.first
    ∙ c.loop-name.invariant.told s
    ∙ ap (λ (names : List ℕ). tell_each s (OpenedWith c.args.status) names (with_side c.end_opening.new.self was)) c.waiting-waiting.ensures
    ∙ opening_told s c.args.status was c.end_opening.new.self c.end_opening.ensures
