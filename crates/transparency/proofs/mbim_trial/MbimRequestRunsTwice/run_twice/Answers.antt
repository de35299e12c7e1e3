use Rattle.std.proofs.Common.{◌≡◌}
use Rattle.relays.specs.MbimRuns.{direct_run, through_run}
use Rattle.mbim_session.specs.declared.plan.MbimPlan.{MbimPlan}
use Rattle.printed_ends.specs.Mbim.{Prints}
use Rattle.modem_profile.specs.Profile.{Profile, default_profile}
use Rattle.transparency.specs.Mbim.{plan_of}
use Rattle.transparency.proofs.mbim_trial.MbimRequestRunsTwice.run_twice.Goals as goal

-- what holds of one value holds of one that equals it
held : {A : Type 0} (P : A → Type 0) (x y : A) → x ≡ y → P x → P y
held P x y same p = rw same at p

pub returns-clause-direct : goal.returns-clause-direct
returns-clause-direct g c =
    held (λ (plan : MbimPlan). Prints (direct_run default_profile plan).end c.in_ok-twice.twice.direct) c.in_ok-plan.plan (plan_of c.args.self) c.in_ok-plan.ensures
    (held (λ (profile : Profile). Prints (direct_run profile c.in_ok-plan.plan).end c.in_ok-twice.twice.direct) c.args.profile.now default_profile c.requires c.in_ok-twice.ensures.direct)

pub returns-clause-somewhere : goal.returns-clause-somewhere
returns-clause-somewhere g c =
    held (λ (plan : MbimPlan). Prints (through_run default_profile plan).end c.in_ok-twice.twice.through) c.in_ok-plan.plan (plan_of c.args.self) c.in_ok-plan.ensures
    (held (λ (profile : Profile). Prints (through_run profile c.in_ok-plan.plan).end c.in_ok-twice.twice.through) c.args.profile.now default_profile c.requires c.in_ok-twice.ensures.through)

pub returns-clause-elsewhere : goal.returns-clause-elsewhere
returns-clause-elsewhere g c = λ same. returns-clause-somewhere g c
