use Rattle.std.proofs.Common.{◌≡◌, ◌∙◌, ◌∷◌, ◌⊎◌, inl, inr, false, ap, refl, sym, subst, lit<}
use Rattle.rig_stage.specs.Running.{AreRecorded}
use Rattle.device_core.specs.declared.plan.QmiPlan.{QmiPlan}
use Rattle.modem_profile.specs.Profile.{Profile, default_profile}
use Rattle.printed_ends.specs.declared.printed.Printed.{Printed}
use Rattle.qmi_requests.specs.declared.QmiRequest.{QmiRequest}
use Rattle.relays.specs.QmiLaw.{IsCommand}
use Rattle.relays.specs.QmiRuns.{direct_run, through_run}
use Rattle.printed_ends.specs.Qmi.{Prints}
use Rattle.transparency.specs.QmiTwice.{IsTold, run_of}
use Rattle.relays.specs.TunnelRuns.{tunnel_run}
use Rattle.printed_ends.specs.Carried as tunnelled
use Rattle.transparency.specs.Qmi.{PrintsCarried, PrintsThrough, plan_of}
use Rattle.transparency.proofs.qmi_trial.QmiRequestRunsTwice.run_twice.Goals as goal

-- what holds of a profile and a plan holds of those that they equal
held : (P : Profile → QmiPlan → Type 0) {profile other : Profile} {plan more : QmiPlan} → profile ≡ other → plan ≡ more → P profile plan → P other more
held P {profile = profile} {more = more} is are p = subst (λ (x : Profile). P x more) is (subst (P profile) are p)

-- the plan of a request is still its plan once it isn't proxied
planned : {plan after : QmiPlan} (asked : QmiRequest) → plan ≡ plan_of asked → after ≡ record plan { proxied = false } → after ≡ plan_of asked
planned asked made is = is ∙ ap (λ (p : QmiPlan). let unproxied : QmiPlan = record p { proxied = false } in unproxied) made

told : (asked : QmiRequest) → IsCommand asked → IsTold default_profile (plan_of asked)
told asked command = record { command = command; sound = record { mode = lit< tt; stored = refl } }

module _ {profile : Profile} {plan : QmiPlan} (asked : QmiRequest) (printed : Printed) (is : profile ≡ default_profile) (are : plan ≡ plan_of asked) where
  through_is : Prints (through_run profile plan).end printed → PrintsThrough asked printed
  through_is = held (λ profile plan. Prints (through_run profile plan).end printed) is are

  carried_is : tunnelled.Prints plan (tunnel_run profile plan).end printed → PrintsCarried asked printed
  carried_is = held (λ profile plan. tunnelled.Prints plan (tunnel_run profile plan).end printed) is are

-- what is one of two things is printed where that is
one_of : (P Q : Printed → Type 0) (one first second : Printed) → (one ≡ first) ⊎ (one ≡ second) → P first → Q second → P one ⊎ Q one
one_of P Q one first second (inl is) p q = inl (subst P (sym is) p)
one_of P Q one first second (inr is) p q = inr (subst Q (sym is) q)

pub returns-clause-direct : goal.returns-clause-direct
returns-clause-direct g c =
    let plan = planned c.args.self c.in_ok-plan.ensures c.in_ok-carried.ensures.plan in
    subst (Prints (direct_run default_profile (plan_of c.args.self)).end) (sym c.unlike.ensures.direct)
    (held (λ profile plan. Prints (direct_run profile plan).end c.in_ok-twice.twice.direct) c.requires plan c.in_ok-twice.ensures.direct)

pub returns-clause-somewhere : goal.returns-clause-somewhere
returns-clause-somewhere g c =
    let plan = planned c.args.self c.in_ok-plan.ensures c.in_ok-carried.ensures.plan in
    one_of (PrintsThrough c.args.self) (PrintsCarried c.args.self) c.unlike.result.through c.in_ok-twice.twice.through c.in_ok-carried.carried.through c.unlike.ensures.one
    (through_is c.args.self c.in_ok-twice.twice.through c.requires plan c.in_ok-twice.ensures.through)
    (carried_is c.args.self c.in_ok-carried.carried.through c.requires c.in_ok-plan.ensures c.in_ok-carried.ensures.through)

pub returns-clause-elsewhere : goal.returns-clause-elsewhere
returns-clause-elsewhere g c = λ alike.
    let both = c.unlike.ensures.alike alike in
    let plan = planned c.args.self c.in_ok-plan.ensures c.in_ok-carried.ensures.plan in (
      subst (PrintsThrough c.args.self) (sym both.0) (through_is c.args.self c.in_ok-twice.twice.through c.requires plan c.in_ok-twice.ensures.through),
      subst (PrintsCarried c.args.self) (sym both.1) (carried_is c.args.self c.in_ok-carried.carried.through c.requires c.in_ok-plan.ensures c.in_ok-carried.ensures.through),
    )

pub returns-clause-same : goal.returns-clause-same
returns-clause-same g c = λ command.
    let plan = planned c.args.self c.in_ok-plan.ensures c.in_ok-carried.ensures.plan in
    let direct = subst (λ (p : QmiPlan). Prints (direct_run c.args.profile.now p).end c.in_ok-twice.twice.direct) c.in_ok-carried.ensures.plan c.in_ok-twice.ensures.direct in
    c.unlike.ensures.same (c.in_ok-twice.ensures.same (held IsTold (sym c.requires) (sym plan) (told c.args.self command)))
    (c.in_ok-carried.ensures.alike (held IsTold (sym c.requires) (sym c.in_ok-plan.ensures) (told c.args.self command)) c.in_ok-twice.twice.direct direct)

pub returns-clause-runs : goal.returns-clause-runs
returns-clause-runs g c = λ earlier before.
    let plan = planned c.args.self c.in_ok-plan.ensures c.in_ok-carried.ensures.plan in
    held (λ profile plan. AreRecorded (g.B.Bench.runs c.qmi_twice.new.bench) (run_of profile plan ∷ earlier)) c.requires plan (c.in_ok-twice.ensures.runs earlier before)
