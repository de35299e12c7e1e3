use Rattle.std.proofs.Common.{◌≡◌, ap, ◌∙◌, inl, inr, refl, subst}
use Rattle.kit_io.specs.Counts.{together}
use Rattle.kit_io.proofs.Growth.{Grows-none}
use Rattle.modem_routes.specs.Routes.{Path}
use Rattle.table_requests.specs.Plan.{Plan}
use Rattle.table_following.specs.Plan as following
use Rattle.tool_runs.specs.Asking as asking
use Rattle.program.specs.Tables.{follow_plan}
use Rattle.program.specs.Routes.{Follows, route_to}
use Rattle.program.proofs.Told.{fails_behind}
use Rattle.program.proofs.tables.follow_with.Goals as goal

-- the plan is what the words and the file say
pub returns-clause-follows : goal.returns-clause-follows
returns-clause-follows g c =
    let before : asking.Told = record { link = g.L.Link.calls c.watch_if.new.link; spawner = g.P.Spawner.calls c.args.spawner.now; out = g.O.Sink.taken c.args.out.now; made = together (g.L.Link.made c.watch_if.new.link) (g.O.Sink.made c.args.out.now) } in
    let after : asking.Told = record { link = g.L.Link.calls c.follow_on-status.new.link; spawner = g.P.Spawner.calls c.follow_on-status.new.spawner; out = g.O.Sink.taken c.follow_on-status.new.out; made = together (g.L.Link.made c.follow_on-status.new.link) (g.O.Sink.made c.follow_on-status.new.out) } in
    let plan_with : Plan → following.Plan = λ p. record { request = p; indications = c.args.following.told.items; turns = c.args.following.turns } in
    let plan_is : c.new-plan.result ≡ follow_plan c.args.following.task c.args.following.asked c.args.following.told.items c.args.following.turns = c.new-plan.ensures ∙ ap plan_with c.plan_of-settings.ensures.plan in
    rw (← c.watch_if.ensures.calls, ← c.watch_if.ensures.made)
    (subst (λ (p : following.Plan). Follows (route_to c.args.following.task.device c.args.following.task.link) p before after c.follow_on-status.result) plan_is
    (subst (λ (path : Path). Follows path c.new-plan.result before after c.follow_on-status.result) c.in-Ok.ensures (inl c.follow_on-status.ensures.follows)))

pub returns-clause-link_fault : goal.returns-clause-link_fault
returns-clause-link_fault g c = λ e. rw (← c.in-Ok.ensures) (fails_behind _ _ _ _ _ _ c.watch_if.ensures.faults c.watch_if.ensures.open_faults (c.follow_on-status.ensures.link_fault e))

-- or no memory was there for the way
pub returns-in_default-clause-follows : goal.returns-in_default-clause-follows
returns-in_default-clause-follows g c = inr (refl, (rw c.watch_if.ensures.calls (Grows-none _), Grows-none _, Grows-none _))
