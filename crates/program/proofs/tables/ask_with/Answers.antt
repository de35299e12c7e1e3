use Rattle.std.proofs.Common.{◌≡◌, ℕ, List, ap, ◌∙◌, subst}
use Rattle.kit_io.specs.Counts.{together}
use Rattle.table_requests.specs.Plan.{Plan}
use Rattle.tool_words.specs.declared.link.LinkSettings.{LinkSettings}
use Rattle.tool_runs.specs.Asking as asking
use Rattle.tool_runs.specs.Tables.{asked_by_tables}
use Rattle.program.specs.Tables.{table_plan}
use Rattle.program.specs.Routes.{Asks, route_to}
use Rattle.program.proofs.tables.ask_with.Goals as goal

-- the plan is what the words and the file say
pub returns-clause-asks : goal.returns-clause-asks
returns-clause-asks g c =
    let before : asking.Told = record { link = g.L.Link.calls c.args.link.now; spawner = g.P.Spawner.calls c.args.spawner.now; out = g.O.Sink.taken c.args.out.now; made = together (g.L.Link.made c.args.link.now) (g.O.Sink.made c.args.out.now) } in
    let after : asking.Told = record { link = g.L.Link.calls c.ask_device-status.new.link; spawner = g.P.Spawner.calls c.ask_device-status.new.spawner; out = g.O.Sink.taken c.ask_device-status.new.out; made = together (g.L.Link.made c.ask_device-status.new.link) (g.O.Sink.made c.ask_device-status.new.out) } in
    let plan_is : c.plan_of-settings.result.1 ≡ table_plan c.args.task c.args.asked = c.plan_of-settings.ensures.plan in
    let device_is : c.session.result.now.device ≡ c.args.task.device = ap (λ s. s.device) (c.session.ensures.same ∙ ap (λ (p : Plan). p.session) plan_is) in
    subst (λ (l : LinkSettings). Asks (route_to c.args.task.device l) (asked_by_tables (table_plan c.args.task c.args.asked)) before after c.ask_device-status.result) c.plan_of-settings.ensures.settings
    (subst (λ (d : List ℕ). Asks (route_to d c.plan_of-settings.result.0) (asked_by_tables (table_plan c.args.task c.args.asked)) before after c.ask_device-status.result) device_is
    (subst (λ (p : Plan). Asks (route_to c.session.result.now.device c.plan_of-settings.result.0) (asked_by_tables p) before after c.ask_device-status.result) plan_is c.ask_device-status.ensures.asks))
