use Rattle.std.proofs.Common.{ℕ, ap, ap₂, sym, ◌∙◌}
use Rattle.holders.specs.Kept.{Ids, kept_without}
use Rattle.qmi_state.specs.Traffic.{Traffic}
use Rattle.qmi_core.proofs.Granted.{adopts_held}
use Rattle.qmi_core.proofs.traffic.Traffic.adopt.Goals as goal

pub returns-then-is_some : goal.returns-then-is_some
returns-then-is_some c =
    ap (λ (ids : Ids). let t : Traffic = record { control = c.self.inside.control; services = c.self.inside.services; held = ids.held; kept = ids.kept; waiting = c.self.inside.outbox.bytes } in t) c.used.ensures.ids
    ∙ ap (λ (t : Traffic). record t { kept = kept_without c.used_service-service.result c.used_cid-cid.result t.kept }) c.self.view_is
    ∙ ap₂ (λ (s i : ℕ). record c.args.self.now { kept = kept_without s i c.args.self.now.kept }) c.used_service-service.ensures c.used_cid-cid.ensures
    ∙ adopts_held c.args.name c.args.message.now c.args.self.now c.args.holder (sym c.is_some.ensures ∙ c.if-is_some.true) c.requires.holder c.requires.free c.requires.ordered (sym c.uses_id.ensures ∙ c.if-not-uses_id.false)
