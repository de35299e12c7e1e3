use Rattle.std.proofs.Common.{◌≡◌, ◌<◌, length, slice_get, Some, sym, subst}
use Rattle.proxy_state.specs.Stands.{names_of}
use Rattle.proxy_state.proofs.Places.{name_got}
use Rattle.proxy_core.proofs.proxy.Core.conn_at.Goals as goal

pub returns : goal.returns
returns g c =
    let within = subst (λ v. c.args.index < length v.state.table.present) (sym c.self.view_is) c.requires in
    subst (λ v. slice_get (names_of v) c.args.index ≡ Some c.name_at.result) c.self.view_is (name_got c.self.inside.connections.present c.args.index c.name_at.result within c.name_at.ensures.name)
