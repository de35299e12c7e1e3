use Rattle.std.proofs.Common.{◌≡◌, ℕ, List, [], ap, sym, ◌∙◌}
use Rattle.std.specs.Str.{chars, encode_utf8_all}
use Rattle.std.proofs.lemmas.Str.{encodes-chars}
use Rattle.proxy_history.specs.Modem.{now, is_away}
use Rattle.qmi_many_state.specs.Core.{opened_for}
use Rattle.many_cores.proofs.cores.open_one.Goals as goal

pub returns : goal.returns
unfolding now is_away
returns c =
    let path : List ℕ = chars c.args.path.now in
    let is : c.args.path.now ≡ encode_utf8_all path = sym (encodes-chars c.args.path.now c.utf8.path) in
    c.in_ok-core.ensures.opened path is ∙ ap (opened_for [] c.args.limits.now.time c.args.limits.now.release) (sym is)
