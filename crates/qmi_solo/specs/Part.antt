-- A client's part of a history of the QMI proxy. Lists of facts have the newest first.
use Rattle.std.specs.Prelude.{ℕ, List, [], ◌∷◌}
use Rattle.proxy_history.specs.Facts.{Fact}
use Rattle.proxy_solo.specs.Part as alone
use Rattle.qmi_proxy.specs.Text.{blank}

abbrev pub part : ℕ → List Fact → List Fact
part c past = alone.part blank (λ fact. fact ∷ []) c past
