-- Each row of a core's tables is told apart from a request in use.
use Rattle.std.proofs.Common.{List, Contains}
use Rattle.std.specs.List.{AllByRecursion}
use Rattle.proxy_history.specs.Facts.{Fact, Request}
use Rattle.proxy_history.specs.Requests.{in_use}
use Rattle.qmi_proxy.specs.Limits.{qmi_limits}
use Rattle.qmi_proxy.proofs.Apart.{IsSoundQmi, within}
use Rattle.proxy_state.specs.Requests.{requests_in_use}
use Rattle.proxy_state.proofs.Rows.{AreApart}
use Rattle.proxy_state.proofs.Apart as proxy

pub all_apart : (past : List Fact) (r : Request) → IsSoundQmi past → Contains (in_use past) r → AllByRecursion (λ a. AreApart r a.request) (requests_in_use past)
all_apart past r sound at = proxy.all_apart qmi_limits within past r sound at
