-- A client's part of a history of the MBIM proxy. Lists of facts have the newest first.
use Rattle.std.specs.Prelude.{ℕ, List}
use Rattle.proxy_history.specs.Facts.{Fact}
use Rattle.proxy_solo.specs.Part as alone
use Rattle.mbim_proxy.specs.Step.{blank}
use Rattle.mbim_solo.specs.Solo.{restated}

abbrev pub part : ℕ → List Fact → List Fact
part c past = alone.part blank restated c past
