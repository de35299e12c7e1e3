-- The clock of a protocol's proxy. Lists of facts have the newest first.
use Rattle.std.proofs.Common.{◌≡◌, ℕ, List, [], refl}
use Rattle.proxy_history.specs.Facts.{Fact, Request}
use Rattle.proxy_history.specs.Protocol.{Protocol}
use Rattle.proxy_history.specs.Adding.{IsOrderly}
use Rattle.proxy_history.specs.History.{history}
use Rattle.proxy_history.specs.Lawful.{proxy_of}
use Rattle.proxy_history.specs.Modem.{now}
use Rattle.proxy_history.proofs.Folds.{time_agrees}
use Rattle.rig_stage.specs.Stage.{KeepsTime}

module _ {Known : Type 0} (p : Protocol Known) (own : List Fact → ℕ) where
  -- only the clock sets its time
  pub proxy_keeps_time : (Asks : Request → List Fact → Type 0) → IsOrderly p Asks → KeepsTime (proxy_of p own)
  proxy_keeps_time Asks orderly event past = time_agrees p Asks orderly event past

  -- which begins at 0
  pub proxy_begins : (proxy_of p own).time [] ≡ 0
  unfolding history now
  proxy_begins = refl
