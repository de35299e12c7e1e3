-- What stays the same of a core and of the hub that it is served over, from before a call to behind it.
use Rattle.std.specs.Prelude.{◌≡◌, ◌≤◌, ℕ, List}
use Rattle.many_history.specs.Events.{ManyEvent}
use Rattle.many_serving.specs.Proxy.{ManyProxy}
use Rattle.serving_loop.specs.Face.{ManyFace}
use Rattle.serving_loop.specs.Cores.{IsKnown}

-- both have the devices and the greatest name that they had, the core keeps what some proxy has to keep, and no fault of the hub is forgotten
pub record IsAsBefore {C H : Type 0} (keeps : ManyProxy → List ManyEvent → C → Type 0) (face : C → ManyFace) (faults_of greatest_of devices_of : H → ℕ) (old new : C) (before after : H) : Type 0 where
  pub known : IsKnown keeps new
  pub devices : (face new).devices ≡ (face old).devices
  pub greatest : (face new).greatest ≡ (face old).greatest
  pub later : faults_of before ≤ faults_of after
  pub names : greatest_of after ≡ greatest_of before
  pub hub : devices_of after ≡ devices_of before
