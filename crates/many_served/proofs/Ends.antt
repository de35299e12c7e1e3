-- A proxy of several devices that takes memory for no event runs out before any call alone.
use Rattle.std.proofs.Common.{ℕ, List, Option, Some, None, inl, inr}
use Rattle.hub_io.specs.Record.{Since}
use Rattle.hub_io.specs.declared.settings.ServeEnd.{ServeEnd}
use Rattle.hub_io.specs.declared.settings.ServeEnd.TheVariants as end
use Rattle.hub_io.specs.declared.settings.Until.{Until}
use Rattle.many_io.specs.Record.{ManyCall}
use Rattle.many_serving.specs.Proxy.{ManyProxy}
use Rattle.many_serving.specs.Ends.{EndsFor}
use Rattle.many_served.specs.Ends.{EndsSo}

module _ (p : ManyProxy) (until : Until) (turns : ℕ) where
  ends_so : (why : ServeEnd) (calls : List ManyCall) → EndsFor (λ event. ⊥) p until turns why calls → EndsSo p until turns why calls
  ends_so end.Stopped calls ends = ends
  ends_so end.HubFault calls ends = ends
  ends_so end.TurnsSpent calls ends = ends
  ends_so end.Empty calls ends = ends
  ends_so end.Lost calls ends = ends
  ends_so end.OutOfMemory calls (inl none) = none
  ends_so end.OutOfMemory calls (inr early) = absurd early.lacking

  pub served_so : (start now : Option (List ManyCall)) (why : ServeEnd) → Since start now (EndsFor (λ event. ⊥) p until turns why) → Since start now (EndsSo p until turns why)
  served_so start None why since = tt
  served_so None (Some now) why since = absurd since
  served_so (Some start) (Some now) why since = (since.0, since.1, ends_so why since.0 since.2)
