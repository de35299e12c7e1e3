-- Why the serving of a proxy of several devices ends that takes memory for no event. Lists of calls have the newest first.
use Rattle.std.specs.Prelude.{◌≡◌, ℕ, List, []}
use Rattle.hub_io.specs.declared.settings.ServeEnd.{ServeEnd}
use Rattle.hub_io.specs.declared.settings.ServeEnd.TheVariants as end
use Rattle.hub_io.specs.declared.settings.Until.{Until}
use Rattle.many_io.specs.Record.{ManyCall}
use Rattle.many_serving.specs.Proxy.{ManyProxy}
use Rattle.many_serving.specs.Ends.{EndsFor}

-- memory runs out before any call alone
abbrev pub EndsSo : ManyProxy → Until → ℕ → ServeEnd → List ManyCall → Type 0
EndsSo p until turns end.OutOfMemory calls = calls ≡ []
EndsSo p until turns why calls = EndsFor (λ event. ⊥) p until turns why calls
