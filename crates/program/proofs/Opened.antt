-- What a hub recorded of its opening.
use Rattle.std.proofs.Common.{◌≡◌, ℕ, List, [], ◌∷◌, Option, Some, Result, Ok, Err, OnErr, true, false, is_ok, refl, ap}
use Rattle.std.proofs.lemmas.List.Elements.{All-nil}
use Rattle.kit_io.proofs.Growth.{Grows-none}
use Rattle.link_io.specs.Target.{Address}
use Rattle.hub_io.specs.Record.{Call, Opened, Since, Records}
use Rattle.hub_io.proofs.Record.{since-starts, since-grows}
use Rattle.child_io.specs.Calls as child
use Rattle.kit_bytes.specs.declared.Kind.{Kind}
use Rattle.modem_routes.specs.Routes.{Place, AtOnce}
use Rattle.modem_routes.specs.Reaching.{StartsBy}
use Rattle.program.specs.Serving.{Asked, OpensHub, opened, not_opened, ServesProxy, no_memory}
use Rattle.program.specs.declared.status.Status.TheVariants as status
use Rattle.program.specs.declared.opening.OpenFault.{OpenFault}
use Rattle.program.specs.declared.opening.OpenFault.TheVariants as fault

-- no call was recorded
pub none_since : (now : Option (List Call)) → Since now now (λ calls. calls ≡ [])
none_since now = since-starts now (λ calls. calls ≡ []) refl

-- one call more was
pub one_more : (old before now : Option (List Call)) (call : Call) (earlier : List Call) → Since old before (λ calls. calls ≡ earlier) → Records before call now → Since old now (λ calls. calls ≡ call ∷ earlier)
one_more old before now call earlier since records =
    since-grows old before now call (λ calls. calls ≡ earlier) (λ calls. calls ≡ call ∷ earlier) (λ calls are. ap (λ (l : List Call). call ∷ l) are) since records

-- one call was
pub once : (old now : Option (List Call)) (call : Call) → Records old call now → Since old now (λ calls. calls ≡ call ∷ [])
once old now call records = one_more old old now call [] (none_since old) records

-- a device that is there at once was opened, or wasn't
pub opened_at_once : {socket : List ℕ} {address : Address} {old new : Option (List Call)} {spawner : Option (List child.Call)} {kept : List ℕ} (result : Result (Unit {0}) OpenFault) → OnErr result (result ≡ Err fault.Hub)
    → Records old (Opened socket (Some address) (is_ok result)) new → kept ≡ [] → StartsBy (OpensHub socket (AtOnce address) old new result) spawner kept spawner
opened_at_once {socket = socket} {address = address} {spawner = spawner} (Ok t) error records none = record {
  starts = [];
  are = record { on_hub = Opened socket (Some address) true ∷ []; are = opened refl refl refl; grows = once _ _ _ records };
  grows = Grows-none spawner;
  stands = none;
}
opened_at_once {socket = socket} {address = address} {spawner = spawner} (Err why) error records none = record {
  starts = [];
  are = record { on_hub = Opened socket (Some address) false ∷ []; are = not_opened error refl refl; grows = once _ _ _ records };
  grows = Grows-none spawner;
  stands = none;
}

-- without memory nothing was done
pub without_memory : {kind : Kind} {asked : Asked} {place : Place} (hub : Option (List Call)) (made : ℕ) (spawner : Option (List child.Call)) → ServesProxy kind asked place hub spawner status.OutOfMemory hub made spawner
without_memory hub made spawner = record {
  starts = [];
  ends = status.OutOfMemory;
  serves = no_memory (none_since hub) refl refl;
  stopped = true;
  children = record { tries = []; each = refl; all = refl; grows = Grows-none spawner; left = record { failed = All-nil _; none = λ all. refl } };
  is = refl;
}
