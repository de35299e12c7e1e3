use Rattle.std.proofs.Common.{List, ℕ, [], ◌∷◌, ◌++◌, map, string_bytes, refl, ap, ap₂}
use Rattle.kit_io.proofs.Growth.{Grows-append}
use Rattle.child_io.specs.Calls as child
use Rattle.modem_routes.specs.Reaching.{both, no_writer}
use Rattle.modem_routes.proofs.Stopping.{stand_behind}
use Rattle.modem_routes.proofs.reaching.start_more_pumps.Goals as goal

pub returns-in-Ok-clause-starts : goal.returns-in-Ok-clause-starts
returns-in-Ok-clause-starts g c =
    let reader = c.in_ok-start.field-0 in
    let writer = c.in-Ok.field-0 in
    let reads = map string_bytes c.deref.result.now in
    let writes = map string_bytes c.deref-2.result.now in
    record {
      starts = child.Started reads reader ∷ child.Started writes writer ∷ [];
      are = both reader writer refl
          (ap₂ (λ (r w : List (List ℕ)). child.Started r reader ∷ child.Started w writer ∷ []) (ap (map string_bytes) c.deref.ensures.value) (ap (map string_bytes) c.deref-2.ensures.value));
      grows = Grows-append c.in_ok-start.ensures.calls c.in-Ok.ensures.calls;
      stands = λ calls before. stand_behind calls (child.Started reads reader ∷ []) (child.Started writes writer ∷ []) (c.in-Ok.ensures.stands (calls ++ child.Started reads reader ∷ []) (c.in_ok-start.ensures.stands calls before));
    }

pub returns-in-Err-clause-starts : goal.returns-in-Err-clause-starts
returns-in-Err-clause-starts g c =
    let reader = c.in_ok-start.field-0 in
    let reads = map string_bytes c.deref.result.now in
    let writes = map string_bytes c.deref-2.result.now in
    record {
      starts = child.Started reads reader ∷ child.StartFailed writes ∷ [];
      are = no_writer reader refl
          (ap₂ (λ (r w : List (List ℕ)). child.Started r reader ∷ child.StartFailed w ∷ []) (ap (map string_bytes) c.deref.ensures.value) (ap (map string_bytes) c.deref-2.ensures.value));
      grows = Grows-append c.in_ok-start.ensures.calls c.in-Err.ensures.calls;
      stands = λ calls before. stand_behind calls (child.Started reads reader ∷ []) (child.StartFailed writes ∷ []) (c.in-Err.ensures.stands (calls ++ child.Started reads reader ∷ []) (c.in_ok-start.ensures.stands calls before));
    }
