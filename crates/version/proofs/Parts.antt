-- Texts that are printed one after another, up to a write that failed.
use Rattle.std.proofs.Common.{List, ◌++◌, Option, sym, ◌∙◌, ap, append_assoc}
use Rattle.kit_io.specs.Growth.{Grows, GrowsByFront}
use Rattle.kit_io.proofs.Growth.{Grows-append}

-- the first of them failed
pub front-first : {A : Type 0} {old new : Option (List A)} {first : List A} (more : List A) → GrowsByFront old first new → GrowsByFront old (first ++ more) new
front-first more (rest, to) = (
  rest ++ more,
  record { front = to.front; whole = ap (λ l. l ++ more) to.whole ∙ append_assoc to.front rest more; grows = to.grows },
)

-- a later one did
pub front-later : {A : Type 0} {old mid new : Option (List A)} {first more : List A} → Grows old first mid → GrowsByFront mid more new → GrowsByFront old (first ++ more) new
front-later {first = first} so_far (rest, to) = (
  rest,
  record { front = first ++ to.front; whole = ap (λ l. first ++ l) to.whole ∙ sym (append_assoc first to.front rest); grows = Grows-append so_far to.grows },
)
