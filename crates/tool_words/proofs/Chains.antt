-- Values that are read one after another.
use Rattle.std.proofs.Common.{◌≡◌, Option, Some, Err, ap, subst, sym}
use Rattle.std.specs.Prelude.{option_and_then}
use Rattle.tool_words.specs.Values.{Gives}
use Rattle.tool_words.specs.declared.fault.WordFault.{WordFault}
use Rattle.tool_words.specs.declared.fault.WordFault.TheVariants as fault

-- where the first doesn't read, all of them don't
pub first_fails : {A B : Type 0} (first : Option A) (rest : A → Option B) (why : WordFault) → Gives first (Err why) → Gives (option_and_then rest first) (Err why)
first_fails first rest (fault.Usage kind) fails = (ap (option_and_then rest) fails.0, fails.1)
first_fails first rest fault.OutOfMemory fails = tt

-- where it reads, the rest decides
pub later_fails : {A B : Type 0} (first : Option A) (rest : A → Option B) (value : A) (why : WordFault) → first ≡ Some value → Gives (rest value) (Err why) → Gives (option_and_then rest first) (Err why)
later_fails first rest value why reads fails = subst (λ (o : Option _). Gives (option_and_then rest o) (Err why)) (sym reads) fails
