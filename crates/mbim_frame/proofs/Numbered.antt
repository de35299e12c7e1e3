-- Each kind has its own number.
use Rattle.std.proofs.Common.{◌≡◌, ℕ, Bool, true, false, eqb, List, [], ◌∷◌, Some, refl, sym, ◌∙◌, ap, cond}
use Rattle.std.proofs.lemmas.Bool.{eqb-true}
use Rattle.mbim_frame.specs.declared.kind.MessageKind.{MessageKind}
use Rattle.mbim_frame.specs.declared.kind.MessageKind.TheVariants.{Open, Close, Command, HostError, OpenDone, CloseDone, CommandDone, FunctionError, IndicateStatus}
use Rattle.mbim_frame.specs.Kinds.{kind_number, kinds, numbered_in, kind_numbered}
use Rattle.mbim_frame.specs.Laws.{KindsAreTold}

some_is : {x y : MessageKind} → Some x ≡ Some y → x ≡ y
some_is is = cc

found_has_number : (number : ℕ) (list : List MessageKind) (kind : MessageKind) → numbered_in number list ≡ Some kind → number ≡ kind_number kind
found_has_number number [] kind is = absurd (cc)
found_has_number number (first ∷ list) kind is = by (eqb (kind_number first) number) refl is (found_has_number number list kind)
  where
    by : (b : Bool) → eqb (kind_number first) number ≡ b → cond b (Some first) (numbered_in number list) ≡ Some kind
        → (numbered_in number list ≡ Some kind → number ≡ kind_number kind) → number ≡ kind_number kind
    by true same found later = sym (eqb-true (kind_number first) number same) ∙ ap kind_number (some_is found)
    by false other found later = later found

its_own : (kind : MessageKind) → kind_numbered (kind_number kind) ≡ Some kind
its_own Open = refl
its_own Close = refl
its_own Command = refl
its_own HostError = refl
its_own OpenDone = refl
its_own CloseDone = refl
its_own CommandDone = refl
its_own FunctionError = refl
its_own IndicateStatus = refl

pub kinds_are_told : KindsAreTold
kinds_are_told number kind = (λ found. found_has_number number kinds kind found, λ is. ap kind_numbered is ∙ its_own kind)
