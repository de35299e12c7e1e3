-- Lists of values that are given one after another.
use Rattle.std.proofs.Common.{◌≡◌, List, [], ◌∷◌, ◌++◌, Ok, Err, refl, sym, ap, ◌∙◌, append_assoc, append-nil}
use Rattle.json_values.specs.declared.path.Step.{Step}
use Rattle.json_values.specs.declared.fault.ValueFault.{ValueFault}
use Rattle.json_values.specs.declared.fault.ValueFault.TheVariants.{Misfit, OutOfMemory}
use Rattle.json_values.specs.Paths.{Fitting, both}
use Rattle.json_values.specs.Answers.{Gives, IsUnder, LeadsTo}

abbrev pub with_first : {A : Type 0} → A → List A → List A
with_first first values = first ∷ values

abbrev pub in_front : {A : Type 0} → List A → Fitting (List A) → Fitting (List A)
in_front front (Ok more) = Ok (front ++ more)
in_front front (Err path) = Err path

in_front-one : {A : Type 0} (front : List A) (value : A) (rest : Fitting (List A)) → in_front front (both with_first (Ok value) rest) ≡ in_front (front ++ value ∷ []) rest
in_front-one front value (Ok more) = ap (λ list. Ok list) (sym (append_assoc front (value ∷ []) more))
in_front-one front value (Err path) = refl

-- a whole is these values and then what is left
abbrev pub HasGiven : {A : Type 0} → Fitting (List A) → List A → Fitting (List A) → Type 0
HasGiven whole done left = whole ≡ in_front done left

pub HasGiven-none : {A : Type 0} (whole : Fitting (List A)) → HasGiven whole [] whole
HasGiven-none (Ok more) = refl
HasGiven-none (Err path) = refl

pub HasGiven-one : {A : Type 0} (whole left behind : Fitting (List A)) (done : List A) (value : A) → HasGiven whole done left → left ≡ both with_first (Ok value) behind → HasGiven whole (done ++ value ∷ []) behind
HasGiven-one whole left behind done value has next = has ∙ ap (in_front done) next ∙ in_front-one done value behind

pub HasGiven-fault : {A : Type 0} (whole left behind : Fitting (List A)) (done : List A) (path : List Step) → HasGiven whole done left → left ≡ both with_first (Err path) behind → whole ≡ Err path
HasGiven-fault whole left behind done path has next = has ∙ ap (in_front done) next

pub HasGiven-all : {A : Type 0} (whole left : Fitting (List A)) (done : List A) → HasGiven whole done left → left ≡ Ok [] → whole ≡ Ok done
HasGiven-all whole left done has end = has ∙ ap (in_front done) end ∙ ap (λ list. Ok list) (append-nil done)

-- a fault of a part is one of the whole, a step further out
pub Gives-under : {T U A B : Type 0} (seen : T → A) (shown : U → B) (part : Fitting A) (whole : Fitting B) (step : Step) (fault outer : ValueFault)
    → Gives seen part (Err fault) → IsUnder step fault outer → ((path : List Step) → part ≡ Err path → whole ≡ Err (step ∷ path)) → Gives shown whole (Err outer)
Gives-under seen shown part whole step OutOfMemory outer gives is joined = rw is tt
Gives-under seen shown part whole step (Misfit path) OutOfMemory gives is joined = tt
Gives-under seen shown part whole step (Misfit path) (Misfit longer) gives is joined = rw is (joined path gives)

-- or one of the whole as it is
pub Gives-same : {T U A B : Type 0} (seen : T → A) (shown : U → B) (part : Fitting A) (whole : Fitting B) (fault : ValueFault)
    → Gives seen part (Err fault) → ((path : List Step) → part ≡ Err path → whole ≡ Err path) → Gives shown whole (Err fault)
Gives-same seen shown part whole OutOfMemory gives joined = tt
Gives-same seen shown part whole (Misfit path) gives joined = joined path gives

-- or one that leads to a part
pub Gives-leads : {U B : Type 0} (shown : U → B) (whole : Fitting B) (path : List Step) (fault : ValueFault) → LeadsTo path fault → whole ≡ Err path → Gives shown whole (Err fault)
Gives-leads shown whole path OutOfMemory leads is = tt
Gives-leads shown whole path (Misfit found) leads is = is ∙ ap (λ p. Err p) (sym leads)
