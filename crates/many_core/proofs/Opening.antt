-- A core of several QMI devices that was just opened.
use Rattle.std.proofs.Common.{◌≡◌, ℕ, ◌<◌, List, [], ◌∷◌, length, map, refl, ap, sym, ◌∙◌, subst, arith, Option}
use Rattle.std.specs.List.{AllByRecursion}
use Rattle.qmi_state.specs.Core.{QmiCore}
use Rattle.many_history.specs.Many.{Seat}
use Rattle.qmi_many_state.specs.Core.{QmiMany, Stands, opened_for, nobody}
use Rattle.qmi_many_state.proofs.Cores.{keeps_standing}
use Rattle.many_core.proofs.Greatest.{greatest_of}

pub mapped_twice : {X Y Z : Type 0} (f : Y → Z) (g : X → Y) (xs : List X) → map f (map g xs) ≡ map (λ x. f (g x)) xs
mapped_twice f g [] = refl
mapped_twice f g (x ∷ xs) = ap (λ l. f (g x) ∷ l) (mapped_twice f g xs)

-- no device has given a name yet
pub no_names_yet : {X : Type 0} (open_one : X → QmiCore) → ((x : X) → greatest_of (open_one x) ≡ 0) → (names : List ℕ) (xs : List X) → AllByRecursion (λ n. n ≡ 0) names → length names ≡ length xs → names ≡ map greatest_of (map open_one xs)
no_names_yet open_one none [] [] all same = refl
no_names_yet open_one none [] (x ∷ xs) all same = absurd (omega (arith, same))
no_names_yet open_one none (n ∷ names) [] all same = absurd (omega (arith, same))
no_names_yet open_one none (n ∷ names) (x ∷ xs) all same =
    ap (λ (m : ℕ). m ∷ names) (all.0 ∙ sym (none x)) ∙ ap (λ (l : List ℕ). greatest_of (open_one x) ∷ l) (no_names_yet open_one none names xs all.1 (omega (arith, same)))

abbrev pub several : List QmiCore → (seats dropped : List Seat) → ℕ → QmiMany
several cores seats dropped greatest = record { cores = cores; seats = seats; dropped = dropped; greatest = greatest }

pub opened_stands : (paths : List (List ℕ)) (time : ℕ) (release : Option ℕ) → 0 < length paths → (cores : List QmiCore) (seats dropped : List Seat) (greatest : ℕ)
    → cores ≡ map (opened_for paths time release) paths → seats ≡ [] → dropped ≡ [] → greatest ≡ 0 → Stands paths time release [] (several cores seats dropped greatest)
opened_stands paths time release some cores seats dropped greatest c s d g =
    let all : List QmiCore = map (opened_for paths time release) paths in
    subst (λ (k : QmiMany). Stands paths time release [] k)
    (sym (ap (λ (l : List QmiCore). several l seats dropped greatest) c ∙ ap (λ (l : List Seat). several all l dropped greatest) s ∙ ap (λ (l : List Seat). several all [] l greatest) d ∙ ap (λ (n : ℕ). several all [] [] n) g))
    (keeps_standing paths time release some).opened
