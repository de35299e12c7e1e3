-- The pairs of events, and the events of pairs.
use Rattle.std.proofs.Common.{◌≡◌, ◌<◌, ◌≤◌, ℕ, nat_lt, if◌then◌else◌, Bool, true, false, ◌==◌, List, [], ◌∷◌, ◌++◌, length, take, drop, map, Some, None, option_and_then, refl, sym, ap, ◌∙◌, arith, append_assoc, append-nil, length-append}
use Rattle.std.proofs.lemmas.Bool.Decides.{nat_tests}
use Rattle.kit_bytes.specs.Subscriptions.{Pair, by_service}
use Rattle.mbim_fields.specs.Value.{Value}
use Rattle.mbim_services.specs.SubscribeLists.{list_of_buffer, subscription_value}
use Rattle.mbim_services.specs.Writing.{subscription_in}
use Rattle.mbim_services.proofs.Runs.{IsRun}
use Rattle.subscriptions.specs.declared.pair_list.TheConstants.{LONGEST_LIST}
use Rattle.sim_mbim.specs.BasicConnect.{if_few, list_taken}

-- ---- reading ----

if_few-all : (pairs : List Pair) (many : Bool) → many ≡ false → (if many then None else Some pairs) ≡ Some pairs
if_few-all pairs true few = absurd (cc)
if_few-all pairs false few = refl

if_few-none : (pairs : List Pair) (many : Bool) → many ≡ true → (if many then None else Some pairs) ≡ None
if_few-none pairs true many = refl
if_few-none pairs false many = absurd (cc)

-- where nothing is left and no more were read than a list may have, all were read
pub taken_is : (buffer : List ℕ) (all pairs left : List Pair) → list_of_buffer buffer ≡ Some all → pairs ++ left ≡ all → left ≡ [] → length pairs ≤ 1920 → list_taken buffer ≡ Some pairs
taken_is buffer all pairs left spelled so_far none few =
    let same : all ≡ pairs = sym so_far ∙ ap (λ l. pairs ++ l) none ∙ append-nil pairs in
    ap (option_and_then if_few) (spelled ∙ ap Some same) ∙ if_few-all pairs (nat_lt LONGEST_LIST (length pairs)) (grind (arith, nat_tests, few))

-- where one comes behind as many as a list may have, none is taken
pub not_taken : (buffer : List ℕ) (all pairs left rest : List Pair) (pair : Pair) → list_of_buffer buffer ≡ Some all → pairs ++ left ≡ all → left ≡ pair ∷ rest → length pairs ≡ 1920 → list_taken buffer ≡ None
not_taken buffer all pairs left rest pair spelled so_far more full =
    let same : all ≡ pairs ++ pair ∷ rest = sym so_far ∙ ap (λ l. pairs ++ l) more in
    let many : 1920 < length all = omega (arith, ap length same, length-append pairs (pair ∷ rest), full) in
    ap (option_and_then if_few) spelled ∙ if_few-none all (nat_lt LONGEST_LIST (length all)) (grind (arith, nat_tests, many))

-- ---- writing ----

pub events-more : (front new : List Value) (whole : List Value) (left run behind : List Pair) (count : ℕ) (event : Value) → IsRun left count → run ≡ take count left → behind ≡ drop count left
    → event ≡ subscription_value (subscription_in run) → new ≡ front ++ event ∷ [] → front ++ map subscription_value (by_service left) ≡ whole → new ++ map subscription_value (by_service behind) ≡ whole
events-more front new whole left run behind count event first run_is behind_is is pushed so_far =
    let parts : by_service left ≡ subscription_in run ∷ by_service behind = rw (run_is, behind_is) first.is in
    ap (λ l. l ++ map subscription_value (by_service behind)) (pushed ∙ ap (λ e. front ++ e ∷ []) is)
    ∙ append_assoc front (subscription_value (subscription_in run) ∷ []) (map subscription_value (by_service behind))
    ∙ ap (λ l. front ++ map subscription_value l) (sym parts)
    ∙ so_far

empty_is : (left : List Pair) → (length left == 0) ≡ true → left ≡ []
empty_is [] none = refl
empty_is (x ∷ xs) none =
    let zero : length (x ∷ xs) ≡ 0 = grind (arith, nat_tests, none) in
    absurd (omega (arith, zero))

pub all_events : (made whole : List Value) (left : List Pair) (empty : Bool) → empty ≡ (length left == 0) → empty ≡ true → made ++ map subscription_value (by_service left) ≡ whole → made ≡ whole
all_events made whole left empty is none so_far =
    sym (append-nil made) ∙ ap (λ l. made ++ map subscription_value (by_service l)) (sym (empty_is left (sym is ∙ none))) ∙ so_far
