-- A core refuses the requests of a space whose time has come, as its history does: each where it still waits when its turn comes.
use Rattle.std.proofs.Common.{◌≡◌, ℕ, zero, suc, ◌≤◌, Bool, cond, List, ◌∷◌, length, filter, find, ap, sym, ◌∙◌, subst, arith, Contains, Some, None, true, false}
use Rattle.proxy_history.specs.Facts.{Fact, Request}
use Rattle.proxy_history.specs.Requests.{pending, is_pending, has_request}
use Rattle.proxy_history.specs.Noting.{each_pending}
use Rattle.number_space.specs.Table.{is_due, first_due}
use Rattle.number_space.specs.declared.space.Row as space_rows
use Rattle.proxy_state.specs.Requests.{RequestInUse, requests_in_use}
use Rattle.proxy_state.specs.Requests as requests
use Rattle.proxy_state.proofs.InUse.{waiting, pending_is, AreDifferent, distinct_waiting, waits_flag}
use Rattle.proxy_state.proofs.Filters.{AreDistinct, filter_shorter}
use Rattle.proxy_state.proofs.Expiring.{due_in, FirstDue, NoneDue, IsFirst, IsNone, due_of, few_due, Shrinks, due_later, each_waiting, each_none, each_first}

module _ {N X : Type 0} (note : List ℕ → N) (space time : ℕ) (act : Request → List Fact → List Fact)
    (shrinks : (r : Request) (past : List Fact) → Shrinks past (act r past)) (gone : (r : Request) (past : List Fact) → is_pending r (act r past) ≡ false)
    (IsKept : List Fact → X → Type 0) (rows : X → List (space_rows.Row N)) (refuse : space_rows.Row N → X → X) (expire : ℕ → X → X) where
  abbrev Row : Type 0
  Row = space_rows.Row N

  -- what a core owes for that
  pub record Refuses : Type 0 where
    pub rows_are : (past : List Fact) (x : X) → IsKept past x → rows x ≡ requests.rows_of note space (requests_in_use past)
    pub different : (past : List Fact) (x : X) → IsKept past x → AreDifferent (requests_in_use past)
    pub refused : (past : List Fact) (x : X) (a : RequestInUse) → Contains (requests_in_use past) a → a.waits ≡ true → a.request.space ≡ space → IsKept past x → IsKept (act a.request past) (refuse (requests.row_of note a) x)
    -- what it does so many times
    pub stops : (count : ℕ) (x : X) → first_due time (rows x) ≡ None → expire count x ≡ x
    pub goes_on : (count : ℕ) (x : X) (row : Row) → first_due time (rows x) ≡ Some row → expire (suc count) x ≡ expire count (refuse row x)

  module _ (R : Refuses) where
    abbrev goes : List Request → List Fact → List Fact
    goes requests past = each_pending act requests past

    abbrev due_at : List Fact → List Request
    due_at past = due_in space time (pending past)

    due_asks : (past : List Fact) → due_at past ≡ due_in space time (waiting (requests_in_use past))
    due_asks past = ap (due_in space time) (pending_is past)

    first_is : (past : List Fact) (x : X) → IsKept past x → first_due time (rows x) ≡ find (is_due time) (requests.rows_of note space (requests_in_use past))
    first_is past x K = ap (find (is_due time)) (R.rows_are past x K)

    distinct : (past : List Fact) (x : X) → IsKept past x → AreDistinct (pending past)
    distinct past x K = subst AreDistinct (sym (pending_is past)) (distinct_waiting (requests_in_use past) (R.different past x K))

    -- what is left to be refused is what is due then
    rest_is : (past : List Fact) (x : X) (r : Request) (rest : List Request) → IsKept past x → due_at past ≡ r ∷ rest → filter (λ q. is_pending q (act r past)) rest ≡ due_at (act r past)
    rest_is past x r rest K is =
        let after : List Fact = act r past in
        let later : due_at after ≡ filter (λ (q : Request). is_pending q after) (r ∷ rest) =
        due_later space time past after (distinct past x K) (shrinks r past) ∙ ap (filter (λ (q : Request). is_pending q after)) is
        in
        sym (later ∙ ap (λ (b : Bool). cond b (r ∷ filter (λ (q : Request). is_pending q after) rest) (filter (λ (q : Request). is_pending q after) rest)) (gone r past))

    none_left : (count : ℕ) (past : List Fact) (x : X) → IsKept past x → NoneDue note space time (requests_in_use past) → IsKept (goes (due_at past) past) (expire count x)
    none_left count past x K none =
        subst (λ (l : List Fact). IsKept l (expire count x)) (sym (ap (λ (l : List Request). goes l past) (due_asks past ∙ none.due) ∙ each_none act shrinks past))
        (subst (IsKept past) (sym (R.stops count x (first_is past x K ∙ none.row))) K)

    first_left : (count : ℕ) → ((past : List Fact) (x : X) → length (due_at past) ≤ count → IsKept past x → IsKept (goes (due_at past) past) (expire count x))
        → (past : List Fact) (x : X) → length (due_at past) ≤ suc count → IsKept past x → (a : RequestInUse) → FirstDue note space time (requests_in_use past) a → IsKept (goes (due_at past) past) (expire (suc count) x)
    first_left count further past x few K a F =
        let r : Request = a.request in
        let after : List Fact = act r past in
        let is : due_at past ≡ r ∷ F.rest = due_asks past ∙ F.due in
        let fewer : length (r ∷ F.rest) ≤ suc count = subst (λ (l : List Request). length l ≤ suc count) is few in
        let left = rest_is past x r F.rest K is in
        let less : length (due_at after) ≤ count =
        (let shorter = filter_shorter (λ (q : Request). is_pending q after) F.rest in
        let same : length (filter (λ (q : Request). is_pending q after) F.rest) ≡ length (due_at after) = ap length left in
        omega arith)
        in
        let waits : is_pending r past ≡ true = ap (has_request r) (pending_is past) ∙ waits_flag (requests_in_use past) a (R.different past x K) F.at ∙ F.waits in
        subst (λ (l : List Fact). IsKept l (expire (suc count) x))
        (sym (ap (λ (l : List Request). goes l past) is ∙ each_first act shrinks r F.rest past waits ∙ each_waiting act shrinks F.rest after ∙ ap (λ (l : List Request). goes l after) left))
        (subst (IsKept (goes (due_at after) after)) (sym (R.goes_on count x (requests.row_of note a) (first_is past x K ∙ F.row)))
        (further after (refuse (requests.row_of note a) x) less (R.refused past x a F.at F.waits F.placed K)))

    none_first : (past : List Fact) (x : X) → length (due_at past) ≤ 0 → (a : RequestInUse) → FirstDue note space time (requests_in_use past) a → IsKept (goes (due_at past) past) (expire 0 x)
    none_first past x few a F =
        let is : due_at past ≡ a.request ∷ F.rest = due_asks past ∙ F.due in
        let none : length (a.request ∷ F.rest) ≤ 0 = subst (λ (l : List Request). length l ≤ 0) is few in
        absurd (omega arith)

    kept_for : (count : ℕ) (past : List Fact) (x : X) → length (due_at past) ≤ count → IsKept past x → IsKept (goes (due_at past) past) (expire count x)
    kept_for zero past x few K =
        elim (due_of note space time (requests_in_use past)) as (λ d. IsKept (goes (due_at past) past) (expire 0 x)) [
          | IsNone none ↦ none_left 0 past x K none
          | IsFirst a F ↦ none_first past x few a F
        ]
    kept_for (suc count) past x few K =
        elim (due_of note space time (requests_in_use past)) as (λ d. IsKept (goes (due_at past) past) (expire (suc count) x)) [
          | IsNone none ↦ none_left (suc count) past x K none
          | IsFirst a F ↦ first_left count (kept_for count) past x few K a F
        ]

    -- as often as it has rows
    pub kept_expired : (past : List Fact) (x : X) → IsKept past x → IsKept (goes (due_at past) past) (expire (length (rows x)) x)
    kept_expired past x K =
        kept_for (length (rows x)) past x
        (subst (λ (l : List Request). length l ≤ length (rows x)) (sym (due_asks past))
        (subst (λ (l : List Row). length (due_in space time (waiting (requests_in_use past))) ≤ length l) (sym (R.rows_are past x K)) (few_due note space time (requests_in_use past)))) K
