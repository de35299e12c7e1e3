-- What each fact makes of the numbers in use, the number that comes next, and whether the proxy itself waits.
use Rattle.std.proofs.Common.{◌≡◌, ℕ, ◌≤◌, Bool, true, false, not, cond, ◌&&◌, ◌||◌, ◌==◌, List, [], ◌∷◌, ◌++◌, map, filter, refl, ap, sym, ◌∙◌, subst, Contains, Some, if◌then◌else◌}
use Rattle.std.specs.List.{AllByRecursion, list_any}
use Rattle.std.proofs.lemmas.Bool.{eq-eqb}
use Rattle.std.proofs.lemmas.List.Elements.{All-contains, All-from_recursion}
use Rattle.kit_bytes.proofs.Lists.{all_filter, all_push}
use Rattle.kit_bytes.proofs.Lists as lists
use Rattle.proxy_history.specs.Facts.{Fact, Request, Why, Ended, Forwarded, Answered, IdHeld, Late, Expired, Aborted, Reset, ModemLost}
use Rattle.proxy_history.specs.Connections.{present, contains}
use Rattle.proxy_history.specs.Requests.{in_use, pending, last_number, number_after}
use Rattle.proxy_history.specs.Requests as requests
use Rattle.proxy_history.specs.Sound.{IsSound}
use Rattle.proxy_history.specs.Adding.{AreAsked}
use Rattle.number_space.specs.declared.space.Row.{Row}
use Rattle.number_space.specs.Table.{next_number, gives_number, answers, orphans, resets}
use Rattle.proxy_state.specs.Requests.{RequestInUse, requests_in_use, row_of, rows_of}
use Rattle.proxy_state.proofs.InUse.{request_in, waits_in, in_use_is, pending_is, numbers_used, all_map}
use Rattle.proxy_state.proofs.Rows.{AreApart, rows_more, rows_freed, rows_silenced, rows_orphaned}
use Rattle.proxy_state.proofs.Apart.{all_apart}
use Rattle.proxy_state.proofs.Strangers.{requests_of_stranger}
use Rattle.mbim_proxy.specs.Setup.{Setup, the_space}
use Rattle.mbim_proxy.specs.ModemStates.{is_own}
use Rattle.mbim_proxy.specs.Asked.{IsAsked}
use Rattle.mbim_proxy.specs.History.{mbim_protocol}
use Rattle.mbim_proxy.proofs.Walk.{Asks}
use Rattle.mbim_state.specs.Asked.{Asked, asked_of}
use Rattle.mbim_state.specs.Core.{Numbers, silences, numbers_of, HasNumbers}
use Rattle.mbim_state.proofs.Regular.{Regular}

abbrev Rows : Type 0
Rows = List (Row Asked)

abbrev pub IsPlaced : Request → Type 0
IsPlaced r = r.space ≡ the_space

module _ (s : Setup) where
  -- what each request has that is asked, those in use have
  module _ (P : Request → Type 0) (has : (r : Request) (past : List Fact) → IsAsked s r past → P r) where
    pub asked_in_use : (past : List Fact) → AreAsked (mbim_protocol s) (Asks s) past → AllByRecursion P (in_use past)
    unfolding in_use
    asked_in_use [] asked = tt
    asked_in_use (Forwarded r ∷ past) asked = all_push P (in_use past) r (asked_in_use past asked.1) (has r past asked.0.1)
    asked_in_use (Answered r m ∷ past) asked = all_filter P (λ (q : Request). not (r.serial == q.serial)) (in_use past) (asked_in_use past asked.1)
    asked_in_use (IdHeld r ∷ past) asked = all_filter P (λ (q : Request). not (r.serial == q.serial)) (in_use past) (asked_in_use past asked.1)
    asked_in_use (Late r ∷ past) asked = all_filter P (λ (q : Request). not (r.serial == q.serial)) (in_use past) (asked_in_use past asked.1)
    asked_in_use (Reset ∷ past) asked = tt
    asked_in_use (ModemLost ∷ past) asked = tt
    asked_in_use (_ ∷ past) asked = asked_in_use past asked.1

    -- and those of them that wait
    pub asked_pending : (past : List Fact) → AreAsked (mbim_protocol s) (Asks s) past → AllByRecursion P (pending past)
    asked_pending past asked =
        subst (AllByRecursion P) (sym (pending_is past))
        (lists.all_map P request_in (filter waits_in (requests_in_use past))
        (all_filter (λ (a : RequestInUse). P a.request) waits_in (requests_in_use past) (all_map P request_in (requests_in_use past) (subst (AllByRecursion P) (in_use_is past) (asked_in_use past asked)))))

  -- all requests are in the one space
  placed_in_use : (past : List Fact) → AreAsked (mbim_protocol s) (Asks s) past → AllByRecursion IsPlaced (in_use past)
  placed_in_use past asked = asked_in_use IsPlaced (λ r before is. is.space) past asked

  pub all_placed : (past : List Fact) → Regular s past → AllByRecursion (λ (a : RequestInUse). IsPlaced a.request) (requests_in_use past)
  all_placed past R = all_map IsPlaced request_in (requests_in_use past) (subst (AllByRecursion IsPlaced) (in_use_is past) (placed_in_use past R.asked))

  rows_in : (list : List RequestInUse) → AllByRecursion (λ (a : RequestInUse). IsPlaced a.request) list → rows_of asked_of the_space list ≡ map (row_of asked_of) list
  rows_in [] all = refl
  rows_in (a ∷ list) all =
      let rest : List RequestInUse = filter (λ (a : RequestInUse). a.request.space == the_space) list in
      ap (λ (b : Bool). map (row_of asked_of) (cond b (a ∷ rest) rest)) (eq-eqb a.request.space the_space all.0) ∙ ap (λ (l : Rows). row_of asked_of a ∷ l) (rows_in list all.1)

  pub rows_are : (past : List Fact) → Regular s past → (numbers_of s past).rows ≡ map (row_of asked_of) (requests_in_use past)
  rows_are past R = rows_in (requests_in_use past) (all_placed past R)

  -- ---- facts ----

  abbrev with_rows : List Fact → Rows → Numbers
  with_rows past rows = record (numbers_of s past) { rows = rows }

  pub numbers_forwarded : (past : List Fact) (r : Request) → IsPlaced r → numbers_of s (Forwarded r ∷ past) ≡ gives_number (Some r.number) r.conn (asked_of r.message) r.deadline (numbers_of s past)
  unfolding requests_in_use last_number
  numbers_forwarded past r placed =
      let in_it : (r.space == the_space) ≡ true = eq-eqb r.space the_space placed in
      let last : Bool → ℕ = λ (b : Bool). if b then r.number else last_number the_space past in
      let sent : RequestInUse = record { request = r; waits = true } in
      ap (λ (rows : Rows). let n : Numbers = record (with_rows past rows) { last = last (r.space == the_space) } in n) (rows_more asked_of the_space (requests_in_use past) sent true in_it)
      ∙ ap (λ (b : Bool). let n : Numbers = record (with_rows past (rows_of asked_of the_space (requests_in_use past) ++ row_of asked_of sent ∷ [])) { last = last b } in n) in_it

  pub numbers_ended : (past : List Fact) (c : ℕ) (why : Why) → numbers_of s (Ended c why ∷ past) ≡ orphans c (numbers_of s past)
  unfolding requests_in_use last_number
  numbers_ended past c why = ap (with_rows past) (rows_orphaned asked_of the_space c (requests_in_use past))

  pub numbers_lost : (past : List Fact) → numbers_of s (ModemLost ∷ past) ≡ resets (numbers_of s past)
  unfolding requests_in_use last_number
  numbers_lost past = refl

  -- one who isn't there waits for none
  pub numbers_of_stranger : (past : List Fact) (c : ℕ) (why : Why) → 1 ≤ c → contains c (present past) ≡ false → IsSound s.limits past → numbers_of s (Ended c why ∷ past) ≡ numbers_of s past
  unfolding last_number
  numbers_of_stranger past c why some absent sound = ap (λ (list : List RequestInUse). with_rows past (rows_of asked_of the_space list)) (requests_of_stranger s.limits past c why some absent sound)

  -- a request that is in use gets an answer, or a refusal in its place
  module _ (within : HasNumbers s) (past : List Fact) (r : Request) (R : Regular s past) (at : Contains (in_use past) r) where
    apart : AllByRecursion (λ (a : RequestInUse). AreApart r a.request) (requests_in_use past)
    apart = all_apart s.limits within past r R.sound at

    in_space : (r.space == the_space) ≡ true
    in_space = eq-eqb r.space the_space (All-contains IsPlaced (in_use past) r (All-from_recursion IsPlaced (in_use past) (placed_in_use past R.asked)) at)

    pub numbers_answered : (m : List ℕ) → numbers_of s (Answered r m ∷ past) ≡ answers r.number (numbers_of s past)
    unfolding requests_in_use last_number
    numbers_answered m = ap (with_rows past) (rows_freed asked_of the_space r (requests_in_use past) in_space apart)

    pub numbers_late : numbers_of s (Late r ∷ past) ≡ answers r.number (numbers_of s past)
    unfolding requests_in_use last_number
    numbers_late = ap (with_rows past) (rows_freed asked_of the_space r (requests_in_use past) in_space apart)

    pub numbers_expired : numbers_of s (Expired r ∷ past) ≡ silences r.number (numbers_of s past)
    unfolding requests_in_use last_number
    numbers_expired = ap (with_rows past) (rows_silenced asked_of the_space r (requests_in_use past) in_space apart)

    pub numbers_aborted : numbers_of s (Aborted r ∷ past) ≡ silences r.number (numbers_of s past)
    unfolding requests_in_use last_number
    numbers_aborted = ap (with_rows past) (rows_silenced asked_of the_space r (requests_in_use past) in_space apart)

  -- ---- the number that comes next ----

  pub next_is : (past : List Fact) → next_number (numbers_of s past) ≡ requests.next_number (s.limits.in_use the_space) (s.limits.top the_space) the_space past
  next_is past = ap (number_after (s.limits.in_use the_space) (s.limits.top the_space) (last_number the_space past)) (numbers_used asked_of the_space past)

  -- ---- whether a request of the proxy itself waits ----

  abbrev is_own_row : Row Asked → Bool
  is_own_row row = row.pending && (row.conn == 0)

  own_is : (list : List RequestInUse) → list_any is_own_row (map (row_of asked_of) list) ≡ list_any is_own (map request_in (filter waits_in list))
  own_is [] = refl
  own_is (a ∷ list) =
      elim a.waits as (λ w. (w && (a.request.conn == 0) || list_any is_own_row (map (row_of asked_of) list)) ≡ list_any is_own (map request_in (cond w (a ∷ filter waits_in list) (filter waits_in list)))) [
        | true ↦ ap (λ (b : Bool). (a.request.conn == 0) || b) (own_is list)
        | false ↦ own_is list
      ]

  pub own_waits_is : (past : List Fact) → Regular s past → list_any is_own_row (numbers_of s past).rows ≡ list_any is_own (pending past)
  own_waits_is past R = ap (list_any is_own_row) (rows_are past R) ∙ own_is (requests_in_use past) ∙ ap (list_any is_own) (sym (pending_is past))
