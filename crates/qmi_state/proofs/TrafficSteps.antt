-- What each fact makes of the traffic.
use Rattle.std.proofs.Common.{◌≡◌, ℕ, ◌≤◌, Bool, true, false, not, ◌==◌, List, [], ◌∷◌, ◌++◌, length, map, filter, drop, refl, ap, sym, ◌∙◌, if◌then◌else◌}
use Rattle.std.specs.List.{AllByRecursion}
use Rattle.std.proofs.lemmas.List.{drop-drop, drop-append-le}
use Rattle.qmux_frame.specs.Head.{is_control}
use Rattle.proxy_history.specs.Facts.{Fact, Request, Why, Ended, Forwarded, Granted, Freed, Reset, ModemLost, ModemTaken}
use Rattle.proxy_history.specs.Requests.{last_number}
use Rattle.proxy_history.specs.ClientIds.{Grant, KeptId}
use Rattle.proxy_history.specs.Modem.{now, to_modem, modem_taken_count, modem_queue}
use Rattle.qmi_proxy.specs.Spaces.{control_space, service_space, space_of, limit_of, top_of}
use Rattle.qmi_proxy.specs.Clients.{wire}
use Rattle.number_space.specs.Table.{orphans}
use Rattle.proxy_state.specs.Requests.{requests_in_use, silenced_if}
use Rattle.qmi_state.specs.Asked.{asked_of}
use Rattle.qmi_state.specs.Traffic.{Row, Numbers, Traffic, row_of, rows_of, numbers_of, traffic_of, of_control, with_numbers, gives, frees, silences, grants_id, frees_id, gives_up, forgets, ids, kept_ids}
use Rattle.proxy_state.proofs.Rows.{AreApart, rows_more, rows_freed, rows_elsewhere, rows_silenced, rows_unsilenced, rows_orphaned}

-- a number of a space changes, or nothing
abbrev if_in : Bool → (Numbers → Numbers) → Numbers → Numbers
if_in true change numbers = change numbers
if_in false change numbers = numbers

abbrev traffic_with : Numbers → Numbers → List Grant → List KeptId → List ℕ → Traffic
traffic_with control services held kept waiting = record { control = control; services = services; held = held; kept = kept; waiting = waiting }

control_test : (m : List ℕ) → (space_of m == control_space) ≡ is_control m
control_test m = elim (is_control m) as (λ b. ((if b then control_space else service_space) == control_space) ≡ b) [ true ↦ refl | false ↦ refl ]

service_test : (m : List ℕ) → (space_of m == service_space) ≡ not (is_control m)
service_test m = elim (is_control m) as (λ b. ((if b then control_space else service_space) == service_space) ≡ not b) [ true ↦ refl | false ↦ refl ]

module _ (r : Request) (placed : r.space ≡ space_of r.message) where
  in_control : (r.space == control_space) ≡ is_control r.message
  in_control = ap (λ (n : ℕ). n == control_space) placed ∙ control_test r.message

  in_services : (r.space == service_space) ≡ not (is_control r.message)
  in_services = ap (λ (n : ℕ). n == service_space) placed ∙ service_test r.message

  -- what changes the numbers of the request's space
  changed_in : (change : Numbers → Numbers) (traffic : Traffic) (held : List Grant) (kept : List KeptId) (waiting : List ℕ) (control services : Numbers)
      → control ≡ if_in (r.space == control_space) change traffic.control → services ≡ if_in (r.space == service_space) change traffic.services
      → traffic_with control services held kept waiting ≡ record (with_numbers (is_control r.message) (change (of_control (is_control r.message) traffic)) traffic) { held = held; kept = kept; waiting = waiting }
  changed_in change traffic held kept waiting control services c s =
      ap (λ (n : Numbers). traffic_with n services held kept waiting) (c ∙ ap (λ (b : Bool). if_in b change traffic.control) in_control)
      ∙ ap (λ (n : Numbers). traffic_with (if_in (is_control r.message) change traffic.control) n held kept waiting) (s ∙ ap (λ (b : Bool). if_in b change traffic.services) in_services)
      ∙ elim (is_control r.message) as (λ b. traffic_with (if_in b change traffic.control) (if_in (not b) change traffic.services) held kept waiting ≡ record (with_numbers b (change (of_control b traffic)) traffic) { held = held; kept = kept; waiting = waiting }) [ true ↦ refl | false ↦ refl ]

  -- ---- a request goes to the modem ----

  numbers_forwarded : (past : List Fact) (space : ℕ) (in_it : Bool) → (r.space == space) ≡ in_it → numbers_of space (Forwarded r ∷ past) ≡ if_in in_it (gives (row_of (record { request = r; waits = true }))) (numbers_of space past)
  unfolding requests_in_use last_number
  numbers_forwarded past space true is =
      ap (λ (rows : List Row). let n : Numbers = record { rows = rows; last = if r.space == space then r.number else last_number space past; limit = limit_of space; top = top_of space } in n) (rows_more asked_of space (requests_in_use past) (record { request = r; waits = true }) true is)
      ∙ ap (λ (b : Bool). let n : Numbers = record { rows = rows_of space (requests_in_use past) ++ row_of (record { request = r; waits = true }) ∷ []; last = if b then r.number else last_number space past; limit = limit_of space; top = top_of space } in n) is
  numbers_forwarded past space false is =
      ap (λ (rows : List Row). let n : Numbers = record { rows = rows; last = if r.space == space then r.number else last_number space past; limit = limit_of space; top = top_of space } in n) (rows_more asked_of space (requests_in_use past) (record { request = r; waits = true }) false is)
      ∙ ap (λ (b : Bool). let n : Numbers = record { rows = rows_of space (requests_in_use past); last = if b then r.number else last_number space past; limit = limit_of space; top = top_of space } in n) is

  pub traffic_forwarded : (past : List Fact) → modem_taken_count past ≤ length (to_modem wire past)
      → traffic_of (Forwarded r ∷ past) ≡ record (with_numbers (is_control r.message) (gives (row_of (record { request = r; waits = true })) (of_control (is_control r.message) (traffic_of past))) (traffic_of past)) { waiting = (traffic_of past).waiting ++ wire r }
  unfolding ids kept_ids to_modem modem_taken_count
  traffic_forwarded past was_taken =
      ap (λ (l : List ℕ). traffic_with (numbers_of control_space (Forwarded r ∷ past)) (numbers_of service_space (Forwarded r ∷ past)) (ids past) (kept_ids past) l) (drop-append-le (modem_taken_count past) (to_modem wire past) (wire r) was_taken)
      ∙ changed_in (gives (row_of (record { request = r; waits = true }))) (traffic_of past) (ids past) (kept_ids past) ((traffic_of past).waiting ++ wire r) _ _
      (numbers_forwarded past control_space (r.space == control_space) refl) (numbers_forwarded past service_space (r.space == service_space) refl)

  -- ---- an answer, or a refusal in its place ----

  module _ (later past : List Fact) (apart : AllByRecursion (λ a. AreApart r a.request) (requests_in_use past)) (last : (space : ℕ) → last_number space later ≡ last_number space past)
      (same_held : ids later ≡ ids past) (same_kept : kept_ids later ≡ kept_ids past) (same_queue : modem_queue wire later ≡ modem_queue wire past) where
    with_rows : (space : ℕ) (rows : List Row) → rows_of space (requests_in_use later) ≡ rows → numbers_of space later ≡ record { rows = rows; last = last_number space past; limit = limit_of space; top = top_of space }
    with_rows space rows is =
        ap (λ (l : List Row). let n : Numbers = record { rows = l; last = last_number space later; limit = limit_of space; top = top_of space } in n) is ∙ ap (λ (l : ℕ). let n : Numbers = record { rows = rows; last = l; limit = limit_of space; top = top_of space } in n) (last space)

    numbers_freed : requests_in_use later ≡ filter (λ a. not (r.serial == a.request.serial)) (requests_in_use past) → (space : ℕ) (in_it : Bool) → (r.space == space) ≡ in_it → numbers_of space later ≡ if_in in_it (frees r.number) (numbers_of space past)
    numbers_freed gone space true is = with_rows space _ (ap (rows_of space) gone ∙ rows_freed asked_of space r (requests_in_use past) is apart)
    numbers_freed gone space false is = with_rows space _ (ap (rows_of space) gone ∙ rows_elsewhere asked_of space r (requests_in_use past) is apart)

    numbers_silenced : requests_in_use later ≡ map (λ a. silenced_if (r.serial == a.request.serial) a) (requests_in_use past) → (space : ℕ) (in_it : Bool) → (r.space == space) ≡ in_it → numbers_of space later ≡ if_in in_it (silences r.number) (numbers_of space past)
    numbers_silenced over space true is = with_rows space _ (ap (rows_of space) over ∙ rows_silenced asked_of space r (requests_in_use past) is apart)
    numbers_silenced over space false is = with_rows space _ (ap (rows_of space) over ∙ rows_unsilenced asked_of space r (requests_in_use past) is apart)

    changed : (change : Numbers → Numbers) → ((space : ℕ) (in_it : Bool) → (r.space == space) ≡ in_it → numbers_of space later ≡ if_in in_it change (numbers_of space past))
        → traffic_of later ≡ with_numbers (is_control r.message) (change (of_control (is_control r.message) (traffic_of past))) (traffic_of past)
    changed change numbers =
        ap (λ (l : List Grant). traffic_with (numbers_of control_space later) (numbers_of service_space later) l (kept_ids later) (modem_queue wire later)) same_held
        ∙ ap (λ (l : List KeptId). traffic_with (numbers_of control_space later) (numbers_of service_space later) (ids past) l (modem_queue wire later)) same_kept
        ∙ ap (λ (l : List ℕ). traffic_with (numbers_of control_space later) (numbers_of service_space later) (ids past) (kept_ids past) l) same_queue
        ∙ changed_in change (traffic_of past) (ids past) (kept_ids past) (modem_queue wire past) _ _ (numbers control_space (r.space == control_space) refl) (numbers service_space (r.space == service_space) refl)

    pub traffic_freed : requests_in_use later ≡ filter (λ a. not (r.serial == a.request.serial)) (requests_in_use past) → traffic_of later ≡ with_numbers (is_control r.message) (frees r.number (of_control (is_control r.message) (traffic_of past))) (traffic_of past)
    traffic_freed gone = changed (frees r.number) (numbers_freed gone)

    pub traffic_silenced : requests_in_use later ≡ map (λ a. silenced_if (r.serial == a.request.serial) a) (requests_in_use past) → traffic_of later ≡ with_numbers (is_control r.message) (silences r.number (of_control (is_control r.message) (traffic_of past))) (traffic_of past)
    traffic_silenced over = changed (silences r.number) (numbers_silenced over)

-- ---- the other facts ----

pub traffic_ended : (past : List Fact) (c : ℕ) (why : Why) → traffic_of (Ended c why ∷ past) ≡ gives_up c (now past) (traffic_of past)
unfolding requests_in_use last_number ids kept_ids to_modem modem_taken_count
traffic_ended past c why =
    ap (λ (rows : List Row). traffic_with (record { rows = rows; last = last_number control_space past; limit = limit_of control_space; top = top_of control_space }) (numbers_of service_space (Ended c why ∷ past)) (ids (Ended c why ∷ past)) (kept_ids (Ended c why ∷ past)) (modem_queue wire past)) (rows_orphaned asked_of control_space c (requests_in_use past))
    ∙ ap (λ (rows : List Row). traffic_with (orphans c (numbers_of control_space past)) (record { rows = rows; last = last_number service_space past; limit = limit_of service_space; top = top_of service_space }) (ids (Ended c why ∷ past)) (kept_ids (Ended c why ∷ past)) (modem_queue wire past)) (rows_orphaned asked_of service_space c (requests_in_use past))

pub traffic_reset : (past : List Fact) → traffic_of (Reset ∷ past) ≡ forgets (traffic_of past)
unfolding requests_in_use last_number ids kept_ids to_modem modem_taken_count
traffic_reset past = refl

pub traffic_lost : (past : List Fact) → traffic_of (ModemLost ∷ past) ≡ record (forgets (traffic_of past)) { waiting = [] }
unfolding requests_in_use last_number ids kept_ids to_modem modem_taken_count
traffic_lost past = refl

pub traffic_granted : (past : List Fact) (c service cid : ℕ) → traffic_of (Granted c service cid ∷ past) ≡ grants_id c service cid (traffic_of past)
unfolding requests_in_use last_number ids kept_ids to_modem modem_taken_count
traffic_granted past c service cid = refl

pub traffic_given_back : (past : List Fact) (c service cid : ℕ) → traffic_of (Freed c service cid ∷ past) ≡ frees_id c service cid (traffic_of past)
unfolding requests_in_use last_number ids kept_ids to_modem modem_taken_count
traffic_given_back past c service cid = refl

pub traffic_taken : (past : List Fact) (count : ℕ) → traffic_of (ModemTaken count ∷ past) ≡ record (traffic_of past) { waiting = drop count (traffic_of past).waiting }
unfolding requests_in_use last_number ids kept_ids to_modem modem_taken_count
traffic_taken past count = ap (λ (l : List ℕ). traffic_with (numbers_of control_space past) (numbers_of service_space past) (ids past) (kept_ids past) l) (sym (drop-drop count (modem_taken_count past) (to_modem wire past)))
