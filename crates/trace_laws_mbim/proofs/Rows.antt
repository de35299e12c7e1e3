-- The rows of a ledger beside the requests that they mirror.
use Rattle.std.proofs.Common.{◌≡◌, ℕ, ◌^◌, ◌<◌, ◌⊎◌, ⊎_elim, Bool, true, false, not, ◌&&◌, ◌==◌, if◌then◌else◌, List, [], ◌∷◌, map, Option, Some, option_map, refl, ap, ap₂, sym, ◌∙◌}
use Rattle.std.specs.List.{AllByRecursion}
use Rattle.std.proofs.Math.Bool.{and-false, and-true}
use Rattle.kit_bytes.proofs.Lists.{all_weaker}
use Rattle.mbim_frame.specs.Head.{number_of}
use Rattle.proxy_history.specs.Facts.{Request}
use Rattle.proxy_history.specs.Requests.{first_where, without_request}
use Rattle.proxy_solo.specs.Answers as alone
use Rattle.proxy_solo.proofs.Lists.{turned}
use Rattle.mbim_proxy.specs.ModemStates.{is_own_open}
use Rattle.mbim_proxy.specs.Forwarding.{wire}
use Rattle.mbim_proxy.specs.FromModem.{IsDone, IsOpenDone, is_answered_by, first_answered_by}
use Rattle.rig_runs.specs.Mbim.{setup}
use Rattle.rig_laws_mbim.proofs.Messages.{query, cid_for, query_number_is, answer, answer_number_is, own_open_under, open_number_is, opened, opened_number_is}
use Rattle.rig_laws_mbim.proofs.Adding.{IsCommand, IsOwnOpen}
use Rattle.rig_trace.specs.declared.rows.Key.{Key}
use Rattle.rig_trace.specs.declared.rows.Row.{Row}
use Rattle.rig_trace.specs.Rows.{is_same_key, first_with, without_row, number_at}
use Rattle.rig_trace.specs.Mbim.{key_of}
use Rattle.trace_laws_mbim.specs.Laws.{row_of}

-- a request that the modem was asked
pub record Asked (r : Request) : Type 0 where
  pub below : r.number < 2 ^ 32
  pub kind : IsCommand r ⊎ IsOwnOpen r

abbrev pub AllAsked : List Request → Type 0
AllAsked requests = AllByRecursion Asked requests

-- ---- keys ----

abbrev pub key_under : (own : Bool) → (number : ℕ) → Key
key_under own number = record { kind = if own then 1 else 3; cid = 0; number = number }

query_key : (cid number : ℕ) → number < 2 ^ 32 → key_of (query cid number) ≡ key_under false number
query_key cid number below = ap (key_under false) (query_number_is cid number below)

own_open_key : (number : ℕ) → number < 2 ^ 32 → key_of (own_open_under number) ≡ key_under true number
own_open_key number below = ap (key_under true) (open_number_is number below)

pub answer_key : (cid number : ℕ) → number < 2 ^ 32 → key_of (answer cid number) ≡ key_under false number
answer_key cid number below = ap (key_under false) (answer_number_is cid number below)

pub opened_key : (number : ℕ) → number < 2 ^ 32 → key_of (opened number) ≡ key_under true number
opened_key number below = ap (key_under true) (opened_number_is number below)

pub asked_key : (r : Request) → Asked r → key_of (wire setup r) ≡ key_under (is_own_open r) r.number
asked_key r is =
    ⊎_elim (λ (command : IsCommand r). ap key_of command.wire_is ∙ query_key (cid_for command.choice) r.number is.below ∙ ap (λ (b : Bool). key_under b r.number) (sym command.command))
    (λ (own : IsOwnOpen r). ap key_of own.wire_is ∙ own_open_key r.number is.below ∙ ap (λ (b : Bool). key_under b r.number) (sym own.opens)) is.kind

-- ---- the row that an answer finds ----

done_finds : (own : Bool) (n k : ℕ) → is_same_key (key_under false n) (key_under own k) ≡ (k == n && not own)
done_finds true n k = sym (and-false (k == n))
done_finds false n k = turned n k ∙ sym (and-true (k == n))

open_done_finds : (own : Bool) (n k : ℕ) → is_same_key (key_under true n) (key_under own k) ≡ (k == n && own)
open_done_finds true n k = turned n k ∙ sym (and-true (k == n))
open_done_finds false n k = sym (and-false (k == n))

module _ (opener : ℕ) (m : List ℕ) (number : ℕ) (number_is : number_of m ≡ number) where
  done_row : key_of m ≡ key_under false number → (r : Request) → Asked r → is_same_key (key_of m) (row_of opener r).key ≡ is_answered_by IsDone m r
  done_row key r is =
      ap₂ is_same_key key (asked_key r is) ∙ done_finds (is_own_open r) number r.number ∙ ap (λ (n : ℕ). r.number == n && not (is_own_open r)) (sym number_is)

  open_done_row : key_of m ≡ key_under true number → (r : Request) → Asked r → is_same_key (key_of m) (row_of opener r).key ≡ is_answered_by IsOpenDone m r
  open_done_row key r is =
      ap₂ is_same_key key (asked_key r is) ∙ open_done_finds (is_own_open r) number r.number ∙ ap (λ (n : ℕ). r.number == n && is_own_open r) (sym number_is)

first_row : (opener : ℕ) (key : Key) (test : Request → Bool) (requests : List Request) → AllByRecursion (λ r. is_same_key key (row_of opener r).key ≡ test r) requests → first_with key (map (row_of opener) requests) ≡ option_map (row_of opener) (first_where test requests)
first_row opener key test [] all = refl
first_row opener key test (r ∷ requests) all =
    ap (λ (b : Bool). if b then Some (row_of opener r) else first_with key (map (row_of opener) requests)) all.0
    ∙ elim (test r) as (λ b. (if b then Some (row_of opener r) else first_with key (map (row_of opener) requests)) ≡ option_map (row_of opener) (if b then Some r else first_where test requests)) [
      | true ↦ refl
      | false ↦ first_row opener key test requests all.1
    ]

module _ (opener : ℕ) (m : List ℕ) (number : ℕ) (number_is : number_of m ≡ number) (requests : List Request) (all : AllByRecursion Asked requests) (r : Request) where
  pub done_is_found : key_of m ≡ key_under false number → first_answered_by IsDone m requests ≡ Some r → first_with (key_of m) (map (row_of opener) requests) ≡ Some (row_of opener r)
  done_is_found key found =
      first_row opener (key_of m) (is_answered_by IsDone m) requests (all_weaker Asked (λ (r : Request). is_same_key (key_of m) (row_of opener r).key ≡ is_answered_by IsDone m r) (done_row opener m number number_is key) requests all)
      ∙ ap (option_map (row_of opener)) found

  pub open_done_is_found : key_of m ≡ key_under true number → first_answered_by IsOpenDone m requests ≡ Some r → first_with (key_of m) (map (row_of opener) requests) ≡ Some (row_of opener r)
  open_done_is_found key found =
      first_row opener (key_of m) (is_answered_by IsOpenDone m) requests (all_weaker Asked (λ (r : Request). is_same_key (key_of m) (row_of opener r).key ≡ is_answered_by IsOpenDone m r) (open_done_row opener m number number_is key) requests all)
      ∙ ap (option_map (row_of opener)) found

-- the others stay
pub others_stay : (opener : ℕ) (r : Request) (requests : List Request) → without_row (row_of opener r) (map (row_of opener) requests) ≡ map (row_of opener) (without_request r requests)
others_stay opener r [] = refl
others_stay opener r (q ∷ requests) =
    let others : List Row = without_row (row_of opener r) (map (row_of opener) requests) in
    elim (not (r.serial == q.serial)) as (λ b. (if b then row_of opener q ∷ others else others) ≡ map (row_of opener) (if b then q ∷ without_request r requests else without_request r requests)) [
      | true ↦ ap (λ (rows : List Row). row_of opener q ∷ rows) (others_stay opener r requests)
      | false ↦ others_stay opener r requests
    ]

-- ---- numbers ----

pub wire_number : (r : Request) → Asked r → number_of (wire setup r) ≡ r.number
wire_number r asked = ap (λ (k : Key). k.number) (asked_key r asked)

abbrev pub AreCommands : List Request → Type 0
AreCommands requests = AllByRecursion (λ r. is_own_open r ≡ false) requests

pub numbers_at : (opener c place : ℕ) (requests : List Request) → AllByRecursion Asked requests → AreCommands requests → number_at c place (map (row_of opener) requests) ≡ alone.number_at c place requests
numbers_at opener c place [] all commands = refl
numbers_at opener c place (r ∷ requests) all commands =
    ap (λ (b : Bool). let o : Option ℕ = if ((if b then opener else r.conn) == c && ((if b then 2 else r.place) == place)) then Some (number_of (wire setup r)) else number_at c place (map (row_of opener) requests) in o) commands.0
    ∙ ap (λ (n : ℕ). let o : Option ℕ = if (r.conn == c && (r.place == place)) then Some n else number_at c place (map (row_of opener) requests) in o) (wire_number r all.0)
    ∙ ap (λ (rest : Option ℕ). let o : Option ℕ = if (r.conn == c && (r.place == place)) then Some r.number else rest in o) (numbers_at opener c place requests all.1 commands.1)
