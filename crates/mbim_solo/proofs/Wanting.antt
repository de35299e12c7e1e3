-- What the proxy's own request for its list hangs on: where none was to be sent, none is as long as that stays.
use Rattle.std.proofs.Common.{◌≡◌, ℕ, ◌+◌, ◌≤◌, Bool, true, false, not, cond, ◌&&◌, nat_le, nat_lt, if◌then◌else◌, List, [], ◌∷◌, length, map, filter, refl, ap, ap₂, sym, ◌∙◌, arith, Option, Some, None}
use Rattle.std.proofs.lemmas.Bool.Decides.{nat_tests}
use Rattle.kit_bytes.specs.Subscriptions.{Pair, merge}
use Rattle.mbim_services.specs.SubscribeLists.{is_same_list}
use Rattle.proxy_history.specs.Facts.{Fact}
use Rattle.proxy_history.specs.Connections.{present}
use Rattle.proxy_history.specs.Requests.{last_number, following, free_from, number_after, next_number, numbers_in_use}
use Rattle.proxy_history.specs.Modem as modem
use Rattle.proxy_history.specs.View.{Entry, entry_if}
use Rattle.proxy_history.specs.Wording.{told_by}
use Rattle.proxy_history.proofs.Numbers.{number_after-none}
use Rattle.mbim_proxy.specs.Setup.{Setup, the_space}
use Rattle.mbim_proxy.specs.Known.{Known}
use Rattle.mbim_proxy.specs.Step.{view_of, known_from, known_now}
use Rattle.mbim_proxy.specs.Step as step
use Rattle.mbim_proxy.specs.Lists.{list_of, merged, last_list}
use Rattle.mbim_proxy.specs.Forwarding.{wire, wire_of, own_subscribe, has_room, number_for}
use Rattle.mbim_proxy.specs.OwnList.{is_free, number_of_list, send_under, finish}
use Rattle.mbim_proxy.proofs.SameLists.{list_itself}

-- ---- the list of all open clients ----

-- what keeps whether a client is open, and its list
abbrev pub AsListed : Known → Known → Type 0
AsListed before after = (after.opened ≡ before.opened) × (after.list ≡ before.list)

module _ (s : Setup) where
  pub entry_as_listed : (b : Bool) (entry : Entry) (entries : List Entry) → ((known : Known) → AsListed known (step.step s known entry)) → AsListed (known_from s entries) (known_from s (entry_if b entry entries))
  unfolding told_by
  entry_as_listed true entry entries keeps = keeps (known_from s entries)
  entry_as_listed false entry entries keeps = (refl, refl)

  lists_same : (past after : List Fact) → ((d : ℕ) → AsListed (known_now s d past) (known_now s d after)) → (conns : List ℕ)
      → map (λ d. list_of s d after) (filter (λ d. (known_now s d after).opened) conns) ≡ map (λ d. list_of s d past) (filter (λ d. (known_now s d past).opened) conns)
  lists_same past after same [] = refl
  lists_same past after same (d ∷ conns) =
      ap (λ (b : Bool). map (λ d. list_of s d after) (cond b (d ∷ filter (λ d. (known_now s d after).opened) conns) (filter (λ d. (known_now s d after).opened) conns))) (same d).0
      ∙ elim (known_now s d past).opened as (λ b. map (λ d. list_of s d after) (cond b (d ∷ filter (λ d. (known_now s d after).opened) conns) (filter (λ d. (known_now s d after).opened) conns))
      ≡ map (λ d. list_of s d past) (cond b (d ∷ filter (λ d. (known_now s d past).opened) conns) (filter (λ d. (known_now s d past).opened) conns))) [
        | true ↦ ap₂ (λ (list : List Pair) (lists : List (List Pair)). list ∷ lists) (same d).1 (lists_same past after same conns)
        | false ↦ lists_same past after same conns
      ]

  pub merged_same : (past after : List Fact) → present after ≡ present past → ((d : ℕ) → AsListed (known_now s d past) (known_now s d after)) → merged s after ≡ merged s past
  merged_same past after there same =
      ap (λ (conns : List ℕ). merge (map (λ d. list_of s d after) (filter (λ d. (known_now s d after).opened) conns))) there
      ∙ ap merge (lists_same past after same (present past))

-- ---- numbers ----

none_given : (b : Bool) (n : ℕ) → (if b then Some n else None) ≡ None → b ≡ false
none_given true n e = absurd (cc)
none_given false n e = refl

-- where no number was free, none is while no fewer are in use
none_free : (limit top last later : ℕ) (used more : List ℕ) → length used ≤ length more → number_after limit top last used ≡ None → number_after limit top later more ≡ None
none_free limit top last later used more grown none =
    let test : nat_lt (length used) limit ≡ false = none_given (nat_lt (length used) limit) (free_from (length used) top used (following top last)) none in
    let full : limit ≤ length used = grind (arith, nat_tests, test) in
    number_after-none limit top later more (omega (arith, full, grown))

-- ---- nothing is to be sent ----

module _ (s : Setup) where
  -- where nothing waits for the modem, and no fewer numbers are in use
  pub none_for : (m : List ℕ) (past after : List Fact) → modem.modem_queue (wire s) past ≡ [] → modem.modem_queue (wire s) after ≡ [] → length (numbers_in_use the_space past) ≤ length (numbers_in_use the_space after)
      → number_for s m past ≡ None → number_for s m after ≡ None
  none_for m past after empty emptied grown none =
      let room : has_room s m after ≡ has_room s m past = ap (λ (l : List ℕ). nat_le (length l + length (wire_of s 0 m)) s.limits.modem_outbox) (emptied ∙ sym empty) in
      let by : (b : Bool) → (if b then next_number (s.limits.in_use the_space) (s.limits.top the_space) the_space past else None) ≡ None → (if b then next_number (s.limits.in_use the_space) (s.limits.top the_space) the_space after else None) ≡ None =
      λ b. elim b as (λ b. (if b then next_number (s.limits.in_use the_space) (s.limits.top the_space) the_space past else None) ≡ None → (if b then next_number (s.limits.in_use the_space) (s.limits.top the_space) the_space after else None) ≡ None) [
        | true ↦ λ h. none_free (s.limits.in_use the_space) (s.limits.top the_space) (last_number the_space past) (last_number the_space after) (numbers_in_use the_space past) (numbers_in_use the_space after) grown h
        | false ↦ λ h. refl
      ]
      in ap (λ (b : Bool). if b then next_number (s.limits.in_use the_space) (s.limits.top the_space) the_space after else None) room ∙ by (has_room s m past) none

  none_stays : (free_now free same : Bool) (number_now number : Option ℕ) → (free_now ≡ true → free ≡ true) → (number ≡ None → number_now ≡ None)
      → (if free && not same then number else None) ≡ None → (if free_now && not same then number_now else None) ≡ None
  none_stays false free same number_now number frees numbers none = refl
  none_stays true free true number_now number frees numbers none = refl
  none_stays true free false number_now number frees numbers none = numbers (ap (λ (b : Bool). if b && true then number else None) (sym (frees refl)) ∙ none)

  -- where it was so before, and no more may be asked
  pub still_none : (past after : List Fact) → merged s after ≡ merged s past → last_list after ≡ last_list past → (is_free s after ≡ true → is_free s past ≡ true)
      → ((m : List ℕ) → number_for s m past ≡ None → number_for s m after ≡ None) → number_of_list s (merged s past) past ≡ None → number_of_list s (merged s after) after ≡ None
  still_none past after lists last frees numbers none =
      ap (λ (list : List Pair). number_of_list s list after) lists
      ∙ ap (λ (l : List Pair). if is_free s after && not (is_same_list (merged s past) l) then number_for s (own_subscribe (merged s past)) after else None) last
      ∙ none_stays (is_free s after) (is_free s past) (is_same_list (merged s past) (last_list past)) (number_for s (own_subscribe (merged s past)) after) (number_for s (own_subscribe (merged s past)) past) frees (numbers (own_subscribe (merged s past))) none

  -- while the modem isn't open, or a request of the proxy itself waits
  pub busy_none : (list : List Pair) (past : List Fact) → is_free s past ≡ false → number_of_list s list past ≡ None
  busy_none list past busy = ap (λ (b : Bool). if b && not (is_same_list list (last_list past)) then number_for s (own_subscribe list) past else None) busy

  -- where the modem was asked for it last
  pub asked_none : (list : List Pair) (past : List Fact) → last_list past ≡ list → number_of_list s list past ≡ None
  asked_none list past last =
      ap (λ (l : List Pair). if is_free s past && not (is_same_list list l) then number_for s (own_subscribe list) past else None) last
      ∙ ap (λ (b : Bool). if is_free s past && not b then number_for s (own_subscribe list) past else None) (list_itself list)
      ∙ elim (is_free s past) as (λ b. (if b && false then number_for s (own_subscribe list) past else None) ≡ None) [ true ↦ refl | false ↦ refl ]

  pub finish_none : (past : List Fact) → number_of_list s (merged s past) past ≡ None → finish s past ≡ past
  finish_none past none = ap (λ (o : Option ℕ). send_under s (merged s past) o past) none
