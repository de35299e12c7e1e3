-- How many requests of a client wait, as the rows of a number space tell it.
use Rattle.std.proofs.Common.{◌≡◌, ℕ, suc, Bool, true, false, cond, ◌&&◌, ◌==◌, List, [], ◌∷◌, length, map, filter, refl, ap, sym, ◌∙◌}
use Rattle.proxy_history.specs.Facts.{Fact, Request}
use Rattle.proxy_history.specs.Requests.{pending, of_client}
use Rattle.number_space.specs.declared.space.Row.{Row}
use Rattle.proxy_state.specs.Requests.{RequestInUse, requests_in_use, row_of, rows_of}
use Rattle.proxy_state.proofs.InUse.{request_in, waits_in, waiting, pending_is}

length_cond : {X : Type 0} (b : Bool) (x : X) (xs : List X) → length (cond b (x ∷ xs) xs) ≡ cond b (suc (length xs)) (length xs)
length_cond true x xs = refl
length_cond false x xs = refl

turned : (space waits conn : Bool) → (space && (waits && conn)) ≡ (waits && (conn && space))
turned true true true = refl
turned true true false = refl
turned true false conn = refl
turned false true true = refl
turned false true false = refl
turned false false conn = refl

module _ {N : Type 0} (note : List ℕ → N) (c space : ℕ) where
  abbrev by_rows : List RequestInUse → List (Row N)
  by_rows requests = filter (λ r. r.pending && (r.conn == c)) (rows_of note space requests)

  abbrev by_requests : List RequestInUse → List Request
  by_requests requests = of_client c space (waiting requests)

  counted : (requests : List RequestInUse) → length (by_rows requests) ≡ length (by_requests requests)
  counted [] = refl
  counted (a ∷ requests) =
      let row : Row N = row_of note a in
      let left : (b : Bool) → length (filter (λ (r : Row N). r.pending && (r.conn == c)) (map (row_of note) (cond b (a ∷ filter (λ (a : RequestInUse). a.request.space == space) requests) (filter (λ (a : RequestInUse). a.request.space == space) requests))))
      ≡ cond (b && (a.waits && (a.request.conn == c))) (suc (length (by_rows requests))) (length (by_rows requests)) =
      λ b. elim b as (λ b. length (filter (λ (r : Row N). r.pending && (r.conn == c)) (map (row_of note) (cond b (a ∷ filter (λ (a : RequestInUse). a.request.space == space) requests) (filter (λ (a : RequestInUse). a.request.space == space) requests))))
      ≡ cond (b && (a.waits && (a.request.conn == c))) (suc (length (by_rows requests))) (length (by_rows requests))) [
        | true ↦ length_cond (a.waits && (a.request.conn == c)) row (by_rows requests)
        | false ↦ refl
      ]
      in
      let right : (b : Bool) → length (of_client c space (map request_in (cond b (a ∷ filter waits_in requests) (filter waits_in requests))))
      ≡ cond (b && ((a.request.conn == c) && (a.request.space == space))) (suc (length (by_requests requests))) (length (by_requests requests)) =
      λ b. elim b as (λ b. length (of_client c space (map request_in (cond b (a ∷ filter waits_in requests) (filter waits_in requests))))
      ≡ cond (b && ((a.request.conn == c) && (a.request.space == space))) (suc (length (by_requests requests))) (length (by_requests requests))) [
        | true ↦ length_cond ((a.request.conn == c) && (a.request.space == space)) a.request (by_requests requests)
        | false ↦ refl
      ]
      in
      left (a.request.space == space)
      ∙ ap (λ (n : ℕ). cond ((a.request.space == space) && (a.waits && (a.request.conn == c))) (suc n) n) (counted requests)
      ∙ ap (λ (b : Bool). cond b (suc (length (by_requests requests))) (length (by_requests requests))) (turned (a.request.space == space) a.waits (a.request.conn == c))
      ∙ sym (right a.waits)

  pub share_counted : (past : List Fact) → length (filter (λ r. r.pending && (r.conn == c)) (rows_of note space (requests_in_use past))) ≡ length (of_client c space (pending past))
  share_counted past = counted (requests_in_use past) ∙ ap (λ (l : List Request). length (of_client c space l)) (sym (pending_is past))
