-- Where it is the same for a client that is alone, what it meets fits it. Lists of events have the newest first, and a trace is told in its order.
use Rattle.std.proofs.Common.{◌≡◌, ℕ, zero, suc, ◌≤◌, Bool, true, false, ◌==◌, ◌&&◌, nat_eq, if◌then◌else◌, List, [], ◌∷◌, fold, length, take, Option, Some, None, refl, sym, ap, ◌∙◌, subst, arith}
use Rattle.std.specs.List.{starts_with}
use Rattle.std.specs.Cmp.Lexicographic.{pointwise}
use Rattle.std.proofs.lemmas.Bool.{eqb-true, eq-eqb, le-leb}
use Rattle.std.proofs.lemmas.Cmp.{nat_list_eq_equiv}
use Rattle.proxy_history.specs.Events.{Event, Joined, Piece, Left, ModemPiece, ModemGone, ModemBack, Now, Took, ModemTook}
use Rattle.proxy_history.specs.Coming.{piece_limit}
use Rattle.proxy_history.specs.Connections.{contains}
use Rattle.proxy_history.specs.Proxy.{Proxy}
use Rattle.hub_io.specs.Record.{taking}
use Rattle.rig_runs.specs.Stage.{queued_for}
use Rattle.rig_trace.specs.Rows.{Reading}
use Rattle.rig_trace.specs.declared.Met.{Met}
use Rattle.rig_trace.specs.declared.Met.TheVariants.{Joins, Said, Heard, Takes, ClockShows}
use Rattle.rig_trace.specs.Alone.{meets, hears, own_number, meet_met, met_alone, IsShort, IsSame, IsSameAlone}
use Rattle.rig_notes.specs.Alone.{queue_for, is_short, is_fit, is_fit_alone}

-- ---- what is taken ----

-- no client takes more than waits for it
abbrev pub TakesWhatWaits : Proxy → List Event → Type 0
TakesWhatWaits p [] = Unit {0}
TakesWhatWaits p (Took c count ∷ past) = (count ≤ queued_for p c past) × TakesWhatWaits p past
TakesWhatWaits p (_ ∷ past) = TakesWhatWaits p past

taking_earlier : (p : Proxy) (count : ℕ) (events : List Event) → TakesWhatWaits p (taking (λ n. ModemTook n) count events) → TakesWhatWaits p events
taking_earlier p zero events takes = takes
taking_earlier p (suc count) events takes = takes

event_earlier : (p : Proxy) (event : Event) (own : List Event) → TakesWhatWaits p (event ∷ own) → TakesWhatWaits p own
event_earlier p (Joined c) own takes = takes
event_earlier p (Piece c bytes) own takes = takes
event_earlier p (Left c) own takes = takes
event_earlier p (ModemPiece bytes) own takes = takes
event_earlier p ModemGone own takes = takes
event_earlier p ModemBack own takes = takes
event_earlier p (Now time) own takes = takes
event_earlier p (Took c count) own takes = takes.1
event_earlier p (ModemTook count) own takes = takes

meets_earlier : (p : Proxy) (event : Event) (own : List Event) → TakesWhatWaits p (meets p event own) → TakesWhatWaits p (event ∷ own)
meets_earlier p event own takes = taking_earlier p (length (p.waiting_for_modem (event ∷ own))) (event ∷ own) takes

met_if_earlier : (p : Proxy) (test : Bool) (met own : List Event) → (TakesWhatWaits p met → TakesWhatWaits p own) → TakesWhatWaits p (if test then met else own) → TakesWhatWaits p own
met_if_earlier p true met own earlier takes = earlier takes
met_if_earlier p false met own earlier takes = takes

module _ (reading : Reading) (p : Proxy) (c : ℕ) where
  hears_earlier : (number : Option ℕ) (m : List ℕ) (own : List Event) → TakesWhatWaits p (hears reading p number m own) → TakesWhatWaits p own
  hears_earlier None m own takes = takes
  hears_earlier (Some number) m own takes = event_earlier p (ModemPiece (reading.with_number number m)) own (meets_earlier p (ModemPiece (reading.with_number number m)) own takes)

  met_earlier : (met : Met) (own : List Event) → TakesWhatWaits p (meet_met reading p c own met) → TakesWhatWaits p own
  met_earlier (Joins d) own takes = met_if_earlier p (d == c) _ own (λ t. event_earlier p (Joined c) own (meets_earlier p (Joined c) own t)) takes
  met_earlier (Said d m) own takes = met_if_earlier p (d == c) _ own (λ t. event_earlier p (Piece c m) own (meets_earlier p (Piece c m) own t)) takes
  met_earlier (Heard d place m) own takes = met_if_earlier p (d == c) _ own (hears_earlier (own_number reading p c place own) m own) takes
  met_earlier (Takes d bytes) own takes = met_if_earlier p (d == c) _ own (λ t. event_earlier p (Took c (length bytes)) own (meets_earlier p (Took c (length bytes)) own t)) takes
  met_earlier (ClockShows time) own takes = event_earlier p (Now time) own (meets_earlier p (Now time) own takes)

  all_earlier : (trace : List Met) (own : List Event) → TakesWhatWaits p (fold (meet_met reading p c) own trace) → TakesWhatWaits p own
  all_earlier [] own takes = takes
  all_earlier (met ∷ trace) own takes = met_earlier met own (all_earlier trace (meet_met reading p c own met) takes)

-- ---- what fits ----

module _ (p : Proxy) (c : ℕ) (own : List Event) where
  -- bytes that wait for it are the first of those that wait
  takes_first : (bytes : List ℕ) → take (length bytes) (p.waiting c own) ≡ bytes → length bytes ≤ queued_for p c own → starts_with nat_eq (queue_for p c own) bytes ≡ true
  takes_first bytes same within =
      let none : (list : List ℕ) → length list ≤ 0 → starts_with nat_eq [] list ≡ true = λ list. elim list as (λ list. length list ≤ 0 → starts_with nat_eq [] list ≡ true) [
        | [] ↦ λ few. refl
        | byte ∷ bytes ↦ λ few. absurd (omega (arith, few))
      ] in
      let step : (b : Bool) → length bytes ≤ (if b then length (p.waiting c own) else 0) → starts_with nat_eq (if b then p.waiting c own else []) bytes ≡ true = elim [
        | true ↦ λ few. ap (pointwise nat_eq bytes) same ∙ nat_list_eq_equiv.refl bytes
        | false ↦ λ few. none bytes few
      ] in step (contains c (p.present own)) within

  none_left : p.waiting c own ≡ [] → (length (queue_for p c own) == 0) ≡ true
  none_left none =
      let step : (b : Bool) → (length (if b then p.waiting c own else []) == 0) ≡ true = elim [
        | true ↦ eq-eqb _ _ (ap length none)
        | false ↦ eq-eqb 0 0 refl
      ] in step (contains c (p.present own))

module _ (reading : Reading) (p : Proxy) (c : ℕ) where
  fits_if : (d : ℕ) (test : Bool) → (d ≡ c → test ≡ true) → (if d == c then test else true) ≡ true
  fits_if d test mine =
      let step : (b : Bool) → (d == c) ≡ b → (if b then test else true) ≡ true = elim [
        | true ↦ λ is. mine (eqb-true d c is)
        | false ↦ λ is. refl
      ] in step (d == c) refl

  short_fits : (number : Option ℕ) (m : List ℕ) → IsShort reading number m → is_short reading number m ≡ true
  short_fits None m short = absurd short
  short_fits (Some number) m short = le-leb _ _ short

  same_fits : (met : Met) (own : List Event) → IsSame reading p c own met → TakesWhatWaits p (meet_met reading p c own met) → is_fit reading p c (length own == 0) own met ≡ true
  same_fits (Joins d) own same takes = fits_if d (length own == 0) (λ mine. eq-eqb _ _ (ap length (same mine)))
  same_fits (Said d m) own same takes = fits_if d _ (λ mine. le-leb _ _ (same mine))
  same_fits (Heard d place m) own same takes = fits_if d _ (λ mine. short_fits (own_number reading p c place own) m (same mine))
  same_fits (Takes d bytes) own same takes = fits_if d _ (λ mine.
      let it : (if d == c then meets p (Took c (length bytes)) own else own) ≡ meets p (Took c (length bytes)) own = ap (λ b. if b then meets p (Took c (length bytes)) own else own) (eq-eqb d c mine) in
      takes_first p c own bytes (same mine) (meets_earlier p (Took c (length bytes)) own (subst (TakesWhatWaits p) it takes)).0)
  same_fits (ClockShows time) own same takes = refl

  all_fit : (trace : List Met) (own : List Event) → IsSameAlone reading p c own trace → TakesWhatWaits p (fold (meet_met reading p c) own trace) → is_fit_alone reading p c own trace ≡ true
  unfolding IsSameAlone is_fit_alone
  all_fit [] own same takes = none_left p c own same
  all_fit (met ∷ trace) own same takes =
      let later : List Event = meet_met reading p c own met in
      ap (λ b. b && is_fit_alone reading p c later trace) (same_fits met own same.0 (all_earlier reading p c trace later takes)) ∙ all_fit trace later same.1 takes

-- the whole trace
pub same_alone_fits : (reading : Reading) (p : Proxy) (c : ℕ) (trace : List Met) → IsSameAlone reading p c [] trace → TakesWhatWaits p (met_alone reading p c trace) → is_fit_alone reading p c [] trace ≡ true
same_alone_fits reading p c trace same takes = all_fit reading p c trace [] same takes
