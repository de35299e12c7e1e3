-- What a client meets alone, and what runs then. Lists of runs and of events have the newest first, and a trace is told in its order.
use Rattle.std.proofs.Common.{◌≡◌, ℕ, zero, suc, ◌+◌, ◌<◌, Bool, true, false, ◌==◌, ◌&&◌, nat_eq, nat_le, if◌then◌else◌, List, [], ◌∷◌, fold, get_or, drop, length, Option, Some, None, refl, sym, ap, ◌∙◌, subst}
use Rattle.std.specs.List.{starts_with}
use Rattle.std.proofs.Math.Dec.{eqb-suc-zero}
use Rattle.std.proofs.lemmas.Bool.{eq-eqb, false≢true}
use Rattle.std.proofs.lemmas.List.{drop_more}
use Rattle.proxy_history.specs.Events.{Event, Joined, Piece, ModemPiece, Now, Took, ModemTook}
use Rattle.proxy_history.specs.Coming.{piece_limit}
use Rattle.proxy_history.specs.Connections.{contains}
use Rattle.proxy_history.specs.Proxy.{Proxy}
use Rattle.hub_io.specs.Record.{taking}
use Rattle.proxy_serving.specs.Face.{Face}
use Rattle.proxy_serving.specs.Cores.{Shows}
use Rattle.core_bench.specs.Runs.{Run}
use Rattle.rig_stage.specs.Running.{Runs, Moves}
use Rattle.rig_trace.specs.Rows.{Reading, Ledger, number_at}
use Rattle.rig_trace.specs.declared.Met.{Met}
use Rattle.rig_trace.specs.declared.Met.TheVariants.{Joins, Said, Heard, Takes, ClockShows}
use Rattle.rig_trace.specs.Alone.{meets, hears, own_number, meet_met, met_alone}
use Rattle.rig_notes.specs.declared.noting.Noting.{Noting}
use Rattle.rig_notes.specs.Noting.{Keeps}
use Rattle.rig_notes.specs.Alone.{is_met, queue_for, is_short, is_fit, is_fit_alone, GoesOn}

-- ---- what runs ----

module _ {B : Type 0} {keeps : Proxy → List Event → B → Type 0} {tells : B → Option (List Run)} where
  -- it fits, and goes on
  pub comes : {old new : B} {fits : Proxy → List Event → Bool} {goes_on : Proxy → List Event → List Event} → ((p : Proxy) (past : List Event) → keeps p past old → true ≡ fits p past)
      → Moves keeps tells goes_on old new → GoesOn keeps tells fits goes_on old new true
  comes fitting moves = record { told = fitting; runs = λ p opened earlier past r is. moves.runs p opened earlier past r }

  -- it doesn't
  pub refused : {old new : B} {fits : Proxy → List Event → Bool} {goes_on : Proxy → List Event → List Event} → ((p : Proxy) (past : List Event) → keeps p past old → false ≡ fits p past) → GoesOn keeps tells fits goes_on old new false
  refused unfitting = record { told = unfitting; runs = λ p opened earlier past r is. absurd (false≢true is) }

  -- the same in other words
  pub goes_on_as : {old new : B} {same : Bool} {first_fits : Proxy → List Event → Bool} (fits : Proxy → List Event → Bool) {first : Proxy → List Event → List Event} (second : Proxy → List Event → List Event)
      → ((p : Proxy) (past : List Event) → keeps p past old → first_fits p past ≡ fits p past) → ((p : Proxy) (past : List Event) → keeps p past old → first p past ≡ second p past)
      → GoesOn keeps tells first_fits first old new same → GoesOn keeps tells fits second old new same
  goes_on_as {new = new} fits second fitting same one = record {
    told = λ p past kept. one.told p past kept ∙ fitting p past kept;
    runs = λ p opened earlier past r is. subst (λ events. Runs keeps tells p opened earlier events new) (same p past r.kept) (one.runs p opened earlier past r is);
  }

-- ---- whether something was met ----

taken_some : (count : ℕ) (event : Event) (own : List Event) → (length (taking (λ n. ModemTook n) count (event ∷ own)) == 0) ≡ false
taken_some zero event own = eqb-suc-zero (length own)
taken_some (suc count) event own = eqb-suc-zero (length (event ∷ own))

some_met : (p : Proxy) (event : Event) (own : List Event) → (length (meets p event own) == 0) ≡ false
some_met p event own = taken_some (length (p.waiting_for_modem (event ∷ own))) event own

-- ---- what is the client's ----

pub mine_is : {X : Type 0} (test : Bool) (mine other : X) → test ≡ true → (if test then mine else other) ≡ mine
mine_is test mine other is = ap (λ t. if t then mine else other) is

other_is : {X : Type 0} (test : Bool) (mine other : X) → test ≡ false → (if test then mine else other) ≡ other
other_is test mine other is = ap (λ t. if t then mine else other) is

module _ (reading : Reading) (p : Proxy) (c : ℕ) (fresh : Bool) (own : List Event) where
  unmet : (met : Met) → is_met c met ≡ false → meet_met reading p c own met ≡ own
  unmet (Joins d) other = other_is (d == c) _ own other
  unmet (Said d m) other = other_is (d == c) _ own other
  unmet (Heard d place m) other = other_is (d == c) _ own other
  unmet (Takes d bytes) other = other_is (d == c) _ own other
  unmet (ClockShows time) other = absurd (false≢true (sym other))

  unmet_fits : (met : Met) → is_met c met ≡ false → is_fit reading p c fresh own met ≡ true
  unmet_fits (Joins d) other = other_is (d == c) _ true other
  unmet_fits (Said d m) other = other_is (d == c) _ true other
  unmet_fits (Heard d place m) other = other_is (d == c) _ true other
  unmet_fits (Takes d bytes) other = other_is (d == c) _ true other
  unmet_fits (ClockShows time) other = refl

  some_heard : (number : Option ℕ) (m : List ℕ) → is_short reading number m ≡ true → (length (hears reading p number m own) == 0) ≡ false
  some_heard None m short = absurd (false≢true short)
  some_heard (Some number) m short = some_met p (ModemPiece (reading.with_number number m)) own

  met_some : (test : Bool) (met : List Event) → test ≡ true → (length met == 0) ≡ false → (length (if test then met else own) == 0) ≡ false
  met_some test met is some = ap (λ (events : List Event). length events == 0) (mine_is test met own is) ∙ some

  something_met : (met : Met) → is_met c met ≡ true → is_fit reading p c fresh own met ≡ true → (length (meet_met reading p c own met) == 0) ≡ false
  something_met (Joins d) mine fit = met_some (d == c) _ mine (some_met p (Joined c) own)
  something_met (Said d m) mine fit = met_some (d == c) _ mine (some_met p (Piece c m) own)
  something_met (Heard d place m) mine fit =
      let number : Option ℕ = own_number reading p c place own in
      met_some (d == c) _ mine (some_heard number m (sym (mine_is (d == c) (is_short reading number m) true mine) ∙ fit))
  something_met (Takes d bytes) mine fit = met_some (d == c) _ mine (some_met p (Took c (length bytes)) own)
  something_met (ClockShows time) mine fit = some_met p (Now time) own

module _ {B : Type 0} {keeps : Proxy → List Event → B → Type 0} {tells : B → Option (List Run)} (reading : Reading) (c : ℕ) (fresh : Bool) {old new : B} {same : Bool} where
  pub came_goes_on : (d : ℕ) → is_met c (Joins d) ≡ true → GoesOn keeps tells (λ p own. fresh) (λ p own. meets p (Joined c) own) old new same
      → GoesOn keeps tells (λ p own. is_fit reading p c fresh own (Joins d)) (λ p own. meet_met reading p c own (Joins d)) old new same
  came_goes_on d mine one =
      goes_on_as (λ p own. is_fit reading p c fresh own (Joins d)) (λ p own. meet_met reading p c own (Joins d)) (λ p own kept. sym (mine_is (d == c) fresh true mine))
      (λ p own kept. sym (mine_is (d == c) (meets p (Joined c) own) own mine)) one

  pub said_goes_on : (d : ℕ) (m : List ℕ) → is_met c (Said d m) ≡ true → GoesOn keeps tells (λ p own. nat_le (length m) piece_limit) (λ p own. meets p (Piece c m) own) old new same
      → GoesOn keeps tells (λ p own. is_fit reading p c fresh own (Said d m)) (λ p own. meet_met reading p c own (Said d m)) old new same
  said_goes_on d m mine one =
      goes_on_as (λ p own. is_fit reading p c fresh own (Said d m)) (λ p own. meet_met reading p c own (Said d m)) (λ p own kept. sym (mine_is (d == c) (nat_le (length m) piece_limit) true mine))
      (λ p own kept. sym (mine_is (d == c) (meets p (Piece c m) own) own mine)) one

  pub heard_goes_on : (d place : ℕ) (m : List ℕ) → is_met c (Heard d place m) ≡ true
      → GoesOn keeps tells (λ p own. is_short reading (own_number reading p c place own) m) (λ p own. hears reading p (own_number reading p c place own) m own) old new same
      → GoesOn keeps tells (λ p own. is_fit reading p c fresh own (Heard d place m)) (λ p own. meet_met reading p c own (Heard d place m)) old new same
  heard_goes_on d place m mine one =
      goes_on_as (λ p own. is_fit reading p c fresh own (Heard d place m)) (λ p own. meet_met reading p c own (Heard d place m))
      (λ p own kept. sym (mine_is (d == c) (is_short reading (own_number reading p c place own) m) true mine))
      (λ p own kept. sym (mine_is (d == c) (hears reading p (own_number reading p c place own) m own) own mine)) one

  pub collected_goes_on : (d : ℕ) (bytes : List ℕ) → is_met c (Takes d bytes) ≡ true
      → GoesOn keeps tells (λ p own. starts_with nat_eq (queue_for p c own) bytes) (λ p own. meets p (Took c (length bytes)) own) old new same
      → GoesOn keeps tells (λ p own. is_fit reading p c fresh own (Takes d bytes)) (λ p own. meet_met reading p c own (Takes d bytes)) old new same
  collected_goes_on d bytes mine one =
      goes_on_as (λ p own. is_fit reading p c fresh own (Takes d bytes)) (λ p own. meet_met reading p c own (Takes d bytes))
      (λ p own kept. sym (mine_is (d == c) (starts_with nat_eq (queue_for p c own) bytes) true mine))
      (λ p own kept. sym (mine_is (d == c) (meets p (Took c (length bytes)) own) own mine)) one

-- ---- an answer ----

-- the ledger tells the number
number_is : {R B : Type 0} {keeps : Proxy → List Event → B → Type 0} (reading : Reading) (c place : ℕ) (old : Noting R B) → old.notes.failed ≡ false → (number : Option ℕ) → number_at c place old.notes.ledger.rows ≡ number
    → (p : Proxy) (own : List Event) → Keeps reading keeps p own old → own_number reading p c place own ≡ number
number_is reading c place old ok number found p own kept = ap (λ (ledger : Ledger). number_at c place ledger.rows) (sym (kept.noted.ledger ok)) ∙ found

module _ {R B : Type 0} {keeps : Proxy → List Event → B → Type 0} {tells : Noting R B → Option (List Run)} (reading : Reading) (c place : ℕ) (m : List ℕ) (old : Noting R B) (ok : old.notes.failed ≡ false) where
  -- it comes under that one
  pub answers_as : (number : ℕ) (answer : List ℕ) {new : Noting R B} {same : Bool} → number_at c place old.notes.ledger.rows ≡ Some number → answer ≡ reading.with_number number m
      → GoesOn (Keeps reading keeps) tells (λ p own. nat_le (length answer) piece_limit) (λ p own. meets p (ModemPiece answer) own) old new same
      → GoesOn (Keeps reading keeps) tells (λ p own. is_short reading (own_number reading p c place own) m) (λ p own. hears reading p (own_number reading p c place own) m own) old new same
  answers_as number answer found is one =
      goes_on_as (λ p own. is_short reading (own_number reading p c place own) m) (λ p own. hears reading p (own_number reading p c place own) m own)
      (λ p own kept. ap (λ (bytes : List ℕ). nat_le (length bytes) piece_limit) is ∙ sym (ap (λ n. is_short reading n m) (number_is reading c place old ok (Some number) found p own kept)))
      (λ p own kept. ap (λ bytes. meets p (ModemPiece bytes) own) is ∙ sym (ap (λ n. hears reading p n m own) (number_is reading c place old ok (Some number) found p own kept))) one

  -- there is none
  pub not_asked : {new : Noting R B} → number_at c place old.notes.ledger.rows ≡ None
      → GoesOn (Keeps reading keeps) tells (λ p own. is_short reading (own_number reading p c place own) m) (λ p own. hears reading p (own_number reading p c place own) m own) old new false
  not_asked none = refused (λ p own kept. sym (ap (λ n. is_short reading n m) (number_is reading c place old ok None none p own kept)))

-- ---- a trace, met by met ----

-- of the trace the client met its part but for what is left, and that fitted it
pub record HasMet {B : Type 0} (keeps : Proxy → List Event → B → Type 0) (tells : B → Option (List Run)) (reading : Reading) (c : ℕ) (trace rest : List Met) (fresh : Bool)
    (p : Proxy) (opened : Run) (earlier : List Run) (bench : B) : Type 0 where
  pub own : List Event
  pub runs : Runs keeps tells p opened earlier own bench
  pub fits : is_fit_alone reading p c own rest ≡ is_fit_alone reading p c [] trace
  pub whole : fold (meet_met reading p c) own rest ≡ met_alone reading p c trace
  pub unmet : fresh ≡ (length own == 0)

-- what is met fits it, or not
fits_first : (reading : Reading) (p : Proxy) (c : ℕ) (own : List Event) (met : Met) (more : List Met) (fresh fit : Bool) → fresh ≡ (length own == 0) → is_fit reading p c fresh own met ≡ fit
    → is_fit_alone reading p c own (met ∷ more) ≡ (fit && is_fit_alone reading p c (meet_met reading p c own met) more)
unfolding is_fit_alone
fits_first reading p c own met more fresh fit nothing is = ap (λ b. b && is_fit_alone reading p c (meet_met reading p c own met) more) (ap (λ f. is_fit reading p c f own met) (sym nothing) ∙ is)

fits_last : (reading : Reading) (p : Proxy) (c : ℕ) (own : List Event) → is_fit_alone reading p c own [] ≡ (length (queue_for p c own) == 0)
unfolding is_fit_alone
fits_last reading p c own = refl

-- this is the next
pub next_is : (trace : List Met) (place : ℕ) (found met : Met) → place < length trace → met ≡ get_or trace place found → drop place trace ≡ met ∷ drop (place + 1) trace
next_is trace place found met within is = drop_more trace place found within ∙ ap (λ m. m ∷ drop (place + 1) trace) (sym is)

module _ {B : Type 0} {keeps : Proxy → List Event → B → Type 0} {tells : B → Option (List Run)} (reading : Reading) (c : ℕ) (trace : List Met) (p : Proxy) (opened : Run) (earlier : List Run) where
  pub nothing_met : (bench : B) → Runs keeps tells p opened earlier [] bench → HasMet keeps tells reading c trace trace true p opened earlier bench
  nothing_met bench runs = record { own = []; runs = runs; fits = refl; whole = refl; unmet = sym (eq-eqb 0 0 refl) }

  -- this is the next that is met
  pub goes_to : (rest : List Met) (met : Met) (more : List Met) (fresh : Bool) (bench : B) → rest ≡ met ∷ more → HasMet keeps tells reading c trace rest fresh p opened earlier bench → HasMet keeps tells reading c trace (met ∷ more) fresh p opened earlier bench
  goes_to rest met more fresh bench is has = subst (λ left. HasMet keeps tells reading c trace left fresh p opened earlier bench) is has

  -- it is another client's
  pub meets_none : (met : Met) (more : List Met) (fresh : Bool) (bench : B) → is_met c met ≡ false → HasMet keeps tells reading c trace (met ∷ more) fresh p opened earlier bench → HasMet keeps tells reading c trace more fresh p opened earlier bench
  meets_none met more fresh bench other has =
      let same : meet_met reading p c has.own met ≡ has.own = unmet reading p c fresh has.own met other in
      record {
        own = has.own;
        runs = has.runs;
        fits =
            sym (ap (λ own. is_fit_alone reading p c own more) same)
            ∙ sym (fits_first reading p c has.own met more fresh true has.unmet (unmet_fits reading p c fresh has.own met other)) ∙ has.fits;
        whole = sym (ap (λ own. fold (meet_met reading p c) own more) same) ∙ has.whole;
        unmet = has.unmet;
      }

  module _ (met : Met) (more : List Met) (fresh : Bool) (old new : B) (same : Bool) (mine : is_met c met ≡ true)
      (goes : GoesOn keeps tells (λ p own. is_fit reading p c fresh own met) (λ p own. meet_met reading p c own met) old new same)
      (has : HasMet keeps tells reading c trace (met ∷ more) fresh p opened earlier old) where
    -- it is the client's, and fits it
    pub meets_one : same ≡ true → HasMet keeps tells reading c trace more false p opened earlier new
    meets_one is =
        let fit : is_fit reading p c fresh has.own met ≡ true = sym (goes.told p has.own has.runs.kept) ∙ is in
        record {
          own = meet_met reading p c has.own met;
          runs = goes.runs p opened earlier has.own has.runs is;
          fits = sym (fits_first reading p c has.own met more fresh true has.unmet fit) ∙ has.fits;
          whole = has.whole;
          unmet = sym (something_met reading p c fresh has.own met mine fit);
        }

    -- it doesn't
    pub unfit : same ≡ false → same ≡ is_fit_alone reading p c [] trace
    unfit is = is ∙ sym (fits_first reading p c has.own met more fresh false has.unmet (sym (goes.told p has.own has.runs.kept) ∙ is)) ∙ has.fits

-- ---- what waits for the client ----

-- for a client that isn't there nothing waits
pub queue_is : (p : Proxy) (past : List Event) (face : Face) (c : ℕ) → Shows p past face → (contains c face.present ≡ false → face.queue c ≡ []) → face.queue c ≡ queue_for p c past
queue_is p past face c shows nobody =
    let step : (b : Bool) → contains c (p.present past) ≡ b → face.queue c ≡ (if b then p.waiting c past else []) = elim [
      | true ↦ λ is. shows.queue c is
      | false ↦ λ is. nobody (ap (contains c) shows.present ∙ is)
    ] in step (contains c (p.present past)) refl

-- what is left in the end
module _ {B : Type 0} {keeps : Proxy → List Event → B → Type 0} {tells : B → Option (List Run)} (reading : Reading) (c : ℕ) (trace : List Met) (fresh : Bool) (p : Proxy) (opened : Run) (earlier : List Run) (bench : B) (rest : List Met)
    (is : rest ≡ []) (has : HasMet keeps tells reading c trace rest fresh p opened earlier bench) where
  pub fits_in_the_end : (face : Face) → Shows p has.own face → (contains c face.present ≡ false → face.queue c ≡ []) → (length (face.queue c) == 0) ≡ is_fit_alone reading p c [] trace
  fits_in_the_end face shows nobody =
      ap (λ (queue : List ℕ). length queue == 0) (queue_is p has.own face c shows nobody)
      ∙ sym (fits_last reading p c has.own) ∙ sym (ap (is_fit_alone reading p c has.own) is) ∙ has.fits

  pub all_met : Runs keeps tells p opened earlier (met_alone reading p c trace) bench
  all_met = subst (λ events. Runs keeps tells p opened earlier events bench) (sym (ap (fold (meet_met reading p c) has.own) is) ∙ has.whole) has.runs
