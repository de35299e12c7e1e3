-- The messages of a piece are asked one at a time. Lists of requests have the newest first.
use Rattle.std.proofs.Common.{◌≡◌, ℕ, ◌+◌, Bool, true, false, not, ◌||◌, if◌then◌else◌, List, [], ◌∷◌, refl, ap, sym, ◌∙◌, subst}
use Rattle.framing.specs.declared.framing.Size.{Size}
use Rattle.framing.specs.Framing.{is_invalid}
use Rattle.framing.specs.Cutting.{cut}
use Rattle.served_sim.specs.Conduct.{Conduct}
use Rattle.sim_serving.specs.Clients.{Owed, heeded, hangs_up, asks, promised}
use Rattle.sim_serving.specs.Core.{Replies}
use Rattle.sim_serving.specs.Hearing.{Answers, is_good, with_messages, with_owed}
use Rattle.sim_serving.proofs.Asking.{asks-first}
use Rattle.sim_serving.proofs.Owing.{owed-first, owed-none}

-- of all these messages those that are left are still to be asked, behind the others
pub record IsAsking {S : Type 0} (keeps : ℕ → Conduct → List (List ℕ) → S → Type 0) (ticks : ℕ) (conduct : Conduct) (before : List (List ℕ)) (all : List (List ℕ)) (old : Replies) (left : List (List ℕ)) (sim : S) (new : Replies) : Type 0 where
  pub asked : List (List ℕ)
  pub modem : keeps ticks conduct asked sim
  pub others : asks (heeded conduct left asked) asked ≡ asks (heeded conduct all before) before
  pub answered : with_owed ticks (promised conduct ticks (heeded conduct left asked) asked) new ≡ with_owed ticks (promised conduct ticks (heeded conduct all before) before) old
  pub over : hangs_up conduct left asked ≡ hangs_up conduct all before

-- all was asked that is to be asked, and it is known whether the modem hangs up
pub record HasAsked {S : Type 0} (keeps : ℕ → Conduct → List (List ℕ) → S → Type 0) (ticks : ℕ) (conduct : Conduct) (before : List (List ℕ)) (all : List (List ℕ)) (old : Replies) (sim : S) (new : Replies) (over : Bool) : Type 0 where
  pub answers : Answers keeps ticks conduct before all sim old new
  pub hangs : hangs_up conduct all before ≡ over

-- what a modem that keeps these requests does at a message
pub record DoesSo {S : Type 0} (keeps : ℕ → Conduct → List (List ℕ) → S → Type 0) (ticks : ℕ) (conduct : Conduct) (m : List ℕ) (sim next : S) (answer : List ℕ) (late : ℕ) (up : Bool) : Type 0 where
  pub keeps_on : (asked : List (List ℕ)) → keeps ticks conduct asked sim → keeps ticks conduct (m ∷ asked) next
  pub answers : (asked : List (List ℕ)) → keeps ticks conduct asked sim → answer ≡ conduct.answers asked m
  pub lates : (asked : List (List ℕ)) → keeps ticks conduct asked sim → late ≡ conduct.late asked m
  pub ups : (asked : List (List ℕ)) → keeps ticks conduct asked sim → up ≡ conduct.hangs_up asked m

module _ {S : Type 0} (keeps : ℕ → Conduct → List (List ℕ) → S → Type 0) (ticks : ℕ) (conduct : Conduct) (before all : List (List ℕ)) (old : Replies) where
  -- nothing is asked yet
  pub asks_first : (sim : S) → keeps ticks conduct before sim → IsAsking keeps ticks conduct before all old all sim old
  asks_first sim kept = record { asked = before; modem = kept; others = refl; answered = refl; over = refl }

  -- the first of those that are left is asked, and those behind it are heeded
  module _ (left later : List (List ℕ)) (m : List ℕ) (sim next : S) (now more : Replies) (answer : List ℕ) (late : ℕ) (up : Bool) (it : IsAsking keeps ticks conduct before all old left sim now) (first : left ≡ m ∷ later)
      (does : DoesSo keeps ticks conduct m sim next answer late up) (queued : more ≡ with_messages late answer now) (heeds : List (List ℕ)) (behind : (if conduct.hangs_up it.asked m then [] else heeded conduct later (m ∷ it.asked)) ≡ heeds) where
    heeds-left : heeded conduct left it.asked ≡ m ∷ heeds
    unfolding heeded
    heeds-left = ap (λ (l : List (List ℕ)). heeded conduct l it.asked) first ∙ ap (λ (l : List (List ℕ)). m ∷ l) behind

    others-behind : asks heeds (m ∷ it.asked) ≡ asks (heeded conduct all before) before
    others-behind = sym (ap (λ (l : List (List ℕ)). asks l it.asked) heeds-left ∙ asks-first m heeds it.asked) ∙ it.others

    abbrev owed-behind : List Owed
    owed-behind = promised conduct ticks heeds (m ∷ it.asked)

    abbrev owed-now : ℕ → List ℕ → List Owed
    owed-now late answer = record { due = ticks + late; messages = answer } ∷ owed-behind

    answered-behind : with_owed ticks (promised conduct ticks heeds (m ∷ it.asked)) more ≡ with_owed ticks (promised conduct ticks (heeded conduct all before) before) old
    unfolding promised
    answered-behind =
        ap (with_owed ticks owed-behind) queued
        ∙ owed-first ticks late answer owed-behind now
        ∙ ap (λ (n : ℕ). with_owed ticks (owed-now n answer) now) (does.lates it.asked it.modem)
        ∙ ap (λ (a : List ℕ). with_owed ticks (owed-now (conduct.late it.asked m) a) now) (does.answers it.asked it.modem)
        ∙ sym (ap (λ (l : List (List ℕ)). with_owed ticks (promised conduct ticks l it.asked) now) heeds-left)
        ∙ it.answered

    over-behind : (conduct.hangs_up it.asked m || hangs_up conduct later (m ∷ it.asked)) ≡ hangs_up conduct all before
    unfolding hangs_up
    over-behind = sym (ap (λ (l : List (List ℕ)). hangs_up conduct l it.asked) first) ∙ it.over

  -- the modem goes on behind it
  pub asks_one : (left later : List (List ℕ)) (m : List ℕ) (sim next : S) (now more : Replies) (answer : List ℕ) (late : ℕ) → IsAsking keeps ticks conduct before all old left sim now → left ≡ m ∷ later
      → DoesSo keeps ticks conduct m sim next answer late false → more ≡ with_messages late answer now
      → IsAsking keeps ticks conduct before all old later next more
  asks_one left later m sim next now more answer late it first does queued =
      let on = sym (does.ups it.asked it.modem) in
      let behind = ap (λ (b : Bool). if b then [] else heeded conduct later (m ∷ it.asked)) on in
      record {
        asked = m ∷ it.asked;
        modem = does.keeps_on it.asked it.modem;
        others = others-behind left later m sim next now more answer late false it first does queued (heeded conduct later (m ∷ it.asked)) behind;
        answered = answered-behind left later m sim next now more answer late false it first does queued (heeded conduct later (m ∷ it.asked)) behind;
        over =
            sym (ap (λ (b : Bool). b || hangs_up conduct later (m ∷ it.asked)) on)
            ∙ over-behind left later m sim next now more answer late false it first does queued (heeded conduct later (m ∷ it.asked)) behind;
      }

  -- the modem hangs up at it
  pub asks_until : (left later : List (List ℕ)) (m : List ℕ) (sim next : S) (now more : Replies) (answer : List ℕ) (late : ℕ) → IsAsking keeps ticks conduct before all old left sim now → left ≡ m ∷ later
      → DoesSo keeps ticks conduct m sim next answer late true → more ≡ with_messages late answer now
      → HasAsked keeps ticks conduct before all old next more true
  unfolding asks promised
  asks_until left later m sim next now more answer late it first does queued =
      let up = sym (does.ups it.asked it.modem) in
      let behind = ap (λ (b : Bool). if b then [] else heeded conduct later (m ∷ it.asked)) up in
      let Kept : List (List ℕ) → Type 0 = λ l. keeps ticks conduct l next in
      record {
        answers = record {
          modem = subst Kept (others-behind left later m sim next now more answer late true it first does queued [] behind) (does.keeps_on it.asked it.modem);
          answered = sym (owed-none more ticks) ∙ answered-behind left later m sim next now more answer late true it first does queued [] behind;
        };
        hangs =
            sym (over-behind left later m sim next now more answer late true it first does queued [] behind)
            ∙ ap (λ (b : Bool). b || hangs_up conduct later (m ∷ it.asked)) up;
      }

  -- none is left
  pub asks_last : (left : List (List ℕ)) (sim : S) (now : Replies) → IsAsking keeps ticks conduct before all old left sim now → left ≡ [] → HasAsked keeps ticks conduct before all old sim now false
  unfolding asks promised heeded hangs_up
  asks_last left sim now it none =
      let Kept : List (List ℕ) → Type 0 = λ l. keeps ticks conduct l sim in
      record {
        answers = record {
          modem = subst Kept (sym (ap (λ (l : List (List ℕ)). asks (heeded conduct l it.asked) it.asked) none) ∙ it.others) it.modem;
          answered = sym (ap (λ (l : List (List ℕ)). with_owed ticks (promised conduct ticks (heeded conduct l it.asked) it.asked) now) none ∙ owed-none now ticks) ∙ it.answered;
        };
        hangs = sym it.over ∙ ap (λ (l : List (List ℕ)). hangs_up conduct l it.asked) none;
      }

-- whether what comes behind is good
pub good_where : (size : List ℕ → Size) (conduct : Conduct) (before : List (List ℕ)) (bytes : List ℕ) (bad over : Bool) → is_invalid (size (cut size bytes).rest) ≡ bad → hangs_up conduct (cut size bytes).messages before ≡ over
    → not (bad || over) ≡ is_good size conduct before bytes
good_where size conduct before bytes bad over bad_is over_is = sym (ap (λ (b : Bool). not (b || hangs_up conduct (cut size bytes).messages before)) bad_is ∙ ap (λ (b : Bool). not (bad || b)) over_is)
