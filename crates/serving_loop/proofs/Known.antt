-- What an event makes of what a core shows that keeps what it has to. Lists of events have the newest first.
use Rattle.std.proofs.Common.{◌<◌, ◌≤◌, ◌≡◌, ℕ, ◌+◌, true, false, ◌||◌, ◌==◌, Bool, List, [], ◌∷◌, ◌++◌, length, drop, Some, refl, sym, ◌∙◌, ap, subst, arith, length-append}
use Rattle.std.specs.List.{IsDistinct}
use Rattle.std.proofs.lemmas.Bool.{eqb-true}
use Rattle.proxy_history.specs.Connections.{contains, without}
use Rattle.many_history.specs.Events.{ManyEvent, Joined, Piece, Left, ModemPiece, ModemGone, ModemBack, Now, Took, ModemTook}
use Rattle.many_serving.specs.Proxy.{ManyProxy}
use Rattle.many_serving.specs.Lawful.{modem_of}
use Rattle.serving_loop.specs.Face.{ManyFace, MayCome, CanMeet, SameAway, SameAwayBut}
use Rattle.serving_loop.specs.Cores.{Makes, Shows, IsKnown}
use Rattle.serving_loop.specs.Progress.{MayBeTold}
use Rattle.serving_loop.proofs.Offers.{without-at}

-- who is among these stands somewhere
found : (c : ℕ) (names : List ℕ) → contains c names ≡ true → (front : List ℕ) × (later : List ℕ) × (names ≡ front ++ c ∷ later)
found c [] is = absurd (cc)
found c (d ∷ names) is =
    let Found : Type 0 = (front : List ℕ) × (later : List ℕ) × (d ∷ names ≡ front ++ c ∷ later) in
    let step : (b : Bool) → (c == d) ≡ b → Found =
    λ b. elim b as (λ b. (c == d) ≡ b → Found) [
      | true ↦ λ same. ([], names, ap (λ (e : ℕ). e ∷ names) (sym (eqb-true c d same)))
      | false ↦ λ other.
          let rest = found c names (sym (ap (λ (b : Bool). b || contains c names) other) ∙ is) in (d ∷ rest.0, rest.1, ap (λ (l : List ℕ). d ∷ l) rest.2)
    ]
    in step (c == d) refl

one_fewer : (c : ℕ) (names : List ℕ) → IsDistinct (λ x y. x == y) names → contains c names ≡ true → length (without c names) + 1 ≡ length names
one_fewer c names distinct there =
    let at = found c names there in
    let Distinct : List ℕ → Type 0 = IsDistinct (λ x y. x == y) in
    let left : length (without c names) ≡ length (at.0 ++ at.1) = ap (λ (l : List ℕ). length (without c l)) at.2 ∙ ap length (without-at at.0 c at.1 (subst Distinct at.2 distinct)) in
    let whole : length names ≡ length (at.0 ++ c ∷ at.1) = ap length at.2 in
    omega (arith, length-append at.0 at.1, length-append at.0 (c ∷ at.1))

-- what a hub tells that has as many devices may be met
pub may_meet : (event : ManyEvent) (face : ManyFace) (devices known : ℕ) → face.dropped ≡ [] → face.greatest ≤ known → devices ≡ face.devices → MayBeTold devices known event → CanMeet event face
may_meet event face devices known none greatest is told = record { hung_up = none; may_come = may_come event told }
  where
    may_come : (event : ManyEvent) → MayBeTold devices known event → MayCome event face
    may_come (Joined c) told = omega (arith, told, greatest)
    may_come (Piece c bytes) told = told
    may_come (Left c) told = tt
    may_come (Took c count) told = absurd told
    may_come (ModemPiece d bytes) told = (omega (arith, told.0, is), told.1)
    may_come (ModemGone d) told = omega (arith, told, is)
    may_come (ModemBack d) told = absurd told
    may_come (ModemTook d count) told = absurd told
    may_come (Now time) told = tt

-- what both show of the modems
module _ {p : ManyProxy} {past : List ManyEvent} {event : ManyEvent} {old new : ManyFace} (before : Shows p past old) (after : Shows p (event ∷ past) new) where
  -- a device that the core has is one of the proxy's
  ours : (d : ℕ) → d < old.devices → d < p.devices
  ours d within = omega (arith, within, before.devices)

  same_away : ((d : ℕ) → d < p.devices → p.is_away d (event ∷ past) ≡ p.is_away d past) → SameAway old new
  same_away same = record { same = λ d within. let here = ours d within in after.away d here ∙ same d here ∙ sym (before.away d here) }

  others_away : (d : ℕ) → d < old.devices → modem_of event ≡ Some d → SameAwayBut d old new
  others_away d within of = record {
    same = λ e also other.
        let here = ours e also in
        after.away e here ∙ before.lawful.other_away d e event past of (ours d within) here other ∙ sym (before.away e here);
  }

module _ {C : Type 0} {keeps : ManyProxy → List ManyEvent → C → Type 0} {face : C → ManyFace} (shows : (p : ManyProxy) (past : List ManyEvent) (core : C) → keeps p past core → Shows p past (face core)) where
  pub makes_of : (event : ManyEvent) (old new : C) → CanMeet event (face old) → IsKnown keeps old → ((p : ManyProxy) (past : List ManyEvent) → keeps p past old → keeps p (event ∷ past) new) → Makes event (face old) (face new)
  makes_of (Took c count) old new can known keeping =
      let before = shows known.proxy known.past old known.kept in
      let after = shows known.proxy (Took c count ∷ known.past) new (keeping known.proxy known.past known.kept) in
      let rules = before.lawful in
      λ there.
      let was_there : contains c (known.proxy.present known.past) ≡ true = ap (contains c) (sym before.present) ∙ there in
      let still_there : contains c (known.proxy.present (Took c count ∷ known.past)) ≡ true = ap (contains c) (rules.took_present c count known.past) ∙ was_there in
      record {
        present = after.present ∙ rules.took_present c count known.past ∙ sym before.present;
        queue = after.queue c still_there ∙ rules.taken_waiting c count known.past was_there ∙ ap (drop count) (sym (before.queue c was_there));
        dropped = after.dropped (rules.took_dropped c count known.past) ∙ sym can.hung_up;
        away = same_away before after (λ d within. rules.took_away c count d known.past within);
      }
  makes_of (Left c) old new can known keeping =
      let before = shows known.proxy known.past old known.kept in
      let after = shows known.proxy (Left c ∷ known.past) new (keeping known.proxy known.past known.kept) in
      let rules = before.lawful in
      λ there.
      let was_there : contains c (known.proxy.present known.past) ≡ true = ap (contains c) (sym before.present) ∙ there in
      record {
        fewer =
            ap (λ (l : List ℕ). length l + 1) (after.present ∙ rules.left_present c known.past before.rise was_there)
            ∙ one_fewer c (known.proxy.present known.past) before.distinct was_there
            ∙ ap length (sym before.present);
        dropped = after.dropped (rules.left_dropped c known.past) ∙ sym can.hung_up;
        away = same_away before after (λ d within. rules.left_away c d known.past within);
      }
  makes_of (ModemTook d count) old new can known keeping =
      let before = shows known.proxy known.past old known.kept in
      let after = shows known.proxy (ModemTook d count ∷ known.past) new (keeping known.proxy known.past known.kept) in
      let rules = before.lawful in
      let within = can.may_come.0 in
      let here = ours before after d within in
      let taken = rules.modem_taken d count known.past here in
      record {
        more = taken.more;
        modem_queue = after.modem_queue d here ∙ taken.waiting ∙ ap (λ (l : List ℕ). drop count l ++ taken.more) (sym (before.modem_queue d here));
        modem_backlog = λ some fits.
            let less = rules.backlog_lessens d count known.past here some (subst (λ (l : List ℕ). count ≤ length l) (before.modem_queue d here) fits) in
            omega (arith, after.modem_backlog d here, before.modem_backlog d here, less);
        dropped = after.dropped (rules.modem_took_dropped d count known.past here) ∙ sym can.hung_up;
        others = others_away before after d within refl;
      }
  makes_of (ModemGone d) old new can known keeping =
      let before = shows known.proxy known.past old known.kept in
      let after = shows known.proxy (ModemGone d ∷ known.past) new (keeping known.proxy known.past known.kept) in
      let here = ours before after d can.may_come in
      let Waits : List ℕ → Type 0 = λ l. 0 < length l in
      record {
        away = λ waits. after.away d here ∙ before.lawful.gone_away d known.past here (subst Waits (before.modem_queue d here) waits);
        others = others_away before after d can.may_come refl;
      }
  makes_of (ModemBack d) old new can known keeping =
      let before = shows known.proxy known.past old known.kept in
      let after = shows known.proxy (ModemBack d ∷ known.past) new (keeping known.proxy known.past known.kept) in
      let here = ours before after d can.may_come in
      record {
        dropped = after.dropped (before.lawful.back_dropped d known.past here) ∙ sym can.hung_up;
        others = others_away before after d can.may_come refl;
      }
  makes_of (Joined c) old new can known keeping = tt
  makes_of (Piece c bytes) old new can known keeping = tt
  makes_of (ModemPiece d bytes) old new can known keeping = tt
  makes_of (Now time) old new can known keeping = tt
