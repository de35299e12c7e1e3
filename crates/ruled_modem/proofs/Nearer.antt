-- Faults that are counted down behind requests.
use Rattle.std.proofs.Common.{◌≡◌, ℕ, ◌+◌, Bool, true, false, if◌then◌else◌, List, [], ◌∷◌, map, filter, length, Option, Some, None, option_map, cond, ◌&&◌, ◌==◌, refl, sym, ap, ◌∙◌, arith}
use Rattle.served_sim.proofs.Counting.{one-left}
use Rattle.kit_bytes.specs.declared.Kind.{Kind}
use Rattle.modem_rules.specs.declared.kind.RequestKind.{RequestKind}
use Rattle.modem_rules.specs.declared.rules.FaultRule.{FaultRule}
use Rattle.modem_rules.specs.Kinds.{is_same}
use Rattle.ruled_modem.specs.Requests.{kind_of}
use Rattle.ruled_modem.specs.Ruled.{is_kind, count, is_for, fault_for}
use Rattle.ruled_modem.specs.Keeping.{ByKind, Counts, Has, HasBehind, due, nearer, own}

-- ---- behind one message more ----

nearer-more : (n : ℕ) (f : FaultRule) → nearer 1 (nearer n f) ≡ nearer (n + 1) f
nearer-more n f = ap (λ nth. record { kind = f.kind; nth = nth; failure = f.failure }) (omega arith)

nearer-all : (n : ℕ) (faults : List FaultRule) → map (nearer 1) (map (nearer n) faults) ≡ map (nearer (n + 1)) faults
nearer-all n [] = refl
nearer-all n (f ∷ faults) = ap (λ y. y ∷ map (nearer 1) (map (nearer n) faults)) (nearer-more n f) ∙ ap (λ ys. nearer (n + 1) f ∷ ys) (nearer-all n faults)

count-step : (same : Bool) (xs : List (List ℕ)) (x : List ℕ) → length (if same then x ∷ xs else xs) ≡ (if same then length xs + 1 else length xs)
count-step true xs x = omega arith
count-step false xs x = refl

-- what became of the faults of a kind, by whether the request was of the kind
moved : (same : Bool) (n : ℕ) (faults : List FaultRule) → (if same then map (nearer 1) (map (nearer n) faults) else map (nearer n) faults) ≡ map (nearer (if same then n + 1 else n)) faults
moved true n faults = nearer-all n faults
moved false n faults = refl

module _ (modem : Kind) (past : List (List ℕ)) (message : List ℕ) where
  others : RequestKind → List (List ℕ)
  others kind = filter (λ m. is_kind kind (kind_of modem m)) past

  count-is : (kind : RequestKind) (found : Option RequestKind) → kind_of modem message ≡ found
      → count modem kind (message ∷ past) ≡ (if is_kind kind found then count modem kind past + 1 else count modem kind past)
  unfolding others
  count-is kind found is =
      ap (λ (same : Bool). length (if same then message ∷ others kind else others kind)) (ap (is_kind kind) is)
      ∙ count-step (is_kind kind found) (others kind) message

  -- a request of a kind
  pub behind-request : (faults : List FaultRule) (before after : ByKind FaultRule) (kind : RequestKind) → kind_of modem message ≡ Some kind
      → HasBehind modem past faults before → Counts kind before after → HasBehind modem (message ∷ past) faults after
  behind-request faults before after kind is has counts = λ other.
      let mine = own (λ (f : FaultRule). Some f.kind) other faults in
      counts other
      ∙ ap (λ (l : List FaultRule). if is_same kind other then map (nearer 1) l else l) (has other)
      ∙ moved (is_same kind other) (count modem other past) mine
      ∙ ap (λ (n : ℕ). map (nearer n) mine) (sym (count-is other (Some kind) is))

  -- or a message that is none
  pub behind-other : (faults : List FaultRule) (table : ByKind FaultRule) → kind_of modem message ≡ None → HasBehind modem past faults table → HasBehind modem (message ∷ past) faults table
  behind-other faults table is has = λ other.
      has other ∙ ap (λ (n : ℕ). map (nearer n) (own (λ (f : FaultRule). Some f.kind) other faults)) (sym (count-is other None is))

-- ---- the fault for a request ----

found-changed : {A : Type 0} (change : A → A) (b : Bool) (x : A) (changed rest : Option A) → changed ≡ option_map change rest
    → cond b (Some (change x)) changed ≡ option_map change (cond b (Some x) rest)
found-changed change true x changed rest is = refl
found-changed change false x changed rest is = is

module _ (modem : Kind) (past : List (List ℕ)) (kind : RequestKind) where
  due-own : List FaultRule → Option FaultRule
  due-own faults = due (map (nearer (count modem kind past)) (own (λ f. Some f.kind) kind faults))

  due-step : (f : FaultRule) (faults : List FaultRule) (same : Bool) → is_same kind f.kind ≡ same
      → due (map (nearer (count modem kind past)) (if same then f ∷ own (λ f. Some f.kind) kind faults else own (λ f. Some f.kind) kind faults))
      ≡ cond (same && f.nth == count modem kind past + 1) (Some (nearer (count modem kind past) f)) (due-own faults)
  unfolding due-own
  due-step f faults true is = ap (λ b. cond b (Some (nearer (count modem kind past) f)) (due-own faults)) (one-left f.nth (count modem kind past))
  due-step f faults false is = refl

  -- the fault that is due, counted down, is the one for this request
  pub due-for : (faults : List FaultRule) → due (map (nearer (count modem kind past)) (own (λ f. Some f.kind) kind faults)) ≡ option_map (nearer (count modem kind past)) (fault_for modem past kind faults)
  unfolding due-own
  due-for [] = refl
  due-for (f ∷ faults) =
      due-step f faults (is_same kind f.kind) refl
      ∙ found-changed (nearer (count modem kind past)) (is_for modem past kind f) f (due-own faults) (fault_for modem past kind faults) (due-for faults)

-- ---- before any message ----

fault-fresh : (f : FaultRule) → nearer 0 f ≡ f
fault-fresh f = ap (λ nth. record { kind = f.kind; nth = nth; failure = f.failure }) (omega arith)

faults-fresh : (faults : List FaultRule) → map (nearer 0) faults ≡ faults
faults-fresh [] = refl
faults-fresh (f ∷ faults) = ap (λ y. y ∷ map (nearer 0) faults) (fault-fresh f) ∙ ap (λ ys. f ∷ ys) (faults-fresh faults)

pub behind-none : (modem : Kind) (faults : List FaultRule) (table : ByKind FaultRule) → Has (λ f. Some f.kind) faults table → HasBehind modem [] faults table
behind-none modem faults table has = λ kind. has kind ∙ sym (faults-fresh (own (λ f. Some f.kind) kind faults))
