-- What a modem that goes by rules keeps from message to message.
use Rattle.std.proofs.Common.{◌≡◌, ℕ, ◌+◌, Bool, false, not, is_some, ◌&&◌, true≢false, List, [], ◌∷◌, ◌++◌, Option, Some, None, option_map, slice_get, refl, sym, ap, ◌∙◌, subst}
use Rattle.modem_rules.specs.declared.kind.RequestKind.{RequestKind}
use Rattle.modem_rules.specs.Rules.{Rules}
use Rattle.sim_modem.specs.Sim.{Answering}
use Rattle.served_sim.specs.Conduct.{Conduct}
use Rattle.ruled_modem.specs.Requests.{kind_of}
use Rattle.modem_rules.specs.declared.rules.AnswerRule.{AnswerRule}
use Rattle.modem_rules.specs.declared.rules.Failure.{Failure}
use Rattle.modem_rules.specs.declared.rules.FaultRule.{FaultRule}
use Rattle.modem_rules.specs.declared.rules.IndicationRule.{IndicationRule}
use Rattle.modem_rules.specs.declared.rules.When.{When}
use Rattle.modem_rules.specs.declared.rules.When.TheVariants.{After, Each}
use Rattle.modem_rules.specs.Kinds.{is_same}
use Rattle.ruled_modem.specs.Turns.{all_told, answer_to, answer_text, behind, hangs_up, is_at, late_by, passed, told_at, told_to}
use Rattle.ruled_modem.specs.Ruled.{conduct_by, count, fault_for, failure_at, failure_for, hangs_up_by, reached, reached_by, ruled_by}
use Rattle.ruled_modem.specs.Host.{Host, fresh, hears, host_after, longest}
use Rattle.ruled_modem.specs.Keeping.{ByKind, Counts, Has, failing, nearer, others, own, rules_for, Ruled, Keeps}
use Rattle.ruled_modem.proofs.Nearer.{behind-none, behind-request, behind-other, due-for}
use Rattle.ruled_modem.proofs.Tables.{first-own, picked-among}

-- before any message
pub keeps-fresh : {S : Type 0} (keeps : Answering → List (List ℕ) → S → Type 0) (rules : Rules) (answers : Answering) (r : Ruled S) → keeps answers [] r.sim → r.host ≡ fresh
    → Has (λ rule. Some rule.kind) rules.answers r.answers → Has (λ rule. Some rule.kind) rules.faults r.faults → Has (λ rule. behind rule.when) rules.indications r.indications
    → r.timed ≡ others (λ rule. behind rule.when) rules.indications → r.ticks ≡ 0 → Keeps keeps 0 (conduct_by r.kind rules answers) [] r
keeps-fresh keeps rules answers r kept host has_answers has_faults has_indications has_timed ticks = record {
  given = rules;
  answers = answers;
  same = refl;
  modem = kept;
  host = host;
  rules = record { answers = has_answers; faults = behind-none r.kind rules.faults r.faults has_faults; indications = has_indications; timed = has_timed };
  clock = ticks;
}

module _ {S : Type 0} (keeps : Answering → List (List ℕ) → S → Type 0) (ticks : ℕ) (conduct : Conduct) (past : List (List ℕ)) (r : Ruled S) (message : List ℕ)
    (K : Keeps keeps ticks conduct past r) where
  before : List (List ℕ)
  before = reached r.kind K.given past

  by : Option RequestKind → List ℕ
  by found = ruled_by r.kind K.given K.answers past before message found

  through : Option RequestKind → List (List ℕ)
  through found = reached_by r.kind K.given past before message found

  -- ---- a message that is no request reaches the modem itself ----

  pub answers-other : kind_of r.kind message ≡ None → conduct.answers past message ≡ K.answers (reached r.kind K.given past) message
  unfolding by before
  answers-other none = ap (λ (c : Conduct). c.answers past message) K.same ∙ ap by none

  pub keeps-other : (sim : S) (host : Host) → kind_of r.kind message ≡ None → keeps K.answers (message ∷ reached r.kind K.given past) sim
      → host ≡ host_after r.kind K.answers (message ∷ reached r.kind K.given past) → Keeps keeps ticks conduct (message ∷ past) (record r { sim = sim; host = host })
  unfolding through before
  keeps-other sim host none kept is = record {
    given = K.given;
    answers = K.answers;
    same = K.same;
    modem = subst (λ l. keeps K.answers l sim) (sym (ap through none)) kept;
    host = is ∙ ap (host_after r.kind K.answers) (sym (ap through none));
    rules = record { answers = K.rules.answers; faults = behind-other r.kind past message K.given.faults r.faults none K.rules.faults; indications = K.rules.indications; timed = K.rules.timed };
    clock = K.clock;
  }

  -- ---- a request of a kind is met by the rules as they are then ----

  behind-is : (n : ℕ) (fault : Option FaultRule) → option_map (λ (f : FaultRule). f.failure) (option_map (nearer n) fault) ≡ option_map (λ (f : FaultRule). f.failure) fault
  behind-is n None = refl
  behind-is n (Some fault) = refl

  -- the request fails as the fault for it says
  failing-is : (kind : RequestKind) → failing (rules_for kind r.faults) ≡ failure_for r.kind past kind K.given.faults
  failing-is kind =
      ap failing (K.rules.faults kind)
      ∙ ap (option_map (λ (f : FaultRule). f.failure)) (due-for r.kind past kind K.given.faults)
      ∙ behind-is (count r.kind kind past) (fault_for r.kind past kind K.given.faults)

  first-is : (kind : RequestKind) → slice_get (rules_for kind r.answers) 0 ≡ answer_to kind K.given.answers
  first-is kind = ap (λ (rules : List AnswerRule). slice_get rules 0) (K.rules.answers kind) ∙ first-own (λ (rule : AnswerRule). is_same kind rule.kind) K.given.answers

  -- what is said, by how it fails and the rules for the kind
  said : Option Failure → Option AnswerRule → List IndicationRule → List ℕ
  said failure rule indications =
      answer_text r.kind K.answers before (longest (host_after r.kind K.answers before)) message failure rule ++ all_told (host_after r.kind K.answers (passed before message failure rule)) indications

  pub answers-request : (kind : RequestKind) → kind_of r.kind message ≡ Some kind
      → conduct.answers past message
      ≡ answer_text r.kind K.answers (reached r.kind K.given past) (longest (host_after r.kind K.answers (reached r.kind K.given past))) message (failing (rules_for kind r.faults)) (slice_get (rules_for kind r.answers) 0)
      ++ all_told (host_after r.kind K.answers (passed (reached r.kind K.given past) message (failing (rules_for kind r.faults)) (slice_get (rules_for kind r.answers) 0))) (rules_for kind r.indications)
  unfolding by before said
  answers-request kind some =
      let mine = own (λ (rule : IndicationRule). behind rule.when) kind K.given.indications in
      ap (λ (c : Conduct). c.answers past message) K.same ∙ ap by some
      ∙ sym (ap (λ (failure : Option Failure). said failure (answer_to kind K.given.answers) mine) (failing-is kind))
      ∙ sym (ap (λ (rule : Option AnswerRule). said (failing (rules_for kind r.faults)) rule mine) (first-is kind))
      ∙ sym (ap (λ (rules : List IndicationRule). said (failing (rules_for kind r.faults)) (slice_get (rules_for kind r.answers) 0) rules) (K.rules.indications kind))

  pub stays-other : kind_of r.kind message ≡ None → conduct.hangs_up past message ≡ false
  stays-other none = ap (λ (c : Conduct). c.hangs_up past message) K.same ∙ ap (hangs_up_by r.kind K.given past) none

  failure-is : (kind : RequestKind) → kind_of r.kind message ≡ Some kind → failure_at r.kind K.given past (kind_of r.kind message) ≡ failing (rules_for kind r.faults)
  failure-is kind some = ap (failure_at r.kind K.given past) some ∙ sym (failing-is kind)

  pub hangs-request : (kind : RequestKind) → kind_of r.kind message ≡ Some kind → conduct.hangs_up past message ≡ hangs_up (failing (rules_for kind r.faults))
  hangs-request kind some = ap (λ (c : Conduct). c.hangs_up past message) K.same ∙ ap hangs_up (failure-is kind some)

  pub late-other : kind_of r.kind message ≡ None → conduct.late past message ≡ 0
  late-other none = ap (λ (c : Conduct). c.late past message) K.same ∙ ap (λ (found : Option RequestKind). late_by (failure_at r.kind K.given past found)) none

  pub late-request : (kind : RequestKind) → kind_of r.kind message ≡ Some kind → conduct.late past message ≡ late_by (failing (rules_for kind r.faults))
  late-request kind some = ap (λ (c : Conduct). c.late past message) K.same ∙ ap late_by (failure-is kind some)

  goes : Option Failure → Option AnswerRule → List (List ℕ)
  goes failure rule = passed before message failure rule

  reaches-is : (kind : RequestKind) → kind_of r.kind message ≡ Some kind
      → reached r.kind K.given (message ∷ past) ≡ passed before message (failing (rules_for kind r.faults)) (slice_get (rules_for kind r.answers) 0)
  unfolding through before goes
  reaches-is kind some =
      ap through some
      ∙ sym (ap (λ (failure : Option Failure). goes failure (answer_to kind K.given.answers)) (failing-is kind))
      ∙ sym (ap (λ (rule : Option AnswerRule). goes (failing (rules_for kind r.faults)) rule) (first-is kind))

  pub keeps-request : (sim : S) (host : Host) (faults : ByKind FaultRule) (kind : RequestKind) → kind_of r.kind message ≡ Some kind → Counts kind r.faults faults
      → keeps K.answers (passed (reached r.kind K.given past) message (failing (rules_for kind r.faults)) (slice_get (rules_for kind r.answers) 0)) sim
      → host ≡ host_after r.kind K.answers (passed (reached r.kind K.given past) message (failing (rules_for kind r.faults)) (slice_get (rules_for kind r.answers) 0))
      → Keeps keeps ticks conduct (message ∷ past) (record r { sim = sim; host = host; faults = faults })
  unfolding before
  keeps-request sim host faults kind some counts kept is = record {
    given = K.given;
    answers = K.answers;
    same = K.same;
    modem = subst (λ l. keeps K.answers l sim) (sym (reaches-is kind some)) kept;
    host = is ∙ ap (host_after r.kind K.answers) (sym (reaches-is kind some));
    rules = record { answers = K.rules.answers; faults = behind-request r.kind past message K.given.faults r.faults faults kind some K.rules.faults counts; indications = K.rules.indications; timed = K.rules.timed };
    clock = K.clock;
  }

-- ---- a tick of the clock ----

-- what is sent by the clock is behind no request
by-clock : (tick : ℕ) (host : Host) (rule : IndicationRule) → not (is_some (behind rule.when)) ≡ false → (is_at tick rule.when && hears host rule.kind) ≡ false
by-clock tick host rule = by rule.when
  where
    by : (when : When) → not (is_some (behind when)) ≡ false → (is_at tick when && hears host rule.kind) ≡ false
    by (After kind) is = refl
    by (Each ticks) is = absurd (true≢false is)

module _ {S : Type 0} (keeps : Answering → List (List ℕ) → S → Type 0) (ticks : ℕ) (conduct : Conduct) (past : List (List ℕ)) (r : Ruled S) (K : Keeps keeps ticks conduct past r) where
  pub tells-at : (tick : ℕ) → tick ≡ r.ticks + 1 → told_at tick r.host r.timed ≡ conduct.told (ticks + 1) past
  tells-at tick is =
      let host : Host = host_after r.kind K.answers (reached r.kind K.given past) in
      let test : ℕ → Host → IndicationRule → Bool = λ n h rule. is_at n rule.when && hears h rule.kind in
      ap (λ (n : ℕ). told_at n r.host r.timed) (is ∙ ap (λ (n : ℕ). n + 1) K.clock)
      ∙ ap (λ (h : Host). told_at (ticks + 1) h r.timed) K.host
      ∙ ap (λ (rules : List IndicationRule). told_at (ticks + 1) host rules) K.rules.timed
      ∙ ap (told_to host) (picked-among (test (ticks + 1) host) (λ (rule : IndicationRule). not (is_some (behind rule.when))) (by-clock (ticks + 1) host) K.given.indications)
      ∙ sym (ap (λ (c : Conduct). c.told (ticks + 1) past) K.same)

  pub keeps-tick : (tick : ℕ) → tick ≡ r.ticks + 1 → Keeps keeps (ticks + 1) conduct past (record r { ticks = tick })
  keeps-tick tick is = record {
    given = K.given;
    answers = K.answers;
    same = K.same;
    modem = K.modem;
    host = K.host;
    rules = record { answers = K.rules.answers; faults = K.rules.faults; indications = K.rules.indications; timed = K.rules.timed };
    clock = is ∙ ap (λ (n : ℕ). n + 1) K.clock;
  }
