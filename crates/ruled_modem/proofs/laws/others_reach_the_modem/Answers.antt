use Rattle.std.proofs.Common.{◌≡◌, ℕ, ◌+◌, ◌==◌, ◌&&◌, Bool, true, false, if◌then◌else◌, cond, List, [], ◌∷◌, ◌++◌, filter, find, slice_get, Option, Some, None, option_map, refl, sym, ap, ◌∙◌, append-nil}
use Rattle.kit_bytes.specs.declared.Kind.{Kind}
use Rattle.modem_rules.specs.declared.kind.RequestKind.{RequestKind}
use Rattle.modem_rules.specs.declared.rules.AnswerRule.{AnswerRule}
use Rattle.modem_rules.specs.declared.rules.Failure.{Failure}
use Rattle.modem_rules.specs.declared.rules.FaultRule.{FaultRule}
use Rattle.modem_rules.specs.declared.rules.IndicationRule.{IndicationRule}
use Rattle.modem_rules.specs.Kinds.{is_same}
use Rattle.modem_rules.specs.Rules.{Rules}
use Rattle.sim_modem.specs.Sim.{Answering}
use Rattle.ruled_modem.specs.Requests.{kind_of}
use Rattle.ruled_modem.specs.Host.{host_after, longest}
use Rattle.ruled_modem.specs.Turns.{all_told, answer_to, answer_text, behind, hangs_up, is_own, late_by, passed}
use Rattle.ruled_modem.specs.Ruled.{count, fault_for, failure_at, failure_for, hangs_up_by, reached, reached_by, ruled_by}
use Rattle.ruled_modem.specs.Laws.{IsFree}
use Rattle.ruled_modem.proofs.Tables.{first-own}
use Rattle.ruled_modem.proofs.laws.others_reach_the_modem.Goals as goal

found-if : {A : Type 0} (also : A → Bool) (same : Bool) (x : A) (own : List A) → find also (if same then x ∷ own else own) ≡ cond (same && also x) (Some x) (find also own)
found-if also true x own = refl
found-if also false x own = refl

find-own : {A : Type 0} (test also : A → Bool) (xs : List A) → find also (filter test xs) ≡ find (λ x. test x && also x) xs
find-own test also [] = refl
find-own test also (x ∷ xs) = found-if also (test x) x (filter test xs) ∙ ap (λ rest. cond (test x && also x) (Some x) rest) (find-own test also xs)

module _ (modem : Kind) (rules : Rules) (past : List (List ℕ)) (message : List ℕ) (kind : RequestKind) (free : IsFree rules kind) where
  fault-none : fault_for modem past kind rules.faults ≡ None
  fault-none =
      let also : FaultRule → Bool = λ fault. fault.nth == count modem kind past + 1 in
      sym (find-own (λ (fault : FaultRule). is_same kind fault.kind) also rules.faults) ∙ ap (find also) free.faults

  failure-none : failure_for modem past kind rules.faults ≡ None
  failure-none = ap (option_map (λ (fault : FaultRule). fault.failure)) fault-none

  answer-none : answer_to kind rules.answers ≡ None
  answer-none = sym (first-own (λ (rule : AnswerRule). is_same kind rule.kind) rules.answers) ∙ ap (λ (own : List AnswerRule). slice_get own 0) free.answers

  before : List (List ℕ)
  before = reached modem rules past

  said-by : Answering → Option Failure → Option AnswerRule → List IndicationRule → List ℕ
  said-by answers failure rule own =
      answer_text modem answers before (longest (host_after modem answers before)) message failure rule ++ all_told (host_after modem answers (passed before message failure rule)) own

  pub said : (answers : Answering) → kind_of modem message ≡ Some kind → ruled_by modem rules answers past (reached modem rules past) message (kind_of modem message) ≡ answers (reached modem rules past) message
  unfolding before said-by
  said answers is =
      ap (λ (found : Option RequestKind). ruled_by modem rules answers past before message found) is
      ∙ ap (λ (failure : Option Failure). said-by answers failure (answer_to kind rules.answers) (filter (λ rule. is_own kind (behind rule.when)) rules.indications)) failure-none
      ∙ ap (λ (rule : Option AnswerRule). said-by answers None rule (filter (λ rule. is_own kind (behind rule.when)) rules.indications)) answer-none
      ∙ ap (λ (own : List IndicationRule). said-by answers None None own) free.indications
      ∙ append-nil (answers before message)

  pub goes : kind_of modem message ≡ Some kind → reached_by modem rules past (reached modem rules past) message (kind_of modem message) ≡ message ∷ reached modem rules past
  unfolding before
  goes is =
      ap (λ (found : Option RequestKind). reached_by modem rules past before message found) is
      ∙ ap (λ (failure : Option Failure). passed before message failure (answer_to kind rules.answers)) failure-none
      ∙ ap (λ (rule : Option AnswerRule). passed before message None rule) answer-none

  pub stays : kind_of modem message ≡ Some kind → hangs_up_by modem rules past (kind_of modem message) ≡ false
  stays is = ap (λ (found : Option RequestKind). hangs_up_by modem rules past found) is ∙ ap hangs_up failure-none

  pub at-once : kind_of modem message ≡ Some kind → late_by (failure_at modem rules past (kind_of modem message)) ≡ 0
  at-once is = ap (λ (found : Option RequestKind). late_by (failure_at modem rules past found)) is ∙ ap late_by failure-none

pub returns : goal.returns
returns c = record {
  answered = λ modem rules answers past message kind is free. said modem rules past message kind free answers is;
  reaches = λ modem rules past message kind is free. goes modem rules past message kind free is;
  stays = λ modem rules past message kind is free. stays modem rules past message kind free is;
  at_once = λ modem rules past message kind is free. at-once modem rules past message kind free is;
}
