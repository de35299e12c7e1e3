-- Rules that aren't read.
use Rattle.std.proofs.Common.{◌≡◌, ℕ, List, [], Option, Result, Ok, Err, inl, inr, refl, sym, subst}
use Rattle.kit_bytes.specs.declared.Kind.{Kind}
use Rattle.kit_io.proofs.Growth.{Grows-none}
use Rattle.hub_io.proofs.Record.{since-starts}
use Rattle.modem_rules.specs.Answers.{Gives}
use Rattle.modem_rules.specs.Rules.{Rules, rules_view}
use Rattle.modem_rules.specs.declared.fault.RulesFault.{RulesFault}
use Rattle.modem_rules.specs.declared.fault.RulesFault.TheVariants.{Json, NoList, NoRule, OutOfMemory}
use Rattle.sim_runs.specs.Simulating.{Told, StaysAs, SimulatesByText, end_of_rules}

stays : (told : Told) → StaysAs told told
stays told = (Grows-none told.files, since-starts told.hub (λ calls. calls ≡ []) refl)

module _ (profile : Option (List ℕ)) (kind : Kind) (socket : List ℕ) (turns : ℕ) (before : Told) where
  faulty : (fault : RulesFault) (stated : Result Rules RulesFault) → stated ≡ Err fault → SimulatesByText (Err fault) profile kind socket turns before before (end_of_rules fault)
      → SimulatesByText stated profile kind socket turns before before (end_of_rules fault)
  faulty fault stated is refused = subst (λ s. SimulatesByText s profile kind socket turns before before (end_of_rules fault)) (sym is) refused

  pub refused : (fault : RulesFault) (stated : Result Rules RulesFault) → Gives rules_view stated (Err fault) → SimulatesByText stated profile kind socket turns before before (end_of_rules fault)
  refused Json stated is = faulty Json stated is (inl refl, stays before)
  refused (NoList list) stated is = faulty (NoList list) stated is (inl refl, stays before)
  refused (NoRule list place) stated is = faulty (NoRule list place) stated is (inl refl, stays before)
  refused OutOfMemory (Ok rules) is = inr (refl, stays before)
  refused OutOfMemory (Err fault) is = (inr refl, stays before)
