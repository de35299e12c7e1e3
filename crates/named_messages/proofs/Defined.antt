-- What objects define.
use Rattle.std.proofs.Common.{◌≡◌, List, ◌∷◌, ℕ, Bool, true, false, Option, Some, bytes_eq, Result, Err, refl, sym, ap, ◌∙◌, if◌then◌else◌}
use Rattle.serde_json.specs.Data.{Data}
use Rattle.message_tables.specs.Definitions.{Definition, Names, named_by}
use Rattle.message_tables.specs.Objects.{definition_of}
use Rattle.message_tables.specs.Reading.{Reading, faulty, unknown, known}
use Rattle.message_tables.specs.Reads.{Finds}
use Rattle.message_tables.specs.Tlvs.{nests_well}
use Rattle.message_tables.specs.declared.fault.ObjectFault.{ObjectFault}
use Rattle.message_tables.specs.declared.fault.ObjectFault.TheVariants.{Member, Format, Twice, Deep, OutOfMemory}
use Rattle.named_messages.specs.Faults.{is_memory}
use Rattle.named_messages.specs.Reading.{Definitions, defined_by}

-- an object that can't be read defines nothing
unread : {T : Type 0} (seen : T → List ℕ × Definition) (earlier : Definitions) (reading : Reading (List ℕ × Definition)) (fault : ObjectFault)
    → Finds seen (Err fault) reading → is_memory fault ≡ false → defined_by earlier reading ≡ earlier
unread seen earlier reading (Member which) finds other = rw finds refl
unread seen earlier reading Format finds other = rw finds refl
unread seen earlier reading Twice finds other = absurd finds
unread seen earlier reading Deep finds other = absurd finds
unread seen earlier reading OutOfMemory finds other = absurd cc

module _ (names : Names) (entry : Data) (earlier : Definitions) (are : names ≡ named_by earlier) where
  again : (reading : Reading (List ℕ × Definition)) → definition_of names entry ≡ reading → definition_of (named_by earlier) entry ≡ reading
  again reading is = ap (λ (n : Names). definition_of n entry) (sym are) ∙ is

  pub defined_as : (reading : Reading (List ℕ × Definition)) → definition_of names entry ≡ reading → (new : Names) → new ≡ named_by (defined_by earlier reading)
      → new ≡ named_by (defined_by earlier (definition_of (named_by earlier) entry))
  defined_as reading is new all = all ∙ ap (λ r. named_by (defined_by earlier r)) (sym (again reading is))

  pub undefined_as : {T : Type 0} (seen : T → List ℕ × Definition) (fault : ObjectFault) → Finds seen (Err fault) (definition_of names entry) → is_memory fault ≡ false
      → names ≡ named_by (defined_by earlier (definition_of (named_by earlier) entry))
  undefined_as seen fault finds other =
      are ∙ ap named_by (sym (ap (defined_by earlier) (again (definition_of names entry) refl) ∙ unread seen earlier (definition_of names entry) fault finds other))

module _ (names : Names) (earlier : Definitions) (are : names ≡ named_by earlier) where
  pub flat_as : (definition : List ℕ × Definition) → nests_well definition.1.form ≡ true → (new : Names)
      → ((name : List ℕ) → new name ≡ (if bytes_eq definition.0 name then Some definition.1 else names name)) → new ≡ named_by (defined_by earlier (known definition))
  flat_as definition flat new each =
      rw flat (λ i name. (each name ∙ ap (λ (n : Names). if bytes_eq definition.0 name then Some definition.1 else n name) are) i)

  pub deep_as : (definition : List ℕ × Definition) → nests_well definition.1.form ≡ false → names ≡ named_by (defined_by earlier (known definition))
  deep_as definition deep = rw deep are
