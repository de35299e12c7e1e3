-- Indications that are told are sound.
use Rattle.std.proofs.Common.{◌≡◌, ℕ, Bool, true, false, List, [], ◌∷◌, ◌++◌, Option, Some, None, Result, Ok, Err, IfOk, chars, fold, subst, if◌then◌else◌}
use Rattle.std.specs.List.{AllByRecursion}
use Rattle.serde_json.specs.Data.{Data, Items}
use Rattle.message_tables.specs.Comments.{json_text}
use Rattle.message_tables.specs.Definitions.{Names, named_by}
use Rattle.message_tables.specs.Members.{text_in, objects_in}
use Rattle.message_tables.specs.Messages.{MessageForm, message_with}
use Rattle.message_tables.specs.Objects.{sort_of}
use Rattle.message_tables.specs.Tables.{value_of}
use Rattle.message_tables.specs.WellMade.{IsSoundMessage}
use Rattle.message_tables.specs.declared.fault.MemberName.TheVariants.{Name, Service}
use Rattle.message_tables.proofs.Soundness.{AreDefined}
use Rattle.message_tables.proofs.SoundTables.{message_with-well, first-defined}
use Rattle.named_messages.specs.declared.fault.NamedFault.{NamedFault}
use Rattle.named_messages.specs.Reading.{list_of}
use Rattle.named_messages.specs.Services.{service_called}
use Rattle.named_messages.proofs.Sound.{AreGood, defined_with-good, message_by-sound}
use Rattle.named_messages.specs.Told.{Told, indication_for, indication_in, indication_of, indications_in, is_indication, nothing_told, told_among, told_in, told_of, told_with, with_read}

-- ---- one indication ----

module _ (names : Names) (defined : AreDefined names) (entry : Data) where
  for-sound : (name : List ℕ) (service : Option ℕ) → IfOk (indication_for names entry name service) IsSoundMessage
  for-sound name None = tt
  for-sound name (Some service) = message_by-sound (message_with names entry true (chars name) service) (message_with-well names defined entry true (chars name) service)

  of-sound : (name service : Option (List ℕ)) → IfOk (indication_of names entry name service) IsSoundMessage
  of-sound None service = tt
  of-sound (Some name) None = tt
  of-sound (Some name) (Some service) = for-sound name (service_called service)

  in-sound : IfOk (indication_in names entry) IsSoundMessage
  unfolding indication_in
  in-sound = of-sound (text_in Name entry) (text_in Service entry)

-- ---- what is told so far ----

abbrev AreSound : List MessageForm → Type 0
AreSound messages = AllByRecursion IsSoundMessage messages

sound-push : (messages : List MessageForm) (message : MessageForm) → AreSound messages → IsSoundMessage message → AreSound (messages ++ message ∷ [])
sound-push [] message each is = (is, tt)
sound-push (first ∷ messages) message each is = (each.0, sound-push messages message each.1 is)

with-sound : (earlier : List MessageForm) (result : Result MessageForm NamedFault) → AreSound earlier → IfOk result IsSoundMessage → AreSound (with_read earlier result)
with-sound earlier (Ok message) each is = sound-push earlier message each is
with-sound earlier (Err fault) each is = each

record IsGood (told : Told) : Type 0 where
  defined : AreGood told.definitions
  each : AreSound told.messages

module _ (told : Told) (good : IsGood told) (entry : Data) where
  still_sound : (b : Bool) → AreSound (if b then with_read told.messages (indication_in (named_by told.definitions) entry) else told.messages)
  still_sound true = with-sound told.messages (indication_in (named_by told.definitions) entry) good.each (in-sound (named_by told.definitions) good.defined entry)
  still_sound false = good.each

  one-good : IsGood (told_with told entry)
  one-good = record { defined = defined_with-good told.definitions entry good.defined; each = still_sound (is_indication (sort_of entry)) }

all-good : (told : Told) (objects : List Data) → IsGood told → IsGood (fold told_with told objects)
all-good told [] good = good
all-good told (entry ∷ objects) good = all-good (told_with told entry) objects (one-good told good entry)

told-sound : (objects : List Data) → AreSound (told_in objects)
unfolding told_in
told-sound objects = (all-good nothing_told objects (record { defined = first-defined; each = tt })).each

among-sound : (objects : Option Items) → IfOk (told_among objects) AreSound
among-sound None = tt
among-sound (Some objects) = told-sound (list_of objects)

json-sound : (json : Option Data) → IfOk (told_of json) AreSound
json-sound None = tt
json-sound (Some json) = among-sound (objects_in json)

text-sound : (text : List ℕ) → IfOk (indications_in text) AreSound
unfolding indications_in
text-sound text = json-sound (value_of (json_text text))

pub sound_from : (text : List ℕ) (told : List MessageForm) → indications_in text ≡ Ok told → AllByRecursion IsSoundMessage told
sound_from text told is = subst (λ (found : Result (List MessageForm) NamedFault). IfOk found AreSound) is (text-sound text)
