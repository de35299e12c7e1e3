-- Keys of messages, and messages that come twice.
use Rattle.std.proofs.lemmas.Grind.{common_steps}
use Rattle.std.proofs.Common.{rules, ◌≡◌, ℕ, Bool, true, false, cond, ◌||◌, List, [], ◌∷◌, ◌++◌, map, find, Option, Some, None, is_some, option_map, option_copied, Bor, Ok, refl, sym, ap, ◌∙◌}
use Rattle.std.proofs.lemmas.List.{map_push}
use Rattle.std.proofs.lemmas.Map.Made.{is_some-lookup}
use Rattle.std.specs.List.{list_any}
use Rattle.std.specs.Map.{keys_of, values_of, lookup}
use Rattle.indexmap.specs.IndexMap.{IndexMap, keys, values, insert_entry}
use Rattle.indexmap.proofs.CallerLemmas.{insert_entry-new}
use Rattle.message_tables.specs.declared.message.Message.{Message}
use Rattle.message_tables.specs.declared.message.MessageKey.{MessageKey}
use Rattle.message_tables.specs.contracts.message.MessageKeyPartialEq.TheImpl.{eq-value}
use Rattle.message_tables.specs.Reading.{known}
use Rattle.message_tables.specs.Messages.{MessageForm, is_among, is_key, comes_twice, is_deep}
use Rattle.message_tables.specs.Objects.{Described, with_message}
use Rattle.message_tables.specs.Keys.{key_of, same_key, AreKeyed}
use Rattle.message_tables.specs.View.{message_view, messages_in}

-- keys are compared field by field
pub same-same : eq-value.it ≡ same_key
same-same = λ i key other. equal key other i
  where
    equal : (key other : MessageKey) → eq-value.it key other ≡ same_key key other
    equal key other = search (rules, common_steps)

-- ---- looking a message up by its key ----

seen-either : (b : Bool) (message : Message) (rest : Option Message) (seen : Option MessageForm) → option_map message_view rest ≡ seen
    → option_map message_view (cond b (Some message) rest) ≡ cond b (Some (message_view message)) seen
seen-either true message rest seen same = refl
seen-either false message rest seen same = same

pub find-lookup : (service id : ℕ) (indication : Bool) (entries : List (MessageKey × Message)) → AreKeyed entries
    → option_map message_view (lookup (same_key (record { service = service; id = id; indication = indication })) entries)
    ≡ find (is_key service id indication) (messages_in (values_of entries))
find-lookup service id indication [] keyed = refl
find-lookup service id indication (entry ∷ more) keyed =
    let key : entry.0 ≡ key_of (message_view entry.1) = cc in
    let rest : AreKeyed more = cc in
    rw key (seen-either (is_key service id indication (message_view entry.1)) entry.1 _ _ (find-lookup service id indication more rest))

among-keys : (message : MessageForm) (earlier : List MessageForm) → list_any (same_key (key_of message)) (map key_of earlier) ≡ is_among message earlier
among-keys message [] = refl
among-keys message (first ∷ more) = ap (λ b. is_key message.service message.id message.indication first || b) (among-keys message more)

-- a message's key is found exactly where the message is among those that stand behind their keys
pub among-lookup : (message : MessageForm) (entries : List (MessageKey × Message)) → AreKeyed entries
    → is_some (lookup (same_key (key_of message)) entries) ≡ is_among message (messages_in (values_of entries))
among-lookup message entries keyed =
    is_some-lookup (same_key (key_of message)) entries ∙ ap (list_any (same_key (key_of message))) keyed ∙ among-keys message (messages_in (values_of entries))

-- what is lent of a message is what is seen of it
pub seen-lent : (lent : Option (Bor Message)) → option_map (λ message. message_view message.now) lent ≡ option_map message_view (option_copied lent)
seen-lent None = refl
seen-lent (Some message) = refl

-- ---- one message more ----

none-of : {A : Type 0} (found : Option A) → is_some found ≡ false → found ≡ None
none-of None absent = refl
none-of (Some a) absent = absurd cc

module _ {S : Type 0} (map_of : IndexMap MessageKey Message S) (key : MessageKey) (message : Message) (keyed : AreKeyed map_of.entries) (is : key ≡ key_of (message_view message))
    (new : is_among (message_view message) (messages_in (values map_of)) ≡ false) where
  goes_last : insert_entry same_key map_of.entries key message ≡ map_of.entries ++ (key, message) ∷ []
  goes_last =
      insert_entry-new same_key map_of key message
      (none-of _ (ap (λ (k : MessageKey). is_some (lookup (same_key k) map_of.entries)) is ∙ among-lookup (message_view message) map_of.entries keyed ∙ new))

  pub values-inserted : values_of (insert_entry same_key map_of.entries key message) ≡ values map_of ++ message ∷ []
  values-inserted = ap values_of goes_last ∙ map_push (λ (e : MessageKey × Message). e.1) map_of.entries (key, message)

  pub AreKeyed-inserted : AreKeyed (insert_entry same_key map_of.entries key message)
  AreKeyed-inserted =
      ap keys_of goes_last
      ∙ map_push (λ (e : MessageKey × Message). e.0) map_of.entries (key, message)
      ∙ ap (λ (k : MessageKey). keys map_of ++ k ∷ []) is
      ∙ ap (λ (ks : List MessageKey). ks ++ key_of (message_view message) ∷ []) keyed
      ∙ sym (map_push key_of (messages_in (values map_of)) (message_view message))
      ∙ ap (map key_of) (sym (map_push message_view (values map_of) message))
      ∙ ap (λ (ms : List Message). map key_of (messages_in ms)) (sym values-inserted)

-- ---- what comes twice ----

-- a message that is neither refused nor deep goes behind the others
pub with_message-taken : (so_far : Described) (message : MessageForm) → comes_twice message so_far.messages ≡ false → is_deep message ≡ false
    → with_message so_far (known (Some message)) ≡ Ok (record so_far { messages = so_far.messages ++ message ∷ [] })
with_message-taken so_far message once flat = rw (once, flat) refl
