-- What the modem is, and what commands change of it.
use Rattle.std.specs.Prelude.{ℕ, ◌-◌, Bool, true, false, List, [], ◌++◌, length, map, replicate, Option, Some, None, option_map}
use Rattle.kit_bytes.specs.Subscriptions.{Pair}
use Rattle.kit_bytes.specs.Services.{starting_list}
use Rattle.mbim_fields.specs.Value.{Value}
use Rattle.modem_profile.specs.Profile.{Profile}
use Rattle.modem_profile.specs.declared.phonebook.PhonebookEntry.{PhonebookEntry}

pub record Modem : Type 0 where
  -- with which it was started
  pub profile : Profile
  -- whether it was opened
  pub opened : Bool
  -- how many bytes a message has at most that it sends
  pub longest : ℕ
  -- what the host listens to
  pub subscribed : List Pair
  -- whether the radio is on
  pub radio : Bool
  -- whether the packet service is attached
  pub attached : Bool
  -- the sessions that are connected
  pub sessions : List ℕ
  pub messages : List (Option (List ℕ))
  pub entries : List (Option PhonebookEntry)

-- how many places the phone book has
abbrev pub places : ℕ
places = 100

abbrev pub started : Profile → Modem
started p = record {
  profile = p;
  opened = false;
  longest = 4096;
  subscribed = starting_list;
  radio = true;
  attached = true;
  sessions = [];
  messages = map Some p.sms;
  entries = map Some p.phonebook ++ replicate (places - length p.phonebook) None;
}

-- ---- what a set comes to, where it has a meaning ----

pub record Outcome : Type 0 where
  -- of the answer's fields
  pub values : List Value
  pub modem : Modem

abbrev pub becomes : Modem → List Value → Option Outcome
becomes m values = Some (record { values = values; modem = m })

-- the modem only tells something
abbrev pub unchanged : Modem → Option (List Value) → Option Outcome
unchanged m told = option_map (λ values. record { values = values; modem = m }) told

abbrev pub values_told : Option Outcome → Option (List Value)
values_told outcome = option_map (λ o. o.values) outcome

-- where it has no meaning, nothing changes
abbrev pub modem_left : Modem → Option Outcome → Modem
modem_left m None = m
modem_left m (Some outcome) = outcome.modem
