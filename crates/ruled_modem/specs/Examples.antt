-- Worked examples of modems that go by rules, byte for byte. Past messages have the newest first.
use Rattle.std.specs.Prelude.{◌≡◌, ℕ, Bool, false, true, List, [], ◌∷◌, ◌++◌, codes}
use Rattle.kit_bytes.specs.Hex.{hex}
use Rattle.kit_bytes.specs.declared.Kind.TheVariants.{Qmi, Mbim}
use Rattle.kit_bytes.specs.declared.services.TheConstants.{BASIC_CONNECT}
use Rattle.modem_rules.specs.declared.kind.RequestKind.TheVariants.{Message, Command}
use Rattle.modem_rules.specs.declared.rules.Failure.TheVariants.{Refused, Silent, HungUp, Late}
use Rattle.modem_rules.specs.declared.rules.When.TheVariants.{After, Each}
use Rattle.modem_rules.specs.Rules.{Rules}
use Rattle.sim_modem.specs.Sim.{Answering}
use Rattle.ruled_modem.specs.Ruled.{conduct_by, reached, ruled}

-- without rules it answers each message by that message
abbrev pub echo : Answering
echo past message = message

-- ---- QMI ----

-- DMS Get Model, of client id 1
abbrev pub get_model : List ℕ
get_model = hex (codes "01 0C 00 00 02 01 00 01 00 22 00 00 00")

abbrev pub refused : List ℕ
refused = hex (codes "01 13 00 80 02 01 02 01 00 22 00 07 00 02 04 00 01 00 03 00")

-- an indication of CTL
abbrev pub told : List ℕ
told = hex (codes "01 0B 00 80 00 FF 02 00 28 00 00 00")

-- the second such request is refused, the third isn't answered
abbrev pub faulty : Rules
faulty = record {
  answers = [];
  faults = record { kind = Message 2 34; nth = 2; failure = Refused 3 } ∷ record { kind = Message 2 34; nth = 3; failure = Silent } ∷ [];
  indications = record { when = After (Message 2 34); kind = Message 0 40; «data» = [] } ∷ record { when = After (Message 2 34); kind = Message 3 36; «data» = [] } ∷ [];
}

abbrev pub Answers : List (List ℕ) → (message answer : List ℕ) → Type 0
Answers past message answer = ruled Qmi faulty echo past message ≡ answer

pub record FaultsComeInTheirTurn : Type 0 where
  pub first : Answers [] get_model (get_model ++ told)
  pub second : Answers (get_model ∷ []) get_model (refused ++ told)
  pub third : Answers (get_model ∷ get_model ∷ []) get_model told
  pub fourth : Answers (get_model ∷ get_model ∷ get_model ∷ []) get_model (get_model ++ told)
  -- only the first and the fourth reach the modem
  pub reaches : reached Qmi faulty (get_model ∷ get_model ∷ get_model ∷ get_model ∷ []) ≡ get_model ∷ get_model ∷ []
  -- a response is no request
  pub response : Answers [] refused refused

-- the second such request ends its connection
abbrev pub ending : Rules
ending = record { answers = []; faults = record { kind = Message 2 34; nth = 2; failure = HungUp } ∷ []; indications = [] }

abbrev pub HangsUp : Rules → List (List ℕ) → (message : List ℕ) → Bool → Type 0
HangsUp rules past message hung_up = (conduct_by Qmi rules echo).hangs_up past message ≡ hung_up

pub record ConnectionsEndInTheirTurn : Type 0 where
  pub first : HangsUp ending [] get_model false
  pub second : HangsUp ending (get_model ∷ []) get_model true
  pub third : HangsUp ending (get_model ∷ get_model ∷ []) get_model false
  -- it isn't answered, and doesn't reach the modem
  pub silent : ruled Qmi ending echo (get_model ∷ []) get_model ≡ []
  pub reaches : reached Qmi ending (get_model ∷ get_model ∷ []) ≡ get_model ∷ []
  -- a response is no request
  pub response : HangsUp ending (get_model ∷ []) refused false
  -- a request that is refused or isn't answered ends nothing
  pub refuses : HangsUp faulty (get_model ∷ []) get_model false
  pub silence : HangsUp faulty (get_model ∷ get_model ∷ []) get_model false

-- the second such request is answered three ticks later, and each second tick there is the indication
abbrev pub clocked : Rules
clocked = record {
  answers = [];
  faults = record { kind = Message 2 34; nth = 2; failure = Late 3 } ∷ [];
  indications = record { when = Each 2; kind = Message 0 40; «data» = [] } ∷ record { when = Each 2; kind = Message 3 36; «data» = [] } ∷ [];
}

abbrev pub Waits : List (List ℕ) → (ticks : ℕ) → Type 0
Waits past ticks = (conduct_by Qmi clocked echo).late past get_model ≡ ticks

abbrev pub Tells : (tick : ℕ) → List ℕ → Type 0
Tells tick text = (conduct_by Qmi clocked echo).told tick [] ≡ text

pub record TheClockMatters : Type 0 where
  pub first : Waits [] 0
  pub second : Waits (get_model ∷ []) 3
  pub third : Waits (get_model ∷ get_model ∷ []) 0
  -- it is answered by the modem itself, and reaches it at once
  pub answered : ruled Qmi clocked echo (get_model ∷ []) get_model ≡ get_model
  pub reaches : reached Qmi clocked (get_model ∷ get_model ∷ []) ≡ get_model ∷ get_model ∷ []
  -- indications of a service without a client id don't come
  pub none : Tells 1 []
  pub tick : Tells 2 told
  pub again : Tells 4 told

-- ---- MBIM ----

-- for messages of at most 64 bytes
abbrev pub open_64 : List ℕ
open_64 = hex (codes "01 00 00 00 10 00 00 00 01 00 00 00 40 00 00 00")

-- a query of the radio
abbrev pub query : List ℕ
query = hex (codes "03 00 00 00 30 00 00 00 02 00 00 00 01 00 00 00 00 00 00 00 A2 89 CC 33 BC BB 8B 4F B6 B0 13 3E C2 AA E6 DF 03 00 00 00 00 00 00 00 00 00 00 00")

-- what is to be listened to: Packet Service (CID 10) alone
abbrev pub listen : List ℕ
listen = hex (codes "03 00 00 00 54 00 00 00 03 00 00 00 01 00 00 00 00 00 00 00 A2 89 CC 33 BC BB 8B 4F B6 B0 13 3E C2 AA E6 DF 13 00 00 00 01 00 00 00 24 00 00 00 01 00 00 00 0C 00 00 00 18 00 00 00 A2 89 CC 33 BC BB 8B 4F B6 B0 13 3E C2 AA E6 DF 01 00 00 00 0A 00 00 00")

-- a query is answered by 20 bytes, and behind it comes an indication of Signal State (CID 11)
abbrev pub telling : Rules
telling = record {
  answers = record { kind = Command BASIC_CONNECT 3; «data» = hex (codes "00 01 02 03 04 05 06 07 08 09 0A 0B 0C 0D 0E 0F 10 11 12 13") } ∷ [];
  faults = [];
  indications = record { when = After (Command BASIC_CONNECT 3); kind = Command BASIC_CONNECT 11; «data» = 9 ∷ [] } ∷ [];
}

abbrev pub done_whole : List ℕ
done_whole = hex (codes "03 00 00 80 44 00 00 00 02 00 00 00 01 00 00 00 00 00 00 00 A2 89 CC 33 BC BB 8B 4F B6 B0 13 3E C2 AA E6 DF 03 00 00 00 00 00 00 00 14 00 00 00 00 01 02 03 04 05 06 07 08 09 0A 0B 0C 0D 0E 0F 10 11 12 13")

abbrev pub done_64 : List ℕ
done_64 = hex (codes "03 00 00 80 40 00 00 00 02 00 00 00 02 00 00 00 00 00 00 00 A2 89 CC 33 BC BB 8B 4F B6 B0 13 3E C2 AA E6 DF 03 00 00 00 00 00 00 00 14 00 00 00 00 01 02 03 04 05 06 07 08 09 0A 0B 0C 0D 0E 0F 03 00 00 80 18 00 00 00 02 00 00 00 02 00 00 00 01 00 00 00 10 11 12 13")

abbrev pub told_64 : List ℕ
told_64 = hex (codes "07 00 00 80 2D 00 00 00 00 00 00 00 01 00 00 00 00 00 00 00 A2 89 CC 33 BC BB 8B 4F B6 B0 13 3E C2 AA E6 DF 0B 00 00 00 01 00 00 00 09")

abbrev pub Says : List (List ℕ) → (answer : List ℕ) → Type 0
Says past answer = ruled Mbim telling echo past query ≡ answer

pub record HostsAreHeeded : Type 0 where
  -- before OPEN there is no indication
  pub unopened : Says [] done_whole
  pub opened : Says (open_64 ∷ []) (done_64 ++ told_64)
  pub unheard : Says (listen ∷ open_64 ∷ []) done_64
  -- a list before OPEN is none
  pub early : Says (open_64 ∷ listen ∷ []) (done_64 ++ told_64)
