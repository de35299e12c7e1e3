-- Worked examples of values that are rules, and of some that are none. Members stand in the order of their names.
use Rattle.std.specs.Prelude.{◌≡◌, ℕ, false, true, List, [], ◌∷◌, Some, None, codes}
use Rattle.serde_json.specs.Data.{Data, null, boolean, number, string, object, unsigned, Members, no_members, member}
use Rattle.kit_bytes.specs.declared.Kind.TheVariants.{Qmi, Mbim}
use Rattle.modem_rules.specs.declared.kind.RequestKind.TheVariants.{Message, Command}
use Rattle.modem_rules.specs.declared.rules.Failure.TheVariants.{Refused, Silent, HungUp, Late}
use Rattle.modem_rules.specs.declared.rules.When.TheVariants.{After, Each}
use Rattle.modem_rules.specs.Values.{answer_rule, fault_rule, indication_rule}

abbrev pub integer : ℕ → Data
integer n = number (unsigned n)

-- {"data": DIGITS, "message": 34, "service": 2}
abbrev pub answering : (digits : List ℕ) → Data
answering digits = object (member (codes "data") (string digits) (member (codes "message") (integer 34) (member (codes "service") (integer 2) no_members)))

-- {NAME: VALUE, "message": 34, "nth": NTH, "service": 2}
abbrev pub failing : (name : List ℕ) → (value : Data) → (nth : ℕ) → Data
failing name value nth = object (member name value (member (codes "message") (integer 34) (member (codes "nth") (integer nth) (member (codes "service") (integer 2) no_members))))

-- the fault of MBIM's Radio State with this status
abbrev pub mbim_failing : (status : ℕ) → Data
mbim_failing status = object (member (codes "command") (integer 3) (member (codes "error") (integer status) (member (codes "nth") (integer 1)
    (member (codes "service") (string (codes "a289cc33-bcbb-8b4f-b6b0-133ec2aae6df")) no_members))))

-- {"message": 34, "service": 2} and these members in front
abbrev pub request_with : (Members → Members) → Data
request_with more = object (more (member (codes "message") (integer 34) (member (codes "service") (integer 2) no_members)))

-- {"after": AFTER, "data": "", "message": 34, "service": 2}
abbrev pub telling : (after : Data) → Data
telling after = request_with (λ members. member (codes "after") after (member (codes "data") (string []) members))

pub record RulesHaveNoOtherMembers : Type 0 where
  pub answers : answer_rule Qmi (answering (codes "0102")) ≡ Some (record { kind = Message 2 34; «data» = 1 ∷ 2 ∷ [] })
  -- nor fewer
  pub without_data : answer_rule Qmi (request_with (λ members. members)) ≡ None
  pub with_another : answer_rule Qmi (failing (codes "data") (string []) 1) ≡ None
  pub tells : indication_rule Qmi (telling (request_with (λ members. members))) ≡ Some (record { when = After (Message 2 34); kind = Message 2 34; «data» = [] })
  pub after_more : indication_rule Qmi (telling (answering [])) ≡ None

pub record SilenceIsSpelledOut : Type 0 where
  pub refused : fault_rule Qmi (failing (codes "error") (integer 3) 2) ≡ Some (record { kind = Message 2 34; nth = 2; failure = Refused 3 })
  pub silent : fault_rule Qmi (failing (codes "error") null 2) ≡ Some (record { kind = Message 2 34; nth = 2; failure = Silent })
  pub misspelled : fault_rule Qmi (failing (codes "eror") (integer 3) 2) ≡ None
  pub another : fault_rule Qmi (failing (codes "late") (integer 5) 2) ≡ None
  pub none : fault_rule Qmi (failing (codes "error") (integer 0) 2) ≡ None

-- {"error": 3, "hangs_up": true, "message": 34, "nth": 2, "service": 2}
abbrev pub failing_twice : Data
failing_twice = object (member (codes "error") (integer 3) (member (codes "hangs_up") (boolean true)
    (member (codes "message") (integer 34) (member (codes "nth") (integer 2) (member (codes "service") (integer 2) no_members)))))

pub record HangingUpIsSpelledOut : Type 0 where
  pub ended : fault_rule Qmi (failing (codes "hangs_up") (boolean true) 2) ≡ Some (record { kind = Message 2 34; nth = 2; failure = HungUp })
  pub denied : fault_rule Qmi (failing (codes "hangs_up") (boolean false) 2) ≡ None
  pub counted : fault_rule Qmi (failing (codes "hangs_up") (integer 1) 2) ≡ None
  pub missing : fault_rule Qmi (failing (codes "hangs_up") null 2) ≡ None
  -- one request fails in one way
  pub both : fault_rule Qmi failing_twice ≡ None

-- {"message": 34, "nth": 2, "service": 2, "ticks": TICKS} and these members in front
abbrev pub late_with : (Members → Members) → (ticks : ℕ) → Data
late_with more ticks = object (more (member (codes "message") (integer 34) (member (codes "nth") (integer 2) (member (codes "service") (integer 2) (member (codes "ticks") (integer ticks) no_members)))))

abbrev pub late_by : (ticks : ℕ) → Data
late_by ticks = late_with (λ members. members) ticks

pub record LateAnswersAreCounted : Type 0 where
  pub late : fault_rule Qmi (late_by 5) ≡ Some (record { kind = Message 2 34; nth = 2; failure = Late 5 })
  -- by at least one tick
  pub at_once : fault_rule Qmi (late_by 0) ≡ None
  -- ten years of ten ticks a second
  pub ten_years : fault_rule Qmi (late_by 3153600000) ≡ Some (record { kind = Message 2 34; nth = 2; failure = Late 3153600000 })
  pub more : fault_rule Qmi (late_by 4294967296) ≡ None
  -- one request fails in one way
  pub refused : fault_rule Qmi (late_with (λ members. member (codes "error") (integer 3) members) 5) ≡ None
  pub ended : fault_rule Qmi (late_with (λ members. member (codes "hangs_up") (boolean true) members) 5) ≡ None

-- {"data": "", "each": TICKS, "message": 34, "service": 2} and these members in front
abbrev pub ticking_with : (Members → Members) → (ticks : ℕ) → Data
ticking_with more ticks = request_with (λ members. more (member (codes "data") (string []) (member (codes "each") (integer ticks) members)))

abbrev pub ticking : (ticks : ℕ) → Data
ticking ticks = ticking_with (λ members. members) ticks

pub record IndicationsHaveOneTime : Type 0 where
  pub each : indication_rule Qmi (ticking 10) ≡ Some (record { when = Each 10; kind = Message 2 34; «data» = [] })
  pub never : indication_rule Qmi (ticking 0) ≡ None
  pub more : indication_rule Qmi (ticking 4294967296) ≡ None
  pub both : indication_rule Qmi (ticking_with (λ members. member (codes "after") (request_with (λ inside. inside)) members) 10) ≡ None
  pub neither : indication_rule Qmi (answering []) ≡ None

pub record ErrorsHaveTheirSize : Type 0 where
  pub most : fault_rule Qmi (failing (codes "error") (integer 65535) 1) ≡ Some (record { kind = Message 2 34; nth = 1; failure = Refused 65535 })
  pub more : fault_rule Qmi (failing (codes "error") (integer 65536) 1) ≡ None
  pub status : fault_rule Mbim (mbim_failing 65536) ≡ Some (record {
    kind = Command (0xa2 ∷ 0x89 ∷ 0xcc ∷ 0x33 ∷ 0xbc ∷ 0xbb ∷ 0x8b ∷ 0x4f ∷ 0xb6 ∷ 0xb0 ∷ 0x13 ∷ 0x3e ∷ 0xc2 ∷ 0xaa ∷ 0xe6 ∷ 0xdf ∷ []) 3;
    nth = 1;
    failure = Refused 65536;
  })
  pub most_status : fault_rule Mbim (mbim_failing 4294967296) ≡ None
