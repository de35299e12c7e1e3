-- What a request says of its message.
use Rattle.std.proofs.Common.{◌≡◌, ℕ, ◌≤◌, Bool, true, false, not, ◌&&◌, ◌==◌, nat_le, List, length, refl, ap, ◌∙◌, arith, if◌then◌else◌}
use Rattle.std.specs.Prelude.{nat_lt}
use Rattle.std.proofs.lemmas.Bool.{eqb-true, and_parts}
use Rattle.std.proofs.lemmas.Bool.Decides.{nat_tests}
use Rattle.mbim_frame.specs.declared.kind.MessageKind.TheVariants as kind
use Rattle.mbim_frame.specs.Numbers.{u32_at}
use Rattle.mbim_frame.specs.Head.{kind_of, is_kind}
use Rattle.mbim_fragments.specs.Runs.{Joining}
use Rattle.mbim_fragments.specs.Assembling.{joining_behind}
use Rattle.mbim_proxy.specs.Setup.{Setup}
use Rattle.mbim_proxy.specs.Known.{Known}
use Rattle.mbim_proxy.specs.OwnReplies as own
use Rattle.mbim_proxy.specs.OwnReplies.{OwnReply, reply_to_open, reply_to_close, reply_to_joining, own_reply, is_open_request, is_command_fragment, may_open, is_for_modem, view_decides}
use Rattle.mbim_clients.specs.declared.request.Request.{Request}
use Rattle.mbim_clients.specs.declared.request.Request.TheVariants.{HostError, Open, Close, Command, Wrong}
use Rattle.mbim_clients.specs.Requests.{request_of, opens, carries}

-- ---- by the tests of a message: which kind it is of, and whether it has the length that this kind asks ----

abbrev request_by : (h o c k of_16 of_12 short : Bool) → (n : ℕ) → Request
request_by h o c k of_16 of_12 short n =
    if h then HostError
    else if o then (if of_16 then Open n else Wrong 3)
    else if c then (if of_12 then Close else Wrong 3)
    else if not k then Wrong 6
    else if short then Wrong 3
    else Command

opens_by : (h o c k of_16 of_12 short : Bool) (n : ℕ) → (h ≡ true → o ≡ false) → (o && of_16) ≡ opens (request_by h o c k of_16 of_12 short n)
opens_by true o c k of_16 of_12 short n not_open = ap (λ (b : Bool). b && of_16) (not_open refl)
opens_by false true c k true of_12 short n not_open = refl
opens_by false true c k false of_12 short n not_open = refl
opens_by false false true k of_16 true short n not_open = refl
opens_by false false true k of_16 false short n not_open = refl
opens_by false false false false of_16 of_12 short n not_open = refl
opens_by false false false true of_16 of_12 true n not_open = refl
opens_by false false false true of_16 of_12 false n not_open = refl

carries_by : (h o c k of_16 of_12 short : Bool) (n : ℕ) → (h ≡ true → k ≡ false) → (o ≡ true → k ≡ false) → (c ≡ true → k ≡ false) → (k && not short) ≡ carries (request_by h o c k of_16 of_12 short n)
carries_by true o c k of_16 of_12 short n not_h not_o not_c = ap (λ (b : Bool). b && not short) (not_h refl)
carries_by false true c k true of_12 short n not_h not_o not_c = ap (λ (b : Bool). b && not short) (not_o refl)
carries_by false true c k false of_12 short n not_h not_o not_c = ap (λ (b : Bool). b && not short) (not_o refl)
carries_by false false true k of_16 true short n not_h not_o not_c = ap (λ (b : Bool). b && not short) (not_c refl)
carries_by false false true k of_16 false short n not_h not_o not_c = ap (λ (b : Bool). b && not short) (not_c refl)
carries_by false false false false of_16 of_12 short n not_h not_o not_c = refl
carries_by false false false true of_16 of_12 true n not_h not_o not_c = refl
carries_by false false false true of_16 of_12 false n not_h not_o not_c = refl

length_by : (h o c k of_16 of_12 short : Bool) (n asked : ℕ) → request_by h o c k of_16 of_12 short n ≡ Open asked → n ≡ asked
length_by true o c k of_16 of_12 short n asked is = absurd (cc)
length_by false true c k true of_12 short n asked is = cc
length_by false true c k false of_12 short n asked is = absurd (cc)
length_by false false true k of_16 true short n asked is = absurd (cc)
length_by false false true k of_16 false short n asked is = absurd (cc)
length_by false false false false of_16 of_12 short n asked is = absurd (cc)
length_by false false false true of_16 of_12 true n asked is = absurd (cc)
length_by false false false true of_16 of_12 false n asked is = absurd (cc)

-- ---- of a message ----

-- it is of no other kind
other : (n a b : ℕ) → (a == b) ≡ false → (n == a) ≡ true → (n == b) ≡ false
other n a b differ is = ap (λ (k : ℕ). k == b) (eqb-true n a is) ∙ differ

module _ (m : List ℕ) (r : Request) (is : request_of m ≡ r) where
  pub opens_it : is_open_request m ≡ opens r
  opens_it =
      opens_by (is_kind kind.HostError m) (is_kind kind.Open m) (is_kind kind.Close m) (is_kind kind.Command m) (length m == 16) (length m == 12) (nat_lt (length m) 20) (u32_at m 12) (other (kind_of m) 4 1 refl)
      ∙ ap opens is

  long_is : (n : ℕ) → nat_le 20 n ≡ not (nat_lt n 20)
  long_is n = grind (arith, nat_tests)

  pub carries_it : is_command_fragment m ≡ carries r
  carries_it =
      ap (λ (b : Bool). is_kind kind.Command m && b) (long_is (length m))
      ∙ carries_by (is_kind kind.HostError m) (is_kind kind.Open m) (is_kind kind.Close m) (is_kind kind.Command m) (length m == 16) (length m == 12) (nat_lt (length m) 20) (u32_at m 12)
      (other (kind_of m) 4 3 refl) (other (kind_of m) 1 3 refl) (other (kind_of m) 2 3 refl)
      ∙ ap carries is

  long_by : (n : ℕ) → nat_le 20 n ≡ true → 20 ≤ n
  long_by n e = grind (arith, nat_tests, e)

  pub long_command : carries r ≡ true → 20 ≤ length m
  long_command e = long_by (length m) (and_parts (is_kind kind.Command m) (nat_le 20 (length m)) (carries_it ∙ e)).1

  pub kind_of_opening : opens r ≡ true → is_kind kind.Open m ≡ true
  kind_of_opening e = (and_parts (is_kind kind.Open m) (length m == 16) (opens_it ∙ e)).0

  pub kind_of_command : carries r ≡ true → is_kind kind.Open m ≡ false
  kind_of_command e = other (kind_of m) 3 1 refl (and_parts (is_kind kind.Command m) (nat_le 20 (length m)) (carries_it ∙ e)).0

pub length_asked : (m : List ℕ) (asked : ℕ) → request_of m ≡ Open asked → u32_at m 12 ≡ asked
length_asked m asked is =
    length_by (is_kind kind.HostError m) (is_kind kind.Open m) (is_kind kind.Close m) (is_kind kind.Command m) (length m == 16) (length m == 12) (nat_lt (length m) 20) (u32_at m 12) asked is

-- ---- the reply that the client's own view decides ----

module _ (s : Setup) (known : Known) (joining : Joining) where
  abbrev pub own_for : Request → OwnReply
  own_for HostError = own.Silent
  own_for (Open asked) = reply_to_open known
  own_for Close = reply_to_close known
  own_for Command = reply_to_joining s known joining
  own_for (Wrong code) = own.Wrong code

  own_by : (h o c k of_16 of_12 short : Bool) (n : ℕ) →
      (if h then own.Silent
      else if o then (if of_16 then reply_to_open known else own.Wrong 3)
      else if c then (if of_12 then reply_to_close known else own.Wrong 3)
      else if not k then own.Wrong 6
      else if short then own.Wrong 3
      else reply_to_joining s known joining) ≡ own_for (request_by h o c k of_16 of_12 short n)
  own_by true o c k of_16 of_12 short n = refl
  own_by false true c k true of_12 short n = refl
  own_by false true c k false of_12 short n = refl
  own_by false false true k of_16 true short n = refl
  own_by false false true k of_16 false short n = refl
  own_by false false false false of_16 of_12 short n = refl
  own_by false false false true of_16 of_12 true n = refl
  own_by false false false true of_16 of_12 false n = refl

  abbrev pub decides_for : Request → Bool
  decides_for r = not (opens r && may_open known) && not (carries r && is_for_modem known joining)

module _ (s : Setup) (known : Known) (m : List ℕ) (r : Request) (is : request_of m ≡ r) where
  abbrev joining : Joining
  joining = joining_behind s.longest_body known.begun m

  pub own_is : own_reply s known m ≡ own_for s known joining r
  own_is =
      own_by s known joining (is_kind kind.HostError m) (is_kind kind.Open m) (is_kind kind.Close m) (is_kind kind.Command m) (length m == 16) (length m == 12) (nat_lt (length m) 20) (u32_at m 12)
      ∙ ap (own_for s known joining) is

  pub decides_is : view_decides s known m ≡ decides_for s known joining r
  decides_is =
      ap (λ (b : Bool). not (b && may_open known) && not (is_command_fragment m && is_for_modem known joining)) (opens_it m r is)
      ∙ ap (λ (b : Bool). not (opens r && may_open known) && not (b && is_for_modem known joining)) (carries_it m r is)
