-- The messages of the clients are short.
use Rattle.std.proofs.Common.{◌≡◌, ℕ, ◌+◌, ◌≤◌, Bool, true, false, ◌==◌, if◌then◌else◌, List, length, refl, sym, ap, subst, arith, lit≤}
use Rattle.std.specs.Char.{encode_utf8}
use Rattle.qmux_frame.specs.declared.writing.NewMessage.{NewMessage}
use Rattle.qmux_frame.specs.Writing.{head_text, message_text}
use Rattle.mbim_requests.specs.declared.MbimRequest.TheVariants.{ProxyConfiguration, QueryRadioState, QueryHomeProvider, QueryRegistrationState, QuerySignalState}
use Rattle.mbim_session.specs.Requests.{command_message}
use Rattle.rig_runs.specs.Mbim.{asks_for}
use Rattle.rig_runs.specs.Rig.{device}

pub short_as : {same : List ℕ} (message : List ℕ) → message ≡ same → length same ≤ 16384 → length message ≤ 16384
short_as message is short = subst (λ m. length m ≤ 16384) (sym is) short

-- ---- QMI: a message is little longer than its TLVs ----

little_longer : (m : NewMessage) (tlvs : List ℕ) → length (message_text m tlvs) ≤ length tlvs + 13
unfolding head_text
little_longer m tlvs =
    let step : (b : Bool) → (m.service == 0) ≡ b → length (message_text m tlvs) ≤ length tlvs + 13 = λ b. elim b as (λ b. (m.service == 0) ≡ b → length (message_text m tlvs) ≤ length tlvs + 13) [
      | true ↦ λ is. rw is (omega arith)
      | false ↦ λ is. rw is (omega arith)
    ] in step (m.service == 0) refl

pub short_message : (m : NewMessage) (tlvs octets : List ℕ) → octets ≡ message_text m tlvs → length tlvs ≤ 5000 → length octets ≤ 16384
short_message m tlvs octets is short = let long : length octets ≡ length (message_text m tlvs) = ap length is in omega (arith, long, short, little_longer m tlvs)

-- ---- MBIM: a configuration, and queries without a buffer ----

pub short_configuration : length (command_message (ProxyConfiguration device) 1) ≤ 16384
unfolding command_message encode_utf8
short_configuration = lit≤ tt

pub short_query : (choice number : ℕ) → length (command_message (asks_for choice) number) ≤ 16384
unfolding command_message
short_query choice number = by (choice == 0) (choice == 1) (choice == 2)
  where
    by : (a b c : Bool) → length (command_message (if a then QueryRadioState else if b then QueryHomeProvider else if c then QueryRegistrationState else QuerySignalState) number) ≤ 16384
    by true b c = lit≤ tt
    by false true c = lit≤ tt
    by false false true = lit≤ tt
    by false false false = lit≤ tt
