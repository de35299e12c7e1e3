-- The commands of plans.
use Rattle.std.proofs.Common.{◌≡◌, ◌⊎◌, inl, inr, ℕ, ◌+◌, ◌<◌, ◌≤◌, ◌^◌, Bool, true, false, not, ◌&&◌, ◌==◌, nat_lt, bytes_eq, if◌then◌else◌, List, [], length, Option, Some, None, unwrap_or, ◌++◌, refl, ap, ap₂, sym, ◌∙◌, arith, subst, length-append}
use Rattle.std.proofs.lemmas.Bool.{eqb-true, ltb-true, and_parts, not-true}
use Rattle.kit_bytes.specs.declared.services.TheConstants.{BASIC_CONNECT}
use Rattle.mbim_frame.specs.declared.kind.MessageKind.TheVariants as kind
use Rattle.mbim_frame.specs.declared.bodies.CommandHead.{CommandHead}
use Rattle.mbim_frame.specs.Numbers.{u32_bytes}
use Rattle.mbim_frame.specs.Kinds.{kind_number}
use Rattle.mbim_frame.specs.Bodies.{is_command, command_head_of, uuid_of, cid_of, is_set}
use Rattle.mbim_frame.specs.Laws.{CommandReadsBack}
use Rattle.mbim_frame.proofs.ReadBack.{command_is_read}
use Rattle.mbim_fragments.proofs.Sizes.{length-split}
use Rattle.mbim_requests.specs.declared.MbimRequest.{MbimRequest}
use Rattle.mbim_requests.specs.declared.MbimRequest.TheVariants as request
use Rattle.mbim_services.specs.Requests.{IsInRange}
use Rattle.mbim_services.proofs.Encoded.{encoded}
use Rattle.mbim_proxy.specs.Services.{proxy_control, configuration_cid, subscribe_list_cid}
use Rattle.mbim_proxy.specs.Configuration.{names_device}
use Rattle.mbim_session.specs.declared.plan.MbimPlan.{MbimPlan}
use Rattle.mbim_session.specs.Requests.{command_head, buffer_for}
use Rattle.mbim_session.specs.Session.{configuration}
use Rattle.twin_sessions.specs.MbimServing as twin
use Rattle.twin_sessions.specs.MbimServing.{command_of, Fits}
use Rattle.sim_mbim.specs.Writing.{is_radio_set}
use Rattle.relays.specs.MbimLaw.{IsCommand, IsPlan}
use Rattle.relays.proofs.MbimNaming.{names_itself}

-- ---- the heads of commands ----

-- a UUID and a small CID
abbrev is_written : CommandHead → Bool
is_written head = length head.uuid == 16 && nat_lt head.cid 100

abbrev is_list : CommandHead → Bool
is_list head = bytes_eq head.uuid BASIC_CONNECT && head.cid == subscribe_list_cid

-- it is one that the proxy leaves to the modem, and that the modem tells nobody of
abbrev is_quiet : CommandHead → Bool
is_quiet head = (is_written head && not (bytes_eq head.uuid proxy_control)) && (not (is_list head) && not (is_radio_set head))

sorted : (r : MbimRequest) → IsCommand r → (is_quiet (command_head r) ≡ true) ⊎ ((on : Bool) × (r ≡ request.SetRadioState on))
sorted (request.SetRadioState on) is = inr (on, refl)
sorted (request.ProxyConfiguration path) is = absurd is
sorted _ is = inl refl

pub record IsPlain (head : CommandHead) : Type 0 where
  pub uuid : length head.uuid ≡ 16
  pub cid : head.cid < 2 ^ 32
  pub for_modem : bytes_eq head.uuid proxy_control ≡ false
  pub no_list : is_list head ≡ false

pub plain : (r : MbimRequest) → IsCommand r → IsPlain (command_head r)
plain r is = by (sorted r is)
  where
    by : (is_quiet (command_head r) ≡ true) ⊎ ((on : Bool) × (r ≡ request.SetRadioState on)) → IsPlain (command_head r)
    by (inl quiet) =
        let both = and_parts _ _ quiet in
        let first = and_parts _ _ both.0 in
        let second = and_parts _ _ both.1 in
        let written = and_parts _ _ first.0 in
        record { uuid = eqb-true _ _ written.0; cid = (let small = ltb-true _ _ written.1 in omega (arith, small)); for_modem = not-true _ first.1; no_list = not-true _ second.0 }
    by (inr (on, same)) = subst (λ (q : MbimRequest). IsPlain (command_head q)) (sym same) (record { uuid = refl; cid = omega arith; for_modem = refl; no_list = refl })

-- a command that isn't the radio's is told nobody of
pub or_radio : (r : MbimRequest) → IsCommand r → (is_radio_set (command_head r) ≡ false) ⊎ ((on : Bool) × (r ≡ request.SetRadioState on))
or_radio r is = by (sorted r is)
  where
    by : (is_quiet (command_head r) ≡ true) ⊎ ((on : Bool) × (r ≡ request.SetRadioState on)) → (is_radio_set (command_head r) ≡ false) ⊎ ((on : Bool) × (r ≡ request.SetRadioState on))
    by (inl quiet) = let both = and_parts _ _ quiet in inl (not-true _ (and_parts _ _ both.1).1)
    by (inr radio) = inr radio

-- ---- commands as they are sent ----

some_if : {A : Type 0} (b : Bool) (x y : A) → (if b then Some x else None) ≡ Some y → (b ≡ true) × (x ≡ y)
some_if {A = A} true x y is = (refl, ap (λ (o : Option A). unwrap_or o x) is)
some_if false x y is = absurd (cc)

module _ (r : MbimRequest) (range : IsInRange r) (uuid : length (command_head r).uuid ≡ 16) (cid : (command_head r).cid < 2 ^ 32) where
  buffer_short : length (buffer_for r) ≤ 8204
  buffer_short = let e = encoded r range in subst (λ (o : Option (List ℕ)). length (unwrap_or o []) ≤ 8204) (sym e.1) e.2

  pub reads_back : CommandReadsBack (command_head r) (buffer_for r)
  reads_back = command_is_read (command_head r) (buffer_for r) uuid cid (omega (arith, buffer_short))

  head_is : (is_command (command_of r) ≡ true) × (command_head_of (command_of r) ≡ command_head r)
  head_is = some_if (is_command (command_of r)) (command_head_of (command_of r)) (command_head r) reads_back.head_is

  length_is : length (command_of r) ≡ 28 + length (buffer_for r)
  length_is =
      let h : CommandHead = command_head r in
      let numbers : List ℕ = u32_bytes h.cid ++ u32_bytes (if h.set then 1 else 0) ++ u32_bytes (length (buffer_for r)) in
      omega (arith, length-append (h.uuid ++ numbers) (buffer_for r), length-append h.uuid numbers, uuid)

  pub fits : Fits (command_of r)
  fits = record {
    is_command = head_is.0;
    short = omega (arith, length_is, buffer_short);
    comes_at_once = λ number. omega (arith, length-split (kind_number kind.Command) number 4096 (command_of r) (omega arith), length_is, buffer_short);
  }

  pub read_so : (uuid_of (command_of r) ≡ (command_head r).uuid) × (cid_of (command_of r) ≡ (command_head r).cid) × (is_set (command_of r) ≡ (command_head r).set)
  read_so = (ap (λ (h : CommandHead). h.uuid) head_is.1, ap (λ (h : CommandHead). h.cid) head_is.1, ap (λ (h : CommandHead). h.set) head_is.1)

pub as_planned : (plan : MbimPlan) → IsPlan plan → twin.IsPlan plan
as_planned plan is =
    let naming : MbimRequest = configuration plan in
    let p = plain plan.request is.command in
    let so = read_so plan.request is.range p.uuid p.cid in
    let named = read_so naming is.device refl (omega arith) in
    let buffer = reads_back naming is.device refl (omega arith) in
    record {
      configuration_fits = fits naming is.device refl (omega arith);
      configures = λ time_limit. ap₂ (λ (c : ℕ) (b : Bool). c == configuration_cid && b) named.1 (ap₂ (λ (s : Bool) (l : List ℕ). s && names_device plan.device l) named.2 buffer.buffer_is ∙ names_itself plan.device is.device);
      fits = fits plan.request is.range p.uuid p.cid;
      for_modem = ap (λ (u : List ℕ). bytes_eq u proxy_control) so.0 ∙ p.for_modem;
      no_list = ap₂ (λ (u : List ℕ) (c : ℕ). bytes_eq u BASIC_CONNECT && c == subscribe_list_cid) so.0 so.1 ∙ p.no_list;
    }
