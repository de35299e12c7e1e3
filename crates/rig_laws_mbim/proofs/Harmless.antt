-- Facts that tell nobody of others and refuse only what passes a share, and what they leave as it is. Lists of facts have the newest first.
use Rattle.std.proofs.Common.{◌≡◌, ℕ, ◌+◌, ◌≤◌, Bool, true, false, not, ◌&&◌, ◌==◌, if◌then◌else◌, List, [], ◌∷◌, length, take, Option, Some, None, refl, ap, sym, ◌∙◌, arith, subst, length-take}
use Rattle.std.specs.List.{AllByRecursion}
use Rattle.kit_bytes.specs.Subscriptions.{Pair}
use Rattle.kit_bytes.specs.Services.{starting_list}
use Rattle.kit_bytes.proofs.Lists.{all_filter}
use Rattle.mbim_fragments.specs.Assembling.{Assembled, joining_behind, assembled_after}
use Rattle.mbim_fragments.specs.Assembling as assembling
use Rattle.proxy_history.specs.Facts.{Fact, Verdict, Own, Share, Foreign, Away, Full, Forward, Ready, Waits, Admitted, Ended, Judged, Taken, Answered, IdHeld, Expired, Aborted, Indicated, OpeningEnded, SessionsClosed, ModemLost, ModemReturned}
use Rattle.proxy_history.specs.Connections.{contains}
use Rattle.proxy_history.specs.View.{Entry, Said, Response, Refused, OpenedWith, Taking, NoAnswer, entry_if, view}
use Rattle.proxy_history.specs.Wording.{told_by}
use Rattle.proxy_solo.proofs.Undisturbed.{AreUndisturbed}
use Rattle.mbim_frame.specs.Numbers.{u32_at}
use Rattle.proxy_history.specs.Requests.{has_share}
use Rattle.mbim_frame.specs.declared.kind.MessageKind.TheVariants.{Open}
use Rattle.mbim_frame.specs.Head.{is_kind}
use Rattle.mbim_proxy.specs.Setup.{the_space, fragment_for}
use Rattle.mbim_proxy.specs.Known.{Ask, Known, fresh, without_ask}
use Rattle.mbim_proxy.specs.OwnReplies.{OwnReply, Configures, is_open_request, is_command_fragment, is_for_modem, view_decides, reply_to_joining, own_reply}
use Rattle.mbim_proxy.specs.Step.{ask_of, blank, view_of, known_from, known_now, with_message, with_reply, with_verdict, command_with}
use Rattle.mbim_proxy.specs.Step as step
use Rattle.rig_runs.specs.Mbim.{setup}
use Rattle.rig_runs.specs.MbimExamples.{configuration, open_2}
use Rattle.rig_runs.specs.Counts.{IsForShare}
use Rattle.rig_runs.specs.MbimLines.{tells_refusal, refuses, passes_share, AreForShares}
use Rattle.rig_laws.proofs.Undisturbed.{LetsAlone, undisturbed_by}
use Rattle.rig_laws_mbim.proofs.Messages.{configuring, configuration_is, opening_is}

-- a command that comes whole
pub record IsWhole (m : List ℕ) : Type 0 where
  pub fragment : is_command_fragment m ≡ true
  pub no_open : is_open_request m ≡ false
  pub closed : assembled_after 65536 assembling.fresh m ≡ assembling.fresh

-- behind these facts: nobody ends, and the modem stays; a message names the device, opens the modem or is forwarded unless it passes its client's share
abbrev pub IsHarmless : Fact → List Fact → Type 0
IsHarmless (Ended c why) past = ⊥
IsHarmless (Judged c place m Own) past = m ≡ configuration
IsHarmless (Judged c place m Ready) past = m ≡ open_2
IsHarmless (Judged c place m Waits) past = m ≡ open_2
IsHarmless (Judged c place m Forward) past = IsWhole m × (passes_share setup c m past ≡ false)
IsHarmless (Judged c place m Share) past = IsWhole m × (passes_share setup c m past ≡ true)
IsHarmless (Judged c place m verdict) past = ⊥
IsHarmless (IdHeld r) past = ⊥
IsHarmless (Aborted r) past = ⊥
IsHarmless (Indicated m receivers) past = ⊥
IsHarmless (SessionsClosed receivers) past = ⊥
IsHarmless ModemLost past = ⊥
IsHarmless _ past = Unit {0}

abbrev pub AreHarmless : List Fact → Type 0
AreHarmless [] = Unit {0}
AreHarmless (fact ∷ past) = IsHarmless fact past × AreHarmless past

-- ---- nobody is told of others ----

lets_alone : (fact : Fact) (past : List Fact) → IsHarmless fact past → LetsAlone fact
lets_alone (IdHeld r) past is = absurd is
lets_alone (Ended c why) past is = absurd is
lets_alone (Judged c place m Own) past is = refl
lets_alone (Judged c place m Ready) past is = refl
lets_alone (Judged c place m Waits) past is = refl
lets_alone (Judged c place m Forward) past is = refl
lets_alone (Judged c place m Share) past is = refl
lets_alone (Judged c place m _) past is = absurd is
lets_alone _ past is = tt

pub undisturbed : (c : ℕ) (past : List Fact) → AreHarmless past → AreUndisturbed (view_of c past)
unfolding view
undisturbed c [] all = tt
undisturbed c (fact ∷ past) all = undisturbed_by blank c fact past (lets_alone fact past all.0) (undisturbed c past all.1)

-- ---- what holds of what each client's view tells ----

abbrev pub HasShortService : Ask → Type 0
HasShortService ask = length ask.uuid ≤ 16

-- no command has begun, and its list and its fragments are as at the start
pub record IsSteady (known : Known) : Type 0 where
  pub begun : known.begun ≡ assembling.fresh
  pub list : known.list ≡ starting_list
  pub fragment : known.fragment ≡ 4096
  pub asks : AllByRecursion HasShortService known.asks

steady_fresh : IsSteady (fresh setup)
steady_fresh = record { begun = refl; list = refl; fragment = refl; asks = tt }

pub configuration_is_answered : (known : Known) → known.begun ≡ assembling.fresh → own_reply setup known configuration ≡ Configures configuring
configuration_is_answered known begun =
    ap (λ (a : Assembled). reply_to_joining setup known (joining_behind 65536 a configuration)) begun ∙ configuration_is.reply known

steady_configured : (known : Known) → IsSteady known → IsSteady (step.step setup known (Said configuration Own))
steady_configured known steady =
    subst (λ (reply : OwnReply). IsSteady (with_reply reply (with_message setup configuration known))) (sym (configuration_is_answered known steady.begun))
    (record { begun = ap (λ (a : Assembled). assembled_after 65536 a configuration) steady.begun ∙ configuration_is.closed; list = steady.list; fragment = steady.fragment; asks = steady.asks })

steady_ready : (known : Known) → IsSteady known → IsSteady (step.step setup known (Said open_2 Ready))
steady_ready known steady = record { begun = steady.begun; list = steady.list; fragment = refl; asks = steady.asks }

steady_waits : (known : Known) → IsSteady known → IsSteady (step.step setup known (Said open_2 Waits))
steady_waits known steady = record { begun = steady.begun; list = steady.list; fragment = refl; asks = steady.asks }

steady_message : (m : List ℕ) (known : Known) → IsWhole m → IsSteady known → IsSteady (with_message setup m known)
steady_message m known whole steady = record {
  begun =
      ap (λ (b : Bool). if b then assembled_after 65536 known.begun m else known.begun) whole.fragment
      ∙ ap (λ (a : Assembled). assembled_after 65536 a m) steady.begun
      ∙ whole.closed;
  list = steady.list;
  fragment = ap (λ (b : Bool). if b then fragment_for setup (u32_at m 12) else known.fragment) whole.no_open ∙ steady.fragment;
  asks = steady.asks;
}

steady_forwarded : (m : List ℕ) (known : Known) → IsWhole m → IsSteady known → IsSteady (step.step setup known (Said m Forward))
steady_forwarded m known whole steady =
    let is = steady_message m known whole steady in
    record { begun = is.begun; list = is.list; fragment = is.fragment; asks = ((let short = length-take 16 (command_with setup known m) in omega (arith, short)), steady.asks) }

steady_told : (place : ℕ) (known : Known) → IsSteady known → AllByRecursion HasShortService (without_ask place known.asks)
steady_told place known steady = all_filter HasShortService (λ (ask : Ask). not (ask.place == place)) known.asks steady.asks

steady_if : (b : Bool) (entry : Entry) (entries : List Entry) → ((known : Known) → IsSteady known → IsSteady (step.step setup known entry)) → IsSteady (known_from setup entries) → IsSteady (known_from setup (entry_if b entry entries))
unfolding told_by
steady_if true entry entries keeps steady = keeps (known_from setup entries) steady
steady_if false entry entries keeps steady = steady

steady_joining : (b : Bool) (entries : List Entry) → IsSteady (known_from setup entries) → IsSteady (known_from setup (if b then [] else entries))
unfolding told_by
steady_joining true entries steady = steady_fresh
steady_joining false entries steady = steady

pub steady : (c : ℕ) (past : List Fact) → AreHarmless past → IsSteady (known_now setup c past)
unfolding view told_by
steady c [] all = steady_fresh
steady c (Admitted d ∷ past) all = steady_joining (d == c) (view_of c past) (steady c past all.1)
steady c (Ended d why ∷ past) all = absurd all.0
steady c (Judged d place m Own ∷ past) all =
    subst (λ (x : List ℕ). IsSteady (known_from setup (entry_if (d == c) (Said x Own) (view_of c past)))) (sym all.0) (steady_if (d == c) (Said configuration Own) (view_of c past) steady_configured (steady c past all.1))
steady c (Judged d place m Ready ∷ past) all =
    subst (λ (x : List ℕ). IsSteady (known_from setup (entry_if (d == c) (Said x Ready) (view_of c past)))) (sym all.0) (steady_if (d == c) (Said open_2 Ready) (view_of c past) steady_ready (steady c past all.1))
steady c (Judged d place m Waits ∷ past) all =
    subst (λ (x : List ℕ). IsSteady (known_from setup (entry_if (d == c) (Said x Waits) (view_of c past)))) (sym all.0) (steady_if (d == c) (Said open_2 Waits) (view_of c past) steady_waits (steady c past all.1))
steady c (Judged d place m Forward ∷ past) all = steady_if (d == c) (Said m Forward) (view_of c past) (λ known is. steady_forwarded m known all.0.0 is) (steady c past all.1)
steady c (Judged d place m Share ∷ past) all = steady_if (d == c) (Said m Share) (view_of c past) (λ known is. steady_message m known all.0.0 is) (steady c past all.1)
steady c (Judged d place m Foreign ∷ past) all = absurd all.0
steady c (Judged d place m Away ∷ past) all = absurd all.0
steady c (Judged d place m Full ∷ past) all = absurd all.0
steady c (Answered r m ∷ past) all =
    steady_if (r.conn == c) (Response r.place (blank m)) (view_of c past) (λ known is. record { begun = is.begun; list = is.list; fragment = is.fragment; asks = steady_told r.place known is }) (steady c past all.1)
steady c (IdHeld r ∷ past) all = absurd all.0
steady c (Expired r ∷ past) all =
    steady_if (r.conn == c) (Refused r.place NoAnswer) (view_of c past) (λ known is. record { begun = is.begun; list = is.list; fragment = is.fragment; asks = steady_told r.place known is }) (steady c past all.1)
steady c (Aborted r ∷ past) all = absurd all.0
steady c (Indicated m receivers ∷ past) all = absurd all.0
steady c (OpeningEnded status receivers ∷ past) all =
    steady_if (contains c receivers) (OpenedWith status) (view_of c past) (λ known is. record { begun = is.begun; list = is.list; fragment = is.fragment; asks = is.asks }) (steady c past all.1)
steady c (SessionsClosed receivers ∷ past) all = absurd all.0
steady c (Taken d count ∷ past) all =
    steady_if (d == c) (Taking count) (view_of c past) (λ known is. is) (steady c past all.1)
steady c (_ ∷ past) all = steady c past all.1

-- ---- what passes a share is refused ----

pub own_decides : (known : Known) → known.begun ≡ assembling.fresh → view_decides setup known configuration ≡ true
own_decides known begun = ap (λ (a : Assembled). not (true && is_for_modem known (joining_behind 65536 a configuration))) begun ∙ ap not (configuration_is.own known)

pub configuration_passes_none : (c : ℕ) (past : List Fact) → (known_now setup c past).begun ≡ assembling.fresh → passes_share setup c configuration past ≡ false
configuration_passes_none c past begun = ap (λ (b : Bool). not b && not (is_kind Open configuration) && has_share setup.limits.share c the_space past) (own_decides (known_now setup c past) begun)

none_of_three : (a b c : Bool) → b ≡ false → (a && b && c) ≡ false
none_of_three true true c e = absurd (cc)
none_of_three true false c e = refl
none_of_three false b c e = refl

pub opening_passes_none : (c : ℕ) (past : List Fact) → passes_share setup c open_2 past ≡ false
opening_passes_none c past = none_of_three (not (view_decides setup (known_now setup c past) open_2)) (not (is_kind Open open_2)) (has_share setup.limits.share c the_space past) refl

-- a message that isn't refused, and passes no share
fine : (c : ℕ) (m : List ℕ) (verdict : Verdict) (past : List Fact) → refuses setup c m verdict past ≡ false → passes_share setup c m past ≡ false → IsForShare (refuses setup) (passes_share setup) c m verdict past
fine c m verdict past none within = record { just_then = none ∙ sym within; for_that = λ is. absurd (let clash : false ≡ true = sym none ∙ is in cc) }

pub refused_for_shares : (past : List Fact) → AreHarmless past → AreForShares setup past
refused_for_shares [] all = tt
refused_for_shares (Judged c place m Own ∷ past) all =
    let begun = (steady c past all.1).begun in
    let reply : own_reply setup (known_now setup c past) m ≡ Configures configuring =
    ap (own_reply setup (known_now setup c past)) all.0 ∙ configuration_is_answered (known_now setup c past) begun in
    (fine c m Own past (ap tells_refusal reply) (ap (λ (x : List ℕ). passes_share setup c x past) all.0 ∙ configuration_passes_none c past begun), refused_for_shares past all.1)
refused_for_shares (Judged c place m Forward ∷ past) all = (fine c m Forward past refl all.0.1, refused_for_shares past all.1)
refused_for_shares (Judged c place m Share ∷ past) all = (record { just_then = sym all.0.1; for_that = λ is. refl }, refused_for_shares past all.1)
refused_for_shares (Judged c place m Ready ∷ past) all = (fine c m Ready past refl (ap (λ (x : List ℕ). passes_share setup c x past) all.0 ∙ opening_passes_none c past), refused_for_shares past all.1)
refused_for_shares (Judged c place m Waits ∷ past) all = (fine c m Waits past refl (ap (λ (x : List ℕ). passes_share setup c x past) all.0 ∙ opening_passes_none c past), refused_for_shares past all.1)
refused_for_shares (Judged c place m Foreign ∷ past) all = absurd all.0
refused_for_shares (Judged c place m Away ∷ past) all = absurd all.0
refused_for_shares (Judged c place m Full ∷ past) all = absurd all.0
refused_for_shares (_ ∷ past) all = refused_for_shares past all.1
