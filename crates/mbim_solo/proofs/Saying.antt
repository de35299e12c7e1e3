-- What a client's message makes of its part, from what is decided on it; and the modem's states for all and alone where the client doesn't wait.
use Rattle.std.proofs.Common.{◌≡◌, ◌≢◌, ℕ, ◌+◌, Bool, true, false, ◌==◌, if◌then◌else◌, List, ◌∷◌, ◌++◌, refl, ap, sym, ◌∙◌, None}
use Rattle.mbim_frame.specs.declared.kind.MessageKind.TheVariants.{Open}
use Rattle.mbim_frame.specs.Head.{is_kind}
use Rattle.proxy_history.specs.Facts.{Fact, Request, Verdict, Forward, Ready, Waits, Judged, Forwarded}
use Rattle.proxy_history.specs.Decision.{Decision, Replies, Forwards}
use Rattle.proxy_history.specs.Connections.{message_count}
use Rattle.proxy_history.specs.Requests.{deadline_of}
use Rattle.proxy_history.specs.Modem.{now}
use Rattle.proxy_solo.specs.Part.{as_sent, concerns, as_known, facts_if}
use Rattle.proxy_solo.specs.Part as alone_part
use Rattle.proxy_solo.proofs.Lists.{self}
use Rattle.proxy_solo.proofs.Queries.{count-part}
use Rattle.proxy_solo.proofs.Noting.{only, own_fact, others_fact}
use Rattle.proxy_solo.proofs.Elsewhere.{own_is_theirs}
use Rattle.mbim_proxy.specs.Setup.{Setup, the_space}
use Rattle.mbim_proxy.specs.Known.{Known}
use Rattle.mbim_proxy.specs.Step.{blank, known_now}
use Rattle.mbim_proxy.specs.Text.{mbim_wording}
use Rattle.mbim_proxy.specs.ModemStates.{ModemState, IsAway, IsShut, IsOpening, IsReady}
use Rattle.mbim_proxy.specs.Forwarding.{own_open, request_of}
use Rattle.mbim_proxy.specs.Clients.{command_message, forward_for, judge}
use Rattle.mbim_solo.specs.Solo.{restated}
use Rattle.mbim_solo.specs.Part.{part}
use Rattle.mbim_solo.proofs.Reading.{reads}
use Rattle.mbim_solo.proofs.Views.{OpenOnce}
use Rattle.mbim_solo.proofs.Noted.{end_known, noted-part}
use Rattle.mbim_solo.proofs.Once.{once_verdict}

-- the modem's states for all and for a client that is alone, neither of whose requests to open waits
abbrev pub OpenAlike : (all own : ModemState) → Type 0
OpenAlike IsAway IsAway = Unit {0}
OpenAlike IsShut IsShut = Unit {0}
OpenAlike IsOpening IsShut = Unit {0}
OpenAlike IsReady IsShut = Unit {0}
OpenAlike IsReady IsReady = Unit {0}
OpenAlike _ _ = ⊥

module _ (s : Setup) (c : ℕ) (client : c ≢ 0) where
  module _ (known : Known) (m : List ℕ) where
    -- the client's newest message, as its part has it
    abbrev pub judged : Verdict → List Fact → List Fact
    judged verdict facts = restated (Judged c (message_count c facts + 1) m verdict) ++ facts

    abbrev pub known_request : (time : ℕ) → List Fact → Request
    known_request time facts = record { serial = message_count c facts; conn = c; place = message_count c facts; space = the_space; number = 0; message = command_message s known m; deadline = deadline_of time s.time_limit }

    abbrev pub known_forward : (opens : Bool) → (time : ℕ) → List Fact → List Fact
    known_forward true time facts = judged Waits facts
    known_forward false time facts = Forwarded (known_request time (judged Forward facts)) ∷ judged Forward facts

    abbrev pub known_judge : (time : ℕ) → Decision → List Fact → List Fact
    known_judge time (Replies verdict) facts = end_known s c (judged verdict facts)
    known_judge time (Forwards number) facts = known_forward (is_kind Open m) time facts

    pub judged-part : (verdict : Verdict) (past : List Fact) → part c (Judged c (message_count c past + 1) m verdict ∷ past) ≡ judged verdict (part c past)
    unfolding alone_part.part
    judged-part verdict past =
        ap (λ (b : Bool). facts_if b (restated (Judged c (message_count c past + 1) m verdict)) (part c past)) (self c)
        ∙ ap (λ (n : ℕ). restated (Judged c (n + 1) m verdict) ++ part c past) (sym (count-part s.limits blank restated reads c past))

    noted_judged : (verdict : Verdict) (past : List Fact) → OpenOnce s c (Judged c (message_count c past + 1) m verdict ∷ past)
        → part c (judge s known c m (Replies verdict) past) ≡ end_known s c (judged verdict (part c past))
    noted_judged verdict past once =
        noted-part s c (Judged c (message_count c past + 1) m verdict) past once (only c c)
        ∙ ap (λ (b : Bool). if b then end_known s c (restated (Judged c (message_count c past + 1) m verdict) ++ part c past) else part c past) (self c)
        ∙ ap (λ (n : ℕ). end_known s c (restated (Judged c (n + 1) m verdict) ++ part c past)) (sym (count-part s.limits blank restated reads c past))

    forwarded-part : (number : ℕ) (past : List Fact) → part c (forward_for (is_kind Open m) s known c m number past) ≡ known_forward (is_kind Open m) (now past) (part c past)
    unfolding alone_part.part now
    forwarded-part number past = by (is_kind Open m)
      where
        before : Verdict → List Fact
        before verdict = Judged c (message_count c past + 1) m verdict ∷ past

        request_is : as_sent (request_of s c (command_message s known m) number (before Forward)) ≡ known_request (now past) (part c (before Forward))
        request_is = ap (λ (n : ℕ). let r : Request = record { serial = n; conn = c; place = n; space = the_space; number = 0; message = command_message s known m; deadline = deadline_of (now past) s.time_limit } in r) (sym (count-part s.limits blank restated reads c (before Forward)))

        by : (b : Bool) → part c (forward_for b s known c m number past) ≡ known_forward b (now past) (part c past)
        by true = others_fact s.limits (mbim_wording s) restated reads c (0 == c) (restated (Forwarded (as_sent (request_of s 0 (own_open s) number (before Waits))))) (part c (before Waits)) (own_is_theirs c client 0 refl) ∙ judged-part Waits past
        by false =
            own_fact s.limits (mbim_wording s) restated reads c (c == c) (Forwarded (as_sent (request_of s c (command_message s known m) number (before Forward)))) (part c (before Forward)) refl (self c)
            ∙ ap (λ (r : Request). Forwarded r ∷ part c (before Forward)) request_is
            ∙ ap (λ (l : List Fact). Forwarded (known_request (now past) l) ∷ l) (judged-part Forward past)

    pub judge-part : (decision : Decision) (past : List Fact) → OpenOnce s c past → (decision ≡ Replies Ready → (known_now s c past).waits ≡ None) → part c (judge s known c m decision past) ≡ known_judge (now past) decision (part c past)
    judge-part (Replies verdict) past once none = noted_judged verdict past (once_verdict s c (message_count c past + 1) m past verdict (λ is. none (ap (λ (v : Verdict). Replies v) is)), once)
    judge-part (Forwards number) past once none = forwarded-part number past
