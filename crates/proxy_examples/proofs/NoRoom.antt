-- What is due to a client whose outbox has 11 bytes of room ends it.
use Rattle.std.proofs.Common.{◌≡◌, ℕ, ◌+◌, ◌-◌, Bool, true, false, not, ◌&&◌, ◌||◌, ◌==◌, nat_lt, if◌then◌else◌, List, [], ◌∷◌, length, filter, refl, ap, ◌∙◌, None}
use Rattle.framing.specs.Cutting.{cut_from}
use Rattle.qmux_frame.specs.Head.{is_control}
use Rattle.qmux_frame.specs.Reply.{result_reply}
use Rattle.proxy_history.specs.Facts.{Fact, Ended, NoRoom, Answered, Expired, Indicated, Freed}
use Rattle.proxy_history.specs.Connections.{present}
use Rattle.proxy_history.specs.ClientIds.{Grant, is_of, held, holder, holder_in}
use Rattle.proxy_history.specs.View.{Response, view, said_at}
use Rattle.proxy_history.specs.Rendering.{Rendering, render, put}
use Rattle.proxy_history.specs.Noting.{end_overfull}
use Rattle.qmi_proxy.specs.Limits.{outbox_limit}
use Rattle.qmi_proxy.specs.Errors.{aborted}
use Rattle.qmi_proxy.specs.Text.{note, text, blank, rendering, view_of}
use Rattle.qmi_proxy.specs.FromModem.{answer_or_late}
use Rattle.proxy_examples.specs.Story.{setup, version, sync}
use Rattle.proxy_examples.specs.ClientIds.{released}
use Rattle.proxy_examples.specs.Endings.{HasElevenLeft, version_request, release_request}

-- more than 11 bytes don't fit
over : (new : List ℕ) (r : Rendering) → r.is_over ≡ false → length r.waiting ≡ outbox_limit - 11 → nat_lt outbox_limit (outbox_limit - 11 + length new) ≡ true → (put outbox_limit new r).is_over ≡ true
over new r going waiting more =
    ap (λ (b : Bool). b || nat_lt outbox_limit (length r.waiting + length new)) going
    ∙ ap (λ (count : ℕ). nat_lt outbox_limit (count + length new)) waiting
    ∙ more

-- client 1 ends behind a fact that brings it more than that
ends : (fact : Fact) (past : List Fact) (there over : Bool) → there ≡ true → over ≡ true → (if there && over then Ended 1 NoRoom ∷ fact ∷ past else fact ∷ past) ≡ Ended 1 NoRoom ∷ fact ∷ past
ends fact past true true t o = refl
ends fact past true false t o = absurd (cc)
ends fact past false over t o = absurd (cc)

pub indication_ends : (past : List Fact) → HasElevenLeft past → note setup.device (Indicated sync (1 ∷ [])) past ≡ Ended 1 NoRoom ∷ Indicated sync (1 ∷ []) ∷ past
unfolding end_overfull view render present
indication_ends past has = ends (Indicated sync (1 ∷ [])) past _ _ has.present (over sync (rendering setup.device 1 past) has.going has.waiting refl)

pub answer_ends : (past : List Fact) → HasElevenLeft past → answer_or_late setup.device true version_request version past ≡ Ended 1 NoRoom ∷ Answered version_request version ∷ past
unfolding end_overfull view render present
answer_ends past has =
    ends (Answered version_request version) past _ _ has.present
    (over (text setup.device (view_of 1 past) (Response 2 (blank version))) (rendering setup.device 1 past) has.going has.waiting refl)

-- a refusal has 19 bytes or 20
either_is_more : (b : Bool) (one other : List ℕ) → nat_lt outbox_limit (outbox_limit - 11 + length one) ≡ true → nat_lt outbox_limit (outbox_limit - 11 + length other) ≡ true
    → nat_lt outbox_limit (outbox_limit - 11 + length (if b then one else other)) ≡ true
either_is_more true one other a b = a
either_is_more false one other a b = b

refusal_is_more : (m : List ℕ) → nat_lt outbox_limit (outbox_limit - 11 + length (result_reply m aborted)) ≡ true
refusal_is_more m = either_is_more (is_control m) _ _ refl refl

pub expiry_ends : (past : List Fact) → HasElevenLeft past → note setup.device (Expired version_request) past ≡ Ended 1 NoRoom ∷ Expired version_request ∷ past
unfolding end_overfull view render present
expiry_ends past has =
    ends (Expired version_request) past _ _ has.present
    (over (result_reply (said_at 2 (view_of 1 past)) aborted) (rendering setup.device 1 past) has.going has.waiting (refusal_is_more (said_at 2 (view_of 1 past))))

pub release_ends : (past : List Fact) → HasElevenLeft past → answer_or_late setup.device true release_request released past ≡ Ended 1 NoRoom ∷ Answered release_request released ∷ Freed 1 2 5 ∷ past
unfolding cut_from end_overfull view render present
release_ends past has =
    ends (Answered release_request released) (Freed 1 2 5 ∷ past) _ _ has.present
    (over (text setup.device (view_of 1 past) (Response 2 (blank released))) (rendering setup.device 1 past) has.going has.waiting refl)

ended_is_free : (past : List Fact) → held past ≡ record { conn = 1; service = 2; cid = 5 } ∷ []
    → holder 2 5 (Ended 1 NoRoom ∷ Answered release_request released ∷ Freed 1 2 5 ∷ past) ≡ None
unfolding held
ended_is_free past is = ap (λ (grants : List Grant). holder_in 2 5 (filter (λ g. not (1 == g.conn)) (filter (λ g. not (is_of 2 5 g && (1 == g.conn))) grants))) is

pub released_is_free : (past : List Fact) → HasElevenLeft past → held past ≡ record { conn = 1; service = 2; cid = 5 } ∷ []
    → holder 2 5 (answer_or_late setup.device true release_request released past) ≡ None
released_is_free past has own = ap (λ (facts : List Fact). holder 2 5 facts) (release_ends past has) ∙ ended_is_free past own
