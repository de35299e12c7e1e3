-- What an answer of the modem adds to a rig's facts. Lists of facts have the newest first.
use Rattle.std.proofs.Common.{◌≡◌, ℕ, zero, ◌+◌, ◌≤◌, Bool, true, false, ◌&&◌, ◌==◌, if◌then◌else◌, List, [], ◌∷◌, ◌++◌, length, Option, Some, refl, ap, sym, ◌∙◌, arith, subst, AllPairs, Contains}
use Rattle.std.proofs.lemmas.Bool.{eq-eqb}
use Rattle.std.proofs.lemmas.List.Elements.{All-contains, All-from_recursion, Contains-append_right}
use Rattle.framing.specs.Framing.{IsMessage}
use Rattle.qmux_frame.specs.Frame.{size_of}
use Rattle.qmux_frame.specs.Head.{number_of}
use Rattle.qmux_frame.specs.Control.{is_release}
use Rattle.qmux_frame.specs.declared.kind.MessageKind.TheVariants as kind
use Rattle.qmux_frame.specs.Kind.{framed_kind}
use Rattle.qmux_frame.specs.Reply.{with_number}
use Rattle.qmux_frame.proofs.Framed.{framed_long, responses_framed, numbered_length}
use Rattle.proxy_history.specs.Coming.{piece_limit}
use Rattle.proxy_history.specs.Facts.{Fact, Request, Answered, Late, Granted}
use Rattle.proxy_history.specs.Connections.{present}
use Rattle.proxy_history.specs.Requests.{in_use, is_pending, without_request}
use Rattle.proxy_history.specs.ClientIds.{holder, is_other}
use Rattle.proxy_history.specs.Sound.{IsSound, Differ}
use Rattle.proxy_history.specs.View.{Entry, Response, entry_if, view, said_at}
use Rattle.proxy_history.specs.Rendering.{Rendering, render, put}
use Rattle.proxy_history.proofs.SoundLaws.{in_use_differ}
use Rattle.qmi_proxy.specs.Setup.{Setup}
use Rattle.qmi_proxy.specs.Limits.{qmi_limits, outbox_limit}
use Rattle.qmi_proxy.specs.Spaces.{space_of}
use Rattle.qmi_proxy.specs.Messages.{is_success, byte_of, value_of, used_service, used_cid}
use Rattle.qmi_proxy.specs.Text.{blank, text, view_of, rendering, note}
use Rattle.qmi_proxy.specs.FromModem.{IdChange, NoChange, Frees, granted_unless, brings_id, holder_of_brought, is_answered_by, first_answered_by, answer, answer_to, answer_or_late, respond, hear_as, hear_modem}
use Rattle.qmi_proxy.proofs.Apart.{within}
use Rattle.qmi_proxy.proofs.Answered.{one_is_answered, first_is}
use Rattle.rig_laws.proofs.Lists.{goes_from_between}
use Rattle.rig_laws.proofs.Harmless.{own_id_is_free}
use Rattle.rig_laws.proofs.Calm.{IsClients, Calm, answered, late, granted}
use Rattle.rig_laws.proofs.Room.{HasRoom, AllHaveRoom, put_has_room, less_room, noted}

-- the modem's answer to the request, which brings no client id but that of its client's own number
pub record Suits (m : List ℕ) (r : Request) : Type 0 where
  pub is_message : IsMessage size_of m
  pub short : length m ≤ piece_limit
  pub response : framed_kind m ≡ Some kind.Response
  pub answers : is_answered_by m r ≡ true
  pub keeps_ids : is_release r.message ≡ false
  pub own_id : brings_id r.message m ≡ true → byte_of 1 (value_of 0x01 m) ≡ r.conn

module _ (s : Setup) (m : List ℕ) (r : Request) (suits : Suits m r) where
  long : 12 ≤ length m
  long = framed_long m (responses_framed m suits.response)

  -- ---- the bytes find room ----

  answered_rendering : (b : Bool) (entries : List Entry) → b ≡ true → render outbox_limit (text s.device) (entry_if b (Response r.place (blank m)) entries)
      ≡ put outbox_limit (with_number (number_of (said_at r.place entries)) (blank m)) (render outbox_limit (text s.device) entries)
  unfolding render
  answered_rendering true entries e = refl
  answered_rendering false entries e = absurd (cc)

  text_length : (number : ℕ) → length (with_number number (blank m)) ≡ length m
  text_length number = let same : length (blank m) ≡ length m = numbered_length 0 m long in numbered_length number (blank m) (omega (arith, same, long)) ∙ same

  answer_fits : (past : List Fact) → HasRoom piece_limit (rendering s.device r.conn past) → (rendering s.device r.conn (Answered r m ∷ past)).is_over ≡ false
  unfolding view
  answer_fits past has =
      let number : ℕ = number_of (said_at r.place (view_of r.conn past)) in
      let bytes : List ℕ = with_number number (blank m) in
      subst (λ (o : Rendering). o.is_over ≡ false) (sym (answered_rendering (r.conn == r.conn) (view_of r.conn past) (eq-eqb r.conn r.conn refl)))
      (put_has_room 0 bytes (rendering s.device r.conn past) (less_room (length bytes + 0) piece_limit (rendering s.device r.conn past) (omega (arith, text_length number, suits.short)) has)).fits

  answer_is_noted : (past : List Fact) → AllHaveRoom s piece_limit past → note s.device (Answered r m) past ≡ Answered r m ∷ past
  unfolding present
  answer_is_noted past has = noted s (Answered r m) past r.conn refl (λ there. answer_fits past (has r.conn there))

  -- ---- the answer is the request's ----

  module _ (joined opened : ℕ) (before behind : List Request) (past : List Fact) (sound : IsSound qmi_limits past) (placed : (p : Request) → Contains (in_use past) p → p.space ≡ space_of p.message)
      (calm : Calm s joined opened (before ++ r ∷ behind) [] past) (room : AllHaveRoom s piece_limit past) where
    used : Contains (in_use past) r
    used = subst (λ (l : List Request). Contains l r) (sym calm.uses) (Contains-append_right before (r ∷ behind) r (zero, omega arith, refl))

    found : first_answered_by m (in_use past) ≡ Some r
    found = first_is m (in_use past) r (λ q at answers. one_is_answered past m q r sound placed at used answers suits.answers) used suits.answers

    others_stay : without_request r (before ++ r ∷ behind) ≡ before ++ behind
    others_stay = goes_from_between before r behind (subst (λ (l : List Request). AllPairs Differ l) calm.uses (in_use_differ qmi_limits within past sound))

    abbrev IsCalm : List Fact → Type 0
    IsCalm after = Calm s joined opened (before ++ behind) [] after

    calm_without : (after : List Fact) → Calm s joined opened (without_request r (before ++ r ∷ behind)) [] after → IsCalm after
    calm_without after is = subst (λ (l : List Request). Calm s joined opened l [] after) others_stay is

    abbrev change : Bool → Bool → IdChange
    change brings other =
        if brings then granted_unless other (byte_of 0 (value_of 0x01 m)) (byte_of 1 (value_of 0x01 m)) else if is_release r.message && is_success m then Frees (used_service r.message) (used_cid r.message) else NoChange

    frees_none : (b : Bool) → b ≡ false → IsCalm (answer s.device r m (if b && is_success m then Frees (used_service r.message) (used_cid r.message) else NoChange) past)
    frees_none true e = absurd (cc)
    frees_none false e = subst IsCalm (sym (answer_is_noted past room)) (calm_without (Answered r m ∷ past) (answered s calm r m))

    room_behind : (service cid : ℕ) → AllHaveRoom s piece_limit (Granted r.conn service cid ∷ past)
    unfolding view present
    room_behind service cid = room

    brings : (other : Bool) → other ≡ false → byte_of 1 (value_of 0x01 m) ≡ r.conn → IsCalm (answer s.device r m (granted_unless other (byte_of 0 (value_of 0x01 m)) (byte_of 1 (value_of 0x01 m))) past)
    brings true isnt own = absurd (cc)
    brings false isnt own =
        let service : ℕ = byte_of 0 (value_of 0x01 m) in
        let cid : ℕ = byte_of 1 (value_of 0x01 m) in
        subst IsCalm (sym (answer_is_noted (Granted r.conn service cid ∷ past) (room_behind service cid)))
        (calm_without (Answered r m ∷ Granted r.conn service cid ∷ past) (answered s (granted s calm r.conn service cid own) r m))

    not_others : byte_of 1 (value_of 0x01 m) ≡ r.conn → is_other r.conn (holder_of_brought m past) ≡ false
    not_others own = ap (λ (n : ℕ). is_other r.conn (holder (byte_of 0 (value_of 0x01 m)) n past)) own ∙ own_id_is_free s r.conn (byte_of 0 (value_of 0x01 m)) past calm.harmless

    changed : (b : Bool) → brings_id r.message m ≡ b → IsCalm (answer s.device r m (change b (is_other r.conn (holder_of_brought m past))) past)
    changed true e = brings (is_other r.conn (holder_of_brought m past)) (not_others (suits.own_id e)) (suits.own_id e)
    changed false e = frees_none (is_release r.message) suits.keeps_ids

    client : IsClients r
    client =
        All-contains IsClients (before ++ r ∷ behind) r (All-from_recursion IsClients (before ++ r ∷ behind) calm.clients) (Contains-append_right before (r ∷ behind) r (zero, omega arith, refl))

    waits_or_not : (b : Bool) → IsCalm (answer_or_late s.device b r m past)
    waits_or_not true = subst (λ (own : Bool). IsCalm (answer_to own s.device r m past)) (sym client) (changed (brings_id r.message m) refl)
    waits_or_not false = calm_without (Late r ∷ past) (late s calm r)

    pub answer_is_heard : IsCalm (hear_modem s.device m past)
    answer_is_heard =
        let heard : hear_modem s.device m past ≡ answer_or_late s.device (is_pending r past) r m past =
        ap (λ answered. hear_as answered s.device m past) suits.response ∙ ap (λ (o : Option Request). respond s.device o m past) found in
        subst IsCalm (sym heard) (waits_or_not (is_pending r past))
