-- What each entry of its view makes of a client's client state.
use Rattle.std.proofs.Common.{◌≡◌, ℕ, Bool, true, false, ◌||◌, ◌==◌, List, [], ◌∷◌, refl, ap, sym, ◌∙◌, subst, arith, if◌then◌else◌}
use Rattle.std.proofs.lemmas.Bool.{eq-eqb, eqb-true}
use Rattle.std.proofs.lemmas.Bool.Decides.{nat_tests}
use Rattle.proxy_history.specs.Facts.{Fact, Judged, Verdict, Own, Share, Foreign, Away, Full, Forward, Ready, Waits}
use Rattle.proxy_history.specs.Connections.{contains}
use Rattle.proxy_history.specs.View.{Entry, Said, view, entry_if}
use Rattle.proxy_history.specs.Rendering.{render}
use Rattle.proxy_history.specs.Wording.{told_by}
use Rattle.proxy_state.specs.Stands as proxy
use Rattle.proxy_state.proofs.ClientStates as client_states
use Rattle.mbim_proxy.specs.Setup.{Setup}
use Rattle.mbim_proxy.specs.Known.{Known}
use Rattle.mbim_proxy.specs.OwnReplies.{OwnReply, Silent, Wrong, NotOpened, Closes, Refuses, Configures, Subscribes, own_reply}
use Rattle.mbim_proxy.specs.Step.{with_message, with_reply, step, view_of}
use Rattle.mbim_proxy.specs.Text.{text_as, mbim_wording}
use Rattle.mbim_proxy.specs.History.{mbim_protocol}
use Rattle.mbim_state.specs.Core.{Client, client_of, known_by, kept_of}
use Rattle.mbim_state.specs.Transitions.{after, text}

abbrev pub ClientState : Type 0
ClientState = proxy.ClientState Client

module _ (s : Setup) where
  abbrev pub client_state_of : List Fact → ℕ → ClientState
  client_state_of past c = proxy.client_state_of (mbim_protocol s) (kept_of s) past c

  abbrev pub put_to : List ℕ → ClientState → ClientState
  put_to bytes a = client_states.put_to s.limits.outbox bytes a

  abbrev pub lacks_room : List ℕ → ClientState → Bool
  lacks_room bytes a = client_states.lacks_room s.limits.outbox bytes a

  -- its bytes come, and the client is as it is behind the entry
  abbrev pub with_entry : Entry → ClientState → ClientState
  with_entry entry a = record (put_to (text s entry a.client) a) { client = after s entry a.client }

  -- ---- what is kept of a client tells its replies ----

  module _ (known : Known) (m : List ℕ) where
    abbrev kept : Known
    kept = known_by (client_of known)

    same_text : (verdict : Verdict) → text_as s known (Said m verdict) ≡ text_as s kept (Said m verdict)
    same_text Own = refl
    same_text Share = refl
    same_text Foreign = refl
    same_text Away = refl
    same_text Full = refl
    same_text Forward = refl
    same_text Ready = refl
    same_text Waits = refl

    same_reply : (reply : OwnReply) → client_of (with_reply reply (with_message s m known)) ≡ client_of (with_reply reply (with_message s m kept))
    same_reply Silent = refl
    same_reply (Wrong code) = refl
    same_reply (NotOpened status) = refl
    same_reply Closes = refl
    same_reply (Refuses command status) = refl
    same_reply (Configures command) = refl
    same_reply (Subscribes command list) = refl

    same_client : (verdict : Verdict) → client_of (step s known (Said m verdict)) ≡ client_of (step s kept (Said m verdict))
    same_client Own = same_reply (own_reply s known m)
    same_client Share = refl
    same_client Foreign = refl
    same_client Away = refl
    same_client Full = refl
    same_client Forward = refl
    same_client Ready = refl
    same_client Waits = refl

  -- ---- a message with its verdict ----

  abbrev pub client_state_from : List Entry → ClientState
  client_state_from entries = client_states.client_state_from (mbim_protocol s) (kept_of s) entries

  abbrev told : List Entry → Known
  told entries = told_by (mbim_wording s).fresh (mbim_wording s).step entries

  sent_as : (m : List ℕ) (verdict : Verdict) (entries : List Entry) → client_state_from (Said m verdict ∷ entries) ≡ record (put_to (text_as s (told entries) (Said m verdict)) (client_state_from entries)) { client = client_of (step s (told entries) (Said m verdict)) }
  unfolding render told_by
  sent_as m verdict entries = refl

  sent : (m : List ℕ) (verdict : Verdict) (entries : List Entry) → client_state_from (Said m verdict ∷ entries) ≡ with_entry (Said m verdict) (client_state_from entries)
  sent m verdict entries =
      sent_as m verdict entries
      ∙ ap (λ (bytes : List ℕ). let a : ClientState = record (put_to bytes (client_state_from entries)) { client = client_of (step s (told entries) (Said m verdict)) } in a) (same_text (told entries) m verdict)
      ∙ ap (λ (client : Client). let a : ClientState = record (put_to (text s (Said m verdict) (client_state_from entries).client) (client_state_from entries)) { client = client } in a) (same_client (told entries) m verdict)

  pub judged_own : (past : List Fact) (c place : ℕ) (m : List ℕ) (verdict : Verdict) → client_state_of (Judged c place m verdict ∷ past) c ≡ with_entry (Said m verdict) (client_state_of past c)
  unfolding view
  judged_own past c place m verdict = ap (λ (b : Bool). client_state_from (entry_if b (Said m verdict) (view_of c past))) (eq-eqb c c refl) ∙ sent m verdict (view_of c past)

  pub judged_other : (past : List Fact) (c place d : ℕ) (m : List ℕ) (verdict : Verdict) → (c == d) ≡ false → client_state_of (Judged c place m verdict ∷ past) d ≡ client_state_of past d
  unfolding view
  judged_other past c place d m verdict other = ap (λ (b : Bool). client_state_from (entry_if b (Said m verdict) (view_of d past))) other

  -- ---- an entry of one client ----

  -- it changes that client's client state and no other
  pub told_alone : (past : List Fact) (c : ℕ) (entry : Entry) (change : ClientState → ClientState) → client_state_from (entry ∷ view_of c past) ≡ change (client_state_of past c)
      → (d : ℕ) → client_state_from (entry_if (c == d) entry (view_of d past)) ≡ (if contains d (c ∷ []) then change (client_state_of past d) else client_state_of past d)
  told_alone past c entry change own d =
      let Told : ℕ → Type 0 = λ (n : ℕ). client_state_from (entry_if (c == n) entry (view_of n past)) ≡ (if contains n (c ∷ []) then change (client_state_of past n) else client_state_of past n) in
      let step : (b : Bool) → (c == d) ≡ b → Told d =
      λ b. elim b as (λ b. (c == d) ≡ b → Told d) [
        | true ↦ λ e.
            subst Told (eqb-true c d e)
            (ap (λ (t : Bool). client_state_from (entry_if t entry (view_of c past))) (eq-eqb c c refl) ∙ own
            ∙ sym (ap (λ (t : Bool). if t || false then change (client_state_of past c) else client_state_of past c) (eq-eqb c c refl)))
        | false ↦ λ e.
            let other : (d == c) ≡ false = grind (arith, nat_tests, e) in
            ap (λ (t : Bool). client_state_from (entry_if t entry (view_of d past))) e
            ∙ sym (ap (λ (t : Bool). if t || false then change (client_state_of past d) else client_state_of past d) other)
      ]
      in step (c == d) refl
