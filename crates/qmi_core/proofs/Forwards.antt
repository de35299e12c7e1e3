-- What is made of a client's message, by what is decided on it.
use Rattle.std.proofs.Common.{◌≡◌, ℕ, Bool, true, false, not, List, length, refl, ap, sym, ◌∙◌, Option, Some, None, if◌then◌else◌}
use Rattle.qmux_frame.specs.Reply.{result_reply}
use Rattle.proxy_history.specs.Facts.{Own, Share, Foreign, Away, Full, Forward, Ready, Waits}
use Rattle.proxy_history.specs.Decision.{Decision, Replies, Forwards, forwards_under}
use Rattle.proxy_history.specs.View.{Said}
use Rattle.proxy_history.specs.ClientIds.{is_other}
use Rattle.qmi_proxy.specs.OwnReplies.{view_decides, own_error, step}
use Rattle.outbox.specs.Queue.{Queue}
use Rattle.connections.specs.Hearing.{Hearing}
use Rattle.qmi_proxy.specs.Clients.{has_room, deadline_of}
use Rattle.qmi_state.specs.Traffic.{number_at}
use Rattle.qmi_state.specs.Transitions.{share_of, holder_at, shared_of, refusal_of, forwards_as, replied, act_on, hear_client}
use Rattle.qmi_state.specs.declared.client.Client.{Client}
use Rattle.qmi_state.specs.Core.{ModemSide}

module _ (c : ℕ) (m : List ℕ) (client : Client) (outbox : Queue) (side : ModemSide) where
  abbrev deadline : ℕ
  deadline = deadline_of side.time side.time_limit

  abbrev shared_decision : Decision
  shared_decision = shared_of side.away c m side.traffic

  abbrev with_traffic_of : Decision → ModemSide
  with_traffic_of decision = record side { traffic = forwards_as decision deadline c m side.traffic }

  -- the client's own view decides
  pub heard_own : (error : ℕ) → true ≡ view_decides client.opened m → error ≡ own_error side.device client.opened m
      → hear_client c m client outbox side ≡ replied (result_reply m error) (step side.device client.opened (Said m Own)) client outbox side
  heard_own error own is =
      ap (λ (b : Bool). act_on c m (if b then Replies Own else shared_decision) client outbox side) (sym own)
      ∙ ap (λ (n : ℕ). replied (result_reply m n) (step side.device client.opened (Said m Own)) client outbox side) (sym is)

  shared : false ≡ view_decides client.opened m → (decision : Decision) → shared_decision ≡ decision → hear_client c m client outbox side ≡ act_on c m decision client outbox side
  shared own decision is = ap (λ (b : Bool). act_on c m (if b then Replies Own else shared_decision) client outbox side) (sym own) ∙ ap (λ (d : Decision). act_on c m d client outbox side) is

  abbrev refused_by : ℕ → Decision → Hearing Client ModemSide
  refused_by error decision = replied (result_reply m error) client.opened client outbox (with_traffic_of decision)

  -- what all clients share decides: it is refused
  pub heard_refused : false ≡ view_decides client.opened m → (error : ℕ) → Some error ≡ refusal_of shared_decision
      → hear_client c m client outbox side ≡ replied (result_reply m error) client.opened client outbox (with_traffic_of shared_decision)
  heard_refused own error refused = decided shared_decision refl
    where
      with_error : (known : ℕ) → Some error ≡ Some known → replied (result_reply m known) client.opened client outbox side ≡ replied (result_reply m error) client.opened client outbox side
      with_error known e = let same : known ≡ error = cc in ap (λ (n : ℕ). replied (result_reply m n) client.opened client outbox side) same

      each : (decision : Decision) → Some error ≡ refusal_of decision → act_on c m decision client outbox side ≡ refused_by error decision
      each (Replies Own) e = absurd (cc)
      each (Replies Share) e = with_error 2 e
      each (Replies Foreign) e = with_error 7 e
      each (Replies Away) e = with_error 3 e
      each (Replies Full) e = with_error 23 e
      each (Replies Forward) e = absurd (cc)
      each (Replies Ready) e = absurd (cc)
      each (Replies Waits) e = absurd (cc)
      each (Forwards number) e = absurd (cc)

      decided : (decision : Decision) → shared_decision ≡ decision → hear_client c m client outbox side ≡ refused_by error shared_decision
      decided decision is = shared own decision is ∙ each decision (refused ∙ ap refusal_of is) ∙ ap (refused_by error) (sym is)

  -- what all clients share decides on none of these
  abbrev is_never_shared : Decision → Bool
  is_never_shared (Replies Share) = false
  is_never_shared (Replies Foreign) = false
  is_never_shared (Replies Away) = false
  is_never_shared (Replies Full) = false
  is_never_shared (Forwards number) = false
  is_never_shared _ = true

  never_shared : (share foreign gone room : Bool) (number : Option ℕ) → is_never_shared (if share then Replies Share else if foreign then Replies Foreign else if gone then Replies Away else if not room then Replies Full else forwards_under number) ≡ true → ⊥
  never_shared true foreign gone room number e = cc
  never_shared false true gone room number e = cc
  never_shared false false true room number e = cc
  never_shared false false false false number e = cc
  never_shared false false false true None e = cc
  never_shared false false false true (Some n) e = cc

  abbrev forwarded : Decision → Hearing Client ModemSide
  forwarded decision = record { client = client; outbox = outbox; beside = with_traffic_of decision; has_room = true }

  -- or it goes to the modem
  pub heard_forwarded : false ≡ view_decides client.opened m → None ≡ refusal_of shared_decision
      → hear_client c m client outbox side ≡ record { client = client; outbox = outbox; beside = with_traffic_of shared_decision; has_room = true }
  heard_forwarded own refused = decided shared_decision refl
    where
      never : (decision : Decision) → shared_decision ≡ decision → is_never_shared decision ≡ true → ⊥
      never decision is e = never_shared (share_of c m side.traffic) (is_other c (holder_at m side.traffic)) side.away (has_room (length side.traffic.waiting) m) (number_at m side.traffic) (ap is_never_shared is ∙ e)

      each : (decision : Decision) → shared_decision ≡ decision → None ≡ refusal_of decision → act_on c m decision client outbox side ≡ forwarded decision
      each (Replies Own) is e = absurd (never (Replies Own) is refl)
      each (Replies Ready) is e = absurd (never (Replies Ready) is refl)
      each (Replies Waits) is e = absurd (never (Replies Waits) is refl)
      each (Replies Forward) is e = absurd (never (Replies Forward) is refl)
      each (Replies Share) is e = absurd (cc)
      each (Replies Foreign) is e = absurd (cc)
      each (Replies Away) is e = absurd (cc)
      each (Replies Full) is e = absurd (cc)
      each (Forwards number) is e = refl

      decided : (decision : Decision) → shared_decision ≡ decision → hear_client c m client outbox side ≡ forwarded shared_decision
      decided decision is = shared own decision is ∙ each decision is (refused ∙ ap refusal_of is) ∙ ap forwarded (sym is)
