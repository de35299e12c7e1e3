-- Requests that go to the modem.
use Rattle.std.proofs.Common.{◌≡◌, ℕ, ◌+◌, ◌^◌, ◌<◌, ◌≤◌, Bool, true, false, not, ◌&&◌, nat_le, List, length, refl, ap, ap₂, sym, ◌∙◌, Option, Some, None, is_some, if◌then◌else◌, arith}
use Rattle.kit_bytes.specs.Subscriptions.{Pair}
use Rattle.number_space.specs.Table.{next_number}
use Rattle.proxy_history.specs.Requests.{deadline_of}
use Rattle.mbim_frame.specs.declared.kind.MessageKind.TheVariants as kind
use Rattle.mbim_frame.specs.declared.head.MHead.{MHead}
use Rattle.mbim_frame.specs.Kinds.{kind_number}
use Rattle.mbim_frame.specs.Head.{number_of}
use Rattle.mbim_frame.specs.Bodies.{uuid_of, cid_of}
use Rattle.mbim_frame.specs.Writing.{open_request, unsplit}
use Rattle.mbim_frame.proofs.Written.{fragment_is_read}
use Rattle.mbim_fragments.specs.Splitting.{split, split_size}
use Rattle.mbim_fragments.proofs.Sizes.{length-split}
use Rattle.mbim_services.specs.SubscribeLists.{is_same_list}
use Rattle.mbim_proxy.specs.Setup.{Setup}
use Rattle.mbim_proxy.specs.ModemStates.{IsOpening}
use Rattle.mbim_proxy.specs.Forwarding.{own_open, own_subscribe}
use Rattle.mbim_state.specs.Asked.{asked_of}
use Rattle.mbim_state.specs.declared.asked.Asked.TheVariants as asked
use Rattle.mbim_state.specs.Core.{ModemSide, setup_of}
use Rattle.mbim_state.specs.Transitions.{number_at, forwards, opens, is_free, send_under, send_list}
use Rattle.mbim_clients.specs.Traffic.{Traffic, number_for}
use Rattle.mbim_clients.specs.Commands.{sends, list_text, own_list}

-- a command takes as many bytes under each number
pub same_length : (n k : ℕ) (body : List ℕ) → length (split (kind_number kind.Command) n 4096 body) ≡ length (split (kind_number kind.Command) k 4096 body)
same_length n k body = length-split (kind_number kind.Command) n 4096 body (omega arith) ∙ sym (length-split (kind_number kind.Command) k 4096 body (omega arith))

module _ (side : ModemSide) where
  abbrev s : Setup
  s = setup_of side

  abbrev pub traffic_of : Traffic
  traffic_of = record { numbers = side.numbers; outbox = side.outbox }

  abbrev deadline : ℕ
  deadline = deadline_of side.time side.time_limit

  -- the side with this traffic
  abbrev pub with_traffic : Traffic → ModemSide
  with_traffic t = record side { numbers = t.numbers; outbox = t.outbox }

  -- ---- the proxy's own request to open ----

  pub number_of_open : number_at s (own_open s) side ≡ number_for 16 traffic_of
  number_of_open = refl

  sent_open : (n : ℕ) → (let next : ModemSide = record (with_traffic (sends (Some n) 0 asked.Open deadline (λ number. open_request number 4096) traffic_of)) { modem = IsOpening } in next) ≡ opens s n side
  unfolding asked_of
  sent_open n = refl

  -- the side that it leaves, with this traffic and this deadline, of one that is seen as this one
  pub sent_open_beside : (n : ℕ) (t : Traffic) (by : ℕ) (seen : ModemSide) → side ≡ seen → by ≡ deadline → t ≡ sends (Some n) 0 asked.Open by (λ number. open_request number 4096) traffic_of
      → (let next : ModemSide = record (with_traffic t) { modem = IsOpening } in next) ≡ opens (setup_of seen) n seen
  sent_open_beside n t by seen is in_time sent =
      ap (λ (t : Traffic). let next : ModemSide = record (with_traffic t) { modem = IsOpening } in next)
      (sent ∙ ap (λ (by : ℕ). sends (Some n) 0 asked.Open by (λ number. open_request number 4096) traffic_of) in_time)
      ∙ sent_open n ∙ ap (λ (side : ModemSide). opens (setup_of side) n side) is

  -- ---- a command ----

  abbrev message : (number : ℕ) → (command : List ℕ) → List ℕ
  message number command = unsplit (kind_number kind.Command) number command

  pub number_of_command : (number : ℕ) (command : List ℕ) → number_at s (message number command) side ≡ number_for (split_size 4096 (length command)) traffic_of
  number_of_command number command =
      ap (λ (count : ℕ). if nat_le (length side.outbox.bytes + count) side.outbox.capacity then next_number side.numbers else None) (length-split (kind_number kind.Command) 0 4096 command (omega arith))

  number_kept : (number : ℕ) (command : List ℕ) → number < 2 ^ 32 → length command ≤ 65536 → number_of (message number command) ≡ number
  number_kept number command fits short =
      ap (λ (h : MHead). h.number)
      (fragment_is_read (record { kind = kind_number kind.Command; number = number; total = 1; current = 0 }) command (record { kind = omega arith; number = fits; total = omega arith; current = omega arith }) (omega (arith, short))).head

  pub sent_command : (c number n : ℕ) (command : List ℕ) → number < 2 ^ 32 → length command ≤ 65536
      → with_traffic (sends (Some n) c (asked.Command (record { number = number; uuid = uuid_of command; cid = cid_of command })) deadline (λ number. split (kind_number kind.Command) number 4096 command) traffic_of)
      ≡ forwards s c (message number command) n side
  unfolding asked_of
  sent_command c number n command fits short =
      ap (λ (k : ℕ). with_traffic (sends (Some n) c (asked.Command (record { number = k; uuid = uuid_of command; cid = cid_of command })) deadline (λ number. split (kind_number kind.Command) number 4096 command) traffic_of))
      (sym (number_kept number command fits short))

  -- ---- the proxy's own list ----

  module _ (list : List Pair) where
    number_of_list_text : number_at s (own_subscribe list) side ≡ number_for (length (list_text list 0)) traffic_of
    number_of_list_text = refl

    -- the side with the list, where it got this number
    abbrev with_list : Option ℕ → ModemSide
    with_list None = side
    with_list (Some n) = let next : ModemSide = record (with_traffic (sends (Some n) 0 (asked.Command own_list) deadline (list_text list) traffic_of)) { last_list = list } in next

    sent_list : (o : Option ℕ) → with_list o ≡ send_under s list o side
    unfolding asked_of
    sent_list None = refl
    sent_list (Some n) = refl

    abbrev under : (free same : Bool) → Option ℕ
    under free same = if free && not same then number_at s (own_subscribe list) side else None

    sent : is_free side ≡ true → is_same_list list side.last_list ≡ false → with_list (number_for (length (list_text list 0)) traffic_of) ≡ send_list s list side
    sent is_f is_s =
        sent_list (number_for (length (list_text list 0)) traffic_of)
        ∙ ap (λ (o : Option ℕ). send_under s list o side) (sym number_of_list_text)
        ∙ ap₂ (λ (free same : Bool). send_under s list (under free same) side) (sym is_f) (sym is_s)

    abbrev pub with_traffic_and_list : Traffic → List Pair → ModemSide
    with_traffic_and_list t l = let next : ModemSide = record (with_traffic t) { last_list = l } in next

    pub sent_under : (o : Option ℕ) → number_for (length (list_text list 0)) traffic_of ≡ o → is_some o ≡ true → is_free side ≡ true → is_same_list list side.last_list ≡ false
        → with_traffic_and_list (sends o 0 (asked.Command own_list) deadline (list_text list) traffic_of) list ≡ send_list s list side
    sent_under None is some is_f is_s = absurd (cc)
    sent_under (Some n) is some is_f is_s = ap with_list (sym is) ∙ sent is_f is_s
