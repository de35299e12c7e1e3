-- The bytes that a client gets of the modem.
use Rattle.std.proofs.Common.{◌≡◌, ◌<◌, ℕ, length, drop, slice_get, arith, ◌==◌, Bool, ◌&&◌, is_some, List, [], ◌∷◌, filter, cond, true, false, refl, ap, sym, ◌∙◌, Some, None, if◌then◌else◌}
use Rattle.kit_bytes.specs.Indications.{wants}
use Rattle.connections.specs.Table.{Connection}
use Rattle.mbim_frame.specs.declared.bodies.IndicationHead.{IndicationHead}
use Rattle.mbim_frame.specs.declared.kind.MessageKind.TheVariants.{CommandDone, FunctionError, IndicateStatus}
use Rattle.mbim_frame.specs.Fragment.{body_of}
use Rattle.mbim_frame.specs.Bodies.{uuid_of, cid_of, is_done, done_head_of, read_done, is_indication, indication_head_of, read_indication}
use Rattle.mbim_frame.specs.Head.{kind_of, with_number}
use Rattle.mbim_frame.specs.Kinds.{kind_number}
use Rattle.mbim_frame.specs.Writing.{open_done}
use Rattle.mbim_fragments.specs.Splitting.{split}
use Rattle.proxy_history.specs.View.{OpenedWith}
use Rattle.proxy_state.specs.Chosen.{names_in, chosen}
use Rattle.proxy_state.specs.Telling as telling
use Rattle.proxy_state.proofs.Chosen.{tell_from_first}
use Rattle.mbim_proxy.specs.Setup.{Setup}
use Rattle.mbim_proxy.specs.Known.{waiting_number}
use Rattle.mbim_proxy.specs.Text.{response_text}
use Rattle.mbim_proxy.specs.FromModem.{IsIndication}
use Rattle.mbim_state.specs.Asked.{ask_by}
use Rattle.mbim_state.specs.declared.asked.CommandName.{CommandName}
use Rattle.mbim_state.specs.Core.{Client, known_by, ModemSide, MbimState}
use Rattle.mbim_state.specs.Transitions.{with_side, give_up, text, tell_each, opening_ended, waiting_of, ends_opening, receivers_in, open_ones, hear_as}
use Rattle.mbim_core.specs.State.{IsDoneWith, IsIndicationWith, tells_opened, indicated_from, wants_in}

-- ---- answers ----

pub done_text_is : (body m : List ℕ) → IsDoneWith body m → (client : Client) (command : CommandName) (kind max : ℕ) → kind ≡ kind_number CommandDone → max ≡ client.fragment
    → split kind command.number max body ≡ response_text (known_by client) (ask_by command) m
done_text_is body m D client command kind max kind_is max_is =
    ap (λ (k : ℕ). split k command.number max body) kind_is
    ∙ ap (λ (n : ℕ). split (kind_number CommandDone) command.number n body) max_is
    ∙ sym (ap (λ (n : ℕ). if n == kind_number FunctionError then with_number command.number m else split n command.number client.fragment (body_of m)) D.kind
    ∙ ap (λ (l : List ℕ). split (kind_number CommandDone) command.number client.fragment l) D.carries)

pub error_text_is : (m : List ℕ) → kind_of m ≡ kind_number FunctionError → (client : Client) (command : CommandName) → with_number command.number m ≡ response_text (known_by client) (ask_by command) m
error_text_is m is client command = sym (ap (λ (n : ℕ). if n == kind_number FunctionError then with_number command.number m else split n command.number client.fragment (body_of m)) is)

-- ---- the end of an opening ----

pub opened_text_is : (s : Setup) (status number : ℕ) (client : Client) → number ≡ waiting_number client.waits → open_done number status ≡ text s (OpenedWith status) client
opened_text_is s status number client is = ap (λ (n : ℕ). open_done n status) is

-- those who wait are told one after another
pub opening_told : (s : Setup) (status : ℕ) (x : MbimState) (side : ModemSide) → side ≡ opening_ended status x.beside
    → tell_each s (OpenedWith status) (waiting_of x.table.present x.beside.askers) (with_side side x) ≡ ends_opening s status x
opening_told s status x side made = ap (λ (b : ModemSide). tell_each s (OpenedWith status) (waiting_of x.table.present x.beside.askers) (with_side b x)) made

pub next_told : (s : Setup) (status name : ℕ) (names : List ℕ) (x : MbimState) → Some name ≡ slice_get names 0 → tell_each s (OpenedWith status) (drop 1 names) (tells_opened s status name x) ≡ tell_each s (OpenedWith status) names x
unfolding telling.tell_each
next_told s status name [] x first = absurd (cc)
next_told s status name (c ∷ names) x first = ap (λ (d : ℕ). tell_each s (OpenedWith status) names (tells_opened s status d x)) (let same : name ≡ c = cc in same)

pub none_told : (s : Setup) (status : ℕ) (names : List ℕ) (x : MbimState) → None ≡ slice_get names 0 → x ≡ tell_each s (OpenedWith status) names x
unfolding telling.tell_each
none_told s status [] x none = refl
none_told s status (c ∷ names) x none = absurd (cc)

pub fewer_left : (name : ℕ) (names : List ℕ) → Some name ≡ slice_get names 0 → length (drop 1 names) < length names
fewer_left name [] first = absurd (cc)
fewer_left name (c ∷ names) first = omega arith

-- ---- an indication ----

abbrev pub indication_text : (body : List ℕ) → Client → List ℕ
indication_text body client = split (kind_number IndicateStatus) 0 client.fragment body

pub indication_written : (body : List ℕ) (client : Client) (bytes written : List ℕ) (kind fragment : ℕ) → bytes ≡ written → written ≡ split kind 0 fragment body → kind ≡ kind_number IndicateStatus → fragment ≡ client.fragment
    → bytes ≡ indication_text body client
indication_written body client bytes written kind fragment is made by_kind by_fragment = is ∙ made ∙ ap (λ (n : ℕ). split n 0 fragment body) by_kind ∙ ap (λ (n : ℕ). split (kind_number IndicateStatus) 0 n body) by_fragment

-- who is open, and of those who wants it
chosen_twice : (head : IndicationHead) (side : ModemSide) (present : List (Connection Client)) → chosen (wants_in head) side present ≡ receivers_in head.uuid head.cid present
chosen_twice head side present = ap names_in (both present)
  where
    both : (present : List (Connection Client)) → filter (wants_in head side) present ≡ filter (λ (k : Connection Client). wants k.client.list head.uuid head.cid) (open_ones present)
    both [] = refl
    both (k ∷ present) = by k.client.opened (wants k.client.list head.uuid head.cid) refl (both present)
      where
        by : (o w : Bool) → wants k.client.list head.uuid head.cid ≡ w → filter (wants_in head side) present ≡ filter (λ (l : Connection Client). wants l.client.list head.uuid head.cid) (open_ones present)
            → cond (o && w) (k ∷ filter (wants_in head side) present) (filter (wants_in head side) present) ≡ filter (λ (l : Connection Client). wants l.client.list head.uuid head.cid) (cond o (k ∷ open_ones present) (open_ones present))
        by true true is rest = rw is (ap (λ (l : List (Connection Client)). k ∷ l) rest)
        by true false is rest = rw is rest
        by false w is rest = rest

pub indication_told : (s : Setup) (head : IndicationHead) (body m : List ℕ) (x : MbimState) → head ≡ record { uuid = uuid_of body; cid = cid_of body } → IsIndicationWith body m → indicated_from head body 0 x ≡ hear_as s IsIndication m x
indication_told s head body m x is I =
    tell_from_first give_up (λ client. split (kind_number IndicateStatus) 0 client.fragment body) (λ client. client) (wants_in head) (λ c beside k later. refl) x
    ∙ ap (λ (cs : List ℕ). telling.tell_each give_up (λ client. split (kind_number IndicateStatus) 0 client.fragment body) (λ client. client) cs x) (chosen_twice head x.beside x.table.present)
    ∙ ap (λ (h : IndicationHead). telling.tell_each give_up (λ client. split (kind_number IndicateStatus) 0 client.fragment body) (λ client. client) (receivers_in h.uuid h.cid x.table.present) x) is
    ∙ ap (λ (l : List ℕ). telling.tell_each give_up (λ client. split (kind_number IndicateStatus) 0 client.fragment body) (λ client. client) (receivers_in (uuid_of l) (cid_of l) x.table.present) x) (sym I.carries)
    ∙ ap (λ (l : List ℕ). telling.tell_each give_up (λ client. split (kind_number IndicateStatus) 0 client.fragment l) (λ client. client) (receivers_in (uuid_of (body_of m)) (cid_of (body_of m)) x.table.present) x) (sym I.blank_body)

-- the body has the form of an indication's, with this head
pub read_indication_is : (body : List ℕ) (head : IndicationHead) → Some head ≡ read_indication body → (is_indication body ≡ true) × (head ≡ record { uuid = uuid_of body; cid = cid_of body })
read_indication_is body head is = by (is_indication body) refl is
  where
    by : (b : Bool) → is_indication body ≡ b → Some head ≡ (if b then Some (indication_head_of body) else None) → (is_indication body ≡ true) × (head ≡ record { uuid = uuid_of body; cid = cid_of body })
    by true test is = (test, (let same : head ≡ indication_head_of body = cc in same))
    by false test is = absurd (cc)

pub read_done_is : (body : List ℕ) → is_some (read_done body) ≡ true → is_done body ≡ true
read_done_is body some = by (is_done body) refl some
  where
    by : (b : Bool) → is_done body ≡ b → is_some (if b then Some (done_head_of body) else None) ≡ true → is_done body ≡ true
    by true test some = test
    by false test some = absurd (cc)
