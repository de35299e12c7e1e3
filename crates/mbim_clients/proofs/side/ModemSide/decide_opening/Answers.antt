use Rattle.std.proofs.Common.{◌≡◌, ℕ, Bool, true, false, not, ◌&&◌, List, refl, ap, ap₂, sym, ◌∙◌, Option, Some, None, is_some, is_none, if◌then◌else◌}
use Rattle.mbim_frame.specs.declared.head.MHead.{MHead}
use Rattle.mbim_proxy.specs.OwnReplies as own
use Rattle.mbim_proxy.specs.OwnReplies.{may_open}
use Rattle.mbim_state.specs.Core.{Client, known_by, ModemSide, setup_of}
use Rattle.mbim_state.specs.Transitions.{asked_last}
use Rattle.mbim_clients.specs.Side.{state_of}
use Rattle.mbim_clients.specs.Commands.{opens_under}
use Rattle.mbim_clients.proofs.Heard.{heard_not_opened, heard_away, heard_ready, heard_waiting, heard_full, heard_asking, heard_as}
use Rattle.mbim_clients.proofs.side.ModemSide.decide_opening.Goals as goal

none_by : (o : Option ℕ) → is_none o ≡ not (is_some o)
none_by None = refl
none_by (Some n) = refl

abbrev open_now : Client → Client
open_now client = record client { opened = true }

abbrev waits_now : Client → ℕ → Client
waits_now client number = record client { waits = Some number }

-- the client of this name comes last
asked_side : (n : ℕ) (was side : ModemSide) (names : List ℕ) → was ≡ side → names ≡ asked_last 64 n was.askers
    → (let after : ModemSide = record was { askers = names } in let last : ModemSide = record side { askers = asked_last 64 n side.askers } in after ≡ last)
asked_side n was side names same last =
    ap (λ (l : List ℕ). let after : ModemSide = record was { askers = l } in after) last ∙ ap (λ (b : ModemSide). let after : ModemSide = record b { askers = asked_last 64 n b.askers } in after) same

-- of a client that asked for fragments of another length
module _ (client left : Client) (length : ℕ) (same : left ≡ record client { fragment = length }) where
  configured_is : (b : Bool) → left.configured ≡ b → client.configured ≡ b
  configured_is b is = ap (λ (k : Client). k.configured) (sym same) ∙ is

  may_by : (b d : Bool) → left.configured ≡ b → is_some left.waits ≡ d → may_open (known_by client) ≡ (b && not d)
  may_by b d is waits = ap₂ (λ (b d : Bool). b && d) (configured_is b is) (none_by client.waits ∙ ap not (ap (λ (k : Client). is_some k.waits) (sym same) ∙ waits))

  reply_by : (b : Bool) → left.configured ≡ b → own.reply_to_open (known_by client) ≡ (if not b then own.NotOpened 14 else own.NotOpened 1)
  reply_by b is = ap (λ (b : Bool). if not b then own.NotOpened 14 else own.NotOpened 1) (configured_is b is)

pub returns-then-not-is_configured : goal.returns-then-not-is_configured
returns-then-not-is_configured c =
    let n : ℕ = c.args.name in
    let client : Client = c.args.client.now in
    let unnamed = sym c.is_configured.ensures ∙ c.if-not-is_configured.true in
    heard_as n c.args.message.now client c.args.self.now _ _ _ _ _ _
    (heard_not_opened n c.args.message.now client c.args.self.now c.args.asked c.requires.opens (may_by client c.ask_fragment.new.self _ c.ask_fragment.ensures false _ unnamed refl) 14 (reply_by client c.ask_fragment.new.self _ c.ask_fragment.ensures false unnamed))
    refl c.ask_fragment.ensures refl

pub returns-then-is_some : goal.returns-then-is_some
returns-then-is_some c =
    let n : ℕ = c.args.name in
    let client : Client = c.args.client.now in
    let named = sym c.is_configured.ensures ∙ c.if-not-is_configured.false in
    let waits = ap is_some (sym c.waits.ensures) ∙ sym c.is_some.ensures ∙ c.if-is_some.true in
    heard_as n c.args.message.now client c.args.self.now _ _ _ _ _ _
    (heard_not_opened n c.args.message.now client c.args.self.now c.args.asked c.requires.opens (may_by client c.ask_fragment.new.self _ c.ask_fragment.ensures true true named waits) 1 (reply_by client c.ask_fragment.new.self _ c.ask_fragment.ensures true named))
    refl c.ask_fragment.ensures refl

pub returns-in_default : goal.returns-in_default
returns-in_default c =
    let n : ℕ = c.args.name in
    let client : Client = c.args.client.now in
    let side : ModemSide = c.args.self.now in
    let named = sym c.is_configured.ensures ∙ c.if-not-is_configured.false in
    let waits = ap is_some (sym c.waits.ensures) ∙ sym c.is_some.ensures ∙ c.if-is_some.false in
    let shut = ap (λ (b : ModemSide). b.modem) (sym c.self.view_is) ∙ ap state_of c.in-Shut.is in
    heard_as n c.args.message.now client side _ _ _ _ _ _
    (heard_full n c.args.message.now client side c.args.asked c.requires.opens (may_by client c.ask_fragment.new.self _ c.ask_fragment.ensures true false named waits) shut (sym c.open_modem.ensures.number ∙ c.in_default.is))
    refl c.ask_fragment.ensures (c.open_modem.ensures.side ∙ ap (λ (o : Option ℕ). opens_under (setup_of side) o side) c.in_default.is)

pub returns-in-Away : goal.returns-in-Away
returns-in-Away c =
    let n : ℕ = c.args.name in
    let client : Client = c.args.client.now in
    let side : ModemSide = c.args.self.now in
    let named = sym c.is_configured.ensures ∙ c.if-not-is_configured.false in
    let waits = ap is_some (sym c.waits.ensures) ∙ sym c.is_some.ensures ∙ c.if-is_some.false in
    let away = ap (λ (b : ModemSide). b.modem) (sym c.self.view_is) ∙ ap state_of c.in-Away.is in
    heard_as n c.args.message.now client side _ _ _ _ _ _
    (heard_away n c.args.message.now client side c.args.asked c.requires.opens (may_by client c.ask_fragment.new.self _ c.ask_fragment.ensures true false named waits) away)
    refl c.ask_fragment.ensures refl

pub returns-in-Ready : goal.returns-in-Ready
returns-in-Ready c =
    let n : ℕ = c.args.name in
    let client : Client = c.args.client.now in
    let side : ModemSide = c.args.self.now in
    let named = sym c.is_configured.ensures ∙ c.if-not-is_configured.false in
    let waits = ap is_some (sym c.waits.ensures) ∙ sym c.is_some.ensures ∙ c.if-is_some.false in
    let ready = ap (λ (b : ModemSide). b.modem) (sym c.self.view_is) ∙ ap state_of c.in-Ready.is in
    heard_as n c.args.message.now client side _ _ _ _ _ _
    (heard_ready n c.args.message.now client side c.args.asked c.requires.opens (may_by client c.ask_fragment.new.self _ c.ask_fragment.ensures true false named waits) ready)
    refl (c.open_now.ensures ∙ ap open_now c.ask_fragment.ensures) refl

pub returns-in-Opening : goal.returns-in-Opening
returns-in-Opening c =
    let n : ℕ = c.args.name in
    let client : Client = c.args.client.now in
    let side : ModemSide = c.args.self.now in
    let named = sym c.is_configured.ensures ∙ c.if-not-is_configured.false in
    let waits = ap is_some (sym c.waits.ensures) ∙ sym c.is_some.ensures ∙ c.if-is_some.false in
    let opening = ap (λ (b : ModemSide). b.modem) (sym c.self.view_is) ∙ ap state_of c.in-Opening.is in
    heard_as n c.args.message.now client side _ _ _ _ _ _
    (heard_waiting n c.args.message.now client side c.args.asked c.requires.opens (may_by client c.ask_fragment.new.self _ c.ask_fragment.ensures true false named waits) opening)
    refl (c.wait.ensures ∙ ap₂ waits_now c.ask_fragment.ensures (ap (λ (h : MHead). h.number) c.read-number.ensures))
    (asked_side n _ side c.ask.new.self c.self.view_is c.ask.ensures)

pub returns-in-Some : goal.returns-in-Some
returns-in-Some c =
    let n : ℕ = c.args.name in
    let client : Client = c.args.client.now in
    let side : ModemSide = c.args.self.now in
    let named = sym c.is_configured.ensures ∙ c.if-not-is_configured.false in
    let waits = ap is_some (sym c.waits.ensures) ∙ sym c.is_some.ensures ∙ c.if-is_some.false in
    let shut = ap (λ (b : ModemSide). b.modem) (sym c.self.view_is) ∙ ap state_of c.in-Shut.is in
    heard_as n c.args.message.now client side _ _ _ _ _ _
    (heard_asking n c.args.message.now client side c.args.asked c.requires.opens (may_by client c.ask_fragment.new.self _ c.ask_fragment.ensures true false named waits) shut c.in-Some.field-0 (sym c.open_modem.ensures.number ∙ c.in-Some.is))
    refl (c.wait-in-Shut.ensures ∙ ap₂ waits_now c.ask_fragment.ensures (ap (λ (h : MHead). h.number) c.read-number.ensures))
    (asked_side n _ _ c.ask-in-Shut.new.self (c.self-in-Shut.view_is ∙ c.open_modem.ensures.side ∙ ap (λ (o : Option ℕ). opens_under (setup_of side) o side) c.in-Some.is) c.ask-in-Shut.ensures)
