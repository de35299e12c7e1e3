-- A client that is alone is answered, text by text. Lists of texts have the newest first.
use Rattle.std.proofs.Common.{◌≡◌, ℕ, ◌<◌, Bool, true, false, not, ◌||◌, ◌==◌, if◌then◌else◌, List, [], ◌∷◌, length, refl, ap, sym, ◌∙◌, arith, subst}
use Rattle.std.proofs.lemmas.Bool.{eq-eqb}
use Rattle.framing.specs.Framing.{IsMessage}
use Rattle.framing.specs.Cutting.{cut}
use Rattle.qmux_frame.specs.Frame.{size_of}
use Rattle.qmux_frame.specs.Head.{number_of}
use Rattle.qmux_frame.specs.Reply.{with_number}
use Rattle.qmux_frame.specs.Control.{is_sync, is_proxy_open}
use Rattle.proxy_history.specs.Requests.{following}
use Rattle.qmi_proxy.specs.Setup.{Setup}
use Rattle.qmi_proxy.specs.Spaces.{space_of, top_of}
use Rattle.qmi_proxy.specs.Messages.{is_malformed, has_bad_id}
use Rattle.qmi_proxy.specs.OwnReplies.{view_decides}
use Rattle.lone_client.specs.Relay.{Answering, Stage, relayed, ask}
use Rattle.lone_client.specs.QmiLaw.{cast_of, has_opened, number_given, IsAnswered, IsMet, GetsItsAnswer, AreMet, LoneClientsAreAnswered}
use Rattle.lone_client.proofs.Rounds.{Stands, Exchanged, begins, own_exchange, forward_exchange}

pub message_long : (x : List ℕ) → IsMessage size_of x → 0 < length x
message_long [] is = absurd (cc)
message_long (byte ∷ x) is = omega arith

-- who hasn't opened the device gets its replies from the proxy itself
undecided : (opened : Bool) (m : List ℕ) → view_decides opened m ≡ false → opened ≡ true
undecided true m is = refl
undecided false m is = by (is_malformed m) (is_proxy_open m) is
  where
    by : (a b : Bool) → (a || b || not false || is_sync m || has_bad_id m) ≡ false → false ≡ true
    by true b e = absurd (cc)
    by false true e = absurd (cc)
    by false false e = absurd (cc)

module _ (s : Setup) (near : s.starts_away ≡ false) (modem : Answering) where
  -- what the proxy met may come, and nothing waits
  abbrev Standing : Stage → Type 0
  Standing stage = (opened : Bool) × (last : ℕ → ℕ) × Stands s near opened last stage.events

  module _ (stage : Stage) (m : List ℕ) (met : IsMet s modem stage m) where
    abbrev Served : Type 0
    Served = GetsItsAnswer s modem stage m × Standing (ask (cast_of s modem) m stage)

    served_own : {last : ℕ → ℕ} → Stands s near (has_opened s modem stage) last stage.events → view_decides (has_opened s modem stage) m ≡ true → Served
    served_own stands decides =
        let e = own_exchange s near modem stage m stands met.is_message met.short decides in
        (record { own = λ is. e.reply_is; modems = λ response other answered. let clash : true ≡ false = sym decides ∙ other in absurd (cc) }, (_, _, e.stands))

    served_modem : {last : ℕ → ℕ} → Stands s near (has_opened s modem stage) last stage.events → view_decides (has_opened s modem stage) m ≡ false → Served
    served_modem {last = last} stands shared =
        let opened : has_opened s modem stage ≡ true = undecided (has_opened s modem stage) m shared in
        let given : number_given s modem stage m ≡ following (top_of (space_of m)) (last (space_of m)) = ap (following (top_of (space_of m))) (stands.calm.last_is (space_of m)) in
        let by : (response : List ℕ) → IsAnswered s modem stage m response → Exchanged s near modem stage m (with_number (number_of m) response) true (λ space. if space_of m == space then following (top_of (space_of m)) (last (space_of m)) else last space) (with_number (following (top_of (space_of m)) (last (space_of m))) m ∷ stage.asked) =
        λ response is.
        forward_exchange s near modem stage m stands met.is_message met.short (subst (λ (b : Bool). view_decides b m ≡ false) opened shared) opened response
        (subst (λ (n : ℕ). IsMessage size_of (with_number n m)) given is.sent)
        (message_long (with_number (following (top_of (space_of m)) (last (space_of m))) m) (subst (λ (n : ℕ). IsMessage size_of (with_number n m)) given is.sent))
        (subst (λ (n : ℕ). (cut size_of (modem stage.asked (with_number n m))).messages ≡ response ∷ []) given is.alone)
        is.is_message is.short is.kind_is
        (rw (eq-eqb _ _ is.service, eq-eqb _ _ is.cid, eq-eqb _ _ (sym given ∙ is.number)) refl)
        in
        let one = met.answered shared in
        (record { own = λ decides. let clash : true ≡ false = sym decides ∙ shared in absurd (cc); modems = λ response other is. (by response is).reply_is }, (_, _, (by one.0 one.1).stands))

    served : Standing stage → Served
    served (opened, last, stands) =
        let is : has_opened s modem stage ≡ opened = stands.calm.open_is in
        let here : Stands s near (has_opened s modem stage) last stage.events = subst (λ (b : Bool). Stands s near b last stage.events) (sym is) stands in
        let step : (b : Bool) → view_decides (has_opened s modem stage) m ≡ b → Served = λ b. elim b as (λ b. view_decides (has_opened s modem stage) m ≡ b → Served) [ true ↦ λ e. served_own here e | false ↦ λ e. served_modem here e ] in
        step (view_decides (has_opened s modem stage) m) refl

  standing : (texts : List (List ℕ)) → AreMet s modem texts → Standing (relayed (cast_of s modem) texts)
  unfolding relayed
  standing [] met = (_, _, begins s near)
  standing (text ∷ texts) met = (served (relayed (cast_of s modem) texts) text met.0 (standing texts met.1)).1

pub lone_clients_are_answered : LoneClientsAreAnswered
unfolding relayed
lone_clients_are_answered s near modem text texts met =
    let is = served s near modem (relayed (cast_of s modem) texts) text met.0 (standing s near modem texts met.1) in
    (is.0, is.1.2.sound)
