-- What a fact on one request makes of a core: it is for the request's sender, or for nobody where the proxy itself asked.
use Rattle.std.proofs.Common.{◌≡◌, ◌⊎◌, ℕ, Bool, true, false, ◌&&◌, ◌==◌, List, [], ◌∷◌, refl, ap, sym, ◌∙◌, subst, ⊎_elim, Option, if◌then◌else◌}
use Rattle.std.proofs.lemmas.Bool.{eq-eqb}
use Rattle.connections.specs.Table.{Connection}
use Rattle.proxy_history.specs.Facts.{Fact, Request, Ended, NoRoom}
use Rattle.proxy_history.specs.Connections.{present, dropped, contains}
use Rattle.proxy_history.specs.View.{Entry, entry_if}
use Rattle.proxy_history.specs.Noting.{rendering, receivers_of, end_if_overfull, end_overfull}
use Rattle.proxy_state.specs.Stands.{Streams}
use Rattle.proxy_state.specs.Telling as telling
use Rattle.proxy_state.proofs.Keeping.{found_absent, keeps_unheard}
use Rattle.proxy_state.proofs.Telling.{told_one}
use Rattle.mbim_proxy.specs.Setup.{Setup}
use Rattle.mbim_proxy.specs.Step.{view_of}
use Rattle.mbim_proxy.specs.ModemStates.{is_own_open}
use Rattle.mbim_proxy.specs.Text.{mbim_wording, note}
use Rattle.mbim_proxy.specs.FromModem as history
use Rattle.mbim_proxy.specs.History.{mbim_protocol}
use Rattle.mbim_state.specs.Core.{Client, Numbers, ModemSide, MbimState, numbers_of, side_of, kept_of}
use Rattle.mbim_state.specs.Transitions.{with_numbers, give_up, ends_opening, mbim_handlers}
use Rattle.mbim_state.proofs.Regular.{Regular, proxy_is_no_client, proxy_is_never_dropped}
use Rattle.mbim_state.proofs.ClientStates.{client_state_of, put_to, client_state_from}
use Rattle.mbim_state.proofs.Keeping as keeping
use Rattle.mbim_state.proofs.Keeping.{side_with, follows_connections}
use Rattle.mbim_state.proofs.Commands.{IsCommandOf}
use Rattle.mbim_state.proofs.Receivers.{kept_opened}

-- what is kept beside the connections, with other numbers in use
pub numbers_changed : (s : Setup) (streams : Streams) (change : Numbers → Numbers) (past : List Fact) (x : MbimState) → keeping.Kept s streams past x
    → (let side : ModemSide = record x.beside { numbers = change x.beside.numbers } in side) ≡ side_with s streams.messages past (change (numbers_of s past))
numbers_changed s streams change past x K = ap (λ (b : ModemSide). let side : ModemSide = record b { numbers = change b.numbers } in side) K.holds.beside

-- the fact adds the entry to its sender's view and nothing to any other
module _ (s : Setup) (streams : Streams) (past : List Fact) (x : MbimState) (r : Request) (fact : Fact) (entry : Entry) (numbers : Numbers)
    (receives : receivers_of fact ≡ r.conn ∷ []) (seen : (d : ℕ) → view_of d (fact ∷ past) ≡ entry_if (r.conn == d) entry (view_of d past))
    (same_present : present (fact ∷ past) ≡ present past) (same_dropped : dropped (fact ∷ past) ≡ dropped past)
    (is : (let side : ModemSide = record x.beside { numbers = numbers } in side) ≡ side_of s streams.messages (fact ∷ past)) (regular : Regular s (fact ∷ past)) (K : keeping.Kept s streams past x) where
  abbrev Kept : List Fact → MbimState → Type 0
  Kept facts y = keeping.Kept s streams facts y

  abbrev side : ModemSide
  side = record x.beside { numbers = numbers }

  other : (d : ℕ) → (r.conn == d) ≡ false → client_state_of s (fact ∷ past) d ≡ client_state_of s past d
  other d differs = ap (client_state_from s) (seen d ∙ ap (λ (b : Bool). entry_if b entry (view_of d past)) differs)

  ends_one : note s fact past ≡ end_if_overfull s.limits (mbim_wording s) r.conn (fact ∷ past)
  unfolding end_overfull
  ends_one = ap (λ (cs : List ℕ). end_overfull s.limits (mbim_wording s) cs (fact ∷ past)) receives

  -- ---- a request of the proxy itself ----

  module _ (own : r.conn ≡ 0) where
    absent : contains r.conn (present past) ≡ false
    absent = ap (λ (n : ℕ). contains n (present past)) own ∙ proxy_is_no_client s past K.fine.new

    never_dropped : contains r.conn (dropped past) ≡ false
    never_dropped = ap (λ (n : ℕ). contains n (dropped past)) own ∙ proxy_is_never_dropped s past K.fine.sound K.fine.new

    ends_nobody : note s fact past ≡ fact ∷ past
    ends_nobody =
        ends_one
        ∙ ap (λ (b : Bool). if b && (rendering s.limits (mbim_wording s) r.conn (fact ∷ past)).is_over then Ended r.conn NoRoom ∷ fact ∷ past else fact ∷ past) (ap (contains r.conn) same_present ∙ absent)

    kept_own : Kept (note s fact past) (with_numbers numbers x)
    kept_own =
        subst (λ (l : List Fact). Kept l (with_numbers numbers x)) (sym ends_nobody)
        (keeps_unheard (mbim_protocol s) (kept_of s) (Regular s) streams (fact ∷ past) past x r.conn side other absent never_dropped same_present same_dropped is regular K)

  -- ---- bytes for its sender ----

  module _ (text : Client → List ℕ) where
    abbrev told : Option (Connection Client) → MbimState
    told o = telling.tell_to give_up text (λ client. client) o r.conn (with_numbers numbers x)

    abbrev told_now : MbimState
    told_now = telling.tell give_up text (λ client. client) r.conn (with_numbers numbers x)

    kept_untold : r.conn ≡ 0 → Kept (note s fact past) told_now
    kept_untold own = subst (λ (o : Option (Connection Client)). Kept (note s fact past) (told o)) (sym (found_absent (mbim_protocol s) (kept_of s) streams past x r.conn K.holds (absent own))) (kept_own own)

    kept_told : contains r.conn (present past) ≡ true → client_state_from s (entry ∷ view_of r.conn past) ≡ put_to s (text (client_state_of s past r.conn).client) (client_state_of s past r.conn) → Kept (note s fact past) told_now
    kept_told there own =
        subst (λ (l : List Fact). Kept l told_now) (sym ends_one)
        (told_one (mbim_protocol s) (kept_of s) (mbim_handlers s) (Regular s) (follows_connections s) streams text (λ client. client) (fact ∷ past) past x side same_present same_dropped is regular K r.conn there
        (ap (client_state_from s) (seen r.conn ∙ ap (λ (b : Bool). entry_if b entry (view_of r.conn past)) (eq-eqb r.conn r.conn refl)) ∙ own) other)

    -- ---- whoever asked ----

    module _ (asks : (r.conn ≡ 0) ⊎ IsCommandOf s past r)
        (bytes : IsCommandOf s past r → client_state_from s (entry ∷ view_of r.conn past) ≡ put_to s (text (client_state_of s past r.conn).client) (client_state_of s past r.conn)) (status : ℕ) where
      ended : is_own_open r ≡ true → Kept (history.end_opening s status (note s fact past)) (ends_opening s status (with_numbers numbers x))
      ended is =
          ⊎_elim
          (λ (own : r.conn ≡ 0). kept_opened s streams (note s fact past) (with_numbers numbers x) (kept_own own) status)
          (λ (command : IsCommandOf s past r). absurd (let isnt = command.command in cc)) asks

      -- where it was to open the modem, those who wait for that are told
      pub kept_noted : (opens : Bool) → is_own_open r ≡ opens → Kept (if opens then history.end_opening s status (note s fact past) else note s fact past) (if opens then ends_opening s status (with_numbers numbers x) else told_now)
      kept_noted true is = ended is
      kept_noted false is = ⊎_elim (λ (own : r.conn ≡ 0). kept_untold own) (λ (command : IsCommandOf s past r). kept_told command.sender (bytes command)) asks
