-- Where a client is alone, the modem tells the proxy that it is open. Lists of events and of facts have the newest first.
use Rattle.std.proofs.Common.{◌≡◌, ◌≢◌, ℕ, ◌^◌, ◌<◌, ◌≤◌, zero, Bool, true, false, ◌&&◌, ◌==◌, if◌then◌else◌, List, [], ◌∷◌, map, Option, Some, None, refl, ap, sym, ◌∙◌, subst, arith, Contains}
use Rattle.proxy_history.specs.Events.{Event, ModemPiece}
use Rattle.proxy_history.specs.Coming.{AreSound}
use Rattle.proxy_history.specs.Facts.{Fact, Request, EventBegan}
use Rattle.proxy_history.specs.Requests.{first_where, in_use, pending}
use Rattle.proxy_solo.proofs.Lists.{self}
use Rattle.mbim_proxy.specs.ModemStates.{IsOpening, is_own_open, state}
use Rattle.mbim_proxy.specs.FromModem.{Heard, IsOpenDone, first_answered_by, respond, hear_as, hear_modem}
use Rattle.mbim_proxy.specs.History.{mbim_protocol, history}
use Rattle.mbim_solo.specs.Solo.{own_open_in}
use Rattle.mbim_solo.specs.Part.{part}
use Rattle.mbim_solo.specs.Openings.{is_absent}
use Rattle.mbim_solo.proofs.Spoken.{plain_says_one}
use Rattle.mbim_solo.proofs.Told.{number_fits}
use Rattle.mbim_solo.proofs.Relation.{IsOrderly, Rests, IsQuietThere, modem_bytes}
use Rattle.mbim_solo.proofs.Orderly.{histories_are_orderly}
use Rattle.rig_runs.specs.Mbim.{setup}
use Rattle.rig_laws_mbim.proofs.Messages.{opened, modem_is_opened, opened_number_is}
use Rattle.rig_laws_mbim.proofs.Calm.{Calm}
use Rattle.rig_laws_mbim.proofs.Trail.{Standing}
use Rattle.rig_trace.specs.Rows.{first_with, number_at}
use Rattle.rig_trace.specs.Mbim.{key_of}
use Rattle.trace_laws_mbim.specs.Laws.{row_of}
use Rattle.trace_laws_mbim.proofs.Rows.{Asked, AllAsked}
use Rattle.trace_laws_mbim.proofs.Rows.{opened_key, open_done_is_found, wire_number}
use Rattle.trace_laws_mbim.proofs.Lone.{ledger, Lone}
use Rattle.trace_laws_mbim.proofs.Asking.{room, Brings}
use Rattle.trace_laws_mbim.proofs.Heard.{ComesAlone, comes_alone, heard}
use Rattle.trace_laws_mbim.proofs.Meets.{Meets, meets_beside}
use Rattle.trace_laws_mbim.proofs.Telling.{meet}

-- the proxy's own request to open is all that is in use, and it waits
pub record IsOpeningAlone (c : ℕ) (q : Request) (first : List Event) : Type 0 where
  pub lone : Lone c first
  pub rests : Rests setup c (history setup first)
  pub may : AreSound (mbim_protocol setup) first
  pub quiet : IsQuietThere setup c (modem_bytes setup c first)
  pub opens : is_own_open q ≡ true
  pub uses : in_use (history setup first) ≡ q ∷ []
  pub waits : pending (history setup first) ≡ q ∷ []
  pub modem : state false (history setup first) ≡ IsOpening

-- the answer finds it
pub finds_it : (q : Request) → q.number < 2 ^ 32 → is_own_open q ≡ true → first_answered_by IsOpenDone (opened q.number) (q ∷ []) ≡ Some q
finds_it q below opens =
    ap (λ (n : ℕ). let o : Option Request = if q.number == n && is_own_open q then Some q else None in o) (opened_number_is q.number below)
    ∙ ap (λ (b : Bool). let o : Option Request = if b && is_own_open q then Some q else None in o) (self q.number)
    ∙ ap (λ (b : Bool). let o : Option Request = if b then Some q else None in o) opens

module _ (c : ℕ) (client : c ≢ 0) (low : 1 ≤ c) (q : Request) (first : List Event) (is : IsOpeningAlone c q first) where
  abbrev past : List Fact
  past = EventBegan ∷ history setup first

  abbrev x : List ℕ
  x = opened q.number

  orderly : IsOrderly setup c (history setup first)
  orderly = histories_are_orderly setup c client first is.may

  below : q.number < 2 ^ 32
  below = number_fits setup room c client (history setup first) orderly q (subst (λ (l : List Request). Contains l q) (sym is.uses) (zero, omega arith, refl))

  pub own_open_is : own_open_in (history setup first) ≡ Some q
  own_open_is = ap (first_where is_own_open) is.waits ∙ ap (λ (b : Bool). let o : Option Request = if b then Some q else None in o) is.opens

  comes : ComesAlone c first x
  comes = let m = modem_is_opened q.number in comes_alone c first x orderly (ap is_absent is.modem) is.quiet (plain_says_one setup x m.is_message m.no_answer m.no_indication)

  responds : hear_modem setup x past ≡ respond setup (Some q) x past
  unfolding in_use
  responds =
      ap (λ (h : Heard). hear_as setup h x past) (modem_is_opened q.number).heard
      ∙ ap (λ (l : List Request). respond setup (first_answered_by IsOpenDone x l) x past) is.uses
      ∙ ap (λ (o : Option Request). respond setup o x past) (finds_it q below is.opens)

  row : first_with (key_of x) (ledger first).rows ≡ Some (row_of c q)
  row =
      ap (first_with (key_of x)) is.lone.mirrors.rows
      ∙ open_done_is_found c x q.number (opened_number_is q.number below) (in_use (history setup first)) is.lone.plain q (opened_key q.number below) (ap (first_answered_by IsOpenDone x) is.uses ∙ finds_it q below is.opens)

  brings : Brings c first (ModemPiece x)
  brings = heard c first is.lone is.rests.queue x comes q responds row

  plain : Asked q
  plain = (subst AllAsked is.uses is.lone.plain).0

  -- the number of what the client's second message made the proxy ask
  pub number_of_open : number_at c 2 (ledger first).rows ≡ Some q.number
  number_of_open =
      ap (number_at c 2) (is.lone.mirrors.rows ∙ ap (map (row_of c)) is.uses)
      ∙ ap (λ (b : Bool). let o : Option ℕ = if ((if b then c else q.conn) == c && ((if b then 2 else q.place) == 2)) then Some (row_of c q).key.number else None in o) is.opens
      ∙ ap (λ (b : Bool). let o : Option ℕ = if b && (2 == 2) then Some (row_of c q).key.number else None in o) (self c)
      ∙ ap (λ (n : ℕ). Some n) (wire_number q plain)

  pub opens_alone : (now : Standing) (beside : List Fact) → Calm now.progress now.requests now.queue beside → IsOrderly setup c beside → part c beside ≡ part c (history setup (meet (ModemPiece x) first)) → c ≤ now.progress.opened → Meets c client (ModemPiece x) first
  opens_alone now beside calm O same high =
      meets_beside c client (ModemPiece x) first (let short = (modem_is_opened q.number).short in omega (arith, short), is.may) is.rests brings comes.quiet low now beside calm O same (λ e. high)
