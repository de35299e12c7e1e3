-- A core of the QMI proxy stands for its events.
use Rattle.std.proofs.Common.{◌≡◌, ℕ, Bool, true, false, if◌then◌else◌, List, [], ◌∷◌, ◌++◌, map, refl, ap, sym, ◌∙◌, subst}
use Rattle.std.proofs.Math.Seq.{drop-append_seam}
use Rattle.proxy_history.specs.Events.{Event, ModemBack}
use Rattle.proxy_history.specs.Facts.{Fact}
use Rattle.proxy_history.specs.History.{add_all}
use Rattle.proxy_history.specs.Modem.{now, is_away}
use Rattle.proxy_history.specs.Items.{ModemSays}
use Rattle.proxy_state.specs.Stands.{Streams, CanStep}
use Rattle.proxy_state.specs.Faithful.{Keeps, IsFaithful}
use Rattle.proxy_state.proofs.Keeping as keeping
use Rattle.proxy_state.proofs.Steps as proxy
use Rattle.qmi_proxy.specs.Setup.{Setup}
use Rattle.qmi_proxy.specs.History.{qmi_protocol}
use Rattle.qmi_proxy.specs.FromModem.{hear_modem}
use Rattle.qmi_proxy.specs.Regular.{Regular}
use Rattle.qmi_proxy.proofs.Away.{away_agrees}
use Rattle.qmi_proxy.proofs.Room.{nobody_there_is_over}
use Rattle.qmi_proxy.proofs.Regulars.{histories_are_regular}
use Rattle.qmi_state.specs.Core.{QmiState, QmiCore, kept_of, Stands, StandsAfter, opened}
use Rattle.qmi_state.specs.Transitions.{qmi_handlers, step, hears_modem, regain}
use Rattle.qmi_state.proofs.Keeping.{follows_connections}
use Rattle.qmi_state.proofs.Hearing.{keeps_heard}
use Rattle.qmi_state.proofs.Modem.{kept_heard, kept_lost, kept_ticked, kept_returned, kept_modem_taken}

module _ (s : Setup) where
  abbrev KeptAt : Streams → List Fact → QmiState → Type 0
  KeptAt streams past x = Keeps (qmi_protocol s) (kept_of s) Regular streams past x

  -- of the modem's messages nothing is kept
  with_messages : (messages : List (List ℕ)) (streams : Streams) (past : List Fact) (x : QmiState) → KeptAt streams past x → KeptAt (record streams { messages = messages }) past x
  with_messages messages streams past x K = keeping.with_messages (qmi_protocol s) (kept_of s) Regular streams messages past x x.beside K.holds.beside K

  heard_one : (m : List ℕ) (past : List Fact) → add_all (qmi_protocol s) (ModemSays m ∷ []) past ≡ hear_modem s.device m past
  unfolding add_all
  heard_one m past = refl

  pub is_faithful : IsFaithful (qmi_protocol s) (kept_of s) qmi_handlers Regular
  is_faithful = record {
    connections = follows_connections s;
    away_agrees = away_agrees s;
    fits = nobody_there_is_over s;
    delivers = λ messages m. ap (λ (l : List (List ℕ)). messages ++ l) (sym (drop-append_seam messages (m ∷ [])));
    fine = histories_are_regular s;
    hear_client = λ c m streams past x there K. keeps_heard s streams c m past x there K;
    hear_modem = λ m streams past x K.
        with_messages (streams.messages ++ m ∷ []) streams _ (hears_modem m x)
        (subst (λ (l : List Fact). KeptAt streams l (hears_modem m x))
        (sym (ap (λ (ms : List (List ℕ)). add_all (qmi_protocol s) (map (λ l. ModemSays l) ms) past) (drop-append_seam streams.messages (m ∷ [])) ∙ heard_one m past))
        (kept_heard s streams m past x K));
    lose = λ streams past x K. with_messages [] streams _ _ (kept_lost s streams past x K);
    regain = λ streams past x none K. kept_returned s streams past x K;
    take_modem = λ count streams past x within K. kept_modem_taken s streams past x count within K;
    tick = λ time streams past x K. kept_ticked s streams past x time K;
    finish = λ streams past x K. K;
  }

  pub stands_step : (event : Event) (events : List Event) (core : QmiCore) → CanStep qmi_handlers event core → Stands s events core → StandsAfter s (event ∷ events) (step event core)
  stands_step event events core can S = proxy.stands_step (qmi_protocol s) (kept_of s) qmi_handlers Regular is_faithful event events core can S

  -- nothing has happened yet
  pub stands_open : (core : QmiCore) → core ≡ opened s → Stands s [] core
  unfolding now is_away
  stands_open core is = subst (Stands s []) (sym is) (proxy.stands_open (qmi_protocol s) (kept_of s) (opened s) refl refl refl)

-- an event and a core that are known by equations
pub stands_as : (event known : Event) (old new : QmiCore) → event ≡ known → new ≡ step known old → CanStep qmi_handlers event old
    → (s : Setup) (events : List Event) → Stands s events old → StandsAfter s (event ∷ events) new
stands_as event known old new same is can s events S =
    subst (StandsAfter s (event ∷ events)) (sym (is ∙ ap (λ (e : Event). step e old) (sym same))) (stands_step s event events old can S)

-- a modem that comes back while it is there changes nothing
pub regained : (old after : QmiCore) → after ≡ record old { state = record old.state { beside = regain old.state.beside } } → after ≡ step ModemBack old
regained old after is = is ∙ by old.state.beside.away refl
  where
    by : (b : Bool) → old.state.beside.away ≡ b → record old { state = record old.state { beside = regain old.state.beside } } ≡ (if b then record old { state = record old.state { beside = regain old.state.beside } } else old)
    by true e = refl
    by false e = ap (λ (b : Bool). let v : QmiCore = record old { state = record old.state { beside = record old.state.beside { away = b } } } in v) (sym e)
