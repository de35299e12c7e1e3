-- What a protocol owes, so that its cores keep what its definitions say. A list of facts has the newest first.
use Rattle.std.specs.Prelude.{◌≡◌, ℕ, ◌≤◌, List, [], length}
use Rattle.hub_io.specs.declared.settings.Limits.{Limits as Opening}
use Rattle.outbox.specs.Queue.{Queue}
use Rattle.proxy_history.specs.Events.{Event}
use Rattle.proxy_history.specs.Facts.{Fact}
use Rattle.proxy_history.specs.Limits.{Limits}
use Rattle.proxy_history.specs.Streams.{Framing}
use Rattle.proxy_history.specs.Modem as modem
use Rattle.proxy_history.specs.History.{history, modem_queue}
use Rattle.proxy_history.specs.Proxy.{Proxy}
use Rattle.proxy_history.specs.Proxy as proxy
use Rattle.proxy_history.specs.Lawful.{proxy_of}
use Rattle.proxy_state.specs.State.{State, Core, Handlers}
use Rattle.proxy_state.specs.Stands as stands
use Rattle.proxy_state.specs.Faithful.{IsFaithful}
use Rattle.proxy_state.proofs.Greatest.{KeepsGreatest}
use Rattle.proxy_core.specs.Meaning.{Meaning}

module _ {T S P : Type 0} (d : Meaning T S P) where
  -- what lasts is as it was, whatever is handled
  pub record KeepsLasting (h : Handlers T S) : Type 0 where
    pub hear_client : (c : ℕ) (m : List ℕ) (client : T) (outbox : Queue) (beside : S) → d.lasting (h.hear_client c m client outbox beside).beside ≡ d.lasting beside
    pub give_up : (c : ℕ) (beside : S) → d.lasting (h.give_up c beside) ≡ d.lasting beside
    pub hear_modem : (m : List ℕ) (x : State T S) → d.lasting (h.hear_modem m x).beside ≡ d.lasting x.beside
    pub lose : (x : State T S) → d.lasting (h.lose x).beside ≡ d.lasting x.beside
    pub regain : (beside : S) → d.lasting (h.regain beside) ≡ d.lasting beside
    pub take_modem : (count : ℕ) (beside : S) → d.lasting (h.take_modem count beside) ≡ d.lasting beside
    pub tick : (time : ℕ) (x : State T S) → d.lasting (h.tick time x).beside ≡ d.lasting x.beside
    pub finish : (x : State T S) → d.lasting (h.finish x).beside ≡ d.lasting x.beside

  -- how many bytes may wait
  pub record HasLimits (limits : Limits) : Type 0 where
    pub connections : limits.connections ≡ 64
    pub outbox : limits.outbox ≡ 262144
    pub modem_outbox : limits.modem_outbox ≡ 1048576

  -- what the definitions say of a proxy
  abbrev pub proxy_by : d.Setup → Proxy
  proxy_by s = proxy_of (d.protocol s) (d.own_bytes_by s)

  -- `fresh` is kept of a client that has just joined, and `size` is the protocol's framing
  pub record IsLawful (fresh : T) (size : Framing) : Type 0 where
    -- ---- the handlers ----
    pub begins : (l : d.Lasting) → (d.handlers l).fresh ≡ fresh
    pub lasts : (l : d.Lasting) → KeepsLasting (d.handlers l)
    pub greatest : (l : d.Lasting) → KeepsGreatest (d.handlers l) size
    -- ---- the definitions ----
    pub framing : (s : d.Setup) → (d.protocol s).size ≡ size
    pub waits_for_modem : (l : d.Lasting) (s : d.Setup) (messages : List (List ℕ)) (past : List Fact) → (d.handlers l).modem_queue ((d.kept s).beside messages past) ≡ modem.modem_queue (d.protocol s).wire past
    pub few_wait : (s : d.Setup) (events : List Event) → length (modem_queue (d.protocol s) events) ≤ (d.protocol s).limits.modem_outbox
    pub lawful : (s : d.Setup) → proxy.IsLawful (proxy_by s)
    pub opens : (limits : Opening) (path : List ℕ) → d.serves (d.opening limits path) (d.lasting ((d.kept (d.opening limits path)).beside [] []))
    -- where a core serves by them
    pub limits : (s : d.Setup) (l : d.Lasting) → d.serves s l → HasLimits (d.protocol s).limits
    pub faithful : (s : d.Setup) (l : d.Lasting) → d.serves s l → IsFaithful (d.protocol s) (d.kept s) (d.handlers l) (d.fine s)
    pub own_bytes : (s : d.Setup) (past : List Event) (core : Core T S) → d.serves s (d.lasting core.state.beside) → stands.Stands (d.protocol s) (d.kept s) past core
        → d.own_bytes core.state ≡ d.own_bytes_by s (history (d.protocol s) past)
