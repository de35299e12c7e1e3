-- A client that is alone meets an event: the modem takes what waits for it and answers nothing by itself, and the ledger goes on. Lists of events have the newest first.
use Rattle.std.proofs.Common.{◌≡◌, ◌≢◌, ℕ, ◌≤◌, false, List, ◌∷◌, ◌∙◌}
use Rattle.proxy_history.specs.Events.{Event}
use Rattle.proxy_history.specs.Coming.{AreSound}
use Rattle.proxy_history.specs.Facts.{Fact}
use Rattle.proxy_history.specs.Requests.{in_use, pending}
use Rattle.proxy_solo.specs.Solo as alone
use Rattle.mbim_proxy.specs.ModemStates.{IsReady, state}
use Rattle.mbim_proxy.specs.Proxy.{proxy_of}
use Rattle.mbim_proxy.specs.History.{mbim_protocol, history}
use Rattle.mbim_solo.specs.Solo.{mbim_alone}
use Rattle.mbim_solo.specs.Part.{part}
use Rattle.mbim_solo.proofs.Relation.{IsOrderly, Rests, IsQuietThere, modem_bytes}
use Rattle.mbim_solo.proofs.Orderly.{event_orderly}
use Rattle.mbim_solo.proofs.Unlisted.{event_unlisted}
use Rattle.mbim_solo.proofs.Settling.{settles}
use Rattle.rig_runs.specs.Mbim.{setup}
use Rattle.rig_laws_mbim.proofs.Calm.{Calm}
use Rattle.rig_laws_mbim.proofs.Trail.{Standing}
use Rattle.rig_trace.specs.Alone.{meets}
use Rattle.trace_laws_mbim.proofs.Content.{IsContent, is_content}
use Rattle.trace_laws_mbim.proofs.Lone.{facts_of, Lone, meets_same, lone_then, modem_then, pending_then, uses_then}
use Rattle.trace_laws_mbim.proofs.Asking.{room, Brings}

module _ (c : ℕ) (client : c ≢ 0) where
  pub record Meets (event : Event) (own : List Event) : Type 0 where
    pub same : alone.meet (mbim_protocol setup) (mbim_alone setup) event own ≡ meets (proxy_of setup) event own
    pub lone : Lone c (meets (proxy_of setup) event own)
    pub modem : state false (history setup (meets (proxy_of setup) event own)) ≡ state false (facts_of event own)
    pub waits : pending (history setup (meets (proxy_of setup) event own)) ≡ pending (facts_of event own)
    pub uses : in_use (history setup (meets (proxy_of setup) event own)) ≡ in_use (facts_of event own)

  module _ (event : Event) (own : List Event) (sound : AreSound (mbim_protocol setup) (event ∷ own)) (rests : Rests setup c (history setup own)) (brings : Brings c own event) where
    pub meets_by : IsContent (facts_of event own) → Meets event own
    meets_by content =
        let unlisted = event_unlisted setup c client event own sound rests.list in
        record {
          same = meets_same event own rests.queue content unlisted;
          lone = lone_then event own rests.queue content unlisted c brings.added;
          modem = modem_then event own rests.queue content unlisted;
          waits = pending_then event own rests.queue content unlisted;
          uses = uses_then event own rests.queue content unlisted;
        }

    -- where the client is then as it is beside the others
    pub meets_beside : IsQuietThere setup c (modem_bytes setup c (event ∷ own)) → 1 ≤ c → (now : Standing) (past : List Fact) → Calm now.progress now.requests now.queue past → IsOrderly setup c past
        → part c past ≡ part c (history setup (alone.meet (mbim_protocol setup) (mbim_alone setup) event own)) → (state false (facts_of event own) ≡ IsReady → c ≤ now.progress.opened) → Meets event own
    meets_beside quiet low now past calm O same opened =
        let M = settles setup room c client event own sound rests quiet brings.queues in
        meets_by (is_content c client low now past (facts_of event own) calm O (event_orderly setup c client event own sound) (same ∙ M.settled.same) brings.added.there brings.added.list opened)
