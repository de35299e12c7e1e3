-- A request of the proxy itself that ended: nobody is told, and nobody holds the id any more that it was to release.
use Rattle.std.proofs.Common.{◌≡◌, ℕ, Bool, true, false, ◌&&◌, ◌==◌, List, [], ◌∷◌, refl, ap, sym, ◌∙◌, subst, if◌then◌else◌}
use Rattle.proxy_history.specs.Facts.{Fact, Request, Ended, NoRoom, Freed}
use Rattle.proxy_history.specs.Connections.{present, dropped, contains}
use Rattle.proxy_history.specs.Requests.{last_number}
use Rattle.proxy_history.specs.Modem.{now, is_away, to_modem, modem_taken_count}
use Rattle.proxy_history.specs.Noting.{receivers_of, end_overfull}
use Rattle.proxy_history.specs.View.{view}
use Rattle.qmi_proxy.specs.Setup.{Setup}
use Rattle.qmi_proxy.specs.Limits.{qmi_limits}
use Rattle.qmi_proxy.specs.Messages.{used_service, used_cid}
use Rattle.qmi_proxy.specs.Text.{qmi_wording, rendering, note}
use Rattle.qmi_proxy.specs.Regular.{Regular}
use Rattle.qmi_proxy.specs.Releases.{freed_if}
use Rattle.qmi_proxy.specs.History.{qmi_protocol}
use Rattle.qmi_proxy.proofs.Regulars.{regular_more}
use Rattle.proxy_state.specs.Requests.{requests_in_use}
use Rattle.proxy_state.specs.Stands.{Streams}
use Rattle.proxy_state.proofs.Keeping.{keeps_unheard}
use Rattle.qmi_state.specs.Asked.{asked_of}
use Rattle.qmi_state.specs.Traffic.{Traffic, row_of, traffic_of, frees_id, ids, kept_ids}
use Rattle.qmi_state.specs.Core.{QmiState, kept_of}
use Rattle.qmi_state.specs.Transitions.{with_traffic, frees_own}
use Rattle.qmi_state.proofs.ClientStates.{client_state_of}
use Rattle.qmi_state.proofs.Keeping as keeping
use Rattle.qmi_state.proofs.Keeping.{traffic_is, beside_is, keeps_quiet, end_if}

module _ (s : Setup) (streams : Streams) where
  abbrev Kept : List Fact → QmiState → Type 0
  Kept past x = keeping.Kept s streams past x

  pub kept_given_back : (past : List Fact) (x : QmiState) (c service cid : ℕ) → Kept past x → Kept (Freed c service cid ∷ past) (with_traffic (frees_id c service cid x.beside.traffic) x)
  unfolding requests_in_use now is_away present dropped last_number ids kept_ids to_modem modem_taken_count view
  kept_given_back past x c service cid K =
      keeps_quiet s streams (Freed c service cid ∷ past) past x (frees_id c service cid x.beside.traffic) (λ d. refl) refl refl refl refl
      (ap (frees_id c service cid) (traffic_is s streams past x K)) (regular_more (Freed c service cid) past tt tt tt K.fine) K

  -- the fact tells its sender alone, and that is the proxy
  module _ (past : List Fact) (x : QmiState) (r : Request) (own : r.conn ≡ 0) (fact : Fact) (traffic : Traffic)
      (receives : receivers_of fact ≡ r.conn ∷ []) (other : (d : ℕ) → (r.conn == d) ≡ false → client_state_of s.device (fact ∷ past) d ≡ client_state_of s.device past d)
      (same_present : present (fact ∷ past) ≡ present past) (same_dropped : dropped (fact ∷ past) ≡ dropped past) (same_time : now (fact ∷ past) ≡ now past)
      (same_away : is_away s.starts_away (fact ∷ past) ≡ is_away s.starts_away past) (is : traffic ≡ traffic_of (fact ∷ past)) (regular : Regular (fact ∷ past)) (K : Kept past x) where
    absent : contains r.conn (present past) ≡ false
    absent = ap (λ (n : ℕ). contains n (present past)) own ∙ K.fine.nobody

    never : contains r.conn (dropped past) ≡ false
    never = ap (λ (n : ℕ). contains n (dropped past)) own ∙ K.fine.never

    ends_one : note s.device fact past ≡ end_if s streams r.conn (fact ∷ past)
    unfolding end_overfull
    ends_one = ap (λ (cs : List ℕ). end_overfull qmi_limits (qmi_wording s.device) cs (fact ∷ past)) receives

    ends_nobody : note s.device fact past ≡ fact ∷ past
    ends_nobody =
        ends_one
        ∙ ap (λ (b : Bool). if b && (rendering s.device r.conn (fact ∷ past)).is_over then Ended r.conn NoRoom ∷ fact ∷ past else fact ∷ past) (ap (contains r.conn) same_present ∙ absent)

    untold : Kept (note s.device fact past) (with_traffic traffic x)
    untold =
        subst (λ (l : List Fact). Kept l (with_traffic traffic x)) (sym ends_nobody)
        (keeps_unheard (qmi_protocol s) (kept_of s) Regular streams (fact ∷ past) past x r.conn (record x.beside { traffic = traffic }) other absent never same_present same_dropped
        (beside_is s streams (fact ∷ past) past x traffic same_time same_away is K) regular K)

    pub kept_own_ended : (waits : Bool) → Kept (freed_if true r (note s.device fact past)) (frees_own (row_of (record { request = r; waits = waits })) (with_traffic traffic x))
    unfolding asked_of
    kept_own_ended waits = kept_given_back (note s.device fact past) (with_traffic traffic x) 0 (used_service r.message) (used_cid r.message) untold
