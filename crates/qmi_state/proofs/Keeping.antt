-- What a core of the QMI proxy keeps in the midst of an event goes on from fact to fact.
use Rattle.std.proofs.Common.{◌≡◌, ℕ, Bool, true, false, ◌==◌, List, ◌∷◌, refl, ap, sym, ◌∙◌}
use Rattle.proxy_history.specs.Facts.{Fact, EventBegan, Admitted, Ended, NotAdmitted, Taken}
use Rattle.proxy_history.specs.Connections.{present, dropped, contains}
use Rattle.proxy_history.specs.Requests.{last_number}
use Rattle.proxy_history.specs.Modem.{now, is_away, to_modem, modem_taken_count}
use Rattle.proxy_history.specs.Noting.{end_if_overfull}
use Rattle.proxy_history.specs.Sound.{MayFollow}
use Rattle.proxy_state.specs.Stands.{Streams}
use Rattle.proxy_state.specs.Faithful.{Keeps, IsOfConnections, FollowsConnections}
use Rattle.proxy_state.proofs.Keeping as keeping
use Rattle.proxy_state.proofs.Telling as telling
use Rattle.qmi_proxy.specs.Limits.{qmi_limits}
use Rattle.qmi_proxy.specs.Setup.{Setup}
use Rattle.qmi_proxy.specs.Text.{qmi_wording}
use Rattle.qmi_proxy.specs.Regular.{Regular}
use Rattle.qmi_proxy.specs.History.{qmi_protocol}
use Rattle.qmi_proxy.proofs.Regulars.{regular_more}
use Rattle.proxy_state.specs.Requests.{requests_in_use}
use Rattle.qmi_state.specs.Traffic.{Traffic, traffic_of, ids, kept_ids}
use Rattle.qmi_state.specs.Core.{ModemSide, QmiState, side_of, kept_of}
use Rattle.qmi_state.specs.Transitions.{with_traffic, tell, qmi_handlers}
use Rattle.qmi_state.proofs.ClientStates.{client_state_of, put_to}
use Rattle.qmi_state.proofs.TrafficSteps.{traffic_ended}
use Rattle.qmi_state.proofs.Strangers.{traffic_of_stranger}

-- ---- facts of connections ----

regular_behind : (fact : Fact) (past : List Fact) → MayFollow qmi_limits fact past → IsOfConnections fact past → Regular past → Regular (fact ∷ past)
regular_behind EventBegan past follows of R = regular_more EventBegan past tt tt tt R
regular_behind (Admitted c) past follows of R = regular_more (Admitted c) past follows tt of R
regular_behind (Ended c NotAdmitted) past follows of R = regular_more (Ended c NotAdmitted) past follows tt of R
regular_behind (Ended c why) past follows of R = regular_more (Ended c why) past follows tt tt R
regular_behind (Taken c count) past follows of R = regular_more (Taken c count) past follows tt tt R
regular_behind _ past follows of R = absurd of

module _ (s : Setup) where
  -- the same but for the traffic
  abbrev side_with : List Fact → Traffic → ModemSide
  side_with past traffic = record (side_of s past) { traffic = traffic }

  pub follows_connections : FollowsConnections (qmi_protocol s) (kept_of s) qmi_handlers Regular
  unfolding now is_away requests_in_use last_number ids kept_ids to_modem modem_taken_count
  follows_connections = record {
    fine_more = regular_behind;
    fresh = refl;
    taken_bytes = λ opened count. refl;
    time = λ messages past. refl;
    away = λ messages past. refl;
    modem_queue = λ messages past. refl;
    begun = λ past messages. refl;
    admitted = λ c past messages. refl;
    was_taken = λ c count past messages. refl;
    refused = λ c past some absent R messages. ap (side_with past) (traffic_of_stranger past c NotAdmitted some absent R);
    ended = λ c why messages past. ap (side_with past) (sym (traffic_ended past c why));
  }

module _ (s : Setup) (streams : Streams) where
  abbrev pub Kept : List Fact → QmiState → Type 0
  Kept past x = Keeps (qmi_protocol s) (kept_of s) Regular streams past x

  pub traffic_is : (past : List Fact) (x : QmiState) → Kept past x → x.beside.traffic ≡ traffic_of past
  traffic_is past x K = ap (λ (b : ModemSide). b.traffic) K.holds.beside

  module _ (later past : List Fact) (x : QmiState) (traffic : Traffic) (same_time : now later ≡ now past) (same_away : is_away s.starts_away later ≡ is_away s.starts_away past) (is : traffic ≡ traffic_of later) (K : Kept past x) where
    pub beside_is : record x.beside { traffic = traffic } ≡ side_of s later
    beside_is =
        ap (λ (b : ModemSide). let c : ModemSide = record b { traffic = traffic } in c) K.holds.beside
        ∙ ap (λ (n : ℕ). let c : ModemSide = record (side_with s past traffic) { time = n } in c) (sym same_time)
        ∙ ap (λ (b : Bool). let c : ModemSide = record (side_with s later traffic) { away = b } in c) (sym same_away)
        ∙ ap (side_with s later) is

  -- ---- nothing comes for any client ----

  pub keeps_side : (later past : List Fact) (x : QmiState) (side : ModemSide) → ((d : ℕ) → client_state_of s.device later d ≡ client_state_of s.device past d)
      → present later ≡ present past → dropped later ≡ dropped past → side ≡ side_of s later → Regular later → Kept past x → Kept later (record x { beside = side })
  keeps_side later past x side same same_present same_dropped is regular K =
      keeping.keeps_quiet (qmi_protocol s) (kept_of s) Regular streams later past same same_present x side same_dropped is regular K

  pub keeps_quiet : (later past : List Fact) (x : QmiState) (traffic : Traffic) → ((d : ℕ) → client_state_of s.device later d ≡ client_state_of s.device past d)
      → present later ≡ present past → dropped later ≡ dropped past → now later ≡ now past → is_away s.starts_away later ≡ is_away s.starts_away past → traffic ≡ traffic_of later → Regular later
      → Kept past x → Kept later (with_traffic traffic x)
  keeps_quiet later past x traffic same same_present same_dropped same_time same_away is regular K =
      keeps_side later past x (record x.beside { traffic = traffic }) same same_present same_dropped (beside_is later past x traffic same_time same_away is K) regular K

  -- ---- bytes for one client ----

  abbrev pub end_if : ℕ → List Fact → List Fact
  end_if c past = end_if_overfull qmi_limits (qmi_wording s.device) c past

  -- the client gets them, or is dropped
  pub keeps_told : (later past : List Fact) (x : QmiState) (c : ℕ) (bytes : List ℕ) (traffic : Traffic)
      → client_state_of s.device later c ≡ put_to bytes (client_state_of s.device past c)
      → ((d : ℕ) → (c == d) ≡ false → client_state_of s.device later d ≡ client_state_of s.device past d)
      → present later ≡ present past → dropped later ≡ dropped past → now later ≡ now past → is_away s.starts_away later ≡ is_away s.starts_away past → traffic ≡ traffic_of later → Regular later
      → contains c (present past) ≡ true → Kept past x → Kept (end_if c later) (tell c bytes (with_traffic traffic x))
  keeps_told later past x c bytes traffic own other same_present same_dropped same_time same_away is regular there K =
      telling.told_one (qmi_protocol s) (kept_of s) qmi_handlers Regular (follows_connections s) streams (λ client. bytes) (λ client. client) later past x (record x.beside { traffic = traffic })
      same_present same_dropped (beside_is later past x traffic same_time same_away is K) regular K c there own other
