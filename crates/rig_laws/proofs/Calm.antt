-- What holds of a rig's facts at every moment, and how each fact keeps it. Lists of facts have the newest first.
use Rattle.std.proofs.Common.{◌≡◌, ℕ, ◌+◌, ◌≤◌, Bool, true, false, not, ◌&&◌, ◌==◌, if◌then◌else◌, List, [], ◌∷◌, ◌++◌, length, drop, refl, ap, sym, ◌∙◌, arith, append_assoc, append-nil, length-append}
use Rattle.std.specs.List.{AllByRecursion, range_with_len}
use Rattle.kit_bytes.proofs.Lists.{all_filter, all_push}
use Rattle.std.proofs.lemmas.Bool.{or_left, or_right}
use Rattle.std.proofs.lemmas.Bool.Decides.{nat_tests}
use Rattle.std.proofs.Math.Seq.{drop-append_seam}
use Rattle.proxy_history.specs.Facts.{Fact, Request, EventBegan, Verdict, Own, Admitted, Judged, Taken, Forwarded, Answered, Late, Expired, Granted, ModemTaken, TimeIs}
use Rattle.proxy_history.specs.Connections.{present, message_count}
use Rattle.proxy_history.specs.Requests.{in_use, without_request}
use Rattle.proxy_history.specs.Modem.{to_modem, modem_taken_count, modem_queue}
use Rattle.proxy_history.specs.View.{Entry, Said, Response, Refused, Taking, NoAnswer, entry_if, view}
use Rattle.proxy_history.specs.Wording.{told_by}
use Rattle.qmi_proxy.specs.Setup.{Setup}
use Rattle.qmi_proxy.specs.Messages.{is_malformed, opens}
use Rattle.qmi_proxy.specs.OwnReplies.{is_open, is_opening}
use Rattle.qmi_proxy.specs.Text.{blank, view_of}
use Rattle.qmi_proxy.specs.Clients.{wire}
use Rattle.rig_laws.proofs.Lists.{range-more}
use Rattle.rig_laws.proofs.Harmless.{IsHarmless, AreHarmless}

abbrev pub IsClients : Request → Type 0
IsClients r = (r.conn == 0) ≡ false

module _ (s : Setup) where
  -- so many clients joined, and the first of them have opened the device; these requests are in use, and these bytes wait for the modem
  pub record Calm (joined opened : ℕ) (requests : List Request) (queue : List ℕ) (past : List Fact) : Type 0 where
    pub there : present past ≡ range_with_len 1 joined
    pub harmless : AreHarmless s past
    pub open_ones : (c : ℕ) → 1 ≤ c → c ≤ opened → is_open s.device (view_of c past) ≡ true
    pub uses : in_use past ≡ requests
    -- the proxy itself asks nothing
    pub clients : AllByRecursion IsClients requests
    -- before anybody opened the device nobody said anything
    pub quiet : opened ≡ 0 → (c : ℕ) → message_count c past ≡ 0
    -- what the modem took, and what waits for it
    pub taken : List ℕ
    pub to_it : to_modem wire past ≡ taken ++ queue
    pub count : modem_taken_count past ≡ length taken

  pub queue_is : {joined opened : ℕ} {requests : List Request} {queue : List ℕ} {past : List Fact} → Calm joined opened requests queue past → modem_queue wire past ≡ queue
  queue_is {queue = queue} {past = past} calm = ap (drop (modem_taken_count past)) calm.to_it ∙ ap (λ (n : ℕ). drop n (calm.taken ++ queue)) calm.count ∙ drop-append_seam calm.taken queue

  -- no more is taken than was there
  pub taken_within : {joined opened : ℕ} {requests : List Request} {queue : List ℕ} {past : List Fact} → Calm joined opened requests queue past → modem_taken_count past ≤ length (to_modem wire past)
  taken_within {queue = queue} {past = past} calm = let all : length (to_modem wire past) ≡ length (calm.taken ++ queue) = ap length calm.to_it in omega (arith, all, calm.count, length-append calm.taken queue)

  -- who has opened the device has it open still
  stays_open : (b : Bool) (entry : Entry) (entries : List Entry) → is_open s.device entries ≡ true → is_open s.device (entry_if b entry entries) ≡ true
  unfolding told_by
  stays_open false entry entries is = is
  stays_open true (Said m verdict) entries is = or_right (is_opening s.device m verdict) (is_open s.device entries) is
  stays_open true _ entries is = is

  module _ {joined opened : ℕ} {requests : List Request} {queue : List ℕ} {past : List Fact} (calm : Calm joined opened requests queue past) where
    -- ---- facts that change nothing of this ----

    pub begun : Calm joined opened requests queue (EventBegan ∷ past)
    unfolding present in_use view message_count to_modem modem_taken_count
    begun = record { there = calm.there; harmless = (tt, calm.harmless); open_ones = calm.open_ones; uses = calm.uses; clients = calm.clients; quiet = calm.quiet; taken = calm.taken; to_it = calm.to_it; count = calm.count }

    pub timed : (time : ℕ) → Calm joined opened requests queue (TimeIs time ∷ past)
    unfolding present in_use view message_count to_modem modem_taken_count
    timed time = record { there = calm.there; harmless = (tt, calm.harmless); open_ones = calm.open_ones; uses = calm.uses; clients = calm.clients; quiet = calm.quiet; taken = calm.taken; to_it = calm.to_it; count = calm.count }

    pub was_taken : (c count : ℕ) → Calm joined opened requests queue (Taken c count ∷ past)
    unfolding present in_use view message_count to_modem modem_taken_count
    was_taken d count = record {
      there = calm.there;
      harmless = (tt, calm.harmless);
      open_ones = λ c low high. stays_open (d == c) (Taking count) (view_of c past) (calm.open_ones c low high);
      uses = calm.uses;
      clients = calm.clients;
      quiet = calm.quiet;
      taken = calm.taken;
      to_it = calm.to_it;
      count = calm.count;
    }

    pub expired : (r : Request) → Calm joined opened requests queue (Expired r ∷ past)
    unfolding present in_use view message_count to_modem modem_taken_count
    expired r = record {
      there = calm.there;
      harmless = (tt, calm.harmless);
      open_ones = λ c low high. stays_open (r.conn == c) (Refused r.place NoAnswer) (view_of c past) (calm.open_ones c low high);
      uses = calm.uses;
      clients = calm.clients;
      quiet = calm.quiet;
      taken = calm.taken;
      to_it = calm.to_it;
      count = calm.count;
    }

    pub granted : (c service cid : ℕ) → cid ≡ c → Calm joined opened requests queue (Granted c service cid ∷ past)
    unfolding present in_use view message_count to_modem modem_taken_count
    granted c service cid own = record { there = calm.there; harmless = (own, calm.harmless); open_ones = calm.open_ones; uses = calm.uses; clients = calm.clients; quiet = calm.quiet; taken = calm.taken; to_it = calm.to_it; count = calm.count }

    pub judged : (c place : ℕ) (m : List ℕ) (verdict : Verdict) → IsHarmless s (Judged c place m verdict) past → 1 ≤ c → c ≤ opened → Calm joined opened requests queue (Judged c place m verdict ∷ past)
    unfolding present in_use view message_count to_modem modem_taken_count
    judged d place m verdict harmless low high = record {
      there = calm.there;
      harmless = (harmless, calm.harmless);
      open_ones = λ c low high. stays_open (d == c) (Said m verdict) (view_of c past) (calm.open_ones c low high);
      uses = calm.uses;
      clients = calm.clients;
      quiet = λ none c. absurd (omega (arith, none, low, high));
      taken = calm.taken;
      to_it = calm.to_it;
      count = calm.count;
    }

    -- ---- requests ----

    pub forwarded : (r : Request) → IsClients r → Calm joined opened (requests ++ r ∷ []) (queue ++ wire r) (Forwarded r ∷ past)
    unfolding present in_use view message_count to_modem modem_taken_count
    forwarded r client = record {
      there = calm.there;
      harmless = (tt, calm.harmless);
      open_ones = calm.open_ones;
      uses = ap (λ (l : List Request). l ++ r ∷ []) calm.uses;
      clients = all_push IsClients requests r calm.clients client;
      quiet = calm.quiet;
      taken = calm.taken;
      to_it = ap (λ (l : List ℕ). l ++ wire r) calm.to_it ∙ append_assoc calm.taken queue (wire r);
      count = calm.count;
    }

    pub answered : (r : Request) (m : List ℕ) → Calm joined opened (without_request r requests) queue (Answered r m ∷ past)
    unfolding present in_use view message_count to_modem modem_taken_count
    answered r m = record {
      there = calm.there;
      harmless = (tt, calm.harmless);
      open_ones = λ c low high. stays_open (r.conn == c) (Response r.place (blank m)) (view_of c past) (calm.open_ones c low high);
      uses = ap (without_request r) calm.uses;
      clients = all_filter IsClients _ requests calm.clients;
      quiet = calm.quiet;
      taken = calm.taken;
      to_it = calm.to_it;
      count = calm.count;
    }

    pub late : (r : Request) → Calm joined opened (without_request r requests) queue (Late r ∷ past)
    unfolding present in_use view message_count to_modem modem_taken_count
    late r = record { there = calm.there; harmless = (tt, calm.harmless); open_ones = calm.open_ones; uses = ap (without_request r) calm.uses; clients = all_filter IsClients _ requests calm.clients; quiet = calm.quiet; taken = calm.taken; to_it = calm.to_it; count = calm.count }

    -- ---- the modem takes all that waits ----

    pub modem_taken_all : (count : ℕ) → count ≡ length queue → Calm joined opened requests [] (ModemTaken count ∷ past)
    unfolding present in_use view message_count to_modem modem_taken_count
    modem_taken_all count is = record {
      there = calm.there;
      harmless = (tt, calm.harmless);
      open_ones = calm.open_ones;
      uses = calm.uses;
      clients = calm.clients;
      quiet = calm.quiet;
      taken = calm.taken ++ queue;
      to_it = calm.to_it ∙ sym (append-nil (calm.taken ++ queue));
      count = omega (arith, calm.count, is, length-append calm.taken queue);
    }

  -- ---- clients come ----

  quiet_still : (b : Bool) (said : ℕ) → said ≡ 0 → (if b then 0 else said) ≡ 0
  quiet_still true said none = refl
  quiet_still false said none = none

  pub admitted : {joined : ℕ} {requests : List Request} {queue : List ℕ} {past : List Fact} → Calm joined 0 requests queue past → Calm (joined + 1) 0 requests queue (Admitted (joined + 1) ∷ past)
  unfolding present in_use view message_count to_modem modem_taken_count
  admitted {joined} {past = past} calm = record {
    there = ap (λ (l : List ℕ). l ++ (joined + 1) ∷ []) calm.there ∙ range-more 1 joined (joined + 1) (omega arith);
    harmless = (tt, calm.harmless);
    open_ones = λ c low high. absurd (omega arith);
    uses = calm.uses;
    clients = calm.clients;
    quiet = λ none c. quiet_still (joined + 1 == c) (message_count c past) (calm.quiet none c);
    taken = calm.taken;
    to_it = calm.to_it;
    count = calm.count;
  }

  opened_now : (b : Bool) (m : List ℕ) (entries : List Entry) → is_malformed m ≡ false → opens s.device m ≡ true → (b ≡ false → is_open s.device entries ≡ true) → is_open s.device (entry_if b (Said m Own) entries) ≡ true
  unfolding told_by
  opened_now true m entries fine opening old =
      or_left (not (is_malformed m) && opens s.device m) (is_open s.device entries) (ap (λ (b : Bool). not b && opens s.device m) fine ∙ opening)
  opened_now false m entries fine opening old = old refl

  pub judged_opening : {joined opened : ℕ} {requests : List Request} {queue : List ℕ} {past : List Fact} → Calm joined opened requests queue past → (place : ℕ) (m : List ℕ) → is_malformed m ≡ false → opens s.device m ≡ true
      → Calm joined (opened + 1) requests queue (Judged (opened + 1) place m Own ∷ past)
  unfolding present in_use view message_count to_modem modem_taken_count
  judged_opening {opened = opened} {past = past} calm place m fine opening = record {
    there = calm.there;
    harmless = ((fine, opening), calm.harmless);
    open_ones = λ c low high. opened_now (opened + 1 == c) m (view_of c past) fine opening (λ other. calm.open_ones c low (grind (arith, nat_tests, other)));
    uses = calm.uses;
    clients = calm.clients;
    quiet = λ none c. absurd (omega (arith, none));
    taken = calm.taken;
    to_it = calm.to_it;
    count = calm.count;
  }
