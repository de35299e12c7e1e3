-- What holds of the facts of an MBIM proxy with one client, and what each fact leaves of it. Lists of facts have the newest first.
use Rattle.std.proofs.Common.{◌≡◌, ℕ, ◌+◌, ◌≤◌, Bool, true, false, ◌&&◌, ◌||◌, ◌==◌, nat_lt, if◌then◌else◌, List, [], ◌∷◌, ◌++◌, length, drop, refl, ap, sym, ◌∙◌, arith, subst, append_assoc, append-nil, length-append}
use Rattle.std.proofs.lemmas.Bool.{eq-eqb}
use Rattle.std.proofs.lemmas.Bool.Decides.{nat_tests}
use Rattle.std.proofs.Math.Seq.{drop-append_seam}
use Rattle.kit_bytes.specs.Subscriptions.{Pair}
use Rattle.kit_bytes.specs.Services.{starting_list}
use Rattle.mbim_frame.specs.declared.status.TheConstants.{SUCCESS}
use Rattle.proxy_history.specs.Facts.{Fact, Request, Verdict, Own, Share, Foreign, Away, Full, Forward, Ready, Waits, EventBegan, Judged, Taken, Forwarded, Answered, Indicated, OpeningEnded, ListSent, ModemTaken, Ended, NoRoom}
use Rattle.proxy_history.specs.Connections.{present, is_present, contains, message_count}
use Rattle.proxy_history.specs.Requests.{in_use, pending, without_request, last_number}
use Rattle.proxy_history.specs.Modem.{to_modem, modem_taken_count, modem_queue}
use Rattle.proxy_history.specs.View.{Entry, Said, Response, Indication, OpenedWith, view}
use Rattle.proxy_history.specs.Rendering.{Rendering, render, put}
use Rattle.proxy_history.specs.Noting.{end_overfull, receivers_of, rendering}
use Rattle.proxy_history.specs.Wording.{told_by}
use Rattle.mbim_proxy.specs.Setup.{Setup, mbim_setup}
use Rattle.mbim_proxy.specs.Known.{Known}
use Rattle.mbim_proxy.specs.ModemStates.{ModemState, IsOpening, IsReady, is_own_open, state}
use Rattle.mbim_proxy.specs.Lists.{askers, last_list}
use Rattle.mbim_proxy.specs.OwnReplies.{OwnReply, Silent, Wrong, NotOpened, Closes, Refuses, Configures, Subscribes, own_reply}
use Rattle.mbim_proxy.specs.Step.{blank, step, known_now, with_message, with_reply}
use Rattle.mbim_proxy.specs.Forwarding.{wire}
use Rattle.mbim_proxy.specs.Text.{text_as, mbim_wording, note}

-- ---- bytes that wait for the client ----

pub record Waiting (r : Rendering) (bytes : List ℕ) : Type 0 where
  pub are : r.waiting ≡ bytes
  pub fits : r.is_over ≡ false

put_waits : (new bytes : List ℕ) (r : Rendering) → Waiting r bytes → length bytes + length new ≤ 262144 → Waiting (put 262144 new r) (bytes ++ new)
put_waits new bytes r waits room =
    let test : nat_lt 262144 (length r.waiting + length new) ≡ false = rw waits.are (let t : nat_lt 262144 (length bytes + length new) ≡ false = grind (arith, nat_tests, room) in t) in
    let over : (r.is_over || nat_lt 262144 (length r.waiting + length new)) ≡ false = rw (waits.fits, test) refl in
    record {
      are = ap (λ (b : Bool). if b then r.waiting else r.waiting ++ new) over ∙ ap (λ (l : List ℕ). l ++ new) waits.are;
      fits = over;
    }

-- ---- how the proxy stands ----

pub record Scene : Type 0 where
  -- what is known of the one client
  pub known : Known
  pub modem : ModemState
  -- the list that the modem was last asked for
  pub listed : List Pair
  -- the requests in use
  pub requests : List Request
  -- the last number given
  pub last : ℕ
  -- the bytes that wait for the modem, and for the client
  pub queue : List ℕ
  pub waiting : List ℕ

-- no verdict and no reply changes how many messages the client sent
replied_sent : (reply : OwnReply) (known : Known) → (with_reply reply known).sent ≡ known.sent
replied_sent Silent known = refl
replied_sent (Wrong code) known = refl
replied_sent (NotOpened status) known = refl
replied_sent Closes known = refl
replied_sent (Refuses command status) known = refl
replied_sent (Configures command) known = refl
replied_sent (Subscribes command list) known = refl

judged_sent : (s : Setup) (known : Known) (m : List ℕ) (verdict : Verdict) → (step s known (Said m verdict)).sent ≡ known.sent + 1
judged_sent s known m Own = replied_sent (own_reply s known m) (with_message s m known)
judged_sent s known m Share = refl
judged_sent s known m Foreign = refl
judged_sent s known m Away = refl
judged_sent s known m Full = refl
judged_sent s known m Forward = refl
judged_sent s known m Ready = refl
judged_sent s known m Waits = refl

module _ (device : List ℕ) (time_limit : ℕ) where
  abbrev pub s : Setup
  s = mbim_setup device time_limit false

  abbrev pub bytes_now : List Fact → Rendering
  bytes_now past = rendering s.limits (mbim_wording s) 1 past

  -- the one client is there, the modem is too, and all stands so
  pub record Calm (x : Scene) (past : List Fact) : Type 0 where
    pub there : present past ≡ 1 ∷ []
    pub knows : known_now s 1 past ≡ x.known
    pub counts : message_count 1 past ≡ x.known.sent
    pub modem_is : state false past ≡ x.modem
    pub listed_is : last_list past ≡ x.listed
    pub uses : in_use past ≡ x.requests
    pub pends : pending past ≡ x.requests
    pub last_is : last_number 0 past ≡ x.last
    -- what the modem took
    pub taken : List ℕ
    pub to_it : to_modem (wire s) past ≡ taken ++ x.queue
    pub count : modem_taken_count past ≡ length taken
    pub written : Waiting (bytes_now past) x.waiting

  module _ {x : Scene} {past : List Fact} (calm : Calm x past) where
    pub queue_is : modem_queue (wire s) past ≡ x.queue
    queue_is = ap (drop (modem_taken_count past)) calm.to_it ∙ ap (λ (n : ℕ). drop n (calm.taken ++ x.queue)) calm.count ∙ drop-append_seam calm.taken x.queue

    pub began : Calm x (EventBegan ∷ past)
    unfolding present in_use pending view to_modem modem_taken_count last_number askers last_list state message_count
    began = record { there = calm.there; knows = calm.knows; counts = calm.counts; modem_is = calm.modem_is; listed_is = calm.listed_is; uses = calm.uses; pends = calm.pends; last_is = calm.last_is; taken = calm.taken; to_it = calm.to_it; count = calm.count; written = calm.written }

    pub listed_now : (list : List Pair) → Calm (record x { listed = list }) (ListSent list ∷ past)
    unfolding present in_use pending view to_modem modem_taken_count last_number askers last_list state message_count
    listed_now list = record { there = calm.there; knows = calm.knows; counts = calm.counts; modem_is = calm.modem_is; listed_is = refl; uses = calm.uses; pends = calm.pends; last_is = calm.last_is; taken = calm.taken; to_it = calm.to_it; count = calm.count; written = calm.written }

    pub modem_taken_all : (count : ℕ) → count ≡ length x.queue → Calm (record x { queue = [] }) (ModemTaken count ∷ past)
    unfolding present in_use pending view to_modem modem_taken_count last_number askers last_list state message_count
    modem_taken_all count is = record {
      there = calm.there;
      knows = calm.knows;
      counts = calm.counts;
      modem_is = calm.modem_is;
      listed_is = calm.listed_is;
      uses = calm.uses;
      pends = calm.pends;
      last_is = calm.last_is;
      taken = calm.taken ++ x.queue;
      to_it = calm.to_it ∙ sym (append-nil (calm.taken ++ x.queue));
      count = omega (arith, calm.count, is, length-append calm.taken x.queue);
      written = calm.written;
    }

    pub was_taken : Calm (record x { waiting = [] }) (Taken 1 (length x.waiting) ∷ past)
    unfolding present in_use pending view to_modem modem_taken_count last_number askers last_list state message_count render told_by
    was_taken = record {
      there = calm.there;
      knows = calm.knows;
      counts = calm.counts;
      modem_is = calm.modem_is;
      listed_is = calm.listed_is;
      uses = calm.uses;
      pends = calm.pends;
      last_is = calm.last_is;
      taken = calm.taken;
      to_it = calm.to_it;
      count = calm.count;
      written = record { are = ap (drop (length x.waiting)) calm.written.are ∙ ap (drop (length x.waiting)) (sym (append-nil x.waiting)) ∙ drop-append_seam x.waiting []; fits = calm.written.fits };
    }

    -- an entry for the client is written behind what waits for it
    written_now : (entry : Entry) → length x.waiting + length (text_as s x.known entry) ≤ 262144 → Waiting (put 262144 (text_as s (known_now s 1 past) entry) (bytes_now past)) (x.waiting ++ text_as s x.known entry)
    written_now entry room = subst (λ (k : Known). Waiting (put 262144 (text_as s k entry) (bytes_now past)) (x.waiting ++ text_as s x.known entry)) (sym calm.knows) (put_waits (text_as s x.known entry) x.waiting (bytes_now past) calm.written room)

    -- how it stands once the client has an entry more
    abbrev pub with_entry : Entry → Scene
    with_entry entry = record x { known = step s x.known entry; waiting = x.waiting ++ text_as s x.known entry }

    -- a message of the client, whatever comes of it
    pub judged : (place : ℕ) (m : List ℕ) (verdict : Verdict) → length x.waiting + length (text_as s x.known (Said m verdict)) ≤ 262144 → Calm (with_entry (Said m verdict)) (Judged 1 place m verdict ∷ past)
    unfolding present in_use pending view to_modem modem_taken_count last_number askers last_list state message_count render told_by
    judged place m verdict room = record {
      there = calm.there;
      knows = ap (λ (k : Known). step s k (Said m verdict)) calm.knows;
      counts = ap (λ (n : ℕ). n + 1) calm.counts ∙ sym (judged_sent s x.known m verdict);
      modem_is = calm.modem_is;
      listed_is = calm.listed_is;
      uses = calm.uses;
      pends = calm.pends;
      last_is = calm.last_is;
      taken = calm.taken;
      to_it = calm.to_it;
      count = calm.count;
      written = written_now (Said m verdict) room;
    }

    pub forwarded : (r : Request) → r.space ≡ 0 → Calm (record x { modem = if is_own_open r then IsOpening else x.modem; requests = x.requests ++ r ∷ []; last = r.number; queue = x.queue ++ wire s r }) (Forwarded r ∷ past)
    unfolding present in_use pending view to_modem modem_taken_count last_number askers last_list state message_count
    forwarded r one = record {
      there = calm.there;
      knows = calm.knows;
      counts = calm.counts;
      modem_is = ap (λ (m : ModemState). if is_own_open r then IsOpening else m) calm.modem_is;
      listed_is = calm.listed_is;
      uses = ap (λ (l : List Request). l ++ r ∷ []) calm.uses;
      pends = ap (λ (l : List Request). l ++ r ∷ []) calm.pends;
      last_is = ap (λ (b : Bool). if b then r.number else last_number 0 past) (eq-eqb r.space 0 one);
      taken = calm.taken;
      to_it = ap (λ (l : List ℕ). l ++ wire s r) calm.to_it ∙ append_assoc calm.taken x.queue (wire s r);
      count = calm.count;
      written = calm.written;
    }

    -- an answer to the client's request, and one to the proxy's own
    pub answered : (r : Request) (m : List ℕ) → r.conn ≡ 1 → length x.waiting + length (text_as s x.known (Response r.place (blank m))) ≤ 262144
        → Calm (record (with_entry (Response r.place (blank m))) { requests = without_request r x.requests }) (Answered r m ∷ past)
    unfolding present in_use pending view to_modem modem_taken_count last_number askers last_list state message_count render told_by
    answered r m one room =
        let test : (r.conn == 1) ≡ true = eq-eqb r.conn 1 one in
        record {
          there = calm.there;
          knows = rw test (ap (λ (k : Known). step s k (Response r.place (blank m))) calm.knows);
          counts = calm.counts;
          modem_is = calm.modem_is;
          listed_is = calm.listed_is;
          uses = ap (without_request r) calm.uses;
          pends = ap (without_request r) calm.pends;
          last_is = calm.last_is;
          taken = calm.taken;
          to_it = calm.to_it;
          count = calm.count;
          written = rw test (written_now (Response r.place (blank m)) room);
        }

    pub answered_own : (r : Request) (m : List ℕ) → r.conn ≡ 0 → Calm (record x { requests = without_request r x.requests }) (Answered r m ∷ past)
    unfolding present in_use pending view to_modem modem_taken_count last_number askers last_list state message_count
    answered_own r m none =
        let test : (r.conn == 1) ≡ false = ap (λ (n : ℕ). n == 1) none in
        record {
          there = calm.there;
          knows = rw test calm.knows;
          counts = calm.counts;
          modem_is = calm.modem_is;
          listed_is = calm.listed_is;
          uses = ap (without_request r) calm.uses;
          pends = ap (without_request r) calm.pends;
          last_is = calm.last_is;
          taken = calm.taken;
          to_it = calm.to_it;
          count = calm.count;
          written = rw test calm.written;
        }

    -- the opening ends well, and the client waited for it
    pub opened : length x.waiting + length (text_as s x.known (OpenedWith SUCCESS)) ≤ 262144
        → Calm (record (with_entry (OpenedWith SUCCESS)) { modem = IsReady; listed = starting_list }) (OpeningEnded SUCCESS (1 ∷ []) ∷ past)
    unfolding present in_use pending view to_modem modem_taken_count last_number askers last_list state message_count render told_by
    opened room = record {
      there = calm.there;
      knows = ap (λ (k : Known). step s k (OpenedWith SUCCESS)) calm.knows;
      counts = calm.counts;
      modem_is = refl;
      listed_is = refl;
      uses = calm.uses;
      pends = calm.pends;
      last_is = calm.last_is;
      taken = calm.taken;
      to_it = calm.to_it;
      count = calm.count;
      written = written_now (OpenedWith SUCCESS) room;
    }

    -- the client is told
    pub indicated : (m : List ℕ) → length x.waiting + length (text_as s x.known (Indication m)) ≤ 262144 → Calm (with_entry (Indication m)) (Indicated m (1 ∷ []) ∷ past)
    unfolding present in_use pending view to_modem modem_taken_count last_number askers last_list state message_count render told_by
    indicated m room = record {
      there = calm.there;
      knows = ap (λ (k : Known). step s k (Indication m)) calm.knows;
      counts = calm.counts;
      modem_is = calm.modem_is;
      listed_is = calm.listed_is;
      uses = calm.uses;
      pends = calm.pends;
      last_is = calm.last_is;
      taken = calm.taken;
      to_it = calm.to_it;
      count = calm.count;
      written = written_now (Indication m) room;
    }

  -- ---- a fact that the client gets ends nobody, where there is room for it ----

  ends_nobody : (fact : Fact) (past : List Fact) (c : ℕ) (there over : Bool) → over ≡ false → (if there && over then Ended c NoRoom ∷ fact ∷ past else fact ∷ past) ≡ fact ∷ past
  ends_nobody fact past c true over fits = ap (λ (b : Bool). if b then Ended c NoRoom ∷ fact ∷ past else fact ∷ past) fits
  ends_nobody fact past c false over fits = refl

  pub noted : (fact : Fact) (past : List Fact) → receivers_of fact ≡ 1 ∷ [] → (bytes_now (fact ∷ past)).is_over ≡ false → note s fact past ≡ fact ∷ past
  unfolding end_overfull
  noted fact past one fits =
      ap (λ (receivers : List ℕ). end_overfull s.limits (mbim_wording s) receivers (fact ∷ past)) one
      ∙ ends_nobody fact past 1 (is_present 1 (fact ∷ past)) (bytes_now (fact ∷ past)).is_over fits

  -- nor does one of the proxy itself
  pub noted_own : (fact : Fact) (past : List Fact) → receivers_of fact ≡ 0 ∷ [] → present (fact ∷ past) ≡ 1 ∷ [] → note s fact past ≡ fact ∷ past
  unfolding end_overfull
  noted_own fact past one there =
      ap (λ (receivers : List ℕ). end_overfull s.limits (mbim_wording s) receivers (fact ∷ past)) one
      ∙ ap (λ (b : Bool). if b && (rendering s.limits (mbim_wording s) 0 (fact ∷ past)).is_over then Ended 0 NoRoom ∷ fact ∷ past else fact ∷ past) (ap (contains 0) there)
