-- What holds of the facts of a proxy with one client, and how each fact keeps it. Lists of facts have the newest first.
use Rattle.std.proofs.Common.{◌≡◌, ℕ, ◌+◌, ◌≤◌, Bool, true, false, not, ◌&&◌, ◌||◌, ◌==◌, nat_lt, if◌then◌else◌, List, [], ◌∷◌, ◌++◌, length, drop, Some, refl, ap, sym, ◌∙◌, arith, subst, append_assoc, append-nil, length-append}
use Rattle.std.specs.List.{AllByRecursion}
use Rattle.std.proofs.lemmas.Bool.{eq-eqb}
use Rattle.std.proofs.lemmas.Bool.Decides.{nat_tests}
use Rattle.std.proofs.Math.Seq.{drop-append_seam}
use Rattle.kit_bytes.proofs.Lists.{all_filter, all_push}
use Rattle.proxy_history.specs.Facts.{Fact, Request, EventBegan, Own, Forward, Judged, Taken, Forwarded, Answered, Granted, Freed, ModemTaken, Ended, NoRoom, ModemLost, ModemReturned, Reset}
use Rattle.proxy_history.specs.Connections.{present, is_present}
use Rattle.proxy_history.specs.Requests.{in_use, pending, without_request, last_number}
use Rattle.proxy_history.specs.ClientIds.{Grant, is_of, held, holder_in, holder, is_other}
use Rattle.proxy_history.specs.Modem.{to_modem, modem_taken_count, modem_queue, is_away}
use Rattle.proxy_history.specs.View.{view, said_at}
use Rattle.proxy_history.specs.Rendering.{Rendering, render, put}
use Rattle.proxy_history.specs.Noting.{end_overfull, receivers_of}
use Rattle.proxy_history.specs.Wording.{told_by}
use Rattle.qmux_frame.specs.Head.{number_of}
use Rattle.qmux_frame.specs.Reply.{with_number, result_reply}
use Rattle.qmi_proxy.specs.Setup.{Setup}
use Rattle.qmi_proxy.specs.Limits.{outbox_limit, qmi_limits}
use Rattle.qmi_proxy.specs.OwnReplies.{is_open, is_opening, own_error}
use Rattle.qmi_proxy.specs.Text.{blank, view_of, rendering, note, qmi_wording}
use Rattle.qmi_proxy.specs.Clients.{wire}

-- ---- bytes that wait for the client ----

pub record Waits (r : Rendering) (bytes : List ℕ) : Type 0 where
  pub are : r.waiting ≡ bytes
  pub fits : r.is_over ≡ false

pub put_waits : (new bytes : List ℕ) (r : Rendering) → Waits r bytes → length bytes + length new ≤ outbox_limit → Waits (put outbox_limit new r) (bytes ++ new)
put_waits new bytes r waits room =
    let test : nat_lt outbox_limit (length r.waiting + length new) ≡ false = rw waits.are (let t : nat_lt 262144 (length bytes + length new) ≡ false = grind (arith, nat_tests, room) in t) in
    let over : (r.is_over || nat_lt outbox_limit (length r.waiting + length new)) ≡ false = rw (waits.fits, test) refl in
    record {
      are = ap (λ (b : Bool). if b then r.waiting else r.waiting ++ new) over ∙ ap (λ (l : List ℕ). l ++ new) waits.are;
      fits = over;
    }

module _ (s : Setup) where
  -- the client ids are the one client's, and the modem stays
  abbrev pub IsOwn : Fact → Type 0
  IsOwn (Granted c service cid) = c ≡ 1
  IsOwn ModemLost = ⊥
  IsOwn _ = Unit {0}

  abbrev pub AreOwn : List Fact → Type 0
  AreOwn past = AllByRecursion IsOwn past

  pub is_there : s.starts_away ≡ false → (past : List Fact) → AreOwn past → is_away s.starts_away past ≡ false
  unfolding is_away
  is_there there [] all = there
  is_there there (ModemLost ∷ past) all = absurd all.0
  is_there there (ModemReturned ∷ past) all = refl
  is_there there (_ ∷ past) all = is_there there past all.1

  abbrev AreOfOne : List Grant → Type 0
  AreOfOne grants = AllByRecursion (λ g. g.conn ≡ 1) grants

  ids_are_own : (past : List Fact) → AreOwn past → AreOfOne (held past)
  unfolding held
  ids_are_own [] all = tt
  ids_are_own (Granted c service cid ∷ past) all =
      all_push (λ (g : Grant). g.conn ≡ 1) _ _ (all_filter (λ (g : Grant). g.conn ≡ 1) (λ (g : Grant). not (is_of service cid g)) (held past) (ids_are_own past all.1)) all.0
  ids_are_own (Freed c service cid ∷ past) all = all_filter (λ (g : Grant). g.conn ≡ 1) (λ (g : Grant). not (is_of service cid g && (c == g.conn))) (held past) (ids_are_own past all.1)
  ids_are_own (Ended c why ∷ past) all = all_filter (λ (g : Grant). g.conn ≡ 1) (λ (g : Grant). not (c == g.conn)) (held past) (ids_are_own past all.1)
  ids_are_own (Reset ∷ past) all = tt
  ids_are_own (ModemLost ∷ past) all = tt
  ids_are_own (_ ∷ past) all = ids_are_own past all.1

  nobody_else : (service cid : ℕ) (grants : List Grant) → AreOfOne grants → is_other 1 (holder_in service cid grants) ≡ false
  nobody_else service cid [] all = refl
  nobody_else service cid (g ∷ grants) all =
      elim (is_of service cid g) as (λ b. is_other 1 (if b then Some g.conn else holder_in service cid grants) ≡ false) [
        | true ↦ ap (λ (n : ℕ). is_other 1 (Some n)) all.0
        | false ↦ nobody_else service cid grants all.1
      ]

  -- nobody else holds any id
  pub id_is_free : (service cid : ℕ) (past : List Fact) → AreOwn past → is_other 1 (holder service cid past) ≡ false
  id_is_free service cid past all = nobody_else service cid (held past) (ids_are_own past all)

  -- the one client is there, and has opened the device or hasn't; these requests are in use, these bytes wait for the modem and these for the client
  pub record Calm (opened : Bool) (requests : List Request) (last : ℕ → ℕ) (queue waiting : List ℕ) (past : List Fact) : Type 0 where
    pub there : present past ≡ 1 ∷ []
    pub own : AreOwn past
    pub open_is : is_open s.device (view_of 1 past) ≡ opened
    pub uses : in_use past ≡ requests
    pub waits : pending past ≡ requests
    pub last_is : (space : ℕ) → last_number space past ≡ last space
    -- what the modem took, and what waits for it
    pub taken : List ℕ
    pub to_it : to_modem wire past ≡ taken ++ queue
    pub count : modem_taken_count past ≡ length taken
    pub written : Waits (rendering s.device 1 past) waiting

  pub queue_is : {opened : Bool} {requests : List Request} {last : ℕ → ℕ} {queue waiting : List ℕ} {past : List Fact} → Calm opened requests last queue waiting past → modem_queue wire past ≡ queue
  queue_is {queue = queue} {past = past} calm = ap (drop (modem_taken_count past)) calm.to_it ∙ ap (λ (n : ℕ). drop n (calm.taken ++ queue)) calm.count ∙ drop-append_seam calm.taken queue

  module _ {opened : Bool} {requests : List Request} {last : ℕ → ℕ} {queue waiting : List ℕ} {past : List Fact} (calm : Calm opened requests last queue waiting past) where
    pub began : Calm opened requests last queue waiting (EventBegan ∷ past)
    unfolding present in_use pending view to_modem modem_taken_count last_number
    began = record { there = calm.there; own = (tt, calm.own); open_is = calm.open_is; uses = calm.uses; waits = calm.waits; last_is = calm.last_is; taken = calm.taken; to_it = calm.to_it; count = calm.count; written = calm.written }

    pub granted : (service cid : ℕ) → Calm opened requests last queue waiting (Granted 1 service cid ∷ past)
    unfolding present in_use pending view to_modem modem_taken_count last_number
    granted service cid = record { there = calm.there; own = (refl, calm.own); open_is = calm.open_is; uses = calm.uses; waits = calm.waits; last_is = calm.last_is; taken = calm.taken; to_it = calm.to_it; count = calm.count; written = calm.written }

    pub freed : (service cid : ℕ) → Calm opened requests last queue waiting (Freed 1 service cid ∷ past)
    unfolding present in_use pending view to_modem modem_taken_count last_number
    freed service cid = record { there = calm.there; own = (tt, calm.own); open_is = calm.open_is; uses = calm.uses; waits = calm.waits; last_is = calm.last_is; taken = calm.taken; to_it = calm.to_it; count = calm.count; written = calm.written }

    pub modem_taken_all : (count : ℕ) → count ≡ length queue → Calm opened requests last [] waiting (ModemTaken count ∷ past)
    unfolding present in_use pending view to_modem modem_taken_count last_number
    modem_taken_all count is = record {
      there = calm.there;
      own = (tt, calm.own);
      open_is = calm.open_is;
      uses = calm.uses;
      waits = calm.waits;
      last_is = calm.last_is;
      taken = calm.taken ++ queue;
      to_it = calm.to_it ∙ sym (append-nil (calm.taken ++ queue));
      count = omega (arith, calm.count, is, length-append calm.taken queue);
      written = calm.written;
    }

    pub was_taken : Calm opened requests last queue [] (Taken 1 (length waiting) ∷ past)
    unfolding present in_use pending view to_modem modem_taken_count last_number render told_by
    was_taken = record { there = calm.there; own = (tt, calm.own); open_is = calm.open_is; uses = calm.uses; waits = calm.waits; last_is = calm.last_is; taken = calm.taken; to_it = calm.to_it; count = calm.count; written = record { are = ap (drop (length waiting)) calm.written.are ∙ ap (drop (length waiting)) (sym (append-nil waiting)) ∙ drop-append_seam waiting []; fits = calm.written.fits } }

    pub judged : (place : ℕ) (m : List ℕ) → length waiting ≤ outbox_limit → Calm opened requests last queue waiting (Judged 1 place m Forward ∷ past)
    unfolding present in_use pending view to_modem modem_taken_count last_number render told_by
    judged place m room = record { there = calm.there; own = (tt, calm.own); open_is = calm.open_is; uses = calm.uses; waits = calm.waits; last_is = calm.last_is; taken = calm.taken; to_it = calm.to_it; count = calm.count; written = subst (Waits (put outbox_limit [] (rendering s.device 1 past))) (append-nil waiting) (put_waits [] waiting (rendering s.device 1 past) calm.written (omega (arith, room))) }

    pub judged_own : (place : ℕ) (m : List ℕ) → length waiting + length (result_reply m (own_error s.device opened m)) ≤ outbox_limit
        → Calm (is_opening s.device m Own || opened) requests last queue (waiting ++ result_reply m (own_error s.device opened m)) (Judged 1 place m Own ∷ past)
    unfolding present in_use pending view to_modem modem_taken_count last_number render told_by
    judged_own place m room = record {
      there = calm.there;
      own = (tt, calm.own);
      open_is = ap (λ (b : Bool). is_opening s.device m Own || b) calm.open_is;
      uses = calm.uses;
      waits = calm.waits;
      last_is = calm.last_is;
      taken = calm.taken;
      to_it = calm.to_it;
      count = calm.count;
      written = subst (λ (b : Bool). Waits (put outbox_limit (result_reply m (own_error s.device b m)) (rendering s.device 1 past)) (waiting ++ result_reply m (own_error s.device opened m))) (sym calm.open_is)
          (put_waits (result_reply m (own_error s.device opened m)) waiting (rendering s.device 1 past) calm.written room);
    }

    pub forwarded : (r : Request) → Calm opened (requests ++ r ∷ []) (λ space. if r.space == space then r.number else last space) (queue ++ wire r) waiting (Forwarded r ∷ past)
    unfolding present in_use pending view to_modem modem_taken_count last_number
    forwarded r = record {
      there = calm.there;
      own = (tt, calm.own);
      open_is = calm.open_is;
      uses = ap (λ (l : List Request). l ++ r ∷ []) calm.uses;
      waits = ap (λ (l : List Request). l ++ r ∷ []) calm.waits;
      last_is = λ space. ap (λ (n : ℕ). if r.space == space then r.number else n) (calm.last_is space);
      taken = calm.taken;
      to_it = ap (λ (l : List ℕ). l ++ wire r) calm.to_it ∙ append_assoc calm.taken queue (wire r);
      count = calm.count;
      written = calm.written;
    }

    abbrev pub answer_text : Request → List ℕ → List ℕ
    answer_text r m = with_number (number_of (said_at r.place (view_of 1 past))) (blank m)

    pub answered : (r : Request) (m : List ℕ) → r.conn ≡ 1 → length waiting + length (answer_text r m) ≤ outbox_limit
        → Calm opened (without_request r requests) last queue (waiting ++ answer_text r m) (Answered r m ∷ past)
    unfolding present in_use pending view to_modem modem_taken_count last_number render told_by
    answered r m one room =
        let test : (r.conn == 1) ≡ true = eq-eqb r.conn 1 one in
        record {
          there = calm.there;
          own = (tt, calm.own);
          open_is = rw test calm.open_is;
          uses = ap (without_request r) calm.uses;
          waits = ap (without_request r) calm.waits;
          last_is = calm.last_is;
          taken = calm.taken;
          to_it = calm.to_it;
          count = calm.count;
          written = rw test (put_waits (answer_text r m) waiting (rendering s.device 1 past) calm.written room);
        }

  -- ---- a fact that the client gets ends nobody, where there is room for it ----

  ends_nobody : (fact : Fact) (past : List Fact) (there over : Bool) → over ≡ false → (if there && over then Ended 1 NoRoom ∷ fact ∷ past else fact ∷ past) ≡ fact ∷ past
  ends_nobody fact past true over fits = ap (λ (b : Bool). if b then Ended 1 NoRoom ∷ fact ∷ past else fact ∷ past) fits
  ends_nobody fact past false over fits = refl

  pub noted : (fact : Fact) (past : List Fact) → receivers_of fact ≡ 1 ∷ [] → (rendering s.device 1 (fact ∷ past)).is_over ≡ false → note s.device fact past ≡ fact ∷ past
  unfolding end_overfull
  noted fact past one fits =
      ap (λ (receivers : List ℕ). end_overfull qmi_limits (qmi_wording s.device) receivers (fact ∷ past)) one
      ∙ ends_nobody fact past (is_present 1 (fact ∷ past)) (rendering s.device 1 (fact ∷ past)).is_over fits
