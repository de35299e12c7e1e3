-- A request that a client's message brings waits for the modem at the end of the event.
use Rattle.std.proofs.Common.{◌≡◌, ℕ, ◌+◌, ◌<◌, ◌≤◌, Bool, true, false, List, [], ◌∷◌, ◌++◌, length, drop, map, refl, ap, sym, ◌∙◌, subst, arith, append_assoc, append-nil}
use Rattle.std.specs.List.{concat, AllByRecursion}
use Rattle.std.proofs.lemmas.List.{map-append, drop-append-le}
use Rattle.std.proofs.lemmas.List.Folds.{concat-append}
use Rattle.std.proofs.lemmas.List.Elements.{All-from_recursion}
use Rattle.proxy_history.specs.Limits.{Limits}
use Rattle.proxy_history.specs.Events.{Event, Piece}
use Rattle.proxy_history.specs.Items.{Item, Says, GoesBad, item_if}
use Rattle.proxy_history.specs.Streams.{messages_of_piece, is_bad, stream}
use Rattle.proxy_history.specs.Facts.{Fact, Request, EventBegan, Ended, BadStream, NoRoom, Judged, Forwarded, Granted, ListSent}
use Rattle.proxy_history.specs.Requests.{in_use, forward_count}
use Rattle.proxy_history.specs.Modem.{to_modem, modem_taken_count}
use Rattle.proxy_history.specs.Sound.{IsSound, MayFollow}
use Rattle.proxy_history.specs.Adding.{MayAdd, MayFinish, IsOrderly}
use Rattle.proxy_history.specs.Protocol.{Protocol}
use Rattle.proxy_history.specs.History.{add, add_all, history}
use Rattle.proxy_history.specs.Standing.{WaitsBehind}
use Rattle.proxy_history.proofs.Walk.{behind_messages, one_if, kept_by_items, kept_at_end, sound_items, begun_is_sound}
use Rattle.proxy_history.proofs.Splits.{splits}

-- ---- what a client's messages add ----

module _ (wire : Request → List ℕ) where
  -- requests alone, whose bytes go behind those that were queued for the modem
  pub record Adds (past after : List Fact) : Type 0 where
    pub requests : List Request
    pub later : AllByRecursion (λ r. forward_count past < r.serial) requests
    pub in_use : in_use after ≡ in_use past ++ requests
    pub bytes : to_modem wire after ≡ to_modem wire past ++ concat (map wire requests)
    pub was_taken : modem_taken_count after ≡ modem_taken_count past
    pub count : forward_count past ≤ forward_count after

  pub adds_none : (past after : List Fact) → in_use after ≡ in_use past → to_modem wire after ≡ to_modem wire past → modem_taken_count after ≡ modem_taken_count past → forward_count after ≡ forward_count past → Adds past after
  adds_none past after numbers bytes was_taken count = record {
    requests = [];
    later = tt;
    in_use = numbers ∙ sym (append-nil (in_use past));
    bytes = bytes ∙ sym (append-nil (to_modem wire past));
    was_taken = was_taken;
    count = omega arith;
  }

  pub same : (past : List Fact) → Adds past past
  same past = adds_none past past refl refl refl refl

  later_both : (low high : ℕ) (one other : List Request) → low ≤ high → AllByRecursion (λ r. low < r.serial) one → AllByRecursion (λ r. high < r.serial) other → AllByRecursion (λ r. low < r.serial) (one ++ other)
  later_both low high [] [] within ours theirs = tt
  later_both low high [] (r ∷ other) within ours theirs = (omega (arith, theirs.0), later_both low high [] other within tt theirs.1)
  later_both low high (r ∷ one) other within ours theirs = (ours.0, later_both low high one other within ours.1 theirs)

  pub further : (past between after : List Fact) → Adds past between → Adds between after → Adds past after
  further past between after one other = record {
    requests = one.requests ++ other.requests;
    later = later_both (forward_count past) (forward_count between) one.requests other.requests one.count one.later other.later;
    in_use = other.in_use ∙ ap (λ (l : List Request). l ++ other.requests) one.in_use ∙ append_assoc (in_use past) one.requests other.requests;
    bytes =
        other.bytes
        ∙ ap (λ (l : List ℕ). l ++ concat (map wire other.requests)) one.bytes
        ∙ append_assoc (to_modem wire past) (concat (map wire one.requests)) (concat (map wire other.requests))
        ∙ ap (λ (l : List ℕ). to_modem wire past ++ l) (sym (ap concat (map-append wire one.requests other.requests) ∙ concat-append (map wire one.requests) (map wire other.requests)));
    was_taken = other.was_taken ∙ one.was_taken;
    count = let first = one.count in let second = other.count in omega arith;
  }

  -- ---- facts ----

  requested : (r : Request) (past : List Fact) → r.serial ≡ forward_count past + 1 → Adds past (Forwarded r ∷ past)
  unfolding in_use to_modem modem_taken_count forward_count
  requested r past next = record {
    requests = r ∷ [];
    later = (omega arith, tt);
    in_use = refl;
    bytes = ap (λ (l : List ℕ). to_modem wire past ++ l) (sym (append-nil (wire r)));
    was_taken = refl;
    count = omega arith;
  }

  is_clients : Item → Bool
  is_clients (Says c m) = true
  is_clients (GoesBad c) = true
  is_clients _ = false

  -- what such an item adds is no answer, and nothing of the modem
  one_more : (limits : Limits) (item : Item) (fact : Fact) (past : List Fact) → is_clients item ≡ true → MayAdd item fact past → MayFollow limits fact past → Adds past (fact ∷ past)
  unfolding is_clients in_use to_modem modem_taken_count forward_count
  one_more limits (Says c m) (Judged d place message verdict) past clients may follows = adds_none past (Judged d place message verdict ∷ past) refl refl refl refl
  one_more limits (Says c m) (Forwarded r) past clients may follows = requested r past follows.serial
  one_more limits (Says c m) (Granted d service cid) past clients may follows = adds_none past (Granted d service cid ∷ past) refl refl refl refl
  one_more limits (Says c m) (Ended d NoRoom) past clients may follows = adds_none past (Ended d NoRoom ∷ past) refl refl refl refl
  one_more limits (GoesBad c) (Ended d BadStream) past clients may follows = adds_none past (Ended d BadStream ∷ past) refl refl refl refl
  one_more limits (Says c m) _ past clients may follows = absurd may
  one_more limits (GoesBad c) _ past clients may follows = absurd may
  one_more limits _ _ past clients may follows = absurd (cc)

  last_more : (limits : Limits) (fact : Fact) (past : List Fact) → MayFinish fact past → MayFollow limits fact past → Adds past (fact ∷ past)
  unfolding in_use to_modem modem_taken_count forward_count
  last_more limits (Forwarded r) past may follows = requested r past follows.serial
  last_more limits (ListSent list) past may follows = adds_none past (ListSent list ∷ past) refl refl refl refl
  last_more limits _ past may follows = absurd may

  -- a request, and what came behind it
  module _ (request : Request) (past sent after : List Fact) (in_use_then : in_use sent ≡ in_use past ++ request ∷ []) (bytes_then : to_modem wire sent ≡ to_modem wire past ++ wire request) (taken_then : modem_taken_count sent ≡ modem_taken_count past)
      (serial_then : request.serial ≡ forward_count sent) (behind : Adds sent after) (was_taken : modem_taken_count past ≤ length (to_modem wire past)) where
    abbrev others : List ℕ
    others = concat (map wire behind.requests)

    pub waits_behind : WaitsBehind wire request past after
    waits_behind = record {
      others = behind.requests;
      later = All-from_recursion (λ (r : Request). request.serial < r.serial) behind.requests (subst (λ (n : ℕ). AllByRecursion (λ r. n < r.serial) behind.requests) (sym serial_then) behind.later);
      in_use = behind.in_use ∙ ap (λ (l : List Request). l ++ behind.requests) in_use_then ∙ append_assoc (in_use past) (request ∷ []) behind.requests;
      queue =
          ap (λ (n : ℕ). drop n (to_modem wire after)) (behind.was_taken ∙ taken_then)
          ∙ ap (λ (l : List ℕ). drop (modem_taken_count past) l) (behind.bytes ∙ ap (λ (l : List ℕ). l ++ others) bytes_then ∙ append_assoc (to_modem wire past) (wire request) others)
          ∙ drop-append-le (modem_taken_count past) (to_modem wire past) (wire request ++ others) was_taken;
    }

module _ {Known : Type 0} (p : Protocol Known) (Asks : Request → List Fact → Type 0) (O : IsOrderly p Asks) where
  -- ---- the whole event ----

  module _ (events : List Event) (c : ℕ) (earlier : List (List ℕ)) where
    abbrev pub facts_before_saying : List Fact
    facts_before_saying = add_all p (map (λ m. Says c m) earlier) (EventBegan ∷ history p events)

    module _ (piece : List ℕ) (later : List (List ℕ)) (m : List ℕ) (brings : messages_of_piece p.size (stream c events) piece ≡ earlier ++ m ∷ later) where
      abbrev end : List Item
      end = map (λ m. Says c m) later ++ item_if (is_bad p.size (stream c events ++ piece)) (GoesBad c)

      abbrev said : List Fact
      said = add p (Says c m) facts_before_saying

      sound_said : IsSound p.limits said
      unfolding add_all
      sound_said = sound_items p Asks O (Says c m ∷ []) facts_before_saying (sound_items p Asks O (map (λ m. Says c m) earlier) (EventBegan ∷ history p events) (begun_is_sound p Asks O events))

      whole : history p (Piece c piece ∷ events) ≡ p.finish (add_all p end said)
      unfolding history
      whole =
          ap (λ (messages : List (List ℕ)). p.finish (add_all p (map (λ m. Says c m) messages ++ item_if (is_bad p.size (stream c events ++ piece)) (GoesBad c)) (EventBegan ∷ history p events))) brings
          ∙ ap p.finish (splits p (λ m. Says c m) (item_if (is_bad p.size (stream c events ++ piece)) (GoesBad c)) earlier later m (EventBegan ∷ history p events))

      -- what the rest of the piece adds to what the message did
      pub rest_adds : Adds p.wire said (history p (Piece c piece ∷ events))
      unfolding is_clients
      rest_adds =
          subst (Adds p.wire said) (sym whole)
          (kept_at_end p Asks O (Adds p.wire said) (λ fact before follows may asked adds. further p.wire said before (fact ∷ before) adds (last_more p.wire p.limits fact before may follows)) (add_all p end said) (sound_items p Asks O end said sound_said)
          (kept_by_items p Asks O (Adds p.wire said) (λ item. is_clients p.wire item ≡ true)
          (λ item is fact before follows may asked adds. further p.wire said before (fact ∷ before) adds (one_more p.wire p.limits item fact before is may follows))
          end said
          (behind_messages (λ item. is_clients p.wire item ≡ true) (λ m. Says c m) later (item_if (is_bad p.size (stream c events ++ piece)) (GoesBad c)) (λ m. refl) (one_if (λ item. is_clients p.wire item ≡ true) (is_bad p.size (stream c events ++ piece)) (GoesBad c) refl))
          sound_said (same p.wire said)))
