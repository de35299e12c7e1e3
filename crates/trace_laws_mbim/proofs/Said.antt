-- What a message of a client brings where the client is alone. Lists of events and of facts have the newest first.
use Rattle.std.proofs.Common.{◌≡◌, ℕ, ◌+◌, ◌<◌, ◌≤◌, inl, Bool, true, false, if◌then◌else◌, List, [], ◌∷◌, ◌++◌, length, drop, map, refl, ap, ap₂, sym, ◌∙◌, subst, arith, length-append}
use Rattle.std.proofs.lemmas.List.{map-append, drop-append-le, length-set, get_or-set_same}
use Rattle.kit_bytes.proofs.Lists.{all_push}
use Rattle.framing.specs.Framing.{IsMessage}
use Rattle.framing.specs.Cutting.{cut}
use Rattle.mbim_frame.specs.Frame.{size_of}
use Rattle.mbim_frame.specs.Framing.{size_of-kept, size_of-positive}
use Rattle.proxy_history.specs.Events.{Event, Piece}
use Rattle.proxy_history.specs.Streams.{stream, is_bad}
use Rattle.proxy_history.specs.Items.{Says, GoesBad, item_if}
use Rattle.proxy_history.specs.Facts.{Fact, Request, Verdict, EventBegan, Judged, Forwarded}
use Rattle.proxy_history.specs.Decision.{Decision, Replies}
use Rattle.proxy_history.specs.Connections.{present, is_present, message_count}
use Rattle.proxy_history.specs.Requests.{in_use, forward_count}
use Rattle.proxy_history.specs.Modem.{now, to_modem, modem_taken_count, modem_queue}
use Rattle.proxy_history.specs.Sound.{IsSound}
use Rattle.proxy_history.specs.History.{add, add_all}
use Rattle.proxy_history.proofs.Sound.{kept_by_note}
use Rattle.proxy_history.proofs.Walk.{begun_is_sound}
use Rattle.proxy_solo.proofs.Lists.{self}
use Rattle.proxy_history.proofs.Pieces.{ends_message}
use Rattle.mbim_proxy.specs.Known.{Known}
use Rattle.mbim_proxy.specs.Step.{known_now}
use Rattle.mbim_proxy.specs.Text.{mbim_wording, note}
use Rattle.mbim_proxy.specs.ModemStates.{IsReady, state}
use Rattle.mbim_proxy.specs.Lists.{last_list}
use Rattle.mbim_proxy.specs.Forwarding.{wire}
use Rattle.mbim_proxy.specs.Clients.{decision_for, judge, hear_client}
use Rattle.mbim_proxy.specs.History.{mbim_protocol, history}
use Rattle.mbim_proxy.proofs.Walk.{Asks, orderly}
use Rattle.mbim_solo.proofs.Settling.{MayQueue}
use Rattle.rig_runs.specs.Mbim.{setup}
use Rattle.rig_trace.specs.declared.rows.Row.{Row}
use Rattle.rig_trace.specs.Rows.{names, said_by, more_said, row_for, has_said, follow}
use Rattle.rig_trace.specs.Mbim.{mbim_reading}
use Rattle.trace_laws_mbim.specs.Laws.{row_of}
use Rattle.trace_laws_mbim.proofs.Rows.{Asked, AllAsked}
use Rattle.trace_laws_mbim.proofs.Kept.{IsAlone, HasStartingList, alone_kept, list_kept, was_ready}
use Rattle.trace_laws_mbim.proofs.Lone.{facts_of, ledger, Mirrored, Holds, Lone, Added}

module _ (c : ℕ) (named : c < names) (own : List Event) (lone : Lone c own) (empty : modem_queue (wire setup) (history setup own) ≡ []) where
  abbrev pub past : List Fact
  past = EventBegan ∷ history setup own

  abbrev pub known : Known
  known = known_now setup c past

  sound : IsSound setup.limits past
  sound = begun_is_sound (mbim_protocol setup) (Asks setup) (orderly setup) own

  -- it said one message more
  said_then : said_by c (record (ledger own) { said = more_said c (ledger own) }) ≡ message_count c (history setup own) + 1
  said_then =
      get_or-set_same (ledger own).said c (said_by c (ledger own) + 1) 0 (let as_many = lone.mirrors.names_are in omega (arith, as_many, named))
      ∙ ap (λ (n : ℕ). n + 1) lone.mirrors.said

  names_then : length (more_said c (ledger own)) ≡ names
  names_then = length-set (ledger own).said c (said_by c (ledger own) + 1) ∙ lone.mirrors.names_are

  module _ (m : List ℕ) (there : is_present c (history setup own) ≡ true) (whole : (cut size_of (stream c own)).rest ≡ []) (is : IsMessage size_of m) where
    abbrev after : List Fact
    after = add (mbim_protocol setup) (Says c m) past

    pub facts_are : facts_of (Piece c m) own ≡ after
    unfolding add_all
    facts_are =
        let ends = ends_message size_of size_of-kept size_of-positive refl (stream c own) m [] m whole refl is in
        let p = mbim_protocol setup in
        ap (λ (l : List (List ℕ)). add_all p (map (λ m. Says c m) l ++ item_if (is_bad size_of (stream c own ++ m)) (GoesBad c)) past) ends.messages
        ∙ ap (λ (b : Bool). add_all p (map (λ m. Says c m) (m ∷ []) ++ item_if b (GoesBad c)) past) ends.good

    pub decided : (decision : Decision) → decision_for setup known c m past ≡ decision → after ≡ judge setup known c m decision past
    unfolding present
    decided decision so = ap (λ (b : Bool). if b then hear_client setup known c m past else past) there ∙ ap (λ (d : Decision). judge setup known c m d past) so

    -- the modem isn't open but where it was
    pub was_open : state false (facts_of (Piece c m) own) ≡ IsReady → state false (history setup own) ≡ IsReady
    unfolding state
    was_open e = was_ready (Says c m) past sound refl (sym (ap (state false) facts_are) ∙ e)

    holds_behind : (facts : List Fact) → after ≡ facts → AllAsked (in_use facts) → modem_taken_count facts ≤ length (to_modem (wire setup) facts) → Mirrored c (follow mbim_reading (Piece c m) (modem_queue (wire setup) facts) (ledger own)) facts → Added c (Piece c m) own
    unfolding present state last_list
    holds_behind facts so plain taken mirrors =
        subst (λ (l : List Fact). Holds c (follow mbim_reading (Piece c m) (modem_queue (wire setup) l) (ledger own)) l) (sym (facts_are ∙ so)) (record {
          there = subst (λ (l : List Fact). IsAlone c (present l)) so (alone_kept (Says c m) past sound c refl lone.there);
          list = subst HasStartingList so (list_kept (Says c m) past sound lone.list);
          plain = plain;
          taken = taken;
          mirrors = mirrors;
        })

    -- ---- the proxy replies ----

    module _ (verdict : Verdict) (so : decision_for setup known c m past ≡ Replies verdict) where
      abbrev noted : List Fact
      noted = note setup (Judged c (message_count c past + 1) m verdict) past

      record Replied (facts : List Fact) : Type 0 where
        used : in_use facts ≡ in_use (history setup own)
        forwarded : forward_count facts ≡ forward_count (history setup own)
        said : message_count c facts ≡ message_count c (history setup own) + 1
        time : now facts ≡ now (history setup own)
        to_it : to_modem (wire setup) facts ≡ to_modem (wire setup) (history setup own)
        taken : modem_taken_count facts ≡ modem_taken_count (history setup own)

      replied : Replied noted
      unfolding in_use forward_count message_count now to_modem modem_taken_count
      replied =
          kept_by_note setup.limits (mbim_wording setup) Replied
          (λ d before here R. record { used = R.used; forwarded = R.forwarded; said = R.said; time = R.time; to_it = R.to_it; taken = R.taken })
          (Judged c (message_count c past + 1) m verdict) past
          (record { used = refl; forwarded = refl; said = ap (λ (b : Bool). if b then message_count c (history setup own) + 1 else message_count c (history setup own)) (self c); time = refl; to_it = refl; taken = refl })

      none_queued : modem_queue (wire setup) noted ≡ []
      none_queued = ap₂ drop replied.taken replied.to_it ∙ empty

      pub replies_queue : MayQueue setup c (history setup own) (facts_of (Piece c m) own)
      replies_queue = inl (ap (modem_queue (wire setup)) (facts_are ∙ decided (Replies verdict) so) ∙ none_queued)

      pub replies : Added c (Piece c m) own
      replies =
          holds_behind noted (decided (Replies verdict) so) (subst AllAsked (sym replied.used) lone.plain)
          (let within = lone.taken in omega (arith, within, replied.taken, ap length replied.to_it))
          (subst (λ (l : List ℕ). Mirrored c (has_said mbim_reading c m l (ledger own)) noted) (sym none_queued) (record {
            rows = lone.mirrors.rows ∙ ap (map (row_of c)) (sym replied.used);
            asked = lone.mirrors.asked ∙ sym replied.forwarded;
            time = lone.mirrors.time ∙ sym replied.time;
            names_are = names_then;
            said = said_then ∙ sym replied.said;
          }))

    -- ---- the modem is asked ----

    module _ (r : Request) (place : ℕ) (verdict : Verdict) (byte : ℕ) (bytes : List ℕ) (so : after ≡ Forwarded r ∷ Judged c place m verdict ∷ past) (plain : Asked r)
        (asked : wire setup r ≡ byte ∷ bytes) (row : row_for mbim_reading c (byte ∷ bytes) (ledger own) ≡ row_of c r) where
      abbrev facts : List Fact
      facts = Forwarded r ∷ Judged c place m verdict ∷ past

      queue_then : modem_queue (wire setup) facts ≡ byte ∷ bytes
      unfolding to_modem modem_taken_count
      queue_then =
          drop-append-le (modem_taken_count (history setup own)) (to_modem (wire setup) (history setup own)) (wire setup r) lone.taken
          ∙ ap (λ (l : List ℕ). l ++ wire setup r) empty
          ∙ asked

      pub forwards : Added c (Piece c m) own
      unfolding in_use forward_count message_count now to_modem modem_taken_count
      forwards =
          holds_behind facts so (all_push Asked (in_use (history setup own)) r lone.plain plain)
          (let within = lone.taken in omega (arith, within, length-append (to_modem (wire setup) (history setup own)) (wire setup r)))
          (subst (λ (l : List ℕ). Mirrored c (has_said mbim_reading c m l (ledger own)) facts) (sym queue_then) (record {
            rows =
                ap₂ (λ (rows : List Row) (one : Row). rows ++ one ∷ []) lone.mirrors.rows row
                ∙ sym (map-append (row_of c) (in_use (history setup own)) (r ∷ []));
            asked = ap (λ (n : ℕ). n + 1) lone.mirrors.asked;
            time = lone.mirrors.time;
            names_are = names_then;
            said = said_then ∙ sym (ap (λ (b : Bool). if b then message_count c (history setup own) + 1 else message_count c (history setup own)) (self c));
          }))
