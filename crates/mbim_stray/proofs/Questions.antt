-- What an MBIM proxy reads off two histories that tell the same is the same.
use Rattle.std.proofs.Common.{◌≡◌, ℕ, ◌+◌, Bool, not, ◌&&◌, ◌==◌, nat_le, if◌then◌else◌, List, [], ◌∷◌, ◌++◌, length, map, filter, refl, ap, ap₂, ◌∙◌, Option, None, is_some}
use Rattle.std.specs.List.{list_any}
use Rattle.kit_bytes.specs.Subscriptions.{Pair, merge}
use Rattle.kit_bytes.specs.Services.{starting_list}
use Rattle.kit_bytes.specs.Indications.{wants}
use Rattle.mbim_frame.specs.declared.kind.MessageKind.TheVariants as kind
use Rattle.mbim_frame.specs.declared.status.TheConstants.{SUCCESS}
use Rattle.mbim_frame.specs.Head.{is_kind}
use Rattle.proxy_history.specs.Facts.{Fact, Request, Own, Share, Waits, Ended, Judged, Forwarded, Indicated, OpeningEnded, ListSent, ModemLost, ModemReturned}
use Rattle.proxy_history.specs.Decision.{Decision, Replies, forwards_under}
use Rattle.proxy_history.specs.Connections.{present, is_present, contains, without, message_count}
use Rattle.proxy_history.specs.Requests.{in_use, pending, forward_count, next_number, has_share, deadline_of}
use Rattle.proxy_history.specs.Modem.{now, modem_queue}
use Rattle.proxy_history.specs.View.{view}
use Rattle.mbim_services.specs.SubscribeLists.{is_same_list}
use Rattle.proxy_stray.specs.Alike.{substance, TellTheSame}
use Rattle.proxy_stray.proofs.Questions.{IsTold, told, present-told, count-told, in_use-told, pending-told, forwards-told, now-told, view-told, next-told, share-told, queue-told, filter_same}
use Rattle.mbim_proxy.specs.Setup.{Setup, the_space}
use Rattle.mbim_proxy.specs.Known.{Known}
use Rattle.mbim_proxy.specs.OwnReplies.{view_decides}
use Rattle.mbim_proxy.specs.Step.{blank, known_from, known_now}
use Rattle.mbim_proxy.specs.ModemStates.{ModemState, IsOpening, is_own_open, is_own, is_ready, state}
use Rattle.mbim_proxy.specs.Lists.{open_ones, askers, waiting, list_of, merged, last_list, receivers}
use Rattle.mbim_proxy.specs.Forwarding.{wire, wire_of, own_open, own_subscribe, number_for, request_of}
use Rattle.mbim_proxy.specs.OwnList.{is_free, is_wanted, number_of_list}
use Rattle.mbim_proxy.specs.Clients.{command_message, opening_decision, decision_on, decision_for}

-- by functions that agree
map_same : {X Y : Type 0} (f g : X → Y) (xs : List X) → ((x : X) → f x ≡ g x) → map f xs ≡ map g xs
map_same f g [] same = refl
map_same f g (x ∷ xs) same = ap₂ (λ y rest. y ∷ rest) (same x) (map_same f g xs same)

state-told : (away : Bool) → IsTold (state away)
unfolding state substance
state-told away [] = refl
state-told away (Forwarded r ∷ past) = ap (λ (was : ModemState). if is_own_open r then IsOpening else was) (state-told away past)
state-told away (OpeningEnded status receivers ∷ past) = refl
state-told away (ModemLost ∷ past) = refl
state-told away (ModemReturned ∷ past) = refl
state-told away (Indicated m [] ∷ past) = state-told away past
state-told away (_ ∷ past) = state-told away past

list-told : IsTold last_list
unfolding last_list substance
list-told [] = refl
list-told (OpeningEnded status receivers ∷ past) = ap (λ (list : List Pair). if status == SUCCESS then starting_list else list) (list-told past)
list-told (ListSent list ∷ past) = refl
list-told (Indicated m [] ∷ past) = list-told past
list-told (_ ∷ past) = list-told past

askers-told : IsTold askers
unfolding askers substance
askers-told [] = refl
askers-told (Judged c place m Waits ∷ past) = ap (λ (names : List ℕ). without c names ++ c ∷ []) (askers-told past)
askers-told (Ended c why ∷ past) = ap (without c) (askers-told past)
askers-told (Indicated m [] ∷ past) = askers-told past
askers-told (_ ∷ past) = askers-told past

module _ (s : Setup) (a b : List Fact) (same : TellTheSame a b) where
  present_is : present a ≡ present b
  present_is = told present present-told a b same

  pub in_use_is : in_use a ≡ in_use b
  in_use_is = told in_use in_use-told a b same

  pub count_is : (c : ℕ) → message_count c a ≡ message_count c b
  count_is c = told (message_count c) (count-told c) a b same

  state_is : state s.starts_away a ≡ state s.starts_away b
  state_is = told (state s.starts_away) (state-told s.starts_away) a b same

  known_is : (c : ℕ) → known_now s c a ≡ known_now s c b
  known_is c = ap (known_from s) (told (view blank c) (view-told blank c) a b same)

  -- ---- clients together ----

  open_is : open_ones s a ≡ open_ones s b
  open_is =
      ap (filter (λ (c : ℕ). (known_now s c a).opened)) present_is
      ∙ filter_same (λ (c : ℕ). (known_now s c a).opened) (λ (c : ℕ). (known_now s c b).opened) (present b) (λ c. ap (λ (k : Known). k.opened) (known_is c))

  pub waiting_is : waiting s a ≡ waiting s b
  waiting_is =
      ap (filter (λ (c : ℕ). is_present c a && is_some (known_now s c a).waits)) (told askers askers-told a b same)
      ∙ filter_same (λ (c : ℕ). is_present c a && is_some (known_now s c a).waits) (λ (c : ℕ). is_present c b && is_some (known_now s c b).waits) (askers b)
      (λ c. ap₂ (λ (there waits : Bool). there && waits) (ap (contains c) present_is) (ap (λ (k : Known). is_some k.waits) (known_is c)))

  pub merged_is : merged s a ≡ merged s b
  merged_is = ap merge (ap (map (λ (c : ℕ). list_of s c a)) open_is ∙ map_same (λ (c : ℕ). list_of s c a) (λ (c : ℕ). list_of s c b) (open_ones s b) (λ c. ap (λ (k : Known). k.list) (known_is c)))

  pub receivers_are : (uuid : List ℕ) (cid : ℕ) → receivers s uuid cid a ≡ receivers s uuid cid b
  receivers_are uuid cid =
      ap (filter (λ (c : ℕ). wants (list_of s c a) uuid cid)) open_is
      ∙ filter_same (λ (c : ℕ). wants (list_of s c a) uuid cid) (λ (c : ℕ). wants (list_of s c b) uuid cid) (open_ones s b) (λ c. ap (λ (k : Known). wants k.list uuid cid) (known_is c))

  -- ---- numbers ----

  queue_is : modem_queue (wire s) a ≡ modem_queue (wire s) b
  queue_is = told (modem_queue (wire s)) (queue-told (wire s)) a b same

  next_is : next_number (s.limits.in_use the_space) (s.limits.top the_space) the_space a ≡ next_number (s.limits.in_use the_space) (s.limits.top the_space) the_space b
  next_is = told (next_number (s.limits.in_use the_space) (s.limits.top the_space) the_space) (next-told (s.limits.in_use the_space) (s.limits.top the_space) the_space) a b same

  pub number_is : (m : List ℕ) → number_for s m a ≡ number_for s m b
  number_is m = ap₂ (λ (queue : List ℕ) (number : Option ℕ). if nat_le (length queue + length (wire_of s 0 m)) s.limits.modem_outbox then number else None) queue_is next_is

  pub request_is : (c : ℕ) (m : List ℕ) (number : ℕ) → request_of s c m number a ≡ request_of s c m number b
  request_is c m number =
      let made : ℕ → ℕ → ℕ → Request = λ (forwards : ℕ) (count : ℕ) (time : ℕ). record { serial = forwards + 1; conn = c; place = count; space = the_space; number = number; message = m; deadline = deadline_of time s.time_limit } in
      ap₂ (λ (forwards : ℕ) (count : ℕ). made forwards count (now a)) (told forward_count forwards-told a b same) (count_is c)
      ∙ ap (made (forward_count b) (message_count c b)) (told now now-told a b same)

  -- ---- decisions ----

  decision_is : (known : Known) (m : List ℕ) → decision_on s known m a ≡ decision_on s known m b
  decision_is known m =
      ap (λ (d : Decision). if view_decides s known m then Replies Own else d)
      (ap₂ (λ (was : ModemState) (number : Option ℕ). if is_kind kind.Open m then opening_decision was number else forwards_under (number_for s (command_message s known m) a)) state_is (number_is (own_open s))
      ∙ ap (λ (number : Option ℕ). if is_kind kind.Open m then opening_decision (state s.starts_away b) (number_for s (own_open s) b) else forwards_under number) (number_is (command_message s known m)))

  share_is : (c : ℕ) → has_share s.limits.share c the_space a ≡ has_share s.limits.share c the_space b
  share_is c = told (has_share s.limits.share c the_space) (share-told s.limits.share c the_space) a b same

  pub choice_is : (known : Known) (c : ℕ) (m : List ℕ) → decision_for s known c m a ≡ decision_for s known c m b
  choice_is known c m =
      ap₂ (λ (passed : Bool) (d : Decision). if not (view_decides s known m) && not (is_kind kind.Open m) && passed then Replies Share else d) (share_is c) (decision_is known m)

  -- the number under which a list is sent
  free_is : is_free s a ≡ is_free s b
  free_is = ap₂ (λ (was : ModemState) (requests : List Request). is_ready was && not (list_any is_own requests)) state_is (told pending pending-told a b same)

  wanted_is : (list : List Pair) → is_wanted s list a ≡ is_wanted s list b
  wanted_is list = ap₂ (λ (free : Bool) (last : List Pair). free && not (is_same_list list last)) free_is (told last_list list-told a b same)

  pub list_number_is : (list : List Pair) → number_of_list s list a ≡ number_of_list s list b
  list_number_is list = ap₂ (λ (wanted : Bool) (number : Option ℕ). if wanted then number else None) (wanted_is list) (number_is (own_subscribe list))
