-- Messages of a client that is alone behind an MBIM proxy: those that leave a command open, and those that its own view decides. Lists of facts have the newest first.
use Rattle.std.proofs.Common.{◌≡◌, ℕ, suc, ◌+◌, ◌≤◌, Bool, true, false, not, ◌&&◌, nat_lt, if◌then◌else◌, List, [], ◌∷◌, ◌++◌, length, map, replicate, None, refl, ap, sym, ◌∙◌, arith, subst, append_assoc, append-nil}
use Rattle.std.specs.List.{AllByRecursion, list_any, filter}
use Rattle.kit_bytes.specs.Subscriptions.{Pair, merge}
use Rattle.mbim_services.specs.SubscribeLists.{is_same_list}
use Rattle.mbim_frame.specs.Head.{is_kind, number_of}
use Rattle.mbim_frame.specs.Numbers.{u32_at}
use Rattle.mbim_frame.specs.declared.kind.MessageKind.TheVariants.{Open, Close, Command, HostError}
use Rattle.mbim_fragments.specs.Runs.{Joining, More, Whole, joining, run_after, run_with, joinings_from}
use Rattle.mbim_fragments.specs.Assembling.{Assembled, assembled_of, joining_behind, assembled_after}
use Rattle.mbim_fragments.proofs.Standing.{assemblies_stand_for_runs}
use Rattle.proxy_history.specs.Items.{Item, Says}
use Rattle.proxy_history.specs.Facts.{Fact, Request, Own, Share, Judged}
use Rattle.proxy_history.specs.Decision.{Replies}
use Rattle.proxy_history.specs.Connections.{contains, message_count}
use Rattle.proxy_history.specs.Requests.{pending, has_share}
use Rattle.proxy_history.specs.View.{Said}
use Rattle.proxy_history.specs.History as proxy
use Rattle.mbim_proxy.specs.Setup.{Setup, fragment_for}
use Rattle.mbim_proxy.specs.Known.{Known}
use Rattle.mbim_proxy.specs.ModemStates.{ModemState, is_ready, is_own}
use Rattle.mbim_proxy.specs.Lists.{last_list, merged, list_of}
use Rattle.mbim_proxy.specs.OwnReplies.{OwnReply, Silent, own_reply, view_decides, is_open_request, is_command_fragment, reply_to_joining}
use Rattle.mbim_proxy.specs.OwnList.{finish, is_wanted, send_under}
use Rattle.mbim_proxy.specs.Forwarding.{own_subscribe, number_for}
use Rattle.mbim_proxy.specs.Clients.{shared_decision, judge, hear_client}
use Rattle.mbim_proxy.specs.Step.{step, known_now, with_message, with_reply}
use Rattle.mbim_proxy.specs.Text.{text_as, reply_text}
use Rattle.mbim_proxy.specs.History.{mbim_protocol}
use Rattle.lone_client.proofs.MbimCalm.{Scene, s, Calm, with_entry, judged, noted}

-- one of the fragments of a command
pub record IsFragment (f : List ℕ) : Type 0 where
  pub fragment : is_command_fragment f ≡ true
  pub no_open : is_open_request f ≡ false
  pub no_error : is_kind HostError f ≡ false
  pub no_opening : is_kind Open f ≡ false
  pub no_close : is_kind Close f ≡ false
  pub command : is_kind Command f ≡ true
  pub long : nat_lt (length f) 20 ≡ false

first_of : (a b : Joining) (xs ys : List Joining) → a ∷ xs ≡ b ∷ ys → a ≡ b
first_of a b xs ys is = cc

rest_of : (a b : Joining) (xs ys : List Joining) → a ∷ xs ≡ b ∷ ys → xs ≡ ys
rest_of a b xs ys is = cc

-- the modem is open, no request of the proxy itself waits, and the list of those that are open isn't the one that it was asked for
abbrev pub wants_list : Scene → Bool
wants_list x = is_ready x.modem && not (list_any is_own x.requests) && not (is_same_list (merge (if x.known.opened then x.known.list ∷ [] else [])) x.listed)

-- a client that sent so many messages more, and has this command open
abbrev pub more_sent : Known → (count : ℕ) → Assembled → Known
more_sent known count begun = record known { sent = known.sent + count; begun = begun }

module _ (device : List ℕ) (time_limit : ℕ) where
  abbrev t : Setup
  t = s device time_limit

  abbrev At : Scene → List Fact → Type 0
  At x past = Calm device time_limit x past

  -- ---- the end of an event ----

  pub merged_is : {x : Scene} {past : List Fact} → At x past → merged t past ≡ merge (if x.known.opened then x.known.list ∷ [] else [])
  merged_is {x} {past} calm =
      ap (λ (l : List ℕ). merge (map (λ c. list_of t c past) (filter (λ c. (known_now t c past).opened) l))) calm.there
      ∙ ap (λ (k : Known). merge (map (λ c. list_of t c past) (if k.opened then 1 ∷ [] else []))) calm.knows
      ∙ by
    where
      by : merge (map (λ c. list_of t c past) (if x.known.opened then 1 ∷ [] else [])) ≡ merge (if x.known.opened then x.known.list ∷ [] else [])
      by = elim x.known.opened as (λ b. merge (map (λ c. list_of t c past) (if b then 1 ∷ [] else [])) ≡ merge (if b then x.known.list ∷ [] else [])) [
        | true ↦ ap (λ (k : Known). merge (k.list ∷ [])) calm.knows
        | false ↦ refl
      ]

  pub wanted_is : {x : Scene} {past : List Fact} → At x past → is_wanted t (merged t past) past ≡ wants_list x
  wanted_is {x} {past} calm =
      ap (λ (m : ModemState). is_ready m && not (list_any is_own (pending past)) && not (is_same_list (merged t past) (last_list past))) calm.modem_is
      ∙ ap (λ (l : List Request). is_ready x.modem && not (list_any is_own l) && not (is_same_list (merged t past) (last_list past))) calm.pends
      ∙ ap (λ (l : List Pair). is_ready x.modem && not (list_any is_own x.requests) && not (is_same_list l (last_list past))) (merged_is calm)
      ∙ ap (λ (l : List Pair). is_ready x.modem && not (list_any is_own x.requests) && not (is_same_list (merge (if x.known.opened then x.known.list ∷ [] else [])) l)) calm.listed_is

  -- the proxy asks for no list
  pub finish_rests : {x : Scene} {past : List Fact} → At x past → wants_list x ≡ false → finish t past ≡ past
  finish_rests {x} {past} calm rests =
      ap (λ (b : Bool). send_under t (merged t past) (if b then number_for t (own_subscribe (merged t past)) past else None) past) (wanted_is calm ∙ rests)

  -- ---- a message that the client's own view decides ----

  pub add : Item → List Fact → List Fact
  add item past = proxy.add (mbim_protocol t) item past

  module _ {x : Scene} {past : List Fact} (calm : At x past) (m : List ℕ) where
    pub added : add (Says 1 m) past ≡ hear_client t x.known 1 m past
    unfolding add
    added =
        ap (λ (l : List ℕ). if contains 1 l then hear_client t (known_now t 1 past) 1 m past else past) calm.there
        ∙ ap (λ (k : Known). hear_client t k 1 m past) calm.knows

    abbrev pub said_own : List Fact
    said_own = Judged 1 (message_count 1 past + 1) m Own ∷ past

    pub own_calm : length x.waiting + length (text_as t x.known (Said m Own)) ≤ 262144 → At (with_entry device time_limit calm (Said m Own)) said_own
    own_calm room = judged device time_limit calm (message_count 1 past + 1) m Own room

    pub own_is_said : view_decides t x.known m ≡ true → length x.waiting + length (text_as t x.known (Said m Own)) ≤ 262144 → add (Says 1 m) past ≡ said_own
    own_is_said decides room =
        added
        ∙ ap (λ (b : Bool). judge t x.known 1 m (if not b && not (is_kind Open m) && has_share t.limits.share 1 0 past then Replies Share else if b then Replies Own else shared_decision t x.known m past) past) decides
        ∙ noted device time_limit (Judged 1 (message_count 1 past + 1) m Own) past refl (own_calm room).written.fits

  -- ---- fragments that leave a command open ----

  silent_decides : (known : Known) (f : List ℕ) → IsFragment f → joining_behind 65536 known.begun f ≡ More → view_decides t known f ≡ true
  silent_decides known f is more = rw (is.no_open, more) (elim (is_command_fragment f) as (λ b. not (b && false) ≡ true) [ true ↦ refl | false ↦ refl ])

  silent_reply : (known : Known) (f : List ℕ) → IsFragment f → joining_behind 65536 known.begun f ≡ More → own_reply t known f ≡ Silent
  silent_reply known f is more = rw (is.no_error, is.no_opening, is.no_close, is.command, is.long) (ap (reply_to_joining t known) more)

  abbrev pub add_says : List (List ℕ) → List Fact → List Fact
  add_says ms past = proxy.add_all (mbim_protocol t) (map (λ m. Says 1 m) ms) past

  said_first : (f : List ℕ) (ms : List (List ℕ)) (past : List Fact) → add_says (f ∷ ms) past ≡ add_says ms (add (Says 1 f) past)
  unfolding add proxy.add_all
  said_first f ms past = refl

  pub said_one : (f : List ℕ) (past : List Fact) → add_says (f ∷ []) past ≡ add (Says 1 f) past
  unfolding add proxy.add_all
  said_one f past = refl

  pub record Begun (x : Scene) (run fs : List (List ℕ)) (last_one body : List ℕ) (past : List Fact) (rest : List (List ℕ)) : Type 0 where
    pub then_past : List Fact
    pub is : add_says (fs ++ rest) past ≡ add_says rest then_past
    pub calm : At (record x { known = more_sent x.known (length fs) (assembled_of (run ++ fs)) }) then_past
    pub whole : joining_behind 65536 (assembled_of (run ++ fs)) last_one ≡ Whole body

  silent_step : (known : Known) (f : List ℕ) (run : List (List ℕ)) → known.begun ≡ assembled_of run → IsFragment f → joining 65536 run f ≡ More → step t known (Said f Own) ≡ more_sent known 1 (assembled_of (run ++ f ∷ []))
  silent_step known f run begun is more =
      let stands = assemblies_stand_for_runs 65536 run f in
      let same : joining_behind 65536 known.begun f ≡ More = ap (λ (a : Assembled). joining_behind 65536 a f) begun ∙ stands.joining_is ∙ more in
      let after : assembled_after 65536 known.begun f ≡ assembled_of (run ++ f ∷ []) = ap (λ (a : Assembled). assembled_after 65536 a f) begun ∙ stands.left ∙ ap (λ (j : Joining). assembled_of (run_with run f j)) more in
      ap (λ (r : OwnReply). with_reply r (with_message t f known)) (silent_reply known f is same)
      ∙ ap (λ (b : Bool). let k : Known = record known { sent = known.sent + 1; begun = if b then assembled_after 65536 known.begun f else known.begun; fragment = if is_open_request f then fragment_for t (u32_at f 12) else known.fragment } in k) is.fragment
      ∙ ap (λ (b : Bool). let k : Known = record known { sent = known.sent + 1; begun = assembled_after 65536 known.begun f; fragment = if b then fragment_for t (u32_at f 12) else known.fragment } in k) is.no_open
      ∙ ap (λ (a : Assembled). more_sent known 1 a) after

  abbrev with_known : Scene → Known → Scene
  with_known x known = record x { known = known }

  pub begins : (fs : List (List ℕ)) (run : List (List ℕ)) (last_one body : List ℕ) (rest : List (List ℕ)) {x : Scene} {past : List Fact} → At x past
      → x.known.begun ≡ assembled_of run → AllByRecursion IsFragment fs → length x.waiting ≤ 262144 → joinings_from 65536 run (fs ++ last_one ∷ []) ≡ replicate (length fs) More ++ Whole body ∷ []
      → Begun x run fs last_one body past rest
  unfolding joinings_from
  begins [] run last_one body rest {x = x} {past = past} calm begun all room are =
      let stands = assemblies_stand_for_runs 65536 run last_one in
      let nothing : run ++ [] ≡ run = append-nil run in
      let known : Known = x.known in
      record {
        then_past = past;
        is = refl;
        calm = subst (λ (k : Known). At (with_known x k) past) (sym (ap (λ (l : List (List ℕ)). more_sent known 0 (assembled_of l)) nothing ∙ ap (λ (n : ℕ). let k : Known = record known { sent = n; begun = assembled_of run } in k) (let zero_more : known.sent + 0 ≡ known.sent = omega arith in zero_more) ∙ ap (λ (a : Assembled). let k : Known = record known { begun = a } in k) (sym begun))) calm;
        whole = ap (λ (l : List (List ℕ)). joining_behind 65536 (assembled_of l) last_one) nothing ∙ stands.joining_is ∙ first_of (joining 65536 run last_one) (Whole body) _ _ are;
      }
  begins (f ∷ fs) run last_one body rest {x = x} {past = past} calm begun all room are =
      let known : Known = x.known in
      let more : joining 65536 run f ≡ More = first_of (joining 65536 run f) More (joinings_from 65536 (run_after 65536 run f) (fs ++ last_one ∷ [])) (replicate (length fs) More ++ Whole body ∷ []) are in
      let left : joinings_from 65536 (run_after 65536 run f) (fs ++ last_one ∷ []) ≡ replicate (length fs) More ++ Whole body ∷ [] = rest_of (joining 65536 run f) More _ _ are in
      let after : run_after 65536 run f ≡ run ++ f ∷ [] = ap (run_with run f) more in
      let then_are : joinings_from 65536 (run ++ f ∷ []) (fs ++ last_one ∷ []) ≡ replicate (length fs) More ++ Whole body ∷ [] = ap (λ (r : List (List ℕ)). joinings_from 65536 r (fs ++ last_one ∷ [])) (sym after) ∙ left in
      let stands = assemblies_stand_for_runs 65536 run f in
      let same : joining_behind 65536 known.begun f ≡ More = ap (λ (a : Assembled). joining_behind 65536 a f) begun ∙ stands.joining_is ∙ more in
      let text_is : text_as t known (Said f Own) ≡ [] = ap (reply_text known (number_of f)) (silent_reply known f all.0 same) in
      let fits : length x.waiting + length (text_as t known (Said f Own)) ≤ 262144 = (let none : length (text_as t known (Said f Own)) ≡ 0 = ap length text_is in omega (arith, none, room)) in
      let said : add (Says 1 f) past ≡ Judged 1 (message_count 1 past + 1) f Own ∷ past = own_is_said calm f (silent_decides known f all.0 same) fits in
      let next_known : Known = more_sent known 1 (assembled_of (run ++ f ∷ [])) in
      let next : At (with_known x next_known) (Judged 1 (message_count 1 past + 1) f Own ∷ past) =
      subst (λ (k : Known). At (with_known x k) (Judged 1 (message_count 1 past + 1) f Own ∷ past)) (silent_step known f run begun all.0 more)
      (subst (λ (w : List ℕ). At (record x { known = step t known (Said f Own); waiting = w }) (Judged 1 (message_count 1 past + 1) f Own ∷ past)) (ap (λ (l : List ℕ). x.waiting ++ l) text_is ∙ append-nil x.waiting) (own_calm calm f fits)) in
      let later = begins fs (run ++ f ∷ []) last_one body rest next refl all.1 room then_are in
      let joined : (run ++ f ∷ []) ++ fs ≡ run ++ f ∷ fs = append_assoc run (f ∷ []) fs in
      record {
        then_past = later.then_past;
        is = said_first f (fs ++ rest) past ∙ ap (add_says (fs ++ rest)) said ∙ later.is;
        calm = subst (λ (k : Known). At (with_known x k) later.then_past) (ap (λ (l : List (List ℕ)). more_sent next_known (length fs) (assembled_of l)) joined ∙ ap (λ (n : ℕ). let k : Known = record known { sent = n; begun = assembled_of (run ++ f ∷ fs) } in k) (let counts : known.sent + 1 + length fs ≡ known.sent + suc (length fs) = omega arith in counts)) later.calm;
        whole = ap (λ (l : List (List ℕ)). joining_behind 65536 (assembled_of l) last_one) (sym joined) ∙ later.whole;
      }
