-- Where the one client has closed, the proxy asks the modem to tell nothing any more. Lists of facts have the newest first.
use Rattle.std.proofs.Common.{◌≡◌, ℕ, Bool, true, false, if◌then◌else◌, List, [], ◌∷◌, Option, None, refl, ap, sym, ◌∙◌, lit≤}
use Rattle.kit_bytes.specs.Subscriptions.{Pair, merge}
use Rattle.proxy_history.specs.Facts.{Fact, Request, Forwarded, ListSent}
use Rattle.mbim_proxy.specs.Setup.{Setup}
use Rattle.mbim_proxy.specs.Lists.{merged}
use Rattle.mbim_proxy.specs.Forwarding.{own_subscribe, wire, number_for, request_of}
use Rattle.mbim_proxy.specs.OwnList.{finish, is_wanted, number_of_list, send_under}
use Rattle.lone_client.specs.Turns as turns
use Rattle.lone_client.proofs.MbimCalm.{Scene, s, Calm, forwarded, listed_now}
use Rattle.lone_client.proofs.Saying.{wants_list, merged_is, wanted_is}
use Rattle.lone_client.proofs.Forwarding.{number_is}

module _ (device : List ℕ) (time_limit : ℕ) where
  abbrev t : Setup
  t = s device time_limit

  abbrev At : Scene → List Fact → Type 0
  At x past = Calm device time_limit x past

  module _ (x : Scene) {past : List Fact} (calm : At (record x { requests = []; queue = [] }) past) (closed : x.known.opened ≡ false) (wants : wants_list (record x { requests = []; queue = [] }) ≡ true) where
    abbrev given : ℕ
    given = turns.number_after x.last

    abbrev pub own : Request
    own = request_of t 0 (own_subscribe []) given past

    nothing_merged : merged t past ≡ []
    nothing_merged = merged_is device time_limit calm ∙ ap (λ (b : Bool). merge (if b then x.known.list ∷ [] else [])) closed

    wanted : is_wanted t [] past ≡ true
    wanted = ap (λ (l : List Pair). is_wanted t l past) (sym nothing_merged) ∙ wanted_is device time_limit calm ∙ wants

    pub closes : finish t past ≡ ListSent [] ∷ Forwarded own ∷ past
    closes =
        ap (λ (l : List Pair). send_under t l (number_of_list t l past) past) nothing_merged
        ∙ ap (λ (b : Bool). send_under t [] (if b then number_for t (own_subscribe []) past else None) past) wanted
        ∙ ap (λ (o : Option ℕ). send_under t [] o past) (number_is device time_limit (record x { requests = []; queue = [] }) refl refl calm (own_subscribe []) (lit≤ tt))

    pub closed_calm : At (record x { listed = []; requests = own ∷ []; last = given; queue = wire t own }) (ListSent [] ∷ Forwarded own ∷ past)
    closed_calm = listed_now device time_limit (forwarded device time_limit calm own refl) []
