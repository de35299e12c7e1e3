-- What a client that is alone behind an MBIM proxy has the modem asked. Lists of facts have the newest first.
use Rattle.std.proofs.Common.{◌≡◌, ℕ, ◌+◌, ◌-◌, ◌≤◌, ◌^◌, Bool, true, false, not, ◌&&◌, nat_le, if◌then◌else◌, List, [], ◌∷◌, length, Option, Some, None, refl, ap, ◌∙◌, arith, lit≤}
use Rattle.std.proofs.lemmas.Bool.Decides.{nat_tests}
use Rattle.mbim_frame.specs.Head.{is_kind, number_of}
use Rattle.mbim_frame.specs.Kinds.{kind_number}
use Rattle.mbim_frame.specs.Writing.{unsplit}
use Rattle.mbim_frame.specs.declared.kind.MessageKind.TheVariants.{Open, Command}
use Rattle.mbim_fragments.specs.Runs.{Joining, Whole}
use Rattle.mbim_fragments.specs.Assembling.{joining_behind}
use Rattle.proxy_history.specs.Items.{Says}
use Rattle.proxy_history.specs.Facts.{Fact, Request, Forward, Waits, Own, Share, Judged, Forwarded}
use Rattle.proxy_history.specs.Decision.{Decision, Replies, forwards_under}
use Rattle.proxy_history.specs.Connections.{message_count}
use Rattle.proxy_history.specs.Requests.{in_use, last_number, of_space, of_client, has_share, numbers_of, number_after, free_from}
use Rattle.proxy_history.specs.View.{Said}
use Rattle.mbim_proxy.specs.Setup.{Setup}
use Rattle.mbim_proxy.specs.ModemStates.{ModemState, IsShut, IsOpening, state}
use Rattle.mbim_proxy.specs.OwnReplies.{view_decides, is_open_request, is_for_modem, may_open}
use Rattle.mbim_proxy.specs.Forwarding.{own_open, wire, wire_of, has_room, number_for, request_of, forward}
use Rattle.mbim_proxy.specs.Clients.{command_message, opening_decision, decision_for, decision_on, shared_decision, judge, forward_for}
use Rattle.mbim_proxy.specs.Step.{step, whole_body}
use Rattle.lone_client.specs.Turns as turns
use Rattle.lone_client.proofs.MbimCalm.{Scene, s, Calm, queue_is, judged, forwarded}
use Rattle.lone_client.proofs.Saying.{IsFragment, add, added}

-- nobody waits for anything
abbrev pub idle : Scene → Scene
idle x = record x { requests = []; queue = []; waiting = [] }

module _ (device : List ℕ) (time_limit : ℕ) where
  abbrev t : Setup
  t = s device time_limit

  abbrev At : Scene → List Fact → Type 0
  At x past = Calm device time_limit x past

  module _ (x : Scene) {past : List Fact} (none : x.requests ≡ []) (empty : x.queue ≡ []) (calm : At x past) where
    -- the number that a request gets for which there is room
    pub number_is : (m : List ℕ) → length (wire_of t 0 m) ≤ 1048576 → number_for t m past ≡ Some (turns.number_after x.last)
    unfolding free_from
    number_is m room =
        let fits : has_room t m past ≡ true = ap (λ (l : List ℕ). nat_le (length l + length (wire_of t 0 m)) 1048576) (queue_is device time_limit calm ∙ empty) ∙ small (length (wire_of t 0 m)) room in
        ap (λ (b : Bool). if b then number_after 256 (2 ^ 32 - 1) (last_number 0 past) (numbers_of (of_space 0 (in_use past))) else None) fits
        ∙ ap (λ (l : List Request). number_after 256 (2 ^ 32 - 1) (last_number 0 past) (numbers_of (of_space 0 l))) (calm.uses ∙ none)
        ∙ ap (λ (n : ℕ). number_after 256 (2 ^ 32 - 1) n []) calm.last_is
      where
        small : (n : ℕ) → n ≤ 1048576 → nat_le (0 + n) 1048576 ≡ true
        small n room = grind (arith, nat_tests)

  module _ (x : Scene) {past : List Fact} (calm : At (idle x) past) where
    abbrev given : ℕ
    given = turns.number_after x.last

    -- no request of the client waits
    none_waits : has_share t.limits.share 1 0 past ≡ false
    none_waits = ap (λ (l : List Request). nat_le 16 (length (of_client 1 0 l))) calm.pends

    unshared : (m : List ℕ) → view_decides t x.known m ≡ false → decision_for t x.known 1 m past ≡ shared_decision t x.known m past
    unshared m shared =
        ap (λ (b : Bool). if not (view_decides t x.known m) && not (is_kind Open m) && b then Replies Share else decision_on t x.known m past) none_waits
        ∙ ap (λ (b : Bool). if b then Replies Share else decision_on t x.known m past) (and_false (not (view_decides t x.known m) && not (is_kind Open m)))
        ∙ ap (λ (b : Bool). if b then Replies Own else shared_decision t x.known m past) shared
      where
        and_false : (b : Bool) → (b && false) ≡ false
        and_false true = refl
        and_false false = refl

    -- ---- a command that this fragment completes ----

    module _ (m body : List ℕ) (is : IsFragment m) (whole : joining_behind 65536 x.known.begun m ≡ Whole body) (meant : is_for_modem x.known (Whole body) ≡ true) where
      abbrev asked : List ℕ
      asked = unsplit (kind_number Command) (number_of m) body

      asked_is : command_message t x.known m ≡ asked
      asked_is = ap (λ (j : Joining). unsplit (kind_number Command) (number_of m) (whole_body j)) whole

      command_shared : view_decides t x.known m ≡ false
      command_shared = rw (is.no_open, is.fragment, whole, meant) refl

      abbrev asks : List Fact
      asks = Judged 1 (message_count 1 past + 1) m Forward ∷ past

      abbrev pub request : Request
      request = request_of t 1 asked given asks

      module _ (room : length (wire_of t 0 asked) ≤ 1048576) where
        pub command_is_said : add device time_limit (Says 1 m) past ≡ Forwarded request ∷ asks
        command_is_said =
            added device time_limit calm m
            ∙ ap (λ (d : Decision). judge t x.known 1 m d past) (unshared m command_shared)
            ∙ ap (λ (b : Bool). judge t x.known 1 m (if b then opening_decision (state false past) (number_for t (own_open t) past) else forwards_under (number_for t (command_message t x.known m) past)) past) is.no_opening
            ∙ ap (λ (l : List ℕ). judge t x.known 1 m (forwards_under (number_for t l past)) past) asked_is
            ∙ ap (λ (o : Option ℕ). judge t x.known 1 m (forwards_under o) past) (number_is (idle x) refl refl calm asked room)
            ∙ ap (λ (b : Bool). forward_for b t x.known 1 m given past) is.no_opening
            ∙ ap (λ (l : List ℕ). forward t 1 l given asks) asked_is

        pub command_calm : At (record x { known = step t x.known (Said m Forward); requests = request ∷ []; last = given; queue = wire t request; waiting = [] }) (Forwarded request ∷ asks)
        command_calm = forwarded device time_limit (judged device time_limit calm (message_count 1 past + 1) m Forward (omega arith)) request refl

    -- ---- the request to open, where the modem isn't open yet: the proxy asks it by itself ----

    module _ (m : List ℕ) (opens : is_open_request m ≡ true) (kind_is : is_kind Open m ≡ true) (may : may_open x.known ≡ true) (shut : x.modem ≡ IsShut) where
      open_shared : view_decides t x.known m ≡ false
      open_shared = rw (opens, may) refl

      abbrev waits : List Fact
      waits = Judged 1 (message_count 1 past + 1) m Waits ∷ past

      abbrev pub opening : Request
      opening = request_of t 0 (own_open t) given waits

      pub open_is_said : add device time_limit (Says 1 m) past ≡ Forwarded opening ∷ waits
      open_is_said =
          added device time_limit calm m
          ∙ ap (λ (d : Decision). judge t x.known 1 m d past) (unshared m open_shared)
          ∙ ap (λ (b : Bool). judge t x.known 1 m (if b then opening_decision (state false past) (number_for t (own_open t) past) else forwards_under (number_for t (command_message t x.known m) past)) past) kind_is
          ∙ ap (λ (st : ModemState). judge t x.known 1 m (opening_decision st (number_for t (own_open t) past)) past) (calm.modem_is ∙ shut)
          ∙ ap (λ (o : Option ℕ). judge t x.known 1 m (forwards_under o) past) (number_is (idle x) refl refl calm (own_open t) (lit≤ tt))
          ∙ ap (λ (b : Bool). forward_for b t x.known 1 m given past) kind_is

      pub open_calm : At (record x { known = step t x.known (Said m Waits); modem = IsOpening; requests = opening ∷ []; last = given; queue = wire t opening; waiting = [] }) (Forwarded opening ∷ waits)
      open_calm = forwarded device time_limit (judged device time_limit calm (message_count 1 past + 1) m Waits (omega arith)) opening refl
