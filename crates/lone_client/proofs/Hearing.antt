-- What the modem's messages leave of an MBIM proxy with one client. Lists of facts have the newest first.
use Rattle.std.proofs.Common.{◌≡◌, ℕ, ◌+◌, ◌≤◌, Bool, true, false, not, ◌&&◌, ◌||◌, if◌then◌else◌, List, [], ◌∷◌, ◌++◌, length, Option, Some, None, refl, ap, ap₂, ◌∙◌, subst, is_some}
use Rattle.std.specs.List.{filter}
use Rattle.std.proofs.lemmas.Bool.{eq-eqb}
use Rattle.kit_bytes.specs.Services.{starting_list}
use Rattle.kit_bytes.specs.Indications.{wants}
use Rattle.mbim_frame.specs.Bodies.{uuid_of, cid_of}
use Rattle.mbim_frame.specs.Fragment.{body_of}
use Rattle.mbim_frame.specs.declared.status.TheConstants.{SUCCESS}
use Rattle.proxy_history.specs.Facts.{Fact, Request, Answered, Indicated, OpeningEnded}
use Rattle.proxy_history.specs.Connections.{contains}
use Rattle.proxy_history.specs.Requests.{in_use, is_pending, has_request, without_request}
use Rattle.proxy_history.specs.View.{Response, Indication, OpenedWith}
use Rattle.mbim_proxy.specs.Setup.{Setup}
use Rattle.mbim_proxy.specs.Known.{Known}
use Rattle.mbim_proxy.specs.ModemStates.{IsReady, is_own_open}
use Rattle.mbim_proxy.specs.Lists.{waiting, list_of, receivers}
use Rattle.mbim_proxy.specs.Step.{blank, step, known_now}
use Rattle.mbim_proxy.specs.Text.{text_as, note}
use Rattle.mbim_proxy.specs.FromModem.{Heard, IsDone, IsOpenDone, IsIndication, heard_as, opening_status, is_answered_by, first_answered_by, answer_or_late, respond, hear_as, hear_modem, end_opening}
use Rattle.mbim_solo.proofs.OneWaits as alone
use Rattle.lone_client.proofs.MbimCalm.{Scene, s, Calm, answered, answered_own, opened, indicated, noted, noted_own}

module _ (device : List ℕ) (time_limit : ℕ) where
  abbrev t : Setup
  t = s device time_limit

  abbrev At : Scene → List Fact → Type 0
  At x past = Calm device time_limit x past

  -- what is heard leaves it so
  pub record Hears (m : List ℕ) (past : List Fact) (after : Scene) : Type 0 where
    pub facts : List Fact
    pub is : hear_modem t m past ≡ facts
    pub calm : At after facts

  module _ (x : Scene) (r : Request) {past : List Fact} (calm : At (record x { requests = r ∷ []; queue = [] }) past) (m : List ℕ) where
    none_left : without_request r (r ∷ []) ≡ []
    none_left = ap (λ (b : Bool). if not b then r ∷ [] else []) (eq-eqb r.serial r.serial refl)

    pends : is_pending r past ≡ true
    pends = ap (has_request r) calm.pends ∙ ap (λ (b : Bool). b || false) (eq-eqb r.serial r.serial refl)

    found : (heard : Heard) → is_answered_by heard m r ≡ true → first_answered_by heard m (in_use past) ≡ Some r
    found heard answers = ap (first_answered_by heard m) calm.uses ∙ ap (λ (b : Bool). if b then Some r else None) answers

    -- ---- the answer to the client's command ----

    module _ (is : heard_as m ≡ IsDone) (answers : is_answered_by IsDone m r ≡ true) (command : is_own_open r ≡ false) where
      answered_so : hear_modem t m past ≡ note t (Answered r m) past
      answered_so =
          ap (λ (h : Heard). hear_as t h m past) is
          ∙ ap (λ (o : Option Request). respond t o m past) (found IsDone answers)
          ∙ ap (λ (b : Bool). answer_or_late t b r m past) pends
          ∙ ap (λ (b : Bool). if b then end_opening t (opening_status m) (note t (Answered r m) past) else note t (Answered r m) past) command

      abbrev answer_text : List ℕ
      answer_text = text_as t x.known (Response r.place (blank m))

      pub answer_is_heard : r.conn ≡ 1 → length x.waiting + length answer_text ≤ 262144
          → Hears m past (record x { known = step t x.known (Response r.place (blank m)); requests = []; queue = []; waiting = x.waiting ++ answer_text })
      answer_is_heard mine room =
          let after : At (record x { known = step t x.known (Response r.place (blank m)); requests = []; queue = []; waiting = x.waiting ++ answer_text }) (Answered r m ∷ past) =
          subst (λ (l : List Request). At (record x { known = step t x.known (Response r.place (blank m)); requests = l; queue = []; waiting = x.waiting ++ answer_text }) (Answered r m ∷ past)) none_left (answered device time_limit calm r m mine room) in
          record {
            facts = Answered r m ∷ past;
            is = answered_so ∙ noted device time_limit (Answered r m) past (ap (λ (c : ℕ). c ∷ []) mine) after.written.fits;
            calm = after;
          }

      -- to the proxy's own request to subscribe
      pub own_is_heard : r.conn ≡ 0 → Hears m past (record x { requests = []; queue = [] })
      own_is_heard own =
          let after : At (record x { requests = []; queue = [] }) (Answered r m ∷ past) =
          subst (λ (l : List Request). At (record x { requests = l; queue = [] }) (Answered r m ∷ past)) none_left (answered_own device time_limit calm r m own) in
          record {
            facts = Answered r m ∷ past;
            is = answered_so ∙ noted_own device time_limit (Answered r m) past (ap (λ (c : ℕ). c ∷ []) own) after.there;
            calm = after;
          }

    -- ---- the answer to the proxy's own request to open: the client is told ----

    module _ (is : heard_as m ≡ IsOpenDone) (answers : is_answered_by IsOpenDone m r ≡ true) (opens : is_own_open r ≡ true) (own : r.conn ≡ 0) (good : opening_status m ≡ SUCCESS) (waits : is_some x.known.waits ≡ true)
        (room : length x.waiting + length (text_as t x.known (OpenedWith SUCCESS)) ≤ 262144) where
      abbrev told : List Fact
      told = Answered r m ∷ past

      told_calm : At (record x { requests = []; queue = [] }) told
      told_calm = subst (λ (l : List Request). At (record x { requests = l; queue = [] }) told) none_left (answered_own device time_limit calm r m own)

      one_waits : waiting t told ≡ 1 ∷ []
      one_waits =
          alone.one_waits 1 t told (ap₂ (λ (there asks : Bool). there && asks) (ap (contains 1) told_calm.there) (ap (λ (k : Known). is_some k.waits) told_calm.knows ∙ waits))
          (λ d other. ap (λ (l : List ℕ). contains d l && is_some (known_now t d told).waits) told_calm.there ∙ ap (λ (b : Bool). (b || false) && is_some (known_now t d told).waits) other)

      pub opened_is_heard : Hears m past (record x { known = step t x.known (OpenedWith SUCCESS); modem = IsReady; listed = starting_list; requests = []; queue = []; waiting = x.waiting ++ text_as t x.known (OpenedWith SUCCESS) })
      opened_is_heard =
          let after = opened device time_limit told_calm room in
          record {
            facts = OpeningEnded SUCCESS (1 ∷ []) ∷ told;
            is =
                ap (λ (h : Heard). hear_as t h m past) is
                ∙ ap (λ (o : Option Request). respond t o m past) (found IsOpenDone answers)
                ∙ ap (λ (b : Bool). answer_or_late t b r m past) pends
                ∙ ap (λ (b : Bool). if b then end_opening t (opening_status m) (note t (Answered r m) past) else note t (Answered r m) past) opens
                ∙ ap (λ (l : List Fact). end_opening t (opening_status m) l) (noted_own device time_limit (Answered r m) past (ap (λ (c : ℕ). c ∷ []) own) told_calm.there)
                ∙ ap (λ (status : ℕ). end_opening t status told) good
                ∙ ap (λ (l : List ℕ). note t (OpeningEnded SUCCESS l) told) one_waits
                ∙ noted device time_limit (OpeningEnded SUCCESS (1 ∷ [])) told refl after.written.fits;
            calm = after;
          }

  -- ---- an indication to which the client listens ----

  module _ (x : Scene) {past : List Fact} (calm : At x past) (m : List ℕ) (is : heard_as m ≡ IsIndication) (open_is : x.known.opened ≡ true) (listens : wants x.known.list (uuid_of (body_of m)) (cid_of (body_of m)) ≡ true)
      (room : length x.waiting + length (text_as t x.known (Indication (blank m))) ≤ 262144) where
    one_listens : receivers t (uuid_of (body_of m)) (cid_of (body_of m)) past ≡ 1 ∷ []
    one_listens =
        ap (λ (l : List ℕ). filter (λ c. wants (list_of t c past) (uuid_of (body_of m)) (cid_of (body_of m))) (filter (λ c. (known_now t c past).opened) l)) calm.there
        ∙ ap (λ (k : Known). filter (λ c. wants (list_of t c past) (uuid_of (body_of m)) (cid_of (body_of m))) (if k.opened then 1 ∷ [] else [])) calm.knows
        ∙ ap (λ (b : Bool). filter (λ c. wants (list_of t c past) (uuid_of (body_of m)) (cid_of (body_of m))) (if b then 1 ∷ [] else [])) open_is
        ∙ ap (λ (k : Known). if wants k.list (uuid_of (body_of m)) (cid_of (body_of m)) then 1 ∷ [] else []) calm.knows
        ∙ ap (λ (b : Bool). if b then 1 ∷ [] else []) listens

    pub indication_is_heard : Hears m past (record x { known = step t x.known (Indication (blank m)); waiting = x.waiting ++ text_as t x.known (Indication (blank m)) })
    indication_is_heard =
        let after = indicated device time_limit calm (blank m) room in
        record {
          facts = Indicated (blank m) (1 ∷ []) ∷ past;
          is = ap (λ (h : Heard). hear_as t h m past) is ∙ ap (λ (l : List ℕ). note t (Indicated (blank m) l) past) one_listens ∙ noted device time_limit (Indicated (blank m) (1 ∷ [])) past refl after.written.fits;
          calm = after;
        }
