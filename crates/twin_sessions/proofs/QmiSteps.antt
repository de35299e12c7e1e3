-- One request of a tool, at a modem itself and through a proxy whose one client the tool is.
use Rattle.std.proofs.Common.{◌≡◌, ℕ, ◌<◌, ◌≤◌, Bool, true, false, ◌&&◌, ◌||◌, ◌==◌, ◌%◌, ◌/◌, ◌^◌, if◌then◌else◌, List, [], ◌∷◌, ◌++◌, length, reverse, Some, None, refl, ap, sym, ◌∙◌, arith, subst, append-nil}
use Rattle.std.specs.List.{concat}
use Rattle.std.proofs.lemmas.Bool.{eq-eqb}
use Rattle.std.proofs.lemmas.List.{reverse-append}
use Rattle.framing.specs.Framing.{IsMessage}
use Rattle.framing.specs.Cutting.{cut}
use Rattle.qmux_frame.specs.declared.head.Head.{Head}
use Rattle.qmux_frame.specs.declared.writing.NewMessage.{NewMessage}
use Rattle.qmux_frame.specs.declared.kind.MessageKind.TheVariants as kind
use Rattle.qmux_frame.specs.Frame.{size_of}
use Rattle.qmux_frame.specs.Framing.{size_of-kept, size_of-positive}
use Rattle.qmux_frame.specs.Head.{service_of, cid_of, number_of, is_framed, tlvs_in}
use Rattle.qmux_frame.specs.Kind.{framed_kind, kind_of, kind_by, flags_for, is_response}
use Rattle.qmux_frame.specs.Reply.{with_number, result_reply}
use Rattle.qmux_frame.specs.Writing.{message_text}
use Rattle.qmux_frame.proofs.Written.{written_is_read}
use Rattle.link_session.specs.declared.waiting.Meaning.TheVariants as meaning
use Rattle.link_session.specs.declared.fault.SessionFault.{SessionFault}
use Rattle.link_session.specs.Marks.{Placed}
use Rattle.link_session.specs.Peer.{Peer, Talk, Finish, ask_then, reply_to}
use Rattle.device_core.specs.Requests.{Request, asked, message_of, answers, wanted_by}
use Rattle.device_core.specs.Peer.{LastWord}
use Rattle.qmi_services.specs.Requests.{row_of}
use Rattle.proxy_history.specs.Coming.{piece_limit}
use Rattle.proxy_history.specs.Requests.{following}
use Rattle.qmi_proxy.specs.Setup.{Setup}
use Rattle.qmi_proxy.specs.Spaces.{space_of, top_of}
use Rattle.qmi_proxy.specs.OwnReplies.{view_decides, own_error, is_opening}
use Rattle.proxy_history.specs.Facts.{Own}
use Rattle.lone_client.specs.Relay.{Answering, Cast, sent_for, asked_then, reply, ask, relayed, asked_by, to_newest, through, directly}
use Rattle.lone_client.specs.QmiLaw.{cast_of}
use Rattle.lone_client.proofs.Rounds.{Stands, Exchanged, one_message, own_exchange, forward_exchange}
use Rattle.lone_client.proofs.QmiServed.{message_long}
use Rattle.twin_sessions.specs.QmiServing.{Answers}
use Rattle.twin_sessions.proofs.Asking.{IsWhole, IsAnsweredBy, goes_on, one_said, answered_by_one}
use Rattle.twin_sessions.proofs.QmiMessages.{with_number_is, is_read}

-- ---- what is written ----

-- a response of this kind
response_kind : (service : ℕ) → kind_by service (flags_for service kind.Response) ≡ kind.Response
response_kind service = elim (service == 0) as (λ b. (let flags : ℕ = 2 ^ (if b then 0 else 1) in if (flags / 2 ^ (if b then 0 else 1) % 2 == 1) then kind.Response else if (flags / 2 ^ (if b then 1 else 2) % 2 == 1) then kind.Indication else kind.Request) ≡ kind.Response) [ true ↦ refl | false ↦ refl ]

pub record IsResponse (h : NewMessage) (tlvs : List ℕ) : Type 0 where
  pub is_message : IsMessage size_of (message_text h tlvs)
  pub framed : is_framed (message_text h tlvs) ≡ true
  pub kind_is : framed_kind (message_text h tlvs) ≡ Some kind.Response
  pub tlvs_are : tlvs_in (message_text h tlvs) ≡ tlvs
  pub service : service_of (message_text h tlvs) ≡ h.service
  pub cid : cid_of (message_text h tlvs) ≡ h.cid
  pub number : number_of (message_text h tlvs) ≡ h.number
  pub response : is_response (kind_of (message_text h tlvs)) ≡ true

pub is_response_text : (h : NewMessage) (tlvs : List ℕ) → h.flags ≡ flags_for h.service kind.Response → IsResponse h tlvs
is_response_text h tlvs flags =
    let read = written_is_read h tlvs in
    let x : List ℕ = message_text h tlvs in
    let framed : is_framed x ≡ true = ap (λ (a : Head). a.framed) read.head in
    let kinds : kind_of x ≡ kind.Response = ap (λ (a : Head). kind_by a.service a.flags) read.head ∙ ap (kind_by h.service) flags ∙ response_kind h.service in
    record {
      is_message = read.whole;
      framed = framed;
      kind_is = ap (λ (b : Bool). if b then Some (kind_of x) else None) framed ∙ ap Some kinds;
      tlvs_are = read.behind;
      service = ap (λ (a : Head). a.service) read.head;
      cid = ap (λ (a : Head). a.cid) read.head;
      number = ap (λ (a : Head). a.number) read.head;
      response = ap is_response kinds;
    }

-- a message that answers a request
pub answers_it : (r : Request) (h : NewMessage) (tlvs : List ℕ) → h.flags ≡ flags_for h.service kind.Response → h.service ≡ (row_of r.body).service → h.cid ≡ r.cid → h.number ≡ r.number → answers (wanted_by r) (message_text h tlvs) ≡ true
answers_it r h tlvs flags service cid number =
    let is = is_response_text h tlvs flags in
    rw (is.response, eq-eqb _ _ (is.service ∙ service), eq-eqb _ _ (is.cid ∙ cid), eq-eqb _ _ (is.number ∙ number)) refl

newest_is : (texts : List (List ℕ)) (m : List ℕ) → reverse (texts ++ m ∷ []) ≡ m ∷ reverse texts
newest_is texts m = reverse-append texts (m ∷ [])

module _ (s : Setup) (near : s.starts_away ≡ false) (modem : Answering) (seconds : ℕ) where
  abbrev pub played : Cast
  played = cast_of s modem

  -- ---- at the modem itself ----

  pub record Direct (talk : Talk) (before : List (List ℕ)) : Type 0 where
    pub left : talk.heard.left ≡ []
    pub whole : IsWhole size_of talk.heard.taken
    pub before_is : asked_by size_of (reverse talk.texts) ≡ before

  -- a request was answered by this message, and the talk goes on so
  pub record Goes (peer : Peer) (r : Request) (talk : Talk) (x : List ℕ) (Then : Talk → Type 0) : Type 0 where
    pub placed : Placed
    pub bytes : placed.bytes ≡ x
    pub later : Talk
    pub is : (failed : SessionFault → LastWord) (next : List Placed → Placed → Talk → Finish LastWord) → ask_then peer (asked seconds r) talk failed next ≡ next [] placed later
    pub goes_on : Then later

  -- a response that fits a request answers it, where nothing was left and the peer says nothing else
  module _ (peer : Peer) (r : Request) (talk : Talk) (left : talk.heard.left ≡ []) (whole : IsWhole size_of talk.heard.taken) (h : NewMessage) (tlvs : List ℕ) (flags : h.flags ≡ flags_for h.service kind.Response) where
    abbrev said_text : List ℕ
    said_text = message_text h tlvs

    abbrev said_now : Placed
    said_now = one_said size_of size_of-kept size_of-positive refl peer (asked seconds r) refl talk whole said_text

    answered_so : reply_to peer (asked seconds r) talk ≡ said_text → h.service ≡ (row_of r.body).service → h.cid ≡ r.cid → h.number ≡ r.number → IsAnsweredBy size_of peer (asked seconds r) talk [] said_now []
    answered_so replies service cid number =
        answered_by_one size_of size_of-kept size_of-positive refl peer (asked seconds r) refl talk whole said_text (is_response_text h tlvs flags).is_message replies [] left
        (record { each = tt; quiets = omega arith; messages = omega arith }) (ap (λ (b : Bool). if b then meaning.Answer else meaning.NoAnswer) (answers_it r h tlvs flags service cid number))

    goes_by : (Then : Talk → Type 0) → (a : IsAnsweredBy size_of peer (asked seconds r) talk [] said_now []) → Then a.later → Goes peer r talk said_text Then
    goes_by Then a goes = record { placed = said_now; bytes = refl; later = a.later; is = λ failed next. goes_on size_of peer (asked seconds r) talk [] said_now [] a failed next; goes_on = goes }

  pub direct_goes : (r : Request) (talk : Talk) (before : List (List ℕ)) → Direct talk before → (a : Answers modem before (message_of r)) → Goes (directly played) r talk (message_text a.response a.tlvs) (λ later. Direct later (message_of r ∷ before))
  unfolding sent_for asked_then asked_by
  direct_goes r talk before direct a =
      let m : List ℕ = message_of r in
      let read = is_read r in
      let x : List ℕ = message_text a.response a.tlvs in
      let replies : reply_to (directly played) (asked seconds r) talk ≡ x =
      ap (to_newest (λ text before. concat (sent_for size_of modem (asked_by size_of before) (cut size_of text).messages))) (newest_is talk.texts m)
      ∙ ap (λ (l : List (List ℕ)). concat (sent_for size_of modem l (cut size_of m).messages)) direct.before_is
      ∙ ap (λ (l : List (List ℕ)). concat (sent_for size_of modem before l)) (one_message m read.is_message)
      ∙ ap (λ (l : List ℕ). concat ((cut size_of l).messages ++ [])) a.replies
      ∙ ap (λ (l : List (List ℕ)). concat (l ++ [])) (one_message x (is_response_text a.response a.tlvs a.flags).is_message)
      ∙ append-nil x
      in
      let by = answered_so (directly played) r talk direct.left direct.whole a.response a.tlvs a.flags replies (a.service ∙ read.service) (a.cid ∙ read.cid) (a.number ∙ read.number) in
      goes_by (directly played) r talk direct.left direct.whole a.response a.tlvs a.flags (λ later. Direct later (m ∷ before)) by (record {
        left = by.left_is;
        whole = by.whole;
        before_is = ap (λ (l : List (List ℕ)). asked_by size_of (reverse l)) by.texts ∙ ap (asked_by size_of) (newest_is talk.texts m) ∙ ap (λ (l : List (List ℕ)). asked_then l (cut size_of m).messages) direct.before_is ∙ ap (asked_then before) (one_message m read.is_message);
      })

  -- ---- through the proxy ----

  pub record Through (opened : Bool) (last : ℕ → ℕ) (talk : Talk) (before : List (List ℕ)) : Type 0 where
    pub left : talk.heard.left ≡ []
    pub whole : IsWhole size_of talk.heard.taken
    pub stands : Stands s near opened last (relayed played (reverse talk.texts)).events
    pub before_is : (relayed played (reverse talk.texts)).asked ≡ before

  -- where the proxy answers so
  through_goes : (opened : Bool) (last : ℕ → ℕ) (r : Request) (talk : Talk) (before after : List (List ℕ)) (opened' : Bool) (last' : ℕ → ℕ) (h : NewMessage) (tlvs : List ℕ) → Through opened last talk before
      → h.flags ≡ flags_for h.service kind.Response → h.service ≡ (row_of r.body).service → h.cid ≡ r.cid → h.number ≡ r.number
      → Exchanged s near modem (relayed played (reverse talk.texts)) (message_of r) (message_text h tlvs) opened' last' after
      → Goes (through played) r talk (message_text h tlvs) (λ later. Through opened' last' later after)
  unfolding relayed
  through_goes opened last r talk before after opened' last' h tlvs has flags service cid number exchanged =
      let m : List ℕ = message_of r in
      let x : List ℕ = message_text h tlvs in
      let replies : reply_to (through played) (asked seconds r) talk ≡ x =
      ap (to_newest (λ text before. reply played text (relayed played before))) (newest_is talk.texts m) ∙ exchanged.reply_is
      in
      let by = answered_so (through played) r talk has.left has.whole h tlvs flags replies service cid number in
      let newest : reverse by.later.texts ≡ m ∷ reverse talk.texts = ap (λ (l : List (List ℕ)). reverse l) by.texts ∙ newest_is talk.texts m in
      goes_by (through played) r talk has.left has.whole h tlvs flags (λ later. Through opened' last' later after) by (record {
        left = by.left_is;
        whole = by.whole;
        stands = subst (λ (l : List (List ℕ)). Stands s near opened' last' (relayed played l).events) (sym newest) exchanged.stands;
        before_is = ap (λ (l : List (List ℕ)). (relayed played l).asked) newest ∙ exchanged.asked_is;
      })

  -- a request that is forwarded under this number
  pub forward_goes : (last : ℕ → ℕ) (r : Request) (n : ℕ) (talk : Talk) (before : List (List ℕ)) → Through true last talk before → n ≡ following (top_of (space_of (message_of r))) (last (space_of (message_of r)))
      → view_decides true (message_of r) ≡ false → length (message_of r) ≤ piece_limit → (a : Answers modem before (message_of (record r { number = n })))
      → Goes (through played) r talk (message_text (record a.response { number = r.number }) a.tlvs) (λ later. Through true (λ space. if space_of (message_of r) == space then n else last space) later (message_of (record r { number = n }) ∷ before))
  forward_goes last r n talk before has n_is shared short a =
      let m : List ℕ = message_of r in
      let read = is_read r in
      let sent : List ℕ = message_of (record r { number = n }) in
      let read_sent = is_read (record r { number = n }) in
      let x : List ℕ = message_text a.response a.tlvs in
      let is = is_response_text a.response a.tlvs a.flags in
      let given : ℕ = following (top_of (space_of m)) (last (space_of m)) in
      let sent_is : with_number given m ≡ sent = ap (λ (k : ℕ). with_number k m) (sym n_is) ∙ read.renumbered n in
      let some : 0 < length sent = omega (arith, message_long sent read_sent.is_message) in
      let back : with_number (number_of m) x ≡ message_text (record a.response { number = r.number }) a.tlvs = ap (λ (k : ℕ). with_number k x) read.number ∙ with_number_is a.response a.tlvs r.number in
      let fits : (service_of m == service_of x && (cid_of m == cid_of x) && (given == number_of x)) ≡ true =
      rw (eq-eqb _ _ (read.service ∙ sym (is.service ∙ a.service ∙ read_sent.service)), eq-eqb _ _ (read.cid ∙ sym (is.cid ∙ a.cid ∙ read_sent.cid)), eq-eqb _ _ (sym n_is ∙ sym (is.number ∙ a.number ∙ read_sent.number))) refl
      in
      let replies : (cut size_of (modem (relayed played (reverse talk.texts)).asked (with_number given m))).messages ≡ x ∷ [] =
      ap (λ (l : List (List ℕ)). (cut size_of (modem l (with_number given m))).messages) has.before_is
      ∙ ap (λ (l : List ℕ). (cut size_of (modem before l)).messages) sent_is
      ∙ ap (λ (l : List ℕ). (cut size_of l).messages) a.replies
      ∙ one_message x is.is_message
      in
      let exchanged = forward_exchange s near modem (relayed played (reverse talk.texts)) m has.stands read.is_message short shared refl x
      (subst (IsMessage size_of) (sym sent_is) read_sent.is_message) (subst (λ (l : List ℕ). 0 < length l) (sym sent_is) some) replies is.is_message (omega (arith, a.short)) is.kind_is fits in
      through_goes true last r talk before (sent ∷ before) true (λ space. if space_of m == space then n else last space) (record a.response { number = r.number }) a.tlvs has
      a.flags (a.service ∙ read_sent.service) (a.cid ∙ read_sent.cid) refl
      (record {
        reply_is = exchanged.reply_is ∙ back;
        stands = subst (λ (k : ℕ). Stands s near true (λ space. if space_of m == space then k else last space) (ask played m (relayed played (reverse talk.texts))).events) (sym n_is) exchanged.stands;
        asked_is = exchanged.asked_is ∙ ap (λ (l : List ℕ). l ∷ (relayed played (reverse talk.texts)).asked) sent_is ∙ ap (λ (l : List (List ℕ)). sent ∷ l) has.before_is;
      })

  -- a request that the client's own view decides
  pub own_goes : (opened : Bool) (last : ℕ → ℕ) (r : Request) (talk : Talk) (before : List (List ℕ)) (h : NewMessage) (tlvs : List ℕ) → Through opened last talk before
      → view_decides opened (message_of r) ≡ true → length (message_of r) ≤ piece_limit → result_reply (message_of r) (own_error s.device opened (message_of r)) ≡ message_text h tlvs
      → h.flags ≡ flags_for h.service kind.Response → h.service ≡ (row_of r.body).service → h.cid ≡ r.cid → h.number ≡ r.number
      → Goes (through played) r talk (message_text h tlvs) (λ later. Through (is_opening s.device (message_of r) Own || opened) last later before)
  own_goes opened last r talk before h tlvs has decides short reply_is flags service cid number =
      let m : List ℕ = message_of r in
      let exchanged = own_exchange s near modem (relayed played (reverse talk.texts)) m has.stands (is_read r).is_message short decides in
      through_goes opened last r talk before before (is_opening s.device m Own || opened) last h tlvs has flags service cid number
      (record { reply_is = exchanged.reply_is ∙ reply_is; stands = exchanged.stands; asked_is = exchanged.asked_is ∙ has.before_is })
