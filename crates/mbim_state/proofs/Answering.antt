-- What a message of the modem makes of a core, once it is heard whole.
use Rattle.std.proofs.Common.{◌≡◌, ℕ, ◌≤◌, Bool, true, false, not, ◌&&◌, ◌||◌, ◌==◌, nat_le, List, ◌∷◌, length, map, refl, ap, sym, ◌∙◌, subst, arith, Contains, Option, Some, None, if◌then◌else◌}
use Rattle.std.specs.List.{AllByRecursion}
use Rattle.std.proofs.lemmas.Bool.{eqb-true, eq-eqb, and_parts}
use Rattle.std.proofs.lemmas.Bool.Decides.{nat_tests}
use Rattle.std.proofs.lemmas.List.{length-drop}
use Rattle.kit_bytes.proofs.Lists.{all_weaker}
use Rattle.mbim_frame.specs.declared.kind.MessageKind.TheVariants.{OpenDone, CommandDone, FunctionError, IndicateStatus}
use Rattle.mbim_frame.specs.Head.{is_kind, number_of}
use Rattle.mbim_frame.specs.Fragment.{body_of}
use Rattle.mbim_frame.specs.Bodies.{is_done, is_indication}
use Rattle.number_space.specs.declared.space.Row.{Row}
use Rattle.number_space.specs.Table.{answers}
use Rattle.number_space.specs.Table as space
use Rattle.proxy_history.specs.Facts.{Fact, Request, Answered, Late, Stray}
use Rattle.proxy_history.specs.Connections.{present, dropped}
use Rattle.proxy_history.specs.Requests.{in_use, pending, last_number}
use Rattle.proxy_history.specs.Modem.{now, is_away, to_modem, modem_taken_count}
use Rattle.proxy_history.specs.View.{Response, view}
use Rattle.proxy_history.specs.Rendering.{render}
use Rattle.proxy_history.specs.Wording.{told_by}
use Rattle.proxy_state.specs.Requests.{RequestInUse, requests_in_use, row_of, rows_of}
use Rattle.proxy_state.specs.Stands.{Streams}
use Rattle.proxy_state.proofs.InUse.{request_in, in_use_is, request_in_use}
use Rattle.proxy_state.proofs.Apart.{are_different, waits_by_flag, request_waits}
use Rattle.proxy_state.proofs.Matching.{IsMatched, Found, Search, IsFound, IsNone, search_for}
use Rattle.mbim_proxy.specs.Setup.{Setup, the_space}
use Rattle.mbim_proxy.specs.Step.{blank, view_of, known_now}
use Rattle.mbim_proxy.specs.ModemStates.{is_own_open, state}
use Rattle.mbim_proxy.specs.Lists.{askers, last_list}
use Rattle.mbim_proxy.specs.Text.{response_text, note}
use Rattle.mbim_proxy.specs.FromModem as history
use Rattle.mbim_proxy.specs.FromModem.{Heard, IsDone, IsOpenDone, IsError, IsIndication, IsNeither, heard_if, heard_as, opening_status, is_answered_by, first_answered_by}
use Rattle.mbim_state.specs.Asked.{Asked, CommandName, name_of, asked_of, is_opening, ask_by}
use Rattle.mbim_state.specs.declared.asked.Asked.TheVariants.{Open, Command}
use Rattle.mbim_state.specs.Core.{Client, ModemSide, MbimState, known_by, side_of, HasNumbers}
use Rattle.mbim_state.specs.Transitions.{with_numbers, is_for, ends_opening, tell_answer, answer, answer_if, respond_if, respond_to, respond, hear_as}
use Rattle.mbim_state.proofs.Regular.{Regular, regular_more}
use Rattle.mbim_state.proofs.Numbers.{IsPlaced, all_placed, numbers_answered, numbers_late}
use Rattle.mbim_state.proofs.ClientStates.{client_state_of, put_to, client_state_from}
use Rattle.mbim_state.proofs.Texts.{answer_of_blank, answer_same}
use Rattle.mbim_state.proofs.Commands.{ask_for, IsCommandOf, command_of}
use Rattle.mbim_state.proofs.Noted.{numbers_changed, kept_noted}
use Rattle.mbim_state.proofs.Receivers.{kept_indicated}
use Rattle.mbim_state.proofs.Keeping as keeping
use Rattle.mbim_state.proofs.Keeping.{side_with, keeps_side}

-- ---- an answer has at least a head ----

is_answer : Heard → Bool
is_answer IsDone = true
is_answer IsOpenDone = true
is_answer IsError = true
is_answer _ = false

-- by the tests
answered_whole : (done_kind done open_kind sixteen error_kind indication_kind indication : Bool)
    → is_answer (if done_kind then heard_if done IsDone else if open_kind then heard_if sixteen IsOpenDone else if error_kind then heard_if sixteen IsError else if indication_kind then heard_if indication IsIndication else IsNeither) ≡ true
    → (done || sixteen) ≡ true
unfolding is_answer
answered_whole true true _ _ _ _ _ e = refl
answered_whole true false _ _ _ _ _ e = absurd (cc)
answered_whole false true _ true _ _ _ e = refl
answered_whole false false _ true _ _ _ e = refl
answered_whole false _ true false _ _ _ e = absurd (cc)
answered_whole false _ false false true _ _ e = absurd (cc)
answered_whole false _ false false false true true e = absurd (cc)
answered_whole false _ false false false true false e = absurd (cc)
answered_whole false _ false false false false _ e = absurd (cc)

module _ (m : List ℕ) where
  long_by : (done sixteen : Bool) → is_done (body_of m) ≡ done → (length m == 16) ≡ sixteen → (done || sixteen) ≡ true → 12 ≤ length m
  long_by true sixteen whole same either =
      let test = (and_parts (nat_le 28 (length (body_of m))) _ whole).0 in
      let within : 28 ≤ length (body_of m) = grind (arith, nat_tests, test) in
      let left = length-drop 20 m in
      omega arith
  long_by false true whole same either = let is : length m ≡ 16 = eqb-true (length m) 16 same in omega arith
  long_by false false whole same either = absurd (cc)

  answers_are_long : (heard : Heard) → heard_as m ≡ heard → is_answer heard ≡ true → 12 ≤ length m
  answers_are_long heard is answers =
      long_by (is_done (body_of m)) (length m == 16) refl refl
      (answered_whole (is_kind CommandDone m) (is_done (body_of m)) (is_kind OpenDone m) (length m == 16) (is_kind FunctionError m) (is_kind IndicateStatus m) (is_indication (body_of m)) (ap is_answer is ∙ answers))

-- ---- what is kept of a request ----

asked_if : (r : Request) (opens : Bool) → is_own_open r ≡ opens → asked_of r.message ≡ (if opens then Open else Command (name_of r.message))
unfolding asked_of
asked_if r opens is = ap (λ (b : Bool). if b then Open else Command (name_of r.message)) is

pub asked_is : (r : Request) → asked_of r.message ≡ (if is_own_open r then Open else Command (name_of r.message))
asked_is r = asked_if r (is_own_open r) refl

for_is : (heard : Heard) (r : Request) → is_for heard (asked_of r.message) ≡ history.is_for heard r
unfolding asked_of
for_is IsDone r = elim (is_own_open r) as (λ b. not (is_opening (if b then Open else Command (name_of r.message))) ≡ not b) [ true ↦ refl | false ↦ refl ]
for_is IsOpenDone r = elim (is_own_open r) as (λ b. is_opening (if b then Open else Command (name_of r.message)) ≡ b) [ true ↦ refl | false ↦ refl ]
for_is IsError r = refl
for_is IsIndication r = refl
for_is IsNeither r = refl

module _ (s : Setup) (within : HasNumbers s) (streams : Streams) where
  abbrev Kept : List Fact → MbimState → Type 0
  Kept past x = keeping.Kept s streams past x

  -- ---- what concerns no client ----

  kept_stray : (past : List Fact) (x : MbimState) → Kept past x → Kept (Stray ∷ past) x
  unfolding present dropped now is_away state requests_in_use last_number askers last_list to_modem modem_taken_count view
  kept_stray past x K = keeps_side s streams (Stray ∷ past) past x x.beside (λ d. refl) refl refl K.holds.beside (regular_more s Stray past tt tt tt K.fine) K

  kept_late : (past : List Fact) (x : MbimState) (r : Request) → Contains (in_use past) r → Kept past x → Kept (Late r ∷ past) (with_numbers (answers r.number x.beside.numbers) x)
  unfolding present dropped now is_away state askers last_list to_modem modem_taken_count view
  kept_late past x r at K =
      keeps_side s streams (Late r ∷ past) past x (record x.beside { numbers = answers r.number x.beside.numbers }) (λ d. refl) refl refl
      (numbers_changed s streams (answers r.number) past x K ∙ ap (side_with s streams.messages past) (sym (numbers_late s within past r K.fine at))) (regular_more s (Late r) past at tt tt K.fine) K

  -- ---- an answer to a request that waits ----

  module _ (past : List Fact) (x : MbimState) (a : RequestInUse) (m : List ℕ) (long : 12 ≤ length m) (at : Contains (requests_in_use past) a) (waiting : a.waits ≡ true) (K : Kept past x) where
    abbrev r : Request
    r = a.request

    abbrev name : CommandName
    name = name_of r.message

    abbrev freed : MbimState
    freed = with_numbers (answers r.number x.beside.numbers) x

    abbrev facts : List Fact
    facts = note s (Answered r m) past

    abbrev text : Client → List ℕ
    text client = response_text (known_by client) (ask_by name) m

    is_at : Contains (pending past) r
    is_at = request_waits past a (are_different s.limits within past K.fine.sound) at s.limits K.fine.sound waiting

    side_is : (let side : ModemSide = record x.beside { numbers = answers r.number x.beside.numbers } in side) ≡ side_of s streams.messages (Answered r m ∷ past)
    unfolding now is_away state askers last_list to_modem modem_taken_count
    side_is = numbers_changed s streams (answers r.number) past x K ∙ ap (side_with s streams.messages past) (sym (numbers_answered s within past r K.fine (request_in_use past a at) m))

    regular : Regular s (Answered r m ∷ past)
    regular = regular_more s (Answered r m) past is_at tt tt K.fine

    bytes_are : IsCommandOf s past r → client_state_from s (Response r.place (blank m) ∷ view_of r.conn past) ≡ put_to s (text (client_state_of s past r.conn).client) (client_state_of s past r.conn)
    unfolding render told_by
    bytes_are command =
        ap (λ (bytes : List ℕ). put_to s bytes (client_state_of s past r.conn))
        (answer_of_blank m long (known_now s r.conn past) (ask_for s past r) ∙ answer_same (known_now s r.conn past) (ask_for s past r) (ask_by name) command.number m)

    noted : (opens : Bool) → is_own_open r ≡ opens → Kept (if opens then history.end_opening s (opening_status m) facts else facts) (if opens then ends_opening s (opening_status m) freed else tell_answer name m r.conn freed)
    unfolding present dropped view
    noted opens is =
        kept_noted s streams past x r (Answered r m) (Response r.place (blank m)) (answers r.number x.beside.numbers) refl (λ d. refl) refl refl side_is regular K text (command_of s past r K.fine is_at) bytes_are (opening_status m) opens is

    answered_if : (opens : Bool) → is_own_open r ≡ opens → Kept (if opens then history.end_opening s (opening_status m) facts else facts) (answer s (if opens then Open else Command name) r.conn m freed)
    answered_if true is = noted true is
    answered_if false is = noted false is

    kept_answered : Kept (history.answer_or_late s true r m past) (answer s (asked_of r.message) r.conn m freed)
    kept_answered = subst (λ (kept : Asked). Kept (history.answer_or_late s true r m past) (answer s kept r.conn m freed)) (sym (asked_is r)) (answered_if (is_own_open r) refl)

  -- ---- the request that it is for ----

  module _ (heard : Heard) (m : List ℕ) (long : 12 ≤ length m) (past : List Fact) (x : MbimState) (K : Kept past x) where
    abbrev Finds : RequestInUse → Type 0
    Finds a = Found asked_of the_space (number_of m) (is_answered_by heard m) (requests_in_use past) a

    matched : AllByRecursion (λ (b : RequestInUse). IsMatched asked_of the_space (number_of m) (is_answered_by heard m) b.request) (requests_in_use past)
    matched =
        all_weaker (λ (a : RequestInUse). IsPlaced a.request) (λ (a : RequestInUse). IsMatched asked_of the_space (number_of m) (is_answered_by heard m) a.request)
        (λ a placed e. (placed, eqb-true a.request.number (number_of m) (and_parts (a.request.number == number_of m) (history.is_for heard a.request) e).0))
        (requests_in_use past) (all_placed s past K.fine)

    found_if : (a : RequestInUse) → Finds a → (fits : Bool) → Kept (history.respond s (if fits then Some a.request else None) m past) (respond_if fits s (row_of asked_of a) m x)
    found_if a F true =
        let r : Request = a.request in
        let freed_now : MbimState = with_numbers (answers r.number x.beside.numbers) x in
        let waiting_if : (w : Bool) → a.waits ≡ w → Kept (history.answer_or_late s w r m past) (answer_if w s (asked_of r.message) r.conn m freed_now) =
        λ w. elim w as (λ w. a.waits ≡ w → Kept (history.answer_or_late s w r m past) (answer_if w s (asked_of r.message) r.conn m freed_now)) [
          | true ↦ λ is. kept_answered past x a m long F.at is K
          | false ↦ λ is. kept_late past x r (request_in_use past a F.at) K
        ]
        in
        subst (λ (w : Bool). Kept (history.answer_or_late s w r m past) (answer_if a.waits s (asked_of r.message) r.conn m freed_now)) (sym (waits_by_flag past a (are_different s.limits within past K.fine.sound) F.at))
        (waiting_if a.waits refl)
    found_if a F false = kept_stray past x K

    abbrev Responded : Option Request → Option (Row Asked) → Type 0
    Responded found row = Kept (history.respond s found m past) (respond_to row s heard m x)

    abbrev found_row : Option (Row Asked)
    found_row = space.row_of (number_of m) (rows_of asked_of the_space (requests_in_use past))

    responded : Search asked_of the_space (number_of m) (is_answered_by heard m) (requests_in_use past) → Responded (first_answered_by heard m (map request_in (requests_in_use past))) found_row
    responded (IsNone none) = subst (λ (o : Option Request). Responded o found_row) (sym none.answered) (subst (λ (o : Option (Row Asked)). Responded None o) (sym none.row) (kept_stray past x K))
    responded (IsFound a F) =
        let fits : Bool = history.is_for heard a.request in
        let numbered : (if is_answered_by heard m a.request then Some a.request else None) ≡ (if fits then Some a.request else None) =
        ap (λ (t : Bool). if t && history.is_for heard a.request then Some a.request else None) (eq-eqb a.request.number (number_of m) F.number_is)
        in
        subst (λ (o : Option Request). Responded o found_row) (sym (F.answered ∙ numbered))
        (subst (λ (o : Option (Row Asked)). Responded (if fits then Some a.request else None) o) (sym F.row)
        (subst (λ (b : Bool). Kept (history.respond s (if fits then Some a.request else None) m past) (respond_if b s (row_of asked_of a) m x)) (sym (for_is heard a.request)) (found_if a F fits)))

    kept_responded : Kept (history.respond s (first_answered_by heard m (in_use past)) m past) (respond s heard m x)
    kept_responded =
        subst (λ (l : List Request). Kept (history.respond s (first_answered_by heard m l) m past) (respond s heard m x)) (sym (in_use_is past))
        (subst (λ (l : List (Row Asked)). Kept (history.respond s (first_answered_by heard m (map request_in (requests_in_use past))) m past) (respond_to (space.row_of (number_of m) l) s heard m x)) (sym (ap (λ (b : ModemSide). b.numbers.rows) K.holds.beside))
        (responded (search_for asked_of the_space (number_of m) (is_answered_by heard m) (requests_in_use past) (are_different s.limits within past K.fine.sound) matched)))

  pub kept_heard : (m : List ℕ) (past : List Fact) (x : MbimState) → Kept past x → Kept (history.hear_modem s m past) (hear_as s (heard_as m) m x)
  unfolding is_answer
  kept_heard m past x K = by_kind (heard_as m) refl
    where
      by_kind : (heard : Heard) → heard_as m ≡ heard → Kept (history.hear_as s heard m past) (hear_as s heard m x)
      by_kind IsNeither is = kept_stray past x K
      by_kind IsIndication is = kept_indicated s streams m past x K
      by_kind IsDone is = kept_responded IsDone m (answers_are_long m IsDone is refl) past x K
      by_kind IsOpenDone is = kept_responded IsOpenDone m (answers_are_long m IsOpenDone is refl) past x K
      by_kind IsError is = kept_responded IsError m (answers_are_long m IsError is refl) past x K
