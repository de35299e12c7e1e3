-- What an MBIM modem says for nobody leaves no trace.
use Rattle.std.proofs.Common.{◌≡◌, inl, inr, ℕ, ◌+◌, ◌^◌, ◌<◌, Bool, true, false, not, ◌&&◌, ◌==◌, nat_lt, nat_le, if◌then◌else◌, List, [], ◌∷◌, ◌++◌, length, drop, refl, ap, ap₂, sym, ◌∙◌, subst, append-nil, Option, Some, None, is_none}
use Rattle.std.proofs.lemmas.Bool.{eqb-true, and_parts}
use Rattle.framing.specs.Cutting.{Cutting, behind}
use Rattle.framing.specs.Cutting as cutting
use Rattle.framing.specs.Framing.{IsMessage}
use Rattle.framing.proofs.Cuts.{cut-append, cut-message}
use Rattle.mbim_frame.specs.declared.kind.MessageKind.{MessageKind}
use Rattle.mbim_frame.specs.declared.kind.MessageKind.TheVariants.{OpenDone, CommandDone, FunctionError, IndicateStatus}
use Rattle.mbim_frame.specs.Frame.{size_of, mbim_cut}
use Rattle.mbim_frame.specs.Framing.{size_of-kept, size_of-positive}
use Rattle.mbim_frame.specs.Head.{kind_of, is_kind, number_of}
use Rattle.mbim_frame.specs.Numbers.{u32_bytes}
use Rattle.mbim_frame.specs.Writing.{unsplit}
use Rattle.mbim_frame.specs.Bodies.{is_done, is_indication}
use Rattle.mbim_frame.proofs.Numbers.{u32_at-bytes, u32_at-behind}
use Rattle.mbim_frame.specs.Kinds.{kind_number}
use Rattle.mbim_frame.specs.Fragment.{total_of, current_of, body_of}
use Rattle.mbim_fragments.specs.Runs.{More, Whole, OutOfSequence, TooLong}
use Rattle.mbim_fragments.specs.Assembling.{Assembled, fresh, joining_behind, left_by, assembled_after}
use Rattle.proxy_history.specs.Events.{Event}
use Rattle.proxy_history.specs.Streams.{modem_stream}
use Rattle.proxy_history.specs.Items.{delivered_by_piece}
use Rattle.proxy_history.specs.Facts.{Fact, Request, EventBegan, Indicated, Stray}
use Rattle.proxy_history.specs.Connections.{present}
use Rattle.proxy_history.specs.Requests.{first_where, in_use}
use Rattle.proxy_history.specs.View.{view}
use Rattle.proxy_history.specs.Noting.{end_overfull}
use Rattle.mbim_proxy.specs.Setup.{Setup}
use Rattle.mbim_proxy.specs.Step.{blank}
use Rattle.mbim_proxy.specs.Text.{note}
use Rattle.mbim_proxy.specs.Delivering.{Begun, none_begun, is_fragment, heard_whole, heard_with, begun_after, heard_from, begun_from, deliver}
use Rattle.mbim_proxy.specs.FromModem.{Heard, IsDone, IsOpenDone, IsError, IsIndication, IsNeither, heard_if, heard_as, is_for, first_answered_by, respond, hear_as}
use Rattle.mbim_proxy.specs.History.{mbim_protocol, history}
use Rattle.proxy_stray.specs.Pieces.{Step, bytes_of, without_parts}
use Rattle.proxy_stray.specs.Stray.{IsForNobody, IsCalledStray, IsUnwanted, AreForNobody}
use Rattle.proxy_stray.specs.Stray as any
use Rattle.mbim_stray.specs.Law.{KeepsTheOpen, NoFragment, WholeAnswer, WholeIndication, IsStrayOrUnwanted, open_in, is_stray_as}
use Rattle.mbim_stray.specs.Law as law
use Rattle.mbim_stray.proofs.Heed.{heard_on}

-- ---- which messages are for nobody ----

no_request : (s : Setup) (found : Option Request) (m : List ℕ) (past : List Fact) → is_none found ≡ true → respond s found m past ≡ Stray ∷ past
no_request s None m past none = refl
no_request s (Some r) m past none = absurd (cc)

pub called_stray : (s : Setup) (heard : Heard) (m : List ℕ) (past : List Fact) → is_stray_as heard m past ≡ true → hear_as s heard m past ≡ Stray ∷ past
called_stray s IsNeither m past is = refl
called_stray s IsIndication m past is = absurd (cc)
called_stray s IsDone m past is = no_request s (first_answered_by IsDone m (in_use past)) m past is
called_stray s IsOpenDone m past is = no_request s (first_answered_by IsOpenDone m (in_use past)) m past is
called_stray s IsError m past is = no_request s (first_answered_by IsError m (in_use past)) m past is

-- an indication for which nobody is there
pub unwanted : (s : Setup) (m : List ℕ) (past : List Fact) → law.IsUnwanted s m past → IsForNobody (mbim_protocol s) m past
unfolding end_overfull
unwanted s m past is =
    IsUnwanted (blank m) (ap (λ (heard : Heard). hear_as s heard m past) is.indication ∙ ap (λ (there : List ℕ). note s (Indicated (blank m) there) past) is.nobody)

pub either : (s : Setup) (m : List ℕ) (past : List Fact) → IsStrayOrUnwanted s m past → IsForNobody (mbim_protocol s) m past
either s m past (inl is) = IsCalledStray (called_stray s (heard_as m) m past is)
either s m past (inr is) = unwanted s m past is

-- ---- which leave the fragments that are open ----

-- one that is the only one of its message leaves nothing
leaves_none : (total current : ℕ) (long : Bool) (body m : List ℕ) → total ≡ 1
    → left_by (if not (current == 0 && nat_lt 0 total) then OutOfSequence else if long then TooLong else if current + 1 == total then Whole body else More) fresh m ≡ fresh
leaves_none total current long body m one =
    let Leaves : Bool → ℕ → ℕ → Type 0 = λ (first : Bool) (n : ℕ) (all : ℕ). left_by (if not (first && nat_lt 0 all) then OutOfSequence else if long then TooLong else if n + 1 == all then Whole body else More) fresh m ≡ fresh in
    let step : (first : Bool) → (current == 0) ≡ first → Leaves first current 1 =
    λ first. elim first as (λ first. (current == 0) ≡ first → Leaves first current 1) [
      | true ↦ λ is.
          subst (λ (n : ℕ). Leaves true n 1) (sym (eqb-true current 0 is))
          (elim long as (λ long. left_by (if long then TooLong else Whole body) fresh m ≡ fresh) [ true ↦ refl | false ↦ refl ])
      | false ↦ λ is. refl
    ]
    in subst (λ (all : ℕ). Leaves (current == 0) current all) (sym one) (step (current == 0) refl)

alone_leaves_none : (longest : ℕ) (a : Assembled) (m : List ℕ) → total_of m ≡ 1 → a ≡ fresh → assembled_after longest a m ≡ a
alone_leaves_none longest a m one none =
    subst (λ (was : Assembled). assembled_after longest was m ≡ was) (sym none)
    (leaves_none (total_of m) (current_of m) (nat_lt longest (length ([] ++ body_of m))) ([] ++ body_of m) m one)

of_no_other : (kind other : MessageKind) (m : List ℕ) → (kind_number kind == kind_number other) ≡ false → is_fragment kind m ≡ true → is_fragment other m ≡ false
of_no_other kind other m differ is =
    ap (λ (k : ℕ). k == kind_number other && nat_le 20 (length m)) (eqb-true (kind_of m) (kind_number kind) (and_parts (is_kind kind m) (nat_le 20 (length m)) is).0) ∙ ap (λ (b : Bool). b && nat_le 20 (length m)) differ

module _ (longest : ℕ) (begun : Begun) (m : List ℕ) where
  abbrev after : Bool → Bool → Begun
  after answer indication = record { answer = if answer then assembled_after longest begun.answer m else begun.answer; indication = if indication then assembled_after longest begun.indication m else begun.indication }

  pub keeps_the_open : KeepsTheOpen begun m → begun_after longest begun m ≡ begun
  keeps_the_open (NoFragment no_answer no_indication) = ap₂ after no_answer no_indication
  keeps_the_open (WholeAnswer answer alone none) =
      ap₂ after answer (of_no_other CommandDone IndicateStatus m refl answer)
      ∙ ap (λ (a : Assembled). let all : Begun = record { answer = a; indication = begun.indication } in all) (alone_leaves_none longest begun.answer m alone none)
  keeps_the_open (WholeIndication indication alone none) =
      ap₂ after (of_no_other IndicateStatus CommandDone m refl indication) indication
      ∙ ap (λ (a : Assembled). let all : Begun = record { answer = begun.answer; indication = a } in all) (alone_leaves_none longest begun.indication m alone none)

  pub others_as_they_are : is_fragment CommandDone m ≡ false → is_fragment IndicateStatus m ≡ false → heard_with longest begun m ≡ m ∷ []
  others_as_they_are no_answer no_indication =
      ap₂ (λ (answer indication : Bool). if answer then heard_whole m (joining_behind longest begun.answer m) else if indication then heard_whole m (joining_behind longest begun.indication m) else m ∷ []) no_answer no_indication

-- ---- how they are heard ----

number_written : (kind n : ℕ) (body : List ℕ) → n < 2 ^ 32 → number_of (unsplit kind n body) ≡ n
number_written kind n body below =
    let behind : List ℕ = (u32_bytes 1 ++ u32_bytes 0) ++ body in
    u32_at-behind (u32_bytes kind ++ u32_bytes (12 + (8 + length body))) (u32_bytes n ++ behind) 8 0 refl ∙ u32_at-bytes n behind below

module _ (s : Setup) (m : List ℕ) (past : List Fact) (below : number_of m < 2 ^ 32) where
  -- as the whole body, in one message with the number of the last
  abbrev whole_of : MessageKind → List ℕ
  whole_of kind = unsplit (kind_number kind) (number_of m) (body_of m)

  same_test : (heard : Heard) (x y : List ℕ) → number_of x ≡ number_of y → is_stray_as heard x past ≡ is_stray_as heard y past
  same_test IsNeither x y same = refl
  same_test IsIndication x y same = refl
  same_test IsDone x y same = ap (λ (n : ℕ). is_none (first_where (λ (r : Request). r.number == n && is_for IsDone r) (in_use past))) same
  same_test IsOpenDone x y same = ap (λ (n : ℕ). is_none (first_where (λ (r : Request). r.number == n && is_for IsOpenDone r) (in_use past))) same
  same_test IsError x y same = ap (λ (n : ℕ). is_none (first_where (λ (r : Request). r.number == n && is_for IsError r) (in_use past))) same

  whole_for_nobody : (kind : MessageKind) → heard_as (whole_of kind) ≡ heard_as m → IsStrayOrUnwanted s m past → IsForNobody (mbim_protocol s) (whole_of kind) past
  whole_for_nobody kind same (inl is) =
      either s (whole_of kind) past
      (inl (ap (λ (heard : Heard). is_stray_as heard (whole_of kind) past) same ∙ same_test (heard_as m) (whole_of kind) m (number_written (kind_number kind) (number_of m) (body_of m) below) ∙ is))
  whole_for_nobody kind same (inr is) = either s (whole_of kind) past (inr (record { indication = same ∙ is.indication; nobody = is.nobody }))

  abbrev are : List (List ℕ) → Type 0
  are messages = AreForNobody (mbim_protocol s) messages past

  -- whatever it comes to
  joined_for_nobody : (kind : MessageKind) → kind_of m ≡ kind_number kind → heard_as (whole_of kind) ≡ heard_as m → IsStrayOrUnwanted s m past
      → (due long last : Bool) → are (heard_whole m (if not due then OutOfSequence else if long then TooLong else if last then Whole (body_of m) else More))
  joined_for_nobody kind is_of same is false long last = tt
  joined_for_nobody kind is_of same is true true last = tt
  joined_for_nobody kind is_of same is true false false = tt
  joined_for_nobody kind is_of same is true false true =
      subst (λ (k : ℕ). are (unsplit k (number_of m) (body_of m) ∷ [])) (sym is_of) (whole_for_nobody kind same is, tt)

  alone_for_nobody : (kind : MessageKind) (a : Assembled) → a ≡ fresh → kind_of m ≡ kind_number kind → heard_as (whole_of kind) ≡ heard_as m → IsStrayOrUnwanted s m past → are (heard_whole m (joining_behind s.longest_body a m))
  alone_for_nobody kind a none is_of same is =
      subst (λ (was : Assembled). are (heard_whole m (joining_behind s.longest_body was m))) (sym none)
      (joined_for_nobody kind is_of same is (current_of m == 0 && nat_lt 0 (total_of m)) (nat_lt s.longest_body (length (body_of m))) (current_of m + 1 == total_of m))

  kind_is : (kind : MessageKind) → is_fragment kind m ≡ true → kind_of m ≡ kind_number kind
  kind_is kind is = eqb-true (kind_of m) (kind_number kind) (and_parts (is_kind kind m) (nat_le 20 (length m)) is).0

  -- how a message of such a kind is heard
  abbrev heard_by : (number size : ℕ) → List ℕ → Heard
  heard_by kind size body =
      if kind == kind_number CommandDone then heard_if (is_done body) IsDone
      else if kind == kind_number OpenDone then heard_if (size == 16) IsOpenDone
      else if kind == kind_number FunctionError then heard_if (size == 16) IsError
      else if kind == kind_number IndicateStatus then heard_if (is_indication body) IsIndication
      else IsNeither

  pub heard_so : (begun : Begun) → KeepsTheOpen begun m → IsStrayOrUnwanted s m past → are (heard_with s.longest_body begun m)
  heard_so begun (NoFragment no_answer no_indication) is = subst are (sym (others_as_they_are s.longest_body begun m no_answer no_indication)) (either s m past is, tt)
  heard_so begun (WholeAnswer answer alone none) is =
      subst (λ (b : Bool). are (if b then heard_whole m (joining_behind s.longest_body begun.answer m) else if is_fragment IndicateStatus m then heard_whole m (joining_behind s.longest_body begun.indication m) else m ∷ [])) (sym answer)
      (alone_for_nobody CommandDone begun.answer none (kind_is CommandDone answer) (sym (ap (λ (k : ℕ). heard_by k (length m) (body_of m)) (kind_is CommandDone answer))) is)
  heard_so begun (WholeIndication indication alone none) is =
      subst (λ (b : Bool). are (if b then heard_whole m (joining_behind s.longest_body begun.answer m) else if is_fragment IndicateStatus m then heard_whole m (joining_behind s.longest_body begun.indication m) else m ∷ []))
      (sym (of_no_other IndicateStatus CommandDone m refl indication))
      (subst (λ (b : Bool). are (if b then heard_whole m (joining_behind s.longest_body begun.indication m) else m ∷ [])) (sym indication)
      (alone_for_nobody IndicateStatus begun.indication none (kind_is IndicateStatus indication) (sym (ap (λ (k : ℕ). heard_by k (length m) (body_of m)) (kind_is IndicateStatus indication))) is))

-- the beginning of an event changes nothing of that
begun_too : (heard : Heard) (m : List ℕ) (past : List Fact) → is_stray_as heard m (EventBegan ∷ past) ≡ is_stray_as heard m past
unfolding in_use
begun_too IsNeither m past = refl
begun_too IsIndication m past = refl
begun_too IsDone m past = refl
begun_too IsOpenDone m past = refl
begun_too IsError m past = refl

begun_either : (s : Setup) (m : List ℕ) (past : List Fact) → IsStrayOrUnwanted s m past → IsStrayOrUnwanted s m (EventBegan ∷ past)
unfolding present view
begun_either s m past (inl is) = inl (begun_too (heard_as m) m past ∙ is)
begun_either s m past (inr is) = inr (record { indication = is.indication; nobody = is.nobody })

cut_alone : (m : List ℕ) → IsMessage size_of m → mbim_cut m ≡ record { messages = m ∷ []; rest = [] }
unfolding cutting.cut_from
cut_alone m is = ap mbim_cut (sym (append-nil m)) ∙ cut-message size_of size_of-kept size_of-positive m [] is

heard_of_one : (longest : ℕ) (begun : Begun) (m : List ℕ) → heard_from longest begun (m ∷ []) ≡ heard_with longest begun m
unfolding heard_from
heard_of_one longest begun m = append-nil (heard_with longest begun m)

pub these_are_stray : (s : Setup) (events : List Event) (before m : List ℕ) → modem_stream size_of s.starts_away events ≡ Some before → (mbim_cut before).rest ≡ [] → IsMessage size_of m
    → KeepsTheOpen (open_in s before) m → number_of m < 2 ^ 32 → IsStrayOrUnwanted s m (history s events) → law.IsStray s events m
unfolding begun_from
these_are_stray s events before m there between message keeps below is =
    let alone = sym (cut_alone m message) in
    let past : List Fact = EventBegan ∷ history s events in
    record {
      before = before;
      is_there = there;
      between = between;
      are_whole = ap (λ (c : Cutting). c.rest) (cut_alone m message);
      for_nobody =
          subst (λ (c : Cutting). AreForNobody (mbim_protocol s) (heard_from s.longest_body (open_in s before) c.messages) past) alone
          (subst (λ (l : List (List ℕ)). AreForNobody (mbim_protocol s) l past) (sym (heard_of_one s.longest_body (open_in s before) m))
          (heard_so s m past below (open_in s before) keeps (begun_either s m (history s events) is)));
      leaves = subst (λ (c : Cutting). begun_from s.longest_body (open_in s before) c.messages ≡ open_in s before) alone (keeps_the_open s.longest_body (open_in s before) m keeps);
    }

-- ---- in the modem's stream ----

-- what some messages and more leave open
begun_with : (longest : ℕ) (begun : Begun) (messages more : List (List ℕ)) → begun_from longest begun (messages ++ more) ≡ begun_from longest (begun_from longest begun messages) more
unfolding begun_from
begun_with longest begun [] more = refl
begun_with longest begun (x ∷ messages) more = begun_with longest (begun_after longest begun x) messages more

-- what is heard with bytes behind whole messages
heard : (s : Setup) (before bytes : List ℕ) → (mbim_cut before).rest ≡ [] → delivered_by_piece (mbim_protocol s) before bytes ≡ heard_from s.longest_body (open_in s before) (mbim_cut bytes).messages
heard s before bytes between =
    ap (λ (c : Cutting). drop (length (deliver s.longest_body (mbim_cut before).messages)) (deliver s.longest_body c.messages))
    (cut-append size_of before bytes ∙ ap (λ (rest : List ℕ). behind (mbim_cut before).messages (mbim_cut (rest ++ bytes))) between)
    ∙ heard_on s (mbim_cut before).messages (mbim_cut bytes).messages

pub is_stray : (s : Setup) (events : List Event) (bytes : List ℕ) → law.IsStray s events bytes → any.IsStray (mbim_protocol s) events bytes
is_stray s events bytes stray =
    let came = (mbim_cut stray.before).messages in
    let more = (mbim_cut bytes).messages in
    record {
      before = stray.before;
      is_there = stray.is_there;
      between = stray.between;
      are_whole = stray.are_whole;
      for_nobody = subst (λ (l : List (List ℕ)). AreForNobody (mbim_protocol s) l (EventBegan ∷ history s events)) (sym (heard s stray.before bytes stray.between)) stray.for_nobody;
      leaves_open =
          λ further.
          heard_on s (came ++ more) further
          ∙ ap (λ (begun : Begun). heard_from s.longest_body begun further) (begun_with s.longest_body none_begun came more ∙ stray.leaves)
          ∙ sym (heard_on s came further);
    }

pub in_pieces : (s : Setup) (events : List Event) (steps : List Step) (last bytes : List ℕ) → law.IsStrayInPieces s events steps last bytes → any.IsStrayInPieces (mbim_protocol s) events steps last bytes
unfolding is_stray
in_pieces s events steps last bytes comes = record {
  whole = comes.whole;
  stray = is_stray s (without_parts steps ++ events) bytes comes.stray;
  together = comes.together;
  nothing_yet = heard s comes.stray.before (bytes_of steps) comes.stray.between ∙ comes.nothing_yet;
}

pub one_piece : (s : Setup) (events : List Event) (bytes : List ℕ) → law.IsStray s events bytes → law.IsStrayInPieces s events [] bytes bytes
unfolding bytes_of without_parts cutting.cut_from heard_from
one_piece s events bytes stray = record { whole = refl; stray = stray; together = tt; nothing_yet = refl }
