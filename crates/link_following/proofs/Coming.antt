-- A following goes on and ends.
use Rattle.std.proofs.Common.{◌≡◌, ℕ, ◌+◌, ◌<◌, Bool, true, ◌&&◌, List, [], ◌∷◌, ◌++◌, length, Option, Some, None, Result, Ok, Err, refl, sym, ◌∙◌, ap, ap₂, subst, append_assoc, length-append}
use Rattle.std.specs.List.{flat_map, list_all}
use Rattle.std.proofs.lemmas.Grind.{flat_map-append}
use Rattle.std.proofs.lemmas.List.{append-nil}
use Rattle.std.proofs.lemmas.List.Elements.{filter_map-append}
use Rattle.std.proofs.lemmas.List.Folds.{list_all-append}
use Rattle.std.specs.Prelude.{IfOk}
use Rattle.kit_io.specs.Growth.{Grows}
use Rattle.kit_io.proofs.Growth.{Grows-none, Grows-append}
use Rattle.framing.specs.declared.framing.Size.{Size}
use Rattle.framing.specs.Reading.{Reading}
use Rattle.link_io.specs.Calls.{Call}
use Rattle.link_session.specs.declared.fault.SessionFault.{SessionFault}
use Rattle.link_session.specs.declared.fault.SessionFault.TheVariants as fault
use Rattle.link_session.specs.declared.mark.Mark as declared
use Rattle.link_session.specs.declared.mark.Mark.TheVariants as mark
use Rattle.link_session.specs.declared.incoming.Found.{Found}
use Rattle.link_session.specs.Marks.{Placed, Mark, Message, message_in, messages_in}
use Rattle.link_session.specs.Waiting.{Heard, Brings, AreNeeded}
use Rattle.link_session.specs.Hearing.{Stands, Looks, placed_in, mark_in, found_in}
use Rattle.link_session.proofs.Takes.{Brings-none, Brings-append}
use Rattle.link_following.specs.declared.end.FollowEnd.{FollowEnd}
use Rattle.link_following.specs.declared.end.FollowEnd.TheVariants.{LinkEnd, TurnsSpent, WriteFault}
use Rattle.link_following.specs.Following.{Come, Showing, lines_of, goes_on, end_by, GoOn, Ends, spent, decided, unwritten, no_memory, MarksComeInOrder}
use Rattle.link_following.specs.Hearing.{FollowsTo, IsUnwritten, Says, Turns, Writes}

-- where it holds anyway
ok_holds : {A E : Type 0} {Holds : Type 0} (result : Result A E) → Holds → IfOk result (λ end. Holds)
ok_holds (Ok end) holds = holds
ok_holds (Err why) holds = tt

-- ---- marks ----

pub in_order : MarksComeInOrder
in_order size heard [] takes later (none, same) = rw (none, same) (Brings-none size heard)
in_order size heard (mark ∷ marks) takes later comes =
    rw comes.are (Brings-append size comes.brings (in_order size comes.now marks comes.more later comes.follows))

module _ (size : List ℕ → Size) {mid later : Heard} {own : List Call} (mark : Mark) (brings : Brings size mid own (mark ∷ []) later) (needed : AreNeeded size mid own []) where
  Come-push : (heard : Heard) (marks : List Mark) (takes : List Call) → Come size heard marks takes mid → Come size heard (marks ++ mark ∷ []) (takes ++ own) later
  Come-push heard [] takes (none, same) = rw (← same) (record {
    own = own;
    more = [];
    now = later;
    are = ap (λ (l : List Call). l ++ own) none ∙ sym (append-nil own);
    brings = brings;
    needed = needed;
    follows = (refl, refl);
  })
  Come-push heard (first ∷ marks) takes comes = record {
    own = comes.own;
    more = comes.more ++ own;
    now = comes.now;
    are = ap (λ (l : List Call). l ++ own) comes.are ∙ append_assoc comes.own comes.more own;
    brings = comes.brings;
    needed = comes.needed;
    follows = Come-push comes.now marks comes.more comes.follows;
  }

all-push : (marks : List Mark) (mark : Mark) → list_all goes_on marks ≡ true → goes_on mark ≡ true → list_all goes_on (marks ++ mark ∷ []) ≡ true
all-push marks mark each is = list_all-append goes_on marks (mark ∷ []) ∙ ap₂ (λ (a b : Bool). a && (b && true)) each is

lines-push : (shown : Showing) (marks : List Mark) (mark : Mark) → lines_of shown (marks ++ mark ∷ []) ≡ lines_of shown marks ++ lines_of shown (mark ∷ [])
lines-push shown marks mark =
    ap (flat_map (λ (message : Placed). shown message.bytes)) (filter_map-append message_in marks (mark ∷ []))
    ∙ flat_map-append (λ (message : Placed). shown message.bytes) (messages_in marks) (messages_in (mark ∷ []))

-- ---- the turns ----

-- so many marks have come, behind each of which more may come
pub record Followed
    (size : List ℕ → Size)
    (shown : Showing)
    (heard : Heard)
    (cutter : Reading)
    (count : ℕ)
    (calls_before calls : Option (List Call))
    (taken_before taken : Option (List ℕ)) : Type 0 where
  pub marks : List Mark
  pub takes : List Call
  pub now : Heard
  pub come : Come size heard marks takes now
  pub each : list_all goes_on marks ≡ true
  pub counted : length marks ≡ count
  pub stands : Stands size cutter now
  pub calls_grow : Grows calls_before takes calls
  pub taken_grow : Grows taken_before (lines_of shown marks) taken

module _ (size : List ℕ → Size) (shown : Showing) where
  pub Followed-none : {heard : Heard} {cutter : Reading} (calls : Option (List Call)) (taken : Option (List ℕ)) → Stands size cutter heard → Followed size shown heard cutter 0 calls calls taken taken
  Followed-none {heard = heard} calls taken stands = record {
    marks = [];
    takes = [];
    now = heard;
    come = (refl, refl);
    each = refl;
    counted = refl;
    stands = stands;
    calls_grow = Grows-none calls;
    taken_grow = Grows-none taken;
  }

  module _
      {heard : Heard}
      {cutter : Reading}
      {count : ℕ}
      {calls_before calls : Option (List Call)}
      {taken_before taken : Option (List ℕ)}
      (so_far : Followed size shown heard cutter count calls_before calls taken_before taken) where
    -- they end with the turns
    pub FollowsTo-spent : {turns : ℕ} → count ≡ turns → FollowsTo size shown turns heard (Ok TurnsSpent) cutter calls_before calls taken_before taken
    FollowsTo-spent is = record {
      takes = so_far.takes;
      later = so_far.now;
      taken = lines_of shown so_far.marks;
      follows = record { marks = so_far.marks; come = so_far.come; ends = spent so_far.each (so_far.counted ∙ is) refl refl };
      stands = so_far.stands;
      calls_grow = so_far.calls_grow;
      taken_grow = so_far.taken_grow;
    }

    module _
        {result : Result (Option FollowEnd) SessionFault}
        {new : Reading}
        {calls_after : Option (List Call)}
        {taken_after : Option (List ℕ)}
        (turns : Turns size shown so_far.now result new calls calls_after taken taken_after) where
      abbrev marks : List Mark
      marks = so_far.marks ++ turns.mark ∷ []

      abbrev takes : List Call
      takes = so_far.takes ++ turns.takes

      come : Come size heard marks takes turns.later
      come = Come-push size turns.mark turns.brings turns.needed heard so_far.marks so_far.takes so_far.come

      grown : Grows calls_before takes calls_after
      grown = Grows-append so_far.calls_grow turns.calls_grow

      -- what is taken, of which a part is of the last mark
      taken_by : (all : List ℕ) → lines_of shown so_far.marks ++ turns.taken ≡ all → Grows taken_before all taken_after
      taken_by all is = subst (λ (l : List ℕ). Grows taken_before l taken_after) is (Grows-append so_far.taken_grow turns.taken_grow)

      -- nothing is of the last
      earlier : turns.taken ≡ [] → lines_of shown so_far.marks ++ turns.taken ≡ lines_of shown so_far.marks
      earlier none = ap (λ (l : List ℕ). lines_of shown so_far.marks ++ l) none ∙ append-nil (lines_of shown so_far.marks)

      -- one more, whose lines are taken
      more : (each : goes_on turns.mark ≡ true) → turns.taken ≡ lines_of shown (turns.mark ∷ []) → Stands size new turns.later → Followed size shown heard new (count + 1) calls_before calls_after taken_before taken_after
      more each is stands = record {
        marks = marks;
        takes = takes;
        now = turns.later;
        come = come;
        each = all-push so_far.marks turns.mark so_far.each each;
        counted = length-append so_far.marks (turns.mark ∷ []) ∙ ap (λ (n : ℕ). n + 1) so_far.counted;
        stands = stands;
        calls_grow = grown;
        taken_grow = taken_by (lines_of shown marks) (ap (λ (l : List ℕ). lines_of shown so_far.marks ++ l) is ∙ sym (lines-push shown so_far.marks turns.mark));
      }

      module _ {most : ℕ} (left : count < most) where
        go_on : GoOn most so_far.marks
        go_on = record { each = so_far.each; few = rw so_far.counted left }

        -- it ends with the last mark
        ends_by : (end : Result FollowEnd SessionFault) (all : List ℕ) → Ends shown most marks end all → IfOk end (λ done. Stands size new turns.later) → lines_of shown so_far.marks ++ turns.taken ≡ all
            → FollowsTo size shown most heard end new calls_before calls_after taken_before taken_after
        ends_by end all ends stands is = record {
          takes = takes;
          later = turns.later;
          taken = all;
          follows = record { marks = marks; come = come; ends = ends };
          stands = stands;
          calls_grow = grown;
          taken_grow = taken_by all is;
        }

        decided_by : (end : Result FollowEnd SessionFault) → end_by turns.mark ≡ Some end → turns.taken ≡ [] → IfOk end (λ done. Stands size new turns.later)
            → FollowsTo size shown most heard end new calls_before calls_after taken_before taken_after
        decided_by end is none stands = ends_by end (lines_of shown so_far.marks) (decided so_far.marks turns.mark refl go_on is refl) stands (earlier none)

        unwritten_by : IsUnwritten shown turns.mark turns.taken → Stands size new turns.later → FollowsTo size shown most heard (Ok WriteFault) new calls_before calls_after taken_before taken_after
        unwritten_by it stands =
            ends_by (Ok WriteFault) (lines_of shown so_far.marks ++ turns.taken)
            (unwritten so_far.marks it.message turns.taken it.rest (ap (λ (m : Mark). so_far.marks ++ m ∷ []) it.is) go_on it.whole refl refl) stands refl

        no_memory_by : (message : Placed) → turns.mark ≡ Message message → turns.taken ≡ [] → FollowsTo size shown most heard (Err fault.OutOfMemory) new calls_before calls_after taken_before taken_after
        no_memory_by message is none =
            ends_by (Err fault.OutOfMemory) (lines_of shown so_far.marks) (no_memory so_far.marks message (ap (λ (m : Mark). so_far.marks ++ m ∷ []) is) go_on refl refl) tt (earlier none)

    module _ {new : Reading} {calls_after : Option (List Call)} {taken_after : Option (List ℕ)} where
      pub Followed-more : Turns size shown so_far.now (Ok None) new calls calls_after taken taken_after → Followed size shown heard new (count + 1) calls_before calls_after taken_before taken_after
      Followed-more turns = more turns turns.says.0 turns.says.1 turns.stands

      module _ {most : ℕ} (left : count < most) where
        pub FollowsTo-stops : (stop : FollowEnd) → Turns size shown so_far.now (Ok (Some stop)) new calls calls_after taken taken_after
            → FollowsTo size shown most heard (Ok stop) new calls_before calls_after taken_before taken_after
        FollowsTo-stops LinkEnd turns = decided_by turns left (Ok LinkEnd) turns.says.0 turns.says.1 turns.stands
        FollowsTo-stops TurnsSpent turns = decided_by turns left (Ok TurnsSpent) turns.says.0 turns.says.1 turns.stands
        FollowsTo-stops WriteFault turns = unwritten_by turns left turns.says turns.stands

        pub FollowsTo-fails : (why : SessionFault) → Turns size shown so_far.now (Err why) new calls calls_after taken taken_after
            → FollowsTo size shown most heard (Err why) new calls_before calls_after taken_before taken_after
        FollowsTo-fails fault.OutOfMemory turns = no_memory_by turns left turns.says.0 turns.says.1 turns.says.2
        FollowsTo-fails fault.LinkFault turns = decided_by turns left (Err fault.LinkFault) turns.says.0 turns.says.1 tt
        FollowsTo-fails fault.LinkEnd turns = decided_by turns left (Err fault.LinkEnd) turns.says.0 turns.says.1 tt
        FollowsTo-fails fault.TimedOut turns = decided_by turns left (Err fault.TimedOut) turns.says.0 turns.says.1 tt
        FollowsTo-fails fault.Flooded turns = decided_by turns left (Err fault.Flooded) turns.says.0 turns.says.1 tt
        FollowsTo-fails (fault.Broken place) turns = decided_by turns left (Err (fault.Broken place)) turns.says.0 turns.says.1 tt

-- ---- one turn ----

module _ (size : List ℕ → Size) (shown : Showing) {heard : Heard} {which : declared.Mark} {new : Reading} {calls_before calls_after : Option (List Call)} (looks : Looks size heard which new calls_before calls_after) where
  -- nothing is taken with it
  pub Turns-by : (taken : Option (List ℕ)) (result : Result (Option FollowEnd) SessionFault) → Says shown (mark_in new which) result [] → IfOk result (λ stop. Stands size new looks.later)
      → Turns size shown heard result new calls_before calls_after taken taken
  Turns-by taken result says stands = record {
    mark = mark_in new which;
    takes = looks.takes;
    later = looks.later;
    taken = [];
    brings = looks.brings;
    needed = looks.needed;
    says = says;
    stands = stands;
    calls_grow = looks.grows;
    taken_grow = Grows-none taken;
  }

module _ (size : List ℕ → Size) (shown : Showing) {heard : Heard} {found : Found} {new : Reading} {calls_before calls_after : Option (List Call)} (looks : Looks size heard (mark.Message found) new calls_before calls_after) {taken_before taken_after : Option (List ℕ)} where
  with_lines : (result : Result (Option FollowEnd) SessionFault) (taken : List ℕ) → Says shown (Message (placed_in new found)) result taken → Grows taken_before taken taken_after
      → Turns size shown heard result new calls_before calls_after taken_before taken_after
  with_lines result taken says grows = record {
    mark = Message (placed_in new found);
    takes = looks.takes;
    later = looks.later;
    taken = taken;
    brings = looks.brings;
    needed = looks.needed;
    says = says;
    stands = ok_holds result looks.stands;
    calls_grow = looks.grows;
    taken_grow = grows;
  }

  pub Turns-message : (result : Result (Option FollowEnd) SessionFault) → Writes (shown (found_in new found)) taken_before result taken_after → Turns size shown heard result new calls_before calls_after taken_before taken_after
  Turns-message (Ok None) writes = with_lines (Ok None) (shown (found_in new found)) (refl, sym (append-nil (shown (found_in new found)))) writes
  Turns-message (Ok (Some WriteFault)) writes =
      with_lines (Ok (Some WriteFault)) writes.1.front (record { message = placed_in new found; rest = writes.0; is = refl; whole = writes.1.whole }) writes.1.grows
  Turns-message (Ok (Some LinkEnd)) writes = absurd writes
  Turns-message (Ok (Some TurnsSpent)) writes = absurd writes
  Turns-message (Err fault.OutOfMemory) writes = with_lines (Err fault.OutOfMemory) [] (placed_in new found, refl, refl) writes
  Turns-message (Err fault.LinkFault) writes = absurd writes
  Turns-message (Err fault.LinkEnd) writes = absurd writes
  Turns-message (Err fault.TimedOut) writes = absurd writes
  Turns-message (Err fault.Flooded) writes = absurd writes
  Turns-message (Err (fault.Broken place)) writes = absurd writes
