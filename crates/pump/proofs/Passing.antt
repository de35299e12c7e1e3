-- How the takes of a link go on and end.
use Rattle.std.proofs.Common.{◌≡◌, ℕ, ◌+◌, ◌<◌, ◌≤◌, List, [], ◌∷◌, ◌++◌, length, map, take, drop, slice_range, All, Option, Result, Ok, Err, refl, sym, ◌∙◌, ap, subst, rules, arith, length-append, append_assoc, take-append-drop}
use Rattle.std.proofs.lemmas.List.{map_push, map-append, append-nil, length-take-le}
use Rattle.std.proofs.lemmas.List.Elements.{All-push}
use Rattle.std.proofs.lemmas.Slice.{between_to_end}
use Rattle.std.specs.List.{concat, AllByRecursion}
use Rattle.kit_bytes.proofs.Lists.{concat-push}
use Rattle.kit_io.specs.Growth.{Grows}
use Rattle.kit_io.proofs.Growth.{Grows-none, Grows-append}
use Rattle.link_io.specs.Calls as link
use Rattle.file_io.specs.Calls as file
use Rattle.pump.specs.declared.ending.PumpEnd.{PumpEnd}
use Rattle.pump.specs.declared.stream.Stream.{Stream}
use Rattle.pump.specs.Beginning.{GrowBy}
use Rattle.pump.specs.Writes.{some, writes_behind, writes_of}
use Rattle.pump.specs.Stream.{StandsFor}
use Rattle.pump.specs.Writing.{all_parts, AllWritten, FrontWritten, Wrote, WritesAll, IsPassed, bytes_of, taken, EndsWriting, WritesTakes}
use Rattle.pump.proofs.Ends.{writes_of-push, writes_behind-nil}

abbrev pub IsSome : List ℕ → Type 0
IsSome part = 0 < length part

-- ---- writes behind each other ----

each-append : (first more : List (List ℕ)) → AllByRecursion IsSome first → AllByRecursion IsSome more → AllByRecursion IsSome (first ++ more)
each-append [] more each others = others
each-append (part ∷ first) more each others = (each.0, each-append first more each.1 others)

pub all_parts-append : (first more : List (List (List ℕ))) → all_parts (first ++ more) ≡ all_parts first ++ all_parts more
all_parts-append [] more = refl
all_parts-append (write ∷ first) more = ap (λ (l : List (List ℕ)). write ++ l) (all_parts-append first more) ∙ sym (append_assoc write (all_parts first) (all_parts more))

pub AllWritten-none : AllWritten [] []
AllWritten-none = record { parts = []; each = tt; whole = refl; are = refl }

pub AllWritten-append : {first more : List (List ℕ)} {calls others : List file.Call} → AllWritten first calls → AllWritten more others → AllWritten (first ++ more) (calls ++ others)
AllWritten-append {first = first} {calls = calls} {others = others} one two =
    let joined = all_parts-append one.parts two.parts in
    record {
      parts = one.parts ++ two.parts;
      each = subst (AllByRecursion IsSome) (sym joined) (each-append (all_parts one.parts) (all_parts two.parts) one.each two.each);
      whole = map-append concat one.parts two.parts ∙ ap (λ (l : List (List ℕ)). l ++ map concat two.parts) one.whole ∙ ap (λ (l : List (List ℕ)). first ++ l) two.whole;
      are =
          ap (λ (l : List file.Call). l ++ others) one.are
          ∙ ap (λ (l : List file.Call). map file.Took (all_parts one.parts) ++ l) two.are
          ∙ sym (map-append file.Took (all_parts one.parts) (all_parts two.parts))
          ∙ ap (map file.Took) (sym joined);
    }

pub FrontWritten-behind : {first more : List (List ℕ)} {calls others : List file.Call} → AllWritten first calls → FrontWritten more others → FrontWritten (first ++ more) (calls ++ others)
FrontWritten-behind {first = first} {calls = calls} {others = others} one two =
    let joined = all_parts-append one.parts two.parts in
    let parts_are : all_parts (one.parts ++ two.parts) ++ two.front ≡ all_parts one.parts ++ (all_parts two.parts ++ two.front) =
    ap (λ (l : List (List ℕ)). l ++ two.front) joined ∙ append_assoc (all_parts one.parts) (all_parts two.parts) two.front in
    let tail : List (List ℕ) = (concat two.front ++ two.rest) ∷ two.later in
    record {
      parts = one.parts ++ two.parts;
      front = two.front;
      rest = two.rest;
      later = two.later;
      each = subst (AllByRecursion IsSome) (sym parts_are) (each-append (all_parts one.parts) (all_parts two.parts ++ two.front) one.each two.each);
      left = two.left;
      whole =
          ap (λ (l : List (List ℕ)). l ++ tail) (map-append concat one.parts two.parts ∙ ap (λ (l : List (List ℕ)). l ++ map concat two.parts) one.whole)
          ∙ append_assoc first (map concat two.parts) tail
          ∙ ap (λ (l : List (List ℕ)). first ++ l) two.whole;
      are =
          ap (λ (l : List file.Call). l ++ others) one.are
          ∙ ap (λ (l : List file.Call). map file.Took (all_parts one.parts) ++ l) two.are
          ∙ sym (append_assoc (map file.Took (all_parts one.parts)) (map file.Took (all_parts two.parts ++ two.front)) (file.WriteFailed ∷ []))
          ∙ ap (λ (l : List file.Call). l ++ file.WriteFailed ∷ []) (sym (map-append file.Took (all_parts one.parts) (all_parts two.parts ++ two.front)) ∙ ap (map file.Took) (sym parts_are));
    }

-- of more writes it is a front too
pub FrontWritten-of : {writes : List (List ℕ)} {calls : List file.Call} (more : List (List ℕ)) → FrontWritten writes calls → FrontWritten (writes ++ more) calls
FrontWritten-of more one = record {
  parts = one.parts;
  front = one.front;
  rest = one.rest;
  later = one.later ++ more;
  each = one.each;
  left = one.left;
  whole = sym (append_assoc (map concat one.parts) ((concat one.front ++ one.rest) ∷ one.later) more) ∙ ap (λ (l : List (List ℕ)). l ++ more) one.whole;
  are = one.are;
}

Wrote-append : {T E : Type 0} {first : List (List ℕ)} {calls : List file.Call} (more : List (List ℕ)) (others : List file.Call) (result : Result T E) → AllWritten first calls → Wrote more result others → Wrote (first ++ more) result (calls ++ others)
Wrote-append more others (Ok t) one two = AllWritten-append one two
Wrote-append more others (Err e) one two = FrontWritten-behind one two

-- writes, and then others, of which one may fail
pub WritesAll-behind : {T E : Type 0} {first more : List (List ℕ)} {calls : List file.Call} {old mid new : Option (List file.Call)} {result : Result T E}
    → AllWritten first calls → Grows old calls mid → WritesAll more mid result new → WritesAll (first ++ more) old result new
WritesAll-behind {calls = calls} {result = result} one grows two = record { calls = calls ++ two.calls; are = Wrote-append _ two.calls result one two.are; grows = Grows-append grows two.grows }

-- where one failed, others were to come
pub WritesAll-fails : {T E U F : Type 0} {writes : List (List ℕ)} {old new : Option (List file.Call)} {e : E} (f : F) (more : List (List ℕ))
    → WritesAll {T = T} {E = E} writes old (Err e) new → WritesAll {T = U} {E = F} (writes ++ more) old (Err f) new
WritesAll-fails f more one = record { calls = one.calls; are = FrontWritten-of more one.are; grows = one.grows }

-- ---- one write ----

-- all but this rest was written
pub record HasWritten (bytes rest : List ℕ) (old now : Option (List file.Call)) : Type 0 where
  pub parts : List (List ℕ)
  pub each : AllByRecursion IsSome parts
  pub whole : bytes ≡ concat parts ++ rest
  pub grows : Grows old (map file.Took parts) now

pub HasWritten-none : (bytes : List ℕ) (old : Option (List file.Call)) → HasWritten bytes bytes old old
HasWritten-none bytes old = record { parts = []; each = tt; whole = refl; grows = Grows-none old }

-- nothing is left to write
pub no_bytes : (bytes : List ℕ) → length bytes ≡ 0 → bytes ≡ []
no_bytes [] none = refl
no_bytes (byte ∷ bytes) none = absurd (omega (arith, none))

-- parts of one write
one_write : (parts : List (List ℕ)) → AllByRecursion IsSome parts → AllWritten (some (concat parts)) (map file.Took parts)
one_write [] each = AllWritten-none
one_write ([] ∷ parts) each = absurd (omega (arith, each.0))
one_write ((byte ∷ bytes) ∷ parts) each = record {
  parts = ((byte ∷ bytes) ∷ parts) ∷ [];
  each = subst (AllByRecursion IsSome) (sym (append-nil ((byte ∷ bytes) ∷ parts))) each;
  whole = refl;
  are = ap (map file.Took) (sym (append-nil ((byte ∷ bytes) ∷ parts)));
}

pub some_is : (bytes : List ℕ) → 0 < length bytes → some bytes ≡ bytes ∷ []
some_is [] long = absurd (omega (arith, long))
some_is (byte ∷ bytes) long = refl

module _ {bytes rest : List ℕ} {old now : Option (List file.Call)} (so_far : HasWritten bytes rest old now) where
  -- one part more
  pub HasWritten-more : (count : ℕ) {new : Option (List file.Call)} → 0 < count → count ≤ length rest → Grows now (file.Took (take count rest) ∷ []) new → HasWritten bytes (slice_range rest count (length rest)) old new
  HasWritten-more count long within grows =
      let long_part : 0 < length (take count rest) = omega (arith, long, length-take-le count rest within) in
      record {
        parts = so_far.parts ++ take count rest ∷ [];
        each = each-append so_far.parts (take count rest ∷ []) so_far.each (long_part, tt);
        whole =
            so_far.whole
            ∙ ap (λ l. concat so_far.parts ++ l) (sym (take-append-drop count rest))
            ∙ sym (append_assoc (concat so_far.parts) (take count rest) (drop count rest))
            ∙ ap (λ l. l ++ drop count rest) (sym (concat-push so_far.parts (take count rest)))
            ∙ ap (λ l. concat (so_far.parts ++ take count rest ∷ []) ++ l) (sym (between_to_end rest count (length rest) (omega arith)));
        grows = rw (map_push file.Took so_far.parts (take count rest)) (Grows-append so_far.grows grows);
      }

  -- nothing is left
  pub HasWritten-all : {T E : Type 0} (t : T) → rest ≡ [] → WritesAll {T = T} {E = E} (some bytes) old (Ok t) now
  HasWritten-all t none =
      let whole : bytes ≡ concat so_far.parts = so_far.whole ∙ ap (λ (l : List ℕ). concat so_far.parts ++ l) none ∙ append-nil (concat so_far.parts) in
      record { calls = map file.Took so_far.parts; are = subst (λ (l : List ℕ). AllWritten (some l) (map file.Took so_far.parts)) (sym whole) (one_write so_far.parts so_far.each); grows = so_far.grows }

  -- a part failed
  pub HasWritten-fails : {T E : Type 0} (e : E) {new : Option (List file.Call)} → 0 < length rest → Grows now (file.WriteFailed ∷ []) new → WritesAll {T = T} {E = E} (some bytes) old (Err e) new
  HasWritten-fails e left grows =
      let long : 0 < length bytes = omega (arith, left, ap length so_far.whole, length-append (concat so_far.parts) rest) in
      record {
        calls = map file.Took so_far.parts ++ file.WriteFailed ∷ [];
        are = record {
          parts = [];
          front = so_far.parts;
          rest = rest;
          later = [];
          each = so_far.each;
          left = left;
          whole = ap (λ (l : List ℕ). l ∷ []) (sym so_far.whole) ∙ sym (some_is bytes long);
          are = refl;
        };
        grows = Grows-append so_far.grows grows;
      }

-- ---- take after take ----

-- the writes were made of all that so many takes gave
pub record HasPassed (count : ℕ) (link_old : Option (List link.Call)) (files_old : Option (List file.Call)) (link_now : Option (List link.Call)) (files_now : Option (List file.Call)) (stream : Stream) : Type 0 where
  pub takes : List link.Call
  pub writes : List file.Call
  pub each : All IsPassed takes
  pub counted : length takes ≡ count
  pub all : AllWritten (writes_of [] (map bytes_of takes)) writes
  pub took : Grows link_old takes link_now
  pub written : Grows files_old writes files_now
  pub stands : StandsFor stream (taken takes)

pub HasPassed-none : (link_old : Option (List link.Call)) (files_old : Option (List file.Call)) (stream : Stream) → StandsFor stream [] → HasPassed 0 link_old files_old link_old files_old stream
HasPassed-none link_old files_old stream stands = record { takes = []; writes = []; each = search rules; counted = refl; all = AllWritten-none; took = Grows-none link_old; written = Grows-none files_old; stands = stands }

taken-push : (takes : List link.Call) (last : link.Call) → taken (takes ++ last ∷ []) ≡ taken takes ++ bytes_of last
taken-push takes last = ap concat (map_push bytes_of takes last) ∙ concat-push (map bytes_of takes) (bytes_of last)

writes-push : (takes : List link.Call) (last : link.Call) → writes_of [] (map bytes_of (takes ++ last ∷ [])) ≡ writes_of [] (map bytes_of takes) ++ writes_behind (taken takes) (bytes_of last)
writes-push takes last = ap (writes_of []) (map_push bytes_of takes last) ∙ writes_of-push [] (map bytes_of takes) (bytes_of last)

module _ {count : ℕ} {link_old link_now : Option (List link.Call)} {files_old files_now : Option (List file.Call)} {stream : Stream} (so_far : HasPassed count link_old files_old link_now files_now stream) where
  -- nothing came
  pub HasPassed-quiet : {link_new : Option (List link.Call)} → Grows link_now (link.WasQuiet ∷ []) link_new → HasPassed (count + 1) link_old files_old link_new files_now stream
  HasPassed-quiet quiet =
      let same : writes_of [] (map bytes_of (so_far.takes ++ link.WasQuiet ∷ [])) ≡ writes_of [] (map bytes_of so_far.takes) =
      writes-push so_far.takes link.WasQuiet ∙ ap (λ (l : List (List ℕ)). writes_of [] (map bytes_of so_far.takes) ++ l) (writes_behind-nil (taken so_far.takes)) ∙ append-nil (writes_of [] (map bytes_of so_far.takes)) in
      record {
        takes = so_far.takes ++ link.WasQuiet ∷ [];
        writes = so_far.writes;
        each = All-push IsPassed so_far.takes link.WasQuiet so_far.each tt;
        counted = omega (arith, length-append so_far.takes (link.WasQuiet ∷ []), so_far.counted);
        all = subst (λ (l : List (List ℕ)). AllWritten l so_far.writes) (sym same) so_far.all;
        took = Grows-append so_far.took quiet;
        written = so_far.written;
        stands = subst (StandsFor stream) (sym (taken-push so_far.takes link.WasQuiet ∙ append-nil (taken so_far.takes))) so_far.stands;
      }

  -- a piece came, and was written
  pub HasPassed-piece : {T E : Type 0} {t : T} (piece : List ℕ) {link_new : Option (List link.Call)} {files_new : Option (List file.Call)} {stream_new : Stream} → 0 < length piece → Grows link_now (link.Took piece ∷ []) link_new
      → ((before : List ℕ) → StandsFor stream before → WritesAll {T = T} {E = E} (writes_behind before piece) files_now (Ok t) files_new)
      → ((before : List ℕ) → StandsFor stream before → StandsFor stream_new (before ++ piece))
      → HasPassed (count + 1) link_old files_old link_new files_new stream_new
  HasPassed-piece piece long came writing stands =
      let wrote = writing (taken so_far.takes) so_far.stands in
      record {
        takes = so_far.takes ++ link.Took piece ∷ [];
        writes = so_far.writes ++ wrote.calls;
        each = All-push IsPassed so_far.takes (link.Took piece) so_far.each long;
        counted = omega (arith, length-append so_far.takes (link.Took piece ∷ []), so_far.counted);
        all = subst (λ (l : List (List ℕ)). AllWritten l (so_far.writes ++ wrote.calls)) (sym (writes-push so_far.takes (link.Took piece))) (AllWritten-append so_far.all wrote.are);
        took = Grows-append so_far.took came;
        written = Grows-append so_far.written wrote.grows;
        stands = subst (StandsFor _) (sym (taken-push so_far.takes (link.Took piece))) (stands (taken so_far.takes) so_far.stands);
      }

  -- how it ends
  pub HasPassed-ends : (turns : ℕ) (end : PumpEnd) (last_takes : List link.Call) (last_writes : List file.Call) {link_new : Option (List link.Call)} {files_new : Option (List file.Call)} → EndsWriting turns count (taken so_far.takes) end last_takes last_writes
      → Grows link_now last_takes link_new → Grows files_now last_writes files_new → GrowBy (WritesTakes turns end) link_old files_old link_new files_new
  HasPassed-ends turns end last_takes last_writes ends took wrote = record {
    on_link = so_far.takes ++ last_takes;
    on_files = so_far.writes ++ last_writes;
    are = record {
      takes = so_far.takes;
      writes = so_far.writes;
      last_takes = last_takes;
      last_writes = last_writes;
      each = so_far.each;
      all = so_far.all;
      ends = rw so_far.counted ends;
      took = refl;
      written = refl;
    };
    link_grows = Grows-append so_far.took took;
    files_grow = Grows-append so_far.written wrote;
  }
