-- One event after another is told.
use Rattle.std.proofs.Common.{◌≡◌, ℕ, zero, suc, ◌+◌, ◌^◌, ◌<◌, ◌≤◌, Bool, true, List, [], ◌∷◌, ◌++◌, length, drop, map, slice_get, Option, None, Some, Result, Ok, Err, OnOk, append_assoc, append-nil, length-append, drop_of_length-le, ap, sym, ◌∙◌, subst, arith, codes}
use Rattle.std.proofs.lemmas.List.{drop_more, length-map}
use Rattle.std.proofs.lemmas.Option.{slice_get-map, slice_get_within, get_or_from_slice_get}
use Rattle.std.specs.List.{flat_map}
use Rattle.std.specs.Option.{option_map}
use Rattle.framing.specs.declared.framing.Size.{Size}
use Rattle.framing.specs.Reading.{Reading}
use Rattle.kit_io.specs.Record.{Noted}
use Rattle.stream_lines.specs.Lines.{Showing}
use Rattle.link_io.specs.Target.{Address}
use Rattle.link_io.specs.Calls.{Opened, Sent, Took}
use Rattle.watched_link.specs.declared.note.LinkNote.{LinkNote}
use Rattle.watched_link.specs.Notes.{Event, Called, Said, event_of}
use Rattle.link_lines.specs.Laws.{sent_in, taken_in}
use Rattle.link_lines.specs.Directions.{AreShort, StandsFor, Telling}
use Rattle.link_lines.specs.Lines.{Fault, added, marked, parts_from, path_of, text_of}

-- where a call ends well, what it brings goes for what follows from it
pub on_ok : {T E : Type 0} (result : Result T E) {P Q : Type 0} → (P → Q) → OnOk result P → OnOk result Q
on_ok (Ok value) follows it = follows it
on_ok (Err error) follows it = tt

module _ {S : Type 0} (size : List ℕ → Size) (shows : Showing → List (List ℕ) → S → Type 0) (shown : Showing) (whole : List ℕ) (events : List Event) {text path : List ℕ} {sg : Bool} {sc : Reading} {ss : S} {sp : ℕ} {tg : Bool} {tc : Reading} {ts : S} {tp : ℕ} where
  -- it was opened to a path
  pub tells_opened : (address : Address) (ok : Bool) → Telling size shows shown whole (Called (Opened address ok) ∷ events) text path sg sc ss sp tg tc ts tp → (path' : List ℕ) {sg' : Bool} {sc' : Reading} {ss' : S} {sp' : ℕ} {tg' : Bool} {tc' : Reading} {ts' : S} {tp' : ℕ} → path' ≡ path_of address
      → StandsFor size shows shown [] sg' sc' ss' sp' → StandsFor size shows shown [] tg' tc' ts' tp' → Telling size shows shown whole events text path' sg' sc' ss' sp' tg' tc' ts' tp'
  tells_opened address ok told path' is sent taken = record {
    sent = [];
    taken = [];
    sent_stands = sent;
    taken_stands = taken;
    sent_short = omega (arith, told.sent_short);
    taken_short = omega (arith, told.taken_short);
    said = ap (λ (p : List ℕ). text ++ flat_map text_of (parts_from size shown p [] [] events)) is ∙ told.said;
  }

  -- this was sent
  pub tells_sent : (bytes : List ℕ) → Telling size shows shown whole (Called (Sent bytes true) ∷ events) text path sg sc ss sp tg tc ts tp → (text' : List ℕ) {sg' : Bool} {sc' : Reading} {ss' : S} {sp' : ℕ}
      → ((before : List ℕ) → StandsFor size shows shown before sg sc ss sp → length before + length bytes < 2 ^ 64 → (text' ≡ text ++ marked (codes "> ") (added size shown before bytes)) × StandsFor size shows shown (before ++ bytes) sg' sc' ss' sp')
      → Telling size shows shown whole events text' path sg' sc' ss' sp' tg tc ts tp
  tells_sent bytes told text' does =
      let lengths = length-append bytes (sent_in events) in
      let more = does told.sent told.sent_stands (omega (arith, told.sent_short, lengths)) in
      let rest : List ℕ = flat_map text_of (parts_from size shown path (told.sent ++ bytes) told.taken events) in
      record {
        sent = told.sent ++ bytes;
        taken = told.taken;
        sent_stands = more.1;
        taken_stands = told.taken_stands;
        sent_short = omega (arith, told.sent_short, lengths, length-append told.sent bytes);
        taken_short = told.taken_short;
        said = ap (λ (l : List ℕ). l ++ rest) more.0 ∙ append_assoc text (marked (codes "> ") (added size shown told.sent bytes)) rest ∙ told.said;
      }

  -- this was taken
  pub tells_taken : (bytes : List ℕ) → Telling size shows shown whole (Called (Took bytes) ∷ events) text path sg sc ss sp tg tc ts tp → (text' : List ℕ) {tg' : Bool} {tc' : Reading} {ts' : S} {tp' : ℕ}
      → ((before : List ℕ) → StandsFor size shows shown before tg tc ts tp → length before + length bytes < 2 ^ 64 → (text' ≡ text ++ marked (codes "< ") (added size shown before bytes)) × StandsFor size shows shown (before ++ bytes) tg' tc' ts' tp')
      → Telling size shows shown whole events text' path sg sc ss sp tg' tc' ts' tp'
  tells_taken bytes told text' does =
      let lengths = length-append bytes (taken_in events) in
      let more = does told.taken told.taken_stands (omega (arith, told.taken_short, lengths)) in
      let rest : List ℕ = flat_map text_of (parts_from size shown path told.sent (told.taken ++ bytes) events) in
      record {
        sent = told.sent;
        taken = told.taken ++ bytes;
        sent_stands = told.sent_stands;
        taken_stands = more.1;
        sent_short = told.sent_short;
        taken_short = omega (arith, told.taken_short, lengths, length-append told.taken bytes);
        said = ap (λ (l : List ℕ). l ++ rest) more.0 ∙ append_assoc text (marked (codes "< ") (added size shown told.taken bytes)) rest ∙ told.said;
      }

  -- the system said this
  pub tells_fault : (words : List ℕ) → Telling size shows shown whole (Said words ∷ events) text path sg sc ss sp tg tc ts tp → (text' : List ℕ) → text' ≡ text ++ text_of (Fault path words) → Telling size shows shown whole events text' path sg sc ss sp tg tc ts tp
  tells_fault words told text' is =
      let rest : List ℕ = flat_map text_of (parts_from size shown path told.sent told.taken events) in
      record {
        sent = told.sent;
        taken = told.taken;
        sent_stands = told.sent_stands;
        taken_stands = told.taken_stands;
        sent_short = told.sent_short;
        taken_short = told.taken_short;
        said = ap (λ (l : List ℕ). l ++ rest) is ∙ append_assoc text (text_of (Fault path words)) rest ∙ told.said;
      }

  -- none is left to tell
  pub tells_all : Telling size shows shown whole events text path sg sc ss sp tg tc ts tp → events ≡ [] → text ≡ whole
  tells_all told none = sym (append-nil text) ∙ ap (λ (e : List Event). text ++ flat_map text_of (parts_from size shown path told.sent told.taken e)) (sym none) ∙ told.said

-- the same, by another name of what is left to tell
pub tells_as : {S : Type 0} {size : List ℕ → Size} {shows : Showing → List (List ℕ) → S → Type 0} {shown : Showing} {whole : List ℕ} {events others : List Event} {text path : List ℕ} {sg : Bool} {sc : Reading} {ss : S} {sp : ℕ} {tg : Bool} {tc : Reading} {ts : S} {tp : ℕ} → events ≡ others
    → Telling size shows shown whole events text path sg sc ss sp tg tc ts tp → Telling size shows shown whole others text path sg sc ss sp tg tc ts tp
tells_as {size = size} {shows = shows} {shown = shown} {whole = whole} {text = text} {path = path} {sg = sg} {sc = sc} {ss = ss} {sp = sp} {tg = tg} {tc = tc} {ts = ts} {tp = tp} is told =
    subst (λ (e : List Event). Telling size shows shown whole e text path sg sc ss sp tg tc ts tp) is told

-- nothing is told yet
pub tells_none : {S : Type 0} (size : List ℕ → Size) (shows : Showing → List (List ℕ) → S → Type 0) (shown : Showing) (events : List Event) (text path : List ℕ) {sg : Bool} {sc : Reading} {ss : S} {sp : ℕ} {tg : Bool} {tc : Reading} {ts : S} {tp : ℕ} → AreShort events → path ≡ []
    → StandsFor size shows shown [] sg sc ss sp → StandsFor size shows shown [] tg tc ts tp → Telling size shows shown (text ++ flat_map text_of (parts_from size shown [] [] [] events)) events text path sg sc ss sp tg tc ts tp
tells_none size shows shown events text path short is sent taken = record {
  sent = [];
  taken = [];
  sent_stands = sent;
  taken_stands = taken;
  sent_short = omega (arith, short.sent);
  taken_short = omega (arith, short.taken);
  said = ap (λ (p : List ℕ). text ++ flat_map text_of (parts_from size shown p [] [] events)) is;
}

-- ---- the events that are noted ----

pub known : {A : Type 0} {recorded : Option A} {all : A} → recorded ≡ Some all → ¬ (recorded ≡ None)
known is = λ none. cc

-- that at a place is the first of those that are left
pub next_is : (all : List (Noted LinkNote)) (index : ℕ) (noted : Noted LinkNote) → slice_get all index ≡ Some noted → drop index (map event_of all) ≡ event_of noted ∷ drop (index + 1) (map event_of all)
next_is all index noted is =
    let got : slice_get (map event_of all) index ≡ Some (event_of noted) = slice_get-map event_of all index ∙ ap (option_map event_of) is in
    drop_more (map event_of all) index (event_of noted) (slice_get_within (map event_of all) index (event_of noted) got)
    ∙ ap (λ (e : Event). e ∷ drop (index + 1) (map event_of all)) (get_or_from_slice_get (map event_of all) index (event_of noted) (event_of noted) got)

past : {A : Type 0} (list : List A) (index : ℕ) → slice_get list index ≡ None → length list ≤ index
past [] index is = omega arith
past (a ∷ list) zero is = absurd (cc)
past (a ∷ list) (suc index) is = let later = past list index is in omega (arith, later)

pub none_behind : (all : List (Noted LinkNote)) (index : ℕ) → length all ≤ index → drop index (map event_of all) ≡ []
none_behind all index few = drop_of_length-le (map event_of all) {i = index} (omega (arith, few, length-map all event_of))

pub none_next : (all : List (Noted LinkNote)) (index : ℕ) → slice_get all index ≡ None → drop index (map event_of all) ≡ []
none_next all index none = none_behind all index (past all index none)
