-- What a response makes of a core.
use Rattle.std.proofs.Common.{◌≡◌, ℕ, Bool, true, false, ◌&&◌, ◌==◌, List, refl, ap, sym, ◌∙◌, Option, Some, option_map}
use Rattle.number_space.proofs.Due.{FoundRow, looked, found_row}
use Rattle.qmux_frame.specs.Head.{service_of, is_control, cid_of, number_of}
use Rattle.qmi_proxy.specs.FromModem.{IdChange, NoChange, Grants, Collides, Frees}
use Rattle.qmi_state.specs.declared.asked.Asked.{Asked}
use Rattle.qmi_state.specs.Traffic.{Row, Traffic, of_control, with_numbers, row_numbered, frees}
use Rattle.qmi_state.specs.Core.{QmiState}
use Rattle.qmi_state.specs.Transitions.{with_traffic, change_by, holder_brought, answers, answers_sender, answers_if, fits, responds_if, responds_to, responds}
use Rattle.qmi_core.specs.State.{answers_to, answers_from}

answers_is : (row : Row) (m : List ℕ) (change : IdChange) (x : QmiState) → answers row m change x ≡ answers_to row.conn row.note m change x
answers_is row m NoChange x = refl
answers_is row m (Grants service cid) x = refl
answers_is row m Collides x = refl
answers_is row m (Frees service cid) x = refl

sender_is : (own : Bool) (row : Row) (m : List ℕ) (x : QmiState) → answers_sender own row m x ≡ answers_from own row.conn row.note m x
sender_is true row m x = refl
sender_is false row m x = answers_is row m (change_by row.conn row.note m (holder_brought m x.beside.traffic)) x

-- what the code reads of the message, what it finds by that, and what is left once the number is free
module _ (m : List ℕ) (was : QmiState)
    (control : Bool) (control_is : control ≡ is_control m) (number : ℕ) (number_is : number ≡ number_of m)
    (name : ℕ) (note : Asked) (waits : Bool) (looks : Some (name, note, waits) ≡ option_map looked (row_numbered number (of_control control was.beside.traffic).rows))
    (service : ℕ) (service_is : service ≡ service_of m) (cid : ℕ) (cid_is : cid ≡ cid_of m) (fitting : true ≡ (service_of note.head == service && (cid_of note.head == cid)))
    (traffic_after : Traffic) (made : traffic_after ≡ with_numbers control (frees number (of_control control was.beside.traffic)) was.beside.traffic) where
  abbrev after_it : QmiState
  after_it = with_traffic traffic_after was

  F : FoundRow (number_of m) name note waits (of_control (is_control m) was.beside.traffic).rows
  F =
      found_row (number_of m) name note waits (of_control (is_control m) was.beside.traffic).rows
      (looks ∙ ap (λ (b : Bool). option_map looked (row_numbered number (of_control b was.beside.traffic).rows)) control_is ∙ ap (λ (n : ℕ). option_map looked (row_numbered n (of_control (is_control m) was.beside.traffic).rows)) number_is)

  fits_row : fits m F.row ≡ true
  fits_row =
      ap (λ (a : Asked). service_of a.head == service_of m && (cid_of a.head == cid_of m)) F.asked
      ∙ sym (fitting ∙ ap (λ (n : ℕ). service_of note.head == n && (cid_of note.head == cid)) service_is ∙ ap (λ (n : ℕ). service_of note.head == service_of m && (cid_of note.head == n)) cid_is)

  freed : traffic_after ≡ with_numbers (is_control m) (frees F.row.number (of_control (is_control m) was.beside.traffic)) was.beside.traffic
  freed =
      made ∙ ap (λ (b : Bool). with_numbers b (frees number (of_control b was.beside.traffic)) was.beside.traffic) control_is
      ∙ ap (λ (n : ℕ). with_numbers (is_control m) (frees n (of_control (is_control m) was.beside.traffic)) was.beside.traffic) (number_is ∙ F.same_number)

  responds_is : (pending : Bool) → F.row.pending ≡ pending → responds m was ≡ answers_if pending F.row m after_it
  responds_is pending is =
      ap (λ (o : Option Row). responds_to o m was) F.at
      ∙ ap (λ (b : Bool). responds_if b F.row m was) fits_row
      ∙ ap (λ (b : Bool). answers_if b F.row m (with_traffic (with_numbers (is_control m) (frees F.row.number (of_control (is_control m) was.beside.traffic)) was.beside.traffic) was)) is
      ∙ ap (λ (d : Traffic). answers_if pending F.row m (with_traffic d was)) (sym freed)

  -- somebody waits for it
  pub responded_waits : waits ≡ true → (after : QmiState) → after ≡ answers_from (name == 0) name note m after_it → after ≡ responds m was
  responded_waits waiting after is =
      is
      ∙ ap (λ (n : ℕ). answers_from (n == 0) n note m after_it) (sym F.conn)
      ∙ ap (λ (a : Asked). answers_from (F.row.conn == 0) F.row.conn a m after_it) (sym F.asked)
      ∙ sym (responds_is true (F.pending ∙ waiting) ∙ sender_is (F.row.conn == 0) F.row m after_it)

  -- or nobody does
  pub responded_late : waits ≡ false → after_it ≡ responds m was
  responded_late late = sym (responds_is false (F.pending ∙ late))
