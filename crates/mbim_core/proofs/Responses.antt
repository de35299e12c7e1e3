-- What an answer makes of a state, from what the code sees of the request of its number.
use Rattle.std.proofs.Common.{◌≡◌, ℕ, Bool, true, false, List, ap, sym, ◌∙◌, Option, Some, None, is_some}
use Rattle.number_space.specs.declared.space.Row.{Row}
use Rattle.number_space.specs.Table.{row_of, answers}
use Rattle.number_space.proofs.Due.{FoundRow}
use Rattle.mbim_frame.specs.Head.{number_of}
use Rattle.mbim_proxy.specs.Setup.{Setup}
use Rattle.mbim_proxy.specs.FromModem.{Heard, IsOpenDone, opening_status}
use Rattle.mbim_state.specs.declared.asked.Asked.{Asked}
use Rattle.mbim_state.specs.declared.asked.Asked.TheVariants as asked
use Rattle.mbim_state.specs.Core.{ModemSide, MbimState}
use Rattle.mbim_state.specs.Transitions.{with_side, with_numbers, is_for, answer_if, respond_if, respond_to, respond, ends_opening}
use Rattle.mbim_core.specs.State.{Settles}
use Rattle.mbim_core.specs.Told.{rows_at}

module _ (heard : Heard) (number : ℕ) (x : MbimState) where
  -- no request has the number
  pub stray_settles : row_of number (rows_at x) ≡ None → Settles heard number x x None
  stray_settles none s m is = sym (ap (λ (n : ℕ). respond_to (row_of n (rows_at x)) s heard m x) is ∙ ap (λ (o : Option (Row Asked)). respond_to o s heard m x) none)

  module _ (name : ℕ) (note : Asked) (waits : Bool) (F : FoundRow number name note waits (rows_at x)) where
    responded_row : (s : Setup) (m : List ℕ) → number_of m ≡ number → (fits : Bool) → is_for heard note ≡ fits → respond s heard m x ≡ respond_if fits s F.row m x
    responded_row s m is fits test =
        ap (λ (n : ℕ). respond_to (row_of n (rows_at x)) s heard m x) is
        ∙ ap (λ (o : Option (Row Asked)). respond_to o s heard m x) F.at ∙ ap (λ (a : Asked). respond_if (is_for heard a) s F.row m x) F.asked ∙ ap (λ (b : Bool). respond_if b s F.row m x) test

    -- the message is none for that request
    pub other_settles : is_for heard note ≡ false → Settles heard number x x None
    other_settles other s m is = sym (responded_row s m is false other)

    module _ (fits : is_for heard note ≡ true) (side : ModemSide) (made : side ≡ record x.beside { numbers = answers number x.beside.numbers }) where
      freed : (s : Setup) (m : List ℕ) → number_of m ≡ number → respond s heard m x ≡ answer_if waits s note name m (with_side side x)
      freed s m is =
          responded_row s m is true fits
          ∙ ap (λ (n : ℕ). answer_if F.row.pending s F.row.note F.row.conn m (with_numbers (answers n x.beside.numbers) x)) (sym F.same_number)
          ∙ ap (λ (b : ModemSide). answer_if F.row.pending s F.row.note F.row.conn m (with_side b x)) (sym made)
          ∙ ap (λ (b : Bool). answer_if b s F.row.note F.row.conn m (with_side side x)) F.pending
          ∙ ap (λ (a : Asked). answer_if waits s a F.row.conn m (with_side side x)) F.asked
          ∙ ap (λ (n : ℕ). answer_if waits s note n m (with_side side x)) F.conn

      -- nobody waits for it any more
      pub late_settles : waits ≡ false → Settles heard number x (with_side side x) None
      late_settles late s m is = sym (freed s m is ∙ ap (λ (b : Bool). answer_if b s note name m (with_side side x)) late)

      -- somebody does
      pub waiting_settles : waits ≡ true → Settles heard number x (with_side side x) (Some (name, note))
      waiting_settles waiting = record { fits = fits; answered = λ s m is. freed s m is ∙ ap (λ (b : Bool). answer_if b s note name m (with_side side x)) waiting }

-- ---- whether somebody waited ----

pub settled_none : (heard : Heard) (number : ℕ) (old new : MbimState) (result : Option (ℕ × Asked)) → is_some result ≡ false → Settles heard number old new result → (s : Setup) (m : List ℕ) → number_of m ≡ number → new ≡ respond s heard m old
settled_none heard number old new None test S s m is = S s m is
settled_none heard number old new (Some (name, note)) test S s m is = absurd (cc)

pub settled_open : (number : ℕ) (old new : MbimState) (result : Option (ℕ × Asked)) → is_some result ≡ true → Settles IsOpenDone number old new result → (s : Setup) (m : List ℕ) → number_of m ≡ number
    → respond s IsOpenDone m old ≡ ends_opening s (opening_status m) new
settled_open number old new None test S s m is = absurd (cc)
settled_open number old new (Some (name, asked.Open)) test S s m is = S.answered s m is
settled_open number old new (Some (name, asked.Command command)) test S s m is = absurd (let no : false ≡ true = S.fits in cc)
