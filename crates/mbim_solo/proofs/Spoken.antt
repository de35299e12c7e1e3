-- A message that the modem says in pieces of its own is heard with its last piece, where the modem's bytes before it leave nothing open.
use Rattle.std.proofs.Common.{◌≡◌, ℕ, ◌<◌, ◌≤◌, ◌^◌, Bool, false, if◌then◌else◌, List, [], ◌∷◌, ◌++◌, length, drop, map, Some, refl, ap, ap₂, sym, ◌∙◌, subst, arith, append_assoc, append-nil}
use Rattle.std.proofs.Math.Seq.{drop-append_seam}
use Rattle.framing.specs.Framing.{is_invalid, IsMessage}
use Rattle.framing.specs.Cutting.{Cutting, behind, cut_from}
use Rattle.framing.proofs.Cuts.{cut-append}
use Rattle.mbim_frame.specs.declared.kind.MessageKind.TheVariants.{CommandDone, IndicateStatus}
use Rattle.mbim_frame.specs.Kinds.{kind_number}
use Rattle.mbim_frame.specs.Writing.{unsplit}
use Rattle.mbim_frame.specs.Framing.{size_of-kept, size_of-positive}
use Rattle.mbim_fragments.specs.Splitting.{split}
use Rattle.mbim_fragments.specs.Assembling.{fresh, joining_behind, assembled_after}
use Rattle.mbim_fragments.proofs.Cutting.{pieces_are_cut}
use Rattle.mbim_frame.specs.Frame.{size_of, mbim_cut}
use Rattle.proxy_history.specs.Streams.{is_bad}
use Rattle.proxy_history.specs.Items.{ModemSays, ModemIsLost, item_if, modem_items, delivered, delivered_by_piece}
use Rattle.proxy_history.proofs.Pieces.{EndsMessage, ends_message, goes_on}
use Rattle.mbim_proxy.specs.Setup.{Setup}
use Rattle.mbim_proxy.specs.Delivering.{Begun, none_begun, is_fragment, heard_whole, heard_from, begun_from, begun_after, deliver}
use Rattle.mbim_proxy.specs.Delivered.{AreHeardAs, AreUnheard}
use Rattle.mbim_proxy.specs.History.{mbim_protocol}
use Rattle.mbim_proxy.proofs.Delivered.{heard_goes_on, answers_are_heard_whole, indications_are_heard_whole, answers_begin_unheard, indications_begin_unheard}

begun_goes_on : (longest : ℕ) (begun : Begun) (messages more : List (List ℕ)) → begun_from longest begun (messages ++ more) ≡ begun_from longest (begun_from longest begun messages) more
unfolding begun_from
begun_goes_on longest begun [] more = refl
begun_goes_on longest begun (m ∷ messages) more = begun_goes_on longest (begun_after longest begun m) messages more

module _ (s : Setup) where
  -- these bytes leave nothing open: they end with a message, and no fragment is due
  pub record IsQuiet (before : List ℕ) : Type 0 where
    pub rest : (mbim_cut before).rest ≡ []
    pub begun : begun_from s.longest_body none_begun (mbim_cut before).messages ≡ none_begun

  pub starts_quiet : IsQuiet []
  unfolding begun_from cut_from
  starts_quiet = record { rest = refl; begun = refl }

  module _ (before : List ℕ) (Q : IsQuiet before) where
    cut_behind : (bytes : List ℕ) → mbim_cut (before ++ bytes) ≡ behind (mbim_cut before).messages (mbim_cut bytes)
    cut_behind bytes = cut-append size_of before bytes ∙ ap (λ (l : List ℕ). behind (mbim_cut before).messages (mbim_cut (l ++ bytes))) Q.rest

    delivered_behind : (bytes : List ℕ) → delivered (mbim_protocol s) (before ++ bytes) ≡ delivered (mbim_protocol s) before ++ deliver s.longest_body (mbim_cut bytes).messages
    delivered_behind bytes =
        ap (λ (c : Cutting). deliver s.longest_body c.messages) (cut_behind bytes)
        ∙ heard_goes_on s.longest_body none_begun (mbim_cut before).messages (mbim_cut bytes).messages
        ∙ ap (λ (begun : Begun). deliver s.longest_body (mbim_cut before).messages ++ heard_from s.longest_body begun (mbim_cut bytes).messages) Q.begun

    -- what comes with a piece, where nothing was heard of the bytes before it
    comes_with : (front piece : List ℕ) → AreUnheard s.longest_body front → delivered_by_piece (mbim_protocol s) (before ++ front) piece ≡ deliver s.longest_body (mbim_cut (front ++ piece)).messages
    comes_with front piece none =
        ap₂ (λ (was is : List (List ℕ)). drop (length was) is)
        (delivered_behind front ∙ ap (λ (l : List (List ℕ)). delivered (mbim_protocol s) before ++ l) none.heard ∙ append-nil (delivered (mbim_protocol s) before))
        (ap (delivered (mbim_protocol s)) (append_assoc before front piece) ∙ delivered_behind (front ++ piece))
        ∙ drop-append_seam (delivered (mbim_protocol s) before) (deliver s.longest_body (mbim_cut (front ++ piece)).messages)

    good_with : (front piece : List ℕ) → is_bad size_of ((before ++ front) ++ piece) ≡ is_invalid (size_of (mbim_cut (front ++ piece)).rest)
    good_with front piece = ap (is_bad size_of) (append_assoc before front piece) ∙ ap (λ (c : Cutting). is_invalid (size_of c.rest)) (cut_behind (front ++ piece))

    -- a piece behind which the message goes on
    pub record GoesOnUnheard (front piece : List ℕ) : Type 0 where
      pub unheard : delivered_by_piece (mbim_protocol s) (before ++ front) piece ≡ []
      pub good : is_bad size_of ((before ++ front) ++ piece) ≡ false

    pub goes_on_unheard : (front piece : List ℕ) → AreUnheard s.longest_body front → AreUnheard s.longest_body (front ++ piece) → GoesOnUnheard front piece
    goes_on_unheard front piece none still = record {
      unheard = comes_with front piece none ∙ still.heard;
      good = good_with front piece ∙ still.good;
    }

    -- the piece that ends it
    pub record EndsHeard (front piece whole : List ℕ) : Type 0 where
      pub heard : delivered_by_piece (mbim_protocol s) (before ++ front) piece ≡ whole ∷ []
      pub good : is_bad size_of ((before ++ front) ++ piece) ≡ false
      pub quiet : IsQuiet ((before ++ front) ++ piece)

    pub ends_heard : (front piece whole : List ℕ) → AreUnheard s.longest_body front → (mbim_cut (front ++ piece)).rest ≡ [] → AreHeardAs s.longest_body (mbim_cut (front ++ piece)).messages whole → EndsHeard front piece whole
    ends_heard front piece whole none rest are =
        let cut : mbim_cut ((before ++ front) ++ piece) ≡ behind (mbim_cut before).messages (mbim_cut (front ++ piece)) = ap mbim_cut (append_assoc before front piece) ∙ cut_behind (front ++ piece) in
        record {
          heard = comes_with front piece none ∙ are.heard;
          good = good_with front piece ∙ ap (λ (l : List ℕ). is_invalid (size_of l)) rest;
          quiet = record {
            rest = ap (λ (c : Cutting). c.rest) cut ∙ rest;
            begun =
                ap (λ (c : Cutting). begun_from s.longest_body none_begun c.messages) cut
                ∙ begun_goes_on s.longest_body none_begun (mbim_cut before).messages (mbim_cut (front ++ piece)).messages
                ∙ ap (λ (begun : Begun). begun_from s.longest_body begun (mbim_cut (front ++ piece)).messages) Q.begun
                ∙ are.closed;
          };
        }

-- ---- one message ----

-- these bytes are one message, whole with the last of them and not before
pub record SaysOne (s : Setup) (bytes whole : List ℕ) : Type 0 where
  pub heard : AreHeardAs s.longest_body (mbim_cut bytes).messages whole
  pub rest : (mbim_cut bytes).rest ≡ []
  pub unheard : (front later : List ℕ) → front ++ later ≡ bytes → 0 < length later → AreUnheard s.longest_body front

module _ (s : Setup) (before bytes whole : List ℕ) (Q : IsQuiet s before) (one : SaysOne s bytes whole) where
  pub empty_is_unheard : AreUnheard s.longest_body []
  unfolding heard_from cut_from
  empty_is_unheard = record { heard = refl; good = refl }

  -- what it brings in one piece
  pub record ComesAtOnce : Type 0 where
    pub items : modem_items (mbim_protocol s) bytes (Some before) ≡ ModemSays whole ∷ []
    pub good : is_bad size_of (before ++ bytes) ≡ false
    pub quiet : IsQuiet s (before ++ bytes)

  pub comes_at_once : ComesAtOnce
  comes_at_once =
      let ends = ends_heard s before Q [] bytes whole empty_is_unheard one.rest one.heard in
      record {
        items = ap₂ (λ (messages : List (List ℕ)) (bad : Bool). map (λ m. ModemSays m) messages ++ item_if bad ModemIsLost) (ap (λ (l : List ℕ). delivered_by_piece (mbim_protocol s) l bytes) (sym (append-nil before)) ∙ ends.heard) good;
        good = good;
        quiet = subst (λ (l : List ℕ). IsQuiet s (l ++ bytes)) (append-nil before) ends.quiet;
      }
    where
      good : is_bad size_of (before ++ bytes) ≡ false
      good = ap (λ (l : List ℕ). is_bad size_of (l ++ bytes)) (sym (append-nil before)) ∙ (ends_heard s before Q [] bytes whole empty_is_unheard one.rest one.heard).good

-- ---- fragments ----

module _ (s : Setup) (number : ℕ) (body : List ℕ) (number_fits : number < 2 ^ 32) (fits : length body ≤ s.longest_body) (short : length body < 2 ^ 32) where
  pub answer_says_one : SaysOne s (split (kind_number CommandDone) number 4096 body) (unsplit (kind_number CommandDone) number body)
  answer_says_one = record {
    heard = answers_are_heard_whole s.longest_body number 4096 body number_fits (omega arith) (omega arith) fits short;
    rest = ap (λ (c : Cutting). c.rest) (pieces_are_cut (kind_number CommandDone) number 4096 body (omega arith) number_fits (omega arith) (omega arith) short);
    unheard = λ front later is some. answers_begin_unheard s.longest_body number 4096 body front later number_fits (omega arith) (omega arith) fits short is some;
  }

  pub indication_says_one : SaysOne s (split (kind_number IndicateStatus) number 4096 body) (unsplit (kind_number IndicateStatus) number body)
  indication_says_one = record {
    heard = indications_are_heard_whole s.longest_body number 4096 body number_fits (omega arith) (omega arith) fits short;
    rest = ap (λ (c : Cutting). c.rest) (pieces_are_cut (kind_number IndicateStatus) number 4096 body (omega arith) number_fits (omega arith) (omega arith) short);
    unheard = λ front later is some. indications_begin_unheard s.longest_body number 4096 body front later number_fits (omega arith) (omega arith) fits short is some;
  }

-- ---- a message that comes whole ----

module _ (s : Setup) (m : List ℕ) (is : IsMessage size_of m) (no_answer : is_fragment CommandDone m ≡ false) (no_indication : is_fragment IndicateStatus m ≡ false) where
  ends : EndsMessage size_of size_of-kept size_of-positive refl [] m m
  unfolding cut_from
  ends = ends_message size_of size_of-kept size_of-positive refl [] m [] m refl refl is

  cut_is : (mbim_cut m).messages ≡ m ∷ []
  unfolding cut_from
  cut_is = ends.messages

  pub plain_says_one : SaysOne s m m
  unfolding heard_from begun_from cut_from
  plain_says_one = record {
    heard = record {
      heard =
          ap (λ (messages : List (List ℕ)). deliver s.longest_body messages) cut_is
          ∙ ap₂ (λ (answer indication : Bool). (if answer then heard_whole m (joining_behind s.longest_body fresh m) else if indication then heard_whole m (joining_behind s.longest_body fresh m) else m ∷ []) ++ []) no_answer no_indication;
      closed =
          ap (λ (messages : List (List ℕ)). begun_from s.longest_body none_begun messages) cut_is
          ∙ ap₂ (λ (answer indication : Bool). let begun : Begun = record { answer = if answer then assembled_after s.longest_body fresh m else fresh; indication = if indication then assembled_after s.longest_body fresh m else fresh } in begun) no_answer no_indication;
    };
    rest = ends.rest;
    unheard =
        λ front later whole some.
        let goes = goes_on size_of size_of-kept size_of-positive refl [] front [] later refl (subst (IsMessage size_of) (sym whole) is) some in
        record { heard = ap (λ (messages : List (List ℕ)). deliver s.longest_body messages) goes.messages; good = goes.good };
  }
