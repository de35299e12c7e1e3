-- What others do, and what the proxy asks by itself, leave a client's part of the history as it is.
use Rattle.std.proofs.Common.{◌≡◌, ◌≢◌, ℕ, Bool, true, false, ◌==◌, List, ◌∷◌, ◌++◌, map, refl, ap, sym, ◌∙◌, ⊎_elim}
use Rattle.std.specs.List.{AllByRecursion}
use Rattle.std.proofs.lemmas.Bool.{eqb-true}
use Rattle.proxy_history.specs.Items.{Item, Joins, Says, GoesBad, Leaves, Takes, ModemTakes, item_if}
use Rattle.proxy_history.specs.Facts.{Fact, Request, NotAdmitted, BadStream, NoRoom, Leaving, Admitted, Ended, Judged, Taken, Forwarded, Granted, ListSent, ModemTaken}
use Rattle.proxy_history.specs.Sound.{IsSound}
use Rattle.proxy_history.specs.Protocol.{Protocol}
use Rattle.proxy_history.specs.History.{add_all}
use Rattle.proxy_history.specs.Adding.{MayAdd, MayFinish, IsOrderly}
use Rattle.proxy_history.proofs.Walk.{behind_messages, one_if, kept_by_items, kept_at_end}
use Rattle.proxy_solo.specs.Part.{concerns, as_known, facts_if, part}

-- an item of another than the client, or a taking of the modem
abbrev pub IsElsewhere : ℕ → Item → Type 0
IsElsewhere c (Joins d) = (d == c) ≡ false
IsElsewhere c (Says d m) = (d == c) ≡ false
IsElsewhere c (GoesBad d) = (d == c) ≡ false
IsElsewhere c (Leaves d) = (d == c) ≡ false
IsElsewhere c (Takes d count) = (d == c) ≡ false
IsElsewhere c (ModemTakes count) = Unit {0}
IsElsewhere c _ = ⊥

-- the client isn't the proxy itself
other_than_0 : (c : ℕ) → c ≢ 0 → (0 == c) ≡ false
other_than_0 c client =
    let step : (b : Bool) → (0 == c) ≡ b → b ≡ false = λ b. elim b as (λ b. (0 == c) ≡ b → b ≡ false) [ true ↦ λ e. absurd (client (sym (eqb-true 0 c e))) | false ↦ λ e. refl ] in
    step (0 == c) refl

theirs : (c d e : ℕ) → e ≡ d → (d == c) ≡ false → (e == c) ≡ false
theirs c d e same other = ap (λ (x : ℕ). x == c) same ∙ other

module _ (c : ℕ) (client : c ≢ 0) where
  pub own_is_theirs : (d : ℕ) → d ≡ 0 → (d == c) ≡ false
  own_is_theirs d is = theirs c 0 d is (other_than_0 c client)

  pub elsewhere_concerns : (item : Item) → IsElsewhere c item → (fact : Fact) (past : List Fact) → MayAdd item fact past → concerns c fact ≡ false
  elsewhere_concerns (Joins d) other (Admitted e) past may = theirs c d e may other
  elsewhere_concerns (Joins d) other (Ended e NotAdmitted) past may = theirs c d e may other
  elsewhere_concerns (Joins d) other _ past may = absurd may
  elsewhere_concerns (Says d m) other (Judged e place message verdict) past may = theirs c d e may.0 other
  elsewhere_concerns (Says d m) other (Forwarded r) past may = ⊎_elim (λ (is : r.conn ≡ d). theirs c d r.conn is other) (λ (is : r.conn ≡ 0). own_is_theirs r.conn is) may
  elsewhere_concerns (Says d m) other (Granted e service id) past may = theirs c d e may other
  elsewhere_concerns (Says d m) other (Ended e NoRoom) past may = theirs c d e may other
  elsewhere_concerns (Says d m) other _ past may = absurd may
  elsewhere_concerns (GoesBad d) other (Ended e BadStream) past may = theirs c d e may other
  elsewhere_concerns (GoesBad d) other _ past may = absurd may
  elsewhere_concerns (Leaves d) other (Ended e Leaving) past may = theirs c d e may other
  elsewhere_concerns (Leaves d) other _ past may = absurd may
  elsewhere_concerns (Takes d count) other (Taken e taken) past may = theirs c d e may.0 other
  elsewhere_concerns (Takes d count) other _ past may = absurd may
  elsewhere_concerns (ModemTakes count) other (ModemTaken taken) past may = refl
  elsewhere_concerns (ModemTakes count) other _ past may = absurd may
  elsewhere_concerns _ other _ past may = absurd other

  end_concerns : (fact : Fact) (past : List Fact) → MayFinish fact past → concerns c fact ≡ false
  end_concerns (Forwarded r) past may = own_is_theirs r.conn may
  end_concerns (ListSent list) past may = refl
  end_concerns _ past may = absurd may

  module _ {Known : Type 0} (p : Protocol Known) (Asks : Request → List Fact → Type 0) (O : IsOrderly p Asks) (restated : Fact → List Fact) where
    abbrev part_of : List Fact → List Fact
    part_of past = part p.wording.blank restated c past

    passes : (fact : Fact) (past before : List Fact) → concerns c fact ≡ false → part_of past ≡ part_of before → part_of (fact ∷ past) ≡ part_of before
    unfolding part
    passes fact past before other same = ap (λ (b : Bool). facts_if b (restated (as_known p.wording.blank c fact)) (part_of past)) other ∙ same

    pub items_elsewhere : (items : List Item) (past : List Fact) → AllByRecursion (IsElsewhere c) items → IsSound p.limits past → part_of (add_all p items past) ≡ part_of past
    items_elsewhere items past all sound =
        kept_by_items p Asks O (λ after. part_of after ≡ part_of past) (IsElsewhere c)
        (λ item other fact before follows may asked same. passes fact before past (elsewhere_concerns item other fact before may) same) items past all sound refl

    pub finish_elsewhere : (past : List Fact) → IsSound p.limits past → part_of (p.finish past) ≡ part_of past
    finish_elsewhere past sound =
        kept_at_end p Asks O (λ after. part_of after ≡ part_of past) (λ fact before follows may asked same. passes fact before past (end_concerns fact before may) same) past sound refl

    -- the bytes of another
    pub piece_elsewhere : (d : ℕ) → (d == c) ≡ false → (messages : List (List ℕ)) (bad : Bool) (past : List Fact) → IsSound p.limits past
        → part_of (add_all p (map (λ m. Says d m) messages ++ item_if bad (GoesBad d)) past) ≡ part_of past
    piece_elsewhere d other messages bad past sound =
        items_elsewhere (map (λ m. Says d m) messages ++ item_if bad (GoesBad d)) past
        (behind_messages (IsElsewhere c) (λ m. Says d m) messages (item_if bad (GoesBad d)) (λ m. other) (one_if (IsElsewhere c) bad (GoesBad d) other)) sound
