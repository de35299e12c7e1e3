-- What the code makes of each event, as what the protocol's handlers make of it.
use Rattle.std.proofs.Common.{◌≡◌, ℕ, Bool, true, false, not, List, ◌++◌, refl, ap, sym, ◌∙◌, Option, Some, None, is_some, is_none, if◌then◌else◌}
use Rattle.framing.specs.Cutting.{cut}
use Rattle.connections.specs.Table.{Table, connection_in, joins, leaves, asked, first_dropped}
use Rattle.proxy_history.specs.Events.{Event, Joined, Left, ModemPiece, ModemGone, ModemBack}
use Rattle.proxy_history.specs.Streams.{Framing, is_invalid}
use Rattle.proxy_state.specs.State.{State, Core, Handlers}
use Rattle.proxy_state.specs.Step.{given_up_unless}
use Rattle.proxy_state.specs.Step as proxy
use Rattle.proxy_state.specs.Stands.{NextDropped}
use Rattle.proxy_state.proofs.Hearing.{unheard_is, good_is, bad_is, not_lost_is, lost_is}
use Rattle.proxy_core.specs.Meaning.{Meaning, state_of}
use Rattle.proxy_core.specs.Core.{handlers_in, lasting_in, meet, finished, lose}
use Rattle.proxy_core.specs.Lawful.{IsLawful}
use Rattle.proxy_core.proofs.Lasting.{heard_all, met}

abbrev pub core_of : {T S : Type 0} → State T S → List ℕ → Core T S
core_of x rest = record { state = x; rest = rest }

-- the first of the dropped connections is asked for
pub asked_is : {T S : Type 0} (old : Core T S) (after : Table T) (result : Option ℕ) → result ≡ first_dropped old.state.table.dropped → after ≡ asked old.state.table → NextDropped old (core_of (state_of after old.state.beside) old.rest) result
asked_is {T} old after result first is = record { first = first; asked = ap (λ (t : Table T). core_of (state_of t old.state.beside) old.rest) is }

module _ {T S P : Type 0} (d : Meaning T S P) (fresh : T) (size : Framing) (L : IsLawful d fresh size) where
  -- ---- an event ----

  -- it is known by an equation
  pub met_as : (event known : Event) (old new : Core T S) → event ≡ known → new ≡ meet d size known old → new ≡ meet d size event old
  met_as event known old new same is = is ∙ ap (λ (e : Event). meet d size e old) (sym same)

  pub met_lasts : (event : Event) (old : Core T S) → lasting_in d (meet d size event old) ≡ lasting_in d old
  met_lasts event old = met d (handlers_in d old) (L.lasts (lasting_in d old)) size event old

  -- it ends
  pub finished_is : (event : Event) (old new : Core T S) → new ≡ finished d size (meet d size event old) → new ≡ proxy.step (handlers_in d old) size event old
  finished_is event old new is = is ∙ ap (λ (l : d.Lasting). proxy.finished (d.handlers l) size (meet d size event old)) (met_lasts event old)

  module _ (old : Core T S) where
    abbrev h : Handlers T S
    h = handlers_in d old

    -- ---- clients ----

    pub joined_is : (c : ℕ) (after : Table T) → after ≡ joins c fresh old.state.table → core_of (state_of after old.state.beside) old.rest ≡ meet d size (Joined c) old
    joined_is c after is = ap (λ (t : Table T). core_of (state_of t old.state.beside) old.rest) (is ∙ ap (λ (f : T). joins c f old.state.table) (sym (L.begins (lasting_in d old))))

    left_as : (c : ℕ) (after : Table T) (beside : S) (there : Bool) → is_none (connection_in c old.state.table.present) ≡ there → after ≡ leaves c old.state.table → beside ≡ given_up_unless h.give_up there c old.state.beside
        → core_of (state_of after beside) old.rest ≡ meet d size (Left c) old
    left_as c after beside there is after_is beside_is =
        ap (λ (t : Table T). core_of (state_of t beside) old.rest) after_is
        ∙ ap (λ (b : S). core_of (state_of (leaves c old.state.table) b) old.rest) (beside_is ∙ sym (ap (λ (b : Bool). given_up_unless h.give_up b c old.state.beside) is))

    none_is : {A : Type 0} (o : Option A) (b : Bool) → is_some o ≡ b → is_none o ≡ not b
    none_is None b is = ap not is
    none_is (Some x) b is = ap not is

    -- it was there
    pub left_is : (c : ℕ) (after : Table T) (beside : S) → is_some (connection_in c old.state.table.present) ≡ true → after ≡ leaves c old.state.table → beside ≡ h.give_up c old.state.beside
        → core_of (state_of after beside) old.rest ≡ meet d size (Left c) old
    left_is c after beside there after_is beside_is = left_as c after beside false (none_is (connection_in c old.state.table.present) true there) after_is beside_is

    -- it wasn't
    pub stranger_left : (c : ℕ) (after : Table T) → is_some (connection_in c old.state.table.present) ≡ false → after ≡ leaves c old.state.table → core_of (state_of after old.state.beside) old.rest ≡ meet d size (Left c) old
    stranger_left c after there after_is = left_as c after old.state.beside true (none_is (connection_in c old.state.table.present) false there) after_is refl

    -- ---- the modem ----

    pub unheard : (piece : List ℕ) → h.away old.state.beside ≡ true → old ≡ meet d size (ModemPiece piece) old
    unheard piece away = unheard_is h size old piece away

    module _ (piece pushed : List ℕ) (here : h.away old.state.beside ≡ false) (pushed_is : pushed ≡ old.rest ++ piece) (heard : State T S) (made : heard ≡ proxy.hear_all h size (cut size pushed).messages old.state) where
      pub good : (rest : List ℕ) → is_invalid (size (cut size pushed).rest) ≡ false → rest ≡ (cut size pushed).rest → core_of heard rest ≡ meet d size (ModemPiece piece) old
      good rest valid is = good_is h size old piece pushed here pushed_is heard made rest valid is

      lasts : d.lasting heard.beside ≡ lasting_in d old
      lasts = ap (λ (x : State T S). d.lasting x.beside) made ∙ heard_all d h (L.lasts (lasting_in d old)) size (cut size pushed).messages old.state

      -- where its stream goes bad, it is lost
      pub bad : (after : Core T S) (rest : List ℕ) → is_invalid (size (cut size pushed).rest) ≡ true → after ≡ lose d size (core_of heard rest) → after ≡ meet d size (ModemPiece piece) old
      bad after rest invalid is = bad_is h size old piece pushed here pushed_is heard made after invalid (is ∙ ap (λ (l : d.Lasting). proxy.lose (d.handlers l) size heard) lasts)

    pub lost : (after : Core T S) → h.away old.state.beside ≡ false → after ≡ lose d size old → after ≡ meet d size ModemGone old
    lost after here is = lost_is h size old after here is

    pub not_lost : h.away old.state.beside ≡ true → old ≡ meet d size ModemGone old
    not_lost away = not_lost_is h size old away

    pub regained : (beside : S) → h.away old.state.beside ≡ true → beside ≡ h.regain old.state.beside → core_of (state_of old.state.table beside) old.rest ≡ meet d size ModemBack old
    regained beside away is =
        ap (λ (b : S). core_of (state_of old.state.table b) old.rest) is
        ∙ sym (ap (λ (b : Bool). if b then core_of (state_of old.state.table (h.regain old.state.beside)) old.rest else old) away)

    pub not_regained : h.away old.state.beside ≡ false → old ≡ meet d size ModemBack old
    not_regained here = sym (ap (λ (b : Bool). if b then core_of (state_of old.state.table (h.regain old.state.beside)) old.rest else old) here)
