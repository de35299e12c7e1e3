-- What is found among sound descriptions is sound.
use Rattle.std.proofs.Common.{◌≡◌, Bool, true, false, List, [], ◌∷◌, map, Option, Some, None, IfSome, option_map, refl, ap, sym, ◌∙◌, subst}
use Rattle.std.specs.Prelude.{if◌then◌else◌}
use Rattle.std.specs.List.{AllByRecursion, find}
use Rattle.qmux_frame.specs.declared.kind.MessageKind.{MessageKind}
use Rattle.qmux_frame.specs.declared.kind.MessageKind.TheVariants.{Request, Response, Indication}
use Rattle.message_tables.specs.Tlvs.{TlvForm}
use Rattle.message_tables.specs.Messages.{MessageForm}
use Rattle.message_tables.specs.WellMade.{IsSoundTlv, IsSoundMessage, AreSound}
use Rattle.dissect.specs.Qmi.{forms_by, forms_for}

found_holds : {X : Type 0} (P : X → Type 0) (test : X → Bool) (xs : List X) (x : X) → AllByRecursion P xs → find test xs ≡ Some x → P x
found_holds P test [] x all is = absurd (cc)
found_holds {X = X} P test (y ∷ ys) x all is =
    let step : (b : Bool) → test y ≡ b → P x =
    λ b. elim b as (λ b. test y ≡ b → P x) [
      | true ↦ λ here.
          let same : Some y ≡ Some x = sym (ap (λ (b : Bool). if b then Some y else find test ys) here) ∙ is in
          let one : y ≡ x = cc in
          subst P one all.0
      | false ↦ λ other. found_holds P test ys x all.1 (sym (ap (λ (b : Bool). if b then Some y else find test ys) other) ∙ is)
    ]
    in step (test y) refl

sound_by : (kind : MessageKind) (form : MessageForm) → IsSoundMessage form → AllByRecursion IsSoundTlv (forms_by kind form)
sound_by Request form sound = sound.input
sound_by Response form sound = sound.output
sound_by Indication form sound = sound.output

-- of the message that is found in the tables
pub forms_sound : (messages : List MessageForm) (test : MessageForm → Bool) (kind : MessageKind) (form : Option MessageForm) → AreSound messages → form ≡ find test messages → AllByRecursion IsSoundTlv (forms_for kind form)
forms_sound messages test kind None sound is = tt
forms_sound messages test kind (Some form) sound is = sound_by kind form (found_holds IsSoundMessage test messages form sound.each (sym is))

-- of the TLV that is found in a message's list
pub form_sound : (forms : List TlvForm) (test : TlvForm → Bool) (form : Option TlvForm) → AllByRecursion IsSoundTlv forms → form ≡ find test forms → IfSome form IsSoundTlv
form_sound forms test None sound is = tt
form_sound forms test (Some form) sound is = found_holds IsSoundTlv test forms form sound (sym is)

-- what is found among views is the view of what is found
pub find_viewed : {X Y : Type 0} (view : X → Y) (test : Y → Bool) (xs : List X) → find test (map view xs) ≡ option_map view (find (λ x. test (view x)) xs)
find_viewed view test [] = refl
find_viewed {X = X} {Y = Y} view test (x ∷ xs) =
    let step : (b : Bool) → (if b then Some (view x) else find test (map view xs)) ≡ option_map view (if b then Some x else find (λ x. test (view x)) xs) =
    λ b. elim b as (λ b. (if b then Some (view x) else find test (map view xs)) ≡ option_map view (if b then Some x else find (λ x. test (view x)) xs)) [ true ↦ refl | false ↦ find_viewed view test xs ]
    in step (test (view x))
