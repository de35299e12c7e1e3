-- What is said for the messages that the QMI modem sends.
use Rattle.std.proofs.Common.{◌≡◌, ℕ, Bool, true, false, if◌then◌else◌, List, [], ◌++◌, take, drop, sym, ◌∙◌, ap, append_assoc}
use Rattle.std.proofs.lemmas.List.{append-nil}
use Rattle.kit_bytes.specs.Indications.{wants}
use Rattle.mbim_frame.specs.declared.bodies.CommandHead.{CommandHead}
use Rattle.mbim_frame.specs.declared.status.TheConstants.{INVALID_PARAMETERS, SUCCESS}
use Rattle.qmux_frame.specs.Frame.{qmux_cut}
use Rattle.qmi_tunnel.specs.declared.service.TheConstants.{QMI_SERVICE, QMI_MESSAGE}
use Rattle.sim_mbim.specs.Modem.{Modem}
use Rattle.sim_mbim.specs.Writing.{done, indication}
use Rattle.sim_tunnel.specs.Carrying.{answer, carrier, indications}
use Rattle.sim_tunnel.specs.Cutting.{Begins}

module _ (longest : ℕ) (rest : List ℕ) (count : ℕ) (begins : Begins rest count) where
  first_told : indications longest (qmux_cut rest).messages ≡ indication longest carrier (take count rest) ++ indications longest (qmux_cut (drop count rest)).messages
  first_told = ap (indications longest) begins.messages

  -- the first of them is told, and then the others
  pub told-more : (message more : List ℕ) → message ≡ take count rest → more ≡ drop count rest → (text new whole : List ℕ) → new ≡ text ++ indication longest carrier message
      → text ++ indications longest (qmux_cut rest).messages ≡ whole → new ++ indications longest (qmux_cut more).messages ≡ whole
  told-more message more front back text new whole is was =
      ap (λ (l : List ℕ). l ++ indications longest (qmux_cut more).messages) is
      ∙ append_assoc text (indication longest carrier message) (indications longest (qmux_cut more).messages)
      ∙ ap (λ (l : List ℕ). text ++ (indication longest carrier l ++ indications longest (qmux_cut more).messages)) front
      ∙ ap (λ (l : List ℕ). text ++ (indication longest carrier (take count rest) ++ indications longest (qmux_cut l).messages)) back
      ∙ ap (λ (l : List ℕ). text ++ l) (sym first_told)
      ∙ was

pub done_as : (number : ℕ) {longest long : ℕ} {head other : CommandHead} → longest ≡ long → head ≡ other → (status : ℕ) (buffer : List ℕ) → done number longest head status buffer ≡ done number long other status buffer
done_as number {long = long} {head = head} long_is head_is status buffer = ap (λ (n : ℕ). done number n head status buffer) long_is ∙ ap (λ (h : CommandHead). done number long h status buffer) head_is

module _ (number : ℕ) (m : Modem) (bytes : List ℕ) where
  -- there is none
  pub answer-none : (qmux_cut bytes).messages ≡ [] → done number m.longest carrier INVALID_PARAMETERS [] ≡ answer number m (qmux_cut bytes).messages
  answer-none none = ap (answer number m) (sym none)

  module _ (count : ℕ) (begins : Begins bytes count) (response : List ℕ) (front : response ≡ take count bytes) where
    told_as : (heard : Bool) → wants m.subscribed QMI_SERVICE QMI_MESSAGE ≡ heard
        → done number m.longest carrier SUCCESS response ++ (if heard then indications m.longest (qmux_cut (drop count bytes)).messages else []) ≡ answer number m (qmux_cut bytes).messages
    told_as heard is =
        ap (λ (l : List ℕ). done number m.longest carrier SUCCESS l ++ (if heard then indications m.longest (qmux_cut (drop count bytes)).messages else [])) front
        ∙ ap (λ (b : Bool). done number m.longest carrier SUCCESS (take count bytes) ++ (if b then indications m.longest (qmux_cut (drop count bytes)).messages else [])) (sym is)
        ∙ ap (answer number m) (sym begins.messages)

    -- nobody listens to the others
    pub answer-first : wants m.subscribed QMI_SERVICE QMI_MESSAGE ≡ false → done number m.longest carrier SUCCESS response ≡ answer number m (qmux_cut bytes).messages
    answer-first unheard = sym (append-nil (done number m.longest carrier SUCCESS response)) ∙ told_as false unheard

    -- they are told
    pub answer-all : (more : List ℕ) → more ≡ drop count bytes → wants m.subscribed QMI_SERVICE QMI_MESSAGE ≡ true
        → done number m.longest carrier SUCCESS response ++ indications m.longest (qmux_cut more).messages ≡ answer number m (qmux_cut bytes).messages
    answer-all more back heard = ap (λ (l : List ℕ). done number m.longest carrier SUCCESS response ++ indications m.longest (qmux_cut l).messages) back ∙ told_as true heard
