-- What a QMI modem says for nobody leaves no trace.
use Rattle.std.proofs.Common.{◌≡◌, ◌⊎◌, inl, inr, ℕ, Bool, true, false, not, ◌&&◌, ◌==◌, if◌then◌else◌, List, [], ◌∷◌, ◌++◌, length, drop, refl, ap, ap₂, sym, ◌∙◌, subst, append-nil, Option, Some, None, is_none}
use Rattle.std.proofs.Math.Seq.{drop-append_seam}
use Rattle.framing.specs.Cutting.{Cutting, behind}
use Rattle.framing.specs.Cutting as cutting
use Rattle.framing.specs.Framing.{IsMessage}
use Rattle.framing.proofs.Cuts.{cut-append, cut-message}
use Rattle.qmux_frame.specs.declared.kind.MessageKind.{MessageKind}
use Rattle.qmux_frame.specs.declared.kind.MessageKind.TheVariants as kind
use Rattle.qmux_frame.specs.Head.{is_control, cid_of}
use Rattle.qmux_frame.specs.Control.{is_sync}
use Rattle.qmux_frame.specs.Kind.{framed_kind}
use Rattle.qmux_frame.specs.Frame.{size_of, qmux_cut}
use Rattle.qmux_frame.specs.Framing.{size_of-kept, size_of-positive}
use Rattle.proxy_history.specs.Events.{Event}
use Rattle.proxy_history.specs.Streams.{modem_stream}
use Rattle.proxy_history.specs.Items.{delivered_by_piece}
use Rattle.proxy_history.specs.Facts.{Fact, Request, EventBegan, Indicated, Stray, Reset}
use Rattle.proxy_history.specs.Connections.{present}
use Rattle.proxy_history.specs.Requests.{in_use}
use Rattle.proxy_history.specs.ClientIds.{held}
use Rattle.proxy_history.specs.View.{view}
use Rattle.proxy_history.specs.Noting.{end_overfull}
use Rattle.qmi_proxy.specs.Setup.{Setup}
use Rattle.qmi_proxy.specs.Text.{note}
use Rattle.qmi_proxy.specs.FromModem.{first_answered_by, respond, abort_all, receivers, tell, indicate, hear_as, hear_modem}
use Rattle.qmi_proxy.specs.History.{qmi_protocol, history}
use Rattle.proxy_stray.specs.Pieces.{Step, bytes_of, without_parts}
use Rattle.proxy_stray.specs.Stray.{IsForNobody, IsCalledStray, IsUnwanted, AreForNobody}
use Rattle.proxy_stray.specs.Stray as any
use Rattle.qmi_stray.specs.Law.{is_stray_as}
use Rattle.qmi_stray.specs.Law as law
use Rattle.qmi_stray.proofs.Heed.{heard_on}

-- ---- which messages are for nobody ----

no_request : (device : List ℕ) (found : Option Request) (m : List ℕ) (past : List Fact) → is_none found ≡ true → respond device found m past ≡ Stray ∷ past
no_request device None m past none = refl
no_request device (Some r) m past none = absurd (cc)

no_indication : (sync unheard : Bool) (a b past : List Fact) → (not sync && unheard) ≡ true → (if sync then a else if unheard then Stray ∷ past else b) ≡ Stray ∷ past
no_indication true unheard a b past is = absurd (cc)
no_indication false true a b past is = refl
no_indication false false a b past is = absurd (cc)

pub called_stray : (device : List ℕ) (found : Option MessageKind) (m : List ℕ) (past : List Fact) → is_stray_as found m past ≡ true → hear_as found device m past ≡ Stray ∷ past
called_stray device (Some kind.Response) m past is = no_request device (first_answered_by m (in_use past)) m past is
called_stray device (Some kind.Indication) m past is = no_indication (is_sync m) (not (is_control m) && cid_of m == 0) _ _ past is
called_stray device (Some kind.Request) m past is = refl
called_stray device None m past is = refl

-- an indication for which nobody is there
indicates_none : (device m : List ℕ) (past : List Fact) → is_sync m ≡ false → receivers device m past ≡ [] → (unheard : Bool) → (not (is_control m) && cid_of m == 0) ≡ unheard
    → (indicate device m past ≡ Stray ∷ past) ⊎ (indicate device m past ≡ Indicated m [] ∷ past)
unfolding end_overfull
indicates_none device m past no_sync nobody true is =
    inl (ap₂ (λ (sync unheard : Bool). if sync then tell device m (Reset ∷ abort_all device past) else if unheard then Stray ∷ past else tell device m past) no_sync is)
indicates_none device m past no_sync nobody false is =
    inr
    (ap₂ (λ (sync unheard : Bool). if sync then tell device m (Reset ∷ abort_all device past) else if unheard then Stray ∷ past else tell device m past) no_sync is
    ∙ ap (λ (there : List ℕ). note device (Indicated m there) past) nobody)

pub unwanted : (s : Setup) (m : List ℕ) (past : List Fact) → law.IsUnwanted s.device m past → IsForNobody (qmi_protocol s) m past
unwanted s m past is = which (indicates_none s.device m past is.no_sync is.nobody (not (is_control m) && cid_of m == 0) refl)
  where
    heard : hear_modem s.device m past ≡ indicate s.device m past
    heard = ap (λ (found : Option MessageKind). hear_as found s.device m past) is.indication

    which : (indicate s.device m past ≡ Stray ∷ past) ⊎ (indicate s.device m past ≡ Indicated m [] ∷ past) → IsForNobody (qmi_protocol s) m past
    which (inl adds) = IsCalledStray (heard ∙ adds)
    which (inr adds) = IsUnwanted m (heard ∙ adds)

-- the beginning of an event changes nothing of that
begun_too : (found : Option MessageKind) (m : List ℕ) (past : List Fact) → is_stray_as found m (EventBegan ∷ past) ≡ is_stray_as found m past
unfolding in_use
begun_too (Some kind.Response) m past = refl
begun_too (Some kind.Indication) m past = refl
begun_too (Some kind.Request) m past = refl
begun_too None m past = refl

begun_unwanted : (device m : List ℕ) (past : List Fact) → law.IsUnwanted device m past → law.IsUnwanted device m (EventBegan ∷ past)
unfolding present held view
begun_unwanted device m past is = record { indication = is.indication; no_sync = is.no_sync; nobody = is.nobody }

either : (s : Setup) (m : List ℕ) (past : List Fact) → (is_stray_as (framed_kind m) m past ≡ true) ⊎ law.IsUnwanted s.device m past → IsForNobody (qmi_protocol s) m (EventBegan ∷ past)
either s m past (inl is) = IsCalledStray (called_stray s.device (framed_kind m) m (EventBegan ∷ past) (begun_too (framed_kind m) m past ∙ is))
either s m past (inr is) = unwanted s m (EventBegan ∷ past) (begun_unwanted s.device m past is)

cut_alone : (m : List ℕ) → IsMessage size_of m → qmux_cut m ≡ record { messages = m ∷ []; rest = [] }
unfolding cutting.cut_from
cut_alone m is = ap qmux_cut (sym (append-nil m)) ∙ cut-message size_of size_of-kept size_of-positive m [] is

pub these_are_stray : (s : Setup) (events : List Event) (before m : List ℕ) → modem_stream size_of s.starts_away events ≡ Some before → (qmux_cut before).rest ≡ [] → IsMessage size_of m
    → (is_stray_as (framed_kind m) m (history s events) ≡ true) ⊎ law.IsUnwanted s.device m (history s events) → law.IsStray s events m
these_are_stray s events before m there between message is = record {
  before = before;
  is_there = there;
  between = between;
  are_whole = ap (λ (c : Cutting). c.rest) (cut_alone m message);
  for_nobody = subst (λ (c : Cutting). AreForNobody (qmi_protocol s) c.messages (EventBegan ∷ history s events)) (sym (cut_alone m message)) (either s m (history s events) is, tt);
}

-- ---- in the modem's stream ----

-- what is heard with bytes behind whole messages
heard : (s : Setup) (before bytes : List ℕ) → (qmux_cut before).rest ≡ [] → delivered_by_piece (qmi_protocol s) before bytes ≡ (qmux_cut bytes).messages
heard s before bytes between =
    ap (λ (c : Cutting). drop (length (qmux_cut before).messages) c.messages)
    (cut-append size_of before bytes ∙ ap (λ (rest : List ℕ). behind (qmux_cut before).messages (qmux_cut (rest ++ bytes))) between)
    ∙ drop-append_seam (qmux_cut before).messages (qmux_cut bytes).messages

pub is_stray : (s : Setup) (events : List Event) (bytes : List ℕ) → law.IsStray s events bytes → any.IsStray (qmi_protocol s) events bytes
is_stray s events bytes stray = record {
  before = stray.before;
  is_there = stray.is_there;
  between = stray.between;
  are_whole = stray.are_whole;
  for_nobody = subst (λ (l : List (List ℕ)). AreForNobody (qmi_protocol s) l (EventBegan ∷ history s events)) (sym (heard s stray.before bytes stray.between)) stray.for_nobody;
  leaves_open = λ more. heard_on s ((qmux_cut stray.before).messages ++ (qmux_cut bytes).messages) more ∙ sym (heard_on s (qmux_cut stray.before).messages more);
}

pub in_pieces : (s : Setup) (events : List Event) (steps : List Step) (last bytes : List ℕ) → law.IsStrayInPieces s events steps last bytes → any.IsStrayInPieces (qmi_protocol s) events steps last bytes
unfolding is_stray
in_pieces s events steps last bytes comes = record {
  whole = comes.whole;
  stray = is_stray s (without_parts steps ++ events) bytes comes.stray;
  together = comes.together;
  nothing_yet = heard s comes.stray.before (bytes_of steps) comes.stray.between ∙ comes.nothing_yet;
}

pub one_piece : (s : Setup) (events : List Event) (bytes : List ℕ) → law.IsStray s events bytes → law.IsStrayInPieces s events [] bytes bytes
unfolding bytes_of without_parts cutting.cut_from
one_piece s events bytes stray = record { whole = refl; stray = stray; together = tt; nothing_yet = refl }
