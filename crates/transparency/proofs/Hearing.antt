-- A modem is asked one message after another.
use Rattle.std.proofs.Common.{◌≡◌, ℕ, List, [], ◌∷◌, ◌++◌, refl, sym, ap, ◌∙◌, subst, append_assoc}
use Rattle.std.proofs.lemmas.List.{append-nil}
use Rattle.framing.specs.Cutting.{cut}
use Rattle.proxy_history.specs.Streams.{Framing}
use Rattle.lone_client.specs.Relay.{Answering, asked_then, sent_for}
use Rattle.transparency.specs.Asking.{Hears}

-- of all these messages those that are left are still to be asked, behind the others, for which those were sent
pub record IsHearing {M : Type 0} (keeps : Answering → List (List ℕ) → M → Type 0) (size : Framing) (modem : Answering) (asked all left sent : List (List ℕ)) (sim : M) : Type 0 where
  pub now : List (List ℕ)
  pub kept : keeps modem now sim
  pub rest_asked : asked_then now left ≡ asked_then asked all
  pub rest_sent : sent ++ sent_for size modem now left ≡ sent_for size modem asked all

module _ {M : Type 0} {keeps : Answering → List (List ℕ) → M → Type 0} {size : Framing} {modem : Answering} {asked : List (List ℕ)} where
  pub hearing_begins : (all : List (List ℕ)) (sim : M) → keeps modem asked sim → IsHearing keeps size modem asked all all [] sim
  hearing_begins all sim kept = record { now = asked; kept = kept; rest_asked = refl; rest_sent = refl }

  pub hearing_one : {all left sent : List (List ℕ)} {old new : M} (m answer : List ℕ) (later : List (List ℕ)) → left ≡ m ∷ later
      → ((modem : Answering) (past : List (List ℕ)) → keeps modem past old → keeps modem (m ∷ past) new) → ((modem : Answering) (past : List (List ℕ)) → keeps modem past old → answer ≡ modem past m)
      → IsHearing keeps size modem asked all left sent old → IsHearing keeps size modem asked all later (sent ++ (cut size answer).messages) new
  unfolding asked_then sent_for
  hearing_one {sent = sent} m answer later first goes_on answers it = record {
    now = m ∷ it.now;
    kept = goes_on modem it.now it.kept;
    rest_asked = sym (ap (asked_then it.now) first) ∙ it.rest_asked;
    rest_sent =
        append_assoc sent (cut size answer).messages (sent_for size modem (m ∷ it.now) later)
        ∙ ap (λ (said : List ℕ). sent ++ ((cut size said).messages ++ sent_for size modem (m ∷ it.now) later)) (answers modem it.now it.kept)
        ∙ ap (λ (l : List (List ℕ)). sent ++ sent_for size modem it.now l) (sym first)
        ∙ it.rest_sent;
  }

  pub hearing_done : {all left sent : List (List ℕ)} {sim : M} → left ≡ [] → IsHearing keeps size modem asked all left sent sim → Hears keeps size modem asked all sent sim
  unfolding asked_then sent_for
  hearing_done {sent = sent} {sim = sim} none it = record {
    kept = subst (λ (l : List (List ℕ)). keeps modem l sim) (sym (ap (asked_then it.now) none) ∙ it.rest_asked) it.kept;
    are = sym (append-nil sent) ∙ ap (λ (l : List (List ℕ)). sent ++ sent_for size modem it.now l) (sym none) ∙ it.rest_sent;
  }
