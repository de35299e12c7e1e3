-- What the modem's stream, whole and in messages, makes of what a core keeps.
use Rattle.std.proofs.Common.{◌≡◌, ℕ, List, [], ◌∷◌, ◌++◌, length, map, drop, refl, ap, sym, ◌∙◌, subst, append_assoc, append-nil}
use Rattle.std.proofs.Math.Seq.{drop-append_seam}
use Rattle.proxy_history.specs.Facts.{Fact}
use Rattle.proxy_history.specs.Items.{Item, ModemSays}
use Rattle.proxy_history.specs.Protocol.{Protocol}
use Rattle.proxy_history.specs.History.{add_all}
use Rattle.proxy_history.proofs.Walk.{add_all-append}
use Rattle.std.proofs.lemmas.List.{map-append}
use Rattle.proxy_state.specs.State.{State, Handlers}
use Rattle.proxy_state.specs.Stands.{Kept, Streams}
use Rattle.proxy_state.specs.Step.{hear_all}
use Rattle.proxy_state.specs.Faithful.{Keeps, delivered_by, IsFaithful}

module _ {Known : Type 0} (p : Protocol Known) (delivers : (messages : List (List ℕ)) (m : List ℕ) → p.deliver (messages ++ m ∷ []) ≡ p.deliver messages ++ delivered_by p messages m) where
  -- what is delivered of some messages that wasn't before them
  abbrev pub delivered_behind : List (List ℕ) → List (List ℕ) → List (List ℕ)
  delivered_behind messages more = drop (length (p.deliver messages)) (p.deliver (messages ++ more))

  goes_on : (more messages : List (List ℕ)) → p.deliver (messages ++ more) ≡ p.deliver messages ++ delivered_behind messages more
  goes_on [] messages =
      ap p.deliver (append-nil messages) ∙ sym (append-nil (p.deliver messages))
      ∙ ap (λ (l : List (List ℕ)). p.deliver messages ++ l) (sym (ap (drop (length (p.deliver messages))) (ap p.deliver (append-nil messages) ∙ sym (append-nil (p.deliver messages))) ∙ drop-append_seam (p.deliver messages) []))
  goes_on (m ∷ more) messages =
      let whole : p.deliver (messages ++ m ∷ more) ≡ p.deliver messages ++ (delivered_by p messages m ++ delivered_behind (messages ++ m ∷ []) more) =
      ap p.deliver (sym (append_assoc messages (m ∷ []) more)) ∙ goes_on more (messages ++ m ∷ [])
      ∙ ap (λ (l : List (List ℕ)). l ++ delivered_behind (messages ++ m ∷ []) more) (delivers messages m) ∙ append_assoc (p.deliver messages) (delivered_by p messages m) (delivered_behind (messages ++ m ∷ []) more)
      in
      whole ∙ ap (λ (l : List (List ℕ)). p.deliver messages ++ l) (sym (ap (drop (length (p.deliver messages))) whole ∙ drop-append_seam (p.deliver messages) _))

  pub behind_none : (messages : List (List ℕ)) → delivered_behind messages [] ≡ []
  behind_none messages =
      ap (drop (length (p.deliver messages))) (ap p.deliver (append-nil messages) ∙ sym (append-nil (p.deliver messages))) ∙ drop-append_seam (p.deliver messages) []

  pub behind_one : (messages : List (List ℕ)) (m : List ℕ) (more : List (List ℕ)) → delivered_behind messages (m ∷ more) ≡ delivered_by p messages m ++ delivered_behind (messages ++ m ∷ []) more
  behind_one messages m more =
      ap (drop (length (p.deliver messages)))
      (ap p.deliver (sym (append_assoc messages (m ∷ []) more)) ∙ goes_on more (messages ++ m ∷ [])
      ∙ ap (λ (l : List (List ℕ)). l ++ delivered_behind (messages ++ m ∷ []) more) (delivers messages m) ∙ append_assoc (p.deliver messages) (delivered_by p messages m) (delivered_behind (messages ++ m ∷ []) more))
      ∙ drop-append_seam (p.deliver messages) (delivered_by p messages m ++ delivered_behind (messages ++ m ∷ []) more)

module _ {Known T S : Type 0} (p : Protocol Known) (k : Kept Known T S) (h : Handlers T S) (Fine : List Fact → Type 0) (F : IsFaithful p k h Fine) where
  abbrev pub told : List (List ℕ) → List Item
  told messages = map (λ m. ModemSays m) messages

  nothing_told : (past : List Fact) → add_all p [] past ≡ past
  unfolding add_all
  nothing_told past = refl

  abbrev KeptWith : Streams → List (List ℕ) → List Fact → State T S → Type 0
  KeptWith streams messages past x = Keeps p k Fine (record streams { messages = messages }) past x

  abbrev delivered : List (List ℕ) → List (List ℕ) → List (List ℕ)
  delivered before more = delivered_behind p F.delivers before more

  -- the messages of a piece, one after the other
  pub keeps_heard : (streams : Streams) (messages before : List (List ℕ)) (past : List Fact) (x : State T S) → KeptWith streams before past x
      → KeptWith streams (before ++ messages) (add_all p (told (delivered before messages)) past) (hear_all h p.size messages x)
  unfolding hear_all
  keeps_heard streams [] before past x K =
      subst (λ (l : List Fact). KeptWith streams (before ++ []) l x) (sym (ap (λ (l : List (List ℕ)). add_all p (told l) past) (behind_none p F.delivers before) ∙ nothing_told past))
      (subst (λ (l : List (List ℕ)). KeptWith streams l past x) (sym (append-nil before)) K)
  keeps_heard streams (m ∷ messages) before past x K =
      let middle : List Fact = add_all p (told (delivered_by p before m)) past in
      let L : KeptWith streams (before ++ m ∷ []) middle (h.hear_modem m x) = F.hear_modem m (record streams { messages = before }) past x K in
      let M : KeptWith streams ((before ++ m ∷ []) ++ messages) (add_all p (told (delivered (before ++ m ∷ []) messages)) middle) (hear_all h p.size messages (h.hear_modem m x)) =
      keeps_heard streams messages (before ++ m ∷ []) middle (h.hear_modem m x) L
      in
      let facts : add_all p (told (delivered before (m ∷ messages))) past ≡ add_all p (told (delivered (before ++ m ∷ []) messages)) middle =
      ap (λ (l : List (List ℕ)). add_all p (told l) past) (behind_one p F.delivers before m messages)
      ∙ ap (λ (l : List Item). add_all p l past) (map-append (λ m. ModemSays m) (delivered_by p before m) (delivered (before ++ m ∷ []) messages))
      ∙ add_all-append p (told (delivered_by p before m)) (told (delivered (before ++ m ∷ []) messages)) past
      in
      subst (λ (l : List Fact). KeptWith streams (before ++ m ∷ messages) l (hear_all h p.size messages (h.hear_modem m x))) (sym facts)
      (subst (λ (l : List (List ℕ)). KeptWith streams l (add_all p (told (delivered (before ++ m ∷ []) messages)) middle) (hear_all h p.size messages (h.hear_modem m x))) (append_assoc before (m ∷ []) messages) M)
