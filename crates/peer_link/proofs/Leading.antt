-- A link to a peer goes on.
use Rattle.std.specs.Prelude.{Ok}
use Rattle.std.proofs.Common.{◌≡◌, ◌⊎◌, inl, inr, ℕ, ◌+◌, ◌<◌, ◌≤◌, true, false, List, [], ◌∷◌, ◌++◌, length, drop, get_or, slice_range, map, if◌then◌else◌, Bool, Option, Some, None, refl, sym, ◌∙◌, ap, subst, append_assoc}
use Rattle.std.proofs.lemmas.List.{append-nil, drop-append-le, drop_more, map_push}
use Rattle.std.proofs.lemmas.List.Folds.{drop_split}
use Rattle.std.specs.Option.{option_map}
use Rattle.kit_io.specs.Growth.{Grows}
use Rattle.link_io.specs.declared.link.Taken.{Taken}
use Rattle.link_io.specs.declared.link.Taken.TheVariants.{End}
use Rattle.link_io.specs.Calls.{Call, EndsForGood, Sent, Took, WasQuiet}
use Rattle.link_session.specs.Marks.{bytes_in}
use Rattle.link_session.specs.Peer.{Peer, LeadsTo, said, texts_in}
use Rattle.link_session.proofs.Peers.{texts_in-append}
use Rattle.link_session.proofs.Takes.{bytes_in-append}
use Rattle.peer_link.specs.Linked.{IsAtPeer, IsNoEnd}
use Rattle.peer_link.specs.Made.{call_of}
use Rattle.peer_link.specs.declared.link.Made.{Made}

-- a front of a list with one more is all of it, or a front of the list
splits_last : {A : Type 0} (xs : List A) (x : A) (front more : List A) → xs ++ x ∷ [] ≡ front ++ more
    → ((more ≡ []) × (front ≡ xs ++ x ∷ [])) ⊎ ((rest : List A) × (xs ≡ front ++ rest))
splits_last [] x [] more is = inr ([], refl)
splits_last [] x (y ∷ []) more is = let none : more ≡ [] = cc in let same : y ≡ x = cc in inl (none, ap (λ z. z ∷ []) same)
splits_last [] x (y ∷ z ∷ front) more is = absurd (cc)
splits_last (z ∷ xs) x [] more is = inr (z ∷ xs, refl)
splits_last {A} (z ∷ xs) x (y ∷ front) more is =
    let head : z ≡ y = cc in
    let behind : xs ++ x ∷ [] ≡ front ++ more = cc in
    elim (splits_last xs x front more behind) [
      | inl (none, all) ↦ inl (none, ap (λ (l : List A). y ∷ l) all ∙ ap (λ (w : A). w ∷ (xs ++ x ∷ [])) (sym head))
      | inr (rest, are) ↦ inr (rest, ap (λ (l : List A). z ∷ l) are ∙ ap (λ (w : A). w ∷ (front ++ rest)) head)
    ]

module _ (peer : Peer) where
  said-append : (before xs ys : List (List ℕ)) → said peer before (xs ++ ys) ≡ said peer before xs ++ said peer (before ++ xs) ys
  unfolding said
  said-append before [] ys = ap (λ (l : List (List ℕ)). said peer l ys) (sym (append-nil before))
  said-append before (x ∷ xs) ys =
      let now : List (List ℕ) = before ++ x ∷ [] in
      ap (λ (l : List ℕ). peer now ++ l) (said-append now xs ys ∙ ap (λ (l : List (List ℕ)). said peer now xs ++ said peer l ys) (append_assoc before (x ∷ []) xs))
      ∙ sym (append_assoc (peer now) (said peer now xs) (said peer (before ++ x ∷ xs) ys))

  -- one text more
  said-push : (texts : List (List ℕ)) (text : List ℕ) → said peer [] (texts ++ text ∷ []) ≡ said peer [] texts ++ peer (texts ++ text ∷ [])
  unfolding said
  said-push texts text = said-append [] texts (text ∷ []) ∙ ap (λ (l : List ℕ). said peer [] texts ++ l) (append-nil (peer (texts ++ text ∷ [])))

  LeadsTo-none : LeadsTo peer [] [] []
  unfolding said texts_in bytes_in
  LeadsTo-none = record {
    comes = λ front more is. let none : front ≡ [] = nil_front front more (sym is) in ([], ap (λ (l : List Call). said peer [] (texts_in l)) none ∙ sym (ap (λ (l : List Call). bytes_in l ++ []) none));
  }
    where
      nil_front : (front back : List Call) → front ++ back ≡ [] → front ≡ []
      nil_front [] back none = refl
      nil_front (x ∷ front) back none = absurd (cc)

  -- one call more
  LeadsTo-push : (calls : List Call) (call : Call) (rest : List ℕ) → LeadsTo peer [] [] calls → said peer [] (texts_in (calls ++ call ∷ [])) ≡ bytes_in (calls ++ call ∷ []) ++ rest
      → LeadsTo peer [] [] (calls ++ call ∷ [])
  LeadsTo-push calls call rest leads are = record {
    comes = λ front more is. elim (splits_last calls call front more is) [
      | inl (none, all) ↦ (rest, ap (λ (l : List Call). said peer [] (texts_in l)) all ∙ are ∙ ap (λ (l : List Call). bytes_in l ++ rest) (sym all))
      | inr (later, were) ↦ leads.comes front later were
    ];
  }

module _ {A : Type 0} {peer : A → Peer} {has_met : List (List ℕ) → A → Type 0} where
  pub begins : (answerer : A) → has_met [] answerer → IsAtPeer peer has_met answerer [] [] 0
  unfolding said texts_in bytes_in
  begins answerer met = record { met = met; leads = LeadsTo-none (peer answerer); all = refl; rest = refl }

  -- a text was sent and answered
  pub sent_goes : {old new : A} {calls : List Call} {bytes reply : List ℕ} {taken : ℕ} (text : List ℕ) → IsAtPeer peer has_met old calls bytes taken → taken ≤ length bytes
      → ((texts : List (List ℕ)) → has_met texts old → reply ≡ peer old (texts ++ text ∷ [])) → ((texts : List (List ℕ)) → has_met texts old → has_met (texts ++ text ∷ []) new) → peer new ≡ peer old
      → IsAtPeer peer has_met new (calls ++ Sent text true ∷ []) (bytes ++ reply) taken
  unfolding texts_in bytes_in
  sent_goes {old = old} {new = new} {calls = calls} {bytes = bytes} {reply = reply} {taken = taken} text it within says meets same =
      let all_calls : List Call = calls ++ Sent text true ∷ [] in
      let texts : texts_in all_calls ≡ texts_in calls ++ text ∷ [] = texts_in-append calls (Sent text true ∷ []) in
      let still : bytes_in all_calls ≡ bytes_in calls = bytes_in-append calls (Sent text true ∷ []) ∙ append-nil (bytes_in calls) in
      let all : said (peer old) [] (texts_in all_calls) ≡ bytes ++ reply =
      ap (said (peer old) []) texts
      ∙ said-push (peer old) (texts_in calls) text
      ∙ ap (λ (l : List ℕ). l ++ peer old (texts_in calls ++ text ∷ [])) it.all
      ∙ ap (λ (l : List ℕ). bytes ++ l) (sym (says (texts_in calls) it.met)) in
      let rest : bytes ++ reply ≡ bytes_in all_calls ++ drop taken (bytes ++ reply) =
      ap (λ (l : List ℕ). l ++ reply) it.rest
      ∙ append_assoc (bytes_in calls) (drop taken bytes) reply
      ∙ ap (λ (l : List ℕ). bytes_in calls ++ l) (sym (drop-append-le taken bytes reply within))
      ∙ ap (λ (l : List ℕ). l ++ drop taken (bytes ++ reply)) (sym still) in
      record {
        met = subst (λ (l : List (List ℕ)). has_met l new) (sym texts) (meets (texts_in calls) it.met);
        leads = subst (λ (p : Peer). LeadsTo p [] [] all_calls) (sym same) (LeadsTo-push (peer old) calls (Sent text true) (drop taken (bytes ++ reply)) it.leads (all ∙ rest));
        all = ap (λ (p : Peer). said p [] (texts_in all_calls)) same ∙ all;
        rest = rest;
      }

  module _ {answerer : A} {calls : List Call} {bytes : List ℕ} {taken : ℕ} (it : IsAtPeer peer has_met answerer calls bytes taken) where
    -- bytes were taken
    pub took_goes : (end : ℕ) → taken ≤ end → IsAtPeer peer has_met answerer (calls ++ Took (slice_range bytes taken end) ∷ []) bytes end
    unfolding texts_in bytes_in
    took_goes end order =
        let piece : List ℕ = slice_range bytes taken end in
        let all_calls : List Call = calls ++ Took piece ∷ [] in
        let texts : texts_in all_calls ≡ texts_in calls = texts_in-append calls (Took piece ∷ []) ∙ append-nil (texts_in calls) in
        let all : said (peer answerer) [] (texts_in all_calls) ≡ bytes = ap (said (peer answerer) []) texts ∙ it.all in
        let rest : bytes ≡ bytes_in all_calls ++ drop end bytes =
        it.rest
        ∙ ap (λ (l : List ℕ). bytes_in calls ++ l) (drop_split bytes taken end order)
        ∙ sym (append_assoc (bytes_in calls) piece (drop end bytes))
        ∙ ap (λ (l : List ℕ). l ++ drop end bytes) (ap (λ (l : List ℕ). bytes_in calls ++ l) (sym (append-nil piece)) ∙ sym (bytes_in-append calls (Took piece ∷ []))) in
        record {
          met = subst (λ (l : List (List ℕ)). has_met l answerer) (sym texts) it.met;
          leads = LeadsTo-push (peer answerer) calls (Took piece) (drop end bytes) it.leads (all ∙ rest);
          all = all;
          rest = rest;
        }

    -- nothing was there to take
    pub quiet_goes : IsAtPeer peer has_met answerer (calls ++ WasQuiet ∷ []) bytes taken
    unfolding texts_in bytes_in
    quiet_goes =
        let all_calls : List Call = calls ++ WasQuiet ∷ [] in
        let texts : texts_in all_calls ≡ texts_in calls = texts_in-append calls (WasQuiet ∷ []) ∙ append-nil (texts_in calls) in
        let same : bytes_in all_calls ≡ bytes_in calls = bytes_in-append calls (WasQuiet ∷ []) ∙ append-nil (bytes_in calls) in
        let all : said (peer answerer) [] (texts_in all_calls) ≡ bytes = ap (said (peer answerer) []) texts ∙ it.all in
        let rest : bytes ≡ bytes_in all_calls ++ drop taken bytes = it.rest ∙ ap (λ (l : List ℕ). l ++ drop taken bytes) (sym same) in
        record {
          met = subst (λ (l : List (List ℕ)). has_met l answerer) (sym texts) it.met;
          leads = LeadsTo-push (peer answerer) calls WasQuiet (drop taken bytes) it.leads (all ∙ rest);
          all = all;
          rest = rest;
        }

-- ---- the calls that are kept ----

-- one more is kept
pub kept_are : (made : List Made) (one : Made) (all : List Made) → all ≡ made ++ one ∷ [] → map call_of all ≡ map call_of made ++ call_of one ∷ []
kept_are made one all is = ap (map call_of) is ∙ map_push call_of made one

-- ---- what is told ----

-- one call more is told, where any is
pub told_goes : (tells : Bool) (calls : List Call) (call : Call) → Grows (if tells then Some calls else None) (call ∷ []) (if tells then Some (calls ++ call ∷ []) else None)
told_goes true calls call = record { recorded = λ all is. let same : calls ++ call ∷ [] ≡ all = cc in (calls, refl, sym same) }
told_goes false calls call = record { recorded = λ all is. absurd (cc) }

pub told_as : (tells : Bool) (calls more : List Call) (call other : Call) {old : Option (List Call)} → (if tells then Some calls else None) ≡ old → call ≡ other → more ≡ calls ++ call ∷ []
    → Grows old (other ∷ []) (if tells then Some more else None)
told_as tells calls more call other {old = old} was same are =
    subst (λ (o : Option (List Call)). Grows o (other ∷ []) (if tells then Some more else None)) was
    (subst (λ (c : Call). Grows (if tells then Some calls else None) (c ∷ []) (if tells then Some more else None)) same
    (subst (λ (l : List Call). Grows (if tells then Some calls else None) (call ∷ []) (if tells then Some l else None)) (sym are) (told_goes tells calls call)))

pub told_are : (tells : Bool) (calls all : List Call) → (if tells then Some calls else None) ≡ Some all → calls ≡ all
told_are true calls all is = let same : calls ≡ all = cc in same
told_are false calls all is = absurd (cc)

-- and so it is behind calls that name whom they are made to
module _ {A : Type 0} (named : A → List Call → List Call) (behind : (a : A) (calls more : List Call) → named a (calls ++ more) ≡ named a calls ++ more) where
  pub grows_named : (old new : A) → ((calls : List Call) → named new calls ≡ named old calls) → {added : List Call} {before after : Option (List Call)}
      → Grows before added after → Grows (option_map (named old) before) added (option_map (named new) after)
  grows_named old new same {added = added} {before = before} {after = Some calls} grows = record {
    recorded = λ all is.
        let it = grows.recorded calls refl in
        let is_all : named new calls ≡ all = cc in
        (named old it.0, ap (option_map (named old)) it.1, sym is_all ∙ same calls ∙ ap (named old) it.2 ∙ behind old it.0 added);
  }
  grows_named old new same {after = None} grows = record { recorded = λ all is. absurd (cc) }

pub no_end : {E : Type 0} (taken : Taken) → IsNoEnd taken → EndsForGood {E = E} false (Ok taken) false
no_end {E = E} taken isnt = record {
  stays = λ is. is;
  answers = λ is. absurd (cc);
  marks = λ is. let same : taken ≡ End = cc in absurd (subst IsNoEnd same isnt);
}

-- ---- the texts of calls, one after another ----

pub next_is : {X : Type 0} (list : List X) (at : ℕ) (x : X) → at < length list → x ≡ get_or list at x → drop at list ≡ x ∷ drop (at + 1) list
next_is {X} list at x within is = drop_more list at x within ∙ ap (λ (y : X). y ∷ drop (at + 1) list) (sym is)

pub texts_next : (done : List (List ℕ)) (call : Call) (behind : List Call) → (done ++ texts_in (call ∷ [])) ++ texts_in behind ≡ done ++ texts_in (call ∷ behind)
texts_next done call behind = append_assoc done (texts_in (call ∷ [])) (texts_in behind) ∙ ap (λ (l : List (List ℕ)). done ++ l) (sym (texts_in-append (call ∷ []) behind))
