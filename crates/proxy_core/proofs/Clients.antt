-- What the protocol has at hand of the clients, as they join, leave and get bytes.
use Rattle.std.proofs.Common.{◌≡◌, ℕ, ◌<◌, ◌≤◌, arith, Bool, true, false, cond, ◌==◌, nat_lt, List, [], ◌∷◌, ◌++◌, length, refl, ap, sym, ◌∙◌, subst, Option, Some, None, is_some, if◌then◌else◌}
use Rattle.std.specs.List.{AllByRecursion}
use Rattle.std.proofs.lemmas.Bool.{eqb-true}
use Rattle.std.proofs.lemmas.Bool.Decides.{nat_tests}
use Rattle.std.proofs.lemmas.List.{map-append}
use Rattle.kit_bytes.specs.Sorted.{IsInOrder}
use Rattle.connections.specs.Table.{Connection, Table, AreRising, IsRegular, connection_in, changed, without, joined, joins, joins_if, leaves, took, client_takes}
use Rattle.proxy_core.specs.Meaning.{Named, clients_in, AreOthers, Meaning, Agrees}

abbrev pub named : {T : Type 0} → Connection T → Named T
named k = record { name = k.name; client = k.client }

-- the connection of the name stands behind some and before others
pub record Stands {T : Type 0} (c : ℕ) (present : List (Connection T)) (k : Connection T) : Type 0 where
  pub front : List (Connection T)
  pub behind : List (Connection T)
  pub is : c ≡ k.name
  pub whole : present ≡ front ++ k ∷ behind
  pub changed_is : (f : Connection T → Connection T) → changed c f present ≡ front ++ f k ∷ behind
  pub without_is : without c present ≡ front ++ behind
  pub others_front : AreOthers c (clients_in front)
  pub others_behind : AreOthers c (clients_in behind)

-- who joined earlier has a smaller name, who joined later a greater one
pub newer_others : {T : Type 0} (c greatest : ℕ) → greatest < c → (present : List (Connection T)) → AllByRecursion (λ k. k.name ≤ greatest) present → AreOthers c (clients_in present)
newer_others c greatest newer [] all = tt
newer_others c greatest newer (k ∷ present) all = (let first = all.0 in grind (arith, nat_tests, first, newer), newer_others c greatest newer present all.1)

older_others : {T : Type 0} (c least : ℕ) → c ≡ least → (present : List (Connection T)) → AllByRecursion (λ k. least < k.name) present → AreOthers c (clients_in present)
older_others c least same [] all = tt
older_others c least same (k ∷ present) all = (let first = all.0 in grind (arith, nat_tests, first, same), older_others c least same present all.1)

module _ {T : Type 0} (c : ℕ) where
  pub stands : (present : List (Connection T)) (k : Connection T) → AreRising present → connection_in c present ≡ Some k → Stands c present k
  unfolding changed without IsInOrder
  stands [] k rising found = absurd (cc)
  stands (l ∷ present) k rising found = by (λ e. stands present k rising.1 e) (c == l.name) refl found
    where
      by : (connection_in c present ≡ Some k → Stands c present k) → (b : Bool) → (c == l.name) ≡ b → cond b (Some l) (connection_in c present) ≡ Some k → Stands c (l ∷ present) k
      by others true e is =
          let it : l ≡ k = cc in
          record {
            front = [];
            behind = present;
            is = eqb-true c l.name e ∙ ap (λ (m : Connection T). m.name) it;
            whole = ap (λ (m : Connection T). m ∷ present) it;
            changed_is = λ f. rw e (ap (λ (m : Connection T). f m ∷ present) it);
            without_is = rw e refl;
            others_front = tt;
            others_behind = older_others c l.name (eqb-true c l.name e) present rising.0;
          }
      by others false e is =
          let S = others is in
          record {
            front = l ∷ S.front;
            behind = S.behind;
            is = S.is;
            whole = ap (λ (ls : List (Connection T)). l ∷ ls) S.whole;
            changed_is = λ f. rw e (ap (λ (ls : List (Connection T)). l ∷ ls) (S.changed_is f));
            without_is = rw e (ap (λ (ls : List (Connection T)). l ∷ ls) S.without_is);
            others_front = (e, S.others_front);
            others_behind = S.others_behind;
          }

  -- nobody of the name is there
  pub without_none : (present : List (Connection T)) → connection_in c present ≡ None → without c present ≡ present
  unfolding without
  without_none [] none = refl
  without_none (l ∷ present) none = by (λ e. without_none present e) (c == l.name) none
    where
      by : (connection_in c present ≡ None → without c present ≡ present) → (b : Bool) → cond b (Some l) (connection_in c present) ≡ None → (if b then present else l ∷ without c present) ≡ l ∷ present
      by others true is = absurd (cc)
      by others false is = ap (λ (ls : List (Connection T)). l ∷ ls) (others is)

  -- a change that leaves the client as it is
  pub clients_same : (f : Connection T → Connection T) → ((k : Connection T) → named (f k) ≡ named k) → (present : List (Connection T)) → clients_in (changed c f present) ≡ clients_in present
  unfolding changed
  clients_same f same [] = refl
  clients_same f same (l ∷ present) = by (clients_same f same present) (c == l.name)
    where
      by : clients_in (changed c f present) ≡ clients_in present → (b : Bool) → clients_in (if b then f l ∷ present else l ∷ changed c f present) ≡ named l ∷ clients_in present
      by others true = ap (λ (n : Named T). n ∷ clients_in present) (same l)
      by others false = ap (λ (ns : List (Named T)). named l ∷ ns) others

pub clients_append : {T : Type 0} (front behind : List (Connection T)) → clients_in (front ++ behind) ≡ clients_in front ++ clients_in behind
clients_append front behind = map-append named front behind

module _ {T S P : Type 0} (d : Meaning T S P) {table : Table T} {beside : S} {hand : P} (A : Agrees d table beside hand) where
  -- one joins
  module _ (fresh : T) (c : ℕ) (after : Table T) (is : after ≡ joins c fresh table) where
    pub joined_agrees : (now : P) → ((clients : List (Named T)) → AreOthers c clients → d.agrees clients beside hand → d.agrees (clients ++ record { name = c; client = fresh } ∷ []) beside now)
        → table.greatest < c → IsRegular table → nat_lt (length table.present) table.limit ≡ true → Agrees d after beside now
    joined_agrees now given newer R let_in =
        subst (λ (t : Table T). Agrees d t beside now) (sym (is ∙ ap (λ (b : Bool). joins_if b c fresh table) let_in))
        (record {
          limit = A.limit;
          clients = subst (λ (l : List (Named T)). d.agrees l beside now) (sym (clients_append table.present (joined c fresh table.room ∷ []))) (given (clients_in table.present) (newer_others c table.greatest newer table.present R.known) A.clients);
        })

    -- or isn't let in
    pub refused_agrees : nat_lt (length table.present) table.limit ≡ false → Agrees d after beside hand
    refused_agrees full = subst (λ (t : Table T). Agrees d t beside hand) (sym (is ∙ ap (λ (b : Bool). joins_if b c fresh table) full)) (record { limit = A.limit; clients = A.clients })

  -- its socket took bytes
  pub took_agrees : (c count : ℕ) (after : Table T) → after ≡ client_takes c count table → Agrees d after beside hand
  took_agrees c count after is =
      subst (λ (t : Table T). Agrees d t beside hand) (sym is)
      (record { limit = A.limit; clients = subst (λ (l : List (Named T)). d.agrees l beside hand) (sym (clients_same c (took count) (λ k. refl) table.present)) A.clients })

  -- nobody of the name was there
  stranger_agrees : (c : ℕ) (after : Table T) → connection_in c table.present ≡ None → after ≡ leaves c table → Agrees d after beside hand
  stranger_agrees c after none is =
      subst (λ (t : Table T). Agrees d t beside hand) (sym is)
      (record { limit = A.limit; clients = subst (λ (l : List (Connection T)). d.agrees (clients_in l) beside hand) (sym (without_none c table.present none)) A.clients })

  -- one is gone, and was given up
  module _ (c : ℕ) (rising : AreRising table.present) (later : S) (now : P) (given : (front behind : List (Named T)) (client : T) → AreOthers c front → AreOthers c behind → d.agrees (front ++ record { name = c; client = client } ∷ behind) beside hand → d.agrees (front ++ behind) later now) where
    gone : (k : Connection T) → connection_in c table.present ≡ Some k → d.agrees (clients_in (without c table.present)) later now
    gone k found =
        let S = stands c table.present k rising found in
        let there : clients_in table.present ≡ clients_in S.front ++ record { name = c; client = k.client } ∷ clients_in S.behind =
        ap clients_in S.whole ∙ clients_append S.front (k ∷ S.behind) ∙ ap (λ (n : ℕ). clients_in S.front ++ record { name = n; client = k.client } ∷ clients_in S.behind) (sym S.is)
        in
        let left : clients_in (without c table.present) ≡ clients_in S.front ++ clients_in S.behind = ap clients_in S.without_is ∙ clients_append S.front S.behind in
        subst (λ (l : List (Named T)). d.agrees l later now) (sym left) (given (clients_in S.front) (clients_in S.behind) k.client S.others_front S.others_behind (subst (λ (l : List (Named T)). d.agrees l beside hand) there A.clients))

    left_agrees : (k : Connection T) (after : Table T) → connection_in c table.present ≡ Some k → after ≡ leaves c table → Agrees d after later now
    left_agrees k after found is = subst (λ (t : Table T). Agrees d t later now) (sym is) (record { limit = A.limit; clients = gone k found })

    pub left_there : (after : Table T) → is_some (connection_in c table.present) ≡ true → after ≡ leaves c table → Agrees d after later now
    left_there after there is = by (connection_in c table.present) refl there
      where
        by : (o : Option (Connection T)) → connection_in c table.present ≡ o → is_some o ≡ true → Agrees d after later now
        by None e there = absurd (cc)
        by (Some k) e there = left_agrees k after e is

  pub left_stranger : (c : ℕ) (after : Table T) → is_some (connection_in c table.present) ≡ false → after ≡ leaves c table → Agrees d after beside hand
  left_stranger c after there is = by (connection_in c table.present) refl there
    where
      by : (o : Option (Connection T)) → connection_in c table.present ≡ o → is_some o ≡ false → Agrees d after beside hand
      by None e there = stranger_agrees c after e is
      by (Some k) e there = absurd (cc)
