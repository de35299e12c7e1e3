-- What the calls say of each client, and of the merge.
use Rattle.std.proofs.Common.{◌≡◌, ℕ, ◌+◌, ◌*◌, ◌≤◌, Bool, true, false, cond, not, ◌&&◌, ◌==◌, List, [], ◌∷◌, ◌++◌, length, map, filter, find, refl, ap, sym, ◌∙◌, arith, Option, Some, None}
use Rattle.std.specs.Option.{option_map}
use Rattle.std.specs.List.{AllByRecursion}
use Rattle.std.proofs.lemmas.Bool.{eqb-true}
use Rattle.std.proofs.lemmas.Bool.Decides.{nat_tests}
use Rattle.std.proofs.lemmas.List.{length-append}
use Rattle.std.proofs.lemmas.List.Elements.{filter-append}
use Rattle.kit_bytes.specs.Subscriptions.{Pair, merge}
use Rattle.subscriptions.specs.Clients.{Client, client_in, newcomer, joins, leaves, changed, with_shown, with_list, is_too_long, share, gathered, merged}
use Rattle.subscriptions.specs.Calls.{Call, Joins, Leaves, Shows, Sets, clients_after, is_there, is_shown, last_list, client_of, client_if, is_coming, is_coming_or_going, tells_list, tells_shown, shown_by, list_by}
use Rattle.subscriptions.proofs.NormalForms.{normal_shorter}
use Rattle.subscriptions.proofs.Clients.{share_first}

-- ---- how many pairs a merge has ----

share_short : (client : Client) → length client.list ≤ 30 → length (share client) ≤ 30
share_short client short = by client.shown
  where
    by : (b : Bool) → length (cond b client.list []) ≤ 30
    by true = short
    by false = omega arith

pub gathered_short : (clients : List Client) → AllByRecursion (λ client. length client.list ≤ 30) clients → length (gathered clients) ≤ 30 * length clients
gathered_short [] all = omega arith
gathered_short (x ∷ xs) all =
    let one = share_short x all.0 in
    let others = gathered_short xs all.1 in
    let longer : length (gathered (x ∷ xs)) ≡ length (share x) + length (gathered xs) = ap (λ (l : List Pair). length l) (share_first x xs) ∙ length-append (share x) (gathered xs) in
    omega (arith, one, others, longer)

pub merged_short : (clients : List Client) → length clients ≤ 64 → AllByRecursion (λ client. length client.list ≤ 30) clients → length (merged clients) ≤ 1920
merged_short clients few all = let shorter = normal_shorter (gathered clients) in let short = gathered_short clients all in omega (arith, few, shorter, short)

-- ---- who isn't shown ----

pub hidden_gone : (xs : List Client) (client : Client) → client.shown ≡ false → filter (λ c. c.shown) (client ∷ xs) ≡ filter (λ c. c.shown) xs
hidden_gone xs client hidden = ap (λ (b : Bool). cond b (client ∷ filter (λ c. c.shown) xs) (filter (λ c. c.shown) xs)) hidden

pub hidden_merged : (front behind : List Client) (client : Client) → client.shown ≡ false → merged (front ++ client ∷ behind) ≡ merged (front ++ behind)
hidden_merged front behind client hidden =
    ap (λ (l : List Client). merge (map (λ c. c.list) l))
    (filter-append (λ c. c.shown) front (client ∷ behind) ∙ ap (λ (l : List Client). filter (λ c. c.shown) front ++ l) (hidden_gone behind client hidden) ∙ sym (filter-append (λ c. c.shown) front behind))

-- ---- the client of one connection, after each call ----

or_else : Option Client → Option Client → Option Client
or_else (Some client) other = Some client
or_else None other = other

module _ (conn : ℕ) where
  same_test : (other name : ℕ) → (other == name) ≡ true → (conn == name) ≡ (conn == other)
  same_test other name e = ap (λ (n : ℕ). conn == n) (sym (eqb-true other name e))

  apart_test : (other name : ℕ) → (other == name) ≡ false → (conn == name) ≡ true → (conn == other) ≡ false
  apart_test other name e f = grind (arith, nat_tests, e, f)

  in_left : (other : ℕ) (xs : List Client) → client_in conn (leaves other xs) ≡ cond (conn == other) None (client_in conn xs)
  in_left other [] = by (conn == other)
    where
      by : (b : Bool) → ◌≡◌ {A = Option Client} None (cond b None None)
      by true = refl
      by false = refl
  in_left other (x ∷ xs) = by (other == x.conn) refl (in_left other xs)
    where
      -- one that goes
      gone : (b : Bool) → cond b None (client_in conn xs) ≡ cond b None (cond b (Some x) (client_in conn xs))
      gone true = refl
      gone false = refl

      -- one that stays
      stays : (here away : Bool) → (here ≡ true → away ≡ false) → cond here (Some x) (cond away None (client_in conn xs)) ≡ cond away None (cond here (Some x) (client_in conn xs))
      stays true away apart = ap (λ (b : Bool). cond b None (Some x)) (sym (apart refl))
      stays false away apart = refl

      by : (b : Bool) → (other == x.conn) ≡ b → client_in conn (leaves other xs) ≡ cond (conn == other) None (client_in conn xs)
          → client_in conn (cond (not b) (x ∷ leaves other xs) (leaves other xs)) ≡ cond (conn == other) None (cond (conn == x.conn) (Some x) (client_in conn xs))
      by true e others = others ∙ gone (conn == other) ∙ ap (λ (b : Bool). cond (conn == other) None (cond b (Some x) (client_in conn xs))) (sym (same_test other x.conn e))
      by false e others = ap (λ (o : Option Client). cond (conn == x.conn) (Some x) o) others ∙ stays (conn == x.conn) (conn == other) (apart_test other x.conn e)

  in_pushed : (xs : List Client) (y : Client) → client_in conn (xs ++ y ∷ []) ≡ or_else (client_in conn xs) (client_in conn (y ∷ []))
  unfolding or_else
  in_pushed [] y = refl
  in_pushed (x ∷ xs) y = by (conn == x.conn) (in_pushed xs y)
    where
      by : (b : Bool) → client_in conn (xs ++ y ∷ []) ≡ or_else (client_in conn xs) (client_in conn (y ∷ [])) → cond b (Some x) (client_in conn (xs ++ y ∷ [])) ≡ or_else (cond b (Some x) (client_in conn xs)) (client_in conn (y ∷ []))
      by true others = refl
      by false others = others

  in_joined : (other : ℕ) (xs : List Client) → client_in conn (joins other xs) ≡ cond (conn == other) (Some (newcomer other)) (client_in conn xs)
  unfolding or_else
  in_joined other xs = in_pushed (leaves other xs) (newcomer other) ∙ ap (λ (o : Option Client). or_else o (client_in conn (newcomer other ∷ []))) (in_left other xs) ∙ by (conn == other) (client_in conn xs)
    where
      by : (b : Bool) (o : Option Client) → or_else (cond b None o) (cond b (Some (newcomer other)) None) ≡ cond b (Some (newcomer other)) o
      by true o = refl
      by false (Some client) = refl
      by false None = refl

  in_changed : (other : ℕ) (change : Client → Client) → ((c : Client) → (change c).conn ≡ c.conn) → (xs : List Client) → client_in conn (changed other change xs) ≡ cond (conn == other) (option_map change (client_in conn xs)) (client_in conn xs)
  unfolding changed
  in_changed other change same [] = by (conn == other)
    where
      by : (b : Bool) → ◌≡◌ {A = Option Client} None (cond b None None)
      by true = refl
      by false = refl
  in_changed other change same (x ∷ xs) = by (other == x.conn) refl (in_changed other change same xs)
    where
      here : (b : Bool) → cond b (Some (change x)) (client_in conn xs) ≡ cond b (option_map change (cond b (Some x) (client_in conn xs))) (cond b (Some x) (client_in conn xs))
      here true = refl
      here false = refl

      there : (c d : Bool) → (c ≡ true → d ≡ false) → cond c (Some x) (cond d (option_map change (client_in conn xs)) (client_in conn xs)) ≡ cond d (option_map change (cond c (Some x) (client_in conn xs))) (cond c (Some x) (client_in conn xs))
      there true d apart = ap (λ (b : Bool). cond b (Some (change x)) (Some x)) (sym (apart refl))
      there false d apart = refl

      by : (b : Bool) → (other == x.conn) ≡ b → client_in conn (changed other change xs) ≡ cond (conn == other) (option_map change (client_in conn xs)) (client_in conn xs)
          → client_in conn (cond b (change x ∷ xs) (x ∷ changed other change xs)) ≡ cond (conn == other) (option_map change (cond (conn == x.conn) (Some x) (client_in conn xs))) (cond (conn == x.conn) (Some x) (client_in conn xs))
      by true e others =
          let name : (conn == (change x).conn) ≡ (conn == other) = ap (λ (n : ℕ). conn == n) (same x) ∙ same_test other x.conn e in
          ap (λ (b : Bool). cond b (Some (change x)) (client_in conn xs)) name ∙ here (conn == other)
          ∙ ap (λ (b : Bool). cond (conn == other) (option_map change (cond b (Some x) (client_in conn xs))) (cond b (Some x) (client_in conn xs))) (sym (same_test other x.conn e))
      by false e others = ap (λ (o : Option Client). cond (conn == x.conn) (Some x) o) others ∙ there (conn == x.conn) (conn == other) (apart_test other x.conn e)

  -- ---- each client is what the calls say of it ----

  pub client_is : (calls : List Call) → client_in conn (clients_after calls) ≡ client_if (is_there conn calls) conn calls
  client_is [] = refl
  client_is (Joins other ∷ past) = in_joined other (clients_after past) ∙ by (conn == other) refl (client_is past)
    where
      by : (b : Bool) → (conn == other) ≡ b → client_in conn (clients_after past) ≡ client_if (is_there conn past) conn past
          → cond b (Some (newcomer other)) (client_in conn (clients_after past))
          ≡ cond (is_coming (cond b (Some (Joins other)) (find (is_coming_or_going conn) past))) (Some (record { conn = conn; shown = shown_by (cond b (Some (Joins other)) (find (tells_shown conn) past)); list = list_by (cond b (Some (Joins other)) (find (tells_list conn) past)) })) None
      by true e others = ap (λ (n : ℕ). Some (newcomer n)) (sym (eqb-true conn other e))
      by false e others = others
  client_is (Leaves other ∷ past) = in_left other (clients_after past) ∙ by (conn == other) (client_is past)
    where
      by : (b : Bool) → client_in conn (clients_after past) ≡ client_if (is_there conn past) conn past
          → cond b None (client_in conn (clients_after past)) ≡ cond (is_coming (cond b (Some (Leaves other)) (find (is_coming_or_going conn) past))) (Some (client_of conn past)) None
      by true others = refl
      by false others = others
  client_is (Shows other shown ∷ past) = in_changed other (with_shown shown) (λ c. refl) (clients_after past) ∙ by (conn == other) (is_there conn past) (client_is past)
    where
      by : (b there : Bool) → client_in conn (clients_after past) ≡ client_if there conn past
          → cond b (option_map (with_shown shown) (client_in conn (clients_after past))) (client_in conn (clients_after past))
          ≡ cond there (Some (record { conn = conn; shown = shown_by (cond b (Some (Shows other shown)) (find (tells_shown conn) past)); list = last_list conn past })) None
      by true true others = ap (option_map (with_shown shown)) others
      by true false others = ap (option_map (with_shown shown)) others
      by false there others = others
  client_is (Sets other list ∷ past) = by (is_too_long list) (conn == other) (is_there conn past) (in_changed other (with_list list) (λ c. refl) (clients_after past)) (client_is past)
    where
      by : (long b there : Bool) → client_in conn (changed other (with_list list) (clients_after past)) ≡ cond b (option_map (with_list list) (client_in conn (clients_after past))) (client_in conn (clients_after past)) → client_in conn (clients_after past) ≡ client_if there conn past
          → client_in conn (cond long (clients_after past) (changed other (with_list list) (clients_after past)))
          ≡ cond there (Some (record { conn = conn; shown = is_shown conn past; list = list_by (cond (not long && b) (Some (Sets other list)) (find (tells_list conn) past)) })) None
      by true b there change others = others
      by false true true change others = change ∙ ap (option_map (with_list list)) others
      by false true false change others = change ∙ ap (option_map (with_list list)) others
      by false false there change others = change ∙ others
