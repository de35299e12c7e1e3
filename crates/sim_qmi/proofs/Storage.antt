-- Stored messages, and lists of them.
use Rattle.std.proofs.Common.{◌≡◌, ℕ, zero, suc, ◌+◌, ◌<◌, ◌≤◌, Bool, true, false, List, [], ◌∷◌, ◌++◌, length, get_or, take, Option, Some, None, refl, sym, ◌∙◌, ap, subst, arith, length-set}
use Rattle.std.proofs.lemmas.Bool.{le-leb, lt-ltb}
use Rattle.std.specs.Cmp.Derive.{both_true}
use Rattle.std.specs.Option.{option_to_list}
use Rattle.std.specs.Prelude.{◌&&◌, nat_le, nat_lt, slice_set}
use Rattle.std.specs.List.{AllByRecursion, list_all, filter_map, cons_option, enumerate_from}
use Rattle.qmi_values.specs.Value.{Value}
use Rattle.sim_qmi.specs.State.{are_stored, is_stored}
use Rattle.sim_qmi.specs.Wms.{listed}

pub and_parts : (a b : Bool) → (a && b) ≡ true → (a ≡ true) × (b ≡ true)
and_parts true b both = (refl, both)
and_parts false b both = absurd cc

-- ---- a message is deleted ----

all_set : (messages : List (Option (List ℕ))) (index : ℕ) → list_all is_stored messages ≡ true → list_all is_stored (slice_set messages index None) ≡ true
all_set [] index all = refl
all_set (first ∷ messages) zero all = (and_parts (is_stored first) (list_all is_stored messages) all).1
all_set (first ∷ messages) (suc index) all =
    let p = and_parts (is_stored first) (list_all is_stored messages) all in
    both_true p.0 (all_set messages index p.1)

pub stored_set : (messages : List (Option (List ℕ))) (index : ℕ) → are_stored messages ≡ true → are_stored (slice_set messages index None) ≡ true
stored_set messages index are =
    let p = and_parts (nat_le (length messages) 100) (list_all is_stored messages) are in
    both_true (ap (λ (n : ℕ). nat_le n 100) (length-set messages index None) ∙ p.0) (all_set messages index p.1)

-- ---- messages are copied ----

pub short_at : (messages : List (List ℕ)) (index : ℕ) (message : List ℕ) → AllByRecursion (λ m. length m ≤ 255) messages → index < length messages → message ≡ get_or messages index message → length message ≤ 255
short_at [] index message all within at = absurd (omega arith)
short_at (first ∷ messages) zero message all within at = subst (λ (m : List ℕ). length m ≤ 255) (sym at) all.0
short_at (first ∷ messages) (suc index) message all within at = short_at messages index message all.1 (omega arith) at

bytes_all : (bytes : List ℕ) → ((k : ℕ) → get_or bytes k 0 < 256) → list_all (λ (byte : ℕ). nat_lt byte 256) bytes ≡ true
bytes_all [] are = refl
bytes_all (byte ∷ bytes) are = both_true (lt_true byte (are 0)) (bytes_all bytes (λ k. are (suc k)))
  where
    lt_true : (b : ℕ) → b < 256 → nat_lt b 256 ≡ true
    lt_true b below = lt-ltb b 256 below

pub message_stored : (message : List ℕ) → length message ≤ 255 → ((k : ℕ) → get_or message k 0 < 256) → is_stored (Some message) ≡ true
message_stored message short are = both_true (le-leb (length message) 255 short) (bytes_all message are)

all-append : (messages : List (Option (List ℕ))) (message : Option (List ℕ)) → list_all is_stored messages ≡ true → is_stored message ≡ true → list_all is_stored (messages ++ message ∷ []) ≡ true
all-append [] message all last = both_true last refl
all-append (first ∷ messages) message all last =
    let p = and_parts (is_stored first) (list_all is_stored messages) all in
    both_true p.0 (all-append messages message p.1 last)

pub stored_more : (messages more : List (Option (List ℕ))) (message : List ℕ) → list_all is_stored messages ≡ true → is_stored (Some message) ≡ true → more ≡ messages ++ Some message ∷ [] → list_all is_stored more ≡ true
stored_more messages more message all last is = subst (λ (ms : List (Option (List ℕ))). list_all is_stored ms ≡ true) (sym is) (all-append messages (Some message) all last)

pub all_stored : (messages : List (Option (List ℕ))) → length messages ≤ 100 → list_all is_stored messages ≡ true → are_stored messages ≡ true
all_stored messages few all = both_true (le-leb (length messages) 100 few) all

-- ---- a list of messages ----

one_listed : (o : Option Value) → cons_option o [] ≡ option_to_list o
one_listed None = refl
one_listed (Some value) = refl

listed_from_more : (n : ℕ) (messages : List (Option (List ℕ))) (i : ℕ) (message : Option (List ℕ)) → i < length messages → message ≡ get_or messages i message
    → filter_map listed (enumerate_from n (take (suc i) messages)) ≡ filter_map listed (enumerate_from n (take i messages)) ++ option_to_list (listed (n + i, message))
listed_from_more n [] i message within at = absurd (omega arith)
listed_from_more n (first ∷ messages) zero message within at =
    let same : n + 0 ≡ n = omega arith in
    one_listed (listed (n, first)) ∙ ap (λ (m : Option (List ℕ)). option_to_list (listed (n, m))) (sym at) ∙ ap (λ (k : ℕ). option_to_list (listed (k, message))) (sym same)
listed_from_more n (None ∷ messages) (suc i) message within at =
    let same : n + 1 + i ≡ n + suc i = omega arith in
    listed_from_more (n + 1) messages i message (omega arith) at ∙ ap (λ (k : ℕ). filter_map listed (enumerate_from (n + 1) (take i messages)) ++ option_to_list (listed (k, message))) same
listed_from_more n (Some first ∷ messages) (suc i) message within at =
    let same : n + 1 + i ≡ n + suc i = omega arith in
    ap (λ (values : List Value). cons_option (listed (n, Some first)) values)
    (listed_from_more (n + 1) messages i message (omega arith) at ∙ ap (λ (k : ℕ). filter_map listed (enumerate_from (n + 1) (take i messages)) ++ option_to_list (listed (k, message))) same)

pub listed_more : (messages : List (Option (List ℕ))) (i : ℕ) (message : Option (List ℕ)) → i < length messages → message ≡ get_or messages i message
    → filter_map listed (enumerate_from 0 (take (i + 1) messages)) ≡ filter_map listed (enumerate_from 0 (take i messages)) ++ option_to_list (listed (i, message))
listed_more messages i message within at =
    let next : i + 1 ≡ suc i = omega arith in
    let same : 0 + i ≡ i = omega arith in
    ap (λ (k : ℕ). filter_map listed (enumerate_from 0 (take k messages))) next ∙ listed_from_more 0 messages i message within at
    ∙ ap (λ (k : ℕ). filter_map listed (enumerate_from 0 (take i messages)) ++ option_to_list (listed (k, message))) same
