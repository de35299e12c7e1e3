-- What a client's message adds to the requests in use, and what a ledger then mirrors. A list of facts has the newest first.
use Rattle.std.proofs.Common.{◌≡◌, ℕ, ◌+◌, ◌<◌, ◌≤◌, Bool, true, false, ◌==◌, if◌then◌else◌, List, [], ◌∷◌, ◌++◌, length, map, drop, refl, ap, sym, ◌∙◌, subst, arith, append-nil, slice_index_or}
use Rattle.std.specs.List.{AllByRecursion}
use Rattle.std.proofs.lemmas.Bool.{eq-eqb, eqb-true, eqb-false}
use Rattle.std.proofs.lemmas.List.{drop-append-le, map-append, length-set, get_or-set_same, get_or-set_other}
use Rattle.std.proofs.Math.Seq.{drop-append_seam}
use Rattle.kit_bytes.proofs.Lists.{all_push}
use Rattle.proxy_history.specs.Facts.{Fact, Request, Verdict, Forward, Why, Ended, Judged, Forwarded}
use Rattle.proxy_history.specs.Decision.{Decision, Replies, Forwards}
use Rattle.proxy_history.specs.Connections.{message_count}
use Rattle.proxy_history.specs.Requests.{in_use, forward_count, deadline_of}
use Rattle.proxy_history.specs.Modem.{now, to_modem, modem_taken_count, modem_queue}
use Rattle.proxy_history.proofs.Sound.{kept_by_note}
use Rattle.qmi_proxy.specs.Setup.{Setup}
use Rattle.qmi_proxy.specs.Limits.{qmi_limits}
use Rattle.qmi_proxy.specs.Messages.{uses_id}
use Rattle.qmi_proxy.specs.Text.{qmi_wording, note}
use Rattle.qmi_proxy.specs.Clients.{wire, request_of, grant_if, judge}
use Rattle.qmi_solo.proofs.Numbering.{renumbered}
use Rattle.rig_runs.specs.Rig.{time_limit}
use Rattle.rig_trace.specs.declared.rows.Row.{Row}
use Rattle.rig_trace.specs.Rows.{Ledger, names, said_by, more_said, row_for, one_forwarded, has_said}
use Rattle.rig_trace.specs.Qmi.{key_of, qmi_reading}
use Rattle.rig_trace.specs.Laws.{Mirrors}
use Rattle.trace_laws.specs.Laws.{row_of}

-- ---- what is mirrored, of requests that are long enough to have a number ----

abbrev pub AreLong : List Request → Type 0
AreLong requests = AllByRecursion (λ r. 12 ≤ length r.message) requests

pub record Mirrored (past : List Fact) (ledger : Ledger) : Type 0 where
  pub mirrors : Mirrors row_of past ledger
  pub long : AreLong (in_use past)

-- ---- facts ----

-- what the questions that a ledger answers say of a history
pub record Reads (all : List Request) (number shown : ℕ) (queued : List ℕ) (took : ℕ) (of_client : ℕ → ℕ) (past : List Fact) : Type 0 where
  pub in_use : in_use past ≡ all
  pub count : forward_count past ≡ number
  pub time : now past ≡ shown
  pub bytes : to_modem wire past ≡ queued
  pub was_taken : modem_taken_count past ≡ took
  pub said : (c : ℕ) → message_count c past ≡ of_client c

module _ (requests : List Request) (count time : ℕ) (bytes : List ℕ) (was_taken : ℕ) (said : ℕ → ℕ) where
  pub ended_reads : (c : ℕ) (why : Why) (past : List Fact) → Reads requests count time bytes was_taken said past → Reads requests count time bytes was_taken said (Ended c why ∷ past)
  unfolding in_use forward_count now to_modem modem_taken_count message_count
  ended_reads c why past R = record { in_use = R.in_use; count = R.count; time = R.time; bytes = R.bytes; was_taken = R.was_taken; said = R.said }

  pub noted_reads : (s : Setup) (fact : Fact) (past : List Fact) → Reads requests count time bytes was_taken said (fact ∷ past) → Reads requests count time bytes was_taken said (note s.device fact past)
  noted_reads s fact past R = kept_by_note qmi_limits (qmi_wording s.device) (Reads requests count time bytes was_taken said) (λ c before there R. ended_reads c _ before R) fact past R

-- ---- the ledger ----

-- one message more
pub said_after : (c d : ℕ) (ledger : Ledger) → length ledger.said ≡ names → c < names → slice_index_or (more_said c ledger) d 0 ≡ (if c == d then said_by d ledger + 1 else said_by d ledger)
said_after c d ledger same below =
    let within : c < length ledger.said = omega (arith, same, below) in
    let step : (b : Bool) → (c == d) ≡ b → slice_index_or (more_said c ledger) d 0 ≡ (if b then said_by d ledger + 1 else said_by d ledger) =
    λ b. elim b as (λ b. (c == d) ≡ b → slice_index_or (more_said c ledger) d 0 ≡ (if b then said_by d ledger + 1 else said_by d ledger)) [
      | true ↦ λ is. subst (λ (x : ℕ). slice_index_or (more_said c ledger) x 0 ≡ said_by x ledger + 1) (eqb-true c d is) (get_or-set_same ledger.said c (said_by c ledger + 1) 0 within)
      | false ↦ λ isnt. get_or-set_other ledger.said c d (said_by c ledger + 1) 0 (λ is. eqb-false c d isnt (sym is))
    ]
    in step (c == d) refl

-- what some bytes tell
pub said_some : (c : ℕ) (m asked : List ℕ) (ledger : Ledger) → 0 < length asked
    → has_said qmi_reading c m asked ledger ≡ record ledger { rows = ledger.rows ++ row_for qmi_reading c asked ledger ∷ []; asked = ledger.asked + 1; said = more_said c ledger; counts = one_forwarded false ledger.counts }
said_some c m [] ledger some = absurd (omega (arith, some))
said_some c m (byte ∷ asked) ledger some = refl

-- ---- a message ----

-- the request that it makes
abbrev pub request_on : Setup → ℕ → List ℕ → ℕ → List Fact → Request
request_on s c m number past = request_of s c m number (Judged c (message_count c past + 1) m Forward ∷ past)

-- the bytes for the modem
abbrev pub asked_on : Setup → ℕ → List ℕ → Decision → List Fact → List ℕ
asked_on s c m (Replies verdict) past = []
asked_on s c m (Forwards number) past = wire (request_on s c m number past)

-- what a message made of a history: these bytes are behind those for the modem
pub record Brings (c : ℕ) (m asked : List ℕ) (past after : List Fact) : Type 0 where
  pub bytes : to_modem wire after ≡ to_modem wire past ++ asked
  pub was_taken : modem_taken_count after ≡ modem_taken_count past
  pub mirrored : (ledger : Ledger) → Mirrored past ledger → Mirrored after (has_said qmi_reading c m asked ledger)

pub new_bytes : (past after : List Fact) (asked : List ℕ) → to_modem wire after ≡ to_modem wire past ++ asked → modem_taken_count after ≡ modem_taken_count past → modem_taken_count past ≤ length (to_modem wire past)
    → drop (length (modem_queue wire past)) (modem_queue wire after) ≡ asked
new_bytes past after asked bytes was_taken within =
    let queue : modem_queue wire after ≡ modem_queue wire past ++ asked =
    ap (λ (n : ℕ). drop n (to_modem wire after)) was_taken ∙ ap (drop (modem_taken_count past)) bytes ∙ drop-append-le (modem_taken_count past) (to_modem wire past) asked within
    in ap (drop (length (modem_queue wire past))) queue ∙ drop-append_seam (modem_queue wire past) asked

module _ (s : Setup) (limit : s.time_limit ≡ time_limit) (c : ℕ) (named : c < names) (m : List ℕ) (long : 12 ≤ length m) (past : List Fact) where
  abbrev one_more : ℕ → ℕ
  one_more d = if c == d then message_count d past + 1 else message_count d past

  abbrev judged : Verdict → List Fact
  judged verdict = Judged c (message_count c past + 1) m verdict ∷ past

  judged_reads : (verdict : Verdict) → Reads (in_use past) (forward_count past) (now past) (to_modem wire past) (modem_taken_count past) one_more (judged verdict)
  unfolding in_use forward_count now to_modem modem_taken_count message_count
  judged_reads verdict = record { in_use = refl; count = refl; time = refl; bytes = refl; was_taken = refl; said = λ d. refl }

  said_now : (ledger : Ledger) → Mirrors row_of past ledger → (d : ℕ) → d < names → slice_index_or (more_said c ledger) d 0 ≡ one_more d
  said_now ledger M d below = said_after c d ledger M.names_are named ∙ ap (λ (n : ℕ). if c == d then n + 1 else n) (M.said d below)

  names_stay : (ledger : Ledger) → Mirrors row_of past ledger → length (more_said c ledger) ≡ names
  names_stay ledger M = length-set ledger.said c (said_by c ledger + 1) ∙ M.names_are

  replied : (verdict : Verdict) → Brings c m [] past (judge s c m (Replies verdict) past)
  replied verdict =
      let R = noted_reads (in_use past) (forward_count past) (now past) (to_modem wire past) (modem_taken_count past) one_more s (Judged c (message_count c past + 1) m verdict) past (judged_reads verdict) in
      record {
        bytes = R.bytes ∙ sym (append-nil (to_modem wire past));
        was_taken = R.was_taken;
        mirrored = λ ledger all. record {
          mirrors = record {
            rows = all.mirrors.rows ∙ ap (map row_of) (sym R.in_use);
            asked = all.mirrors.asked ∙ sym R.count;
            time = all.mirrors.time ∙ sym R.time;
            names_are = names_stay ledger all.mirrors;
            said = λ d below. said_now ledger all.mirrors d below ∙ sym (R.said d);
          };
          long = subst AreLong (sym R.in_use) all.long;
        };
      }

  -- ---- one that is forwarded ----

  module _ (number : ℕ) where
    abbrev request : Request
    request = request_on s c m number past

    sent_reads : (b : Bool) → Reads (in_use past ++ request ∷ []) (forward_count past + 1) (now past) (to_modem wire past ++ wire request) (modem_taken_count past) one_more (grant_if b c m (Forwarded request ∷ judged Forward))
    unfolding in_use forward_count now to_modem modem_taken_count message_count
    sent_reads true = record { in_use = refl; count = refl; time = refl; bytes = refl; was_taken = refl; said = λ d. refl }
    sent_reads false = record { in_use = refl; count = refl; time = refl; bytes = refl; was_taken = refl; said = λ d. refl }

    abbrev row_with : (serial place deadline : ℕ) → Row
    row_with serial place deadline = record { serial = serial; conn = c; place = place; key = key_of (wire request); own = false; deadline = deadline }

    serial_is : request.serial ≡ forward_count past + 1
    unfolding forward_count
    serial_is = refl

    place_is : request.place ≡ message_count c past + 1
    unfolding message_count
    place_is = ap (λ (b : Bool). if b then message_count c past + 1 else message_count c past) (eq-eqb c c refl)

    deadline_is : request.deadline ≡ deadline_of (now past) time_limit
    unfolding now
    deadline_is = ap (deadline_of (now past)) limit

    row_is : (ledger : Ledger) → Mirrors row_of past ledger → row_for qmi_reading c (wire request) ledger ≡ row_of request
    row_is ledger M =
        ap (λ (n : ℕ). row_with (n + 1) (said_by c ledger + 1) (deadline_of ledger.time time_limit)) M.asked
        ∙ ap (λ (n : ℕ). row_with n (said_by c ledger + 1) (deadline_of ledger.time time_limit)) (sym serial_is)
        ∙ ap (λ (n : ℕ). row_with request.serial (n + 1) (deadline_of ledger.time time_limit)) (M.said c named)
        ∙ ap (λ (n : ℕ). row_with request.serial n (deadline_of ledger.time time_limit)) (sym place_is)
        ∙ ap (λ (n : ℕ). row_with request.serial request.place (deadline_of n time_limit)) M.time
        ∙ ap (row_with request.serial request.place) (sym deadline_is)

    pub some : 0 < length (wire request)
    some = let same = (renumbered number m long).long in omega (arith, same, long)

    forwarded : Brings c m (wire request) past (judge s c m (Forwards number) past)
    forwarded =
        let R = sent_reads (uses_id m) in
        record {
          bytes = R.bytes;
          was_taken = R.was_taken;
          mirrored = λ ledger all.
              let M : Mirrors row_of past ledger = all.mirrors in
              subst (Mirrored (judge s c m (Forwards number) past)) (sym (said_some c m (wire request) ledger some))
              (record {
                mirrors = record {
                  rows =
                      ap (λ (row : Row). ledger.rows ++ row ∷ []) (row_is ledger M) ∙ ap (λ (rows : List Row). rows ++ row_of request ∷ []) M.rows
                      ∙ sym (map-append row_of (in_use past) (request ∷ [])) ∙ ap (map row_of) (sym R.in_use);
                  asked = ap (λ (n : ℕ). n + 1) M.asked ∙ sym R.count;
                  time = M.time ∙ sym R.time;
                  names_are = names_stay ledger M;
                  said = λ d below. said_now ledger M d below ∙ sym (R.said d);
                };
                long = subst AreLong (sym R.in_use) (all_push (λ (r : Request). 12 ≤ length r.message) (in_use past) request all.long long);
              });
        }

  pub brings : (decision : Decision) → Brings c m (asked_on s c m decision past) past (judge s c m decision past)
  brings (Replies verdict) = replied verdict
  brings (Forwards number) = forwarded number
