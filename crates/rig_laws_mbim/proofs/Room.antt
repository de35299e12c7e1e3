-- Room for what is due to a client: nobody ends for want of it. Lists of facts have the newest first.
use Rattle.std.proofs.Common.{◌≡◌, ℕ, ◌+◌, ◌*◌, ◌<◌, ◌≤◌, Bool, true, false, ◌&&◌, ◌||◌, ◌==◌, nat_lt, if◌then◌else◌, List, [], ◌∷◌, ◌++◌, length, take, refl, ap, sym, ◌∙◌, arith, subst, lit≤, length-append}
use Rattle.std.specs.List.{AllByRecursion}
use Rattle.std.proofs.lemmas.Bool.Decides.{nat_tests}
use Rattle.mbim_frame.specs.declared.kind.MessageKind.TheVariants.{CommandDone}
use Rattle.mbim_frame.specs.declared.status.TheConstants.{FAILURE}
use Rattle.mbim_frame.specs.Kinds.{kind_number}
use Rattle.mbim_frame.specs.Bodies.{done_text}
use Rattle.mbim_fragments.specs.Splitting.{split}
use Rattle.mbim_fragments.proofs.Sizes.{length-split, one_part}
use Rattle.proxy_history.specs.Facts.{Fact, Request, Ended, NoRoom, Expired}
use Rattle.proxy_history.specs.Connections.{present, is_present}
use Rattle.proxy_history.specs.Requests.{is_pending}
use Rattle.proxy_history.specs.View.{Entry, Refused, NoAnswer, entry_if, view}
use Rattle.proxy_history.specs.Rendering.{Rendering, render, put}
use Rattle.proxy_history.specs.Noting as noting
use Rattle.proxy_history.specs.Noting.{end_overfull, each_pending, receivers_of}
use Rattle.proxy_history.specs.Wording.{text_behind}
use Rattle.mbim_proxy.specs.Known.{Ask, Known, ask_at, no_ask}
use Rattle.mbim_proxy.specs.Step.{view_of, known_from, known_now}
use Rattle.mbim_proxy.specs.Text.{mbim_wording, refusal_text, note}
use Rattle.mbim_proxy.specs.ModemStates.{is_own_open}
use Rattle.mbim_proxy.specs.FromModem.{refuse, end_opening}
use Rattle.rig_runs.specs.Mbim.{setup}
use Rattle.rig_laws_mbim.proofs.Harmless.{HasShortService, IsSteady, steady}
use Rattle.rig_laws_mbim.proofs.Calm.{Calm, Progress, ready, expired}

abbrev pub outbox : ℕ
outbox = 262144

abbrev pub bytes_for : ℕ → List Fact → Rendering
bytes_for c past = noting.rendering setup.limits (mbim_wording setup) c past

abbrev pub bytes_of : List Entry → Rendering
bytes_of entries = render outbox (text_behind (mbim_wording setup)) entries

-- ---- one entry ----

-- so many more bytes find room
pub record HasRoom (count : ℕ) (r : Rendering) : Type 0 where
  pub fits : r.is_over ≡ false
  pub room : length r.waiting + count ≤ outbox

over_by : (over : Bool) (waiting : ℕ) → over ≡ false → waiting ≤ outbox → (over || nat_lt outbox waiting) ≡ false
over_by true waiting isnt within = absurd (cc)
over_by false waiting isnt within = grind (arith, nat_tests)

pub put_has_room : (count : ℕ) (new : List ℕ) (r : Rendering) → HasRoom (length new + count) r → HasRoom count (put outbox new r)
put_has_room count new r has =
    let over : (r.is_over || nat_lt outbox (length r.waiting + length new)) ≡ false = over_by r.is_over (length r.waiting + length new) has.fits (omega (arith, has.room)) in
    record {
      fits = over;
      room =
          let more : length (if r.is_over || nat_lt outbox (length r.waiting + length new) then r.waiting else r.waiting ++ new) ≡ length r.waiting + length new =
          ap (λ (b : Bool). length (if b then r.waiting else r.waiting ++ new)) over ∙ length-append r.waiting new in
          omega (arith, more, has.room);
    }

pub less_room : (less more : ℕ) (r : Rendering) → less ≤ more → HasRoom more r → HasRoom less r
less_room less more r low has = record { fits = has.fits; room = omega (arith, has.room) }

-- what comes for a client that is there, or for another one
entry_has_room : (b : Bool) (less more : ℕ) (with_it old : Rendering) → less ≤ more → (b ≡ true → HasRoom more old → HasRoom less with_it) → HasRoom more old → HasRoom less (if b then with_it else old)
entry_has_room true less more with_it old low here has = here refl has
entry_has_room false less more with_it old low here has = less_room less more old low has

-- so has each client that is there
abbrev pub AllHaveRoom : ℕ → List Fact → Type 0
AllHaveRoom count past = (c : ℕ) → is_present c past ≡ true → HasRoom count (bytes_for c past)

pub fewer : (less more : ℕ) (past : List Fact) → less ≤ more → AllHaveRoom more past → AllHaveRoom less past
fewer less more past low has c there = less_room less more (bytes_for c past) low (has c there)

-- ---- a fact that one client may get ----

module _ (fact : Fact) (past : List Fact) (c : ℕ) where
  ends_nobody : (there over : Bool) → (there ≡ true → over ≡ false) → (if there && over then Ended c NoRoom ∷ fact ∷ past else fact ∷ past) ≡ fact ∷ past
  ends_nobody true over fits = ap (λ (b : Bool). if b then Ended c NoRoom ∷ fact ∷ past else fact ∷ past) (fits refl)
  ends_nobody false over fits = refl

  pub noted : receivers_of fact ≡ c ∷ [] → (is_present c (fact ∷ past) ≡ true → (bytes_for c (fact ∷ past)).is_over ≡ false) → note setup fact past ≡ fact ∷ past
  unfolding end_overfull
  noted one fits =
      ap (λ (receivers : List ℕ). end_overfull setup.limits (mbim_wording setup) receivers (fact ∷ past)) one
      ∙ ends_nobody (is_present c (fact ∷ past)) (bytes_for c (fact ∷ past)).is_over fits

-- ---- a request that expires ----

ask_is_short : (place : ℕ) (asks : List Ask) → AllByRecursion HasShortService asks → HasShortService (ask_at place asks)
ask_is_short place [] all = omega arith
ask_is_short place (ask ∷ asks) all = elim (ask.place == place) as (λ b. HasShortService (if b then ask else ask_at place asks)) [ true ↦ all.0 | false ↦ ask_is_short place asks all.1 ]

pub refusal_is_short : (place : ℕ) (known : Known) → IsSteady known → length (refusal_text known (ask_at place known.asks)) ≤ 48
refusal_is_short place known is =
    let ask : Ask = ask_at place known.asks in
    let body : List ℕ = done_text (record { uuid = ask.uuid; cid = ask.cid; status = FAILURE }) [] in
    let uuid : length ask.uuid ≤ 16 = ask_is_short place known.asks is.asks in
    let long : length body ≤ 28 = length_is ask.uuid ask.cid uuid in
    let fragments : length (refusal_text known ask) ≡ length (split (kind_number CommandDone) ask.number 4096 body) = ap (λ (n : ℕ). length (split (kind_number CommandDone) ask.number n body)) is.fragment in
    let size = length-split (kind_number CommandDone) ask.number 4096 body (omega arith) in
    let one = one_part 4076 (length body) (omega arith) (omega (arith, long)) in
    omega (arith, fragments, size, one, long)
  where
    length_is : (uuid : List ℕ) (cid : ℕ) → length uuid ≤ 16 → length (done_text (record { uuid = uuid; cid = cid; status = FAILURE }) []) ≤ 28
    length_is uuid cid short = grind (arith, length-append, short)

rendered_if : (b : Bool) (entry : Entry) (entries : List Entry) → bytes_of (entry_if b entry entries) ≡ (if b then bytes_of (entry ∷ entries) else bytes_of entries)
rendered_if true entry entries = refl
rendered_if false entry entries = refl

abbrev expire_each : List Request → List Fact → List Fact
expire_each requests past = each_pending (λ r before. refuse setup (Expired r) r before) requests past

abbrev expired_alone : List Request → List Fact → List Fact
expired_alone requests past = each_pending (λ r before. Expired r ∷ before) requests past

-- these facts came, and all is as it was
pub record AllExpire (w : Progress) (used : List Request) (queue : List ℕ) (after facts_then : List Fact) : Type 0 where
  pub facts : after ≡ facts_then
  pub calm : Calm w used queue facts_then

module _ {joined configured opened : ℕ} {used : List Request} {queue : List ℕ} where
  expired_room : (count : ℕ) (r : Request) (past : List Fact) → Calm (ready joined configured opened) used queue past → AllHaveRoom (48 + count) past → AllHaveRoom count (Expired r ∷ past)
  unfolding view present render
  expired_room count r past calm has c there =
      let known : Known = known_now setup c past in
      let reply : List ℕ = refusal_text known (ask_at r.place known.asks) in
      subst (HasRoom count) (sym (rendered_if (r.conn == c) (Refused r.place NoAnswer) (view_of c past)))
      (entry_has_room (r.conn == c) count (48 + count) (put outbox reply (bytes_for c past)) (bytes_for c past) (omega arith)
      (λ mine old. put_has_room count reply (bytes_for c past) (less_room (length reply + count) (48 + count) (bytes_for c past) (let short = refusal_is_short r.place known (steady c past calm.harmless) in omega (arith, short)) old))
      (has c there))

  refused_alone : (count : ℕ) (r : Request) (past : List Fact) → is_own_open r ≡ false → Calm (ready joined configured opened) used queue past → AllHaveRoom (48 + count) past → refuse setup (Expired r) r past ≡ Expired r ∷ past
  refused_alone count r past command calm has =
      ap (λ (b : Bool). if b then end_opening setup FAILURE (note setup (Expired r) past) else note setup (Expired r) past) command
      ∙ noted (Expired r) past r.conn refl (λ there. (expired_room count r past calm has r.conn there).fits)

  -- ---- several that expire ----

  pub all_expire : (requests : List Request) (past : List Fact) → AllByRecursion (λ r. is_own_open r ≡ false) requests → Calm (ready joined configured opened) used queue past → AllHaveRoom (48 * length requests) past
      → AllExpire (ready joined configured opened) used queue (expire_each requests past) (expired_alone requests past)
  unfolding each_pending
  all_expire [] past commands calm has = record { facts = refl; calm = calm }
  all_expire (r ∷ requests) past commands calm has =
      let has_more : AllHaveRoom (48 + 48 * length requests) past = fewer (48 + 48 * length requests) (48 * length (r ∷ requests)) past (omega arith) has in
      let alone : refuse setup (Expired r) r past ≡ Expired r ∷ past = refused_alone (48 * length requests) r past commands.0 calm has_more in
      elim (is_pending r past) as (λ b. AllExpire (ready joined configured opened) used queue (expire_each requests (if b then refuse setup (Expired r) r past else past)) (expired_alone requests (if b then Expired r ∷ past else past))) [
        | true ↦ subst (λ (l : List Fact). AllExpire (ready joined configured opened) used queue (expire_each requests l) (expired_alone requests (Expired r ∷ past))) (sym alone)
            (all_expire requests (Expired r ∷ past) commands.1 (expired calm r) (expired_room (48 * length requests) r past calm has_more))
        | false ↦ all_expire requests past commands.1 calm (fewer (48 * length requests) (48 * length (r ∷ requests)) past (omega arith) has)
      ]
