-- Room for what is due to a client: nobody ends for want of it. Lists of facts have the newest first.
use Rattle.std.proofs.Common.{◌≡◌, ℕ, ◌+◌, ◌*◌, ◌≤◌, Bool, true, false, ◌&&◌, ◌||◌, ◌==◌, nat_lt, if◌then◌else◌, List, [], ◌∷◌, ◌++◌, length, refl, ap, sym, ◌∙◌, arith, subst, slice_index, lit≤, length-append}
use Rattle.std.proofs.lemmas.Bool.Decides.{nat_tests}
use Rattle.qmux_frame.specs.Head.{service_of, is_control, cid_of}
use Rattle.qmux_frame.specs.Reply.{result_tlv, result_reply}
use Rattle.proxy_history.specs.Facts.{Fact, Request, Ended, NoRoom, Expired}
use Rattle.proxy_history.specs.Connections.{present, is_present}
use Rattle.proxy_history.specs.Requests.{is_pending}
use Rattle.proxy_history.specs.View.{Entry, Refused, NoAnswer, entry_if, view, said_at}
use Rattle.proxy_history.specs.Rendering.{Rendering, render, put}
use Rattle.proxy_history.specs.Noting.{end_overfull, each_pending, receivers_of}
use Rattle.qmi_proxy.specs.Setup.{Setup}
use Rattle.qmi_proxy.specs.Limits.{outbox_limit, qmi_limits}
use Rattle.qmi_proxy.specs.Errors.{aborted}
use Rattle.qmi_proxy.specs.Text.{text, view_of, rendering, note, qmi_wording}
use Rattle.std.specs.List.{AllByRecursion}
use Rattle.qmi_proxy.specs.Releases.{freed_if}
use Rattle.qmi_proxy.specs.FromModem.{refuse}
use Rattle.rig_laws.proofs.Calm.{IsClients, Calm, expired}

-- ---- one entry ----

pub reply_is_short : (m : List ℕ) (error : ℕ) → length (result_reply m error) ≤ 20
reply_is_short m error = elim (is_control m) as (λ b. length (by b) ≤ 20) [ true ↦ lit≤ tt | false ↦ lit≤ tt ]
  where
    by : Bool → List ℕ
    by b =
        if b
        then 0x01 ∷ 0x12 ∷ 0x00 ∷ 0x80 ∷ service_of m ∷ cid_of m ∷ 0x01 ∷ slice_index m 7 ∷ slice_index m 8 ∷ slice_index m 9 ∷ 0x07 ∷ 0x00 ∷ result_tlv error
        else 0x01 ∷ 0x13 ∷ 0x00 ∷ 0x80 ∷ service_of m ∷ cid_of m ∷ 0x02 ∷ slice_index m 7 ∷ slice_index m 8 ∷ slice_index m 9 ∷ slice_index m 10 ∷ 0x07 ∷ 0x00 ∷ result_tlv error

-- so many more bytes find room
pub record HasRoom (count : ℕ) (r : Rendering) : Type 0 where
  pub fits : r.is_over ≡ false
  pub room : length r.waiting + count ≤ outbox_limit

over_by : (over : Bool) (waiting : ℕ) → over ≡ false → waiting ≤ outbox_limit → (over || nat_lt outbox_limit waiting) ≡ false
over_by true waiting isnt within = absurd (cc)
over_by false waiting isnt within = grind (arith, nat_tests)

pub put_has_room : (count : ℕ) (new : List ℕ) (r : Rendering) → HasRoom (length new + count) r → HasRoom count (put outbox_limit new r)
put_has_room count new r has =
    let over : (r.is_over || nat_lt outbox_limit (length r.waiting + length new)) ≡ false = over_by r.is_over (length r.waiting + length new) has.fits (omega (arith, has.room)) in
    record {
      fits = over;
      room =
          let more : length (if r.is_over || nat_lt outbox_limit (length r.waiting + length new) then r.waiting else r.waiting ++ new) ≡ length r.waiting + length new =
          ap (λ (b : Bool). length (if b then r.waiting else r.waiting ++ new)) over ∙ length-append r.waiting new in
          omega (arith, more, has.room);
    }

pub less_room : (less more : ℕ) (r : Rendering) → less ≤ more → HasRoom more r → HasRoom less r
less_room less more r low has = record { fits = has.fits; room = omega (arith, has.room) }

-- what comes for a client that is there, or for another one
entry_has_room : (b : Bool) (less more : ℕ) (with_it old : Rendering) → less ≤ more → (b ≡ true → HasRoom more old → HasRoom less with_it) → HasRoom more old → HasRoom less (if b then with_it else old)
entry_has_room true less more with_it old low here has = here refl has
entry_has_room false less more with_it old low here has = less_room less more old low has

module _ (s : Setup) where
  -- so has each client that is there
  abbrev pub AllHaveRoom : ℕ → List Fact → Type 0
  AllHaveRoom count past = (c : ℕ) → is_present c past ≡ true → HasRoom count (rendering s.device c past)

  -- ---- a fact that one client may get ----

  module _ (fact : Fact) (past : List Fact) (c : ℕ) where
    ends_nobody : (there over : Bool) → (there ≡ true → over ≡ false) → (if there && over then Ended c NoRoom ∷ fact ∷ past else fact ∷ past) ≡ fact ∷ past
    ends_nobody true over fits = ap (λ (b : Bool). if b then Ended c NoRoom ∷ fact ∷ past else fact ∷ past) (fits refl)
    ends_nobody false over fits = refl

    pub noted : receivers_of fact ≡ c ∷ [] → (is_present c (fact ∷ past) ≡ true → (rendering s.device c (fact ∷ past)).is_over ≡ false) → note s.device fact past ≡ fact ∷ past
    unfolding end_overfull
    noted one fits =
        ap (λ (receivers : List ℕ). end_overfull qmi_limits (qmi_wording s.device) receivers (fact ∷ past)) one
        ∙ ends_nobody (is_present c (fact ∷ past)) (rendering s.device c (fact ∷ past)).is_over fits

  -- ---- a request that expires ----

  rendered_if : (b : Bool) (entry : Entry) (entries : List Entry) → render outbox_limit (text s.device) (entry_if b entry entries) ≡ (if b then render outbox_limit (text s.device) (entry ∷ entries) else render outbox_limit (text s.device) entries)
  rendered_if true entry entries = refl
  rendered_if false entry entries = refl

  expired_room : (count : ℕ) (r : Request) (past : List Fact) → AllHaveRoom (20 + count) past → AllHaveRoom count (Expired r ∷ past)
  unfolding view present render
  expired_room count r past has c there =
      let reply : List ℕ = result_reply (said_at r.place (view_of c past)) aborted in
      subst (HasRoom count) (sym (rendered_if (r.conn == c) (Refused r.place NoAnswer) (view_of c past)))
      (entry_has_room (r.conn == c) count (20 + count) (put outbox_limit reply (rendering s.device c past)) (rendering s.device c past) (omega arith)
      (λ mine old. put_has_room count reply (rendering s.device c past) (less_room (length reply + count) (20 + count) (rendering s.device c past) (omega (arith, reply_is_short (said_at r.place (view_of c past)) aborted)) old))
      (has c there))

  refused_alone : (count : ℕ) (r : Request) (past : List Fact) → IsClients r → AllHaveRoom (20 + count) past → refuse s.device (Expired r) r past ≡ Expired r ∷ past
  refused_alone count r past client has =
      ap (λ (own : Bool). freed_if own r (note s.device (Expired r) past)) client
      ∙ noted (Expired r) past r.conn refl (λ there. (expired_room count r past has r.conn there).fits)

  -- ---- several that expire ----

  abbrev expire_each : List Request → List Fact → List Fact
  expire_each requests past = each_pending (λ r before. refuse s.device (Expired r) r before) requests past

  pub fewer : (less more : ℕ) (past : List Fact) → less ≤ more → AllHaveRoom more past → AllHaveRoom less past
  fewer less more past low has c there = less_room less more (rendering s.device c past) low (has c there)

  pub all_expire : {joined opened : ℕ} {used : List Request} {queue : List ℕ} (requests : List Request) (past : List Fact) → AllByRecursion IsClients requests → Calm s joined opened used queue past → AllHaveRoom (20 * length requests) past
      → Calm s joined opened used queue (expire_each requests past)
  unfolding each_pending
  all_expire [] past clients calm has = calm
  all_expire {joined} {opened} {used} {queue} (r ∷ requests) past clients calm has =
      let has_more : AllHaveRoom (20 + 20 * length requests) past = fewer (20 + 20 * length requests) (20 * length (r ∷ requests)) past (omega arith) has in
      let alone : refuse s.device (Expired r) r past ≡ Expired r ∷ past = refused_alone (20 * length requests) r past clients.0 has_more in
      elim (is_pending r past) as (λ b. Calm s joined opened used queue (expire_each requests (if b then refuse s.device (Expired r) r past else past))) [
        | true ↦ subst (λ (l : List Fact). Calm s joined opened used queue (expire_each requests l)) (sym alone)
            (all_expire requests (Expired r ∷ past) clients.1 (expired s calm r) (expired_room (20 * length requests) r past has_more))
        | false ↦ all_expire requests past clients.1 calm (fewer (20 * length requests) (20 * length (r ∷ requests)) past (omega arith) has)
      ]
