-- Facts that tell nobody of others and refuse only what passes a share, and what they leave as it is. Lists of facts have the newest first.
use Rattle.std.proofs.Common.{◌≡◌, ℕ, Bool, true, false, not, ◌&&◌, ◌||◌, ◌==◌, if◌then◌else◌, List, [], ◌∷◌, length, filter, Option, Some, None, refl, ap, sym, ◌∙◌, arith}
use Rattle.std.specs.List.{AllByRecursion}
use Rattle.std.proofs.lemmas.Bool.{eqb-true, eq-eqb, and_parts, false_from_ne_true}
use Rattle.kit_bytes.proofs.Lists.{all_filter, all_push}
use Rattle.proxy_history.specs.Facts.{Fact, Own, Share, Foreign, Away, Full, Forward, Ready, Waits, Admitted, Ended, Judged, Taken, Answered, IdHeld, Expired, Aborted, Indicated, OpeningEnded, SessionsClosed, Granted, Freed, Reset, ModemLost, ModemReturned}
use Rattle.proxy_history.specs.Connections.{contains}
use Rattle.proxy_history.specs.ClientIds.{Grant, KeptId, is_of, held, kept, holder_in, holder, is_other}
use Rattle.proxy_history.specs.Modem.{is_away}
use Rattle.proxy_history.specs.View.{Entry, Said, Response, Refused, Indication, OpenedWith, Shut, Taking, NoAnswer, entry_if, view}
use Rattle.proxy_solo.proofs.Undisturbed.{AreUndisturbed}
use Rattle.qmux_frame.specs.Control.{is_sync, is_proxy_open}
use Rattle.qmi_proxy.specs.Setup.{Setup}
use Rattle.qmi_proxy.specs.Errors.{malformed_message, no_error, internal, invalid_client_id}
use Rattle.qmi_proxy.specs.Messages.{is_malformed, opens, equals, value_of, has_bad_id}
use Rattle.qmi_proxy.specs.OwnReplies.{is_open, own_error, view_decides}
use Rattle.qmi_proxy.specs.Releases.{releases, release_due}
use Rattle.proxy_history.specs.Requests.{has_share}
use Rattle.qmi_proxy.specs.Limits.{share_limit}
use Rattle.qmi_proxy.specs.Spaces.{space_of}
use Rattle.qmi_proxy.specs.Text.{blank, view_of}
use Rattle.rig_laws.proofs.Undisturbed.{LetsAlone, undisturbed_by}
use Rattle.rig_runs.specs.Lines.{refuses, passes_share, AreForShares}

module _ (s : Setup) where
  -- behind these facts: nobody ends, and the modem stays; a message opens the device, or is forwarded unless it passes its client's share;
  -- each client id is that of its client's own number
  abbrev pub IsHarmless : Fact → List Fact → Type 0
  IsHarmless (Ended c why) past = ⊥
  IsHarmless (Judged c place m Own) past = (is_malformed m ≡ false) × (opens s.device m ≡ true)
  IsHarmless (Judged c place m Forward) past = passes_share s c m past ≡ false
  IsHarmless (Judged c place m Share) past = passes_share s c m past ≡ true
  IsHarmless (Judged c place m verdict) past = ⊥
  IsHarmless (IdHeld r) past = ⊥
  IsHarmless (Granted c service cid) past = cid ≡ c
  IsHarmless (Freed c service cid) past = ⊥
  IsHarmless Reset past = ⊥
  IsHarmless ModemLost past = ⊥
  IsHarmless _ past = Unit {0}

  abbrev pub AreHarmless : List Fact → Type 0
  AreHarmless [] = Unit {0}
  AreHarmless (fact ∷ past) = IsHarmless fact past × AreHarmless past

  -- ---- nobody is told of others ----

  lets_alone : (fact : Fact) (past : List Fact) → IsHarmless fact past → LetsAlone fact
  lets_alone (Ended c why) past is = absurd is
  lets_alone (Judged c place m Own) past is = refl
  lets_alone (Judged c place m Forward) past is = refl
  lets_alone (Judged c place m Share) past is = refl
  lets_alone (Judged c place m _) past is = absurd is
  lets_alone (IdHeld r) past is = absurd is
  lets_alone _ past is = tt

  pub undisturbed : (c : ℕ) (past : List Fact) → AreHarmless past → AreUndisturbed (view_of c past)
  unfolding view
  undisturbed c [] all = tt
  undisturbed c (fact ∷ past) all = undisturbed_by blank c fact past (lets_alone fact past all.0) (undisturbed c past all.1)

  -- ---- what passes a share is refused ----

  error_by : (malformed opening : Bool) (other : ℕ) → malformed ≡ false → opening ≡ true → (if malformed then malformed_message else if opening then no_error else other) ≡ 0
  error_by true opening other fine opens = absurd (cc)
  error_by false true other fine opens = refl
  error_by false false other fine opens = absurd (cc)

  opening_is_answered : (opened : Bool) (m : List ℕ) → is_malformed m ≡ false → opens s.device m ≡ true → own_error s.device opened m ≡ 0
  opening_is_answered opened m fine opening =
      error_by (is_malformed m) (opens s.device m) (if is_proxy_open m then internal else if not opened then internal else if is_sync m then no_error else invalid_client_id) fine opening

  -- so no reply that the client's own view decides refuses
  own_refuses_none : (c : ℕ) (m : List ℕ) (past : List Fact) → is_malformed m ≡ false → opens s.device m ≡ true → refuses s c m Own past ≡ false
  own_refuses_none c m past fine opening = ap (λ (n : ℕ). not (n == 0)) (opening_is_answered (is_open s.device (view_of c past)) m fine opening)

  opening_decides : (malformed opening shut sync id : Bool) → opening ≡ true → (malformed || opening || shut || sync || id) ≡ true
  opening_decides true opening shut sync id e = refl
  opening_decides false true shut sync id e = refl
  opening_decides false false shut sync id e = absurd (cc)

  -- the client's own view decides on what opens a device
  pub view_decides_opening : (opened : Bool) (m : List ℕ) → is_proxy_open m ≡ true → view_decides opened m ≡ true
  view_decides_opening opened m opening = opening_decides (is_malformed m) (is_proxy_open m) (not opened) (is_sync m) (has_bad_id m) opening

  opening_passes_none : (c : ℕ) (m : List ℕ) (past : List Fact) → is_proxy_open m ≡ true → passes_share s c m past ≡ false
  opening_passes_none c m past opening = ap (λ (b : Bool). not b && has_share share_limit c (space_of m) past) (view_decides_opening (is_open s.device (view_of c past)) m opening)

  -- what passes a share opens no device
  pub passing_opens_none : (c : ℕ) (m : List ℕ) (past : List Fact) → passes_share s c m past ≡ true → is_proxy_open m ≡ false
  passing_opens_none c m past passes = false_from_ne_true (is_proxy_open m) (λ e. let clash : false ≡ true = sym (opening_passes_none c m past e) ∙ passes in cc)

  pub refused_for_shares : (past : List Fact) → AreHarmless past → AreForShares s past
  refused_for_shares [] all = tt
  refused_for_shares (Judged c place m Own ∷ past) all =
      let none : refuses s c m Own past ≡ false = own_refuses_none c m past all.0.0 all.0.1 in
      (record { just_then = none ∙ sym (opening_passes_none c m past (and_parts (is_proxy_open m) (equals s.device (value_of 0x01 m)) all.0.1).0); for_that = λ is. absurd (let clash : false ≡ true = sym none ∙ is in cc) }, refused_for_shares past all.1)
  refused_for_shares (Judged c place m Forward ∷ past) all = (record { just_then = sym all.0; for_that = λ is. absurd (cc) }, refused_for_shares past all.1)
  refused_for_shares (Judged c place m Share ∷ past) all = (record { just_then = sym all.0; for_that = λ is. refl }, refused_for_shares past all.1)
  refused_for_shares (Judged c place m Foreign ∷ past) all = absurd all.0
  refused_for_shares (Judged c place m Away ∷ past) all = absurd all.0
  refused_for_shares (Judged c place m Full ∷ past) all = absurd all.0
  refused_for_shares (Judged c place m Ready ∷ past) all = absurd all.0
  refused_for_shares (Judged c place m Waits ∷ past) all = absurd all.0
  refused_for_shares (_ ∷ past) all = refused_for_shares past all.1

  -- ---- the modem is there ----

  pub is_there : s.starts_away ≡ false → (past : List Fact) → AreHarmless past → is_away s.starts_away past ≡ false
  unfolding is_away
  is_there there [] all = there
  is_there there (ModemLost ∷ past) all = absurd all.0
  is_there there (ModemReturned ∷ past) all = refl
  is_there there (_ ∷ past) all = is_there there past all.1

  -- ---- client ids ----

  -- nobody has gone, so no id is kept, and the proxy itself releases none
  none_kept : (past : List Fact) → AreHarmless past → kept past ≡ []
  unfolding kept
  none_kept [] all = refl
  none_kept (Granted c service cid ∷ past) all = ap (filter (λ (k : KeptId). not (k.service == service && (k.cid == cid)))) (none_kept past all.1)
  none_kept (Ended c why ∷ past) all = absurd all.0
  none_kept (Reset ∷ past) all = absurd all.0
  none_kept (ModemLost ∷ past) all = absurd all.0
  none_kept (_ ∷ past) all = none_kept past all.1

  pub none_released : (after : Option ℕ) (past : List Fact) → AreHarmless past → release_due s after past ≡ past
  unfolding releases
  none_released None past all = refl
  none_released (Some after) past all = ap (λ (l : List KeptId). releases s after (length l) past) (none_kept past all)

  abbrev AreOwn : List Grant → Type 0
  AreOwn grants = AllByRecursion (λ g. g.cid ≡ g.conn) grants

  ids_are_own : (past : List Fact) → AreHarmless past → AreOwn (held past)
  unfolding held
  ids_are_own [] all = tt
  ids_are_own (Granted c service cid ∷ past) all =
      all_push (λ (g : Grant). g.cid ≡ g.conn) _ _ (all_filter (λ (g : Grant). g.cid ≡ g.conn) (λ (g : Grant). not (is_of service cid g)) (held past) (ids_are_own past all.1)) all.0
  ids_are_own (Freed c service cid ∷ past) all = absurd all.0
  ids_are_own (Ended c why ∷ past) all = absurd all.0
  ids_are_own (Reset ∷ past) all = absurd all.0
  ids_are_own (ModemLost ∷ past) all = absurd all.0
  ids_are_own (_ ∷ past) all = ids_are_own past all.1

  nobody_else : (c service : ℕ) (grants : List Grant) → AreOwn grants → is_other c (holder_in service c grants) ≡ false
  nobody_else c service [] all = refl
  nobody_else c service (g ∷ grants) all =
      let step : (b : Bool) → is_of service c g ≡ b → is_other c (if b then Some g.conn else holder_in service c grants) ≡ false =
      λ b. elim b as (λ b. is_of service c g ≡ b → is_other c (if b then Some g.conn else holder_in service c grants) ≡ false) [
        | true ↦ λ e.
            let id : g.cid ≡ c = eqb-true g.cid c (and_parts (g.service == service) (g.cid == c) e).1 in
            ap (λ (b : Bool). not b) (eq-eqb g.conn c (sym all.0 ∙ id))
        | false ↦ λ e. nobody_else c service grants all.1
      ]
      in step (is_of service c g) refl

  -- nobody else holds the id that has the client's own number
  pub own_id_is_free : (c service : ℕ) (past : List Fact) → AreHarmless past → is_other c (holder service c past) ≡ false
  own_id_is_free c service past all = nobody_else c service (held past) (ids_are_own past all)
