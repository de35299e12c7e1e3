-- Events by where their structures stand in a buffer, and what is left of one behind another.
use Rattle.std.proofs.Common.{◌≡◌, ℕ, ◌+◌, ◌%◌, ◌<◌, ◌≤◌, inl, inr, min, List, ◌∷◌, length, take, slice_range, slice_index_or, Some, Contains, ⊎_elim, refl, sym, ◌∙◌, ap, ap₂, subst, arith}
use Rattle.mbim_services.proofs.Ranges.{leaves-back}
use Rattle.std.proofs.lemmas.List.{drop_more, drop-map}
use Rattle.std.proofs.lemmas.List.Elements.{Contains-append_left, Contains-append_right, Contains-get_or}
use Rattle.kit_bytes.specs.Subscriptions.{Pair, Subscription, pairs_of}
use Rattle.kit_bytes.specs.Numbers.{number_at}
use Rattle.kit_bytes.proofs.Members.{Contains-nil}
use Rattle.mbim_services.specs.EventLists.{IsEventAt, pairs_in}
use Rattle.subscribe_lists.proofs.Unread.{HasUnread}
use Rattle.mbim_services.specs.SubscribeLists.{numbers_of}
use Rattle.mbim_services.proofs.Ranges.{pair-in}
use Rattle.subscribe_lists.specs.Structures.{IsWhole, IsWholeAt, Leaves, cids_in, event_at, events_at, end_at}
use Rattle.subscribe_lists.proofs.Events.{pairs_next}
use Rattle.subscribe_lists.specs.declared.sweep.Stretch.{Stretch}

pub leaves_behind : (buffer : List ℕ) (stretch other : Stretch) (mid : ℕ) → IsWhole buffer stretch → IsWhole buffer other → other.uuid ≡ stretch.uuid → stretch.start % 4 ≡ other.start % 4 → other.start ≤ stretch.start → stretch.start < other.end → mid ≡ min other.end stretch.end
    → Leaves buffer stretch other (record { uuid = stretch.uuid; start = mid; end = stretch.end })
leaves_behind buffer stretch other mid is other_is service same before cut mid_is =
    let left = leaves-back buffer (record { uuid = stretch.uuid; start = stretch.start; end = stretch.end }) (record { uuid = other.uuid; start = other.start; end = other.end }) mid
    (record { count = is.count; long = is.long; within = is.within }) (record { count = other_is.count; long = other_is.long; within = other_is.within }) service same before cut mid_is in
    record {
      service = refl;
      whole = record { count = left.stands.count; long = left.stands.long; within = left.stands.within };
      within = left.within;
      others = left.others;
    }

-- the CIDs that stand there are those of events in front of the place
pub record IsRead (buffer : List ℕ) (events : List Subscription) (place : ℕ) (stretch : Stretch) : Type 0 where
  pub whole : IsWhole buffer stretch
  pub known : (cid : ℕ) → Contains (cids_in buffer stretch) cid → Contains (pairs_in (take place events)) (stretch.uuid, Some cid)

pub nothing_read : (buffer : List ℕ) (events : List Subscription) (uuid : List ℕ) → IsRead buffer events 0 (record { uuid = uuid; start = 0; end = 0 })
nothing_read buffer events uuid = record {
  whole = record { count = 0; long = refl; within = omega arith };
  known = λ cid at. absurd (Contains-nil cid at);
}

module _ (buffer : List ℕ) (events : List Subscription) (place : ℕ) (stretch : Stretch) (there : IsEventAt events place stretch.uuid (cids_in buffer stretch)) where
  unread_behind : (other left : Stretch) → IsRead buffer events place other → Leaves buffer stretch other left → HasUnread events place left.uuid (cids_in buffer left)
  unread_behind other left read leaves =
      subst (λ (uuid : List ℕ). HasUnread events place uuid (cids_in buffer left)) (sym leaves.service) (record {
        all = cids_in buffer stretch;
        there = there;
        within = leaves.within;
        others = λ cid at.
            ⊎_elim
            (λ (stays : Contains (cids_in buffer left) cid). inl stays)
            (λ (known : (other.uuid ≡ stretch.uuid) × Contains (cids_in buffer other) cid).
            inr (subst (λ (uuid : List ℕ). Contains (pairs_in (take place events)) (uuid, Some cid)) known.0 (read.known cid known.1)))
            (leaves.others cid at);
      })

  pub still_read : (other : Stretch) → IsRead buffer events place other → IsRead buffer events (place + 1) other
  still_read other read = record {
    whole = read.whole;
    known = λ cid at.
        subst (λ (l : List Pair). Contains l (other.uuid, Some cid)) (sym (pairs_next events place stretch.uuid (cids_in buffer stretch) there))
        (Contains-append_left (pairs_in (take place events)) (pairs_of stretch.uuid (cids_in buffer stretch)) (other.uuid, Some cid) (read.known cid at));
  }

  pub now_read : IsWhole buffer stretch → IsRead buffer events (place + 1) stretch
  now_read whole = record {
    whole = whole;
    known = λ cid at.
        subst (λ (l : List Pair). Contains l (stretch.uuid, Some cid)) (sym (pairs_next events place stretch.uuid (cids_in buffer stretch) there))
        (Contains-append_right (pairs_in (take place events)) (pairs_of stretch.uuid (cids_in buffer stretch)) (stretch.uuid, Some cid) (pair-in stretch.uuid (cids_in buffer stretch) cid at));
  }

event_there : (buffer : List ℕ) (order : List (ℕ × ℕ)) (place : ℕ) (d : ℕ × ℕ) (stretch : Stretch) → place < length order → stretch.uuid ≡ (event_at buffer (slice_index_or order place d).1).uuid → stretch.start ≡ (slice_index_or order place d).1 + 20 → stretch.end ≡ end_at buffer (slice_index_or order place d).1
    → IsEventAt (events_at buffer order) place stretch.uuid (cids_in buffer stretch)
event_there buffer order place d stretch within uuid_is start_is end_is =
    let it : ℕ × ℕ = slice_index_or order place d in
    let event : event_at buffer it.1 ≡ record { uuid = stretch.uuid; cids = cids_in buffer stretch } = sym (made stretch.uuid (event_at buffer it.1).uuid stretch.start (it.1 + 20) stretch.end (end_at buffer it.1) uuid_is start_is end_is) in
    drop-map (λ (i : ℕ × ℕ). event_at buffer i.1) place order
    ∙ ap (λ (l : List (ℕ × ℕ)). events_at buffer l) (drop_more order place d within)
    ∙ ap₂ (λ (s : Subscription) (l : List Subscription). s ∷ l) event (sym (drop-map (λ (i : ℕ × ℕ). event_at buffer i.1) (place + 1) order))
  where
    subscription : List ℕ → ℕ → ℕ → Subscription
    subscription uuid start end = record { uuid = uuid; cids = numbers_of (slice_range buffer start end) }

    made : (u v : List ℕ) (a b c d : ℕ) → u ≡ v → a ≡ b → c ≡ d → subscription u a c ≡ subscription v b d
    made u v a b c d first second third = ap₂ (λ (w : List ℕ) (n : ℕ). subscription w n c) first second ∙ ap (λ (n : ℕ). subscription v b n) third

stretch_whole : (buffer : List ℕ) (offset : ℕ) (stretch : Stretch) → IsWholeAt buffer offset → stretch.start ≡ offset + 20 → stretch.end ≡ end_at buffer offset → IsWhole buffer stretch
stretch_whole buffer offset stretch whole start_is end_is = record { count = number_at buffer (offset + 16) 4; long = omega (arith, start_is, end_is); within = omega (arith, end_is, whole) }

-- what is left of the event of a place, behind one that was read
pub record IsLeft (buffer : List ℕ) (order : List (ℕ × ℕ)) (place : ℕ) (stretch left : Stretch) : Type 0 where
  pub whole : IsWhole buffer stretch
  pub there : IsEventAt (events_at buffer order) place stretch.uuid (cids_in buffer stretch)
  pub left_whole : IsWhole buffer left
  pub unread : HasUnread (events_at buffer order) place left.uuid (cids_in buffer left)

pub is_left : (buffer : List ℕ) (order : List (ℕ × ℕ)) (place : ℕ) (d : ℕ × ℕ) (stretch other left : Stretch) → place < length order → ((at : ℕ × ℕ) → Contains order at → IsWholeAt buffer at.1)
    → stretch.uuid ≡ (event_at buffer (slice_index_or order place d).1).uuid → stretch.start ≡ (slice_index_or order place d).1 + 20 → stretch.end ≡ end_at buffer (slice_index_or order place d).1
    → IsRead buffer (events_at buffer order) place other → ((bytes : List ℕ) → IsWhole bytes stretch → IsWhole bytes other → Leaves bytes stretch other left) → IsLeft buffer order place stretch left
is_left buffer order place d stretch other left within all_whole uuid_is start_is end_is read leaves =
    let it : ℕ × ℕ = slice_index_or order place d in
    let whole = stretch_whole buffer it.1 stretch (all_whole it (Contains-get_or order place d within)) start_is end_is in
    let there = event_there buffer order place d stretch within uuid_is start_is end_is in
    record {
      whole = whole;
      there = there;
      left_whole = (leaves buffer whole read.whole).whole;
      unread = unread_behind buffer (events_at buffer order) place stretch there other left read (leaves buffer whole read.whole);
    }
