-- A core of a proxy of one device keeps and shows what one of several has to.
use Rattle.std.proofs.Common.{◌≡◌, ℕ, ◌≤◌, arith, List, [], ◌∷◌, ◌++◌, map, Option, Some, None, refl, sym, ◌∙◌, ap, subst}
use Rattle.std.specs.Option.{option_map}
use Rattle.std.proofs.lemmas.List.{append_cancel_right, map-append}
use Rattle.proxy_history.specs.Events.{Event}
use Rattle.proxy_history.specs.Proxy.{Proxy}
use Rattle.hub_io.specs.Record.{Call, Since}
use Rattle.hub_io.specs.declared.settings.ServeEnd.{ServeEnd}
use Rattle.hub_io.specs.declared.settings.Until.{Until}
use Rattle.proxy_serving.specs.Face.{Face}
use Rattle.proxy_serving.specs.Face as one_face
use Rattle.proxy_serving.specs.Ends as one_end
use Rattle.many_history.specs.Events.{ManyEvent, Joined, Piece, Left, Took, ModemPiece, ModemGone, ModemBack, ModemTook, Now}
use Rattle.many_io.specs.Record.{ManyCall, without_device, calls_without_device}
use Rattle.many_io.specs.One.{call_of}
use Rattle.many_serving.specs.Proxy.{ManyProxy}
use Rattle.many_serving.specs.One.{only_of}
use Rattle.many_serving.specs.Ends.{EndsFor}
use Rattle.many_serving.proofs.One.{calls_are}
use Rattle.many_serving.proofs.Ends.{ends_for}
use Rattle.many_history.specs.Coming.{greatest_conn, IsNew}
use Rattle.serving_loop.specs.Face.{ManyFace, CanMeet, MayCome, NextDropped, greatest_after}
use Rattle.serving_loop.specs.One.{only_face, KeepsAsOne}

-- ---- what it may be told, and what it tells ----

pub can_step : (event : ManyEvent) (face : Face) → CanMeet event (only_face face) → one_face.CanMeet (without_device event) face
can_step event face can = record { hung_up = can.hung_up; may_come = may_come event can.may_come }
  where
    may_come : (event : ManyEvent) → MayCome event (only_face face) → one_face.MayCome (without_device event) face
    may_come (Joined c) may = may
    may_come (Piece c bytes) may = may
    may_come (Left c) may = tt
    may_come (Took c count) may = may
    may_come (ModemPiece d bytes) may = may.1
    may_come (ModemGone d) may = tt
    may_come (ModemBack d) may = tt
    may_come (ModemTook d count) may = may.1
    may_come (Now time) may = tt

pub next_as_one : {C : Type 0} (face : C → Face) (old new : C) (o : Option ℕ) → one_face.NextDropped face old new o → NextDropped (λ core. only_face (face core)) old new o
next_as_one face old new None next = next
next_as_one face old new (Some c) next = record { dropped = next.dropped; devices = refl; away = record { same = λ d within. next.away }; greatest = next.greatest }

-- ---- what it keeps ----

new_name : (event : ManyEvent) (past : List ManyEvent) (face : ManyFace) → greatest_conn past ≤ face.greatest → MayCome event face → IsNew event past
new_name (Joined c) past face known may = omega (arith, known, may)
new_name _ past face known may = tt

known_name : (event : ManyEvent) (past : List ManyEvent) (before after : ℕ) → IsNew event past → greatest_conn past ≤ before → after ≡ greatest_after event before → greatest_conn (event ∷ past) ≤ after
known_name (Joined c) past before after rises known is = omega (arith, rises, is)
known_name _ past before after rises known is = omega (arith, known, is)

module _ {C : Type 0} (keeps : Proxy → List Event → C → Type 0) (face : C → Face) where
  -- before any event
  pub opened_as_one : (p : Proxy) (core : C) → keeps p [] core → KeepsAsOne keeps face (only_of p) [] core
  opened_as_one p core kept = record { proxy = p; same = refl; kept = kept; rise = tt; known = omega arith }

  -- behind one more, where each proxy's keeping goes on
  pub steps_as_one : (p : ManyProxy) (event : ManyEvent) (past : List ManyEvent) (old new : C) → CanMeet event (only_face (face old)) → (face new).greatest ≡ greatest_after event (face old).greatest
      → ((q : Proxy) → keeps q (map without_device past) old → keeps q (map without_device (event ∷ past)) new) → KeepsAsOne keeps face p past old → KeepsAsOne keeps face p (event ∷ past) new
  steps_as_one p event past old new can greatest goes kept =
      let rises = new_name event past (only_face (face old)) kept.known can.may_come in
      record {
        proxy = kept.proxy;
        same = kept.same;
        kept = goes kept.proxy kept.kept;
        rise = (rises, kept.rise);
        known = known_name event past (face old).greatest (face new).greatest rises kept.known greatest;
      }

  -- once it was asked
  pub asked_as_one : (p : ManyProxy) (past : List ManyEvent) (old new : C) (o : Option ℕ) → one_face.NextDropped face old new o → ((q : Proxy) → keeps q (map without_device past) old → keeps q (map without_device past) new) → KeepsAsOne keeps face p past old → KeepsAsOne keeps face p past new
  asked_as_one p past old new o next goes kept = record { proxy = kept.proxy; same = kept.same; kept = goes kept.proxy kept.kept; rise = kept.rise; known = omega (arith, kept.known, same_greatest o next) }
    where
      same_greatest : (o : Option ℕ) → one_face.NextDropped face old new o → (face new).greatest ≡ (face old).greatest
      same_greatest None next = ap (λ (core : C). (face core).greatest) next.1
      same_greatest (Some c) next = next.greatest

-- ---- what was recorded since then ----

front_is : (front calls : List ManyCall) → map call_of (calls_without_device (front ++ calls)) ≡ front ++ calls → map call_of (calls_without_device calls) ≡ calls → map call_of (calls_without_device front) ≡ front
front_is front calls both back =
    append_cancel_right (map call_of (calls_without_device front)) front calls
    (ap (λ (l : List ManyCall). map call_of (calls_without_device front) ++ l) (sym back) ∙ sym (ap (map call_of) (without_device_append front calls) ∙ map-append call_of (calls_without_device front) (calls_without_device calls)) ∙ both)
  where
    without_device_append : (xs ys : List ManyCall) → calls_without_device (xs ++ ys) ≡ calls_without_device xs ++ calls_without_device ys
    without_device_append xs ys = map-append _ xs ys

all_is : (calls : List Call) → map call_of (calls_without_device (map call_of calls)) ≡ map call_of calls
all_is calls = ap (map call_of) (calls_are calls)

-- the serving of one as one of several ended for the reason for which that of one ends
pub served_as_one : (old new : Option (List Call)) (p : Proxy) (until : Until) (turns : ℕ) (lacks : Event → Type 0) (why : ServeEnd)
    → Since (option_map (map call_of) old) (option_map (map call_of) new) (EndsFor (λ event. lacks (without_device event)) (only_of p) until turns why) → Since old new (one_end.EndsFor lacks p until turns why)
served_as_one old None p until turns lacks why since = tt
served_as_one None (Some new) p until turns lacks why since = absurd since
served_as_one (Some old) (Some new) p until turns lacks why since =
    let calls : List ManyCall = since.0 in
    let whole : map call_of new ≡ calls ++ map call_of old = since.1 in
    let same : map call_of (calls_without_device calls) ≡ calls =
    front_is calls (map call_of old) (subst (λ (l : List ManyCall). map call_of (calls_without_device l) ≡ l) whole (all_is new)) (all_is old) in
    let ends : EndsFor (λ event. lacks (without_device event)) (only_of p) until turns why (map call_of (calls_without_device calls)) =
    subst (EndsFor (λ event. lacks (without_device event)) (only_of p) until turns why) (sym same) since.2 in (
      calls_without_device calls,
      sym (calls_are new) ∙ ap calls_without_device whole ∙ map-append _ calls (map call_of old) ∙ ap (λ (l : List Call). calls_without_device calls ++ l) (calls_are old),
      ends_for p until turns lacks why (calls_without_device calls) ends,
    )
