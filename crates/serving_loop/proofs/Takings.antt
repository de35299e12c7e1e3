-- The bytes that a client's socket took are the first of all bytes for it. Lists of calls and of events have the newest first.
use Rattle.std.proofs.Common.{◌≡◌, ℕ, ◌≤◌, Bool, true, false, ◌==◌, if◌then◌else◌, List, [], ◌∷◌, ◌++◌, length, take, drop, refl, sym, ◌∙◌, ap, subst, append_assoc, take-append-drop}
use Rattle.std.proofs.lemmas.Bool.{eqb-true}
use Rattle.std.proofs.lemmas.List.{append-nil, drop-append-le}
use Rattle.proxy_history.specs.Connections.{contains}
use Rattle.proxy_history.specs.Proxy.{LeavesBytesOf}
use Rattle.proxy_serving.specs.Serving.{IsFront, taken_by}
use Rattle.many_history.specs.Events.{ManyEvent, Joined, Piece, Left, ModemPiece, ModemGone, ModemBack, Now, Took, ModemTook}
use Rattle.many_history.specs.Coming.{NamesRise}
use Rattle.many_io.specs.Record.{ManyCall, Told, Sent, SendFailed, events, without_device, calls_without_device}
use Rattle.many_serving.specs.Proxy.{ManyProxy}
use Rattle.many_serving.specs.Lawful.{IsLawful, HasGrown}
use Rattle.many_serving.specs.Serving.{TakesTheFirst}
use Rattle.serving_loop.specs.Progress.{MayBeTold}

-- the first of some bytes are the first of the queue before which they stand
front_taken : (count : ℕ) (bytes rest : List ℕ) → count ≤ length bytes → take count bytes ++ drop count (bytes ++ rest) ≡ bytes ++ rest
front_taken count bytes rest within =
    ap (λ (l : List ℕ). take count bytes ++ l) (drop-append-le count bytes rest within)
    ∙ sym (append_assoc (take count bytes) (drop count bytes) rest)
    ∙ ap (λ (l : List ℕ). l ++ rest) (take-append-drop count bytes)

module _ (p : ManyProxy) where
  -- more bytes came for a client, of which none were taken
  grown : (d : ℕ) (taken before : List ManyEvent) (by : List ℕ) → HasGrown p d before taken → p.text d before ≡ by ++ p.waiting d before → p.text d taken ≡ by ++ p.waiting d taken
  grown d taken before by grows is =
      grows.text ∙ ap (λ (l : List ℕ). l ++ grows.more) is ∙ append_assoc by (p.waiting d before) grows.more ∙ ap (λ (l : List ℕ). by ++ l) (sym grows.waiting)

  -- a sending of which nothing was taken
  pub takes-sent_none : (c : ℕ) (bytes : List ℕ) (calls : List ManyCall) → TakesTheFirst p calls → TakesTheFirst p (Sent c bytes 0 ∷ calls)
  unfolding taken_by events
  takes-sent_none c bytes calls takes d =
      takes d ∙ ap (λ (l : List ℕ). l ++ p.waiting d (events calls))
      (elim (c == d) as (λ b. taken_by d (calls_without_device calls) ≡ (if b then taken_by d (calls_without_device calls) ++ [] else taken_by d (calls_without_device calls))) [ true ↦ sym (append-nil (taken_by d (calls_without_device calls))) | false ↦ refl ])

module _ {p : ManyProxy} (lawful : IsLawful p) where
  -- a sending of which some was taken
  pub takes-sent : (c : ℕ) (bytes : List ℕ) (taken : ℕ) (calls : List ManyCall) → events (Sent c bytes taken ∷ calls) ≡ Took c taken ∷ events calls → NamesRise (Took c taken ∷ events calls) → contains c (p.present (events calls)) ≡ true
      → IsFront bytes (p.waiting c (events calls)) → taken ≤ length bytes → TakesTheFirst p calls → TakesTheFirst p (Sent c bytes taken ∷ calls)
  unfolding taken_by
  takes-sent c bytes taken calls is rise there front within takes d =
      let past : List ManyEvent = events calls in
      let Takes : List ManyEvent → List ℕ → Type 0 = λ l by. p.text d l ≡ by ++ p.waiting d l in
      let step : (b : Bool) → (c == d) ≡ b → Takes (Took c taken ∷ past) (if b then taken_by d (calls_without_device calls) ++ take taken bytes else taken_by d (calls_without_device calls)) =
      λ b. elim b as (λ b. (c == d) ≡ b → Takes (Took c taken ∷ past) (if b then taken_by d (calls_without_device calls) ++ take taken bytes else taken_by d (calls_without_device calls))) [
        | true ↦ λ same.
            let P : ℕ → Type 0 = λ e. p.text e (Took c taken ∷ past) ≡ (taken_by e (calls_without_device calls) ++ take taken bytes) ++ p.waiting e (Took c taken ∷ past) in
            let whole : take taken bytes ++ drop taken (p.waiting c past) ≡ p.waiting c past =
            ap (λ (l : List ℕ). take taken bytes ++ drop taken l) front.whole ∙ front_taken taken bytes front.rest within ∙ sym front.whole in
            subst P (eqb-true c d same)
            (lawful.taken_text c taken past there
            ∙ takes c
            ∙ ap (λ (l : List ℕ). taken_by c (calls_without_device calls) ++ l) (sym whole)
            ∙ sym (append_assoc (taken_by c (calls_without_device calls)) (take taken bytes) (drop taken (p.waiting c past)))
            ∙ ap (λ (l : List ℕ). (taken_by c (calls_without_device calls) ++ take taken bytes) ++ l) (sym (lawful.taken_waiting c taken past there)))
        | false ↦ λ other. grown p d (Took c taken ∷ past) past (taken_by d (calls_without_device calls)) (lawful.grown d (Took c taken) past rise other) (takes d)
      ]
      in subst (λ (l : List ManyEvent). Takes l (if c == d then taken_by d (calls_without_device calls) ++ take taken bytes else taken_by d (calls_without_device calls))) (sym is) (step (c == d) refl)

  pub takes-failed : (c : ℕ) (bytes : List ℕ) (calls : List ManyCall) → NamesRise (Left c ∷ events calls) → TakesTheFirst p calls → TakesTheFirst p (SendFailed c bytes ∷ calls)
  unfolding taken_by events
  takes-failed c bytes calls rise takes d = grown p d (Left c ∷ events calls) (events calls) (taken_by d (calls_without_device calls)) (lawful.grown d (Left c) (events calls) rise tt) (takes d)

  -- the hub told an event
  pub takes-told : (devices known : ℕ) (event : ManyEvent) (calls : List ManyCall) → MayBeTold devices known event → NamesRise (event ∷ events calls) → TakesTheFirst p calls → TakesTheFirst p (Told event ∷ calls)
  unfolding taken_by events
  takes-told devices known (Joined c) calls may rise takes d =
      let past : List ManyEvent = events calls in
      let Takes : List ℕ → Type 0 = λ by. p.text d (Joined c ∷ past) ≡ by ++ p.waiting d (Joined c ∷ past) in
      let step : (b : Bool) → (c == d) ≡ b → Takes (if b then [] else taken_by d (calls_without_device calls)) =
      λ b. elim b as (λ b. (c == d) ≡ b → Takes (if b then [] else taken_by d (calls_without_device calls))) [
        | true ↦ λ same.
            let P : ℕ → Type 0 = λ e. p.text d (Joined e ∷ past) ≡ [] ++ p.waiting d (Joined e ∷ past) in
            subst P (sym (eqb-true c d same)) (lawful.joined d past (subst (λ (e : ℕ). NamesRise (Joined e ∷ past)) (eqb-true c d same) rise))
        | false ↦ λ other. grown p d (Joined c ∷ past) past (taken_by d (calls_without_device calls)) (lawful.grown d (Joined c) past rise other) (takes d)
      ]
      in step (c == d) refl
  takes-told devices known (Piece c bytes) calls may rise takes d = grown p d (Piece c bytes ∷ events calls) (events calls) (taken_by d (calls_without_device calls)) (lawful.grown d (Piece c bytes) (events calls) rise tt) (takes d)
  takes-told devices known (Left c) calls may rise takes d = grown p d (Left c ∷ events calls) (events calls) (taken_by d (calls_without_device calls)) (lawful.grown d (Left c) (events calls) rise tt) (takes d)
  takes-told devices known (ModemPiece e bytes) calls may rise takes d = grown p d (ModemPiece e bytes ∷ events calls) (events calls) (taken_by d (calls_without_device calls)) (lawful.grown d (ModemPiece e bytes) (events calls) rise tt) (takes d)
  takes-told devices known (ModemGone e) calls may rise takes d = grown p d (ModemGone e ∷ events calls) (events calls) (taken_by d (calls_without_device calls)) (lawful.grown d (ModemGone e) (events calls) rise tt) (takes d)
  takes-told devices known (ModemBack e) calls may rise takes d = absurd may
  takes-told devices known (Now time) calls may rise takes d = grown p d (Now time ∷ events calls) (events calls) (taken_by d (calls_without_device calls)) (lawful.grown d (Now time) (events calls) rise tt) (takes d)
  takes-told devices known (Took c count) calls may rise takes d = absurd may
  takes-told devices known (ModemTook e count) calls may rise takes d = absurd may

  -- another event came, and no client's socket took bytes
  pub takes-by : (event : ManyEvent) (calls later : List ManyCall) → events later ≡ event ∷ events calls → NamesRise (event ∷ events calls) → ((d : ℕ) → LeavesBytesOf d (without_device event)) → ((d : ℕ) → taken_by d (calls_without_device later) ≡ taken_by d (calls_without_device calls))
      → TakesTheFirst p calls → TakesTheFirst p later
  takes-by event calls later is rise other same takes d =
      let Takes : List ManyEvent → List ℕ → Type 0 = λ l by. p.text d l ≡ by ++ p.waiting d l in
      subst (λ (l : List ManyEvent). Takes l (taken_by d (calls_without_device later))) (sym is)
      (subst (λ (by : List ℕ). Takes (event ∷ events calls) by) (sym (same d)) (grown p d (event ∷ events calls) (events calls) (taken_by d (calls_without_device calls)) (lawful.grown d event (events calls) rise (other d)) (takes d)))

  pub takes-none : TakesTheFirst p []
  unfolding taken_by events
  takes-none c = lawful.no_bytes c
