-- Those who wait for the modem to open are the clients that are there and whose own views say so.
use Rattle.std.proofs.Common.{◌≡◌, ℕ, Bool, true, false, not, ◌&&◌, ◌||◌, ◌==◌, is_some, if◌then◌else◌, List, [], ◌∷◌, ◌++◌, refl, ap, sym, ◌∙◌, subst, arith, All}
use Rattle.std.specs.List.{AllByRecursion}
use Rattle.std.proofs.lemmas.Bool.{and_parts}
use Rattle.std.proofs.lemmas.Bool.Decides.{nat_tests}
use Rattle.std.proofs.lemmas.List.Elements.{All-from_recursion}
use Rattle.kit_bytes.proofs.Lists.{all_passing}
use Rattle.proxy_history.specs.Facts.{Fact, NotAdmitted, BadStream, NoRoom, Leaving, Own, Share, Foreign, Away, Full, Forward, Ready, Waits, Admitted, Ended, Judged, Taken, Answered, IdHeld, Expired, Aborted, Indicated, OpeningEnded, SessionsClosed}
use Rattle.proxy_history.specs.Connections.{contains, without, present, is_present}
use Rattle.proxy_history.specs.View.{Entry, HeldId, NoAnswer, Said, Refused, Indication, OpenedWith, Shut, Taking, End, entry_if, view}
use Rattle.proxy_history.specs.Wording.{told_by}
use Rattle.proxy_history.proofs.Lists.{contains_kept}
use Rattle.proxy_history.proofs.SoundLaws.{contains-append}
use Rattle.mbim_proxy.specs.Setup.{Setup}
use Rattle.mbim_proxy.specs.Known.{Known}
use Rattle.mbim_proxy.specs.OwnReplies.{OwnReply, Silent, Wrong, NotOpened, Closes, Refuses, Configures, Subscribes, own_reply}
use Rattle.mbim_proxy.specs.Step.{with_message, with_reply, step, view_of, known_from, known_now}
use Rattle.mbim_proxy.specs.Lists.{askers, waiting}

is_false : (b : Bool) → not b ≡ true → b ≡ false
is_false true e = absurd (cc)
is_false false e = refl

and_none : (b : Bool) → (b && false) ≡ false
and_none true = refl
and_none false = refl

or_last : (b c : Bool) → c ≡ true → (b || c) ≡ true
or_last true c is = refl
or_last false c is = is

or_first : (b c : Bool) → b ≡ true → (b || c) ≡ true
or_first b c is = ap (λ (a : Bool). a || c) is

module _ (s : Setup) (c : ℕ) where
  abbrev Waiting : List Entry → Type 0
  Waiting entries = is_some (known_from s entries).waits ≡ true

  -- an entry that makes nobody wait
  abbrev MakesNone : Entry → Type 0
  MakesNone entry = (known : Known) → is_some (step s known entry).waits ≡ true → is_some known.waits ≡ true

  before : (b : Bool) (entry : Entry) (entries : List Entry) → MakesNone entry → Waiting (entry_if b entry entries) → Waiting entries
  unfolding told_by
  before true entry entries none waits = none (known_from s entries) waits
  before false entry entries none waits = waits

  reply_keeps : (reply : OwnReply) (known : Known) → (with_reply reply known).waits ≡ known.waits
  reply_keeps Silent known = refl
  reply_keeps (Wrong code) known = refl
  reply_keeps (NotOpened status) known = refl
  reply_keeps Closes known = refl
  reply_keeps (Refuses command status) known = refl
  reply_keeps (Configures command) known = refl
  reply_keeps (Subscribes command list) known = refl

  own_makes_none : (m : List ℕ) → MakesNone (Said m Own)
  own_makes_none m known waits = ap (λ o. is_some o) (sym (reply_keeps (own_reply s known m) (with_message s m known))) ∙ waits

  -- ---- names ----

  gone : (d : ℕ) (names : List ℕ) → contains c (without d names) ≡ (contains c names && not (d == c))
  gone d names = contains_kept c (λ y. not (d == y)) names

  stays : (d : ℕ) (names : List ℕ) → contains c (without d names) ≡ true → ((d == c) ≡ false) × (contains c names ≡ true)
  stays d names is = let both = and_parts (contains c names) (not (d == c)) (sym (gone d names) ∙ is) in (is_false (d == c) both.1, both.0)

  still_in : (d : ℕ) (names : List ℕ) → (d == c) ≡ false → contains c names ≡ true → contains c (without d names) ≡ true
  still_in d names other is = gone d names ∙ ap (λ (b : Bool). b && not (d == c)) is ∙ ap not other

  -- ---- who waits asked ----

  joined : (d : ℕ) (past : List Fact) (b : Bool) → (d == c) ≡ b → contains c (present past ++ d ∷ []) ≡ true → Waiting (if b then [] else view_of c past) → (is_present c past ≡ true) × Waiting (view_of c past)
  unfolding told_by
  joined d past true is there waits = absurd (let clash : false ≡ true = waits in cc)
  joined d past false is there waits = (sym (or_none (is_present c past)) ∙ ap (λ (b : Bool). is_present c past || (b || false)) (sym other) ∙ sym (contains-append c (present past) (d ∷ [])) ∙ there, waits)
    where
      other : (c == d) ≡ false
      other = grind (arith, nat_tests, is)

      or_none : (b : Bool) → (b || false) ≡ b
      or_none true = refl
      or_none false = refl

  asks_now : (d : ℕ) (past : List Fact) (b : Bool) → (d == c) ≡ b → (b ≡ false → contains c (askers past) ≡ true) → contains c (without d (askers past) ++ d ∷ []) ≡ true
  asks_now d past true is earlier = contains-append c (without d (askers past)) (d ∷ []) ∙ or_last (contains c (without d (askers past))) (c == d || false) (or_first (c == d) false (grind (arith, nat_tests, is)))
  asks_now d past false is earlier = contains-append c (without d (askers past)) (d ∷ []) ∙ or_first (contains c (without d (askers past))) (c == d || false) (still_in d (askers past) is (earlier refl))

  pub waits_asked : (past : List Fact) → is_present c past ≡ true → Waiting (view_of c past) → contains c (askers past) ≡ true
  unfolding present view askers told_by
  waits_asked [] there waits = absurd (cc)
  waits_asked (Admitted d ∷ past) there waits = let was = joined d past (d == c) refl there waits in waits_asked past was.0 was.1
  waits_asked (Ended d NotAdmitted ∷ past) there waits =
      let was = stays d (present past) there in
      still_in d (askers past) was.0 (waits_asked past was.1 (subst (λ (b : Bool). Waiting (if b then End NotAdmitted ∷ [] else view_of c past)) was.0 waits))
  waits_asked (Ended d NoRoom ∷ past) there waits = let was = stays d (present past) there in still_in d (askers past) was.0 (waits_asked past was.1 waits)
  waits_asked (Ended d BadStream ∷ past) there waits =
      let was = stays d (present past) there in still_in d (askers past) was.0 (waits_asked past was.1 (before (d == c) (End BadStream) (view_of c past) (λ known e. e) waits))
  waits_asked (Ended d Leaving ∷ past) there waits =
      let was = stays d (present past) there in still_in d (askers past) was.0 (waits_asked past was.1 (before (d == c) (End Leaving) (view_of c past) (λ known e. e) waits))
  waits_asked (Judged d place m Waits ∷ past) there waits =
      asks_now d past (d == c) refl (λ other. waits_asked past there (subst (λ (b : Bool). Waiting (entry_if b (Said m Waits) (view_of c past))) other waits))
  waits_asked (Judged d place m Own ∷ past) there waits = waits_asked past there (before (d == c) (Said m Own) (view_of c past) (own_makes_none m) waits)
  waits_asked (Judged d place m Share ∷ past) there waits = waits_asked past there (before (d == c) (Said m Share) (view_of c past) (λ known e. e) waits)
  waits_asked (Judged d place m Foreign ∷ past) there waits = waits_asked past there (before (d == c) (Said m Foreign) (view_of c past) (λ known e. e) waits)
  waits_asked (Judged d place m Away ∷ past) there waits = waits_asked past there (before (d == c) (Said m Away) (view_of c past) (λ known e. e) waits)
  waits_asked (Judged d place m Full ∷ past) there waits = waits_asked past there (before (d == c) (Said m Full) (view_of c past) (λ known e. e) waits)
  waits_asked (Judged d place m Forward ∷ past) there waits = waits_asked past there (before (d == c) (Said m Forward) (view_of c past) (λ known e. e) waits)
  waits_asked (Judged d place m Ready ∷ past) there waits = waits_asked past there (before (d == c) (Said m Ready) (view_of c past) (λ known e. e) waits)
  waits_asked (Answered r m ∷ past) there waits = waits_asked past there (before (r.conn == c) _ (view_of c past) (λ known e. e) waits)
  waits_asked (IdHeld r ∷ past) there waits = waits_asked past there (before (r.conn == c) (Refused r.place HeldId) (view_of c past) (λ known e. e) waits)
  waits_asked (Expired r ∷ past) there waits = waits_asked past there (before (r.conn == c) (Refused r.place NoAnswer) (view_of c past) (λ known e. e) waits)
  waits_asked (Aborted r ∷ past) there waits = waits_asked past there (before (r.conn == c) (Refused r.place NoAnswer) (view_of c past) (λ known e. e) waits)
  waits_asked (Indicated m receivers ∷ past) there waits = waits_asked past there (before (contains c receivers) (Indication m) (view_of c past) (λ known e. e) waits)
  waits_asked (OpeningEnded status receivers ∷ past) there waits = waits_asked past there (before (contains c receivers) (OpenedWith status) (view_of c past) (λ known e. absurd (let clash : false ≡ true = e in cc)) waits)
  waits_asked (SessionsClosed receivers ∷ past) there waits = waits_asked past there (before (contains c receivers) Shut (view_of c past) (λ known e. e) waits)
  waits_asked (Taken d count ∷ past) there waits = waits_asked past there (before (d == c) (Taking count) (view_of c past) (λ known e. e) waits)
  waits_asked (_ ∷ past) there waits = waits_asked past there waits

  pub waits_is : (past : List Fact) → contains c (waiting s past) ≡ (is_present c past && is_some (known_now s c past).waits)
  waits_is past = contains_kept c (λ d. is_present d past && is_some (known_now s d past).waits) (askers past) ∙ by (is_present c past && is_some (known_now s c past).waits) refl
    where
      by : (b : Bool) → (is_present c past && is_some (known_now s c past).waits) ≡ b → (contains c (askers past) && b) ≡ b
      by true waits = let both = and_parts (is_present c past) (is_some (known_now s c past).waits) waits in ap (λ (b : Bool). b && true) (waits_asked past both.0 both.1)
      by false waits = and_none (contains c (askers past))

-- who waits for the modem to open is there
pub waiting_are_present : (s : Setup) (past : List Fact) → All (λ c. is_present c past ≡ true) (waiting s past)
waiting_are_present s past =
    All-from_recursion (λ c. is_present c past ≡ true) (waiting s past)
    (all_passing (λ c. is_present c past && is_some (known_now s c past).waits) (λ c. Unit {0}) (λ c. is_present c past ≡ true) (λ c is any. (and_parts (is_present c past) (is_some (known_now s c past).waits) is).0) (askers past) (any_all (askers past)))
  where
    any_all : (names : List ℕ) → AllByRecursion (λ c. Unit {0}) names
    any_all [] = tt
    any_all (c ∷ names) = (tt, any_all names)
