use Rattle.std.proofs.Common.{◌≡◌, Bool, true, false, List, refl, ap, sym, ◌∙◌, subst}
use Rattle.std.specs.Bool.{beq}
use Rattle.std.proofs.lemmas.Bool.{true≢false}
use Rattle.std.specs.declared.cmp.Ordering.{Ordering}
use Rattle.std.specs.declared.cmp.Ordering.TheVariants.{Less, Equal, Greater}
use Rattle.std.specs.Ordering.{is_eq}
use Rattle.std.specs.Cmp.{tied_itself}
use Rattle.std.specs.FinMap.{slice_cmp-IsAntisymmetric}
use Rattle.std.specs.Cmp.Lexicographic.{slice_cmp, lists_total}
use Rattle.kit_bytes.specs.Subscriptions.{Pair, pair_cmp}
use Rattle.kit_bytes.proofs.Pairs.{exact_pair, pair_cmp_total}
use Rattle.subscriptions.specs.Clients.{Client, with_both}
use Rattle.subscriptions.proofs.client.Client.update.Goals as goal
use Rattle.subscriptions.proofs.client.Client.update.Goals.{else-same-via-then-same+else-shown-self, else-same-via-else-same}

equal_is : (r : Ordering) → is_eq r ≡ true → r ≡ Equal
equal_is Less e = absurd (cc)
equal_is Equal e = refl
equal_is Greater e = absurd (cc)

same_flag : (x y : Bool) → beq x y ≡ true → y ≡ x
same_flag true true e = refl
same_flag true false e = e
same_flag false true e = sym e
same_flag false false e = refl

flag_itself : (x : Bool) → beq x x ≡ true
flag_itself true = refl
flag_itself false = refl

-- a client that is what it becomes has the same list, and counts as before
nothing_new : (shown : Bool) (list : List Pair) (old : Client) → with_both shown list old ≡ old → (is_eq (slice_cmp pair_cmp old.list list) ≡ true) × (beq shown old.shown ≡ true)
nothing_new shown list old same =
    let of_list : list ≡ old.list = ap (λ client. client.list) same in
    let of_shown : shown ≡ old.shown = ap (λ client. client.shown) same in
    let tied : is_eq (slice_cmp pair_cmp old.list old.list) ≡ true = ap is_eq (tied_itself (lists_total pair_cmp_total) old.list) in
    (subst (λ (l : List Pair). is_eq (slice_cmp pair_cmp old.list l) ≡ true) (sym of_list) tied, subst (λ (b : Bool). beq b old.shown ≡ true) (sym of_shown) (flag_itself old.shown))

pub returns-then-shown-self-clause-client : goal.returns-then-shown-self-clause-client
returns-then-shown-self-clause-client c =
    let list : c.self.inside.list ≡ c.args.list.now = slice_cmp-IsAntisymmetric exact_pair c.self.inside.list c.args.list.now (equal_is (slice_cmp pair_cmp c.self.inside.list c.args.list.now) (sym c.is_same-same.ensures.same ∙ c.if-same.true)) in
    let shown : c.self.inside.shown ≡ c.args.shown = same_flag c.args.shown c.self.inside.shown c.if-shown-self.true in
    sym c.self.view_is
    ∙ ap (λ (l : List Pair). let k : Client = record { conn = c.self.inside.conn; shown = c.self.inside.shown; list = l } in k) list
    ∙ ap (λ (b : Bool). let k : Client = record { conn = c.self.inside.conn; shown = b; list = c.args.list.now } in k) shown
    ∙ ap (with_both c.args.shown c.args.list.now) c.self.view_is

pub returns-clause-other : goal.returns-clause-other
returns-clause-other c = λ is same.
    let old : Client = record { conn = c.self.inside.conn; shown = c.self.inside.shown; list = c.self.inside.list } in
    let nothing = nothing_new c.args.shown c.args.list.now old (ap (λ (l : List Pair). let k : Client = record { conn = c.self.inside.conn; shown = c.args.shown; list = l } in k) (sym c.copy.ensures) ∙ same ∙ sym c.self.view_is) in
    elim c.else-same.branch [
      | else-same-via-then-same+else-shown-self w ↦ absurd (true≢false (sym nothing.1 ∙ w.if-shown-self.false))
      | else-same-via-else-same w ↦ absurd (true≢false (sym nothing.0 ∙ sym c.is_same-same.ensures.same ∙ w.if-same.false))
    ]
