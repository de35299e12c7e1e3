use Rattle.std.proofs.Common.{length, refl, arith}
use Rattle.std.proofs.lemmas.Bool.{OnTrue_from}
use Rattle.number_space.specs.Index.{IsPlaceOf}
use Rattle.number_space.proofs.Index.{place_end}
use Rattle.number_space.proofs.by_number.Index.is_above_all.Goals as goal

pub returns : goal.returns
returns c =
    OnTrue_from c.is_below_at.result (IsPlaceOf c.args.number c.args.self.now.entries (length c.args.self.now.entries))
    (λ below. place_end c.args.number c.args.self.now.entries _ (length c.args.self.now.entries) c.requires refl (omega arith) (rw below at c.is_below_at.ensures.there))
