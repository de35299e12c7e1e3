-- What a bench has to show before its core meets an event.
use Rattle.std.specs.Prelude.{◌≡◌, Bool, true, []}
use Rattle.proxy_serving.specs.Face.{Face}

-- a core is held, and each connection that it dropped has been asked for
pub record IsReady (is_held : Bool) (face : Face) : Type 0 where
  pub held : is_held ≡ true
  pub asked : face.dropped ≡ []

-- so it is after a call, and no new name joined in between
pub record StaysReady (is_held : Bool) (old new : Face) : Type 0 where
  pub ready : IsReady is_held new
  pub greatest : new.greatest ≡ old.greatest
