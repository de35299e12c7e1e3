-- What JSON values stand for.
use Rattle.std.proofs.Common.{◌≡◌, String, Global, string_bytes, rules}
use Rattle.serde_json.specs.Data.{null, string as quoted}
use Rattle.serde_json.specs.View.{view}
use Rattle.serde_json.specs.declared.value.Value as json
use Rattle.serde_json.specs.declared.value.Value.{the_lemmas}
use Rattle.serde_json.proofs.Views.{view-Array, view-Object}

pub view-Null : view json.Null ≡ null
view-Null = search (rules, the_lemmas)

pub view-String : (text : String Global) → view (json.String text) ≡ quoted (string_bytes text)
view-String text = search (rules, the_lemmas)

pub ruleset json_views = (view-Null, view-String, view-Array, view-Object)
