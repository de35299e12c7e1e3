-- What is kept of a request that was forwarded: as much of the sender's message as its answer needs.
use Rattle.std.specs.Prelude.{ℕ, List, take}
use Rattle.qmi_proxy.specs.Messages.{used_service, used_cid}
pub use Rattle.qmi_state.specs.declared.asked.Asked.{Asked}

unfoldable pub asked_of : List ℕ → Asked
asked_of m = record { head = take 12 m; service = used_service m; cid = used_cid m }
