-- The commands that a proxy deals with itself, by the UUIDs of their services and by their CIDs.
-- Sources: libmbim's src/libmbim-glib/mbim-uuid.c for the proxy's own service; the USB-IF MBIM specification 1.0, section 10, for Basic Connect.
use Rattle.std.specs.Prelude.{ℕ}
pub use Rattle.mbim_services.specs.Table.{proxy_control}

-- ---- commands that the proxy itself deals with ----

-- of its own service: which device the client wants
abbrev pub configuration_cid : ℕ
configuration_cid = 1

-- of Basic Connect: the list of subscriptions
abbrev pub subscribe_list_cid : ℕ
subscribe_list_cid = 19
