-- What a core of a proxy shows, by the proxy's definitions. A list of events has the newest first.
use Rattle.std.specs.Prelude.{◌≡◌, ℕ, true, ◌==◌, List, []}
use Rattle.std.specs.List.{IsDistinct}
use Rattle.proxy_history.specs.Events.{Event}
use Rattle.proxy_history.specs.Connections.{contains}
use Rattle.proxy_history.specs.Proxy.{Proxy, IsLawful}
use Rattle.proxy_serving.specs.Face.{Face}

-- it shows what the definitions of a proxy say of these events; of the dropped names some may have been asked for
pub record Shows (p : Proxy) (past : List Event) (face : Face) : Type 0 where
  pub lawful : IsLawful p
  pub present : face.present ≡ p.present past
  pub queue : (c : ℕ) → contains c (p.present past) ≡ true → face.queue c ≡ p.waiting c past
  pub modem_queue : face.modem_queue ≡ p.waiting_for_modem past
  pub modem_backlog : face.modem_backlog ≡ p.modem_backlog past
  pub dropped : p.dropped past ≡ [] → face.dropped ≡ []
  pub away : face.away ≡ p.is_away past
  pub time : face.time ≡ p.time past
  pub distinct : IsDistinct (λ c d. c == d) (p.present past)
