-- The numbers of the clients' first requests.
use Rattle.std.proofs.Common.{◌≤◌, ◌<◌, lit≤}

pub from_1 : (0 < 1) × (1 ≤ 65535)
from_1 = (lit≤ tt, lit≤ tt)

pub from_3 : (0 < 3) × (3 ≤ 65535)
from_3 = (lit≤ tt, lit≤ tt)
