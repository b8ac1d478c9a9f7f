-- The promise about the descent.
use Rattle.store.specs.Format.{width}
use Rattle.represent.specs.Promises.{DescentVisits}
use Rattle.represent.proofs.Passes.{nodes_pass}
use Rattle.represent.proofs.DescentVisits.{descent_is}
use Rattle.represent.proofs.Keyed.{height_keyed}

pub descent_visits : DescentVisits
descent_visits f s b0 bs k r low =
    descent_is f s b0 bs r k low (nodes_pass f s b0 bs r) (height_keyed (width f) 0 b0 r.pages.keyed)
