-- What follows for stops.
use Rattle.std.proofs.Common.{◌≡◌, sym, subst}
use Rattle.frac_core.specs.declared.memory.Stop.{Stop}
use Rattle.frac_core.specs.declared.memory.Stop.TheVariants.{Refused}
use Rattle.frac_core.specs.Stops.{IsRefused}

pub is_refused : {E : Type 0} (stop : Stop E) (cause : E) → stop ≡ Refused cause → IsRefused stop
is_refused stop cause is = subst IsRefused (sym is) tt
