-- What follows for results.
use Rattle.std.proofs.Common.{Result, Ok, Err, IfOk}
use Rattle.std.specs.Prelude.{OnErr}

-- what holds by two clauses
pub ok_both : {T E : Type 0} {P Q R : T → Type 0} (r : Result T E) → ((x : T) → P x → Q x → R x) → IfOk r P → IfOk r Q → IfOk r R
ok_both (Ok x) f g h = f x g h
ok_both (Err e) f g h = h

pub onerr_then : {T E : Type 0} {P Q : Type 0} (r : Result T E) → (P → Q) → OnErr r P → OnErr r Q
onerr_then (Ok x) f h = h
onerr_then (Err e) f h = f h
