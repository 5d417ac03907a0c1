-- What is known of what a result carries.
use Rattle.std.proofs.Common.{◌≡◌, subst, Result, Ok, Err, IfOk, IfErr}

pub ok_says : {T E : Type 0} (P : T → Type 0) (r : Result T E) (x : T) → r ≡ Ok x → IfOk r P → P x
ok_says P r x is h = subst (λ r. IfOk r P) is h

pub err_says : {T E : Type 0} (P : E → Type 0) (r : Result T E) (e : E) → r ≡ Err e → IfErr r P → P e
err_says P r e is h = subst (λ r. IfErr r P) is h
