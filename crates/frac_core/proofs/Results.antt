-- What holds of a result carries over.
use Rattle.std.proofs.Common.{Result, Ok, Err, IfOk, IfErr}

pub ok_implies : {A E : Type 0} (r : Result A E) (P Q : A → Type 0) → ((a : A) → P a → Q a) → IfOk r P → IfOk r Q
ok_implies (Ok x) P Q f h = f x h
ok_implies (Err e) P Q f h = h

pub err_implies : {A E : Type 0} (r : Result A E) (P Q : E → Type 0) → ((e : E) → P e → Q e) → IfErr r P → IfErr r Q
err_implies (Ok x) P Q f h = h
err_implies (Err e) P Q f h = f e h
