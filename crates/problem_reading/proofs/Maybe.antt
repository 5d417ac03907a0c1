-- What follows from a clause on an option, or on what a result is without its error.
use Rattle.std.proofs.Common.{◌≡◌, false, sym, subst, Option, Some, None, IfSome, IfNone, Result, Ok, Err}
use Rattle.std.proofs.lemmas.Bool.{true≢false}
use Rattle.std.specs.Prelude.{IfOk, OnErr}
use Rattle.std.specs.Result.{is_ok, result_ok}

pub none_from : {X P Q : Type 0} (r : Option X) → (P → Q) → IfNone r P → IfNone r Q
none_from None f h = f h
none_from (Some x) f h = h

if_some : {T E : Type 0} (P : T → Type 0) (r : Result T E) → IfOk r P → IfSome (result_ok r) P
if_some P (Ok x) h = h
if_some P (Err e) h = tt

-- what holds of the value that was taken
pub of_value : {T E : Type 0} (P : T → Type 0) (r : Result T E) (x : T) → Some x ≡ result_ok r → IfOk r P → P x
of_value P r x is h = subst (λ o. IfSome o P) (sym is) (if_some P r h)

-- what holds where there is none
pub of_error : {T E P : Type 0} (r : Result T E) → false ≡ is_ok r → OnErr r P → P
of_error (Ok x) is h = absurd (true≢false (sym is))
of_error (Err e) is h = h
