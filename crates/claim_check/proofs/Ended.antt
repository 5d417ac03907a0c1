-- Where a check ends, by where its halves do.
use Rattle.std.proofs.Common.{◌≡◌, ◌∙◌, ◌⊎◌, inl, inr, ◌≤◌, ℕ, Bool, List, [], length, Option, Some, None, refl, sym, ap, subst}
use Rattle.std.specs.Prelude.{⊤, IfSome, IsErrOf}
use Rattle.std.specs.declared.result.Result.{Result}
use Rattle.std.specs.declared.result.Result.TheVariants.{Ok, Err}
use Rattle.std.specs.Io.KnownBytes.{Appends}
use Rattle.edge_io.specs.Cause.{Rose}
use Rattle.edge_io.specs.Outside.{Outside}
use Rattle.claim_check.specs.declared.checking.Output.{Output}
use Rattle.claim_check.specs.declared.stop.CheckStop.{CheckStop}
use Rattle.claim_check.specs.declared.stop.CheckStop.TheVariants.{ReadFault, TooLong, WriteFault, OutOfMemory}
use Rattle.claim_check.specs.Checks.{IsCheckOf}
use Rattle.claim_check.specs.Ends.{IfShort, IsCheckEnd, IsLong, IsOutputFor, IsPutEnd}

short_as : (left : Option (List ℕ)) (P Q : List ℕ → Type 0) → ((input : List ℕ) → P input → Q input) → IfShort left P → IfShort left Q
short_as None P Q to p = tt
short_as (Some input) P Q to p = (p.0, to input p.1)

-- what was checked is all that was left
pub checked_all : (left : Option (List ℕ)) (bytes : List ℕ) (P : List ℕ → Type 0) → IfSome left (λ bs. bytes ≡ bs) → length bytes ≤ 16777216 → P bytes → IfShort left P
checked_all None bytes P all short p = tt
checked_all (Some x) bytes P all short p = subst (λ (bs : List ℕ). (length bs ≤ 16777216) × P bs) all (short, p)

-- the verdict was put, whole or in part
pub put_ends : (old new : Outside) (text : List ℕ) (good : Bool) (r : Result Bool CheckStop)
    → IfShort old.left (λ input. IsCheckOf input text good)
    → IsPutEnd old.held new.held old.writes_failed new.writes_failed text good r → IsCheckEnd old new r
put_ends old new text good (Ok told) made put = short_as old.left _ _ (λ input is. (text, subst (IsCheckOf input text) (sym put.0) is, put.1)) made
put_ends old new text good (Err WriteFault) made put = (put.0, short_as old.left _ _ (λ input is. (text, good, is, put.1)) made)
put_ends old new text good (Err ReadFault) made put = absurd put
put_ends old new text good (Err TooLong) made put = absurd put
put_ends old new text good (Err OutOfMemory) made put = absurd put

-- no output was made, and nothing was put
pub stop_ends : (old new : Outside) (e : CheckStop) → IsOutputFor old.left old.reads_failed new.reads_failed (Err e) → Appends old.held new.held [] → IsCheckEnd old new (Err e)
stop_ends old new ReadFault made none = (made, none)
stop_ends old new TooLong made none = (made, none)
stop_ends old new WriteFault made none = absurd made
stop_ends old new OutOfMemory made none = none

-- ---- errors that were passed on

-- the error of a result, where it has one
abbrev error_in : {T E : Type 0} → Result T E → E → E
error_in (Ok v) other = other
error_in (Err e) other = e

-- an answer is there
abbrev Answers : {T E : Type 0} → Result T E → Type 0
Answers (Ok v) = ⊤
Answers (Err e) = ⊥

-- what an answer leaves as it was
pub as_answered : {T E P : Type 0} (v : T) (e : E) → IsErrOf {T = T} {E = E} (Ok v) e ⊎ P → P
as_answered v e (inl failed) = absurd (subst (λ r. Answers r) failed tt)
as_answered v e (inr same) = same

-- a call failed so, or what it leaves is as it was
pub failed_too : {T U E P : Type 0} (r : Result U E) (was passed kind : E) → r ≡ Err passed → passed ≡ was → IsErrOf {T = T} {E = E} (Err was) kind ⊎ P → IsErrOf r kind ⊎ P
failed_too {T = T} {U = U} {E = E} r was passed kind is same (inl failed) =
    inl (is ∙ ap (λ (e : E). Err e) (same ∙ ap (λ (x : Result T E). error_in x kind) failed))
failed_too r was passed kind is same (inr kept) = inr kept

-- why there is no output
pub not_made : (left : Option (List ℕ)) (was is : ℕ) (e : CheckStop) → (e ≡ ReadFault → Rose was is) → (e ≡ TooLong → IsLong left) → (e ≡ WriteFault → ⊥) → IsOutputFor left was is (Err e)
not_made left was is ReadFault fault long write = fault refl
not_made left was is TooLong fault long write = long refl
not_made left was is WriteFault fault long write = absurd (write refl)
not_made left was is OutOfMemory fault long write = tt

pub made_as : (left : Option (List ℕ)) (was is : ℕ) (r : Result Output CheckStop) (e passed : CheckStop) → r ≡ Err passed → passed ≡ e → IsOutputFor left was is (Err e) → IsOutputFor left was is r
made_as left was is r e passed at same made =
    subst (λ (x : Result Output CheckStop). IsOutputFor left was is x) (sym (at ∙ ap (λ (x : CheckStop). Err x) same)) made

pub end_as : (old new : Outside) (r : Result Bool CheckStop) (e passed : CheckStop) → r ≡ Err passed → passed ≡ e → IsCheckEnd old new (Err e) → IsCheckEnd old new r
end_as old new r e passed at same end =
    subst (λ (x : Result Bool CheckStop). IsCheckEnd old new x) (sym (at ∙ ap (λ (x : CheckStop). Err x) same)) end
