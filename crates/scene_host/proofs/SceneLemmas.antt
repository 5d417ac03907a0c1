-- Scenes by name.
use Rattle.std.proofs.Common.{◌≡◌, ℕ, suc, ◌≤◌, ◌+◌, true, false, cond, not, List, [], ◌∷◌, length, position, None, Some, Result, Ok, Err, sym, arith, true≢false}
use Rattle.std.proofs.lemmas.Grind.{common_steps}
use Rattle.std.proofs.lemmas.Option.{none-some}
use Rattle.std.specs.List.{position_or_len}
use Rattle.std.specs.Prelude.{OnErr, OnOk, is_err}
use Rattle.std.specs.Map.{keys_of, lookup}
use Rattle.std.specs.Str.{bytes_eq}

module _ {S : Type 0} where
  -- a name under which no scene is stands nowhere
  past : (name : List ℕ) (es : List (List ℕ × S)) → lookup (bytes_eq name) es ≡ None → length es ≤ position_or_len (bytes_eq name) (keys_of es)
  past name [] none = omega arith
  past name (e ∷ es) none =
      elim (bytes_eq name e.0) as (λ b. cond b (Some e.1) (lookup (bytes_eq name) es) ≡ None → suc (length es) ≤ cond (not b) (1 + position_or_len (bytes_eq name) (keys_of es)) 0) [
        | true ↦ λ h. absurd (none-some e.1 (sym h))
        | false ↦ λ h. omega (arith, past name es h)
      ] none

  pub unheld : (name : List ℕ) (es : List (List ℕ × S)) → lookup (bytes_eq name) es ≡ None → position (bytes_eq name) (keys_of es) ≡ None
  unheld name es none =
      let far : length es ≤ position_or_len (bytes_eq name) (keys_of es) = past name es none in
      grind (arith, common_steps, far)

-- ---- results

pub on_err : {T E P : Type 0} (r : Result T E) → P → OnErr r P
on_err (Ok x) h = tt
on_err (Err e) h = h

-- what holds where there is no error holds here
pub on_ok : {T E P : Type 0} (r : Result T E) → is_err r ≡ false → OnOk r P → P
on_ok (Ok x) fine h = h
on_ok (Err e) fine h = absurd (true≢false fine)
