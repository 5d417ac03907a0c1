-- The views of a format are read one after the other.
use Rattle.std.proofs.Common.{◌≡◌, ℕ, suc, true, false, List, length, Result, Ok, Err, refl, ap, subst}
use Rattle.span_text.specs.declared.stop.PartStop.{PartStop}
use Rattle.span_text.specs.declared.stop.PartStop.TheVariants.{Left, OutOfMemory}
use Rattle.span_text.specs.GivesOrMemory.{GivesOrMemory, LeavesOrMemory}
use Rattle.span_text.specs.Reading.{starts, end_at}
use Rattle.span_text.specs.Loops.{rounds_at, loop_at}
use Rattle.vfl_text.specs.Formats.{SpacingMeaning, ItemMeaning, FormatMeaning}
use Rattle.vfl_text.specs.Grammar.{with_item}
use Rattle.vfl_text.specs.Reading.{is_more, is_view, spacing_at, item_at, parent_at, next_at, round_at}

pub chain_begins : (m : ℕ) (f : FormatMeaning) (s : List ℕ) → m ≡ suc (length s) → rounds_at round_at m f s ≡ loop_at round_at f s
unfolding loop_at
chain_begins m f s e = ap (λ (n : ℕ). rounds_at round_at n f s) e

module _ (m n : ℕ) (f : FormatMeaning) (s : List ℕ) (fuel : m ≡ suc n) where
  pub chain_ends : (u : List ℕ) → starts is_more s ≡ false → end_at s ≡ Ok u → rounds_at round_at m f s ≡ Ok f
  unfolding rounds_at round_at
  chain_ends u a h = rw (fuel, a, h) refl

  pub chain_end_fails : (e : ℕ) → starts is_more s ≡ false → end_at s ≡ Err e → rounds_at round_at m f s ≡ Err e
  unfolding rounds_at round_at
  chain_end_fails e a h = rw (fuel, a, h) refl

  pub spacing_fails : (e : ℕ) → starts is_more s ≡ true → spacing_at s ≡ Err e → rounds_at round_at m f s ≡ Err e
  unfolding rounds_at round_at
  spacing_fails e a h = rw (fuel, a, h) refl

  module _ (g : SpacingMeaning) (t : List ℕ) (more : starts is_more s ≡ true) (spacing : spacing_at s ≡ Ok (g, t)) where
    pub view_fails : (e : ℕ) → starts is_view t ≡ true → item_at t ≡ Err e → rounds_at round_at m f s ≡ Err e
    unfolding rounds_at round_at next_at
    view_fails e a h = rw (fuel, more, spacing, a, h) refl

    pub view_goes_on : (i : ItemMeaning) (u : List ℕ) → starts is_view t ≡ true → item_at t ≡ Ok (i, u) → rounds_at round_at m f s ≡ rounds_at round_at n (with_item f g i) u
    unfolding rounds_at round_at next_at
    view_goes_on i u a h = rw (fuel, more, spacing, a, h) refl

    pub parent_ends : starts is_view t ≡ false → rounds_at round_at m f s ≡ parent_at f g t
    unfolding rounds_at round_at next_at
    parent_ends a = rw (fuel, more, spacing, a) refl

-- A reader that stops where another one does, or for want of memory.
pub stops_alike : {X Y : Type 0} (e : PartStop) (r : Result X ℕ) (q : Result Y ℕ) → LeavesOrMemory e r → ((m : ℕ) → r ≡ Err m → q ≡ Err m) → LeavesOrMemory e q
stops_alike (Left m) r q h alike = alike m h
stops_alike OutOfMemory r q h alike = tt

-- the same by what both return
pub gives_alike : {X Y : Type 0} (view : X → Y) (x : Result X PartStop) (r q : Result Y ℕ) → GivesOrMemory view x r → r ≡ q → GivesOrMemory view x q
gives_alike view x r q h e = subst (GivesOrMemory view x) e h
