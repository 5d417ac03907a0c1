-- What room a step needs: numbers that fit, and a budget that is large.
use Rattle.std.specs.Prelude.{◌≡◌, ◌≢◌, ℕ, ◌+◌, ◌^◌, ◌<◌, ◌≤◌, Bool, List, [], ◌++◌, length, pos, AllPairs}
use Rattle.frac_core.specs.Fraction.{Fraction, IsKept, IsUnfitRatio}
use Rattle.problem_core.specs.Gaps.{value_of}
use Rattle.problem_core.specs.Kept.{IsWhole}
use Rattle.problem_core.specs.Layout.{HasStay, Problem, Row}
use Rattle.corner_laws.specs.Laws.{AllFit}
use Rattle.layout_solver.specs.Layouts.{Layout}
use Rattle.layout_solver.specs.Removals.{CanLeave, Leaving, without, without_rows}
use Rattle.conflict_core.specs.Laws as cores
use Rattle.diagnosis.specs.Probes.{IsBeside, next_num, with_probe}
use Rattle.script_text.specs.Meaning.{Change}
use Rattle.script_text.specs.Meaning as mean
use Rattle.scenes.specs.Leaving.{stood_of}
use Rattle.scenes.specs.Scene.{Scene, problem_of}
use Rattle.scenes.specs.Sweeping.{IsWidthRow, problem_here}
use Rattle.session_undo.specs.State.{State}
use Rattle.sweep_param.specs.Laws as sweeps

-- the problem is one that the types can hold, and the budget is at least 4^N, where N counts rows and stays
pub record IsLarge (budget : ℕ) (p : Problem) : Type 0 where
  pub whole : IsWhole p
  pub exchanges : 4 ^ (length p.rows + length p.stays) ≤ budget

-- besides, each quantity fits at each corner of the problem, where these are the rows before
pub record HasRoom (before : List Row) (budget : ℕ) (p : Problem) : Type 0 where
  pub large : IsLarge budget p
  pub fits : AllFit p before

-- ---- changes

-- for whatever leaves the scene towards this problem: each quantity fits at each corner also once the first
-- of the leaving rows have gone, while the others are still held. No row of that problem is new and no
-- constant changes, so it is judged over its own rows
abbrev pub FitsOnTheWay : Scene → Problem → Type 0
FitsOnTheWay scene p = (l : Leaving) → CanLeave l (stood_of scene) → AllPairs (λ a b. a < b) l.rows
    → p ≡ without l (stood_of scene)
    → (gone still : List ℕ) → gone ++ still ≡ l.rows → still ≢ []
    → AllFit (without_rows gone (stood_of scene)) (without_rows gone (stood_of scene)).rows

-- a removal has room over the rows that are left, also on the way
abbrev pub HasRoomToLeave : State → Problem → Type 0
HasRoomToLeave old p = HasRoom p.rows old.budget p × FitsOnTheWay old.scene p

-- there is room for a change, if this is its problem; another direction needs none
abbrev pub HasRoomToStep : State → Change → Problem → Type 0
HasRoomToStep old (mean.Views new) = HasRoom old.scene.rows old.budget
HasRoomToStep old (mean.Update new) = HasRoom old.scene.rows old.budget
HasRoomToStep old (mean.Leave gone) = HasRoomToLeave old
HasRoomToStep old (mean.Turn to) = λ p. Unit {0}
HasRoomToStep old (mean.Keep name) = HasRoom old.scene.rows old.budget

-- ---- questions

-- there is room to tell why a command would clash, where this is its problem: the problem is one that the
-- types can hold, and each trial of its required rows has room
pub record HasRoomToExplain (budget : ℕ) (p : Problem) : Type 0 where
  pub whole : IsWhole p
  pub trials : cores.HasRoom p budget

-- ---- probes

-- the scene as a layout, of which probes see the problem and the values alone
abbrev pub layout_in : Scene → Layout
layout_in scene = record { problem = problem_of scene; values = scene.values; corner = []; earlier = [] }

-- the scene's problem with the row of a probe that wishes this attribute at f
abbrev pub probe_problem : Scene → ℕ → Fraction → Problem
probe_problem scene attr f = with_probe (layout_in scene) attr f

-- the attribute's value
abbrev pub value_in : Scene → ℕ → Fraction
value_in scene attr = value_of scene.values attr

-- the attribute has a stay, and f, which is in lowest terms and fits, is its value and 1, or less 1
pub record IsProbed (scene : Scene) (attr : ℕ) (f : Fraction) : Type 0 where
  pub stays : HasStay scene.stays attr
  pub kept : IsKept f
  pub up : Bool
  pub beside : IsBeside up (value_in scene attr) f

-- the value that a probe would wish doesn't fit
abbrev pub LacksWish : Scene → ℕ → Bool → Type 0
LacksWish scene attr up = IsUnfitRatio (next_num up (value_in scene attr)) (pos (value_in scene attr).den)

-- for each attribute, above and below: the wished value fits, and the probe's problem has room
pub record HasRoomToProbe (old : State) : Type 0 where
  pub wishes : (attr : ℕ) (up : Bool) → HasStay old.scene.stays attr → LacksWish old.scene attr up → ⊥
  pub rooms : (attr : ℕ) (f : Fraction) → IsProbed old.scene attr f
      → HasRoom old.scene.rows old.budget (probe_problem old.scene attr f)

-- ---- sweeps

-- the widths are in lowest terms and fit, the problem with the present one is one that the types can hold,
-- and there is room to sweep the row of the width
pub record HasRoomToSweep (old : State) (from to : Fraction) : Type 0 where
  pub from_kept : IsKept from
  pub to_kept : IsKept to
  pub whole : IsWhole (problem_here old.scene)
  pub rooms : (row : ℕ) → IsWidthRow old.scene row
      → sweeps.HasRoomToSweep (problem_here old.scene) row from to old.budget
