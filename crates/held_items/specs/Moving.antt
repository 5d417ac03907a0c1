-- Other constants of rows: how far they move, and what another value of a metric changes.
use Rattle.std.specs.Prelude.{ℕ, Some, ◌+◌, length, slice_index_or, ◌≡◌, ◌≢◌, ◌<◌, ◌⊎◌, List, [], ◌∷◌, ◌++◌}
use Rattle.std.specs.Prelude.{All, Any}
use Rattle.frac_core.specs.Fraction.{Fraction}
use Rattle.problem_core.specs.Layout.{Row}
use Rattle.constraint_compile.specs.Compiled.{IsFittingSum}
use Rattle.compile_parts.specs.Fractions.{plus, negated}
use Rattle.constraint_compile.specs.Compiled.{RowForm}
use Rattle.constraint_compile.specs.declared.naming.RowConstant.{RowConstant}
use Rattle.layout_solver.specs.declared.engine.Change.{Change}
use Rattle.held_items.specs.Items.{Item, OfWindow, OfView, Sized, OfLine, Suggested, Intrinsic, Size}
use Rattle.held_items.specs.Items.{size_of}

-- ---- how far constants move

-- the second constant minus the first fits
abbrev pub FitsAfter : Fraction → Fraction → Type 0
FitsAfter before after = IsFittingSum (plus after (negated before))

-- the same of the constants of these rows
abbrev pub IsNear : Row → Row → Type 0
IsNear before after = FitsAfter before.constant after.constant

-- no constant moves too far
pub record AreNear (before after : List Row) : Type 0 where
  pub long : length after ≡ length before
  pub each : (i : ℕ) (b a : Row) → i < length before
      → IsNear (slice_index_or before i b) (slice_index_or after i a)

-- the window has a size, and its width or its height moves too far
abbrev pub IsFarSize : List Item → Fraction → Fraction → Type 0
IsFarSize held width height = (size : Size) × (size_of held ≡ Some size)
    × (FitsAfter size.width width × FitsAfter size.height height → ⊥)

-- the constants of the two rows of the window's size, the first with this number
abbrev pub size_changes : ℕ → Fraction → Fraction → List Change
size_changes first_row width height =
    (record { row = first_row; constant = width })
    ∷ (record { row = first_row + 1; constant = height }) ∷ []

-- ---- rows that metrics have a part in

-- those of a line
abbrev pub forms_in : Item → List RowForm
forms_in OfWindow = []
forms_in (OfView first_row id) = []
forms_in (Sized first_row width height) = []
forms_in (OfLine group line) = line.rows
forms_in (Suggested s) = []
forms_in (Intrinsic s) = []

-- those of all these items, in order
abbrev pub forms_of : List Item → List RowForm
forms_of [] = []
forms_of (item ∷ more) = forms_in item ++ forms_of more

-- ---- constants beside those that rows have

-- the row of this number, if there is one, has the constant
abbrev pub IsStill : List Row → RowConstant → Type 0
IsStill rows c = All (λ r. r.id ≡ c.row → r.constant ≡ c.constant) rows

-- the row of this number has another constant, which is near
abbrev pub IsMoved : List Row → RowConstant → Type 0
IsMoved rows c = All (λ r. r.id ≡ c.row → (r.constant ≢ c.constant) × FitsAfter r.constant c.constant) rows

-- the row of this number has another constant, which is too far
abbrev pub IsFar : List Row → RowConstant → Type 0
IsFar rows c = Any (λ r. (r.id ≡ c.row) × (FitsAfter r.constant c.constant → ⊥)) rows

-- the change of a row's constant to this one
abbrev pub change_to : RowConstant → Change
change_to c = record { row = c.row; constant = c.constant }

-- a change is one to each constant that its row doesn't have, and none of them is far
abbrev pub AreMoves : List Row → List RowConstant → List Change → Type 0
AreMoves rows [] to = to ≡ []
AreMoves rows (c ∷ more) to = (IsStill rows c × AreMoves rows more to)
    ⊎ (IsMoved rows c × ((rest : List Change) × (to ≡ change_to c ∷ rest) × AreMoves rows more rest))

-- the change is one more, unless the row has the constant
abbrev pub IsPushed : List Row → RowConstant → List Change → List Change → Type 0
IsPushed rows c old new =
    (IsStill rows c × (new ≡ old)) ⊎ (IsMoved rows c × (new ≡ old ++ change_to c ∷ []))
