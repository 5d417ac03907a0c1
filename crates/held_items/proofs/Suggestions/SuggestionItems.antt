-- The row of a suggestion with another constant.
use Rattle.std.proofs.Common.{◌≡◌, ℕ, ◌<◌, Some, List, [], ◌∷◌, refl, AllPairs}
use Rattle.frac_core.specs.Fraction.{Fraction}
use Rattle.problem_core.specs.Layout.{Row, Problem}
use Rattle.problem_core.specs.Kept.{IsWhole}
use Rattle.script_text.specs.declared.words.AttrWord.{AttrWord}
use Rattle.compile_parts.specs.Meaning.{MetricList}
use Rattle.constraint_compile.specs.declared.suggestion.Suggestion.{Suggestion}
use Rattle.layout_solver.specs.declared.engine.Change.{Change}
use Rattle.layout_solver.specs.Shifts.{AreKept, CanShift, shifted}
use Rattle.held_items.specs.declared.item.renewing.Renewal.{Renewal}
use Rattle.held_items.specs.declared.item.renewing.Renewal.TheVariants as renewal
use Rattle.held_items.specs.Items.{Item, AreRows, suggestion_of, suggested_again}
use Rattle.held_items.specs.Moving.{FitsAfter}
use Rattle.held_items.proofs.Constants.ConstantChanges.{change}
use Rattle.held_items.proofs.Constants.Renewed.{can-renew, shifted-renewed}

abbrev pub to_suggested : ℕ → Fraction → List Change
to_suggested n c = change n c ∷ []

module _ (view : ℕ) (word : AttrWord) (ms : MetricList) (held : List Item) (c : Fraction) (s : Suggestion) (some : suggestion_of view word held ≡ Some s) where
  -- the same suggestion with the constant
  abbrev again : Renewal
  again = renewal.Suggestion (record { row = s.row; rank = s.rank; view = view; word = word; direction = s.direction; constant = c })

  -- the rows of what is held with the other constant are those before with it
  pub shifted-suggestion : (rows : List Row) → AreRows ms held rows → AllPairs (λ a b. a.id < b.id) rows → AreRows ms (suggested_again view word c held) (shifted (to_suggested s.row c) rows)
  shifted-suggestion rows are rising = shifted-renewed ms held rows are again (s, some, refl) rising

  -- the constant may change
  pub can-suggest : (p : Problem) → AreRows ms held p.rows → IsWhole p → AreKept (to_suggested s.row c) → FitsAfter s.constant c → CanShift p (to_suggested s.row c)
  can-suggest p are whole kept near = can-renew ms held p again (s, some, refl) near are whole kept
