-- The changes for metrics of which one has another value.
use Rattle.std.proofs.Common.{◌≡◌, ◌∙◌, ℕ, ◌<◌, Bool, true, false, true≢false, cond, is_some, Some, None, List, [], ◌∷◌, ◌++◌, refl, sym, ap, subst, All, Any, inl, inr}
use Rattle.std.specs.List.{AllByRecursion as Each}
use Rattle.std.specs.Map.{set_value}
use Rattle.std.specs.Str.{bytes_eq}
use Rattle.std.proofs.lemmas.Slice.Eq.{bytes_eq-Decides}
use Rattle.std.proofs.lemmas.List.Elements.{recursion_from_All, All-from_recursion, All-weaker}
use Rattle.frac_core.specs.Fraction.{Fraction}
use Rattle.name_tables.specs.Names.{names_of, place_of, value_of}
use Rattle.problem_core.specs.Layout.{Row}
use Rattle.problem_core.specs.Kept.{IsRow, IsWhole}
use Rattle.view_tree.specs.Views.{ViewTree}
use Rattle.compile_parts.specs.Meaning.{MetricList}
use Rattle.constraint_compile.specs.Compiled.{RowForm}
use Rattle.constraint_compile.specs.Naming.{naming, AreSameBut, AreConstantsOf}
use Rattle.constraint_compile.specs.Stops.{IsConstantStop}
use Rattle.constraint_compile.specs.declared.naming.RowConstant.{RowConstant}
use Rattle.frac_core.specs.declared.memory.Stop.{Stop}
use Rattle.frac_core.specs.declared.memory.Stop.TheVariants as stop
use Rattle.compile_parts.specs.declared.stops.LargeConstant.{LargeConstant}
use Rattle.layout_solver.specs.declared.engine.Change.{Change}
use Rattle.layout_solver.specs.Layouts.{Layout}
use Rattle.layout_solver.specs.Shifts.{AreKept, shifted}
use Rattle.held_items.specs.Items.{Item, AreRows}
use Rattle.scenes.specs.Kept.{scene_at}
use Rattle.held_items.specs.Moving.{AreNear}
use Rattle.held_items.specs.Moving.{forms_of, AreMoves, IsFar}
use Rattle.scenes.specs.Moving.{AreChangesFor, MayLackChanges}
use Rattle.scenes.specs.Scene.{metrics_with}
use Rattle.held_items.proofs.Constants.AlikeRows.{alike-rows}
use Rattle.held_items.proofs.Constants.ConstantChanges.{AreChanges, changes-can, changes-rising, changes-rows}
use Rattle.held_items.proofs.Constants.MovedRows.{HasAfter, rows-after, small-naming}
use Rattle.held_items.proofs.Constants.NearMoves.{above-zero, far-moves, moved-changes, moves-near}
use Rattle.scenes.specs.declared.scene.past.Setting.{Setting}

-- ---- other metrics

other-apart : (name other key : List ℕ) → bytes_eq name other ≡ false → bytes_eq name key ≡ true → bytes_eq other key ≡ false
other-apart name other key apart here = by (bytes_eq other key) refl
  where
    by : (b : Bool) → bytes_eq other key ≡ b → b ≡ false
    by true too = absurd (true≢false (sym ((bytes_eq-Decides name other).1 ((bytes_eq-Decides name key).0 here ∙ sym ((bytes_eq-Decides other key).0 too))) ∙ apart))
    by false is = refl

set-other : (name other : List ℕ) (v : Fraction) (es : MetricList) → bytes_eq name other ≡ false → value_of (set_value (bytes_eq name) es v) other ≡ value_of es other
set-other name other v [] apart = refl
set-other name other v (e ∷ es) apart = by (bytes_eq name e.0) refl (set-other name other v es apart)
  where
    by : (b : Bool) → bytes_eq name e.0 ≡ b → value_of (set_value (bytes_eq name) es v) other ≡ value_of es other → value_of (cond b ((e.0, v) ∷ es) (e ∷ set_value (bytes_eq name) es v)) other ≡ value_of (e ∷ es) other
    by true here later =
        let off : bytes_eq other e.0 ≡ false = other-apart name other e.0 apart here in
        ap (λ c. cond c (Some v) (value_of es other)) off ∙ sym (ap (λ c. cond c (Some e.1) (value_of es other)) off)
    by false gone later = ap (cond (bytes_eq other e.0) (Some e.1)) later

append-other : (name other : List ℕ) (v : Fraction) (es : MetricList) → bytes_eq name other ≡ false → value_of (es ++ (name, v) ∷ []) other ≡ value_of es other
append-other name other v [] apart = ap (λ c. cond c (Some v) None) (other-apart name other name apart ((bytes_eq-Decides name name).1 refl))
append-other name other v (e ∷ es) apart = ap (cond (bytes_eq other e.0) (Some e.1)) (append-other name other v es apart)

pub other-metrics : (ms : MetricList) (name : List ℕ) (value : Fraction) → AreSameBut name ms (metrics_with ms name value)
other-metrics ms name value other apart = by (is_some (place_of (names_of ms) name))
  where
    by : (b : Bool) → value_of (cond b (set_value (bytes_eq name) ms value) (ms ++ (name, value) ∷ [])) other ≡ value_of ms other
    by true = set-other name other value ms apart
    by false = append-other name other value ms apart

-- ---- the changes of a scene

above : (ms : MetricList) (forms : List RowForm) (constants : List RowConstant) → AreConstantsOf ms forms constants → Each (λ c. 0 < c.constant.den) constants
above ms [] [] are = tt
above ms [] (c ∷ constants) are = absurd are
above ms (f ∷ forms) [] are = absurd are
above ms (f ∷ forms) (c ∷ constants) are = (are.0.constant.lowest.above, above ms forms constants are.1)

module _ (tree : ViewTree) (ms : MetricList) (held : List Item) (setting : Setting) (l : Layout) (name : List ℕ) (new : MetricList) (same : AreSameBut name ms new) (before : AreRows ms held l.problem.rows) (whole : IsWhole l.problem)
    (constants : List RowConstant) (own : AreConstantsOf new (naming name (forms_of held)) constants) where
  after : HasAfter name ms new same (AreRows new held) l.problem.rows constants
  after = rows-after name ms new same held l.problem.rows constants before own

  pub changes-made : (to : List Change) → AreMoves l.problem.rows constants to → AreKept to → AreChangesFor (scene_at tree ms held setting l) new to
  changes-made to moves kept =
      let changes : AreChanges l.problem.rows after.after to = moved-changes l.problem.rows after.after constants to after.changes moves in
      let rows : shifted to l.problem.rows ≡ after.after =
      changes-rows l.problem.rows after.after to changes (alike-rows new ms held after.after l.problem.rows after.are before) whole.rising in
      let near : AreNear l.problem.rows after.after = moves-near l.problem.rows after.after constants to after.changes moves in
      let dens : All (λ r. 0 < r.constant.den) l.problem.rows = All-weaker IsRow (λ (r : Row). 0 < r.constant.den) (λ r h. h.constant.lowest.above) l.problem.rows whole.rows in
      record {
        rows = subst (AreRows new held) (sym rows) after.are;
        near = subst (AreNear l.problem.rows) (sym rows) near;
        can = changes-can l.problem l.problem.rows after.after to refl changes whole.rising near dens
            (All-from_recursion (λ (r : Row). 0 < r.constant.den) after.after
            (above-zero l.problem.rows after.after constants after.changes (above new (naming name (forms_of held)) constants own) (recursion_from_All (λ (r : Row). 0 < r.constant.den) l.problem.rows dens)));
        rising = changes-rising l.problem.rows after.after to changes whole.rising;
        kept = kept;
      }

  pub changes-far : (cause : LargeConstant) → Any (IsFar l.problem.rows) constants → MayLackChanges (scene_at tree ms held setting l) new (stop.Refused cause)
  changes-far cause far = inr (after.after, after.are, far-moves l.problem.rows after.after constants whole.rising after.changes far)

-- ---- what isn't small

pub changes-lack : (tree : ViewTree) (ms : MetricList) (held : List Item) (setting : Setting) (l : Layout) (name : List ℕ) (new : MetricList) (s : Stop LargeConstant) → IsConstantStop new (naming name (forms_of held)) s
    → MayLackChanges (scene_at tree ms held setting l) new s
changes-lack tree ms held setting l name new (stop.Refused cause) h = inl (λ small. h (small-naming new name held small))
changes-lack tree ms held setting l name new stop.OutOfMemory h = h
