-- The rows of compiled lines go on from a number, and have attributes of views alone.
use Rattle.std.proofs.Common.{◌≡◌, ℕ, zero, suc, ◌+◌, ◌<◌, ◌≤◌, List, [], ◌∷◌, length, map, get_or, refl, sym, ap₂, subst, arith, All, AllPairs}
use Rattle.std.specs.List.{Contains, AllByRecursion as Each}
use Rattle.std.proofs.lemmas.List.Elements.{All-from_recursion, All-map, All-weaker}
use Rattle.problem_core.specs.declared.parts.Term.{Term}
use Rattle.problem_core.specs.Layout.{Row}
use Rattle.problem_core.specs.Kept.{IsRow}
use Rattle.view_tree.specs.Views.{LiveView}
use Rattle.compile_parts.specs.Meaning.{MetricList}
use Rattle.constraint_compile.specs.Compiled.{RowForm, CompiledLine, IsRowNow, AreRowsNow}
use Rattle.held_items.specs.Attributes.{all_attributes, AreNumberedFrom, IsNextLine}
use Rattle.held_items.proofs.Lists.{pairs-cons, all-unmapped}
use Rattle.held_items.specs.Attributes.{MayBeAdded}
use Rattle.frac_core.proofs.Lists.{pairs-nil, pairs-map, pairs-unmapped}

-- ---- numbers

numbered-above : (n : ℕ) (forms : List RowForm) → AreNumberedFrom n forms → Each (λ f. n ≤ f.id) forms
numbered-above n [] are = tt
numbered-above n (f ∷ forms) are = (omega (arith, are.0), lower n (n + 1) forms (omega arith) (numbered-above (n + 1) forms are.1))
  where
    lower : (n m : ℕ) (forms : List RowForm) → n ≤ m → Each (λ f. m ≤ f.id) forms → Each (λ f. n ≤ f.id) forms
    lower n m [] le h = tt
    lower n m (f ∷ forms) le h = (omega (arith, le, h.0), lower n m forms le h.1)

numbered-below : (n end : ℕ) (forms : List RowForm) → n + length forms ≤ end → AreNumberedFrom n forms → Each (λ f. f.id < end) forms
numbered-below n end [] le are = tt
numbered-below n end (f ∷ forms) le are = (omega (arith, le, are.0), numbered-below (n + 1) end forms (omega (arith, le)) are.1)

numbered-rising : (n : ℕ) (forms : List RowForm) → AreNumberedFrom n forms → AllPairs (λ f g. f.id < g.id) forms
numbered-rising n [] are = pairs-nil (λ (f g : RowForm). f.id < g.id)
numbered-rising n (f ∷ forms) are =
    pairs-cons (λ (f g : RowForm). f.id < g.id) f forms
    (All-weaker (λ (g : RowForm). n + 1 ≤ g.id) (λ (g : RowForm). f.id < g.id) (λ g h. omega (arith, h, are.0)) forms (All-from_recursion (λ (g : RowForm). n + 1 ≤ g.id) forms (numbered-above (n + 1) forms are.1)))
    (numbered-rising (n + 1) forms are.1)

-- ---- the rows for some metrics

-- the number and the terms of a row
abbrev pub shape : Row → ℕ × List Term
shape r = (r.id, r.terms)

-- so of its form
abbrev pub form_shape : RowForm → ℕ × List Term
form_shape f = (f.id, f.terms)

abbrev pair : ℕ → List Term → ℕ × List Term
pair n terms = (n, terms)

pub shapes-now : (ms : MetricList) (forms : List RowForm) (rows : List Row) → length rows ≡ length forms → ((i : ℕ) (f : RowForm) (r : Row) → i < length forms → IsRowNow ms (get_or forms i f) (get_or rows i r)) → map shape rows ≡ map form_shape forms
shapes-now ms [] [] long each = refl
shapes-now ms [] (r ∷ rows) long each = absurd (omega (arith, long))
shapes-now ms (f ∷ forms) [] long each = absurd (omega (arith, long))
shapes-now ms (f ∷ forms) (r ∷ rows) long each =
    let here = each zero f r (omega arith) in
    ap₂ (λ (s : ℕ × List Term) (ss : List (ℕ × List Term)). s ∷ ss) (ap₂ pair here.id here.terms)
    (shapes-now ms forms rows (omega (arith, long)) (λ i g q within. each (suc i) g q (omega (arith, within))))

-- what holds of the shapes of the forms holds of those of the rows
pub each-now : (P : ℕ × List Term → Type 0) (ms : MetricList) (forms : List RowForm) (rows : List Row) → AreRowsNow ms forms rows → All (λ f. P (form_shape f)) forms → All (λ r. P (shape r)) rows
each-now P ms forms rows are h = all-unmapped shape P rows (subst (All P) (sym (shapes-now ms forms rows are.long are.each)) (All-map P form_shape forms h))

pub line-may : (views : List LiveView) (next : ℕ) (line : CompiledLine) (ms : MetricList) (rows : List Row) → IsNextLine views next line → AreRowsNow ms line.rows rows → All IsRow rows → MayBeAdded (all_attributes views) next rows
line-may views next line ms rows is are each = record {
  rows = each;
  rising = pairs-unmapped shape (λ (s t : ℕ × List Term). s.0 < t.0) rows
      (subst (AllPairs (λ (s t : ℕ × List Term). s.0 < t.0)) (sym (shapes-now ms line.rows rows are.long are.each)) (pairs-map form_shape (λ (s t : ℕ × List Term). s.0 < t.0) line.rows (numbered-rising next line.rows is.numbers)));
  above = each-now (λ s. next ≤ s.0) ms line.rows rows are (All-from_recursion (λ (f : RowForm). next ≤ f.id) line.rows (numbered-above next line.rows is.numbers));
  only = each-now (λ s. All (λ t. Contains (all_attributes views) t.attr) s.1) ms line.rows rows are is.attributes;
}

pub line-below : (views : List LiveView) (next : ℕ) (line : CompiledLine) (ms : MetricList) (rows : List Row) → IsNextLine views next line → AreRowsNow ms line.rows rows → All (λ r. r.id < next + length rows) rows
line-below views next line ms rows is are =
    each-now (λ s. s.0 < next + length rows) ms line.rows rows are (All-from_recursion (λ (f : RowForm). f.id < next + length rows) line.rows (numbered-below next (next + length rows) line.rows (omega (arith, are.long)) is.numbers))
