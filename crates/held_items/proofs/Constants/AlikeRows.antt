-- Rows for other metrics are alike but for their constants.
use Rattle.std.proofs.Common.{◌≡◌, ◌∙◌, ℕ, zero, suc, ◌<◌, List, [], ◌∷◌, ◌++◌, length, map, get_or, refl, sym, ap, ap₂, arith}
use Rattle.std.proofs.lemmas.List.{map-append}
use Rattle.problem_core.specs.declared.parts.Term.{Term}
use Rattle.problem_core.specs.Layout.{Row}
use Rattle.problem_core.specs.Window.{zero_fraction}
use Rattle.compile_parts.specs.Meaning.{MetricList}
use Rattle.constraint_compile.specs.Compiled.{RowForm, IsRowNow}
use Rattle.compile_parts.specs.Steps.{last_scale}
use Rattle.held_items.specs.Items.{Item, OfWindow, OfView, Sized, OfLine, Suggested, Intrinsic, AreItemRows, AreRows}
use Rattle.problem_core.specs.Unfit.{without_constant}
use Rattle.held_items.proofs.Constants.SameRow.{same-row}
use Rattle.held_items.proofs.HeldRows.NextRows.{shape}

-- the row of a form, without its constant
abbrev form_row : RowForm → Row
form_row f = record { id = f.id; rank = f.rank; weight = f.weight; rel = f.rel; scale = last_scale f.steps; constant = zero_fraction; terms = f.terms }

row-now : (ms : MetricList) (f : RowForm) (r : Row) → IsRowNow ms f r → without_constant r ≡ form_row f
row-now ms f r is = same-row (without_constant r) (form_row f) (is.id, is.rank, is.weight, is.rel) (is.scale, refl, is.terms)

rows-now : (ms : MetricList) (forms : List RowForm) (rows : List Row) → length rows ≡ length forms → ((i : ℕ) (f : RowForm) (r : Row) → i < length forms → IsRowNow ms (get_or forms i f) (get_or rows i r))
    → map without_constant rows ≡ map form_row forms
rows-now ms [] [] long each = refl
rows-now ms [] (r ∷ rows) long each = absurd (omega (arith, long))
rows-now ms (f ∷ forms) [] long each = absurd (omega (arith, long))
rows-now ms (f ∷ forms) (r ∷ rows) long each =
    ap₂ (λ (s : Row) (ss : List Row). s ∷ ss) (row-now ms f r (each zero f r (omega arith)))
    (rows-now ms forms rows (omega (arith, long)) (λ i g q within. each (suc i) g q (omega (arith, within))))

alike-item : (a b : MetricList) (item : Item) (xs ys : List Row) → AreItemRows a item xs → AreItemRows b item ys → map without_constant xs ≡ map without_constant ys
alike-item a b OfWindow xs ys one two = ap (map without_constant) (one ∙ sym two)
alike-item a b (OfView first id) xs ys one two = ap (map without_constant) (one ∙ sym two)
alike-item a b (Sized first width height) xs ys one two = ap (map without_constant) (one ∙ sym two)
alike-item a b (OfLine group line) xs ys one two = rows-now a line.rows xs one.long one.each ∙ sym (rows-now b line.rows ys two.long two.each)
alike-item a b (Suggested s) xs ys one two = ap (map without_constant) (one ∙ sym two)
alike-item a b (Intrinsic s) xs ys one two = ap (map without_constant) (one ∙ sym two)

pub alike-rows : (a b : MetricList) (items : List Item) (xs ys : List Row) → AreRows a items xs → AreRows b items ys → map without_constant xs ≡ map without_constant ys
alike-rows a b [] xs ys one two = ap (map without_constant) (one ∙ sym two)
alike-rows a b (item ∷ items) xs ys (front, back, is, first, rest) (face, rear, are, start, end) =
    ap (map without_constant) is ∙ map-append without_constant front back
    ∙ ap₂ (λ (ps qs : List Row). ps ++ qs) (alike-item a b item front face first start) (alike-rows a b items back rear rest end)
    ∙ sym (ap (map without_constant) are ∙ map-append without_constant face rear)

-- ---- their numbers and terms

shapes : (rows : List Row) → map shape (map without_constant rows) ≡ map shape rows
shapes [] = refl
shapes (r ∷ rows) = ap (λ (ss : List (ℕ × List Term)). shape r ∷ ss) (shapes rows)

pub alike-shapes : (xs ys : List Row) → map without_constant xs ≡ map without_constant ys → map shape xs ≡ map shape ys
alike-shapes xs ys same = sym (shapes xs) ∙ ap (map shape) same ∙ shapes ys
