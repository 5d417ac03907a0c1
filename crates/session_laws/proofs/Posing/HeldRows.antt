-- What is held stands for one list of rows.
use Rattle.std.proofs.Common.{◌≡◌, ◌∙◌, ℕ, ◌<◌, List, [], ◌∷◌, ◌++◌, length, get_or, Option, None, Some, All, sym, ap, ap₂, arith}
use Rattle.std.specs.Prelude.{IfSome}
use Rattle.std.specs.Str.{bytes_eq}
use Rattle.std.proofs.lemmas.List.{same_lists}
use Rattle.std.proofs.lemmas.List.Elements.{All-head, All-tail}
use Rattle.std.proofs.lemmas.Map.Views.{IfSome-lookup_from_All}
use Rattle.frac_core.specs.Fraction.{Fraction}
use Rattle.frac_core.proofs.Numbers.{product-above}
use Rattle.name_tables.specs.Names.{value_of}
use Rattle.problem_core.specs.declared.parts.Rel.{Rel}
use Rattle.problem_core.specs.declared.parts.Rel.TheVariants.{Eq}
use Rattle.problem_core.specs.declared.parts.Term.{Term}
use Rattle.problem_core.specs.Layout.{Row}
use Rattle.compile_parts.specs.Meaning.{MetricList, Multiple, Nothing, Number, Part, part_value, value_in}
use Rattle.compile_parts.specs.Steps.{Step, last_scale, step_sum}
use Rattle.constraint_compile.specs.Compiled.{AreRowsNow, IsRowNow, RowForm}
use Rattle.held_items.specs.Items.{AreItemRows, AreRows, Intrinsic, Item, OfLine, OfView, OfWindow, Sized, Suggested}
use Rattle.session_laws.specs.Posed.Definite.{AreDefinite, IsDefiniteForm, IsDefiniteItem, IsDefinitePart}
use Rattle.session_laws.proofs.Posing.Sums.{one-constant, total-above}

-- ---- constants

value-above : (by : Fraction) (o : Option Fraction) → 0 < by.den → IfSome o (λ f. 0 < f.den) → 0 < (value_in o by).den
value-above by None above value = omega arith
value-above by (Some f) above value = product-above by.den f.den above value

part-above : (metrics : MetricList) (p : Part) → AreDefinite metrics → IsDefinitePart p → 0 < (part_value metrics p).den
part-above metrics Nothing definite is = omega arith
part-above metrics (Number by) definite is = is
part-above metrics (Multiple by name) definite is =
    value-above by (value_of metrics name) is (IfSome-lookup_from_All (λ (f : Fraction). 0 < f.den) (bytes_eq name) metrics definite)

sum-above : (metrics : MetricList) (steps : List Step) → AreDefinite metrics → All (λ s. IsDefinitePart s.part) steps → 0 < (step_sum metrics steps).den
sum-above metrics steps definite all =
    total-above (λ (s : Step). part_value metrics s.part) steps (λ i d within. part-above metrics (get_or steps i d).part definite (all i d within))

-- ---- the rows of a line

row_of : ℕ → ℕ → ℕ → Rel → ℕ → Fraction → List Term → Row
row_of id rank weight rel scale constant terms = record { id = id; rank = rank; weight = weight; rel = rel; scale = scale; constant = constant; terms = terms }

same-row : (a b : Row) → (a.id ≡ b.id) × (a.rank ≡ b.rank) × (a.weight ≡ b.weight) × (a.rel ≡ b.rel) → (a.scale ≡ b.scale) × (a.constant ≡ b.constant) × (a.terms ≡ b.terms) → a ≡ b
unfolding row_of
same-row a b (id, rank, weight, rel) (scale, constant, terms) =
    ap (λ (n : ℕ). row_of n a.rank a.weight a.rel a.scale a.constant a.terms) id
    ∙ ap (λ (n : ℕ). row_of b.id n a.weight a.rel a.scale a.constant a.terms) rank
    ∙ ap (λ (n : ℕ). row_of b.id b.rank n a.rel a.scale a.constant a.terms) weight
    ∙ ap (λ (r : Rel). row_of b.id b.rank b.weight r a.scale a.constant a.terms) rel
    ∙ ap (λ (n : ℕ). row_of b.id b.rank b.weight b.rel n a.constant a.terms) scale
    ∙ ap (λ (f : Fraction). row_of b.id b.rank b.weight b.rel b.scale f a.terms) constant
    ∙ ap (λ (ts : List Term). row_of b.id b.rank b.weight b.rel b.scale b.constant ts) terms

one-row-now : (metrics : MetricList) (form : RowForm) (r s : Row) → AreDefinite metrics → IsDefiniteForm form → IsRowNow metrics form r → IsRowNow metrics form s → r ≡ s
one-row-now metrics form r s definite has is also =
    same-row r s (is.id ∙ sym also.id, is.rank ∙ sym also.rank, is.weight ∙ sym also.weight, is.rel ∙ sym also.rel) (
      is.scale ∙ sym also.scale,
      one-constant (last_scale form.steps) (step_sum metrics form.steps) r.constant s.constant (sum-above metrics form.steps definite has) is.constant also.constant,
      is.terms ∙ sym also.terms,
    )

-- a form, for places past the end
no_form : RowForm
no_form = record { id = 0; rank = 0; weight = 0; rel = Eq; terms = []; steps = [] }

one-rows-now : (metrics : MetricList) (forms : List RowForm) (rs ss : List Row) → AreDefinite metrics → All IsDefiniteForm forms → AreRowsNow metrics forms rs → AreRowsNow metrics forms ss → rs ≡ ss
one-rows-now metrics forms rs ss definite all is also =
    same_lists rs ss (is.long ∙ sym also.long) (λ i d within. here i d (omega (arith, within, is.long)))
  where
    here : (i : ℕ) (d : Row) → i < length forms → get_or rs i d ≡ get_or ss i d
    here i d within =
        one-row-now metrics (get_or forms i no_form) (get_or rs i d) (get_or ss i d) definite (all i no_form within) (is.each i no_form d within) (also.each i no_form d within)

-- ---- all rows

one-item : (metrics : MetricList) (item : Item) (rs ss : List Row) → AreDefinite metrics → IsDefiniteItem item → AreItemRows metrics item rs → AreItemRows metrics item ss → rs ≡ ss
one-item metrics OfWindow rs ss definite has is also = is ∙ sym also
one-item metrics (OfView first_row id) rs ss definite has is also = is ∙ sym also
one-item metrics (Sized first_row width height) rs ss definite has is also = is ∙ sym also
one-item metrics (OfLine group line) rs ss definite has is also = one-rows-now metrics line.rows rs ss definite has is also
one-item metrics (Suggested s) rs ss definite has is also = is ∙ sym also
one-item metrics (Intrinsic s) rs ss definite has is also = is ∙ sym also

pub one-rows : (metrics : MetricList) (held : List Item) (rs ss : List Row) → AreDefinite metrics → All IsDefiniteItem held → AreRows metrics held rs → AreRows metrics held ss → rs ≡ ss
one-rows metrics [] rs ss definite all is also = is ∙ sym also
one-rows metrics (item ∷ more) rs ss definite all (front, back, e, own, rest) (front2, back2, e2, own2, rest2) =
    e
    ∙ ap₂ (λ (xs ys : List Row). xs ++ ys) (one-item metrics item front front2 definite (All-head IsDefiniteItem item more all) own own2)
    (one-rows metrics more back back2 definite (All-tail IsDefiniteItem item more all) rest rest2)
    ∙ sym e2
