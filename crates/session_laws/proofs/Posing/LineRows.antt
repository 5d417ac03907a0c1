-- A line is compiled to one list of rows.
use Rattle.std.proofs.Common.{◌≡◌, ◌∙◌, ℕ, ◌+◌, ◌<◌, List, [], ◌∷◌, length, get_or, map, Option, None, Some, All, pos, sym, ap, ap₂, subst, arith}
use Rattle.std.specs.Prelude.{unsigned_abs}
use Rattle.std.proofs.lemmas.List.{get_or-map, same_lists}
use Rattle.std.proofs.lemmas.List.Elements.{All-append, All-cons, All-map}
use Rattle.std.proofs.lemmas.Option.{same_Some}
use Rattle.frac_core.specs.Fraction.{Fraction}
use Rattle.problem_core.specs.declared.parts.Rel.{Rel}
use Rattle.problem_core.specs.declared.parts.Term as rows
use Rattle.span_text.specs.Objects.{Meant}
use Rattle.span_text.specs.Objects as object
use Rattle.view_tree.specs.Views.{LiveView, view_named}
use Rattle.script_text.specs.Directions.{line_in, term_in}
use Rattle.script_text.specs.declared.words.AttrWord.{AttrWord}
use Rattle.script_text.specs.declared.words.Direction.{Direction}
use Rattle.script_text.specs.Meaning.{Linear, Operand, Term}
use Rattle.script_text.specs.Meaning as mean
use Rattle.compile_parts.specs.Meaning.{HasDenominator, IsRank, MetricList, Part, minus, operand_share, part, part_of, share, share_in, sum_at, terms_of}
use Rattle.compile_parts.specs.Steps.{Step, last_scale}
use Rattle.constraint_compile.specs.Coefficients.Sums.{AreTerms, first_sum}
use Rattle.constraint_compile.specs.Compiled.{CompiledLine, RowForm}
use Rattle.constraint_compile.specs.Stops.{AreSteps, IsCompiled, IsRowOf}
use Rattle.session_laws.specs.Posed.Definite.{IsDefiniteForm, IsDefiniteLine, IsDefinitePart}
use Rattle.session_laws.proofs.Posing.Sums.{one-scale, total-above}
use Rattle.session_laws.proofs.Posing.RowTerms.{one-terms}

-- ---- ranks

-- a priority stands for one rank at most
pub one-rank : (views : List LiveView) (metrics : MetricList) (o : Option Meant) (r s : ℕ) → IsRank views metrics o r → IsRank views metrics o s → r ≡ s
one-rank views metrics None r s is also = is ∙ sym also
one-rank views metrics (Some (object.Number z)) r s is also = omega (arith, ap unsigned_abs (sym is.0 ∙ also.0))
one-rank views metrics (Some (object.Name name)) r s is also =
    let value = same_Some (record { num = pos r; den = 1 }) (record { num = pos s; den = 1 }) (sym is.1 ∙ also.1) in
    ap (λ (f : Fraction). unsigned_abs f.num) value

-- ---- denominators

shared-above : (v : Option LiveView) (by : Fraction) (w : AttrWord) (attr : ℕ) → 0 < by.den → 0 < (share_in v by w attr).den
shared-above None by w attr above = omega arith
shared-above (Some view) by w attr above = omega (arith, above)

share-above : (views : List LiveView) (v : ℕ) (by : Fraction) (of : Operand) → 0 < by.den → 0 < (operand_share views v by of).den
share-above views v by (mean.Attr name w) above = shared-above (view_named views name) by w v above
share-above views v by (mean.Metric name) above = omega arith
share-above views v by mean.One above = omega arith

sum-above : (views : List LiveView) (terms : List Term) → All HasDenominator terms → (v : ℕ) → 0 < (sum_at views terms v).den
sum-above views terms all v = total-above (λ (t : Term). share views v t) terms (λ i d within. share-above views v (get_or terms i d).by (get_or terms i d).of (all i d within))

-- the terms of a line, in whatever direction it is meant
pub line-above : (d : Direction) (l : Linear) → IsDefiniteLine l → All HasDenominator (terms_of (line_in d l))
line-above d l is =
    All-append HasDenominator (map (term_in d) l.left) (map minus (map (term_in d) l.right))
    (All-map HasDenominator (term_in d) l.left is.left)
    (All-map HasDenominator minus (map (term_in d) l.right) (All-map (λ (t : Term). HasDenominator (minus t)) (term_in d) l.right is.right))

-- ---- steps

same-step : (s t : Step) → s.scale ≡ t.scale → s.part ≡ t.part → s ≡ t
same-step s t scale part_is = ap₂ (λ (k : ℕ) (p : Part). (let u : Step = record { scale = k; part = p } in u)) scale part_is

-- at each place both lists have the same part
same-parts : (xs ys : List Step) (i : ℕ) (d : Step) → map (λ (s : Step). s.part) xs ≡ map (λ (s : Step). s.part) ys → i < length xs → i < length ys → (get_or xs i d).part ≡ (get_or ys i d).part
same-parts xs ys i d same in_x in_y =
    sym (get_or-map (λ (s : Step). s.part) xs i d d.part in_x) ∙ ap (λ (ps : List Part). get_or ps i d.part) same ∙ get_or-map (λ (s : Step). s.part) ys i d d.part in_y

one-steps : (views : List LiveView) (terms : List Term) (xs ys : List Step) → AreSteps views terms xs → AreSteps views terms ys → xs ≡ ys
one-steps views terms xs ys is also = same_lists xs ys (is.long ∙ sym also.long) (λ i d within. here i d within (omega (arith, within, is.long)) (omega (arith, within, is.long, also.long)))
  where
    here : (i : ℕ) (d : Step) → i < length xs → i < length terms → i < length ys → get_or xs i d ≡ get_or ys i d
    here i d in_x in_terms in_y =
        same-step (get_or xs i d) (get_or ys i d)
        (one-scale (first_sum views terms (i + 1)) (get_or xs i d).scale (get_or ys i d).scale (is.scales i d in_terms) (also.scales i d in_terms))
        (same-parts xs ys i d (is.parts ∙ sym also.parts) in_x in_y)

-- what a term of such a factor adds has such a factor
part-definite : (by : Fraction) (of : Operand) → 0 < by.den → IsDefinitePart (part_of by of)
part-definite by (mean.Attr name w) above = tt
part-definite by (mean.Metric name) above = above
part-definite by mean.One above = above

steps-definite : (views : List LiveView) (terms : List Term) (xs : List Step) → All HasDenominator terms → AreSteps views terms xs → All (λ s. IsDefinitePart s.part) xs
steps-definite views terms xs all is = λ i d within. here i d within (omega (arith, within, is.long))
  where
    none : Term
    none = record { by = record { num = pos 0; den = 1 }; of = mean.One }

    here : (i : ℕ) (d : Step) → i < length xs → i < length terms → IsDefinitePart (get_or xs i d).part
    here i d in_x in_terms =
        let same : (get_or xs i d).part ≡ part (get_or terms i none) =
        sym (get_or-map (λ (s : Step). s.part) xs i d d.part in_x) ∙ ap (λ (ps : List Part). get_or ps i d.part) is.parts ∙ get_or-map part terms i none d.part in_terms in
        subst IsDefinitePart (sym same) (part-definite (get_or terms i none).by (get_or terms i none).of (all i none in_terms))

-- ---- rows

form_of : ℕ → ℕ → ℕ → Rel → List rows.Term → List Step → RowForm
form_of id rank weight rel terms steps = record { id = id; rank = rank; weight = weight; rel = rel; terms = terms; steps = steps }

same-form : (a b : RowForm) → a.id ≡ b.id → a.rank ≡ b.rank → a.weight ≡ b.weight → a.rel ≡ b.rel → a.terms ≡ b.terms → a.steps ≡ b.steps → a ≡ b
unfolding form_of
same-form a b id rank weight rel terms steps =
    ap (λ (n : ℕ). form_of n a.rank a.weight a.rel a.terms a.steps) id
    ∙ ap (λ (n : ℕ). form_of b.id n a.weight a.rel a.terms a.steps) rank
    ∙ ap (λ (n : ℕ). form_of b.id b.rank n a.rel a.terms a.steps) weight
    ∙ ap (λ (r : Rel). form_of b.id b.rank b.weight r a.terms a.steps) rel
    ∙ ap (λ (ts : List rows.Term). form_of b.id b.rank b.weight b.rel ts a.steps) terms
    ∙ ap (λ (ss : List Step). form_of b.id b.rank b.weight b.rel b.terms ss) steps

pub one-row : (views : List LiveView) (metrics : MetricList) (l : Linear) (number : ℕ) (r s : RowForm) → All HasDenominator (terms_of l) → IsRowOf views metrics l number r → IsRowOf views metrics l number s → r ≡ s
one-row views metrics l number r s above is also =
    let steps : r.steps ≡ s.steps = one-steps views (terms_of l) r.steps s.steps is.sum.steps also.sum.steps in
    let same : AreTerms (sum_at views (terms_of l)) (last_scale r.steps) s.terms = subst (λ (ss : List Step). AreTerms (sum_at views (terms_of l)) (last_scale ss) s.terms) (sym steps) also.sum.terms in
    same-form r s (is.id ∙ sym also.id) (one-rank views metrics l.priority r.rank s.rank is.rank also.rank) (is.weight ∙ sym also.weight) (is.rel ∙ sym also.rel)
    (one-terms (sum_at views (terms_of l)) (last_scale r.steps) r.terms s.terms (sum-above views (terms_of l) above) is.sum.terms same) steps

pub row-definite : (views : List LiveView) (metrics : MetricList) (l : Linear) (number : ℕ) (r : RowForm) → All HasDenominator (terms_of l) → IsRowOf views metrics l number r → IsDefiniteForm r
row-definite views metrics l number r above is = steps-definite views (terms_of l) r.steps above is.sum.steps

-- ---- lines

pub same-line : (c d : CompiledLine) → c.rows ≡ d.rows → c.views ≡ d.views → c ≡ d
same-line c d forms views = ap₂ (λ (rs : List RowForm) (vs : List ℕ). (let l : CompiledLine = record { rows = rs; views = vs } in l)) forms views

pub one-line : (views : List LiveView) (metrics : MetricList) (l : Linear) (number : ℕ) (c d : CompiledLine) → All HasDenominator (terms_of l) → IsCompiled views metrics l number c → IsCompiled views metrics l number d → c ≡ d
one-line views metrics l number c d above is also =
    let same : is.row.0 ≡ also.row.0 = one-row views metrics l number is.row.0 also.row.0 above is.row.2 also.row.2 in
    same-line c d (is.row.1 ∙ ap (λ (r : RowForm). r ∷ []) same ∙ sym also.row.1) (is.views_named ∙ sym also.views_named)

pub line-definite : (views : List LiveView) (metrics : MetricList) (l : Linear) (number : ℕ) (c : CompiledLine) → All HasDenominator (terms_of l) → IsCompiled views metrics l number c → All IsDefiniteForm c.rows
line-definite views metrics l number c above is =
    let here : All IsDefiniteForm (is.row.0 ∷ []) = All-cons IsDefiniteForm is.row.0 [] (row-definite views metrics l number is.row.0 above is.row.2) (λ i d within. absurd (omega (arith, within))) in
    subst (All IsDefiniteForm) (sym is.row.1) here
