-- The row of a line, put together.
use Rattle.std.proofs.Common.{◌≡◌, ℕ, false, zero, suc, ◌+◌, ◌<◌, ◌≤◌, ◌^◌, List, [], ◌∷◌, ◌++◌, length, map, take, take_all, get_or, refl, sym, subst, ap, ◌∙◌, arith}
use Rattle.std.proofs.lemmas.List.{take_more, map_push, get_or-map, length-map}
use Rattle.frac_core.specs.Fraction.{Fraction}
use Rattle.problem_core.specs.declared.parts.Term.{Term as RowTerm}
use Rattle.script_text.specs.Meaning.{Term}
use Rattle.view_tree.specs.Views.{LiveView}
use Rattle.compile_parts.specs.Fractions.{IsScale}
use Rattle.compile_parts.specs.Meaning as meaning
use Rattle.compile_parts.specs.Meaning.{sum_at}
use Rattle.compile_parts.specs.Addends.{Addend, addend_view, addends, addends_view}
use Rattle.compile_parts.specs.declared.addends.Addend as code
use Rattle.constraint_compile.specs.Coefficients.Sums.{first_sum, AreScales, AreTerms}
use Rattle.constraint_compile.specs.Compiled as compiled
use Rattle.compile_parts.specs.Steps as meant
use Rattle.compile_parts.specs.Steps.{last_scale}
use Rattle.compile_parts.specs.Keeps.{part_view, step_view, steps_view, metric_in, metric_name, is_metric, any_names_metric, HaveNames, AreScalesKept}
use Rattle.constraint_compile.specs.Stops.{AreSteps, IsSumRow}
use Rattle.compile_parts.specs.declared.steps.Step.{Step}
use Rattle.compile_parts.specs.declared.steps.Part.TheVariants as part
use Rattle.constraint_compile.proofs.Added.{part_of, first_same, parts_same, same_count}
use Rattle.constraint_compile.proofs.Sums.Beginnings.{zero_sum}
use Rattle.compile_parts.proofs.Constants.{last_more}
use Rattle.constraint_compile.proofs.Sums.Joint.{one_scale}
use Rattle.frac_core.proofs.Bools.{neither}

name_at : (added : List code.Addend) (i : ℕ) (a : code.Addend) → i < length added → a ≡ get_or added i a → get_or (map metric_name (addends_view added)) i [] ≡ metric_name (addend_view a)
name_at added i a within is =
    get_or-map metric_name (addends_view added) i (addend_view a) [] (omega (arith, within, length-map added addend_view))
    ∙ ap metric_name (get_or-map addend_view added i a (addend_view a) within ∙ sym (ap addend_view is))

-- ---- names

not_metric : (p : meaning.Part) → is_metric p ≡ false → metric_in p ≡ []
not_metric meaning.Nothing none = refl
not_metric (meaning.Number by) none = refl
not_metric (meaning.Multiple by name) none = absurd cc

no_name : (added : List Addend) (i : ℕ) → any_names_metric added ≡ false → get_or (map metric_name added) i [] ≡ []
no_name [] i none = refl
no_name (a ∷ added) zero none = not_metric a.part (neither (is_metric a.part) (any_names_metric added) none).0
no_name (a ∷ added) (suc i) none = no_name added i (neither (is_metric a.part) (any_names_metric added) none).1

pub no_names : (added : List Addend) → any_names_metric added ≡ false → HaveNames [] added
no_names added none = record { at = λ i. sym (no_name added i none) }

pub all_names : (added : List Addend) (names : List (List ℕ)) → names ≡ map metric_name added → HaveNames names added
all_names added names same = record { at = λ i. ap (λ (ns : List (List ℕ)). get_or ns i []) same }

-- ---- steps

pub parts_more : (added : List code.Addend) (steps : List Step) (i : ℕ) (a : code.Addend) (s : Step) → i < length added → a ≡ get_or added i a
    → ((names : List (List ℕ)) → get_or names i [] ≡ metric_name (addend_view a) → part_view names s.part ≡ (addend_view a).part)
    → ((names : List (List ℕ)) → HaveNames names (addends_view added) → map (λ (u : meant.Step). u.part) (steps_view names steps) ≡ map part_of (addends_view (take i added)))
    → (names : List (List ℕ)) → HaveNames names (addends_view added) → map (λ (u : meant.Step). u.part) (steps_view names (steps ++ s ∷ [])) ≡ map part_of (addends_view (take (i + 1) added))
parts_more added steps i a s within is here before names same =
    let named : get_or names i [] ≡ metric_name (addend_view a) = same.at i ∙ name_at added i a within is in
    let left : map (λ (u : meant.Step). u.part) (steps_view names (steps ++ s ∷ [])) ≡ map (λ (u : meant.Step). u.part) (steps_view names steps) ++ part_view names s.part ∷ [] =
    ap (map (λ (u : meant.Step). u.part)) (map_push (step_view names) steps s) ∙ map_push (λ (u : meant.Step). u.part) (steps_view names steps) (step_view names s) in
    let right : map part_of (addends_view (take (i + 1) added)) ≡ map part_of (addends_view (take i added)) ++ (addend_view a).part ∷ [] =
    ap (λ (xs : List code.Addend). map part_of (addends_view xs)) (take_more added i a within ∙ ap (λ (x : code.Addend). take i added ++ x ∷ []) (sym is))
    ∙ ap (map part_of) (map_push addend_view (take i added) a) ∙ map_push part_of (addends_view (take i added)) (addend_view a) in
    left ∙ ap (λ (ps : List meaning.Part). ps ++ part_view names s.part ∷ []) (before names same) ∙ ap (λ (p : meaning.Part). map part_of (addends_view (take i added)) ++ p ∷ []) (here names named) ∙ sym right

pub scales_more_steps : (scales : List ℕ) (steps : List Step) (i : ℕ) (s : Step) → i < length scales → s.scale ≡ get_or scales i 0 → map (λ (u : Step). u.scale) steps ≡ take i scales → map (λ (u : Step). u.scale) (steps ++ s ∷ []) ≡ take (i + 1) scales
scales_more_steps scales steps i s within is before =
    map_push (λ (u : Step). u.scale) steps s ∙ ap (λ (ks : List ℕ). ks ++ s.scale ∷ []) before ∙ ap (λ (k : ℕ). take i scales ++ k ∷ []) is ∙ sym (take_more scales i 0 within)

-- the steps of the code are those of the terms
pub are_steps : (views : List LiveView) (terms : List Term) (names : List (List ℕ)) (steps : List Step) (scales : List ℕ) → AreScales (addends views terms) (length terms) scales → length steps ≡ length terms
    → map (λ (s : Step). s.scale) steps ≡ scales → map (λ (s : meant.Step). s.part) (steps_view names steps) ≡ map part_of (addends views terms) → AreSteps views terms (steps_view names steps)
are_steps views terms names steps scales are long same parts = record {
  long = length-map steps (step_view names) ∙ long;
  scales = λ i d within. subst (λ (k : ℕ). IsScale (first_sum views terms (i + 1)) k) (sym (scale_at i d within)) (subst (λ (b : ℕ → Fraction). IsScale b (get_or scales i 0)) (first_same views terms (i + 1)) (are.each i within));
  parts = parts ∙ parts_same views terms;
}
  where
    none : Step
    none = record { scale = 0; part = part.Nothing }

    scale_at : (i : ℕ) (d : meant.Step) → i < length terms → (get_or (steps_view names steps) i d).scale ≡ get_or scales i 0
    scale_at i d within =
        ap (λ (s : meant.Step). s.scale) (get_or-map (step_view names) steps i none d (omega (arith, within, long)))
        ∙ sym (get_or-map (λ (s : Step). s.scale) steps i none 0 (omega (arith, within, long))) ∙ ap (λ (ks : List ℕ). get_or ks i 0) same

no_terms : (views : List LiveView) (terms : List Term) (steps : List meant.Step) → length terms ≡ 0 → length steps ≡ 0 → IsScale (sum_at views terms) (last_scale steps)
no_terms views [] [] none nothing = (zero_sum [] [] refl (λ k d h. absurd (omega (arith, h)))).is_scale
no_terms views [] (s ∷ steps) none nothing = absurd (omega (arith, nothing))
no_terms views (t ∷ terms) steps none nothing = absurd (omega (arith, none))

pub last_is_scale : (views : List LiveView) (terms : List Term) (steps : List meant.Step) → AreSteps views terms steps → IsScale (sum_at views terms) (last_scale steps)
last_is_scale views terms steps are = at (length terms) refl
  where
    first : meant.Step
    first = record { scale = 0; part = meaning.Nothing }

    at : (n : ℕ) → length terms ≡ n → IsScale (sum_at views terms) (last_scale steps)
    at zero is = no_terms views terms steps is (are.long ∙ is)
    at (suc n) is =
        let whole : take (n + 1) terms ≡ terms = take_all (n + 1) terms (omega (arith, is)) in
        let whole_steps : take (n + 1) steps ≡ steps = take_all (n + 1) steps (omega (arith, is, are.long)) in
        let last : last_scale steps ≡ (get_or steps n first).scale = ap last_scale (sym whole_steps) ∙ last_more steps n first (omega (arith, is, are.long)) in
        subst (λ (ts : List Term). IsScale (sum_at views ts) (last_scale steps)) whole (subst (λ (k : ℕ). IsScale (sum_at views (take (n + 1) terms)) k) (sym last) (are.scales n first (omega (arith, is))))

-- the code's steps are those of whatever terms its addends come from
pub code_steps : (views : List LiveView) (terms : List Term) (added : List code.Addend) (names : List (List ℕ)) (steps : List Step) (scales : List ℕ) → addends_view added ≡ addends views terms → AreScales (addends_view added) (length added) scales → length steps ≡ length added
    → map (λ (s : Step). s.scale) steps ≡ scales → map (λ (s : meant.Step). s.part) (steps_view names steps) ≡ map part_of (addends_view added) → AreSteps views terms (steps_view names steps)
code_steps views terms added names steps scales of are long same parts =
    let count : length added ≡ length terms = same_count views terms added of in
    are_steps views terms names steps scales (subst (λ (xs : List Addend). AreScales xs (length terms) scales) of (subst (λ (n : ℕ). AreScales (addends_view added) n scales) count are)) (long ∙ count) same (parts ∙ ap (map part_of) of)

pub scales_kept : (added : List Addend) (steps : List Step) (scales : List ℕ) (n : ℕ) → AreScales added n scales → map (λ (s : Step). s.scale) steps ≡ scales → AreScalesKept steps
scales_kept added steps scales n are same k d within = (
  subst (λ (m : ℕ). 0 < m) (sym here) (are.each k less).above,
  subst (λ (m : ℕ). m ≤ 2 ^ 30) (sym here) (are.low k 0 (omega (arith, less, are.long))),
)
  where
    less : k < n
    less = omega (arith, within, length-map steps (λ (s : Step). s.scale), ap length same, are.long)

    here : (get_or steps k d).scale ≡ get_or scales k 0
    here = sym (get_or-map (λ (s : Step). s.scale) steps k d 0 within) ∙ ap (λ (ks : List ℕ). get_or ks k 0) same

pub terms_at : (b : ℕ → Fraction) (j k : ℕ) (terms : List RowTerm) → IsScale b j → IsScale b k → AreTerms b j terms → AreTerms b k terms
terms_at b j k terms is_j is_k are = subst (λ (m : ℕ). AreTerms b m terms) (one_scale b j k is_j is_k) are

pub sum_row : (views : List LiveView) (terms : List Term) (row : compiled.RowForm) → AreSteps views terms row.steps → ((k : ℕ) → IsScale (sum_at views terms) k → AreTerms (sum_at views terms) k row.terms) → length row.terms ≤ 32 → IsSumRow views terms row
sum_row views terms row are of few = record {
  scale = last_is_scale views terms row.steps are;
  terms = of (last_scale row.steps) (last_is_scale views terms row.steps are);
  few = few;
  steps = are;
}

pub last_at : (names : List (List ℕ)) (steps : List Step) (i : ℕ) (d : Step) → length steps ≡ i + 1 → (get_or steps i d).scale ≡ last_scale (steps_view names steps)
last_at names [] i d long = absurd (omega (arith, long))
last_at names (s ∷ []) zero d long = refl
last_at names (s ∷ []) (suc i) d long = absurd (omega (arith, long))
last_at names (s ∷ (t ∷ steps)) zero d long = absurd (omega (arith, long))
last_at names (s ∷ (t ∷ steps)) (suc i) d long = last_at names (t ∷ steps) i d (omega (arith, long))
