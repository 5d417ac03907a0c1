use Rattle.std.proofs.Common.{◌≡◌, ◌∙◌, ◌++◌, ◌∷◌, [], ℕ, ◌+◌, ◌<◌, List, length, map, take, take_all, get_or, ap, sym, arith, append_assoc}
use Rattle.std.proofs.lemmas.List.{map-append, take_more}
use Rattle.constraint_compile.specs.Compiled as spec
use Rattle.constraint_compile.specs.Inside.{form_view}
use Rattle.constraint_compile.specs.declared.compiled.RowForm.{RowForm}
use Rattle.constraint_compile.proofs.compiled.Compiled.push_numbers.Goals as goal

-- the numbers of forms
abbrev ids : List RowForm → List ℕ
ids forms = map (λ (f : spec.RowForm). f.id) (map form_view forms)

ids-append : (xs : List RowForm) (f : RowForm) → ids (xs ++ f ∷ []) ≡ ids xs ++ f.id ∷ []
ids-append xs f = ap (map (λ (g : spec.RowForm). g.id)) (map-append form_view xs (f ∷ [])) ∙ map-append (λ (g : spec.RowForm). g.id) (map form_view xs) (form_view f ∷ [])

ids-next : (forms : List RowForm) (i : ℕ) (f : RowForm) (old now new : List ℕ) → i < length forms → f ≡ get_or forms i f → now ≡ old ++ ids (take i forms) → new ≡ now ++ f.id ∷ [] → new ≡ old ++ ids (take (i + 1) forms)
ids-next forms i f old now new within read before pushed =
    pushed ∙ ap (λ ns. ns ++ f.id ∷ []) before ∙ append_assoc old (ids (take i forms)) (f.id ∷ [])
    ∙ ap (λ ns. old ++ ns) (sym (ap ids (take_more forms i f within ∙ ap (λ (g : RowForm). take i forms ++ g ∷ []) (sym read)) ∙ ids-append (take i forms) f))

pub loop-form-preserved : goal.loop-form-preserved
loop-form-preserved c =
    ids-next c.forms-forms.result.now c.loop-form.form-index c.form-item.result c.args.numbers.now.items c.loop-form.numbers.items c.push.new.self.items c.loop-form-test.true c.form-item.is c.loop-form.invariant c.in_ok-push.ensures.items

pub returns : goal.returns
returns c =
    let all : take c.loop-form.form-index c.forms-forms.result.now ≡ c.forms-forms.result.now = take_all c.loop-form.form-index c.forms-forms.result.now (omega (arith, c.loop-form-test.false)) in
    c.loop-form.invariant
    ∙ ap (λ (forms : List RowForm). c.args.numbers.now.items ++ ids forms) all
    ∙ ap (λ (forms : List spec.RowForm). c.args.numbers.now.items ++ map (λ (f : spec.RowForm). f.id) forms) c.forms-forms.ensures.rows
