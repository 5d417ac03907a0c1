use Rattle.std.proofs.Common.{◌≡◌, ◌++◌, ◌∷◌, [], pos, ℤ, SFits, arith, ◌∙◌, refl, ap, of_z}
use Rattle.std.specs.Int.{w64}
use Rattle.std.proofs.lemmas.List.{get_or_default}
use Rattle.std.proofs.lemmas.Int.{to_z-of_z, fits_signed_from_abs}
use Rattle.problem_core.specs.declared.parts.Term.{Term}
use Rattle.constraint_compile.specs.Coefficients.Sums.{attr_at, number_at}
use Rattle.constraint_compile.proofs.RowTerms.{appended}
use Rattle.constraint_compile.proofs.line.row_terms.keep.Goals as goal

pub returns-in_ok-push : goal.returns-in_ok-push
returns-in_ok-push c =
    let index : c.index-by.result.now ≡ number_at c.args.sum.now.numbers.items c.args.place = c.index-by.ensures ∙ get_or_default c.args.sum.now.numbers.items c.args.place c.index-by.result.now (pos 0) (omega (arith, c.requires.kept.long, c.requires.place)) in
    let small = c.requires.kept.small c.args.place (pos 0) (omega (arith, c.requires.kept.long, c.requires.place)) in
    let fits : SFits w64 c.index-by.result.now = rw index (fits_signed_from_abs w64 (number_at c.args.sum.now.numbers.items c.args.place) (omega (arith, small))) in
    let t : Term = record { attr = attr_at c.args.attrs.now c.args.place; by = c.index-by.result.now } in
    let items : c.push.new.self.items ≡ c.args.out.now.items ++ record { attr = attr_at c.args.attrs.now c.args.place; by = c.index-by.result.now } ∷ [] = simp (to_z-of_z, fits) at c.in_ok-push.ensures.items in
    rw items (appended c.args.attrs.now c.args.sum.now.numbers.items c.args.place c.args.out.now.items t c.requires.rising c.requires.place refl index
    (record { attr = c.requires.numbers c.args.place 0 c.requires.place; nonzero = λ same. c.if-by-ne0.true (ap (λ (z : ℤ). of_z w64 z) same); small = rw index small }) c.requires.first)
