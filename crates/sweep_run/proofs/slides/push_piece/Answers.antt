use Rattle.std.proofs.Common.{◌≡◌, ◌∙◌, ◌++◌, ◌∷◌, [], ℕ, List, ap, refl, subst, sym}
use Rattle.std.specs.declared.option.Option.{Option}
use Rattle.std.specs.Prelude.{Some, IfSome}
use Rattle.frac_core.specs.Fraction.{Fraction}
use Rattle.problem_core.specs.Kept.{AreRising}
use Rattle.sweep_laws.specs.Stretches.{Stretch}
use Rattle.sweep_run.specs.Slides.{piece_between}
use Rattle.sweep_run.specs.Told.{stretches_of}
use Rattle.sweep_run.proofs.Finishing.{stretches_more}
use Rattle.sweep_run.proofs.slides.push_piece.Goals as goal

pub of-requires : goal.of-requires
of-requires c = subst AreRising (c.values.view_is ∙ sym c.pairs.ensures) c.values.invariant

pub returns : goal.returns
returns c =
    let same : c.in_ok-next.next ≡ c.args.values = c.in_ok-next.ensures ∙ c.pairs.ensures in
    record {
      at_is = refl;
      values_are = c.replace.ensures.after ∙ ap (λ (v : List (ℕ × Fraction)). Some v) same;
      more = subst (λ (o : Option (List (ℕ × Fraction))). IfSome o (λ before. stretches_of c.push.new.self.items ≡ stretches_of c.args.slid.now.stretches.items ++ piece_between c.args.way.now.up c.args.slid.now.at.width c.args.to.width before c.args.values ∷ []))
          (sym (sym c.replace.ensures.value ∙ c.in-Some.is))
          (ap stretches_of c.in_ok-push.ensures.items ∙ stretches_more c.args.slid.now.stretches.items c.piece_of-piece.result ∙ ap (λ (s : Stretch). stretches_of c.args.slid.now.stretches.items ++ s ∷ []) c.piece_of-piece.ensures);
    }
