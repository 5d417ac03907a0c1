use Rattle.std.proofs.Common.{rules, ◌≡◌, ◌∙◌, Bool, true, false, pos, negsuc, to_z, sym, ap}
use Rattle.std.specs.Int.{w64}
use Rattle.problem_core.proofs.GapFacts.GapSigns.{on_err}
use Rattle.sweep_run.specs.Ways.{IsUnfitBefore, backwards}
use Rattle.sweep_run.proofs.Ends.{far_by, placed_by}
use Rattle.sweep_run.proofs.ways.Way.before_end.Goals as goal
use Rattle.sweep_run.proofs.ways.Way.before_end.Goals.{then-self, else-self}

pub returns-in_err-width-clause-unfit : goal.returns-in_err-width-clause-unfit
returns-in_err-width-clause-unfit c =
    let by : to_z w64 c.if-self.by-bits ≡ backwards c.args.self.now.up (pos 1) = elim c.if-self.branch [
      | then-self w ↦
          let is : to_z w64 c.if-self.by-bits ≡ negsuc 0 = search rules in
          let up : c.args.self.now.up ≡ true = search rules in
          is ∙ ap (λ (b : Bool). backwards b (pos 1)) (sym up)
      | else-self w ↦
          let is : to_z w64 c.if-self.by-bits ≡ pos 1 = search rules in
          let down : c.args.self.now.up ≡ false = search rules in
          is ∙ ap (λ (b : Bool). backwards b (pos 1)) (sym down)
    ] in
    on_err c.from_residual.result (IsUnfitBefore c.args.self.now c.args.back) (far_by c.args.self.now.up c.args.self.now.end c.args.back (to_z w64 c.if-self.by-bits) by c.in_err-width.ensures.unfit)

pub returns-clause-place : goal.returns-clause-place
returns-clause-place c =
    let by : to_z w64 c.if-self.by-bits ≡ backwards c.args.self.now.up (pos 1) = elim c.if-self.branch [
      | then-self w ↦
          let is : to_z w64 c.if-self.by-bits ≡ negsuc 0 = search rules in
          let up : c.args.self.now.up ≡ true = search rules in
          is ∙ ap (λ (b : Bool). backwards b (pos 1)) (sym up)
      | else-self w ↦
          let is : to_z w64 c.if-self.by-bits ≡ pos 1 = search rules in
          let down : c.args.self.now.up ≡ false = search rules in
          is ∙ ap (λ (b : Bool). backwards b (pos 1)) (sym down)
    ] in
    placed_by c.args.self.now.up c.args.self.now.end c.in_ok-width.width c.args.back (to_z w64 c.if-self.by-bits) by (record { lowest = c.in_ok-width.ensures.lowest; fits = c.in_ok-width.ensures.fits }) c.num.ensures.kept
    c.requires c.in_ok-width.ensures.value
