use Rattle.std.proofs.Common.{◌≡◌, ℕ, rules, arith, sym, subst, inl, inr, false, true, refl}
use Rattle.std.proofs.lemmas.Bool.{cases_eq}
use Rattle.path_lines.specs.Route.{over_marks}
use Rattle.path_lines.specs.Tables.{IsLineAt, IsUp, name_at}
use Rattle.path_lines.proofs.Walking.FirstCorner.{begins_there}
use Rattle.path_lines.proofs.Iffs.{never, right_then, wrong_then}
use Rattle.path_claims.proofs.start.are_up.Goals as goal

pub returns-then-not-is_up : goal.returns-then-not-is_up
returns-then-not-is_up c = λ p whole are.
    let line : IsLineAt p (over_marks p) (name_at p c.loop-at.at) c.index-lines-at.result =
    subst (IsLineAt p (over_marks p) (name_at p c.loop-at.at)) (sym c.index-lines-at.is) (are.each c.loop-at.at c.index-lines-at.result (omega (arith, c.loop-at-test.true, c.requires))) in
    let down : c.is_up.result ≡ false = search rules in
    never false refl (λ all. wrong_then c.is_up.result down (c.is_up.ensures p (over_marks p) (name_at p c.loop-at.at) (begins_there p whole) line) (all c.loop-at.at (omega (arith, c.loop-at-test.true))))

pub loop-at-preserved : goal.loop-at-preserved
loop-at-preserved c = λ p whole are k less.
    elim (cases_eq k c.loop-at.at) [
      | inl e ↦
          let line : IsLineAt p (over_marks p) (name_at p c.loop-at.at) c.index-lines-at.result =
          subst (IsLineAt p (over_marks p) (name_at p c.loop-at.at)) (sym c.index-lines-at.is) (are.each c.loop-at.at c.index-lines-at.result (omega (arith, c.loop-at-test.true, c.requires))) in
          let up : c.is_up.result ≡ true = search rules in
          subst (λ (m : ℕ). IsUp p (over_marks p) (name_at p m)) (sym e) (right_then c.is_up.result up (c.is_up.ensures p (over_marks p) (name_at p c.loop-at.at) (begins_there p whole) line))
      | inr ne ↦ c.loop-at.invariant p whole are k (omega (arith, less, ne))
    ]
