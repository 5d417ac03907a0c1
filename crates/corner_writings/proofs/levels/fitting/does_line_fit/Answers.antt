use Rattle.std.proofs.Common.{rules, ◌≡◌, ◌∙◌, ℕ, ℤ, List, ap, subst, sym, neg_ℤ, of_z, to_z, SFits}
use Rattle.std.specs.Int.{w128}
use Rattle.std.proofs.lemmas.Int.{to_z-of_z}
use Rattle.std.specs.declared.option.Option.{Option}
use Rattle.row_core.specs.Rows.{Term, coefficient}
use Rattle.problem_core.specs.declared.parts.Rel.{Rel}
use Rattle.problem_core.specs.declared.parts.Side.{Side}
use Rattle.corner_table.specs.Tables.{lists_of, slot_at}
use Rattle.corner_writings.specs.Fitting.{AreFittingCosts, line_size, number_by, side_after}
use Rattle.corner_writings.proofs.levels.fitting.does_line_fit.Goals as goal

fits-back : (a b : Rel) (k l m n : ℤ) → a ≡ b → k ≡ l → m ≡ n → AreFittingCosts b l n → AreFittingCosts a k m
fits-back a b k l m n p q e h =
    subst (λ (z : ℤ). AreFittingCosts a k z) (sym e) (subst (λ (s : ℤ). AreFittingCosts a s n) (sym q) (subst (λ (r : Rel). AreFittingCosts r l n) (sym p) h))

number-same : (a b : Rel) (x y : Option Side) (v w : ℕ) (k l : ℤ) (row : List Term) → a ≡ b → x ≡ y → v ≡ w → k ≡ l → number_by a x (neg_ℤ (coefficient v row)) k ≡ number_by b y (neg_ℤ (coefficient w row)) l
number-same a b x y v w k l row p e f q =
    ap (λ (r : Rel). number_by r x (neg_ℤ (coefficient v row)) k) p ∙ ap (λ (s : Option Side). number_by b s (neg_ℤ (coefficient v row)) k) e
    ∙ ap (λ (u : ℕ). number_by b y (neg_ℤ (coefficient u row)) k) f ∙ ap (λ (z : ℤ). number_by b y (neg_ℤ (coefficient w row)) z) q

pub returns-clause-unfit : goal.returns-clause-unfit
returns-clause-unfit c = λ e fits.
    let small : SFits w128 c.number_of-number.result = search rules in
    c.do_costs_fit.ensures.unfit e
    (fits-back c.line_at-line.result.rel (slot_at (lists_of c.args.table.now) c.args.at).rel c.line_at-line.result.size (line_size (lists_of c.args.table.now) c.args.draft c.args.row.now c.args.at) (to_z w128 (of_z w128 c.number_of-number.result))
    (number_by (slot_at (lists_of c.args.table.now) c.args.at).rel (side_after (lists_of c.args.table.now) c.args.draft.pair c.args.at) (neg_ℤ (coefficient c.args.at c.args.row.now)) (line_size (lists_of c.args.table.now) c.args.draft c.args.row.now c.args.at))
    c.line_at-line.ensures.rel c.line_at-line.ensures.size
    (to_z-of_z w128 c.number_of-number.result small ∙ c.number_of-number.ensures.value
    ∙ number-same c.line_at-line.result.rel (slot_at (lists_of c.args.table.now) c.args.at).rel c.side_after.result (side_after (lists_of c.args.table.now) c.args.draft.pair c.args.at) c.line_at-line.result.at c.args.at
    c.line_at-line.result.size (line_size (lists_of c.args.table.now) c.args.draft c.args.row.now c.args.at) c.args.row.now c.line_at-line.ensures.rel c.side_after.ensures c.line_at-line.ensures.slot c.line_at-line.ensures.size)
    fits)
