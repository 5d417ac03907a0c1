use Rattle.std.proofs.Common.{◌∙◌, inl, inr, refl, sym, subst}
use Rattle.problem_core.specs.Changes.Stops.{TableStop}
use Rattle.problem_core.specs.Unfit.{first_terms}
use Rattle.corner_joins.specs.Additions.Parts.{IsTermsStop}
use Rattle.corner_table.specs.Tables.{lists_of}
use Rattle.corner_exchange.proofs.Pivots.LineSlots.{err_of}
use Rattle.corner_joins.proofs.Additions.RowTerms.{own_above, row_unfit, stop_of, terms_covered, terms_fit}
use Rattle.corner_joins.proofs.joining.term_row.Goals as goal
use Rattle.frac_core.proofs.Results.{err_implies as err_all}

pub more_row-requires-clause-attr : goal.more_row-requires-clause-attr
more_row-requires-clause-attr c = terms_covered (lists_of c.args.table.now) c.args.row.now c.args.i _ c.terms.result.now c.terms.ensures c.requires.row.whole c.requires.sum.within

pub more_row-requires-clause-by : goal.more_row-requires-clause-by
more_row-requires-clause-by c = terms_fit (lists_of c.args.table.now) c.args.row.now c.args.i _ c.terms.result.now c.terms.ensures c.requires.row.whole c.requires.sum.within

pub more_row-requires-clause-own : goal.more_row-requires-clause-own
more_row-requires-clause-own c = own_above (lists_of c.args.table.now) c.args.row.now (first_terms c.args.row.now c.args.i) c.args.sum.now c.args.at c.requires.at c.requires.sum.is

pub returns-clause-stop : goal.returns-clause-stop
returns-clause-stop c =
    err_all c.named_row.result _ (IsTermsStop (lists_of c.args.table.now) c.args.row.now)
    (λ stop h. elim h [
      | inl e ↦ subst (λ (x : TableStop). IsTermsStop (lists_of c.args.table.now) c.args.row.now x) (sym e) tt
      | inr (e, made) ↦ stop_of (lists_of c.args.table.now) c.args.row.now stop _ _ _ (e ∙ c.terms_stop-stop.ensures) c.id.ensures refl
          (row_unfit (lists_of c.args.table.now) c.args.row.now c.args.i _ c.args.sum.now c.args.at c.terms.result.now c.requires.row.kept c.requires.row.whole c.requires.sum.within c.requires.sum.is c.requires.at c.terms.ensures
          (err_of c.more_row.result made.0 _ made.1 c.more_row.ensures.unfit made.2))
    ])
    c.named_row.ensures.err
