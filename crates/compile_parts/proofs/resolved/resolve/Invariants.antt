use Rattle.std.proofs.Common.{◌≡◌, ◌++◌, ◌||◌, take, drop, All}
use Rattle.script_text.specs.View.{term_view, terms_view}
use Rattle.script_text.specs.declared.command.ExprTerm.{ExprTerm}
use Rattle.compile_parts.specs.Addends.{addends, addends_view, IsKept}
use Rattle.compile_parts.specs.Lookups.{numbers}
use Rattle.compile_parts.specs.Meaning.{HasDenominator, unknown_among, views_in, has_view_number}
use Rattle.compile_parts.proofs.resolved.resolve.Given as goal

abbrev pub invariant-loop-term : goal.invariant-loop-term
invariant-loop-term l = record {
  known : unknown_among l.tree.views l.metrics (terms_view (drop l.term-index l.terms)) ≡ unknown_among l.tree.views l.metrics (terms_view l.terms);
  added : addends_view l.out.added.items ≡ addends l.tree.views (terms_view (take l.term-index l.terms));
  kept : All IsKept l.out.added.items;
  above : All (λ (t : ExprTerm). HasDenominator (term_view t)) (take l.term-index l.terms);
  views : numbers l.out.views.items ++ views_in l.tree.views (terms_view (drop l.term-index l.terms)) ≡ views_in l.tree.views (terms_view l.terms);
  number : (l.out.has_view_number || has_view_number l.tree.views (terms_view (drop l.term-index l.terms))) ≡ has_view_number l.tree.views (terms_view l.terms);
}
