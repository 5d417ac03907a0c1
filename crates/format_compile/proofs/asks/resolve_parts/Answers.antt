use Rattle.std.proofs.Common.{◌+◌, ◌++◌, List, [], take, All, inl, inr, sym, subst, ◌∙◌}
use Rattle.std.proofs.lemmas.List.Elements.{All-append}
use Rattle.std.specs.Option.{option_to_list}
use Rattle.script_text.specs.Meaning.{Linear}
use Rattle.format_compile.specs.Asks.{IsKeptAsk, AreAsks}
use Rattle.format_compile.specs.FormatLines.{lines_of}
use Rattle.compile_parts.specs.Lookups.{numbers, option_numbers}
use Rattle.format_compile.specs.FormatRefusals.{lacks_parent, has_view_space}
use Rattle.format_compile.specs.FormatViews.{parts_view}
use Rattle.format_compile.specs.declared.parts.Part.{Part}
use Rattle.format_compile.specs.declared.parts.Part.TheVariants.{View}
use Rattle.format_compile.proofs.Asked.{asks_append, known_more, views_more, any_more, either}
use Rattle.format_compile.proofs.Numbered.{lines_more, ranks_at}
use Rattle.format_compile.proofs.asks.resolve_parts.Goals as goal
use Rattle.frac_core.proofs.Bools.{neither}

abbrev none : Part
none = View (record { ref_ptr = (0, 0); now = [] })

pub loop-part-preserved : goal.loop-part-preserved
loop-part-preserved c = record {
  known = known_more c.args.tree.now.views c.args.metrics.now c.args.parts.now c.loop-part.part-index none c.loop-part-test.true c.in-Ok.ensures.known c.loop-part.invariant.known;
  asks = λ no.
      let both = neither c.loop-part.out.lacks_rank c.in-Ok.found.lacks_rank (sym c.in_ok-push-in-Ok.ensures.rank ∙ no) in
      subst (AreAsks c.args.tree.now.views c.args.metrics.now (lines_of c.args.tree.now.views (parts_view (take (c.loop-part.part-index + 1) c.args.parts.now)))) (sym c.in_ok-push-in-Ok.ensures.rows)
      (subst (λ (ls : List Linear). AreAsks c.args.tree.now.views c.args.metrics.now ls (c.loop-part.out.rows.items ++ option_to_list c.in-Ok.found.ask)) (sym (lines_more c.args.tree.now.views c.args.parts.now c.loop-part.part-index none c.loop-part-test.true))
      (asks_append c.args.tree.now.views c.args.metrics.now _ _ _ _ (c.loop-part.invariant.asks both.0) (c.in-Ok.ensures.ask both.1)));
  kept = subst (All IsKeptAsk) (sym c.in_ok-push-in-Ok.ensures.rows) (All-append IsKeptAsk c.loop-part.out.rows.items (option_to_list c.in-Ok.found.ask) c.loop-part.invariant.kept c.in-Ok.ensures.kept);
  views = views_more c.args.tree.now.views c.args.parts.now c.loop-part.part-index none (numbers c.loop-part.out.views.items) (numbers c.push.new.out.views.items) (option_numbers c.in-Ok.found.view) c.loop-part-test.true c.in_ok-push-in-Ok.ensures.views c.in-Ok.ensures.view c.loop-part.invariant.views;
  parent = any_more (lacks_parent c.args.tree.now.views) c.args.parts.now c.loop-part.part-index none c.loop-part.out.lacks_parent c.push.new.out.lacks_parent c.in-Ok.found.lacks_parent c.loop-part-test.true c.in_ok-push-in-Ok.ensures.parent c.in-Ok.ensures.parent c.loop-part.invariant.parent;
  space = any_more (has_view_space c.args.tree.now.views) c.args.parts.now c.loop-part.part-index none c.loop-part.out.has_view_space c.push.new.out.has_view_space c.in-Ok.found.is_view_space c.loop-part-test.true c.in_ok-push-in-Ok.ensures.space c.in-Ok.ensures.space c.loop-part.invariant.space;
  rank = λ yes ranks. elim (either c.loop-part.out.lacks_rank c.in-Ok.found.lacks_rank (sym c.in_ok-push-in-Ok.ensures.rank ∙ yes)) [
    | inl old ↦ c.loop-part.invariant.rank old ranks
    | inr new ↦ c.in-Ok.ensures.rank new (ranks_at c.args.tree.now.views c.args.metrics.now c.args.parts.now c.loop-part.part-index none c.loop-part-test.true ranks)
  ];
}
