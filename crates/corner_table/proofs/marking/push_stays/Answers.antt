use Rattle.std.proofs.Common.{rules, ◌≡◌, ◌∙◌, ◌++◌, ◌<◌, ◌∷◌, [], length, map, take, slice_index_or, ap, sym}
use Rattle.problem_core.specs.declared.parts.RowName.TheVariants.{Stay as StayOf}
use Rattle.corner_table.specs.Tables.{inside_of, lists_of, problem_of}
use Rattle.corner_view.proofs.Facts.{append_more}
use Rattle.corner_table.proofs.Readings.MarkingFacts.{inside_more, map_next, stay_named}
use Rattle.corner_table.proofs.marking.push_stays.Goals as goal

pub push_inside-requires-clause-row : goal.push_inside-requires-clause-row
push_inside-requires-clause-row c =
    let lt : c.loop-stay.stay-index < length c.args.table.now.stays.items = search rules in
    let e : slice_index_or c.args.table.now.stays.items c.loop-stay.stay-index c.stay-item.result ≡ c.stay-item.result = search rules in
    stay_named (problem_of (lists_of c.args.table.now)) c.loop-stay.stay-index c.stay-item.result lt e

pub loop-stay-preserved : goal.loop-stay-preserved
loop-stay-preserved c =
    let lt : c.loop-stay.stay-index < length c.args.table.now.stays.items = search rules in
    let e : slice_index_or c.args.table.now.stays.items c.loop-stay.stay-index c.stay-item.result ≡ c.stay-item.result = search rules in
    let pushed : c.push_inside.new.out.items ≡ c.loop-stay.out.items ++ inside_of (lists_of c.args.table.now) ((StayOf c.stay-item.result.attr) ∷ []) = search rules in
    pushed ∙ ap (λ ms. ms ++ inside_of (lists_of c.args.table.now) ((StayOf c.stay-item.result.attr) ∷ [])) c.loop-stay.invariant
    ∙ append_more c.args.out.now.items (inside_of (lists_of c.args.table.now) (map (λ s. StayOf s.attr) (take c.loop-stay.stay-index c.args.table.now.stays.items))) (inside_of (lists_of c.args.table.now) ((StayOf c.stay-item.result.attr) ∷ []))
    ∙ ap (λ ms. c.args.out.now.items ++ ms) (sym (ap (inside_of (lists_of c.args.table.now)) (map_next (λ s. StayOf s.attr) c.args.table.now.stays.items c.loop-stay.stay-index c.stay-item.result lt e)
    ∙ inside_more (lists_of c.args.table.now) (map (λ s. StayOf s.attr) (take c.loop-stay.stay-index c.args.table.now.stays.items)) ((StayOf c.stay-item.result.attr) ∷ [])))
