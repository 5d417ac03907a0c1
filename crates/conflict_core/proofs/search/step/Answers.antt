use Rattle.std.proofs.Common.{◌≡◌, ◌∙◌, ℕ, List, length, get_or, sym, ap, subst}
use Rattle.conflict_core.specs.Cores.{AreRequired, trial, without}
use Rattle.conflict_core.specs.Shown.{IsSolution}
use Rattle.conflict_core.specs.Trials.{IsOutcome}
use Rattle.cert_core.specs.Stops.{IsShownConflict}
use Rattle.conflict_core.proofs.Narrowing.{others_required}
use Rattle.conflict_core.proofs.search.step.Goals as goal

pub tried-requires-clause-rows : goal.tried-requires-clause-rows
tried-requires-clause-rows g c =
    let others : c.deref-2.result.now ≡ without c.index-id.result.now c.args.s.now.rows.items =
    c.deref-2.ensures.value ∙ c.in_ok-others.ensures ∙ ap (without c.index-id.result.now) c.deref.ensures.value in
    subst (AreRequired c.args.t.now.problem.now) (sym others)
    (others_required c.args.t.now.problem.now c.args.s.now.rows.items c.index-id.result.now c.requires.search.rows)

pub returns-in-Solved-clause-search : goal.returns-in-Solved-clause-search
returns-in-Solved-clause-search g c =
    let others : c.deref-2.result.now ≡ without c.index-id.result.now c.args.s.now.rows.items =
    c.deref-2.ensures.value ∙ c.in_ok-others.ensures ∙ ap (without c.index-id.result.now) c.deref.ensures.value in
    let place : get_or c.args.s.now.rows.items (length c.args.s.now.without.items) c.index-id.result.now ≡ c.index-id.result.now =
    sym (c.index-id.ensures ∙ ap (λ (k : ℕ). get_or c.args.s.now.rows.items k c.index-id.result.now) (c.len.ensures ∙ c.args.s.now.without.ok.0)) in
    let solution : IsSolution (trial c.args.t.now.problem.now (without c.index-id.result.now c.args.s.now.rows.items)) c.in-Solved.values =
    subst (λ (ns : List ℕ). IsSolution (trial c.args.t.now.problem.now ns) c.in-Solved.values) others
    (subst (IsOutcome c.args.t.now.problem.now c.deref-2.result.now) c.in-Solved.is c.in_ok-values.ensures.outcome) in
    (c.in_ok-keep-in-Solved.ensures c.args.t.now.problem.now (c.requires.next, place) c.requires.search solution).0

pub returns-in-Solved-clause-nearer : goal.returns-in-Solved-clause-nearer
returns-in-Solved-clause-nearer g c =
    let others : c.deref-2.result.now ≡ without c.index-id.result.now c.args.s.now.rows.items =
    c.deref-2.ensures.value ∙ c.in_ok-others.ensures ∙ ap (without c.index-id.result.now) c.deref.ensures.value in
    let place : get_or c.args.s.now.rows.items (length c.args.s.now.without.items) c.index-id.result.now ≡ c.index-id.result.now =
    sym (c.index-id.ensures ∙ ap (λ (k : ℕ). get_or c.args.s.now.rows.items k c.index-id.result.now) (c.len.ensures ∙ c.args.s.now.without.ok.0)) in
    let solution : IsSolution (trial c.args.t.now.problem.now (without c.index-id.result.now c.args.s.now.rows.items)) c.in-Solved.values =
    subst (λ (ns : List ℕ). IsSolution (trial c.args.t.now.problem.now ns) c.in-Solved.values) others
    (subst (IsOutcome c.args.t.now.problem.now c.deref-2.result.now) c.in-Solved.is c.in_ok-values.ensures.outcome) in
    (c.in_ok-keep-in-Solved.ensures c.args.t.now.problem.now (c.requires.next, place) c.requires.search solution).1

pub returns-clause-search : goal.returns-clause-search
returns-clause-search g c =
    let others : c.deref-2.result.now ≡ without c.index-id.result.now c.args.s.now.rows.items =
    c.deref-2.ensures.value ∙ c.in_ok-others.ensures ∙ ap (without c.index-id.result.now) c.deref.ensures.value in
    let place : get_or c.args.s.now.rows.items (length c.args.s.now.without.items) c.index-id.result.now ≡ c.index-id.result.now =
    sym (c.index-id.ensures ∙ ap (λ (k : ℕ). get_or c.args.s.now.rows.items k c.index-id.result.now) (c.len.ensures ∙ c.args.s.now.without.ok.0)) in
    let shown : IsShownConflict (trial c.args.t.now.problem.now (without c.index-id.result.now c.args.s.now.rows.items)) c.in-Refuted.by =
    subst (λ (ns : List ℕ). IsShownConflict (trial c.args.t.now.problem.now ns) c.in-Refuted.by) others
    (subst (IsOutcome c.args.t.now.problem.now c.deref-2.result.now) c.in-Refuted.is c.in_ok-values.ensures.outcome) in
    (c.in_ok-narrow-in-Refuted.ensures c.args.t.now.problem.now c.index-id.result.now c.show_whole.ensures (c.requires.next, place) c.requires.search shown).0

pub returns-clause-nearer : goal.returns-clause-nearer
returns-clause-nearer g c =
    let others : c.deref-2.result.now ≡ without c.index-id.result.now c.args.s.now.rows.items =
    c.deref-2.ensures.value ∙ c.in_ok-others.ensures ∙ ap (without c.index-id.result.now) c.deref.ensures.value in
    let place : get_or c.args.s.now.rows.items (length c.args.s.now.without.items) c.index-id.result.now ≡ c.index-id.result.now =
    sym (c.index-id.ensures ∙ ap (λ (k : ℕ). get_or c.args.s.now.rows.items k c.index-id.result.now) (c.len.ensures ∙ c.args.s.now.without.ok.0)) in
    let shown : IsShownConflict (trial c.args.t.now.problem.now (without c.index-id.result.now c.args.s.now.rows.items)) c.in-Refuted.by =
    subst (λ (ns : List ℕ). IsShownConflict (trial c.args.t.now.problem.now ns) c.in-Refuted.by) others
    (subst (IsOutcome c.args.t.now.problem.now c.deref-2.result.now) c.in-Refuted.is c.in_ok-values.ensures.outcome) in
    (c.in_ok-narrow-in-Refuted.ensures c.args.t.now.problem.now c.index-id.result.now c.show_whole.ensures (c.requires.next, place) c.requires.search shown).1
