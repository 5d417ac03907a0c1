use Rattle.std.proofs.Common.{◌≡◌, ◌∙◌, Bool, true, false, ap, sym, string_bytes}
use Rattle.serde_json.proofs.Views.{Entry}
use Rattle.serde_json.specs.View.{members_view, view}
use Rattle.view_tree.specs.JsonTrees.{are_members, is_member}
use Rattle.view_tree.proofs.PlanLemmas.{members_next, members_stop}
use Rattle.view_tree.proofs.plan.are_members.Goals as goal

pub loop-key-preserved : goal.loop-key-preserved
loop-key-preserved c =
    let o : Bool = c.args.is_outermost in
    let e : Entry = (c.in-Some.key.now, c.in-Some.field-0-1.now) in
    let here : is_member o (string_bytes e.0) ≡ true = ap (is_member o) (sym c.as_str.ensures.value) ∙ sym c.is_member.ensures ∙ c.if-not-is_member.false in
    members_next o (string_bytes e.0) (view e.1) (members_view c.next.new.self) _ here
    (ap (λ es. are_members o (members_view es)) (sym c.in-Some.ensures.steps) ∙ c.loop-key.invariant)

pub returns-then-not-is_member : goal.returns-then-not-is_member
returns-then-not-is_member c =
    let o : Bool = c.args.is_outermost in
    let e : Entry = (c.in-Some.key.now, c.in-Some.field-0-1.now) in
    let here : is_member o (string_bytes e.0) ≡ false = ap (is_member o) (sym c.as_str.ensures.value) ∙ sym c.is_member.ensures ∙ c.if-not-is_member.true in
    members_stop o (string_bytes e.0) (view e.1) (members_view c.next.new.self) _ here
    (ap (λ es. are_members o (members_view es)) (sym c.in-Some.ensures.steps) ∙ c.loop-key.invariant)

pub returns : goal.returns
returns c =
    let o : Bool = c.args.is_outermost in
    ap (λ es. are_members o (members_view es)) (sym c.in-None.ensures.steps.0) ∙ c.loop-key.invariant
