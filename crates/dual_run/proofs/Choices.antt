-- The marks with which the leaving one grows, and the least of their columns over their numbers.
use Rattle.std.proofs.Common.{◌≡◌, ◌∙◌, inl, inr, ℕ, ◌+◌, ◌<◌, ◌≤◌, List, length, slice_get, Some, ℤ, pos, ◌*ℤ◌, ◌-ℤ◌, ◌≤ℤ◌, ◌<ℤ◌, refl, sym, ap, subst, arith}
use borrow.Author.Differences.{ints}
use Rattle.std.proofs.lemmas.Bool.{cases_eq}
use Rattle.std.proofs.lemmas.List.Elements.{All-from_recursion}
use Rattle.problem_core.specs.declared.parts.Mark.{Mark}
use Rattle.problem_core.specs.declared.parts.Term.{Term}
use Rattle.problem_core.specs.declared.parts.RowName.{RowName}
use Rattle.problem_core.specs.declared.parts.Side.{Side}
use Rattle.problem_core.specs.declared.parts.Side.TheVariants.{Under}
use Rattle.problem_core.specs.declared.stops.What.TheVariants.{Mark as MarkOf}
use Rattle.problem_core.specs.Layout.{Line, Problem, coefficient, lines}
use Rattle.problem_core.specs.Corners.{IsIn, IsWritingOf, place, place_of}
use Rattle.corner_laws.specs.Runs.{IsDualSwap, Writes, Writing, other_mark, other_side}
use Rattle.corner_laws.proofs.MarkWritings.Directions.{each-of, ray_number}
use Rattle.corner_laws.proofs.MarkWritings.LowestForms.{column_has_writing}
use Rattle.corner_laws.proofs.RunSteps.DualRuns.{other_mark_grows, up-some}
use Rattle.corner_view.specs.Seen.{CornerView, IsKeptCorner, IsScaleOf, MovesWith}
use Rattle.corner_view.specs.Entries.{AreBothOutside, AreEntries, HasEntry}
use Rattle.corner_ends.proofs.Fronts.{reduced_at_all}
use Rattle.corner_ends.proofs.ReadNumbers.{scale_is}
use Rattle.corner_ends.proofs.Marks.{got_holds, in_mark, one_mark, same_got}
use Rattle.dual_run.specs.declared.ratios.Choice.{Choice}
use Rattle.dual_run.specs.Entering.{IsBeforeEntries, IsBeforeLine, IsBeforeMark, IsChoice, IsLesser, IsNoGreater, IsPositive}
use Rattle.dual_run.specs.Leaving.{MayLeave}
use Rattle.dual_run.proofs.Lesser.{lesser_self, lesser_through}
use Rattle.dual_run.proofs.Lows.{same_or_other}
use Rattle.dual_run.proofs.Orders.{contains_got}
use Rattle.frac_core.proofs.Numbers.{up-not-zero as up-not}
use Rattle.frac_core.proofs.Orders.{three as order}
use Rattle.corner_view.proofs.Facts.{mark_named, named_in as named_mark}

-- ---- one writing

-- the mark has a writing
pub writing_there : (p : Problem) (at : List Mark) (m : Mark) (z : ℤ) → IsScaleOf p at (MarkOf m) z → (w : Writing) × Writes p at (place m) w
writing_there p at m z (c, (inside, column), (scale, form, value, h, e)) =
    (record { scale = scale; form = form; num = value.num; den = value.den }, subst (λ (k : ℕ). IsWritingOf p at (λ x. x k) scale form value.num value.den) column h)

-- ---- the leaving mark's own other mark

up-scale : (z : ℤ) (s : ℕ) → 0 < s → z ≡ pos s → pos 0 <ℤ z
up-scale z s above e = omega (arith, ints, above, e)

pub own_is_choice : (p : Problem) (at : List Mark) (leave other : Mark) (z : ℤ) → IsKeptCorner p at → IsIn (place leave) at → other ≡ other_mark leave → IsScaleOf p at (MarkOf leave) z → IsChoice p at leave (record { mark = other; by = z })
own_is_choice p at leave other z kept inside e scale =
    let there = writing_there p at leave z scale in
    let grows = other_mark_grows p at leave there.0 kept.whole kept.corner inside there.1 in
    subst (λ (m : Mark). IsChoice p at leave (record { mark = m; by = z })) (sym e) (record {
      outside = (named_mark p leave.row (other_side leave.side) (mark_named p leave (in_mark p at leave kept inside)), grows.0);
      above = up-scale z there.0.scale there.1.scale_positive (scale_is p at leave z there.0 kept scale there.1);
      by = λ w h. scale_is p at leave z w kept scale h ∙ sym (other_mark_grows p at leave w kept.whole kept.corner inside h).1;
    })

pub choice_positive : (p : Problem) (at : List Mark) (leave : Mark) (f : Choice) → IsChoice p at leave f → IsPositive p f
choice_positive p at leave f choice = record { mark = choice.outside.0; above = choice.above }

-- ---- which is the least

pub no_greater_self : (p : Problem) (at : List Mark) (a : Choice) → IsNoGreater p at a a
no_greater_self p at a r = lesser_self r.costs (place a.mark) a.by

-- what is no greater than a choice is no greater than its mark's
pub before_choice : (p : Problem) (at : List Mark) (leave : Mark) (a b : Choice) (m : Mark) → IsChoice p at leave b → b.mark ≡ m → IsNoGreater p at a b → IsBeforeMark p at leave a m
before_choice p at leave a b m x e h =
    subst (IsBeforeMark p at leave a) e
    (λ w writes up r k none. subst (λ (z : ℤ). (pos 0) ≤ℤ (a.by *ℤ r.costs k (place b.mark) -ℤ z *ℤ r.costs k (place a.mark))) (x.by w writes)
    (h r k (λ j less. subst (λ (z : ℤ). a.by *ℤ r.costs j (place b.mark) -ℤ z *ℤ r.costs j (place a.mark) ≡ pos 0) (sym (x.by w writes)) (none j less))))

-- what is no greater than one choice is no greater than what that one is no greater than
pub before_through : (p : Problem) (at : List Mark) (leave : Mark) (a b : Choice) (m : Mark) → IsChoice p at leave a → IsChoice p at leave b → IsNoGreater p at a b → IsBeforeMark p at leave b m → IsBeforeMark p at leave a m
before_through p at leave a b m x y h g w writes up r = lesser_through r.costs (place a.mark) (place b.mark) (place m) a.by b.by (coefficient (place m) w.form) x.above y.above up (h r) (g w writes up r)

pub line_through : (p : Problem) (at : List Mark) (leave : Mark) (a b : Choice) (name : RowName) → IsChoice p at leave a → IsChoice p at leave b → IsNoGreater p at a b → IsBeforeLine p at leave b name → IsBeforeLine p at leave a name
line_through p at leave a b name x y h before side = before_through p at leave a b (record { row = name; side = side }) x y h (before side)

-- the leaving mark doesn't grow with itself, and the other mark of its line is the choice
pub own_before : (p : Problem) (at : List Mark) (leave : Mark) (f : Choice) → IsIn (place leave) at → IsChoice p at leave f → f.mark ≡ other_mark leave → IsBeforeLine p at leave f leave.row
own_before p at leave f inside choice e side =
    elim (same_or_other leave.side side) [
      | inl s ↦
          λ w writes up r.
          let low : pos 0 <ℤ coefficient (place leave) w.form = subst (λ (d : Side). pos 0 <ℤ coefficient (place_of leave.row d) w.form) s up in
          absurd ((writes.outside (place leave) (up-not (coefficient (place leave) w.form) low)).1 inside)
      | inr o ↦
          before_choice p at leave f f (record { row = leave.row; side = side }) choice
          (e ∙ ap (λ (d : Side). record { row = leave.row; side = d }) (sym o)) (no_greater_self p at f)
    ]

-- ---- the exchange

-- a mark of another line with which the leaving one grows is in its row
grown_entry : (p : Problem) (at : List Mark) (leave : Mark) (name : RowName) (side : Side) (w : Writing) → IsIn (place leave) at → (name ≡ leave.row → ⊥) → Writes p at (place leave) w → pos 0 <ℤ coefficient (place_of name side) w.form → HasEntry p at leave name
grown_entry p at leave name side w inside other writes up =
    let some = up-not (coefficient (place_of name side) w.form) up in
    record {
      other = other;
      side = side;
      outside = writes.outside (place_of name side) some;
      number = coefficient (place_of name side) w.form;
      is = (place leave, (inside, refl), (w.scale, w.form, record { num = w.num; den = w.den }, writes, refl));
      nonzero = some;
    }

-- of its own line and of those in its row the least is the least of all
before_all : (p : Problem) (at : List Mark) (leave : Mark) (f : Choice) (name : RowName) → IsIn (place leave) at → IsBeforeLine p at leave f leave.row → IsBeforeEntries p at leave f → IsBeforeLine p at leave f name
before_all p at leave f name inside own entries =
    elim (cases_eq (place_of name Under) (place_of leave.row Under)) [
      | inl e ↦
          subst (IsBeforeLine p at leave f)
          (sym (ap (λ (m : Mark). m.row) (one_mark (record { row = name; side = Under }) (record { row = leave.row; side = Under }) (sym e)))) own
      | inr ne ↦ λ side w writes up. entries name (grown_entry p at leave name side w inside (λ e. ne (ap (λ (n : RowName). place_of n Under) e)) writes up) side w writes up
    ]

-- the leaving mark moves where a choice grows
pub choice_moves : (p : Problem) (at : List Mark) (leave : Mark) (f : Choice) → IsKeptCorner p at → IsIn (place leave) at → IsChoice p at leave f → MovesWith p at f.mark (MarkOf leave)
choice_moves p at leave f kept inside choice =
    let w = column_has_writing p at (place leave) kept.corner kept.rays (inl (in_mark p at leave kept inside)) in
    let r = kept.rays (place f.mark) choice.outside.0 choice.outside.1 in
    let e : f.by ≡ coefficient (place f.mark) w.1 = choice.by (record { scale = w.0; form = w.1; num = w.2; den = w.3 }) w.4 in
    let up : pos 0 <ℤ coefficient (place f.mark) w.1 = subst (λ (z : ℤ). pos 0 <ℤ z) e choice.above in
    let moves : pos w.0 *ℤ r.0 (place leave) ≡ coefficient (place f.mark) w.1 *ℤ r.0 (place f.mark) = ray_number p at (place leave) w.0 w.1 w.2 w.3 kept.corner.point (place f.mark) r.0 kept.corner.stands.0 w.4 r.1 in
    (place leave, (inside, refl), (r.0, r.1, up-some w.0 (r.0 (place leave)) (coefficient (place f.mark) w.1) (r.0 (place f.mark)) up r.1.here moves))

-- with this mark the leaving one does not grow, or its column over its number is no less than that of e
abbrev IsLeastFor : (ℕ → ℕ → ℤ) → ℕ → List Term → Side → Line → Type 0
IsLeastFor costs e form side l = pos 0 <ℤ coefficient (place_of l.name side) form → IsLesser costs e (coefficient e form) (place_of l.name side) (coefficient (place_of l.name side) form)

pub choice_swaps : (p : Problem) (at : List Mark) (leave : Mark) (f : Choice) → IsKeptCorner p at → MayLeave p at leave → IsChoice p at leave f → IsBeforeLine p at leave f leave.row → IsBeforeEntries p at leave f → IsDualSwap p at (record { enter = f.mark; leave = leave })
choice_swaps p at leave f kept may choice own entries =
    let t = column_has_writing p at (place leave) kept.corner kept.rays (inl (in_mark p at leave kept may.low.inside)) in
    let w : Writing = record { scale = t.0; form = t.1; num = t.2; den = t.3 } in
    let r = reduced_at_all p at kept kept.rays in
    let e : f.by ≡ coefficient (place f.mark) w.form = choice.by w t.4 in
    record {
      no_end = may.no_end;
      mark = choice.outside.0;
      enters = choice.outside.1;
      leaves = may.low.inside;
      value = may.low.value;
      leaving = w;
      writes = t.4;
      reduced = r.costs;
      levels = r.are;
      choice = (
        subst (λ (z : ℤ). pos 0 <ℤ z) e choice.above,
        λ side. All-from_recursion (IsLeastFor r.costs (place f.mark) w.form side) (lines p)
            (each-of (IsLeastFor r.costs (place f.mark) w.form side) (lines p)
            (λ l up. subst (λ (z : ℤ). IsLesser r.costs (place f.mark) z (place_of l.name side) (coefficient (place_of l.name side) w.form)) e
            (before_all p at leave f l.name may.low.inside own entries side w t.4 up r))),
      );
    }

-- ---- one line more of the row

-- the first ones of the lines in the row are looked at
abbrev pub AreBeforeFirst : CornerView → Mark → Choice → ℕ → Type 0
AreBeforeFirst v leave f i = (names : List RowName) → AreEntries v leave names → (k : ℕ) (name : RowName) → k < i → slice_get names k ≡ Some name → IsBeforeLine v.problem v.marks leave f name

pub first_more : (v : CornerView) (leave : Mark) (a b : Choice) (i : ℕ) (row : RowName) → IsChoice v.problem v.marks leave a → IsChoice v.problem v.marks leave b → IsNoGreater v.problem v.marks a b → ((names : List RowName) → AreEntries v leave names → slice_get names i ≡ Some row)
    → IsBeforeLine v.problem v.marks leave a row → AreBeforeFirst v leave b i → AreBeforeFirst v leave a (i + 1)
first_more v leave a b i row x y h there here before names are k name less got =
    elim (order k i) [
      | inl earlier ↦ line_through v.problem v.marks leave a b name x y h (before names are k name earlier got)
      | inr (inl same) ↦ subst (IsBeforeLine v.problem v.marks leave a) (same_got (slice_get names i) row name (there names are) (subst (λ (n : ℕ). slice_get names n ≡ Some name) same got)) here
      | inr (inr more) ↦ absurd (omega (arith, less, more))
    ]

pub all_entries : (v : CornerView) (leave : Mark) (f : Choice) (names : List RowName) (i : ℕ) → AreEntries v leave names → length names ≤ i → AreBeforeFirst v leave f i → IsBeforeEntries v.problem v.marks leave f
all_entries v leave f names i are over before name entry =
    let got = contains_got names name (are.all name entry) in
    before names are got.0 name (let less = got.1 in omega (arith, less, over)) got.2

-- both marks of a line in the row are outside
pub entry_outside : (v : CornerView) (leave : Mark) (names : List RowName) (i : ℕ) (row : RowName) → AreEntries v leave names → slice_get names i ≡ Some row → AreBothOutside v.problem v.marks row
entry_outside v leave names i row are got = got_holds (AreBothOutside v.problem v.marks) names i row are.outside got
