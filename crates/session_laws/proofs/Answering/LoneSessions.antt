-- Room for probes and for a removal where there is one attribute.
use Rattle.std.proofs.Common.{◌≡◌, ◌∙◌, ℕ, zero, suc, ◌<◌, Bool, true, false, List, [], ◌∷◌, ◌++◌, ℤ, pos, negsuc, ◌*ℤ◌, refl, sym, ap, ap₂, subst, arith, inr, All, true≢false}
use Rattle.std.specs.List.{Any}
use borrow.Author.Differences.{ints}
use Rattle.frac_core.specs.Fraction.{Fraction, Fits, IsLowest, IsRatio}
use Rattle.problem_core.specs.declared.parts.Stay.{Stay}
use Rattle.problem_core.specs.Layout.{Problem, Row}
use Rattle.problem_core.specs.Window.{zero_fraction}
use Rattle.corner_laws.specs.Laws.{AllFit}
use Rattle.corner_lines.specs.Removals.{without_row}
use Rattle.layout_solver.specs.Removals.{CanLeave, Leaving, without_rows}
use Rattle.diagnosis.specs.Probes.{next_num}
use Rattle.script_text.specs.Meaning as mean
use Rattle.scenes.specs.Leaving.{without_group}
use Rattle.scenes.specs.Steps.{IsProblemOf}
use Rattle.session_undo.specs.Machine.{PosesChange}
use Rattle.session_undo.specs.Replies.{Unknown}
use Rattle.session_laws.specs.Answered.Examples.{bare, lone, lone_row}
use Rattle.session_laws.specs.Answered.Room.{HasRoom, HasRoomToLeave, HasRoomToProbe, IsProbed, LacksWish, probe_problem}
use Rattle.session_laws.specs.Answered.States.{far_state, free_state, held_state}
use Rattle.session_laws.proofs.Answering.FirstFits.{IsUnit, minus, none, one}
use Rattle.session_laws.proofs.Answering.FirstSession.{no-cause}
use Rattle.session_laws.proofs.Answering.LoneFits.{bare-fits, bare-whole, lone-fits, lone-whole, only-attr, unit-kept}
use Rattle.frac_core.proofs.Fitting.{same-value as same_value}

-- ---- probes

wish : (up : Bool) → IsUnit (next_num up zero_fraction)
wish true = one
wish false = minus

wish-fits : (up : Bool) → LacksWish free_state.scene 1 up → ⊥
wish-fits true lacks = lacks (record { num = pos 1; den = 1 }) (unit-kept (pos 1) one).lowest refl (unit-kept (pos 1) one).fits
wish-fits false lacks = lacks (record { num = negsuc 0; den = 1 }) (unit-kept (negsuc 0) minus).lowest refl (unit-kept (negsuc 0) minus).fits

lone-room : (n : ℤ) → IsUnit n → HasRoom [] 100000 (lone n)
lone-room n unit = record { large = record { whole = lone-whole n unit; exchanges = omega arith }; fits = lone-fits n unit [] refl }

-- the fraction that a probe wishes
wished : (up : Bool) (f : Fraction) → IsLowest f → IsRatio f (next_num up zero_fraction) (pos 1) → f ≡ record { num = next_num up zero_fraction; den = 1 }
wished up f low is =
    same_value f (record { num = next_num up zero_fraction; den = 1 }) (next_num up zero_fraction) (pos 1) (record { lt = tt }) low (unit-kept (next_num up zero_fraction) (wish up)).lowest is refl

probe-room : (up : Bool) (f : Fraction) → IsLowest f → IsRatio f (next_num up zero_fraction) (pos 1) → HasRoom [] 100000 (probe_problem free_state.scene 1 f)
probe-room up f low is =
    subst (λ (g : Fraction). HasRoom [] 100000 (probe_problem free_state.scene 1 g)) (sym (wished up f low is)) (lone-room (next_num up zero_fraction) (wish up))

room-at : (attr : ℕ) (f : Fraction) → 1 ≡ attr → IsProbed free_state.scene attr f → HasRoom [] 100000 (probe_problem free_state.scene attr f)
room-at attr f is = subst (λ (a : ℕ). IsProbed free_state.scene a f → HasRoom [] 100000 (probe_problem free_state.scene a f)) is (λ h. probe-room h.up f h.kept.lowest h.beside)

pub free-room : HasRoomToProbe free_state
free-room = record {
  wishes = λ attr up has. subst (λ (a : ℕ). LacksWish free_state.scene a up → ⊥) (only-attr (pos 0) attr has) (wish-fits up);
  rooms = λ attr f h. room-at attr f (only-attr (pos 0) attr h.stays) h;
}

too-far : (f : Fraction) → IsLowest f → IsRatio f (pos 4398046511104) (pos 1) → Fits f → ⊥
too-far f low is fits = past-bound f.num f.den low.above is fits.num_fits
  where
    past-bound : (n : ℤ) (d : ℕ) → 0 < d → n *ℤ pos 1 ≡ pos 4398046511104 *ℤ pos d → Rattle.frac_core.specs.Fraction.IsFitting n → ⊥
    past-bound (pos n) d a e h = absurd (omega (arith, ints, a, e, h))
    past-bound (negsuc n) d a e h = absurd (omega (arith, ints, a, e))

-- beside the greatest value there is none that fits
pub far-lacks : HasRoomToProbe far_state → ⊥
far-lacks room = room.wishes 1 true (0, record { attr = 1; target = record { num = pos 4398046511103; den = 1 } }, omega arith, refl, refl) too-far

-- ---- a removal

removed : (p : Problem) → IsProblemOf (without_group held_state.scene []) p → p ≡ bare
removed p (rows, stays) = ap₂ (λ (rs : List Row) (ss : List Stay). (let q : Problem = record { rows = rs; stays = ss } in q)) rows stays

bare-room : HasRoom [] 100000 bare
bare-room = record { large = record { whole = bare-whole; exchanges = omega arith }; fits = bare-fits [] }

still-bare : (ids : List ℕ) → without_rows ids bare ≡ bare
still-bare [] = refl
still-bare (id ∷ ids) = still-bare ids

first-is : (id : ℕ) → Any (λ r. r.id ≡ id) (lone (pos 0)).rows → 1 ≡ id
first-is id (zero, r, within, is, e) = ap (λ (q : Row). q.id) is ∙ e
first-is id (suc k, r, within, is, e) = absurd (omega (arith, within))

-- each quantity fits at each corner of the problem, over its own rows
abbrev IsRoomy : Problem → Type 0
IsRoomy p = AllFit p p.rows

gone-fits : (l : Leaving) → CanLeave l (lone (pos 0)) → (gone still : List ℕ) → gone ++ still ≡ l.rows → IsRoomy (without_rows gone (lone (pos 0)))
gone-fits l can [] still is = lone-fits (pos 0) none (lone_row (pos 0) ∷ []) refl
gone-fits l can (id ∷ gone) still is =
    let each : All (λ i. Any (λ r. r.id ≡ i) (lone (pos 0)).rows) ((id ∷ gone) ++ still) = subst (All (λ i. Any (λ r. r.id ≡ i) (lone (pos 0)).rows)) (sym is) can.held in
    subst (λ (i : ℕ). IsRoomy (without_rows gone (without_row i (lone (pos 0))))) (first-is id (each 0 0 (omega arith)))
    (subst IsRoomy (sym (still-bare gone)) (bare-fits []))

pub held-room : (p : Problem) → PosesChange held_state (mean.Leave (mean.Remove [])) p → HasRoomToLeave held_state p
held-room p h =
    let is : p ≡ bare = removed p (no-cause (Unknown []) refl h) in
    (subst (λ (q : Problem). HasRoom q.rows 100000 q) (sym is) bare-room, λ l can rising left gone still order some. gone-fits l can gone still order)

pub held-poses : PosesChange held_state (mean.Leave (mean.Remove [])) bare
held-poses = inr ((λ e. true≢false e), (refl, refl))
