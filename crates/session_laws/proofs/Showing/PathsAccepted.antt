-- What is shown of a path is accepted.
use Rattle.std.proofs.Common.{◌≡◌, ◌∙◌, ℕ, ◌≤◌, Bool, true, false, List, [], ◌∷◌, ◌++◌, map, length, ℤ, pos, ◌+ℤ◌, ◌*ℤ◌, refl, sym, ap, ap₂, subst, arith, inl, inr, Option, None, Some, All}
use Rattle.std.specs.List.{AllByRecursion as Each}
use Rattle.std.proofs.lemmas.List.Elements.{All-from_recursion, recursion_from_All}
use Rattle.std.proofs.lemmas.List.Kept.{AllPairs-cons}
use Rattle.frac_core.proofs.Lists.{each-from_map, each-joined, each-left, each-onto_map, each-right}
use Rattle.problem_core.specs.declared.parts.Level.{Level}
use Rattle.problem_core.specs.declared.parts.Mark.{Mark}
use Rattle.problem_core.specs.declared.parts.Side.{Side}
use Rattle.problem_core.specs.declared.parts.Side.TheVariants.{Under, Over}
use Rattle.problem_core.specs.declared.stops.What.{What}
use Rattle.problem_core.specs.declared.stops.Quantity.{Quantity}
use Rattle.problem_core.specs.declared.stops.Quantity.TheVariants.{Plain, Terms, Rows, Shifts}
use Rattle.problem_core.specs.Layout.{Line, Problem, Row, coefficient, line_of_row, lines, stay_lines, sum_of}
use Rattle.problem_core.specs.Kept.{IsRow, IsWhole}
use Rattle.problem_core.specs.Certificates.{IsLexNonnegative, Multipliers}
use Rattle.problem_core.specs.Corners.{AreMultipliersAt, ArePairwiseDifferent, IsCorner, IsIn, NoNegativeColumn, SameMarks, Swap, column, corners, place_of}
use Rattle.problem_core.specs.Changes.Begins.{AreExchanges}
use Rattle.problem_core.specs.Changes.Paths.{ArePathSwaps, IsPath, IsSound, last_marks}
use Rattle.problem_core.specs.Unfit.{AreSameButConstants, IsUnfitRows, IsUnfitTerms, IsUnfitWhat, first_shifted, over_mark, with_first_shifts, without_constant}
use Rattle.problem_core.proofs.Forms.{each-impl}
use Rattle.cert_core.specs.Paths.{Path}
use Rattle.cert_core.specs.Stops.{AreNonnegativeBefore, IsUnfitPath}
use Rattle.corner_laws.specs.Laws.{Anywhere}
use Rattle.corner_laws.proofs.OtherConstants.{alike-whole, constants_keep_corner, each-by, length-by, with_rows_of}
use Rattle.corner_laws.proofs.PathEnds.Few.{last_corner}
use Rattle.corner_laws.proofs.UnfitWritten.{first-alike, first-rows}
use Rattle.corner_view.specs.Seen.{in_order}
use Rattle.cert_checker.specs.declared.verdict.Verdict.{Verdict}
use Rattle.certificates.specs.Accepted.{IsAccepted}
use Rattle.path_claims.specs.declared.verdict.PathVerdict.{PathVerdict}
use Rattle.path_claims.specs.declared.verdict.PathVerdict.TheVariants as on_path
use Rattle.path_claims.specs.PathClauses.{AreShownSwaps, EndsInUnfit, HoldToCalled, IsPathVerdict, IsShownPath, held_number}
use Rattle.path_claims.proofs.Verdicts.{path_is_its_clauses, yes_is_path}
use Rattle.problem_reading.specs.ProblemForms.{IsSmall}
use Rattle.claim_writing.specs.declared.claim.Claim.TheVariants.{IsPath as PathClaim}
use Rattle.claim_text.specs.Paths.PathForms.{IsQuantityWritten}
use Rattle.claim_check.specs.Checks.{IsVerdictOn, verdict_of}
use Rattle.session_laws.specs.Shown.Shown.{IsAcceptedClaim, SpentPathsAreAccepted, UnfitPathsAreAccepted, judged_in}
use Rattle.session_laws.proofs.Showing.Accepted.{text-accepted}
use Rattle.session_laws.proofs.Showing.PathsWritten.{changes-counted, path-written, rows-named, terms-named, what-named}

-- ---- the verdict

-- a path is shown with the quantity that doesn't fit at its end
record IsShown (p : Problem) (path : Path) (unfit : Option Quantity) : Type 0 where
  path_is : IsShownPath p path unfit
  ends : EndsInUnfit p path unfit

clauses-hold : (p : Problem) (path : Path) (unfit : Option Quantity) → IsShown p path unfit → HoldToCalled p path unfit × EndsInUnfit p path unfit
clauses-hold p path unfit shown = (yes_is_path p path unfit).1 (shown.path_is, shown.ends)

-- no clause fails
path-accepted : (p : Problem) (path : Path) (unfit : Option Quantity) (w : PathVerdict) → IsShown p path unfit → IsPathVerdict p path unfit w → IsAccepted (verdict_of w)
path-accepted p path unfit on_path.Yes shown h = tt
path-accepted p path unfit (on_path.NoRoom n) shown h = tt
path-accepted p path unfit (on_path.No clause) shown h =
    let held : HoldToCalled p path unfit × EndsInUnfit p path unfit = clauses-hold p path unfit shown in
    elim h [
      | inl (e, none) ↦ none held.0.0.0.0.corner
      | inr (inl (e, before, none)) ↦ none held.0.0.0.0.exchanges
      | inr (inr (inl (e, before, none))) ↦ none held.0.0.0.1
      | inr (inr (inr (inl (e, before, none)))) ↦ none held.0.0.1
      | inr (inr (inr (inr (inl (e, before, none))))) ↦ none held.0.1
      | inr (inr (inr (inr (inr (e, before, none))))) ↦ none held.1
    ]

verdict-accepted : (p : Problem) (path : Path) (unfit : Option Quantity) (v : Verdict) → IsShown p path unfit → IsVerdictOn p (PathClaim path unfit) v → IsAccepted v
verdict-accepted p path unfit v shown (w, is, e) = subst IsAccepted (sym e) (path-accepted p path unfit w shown is)

-- ---- what holds of the path by itself

pub alone : (at : List Mark) → ArePairwiseDifferent (at ∷ [])
alone at = AllPairs-cons (λ (a b : List Mark). SameMarks a b → ⊥) at [] (All-from_recursion (λ (b : List Mark). SameMarks at b → ⊥) [] tt) (λ i j d less within. absurd (omega (arith, within)))

all-judged : (dual : Bool) (p : Problem) (at : List Mark) (swaps : List Swap) → ArePathSwaps dual p at swaps → AreShownSwaps dual p at swaps None
all-judged true p at swaps h = h
all-judged false p at [] h = h
all-judged false p at (s ∷ swaps) h = h

-- with another word for the same kind, and for the same swaps
same-path : (d dual : Bool) (p : Problem) (at : List Mark) (swaps done : List Swap) → d ≡ dual → swaps ≡ done → ArePathSwaps dual p at done → ArePathSwaps d p at swaps
same-path d dual p at swaps done kind are h =
    subst (λ (k : Bool). ArePathSwaps k p at swaps) (sym kind) (subst (λ (ss : List Swap). ArePathSwaps dual p at ss) (sym are) h)

before-alone : (d : Bool) (p : Problem) (at : List Mark) (swaps : List Swap) (mark : Mark) (id : ℕ) → d ≡ false → swaps ≡ [] → mark ≡ over_mark id → AreNonnegativeBefore p at id → AreShownSwaps d p at swaps (held_number mark.row)
before-alone d p at swaps mark id kind none is h =
    subst (λ (k : Bool). AreShownSwaps k p at swaps (held_number mark.row)) (sym kind)
    (subst (λ (ss : List Swap). AreShownSwaps false p at ss (held_number mark.row)) (sym none)
    (subst (λ (m : Mark). AreShownSwaps false p at [] (held_number m.row)) (sym is) h))

corners-alone : (at : List Mark) (swaps : List Swap) → swaps ≡ [] → ArePairwiseDifferent (corners at swaps)
corners-alone at swaps none = subst (λ (ss : List Swap). ArePairwiseDifferent (corners at ss)) (sym none) (alone at)

no-exchange : (p : Problem) (at : List Mark) (swaps : List Swap) → swaps ≡ [] → AreExchanges p at swaps
no-exchange p at swaps none = subst (λ (ss : List Swap). AreExchanges p at ss) (sym none) tt

-- ---- the same rows with other constants

lines-alike : (P : Line → Type 0) (p : Problem) (rows : List Row) → AreSameButConstants p.rows rows → ((r : Row) → P (line_of_row r) → P (line_of_row (without_constant r))) → ((r : Row) → P (line_of_row (without_constant r)) → P (line_of_row r)) → All P (lines p) → All P (lines (with_rows_of rows p))
lines-alike P p rows same to from all =
    let own : Each P (map line_of_row p.rows ++ stay_lines 1001 p.stays) = recursion_from_All P (lines p) all in
    let old : Each (λ (r : Row). P (line_of_row r)) p.rows = each-from_map P line_of_row p.rows (each-left P (map line_of_row p.rows) (stay_lines 1001 p.stays) own) in
    let plain : Each (λ (r : Row). P (line_of_row (without_constant r))) p.rows = each-impl (λ (r : Row). P (line_of_row r)) (λ (r : Row). P (line_of_row (without_constant r))) p.rows to old in
    let new : Each (λ (r : Row). P (line_of_row (without_constant r))) rows = each-by without_constant (λ (r : Row). P (line_of_row r)) p.rows rows same plain in
    All-from_recursion P (lines (with_rows_of rows p))
    (each-joined P (map line_of_row rows) (stay_lines 1001 p.stays)
    (each-onto_map P line_of_row rows (each-impl (λ (r : Row). P (line_of_row (without_constant r))) (λ (r : Row). P (line_of_row r)) rows from new))
    (each-right P (map line_of_row p.rows) (stay_lines 1001 p.stays) own))

sum-alike : (F : Line → ℤ) (old rows : List Row) (ls : List Line) → AreSameButConstants old rows → ((r : Row) → F (line_of_row (without_constant r)) ≡ F (line_of_row r)) → sum_of F (map line_of_row old ++ ls) ≡ sum_of F (map line_of_row rows ++ ls)
sum-alike F [] [] ls e still = refl
sum-alike F [] (r ∷ rows) ls e still = let n = ap length e in absurd (omega (arith, n))
sum-alike F (o ∷ old) [] ls e still = let n = ap length e in absurd (omega (arith, n))
sum-alike F (o ∷ old) (r ∷ rows) ls e still =
    let head : without_constant o ≡ without_constant r = cc in
    let tail : map without_constant old ≡ map without_constant rows = cc in
    ap₂ ◌+ℤ◌ (sym (still o) ∙ ap (λ (s : Row). F (line_of_row s)) head ∙ still r) (sum-alike F old rows ls tail still)

inside-alike : (p : Problem) (at : List Mark) (rows : List Row) (m : Multipliers) (side : Side) → AreSameButConstants p.rows rows → All (λ (l : Line). IsIn (place_of l.name side) at → (level : ℕ) → column m side l level ≡ pos 0) (lines p)
    → All (λ (l : Line). IsIn (place_of l.name side) at → (level : ℕ) → column m side l level ≡ pos 0) (lines (with_rows_of rows p))
inside-alike p at rows m Under same h = lines-alike (λ (l : Line). IsIn (place_of l.name Under) at → (level : ℕ) → column m Under l level ≡ pos 0) p rows same (λ r k. k) (λ r k. k) h
inside-alike p at rows m Over same h = lines-alike (λ (l : Line). IsIn (place_of l.name Over) at → (level : ℕ) → column m Over l level ≡ pos 0) p rows same (λ r k. k) (λ r k. k) h

above-alike : (p : Problem) (rows : List Row) (m : Multipliers) (side : Side) → AreSameButConstants p.rows rows → All (λ (l : Line). IsLexNonnegative (column m side l)) (lines p) → All (λ (l : Line). IsLexNonnegative (column m side l)) (lines (with_rows_of rows p))
above-alike p rows m Under same h = lines-alike (λ (l : Line). IsLexNonnegative (column m Under l)) p rows same (λ r k. k) (λ r k. k) h
above-alike p rows m Over same h = lines-alike (λ (l : Line). IsLexNonnegative (column m Over l)) p rows same (λ r k. k) (λ r k. k) h

multipliers-alike : (p : Problem) (at : List Mark) (rows : List Row) (m : Multipliers) → AreSameButConstants p.rows rows → AreMultipliersAt p at m → AreMultipliersAt (with_rows_of rows p) at m
multipliers-alike p at rows m same are = record {
  scales = are.scales;
  cancel = λ level v. sym (sum-alike (λ (l : Line). m.times level l.name *ℤ coefficient v l.form) p.rows rows (stay_lines 1001 p.stays) same (λ r. refl)) ∙ are.cancel level v;
  inside_zero = λ side. inside-alike p at rows m side same (are.inside_zero side);
}

-- no column is negative with these constants where none is with those
column-alike : (p : Problem) (at : List Mark) (rows : List Row) → AreSameButConstants p.rows rows → NoNegativeColumn p at → NoNegativeColumn (with_rows_of rows p) at
column-alike p at rows same (m, are, none) = (m, multipliers-alike p at rows m same are, λ side. above-alike p rows m side same (none side))

-- ---- each kind of quantity

-- what is to be known of a path with its quantity
record IsReady (p q : Problem) (path : Path) (unfit : Option Quantity) : Type 0 where
  corner : IsCorner p path.corner
  exchanges : AreExchanges p path.corner path.swaps
  whole : IsWhole q
  small : IsSmall q
  shown : IsShown q path unfit
  quantity : IsQuantityWritten unfit

ready-accepted : (p q : Problem) (path : Path) (unfit : Option Quantity) → IsWhole p → path.corner ≡ in_order p path.corner → IsReady p q path unfit → IsAcceptedClaim q (PathClaim path unfit)
ready-accepted p q path unfit whole ordered ready =
    text-accepted q (PathClaim path unfit)
    (record { whole = ready.whole; small = ready.small; written = path-written p path unfit whole ready.corner ordered ready.exchanges ready.quantity })
    (λ v is. verdict-accepted q path unfit v ready.shown is)

plain-ready : (dual : Bool) (p : Problem) (old : List Row) (path : Path) (what : What) → IsWhole p → IsSmall p → path.dual ≡ dual → IsUnfitPath dual p old Anywhere path (Plain what) → IsReady p p path (Some (Plain what))
plain-ready dual p old path what whole small kind (begins, is, unfit) = record {
  corner = is.corner;
  exchanges = ((path_is_its_clauses dual p path.corner path.swaps).1 is).exchanges;
  whole = whole;
  small = small;
  shown = record {
    path_is = record {
      corner = is.corner;
      apart = is.apart;
      lawful = all-judged path.dual p path.corner path.swaps (same-path path.dual dual p path.corner path.swaps path.swaps kind refl is.lawful);
    };
    ends = unfit;
  };
  quantity = what-named p (last_marks path.corner path.swaps) what whole (last_corner dual p path.corner path.swaps is.corner is.lawful) unfit;
}

terms-ready : (dual : Bool) (p : Problem) (old : List Row) (path : Path) (mark : Mark) (j : ℕ) → IsWhole p → IsSmall p → path.dual ≡ dual → IsUnfitPath dual p old Anywhere path (Terms mark j) → IsReady p p path (Some (Terms mark j))
terms-ready dual p old path mark j whole small kind (primal, none, corner, (r, rest, begins, is, before), unfit) = record {
  corner = corner;
  exchanges = no-exchange p path.corner path.swaps none;
  whole = whole;
  small = small;
  shown = record {
    path_is = record {
      corner = corner;
      apart = corners-alone path.corner path.swaps none;
      lawful = before-alone path.dual p path.corner path.swaps mark r.id (kind ∙ primal) none is before;
    };
    ends = subst (λ (ss : List Swap). IsUnfitTerms p (last_marks path.corner ss) mark j) (sym none) unfit.0;
  };
  quantity = terms-named p path.corner mark j whole unfit.0;
}

rows-ready : (dual : Bool) (p : Problem) (old : List Row) (path : Path) (level : Level) (j : ℕ) → IsWhole p → IsSmall p → path.dual ≡ dual → IsUnfitPath dual p old Anywhere path (Rows level j) → IsReady p p path (Some (Rows level j))
rows-ready dual p old path level j whole small kind (none, begins, is, unfit) = record {
  corner = is.corner;
  exchanges = no-exchange p path.corner path.swaps none;
  whole = whole;
  small = small;
  shown = record {
    path_is = record {
      corner = is.corner;
      apart = corners-alone path.corner path.swaps none;
      lawful = all-judged path.dual p path.corner path.swaps (same-path path.dual dual p path.corner path.swaps [] kind none is.lawful);
    };
    ends = subst (λ (ss : List Swap). IsUnfitRows p (last_marks path.corner ss) level j) (sym none) unfit.0;
  };
  quantity = rows-named p path.corner level j whole unfit.0;
}

-- of changed constants the path stands in the problem that has the first of them alone
shifts-ready : (dual : Bool) (p : Problem) (old : List Row) (path : Path) (what : What) (j : ℕ) → IsWhole p → IsSmall p → All IsRow old → path.dual ≡ dual → IsUnfitPath dual p old Anywhere path (Shifts what j) → IsReady p (with_first_shifts old j p) path (Some (Shifts what j))
shifts-ready dual p old path what j whole small each kind (is_dual, none, begins, is, (same, low, high, unfit)) =
    let rows : List Row = first_shifted j old p.rows in
    let q : Problem = with_rows_of rows p in
    let alike : AreSameButConstants p.rows rows = first-alike j old p.rows same in
    let all : All IsRow rows = All-from_recursion IsRow rows (first-rows j old p.rows (recursion_from_All IsRow old each) (recursion_from_All IsRow p.rows whole.rows)) in
    let whole_there : IsWhole q = alike-whole p rows whole all alike in
    let corner : IsCorner q path.corner = constants_keep_corner p rows path.corner whole all alike is.corner in
    let sound : NoNegativeColumn p path.corner = subst (λ (d : Bool). IsSound d p path.corner) is_dual is.lawful in
    let lawful : ArePathSwaps true q path.corner [] = column-alike p path.corner rows alike sound in
    let count : length rows ≡ length p.rows = sym (length-by without_constant p.rows rows alike) in
    record {
      corner = is.corner;
      exchanges = no-exchange p path.corner path.swaps none;
      whole = whole_there;
      small = record { rows = subst (λ (n : ℕ). n ≤ 2001) (sym count) small.rows; stays = small.stays };
      shown = record {
        path_is = record {
          corner = corner;
          apart = corners-alone path.corner path.swaps none;
          lawful = all-judged path.dual q path.corner path.swaps (same-path path.dual true q path.corner path.swaps [] (kind ∙ is_dual) none lawful);
        };
        ends = subst (λ (ss : List Swap). IsUnfitWhat q (last_marks path.corner ss) what) (sym none) unfit;
      };
      quantity = (what-named q path.corner what whole_there corner unfit, changes-counted p old j whole low high);
    }

unfit-ready : (dual : Bool) (p : Problem) (old : List Row) (path : Path) (q : Quantity) → IsWhole p → IsSmall p → All IsRow old → path.dual ≡ dual → IsUnfitPath dual p old Anywhere path q → IsReady p (judged_in old p q) path (Some q)
unfit-ready dual p old path (Plain what) whole small each kind h = plain-ready dual p old path what whole small kind h
unfit-ready dual p old path (Terms mark j) whole small each kind h = terms-ready dual p old path mark j whole small kind h
unfit-ready dual p old path (Rows level j) whole small each kind h = rows-ready dual p old path level j whole small kind h
unfit-ready dual p old path (Shifts what j) whole small each kind h = shifts-ready dual p old path what j whole small each kind h

-- a path without a quantity
lawful-ready : (dual : Bool) (p : Problem) (path : Path) → IsWhole p → IsSmall p → path.dual ≡ dual → IsPath dual p path.corner path.swaps → IsReady p p path None
lawful-ready dual p path whole small kind is = record {
  corner = is.corner;
  exchanges = ((path_is_its_clauses dual p path.corner path.swaps).1 is).exchanges;
  whole = whole;
  small = small;
  shown = record {
    path_is = record {
      corner = is.corner;
      apart = is.apart;
      lawful = all-judged path.dual p path.corner path.swaps (same-path path.dual dual p path.corner path.swaps path.swaps kind refl is.lawful);
    };
    ends = tt;
  };
  quantity = tt;
}

-- ---- the laws

pub unfit-accepted : UnfitPathsAreAccepted
unfit-accepted dual p old budget at is =
    ready-accepted p (judged_in old p at.quantity) at.path (Some at.quantity) is.whole is.ordered (unfit-ready dual p old at.path at.quantity is.whole is.small is.before is.stops.0 is.stops.2)

pub spent-accepted : SpentPathsAreAccepted
spent-accepted dual p old budget path is =
    ready-accepted p p path None is.whole is.ordered (lawful-ready dual p path is.whole is.small is.stops.0 is.stops.1.lawful)
