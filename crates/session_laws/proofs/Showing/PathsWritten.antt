-- What a path and a quantity at its last corner show is written in the form in which it is read.
use Rattle.std.proofs.Common.{◌≡◌, ℕ, ◌+◌, ◌≤◌, List, [], ◌∷◌, map, filter, length, nat_eq, true, Bool, sym, subst, arith, All, AllPairs, Contains, Option}
use Rattle.std.specs.List.{AllByRecursion as Each}
use Rattle.std.proofs.lemmas.Bool.{cond_both}
use Rattle.std.proofs.lemmas.List.Elements.{All-cons, All-from_recursion, All-nil, All-weaker, recursion_from_All}
use Rattle.std.proofs.lemmas.List.Kept.{AllPairs-cons, AllPairs-filter}
use Rattle.frac_core.proofs.Lists.{pairs-nil, pairs-rest}
use Rattle.problem_core.specs.declared.parts.Level.{Level}
use Rattle.problem_core.specs.declared.parts.Mark.{Mark}
use Rattle.problem_core.specs.declared.parts.Side.TheVariants.{Under, Over}
use Rattle.problem_core.specs.declared.parts.Stay.{Stay}
use Rattle.problem_core.specs.declared.stops.Quantity.{Quantity}
use Rattle.problem_core.specs.declared.stops.What.{What}
use Rattle.problem_core.specs.declared.stops.What.TheVariants.{Attr, Mark as MarkOf, Level as LevelOf}
use Rattle.problem_core.specs.Layout.{HasStay, Line, Problem, Row, lines}
use Rattle.problem_core.specs.Kept.{IsNumber, IsWhole}
use Rattle.problem_core.specs.Corners.{IsCorner, IsIn, Swap, exchanged, marks_of, place, place_of}
use Rattle.problem_core.specs.Changes.Begins.{AreExchanges}
use Rattle.problem_core.specs.Unfit.{IsUnfitRows, IsUnfitTerms, IsUnfitWhat, changes, same_constant}
use Rattle.problem_core.proofs.Marks.{entered-in, mark-there}
use Rattle.cert_core.specs.Paths.{Path}
use Rattle.cert_checker.proofs.Indexes.{length-lines}
use Rattle.claim_writing.specs.Names.{IsLevelName, IsRowBefore, IsRowName}
use Rattle.claim_writing.specs.PathTexts.{IsCount, IsSwapName, IsWhatName}
use Rattle.claim_text.specs.Paths.PathForms.{IsPathWritten, IsQuantityWritten}
use Rattle.corner_view.specs.Seen.{in_order, is_mark}
use Rattle.corner_laws.proofs.Counting.{head_pairs}
use Rattle.corner_view.proofs.Facts.{is_in}
use Rattle.corner_lines.proofs.LevelRows.LevelExchanges.{by-sides}
use Rattle.corner_lines.proofs.Lines.LineWritings.{other-out}
use Rattle.session_laws.proofs.Showing.Written.{level-named, lines-come, lines-named}

-- ---- names

marks-named : (ls : List Line) → Each (λ (l : Line). IsRowName l.name) ls → Each (λ (m : Mark). IsRowName m.row) (marks_of ls)
marks-named [] h = tt
marks-named (l ∷ ls) h = (h.0, (h.0, marks-named ls h.1))

-- a mark at the place of one of some marks has its row
same-row : (marks : List Mark) (m : Mark) → Each (λ (n : Mark). IsRowName n.row) marks → IsIn (place m) marks → IsRowName m.row
same-row marks m named is =
    let k : (k : Mark) × (place k ≡ place m) × IsRowName k.row = mark-there (λ (n : Mark). IsRowName n.row) marks (place m) named is in
    subst IsRowName (by-sides k.0.row m.row k.0.side m.side k.1).0 k.2

-- the marks of a corner may be named
pub corner-named : (p : Problem) (at : List Mark) → IsWhole p → IsCorner p at → All (λ (m : Mark). IsRowName m.row) at
corner-named p at whole corner =
    All-weaker (λ (m : Mark). Contains (map place (marks_of (lines p))) (place m)) (λ (m : Mark). IsRowName m.row)
    (λ m is. same-row (marks_of (lines p)) m (marks-named (lines p) (recursion_from_All (λ (l : Line). IsRowName l.name) (lines p) (lines-named p whole))) is) at corner.marks

in-named : (p : Problem) (at : List Mark) (m : Mark) → IsWhole p → IsCorner p at → IsIn (place m) at → IsRowName m.row
in-named p at m whole corner is = same-row at m (recursion_from_All (λ (n : Mark). IsRowName n.row) at (corner-named p at whole corner)) is

swaps-named : (p : Problem) (at : List Mark) (swaps : List Swap) → IsWhole p → IsCorner p at → AreExchanges p at swaps → All IsSwapName swaps
swaps-named p at [] whole corner exchanges = All-nil IsSwapName
swaps-named p at (s ∷ swaps) whole corner exchanges =
    let name : IsSwapName s = record {
      enter = in-named p (exchanged s at) s.enter whole exchanges.0.corner (entered-in s at exchanges.0.leaves);
      leave = in-named p at s.leave whole corner exchanges.0.leaves;
    } in
    All-cons IsSwapName s swaps name (swaps-named p (exchanged s at) swaps whole exchanges.0.corner exchanges.1)

-- ---- order

-- of two marks that are both inside the first comes before
abbrev ComeInside : List Mark → Mark → Mark → Type 0
ComeInside at m n = is_mark at (place m) ≡ true → is_mark at (place n) ≡ true → IsRowBefore m.row n.row

-- not both marks of the line are inside
abbrev HasOneSide : List Mark → Line → Type 0
HasOneSide at l = IsIn (place_of l.name Under) at → IsIn (place_of l.name Over) at → ⊥

marks-behind : (at : List Mark) (m : Mark) (ls : List Line) → Each (λ (l : Line). IsRowBefore m.row l.name) ls → Each (ComeInside at m) (marks_of ls)
marks-behind at m [] h = tt
marks-behind at m (l ∷ ls) h = (λ a b. h.0, (λ a b. h.0, marks-behind at m ls h.1))

marks-come : (at : List Mark) (ls : List Line) → AllPairs (λ (k l : Line). IsRowBefore k.name l.name) ls → Each (HasOneSide at) ls → AllPairs (ComeInside at) (marks_of ls)
marks-come at [] h one = pairs-nil (ComeInside at)
marks-come at (l ∷ ls) h one =
    let low : Mark = record { row = l.name; side = Under } in
    let high : Mark = record { row = l.name; side = Over } in
    let heads : Each (λ (m : Line). IsRowBefore l.name m.name) ls = recursion_from_All (λ (m : Line). IsRowBefore l.name m.name) ls (head_pairs (λ (k m : Line). IsRowBefore k.name m.name) l ls h) in
    let rest : AllPairs (ComeInside at) (marks_of ls) = marks-come at ls (pairs-rest (λ (k m : Line). IsRowBefore k.name m.name) l ls h) one.1 in
    let apart : ComeInside at low high = λ a b. absurd (one.0 (is_in at (place_of l.name Under) a) (is_in at (place_of l.name Over) b)) in
    AllPairs-cons (ComeInside at) low (high ∷ marks_of ls)
    (All-from_recursion (ComeInside at low) (high ∷ marks_of ls) (apart, marks-behind at low ls heads))
    (AllPairs-cons (ComeInside at) high (marks_of ls) (All-from_recursion (ComeInside at high) (marks_of ls) (marks-behind at high ls heads)) rest)

-- what a test keeps passes it
kept-pass : (keep : Mark → Bool) (ms : List Mark) → All (λ (m : Mark). keep m ≡ true) (filter keep ms)
kept-pass keep [] = All-nil (λ (m : Mark). keep m ≡ true)
kept-pass keep (m ∷ ms) =
    let rest : All (λ (n : Mark). keep n ≡ true) (filter keep ms) = kept-pass keep ms in
    cond_both (keep m) (m ∷ filter keep ms) (filter keep ms) (All (λ (n : Mark). keep n ≡ true)) (λ e. All-cons (λ (n : Mark). keep n ≡ true) m (filter keep ms) e rest) (λ _. rest)

each-here : (P : Line → Type 0) (ls : List Line) → ((l : Line) → P l) → Each P ls
each-here P [] h = tt
each-here P (l ∷ ls) h = (h l, each-here P ls h)

in-order-comes : (p : Problem) (at : List Mark) → IsWhole p → IsCorner p at → AllPairs (λ (m n : Mark). IsRowBefore m.row n.row) (in_order p at)
in-order-comes p at whole corner =
    let keep : Mark → Bool = λ m. is_mark at (place m) in
    let one : Each (HasOneSide at) (lines p) = each-here (HasOneSide at) (lines p) (λ l i o. other-out p at l.name Under whole corner i o) in
    let come : AllPairs (ComeInside at) (filter keep (marks_of (lines p))) = AllPairs-filter (ComeInside at) keep (marks_of (lines p)) (marks-come at (lines p) (lines-come p whole) one) in
    let pass : All (λ (m : Mark). keep m ≡ true) (filter keep (marks_of (lines p))) = kept-pass keep (marks_of (lines p)) in
    λ i j d less within. come i j d less within (pass i d (omega (arith, less, within))) (pass j d within)

pub path-written : (p : Problem) (path : Path) (unfit : Option Quantity) → IsWhole p → IsCorner p path.corner → path.corner ≡ in_order p path.corner → AreExchanges p path.corner path.swaps → IsQuantityWritten unfit → IsPathWritten path unfit
path-written p path unfit whole corner ordered exchanges quantity = record {
  marks = corner-named p path.corner whole corner;
  order = subst (λ (ms : List Mark). AllPairs (λ (m n : Mark). IsRowBefore m.row n.row) ms) (sym ordered) (in-order-comes p path.corner whole corner);
  swaps = swaps-named p path.corner path.swaps whole corner exchanges;
  quantity = quantity;
}

-- ---- quantities

stay-number : (p : Problem) (attr : ℕ) → IsWhole p → HasStay p.stays attr → IsNumber attr
stay-number p attr whole (i, s, within, is, e) = subst IsNumber e (subst (λ (t : Stay). IsNumber t.attr) is (whole.stays i s within).attr)

pub what-named : (p : Problem) (at : List Mark) (what : What) → IsWhole p → IsCorner p at → IsUnfitWhat p at what → IsWhatName what
what-named p at (Attr attr) whole corner h = stay-number p attr whole h.0
what-named p at (MarkOf m) whole corner h = in-named p at m whole corner h.0
what-named p at (LevelOf level) whole corner h = level-named p level h.0 whole h.1

small-count : (j : ℕ) → 1 ≤ j → j ≤ 8192 → IsCount j
small-count j low high = (omega (arith, low), omega (arith, high))

few-kept : (keep : Line → Bool) (ls : List Line) → length (filter keep ls) ≤ length ls
few-kept keep [] = omega arith
few-kept keep (l ∷ ls) =
    let rest : length (filter keep ls) ≤ length ls = few-kept keep ls in
    cond_both (keep l) (l ∷ filter keep ls) (filter keep ls) (λ (ks : List Line). length ks ≤ length (l ∷ ls)) (λ _. omega (arith, rest)) (λ _. omega (arith, rest))

few-lines : (p : Problem) → IsWhole p → length (lines p) ≤ 8192
few-lines p whole =
    let rows : length p.rows ≤ 4096 = whole.row_count in
    let stays : length p.stays ≤ 4096 = whole.stay_count in
    omega (arith, length-lines p, rows, stays)

few-changes : (old rows : List Row) → changes old rows ≤ length rows
few-changes [] rows = omega arith
few-changes (o ∷ old) [] = omega arith
few-changes (o ∷ old) (r ∷ rows) =
    let rest : changes old rows ≤ length rows = few-changes old rows in
    cond_both (same_constant o.constant r.constant) (changes old rows) (1 + changes old rows) (λ (n : ℕ). n ≤ length (r ∷ rows)) (λ _. omega (arith, rest)) (λ _. omega (arith, rest))

pub terms-named : (p : Problem) (at : List Mark) (mark : Mark) (j : ℕ) → IsWhole p → IsUnfitTerms p at mark j → IsRowName mark.row × IsCount j
terms-named p at mark j whole (i, r, within, is, (e, over, low, high, none)) =
    let count : length r.terms ≤ 32 = subst (λ (s : Row). length s.terms ≤ 32) is (whole.rows i r within).count in (
      subst (λ (m : Mark). IsRowName m.row) (sym e) (subst (λ (s : Row). IsNumber s.id) is (whole.rows i r within).number),
      small-count j low (omega (arith, high, count)),
    )

pub rows-named : (p : Problem) (at : List Mark) (level : Level) (j : ℕ) → IsWhole p → IsUnfitRows p at level j → IsLevelName level × IsCount j
rows-named p at level j whole (k, place, low, high, none) =
    let all : length (lines p) ≤ 8192 = few-lines p whole in
    let some : length (filter (λ (l : Line). nat_eq l.level k) (lines p)) ≤ length (lines p) = few-kept (λ (l : Line). nat_eq l.level k) (lines p) in
    (level-named p level k whole place, small-count j low (omega (arith, high, some, all)))

pub changes-counted : (p : Problem) (old : List Row) (j : ℕ) → IsWhole p → 1 ≤ j → j ≤ changes old p.rows → IsCount j
changes-counted p old j whole low high =
    let rows : length p.rows ≤ 4096 = whole.row_count in
    small-count j low (omega (arith, high, few-changes old p.rows, rows))
