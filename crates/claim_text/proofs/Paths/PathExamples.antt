-- Lines inside and outside the form of paths.
use Rattle.std.proofs.Common.{◌≡◌, ℕ, List, [], ◌∷◌, length, Bool, true, false, All, decimal, refl, sym, ap, subst, ◌∙◌, arith, inl, get_or, drop, ◌++◌, ◌≤◌, ◌<◌, ◌^◌, ap₂}
use Rattle.std.specs.Prelude.{codes}
use Rattle.std.proofs.lemmas.List.Elements.{All-nil, All-from_recursion, recursion_from_All}
use Rattle.problem_core.specs.declared.parts.RowName.TheVariants.{Held, Stay as StayRow}
use Rattle.problem_core.specs.declared.parts.Level.TheVariants.{Priority}
use Rattle.problem_core.specs.declared.parts.Side.{Side}
use Rattle.problem_core.specs.declared.parts.Side.TheVariants.{Under, Over}
use Rattle.problem_core.specs.declared.parts.Mark.{Mark}
use Rattle.problem_core.specs.declared.stops.What.TheVariants as what
use Rattle.problem_core.specs.declared.stops.Quantity.{Quantity}
use Rattle.problem_core.specs.declared.stops.Quantity.TheVariants.{Plain, Terms, Rows, Shifts}
use Rattle.problem_core.specs.Corners.{Swap}
use Rattle.claim_writing.specs.declared.claim.Claim.TheVariants.{IsPath}
use Rattle.claim_text.specs.declared.claim.draft.Stage.TheVariants.{Path}
use Rattle.claim_text.specs.declared.claim.lines.ClaimLine.{ClaimLine}
use Rattle.claim_text.specs.declared.claim.lines.ClaimLine.TheVariants.{OfValue, OfBest, OfConflict, OfLevel, OfBy, OfPath, OfPart}
use Rattle.claim_text.specs.declared.claim.path_lines.PathLine.{PathLine}
use Rattle.claim_text.specs.declared.claim.path_lines.PathLine.TheVariants.{OfIn, OfSwap, OfUnfit}
use Rattle.problem_reading.specs.Words.{words}
use Rattle.claim_writing.specs.Names.{IsRowBefore}
use Rattle.claim_writing.specs.PathTexts.{side_word, kind_words, quantity_words, what_words, unfit_words, IsQuantityName, IsCount}
use Rattle.claim_text.specs.Paths.PathForms.{PathDraft, SaysPart, PartMayFollow, path_begun, path_of, with_part}
use Rattle.claim_text.specs.Claims.ClaimTexts.{Draft, MayFollow, ReadFrom, Says, Step, nothing_read}
use Rattle.claim_text.specs.Claims.ClaimForms.{IsFirstOutside}
use Rattle.claim_text.specs.Paths.PathExamples.{AreClaimLines, SomePathsAreInside, SomePathsAreOutside}
use Rattle.std.specs.Char.{IsAsciiDigit}
use Rattle.std.proofs.lemmas.Fmt.{decimal_digit}
use Rattle.problem_reading.proofs.Numerals.Digits.{same_value, written}
use Rattle.claim_text.proofs.Paths.PathWords.{counted, no_terms, two_parts}
use Rattle.claim_text.proofs.Claims.SameClaims.{mark, mark_of, marked, one_line, part_mark}
use Rattle.claim_text.proofs.Claims.ClaimForms.{claims-are-the-form}
use Rattle.claim_text.proofs.Claims.ClaimRoundTrip.{one_path as one-draft}

-- ---- steps

abbrev drafted : PathDraft → Draft
drafted d = record { stage = Path d; values = []; levels = []; bys = [] }

begins : (line : List ℕ) (dual : Bool) → words line ≡ kind_words dual → Step nothing_read line (drafted (path_begun dual))
begins line dual is = record { item = OfPath dual; says = is; may = (refl, refl); is = refl }

goes-on : (d : PathDraft) (line : List ℕ) (part : PathLine) → SaysPart line part → PartMayFollow d part → Step (drafted d) line (drafted (with_part d part))
goes-on d line part says may = record { item = OfPart part; says = says; may = (d, refl, may); is = refl }

refuses : (d : PathDraft) (line : List ℕ) (part : PathLine) → SaysPart line part → (PartMayFollow d part → ⊥) → (new : Draft) → Step (drafted d) line new → ⊥
refuses d line part says never new step =
    let same : step.item ≡ OfPart part = one_line line step.item (OfPart part) step.says says in
    let may : MayFollow (drafted d) (OfPart part) = subst (MayFollow (drafted d)) same step.may in
    never (subst (λ (e : PathDraft). PartMayFollow e part) (sym (one-draft d may.0 may.1)) may.2)

-- ---- which line is the first outside

first : (line : List ℕ) (more : List (List ℕ)) → ((new : Draft) → Step nothing_read line new → ⊥) → IsFirstOutside (line ∷ more) 1
first line more bad = claims-are-the-form.stop (line ∷ more) 1 (inl (record {
  before = [];
  line = line;
  after = more;
  parts = refl;
  number = refl;
  so_far = nothing_read;
  reads = refl;
  bad = bad;
}))

second : (one line : List ℕ) (d : PathDraft) → Step nothing_read one (drafted d) → ((new : Draft) → Step (drafted d) line new → ⊥) → IsFirstOutside (one ∷ line ∷ []) 2
second one line d begun bad = claims-are-the-form.stop (one ∷ line ∷ []) 2 (inl (record {
  before = one ∷ [];
  line = line;
  after = [];
  parts = refl;
  number = refl;
  so_far = drafted d;
  reads = (drafted d, begun, refl);
  bad = bad;
}))

third : (one two line : List ℕ) (d e : PathDraft) → Step nothing_read one (drafted d) → Step (drafted d) two (drafted e) → ((new : Draft) → Step (drafted e) line new → ⊥)
    → IsFirstOutside (one ∷ two ∷ line ∷ []) 3
third one two line d e begun next bad = claims-are-the-form.stop (one ∷ two ∷ line ∷ []) 3 (inl (record {
  before = one ∷ two ∷ [];
  line = line;
  after = [];
  parts = refl;
  number = refl;
  so_far = drafted e;
  reads = (drafted d, begun, (drafted e, next, refl));
  bad = bad;
}))

-- ---- lines that say nothing

-- a line that begins as `unfit` does is the line of a quantity, or none
only-unfit : (line : List ℕ) → mark (words line) ≡ 30062 → ((q : Quantity) → IsQuantityName q → words line ≡ unfit_words q → ⊥) → (item : ClaimLine) → Says line item → ⊥
unfolding mark_of part_mark
only-unfit line e none (OfValue v) says = omega (arith, e, marked line (OfValue v) says)
only-unfit line e none OfBest says = omega (arith, e, marked line OfBest says)
only-unfit line e none OfConflict says = omega (arith, e, marked line OfConflict says)
only-unfit line e none (OfLevel l) says = omega (arith, e, marked line (OfLevel l) says)
only-unfit line e none (OfBy b) says = omega (arith, e, marked line (OfBy b) says)
only-unfit line e none (OfPath d) says = omega (arith, e, marked line (OfPath d) says)
only-unfit line e none (OfPart (OfIn m)) says = omega (arith, e, marked line (OfPart (OfIn m)) says)
only-unfit line e none (OfPart (OfSwap s)) says = omega (arith, e, marked line (OfPart (OfSwap s)) says)
only-unfit line e none (OfPart (OfUnfit q)) says = none q says.0 says.1

-- the first two bytes of no line
record IsStrange (n : ℕ) : Type 0 where
  no_value : n ≡ 30305 → ⊥
  no_best : n ≡ 25189 → ⊥
  no_conflict : n ≡ 25455 → ⊥
  no_level : n ≡ 27749 → ⊥
  no_by : n ≡ 25209 → ⊥
  no_path : n ≡ 28769 → ⊥
  no_in : n ≡ 26990 → ⊥
  no_swap : n ≡ 29559 → ⊥
  no_unfit : n ≡ 30062 → ⊥

strange : (line : List ℕ) → IsStrange (mark (words line)) → (item : ClaimLine) → Says line item → ⊥
unfolding mark_of part_mark
strange line is (OfValue v) says = is.no_value (marked line (OfValue v) says)
strange line is OfBest says = is.no_best (marked line OfBest says)
strange line is OfConflict says = is.no_conflict (marked line OfConflict says)
strange line is (OfLevel l) says = is.no_level (marked line (OfLevel l) says)
strange line is (OfBy b) says = is.no_by (marked line (OfBy b) says)
strange line is (OfPath d) says = is.no_path (marked line (OfPath d) says)
strange line is (OfPart (OfIn m)) says = is.no_in (marked line (OfPart (OfIn m)) says)
strange line is (OfPart (OfSwap s)) says = is.no_swap (marked line (OfPart (OfSwap s)) says)
strange line is (OfPart (OfUnfit q)) says = is.no_unfit (marked line (OfPart (OfUnfit q)) says)

strange-still : IsStrange (mark (words (codes "still 1")))
unfolding mark
strange-still = record {
  no_value = λ h. omega (arith, h);
  no_best = λ h. omega (arith, h);
  no_conflict = λ h. omega (arith, h);
  no_level = λ h. omega (arith, h);
  no_by = λ h. omega (arith, h);
  no_path = λ h. omega (arith, h);
  no_in = λ h. omega (arith, h);
  no_swap = λ h. omega (arith, h);
  no_unfit = λ h. omega (arith, h);
}

strange-probe : IsStrange (mark (words (codes "probe a.left up")))
unfolding mark
strange-probe = record {
  no_value = λ h. omega (arith, h);
  no_best = λ h. omega (arith, h);
  no_conflict = λ h. omega (arith, h);
  no_level = λ h. omega (arith, h);
  no_by = λ h. omega (arith, h);
  no_path = λ h. omega (arith, h);
  no_in = λ h. omega (arith, h);
  no_swap = λ h. omega (arith, h);
  no_unfit = λ h. omega (arith, h);
}

strange-refused : IsStrange (mark (words (codes "refused 7 overflow")))
unfolding mark
strange-refused = record {
  no_value = λ h. omega (arith, h);
  no_best = λ h. omega (arith, h);
  no_conflict = λ h. omega (arith, h);
  no_level = λ h. omega (arith, h);
  no_by = λ h. omega (arith, h);
  no_path = λ h. omega (arith, h);
  no_in = λ h. omega (arith, h);
  no_swap = λ h. omega (arith, h);
  no_unfit = λ h. omega (arith, h);
}

-- ---- parts

abbrev held : ℕ → Side → Mark
held id side = record { row = Held id; side = side }

abbrev stay : ℕ → Side → Mark
stay attr side = record { row = StayRow attr; side = side }

abbrev swapped : Mark → Mark → Swap
swapped enter leave = record { enter = enter; leave = leave }

abbrev primal : PathDraft
primal = path_begun false

abbrev dual : PathDraft
dual = path_begun true

none-before : (m : Mark) → All (λ (k : Mark). IsRowBefore k.row m.row) []
none-before m = All-nil (λ (k : Mark). IsRowBefore k.row m.row)

-- the row of the one mark before it
before-it : (k m : Mark) → All (λ j. IsRowBefore j.row m.row) (k ∷ []) → IsRowBefore k.row m.row
before-it k m all = (recursion_from_All (λ (j : Mark). IsRowBefore j.row m.row) (k ∷ []) all).0

-- ---- what the lines say

zero-is : codes "0" ≡ decimal 0
zero-is = sym (decimal_digit 0 (omega arith))

one-is : codes "1" ≡ decimal 1
one-is = sym (decimal_digit 1 (omega arith))

two-is : codes "2" ≡ decimal 2
two-is = sym (decimal_digit 2 (omega arith))

three-is : codes "3" ≡ decimal 3
three-is = sym (decimal_digit 3 (omega arith))

digit-is : (b : ℕ) → 48 ≤ b → b ≤ 57 → IsAsciiDigit b
digit-is b low high = (low, high)

most-is : codes "4294967295" ≡ decimal 4294967295
most-is = written (codes "4294967295") (record {
  digits = All-from_recursion IsAsciiDigit (codes "4294967295") (digit-is 52 (omega arith) (omega arith), (digit-is 50 (omega arith) (omega arith), (digit-is 57 (omega arith) (omega arith), (digit-is 52 (omega arith) (omega arith), (digit-is 57 (omega arith) (omega arith), (digit-is 54 (omega arith) (omega arith), (digit-is 55 (omega arith) (omega arith), (digit-is 50 (omega arith) (omega arith), (digit-is 57 (omega arith) (omega arith), (digit-is 53 (omega arith) (omega arith), tt))))))))));
  some = omega arith;
  few = omega arith;
}) (λ h. absurd (omega (arith, h)))

past-is : codes "4294967296" ≡ decimal 4294967296
past-is = written (codes "4294967296") (record {
  digits = All-from_recursion IsAsciiDigit (codes "4294967296") (digit-is 52 (omega arith) (omega arith), (digit-is 50 (omega arith) (omega arith), (digit-is 57 (omega arith) (omega arith), (digit-is 52 (omega arith) (omega arith), (digit-is 57 (omega arith) (omega arith), (digit-is 54 (omega arith) (omega arith), (digit-is 55 (omega arith) (omega arith), (digit-is 50 (omega arith) (omega arith), (digit-is 57 (omega arith) (omega arith), (digit-is 54 (omega arith) (omega arith), tt))))))))));
  some = omega arith;
  few = omega arith;
}) (λ h. absurd (omega (arith, h)))

in-held : (line digits : List ℕ) (n : ℕ) (s : Side) → 1 ≤ n → n ≤ 2 ^ 31 → digits ≡ decimal n → words line ≡ codes "in" ∷ (digits ++ side_word s) ∷ [] → SaysPart line (OfIn (held n s))
in-held line digits n s low high is cut = ((low, high), cut ∙ ap (λ (ds : List ℕ). codes "in" ∷ (ds ++ side_word s) ∷ []) is)

in-stay : (line digits : List ℕ) (n : ℕ) (s : Side) → 1 ≤ n → n ≤ 2 ^ 31 → digits ≡ decimal n → words line ≡ codes "in" ∷ (115 ∷ digits ++ side_word s) ∷ [] → SaysPart line (OfIn (stay n s))
in-stay line digits n s low high is cut = ((low, high), cut ∙ ap (λ (ds : List ℕ). codes "in" ∷ (115 ∷ ds ++ side_word s) ∷ []) is)

in-1-over : SaysPart (codes "in 1+") (OfIn (held 1 Over))
in-1-over = in-held (codes "in 1+") (codes "1") 1 Over (omega arith) (omega arith) one-is refl

in-1-under : SaysPart (codes "in 1-") (OfIn (held 1 Under))
in-1-under = in-held (codes "in 1-") (codes "1") 1 Under (omega arith) (omega arith) one-is refl

in-2-over : SaysPart (codes "in 2+") (OfIn (held 2 Over))
in-2-over = in-held (codes "in 2+") (codes "2") 2 Over (omega arith) (omega arith) two-is refl

in-3-over : SaysPart (codes "in 3+") (OfIn (held 3 Over))
in-3-over = in-held (codes "in 3+") (codes "3") 3 Over (omega arith) (omega arith) three-is refl

in-s1-over : SaysPart (codes "in s1+") (OfIn (stay 1 Over))
in-s1-over = in-stay (codes "in s1+") (codes "1") 1 Over (omega arith) (omega arith) one-is refl

in-s1-under : SaysPart (codes "in s1-") (OfIn (stay 1 Under))
in-s1-under = in-stay (codes "in s1-") (codes "1") 1 Under (omega arith) (omega arith) one-is refl

swap-1-2 : SaysPart (codes "swap 1+ 2+") (OfSwap (swapped (held 1 Over) (held 2 Over)))
swap-1-2 = (
  record { enter = (omega arith, omega arith); leave = (omega arith, omega arith) },
  ap₂ (λ (a b : List ℕ). codes "swap" ∷ (a ++ codes "+") ∷ (b ++ codes "+") ∷ []) one-is two-is,
)

swap-s2-1 : SaysPart (codes "swap s2+ 1-") (OfSwap (swapped (stay 2 Over) (held 1 Under)))
swap-s2-1 = (
  record { enter = (omega arith, omega arith); leave = (omega arith, omega arith) },
  ap₂ (λ (a b : List ℕ). codes "swap" ∷ (115 ∷ a ++ codes "+") ∷ (b ++ codes "-") ∷ []) two-is one-is,
)

unfit-1 : SaysPart (codes "unfit attr 1") (OfUnfit (Plain (what.Attr 1)))
unfit-1 = ((omega arith, omega arith), ap (λ (a : List ℕ). codes "unfit" ∷ codes "attr" ∷ a ∷ []) one-is)

unfit-shifts : SaysPart (codes "unfit attr 1 shifts 2") (OfUnfit (Shifts (what.Attr 1) 2))
unfit-shifts = (((omega arith, omega arith), (omega arith, omega arith)), ap₂ (λ (a b : List ℕ). codes "unfit" ∷ codes "attr" ∷ a ∷ codes "shifts" ∷ b ∷ []) one-is two-is)

unfit-terms : SaysPart (codes "unfit mark 1- terms 4294967295") (OfUnfit (Terms (held 1 Under) 4294967295))
unfit-terms = (((omega arith, omega arith), (omega arith, omega arith)), ap₂ (λ (a b : List ℕ). codes "unfit" ∷ codes "mark" ∷ (a ++ codes "-") ∷ codes "terms" ∷ b ∷ []) one-is most-is)

unfit-rows : SaysPart (codes "unfit level 0 rows 1") (OfUnfit (Rows (Priority 0) 1))
unfit-rows = ((omega arith, (omega arith, omega arith)), ap₂ (λ (a b : List ℕ). codes "unfit" ∷ codes "level" ∷ a ∷ codes "rows" ∷ b ∷ []) zero-is one-is)

-- of which number of shifts a quantity is
no-shifts : (q : Quantity) (line digits : List ℕ) (n : ℕ) → IsQuantityName q → n < 10 ^ 19 → (IsCount n → ⊥) → digits ≡ decimal n
    → words line ≡ codes "unfit" ∷ codes "attr" ∷ codes "1" ∷ codes "shifts" ∷ digits ∷ [] → words line ≡ unfit_words q → ⊥
no-shifts q line digits n is small never digits_is cut e =
    let shifts : what_words (what.Attr 1) ++ codes "shifts" ∷ decimal n ∷ [] ≡ quantity_words q =
    ap₂ (λ (a b : List ℕ). codes "attr" ∷ a ∷ codes "shifts" ∷ b ∷ []) (sym one-is) (sym digits_is) ∙ ap (λ (ws : List (List ℕ)). drop 1 ws) (sym cut ∙ e) in
    let count = counted q (codes "shifts") (decimal n ∷ []) is (two_parts q (what.Attr 1) (codes "shifts" ∷ decimal n ∷ []) shifts).1 in
    let same : n ≡ count.0 = same_value n count.0 small (omega (arith, count.1.1)) (ap (λ (ws : List (List ℕ)). get_or ws 1 []) count.2) in
    never (subst IsCount (sym same) count.1)

no-count : (q : Quantity) → IsQuantityName q → words (codes "unfit attr 1 shifts 0") ≡ unfit_words q → ⊥
no-count q is e = no-shifts q (codes "unfit attr 1 shifts 0") (codes "0") 0 is (omega arith) (λ h. omega (arith, h.0)) zero-is refl e

no-many : (q : Quantity) → IsQuantityName q → words (codes "unfit attr 1 shifts 4294967296") ≡ unfit_words q → ⊥
no-many q is e = no-shifts q (codes "unfit attr 1 shifts 4294967296") (codes "4294967296") 4294967296 is (omega arith) (λ h. omega (arith, h.1)) past-is refl e

attr-terms : (q : Quantity) → IsQuantityName q → words (codes "unfit attr 1 terms 1") ≡ unfit_words q → ⊥
attr-terms q is e =
    let terms : what_words (what.Attr 1) ++ codes "terms" ∷ codes "1" ∷ [] ≡ quantity_words q =
    ap (λ (a : List ℕ). codes "attr" ∷ a ∷ codes "terms" ∷ codes "1" ∷ []) (sym one-is) ∙ ap (λ (ws : List (List ℕ)). drop 1 ws) e in
    no_terms q (what.Attr 1) (codes "1") terms (λ m same. cc)

-- ---- the instances

pub some-paths-are-outside : SomePathsAreOutside
unfolding mark
some-paths-are-outside = record {
  falling = third _ _ _ primal (with_part primal (OfIn (held 2 Over))) (begins _ false refl) (goes-on primal _ (OfIn (held 2 Over)) in-2-over (refl, refl, none-before (held 2 Over)))
      (refuses (with_part primal (OfIn (held 2 Over))) _ (OfIn (held 1 Over)) in-1-over (λ may. let less = before-it (held 2 Over) (held 1 Over) may.2 in omega (arith, less)));
  same_row = third _ _ _ primal (with_part primal (OfIn (held 1 Over))) (begins _ false refl) (goes-on primal _ (OfIn (held 1 Over)) in-1-over (refl, refl, none-before (held 1 Over)))
      (refuses (with_part primal (OfIn (held 1 Over))) _ (OfIn (held 1 Under)) in-1-under (λ may. let less = before-it (held 1 Over) (held 1 Under) may.2 in omega (arith, less)));
  stay_first = third _ _ _ primal (with_part primal (OfIn (stay 1 Over))) (begins _ false refl) (goes-on primal _ (OfIn (stay 1 Over)) in-s1-over (refl, refl, none-before (stay 1 Over)))
      (refuses (with_part primal (OfIn (stay 1 Over))) _ (OfIn (held 1 Over)) in-1-over (λ may. before-it (stay 1 Over) (held 1 Over) may.2));
  same_stay = third _ _ _ primal (with_part primal (OfIn (stay 1 Over))) (begins _ false refl) (goes-on primal _ (OfIn (stay 1 Over)) in-s1-over (refl, refl, none-before (stay 1 Over)))
      (refuses (with_part primal (OfIn (stay 1 Over))) _ (OfIn (stay 1 Under)) in-s1-under (λ may. before-it (stay 1 Over) (stay 1 Under) may.2 refl));
  late_mark = third _ _ _ primal (with_part primal (OfSwap (swapped (held 1 Over) (held 2 Over)))) (begins _ false refl)
      (goes-on primal _ (OfSwap (swapped (held 1 Over) (held 2 Over))) swap-1-2 refl)
      (refuses (with_part primal (OfSwap (swapped (held 1 Over) (held 2 Over)))) _ (OfIn (held 3 Over)) in-3-over (λ may. let e = ap length may.0 in omega (arith, e)));
  behind = third _ _ _ dual (with_part dual (OfUnfit (Plain (what.Attr 1)))) (begins _ true refl) (goes-on dual _ (OfUnfit (Plain (what.Attr 1))) unfit-1 refl)
      (refuses (with_part dual (OfUnfit (Plain (what.Attr 1)))) _ (OfSwap (swapped (held 1 Over) (held 2 Over))) swap-1-2 (λ may. cc));
  no_count = second _ _ dual (begins _ true refl) (λ new step. only-unfit (codes "unfit attr 1 shifts 0") refl no-count step.item step.says);
  many = second _ _ dual (begins _ true refl) (λ new step. only-unfit (codes "unfit attr 1 shifts 4294967296") refl no-many step.item step.says);
  attr_terms = second _ _ dual (begins _ true refl) (λ new step. only-unfit (codes "unfit attr 1 terms 1") refl attr-terms step.item step.says);
  still = first _ _ (λ new step. strange (codes "still 1") strange-still step.item step.says);
  probe = first _ _ (λ new step. strange (codes "probe a.left up") strange-probe step.item step.says);
  refused = first _ _ (λ new step. strange (codes "refused 7 overflow") strange-refused step.item step.says);
}

-- a path that is read to its end is a claim
ended : (all : List (List ℕ)) (d : PathDraft) → ReadFrom nothing_read all (drafted d) → AreClaimLines all
ended all d reads = (IsPath (path_of d) d.unfit, claims-are-the-form.read all (IsPath (path_of d) d.unfit) (drafted d, reads, (d, refl, refl, refl)))

pub some-paths-are-inside : SomePathsAreInside
some-paths-are-inside = record {
  alone = ended _ dual (drafted dual, begins _ true refl, refl);
  whole =
      let a = with_part primal (OfIn (held 1 Under)) in
      let b = with_part a (OfIn (stay 1 Over)) in
      let c = with_part b (OfSwap (swapped (stay 2 Over) (held 1 Under))) in
      let d = with_part c (OfUnfit (Shifts (what.Attr 1) 2)) in
      ended _ d (
        drafted primal,
        begins _ false refl,
        (
          drafted a,
          goes-on primal _ (OfIn (held 1 Under)) in-1-under (refl, refl, none-before (held 1 Under)),
          (
            drafted b,
            goes-on a _ (OfIn (stay 1 Over)) in-s1-over (refl, refl, All-from_recursion (λ (k : Mark). IsRowBefore k.row (StayRow 1)) (held 1 Under ∷ []) (tt, tt)),
            (
              drafted c,
              goes-on b _ (OfSwap (swapped (stay 2 Over) (held 1 Under))) swap-s2-1 refl,
              (drafted d, goes-on c _ (OfUnfit (Shifts (what.Attr 1) 2)) unfit-shifts refl, refl),
            ),
          ),
        ),
      );
  terms = ended _ (with_part primal (OfUnfit (Terms (held 1 Under) 4294967295))) (
    drafted primal,
    begins _ false refl,
    (drafted (with_part primal (OfUnfit (Terms (held 1 Under) 4294967295))), goes-on primal _ (OfUnfit (Terms (held 1 Under) 4294967295)) unfit-terms refl, refl),
  );
  rows = ended _ (with_part primal (OfUnfit (Rows (Priority 0) 1))) (
    drafted primal,
    begins _ false refl,
    (drafted (with_part primal (OfUnfit (Rows (Priority 0) 1))), goes-on primal _ (OfUnfit (Rows (Priority 0) 1)) unfit-rows refl, refl),
  );
}
