-- What is shown is cut, read and judged as it was written.
use Rattle.std.proofs.Common.{◌≡◌, ◌≢◌, ◌∙◌, ℕ, ◌<◌, Bool, true, false, List, [], ◌∷◌, ◌++◌, length, length-append, get_or, refl, sym, ap, subst, arith, inl, inr, All, Option, None, Some}
use Rattle.std.specs.Prelude.{codes, decimal, map}
use Rattle.std.specs.List.{AllByRecursion as Each, join_with_byte}
use Rattle.std.specs.Str.Lines.{lines}
use Rattle.std.proofs.lemmas.List.{append-nil, append_assoc, get_or_append_left}
use Rattle.std.proofs.lemmas.List.Elements.{All-append, All-from_recursion, All-head, All-map, All-nil, All-tail, All-weaker, recursion_from_All}
use Rattle.span_text.specs.Classes.{is_space}
use Rattle.span_text.specs.TextCuts.Words.{words_of}
use Rattle.span_text.proofs.TextCuts.WordCuts.{words_of-word}
use Rattle.frac_core.specs.Text.{fraction_text}
use Rattle.frac_core.specs.declared.memory.Stop.TheVariants.{OutOfMemory}
use Rattle.frac_core.proofs.Lists.{each-joined, each-right}
use Rattle.problem_core.specs.Layout.{Problem, Row, rel_word}
use Rattle.problem_core.specs.declared.parts.Stay.{Stay}
use Rattle.problem_core.specs.declared.stops.Quantity.{Quantity}
use Rattle.problem_core.specs.Kept.{IsRow, IsStay, IsWhole}
use Rattle.cert_core.specs.declared.by.By.{By}
use Rattle.cert_core.specs.Claims.{BestLevel}
use Rattle.cert_checker.specs.declared.verdict.Verdict.{Verdict}
use Rattle.claim_writing.specs.declared.claim.Claim.{Claim}
use Rattle.claim_writing.specs.declared.claim.Claim.TheVariants.{IsBest, IsConflict, IsPath}
use Rattle.claim_writing.specs.Words.{line_of}
use Rattle.claim_writing.specs.Lines.{problem_text, row_line, row_words, stay_line, stay_words, term_word, text_of_lines}
use Rattle.claim_writing.specs.ClaimLines.{best_words, by_line, claim_lines, claim_text, conflict_words, level_line, lines_of_levels, value_line}
use Rattle.claim_writing.specs.PathTexts.{in_line, kind_word, kind_words, path_lines, quantity_words, swap_line, unfit_line, unfit_lines}
use Rattle.claim_writing.proofs.Texts.{text_of_lines-append}
use Rattle.problem_reading.specs.Stops.{bad_line}
use Rattle.problem_reading.specs.Problems as problem
use Rattle.problem_reading.specs.ProblemForms.{Shows, problem_lines}
use Rattle.problem_reading.proofs.Visible.{line_bytes, lines_of_text, row_visible, stay_visible}
use Rattle.problem_reading.proofs.Problems.ProblemForms.{problems-are-the-form}
use Rattle.problem_reading.proofs.Problems.RoundTrip as problems
use Rattle.claim_text.specs.Claims.ClaimTexts as claim
use Rattle.claim_text.specs.Claims.ClaimTexts.{IsWritten}
use Rattle.claim_text.specs.Cut.{BeginsClaim, IsClaimStart, IsClaimWord, IsCut, IsWithoutOk, ok_line}
use Rattle.claim_text.proofs.Claims.ClaimForms.{claims-are-the-form}
use Rattle.claim_text.proofs.Claims.ClaimRoundTrip as claims
use Rattle.claim_check.specs.Checks.{IsBad, IsJudged, IsVerdictOn}
use Rattle.claim_check.proofs.Told.{told}
use Rattle.session_laws.specs.Shown.Shown.{CanBeShown, IsComment, ShownIsJudged, ok_lines, shown_text}

-- ---- the first word of a line

first-word : (w : List ℕ) (ws : List (List ℕ)) → 0 < length w → All (λ b. is_space b ≡ false) w → (rest : List (List ℕ)) × (words_of (line_of (w ∷ ws)) ≡ w ∷ rest)
first-word w [] some none =
    (words_of [], subst (λ (line : List ℕ). words_of line ≡ w ∷ words_of []) (append-nil w) (words_of-word w [] some none (λ any. absurd (omega (arith, any)))))
first-word w (v ∷ ws) some none =
    (words_of (32 ∷ join_with_byte 32 (v ∷ ws)), words_of-word w (32 ∷ join_with_byte 32 (v ∷ ws)) some none (λ any. refl))

begins : (w : List ℕ) (ws : List (List ℕ)) → 0 < length w → All (λ b. is_space b ≡ false) w → IsClaimWord w → BeginsClaim (line_of (w ∷ ws))
begins w ws some none is = let first = first-word w ws some none in (w, first.0, first.1, is)

-- a line with another first word begins no claim
head-of : List (List ℕ) → List ℕ
head-of [] = []
head-of (w ∷ ws) = w

no-begin : (w : List ℕ) (ws : List (List ℕ)) → 0 < length w → All (λ b. is_space b ≡ false) w → (IsClaimWord w → ⊥) → BeginsClaim (line_of (w ∷ ws)) → ⊥
unfolding head-of
no-begin w ws some none other (v, rest, are, is) =
    let first = first-word w ws some none in
    let same : v ≡ w = ap head-of (sym are ∙ first.1) in
    other (subst IsClaimWord same is)

-- the words `row` and `stay` are no claim's
letter : ℕ → List ℕ → ℕ
letter k w = get_or w k 0

no-row : IsClaimWord (codes "row") → ⊥
unfolding letter
no-row (inl e) = absurd (let d : 114 ≡ 118 = ap (letter 0) e in omega (arith, d))
no-row (inr (inl e)) = absurd (let d : 114 ≡ 98 = ap (letter 0) e in omega (arith, d))
no-row (inr (inr (inl e))) = absurd (let d : 114 ≡ 99 = ap (letter 0) e in omega (arith, d))
no-row (inr (inr (inr e))) = absurd (let d : 114 ≡ 112 = ap (letter 0) e in omega (arith, d))

no-stay : IsClaimWord (codes "stay") → ⊥
unfolding letter
no-stay (inl e) = absurd (let d : 115 ≡ 118 = ap (letter 0) e in omega (arith, d))
no-stay (inr (inl e)) = absurd (let d : 115 ≡ 98 = ap (letter 0) e in omega (arith, d))
no-stay (inr (inr (inl e))) = absurd (let d : 115 ≡ 99 = ap (letter 0) e in omega (arith, d))
no-stay (inr (inr (inr e))) = absurd (let d : 115 ≡ 112 = ap (letter 0) e in omega (arith, d))

no-comment : IsClaimWord (35 ∷ []) → ⊥
unfolding letter
no-comment (inl e) = absurd (let d : 35 ≡ 118 = ap (letter 0) e in omega (arith, d))
no-comment (inr (inl e)) = absurd (let d : 35 ≡ 98 = ap (letter 0) e in omega (arith, d))
no-comment (inr (inr (inl e))) = absurd (let d : 35 ≡ 99 = ap (letter 0) e in omega (arith, d))
no-comment (inr (inr (inr e))) = absurd (let d : 35 ≡ 112 = ap (letter 0) e in omega (arith, d))

comment-begins-none : (line : List ℕ) → IsComment line → BeginsClaim line → ⊥
unfolding head-of
comment-begins-none line is (v, rest, are, claims) =
    let first : words_of (35 ∷ 32 ∷ is.more) ≡ (35 ∷ []) ∷ words_of (32 ∷ is.more) = words_of-word (35 ∷ []) (32 ∷ is.more) (omega arith) (All-from_recursion (λ b. is_space b ≡ false) (35 ∷ []) (refl, tt)) (λ any. refl) in
    let same : v ≡ 35 ∷ [] = ap head-of (sym are ∙ (ap words_of is.begins ∙ first)) in
    no-comment (subst IsClaimWord same claims)

row-no-claim : (r : Row) → BeginsClaim (row_line r) → ⊥
row-no-claim r begun = no-begin (codes "row") (decimal r.id ∷ decimal r.rank ∷ decimal r.weight ∷ rel_word r.rel ∷ decimal r.scale ∷ fraction_text r.constant ∷ map term_word r.terms) (omega arith) (All-from_recursion (λ b. is_space b ≡ false) (codes "row") (refl, (refl, (refl, tt)))) no-row begun

stay-no-claim : (s : Stay) → BeginsClaim (stay_line s) → ⊥
stay-no-claim s begun = no-begin (codes "stay") (decimal s.attr ∷ fraction_text s.target ∷ []) (omega arith) (All-from_recursion (λ b. is_space b ≡ false) (codes "stay") (refl, (refl, (refl, (refl, tt))))) no-stay begun

problem-begins-none : (p : Problem) → All (λ line. BeginsClaim line → ⊥) (problem_lines p)
problem-begins-none p =
    All-append (λ line. BeginsClaim line → ⊥) (map row_line p.rows) (map stay_line p.stays)
    (All-map (λ line. BeginsClaim line → ⊥) row_line p.rows (λ k d within. row-no-claim (get_or p.rows k d)))
    (All-map (λ line. BeginsClaim line → ⊥) stay_line p.stays (λ k d within. stay-no-claim (get_or p.stays k d)))

-- ---- the first line of a claim begins it

claim-begins : (c : Claim) (more : List (List ℕ)) → IsClaimStart (claim_lines c ++ more)
claim-begins (IsBest [] best) more = begins (codes "best") [] (omega arith) (All-from_recursion (λ b. is_space b ≡ false) (codes "best") (refl, (refl, (refl, (refl, tt))))) (inr (inl refl))
claim-begins (IsBest (v ∷ values) best) more = begins (codes "value") (decimal v.0 ∷ fraction_text v.1 ∷ []) (omega arith) (All-from_recursion (λ b. is_space b ≡ false) (codes "value") (refl, (refl, (refl, (refl, (refl, tt)))))) (inl refl)
claim-begins (IsConflict bys) more = begins (codes "conflict") [] (omega arith) (All-from_recursion (λ b. is_space b ≡ false) (codes "conflict") (refl, (refl, (refl, (refl, (refl, (refl, (refl, (refl, tt))))))))) (inr (inr (inl refl)))
claim-begins (IsPath path unfit) more = begins (codes "path") (kind_word path.dual ∷ []) (omega arith) (All-from_recursion (λ b. is_space b ≡ false) (codes "path") (refl, (refl, (refl, (refl, tt))))) (inr (inr (inr refl)))

-- ---- there is one cut

tail-lines : List (List ℕ) → List (List ℕ)
tail-lines [] = []
tail-lines (line ∷ more) = more

same-head : (x y : List ℕ) (xs ys : List (List ℕ)) → x ∷ xs ≡ y ∷ ys → x ≡ y
unfolding head-of
same-head x y xs ys e = ap head-of e

same-tail : (x y : List ℕ) (xs ys : List (List ℕ)) → x ∷ xs ≡ y ∷ ys → xs ≡ ys
unfolding tail-lines
same-tail x y xs ys e = ap tail-lines e

start-of : (x : List ℕ) (xs ys : List (List ℕ)) → IsClaimStart ys → ys ≡ x ∷ xs → BeginsClaim x
start-of x xs ys start e = subst IsClaimStart e start

one-cut : (xs before ys written : List (List ℕ)) → xs ++ ys ≡ before ++ written → All (λ line. BeginsClaim line → ⊥) xs → All (λ line. BeginsClaim line → ⊥) before
    → IsClaimStart ys → IsClaimStart written → (before ≡ xs) × (written ≡ ys)
one-cut [] [] ys written e none none_before start start_written = (refl, sym e)
one-cut [] (b ∷ before) ys written e none none_before start start_written =
    absurd (All-head (λ line. BeginsClaim line → ⊥) b before none_before (start-of b (before ++ written) ys start e))
one-cut (x ∷ xs) [] ys written e none none_before start start_written =
    absurd (All-head (λ line. BeginsClaim line → ⊥) x xs none (start-of x (xs ++ ys) written start_written (sym e)))
one-cut (x ∷ xs) (b ∷ before) ys written e none none_before start start_written =
    let rest = one-cut xs before ys written (same-tail x b (xs ++ ys) (before ++ written) e) (All-tail (λ line. BeginsClaim line → ⊥) x xs none) (All-tail (λ line. BeginsClaim line → ⊥) b before none_before) start start_written in
    let here : b ≡ x = sym (same-head x b (xs ++ ys) (before ++ written) e) in
    (ap (λ (line : List ℕ). line ∷ before) here ∙ ap (λ (ls : List (List ℕ)). x ∷ ls) rest.0, rest.1)

-- the same lines before the same last line
same-front : (xs ys : List (List ℕ)) (z : List ℕ) → xs ++ z ∷ [] ≡ ys ++ z ∷ [] → xs ≡ ys
same-front [] [] z e = refl
same-front [] (y ∷ ys) z e = absurd (let n : 1 ≡ length (y ∷ (ys ++ z ∷ [])) = ap (λ (ls : List (List ℕ)). length ls) e in omega (arith, n, length-append ys (z ∷ [])))
same-front (x ∷ xs) [] z e = absurd (let n : length (x ∷ (xs ++ z ∷ [])) ≡ 1 = ap (λ (ls : List (List ℕ)). length ls) e in omega (arith, n, length-append xs (z ∷ [])))
same-front (x ∷ xs) (y ∷ ys) z e =
    ap (λ (line : List ℕ). line ∷ xs) (same-head x y (xs ++ z ∷ []) (ys ++ z ∷ []) e)
    ∙ ap (λ (ls : List (List ℕ)). y ∷ ls) (same-front xs ys z (same-tail x y (xs ++ z ∷ []) (ys ++ z ∷ []) e))

-- ---- no line of a claim is `ok`

abbrev IsNoOk : List ℕ → Type 0
IsNoOk line = line ≢ ok_line

-- a line that begins with another letter
other-letter : (n : ℕ) (line : List ℕ) → get_or line 0 0 ≡ n → n ≢ 111 → IsNoOk line
unfolding letter
other-letter n line is other e = other (let d : get_or line 0 0 ≡ 111 = ap (letter 0) e in sym is ∙ d)

-- a line begins as its first word does
line-letter : (w : List ℕ) (ws : List (List ℕ)) → 0 < length w → get_or (line_of (w ∷ ws)) 0 0 ≡ get_or w 0 0
line-letter w [] some = refl
line-letter w (v ∷ ws) some = get_or_append_left w (32 ∷ join_with_byte 32 (v ∷ ws)) 0 0 some

each-no-ok : {A : Type 0} (line : A → List ℕ) (xs : List A) → ((x : A) → IsNoOk (line x)) → Each IsNoOk (map line xs)
each-no-ok line [] h = tt
each-no-ok line (x ∷ xs) h = (h x, each-no-ok line xs h)

bys-no-ok : (bys : List By) → Each IsNoOk (map by_line bys)
bys-no-ok bys = each-no-ok by_line bys (λ b. other-letter 98 (by_line b) refl (λ e. absurd (omega (arith, e))))

levels-no-ok : (levels : List BestLevel) → Each IsNoOk (lines_of_levels levels)
levels-no-ok [] = tt
levels-no-ok (l ∷ more) = (
  other-letter 108 (level_line (record { level = l.level; scale = l.scale })) refl (λ e. absurd (omega (arith, e))),
  each-joined IsNoOk (map by_line l.by) (lines_of_levels more) (bys-no-ok l.by) (levels-no-ok more),
)

unfit-no-ok : (unfit : Option Quantity) → Each IsNoOk (unfit_lines unfit)
unfit-no-ok None = tt
unfit-no-ok (Some q) = (other-letter 117 (unfit_line q) (line-letter (codes "unfit") (quantity_words q) (omega arith)) (λ e. absurd (omega (arith, e))), tt)

claim-no-ok : (c : Claim) → Each IsNoOk (claim_lines c)
claim-no-ok (IsBest values best) =
    each-joined IsNoOk (map value_line values) (line_of best_words ∷ lines_of_levels best)
    (each-no-ok value_line values (λ v. other-letter 118 (value_line v) refl (λ e. absurd (omega (arith, e)))))
    (other-letter 98 (line_of best_words) refl (λ e. absurd (omega (arith, e))), levels-no-ok best)
claim-no-ok (IsConflict bys) = (other-letter 99 (line_of conflict_words) refl (λ e. absurd (omega (arith, e))), bys-no-ok bys)
claim-no-ok (IsPath path unfit) =
    each-joined IsNoOk (path_lines path) (unfit_lines unfit) (
      other-letter 112 (line_of (kind_words path.dual)) refl (λ e. absurd (omega (arith, e))),
      each-joined IsNoOk (map in_line path.corner) (map swap_line path.swaps)
          (each-no-ok in_line path.corner (λ m. other-letter 105 (in_line m) refl (λ e. absurd (omega (arith, e)))))
          (each-no-ok swap_line path.swaps (λ t. other-letter 115 (swap_line t) refl (λ e. absurd (omega (arith, e))))),
    )
    (unfit-no-ok unfit)

never-ok : (c : Claim) (front : List (List ℕ)) → claim_lines c ≡ front ++ ok_line ∷ [] → ⊥
never-ok c front e =
    let last : Each IsNoOk (ok_line ∷ []) = each-right IsNoOk front (ok_line ∷ []) (subst (λ (ls : List (List ℕ)). Each IsNoOk ls) e (claim-no-ok c)) in
    last.0 refl

without-ok : (c : Claim) (ended : Bool) (written claim : List (List ℕ)) → written ≡ claim_lines c ++ ok_lines ended → IsWithoutOk written claim → claim ≡ claim_lines c
without-ok c true written claim is (inl last) = same-front claim (claim_lines c) ok_line (sym last ∙ is)
without-ok c true written claim is (inr (same, none)) = absurd (none (claim_lines c) (sym same ∙ is))
without-ok c false written claim is (inl last) = absurd (never-ok c claim (sym (append-nil (claim_lines c)) ∙ (sym is ∙ last)))
without-ok c false written claim is (inr (same, none)) = sym same ∙ (is ∙ append-nil (claim_lines c))

-- ---- the lines

-- no line of a problem has a byte below a space
problem-visible : (p : Problem) → IsWhole p → All (All (λ b. 31 < b)) (problem_lines p)
problem-visible p whole =
    All-append (All (λ b. 31 < b)) (map row_line p.rows) (map stay_line p.stays)
    (All-map (All (λ b. 31 < b)) row_line p.rows (All-weaker IsRow (λ r. All (λ b. 31 < b) (row_line r)) (λ r is. line_bytes (row_words r) (row_visible r is)) p.rows whole.rows))
    (All-map (All (λ b. 31 < b)) stay_line p.stays (All-weaker IsStay (λ s. All (λ b. 31 < b) (stay_line s)) (λ s is. line_bytes (stay_words s) (stay_visible s is)) p.stays whole.stays))

ok-visible : (ended : Bool) → All (All (λ b. 31 < b)) (ok_lines ended)
ok-visible true = All-from_recursion (All (λ b. 31 < b)) (ok_line ∷ []) (All-from_recursion (λ b. 31 < b) ok_line (omega arith, (omega arith, tt)), tt)
ok-visible false = All-nil (All (λ b. 31 < b))

shown_lines : List (List ℕ) → Problem → Claim → Bool → List (List ℕ)
shown_lines comments p c ended = comments ++ (problem_lines p ++ (claim_lines c ++ ok_lines ended))

-- what stands before the claim begins none
front-begins-none : (comments : List (List ℕ)) (p : Problem) → All IsComment comments → All (λ line. BeginsClaim line → ⊥) (comments ++ problem_lines p)
front-begins-none comments p are =
    All-append (λ line. BeginsClaim line → ⊥) comments (problem_lines p)
    (All-weaker IsComment (λ line. BeginsClaim line → ⊥) (λ line is. comment-begins-none line is) comments are)
    (problem-begins-none p)

cut-is : (comments : List (List ℕ)) (p : Problem) (c : Claim) (ended : Bool) (before after : List (List ℕ)) → All IsComment comments → IsCut (shown_lines comments p c ended) before after → (before ≡ comments ++ problem_lines p) × (after ≡ claim_lines c)
unfolding shown_lines
cut-is comments p c ended before after are cut =
    let one = one-cut (comments ++ problem_lines p) before (claim_lines c ++ ok_lines ended) cut.written (append_assoc comments (problem_lines p) (claim_lines c ++ ok_lines ended) ∙ cut.parts) (front-begins-none comments p are) cut.before (claim-begins c (ok_lines ended)) cut.starts in
    (one.0, without-ok c ended cut.written after one.1 cut.without_ok)

-- no line has a byte below a space
visible-lines : (comments : List (List ℕ)) (p : Problem) (c : Claim) (ended : Bool) → All IsComment comments → CanBeShown p c → All (All (λ b. 31 < b)) (shown_lines comments p c ended)
unfolding shown_lines
visible-lines comments p c ended are can =
    All-append (All (λ b. 31 < b)) comments (problem_lines p ++ (claim_lines c ++ ok_lines ended))
    (All-weaker IsComment (All (λ b. 31 < b)) (λ line is. is.bytes) comments are)
    (All-append (All (λ b. 31 < b)) (problem_lines p) (claim_lines c ++ ok_lines ended) (problem-visible p can.whole)
    (All-append (All (λ b. 31 < b)) (claim_lines c) (ok_lines ended) (claims.claim_clean c can.written) (ok-visible ended)))

text-lines : (comments : List (List ℕ)) (p : Problem) (c : Claim) (ended : Bool) → All IsComment comments → CanBeShown p c → lines (shown_text comments p c ended) ≡ shown_lines comments p c ended
unfolding shown_lines
text-lines comments p c ended are can =
    let whole : text_of_lines (comments ++ (problem_lines p ++ (claim_lines c ++ ok_lines ended))) ≡ shown_text comments p c ended =
    text_of_lines-append comments (problem_lines p ++ (claim_lines c ++ ok_lines ended))
    ∙ ap (λ (t : List ℕ). text_of_lines comments ++ t)
    (text_of_lines-append (problem_lines p) (claim_lines c ++ ok_lines ended) ∙ ap (λ (t : List ℕ). problem_text p ++ t) (text_of_lines-append (claim_lines c) (ok_lines ended))) in
    ap lines (sym whole) ∙ lines_of_text (comments ++ (problem_lines p ++ (claim_lines c ++ ok_lines ended))) (visible-lines comments p c ended are can)

-- ---- what is read

claim-lines-are : (c : Claim) → IsWritten c → lines (claim_text c) ≡ claim_lines c
claim-lines-are c is = (claims-are-the-form.read (lines (claim_text c)) c (claims.reads_back c is)).1

shows-all : (ls : List (List ℕ)) → Shows ls ls
shows-all [] = refl
shows-all (line ∷ more) = inr (more, refl, shows-all more)

shows-behind : (comments ls : List (List ℕ)) → Each IsComment comments → Shows (comments ++ ls) ls
shows-behind [] ls are = shows-all ls
shows-behind (line ∷ more) ls are = inl (inr (32 ∷ are.0.more, are.0.begins), shows-behind more ls are.1)

no-bad : (n : ℕ) → bad_line n ≡ OutOfMemory → ⊥
no-bad n e = cc

module _ (comments : List (List ℕ)) (p : Problem) (c : Claim) (ended : Bool) (are : All IsComment comments) (can : CanBeShown p c) where
  front-read : problem.Reads (comments ++ problem_lines p) p
  front-read =
      problems-are-the-form.form (comments ++ problem_lines p) p
      (record { whole = can.whole; small = can.small; shows = shows-behind comments (problem_lines p) (recursion_from_All IsComment comments are) })

  problem-read : (before : List (List ℕ)) (q : Problem) → before ≡ comments ++ problem_lines p → problem.Reads before q → q ≡ p
  problem-read before q is reads =
      problems.one_reading (problem.HasStayLine (comments ++ problem_lines p)) (comments ++ problem_lines p) problem.nothing_read q p (subst (λ (ls : List (List ℕ)). problem.Reads ls q) is reads) front-read

  problem-whole : (before : List (List ℕ)) (n : ℕ) → before ≡ comments ++ problem_lines p → problem.IsProblemStop before (bad_line n) → ⊥
  problem-whole before n is stops =
      problems.no_bad_line (comments ++ problem_lines p) p n front-read (subst (λ (ls : List (List ℕ)). problem.IsProblemStop ls (bad_line n)) is stops)

  claim-read : (after : List (List ℕ)) (d : Claim) → after ≡ claim_lines c → claim.Reads after d → d ≡ c
  claim-read after d is reads =
      claims.read_is c d (claim_text c) (subst (λ (ls : List (List ℕ)). claim.Reads ls d) (is ∙ sym (claim-lines-are c can.written)) reads) can.written refl

  claim-whole : (after : List (List ℕ)) (n : ℕ) → after ≡ claim_lines c → claim.IsClaimStop after (bad_line n) → ⊥
  claim-whole after n is stops =
      no-bad n (claims.stop_is c (bad_line n) (claim_text c) (subst (λ (ls : List (List ℕ)). claim.IsClaimStop ls (bad_line n)) (is ∙ sym (claim-lines-are c can.written)) stops) can.written refl)

  not-bad : (n : ℕ) → IsBad (shown_lines comments p c ended) n → ⊥
  not-bad n bad =
      let cut = cut-is comments p c ended bad.before bad.after are bad.cut in
      elim bad.bad [
        | inl stops ↦ problem-whole bad.before n cut.0 stops
        | inr (q, reads, m, stops, is) ↦ claim-whole bad.after m cut.1 stops
      ]

  judged : (v : Verdict) → IsJudged (shown_lines comments p c ended) v → IsVerdictOn p c v
  judged v is =
      let cut = cut-is comments p c ended is.before is.after are is.cut in
      subst (λ (q : Problem). IsVerdictOn q c v) (problem-read is.before is.p cut.0 is.says)
      (subst (λ (d : Claim). IsVerdictOn is.p d v) (claim-read is.after is.c cut.1 is.claims) is.verdict)

pub shown-judged : ShownIsJudged
shown-judged comments p c ended text good are can (answer, is, text_is, good_is) =
    let there : lines (shown_text comments p c ended) ≡ shown_lines comments p c ended = text-lines comments p c ended are can in
    elim (told (lines (shown_text comments p c ended)) answer is) [
      | inl (v, verdict, line) ↦ (v, judged comments p c ended are can v (subst (λ (ls : List (List ℕ)). IsJudged ls v) there verdict), text_is ∙ line)
      | inr (n, bad) ↦ absurd (not-bad comments p c ended are can n (subst (λ (ls : List (List ℕ)). IsBad ls n) there bad))
    ]
