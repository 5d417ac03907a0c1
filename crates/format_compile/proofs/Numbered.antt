-- The rows of lines, with one line more.
use Rattle.std.proofs.Common.{◌≡◌, ℕ, zero, suc, ◌+◌, ◌<◌, List, [], ◌∷◌, ◌++◌, length, take, drop, get_or, Option, Some, None, refl, subst, ap, ◌∙◌, arith}
use Rattle.std.specs.List.{Any}
use Rattle.std.proofs.lemmas.Grind.{common_steps}
use Rattle.std.proofs.lemmas.List.{take_more, drop_more, map_push}
use Rattle.std.proofs.lemmas.List.Elements.{All-nil, All-cons, All-push}
use Rattle.std.proofs.lemmas.List.Quantifiers.{Any-push}
use Rattle.name_tables.specs.declared.stops.LimitWord.{LimitWord}
use Rattle.name_tables.specs.declared.stops.LimitWord.TheVariants as limit
use Rattle.script_text.specs.Meaning.{Linear}
use Rattle.view_tree.specs.Views.{LiveView}
use Rattle.compile_parts.specs.Meaning.{MetricList, terms_of}
use Rattle.constraint_compile.specs.Compiled.{RowForm}
use Rattle.constraint_compile.specs.Stops.{IsRowStop}
use Rattle.vfl_text.specs.Formats.{FormatMeaning}
use Rattle.script_text.specs.declared.words.Align.{Align}
use Rattle.script_text.specs.declared.words.Direction.{Direction}
use Rattle.format_compile.specs.declared.parts.Part as declared_part
use Rattle.format_compile.specs.FormatViews.{part_view, parts_view}
use Rattle.format_compile.specs.FormatRefusals.{HasPartRank, HaveRanks}
use Rattle.format_compile.specs.FormatStops.{row_count, IsPastNumbers, IsUsableFormat}
use Rattle.format_compile.specs.FormatParts.{Part, View, Bar, Asks, parts}
use Rattle.format_compile.specs.FormatLines.{lines_of, line_of}
use Rattle.format_compile.specs.FormatRows.{Passes, NonePass, PassesFirst, IsRowWithin, AreRowsOf, MayStopFormat}
use Rattle.format_compile.specs.FormatFound.{IsFound, EndsRows, HaveNoRows, IsLater, noted}
use Rattle.compile_parts.specs.declared.stops.CompileStop.{CompileStop}
use Rattle.compile_parts.specs.declared.stops.CompileStop.TheVariants.{Unknown, Kind, Limit, OutOfMemory}
use Rattle.frac_core.proofs.Lists.{any-front as any_more}

-- ---- rows

pub rows_push : (views : List LiveView) (metrics : MetricList) (lines : List Linear) (l : Linear) (first : ℕ) (rows : List RowForm) (r : RowForm) → AreRowsOf views metrics lines first rows → IsRowWithin views metrics l (first + length lines) r → AreRowsOf views metrics (lines ++ l ∷ []) first (rows ++ r ∷ [])
rows_push views metrics [] l first [] r are is = (subst (λ (n : ℕ). IsRowWithin views metrics l n r) (let same : first + 0 ≡ first = omega arith in same) is, tt)
rows_push views metrics [] l first (y ∷ rows) r are is = absurd are
rows_push views metrics (x ∷ lines) l first [] r are is = absurd are
rows_push views metrics (x ∷ lines) l first (y ∷ rows) r are is =
    (are.0, rows_push views metrics lines l (first + 1) rows r are.1 (subst (λ (n : ℕ). IsRowWithin views metrics l n r) (let same : first + suc (length lines) ≡ first + 1 + length lines = omega arith in same) is))

-- as many rows as lines
pub rows_long : (views : List LiveView) (metrics : MetricList) (lines : List Linear) (first : ℕ) (rows : List RowForm) → AreRowsOf views metrics lines first rows → length rows ≡ length lines
rows_long views metrics [] first [] are = refl
rows_long views metrics [] first (y ∷ rows) are = absurd are
rows_long views metrics (x ∷ lines) first [] are = absurd are
rows_long views metrics (x ∷ lines) first (y ∷ rows) are = ap suc (rows_long views metrics lines (first + 1) rows are.1)

-- a row within all limits passes none
pub within_few : (views : List LiveView) (metrics : MetricList) (l : Linear) (n : ℕ) (r : RowForm) → IsRowWithin views metrics l n r → Passes views metrics limit.Attributes l → ⊥
within_few views metrics l n r is many = is.within.few many

pub within_small : (views : List LiveView) (metrics : MetricList) (l : Linear) (n : ℕ) (r : RowForm) → IsRowWithin views metrics l n r → Passes views metrics limit.Coefficient l → ⊥
within_small views metrics l n r is passes = passes.1 is.within.small

pub rows_few : (views : List LiveView) (metrics : MetricList) (lines : List Linear) (first : ℕ) (rows : List RowForm) → AreRowsOf views metrics lines first rows → NonePass views metrics lines limit.Attributes
rows_few views metrics [] first rows are = All-nil (λ (l : Linear). Passes views metrics limit.Attributes l → ⊥)
rows_few views metrics (x ∷ lines) first [] are = absurd are
rows_few views metrics (x ∷ lines) first (y ∷ rows) are =
    All-cons (λ (l : Linear). Passes views metrics limit.Attributes l → ⊥) x lines (within_few views metrics x first y are.0) (rows_few views metrics lines (first + 1) rows are.1)

pub rows_small : (views : List LiveView) (metrics : MetricList) (lines : List Linear) (first : ℕ) (rows : List RowForm) → AreRowsOf views metrics lines first rows → NonePass views metrics lines limit.Coefficient
rows_small views metrics [] first rows are = All-nil (λ (l : Linear). Passes views metrics limit.Coefficient l → ⊥)
rows_small views metrics (x ∷ lines) first [] are = absurd are
rows_small views metrics (x ∷ lines) first (y ∷ rows) are =
    All-cons (λ (l : Linear). Passes views metrics limit.Coefficient l → ⊥) x lines (within_small views metrics x first y are.0) (rows_small views metrics lines (first + 1) rows are.1)

-- ---- limits

none_push : (views : List LiveView) (metrics : MetricList) (lines : List Linear) (l : Linear) (word : LimitWord) → NonePass views metrics lines word → (Passes views metrics word l → ⊥) → NonePass views metrics (lines ++ l ∷ []) word
none_push views metrics lines l word none never = All-push (λ (x : Linear). Passes views metrics word x → ⊥) lines l none never

-- one more line with its row
pub found_row : (views : List LiveView) (metrics : MetricList) (lines : List Linear) (l : Linear) (first n : ℕ) (rows : List RowForm) (r : RowForm) (past : Option LimitWord) → n ≡ first + length lines → IsRowWithin views metrics l n r → IsFound views metrics lines first rows past → IsFound views metrics (lines ++ l ∷ []) first (rows ++ r ∷ []) past
found_row views metrics lines l first n rows r None same is found = rows_push views metrics lines l first rows r found (subst (λ (k : ℕ). IsRowWithin views metrics l k r) same is)
found_row views metrics lines l first n rows r (Some limit.Coefficient) same is found =
    (none_push views metrics lines l limit.Attributes found.0 (within_few views metrics l n r is), any_more (Passes views metrics limit.Coefficient) lines l found.1)
found_row views metrics lines l first n rows r (Some limit.Constant) same is found =
    (none_push views metrics lines l limit.Attributes found.0 (within_few views metrics l n r is), none_push views metrics lines l limit.Coefficient found.1 (within_small views metrics l n r is), any_more (Passes views metrics limit.Constant) lines l found.2)
found_row views metrics lines l first n rows r (Some limit.Line) same is found = absurd found
found_row views metrics lines l first n rows r (Some limit.Name) same is found = absurd found
found_row views metrics lines l first n rows r (Some limit.Views) same is found = absurd found
found_row views metrics lines l first n rows r (Some limit.Depth) same is found = absurd found
found_row views metrics lines l first n rows r (Some limit.Metrics) same is found = absurd found
found_row views metrics lines l first n rows r (Some limit.Lines) same is found = absurd found
found_row views metrics lines l first n rows r (Some limit.Rows) same is found = absurd found
found_row views metrics lines l first n rows r (Some limit.Terms) same is found = absurd found
found_row views metrics lines l first n rows r (Some limit.Attributes) same is found = absurd found
found_row views metrics lines l first n rows r (Some limit.Budget) same is found = absurd found

found_few : (views : List LiveView) (metrics : MetricList) (lines : List Linear) (first : ℕ) (rows : List RowForm) (past : Option LimitWord) → IsFound views metrics lines first rows past → NonePass views metrics lines limit.Attributes
found_few views metrics lines first rows None found = rows_few views metrics lines first rows found
found_few views metrics lines first rows (Some limit.Coefficient) found = found.0
found_few views metrics lines first rows (Some limit.Constant) found = found.0
found_few views metrics lines first rows (Some limit.Line) found = absurd found
found_few views metrics lines first rows (Some limit.Name) found = absurd found
found_few views metrics lines first rows (Some limit.Views) found = absurd found
found_few views metrics lines first rows (Some limit.Depth) found = absurd found
found_few views metrics lines first rows (Some limit.Metrics) found = absurd found
found_few views metrics lines first rows (Some limit.Lines) found = absurd found
found_few views metrics lines first rows (Some limit.Rows) found = absurd found
found_few views metrics lines first rows (Some limit.Terms) found = absurd found
found_few views metrics lines first rows (Some limit.Attributes) found = absurd found
found_few views metrics lines first rows (Some limit.Budget) found = absurd found

-- one more line with a coefficient past its limit
pub found_coefficient : (views : List LiveView) (metrics : MetricList) (lines : List Linear) (l : Linear) (first : ℕ) (rows more : List RowForm) (past : Option LimitWord) → Passes views metrics limit.Coefficient l → IsFound views metrics lines first rows past → IsFound views metrics (lines ++ l ∷ []) first more (Some limit.Coefficient)
found_coefficient views metrics lines l first rows more past passes found =
    (none_push views metrics lines l limit.Attributes (found_few views metrics lines first rows past found) passes.0, Any-push (Passes views metrics limit.Coefficient) lines l passes)

-- one more line with a constant past its limit, where no line before passes a limit
pub found_constant : (views : List LiveView) (metrics : MetricList) (lines : List Linear) (l : Linear) (first : ℕ) (rows more : List RowForm) → Passes views metrics limit.Constant l → AreRowsOf views metrics lines first rows → IsFound views metrics (lines ++ l ∷ []) first more (Some limit.Constant)
found_constant views metrics lines l first rows more passes are = (
  none_push views metrics lines l limit.Attributes (rows_few views metrics lines first rows are) passes.0,
  none_push views metrics lines l limit.Coefficient (rows_small views metrics lines first rows are) (λ other. other.1 passes.1),
  Any-push (Passes views metrics limit.Constant) lines l passes,
)

-- and where one does
pub found_constant_too : (views : List LiveView) (metrics : MetricList) (lines : List Linear) (l : Linear) (first : ℕ) (rows more : List RowForm) (word : LimitWord) → Passes views metrics limit.Constant l → IsFound views metrics lines first rows (Some word) → IsFound views metrics (lines ++ l ∷ []) first more (Some word)
found_constant_too views metrics lines l first rows more limit.Coefficient passes found =
    (none_push views metrics lines l limit.Attributes found.0 passes.0, any_more (Passes views metrics limit.Coefficient) lines l found.1)
found_constant_too views metrics lines l first rows more limit.Constant passes found =
    (none_push views metrics lines l limit.Attributes found.0 passes.0, none_push views metrics lines l limit.Coefficient found.1 (λ other. other.1 passes.1), any_more (Passes views metrics limit.Constant) lines l found.2)
found_constant_too views metrics lines l first rows more limit.Line passes found = absurd found
found_constant_too views metrics lines l first rows more limit.Name passes found = absurd found
found_constant_too views metrics lines l first rows more limit.Views passes found = absurd found
found_constant_too views metrics lines l first rows more limit.Depth passes found = absurd found
found_constant_too views metrics lines l first rows more limit.Metrics passes found = absurd found
found_constant_too views metrics lines l first rows more limit.Lines passes found = absurd found
found_constant_too views metrics lines l first rows more limit.Rows passes found = absurd found
found_constant_too views metrics lines l first rows more limit.Terms passes found = absurd found
found_constant_too views metrics lines l first rows more limit.Attributes passes found = absurd found
found_constant_too views metrics lines l first rows more limit.Budget passes found = absurd found

-- a row that passes a limit which isn't the first of all
pub found_stop : (views : List LiveView) (metrics : MetricList) (lines : List Linear) (l : Linear) (first : ℕ) (rows more : List RowForm) (past : Option LimitWord) (stop : CompileStop) → IsLater stop → IsRowStop views metrics (terms_of l) stop → IsFound views metrics lines first rows past → IsFound views metrics (lines ++ l ∷ []) first more (noted past stop)
found_stop views metrics lines l first rows more past (Limit limit.Coefficient) later stop found = found_coefficient views metrics lines l first rows more past stop found
found_stop views metrics lines l first rows more None (Limit limit.Constant) later stop found = found_constant views metrics lines l first rows more stop found
found_stop views metrics lines l first rows more (Some word) (Limit limit.Constant) later stop found = found_constant_too views metrics lines l first rows more word stop found
found_stop views metrics lines l first rows more past (Limit limit.Line) later stop found = absurd later
found_stop views metrics lines l first rows more past (Limit limit.Name) later stop found = absurd later
found_stop views metrics lines l first rows more past (Limit limit.Views) later stop found = absurd later
found_stop views metrics lines l first rows more past (Limit limit.Depth) later stop found = absurd later
found_stop views metrics lines l first rows more past (Limit limit.Metrics) later stop found = absurd later
found_stop views metrics lines l first rows more past (Limit limit.Lines) later stop found = absurd later
found_stop views metrics lines l first rows more past (Limit limit.Rows) later stop found = absurd later
found_stop views metrics lines l first rows more past (Limit limit.Terms) later stop found = absurd later
found_stop views metrics lines l first rows more past (Limit limit.Attributes) later stop found = absurd later
found_stop views metrics lines l first rows more past (Limit limit.Budget) later stop found = absurd later
found_stop views metrics lines l first rows more past OutOfMemory later stop found = absurd later
found_stop views metrics lines l first rows more past (Unknown name) later stop found = absurd later
found_stop views metrics lines l first rows more past (Kind word) later stop found = absurd later

-- what was found is a limit that the lines pass first
pub found_passes : (views : List LiveView) (metrics : MetricList) (lines : List Linear) (first : ℕ) (rows : List RowForm) (word : LimitWord) → IsFound views metrics lines first rows (Some word) → PassesFirst views metrics lines word
found_passes views metrics lines first rows limit.Coefficient found = found
found_passes views metrics lines first rows limit.Constant found = found
found_passes views metrics lines first rows limit.Line found = absurd found
found_passes views metrics lines first rows limit.Name found = absurd found
found_passes views metrics lines first rows limit.Views found = absurd found
found_passes views metrics lines first rows limit.Depth found = absurd found
found_passes views metrics lines first rows limit.Metrics found = absurd found
found_passes views metrics lines first rows limit.Lines found = absurd found
found_passes views metrics lines first rows limit.Rows found = absurd found
found_passes views metrics lines first rows limit.Terms found = absurd found
found_passes views metrics lines first rows limit.Attributes found = absurd found
found_passes views metrics lines first rows limit.Budget found = absurd found

-- ---- parts

lines_append : (views : List LiveView) (ps qs : List Part) → lines_of views (ps ++ qs) ≡ lines_of views ps ++ lines_of views qs
lines_append views [] qs = refl
lines_append views (View name ∷ ps) qs = lines_append views ps qs
lines_append views (Bar name ∷ ps) qs = lines_append views ps qs
lines_append views (Asks span pred ∷ ps) qs = ap (λ (ls : List Linear). line_of views span pred ∷ ls) (lines_append views ps qs)

any_within : {A : Type 0} (P : A → Type 0) (xs ys zs : List A) → Any P ys → Any P (xs ++ (ys ++ zs))
any_within {A} P xs ys zs any = (length xs + any.0, any.1, grind (arith, common_steps, any.2), grind (arith, common_steps, any.2, any.3), any.4)

-- a line among others whose row passes the first limit of all
pub line_ends : (views : List LiveView) (metrics : MetricList) (before behind : List Linear) (l : Linear) (stop : CompileStop) → EndsRows views metrics (l ∷ []) stop → HaveNoRows views metrics (before ++ l ∷ behind) stop
line_ends views metrics before behind l (Limit limit.Attributes) ends = any_within (Passes views metrics limit.Attributes) before (l ∷ []) behind ends
line_ends views metrics before behind l (Limit limit.Coefficient) ends = absurd ends
line_ends views metrics before behind l (Limit limit.Constant) ends = absurd ends
line_ends views metrics before behind l (Limit limit.Line) ends = absurd ends
line_ends views metrics before behind l (Limit limit.Name) ends = absurd ends
line_ends views metrics before behind l (Limit limit.Views) ends = absurd ends
line_ends views metrics before behind l (Limit limit.Depth) ends = absurd ends
line_ends views metrics before behind l (Limit limit.Metrics) ends = absurd ends
line_ends views metrics before behind l (Limit limit.Lines) ends = absurd ends
line_ends views metrics before behind l (Limit limit.Rows) ends = absurd ends
line_ends views metrics before behind l (Limit limit.Terms) ends = absurd ends
line_ends views metrics before behind l (Limit limit.Budget) ends = absurd ends
line_ends views metrics before behind l OutOfMemory ends = tt
line_ends views metrics before behind l (Unknown name) ends = absurd ends
line_ends views metrics before behind l (Kind word) ends = absurd ends

-- ---- over the parts of the code

pub lines_more : (views : List LiveView) (ps : List declared_part.Part) (i : ℕ) (d : declared_part.Part) → i < length ps → lines_of views (parts_view (take (i + 1) ps)) ≡ lines_of views (parts_view (take i ps)) ++ lines_of views (part_view (get_or ps i d) ∷ [])
lines_more views ps i d within = ap (λ (qs : List declared_part.Part). lines_of views (parts_view qs)) (take_more ps i d within) ∙ ap (lines_of views) (map_push part_view (take i ps) (get_or ps i d)) ∙ lines_append views (parts_view (take i ps)) (part_view (get_or ps i d) ∷ [])

pub rest_at : (ps : List declared_part.Part) (i : ℕ) (d : declared_part.Part) → i < length ps → parts_view (drop i ps) ≡ part_view (get_or ps i d) ∷ parts_view (drop (i + 1) ps)
rest_at ps i d within = ap parts_view (drop_more ps i d within)

pub ranks_at : (views : List LiveView) (metrics : MetricList) (ps : List declared_part.Part) (i : ℕ) (d : declared_part.Part) → i < length ps → HaveRanks views metrics (parts_view ps) → HasPartRank views metrics (part_view (get_or ps i d))
ranks_at views metrics (p ∷ ps) zero d within ranks = ranks.0
ranks_at views metrics (p ∷ ps) (suc i) d within ranks = ranks_at views metrics ps i d (omega (arith, within)) ranks.1
ranks_at views metrics [] i d within ranks = absurd (omega (arith, within))

-- ---- formats

-- a format with nothing wrong whose lines have no rows
pub rows_stop : (views : List LiveView) (metrics : MetricList) (f : FormatMeaning) (align : Option Align) (d : Direction) (first : ℕ) (stop : CompileStop) → IsUsableFormat views metrics f.axis align (parts f align d) → (IsPastNumbers first (row_count views (parts f align d)) → ⊥) → HaveNoRows views metrics (lines_of views (parts f align d)) stop → MayStopFormat views metrics f align d first stop
rows_stop views metrics f align d first (Limit limit.Attributes) usable numbers none = (usable, (numbers, none))
rows_stop views metrics f align d first (Limit limit.Coefficient) usable numbers none = (usable, (numbers, none))
rows_stop views metrics f align d first (Limit limit.Constant) usable numbers none = (usable, (numbers, none))
rows_stop views metrics f align d first (Limit limit.Line) usable numbers none = absurd none
rows_stop views metrics f align d first (Limit limit.Name) usable numbers none = absurd none
rows_stop views metrics f align d first (Limit limit.Views) usable numbers none = absurd none
rows_stop views metrics f align d first (Limit limit.Depth) usable numbers none = absurd none
rows_stop views metrics f align d first (Limit limit.Metrics) usable numbers none = absurd none
rows_stop views metrics f align d first (Limit limit.Lines) usable numbers none = absurd none
rows_stop views metrics f align d first (Limit limit.Rows) usable numbers none = absurd none
rows_stop views metrics f align d first (Limit limit.Terms) usable numbers none = absurd none
rows_stop views metrics f align d first (Limit limit.Budget) usable numbers none = absurd none
rows_stop views metrics f align d first OutOfMemory usable numbers none = tt
rows_stop views metrics f align d first (Unknown name) usable numbers none = absurd none
rows_stop views metrics f align d first (Kind word) usable numbers none = absurd none

pub parts_stop : (views : List LiveView) (metrics : MetricList) (f : FormatMeaning) (align : Option Align) (d : Direction) (first : ℕ) (stop : CompileStop) (ps : List Part) → ps ≡ parts f align d → IsUsableFormat views metrics f.axis align ps → (IsPastNumbers first (row_count views ps) → ⊥) → HaveNoRows views metrics (lines_of views ps) stop → MayStopFormat views metrics f align d first stop
parts_stop views metrics f align d first stop ps same usable numbers none =
    rows_stop views metrics f align d first stop (subst (IsUsableFormat views metrics f.axis align) same usable) (subst (λ (qs : List Part). IsPastNumbers first (row_count views qs) → ⊥) same numbers) (subst (λ (qs : List Part). HaveNoRows views metrics (lines_of views qs) stop) same none)
