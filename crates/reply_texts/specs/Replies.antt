-- The text of replies.
use Rattle.std.specs.Prelude.{ℕ, Bool, List, [], ◌∷◌, ◌++◌, codes, decimal}
use Rattle.std.specs.List.{flat_map}
use Rattle.span_text.specs.Bytes.{newline, point, space}
use Rattle.frac_core.specs.Fraction.{Fraction}
use Rattle.problem_core.specs.declared.stops.Quantity.{Quantity}
use Rattle.name_tables.specs.declared.stops.LimitWord.{LimitWord}
use Rattle.name_tables.specs.declared.stops.LimitWord.TheVariants as word
use Rattle.compile_parts.specs.declared.stops.KindWord.{KindWord}
use Rattle.compile_parts.specs.declared.stops.KindWord.TheVariants as kind
use Rattle.view_tree.specs.Attributes.{left_of, top_of, width_of, height_of}
use Rattle.view_tree.specs.Views.{LiveView}
use Rattle.cert_core.specs.declared.by.By.{By}
use Rattle.cert_core.specs.Claims.{BestLevel}
use Rattle.cert_core.specs.Paths.{Path}
use Rattle.claim_writing.specs.Lines.{problem_text}
use Rattle.claim_writing.specs.ClaimLines.{claim_text}
use Rattle.claim_writing.specs.declared.claim.Claim.TheVariants.{IsBest, IsConflict}
use Rattle.claim_writing.specs.PathTexts.{path_text, unfit_text}
use Rattle.scenes.specs.Scene.{Scene, problem_of, values_by_number}
use Rattle.session_undo.specs.Replies.{Reply, Nothing, Done, Frames, Rows, Outside, Unknown, Taken, Limit}
use Rattle.session_undo.specs.Replies.{Certificate, Kind, Conflict, NoEarlier, Overflow, Spent, Place, Step}
use Rattle.session_undo.specs.Replies.{Still}
use Rattle.session_undo.specs.Replies.{Core, Diagnosed, Held, Solvable, NoTarget, Probe}
use Rattle.session_undo.specs.Replies.{Sweep, SweepOverflow, Swept}
use Rattle.diagnosis.specs.Diagnoses.{Findings}
use Rattle.reply_texts.specs.Frames.{frame_text}
use Rattle.reply_texts.specs.Found.{findings_text, probe_line}
use Rattle.reply_texts.specs.Cores.{core_lines, id_line}
use Rattle.sweep_laws.specs.Stretches.{Stretch}
use Rattle.reply_texts.specs.Swept.{far_text, stretch_text, width_line}

-- the word that names a limit
abbrev pub limit_text : LimitWord → List ℕ
limit_text word.Line = codes "line"
limit_text word.Name = codes "name"
limit_text word.Views = codes "views"
limit_text word.Depth = codes "depth"
limit_text word.Metrics = codes "metrics"
limit_text word.Lines = codes "lines"
limit_text word.Rows = codes "rows"
limit_text word.Terms = codes "terms"
limit_text word.Attributes = codes "attributes"
limit_text word.Coefficient = codes "coefficient"
limit_text word.Constant = codes "constant"
limit_text word.Budget = codes "budget"

-- the word that names a wrong use
abbrev pub kind_text : KindWord → List ℕ
kind_text kind.Align = codes "align"
kind_text kind.Parent = codes "parent"
kind_text kind.Object = codes "object"
kind_text kind.Priority = codes "priority"
kind_text kind.Weight = codes "weight"
kind_text kind.Window = codes "window"
kind_text kind.Suggested = codes "suggested"
kind_text kind.Sized = codes "sized"
kind_text kind.Tree = codes "tree"
kind_text kind.Sweep = codes "sweep"

-- `# ID NAME.ATTR`
unfoldable pub name_line : ℕ → List ℕ → List ℕ → List ℕ
name_line attr name word = codes "# "
    ++ (decimal attr ++ (space ∷ (name ++ (point ∷ (word ++ newline ∷ [])))))

-- the lines that name a view's attributes
abbrev pub name_lines : LiveView → List ℕ
name_lines v = name_line (left_of v.id) v.name (codes "left")
    ++ (name_line (top_of v.id) v.name (codes "top")
    ++ (name_line (width_of v.id) v.name (codes "width")
    ++ name_line (height_of v.id) v.name (codes "height")))

-- these bytes, ended as a line
abbrev pub line_of : List ℕ → List ℕ
line_of bytes = bytes ++ newline ∷ []

-- the frame of each view, a line each, and `ok`
abbrev pub frames_text : Scene → List ℕ
frames_text scene = flat_map (frame_text scene.values) scene.tree.views ++ line_of (codes "ok")

-- the names of the views' attributes, the rows and stays, and `ok`
abbrev pub rows_text : Scene → List ℕ
rows_text scene = flat_map name_lines scene.tree.views
    ++ (problem_text (problem_of scene) ++ line_of (codes "ok"))

-- the lines of `rows`, the values by attribute number, and the multipliers of each level
abbrev pub certificate_text : Scene → List BestLevel → List ℕ
certificate_text scene levels = flat_map name_lines scene.tree.views
    ++ (problem_text (problem_of scene)
    ++ (claim_text (IsBest (values_by_number scene) levels) ++ line_of (codes "ok")))

-- the multipliers, each on a line `by TIMES row ID`
abbrev pub conflict_text : List By → List ℕ
conflict_text by = codes "refused 6 " ++ claim_text (IsConflict by)

-- `still ID`
abbrev pub still_line : ℕ → List ℕ
still_line = id_line (codes "still ")

-- `held ID`
abbrev pub held_line : ℕ → List ℕ
held_line = id_line (codes "held ")

-- the lines before the path: none if the command's own run stops
abbrev pub place_text : List LiveView → Place → List ℕ
place_text views Step = []
place_text views (Still ids) = flat_map still_line ids
place_text views (Probe attr up) = probe_line views attr up
place_text views (Held ids) = flat_map held_line ids
place_text views (Sweep width) = width_line width

-- a quantity doesn't fit: what had stopped, the path, and the quantity
abbrev pub overflow_text : List LiveView → Place → Path → Quantity → List ℕ
overflow_text views place path quantity = line_of (codes "refused 7 overflow")
    ++ (place_text views place ++ (path_text path ++ unfit_text quantity))

-- the exchanges are used up: what had stopped, and the path
abbrev pub spent_text : List LiveView → Place → Path → List ℕ
spent_text views place path = line_of (codes "refused 8 spent") ++ (place_text views place ++ path_text path)

-- the wished value of a probe doesn't fit
abbrev pub target_text : List LiveView → ℕ → Bool → List ℕ
target_text views attr up = line_of (codes "refused 7 overflow")
    ++ (probe_line views attr up ++ line_of (codes "unfit target"))

-- the lines of the findings of the scene, and `ok`
abbrev pub diagnosis_text : Scene → Findings → List ℕ
diagnosis_text scene findings = findings_text scene.tree.views findings ++ line_of (codes "ok")

-- `no conflict`, and `ok`
abbrev pub no_conflict_text : List ℕ
no_conflict_text = line_of (codes "no conflict") ++ line_of (codes "ok")

-- the lines of the core, and `ok`
abbrev pub core_text : List ℕ → List By → List (ℕ × List (ℕ × Fraction)) → List ℕ
core_text ids by values = core_lines ids by values ++ line_of (codes "ok")

-- the lines of the stretches, and `ok`
abbrev pub sweep_text : Scene → List Stretch → List ℕ
sweep_text scene stretches = flat_map (stretch_text scene.tree.views) stretches ++ line_of (codes "ok")

-- the text of a refusal; these are the views
abbrev pub refusal_text : List LiveView → Reply → List ℕ
refusal_text views Nothing = []
refusal_text views Done = []
refusal_text views Frames = []
refusal_text views Rows = []
refusal_text views (Certificate levels) = []
refusal_text views (Diagnosed findings) = []
refusal_text views Solvable = []
refusal_text views (Core ids by values) = []
refusal_text views (Swept stretches) = []
refusal_text views (Outside at) = codes "refused 1 syntax " ++ (decimal at ++ newline ∷ [])
refusal_text views (Unknown name) = codes "refused 2 unknown " ++ (name ++ newline ∷ [])
refusal_text views (Taken name) = codes "refused 3 taken " ++ (name ++ newline ∷ [])
refusal_text views (Limit word) = codes "refused 4 limit " ++ (limit_text word ++ newline ∷ [])
refusal_text views (Kind word) = codes "refused 5 kind " ++ (kind_text word ++ newline ∷ [])
refusal_text views (Conflict by) = conflict_text by
refusal_text views NoEarlier = codes "refused 9 " ++ (codes "undo" ++ newline ∷ [])
refusal_text views (Overflow place path quantity) = overflow_text views place path quantity
refusal_text views (Spent place path) = spent_text views place path
refusal_text views (NoTarget attr up) = target_text views attr up
refusal_text views (SweepOverflow width path what) = far_text width path what

-- the text of a reply; the scene is the one after the line
abbrev pub text_of : Scene → Reply → List ℕ
text_of scene Nothing = []
text_of scene Done = line_of (codes "ok")
text_of scene Frames = frames_text scene
text_of scene Rows = rows_text scene
text_of scene (Certificate levels) = certificate_text scene levels
text_of scene (Diagnosed findings) = diagnosis_text scene findings
text_of scene Solvable = no_conflict_text
text_of scene (Core ids by values) = core_text ids by values
text_of scene (Swept stretches) = sweep_text scene stretches
text_of scene refusal = refusal_text scene.tree.views refusal
