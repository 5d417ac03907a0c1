-- The script that is made for a seed: lines for many views, drawn one after the other.
use Rattle.std.specs.Prelude.{ℕ, zero, suc, ◌+◌, ◌-◌, List, [], ◌∷◌, ◌++◌, codes, decimal}
use Rattle.span_text.specs.Bytes.{newline}
use Rattle.make_script.specs.Draws.{next, drawn}
use Rattle.make_script.specs.declared.texts.TheConstants.{HEIGHT_BOUND, LEAST_HEIGHT, LEAST_PRIORITY}
use Rattle.make_script.specs.declared.texts.TheConstants.{LEAST_SUGGESTION, LEAST_WIDTH, LEFT_BOUND}
use Rattle.make_script.specs.declared.texts.TheConstants.{MORE_BOUND, PRIORITY_BOUND, SUGGESTION_BOUND}
use Rattle.make_script.specs.declared.texts.TheConstants.{WIDTH_BOUND}
use Rattle.make_script.specs.declared.part.Part.{Part}
use Rattle.make_script.specs.declared.part.Part.TheVariants.{Views, Sizes, Stacks, Widths, Suggestions}

-- `view vI`
unfoldable pub view_line : ℕ → List ℕ
view_line i = codes "view v" ++ (decimal i ++ newline ∷ [])

-- `vfl hI H:|-X-[vI(WIDTH@PRIORITY)]`
unfoldable pub size_line : ℕ → ℕ → ℕ → ℕ → List ℕ
size_line i x width priority = codes "vfl h" ++ (decimal i
    ++ (codes " H:|-" ++ (decimal x ++ (codes "-[v" ++ (decimal i
    ++ (codes "(" ++ (decimal width ++ (codes "@" ++ (decimal priority
    ++ (codes ")]" ++ newline ∷ []))))))))))

-- `vfl tI V:[vJ(HEIGHT)]-8-[vI]`, where J is I less 1
unfoldable pub stack_line : ℕ → ℕ → List ℕ
stack_line i height = codes "vfl t" ++ (decimal i ++ (codes " V:[v"
    ++ (decimal (i - 1) ++ (codes "(" ++ (decimal height
    ++ (codes ")]-8-[v" ++ (decimal i ++ (codes "]" ++ newline ∷ []))))))))

-- `constrain eI vI.width >= vJ.width + MORE @PRIORITY`, where J is I less 1
unfoldable pub width_line : ℕ → ℕ → ℕ → List ℕ
width_line i more priority = codes "constrain e" ++ (decimal i
    ++ (codes " v" ++ (decimal i ++ (codes ".width >= v"
    ++ (decimal (i - 1) ++ (codes ".width + " ++ (decimal more
    ++ (codes " @" ++ (decimal priority ++ newline ∷ [])))))))))

-- `suggest vI.width WIDTH`
unfoldable pub suggestion_line : ℕ → ℕ → List ℕ
suggestion_line i width = codes "suggest v" ++ (decimal i ++ (codes ".width " ++ (decimal width
    ++ newline ∷ [])))

-- the line of a part for the view of this number, drawn from this state
abbrev pub line_of : Part → ℕ → ℕ → List ℕ
line_of Views i s = view_line i
line_of Sizes i s = size_line i (drawn LEFT_BOUND (next s)) (LEAST_WIDTH + drawn WIDTH_BOUND (next (next s)))
    (LEAST_PRIORITY + drawn PRIORITY_BOUND (next (next (next s))))
line_of Stacks i s = stack_line i (LEAST_HEIGHT + drawn HEIGHT_BOUND (next s))
line_of Widths i s = width_line i (drawn MORE_BOUND (next s))
    (LEAST_PRIORITY + drawn PRIORITY_BOUND (next (next s)))
line_of Suggestions i s = suggestion_line i (LEAST_SUGGESTION + drawn SUGGESTION_BOUND (next s))

-- the state after that line
abbrev pub state_after : Part → ℕ → ℕ
state_after Views s = s
state_after Sizes s = next (next (next s))
state_after Stacks s = next s
state_after Widths s = next (next s)
state_after Suggestions s = next s

-- the lines of a part for so many views from this number on
abbrev pub part_of : Part → ℕ → ℕ → ℕ → List ℕ
part_of part zero i s = []
part_of part (suc more) i s = line_of part i s ++ part_of part more (i + 1) (state_after part s)

-- the state after them
abbrev pub after : Part → ℕ → ℕ → ℕ
after part zero s = s
after part (suc more) s = after part more (state_after part s)

-- the state after the sizes of the script
abbrev pub sized : ℕ → ℕ → ℕ
sized seed views = after Sizes views seed

-- the state after the stacks of the script, which come behind the sizes
abbrev pub stacked : ℕ → ℕ → ℕ
stacked seed views = after Stacks (views - 1) (sized seed views)

-- the state after the widths of the script, which come behind the stacks
abbrev pub widened : ℕ → ℕ → ℕ
widened seed views = after Widths (views - 1) (stacked seed views)

-- The script for a seed and a number of views.
unfoldable pub script : ℕ → ℕ → List ℕ
script seed views =
    codes "window 1000 1000\n" ++ (part_of Views views 1 seed ++ (part_of Sizes views 1 seed
    ++ (part_of Stacks (views - 1) 2 (sized seed views) ++ (part_of Widths (views - 1) 2 (stacked seed views)
    ++ (codes "window 800 600\n" ++ (part_of Suggestions views 1 (widened seed views) ++ codes "undo\n"))))))
