-- The text of the findings of a scene, and of the probe that stopped.
use Rattle.std.specs.Prelude.{ℕ, Bool, true, false, cond, nat_eq, List, [], ◌∷◌, ◌++◌, codes, decimal}
use Rattle.std.specs.Prelude.{Option, Some, None}
use Rattle.std.specs.List.{flat_map}
use Rattle.span_text.specs.Bytes.{newline, point, space}
use Rattle.frac_core.specs.Fraction.{Fraction}
use Rattle.frac_core.specs.Text.{fraction_text}
use Rattle.view_tree.specs.Attributes.{left_of, top_of, width_of, height_of}
use Rattle.view_tree.specs.Views.{LiveView}
use Rattle.diagnosis.specs.Diagnoses.{Findings}

-- the word of an attribute, if it is one of the view of this number
abbrev pub word_at : ℕ → ℕ → Option (List ℕ)
word_at id attr =
    cond (nat_eq attr (left_of id)) (Some (codes "left"))
    (cond (nat_eq attr (top_of id)) (Some (codes "top"))
    (cond (nat_eq attr (width_of id)) (Some (codes "width"))
    (cond (nat_eq attr (height_of id)) (Some (codes "height")) None)))

-- the view's name, a dot and the word; if there is no word, the other name
abbrev pub name_or : List ℕ → Option (List ℕ) → List ℕ → List ℕ
name_or name None other = other
name_or name (Some word) other = name ++ (point ∷ word)

-- the name of an attribute of one of these views
abbrev pub attr_name : List LiveView → ℕ → List ℕ
attr_name [] attr = []
attr_name (v ∷ views) attr = name_or v.name (word_at v.id attr) (attr_name views attr)

-- a word, a number or a name, and a value
unfoldable pub found_line : List ℕ → List ℕ → Fraction → List ℕ
found_line word name f = word ++ (name ++ (space ∷ (fraction_text f ++ newline ∷ [])))

-- `error P SUM`
abbrev pub error_line : ℕ × Fraction → List ℕ
error_line e = found_line (codes "error ") (decimal e.0) e.1

-- `unmet ID ERROR`
abbrev pub unmet_line : ℕ × Fraction → List ℕ
unmet_line e = found_line (codes "unmet ") (decimal e.0) e.1

-- `ambiguous NAME.ATTR VALUE`
abbrev pub moving_line : List LiveView → ℕ × Fraction → List ℕ
moving_line views m = found_line (codes "ambiguous ") (attr_name views m.0) m.1

-- the lines of the findings: the errors, then the unmet rows, then the ambiguous attributes
abbrev pub findings_text : List LiveView → Findings → List ℕ
findings_text views f = flat_map error_line f.errors
    ++ (flat_map unmet_line f.unmet ++ flat_map (moving_line views) f.moving)

-- a probe's direction, after a space
abbrev pub way_text : Bool → List ℕ
way_text true = codes " up"
way_text false = codes " down"

-- `probe NAME.ATTR up`, or `down`
abbrev pub probe_line : List LiveView → ℕ → Bool → List ℕ
probe_line views attr up = codes "probe " ++ (attr_name views attr ++ (way_text up ++ newline ∷ []))
