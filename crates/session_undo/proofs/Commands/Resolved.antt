-- A change is refused for a cause, or comes to the end of a draft. This is the one place that goes through all changes: a cause is told, changes nothing and stays one whatever the end; and where there is none, each other end of the same draft is one of the change.
use Rattle.std.proofs.Common.{◌≡◌, ◌∙◌, ◌⊎◌, inl, inr, ℕ, Bool, true, false, List, Option, None, Some, refl, ap}
use Rattle.frac_core.specs.Fraction.{Fraction}
use Rattle.span_text.specs.Objects.{Meant}
use Rattle.view_tree.specs.Drops.{AreGoing}
use Rattle.view_tree.specs.JsonStops.{GoesIn}
use Rattle.view_tree.specs.JsonTrees.{IsTreeText, JsonTree}
use Rattle.view_tree.specs.Views.{LiveView, view_named}
use Rattle.script_text.specs.Directions.{line_in}
use Rattle.script_text.specs.Meaning.{Change}
use Rattle.script_text.specs.Meaning as mean
use Rattle.script_text.specs.declared.words.AttrWord.{AttrWord}
use Rattle.name_tables.specs.declared.stops.LimitWord.TheVariants as word
use Rattle.compile_parts.specs.Fractions.{IsConstant, negated}
use Rattle.compile_parts.specs.Meaning.{IsRank}
use Rattle.compile_parts.specs.declared.stops.CompileStop.{CompileStop}
use Rattle.compile_parts.specs.declared.stops.KindWord.TheVariants as kind
use Rattle.constraint_compile.specs.Compiled.{CompiledLine}
use Rattle.constraint_compile.specs.Stops.{IsCompiled, MayStop}
use Rattle.constraint_compile.specs.Suggestions.{scale_of, suggested_priority}
use Rattle.constraint_compile.specs.declared.suggestion.Suggestion.{Suggestion}
use Rattle.format_compile.specs.FormatRows.{IsCompiledFormat, MayStopFormat}
use Rattle.format_compile.specs.FormatParts.{parts}
use Rattle.format_compile.specs.FormatStops.{row_count}
use Rattle.held_items.specs.Items.{intrinsic_name, intrinsic_of, suggestion_name, suggestion_of}
use Rattle.held_items.specs.declared.item.intrinsic.IntrinsicSize.{IntrinsicSize}
use Rattle.scenes.specs.Leaving.{without_group, without_intrinsic, without_suggestion, without_views}
use Rattle.scenes.specs.Scene.{Scene, with_branch, with_direction, with_intrinsic, with_kept, with_line, with_metric, with_preferred, with_suggested, with_suggestion, with_view, with_window}
use Rattle.session_undo.specs.Adding.{NoEnd}
use Rattle.session_undo.specs.Machine.{AddsBranch, AddsLine, AddsTree, AddsView, DropsView, KeepsOf, ReleasesOf, Sizes, SizesFor, Suggests, SuggestsFor, Tried, TriedDrop, TriedKeep, TriedLine, TriedMetric, TriedRelease, TriedRemove, TriedSize, TriedSuggest, TriedTree, TriedUnsize, TriedView, TriedWindow, UnlessFar, UnsizesOf, hugging, intrinsic_at, parent_name, resisting}
use Rattle.session_undo.specs.Replies.{Kind, Limit, NoEarlier, Outside, Reply, Taken, Unknown}
use Rattle.session_undo.specs.State.{State}

-- ---- drafts

-- the first suggestion of an attribute, with this constant
abbrev pub suggestion_at : State → ℕ → AttrWord → ℕ → Fraction → Suggestion
suggestion_at old view attr rank c = record { row = old.scene.next_row; rank = rank; view = view; word = attr; direction = old.scene.direction; constant = c }

-- with this constant in a row that is new, or in the one that is held
abbrev pub suggested_draft : State → ℕ → AttrWord → ℕ → Option Suggestion → Fraction → Scene
suggested_draft old view attr rank None c = with_suggestion old.scene (suggestion_at old view attr rank c)
suggested_draft old view attr rank (Some held) c = with_suggested old.scene view attr c

-- with this size in rows that are new, or in those that are held
abbrev pub sized_draft : State → ℕ → Fraction → Fraction → ℕ → ℕ → Option IntrinsicSize → Scene
sized_draft old view width height hugs resists None = with_intrinsic old.scene (intrinsic_at old.scene.next_row view width height hugs resists)
sized_draft old view width height hugs resists (Some held) = with_preferred old.scene view width height

-- the change makes this draft, unless a cause is against it
abbrev pub Makes : State → Change → Scene → Type 0
Makes old (mean.Views (mean.View name parent)) d = (above : LiveView) × (view_named old.scene.tree.views (parent_name parent) ≡ Some above) × (d ≡ with_view old.scene name above.id)
Makes old (mean.Views (mean.Tree text start)) d = (tree : JsonTree) × (parent : ℕ) × IsTreeText text tree × GoesIn old.scene.tree tree parent × (d ≡ with_branch old.scene parent tree.branch)
Makes old (mean.Update (mean.Metric name value)) d = d ≡ with_metric old.scene name value
Makes old (mean.Update (mean.Window width height)) d = d ≡ with_window old.scene width height
Makes old (mean.Update (mean.Constrain group line)) d = (c : CompiledLine) × IsCompiled old.scene.tree.views old.scene.metrics (line_in old.scene.direction line) old.scene.next_row c × (d ≡ with_line old.scene group c)
Makes old (mean.Update (mean.Vfl group align format)) d = (c : CompiledLine) × IsCompiledFormat old.scene.tree.views old.scene.metrics format align old.scene.direction old.scene.next_row c × (d ≡ with_line old.scene group c)
Makes old (mean.Update (mean.Suggest name attr value priority)) d = (view : LiveView) × (rank : ℕ) × (c : Fraction) × (view_named old.scene.tree.views name ≡ Some view) × IsRank old.scene.tree.views old.scene.metrics (suggested_priority priority) rank × IsConstant (scale_of attr) (negated value) c × (d ≡ suggested_draft old view.id attr rank (suggestion_of view.id attr old.scene.held) c)
Makes old (mean.Update (mean.Size name width height hug resist)) d = (view : LiveView) × (hugs resists : ℕ) × (view_named old.scene.tree.views name ≡ Some view) × IsRank old.scene.tree.views old.scene.metrics (hugging hug) hugs × IsRank old.scene.tree.views old.scene.metrics (resisting resist) resists × (d ≡ sized_draft old view.id width height hugs resists (intrinsic_of view.id old.scene.held))
Makes old (mean.Leave (mean.Drop name)) d = (root : LiveView) × (gone : List ℕ) × (view_named old.scene.tree.views name ≡ Some root) × AreGoing old.scene.tree.views root.id gone × (d ≡ without_views old.scene gone)
Makes old (mean.Leave (mean.Remove group)) d = d ≡ without_group old.scene group
Makes old (mean.Leave (mean.Release name attr)) d = (view : LiveView) × (view_named old.scene.tree.views name ≡ Some view) × (d ≡ without_suggestion old.scene view.id attr)
Makes old (mean.Leave (mean.Unsize name)) d = (view : LiveView) × (view_named old.scene.tree.views name ≡ Some view) × (d ≡ without_intrinsic old.scene view.id)
Makes old (mean.Turn to) d = d ≡ with_direction old.scene to
Makes old (mean.Keep name) d = (view : LiveView) × (view_named old.scene.tree.views name ≡ Some view) × (d ≡ with_kept old.scene view.id)

-- ---- what a change comes to

-- the reply tells a cause
abbrev pub is_cause : Reply → Bool
is_cause (Outside at) = true
is_cause (Unknown name) = true
is_cause (Taken name) = true
is_cause (Limit limit) = true
is_cause (Kind wrong) = true
is_cause NoEarlier = true
is_cause _ = false

-- of the end E with this reply and session, and of other ends with others
module _ (old : State) (I : Type 0) (E : Scene → Reply → State → Type 0) (F : I → Scene → Reply → State → Type 0) (r q : Reply) (s t : State) where
  -- a cause: N says it of no end, G of each other; or the end of a draft that is made so, whose other ends come to H
  abbrev pub Comes : (Scene → Type 0) → Type 0 → (I → Type 0) → (I → Type 0) → Type 0
  Comes Is N G H = ((is_cause r ≡ true) × (s ≡ old) × N × ((i : I) → G i)) ⊎ ((d : Scene) × Is d × E d r s × ((i : I) → F i d q t → H i))

  -- past a cause
  past : {X N A C : Type 0} {G H : I → Type 0} {Is : Scene → Type 0} (refusal : Reply) → is_cause refusal ≡ true → (A → Comes Is C G H) → (X × (r ≡ refusal) × (s ≡ old)) ⊎ (N × A)
      → Comes Is ((X × (r ≡ refusal) × (s ≡ old)) ⊎ (N × C)) (λ i. (X × (r ≡ refusal) × (s ≡ old)) ⊎ (N × G i)) (λ i. (X × (q ≡ refusal) × (t ≡ old)) ⊎ (N × H i))
  past refusal bad f (inl x) = inl (ap is_cause x.1 ∙ bad, x.2, inl x, λ i. inl x)
  past refusal bad f (inr x) = elim (f x.1) [
    | inl c ↦ inl (c.0, c.1, inr (x.0, c.2), λ i. inr (x.0, c.3 i))
    | inr h ↦ inr (h.0, h.1, h.2, λ i end. inr (x.0, h.3 i end))
  ]

  past-any : {X N A C : Type 0} {G H : I → Type 0} {IsCause : X → Type 0} {Is : Scene → Type 0} (refusal : X → Reply) → ((x : X) → is_cause (refusal x) ≡ true) → (A → Comes Is C G H) → ((x : X) × IsCause x × (r ≡ refusal x) × (s ≡ old)) ⊎ (N × A)
      → Comes Is (((x : X) × IsCause x × (r ≡ refusal x) × (s ≡ old)) ⊎ (N × C)) (λ i. ((x : X) × IsCause x × (r ≡ refusal x) × (s ≡ old)) ⊎ (N × G i)) (λ i. ((x : X) × IsCause x × (q ≡ refusal x) × (t ≡ old)) ⊎ (N × H i))
  past-any refusal bad f (inl x) = inl (ap is_cause x.2 ∙ bad x.0, x.3, inl x, λ i. inl x)
  past-any refusal bad f (inr x) = elim (f x.1) [
    | inl c ↦ inl (c.0, c.1, inr (x.0, c.2), λ i. inr (x.0, c.3 i))
    | inr h ↦ inr (h.0, h.1, h.2, λ i end. inr (x.0, h.3 i end))
  ]

  -- the same beside what else is known
  beside : {Is As : Scene → Type 0} {N M : Type 0} {G H K L : I → Type 0} → ((d : Scene) → Is d → As d) → (N → M) → ((i : I) → G i → K i) → ((i : I) → H i → L i) → Comes Is N G H → Comes As M K L
  beside is n g h (inl c) = inl (c.0, c.1, n c.2, λ i. g i (c.3 i))
  beside is n g h (inr x) = inr (x.0, is x.0 x.1, x.2, λ i end. h i (x.3 i end))

  -- the end of this draft
  ends : (d : Scene) → E d r s → Comes (λ e. e ≡ d) (NoEnd d r s) (λ i. F i d r s) (λ i. F i d q t)
  ends d e = inr (d, refl, e, λ i end. end)

  -- ---- views

  add-view : (name parent : List ℕ) → AddsView old name parent E r s
      → Comes (λ d. (above : LiveView) × (view_named old.scene.tree.views parent ≡ Some above) × (d ≡ with_view old.scene name above.id)) (AddsView old name parent NoEnd r s) (λ i. AddsView old name parent (F i) r s) (λ i. AddsView old name parent (F i) q t)
  add-view name parent x =
      beside (λ d is. (x.0, x.1, is)) (λ n. (x.0, x.1, n)) (λ i g. (x.0, x.1, g)) (λ i h. (x.0, x.1, h)) (ends (with_view old.scene name x.0.id) x.2)

  come-view : (name : List ℕ) (parent : Option (List ℕ)) → TriedView old name (parent_name parent) E r s
      → Comes (Makes old (mean.Views (mean.View name parent))) (TriedView old name (parent_name parent) NoEnd r s) (λ i. TriedView old name (parent_name parent) (F i) r s) (λ i. TriedView old name (parent_name parent) (F i) q t)
  come-view name parent =
      past (Unknown (parent_name parent)) refl (past (Taken name) refl (past (Limit word.Name) refl (past (Limit word.Views) refl (past (Limit word.Depth) refl
      (past (Limit word.Rows) refl (add-view name (parent_name parent)))))))

  add-branch : (tree : JsonTree) → AddsBranch old tree E r s
      → Comes (λ d. (parent : ℕ) × GoesIn old.scene.tree tree parent × (d ≡ with_branch old.scene parent tree.branch)) (AddsBranch old tree NoEnd r s) (λ i. AddsBranch old tree (F i) r s) (λ i. AddsBranch old tree (F i) q t)
  add-branch tree x =
      beside (λ d is. (x.0, x.1, is)) (λ n. (x.0, x.1, n)) (λ i g. (x.0, x.1, g)) (λ i h. (x.0, x.1, h))
      (past-any Limit (λ c. refl) (past (Limit word.Rows) refl (ends (with_branch old.scene x.0 tree.branch))) x.2)

  add-tree : (text : List ℕ) (start : ℕ) → AddsTree old text E r s → Comes (Makes old (mean.Views (mean.Tree text start))) (AddsTree old text NoEnd r s) (λ i. AddsTree old text (F i) r s) (λ i. AddsTree old text (F i) q t)
  add-tree text start x =
      beside (λ d is. (x.0, is.0, x.1, is.1, is.2)) (λ n. (x.0, x.1, n)) (λ i g. (x.0, x.1, g)) (λ i h. (x.0, x.1, h))
      (past (Unknown x.0.place) refl (past-any Taken (λ c. refl) (add-branch x.0)) x.2)

  come-tree : (text : List ℕ) (start : ℕ) → TriedTree old text start E r s → Comes (Makes old (mean.Views (mean.Tree text start))) (TriedTree old text start NoEnd r s) (λ i. TriedTree old text start (F i) r s) (λ i. TriedTree old text start (F i) q t)
  come-tree text start = past (Outside start) refl (past (Kind kind.Tree) refl (add-tree text start))

  -- ---- numbers and lines

  come-far : (d : Scene) → UnlessFar old d (E d) r s → Comes (λ e. e ≡ d) (UnlessFar old d (NoEnd d) r s) (λ i. UnlessFar old d (F i d) r s) (λ i. UnlessFar old d (F i d) q t)
  come-far d =
      past (Limit word.Constant) refl (λ x.
      beside (λ e is. is) (λ n. (x.0, x.1, n)) (λ i g. (x.0, x.1, g)) (λ i h. (x.0, x.1, h)) (past (Limit word.Constant) refl (ends d) x.2))

  come-metric : (name : List ℕ) (value : Fraction) → TriedMetric old name value E r s → Comes (Makes old (mean.Update (mean.Metric name value))) (TriedMetric old name value NoEnd r s) (λ i. TriedMetric old name value (F i) r s) (λ i. TriedMetric old name value (F i) q t)
  come-metric name value =
      past (Taken name) refl (past (Limit word.Name) refl (past (Limit word.Metrics) refl (come-far (with_metric old.scene name value))))

  come-window : (width height : Fraction) → TriedWindow old width height E r s → Comes (Makes old (mean.Update (mean.Window width height))) (TriedWindow old width height NoEnd r s) (λ i. TriedWindow old width height (F i) r s) (λ i. TriedWindow old width height (F i) q t)
  come-window width height = past (Limit word.Rows) refl (past (Limit word.Constant) refl (ends (with_window old.scene width height)))

  add-line : (group : List ℕ) (Is : CompiledLine → Type 0) → AddsLine old group Is E r s
      → Comes (λ d. (c : CompiledLine) × Is c × (d ≡ with_line old.scene group c)) (AddsLine old group Is NoEnd r s) (λ i. AddsLine old group Is (F i) r s) (λ i. AddsLine old group Is (F i) q t)
  add-line group Is x =
      beside (λ d is. (x.0, x.1, is)) (λ n. (x.0, x.1, n)) (λ i g. (x.0, x.1, g)) (λ i h. (x.0, x.1, h)) (ends (with_line old.scene group x.0) x.2)

  come-line : (group : List ℕ) (count : ℕ) (May : CompileStop → Type 0) (Is : CompiledLine → Type 0) → TriedLine old group count May Is E r s
      → Comes (λ d. (c : CompiledLine) × Is c × (d ≡ with_line old.scene group c)) (TriedLine old group count May Is NoEnd r s) (λ i. TriedLine old group count May Is (F i) r s) (λ i. TriedLine old group count May Is (F i) q t)
  come-line group count May Is =
      past-any Unknown (λ c. refl) (past (Limit word.Name) refl (past (Limit word.Lines) refl (past-any Kind (λ c. refl) (past (Limit word.Rows) refl
      (past-any Limit (λ c. refl) (add-line group Is))))))

  -- ---- suggestions and sizes

  abbrev SuggestedDraft : ℕ → AttrWord → Fraction → ℕ → Option Suggestion → Scene → Type 0
  SuggestedDraft view attr value rank held d = (c : Fraction) × IsConstant (scale_of attr) (negated value) c × (d ≡ suggested_draft old view attr rank held c)

  suggests : (view : ℕ) (attr : AttrWord) (value : Fraction) (priority : Option Meant) (rank : ℕ) (held : Option Suggestion) → Suggests old view attr value priority rank held E r s
      → Comes (SuggestedDraft view attr value rank held) (Suggests old view attr value priority rank held NoEnd r s) (λ i. Suggests old view attr value priority rank held (F i) r s) (λ i. Suggests old view attr value priority rank held (F i) q t)
  suggests view attr value priority rank None =
      past (Limit word.Rows) refl (past (Limit word.Constant) refl (λ x.
      beside (λ d is. (x.0, x.1, is)) (λ n. (x.0, x.1, n)) (λ i g. (x.0, x.1, g)) (λ i h. (x.0, x.1, h)) (ends (with_suggestion old.scene (suggestion_at old view attr rank x.0)) x.2)))
  suggests view attr value priority rank (Some held) =
      past (Kind kind.Suggested) refl (past (Limit word.Constant) refl (λ x.
      beside (λ d is. (x.0, x.1, is)) (λ n. (x.0, x.1, n)) (λ i g. (x.0, x.1, g)) (λ i h. (x.0, x.1, h)) (past (Limit word.Constant) refl (ends (with_suggested old.scene view attr x.0)) x.2)))

  suggests-for : (name : List ℕ) (attr : AttrWord) (value : Fraction) (priority : Option Meant) → SuggestsFor old name attr value priority E r s
      → Comes (Makes old (mean.Update (mean.Suggest name attr value priority))) (SuggestsFor old name attr value priority NoEnd r s) (λ i. SuggestsFor old name attr value priority (F i) r s) (λ i. SuggestsFor old name attr value priority (F i) q t)
  suggests-for name attr value priority x =
      beside (λ d is. (x.0, x.2, is.0, x.1, x.3, is.1, is.2)) (λ n. (x.0, x.1, x.2, x.3, n)) (λ i g. (x.0, x.1, x.2, x.3, g)) (λ i h. (x.0, x.1, x.2, x.3, h))
      (suggests x.0.id attr value priority x.2 (suggestion_of x.0.id attr old.scene.held) x.4)

  come-suggest : (name : List ℕ) (attr : AttrWord) (value : Fraction) (priority : Option Meant) → TriedSuggest old name attr value priority E r s
      → Comes (Makes old (mean.Update (mean.Suggest name attr value priority))) (TriedSuggest old name attr value priority NoEnd r s) (λ i. TriedSuggest old name attr value priority (F i) r s) (λ i. TriedSuggest old name attr value priority (F i) q t)
  come-suggest name attr value priority =
      past (Unknown name) refl (past-any Unknown (λ c. refl) (past (Kind kind.Priority) refl (suggests-for name attr value priority)))

  sizes : (view : ℕ) (width height : Fraction) (hug resist : Option Meant) (hugs resists : ℕ) (held : Option IntrinsicSize) → Sizes old view width height hug resist hugs resists held E r s
      → Comes (λ d. d ≡ sized_draft old view width height hugs resists held) (Sizes old view width height hug resist hugs resists held NoEnd r s) (λ i. Sizes old view width height hug resist hugs resists held (F i) r s) (λ i. Sizes old view width height hug resist hugs resists held (F i) q t)
  sizes view width height hug resist hugs resists None =
      past (Limit word.Rows) refl (ends (with_intrinsic old.scene (intrinsic_at old.scene.next_row view width height hugs resists)))
  sizes view width height hug resist hugs resists (Some held) =
      past (Kind kind.Sized) refl (past (Limit word.Constant) refl (ends (with_preferred old.scene view width height)))

  sizes-for : (name : List ℕ) (width height : Fraction) (hug resist : Option Meant) → SizesFor old name width height hug resist E r s
      → Comes (Makes old (mean.Update (mean.Size name width height hug resist))) (SizesFor old name width height hug resist NoEnd r s) (λ i. SizesFor old name width height hug resist (F i) r s) (λ i. SizesFor old name width height hug resist (F i) q t)
  sizes-for name width height hug resist x =
      beside (λ d is. (x.0, x.2, x.3, x.1, x.4, x.5, is)) (λ n. (x.0, x.1, x.2, x.3, x.4, x.5, n)) (λ i g. (x.0, x.1, x.2, x.3, x.4, x.5, g)) (λ i h. (x.0, x.1, x.2, x.3, x.4, x.5, h))
      (sizes x.0.id width height hug resist x.2 x.3 (intrinsic_of x.0.id old.scene.held) x.6)

  come-size : (name : List ℕ) (width height : Fraction) (hug resist : Option Meant) → TriedSize old name width height hug resist E r s
      → Comes (Makes old (mean.Update (mean.Size name width height hug resist))) (TriedSize old name width height hug resist NoEnd r s) (λ i. TriedSize old name width height hug resist (F i) r s) (λ i. TriedSize old name width height hug resist (F i) q t)
  come-size name width height hug resist =
      past (Unknown name) refl (past-any Unknown (λ c. refl) (past-any Unknown (λ c. refl) (past (Kind kind.Priority) refl (sizes-for name width height hug resist))))

  -- ---- what leaves

  drops : (name : List ℕ) → DropsView old name E r s → Comes (Makes old (mean.Leave (mean.Drop name))) (DropsView old name NoEnd r s) (λ i. DropsView old name (F i) r s) (λ i. DropsView old name (F i) q t)
  drops name x =
      beside (λ d is. (x.0, x.1, x.2, x.3, is)) (λ n. (x.0, x.1, x.2, x.3, n)) (λ i g. (x.0, x.1, x.2, x.3, g)) (λ i h. (x.0, x.1, x.2, x.3, h)) (ends (without_views old.scene x.1) x.4)

  come-drop : (name : List ℕ) → TriedDrop old name E r s → Comes (Makes old (mean.Leave (mean.Drop name))) (TriedDrop old name NoEnd r s) (λ i. TriedDrop old name (F i) r s) (λ i. TriedDrop old name (F i) q t)
  come-drop name = past (Unknown name) refl (past (Kind kind.Window) refl (drops name))

  come-remove : (group : List ℕ) → TriedRemove old group E r s → Comes (Makes old (mean.Leave (mean.Remove group))) (TriedRemove old group NoEnd r s) (λ i. TriedRemove old group (F i) r s) (λ i. TriedRemove old group (F i) q t)
  come-remove group = past (Unknown group) refl (ends (without_group old.scene group))

  releases : (name : List ℕ) (attr : AttrWord) → ReleasesOf old name attr E r s → Comes (Makes old (mean.Leave (mean.Release name attr))) (ReleasesOf old name attr NoEnd r s) (λ i. ReleasesOf old name attr (F i) r s) (λ i. ReleasesOf old name attr (F i) q t)
  releases name attr x =
      beside (λ d is. (x.0, x.1, is)) (λ n. (x.0, x.1, n)) (λ i g. (x.0, x.1, g)) (λ i h. (x.0, x.1, h)) (past (Unknown (suggestion_name name attr)) refl (ends (without_suggestion old.scene x.0.id attr)) x.2)

  come-release : (name : List ℕ) (attr : AttrWord) → TriedRelease old name attr E r s → Comes (Makes old (mean.Leave (mean.Release name attr))) (TriedRelease old name attr NoEnd r s) (λ i. TriedRelease old name attr (F i) r s) (λ i. TriedRelease old name attr (F i) q t)
  come-release name attr = past (Unknown name) refl (releases name attr)

  unsizes : (name : List ℕ) → UnsizesOf old name E r s → Comes (Makes old (mean.Leave (mean.Unsize name))) (UnsizesOf old name NoEnd r s) (λ i. UnsizesOf old name (F i) r s) (λ i. UnsizesOf old name (F i) q t)
  unsizes name x =
      beside (λ d is. (x.0, x.1, is)) (λ n. (x.0, x.1, n)) (λ i g. (x.0, x.1, g)) (λ i h. (x.0, x.1, h)) (past (Unknown (intrinsic_name name)) refl (ends (without_intrinsic old.scene x.0.id)) x.2)

  come-unsize : (name : List ℕ) → TriedUnsize old name E r s → Comes (Makes old (mean.Leave (mean.Unsize name))) (TriedUnsize old name NoEnd r s) (λ i. TriedUnsize old name (F i) r s) (λ i. TriedUnsize old name (F i) q t)
  come-unsize name = past (Unknown name) refl (unsizes name)

  -- ---- views that are kept

  keeps : (name : List ℕ) → KeepsOf old name E r s → Comes (Makes old (mean.Keep name)) (KeepsOf old name NoEnd r s) (λ i. KeepsOf old name (F i) r s) (λ i. KeepsOf old name (F i) q t)
  keeps name x =
      beside (λ d is. (x.0, x.1, is)) (λ n. (x.0, x.1, n)) (λ i g. (x.0, x.1, g)) (λ i h. (x.0, x.1, h)) (ends (with_kept old.scene x.0.id) x.2)

  come-keep : (name : List ℕ) → TriedKeep old name E r s → Comes (Makes old (mean.Keep name)) (TriedKeep old name NoEnd r s) (λ i. TriedKeep old name (F i) r s) (λ i. TriedKeep old name (F i) q t)
  come-keep name = past (Unknown name) refl (keeps name)

  -- ---- and each change

  pub comes : (c : Change) → Tried old c E r s → Comes (Makes old c) (Tried old c NoEnd r s) (λ i. Tried old c (F i) r s) (λ i. Tried old c (F i) q t)
  comes (mean.Views (mean.View name parent)) h = come-view name parent h
  comes (mean.Views (mean.Tree text start)) h = come-tree text start h
  comes (mean.Update (mean.Metric name value)) h = come-metric name value h
  comes (mean.Update (mean.Window width height)) h = come-window width height h
  comes (mean.Update (mean.Constrain group line)) h =
      come-line group 1 (MayStop old.scene.tree.views old.scene.metrics (line_in old.scene.direction line) old.scene.next_row)
      (IsCompiled old.scene.tree.views old.scene.metrics (line_in old.scene.direction line) old.scene.next_row) h
  comes (mean.Update (mean.Vfl group align format)) h =
      come-line group (row_count old.scene.tree.views (parts format align old.scene.direction))
      (MayStopFormat old.scene.tree.views old.scene.metrics format align old.scene.direction old.scene.next_row)
      (IsCompiledFormat old.scene.tree.views old.scene.metrics format align old.scene.direction old.scene.next_row) h
  comes (mean.Update (mean.Suggest name attr value priority)) h = come-suggest name attr value priority h
  comes (mean.Update (mean.Size name width height hug resist)) h = come-size name width height hug resist h
  comes (mean.Leave (mean.Drop name)) h = come-drop name h
  comes (mean.Leave (mean.Remove group)) h = come-remove group h
  comes (mean.Leave (mean.Release name attr)) h = come-release name attr h
  comes (mean.Leave (mean.Unsize name)) h = come-unsize name h
  comes (mean.Turn to) h = ends (with_direction old.scene to) h
  comes (mean.Keep name) h = come-keep name h
