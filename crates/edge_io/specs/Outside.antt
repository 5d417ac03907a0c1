-- What a source and a sink show from before to after: what was taken and written, how often a source was
-- pulled, and how often each has failed.
use Rattle.std.specs.Prelude.{◌≡◌, ◌⊎◌, ℕ, ◌+◌, ◌≤◌, List, length, take, Option}
use Rattle.std.specs.Io.KnownBytes.{Appends}

-- some first bytes of the text were appended
abbrev pub HasFront : Option (List ℕ) → Option (List ℕ) → List ℕ → Type 0
HasFront before now text = (n : ℕ) × (n ≤ length text) × Appends before now (take n text)

-- ---- how often what is outside is called, and fails

-- how often a source was pulled, how often it failed, and how often a sink did
pub record Counts : Type 0 where
  pub pulls : ℕ
  pub reads_failed : ℕ
  pub writes_failed : ℕ

-- the counts of a source and a sink, by what tells them
abbrev pub counts : {A B : Type 0} → (A → ℕ) → (A → ℕ) → (B → ℕ) → A × B → Counts
counts pulls reads_failed writes_failed at = record {
  pulls = pulls at.0;
  reads_failed = reads_failed at.0;
  writes_failed = writes_failed at.1;
}

-- There were so many pulls more at the most. No pull failed, unless this is said; and no put, unless that is.
pub record IsCounted (most : ℕ) (ReadFails WriteFails : Type 0) (old new : Counts) : Type 0 where
  pub few : new.pulls ≤ old.pulls + most
  pub reads : ReadFails ⊎ (new.reads_failed ≡ old.reads_failed)
  pub writes : WriteFails ⊎ (new.writes_failed ≡ old.writes_failed)

-- ---- what was taken and written

-- what a source has left and a sink holds, and how often each has failed
pub record Outside : Type 0 where
  pub left : Option (List ℕ)
  pub reads_failed : ℕ
  pub held : Option (List ℕ)
  pub writes_failed : ℕ

-- what is outside, of these parts
abbrev pub outside : Option (List ℕ) → ℕ → Option (List ℕ) → ℕ → Outside
outside left reads_failed held writes_failed = record {
  left = left;
  reads_failed = reads_failed;
  held = held;
  writes_failed = writes_failed;
}

-- This holds from what was outside before to what is: from one source and sink to others, by what tells of a
-- source and of a sink what it has left or holds, and how often it has failed.
abbrev pub LeadsOutside : {A B : Type 0} → (A → Option (List ℕ)) → (A → ℕ) → (B → Option (List ℕ)) → (B → ℕ)
    → (old new : A × B) → (Outside → Outside → Type 0) → Type 0
LeadsOutside left reads_failed held writes_failed old new Leads =
    Leads (outside (left old.0) (reads_failed old.0) (held old.1) (writes_failed old.1))
    (outside (left new.0) (reads_failed new.0) (held new.1) (writes_failed new.1))
