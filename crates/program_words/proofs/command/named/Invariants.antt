use Rattle.std.proofs.Common.{◌≡◌, ◌∷◌, map, codes, string_bytes, take}
use Rattle.program_words.proofs.command.named.Given as goal

abbrev pub invariant-loop-word : goal.invariant-loop-word
invariant-loop-word l = map (λ s. s.now) l.all.items ≡ codes "layout" ∷ map string_bytes (take l.word-index l.words)
