-- The handle at a block, and its parts, own what a box of a session owns.
use mathlib.Core.List.{[]}
use mathlib.Core.Path.{◌≡◌, refl}
use Prim.Native.Nat.{ℕ}
use mathlib.Core.List.{List, ◌∷◌}
use seplogic.Ra.Ura.{Ura}
use mir.Syntax.{impl, tnil, dnil}
use mir.Raw.{raw as bare}
use mir.Val.{Val, vstruct, vcons, vnil}
use Rattle.std.specs.declared.option.Option.{Option}
use Rattle.std.specs.declared.option.Option.TheVariants.{None, Some}
use base.Fraction.{full_share}
use base.Fml.{Fml}
use base.Logic.{ent, guard, via, fst∗, snd∗, guard_i, never}
use contract.Monad.{fact_use}
use types.Logic.{Logic, sem}
use types.Kit.{Item, Goal, Seq, ‵, given, ◌$◌, use1, learn, feq_l}
use denote.Memory.{lone}
use denote.RattleType.{RattleType}
use denote.RawPtr.{Ptr, block_ptr, null_ptr, lies_at, Testable, in_a_block}
use denote.Signature.{Slot, plain}
use Rattle.std.specs.Box.Ownership.{box_owns}
use Rattle.std.specs.Global.{Global}
use Rattle.std.proofs.GlobalToken.{dealloc_token-Testable}
use Rattle.std_alloc.proofs.BoxSteps.Form.{Bx}
use Rattle.std_heap.specs.contracts.Global as Heap
use Rattle.std_heap.specs.contracts.GlobalAllocator.TheImpl.{ghosts, dict}
use Rattle.std_heap.proofs.Global.TheLaws as heap
use Rattle.layout_cli.specs.contracts.responder.Responder as Desk
use Rattle.layout_cli.proofs.responder.Responder.TheLaws as desk
use Rattle.layout_c.specs.Held.{Session, owned_at}
use Rattle.layout_c.specs.contracts.held.parts.Parts as Parts
use Rattle.layout_c.specs.contracts.held.Held as Held

abbrev pub E : Bx
E = record { row = Desk.the_row; laws = desk.the_row_laws; al = record { row = Heap.the_row; laws = heap.the_row_laws; g = ghosts; d = dict; drops = impl [] tnil dnil } }

abbrev pub Taken : RattleType
Taken = Parts.the_row Desk.the_row Heap.the_row ghosts

abbrev pub FromParts : Slot 0
FromParts = plain (λ _. Taken)

abbrev pub FromAlloc : Slot 0
FromAlloc = plain (λ _. Heap.the_row)

abbrev pub FromHeld : Slot 0
FromHeld = plain (λ _. Held.the_row)

-- the machine's word for a pointer beside an allocator
abbrev pub both : Val → Val → Val
both v w = vstruct (vcons v (vcons w vnil))

-- a session's block, whose pointer may be compared with null
abbrev pub boxed : Global → Ptr → Session → Fml
boxed a p x = box_owns (ghosts.dealloc_token a) Desk.the_row p x

module _ {M : Type 1} {𝓤 : Ura M} (𝓛 : Logic 𝓤) (a : Global) where
  pub tested : (p : Ptr) (x : Session) → ent 𝓤 (sem 𝓛 (boxed a p x)) (guard 𝓤 (Testable p) (sem 𝓛 (boxed a p x)))
  tested p x = let B = sem 𝓛 (boxed a p x) in fact_use 𝓤 (Testable p)
      (via 𝓤 _ (snd∗ 𝓤 (sem 𝓛 (lies_at Desk.the_row full_share p x)) (sem 𝓛 (ghosts.dealloc_token a (bare (lone Desk.the_row.mir)) p)))
      (dealloc_token-Testable 𝓛 a (bare (lone Desk.the_row.mir)) p)) (guard_i 𝓤 (Testable p) B)

module _ {M : Type 1} {𝓤 : Ura M} {𝓛 : Logic 𝓤} {K : Type 0} {Γ : List (Item 𝓤)} {G : Goal 𝓤 𝓛.H} (a : Global) where
  pub either_held : K → (p : Ptr) (m : Option Session) → (p ≡ null_ptr → m ≡ None → Seq K 𝓛 Γ G)
      → ((b o : ℕ) (x : Session) → p ≡ block_ptr b o → m ≡ Some x → Testable (block_ptr b o) → Seq K 𝓛 (‵ (boxed a (block_ptr b o) x) ∷ Γ) G)
      → Seq K 𝓛 (‵ (owned_at a p m) ∷ Γ) G
  either_held t p None none one = feq_l t (λ is. none is refl)
  either_held t p (Some x) none one = in_a_block t p (λ q. boxed a q x) (fst∗ 𝓤 (never 𝓤) (sem 𝓛 (ghosts.dealloc_token a (bare (lone Desk.the_row.mir)) null_ptr)))
      (λ b o e. use1 𝓛 (given (Testable (block_ptr b o)) (‵ (boxed a (block_ptr b o) x))) (tested 𝓛 a (block_ptr b o) x) $ learn t (λ u. one b o x e refl u))
