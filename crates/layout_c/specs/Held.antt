-- What a handle owns: nothing at null, else a session in a block of its own.
use base.Fml.{Fml, feq}
use denote.RawPtr.{Ptr, null_ptr}
use Rattle.std.specs.Coded.{Coded, coded_option}
use Rattle.std.specs.declared.option.Option.{Option}
use Rattle.std.specs.declared.option.Option.TheVariants.{None, Some}
use Rattle.std.specs.Box.Ownership.{box_owns}
use Rattle.std.specs.Global.{Global}
use Rattle.std_heap.specs.contracts.GlobalAllocator.TheImpl.{ghosts}
use Rattle.layout_cli.specs.contracts.responder.Responder.{the_row}

abbrev pub Session : Type 0
Session = the_row.Denot

abbrev pub coded : Coded (Option Session)
coded = coded_option the_row.coded

abbrev pub owned_at : Global → Ptr → Option Session → Fml
owned_at alloc p None = feq Ptr p null_ptr
owned_at alloc p (Some x) = box_owns (ghosts.dealloc_token alloc) the_row p x
