-- What a block is refused with where it is carried out: not 1, 2 or 3, and in the file, or at its end (`answer`, proofs/Faults.antt).
-- Assumes nothing.
use mathlib.Core.Bool.{true, false}
use mathlib.Core.List.{List}
use Prim.Native.Nat.{ℕ}
use lib.ListN.{length}
use Rattle.std.proofs.Common.{Result, Ok, Err}
use Rattle.answer.specs.declared.Failure.{Failure}
use Rattle.blocks.proofs.Lying.{BlockFaults}
use Rattle.blocks.specs.declared.Block.{Block}
use Rattle.blocks.specs.declared.Block.TheVariants.{Plain, Relocatable, Update, NewName}
use Rattle.blocks.specs.declared.Cursor.{Cursor}
use Rattle.updates.proofs.Faults.{Stops, body_faults}
use Rattle.effects.specs.Effects.{applied}

pub applied_faults : (file lent own : List ℕ) (c : Cursor) (found : Result Block Failure) (map : List ℕ) → BlockFaults (length file) found
    → Stops (length file) (applied file lent own c found map).answer
applied_faults file lent own c (Ok (Plain address from size)) map h = record { faults = tt }
applied_faults file lent own c (Ok (Relocatable true number offset from size)) map h = record { faults = tt }
applied_faults file lent own c (Ok (Relocatable false number offset from size)) map h = record { faults = tt }
applied_faults file lent own c (Ok (Update source from)) map h = body_faults file c.table _ from map
applied_faults file lent own c (Ok (NewName from address)) map h = record { faults = tt }
applied_faults file lent own c (Err e) map h = record { faults = h }
