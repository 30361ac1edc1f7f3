-- One block carried out, over plain values: its name in the room for new names.
-- Assumes nothing.
use mathlib.Core.List.{List}
use mathlib.Core.Path.{◌≡◌, refl, ap, ◌∙◌}
use Prim.Native.Nat.{ℕ, ◌+◌, ◌-◌, ◌*◌, ◌≤◌}
use borrow.Rule.Slice.PartMut.{put_mid}
use lib.ListN.{length, set}
use Rattle.std.proofs.Common.{Result, Ok, Err}
use Rattle.answer.specs.declared.Failure.{Failure}
use Rattle.blocks.specs.declared.Block.{Block}
use Rattle.blocks.specs.declared.Block.TheVariants.{Plain, Relocatable, Update, NewName}
use Rattle.words.proofs.Lent.{back_is}
use Rattle.words.proofs.Runs.{length_part}
use Rattle.words.specs.Runs.{part, put}
use Rattle.effects.specs.Parts.{NameStored}

-- a block that brings no name, or what is no block, changes no room
pub stored_none : (file : List ℕ) (found : Result Block Failure) (named : ℕ) (ns ads : List ℕ)
    → ((from address : ℕ) → found ≡ Ok (NewName from address) → ⊥)
    → NameStored file found named ns ads ns ads
unfolding put
stored_none file (Ok (Plain address from size)) named ns ads other = record { names = refl; addresses = refl }
stored_none file (Ok (Relocatable reserves number offset from size)) named ns ads other = record { names = refl; addresses = refl }
stored_none file (Ok (Update source from)) named ns ads other = record { names = refl; addresses = refl }
stored_none file (Ok (NewName from address)) named ns ads other = absurd (other from address refl)
stored_none file (Err e) named ns ads other = record { names = refl; addresses = refl }

-- a new name stands behind those before it, and so does its address
pub stored_name : (file : List ℕ) (found : Result Block Failure) (named from address : ℕ) (ns ads w : List ℕ) → found ≡ Ok (NewName from address)
    → 8 * named + 8 ≤ length ns → from + 8 ≤ length file → w ≡ part file from 8
    → NameStored file found named ns ads (put_mid (8 * named) (8 * named + 8 - 8 * named) ns w) (set ads named address)
unfolding put
stored_name file found named from address ns ads w e room inside is =
    let size : length w ≡ 8 = ap length is ∙ length_part file from 8 inside in
    rw e
    (record {
      names = back_is (8 * named) 8 ns w room size ∙ ap (λ (l : List ℕ). put ns (8 * named) l) is;
      addresses = refl;
    })
