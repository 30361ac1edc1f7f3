-- What the contracts of `pieces` cite beside the events of `events`, in the order in which to read it; then the words for where pieces and
-- fields lie, in which the theorems about loads and moves are stated.
pub mod Pieces
pub mod AtBases
pub mod Places
