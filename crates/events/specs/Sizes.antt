-- How much a bench lends (document 01, "Two files, one memory" and "What the bench lends").
-- Assumes nothing.
use Rattle.std.specs.Prelude.{ℕ}

-- "Program memory is a lent run of 65,536 bytes; addresses are 0 to 65,535"; "A map of 65,536 bytes"; "a scratch of 65,536 bytes"
abbrev pub memory_size : ℕ
memory_size = 65536

-- "The file, at most 65,536 bytes."
abbrev pub file_limit : ℕ
file_limit = 65536
