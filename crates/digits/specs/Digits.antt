-- Characters of an Intel HEX file: digits, the bytes and numbers that they make, and blanks.
-- Assumes nothing.
use Rattle.std.specs.Prelude.{Bool, ◌&&◌, ◌||◌, List, [], ◌∷◌, ℕ, zero, suc, ◌+◌, ◌-◌, ◌*◌, leb, ltb, eqb, get_or, drop}
use Rattle.answer.specs.Checks.{pick}
use Rattle.words.specs.Runs.{part}

-- the value of a digit, 0 to 9, A to F and a to f: "letters of either case"; 16 for any other character
unfoldable pub digit_of : ℕ → ℕ
digit_of c =
    pick (leb 48 c && leb c 57) (c - 48)
    (pick (leb 65 c && leb c 70) (c - 55)
    (pick (leb 97 c && leb c 102) (c - 87) 16))

abbrev pub is_digit : ℕ → Bool
is_digit c = ltb (digit_of c) 16

-- the byte in the two digits at an offset, the high digit first
unfoldable pub byte_at : List ℕ → ℕ → ℕ
byte_at file at = 16 * digit_of (get_or file at 0) + digit_of (get_or file (at + 1) 0)

-- the word in the two bytes at an offset, the high byte first
unfoldable pub word_at : List ℕ → ℕ → ℕ
word_at file at = 256 * byte_at file at + byte_at file (at + 2)

-- the sum of the n bytes from an offset on
unfoldable pub sum_at : List ℕ → ℕ → ℕ → ℕ
sum_at file at zero = 0
sum_at file at (suc n) = sum_at file at n + byte_at file (at + 2 * n)

-- "CR, LF, space and tab"
abbrev pub is_blank : ℕ → Bool
is_blank c = eqb c 13 || eqb c 10 || eqb c 32 || eqb c 9

-- how many characters at the front of a list pass a test
unfoldable pub leading : (ℕ → Bool) → List ℕ → ℕ
leading test [] = 0
leading test (c ∷ cs) = pick (test c) (suc (leading test cs)) 0

-- where the blanks from an offset on end
unfoldable pub past_blanks : List ℕ → ℕ → ℕ
past_blanks file at = at + leading is_blank (drop at file)

-- where the digits end, of n characters from an offset on: behind all of them, or at the first that is no digit, or at the file's end
unfoldable pub past_digits : List ℕ → ℕ → ℕ → ℕ
past_digits file at n = at + leading is_digit (part file at n)
