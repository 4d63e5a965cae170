-- Numbers on the command line: decimal digits without sign or leading zero.
use Rattle.std.specs.Char.{is_ascii_digit}
use Rattle.std.specs.Prelude.{ℕ, ◌+◌, ◌-◌, ◌*◌, ◌==◌, nat_le, if◌then◌else◌, List, [], ◌∷◌, Option, Some, None}

-- the number whose digits follow those of another
abbrev pub digits_after : ℕ → List ℕ → Option ℕ
digits_after n [] = Some n
digits_after n (c ∷ cs) = if is_ascii_digit c then digits_after (n * 10 + (c - 48)) cs else None

-- the number that a word denotes
abbrev pub number_of : List ℕ → Option ℕ
number_of [] = None
number_of (c ∷ []) = digits_after 0 (c ∷ [])
number_of (c ∷ cs) = if c == 48 then None else digits_after 0 (c ∷ cs)

-- no number above a limit
abbrev pub limited : ℕ → Option ℕ → Option ℕ
limited limit None = None
limited limit (Some n) = if nat_le n limit then Some n else None

-- no number below a least one
abbrev pub at_least : ℕ → Option ℕ → Option ℕ
at_least least None = None
at_least least (Some n) = if nat_le least n then Some n else None

-- the number that a word denotes, if it is in a range
abbrev pub number_within : ℕ → ℕ → List ℕ → Option ℕ
number_within least most word = at_least least (limited most (number_of word))
