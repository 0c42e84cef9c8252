-- What the C interface answers: a verdict as one number.
use Rattle.std.specs.Prelude.{ℕ, ◌+◌, ◌*◌}
use Rattle.status.specs.declared.Verdict.{Verdict}
use Rattle.status.specs.Verdict.{number_of, letter_of, place_of}

-- document 01's number in bits 0 to 7, the letter's byte of ASCII in bits 8 to 15, the place in bits 16 to 31
abbrev pub packed : Verdict → ℕ
packed v = number_of v + 256 * letter_of v + 65536 * place_of v
