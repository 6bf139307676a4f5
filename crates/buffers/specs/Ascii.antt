-- Text in ASCII bytes.
use Rattle.std.specs.Prelude.{ℕ, ◌+◌, List, [], ◌∷◌}

abbrev pub digit : ℕ → ℕ
digit d = 48 + d

abbrev pub hyphen : ℕ
hyphen = 45

abbrev pub space : List ℕ
space = 32 ∷ []

abbrev pub newline : List ℕ
newline = 10 ∷ []
