-- The trial's output, in ASCII bytes.
use Rattle.std.specs.Prelude.{ℕ, ◌/◌, ◌%◌, List, [], ◌∷◌, ◌++◌, ltb}
use Rattle.limits.specs.Questions.{pick}
use Rattle.buffers.specs.Ascii.{digit, space, newline}

-- a number below 1000, without leading zeros
unfoldable pub decimal : ℕ → List ℕ
decimal n =
    pick (ltb n 10) (digit n ∷ [])
    (pick (ltb n 100) (digit (n / 10) ∷ digit (n % 10) ∷ [])
    (digit (n / 100) ∷ digit (n / 10 % 10) ∷ digit (n % 10) ∷ []))

-- "sent "
abbrev pub sent_word : List ℕ
sent_word = 115 ∷ 101 ∷ 110 ∷ 116 ∷ 32 ∷ []

-- " acknowledged "
abbrev pub acknowledged_word : List ℕ
acknowledged_word = 32 ∷ 97 ∷ 99 ∷ 107 ∷ 110 ∷ 111 ∷ 119 ∷ 108 ∷ 101 ∷ 100 ∷ 103 ∷ 101 ∷ 100 ∷ 32 ∷ []

-- " recorded "
abbrev pub recorded_word : List ℕ
recorded_word = 32 ∷ 114 ∷ 101 ∷ 99 ∷ 111 ∷ 114 ∷ 100 ∷ 101 ∷ 100 ∷ 32 ∷ []

-- "refused "
abbrev pub refused_word : List ℕ
refused_word = 114 ∷ 101 ∷ 102 ∷ 117 ∷ 115 ∷ 101 ∷ 100 ∷ 32 ∷ []

unfoldable pub event_line : ℕ → ℕ → ℕ → List ℕ
event_line kind argument answer = decimal kind ++ space ++ decimal argument ++ space ++ decimal answer ++ newline

-- A line for each event of two bytes, with its answer.
unfoldable pub event_lines : List ℕ → List ℕ → List ℕ
event_lines [] answers = []
event_lines (kind ∷ []) answers = []
event_lines (kind ∷ argument ∷ events) [] = []
event_lines (kind ∷ argument ∷ events) (answer ∷ answers) = event_line kind argument answer ++ event_lines events answers

unfoldable pub counts_line : ℕ → ℕ → ℕ → List ℕ
counts_line sent acknowledged recorded =
    sent_word ++ decimal sent ++ acknowledged_word ++ decimal acknowledged ++ recorded_word ++ decimal recorded ++ newline

unfoldable pub refused_line : ℕ → List ℕ
refused_line n = refused_word ++ decimal n ++ newline
