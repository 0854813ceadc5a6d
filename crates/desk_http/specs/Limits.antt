-- How much of a request the desk takes.
use Rattle.std.specs.Prelude.{ℕ}

-- the most bytes of a head, its last line end included
abbrev pub head_limit : ℕ
head_limit = 8192

-- the most header lines of a head
abbrev pub line_limit : ℕ
line_limit = 64

-- the most bytes of a body
abbrev pub body_limit : ℕ
body_limit = 65536
