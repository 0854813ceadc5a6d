use Rattle.std.specs.Prelude.{⊤}
use Rattle.std.specs.Fmt.{digits}
use Rattle.desk_http.specs.Reply.{phrase_of, status_line, body_lines, reply, fixed_reply}

-- what an answer unfolds to compute the bytes of a reply on literals
unfoldable pub replies_on_literals : ⊤
unfolding phrase_of status_line body_lines reply fixed_reply digits
replies_on_literals = tt
