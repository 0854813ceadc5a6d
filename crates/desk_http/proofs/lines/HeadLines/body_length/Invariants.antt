use Rattle.std.proofs.Common.{◌≡◌, ◌++◌, drop, map}
use Rattle.std.specs.Prelude.{codes}
use Rattle.std.specs.Option.{option_copied, option_to_list}
use Rattle.httparse.specs.Spans.{header_bytes}
use Rattle.desk_http.specs.Lines.{line_values}
use Rattle.desk_http.proofs.lines.HeadLines.body_length.Given as goal

-- the value so far, if there is one, and those to come are all of them
abbrev pub invariant-loop-line : goal.invariant-loop-line
invariant-loop-line l =
    option_to_list (option_copied l.stated)
    ++ line_values (codes "content-length") (map (header_bytes l.self-inside.front.now) (drop l.line-index l.self-inside.spans.now))
    ≡ line_values (codes "content-length") l.self
