use Rattle.std.proofs.Common.{◌≡◌, drop, map}
use Rattle.std.specs.Prelude.{codes}
use Rattle.std.specs.List.{list_any}
use Rattle.httparse.specs.Spans.{header_bytes}
use Rattle.desk_http.specs.Lines.{line_values, lists_close}
use Rattle.desk_http.proofs.lines.HeadLines.lists_close.Given as goal

-- no line so far lists close
abbrev pub invariant-loop-line : goal.invariant-loop-line
invariant-loop-line l =
    list_any lists_close (line_values (codes "connection") (map (header_bytes l.self-inside.front.now) (drop l.line-index l.self-inside.spans.now)))
    ≡ list_any lists_close (line_values (codes "connection") l.self)
