use Rattle.std.proofs.Common.{◌≡◌, drop, map}
use Rattle.std.specs.List.{list_any}
use Rattle.httparse.specs.Spans.{header_bytes}
use Rattle.desk_http.specs.Lines.{is_named}
use Rattle.desk_http.proofs.lines.HeadLines.has.Given as goal

-- no line so far has the name
abbrev pub invariant-loop-line : goal.invariant-loop-line
invariant-loop-line l =
    list_any (is_named l.name) (map (header_bytes l.self-inside.front.now) (drop l.line-index l.self-inside.spans.now))
    ≡ list_any (is_named l.name) l.self
