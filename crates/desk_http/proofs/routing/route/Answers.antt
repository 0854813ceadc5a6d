-- The path, the method and the query in turn.
use Rattle.std.proofs.Common.{◌≡◌, ◌∙◌, Err, sym, ap, is_some}
use Rattle.desk_http.specs.declared.http_fault.HttpFault.TheVariants.{WrongMethod}
use Rattle.desk_http.specs.Endpoints.{row_at}
use Rattle.desk_http.specs.Query.{pairs_of}
use Rattle.desk_http.specs.Routes.{asked_at, behind_word, path_of, path_word, query_of, route_row, same_method, taken_from_path}
use Rattle.desk_http.specs.Taken.{span_bytes}
use Rattle.desk_http.proofs.RangeLemmas.{answer_good}
use Rattle.desk_http.proofs.RouteLemmas.{not_taken, otherwise_taken, routed, unrouted}
use Rattle.desk_http.proofs.routing.route.Goals as goal

pub returns-in_default-clause-value : goal.returns-in_default-clause-value
returns-in_default-clause-value c = λ full.
    unrouted c.args.request.now.method _ (c.in_default.ensures ∙ ap route_row (c.split_path.ensures.word ∙ ap path_word (c.split_target.ensures.path ∙ ap path_of c.of.ensures)))

pub returns-then-takes-clause-value : goal.returns-then-takes-clause-value
returns-then-takes-clause-value c = λ full.
    let row = row_at c.in-Some.endpoint in
    let path = c.split_target.ensures.path ∙ ap path_of c.of.ensures in
    let found = c.in-Some.ensures ∙ ap route_row (c.split_path.ensures.word ∙ ap path_word path) in
    let other = sym (c.same_method.ensures ∙ ap (λ m. same_method m c.args.request.now.method) c.method-allow.ensures) ∙ c.if-same_method.false in
    let there = ap (λ behind. is_some (taken_from_path row.path behind)) (sym (c.split_path.ensures.behind ∙ ap behind_word path)) ∙ sym c.takes.ensures ∙ c.if-takes.true in
    ap (λ m. Err (WrongMethod m)) c.method-allow.ensures ∙ otherwise_taken c.args.request.now.method _ row found other there

pub returns-else-takes-clause-value : goal.returns-else-takes-clause-value
returns-else-takes-clause-value c = λ full.
    let row = row_at c.in-Some.endpoint in
    let path = c.split_target.ensures.path ∙ ap path_of c.of.ensures in
    let found = c.in-Some.ensures ∙ ap route_row (c.split_path.ensures.word ∙ ap path_word path) in
    let none = ap (λ behind. is_some (taken_from_path row.path behind)) (sym (c.split_path.ensures.behind ∙ ap behind_word path)) ∙ sym c.takes.ensures ∙ c.if-takes.false in
    not_taken c.args.request.now.method _ row found none

pub returns-then-same_method-clause-value : goal.returns-then-same_method-clause-value
returns-then-same_method-clause-value c = λ full.
    let row = row_at c.in-Some.endpoint in
    let path = c.split_target.ensures.path ∙ ap path_of c.of.ensures in
    let found = c.in-Some.ensures ∙ ap route_row (c.split_path.ensures.word ∙ ap path_word path) in
    let same = sym (c.same_method.ensures ∙ ap (λ m. same_method m c.args.request.now.method) c.method-allow.ensures) ∙ c.if-same_method.true in
    c.asked.ensures full ∙ ap (λ behind. asked_at row behind (pairs_of c.split_target.result.1.now)) (c.split_path.ensures.behind ∙ ap behind_word path)
    ∙ ap (λ query. asked_at row (behind_word (path_of (span_bytes c.args.buffer.now c.args.request.now.target))) (pairs_of query))
    (c.split_target.ensures.query ∙ ap query_of c.of.ensures)
    ∙ routed c.args.request.now.method _ row found same

pub returns-then-same_method-clause-range : goal.returns-then-same_method-clause-range
returns-then-same_method-clause-range c = answer_good c.args.request.now.method _ c.asked.result (returns-then-same_method-clause-value c)
