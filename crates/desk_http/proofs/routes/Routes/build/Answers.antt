-- One row more is in, and one fewer is left.
use Rattle.std.proofs.Common.{◌∙◌, ap, refl, drop, ◌+◌, arith}
use Rattle.desk_http.specs.Endpoints.{all_endpoints, rows_with}
use Rattle.desk_http.proofs.RouteLemmas.{row_added}
use Rattle.desk_http.proofs.routes.Routes.build.Goals as goal

pub loop-endpoint-preserved : goal.loop-endpoint-preserved
loop-endpoint-preserved c = record {
  rows = refl;
  added =
      ap (λ rows. rows_with rows (drop (c.loop-endpoint.endpoint-index + 1) all_endpoints)) c.in_ok-add.ensures
      ∙ row_added c.loop-endpoint.router all_endpoints c.loop-endpoint.endpoint-index _ (omega arith)
      ∙ c.loop-endpoint.invariant.added;
}
