-- The rows that were added so far, and those that are left, make the router's.
use Rattle.std.proofs.Common.{◌≡◌, drop}
use Rattle.desk_http.specs.Endpoints.{all_endpoints, router_rows, rows_with}
use Rattle.desk_http.proofs.routes.Routes.build.Given as goal

abbrev pub invariant-loop-endpoint : goal.invariant-loop-endpoint
invariant-loop-endpoint l = record {
  rows : l.endpoint-items ≡ all_endpoints;
  added : rows_with l.router (drop l.endpoint-index l.endpoint-items) ≡ router_rows;
}
