-- The names that the code has for the rows of the table of routes, and the rows that its router holds.
use Rattle.std.specs.Prelude.{ℕ, List, [], ◌∷◌, get_or}
use Rattle.matchit.specs.Order.{placed}
use Rattle.matchit.specs.Router.{RouteOf}
use Rattle.matchit.specs.Rows.{RowsOf}
use Rattle.desk_http.specs.declared.ask.Ask.TheVariants as ask
use Rattle.desk_http.specs.declared.endpoint.Endpoint.{Endpoint}
use Rattle.desk_http.specs.declared.endpoint.Endpoint.TheVariants as endpoint
use Rattle.desk_http.specs.Routes.{RouteRow, asks, ends, get, routes}

-- the place of a row in the table
unfoldable pub row_place : Endpoint → ℕ
row_place endpoint.Material = 0
row_place endpoint.Rohs = 1
row_place endpoint.Article33 = 2
row_place endpoint.Article7 = 3
row_place endpoint.Part = 4
row_place endpoint.Uses = 5
row_place endpoint.Summary = 6
row_place endpoint.Version = 7
row_place endpoint.Edit = 8
row_place endpoint.Declare = 9

-- the row of the table
abbrev pub row_at : Endpoint → RouteRow
row_at e = get_or routes (row_place e) (get [] (ends (asks ask.Edit)))

-- the rows that the router holds of a row of the table: its word as it stands
abbrev pub literal_row : Endpoint → List ℕ × RouteOf Endpoint
literal_row e = ((row_at e).word, record { pattern = (row_at e).word; text = (row_at e).word; names = []; value = e })

-- the rows of a router into which these were put, one after another
abbrev pub rows_with : RowsOf (RouteOf Endpoint) → List Endpoint → RowsOf (RouteOf Endpoint)
rows_with rows [] = rows
rows_with rows (e ∷ more) = rows_with (placed (literal_row e) rows) more

-- every row of the table
abbrev pub all_endpoints : List Endpoint
all_endpoints =
    endpoint.Material ∷ endpoint.Rohs ∷ endpoint.Article33 ∷ endpoint.Article7 ∷ endpoint.Part ∷ endpoint.Uses ∷ endpoint.Summary
    ∷ endpoint.Version ∷ endpoint.Edit ∷ endpoint.Declare ∷ []

-- the rows of the router
abbrev pub router_rows : RowsOf (RouteOf Endpoint)
router_rows = rows_with [] all_endpoints
