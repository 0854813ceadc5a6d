use Rattle.std.proofs.Common.{◌≡◌, None, subst, sym}
use Rattle.desk_edge.specs.Shelves.{name_cmp}
use Rattle.desk_edge.proofs.Lending.{nothing_taken}
use Rattle.desk_rows.specs.Rows.{row_of}
use Rattle.desk_edge.proofs.map_shelf.drop_store.Goals as goal

pub returns-in-None-clause-rest : goal.returns-in-None-clause-rest
returns-in-None-clause-rest c = sym (nothing_taken (λ store. store.0) c.args.name.now c.args.stores.now.items (subst (λ all. row_of (λ store. store.0) name_cmp c.args.name.now all ≡ None) c.as_slice.ensures.value c.in-None.ensures))
