use Rattle.std.proofs.Common.{◌≡◌, None, Some, true, is_eq, ap, sym, ◌∙◌}
use Rattle.std.specs.Option.{option_map_or}
use Rattle.std.proofs.lemmas.Cmp.{nat_list_cmp_total}
use Rattle.desk_edge.specs.Shelves.{name_cmp}
use Rattle.desk_edge.specs.Stores.{content_of}
use Rattle.desk_edge.proofs.Lending.{found_in_front, itself, other_in_front, other_name}
use Rattle.desk_rows.specs.Rows.{row_of}
use Rattle.desk_rows.proofs.Lookups.{row_of-without_row_other}
use Rattle.desk_edge.proofs.map_shelf.MapShelfShelf.close_store.Goals as goal

found : (c : goal.After-put_store) → row_of (λ store. store.0) name_cmp c.args.name.now c.put_store.new.stores.items ≡ Some (c.take-own.result, c.args.store)
found c =
    let name = c.args.name.now in
    let own = c.take-own.result in
    let has : is_eq (name_cmp own name) ≡ true = ap (λ n. is_eq (name_cmp n name)) c.take-own.ensures.taken ∙ itself name in
    ap (row_of (λ store. store.0) name_cmp name) c.put_store.ensures.stores ∙ found_in_front name own c.args.store c.drop_store.new.stores.items has

pub returns-clause-count : goal.returns-clause-count
returns-clause-count c = ap (λ store. option_map_or (λ store. store.1.faults) store 0) (found c)

pub returns-clause-kept : goal.returns-clause-kept
returns-clause-kept c told = (tt, λ key. ap (λ store. option_map_or (λ store. content_of store.1 key) store None) (found c))

pub returns-clause-others : goal.returns-clause-others
returns-clause-others c other differ told =
    let name = c.args.name.now in
    let own = c.take-own.result in
    let apart = other_name name other (λ e. differ (sym e)) in
    let own_apart = ap (λ n. is_eq (name_cmp n other)) c.take-own.ensures.taken ∙ apart in
    let same =
    ap (row_of (λ store. store.0) name_cmp other) c.put_store.ensures.stores ∙ other_in_front other own c.args.store c.drop_store.new.stores.items own_apart
    ∙ ap (row_of (λ store. store.0) name_cmp other) c.drop_store.ensures.rest
    ∙ row_of-without_row_other (λ store. store.0) name_cmp nat_list_cmp_total name other c.self.inside.stores.items apart
    ∙ ap (λ s. row_of (λ store. store.0) name_cmp other s.stores) c.self.view_is in
    (tt, λ key. ap (λ store. option_map_or (λ store. content_of store.1 key) store None) same)
