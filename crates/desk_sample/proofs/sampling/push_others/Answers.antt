use Rattle.std.proofs.Common.{◌≡◌, ◌∙◌, ◌++◌, ap, subst, min}
use Rattle.desk_sample.specs.Sample.{article, assemblies, assembly, candidates, each_to, product, products, shipment}
use Rattle.desk_sample.specs.Ticketed.{HasGainedAll}
use Rattle.desk_sample.proofs.Gained.{gained_more}
use Rattle.desk_sample.proofs.sampling.push_others.Goals as goal

pub returns : goal.returns
returns c =
    let n = c.args.n in
    let start = c.args.edits.now.items in
    let articled = c.push_articles.new.edits.items in
    let assembled = c.push_assemblies.new.edits.items in
    let produced = c.push_products.new.edits.items in
    let listed = c.push_candidates.new.edits.items in
    let shipped = c.push_shipments.new.edits.items in
    let count : c.div_ceil-assemblies.result ≡ assemblies n = c.div_ceil-assemblies.ensures in
    let some : c.min-products.result ≡ products n = c.min-products.ensures ∙ ap (λ a. min a 5) count in
    let of_assemblies = subst (λ k. HasGainedAll (each_to k (assembly n)) articled assembled) count c.in_ok-push_assemblies.ensures in
    let of_products = subst (λ k. HasGainedAll (each_to k product) assembled produced) some c.in_ok-push_products.ensures in
    let of_shipments = subst (λ k. HasGainedAll (each_to k shipment) listed shipped) some c.in_ok-push_shipments.ensures in
    let from_candidates = gained_more candidates (each_to (products n) shipment) produced listed shipped c.in_ok-push_candidates.ensures of_shipments in
    let from_products = gained_more (each_to (products n) product) (candidates ++ each_to (products n) shipment) assembled produced shipped of_products from_candidates in
    let from_assemblies =
    gained_more (each_to (assemblies n) (assembly n)) (each_to (products n) product ++ (candidates ++ each_to (products n) shipment)) articled assembled shipped of_assemblies from_products in
    gained_more (each_to n (article n)) _ start articled shipped c.in_ok-push_articles.ensures from_assemblies
