use Rattle.std.proofs.Common.{◌≡◌, ℕ, zero, suc, ◌+◌, ◌-◌, ◌<◌, arith, refl, subst}
use Rattle.std.specs.Prelude.{slice_index_or}
use Rattle.desk_law.specs.declared.kind.Kind.TheVariants.{LargeHousehold, Telecommunications}
use Rattle.desk_model.specs.declared.edit.Edit.TheVariants.{Product}
use Rattle.desk_sample.specs.Codes.{assembly_code}
use Rattle.desk_sample.specs.Sample.{kinds, product}
use Rattle.desk_sample.specs.Ticketed.{HasGained}
use Rattle.desk_sample.proofs.Gained.{gained_next, gained_none}
use Rattle.desk_sample.proofs.sampling.push_products.Goals as goal

pub products-init : goal.products-init
products-init c = (gained_none _, omega arith)

kind_at : (n : ℕ) → n < 5 → slice_index_or kinds n LargeHousehold ≡ slice_index_or kinds n Telecommunications
kind_at zero few = refl
kind_at (suc zero) few = refl
kind_at (suc (suc zero)) few = refl
kind_at (suc (suc (suc zero))) few = refl
kind_at (suc (suc (suc (suc zero)))) few = refl
kind_at (suc (suc (suc (suc (suc n))))) few = absurd (omega arith)

before : (n : ℕ) → n ≡ n + 1 - 1
before n = omega arith

pub products-preserved : goal.products-preserved
products-preserved c =
    let n = c.products.number in
    let old = c.products.edits.items in
    let new = c.push_product.new.edits.items in
    let coded = subst (λ code. HasGained (λ t. Product t code (slice_index_or kinds n LargeHousehold)) old new) c.numbered.ensures c.in_ok-push_product.ensures in
    let few : n < 5 = omega (arith, c.products-test.true, c.requires) in
    let sorted = subst (λ kind. HasGained (λ t. Product t (assembly_code (n + 1)) kind) old new) (kind_at n few) coded in
    let next = subst (λ place. HasGained (λ t. Product t (assembly_code (n + 1)) (slice_index_or kinds place Telecommunications)) old new) (before n) sorted in
    (gained_next n product _ _ _ c.products.invariant.0 next, omega (arith, c.products-test.true))
