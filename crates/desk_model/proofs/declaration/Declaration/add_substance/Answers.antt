use Rattle.std.proofs.Common.{ap, is_ok, subst, sym}
use Rattle.std.proofs.lemmas.Result.{err_from_is_err_and}
use Rattle.desk_text.specs.Code.{code_cmp}
use Rattle.desk_rows.specs.Rows.{IsByKey}
use Rattle.desk_model.specs.contracts.declaration.Declaration.{the_view}
use Rattle.desk_model.specs.Declaring.{substance_added}
use Rattle.desk_model.proofs.Changing.{err_answer, error_answer, found, ok_answer, orphan_answer}
use Rattle.desk_model.proofs.Declaring.{parts}
use Rattle.desk_model.proofs.InForm.{declared, found_in_form, kept_in_form, substance_in_form}
use Rattle.desk_model.proofs.Substances.{by_substance, good_with_substance, one_substance, substances}
use Rattle.desk_model.proofs.declaration.Declaration.add_substance.Goals as goal

pub place_of-requires : goal.place_of-requires
place_of-requires c = subst (IsByKey (λ material. material.code) code_cmp) (sym c.as_slice.ensures.value) (parts (the_view c.self.inside) (declared (the_view c.self.inside) c.self.invariant)).by_key

pub returns-in_err-at-clause-error : goal.returns-in_err-at-clause-error
unfolding substance_added
returns-in_err-at-clause-error c =
    let p = err_from_is_err_and c.from_residual.result c.from_residual.ensures.1 in
    rw (p.1, p.2, c.in_err-at.ensures.0)
    (λ _. orphan_answer substances (one_substance (record { substance = c.args.substance; mass = c.args.mass })) (the_view c.self.inside) c.args.self.now c.self.view_is c.args.material.now c.as_slice.result.now c.as_slice.ensures.value c.in_err-at.ensures.1)

pub enter-requires : goal.enter-requires
enter-requires c =
    let f = found (the_view c.self.inside) c.args.material.now c.in_ok-at.at c.index_mut-material.result.now c.as_slice.result.now (declared (the_view c.self.inside) c.self.invariant) c.as_slice.ensures.value c.in_ok-at.ensures c.index_mut-material.ensures.value in
    by_substance c.index_mut-material.result.now f.good

pub invariant_of-self : goal.invariant_of-self
invariant_of-self c =
    let m = c.index_mut-material.result.now in
    let f = found (the_view c.self.inside) c.args.material.now c.in_ok-at.at c.index_mut-material.result.now c.as_slice.result.now (declared (the_view c.self.inside) c.self.invariant) c.as_slice.ensures.value c.in_ok-at.ensures c.index_mut-material.ensures.value in
    kept_in_form substances (one_substance (record { substance = c.args.substance; mass = c.args.mass })) (the_view c.self.inside) c.args.material.now c.in_ok-at.at m c.enter.new.self c.enter.result c.self.invariant f
    (good_with_substance m _ c.enter.new.self f.good c.requires)
    (substance_in_form m _ c.enter.new.self f.good (found_in_form (the_view c.self.inside) c.args.material.now c.in_ok-at.at m c.self.invariant f) (ap is_ok c.as_bytes.ensures.form))
    c.enter.ensures.ok c.enter.ensures.err

pub returns-clause-ok : goal.returns-clause-ok
unfolding substance_added
returns-clause-ok c =
    let m = c.index_mut-material.result.now in
    ok_answer substances (one_substance (record { substance = c.args.substance; mass = c.args.mass })) (the_view c.self.inside) c.args.self.now c.self.view_is c.args.material.now c.in_ok-at.at m (found (the_view c.self.inside) c.args.material.now c.in_ok-at.at c.index_mut-material.result.now c.as_slice.result.now (declared (the_view c.self.inside) c.self.invariant) c.as_slice.ensures.value c.in_ok-at.ensures c.index_mut-material.ensures.value) c.enter.new.self c.enter.result c.enter.ensures.ok

pub returns-clause-error : goal.returns-clause-error
unfolding substance_added
returns-clause-error c =
    let m = c.index_mut-material.result.now in
    error_answer substances (one_substance (record { substance = c.args.substance; mass = c.args.mass })) (the_view c.self.inside) c.args.self.now c.self.view_is c.args.material.now c.in_ok-at.at m (found (the_view c.self.inside) c.args.material.now c.in_ok-at.at c.index_mut-material.result.now c.as_slice.result.now (declared (the_view c.self.inside) c.self.invariant) c.as_slice.ensures.value c.in_ok-at.ensures c.index_mut-material.ensures.value) c.enter.new.self c.enter.result c.enter.ensures.error

pub returns-clause-err : goal.returns-clause-err
returns-clause-err c =
    let m = c.index_mut-material.result.now in
    err_answer substances (one_substance (record { substance = c.args.substance; mass = c.args.mass })) (the_view c.self.inside) c.args.self.now c.self.view_is c.args.material.now c.in_ok-at.at m (found (the_view c.self.inside) c.args.material.now c.in_ok-at.at c.index_mut-material.result.now c.as_slice.result.now (declared (the_view c.self.inside) c.self.invariant) c.as_slice.ensures.value c.in_ok-at.ensures c.index_mut-material.ensures.value) c.enter.new.self c.enter.result c.enter.ensures.err
