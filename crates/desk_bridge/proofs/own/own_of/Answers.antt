use Rattle.std.proofs.Common.{sym}
use Rattle.desk_bridge.proofs.OwnRight.{material_own}
use Rattle.desk_bridge.proofs.OwnRows.{few_substances, if_ok}
use Rattle.desk_bridge.proofs.own.own_of.Goals as goal

pub own_of_material-requires : goal.own_of_material-requires
own_of_material-requires c = few_substances c.args.lists.now c.requires.consistent c.args.code.now c.in-Some.row.now (sym c.in-Some.ensures)

pub returns-in-Some-clause-own : goal.returns-in-Some-clause-own
returns-in-Some-clause-own c =
    if_ok _ _ c.own_of_material.result c.own_of_material.ensures
    (λ own is labels place.
    material_own c.args.lists.now c.requires.consistent c.args.names.now labels c.args.code.now c.args.node place c.in-Some.row.now (sym c.in-Some.ensures) own is)
