use Rattle.std.proofs.Common.{◌∷◌, ◌∙◌, [], ap, sym}
use Rattle.std.specs.Prelude.{if◌then◌else◌}
use Rattle.std.specs.List.{flat_map}
use Rattle.desk_text.specs.Code.{same_code}
use Rattle.desk_model.specs.declared.rows.line.LineRow.{LineRow}
use Rattle.desk_tables.proofs.Taken.{take_whole}
use Rattle.desk_scratch.proofs.FlatMaps.{kept_each}
use Rattle.desk_scratch.proofs.bill.Bill.users.Goals as goal

pub returns : goal.returns
returns c =
    let test = λ (line : LineRow). same_code line.child c.args.code.now in
    c.loop-line.invariant.lines
    ∙ ap (flat_map (λ line. if test line then line ∷ [] else [])) (take_whole _ c.loop-line.line-index c.loop-line-test.false ∙ c.loop-line.invariant.same)
    ∙ sym (kept_each test c.args.self.now.lines)
