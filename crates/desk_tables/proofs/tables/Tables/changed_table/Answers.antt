-- The lists with the changed table are the changed lists.
use Rattle.std.proofs.Common.{◌∙◌, ap, sym}
use Rattle.desk_text.specs.Code.{code_cmp}
use Rattle.desk_law.specs.Rule.{rule_number}
use Rattle.desk_rows.specs.Rows.{with_row, with_rows, without_row}
use Rattle.desk_model.specs.declared.rows.candidate.CandidateRow.{CandidateRow}
use Rattle.desk_model.specs.declared.rows.material.MaterialRow.{MaterialRow}
use Rattle.desk_model.specs.Lists.{member_key, member_key_cmp}
use Rattle.desk_tables.specs.Change.{with_change_made}
use Rattle.desk_tables.specs.Desk.{Desk}
use Rattle.desk_tables.proofs.tables.Tables.changed_table.Goals as goal

pub returns-in_ok-members-in-PutMember : goal.returns-in_ok-members-in-PutMember
unfolding with_change_made
returns-in_ok-members-in-PutMember c =
    let rows = c.in_ok-members-in-PutMember.ensures ∙ ap (λ (d : Desk). with_row member_key member_key_cmp c.in-PutMember.row d.lists.members) c.self.view_is in
    ap (λ rows. record c.args.self.now.lists { members = rows }) rows ∙ ap (with_change_made c.args.self.now.lists) (sym c.in-PutMember.is)

pub returns-in_ok-candidates-in-PutCandidate : goal.returns-in_ok-candidates-in-PutCandidate
unfolding with_change_made
returns-in_ok-candidates-in-PutCandidate c =
    let rows = c.in_ok-candidates-in-PutCandidate.ensures ∙ ap (λ (d : Desk). with_row (λ (row : CandidateRow). row.substance) code_cmp c.in-PutCandidate.row d.lists.candidates) c.self.view_is in
    ap (λ rows. record c.args.self.now.lists { candidates = rows }) rows ∙ ap (with_change_made c.args.self.now.lists) (sym c.in-PutCandidate.is)

pub returns-in_ok-members-in-DropMember : goal.returns-in_ok-members-in-DropMember
unfolding with_change_made
returns-in_ok-members-in-DropMember c =
    let rows =
    c.in_ok-members-in-DropMember.ensures
    ∙ ap (λ number. without_row member_key member_key_cmp (c.in-DropMember.substance, number) c.self.inside.tables.members.rows) c.number.ensures
    ∙ ap (λ (d : Desk). without_row member_key member_key_cmp (c.in-DropMember.substance, rule_number c.in-DropMember.rule) d.lists.members) c.self.view_is in
    ap (λ rows. record c.args.self.now.lists { members = rows }) rows ∙ ap (with_change_made c.args.self.now.lists) (sym c.in-DropMember.is)

pub returns-in_ok-materials-in-PutMaterials : goal.returns-in_ok-materials-in-PutMaterials
unfolding with_change_made
returns-in_ok-materials-in-PutMaterials c =
    let rows =
    c.in_ok-materials-in-PutMaterials.ensures
    ∙ ap (λ rows. with_rows (λ (row : MaterialRow). row.code) code_cmp rows c.args.self.now.lists.materials) c.as_slice.ensures in
    ap (λ rows. record c.args.self.now.lists { materials = rows }) rows ∙ ap (with_change_made c.args.self.now.lists) (sym c.in-PutMaterials.is)
