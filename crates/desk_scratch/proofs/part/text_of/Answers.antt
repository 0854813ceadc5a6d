-- The lines one after another.
use Rattle.std.proofs.Common.{◌≡◌, ◌∙◌, ap, refl, sym, subst}
use Rattle.std.specs.List.{flat_map}
use Rattle.desk_text.specs.Code.{code_cmp}
use Rattle.desk_rows.specs.Runs.{IsOneRun}
use Rattle.desk_findings.specs.Reaches.{lines_of}
use Rattle.desk_findings.proofs.Groups.{lines_together}
use Rattle.desk_scratch.specs.LookUps.{load_line, load_of}
use Rattle.desk_scratch.specs.Part.{carried_by_part, carried_line, part_line, part_text}
use Rattle.desk_scratch.proofs.FlatMaps.{of_map}
use Rattle.desk_scratch.proofs.part.text_of.Goals as goal

pub returns : goal.returns
unfolding part_text part_line carried_line load_line
returns c =
    let t = c.args.tables.now.lists in
    let code = c.args.part.now.code in
    let lines = c.run_of.ensures (lines_of t.lines code)
    (subst (λ rows. IsOneRun (λ line. line.parent) code_cmp code rows (lines_of t.lines code)) (sym c.lines.ensures) (lines_together t c.requires.sound.consistent.ordered code)) in
    let loads : flat_map load_line c.args.loads.now ≡ flat_map (carried_line t code) (carried_by_part t code) =
    ap (flat_map load_line) c.requires.loads ∙ of_map load_line (load_of t code) (carried_by_part t code) in
    c.from.ensures ∙ rw c.into_bytes.ensures.value refl ∙ c.in_ok-push_carried_lines.ensures
    ∙ rw (loads, c.in_ok-push_child_lines.ensures, lines, c.in_ok-push_kind_line.ensures, c.product.ensures, c.in_ok-push_name_line.ensures, c.in_ok-push_part_line.ensures, c.requires.mass, c.in_ok-push_version_line.ensures, c.into_string-text.ensures) refl
