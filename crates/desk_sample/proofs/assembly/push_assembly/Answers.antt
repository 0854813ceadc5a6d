use Rattle.std.proofs.Common.{◌≡◌, ℕ, ◌/◌, Bool, true, List, [], ◌∷◌, ◌++◌, arith, subst, sym}
use Rattle.std.specs.Prelude.{nat_le, if◌then◌else◌, codes}
use Rattle.std.proofs.lemmas.Bool.Decides.{nat_tests}
use Rattle.desk_model.specs.declared.edit.Edit.{Edit}
use Rattle.desk_model.specs.declared.edit.Edit.TheVariants.{Line, Part}
use Rattle.desk_model.specs.declared.part_sort.PartSort.TheVariants.{Assembly}
use Rattle.desk_sample.specs.Codes.{assembly_code}
use Rattle.desk_sample.specs.Sample.{article_lines, assembly}
use Rattle.desk_sample.specs.Ticketed.{HasGained, HasGainedAll, Making}
use Rattle.desk_sample.proofs.Gained.{gained_more}
use Rattle.desk_sample.proofs.NameForms.{assembly_name}
use Rattle.desk_sample.proofs.assembly.push_assembly.Goals as goal

pub name-requires : goal.name-requires
name-requires c = assembly_name

-- an assembly, its lines to articles, and the line to the assembly of half its number
whole : (n j : ℕ) (old part lines new : List Edit) → nat_le 2 j ≡ true
    → HasGained (λ t. Part t (assembly_code j) Assembly (codes "Assembly")) old part
    → HasGainedAll (article_lines n j) part lines
    → HasGained (λ t. Line t (assembly_code j) (assembly_code (j / 2)) 2) lines new
    → HasGainedAll (assembly n j) old new
whole n j old part lines new two first more last =
    let tail : Bool → List Making = λ is. if is then (λ t. Line t (assembly_code j) (assembly_code (j / 2)) 2) ∷ [] else [] in
    let behind = subst (λ is. HasGainedAll (tail is) lines new) (sym two) last in
    gained_more ((λ t. Part t (assembly_code j) Assembly (codes "Assembly")) ∷ []) (article_lines n j ++ tail (nat_le 2 j)) old part new first
    (gained_more (article_lines n j) (tail (nat_le 2 j)) part lines new more behind)

pub returns-in_ok-push_line : goal.returns-in_ok-push_line
returns-in_ok-push_line c =
    let j = c.args.number in
    let old = c.args.edits.now.items in
    let part = c.push_part.new.edits.items in
    let lines = c.push_lines.new.edits.items in
    let new = c.push_line.new.edits.items in
    let two : nat_le 2 j ≡ true = grind (arith, nat_tests, c.if-number-ge2.true) in
    let named = subst (λ name. HasGained (λ t. Part t c.numbered-code.result Assembly name) old part) c.in_ok-name.ensures c.in_ok-push_part.ensures in
    let first = subst (λ code. HasGained (λ t. Part t code Assembly (codes "Assembly")) old part) c.numbered-code.ensures named in
    let child = subst (λ child. HasGained (λ t. Line t c.numbered-code.result child 2) lines new) c.numbered.ensures c.in_ok-push_line.ensures in
    let last = subst (λ code. HasGained (λ t. Line t code (assembly_code (j / 2)) 2) lines new) c.numbered-code.ensures child in
    whole c.args.n j old part lines new two first c.in_ok-push_lines.ensures last
