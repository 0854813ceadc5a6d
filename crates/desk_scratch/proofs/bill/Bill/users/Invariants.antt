-- The lines so far are the users among the first lines.
use Rattle.std.proofs.Common.{◌≡◌, ◌∷◌, [], take}
use Rattle.std.specs.Prelude.{if◌then◌else◌}
use Rattle.std.specs.List.{flat_map}
use Rattle.desk_text.specs.Code.{same_code}
use Rattle.desk_scratch.proofs.bill.Bill.users.Given as goal

abbrev pub invariant-loop-line : goal.invariant-loop-line
invariant-loop-line l = record {
  same : l.line-items ≡ l.self.lines;
  lines : l.lines.items ≡ flat_map (λ line. if same_code line.child l.code then line ∷ [] else []) (take l.line-index l.line-items);
}
