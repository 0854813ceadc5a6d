-- Laws of bills by themselves. Each is the contract of a function without a body in `src/laws.rt`, so that the check proves it.
use Rattle.std.specs.Prelude.{◌≡◌, ℕ, ◌+◌, true, List, count_by}
use Rattle.desk_model.specs.Lists.{IsOrdered, Lists, is_part}
use Rattle.desk_findings.specs.Bill.{IsBill, are_children_kept, are_codes_apart, are_parents_kept}
use Rattle.desk_findings.specs.Reaches.{is_or_reaches}
use Rattle.desk_totals.specs.Linked.{IsLinkedOf, IsLinked, Linked}
use Rattle.desk_totals.specs.Marks.{reach_count}

-- the bill of tables in order, with codes apart and lines between kept rows, is one that links can be made of
abbrev pub TablesAreLinked : Type 0
TablesAreLinked = (t : Lists) (bill : Linked) → IsLinkedOf bill t → IsOrdered t → are_codes_apart t ≡ true →
    are_parents_kept t ≡ true → are_children_kept t ≡ true → IsLinked bill

-- the parts that are a kept part or reach it are one more than those that reach it
abbrev pub PartsWithItself : Type 0
PartsWithItself = (t : Lists) → IsOrdered t → IsBill t → (code : List ℕ) → is_part t code ≡ true →
    count_by (λ part. is_or_reaches t part.code code) t.parts ≡ reach_count t code + 1
