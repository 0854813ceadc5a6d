-- Values of nodes, round by round: what a node has of its own, and what its lines add of their children's values. The bodies say it of
-- one another; no public call does.
use Rattle.std.specs.Prelude.{◌≡◌, ℕ, zero, suc, ◌+◌, List, [], ◌∷◌, length, map, if◌then◌else◌}
use Rattle.desk_text.specs.Code.{same_code}
use Rattle.desk_model.specs.declared.rows.line.LineRow.{LineRow}
use Rattle.desk_findings.specs.Reaches.{lines_of}
use Rattle.desk_totals.specs.Linked.{Linked}

-- the value of a code, by the values of the nodes in order; `none` is the value of what is no node
unfoldable pub value_of : {V : Type 0} → V → List (List ℕ) → List V → List ℕ → V
value_of none [] values code = none
value_of none (node ∷ nodes) [] code = none
value_of none (node ∷ nodes) (value ∷ values) code = if same_code node code then value else value_of none nodes values code

-- a value with what each of the lines adds of its child's: `add` says what a line of so many adds to a value
unfoldable pub with_lines : {V : Type 0} → (V → ℕ → V → V) → (List ℕ → V) → V → List LineRow → V
with_lines add child value [] = value
with_lines add child value (line ∷ lines) = with_lines add child (add value line.count (child line.child)) lines

module _ {V : Type 0} (add : V → ℕ → V → V) (none : V) (bill : Linked) (own : List V) where
  -- one round: of each node its own value, with what its lines add of the values that their children had
  unfoldable pub round : List V → List V
  round values =
      map (λ code. with_lines add (value_of none bill.nodes values) (value_of none bill.nodes own code) (lines_of bill.lines code)) bill.nodes

  -- so many rounds
  unfoldable pub rounds : ℕ → List V → List V
  rounds zero values = values
  rounds (suc k) values = round (rounds k values)

  -- the values come of two rounds more than there are nodes, whatever values these began with
  pub record IsSettled (values : List V) : Type 0 where
    pub first : List V
    pub size : length first ≡ length bill.nodes
    pub settled : values ≡ rounds (length bill.nodes + 2) first
