-- Own values of several nodes.
use Rattle.std.proofs.Common.{◌≡◌, ℕ, ◌+◌, ◌<◌, true, ◌==◌, List, [], ◌∷◌, ◌++◌, get_or, length, take, Result, Ok, Err, IfOk, refl, sym, ap, ◌∙◌, subst, inl, inr}
use Rattle.std.specs.List.{AllByRecursion}
use Rattle.std.proofs.lemmas.Bool.{cases_Bool, eqb-true, false≢true}
use Rattle.std.proofs.lemmas.List.{take_more}
use Rattle.desk_graph.specs.Graph.{label_of}
use Rattle.desk_graph.specs.Reaches.{has_node}
use Rattle.desk_rollup.specs.Plan.{nodes_of_owns}
use Rattle.desk_rollup.specs.Values.{OwnValues, own_with}
use Rattle.desk_model.specs.Lists.{Lists}
use Rattle.desk_bridge.specs.AfterEdit.{IsOwnOf}
use Rattle.desk_bridge.specs.Bridge.{place_of}
use Rattle.desk_bridge.specs.Numbers.{finding_number}
use Rattle.desk_bridge.specs.OwnAfter.{AreOwnAt}
use Rattle.desk_bridge.proofs.SeedSteps.{place_of_label}

-- what holds of an answer holds in other words
pub if_ok : {X E : Type 0} (P Q : X → Type 0) (r : Result X E) → IfOk r P → ((x : X) → P x → Q x) → IfOk r Q
if_ok P Q (Ok x) p f = f x p
if_ok P Q (Err e) p f = tt

-- own values that are found by their node
found_own : (t : Lists) (labels names : List (List ℕ)) (kept : List OwnValues) (node : ℕ) (owns : List OwnValues) → AllByRecursion (λ own. IsOwnOf t (finding_number labels names) (label_of names) (label_of labels own.node) own) owns → has_node (nodes_of_owns owns) node ≡ true →
    IsOwnOf t (finding_number labels names) (label_of names) (label_of labels node) (own_with owns kept node)
found_own t labels names kept node [] right has = absurd (false≢true has)
found_own t labels names kept node (own ∷ owns) right has =
    elim (cases_Bool (own.node == node)) [
      | inl here ↦ rw here (subst (λ n. IsOwnOf t (finding_number labels names) (label_of names) (label_of labels n) own) (eqb-true own.node node here) right.0)
      | inr away ↦ rw away (found_own t labels names kept node owns right.1 (rw away at has))
    ]

pub are_own_at : (t : Lists) (labels names : List (List ℕ)) (nodes : List ℕ) (owns : List OwnValues) → nodes_of_owns owns ≡ nodes →
    AllByRecursion (λ own. IsOwnOf t (finding_number labels names) (label_of names) (label_of labels own.node) own) owns → AreOwnAt t labels names nodes owns
are_own_at t labels names nodes owns these right = record {
  these = these;
  right = λ kept node has. found_own t labels names kept node owns right (subst (λ ns. has_node ns node ≡ true) (sym these) has);
}

-- one node more
each_push : {X : Type 0} (P : X → Type 0) (xs : List X) (x : X) → AllByRecursion P xs → P x → AllByRecursion P (xs ++ x ∷ [])
each_push P [] x a p = (p, tt)
each_push P (first ∷ xs) x a p = (a.0, each_push P xs x a.1 p)

pub pushed_right : (P : OwnValues → Type 0) (old new : List OwnValues) (own : OwnValues) → new ≡ old ++ own ∷ [] → AllByRecursion P old → P own → AllByRecursion P new
pushed_right P old new own e a p = subst (AllByRecursion P) (sym e) (each_push P old own a p)

nodes_push : (owns : List OwnValues) (own : OwnValues) → nodes_of_owns (owns ++ own ∷ []) ≡ nodes_of_owns owns ++ own.node ∷ []
nodes_push [] own = refl
nodes_push (first ∷ owns) own = ap (λ rest. first.node ∷ rest) (nodes_push owns own)

pub pushed_nodes : (nodes : List ℕ) (i d : ℕ) (old new : List OwnValues) (own : OwnValues) → i < length nodes → new ≡ old ++ own ∷ [] → nodes_of_owns old ≡ take i nodes → own.node ≡ get_or nodes i d → nodes_of_owns new ≡ take (i + 1) nodes
pushed_nodes nodes i d old new own h e before node =
    ap nodes_of_owns e ∙ nodes_push old own ∙ ap (λ ns. ns ++ own.node ∷ []) before ∙ ap (λ n. take i nodes ++ n ∷ []) node ∙ sym (take_more nodes i d h)

-- own values of a label are those of its node
pub own_right_at : (t : Lists) (labels names : List (List ℕ)) → ((a b : ℕ) → a < length labels → b < length labels → label_of labels a ≡ label_of labels b → a ≡ b) → (node : ℕ) → node < length labels → (code : List ℕ) → code ≡ label_of labels node →
    (own : OwnValues) → own.node ≡ node → ((ls : List (List ℕ)) → place_of ls code ≡ node → IsOwnOf t (finding_number ls names) (label_of names) code own) → IsOwnOf t (finding_number labels names) (label_of names) (label_of labels own.node) own
own_right_at t labels names unique node inside code is own own_node right =
    subst (λ c. IsOwnOf t (finding_number labels names) (label_of names) c own) (is ∙ ap (label_of labels) (sym own_node)) (right labels (ap (place_of labels) is ∙ place_of_label labels unique node inside))
