use Rattle.std.proofs.Common.{◌≡◌, ◌∙◌, sym, inl, inr}
use Rattle.desk_edge.specs.Content.{Content, IsSame}
use Rattle.desk_model.specs.Lists.{Lists}
use Rattle.desk_history.specs.Sound.{Sound}
use Rattle.desk_records.specs.Records.{tables_content}
use Rattle.desk_records.proofs.InForm.{all_in_form}
use Rattle.desk_records.proofs.GatheredTables.{form_of}
use Rattle.desk_records.proofs.OneDesk.{one_desk}
use Rattle.desk_clerk.specs.Opening.{IsOpenedAs}
use Rattle.desk_clerk.proofs.laws.stores_tell_one_desk.Goals as goal

-- sound tables that keep the same records are the same tables
same_tables : (t u : Lists) → Sound t → Sound u → IsSame (tables_content t) (tables_content u) → t ≡ u
same_tables t u ts us same =
    one_desk t u ts.consistent.ordered us.consistent.ordered (form_of t (all_in_form t ts)) (form_of u (all_in_form u us)) same

opened_same : (content : Content) (t u : Lists) → Sound t → Sound u → IsOpenedAs content t → IsOpenedAs content u → t ≡ u
opened_same content t u ts us (inl p) (inl q) = p.1 ∙ sym q.1
opened_same content t u ts us (inl p) (inr q) = absurd (q.0 p.0)
opened_same content t u ts us (inr p) (inl q) = absurd (p.0 q.0)
opened_same content t u ts us (inr p) (inr q) = same_tables t u ts us (λ key. sym (q.1 key) ∙ p.1 key)

pub returns : goal.returns
returns c = record { records = same_tables; opened = opened_same }
