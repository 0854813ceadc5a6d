-- Duties to inform: Article 33(1) of Regulation (EC) 1907/2006.
use Rattle.std.specs.Prelude.{ℕ, ◌&&◌, List, filter, map}
use Rattle.std.specs.List.{flat_map}
use Rattle.desk_text.specs.Day.{Date, is_not_after}
use Rattle.desk_findings.specs.Above.{is_above}
use Rattle.desk_findings.specs.Articles.{articles_in}
use Rattle.desk_model.specs.Lists.{Lists}

-- a duty to inform of a substance in an article
pub record Duty : Type 0 where
  pub article : List ℕ
  pub substance : List ℕ

-- the substances of which one has to inform for an article on the day: those above that were included by then
abbrev pub duties_for : Lists → Date → List ℕ → List Duty
duties_for t day article =
    map (λ candidate. record { article = article; substance = candidate.substance })
    (filter (λ candidate. is_above t article candidate.substance && is_not_after candidate.day day) t.candidates)

-- the duties of a part on a day, in order of article and then of substance
unfoldable pub duties : Lists → List ℕ → Date → List Duty
duties t part day = flat_map (λ article. duties_for t day article.code) (articles_in t part)
